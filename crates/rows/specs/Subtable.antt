-- How many runs a group of n sets is cut into, each of which is one subtable: of 65,535 sets each but the last, which holds what is left. A group
-- of none is one run of none.
use Rattle.std.specs.Prelude.{ℕ, ◌+◌, ◌-◌, ◌/◌, eqb}
use Rattle.laws.specs.Pick.{pick}
use Rattle.shapes.specs.Group.{max_items}

unfoldable pub run_count_for : ℕ → ℕ
run_count_for n = pick (eqb n 0) 1 ((n + (max_items - 1)) / max_items)
