use Rattle.std.proofs.Common.{◌≡◌, ℕ, ◌-◌, ◌<◌, get_or}
use Rattle.dealing.specs.LentHomes.{heir_place}
use Rattle.dealing.proofs.homes.find_homes.Given as goal

abbrev pub invariant-loop-i : goal.invariant-loop-i
invariant-loop-i l = (j : ℕ) → j < l.i → get_or l.home (get_or l.from j 0) 0 ≡ get_or l.spot (heir_place l.into l.place j - 1) 0
