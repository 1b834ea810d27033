use mathlib.Core.List.{List}
use Prim.Native.Nat.{ℕ, ◌+◌, ◌*◌}
use Rattle.store.specs.Lent.{final_at, group_sizes, sizes_at}
use Rattle.store.proofs.SizeLaws.{tot-start, tot-more, tot-done}
use native.Mathlib.Omega.{arith}
use Rattle.planning.proofs.size.size_groups.Goals as goal

abbrev piece : List ℕ → ℕ → ℕ → ℕ → List ℕ
piece work regions groups g = group_sizes (final_at regions work (groups + 3 * g))

pub loop-g-init : goal.loop-g-init
loop-g-init c = let a = c.args in (omega arith, omega arith, tot-start (piece a.work.now a.t.regions a.t.groups) a.t.count)

pub loop-g-preserved : goal.loop-g-preserved
loop-g-preserved c =
    let a = c.args in
    let l = c.loop-g in
    let s = c.size_group-s.ensures in
    (omega (arith, s.bytes_bound, l.invariant.0), omega (arith, s.bytes_bound, l.invariant.1), tot-more (piece a.work.now a.t.regions a.t.groups) a.t.count _ _ _ _ _ l.invariant.2 c.loop-g-test.true s.summed)

pub returns : goal.returns
unfolding sizes_at
returns c =
    let a = c.args in
    let l = c.loop-g in
    record { summed = tot-done (piece a.work.now a.t.regions a.t.groups) a.t.count _ _ _ l.invariant.2 (omega arith); bytes_bound = (omega (arith, l.invariant.0, l.invariant.2.within, c.requires.count_le_max_shapes), omega (arith, l.invariant.1, l.invariant.2.within, c.requires.count_le_max_shapes)) }
