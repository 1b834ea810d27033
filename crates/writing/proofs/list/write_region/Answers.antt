use Prim.Native.Nat.{ℕ}
use mathlib.Core.List.{List}
use Rattle.laws.specs.LentRange.{seg}
use Rattle.laws.proofs.RangeLaws.{length-seg}
use Rattle.said.specs.Records.{axis_coordinates, coords_long}
use Rattle.store.specs.Lent.{coords_at}
use Rattle.store.proofs.GroupLaws.{part-seg, chain-start, chain-room, chain_more, chain-done}
use native.Mathlib.Omega.{arith}
use Rattle.writing.proofs.list.write_region.Goals as goal

abbrev piece : List ℕ → ℕ → ℕ → List ℕ
piece src from a = seg (axis_coordinates from a) coords_long src

pub loop-a-init : goal.loop-a-init
unfolding coords_at
loop-a-init c = chain-start (piece c.args.src.now c.args.from) _ _ _ c.requires.from_in_bounds

pub copy-p-requires : goal.copy-p-requires
unfolding coords_at
copy-p-requires c =
    let a = c.args in
    let i = c.requires.sourced.inside c.loop-a.a c.loop-a-test.true in
    rw (part-seg c.axis_coords-coords.result coords_long a.src.now, c.axis_coords-coords.ensures) (omega (arith, chain-room (piece a.src.now a.from) a.axes a.at a.out.now c.requires.from_in_bounds _ _ _ c.loop-a.invariant c.loop-a-test.true, length-seg (axis_coordinates a.from c.loop-a.a) coords_long a.src.now i))

pub loop-a-preserved : goal.loop-a-preserved
unfolding coords_at
loop-a-preserved c =
    let a = c.args in
    chain_more (piece a.src.now a.from) a.axes a.at a.out.now c.requires.from_in_bounds _ _ _ c.loop-a.invariant c.loop-a-test.true _ _ (rw (part-seg c.axis_coords-coords.result coords_long a.src.now, c.axis_coords-coords.ensures) at c.copy-p.ensures)

pub returns : goal.returns
unfolding coords_at
returns c =
    let a = c.args in
    chain-done (piece a.src.now a.from) a.axes a.at a.out.now c.requires.from_in_bounds _ _ _ c.loop-a.invariant (omega arith)
