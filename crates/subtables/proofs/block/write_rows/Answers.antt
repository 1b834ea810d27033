use Prim.Native.Nat.{◌+◌}
use mathlib.Core.Path.{◌≡◌}
use Rattle.rows.proofs.PutLaws.{rows-done}
use Rattle.subtables.proofs.BlockLaws.{block_room, block_more}
use native.Mathlib.Omega.{arith}
use Rattle.subtables.proofs.block.write_rows.Goals as goal

pub invariant_of-write_block : goal.invariant_of-write_block
invariant_of-write_block c =
    let s = c.args.sets in
    let i = c.loop-i.i in
    record {
      within = omega (arith, s.within, c.block_end-j.ensures);
      stored = λ k h. (let e : s.list.ids + i + k ≡ s.list.ids + (i + k) = omega arith in rw e (s.stored (i + k) (omega (arith, c.block_end-j.ensures))));
    }

pub write_block-a-requires : goal.write_block-a-requires
write_block-a-requires c =
    let l = c.loop-i in
    let e = c.block_end-j.ensures in
    record { rows_in_bounds = block_room _ _ _ _ _ _ _ _ c.args.sets.within c.requires.rows_in_bounds _ _ _ l.invariant.1 _ (omega (arith, e)) e.1 }

pub loop-i-preserved : goal.loop-i-preserved
loop-i-preserved c =
    let l = c.loop-i in
    let e = c.block_end-j.ensures in
    (e.1, block_more _ _ _ _ _ _ _ _ c.args.sets.within c.requires.rows_in_bounds _ _ _ l.invariant.1 _ (omega (arith, e)) e.1 _ _ c.write_block-a.ensures)

pub returns : goal.returns
returns c = rows-done _ _ _ _ _ _ _ _ c.args.sets.within c.requires.rows_in_bounds _ _ _ c.loop-i.invariant.1 (omega arith)
