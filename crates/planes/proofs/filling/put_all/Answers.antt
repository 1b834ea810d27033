use Rattle.planes.proofs.FillLaws.{filling-start, read-cost, filling_skip, filling-put, filling-done}
use native.Mathlib.Omega.{arith}
use Rattle.planes.proofs.filling.put_all.Goals as goal
use Rattle.planes.proofs.filling.put_all.Goals.{then-cost-ne0, else-cost-ne0}

pub loop-r-init : goal.loop-r-init
loop-r-init c = filling-start _ _ _ _ _ c.requires.fill_fit c.requires.by_index

pub put-requires : goal.put-requires
put-requires c =
    let f = c.requires.fill_fit in
    let v = c.loop-r.invariant in
    record { words_in_bounds = omega (arith, f.planes-in, v.only.long); region_bound = omega (arith, f.room, c.loop-r-test.true); cost = read-cost _ _ _ _ _ f _ _ v c.loop-r-test.true }

pub returns : goal.returns
returns c = filling-done _ _ _ _ _ c.requires.fill_fit _ _ c.loop-r.invariant (omega arith)

pub loop-r-preserved : goal.loop-r-preserved
loop-r-preserved c = elim c.if-cost-ne0.branch [
  | then-cost-ne0 w ↦ rw w.work-is (filling-put _ _ _ _ _ c.requires.fill_fit _ _ c.loop-r.invariant c.loop-r-test.true _ w.put.ensures)
  | else-cost-ne0 w ↦ rw w.work-is (filling_skip _ _ _ _ _ c.requires.fill_fit _ _ c.loop-r.invariant c.loop-r-test.true w.if-cost-ne0.false)
]
