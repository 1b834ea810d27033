use Rattle.std.proofs.Common.{arith}
use Rattle.table.proofs.TableSteps.{inserted}
use Rattle.grouping.proofs.new_group.Goals as goal

pub returns : goal.returns
returns c = record {
  between = _;
  inserted = inserted c.args.t.order c.args.groups c.args.i c.args.groups c.args.work.now c.insert_at.new.words c.requires.most (omega (arith, c.requires.place)) (omega (arith, c.insert_at.auto.words)) c.insert_at.ensures;
  is = rw c.row_cost-cost.ensures;
}
