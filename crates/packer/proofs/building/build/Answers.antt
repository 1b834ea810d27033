use mathlib.Core.Path.{◌≡◌}
use native.Mathlib.Omega.{arith}
use borrow.Author.Rules.{rules}
use Rattle.job.proofs.FillLaws.{filled-part}
use lib.ListN.{length}
use Rattle.refusals.proofs.Passing.{passed}
use Rattle.closing.proofs.CloseLaws.{closed-early, closed-late}
use Rattle.packer.proofs.BuildLaws.{obeys}
use Rattle.packer.proofs.PairLaws.{pairs-early, pairs-late}
use Rattle.packer.proofs.building.build.Goals as goal

pub returns-in_err-check_early : goal.returns-in_err-check_early
returns-in_err-check_early c =
    let a = c.args in
    let x = c.in_err-check_early.field-0.0 in
    let e = c.in_err-check_early.ensures.value in
    rw (passed c.from_residual.result c.from_residual.ensures.1)
    (obeys a.profile a.axes a.mode a.job.now a.work.now a.pairs.now _ _ _ _ _ (closed-early a.axes a.mode a.job.now a.work.now (length a.pairs.now) x e a.profile _) (pairs-early a.axes a.mode a.job.now (length a.work.now) a.pairs.now x e))

pub returns : goal.returns
returns c =
    let a = c.args in
    let e = c.in_ok-check_early.ensures.value in
    let long : length c.build_records-answer.new.pairs ≡ length a.pairs.now = omega arith in
    obeys a.profile a.axes a.mode a.job.now a.work.now a.pairs.now _ _ _ _ _ (closed-late a.axes a.mode a.job.now a.work.now (length a.pairs.now) e _ (search (rules, filled-part)) a.profile _ _ _ c.build_records-answer.ensures)
    (pairs-late a.axes a.mode a.job.now (length a.work.now) a.pairs.now e c.build_records-answer.new.pairs long _ c.clear_pairs.ensures)
