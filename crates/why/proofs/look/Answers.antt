use mathlib.Core.Path.{◌≡◌}
use native.Mathlib.Omega.{arith}
use borrow.Author.Rules.{rules}
use Rattle.job.proofs.FillLaws.{filled-part}
use lib.ListN.{length}
use Rattle.packer.proofs.PairLaws.{pairs-early, pairs-late}
use Rattle.looking.proofs.LookLaws.{looked-early, looked-late}
use Rattle.why.proofs.LookLaws.{looks}
use Rattle.why.proofs.look.Goals as goal

pub returns-in-Err : goal.returns-in-Err
returns-in-Err c =
    let a = c.args in
    let x = c.in-Err.field-0 in
    let e = c.in-Err.ensures.value in
    looks a.axes a.job.now a.work.now a.pairs.now a.first a.second _ _ _ (looked-early a.axes a.job.now a.work.now (length a.pairs.now) a.first a.second x e) (pairs-early a.axes 0 a.job.now (length a.work.now) a.pairs.now x e)

pub returns : goal.returns
returns c =
    let a = c.args in
    let e = c.in_default.ensures.value in
    let long : length c.look_records-reason.new.pairs ≡ length a.pairs.now = omega arith in
    looks a.axes a.job.now a.work.now a.pairs.now a.first a.second _ _ _ (looked-late a.axes a.job.now a.work.now (length a.pairs.now) a.first a.second e _ c.look_records-reason.ensures _ (search (rules, filled-part)))
    (pairs-late a.axes 0 a.job.now (length a.work.now) a.pairs.now e c.look_records-reason.new.pairs long _ c.clear_pairs.ensures)
