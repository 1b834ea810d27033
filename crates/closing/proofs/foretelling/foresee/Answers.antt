use borrow.Author.Rules.{rules}
use Rattle.job.proofs.FillLaws.{filled-part}
use Rattle.refusals.proofs.Passing.{passed}
use Rattle.closing.proofs.CloseLaws.{foresee-settle, foresee-early, foresee-late}
use Rattle.closing.proofs.foretelling.foresee.Goals as goal

pub returns-in_err-read : goal.returns-in_err-read
returns-in_err-read c =
    rw (passed c.from_residual.result c.from_residual.ensures.1)
    (λ axes mode job old pairs mid p j. foresee-early c.args.work.now c.args.m old pairs mid p j c.in_err-read.field-0.0 c.in_err-read.was)

pub foresee_read-answer-requires : goal.foresee_read-answer-requires
foresee_read-answer-requires c = foresee-settle c.args.opened c.in_ok-read.read c.in_ok-read.was c.requires

pub returns : goal.returns
returns c =
    λ axes mode job old pairs mid p j. foresee-late c.args.work.now c.args.m old pairs mid p j c.in_ok-read.read c.in_ok-read.was _ (λ o. c.foresee_read-answer.ensures axes mode job o mid) _ (search (rules, filled-part))
