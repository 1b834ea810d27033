use borrow.Author.Rules.{rules}
use Rattle.job.proofs.FillLaws.{filled-part}
use Rattle.refusals.proofs.Passing.{passed}
use Rattle.closing.proofs.CloseLaws.{close-settle, close-early, close-late}
use Rattle.closing.proofs.closing.close.Goals as goal

pub returns-in_err-read : goal.returns-in_err-read
returns-in_err-read c =
    rw (passed c.from_residual.result c.from_residual.ensures.1)
    (λ axes mode old pairs mid p j. close-early c.args.work.now c.args.m old pairs mid p j c.in_err-read.field-0.0 c.in_err-read.was _)

pub close_read-answer-requires : goal.close_read-answer-requires
close_read-answer-requires c = close-settle c.args.opened c.in_ok-read.read c.in_ok-read.was c.requires

pub returns : goal.returns
returns c =
    λ axes mode old pairs mid p j. close-late c.args.work.now c.args.m old pairs mid p j c.in_ok-read.read c.in_ok-read.was _ _ _ (λ o. c.close_read-answer.ensures axes mode o mid) _ (search (rules, filled-part))
