use Rattle.refusals.proofs.Passing.{passed}
use Rattle.closing.proofs.CloseLaws.{settle-refused}
use Rattle.closing.proofs.closing.close_read.Goals as goal

pub returns-in_err-s : goal.returns-in_err-s
returns-in_err-s c =
    let a = c.args in
    rw (passed c.from_residual.result c.from_residual.ensures.1)
    (λ axes mode o mid r j. settle-refused a.profile axes mode a.job.now o c.in_err-s.field-0.0 mid (rw c.in_err-s.was at r) _)

pub close_stage-requires : goal.close_stage-requires
close_stage-requires c = rw c.in_ok-s.was at c.requires

pub returns : goal.returns
returns c = λ axes mode o mid r j. c.close_stage.ensures axes mode o mid (rw c.in_ok-s.was at r) (rw c.in_ok-s.was at j)
