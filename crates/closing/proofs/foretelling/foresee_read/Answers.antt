use Rattle.refusals.proofs.Passing.{passed}
use Rattle.closing.proofs.CloseLaws.{foretell-refused}
use Rattle.closing.proofs.foretelling.foresee_read.Goals as goal

pub returns-in_err-s : goal.returns-in_err-s
returns-in_err-s c =
    rw (passed c.from_residual.result c.from_residual.ensures.1)
    (λ axes mode job o mid r j. foretell-refused axes mode job o c.in_err-s.field-0.0 mid (rw c.in_err-s.was at r))

pub foresee_stage-requires : goal.foresee_stage-requires
foresee_stage-requires c = rw c.in_ok-s.was at c.requires

pub returns : goal.returns
returns c = λ axes mode job o mid r j. c.foresee_stage.ensures axes mode job o mid (rw c.in_ok-s.was at r) (rw c.in_ok-s.was at j)
