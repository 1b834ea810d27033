use Rattle.looking.proofs.LookLaws.{look-refused}
use Rattle.looking.proofs.closing.look_read.Goals as goal

pub returns-in_default : goal.returns-in_default
returns-in_default c = λ axes job o mid r j. look-refused axes job o c.in_default.field-0 mid _ _ (rw c.in_default.is at r)

pub look_stage-requires : goal.look_stage-requires
look_stage-requires c = rw c.in-Ok.is at c.requires

pub returns : goal.returns
returns c = λ axes job o mid r j. c.look_stage.ensures axes job o mid (rw c.in-Ok.is at r) (rw c.in-Ok.is at j)
