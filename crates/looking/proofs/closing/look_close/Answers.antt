use borrow.Author.Rules.{rules}
use Rattle.job.proofs.FillLaws.{filled-part}
use Rattle.looking.proofs.LookLaws.{look-settle, look-early, look-late}
use Rattle.looking.proofs.closing.look_close.Goals as goal

pub returns-in_default : goal.returns-in_default
returns-in_default c = λ axes job old pairs mid p j. look-early c.args.work.now c.args.m old pairs mid p j _ _ c.in_default.field-0 c.in_default.is

pub look_read-reason-requires : goal.look_read-reason-requires
look_read-reason-requires c = look-settle c.args.opened c.in-Ok.read c.in-Ok.is c.requires

pub returns : goal.returns
returns c =
    λ axes job old pairs mid p j. look-late c.args.work.now c.args.m old pairs mid p j _ _ c.in-Ok.read c.in-Ok.is _ (λ o. c.look_read-reason.ensures axes job o mid) _ (search (rules, filled-part))
