use Rattle.values.proofs.UseLaws.{entry-put}
use Rattle.values.proofs.tables.put_entry.Goals as goal

pub returns : goal.returns
returns c = entry-put c.args.start c.args.count c.args.k c.args.v c.args.work.now c.requires
