use Rattle.shapes.proofs.ShapeLaws.{join-self}
use borrow.Author.Rules.{rules}
use Rattle.shapes.proofs.shape.RowShape.of.Goals as goal

pub joined-requires : goal.joined-requires
joined-requires c = record { narrow = search rules; narrow_2 = search rules; a_len = search rules }

pub returns : goal.returns
returns c = rw (join-self _) at c.joined.ensures
