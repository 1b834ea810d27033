use native.Mathlib.Omega.{arith}
use Rattle.reader.proofs.StoreLaws.{header-fits}
use Rattle.stores.proofs.WholeLaws.{whole_is}
use Rattle.keeping.proofs.ThereLaws.{far-word, null_word, some_word, head_in}
use Rattle.keeping.proofs.there.row_there.Goals as goal

pub be-requires : goal.be-requires
be-requires c = record { k_bound = omega arith; k_in_bounds = omega (arith, header-fits _ (whole_is _ c.requires).header) }

pub returns-then-be-o : goal.returns-then-be-o
returns-then-be-o c = far-word _ _ _ c.wide-w.ensures (omega (arith, c.if-be-o.true, c.be.ensures.is))

pub be-at-requires : goal.be-at-requires
be-at-requires c = record { k_bound = omega arith; k_in_bounds = omega (arith, header-fits _ (whole_is _ c.requires).header, c.be.ensures.is) }

pub returns-then-at-eq0 : goal.returns-then-at-eq0
returns-then-at-eq0 c = null_word _ _ _ _ c.wide-w.ensures (omega (arith, c.if-be-o.false, c.be.ensures.is)) c.be-at.ensures.is c.if-at-eq0.true

pub be-requires-2 : goal.be-requires-2
be-requires-2 c = record { k_bound = omega arith; k_in_bounds = head_in _ _ _ (whole_is _ c.requires) (omega (arith, c.if-be-o.false, c.be.ensures.is)) c.be-at.ensures.is c.if-at-eq0.false }

pub returns : goal.returns
returns c = some_word _ _ _ _ _ c.wide-w.ensures (omega (arith, c.if-be-o.false, c.be.ensures.is)) c.be-at.ensures.is c.if-at-eq0.false c.be-2.ensures.is
