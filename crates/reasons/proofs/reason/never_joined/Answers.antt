use mathlib.Core.Path.{refl}
use Rattle.reasons.proofs.ReasonLaws.{apart-is}
use Rattle.reasons.proofs.reason.never_joined.Goals as goal

pub returns : goal.returns
returns c = let a = c.args in apart-is a.p a.count a.a a.b a.work.now c.requires _ _ _ _ refl refl refl refl _ _ _ c.cost_joined-one.ensures c.cost_joined-other.ensures c.cost_joined-both.ensures
