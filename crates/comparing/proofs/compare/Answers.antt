use mathlib.Core.Path.{◌≡◌}
use Rattle.sets.specs.Order.{parting}
use Rattle.sets.specs.Lent.{set_of}
use Rattle.sets.proofs.SetLaws.{parting-right}
use Rattle.comparing.proofs.compare.Goals as goal

pub returns : goal.returns
unfolding set_of
returns c =
    let a = c.args in
    let e : c.along.result ≡ parting (set_of a.index a.x a.work.now) (set_of a.index a.y a.work.now) = cc in
    record { walked = e; dense = rw e (parting-right _ _ 0 c.requires.stored.ascending c.requires.stored_2.ascending) }
