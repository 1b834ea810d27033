use native.Mathlib.Omega.{arith}
use Rattle.encoder.proofs.ReadyLaws.{groups-fit}
use Rattle.encoder.proofs.SharedLaws.{merges-less, arrange-fit, joined-groups}
use Rattle.encoder.proofs.sharing.regroup.Goals as goal

pub overflow_add-groups : goal.overflow_add-groups
overflow_add-groups c = omega (arith, groups-fit c.requires.fit, c.requires.fit.laid.room-few, merges-less c.requires.fit c.requires.joined)

pub arrange-count-requires : goal.arrange-count-requires
arrange-count-requires c = arrange-fit c.requires.fit c.requires.joined

pub returns : goal.returns
returns c = λ old f o. joined-groups f o c.arrange-count.ensures
