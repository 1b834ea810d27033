use mathlib.Core.Path.{sym, ◌∙◌}
use Rattle.encoder.proofs.PlacesLaws.{room-none, room-some, slots-few}
use native.Mathlib.Omega.{arith}
use Rattle.encoder.proofs.places.room_for.Goals as goal

pub returns-then-regions-eq0 : goal.returns-then-regions-eq0
returns-then-regions-eq0 c =
    let is = c.min.ensures ∙ sym (room-none c.args.sets c.args.regions (omega arith)) in
    record { is = is; most = (omega arith, omega arith); few = slots-few c.args.sets c.args.regions c.min.result is (omega arith) }

pub returns : goal.returns
returns c =
    let is = c.min-2.ensures ∙ sym (room-some c.args.sets c.args.regions (omega arith)) in
    record { is = is; most = (omega arith, omega arith); few = slots-few c.args.sets c.args.regions c.min-2.result is (omega arith) }
