use Rattle.std.proofs.Common.{arith}
use Rattle.groups.proofs.PartLaws.{around}
use Rattle.encoder.proofs.ArrangeLaws.{homes-fit, homed}
use Rattle.encoder.proofs.arranging.find_places.Goals as goal

pub find_homes-requires : goal.find_homes-requires
find_homes-requires c = rw c.split_at_mut-home.ensures.front_len (homes-fit c.requires
    (around c.args.p.homes c.args.groups (omega (arith, c.requires.few, c.requires.laid)) c.split_at_mut-front.ensures.front c.split_at_mut-front.ensures.back c.split_at_mut-home.ensures.back))

pub returns : goal.returns
returns c = homed c.requires
    (around c.args.p.homes c.args.groups (omega (arith, c.requires.few, c.requires.laid)) c.split_at_mut-front.ensures.front c.split_at_mut-front.ensures.back c.split_at_mut-home.ensures.back)
    _ (omega (arith, c.find_homes.auto.home, c.split_at_mut-home.ensures.front_len)) c.find_homes.ensures
