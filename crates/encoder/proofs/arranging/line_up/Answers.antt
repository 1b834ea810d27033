use Rattle.std.proofs.Common.{arith}
use Rattle.groups.proofs.PartLaws.{around}
use Rattle.encoder.proofs.ArrangeLaws.{count-most, line-spots, lined-up}
use Rattle.encoder.proofs.arranging.line_up.Goals as goal

pub slice_bounds-spots-end : goal.slice_bounds-spots-end
slice_bounds-spots-end c = omega (arith, count-most c.requires c.order_living-count.ensures, c.requires.few, c.requires.laid, c.split_at_mut-front.ensures.front_len)

pub spots-requires : goal.spots-requires
spots-requires c = rw c.split_at_mut-spot.ensures.front_len (line-spots c.requires c.order_living-count.ensures
    (around c.args.p.spots c.args.groups (omega (arith, c.requires.few, c.requires.laid, c.order_living-count.ensures.only.long)) c.split_at_mut-front.ensures.front c.split_at_mut-front.ensures.back c.split_at_mut-spot.ensures.back))

pub returns : goal.returns
returns c = lined-up c.requires c.order_living-count.ensures
    (around c.args.p.spots c.args.groups (omega (arith, c.requires.few, c.requires.laid, c.order_living-count.ensures.only.long)) c.split_at_mut-front.ensures.front c.split_at_mut-front.ensures.back c.split_at_mut-spot.ensures.back)
    _ (omega (arith, c.spots.auto.spot, c.split_at_mut-spot.ensures.front_len)) c.spots.ensures
