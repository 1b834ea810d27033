use Rattle.std.proofs.Common.{◌+◌, ◌-◌, ◌*◌, arith, refl}
use Rattle.groups.proofs.PartLaws.{around}
use Rattle.encoder.proofs.ArrangeLaws.{heads-fit, line-parts, deal-fit, shared-out}
use Rattle.encoder.proofs.arranging.share_out.Goals as goal

pub heads-requires : goal.heads-requires
heads-requires c = rw c.split_at_mut-finals.ensures.front_len (heads-fit c.requires
    (around c.args.p.finals (3 * c.args.count) (omega (arith, c.requires.few, c.requires.count-few, c.requires.laid)) c.split_at_mut-front.ensures.front c.split_at_mut-front.ensures.back c.split_at_mut-finals.ensures.back))

pub deal-requires : goal.deal-requires
deal-requires c =
    let a = around c.args.p.finals (3 * c.args.count) (omega (arith, c.requires.few, c.requires.count-few, c.requires.laid)) c.split_at_mut-front.ensures.front c.split_at_mut-front.ensures.back c.split_at_mut-finals.ensures.back in
    rw (c.heads.auto.finals, c.split_at_mut-finals.ensures.front_len, c.split_at_mut-rows.ensures.front_len) (deal-fit c.requires a (line-parts c.requires a refl refl refl refl))

pub returns : goal.returns
returns c =
    let a = around c.args.p.finals (3 * c.args.count) (omega (arith, c.requires.few, c.requires.count-few, c.requires.laid)) c.split_at_mut-front.ensures.front c.split_at_mut-front.ensures.back c.split_at_mut-finals.ensures.back in
    let b = around (c.args.p.rows - (c.args.p.finals + 3 * c.args.count)) c.args.p.sets (omega (arith, c.requires.few, c.requires.count-few, c.requires.laid, a.behind-long)) c.split_at_mut-between.ensures.front c.split_at_mut-between.ensures.back c.split_at_mut-rows.ensures.back in
    shared-out c.requires a (line-parts c.requires a refl refl refl refl) b
    (omega (arith, c.deal.auto.finals, c.heads.auto.finals, c.split_at_mut-finals.ensures.front_len))
    (omega (arith, c.deal.auto.rows, c.split_at_mut-rows.ensures.front_len))
    c.heads.ensures c.deal.ensures
