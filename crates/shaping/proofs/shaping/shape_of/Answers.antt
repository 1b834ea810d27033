use Rattle.std.proofs.Common.{arith, refl}
use Rattle.groups.proofs.PartLaws.{around}
use Rattle.shaping.proofs.WidthSteps.{from-shaped, set-shaped}
use Rattle.shaping.proofs.shaping.shape_of.Goals as goal

pub returns : goal.returns
returns c =
    set-shaped refl refl
    (from-shaped (around c.args.at c.args.regions c.requires.regions_in_bounds c.split_at_mut-front.ensures.front c.split_at_mut-front.ensures.back c.split_at_mut-shape.ensures.back)
    c.requires.work_bound _ (omega (arith, c.widths.auto.shape, c.split_at_mut-shape.ensures.front_len)) (rw c.split_at_mut-shape.ensures.front_len at c.widths.ensures))
