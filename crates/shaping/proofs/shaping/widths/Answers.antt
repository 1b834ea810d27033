use Rattle.std.proofs.Common.{arith, rules, ◌≡◌, length, replicate, ap, ◌∙◌}
use Rattle.shaping.proofs.WidthSteps.{zero-at, width-start, width-other, width-more, width-done}
use Rattle.shapes.specs.Width.{cost_of}
use Rattle.shaping.proofs.shaping.widths.Goals as goal

pub loop-j-init : goal.loop-j-init
loop-j-init c =
    let z : c.fill.new.self ≡ replicate (length c.args.shape.now) 0 = search rules in
    λ i h. zero-at _ z i ∙ width-start _ _ c.args.pairs.now i

pub loop-j-preserved-then-region-shape : goal.loop-j-preserved-then-region-shape
loop-j-preserved-then-region-shape c =
    width-more c.args.pairs.now _ c.loop-j.j (omega arith) (omega arith) c.loop-j.shape c.loop-j.invariant (omega arith) _ (c.cost.ensures ∙ ap cost_of c.for_val.ensures)

pub loop-j-preserved : goal.loop-j-preserved
loop-j-preserved c = λ i h. c.loop-j.invariant i h ∙ width-other c.args.pairs.now _ c.loop-j.j (omega arith) (omega arith) i (λ e. omega arith)

pub returns : goal.returns
returns c =
    let e : c.loop-j.j ≡ 0 = omega arith in
    width-done c.args.pairs.now c.loop-j.shape _ _ (omega arith) (rw e at c.loop-j.invariant)
