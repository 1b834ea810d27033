use mathlib.Core.Path.{ap, ◌∙◌}
use Prim.Native.Nat.{ℕ, ◌+◌, ◌/◌}
use Rattle.laws.proofs.BytesLaws.{pow-top}
use Rattle.glyphs.specs.Reading.{entries_from}
use Rattle.glyphs.proofs.ReadLaws.{map-fits, place_inside, entry-there}
use native.Mathlib.Omega.{arith}
use Rattle.glyphs.proofs.read.entry_at.Goals as goal

pub be-requires : goal.be-requires
be-requires c = record { k_bound = omega arith; k_in_bounds = omega (arith, (map-fits _ c.requires).head) }

pub count-requires : goal.count-requires
count-requires c =
    let f = map-fits _ c.requires in
    record { in_bounds = f.head; s_in_bounds = f.start }

pub entry_no-k-requires : goal.entry_no-k-requires
entry_no-k-requires c = let f = map-fits _ c.requires in omega (arith, f.some, c.count.ensures.value)

pub be-requires-2 : goal.be-requires-2
be-requires-2 c = record { k_bound = omega arith; k_in_bounds = omega (arith, (map-fits _ c.requires).head) }

pub be-requires-3 : goal.be-requires-3
be-requires-3 c =
    let f = map-fits _ c.requires in
    record { k_bound = omega (arith, f.form, c.be.ensures.is); k_in_bounds = place_inside c.args.s.now c.entry_no-k.result _ _ f (omega (arith, c.count.ensures.value)) (ap (λ (x : ℕ). x / 16 + 1) c.be.ensures.is) (c.start.ensures.value ∙ ap entries_from c.be-2.ensures.is) }

pub returns : goal.returns
returns c =
    let f = map-fits _ c.requires in
    record { word = entry-there c.args.s.now c.args.glyph _ _ _ c.count.result _ (ap (λ (x : ℕ). x / 16 + 1) c.be.ensures.is) (c.start.ensures.value ∙ ap entries_from c.be-2.ensures.is) c.count.ensures.value c.entry_no-k.ensures.value c.be-3.ensures; upper_bound = omega (arith, c.be-3.ensures.below, pow-top 4 {i = c.be.result / 16 + 1} (omega (arith, f.form, c.be.ensures.is))) }
