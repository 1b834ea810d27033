use mathlib.Core.Path.{sym, ◌∙◌}
use borrow.Author.Tests.{not-false}
use Rattle.glyphs.proofs.ReadLaws.{map-fits}
use native.Mathlib.Omega.{arith}
use Rattle.glyphs.proofs.read.read_glyph.Goals as goal

pub be-requires : goal.be-requires
be-requires c =
    let f = map-fits _ (sym c.map_ok.ensures ∙ not-false _ c.if-not-map_ok.false-raw) in
    record { k_bound = omega arith; k_in_bounds = omega (arith, f.head) }
