use mathlib.Core.Path.{sym, ◌∙◌}
use native.Mathlib.Omega.{arith}
use borrow.Author.Tests.{not-false}
use Rattle.reader.proofs.StoreLaws.{header-fits, SubtableFits, subtable-fits}
use Rattle.showing.proofs.row_parts.row_in.Goals as goal

pub be-list-requires : goal.be-list-requires
be-list-requires c = record { k_bound = omega (arith, header-fits _ c.requires.0); k_in_bounds = omega (arith, header-fits _ c.requires.0) }

pub be-regions-requires : goal.be-regions-requires
be-regions-requires c = record { k_bound = omega (arith, header-fits _ c.requires.0); k_in_bounds = omega (arith, header-fits _ c.requires.0) }

pub be-requires : goal.be-requires
be-requires c =
    let good : SubtableFits c.args.s.now c.args.at = subtable-fits _ _ _ (sym c.subtable_ok.ensures ∙ not-false _ c.if-not-subtable_ok.false-raw) in
    record { k_bound = omega (arith, good); k_in_bounds = omega (arith, good) }

pub be-n-requires : goal.be-n-requires
be-n-requires c =
    let good : SubtableFits c.args.s.now c.args.at = subtable-fits _ _ _ (sym c.subtable_ok.ensures ∙ not-false _ c.if-not-subtable_ok.false-raw) in
    record { k_bound = omega (arith, good); k_in_bounds = omega (arith, good) }

pub be-word-requires : goal.be-word-requires
be-word-requires c =
    let good : SubtableFits c.args.s.now c.args.at = subtable-fits _ _ _ (sym c.subtable_ok.ensures ∙ not-false _ c.if-not-subtable_ok.false-raw) in
    record { k_bound = omega (arith, good); k_in_bounds = omega (arith, good) }
