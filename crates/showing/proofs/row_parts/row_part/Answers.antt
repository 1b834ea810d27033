use mathlib.Core.Path.{◌≡◌, sym, ◌∙◌}
use mathlib.Core.Bool.{true}
use native.Mathlib.Omega.{arith}
use borrow.Author.Tests.{not-false}
use Rattle.reader.specs.Store.{is_header_ok}
use Rattle.reader.proofs.StoreLaws.{header-fits}
use Rattle.showing.proofs.row_parts.row_part.Goals as goal

pub be-requires : goal.be-requires
be-requires c =
    let good : is_header_ok c.args.s.now ≡ true = sym c.header_ok.ensures ∙ not-false _ c.if-not-header_ok.false-raw in
    record { k_bound = omega (arith, header-fits _ (good)); k_in_bounds = omega (arith, header-fits _ (good)) }

pub be-at-requires : goal.be-at-requires
be-at-requires c =
    let good : is_header_ok c.args.s.now ≡ true = sym c.header_ok.ensures ∙ not-false _ c.if-not-header_ok.false-raw in
    record { k_bound = omega (arith, header-fits _ (good)); k_in_bounds = omega (arith, header-fits _ (good)) }
