use mathlib.Core.Path.{◌≡◌, sym, ◌∙◌}
use mathlib.Core.Bool.{true}
use borrow.Author.Tests.{not-false}
use Rattle.widths.specs.Reading.{is_table_ok}
use Rattle.widths.proofs.ReadLaws.{TableFits, table_fits, bare-answer}
use native.Mathlib.Omega.{arith}
use Rattle.widths.proofs.read.read_width.Goals as goal

pub be-store-requires : goal.be-store-requires
be-store-requires c =
    let good : is_table_ok c.args.table.now ≡ true = sym c.table_ok.ensures ∙ not-false _ c.if-not-table_ok.false-raw in
    let fits : TableFits c.args.table.now = table_fits _ (good) in
    let f = fits in
    record { k_bound = omega arith; k_in_bounds = omega (arith, f.head) }

pub be-map-requires : goal.be-map-requires
be-map-requires c =
    let good : is_table_ok c.args.table.now ≡ true = sym c.table_ok.ensures ∙ not-false _ c.if-not-table_ok.false-raw in
    let fits : TableFits c.args.table.now = table_fits _ (good) in
    let f = fits in
    record { k_bound = omega arith; k_in_bounds = omega (arith, f.head) }

pub slice_bounds-read-count : goal.slice_bounds-read-count
slice_bounds-read-count c =
    let good : is_table_ok c.args.table.now ≡ true = sym c.table_ok.ensures ∙ not-false _ c.if-not-table_ok.false-raw in
    let fits : TableFits c.args.table.now = table_fits _ (good) in
    omega (arith, (fits).store, c.be-store.ensures.is)

pub slice_bounds-read-start : goal.slice_bounds-read-start
slice_bounds-read-start c =
    let good : is_table_ok c.args.table.now ≡ true = sym c.table_ok.ensures ∙ not-false _ c.if-not-table_ok.false-raw in
    let fits : TableFits c.args.table.now = table_fits _ (good) in
    omega (arith, (fits).store, c.be-store.ensures.is)

pub returns-then-map-eq0 : goal.returns-then-map-eq0
returns-then-map-eq0 c =
    let good : is_table_ok c.args.table.now ≡ true = sym c.table_ok.ensures ∙ not-false _ c.if-not-table_ok.false-raw in
    bare-answer c.args.table.now c.args.glyph c.args.region (good) _ _ c.be-store.ensures.is c.be-map.ensures.is _ c.if-map-eq0.true c.read.ensures

pub slice_bounds-read_glyph-count : goal.slice_bounds-read_glyph-count
slice_bounds-read_glyph-count c =
    let good : is_table_ok c.args.table.now ≡ true = sym c.table_ok.ensures ∙ not-false _ c.if-not-table_ok.false-raw in
    let fits : TableFits c.args.table.now = table_fits _ (good) in
    omega (arith, (fits).map (λ e. c.if-map-eq0.false (c.be-map.ensures.is ∙ e)), c.be-map.ensures.is)

pub slice_bounds-read_glyph-start : goal.slice_bounds-read_glyph-start
slice_bounds-read_glyph-start c =
    let good : is_table_ok c.args.table.now ≡ true = sym c.table_ok.ensures ∙ not-false _ c.if-not-table_ok.false-raw in
    let fits : TableFits c.args.table.now = table_fits _ (good) in
    omega (arith, (fits).map (λ e. c.if-map-eq0.false (c.be-map.ensures.is ∙ e)), c.be-map.ensures.is)

pub slice_bounds-read-count-2 : goal.slice_bounds-read-count-2
slice_bounds-read-count-2 c =
    let good : is_table_ok c.args.table.now ≡ true = sym c.table_ok.ensures ∙ not-false _ c.if-not-table_ok.false-raw in
    let fits : TableFits c.args.table.now = table_fits _ (good) in
    omega (arith, (fits).store, c.be-store.ensures.is)

pub slice_bounds-read-start-2 : goal.slice_bounds-read-start-2
slice_bounds-read-start-2 c =
    let good : is_table_ok c.args.table.now ≡ true = sym c.table_ok.ensures ∙ not-false _ c.if-not-table_ok.false-raw in
    let fits : TableFits c.args.table.now = table_fits _ (good) in
    omega (arith, (fits).store, c.be-store.ensures.is)
