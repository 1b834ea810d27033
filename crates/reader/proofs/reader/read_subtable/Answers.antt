use Prim.Native.Nat.{◌+◌, ◌*◌, ◌≤◌, ◌<◌}
use lib.ListN.{length}
use Rattle.reader.specs.declared.column.Column.TheVariants.{At}
use mathlib.Core.Path.{◌≡◌, sym, ◌∙◌}
use borrow.Author.Tests.{not-false}
use native.Mathlib.Omega.{arith}
use Rattle.reader.specs.Store.{column_start}
use Rattle.laws.specs.Bytes.{be}
use Rattle.laws.proofs.Products.{row_fits}
use Rattle.reader.proofs.StoreLaws.{header-fits, SubtableFits, subtable-fits, find-below, words-length}
use Rattle.reader.proofs.ColumnLaws.{at-fits}
use Rattle.reader.proofs.reader.read_subtable.Goals as goal

pub be-list-requires : goal.be-list-requires
be-list-requires c = record { k_bound = omega (arith, header-fits _ c.requires.0); k_in_bounds = omega (arith, header-fits _ c.requires.0) }

pub be-regions-requires : goal.be-regions-requires
be-regions-requires c = record { k_bound = omega (arith, header-fits _ c.requires.0); k_in_bounds = omega (arith, header-fits _ c.requires.0) }

pub be-requires : goal.be-requires
be-requires c =
    let good : SubtableFits c.args.s.now c.args.at = subtable-fits _ _ _ (sym c.subtable_ok.ensures ∙ not-false _ c.if-not-subtable_ok.false-raw) in
    record { k_bound = omega (arith, good); k_in_bounds = omega (arith, good) }

pub be-n-requires : goal.be-n-requires
be-n-requires c =
    let good : SubtableFits c.args.s.now c.args.at = subtable-fits _ _ _ (sym c.subtable_ok.ensures ∙ not-false _ c.if-not-subtable_ok.false-raw) in
    record { k_bound = omega (arith, good); k_in_bounds = omega (arith, good) }

pub find-requires : goal.find-requires
find-requires c =
    let good : SubtableFits c.args.s.now c.args.at = subtable-fits _ _ _ (sym c.subtable_ok.ensures ∙ not-false _ c.if-not-subtable_ok.false-raw) in
    record { n_bound = omega (arith, good); n_in_bounds = omega (arith, good) }

pub be-word-requires : goal.be-word-requires
be-word-requires c =
    let good : SubtableFits c.args.s.now c.args.at = subtable-fits _ _ _ (sym c.subtable_ok.ensures ∙ not-false _ c.if-not-subtable_ok.false-raw) in
    record { k_bound = omega (arith, good); k_in_bounds = omega (arith, good) }

pub column_at-requires-2 : goal.column_at-requires-2
column_at-requires-2 c =
    let column : c.find.result ≡ At c.in-At.j = c.in-At.is in
    let below : c.in-At.j < c.be-n.result = omega (arith, find-below _ _ _ _ (sym c.find.ensures ∙ column), words-length c.args.s.now (c.args.at + 6) c.be-n.result) in
    record { word_bound = omega (arith, below); j_bound = omega (arith, below) }

pub be-requires-2 : goal.be-requires-2
be-requires-2 c =
    let good : SubtableFits c.args.s.now c.args.at = subtable-fits _ _ _ (sym c.subtable_ok.ensures ∙ not-false _ c.if-not-subtable_ok.false-raw) in
    let column : c.find.result ≡ At c.in-At.j = c.in-At.is in
    let below : c.in-At.j < c.be-n.result = omega (arith, find-below _ _ _ _ (sym c.find.ensures ∙ column), words-length c.args.s.now (c.args.at + 6) c.be-n.result) in
    let place : c.args.at + 6 + 2 * c.be-n.result + c.args.inner * c.column_at.result + c.column_at-2.result + c.column_bytes-k.result ≤ length c.args.s.now = let g = good in
    let items = c.be.result in
    let row = c.column_at.result in
    let n = c.be-n.result in
    let word = c.be-word.result in
    let j = c.in-At.j in
    let inner = c.args.inner in
    let s = c.args.s.now in
    let at = c.args.at in
    let e : items * row ≡ be 2 s at * column_start (be 2 s (at + 2)) (be 2 s (at + 4)) =
    cc (c.be.ensures.is, c.column_at.ensures.value, c.be-word.ensures.is, c.be-n.ensures.is)
    in
    omega (
      arith,
      e,
      g.rows,
      c.be-n.ensures.is,
      c.column_at.ensures.value,
      c.column_at-2.ensures.value,
      c.column_bytes-k.ensures.value,
      at-fits word j n (below),
      row_fits row items inner c.if-be-inner.false,
    ) in
    record { k_bound = omega arith; k_in_bounds = place }
