use mathlib.Core.Path.{sym, ◌∙◌}
use lib.ListN.{length}
use native.Mathlib.Omega.{arith}
use borrow.Author.Tests.{not-true, not-false}
use Rattle.stores.specs.Stores.{parse}
use Rattle.keeping.proofs.CallLaws.{parses-whole, bad-store, no-row, few-places, kept-so}
use Rattle.keeping.proofs.keep_in.Goals as goal

pub returns-then-not-whole_ok : goal.returns-then-not-whole_ok
returns-then-not-whole_ok c =
    let k = bad-store (parse c.args.store.now) c.args.rows.now (length c.args.out.now) (length c.args.places.now) c.args.out.now c.args.places.now (sym c.whole_ok.ensures ∙ not-true _ c.if-not-whole_ok.true-raw) in
    record { value = k.0; out_after = k.1.0; places_after = k.1.1 }

pub rows_there-requires : goal.rows_there-requires
rows_there-requires c = parses-whole _ (sym c.whole_ok.ensures ∙ not-false _ c.if-not-whole_ok.false-raw)

pub returns-then-not-rows_there : goal.returns-then-not-rows_there
returns-then-not-rows_there c =
    let k = no-row c.args.store.now c.args.rows.now (parses-whole c.args.store.now (sym c.whole_ok.ensures ∙ not-false _ c.if-not-whole_ok.false-raw)) (length c.args.out.now) (length c.args.places.now) c.args.out.now c.args.places.now (sym c.rows_there.ensures ∙ not-true _ c.if-not-rows_there.true-raw) in
    record { value = k.0; out_after = k.1.0; places_after = k.1.1 }

pub returns-then-places-rows : goal.returns-then-places-rows
returns-then-places-rows c =
    let k = few-places c.args.store.now c.args.rows.now (parses-whole c.args.store.now (sym c.whole_ok.ensures ∙ not-false _ c.if-not-whole_ok.false-raw)) (length c.args.out.now) (length c.args.places.now) c.args.out.now c.args.places.now (sym c.rows_there.ensures ∙ not-false _ c.if-not-rows_there.false-raw) (omega (arith, c.if-places-rows.true)) in
    record { value = k.0; out_after = k.1.0; places_after = k.1.1 }

pub keep_rows-requires : goal.keep_rows-requires
keep_rows-requires c = record { ok = parses-whole _ (sym c.whole_ok.ensures ∙ not-false _ c.if-not-whole_ok.false-raw); there = sym c.rows_there.ensures ∙ not-false _ c.if-not-rows_there.false-raw; work-room = omega (arith, c.requires.0, c.whole_ok.auto.seen); place-room = omega (arith, c.if-places-rows.false) }

pub returns : goal.returns
returns c = record { value = (kept-so _ _ (parses-whole _ (sym c.whole_ok.ensures ∙ not-false _ c.if-not-whole_ok.false-raw)) (length c.args.out.now) (length c.args.places.now) _ _ _ _ _ (sym c.rows_there.ensures ∙ not-false _ c.if-not-rows_there.false-raw) (omega (arith, c.if-places-rows.false)) (c.keep_rows.ensures.value, (c.keep_rows.ensures.out_after, c.keep_rows.ensures.places_after))).0; out_after = (kept-so _ _ (parses-whole _ (sym c.whole_ok.ensures ∙ not-false _ c.if-not-whole_ok.false-raw)) (length c.args.out.now) (length c.args.places.now) _ _ _ _ _ (sym c.rows_there.ensures ∙ not-false _ c.if-not-rows_there.false-raw) (omega (arith, c.if-places-rows.false)) (c.keep_rows.ensures.value, (c.keep_rows.ensures.out_after, c.keep_rows.ensures.places_after))).1.0; places_after = (kept-so _ _ (parses-whole _ (sym c.whole_ok.ensures ∙ not-false _ c.if-not-whole_ok.false-raw)) (length c.args.out.now) (length c.args.places.now) _ _ _ _ _ (sym c.rows_there.ensures ∙ not-false _ c.if-not-rows_there.false-raw) (omega (arith, c.if-places-rows.false)) (c.keep_rows.ensures.value, (c.keep_rows.ensures.out_after, c.keep_rows.ensures.places_after))).1.1 }
