use mathlib.Core.Path.{refl}
use Prim.Native.Nat.{ℕ, ◌<◌}
use lib.ListN.{get_or}
use native.Mathlib.Omega.{arith}
use Rattle.reader.proofs.StoreLaws.{header-fits}
use Rattle.keeping.proofs.KeepLaws.{rows-low, fit, early-long, out-same, places_same, kept-few, fit₂, named₂, first-is, late-long, put-fits, done-is, out-is, places_is, places-fit, words-now, first-low}
use Rattle.keeping.proofs.keep_rows.Goals as goal

pub choose-c-requires : goal.choose-c-requires
choose-c-requires c = (omega (arith, c.requires.work-room), rows-low c.requires (λ k. omega (arith, c.type_inv.store k)))

pub tables_size-size-requires : goal.tables_size-size-requires
tables_size-size-requires c = ((fit c.requires (λ k. omega (arith, c.type_inv.store k)) c.choose-c.ensures).few, (fit c.requires (λ k. omega (arith, c.type_inv.store k)) c.choose-c.ensures).table)

pub returns-then-end-t : goal.returns-then-end-t
returns-then-end-t c = record { value = early-long c.requires (λ k. omega (arith, c.type_inv.store k)) c.choose-c.ensures _ _ _ c.room-end.ensures.0 c.tables_size-size.ensures.0 (omega (arith, c.if-end-t.true)); out_after = out-same _ _ _ _; places_after = places_same _ _ _ _ }

pub name_regions-kept-requires : goal.name_regions-kept-requires
name_regions-kept-requires c = fit c.requires (λ k. omega (arith, c.type_inv.store k)) c.choose-c.ensures

pub be-list-requires : goal.be-list-requires
be-list-requires c = record { k_bound = omega arith; k_in_bounds = omega (arith, header-fits _ (fit c.requires (λ k. omega (arith, c.type_inv.store k)) c.choose-c.ensures).header) }

pub be-requires : goal.be-requires
be-requires c = record { k_bound = omega arith; k_in_bounds = omega (arith, header-fits _ (fit c.requires (λ k. omega (arith, c.type_inv.store k)) c.choose-c.ensures).header, c.be-list.ensures.is) }

pub overflow_mul-first-3 : goal.overflow_mul-first-3
overflow_mul-first-3 c = omega (arith, first-low _ _ c.be.ensures.below (kept-few c.requires (λ k. omega (arith, c.type_inv.store k)) c.choose-c.ensures c.name_regions-kept.ensures))

pub overflow_add-first-2 : goal.overflow_add-first-2
overflow_add-first-2 c = omega (arith, first-low _ _ c.be.ensures.below (kept-few c.requires (λ k. omega (arith, c.type_inv.store k)) c.choose-c.ensures c.name_regions-kept.ensures), (fit c.requires (λ k. omega (arith, c.type_inv.store k)) c.choose-c.ensures).few)

pub overflow_add-first-3 : goal.overflow_add-first-3
overflow_add-first-3 c = omega (arith, first-low _ _ c.be.ensures.below (kept-few c.requires (λ k. omega (arith, c.type_inv.store k)) c.choose-c.ensures c.name_regions-kept.ensures), (fit c.requires (λ k. omega (arith, c.type_inv.store k)) c.choose-c.ensures).few, c.tables_size-size.ensures.1)

pub returns-then-end-first : goal.returns-then-end-first
returns-then-end-first c = record { value = late-long c.requires (λ k. omega (arith, c.type_inv.store k)) c.choose-c.ensures c.name_regions-kept.ensures _ _ _ _ c.be-list.ensures.is c.be.ensures.is c.tables_size-size.ensures.0 refl _ _ c.room-end.ensures.0 (omega (arith, c.if-end-first.true)); out_after = out-same _ _ _ _; places_after = places_same _ _ _ _ }

pub write_store-bytes-requires : goal.write_store-bytes-requires
write_store-bytes-requires c =
    let b : (k : ℕ) → get_or c.args.store.now k 0 < 256 = (λ k. omega (arith, c.type_inv.store k)) in
    let h = c.requires in
    let d = c.choose-c.ensures in
    let q = c.name_regions-kept.ensures in
    let f = put-fits h b d q _ _ _ _ c.be-list.ensures.is c.be.ensures.is c.tables_size-size.ensures.0 refl _ _ c.room-end.ensures (omega (arith, c.if-end-first.false)) in
    record { store_fit = (fit₂ h b d q, named₂ h b d q); kept_bound = (kept-few h b d q, first-is h b d q _ _ _ _ c.be-list.ensures.is c.be.ensures.is c.tables_size-size.ensures.0 refl, f.0, f.1) }

pub write_places-requires : goal.write_places-requires
write_places-requires c =
    let b : (k : ℕ) → get_or c.args.store.now k 0 < 256 = (λ k. omega (arith, c.type_inv.store k)) in
    let h = c.requires in
    let d = c.choose-c.ensures in
    let q = c.name_regions-kept.ensures in
    let f = places-fit h b d q _ _ _ _ c.be-list.ensures.is c.be.ensures.is c.tables_size-size.ensures.0 refl in
    record { k_in_bounds = (f.0, f.1, (words-now h b d q).rising); by_index = (words-now h b d q).into; rows_in_bounds = h.place-room }

pub returns : goal.returns
returns c =
    let h = c.requires in
    let d = c.choose-c.ensures in
    let q = c.name_regions-kept.ensures in
    record { value = done-is h (λ k. omega (arith, c.type_inv.store k)) d q _ _ _ _ c.be-list.ensures.is c.be.ensures.is c.tables_size-size.ensures.0 refl c.write_store-bytes.ensures _ _ c.room-end.ensures (omega (arith, c.if-end-first.false)); out_after = out-is h (λ k. omega (arith, c.type_inv.store k)) d q _ _ _ _ c.be-list.ensures.is c.be.ensures.is c.tables_size-size.ensures.0 refl c.write_store-bytes.ensures; places_after = places_is h (λ k. omega (arith, c.type_inv.store k)) d q _ _ _ _ c.be-list.ensures.is c.be.ensures.is c.tables_size-size.ensures.0 refl _ refl c.write_places.ensures }
