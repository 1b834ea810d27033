-- The regions of a store and those of a job as work has them: which have the same coordinates. Assumes nothing.
use mathlib.Core.Path.{◌≡◌, refl, sym, ap, subst, ◌∙◌}
use mathlib.Core.Bool.{true, false}
use mathlib.Core.List.{List, [], ◌∷◌}
use mathlib.Core.Logic.{◌⊎◌, ⊎_elim}
use mathlib.Core.Option.{some}
use Prim.Native.Nat.{ℕ, suc, ◌+◌, ◌-◌, ◌*◌, ◌≤◌, ◌<◌}
use native.Mathlib.Omega.{arith}
use lib.ListN.{length, get_or}
use borrow.Author.Tests.{le-ltb}
use Rattle.laws.specs.Every.{All}
use Rattle.laws.specs.LentRange.{seg}
use Rattle.laws.proofs.Cases.{lt-or-ge, Tri, tri, Which, which}
use Rattle.laws.proofs.Cases.Tri.{below, same, above}
use Rattle.laws.proofs.Cases.Which.{holds, fails}
use Rattle.laws.proofs.EveryLaws.{all-get_or, two-get_or}
use Rattle.laws.proofs.ListLaws.{get_or-map-in}
use Rattle.said.specs.Records.{region_from}
use Rattle.said.specs.Sets.{Region, coordinates}
use Rattle.said.proofs.RegionLaws.{regions-at}
use Rattle.said.proofs.SoundLaws.{Coordinates, WellSaid, well-said}
use Rattle.reader.specs.Store.{list_at}
use Rattle.stores.specs.Stores.{Parsed, store_at, parse}
use Rattle.stores.specs.Coordinates.{place_in, listed, once, Distinct}
use Rattle.stores.proofs.WholeLaws.{parse-done}
use Rattle.stores.proofs.Reading.{Listing, list-parsed}
use Rattle.stores.proofs.ByCoordinates.{place_at, once-distinct}
use Rattle.call.specs.Build.{region_bytes, coords_in_use}
use Rattle.matching.specs.declared.Sides.{Sides}
use Rattle.matching.specs.Lent.{side_at, firsts_of}
use Rattle.matching.proofs.SideLaws.{side-listed, side-used, listed-fits}
use Rattle.giving.proofs.WordLaws.{whole_of}
use Rattle.judging.specs.LentJudge.{NotFirst, Sided}
use Rattle.judging.proofs.NumberLaws.{region-once, words-bytes, words_small}

-- ---- a list without repeats passes its test

pub distinct-once : (l : List (List ℕ)) → Distinct l → once l ≡ true
unfolding once
distinct-once [] d = refl
distinct-once (x ∷ l) d =
    rw (lost (lt-or-ge (place_in l x) (length l)), distinct-once l (record { apart = λ i j p q e. shrink i j (d.apart (suc i) (suc j) (omega arith) (omega arith) e) }))
  where
    shrink : (i j : ℕ) → suc i ≡ suc j → i ≡ j
    shrink i j e = omega arith

    lost : (place_in l x < length l) ⊎ (length l ≤ place_in l x) → listed l x ≡ false
    lost h = ⊎_elim
        (λ (b : place_in l x < length l).
        let z : suc (place_in l x) ≡ 0 = d.apart (suc (place_in l x)) 0 (omega arith) (omega arith) (place_at l x b) in
        absurd (omega arith))
        (λ (b : length l ≤ place_in l x). le-ltb (place_in l x) (length l) b)
        h

pub not-once : (l : List (List ℕ)) → (Distinct l → ⊥) → once l ≡ false
not-once l d = go (which (once l))
  where
    go : Which (once l) → once l ≡ false
    go (holds e) = absurd (d (once-distinct l e))
    go (fails e) = e

-- ---- both sides by their bytes

module _ {store job : List ℕ} {sets : ℕ} {w : List ℕ} {t : Sides} (f : Sided store job sets w t) (bytes : (k : ℕ) → get_or store k 0 < 256) where
  abbrev pub p : Parsed
  p = store_at store

  pub parse-is-some : parse store ≡ some (store_at store)
  parse-is-some = parse-done store (whole_of store f.parsed)

  list : Listing store (store_at store)
  list = list-parsed store (store_at store) parse-is-some

  pub axes-same : (store_at store).axes ≡ t.axes
  axes-same = sym list.axes-are ∙ sym f.axes-are

  pub listed-long : t.listed ≡ length (store_at store).regions
  listed-long = f.listed-are ∙ list.count

  abbrev side : ℕ → Region
  side x = side_at store job w t x

  region-at : (q : ℕ) → q < t.listed → get_or (store_at store).regions q [] ≡ region_bytes (side q)
  region-at q h =
      let z : 6 * t.axes ≡ 2 * (3 * t.axes) = omega arith in
      let room = listed-fits f.fits q (omega arith) h in
      sym (list.region q (omega (arith, listed-long)))
      ∙ ap (λ (a : ℕ). seg (list_at store + 4 + q * (6 * a)) (6 * a) store) axes-same
      ∙ ap (λ (l : ℕ). seg (l + q * (6 * t.axes)) (6 * t.axes) store) (sym f.list-is)
      ∙ ap (λ (n : ℕ). seg (t.list + q * (6 * t.axes)) n store) z
      ∙ words-bytes store bytes (3 * t.axes) (t.list + q * (6 * t.axes)) (omega arith)
      ∙ ap region_bytes (side-listed store job w t q h)

  well : WellSaid t.axes job f.records f.said
  well = well-said t.axes 0 job f.records f.said f.fits.some f.bytes f.is

  used_low : (u : ℕ) → u < t.uses → get_or f.said.used u 0 < length f.said.regions
  used_low u h = all-get_or (λ q. q < length f.said.regions) f.said.used u 0 well.counted.used_low (omega (arith, f.uses-are))

  used-region : (u : ℕ) → u < t.uses → get_or f.said.regions (get_or f.said.used u 0) [] ≡ side (t.listed + u)
  used-region u h =
      let q = get_or f.said.used u 0 in
      let z : t.listed + u - t.listed ≡ u = omega arith in
      ap (λ (l : List Region). get_or l q []) well.counted.regions-are
      ∙ regions-at t.axes (length f.said.regions) job q (used_low u h)
      ∙ ap (λ (k : ℕ). coordinates t.axes (region_from t.axes job k)) (sym (ap (λ (k : ℕ). get_or w (t.used + k) 0) z ∙ f.used-are u h))
      ∙ side-used store job w t (t.listed + u) (omega arith)

  coords-at : (u : ℕ) → u < t.uses → get_or (coords_in_use f.said) u [] ≡ region_bytes (side (t.listed + u))
  unfolding coords_in_use
  coords-at u h =
      get_or-map-in (λ (q : ℕ). region_bytes (get_or f.said.regions q [])) f.said.used u 0 [] (omega (arith, f.uses-are))
      ∙ ap region_bytes (used-region u h)

  small-listed : (q : ℕ) → q < t.listed → All (λ x. x < 65536) (side q)
  small-listed q h = subst (All (λ x. x < 65536)) (side-listed store job w t q h) (words_small store bytes (3 * t.axes) (t.list + q * (6 * t.axes)))

  small-used : (u : ℕ) → u < t.uses → All (λ x. x < 65536) (side (t.listed + u))
  small-used u h =
      subst (All (λ x. x < 65536)) (used-region u h)
      (all-get_or (Coordinates t.axes) f.said.regions (get_or f.said.used u 0) [] well.coordinates-are (used_low u h)).1

  listed_same : (i j : ℕ) → i < t.listed → j < t.listed → get_or (store_at store).regions i [] ≡ get_or (store_at store).regions j [] → side i ≡ side j
  listed_same i j a b e = region-once (side i) (side j) (small-listed i a) (small-listed j b) (sym (region-at i a) ∙ e ∙ region-at j b)

  both-same : (u q : ℕ) → u < t.uses → q < t.listed → get_or (coords_in_use f.said) u [] ≡ get_or (store_at store).regions q [] → side (t.listed + u) ≡ side q
  both-same u q a b e = region-once (side (t.listed + u)) (side q) (small-used u a) (small-listed q b) (sym (coords-at u a) ∙ e ∙ region-at q b)

  -- no two regions in use have the same
  pub coords-once : (u v : ℕ) → u < t.uses → v < t.uses → get_or (coords_in_use f.said) u [] ≡ get_or (coords_in_use f.said) v [] → u ≡ v
  coords-once u v a b e = go (tri u v)
    where
      same-region : get_or f.said.regions (get_or f.said.used u 0) [] ≡ get_or f.said.regions (get_or f.said.used v 0) []
      same-region =
          used-region u a
          ∙ region-once (side (t.listed + u)) (side (t.listed + v)) (small-used u a) (small-used v b) (sym (coords-at u a) ∙ e ∙ coords-at v b)
          ∙ sym (used-region v b)

      differ : (i j : ℕ) → i < j → j < t.uses → get_or f.said.regions (get_or f.said.used i 0) [] ≡ get_or f.said.regions (get_or f.said.used j 0) [] → ⊥
      differ i j l m = two-get_or (λ x y. get_or f.said.regions x [] ≡ get_or f.said.regions y [] → ⊥) f.said.used i j 0 well.used-apart l (omega (arith, f.uses-are))

      go : Tri u v → u ≡ v
      go (below l) = absurd (differ u v l b same-region)
      go (same l) = l
      go (above l) = absurd (differ v u l a (sym same-region))

  abbrev first_at : ℕ → ℕ
  first_at x = get_or w (firsts_of t + x) 0

  -- ---- no region twice

  pub all-distinct : ((q : ℕ) → q < t.listed → get_or w (firsts_of t + q) 0 ≡ q) → Distinct (store_at store).regions
  all-distinct own = record {
    apart = λ i j a b e.
        let k : i < t.listed = omega (arith, listed-long) in
        let l : j < t.listed = omega (arith, listed-long) in
        let s = listed_same i j k l e in
        let x = (f.firsts i (omega arith)).least j (omega arith) (sym s) in
        let y = (f.firsts j (omega arith)).least i (omega arith) s in
        omega (arith, x, y, own i k, own j l);
  }

  pub not-distinct : NotFirst w (firsts_of t) t.listed → Distinct (store_at store).regions → ⊥
  not-distinct n d =
      let q = n.region in
      let x = f.firsts q (omega (arith, n.within)) in
      let low : first_at q < t.listed = omega (arith, x.not-past, n.within) in
      n.other
      (d.apart (first_at q) q (omega (arith, listed-long)) (omega (arith, listed-long, n.within))
      (region-at (first_at q) low ∙ ap region_bytes x.same ∙ sym (region-at q n.within)))

  -- ---- a region in use aims at the listed one of its coordinates

  pub aim-hit : (u q : ℕ) → u < t.uses → q < t.listed → first_at (t.listed + u) ≡ q → get_or (coords_in_use f.said) u [] ≡ get_or (store_at store).regions q []
  aim-hit u q a b e =
      let x = f.firsts (t.listed + u) (omega arith) in
      coords-at u a ∙ ap region_bytes (sym (ap (side_at store job w t) (sym e) ∙ x.same)) ∙ sym (region-at q b)

  pub aim-back : Distinct (store_at store).regions → (u q : ℕ) → u < t.uses → q < t.listed
      → get_or (coords_in_use f.said) u [] ≡ get_or (store_at store).regions q [] → first_at (t.listed + u) ≡ q
  aim-back d u q a b e =
      let x = f.firsts (t.listed + u) (omega arith) in
      let s = both-same u q a b e in
      let low = x.least q (omega arith) (sym s) in
      d.apart (first_at (t.listed + u)) q (omega (arith, listed-long)) (omega (arith, listed-long))
      (region-at (first_at (t.listed + u)) (omega arith) ∙ ap region_bytes (x.same ∙ s) ∙ sym (region-at q b))
