-- The ids of a final group's rows, read off lent words. Assumes nothing.
use mathlib.Core.Path.{◌≡◌, sym, ap, ◌∙◌}
use mathlib.Core.List.{List}
use Prim.Native.Nat.{ℕ, ◌+◌, ◌≤◌, ◌<◌}
use native.Mathlib.Numerals.{add-one}
use native.Mathlib.Omega.{arith}
use lib.ListN.{length, get_or, drop, length-map}
use lib.Seq.{drop-cons, drop-length}
use borrow.Author.Tests.{eq-eqb, ne_eqb}
use Rattle.laws.specs.LentRange.{seg}
use Rattle.laws.proofs.ListLaws.{get_or-map-in, map_same}
use Rattle.laws.proofs.EveryLaws.{all-imp}
use Rattle.laws.proofs.RangeLaws.{length-seg, get_or-seg, seg_all}
use Rattle.encoder.specs.declared.places.Places.{Places}
use Rattle.finding.specs.First.{first_at}
use Rattle.reasons.specs.LentReasons.{label, rows_spot, row_count, ids_at, AmongFit, ids_in, RowsIn}

-- ---- a walk along a list: so far, and what is left

module _ (x : ℕ) (l : List ℕ) (i : ℕ) (so : first_at x l ≡ i + first_at x (drop i l)) where
  here : i < length l → get_or l i 0 ≡ x → i ≡ first_at x l
  unfolding first_at
  here h e = sym (so ∙ rw (drop-cons l i 0 h, eq-eqb (get_or l i 0) x e) (omega arith))

  further : i < length l → (get_or l i 0 ≡ x → ⊥) → first_at x l ≡ i + 1 + first_at x (drop (i + 1) l)
  unfolding first_at
  further h n = so ∙ rw (drop-cons l i 0 h, ne_eqb (get_or l i 0) x n, add-one i) (omega arith)

  nowhere : i ≡ length l → i ≡ first_at x l
  unfolding first_at
  nowhere e = sym (so ∙ rw (e, drop-length l) (omega arith))

-- ---- a walk along n rows

pub record Walked (ids rows n : ℕ) (w : List ℕ) (x q : ℕ) : Type 0 where
  pub most : q ≤ n
  pub so : first_at x (ids_at ids rows n w) ≡ q + first_at x (drop q (ids_at ids rows n w))

module _ {ids rows n : ℕ} {w : List ℕ} (fit : AmongFit ids rows n w) where
  at_long : length (ids_at ids rows n w) ≡ n
  unfolding ids_at
  at_long = length-map (seg rows n w) (λ s. get_or w (ids + s) 0) ∙ length-seg rows n w fit.rows-to

  -- the id of a row's set is there
  pub set-in : (q : ℕ) → q < n → ids + get_or w (rows + q) 0 < length w
  set-in q h = seg_all (λ s. ids + s < length w) n rows w fit.rows-to fit.sets-in (rows + q) (omega arith) (omega arith)

  id-at : (q : ℕ) → q < n → get_or (ids_at ids rows n w) q 0 ≡ get_or w (ids + get_or w (rows + q) 0) 0
  unfolding ids_at
  id-at q h =
      get_or-map-in (λ s. get_or w (ids + s) 0) (seg rows n w) q 0 0 (omega (arith, length-seg rows n w fit.rows-to))
      ∙ ap (λ s. get_or w (ids + s) 0) (get_or-seg rows n w q h)

  module _ {x q : ℕ} (k : Walked ids rows n w x q) where
    pub walk_here : q < n → get_or w (ids + get_or w (rows + q) 0) 0 ≡ x → q ≡ first_at x (ids_at ids rows n w)
    walk_here h f = here x (ids_at ids rows n w) q k.so (omega (arith, at_long)) (id-at q h ∙ f)

    pub walk_more : q < n → (get_or w (ids + get_or w (rows + q) 0) 0 ≡ x → ⊥) → Walked ids rows n w x (q + 1)
    walk_more h d = record {
      most = omega arith;
      so = further x (ids_at ids rows n w) q k.so (omega (arith, at_long)) (λ f. d (sym (id-at q h) ∙ f));
    }

    pub walk-done : n ≤ q → q ≡ first_at x (ids_at ids rows n w)
    walk-done h = nowhere x (ids_at ids rows n w) q k.so (omega (arith, at_long, k.most))

-- ---- those of a group

module _ (p : Places) (g : ℕ) (w : List ℕ) (fit : RowsIn p g w) where
  pub ids-long : length (ids_in p w g) ≡ row_count p w g
  unfolding ids_in
  ids-long =
      length-map (seg (rows_spot p w g) (row_count p w g) w) (label p w) ∙ length-seg (rows_spot p w g) (row_count p w g) w fit.rows-to

  pub ids-same : ids_at p.ids (rows_spot p w g) (row_count p w g) w ≡ ids_in p w g
  unfolding ids_at ids_in
  ids-same =
      map_same (λ s. get_or w (p.ids + s) 0) (label p w) (seg (rows_spot p w g) (row_count p w g) w)
      (all-imp (λ s (h : s < p.sets). sym (get_or-seg p.ids p.sets w s h)) (seg (rows_spot p w g) (row_count p w g) w) fit.numbers)
