-- Regions in use before and after one more; a value record that passes; records of a kind, counted. Assumes nothing.
use mathlib.Core.Path.{◌≡◌}
use mathlib.Core.Bool.{Bool, true, false, not}
use mathlib.Core.List.{List, [], ◌∷◌}
use mathlib.Core.Logic.{⊎_elim}
use Prim.Native.Nat.{ℕ, zero, suc, ◌+◌, ◌≤◌, ◌<◌}
use native.Mathlib.Omega.{arith}
use lib.Dec.{ltb}
use borrow.Author.Tests.{eq-eqb, ne_eqb, ltb-true, not-true}
use Rattle.laws.proofs.Cases.{Which, which, same_or_not}
use Rattle.laws.proofs.Cases.Which.{holds, fails}
use Rattle.said.specs.Records.{kind, region_number, record_at}
use Rattle.said.specs.Refusals.{value_no}
use Rattle.said.specs.Sets.{has, with_use, index_in}
use Rattle.said.proofs.RecordLaws.{first-passed}
use Rattle.said.proofs.IndexLaws.{has-snoc, index-snoc-old, with-known, with-new}
use Rattle.told.specs.Told.{count_kind}

pub use_kept : (l : List ℕ) (q p : ℕ) → has p l ≡ true → (has p (with_use l q) ≡ true) × (index_in p (with_use l q) ≡ index_in p l)
use_kept l q p h = go (which (has q l))
  where
    go : Which (has q l) → (has p (with_use l q) ≡ true) × (index_in p (with_use l q) ≡ index_in p l)
    go (holds e) = (rw (with-known l q e) h, rw (with-known l q e))
    go (fails e) = (rw (with-new l q e, has-snoc p q l, h), rw (with-new l q e) (index-snoc-old p q l h))

-- ---- records

-- a value record that passes names a region that there is, and that its set has not named
pub value-fine : (r : List ℕ) (regions : ℕ) (named : Bool) → value_no r regions named ≡ 0 → (region_number r < regions) × (named ≡ false)
unfolding value_no
value-fine r regions named z =
    let b = first-passed (ltb (region_number r) regions) 5 ((not named, 7) ∷ []) z in
    let c = first-passed (not named) 6 [] b.1 in
    (ltb-true (region_number r) regions b.0, not-true named c.0)

-- ---- counts

module _ (k : ℕ) (job : List ℕ) where
  pub count-here : (i : ℕ) → kind (record_at job i) ≡ k → count_kind k job (suc i) ≡ suc (count_kind k job i)
  unfolding count_kind
  count-here i e = rw (eq-eqb (kind (record_at job i)) k e)

  pub count_past : (i : ℕ) → (kind (record_at job i) ≡ k → ⊥) → count_kind k job (suc i) ≡ count_kind k job i
  unfolding count_kind
  count_past i d = rw (ne_eqb (kind (record_at job i)) k d)

  count_next : (i : ℕ) → (count_kind k job i ≤ count_kind k job (suc i)) × (count_kind k job (suc i) ≤ suc (count_kind k job i))
  count_next i = ⊎_elim
      (λ (e : kind (record_at job i) ≡ k). (omega (arith, count-here i e), omega (arith, count-here i e)))
      (λ d. (omega (arith, count_past i d), omega (arith, count_past i d)))
      (same_or_not (kind (record_at job i)) k)

  -- of two records the later has no fewer before it
  pub count-grows : (n i : ℕ) → count_kind k job i ≤ count_kind k job (i + n)
  count-grows zero i = let e : i + 0 ≡ i = omega arith in rw e (omega arith)
  count-grows (suc n) i = let e : i + suc n ≡ suc (i + n) = omega arith in rw e (omega (arith, count-grows n i, (count_next (i + n)).0))

  pub count_most : (i : ℕ) → count_kind k job i ≤ i
  count_most zero = unfold count_kind in omega arith
  count_most (suc i) = omega (arith, count_most i, (count_next i).1)
