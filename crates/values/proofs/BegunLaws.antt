-- The set that has not ended: its entries as they came, in their order, and how many there are. Assumes nothing.
use mathlib.Core.Path.{◌≡◌, refl, sym, ap, ◌∙◌}
use mathlib.Core.Bool.{false, ◌||◌}
use mathlib.Core.List.{List, [], ◌∷◌, ◌++◌}
use Prim.Native.Nat.{ℕ, suc, ◌+◌, ◌≤◌}
use native.Mathlib.Omega.{arith}
use lib.Dec.{eqb, ltb}
use lib.ListN.{length}
use borrow.Author.Tests.{eq-eqb, ltb-true, ltb-false, lt-leb, le-leb}
use Rattle.laws.specs.Every.{All, EachTwo}
use Rattle.laws.specs.Sorting.{merged}
use Rattle.laws.proofs.Cases.{Which, which, true-false}
use Rattle.laws.proofs.Cases.Which.{holds, fails}
use Rattle.laws.proofs.EveryLaws.{two-end}
use Rattle.laws.proofs.SortLaws.{merged-first, merged-later, merged-none}
use Rattle.laws.proofs.Pigeon.{few-below}
use Rattle.sets.specs.Set.{Set, Ascending, Proper}
use Rattle.sets.specs.Lent.{entries}
use Rattle.entries.specs.Lent.{by_index, entries_in_order}
use Rattle.entries.proofs.EntryLaws.{entries-long}
use Rattle.entries.proofs.OrderLaws.{in-order-snoc, in-order-long}
use Rattle.said.specs.Sets.{has, with_use, with_entry}
use Rattle.said.specs.Job.{Said}
use Rattle.said.proofs.IndexLaws.{with-known, with-new}
use Rattle.values.specs.declared.tables.SetTables.{SetTables}
use Rattle.values.specs.Lent.{Holds}

-- ---- one more entry

merged-entry : (k v : ℕ) (s : Set) → merged by_index s ((k, v) ∷ []) ≡ with_entry k v s
unfolding with_entry
merged-entry k v [] = unfold merged in refl
merged-entry k v (e ∷ s) = go (merged-entry k v s) (which (ltb k e.0))
  where
    go : merged by_index s ((k, v) ∷ []) ≡ with_entry k v s → Which (ltb k e.0) → merged by_index (e ∷ s) ((k, v) ∷ []) ≡ with_entry k v (e ∷ s)
    go rec (holds h) = rw (h, merged-later by_index e (k, v) s [] (unfold by_index in lt-leb e.0 k (ltb-true k e.0 h)), merged-none by_index (e ∷ s))
    go rec (fails h) = rw (h, merged-first by_index e (k, v) s [] (unfold by_index in le-leb e.0 k (ltb-false k e.0 h)), rec)

pub in-order-entry : (k v : ℕ) (s : Set) → entries_in_order (s ++ ((k, v) ∷ [])) ≡ with_entry k v (entries_in_order s)
in-order-entry k v s = in-order-snoc s (k, v) ∙ merged-entry k v (entries_in_order s)

-- ---- one more use

has-not : (q : ℕ) (l : List ℕ) → has q l ≡ false → All (λ x. x ≡ q → ⊥) l
unfolding has
has-not q [] h = tt
has-not q (x ∷ l) h = go (λ k. has-not q l k) (which (eqb q x)) h
  where
    go : (has q l ≡ false → All (λ y. y ≡ q → ⊥) l) → Which (eqb q x) → (eqb q x || has q l) ≡ false → (x ≡ q → ⊥) × All (λ y. y ≡ q → ⊥) l
    go rec (holds e) k = let f = rw e at k in let z : ◌≡◌ {A = ℕ} 0 1 = cc in absurd (omega arith)
    go rec (fails e) k = ((λ d. true-false (eq-eqb q x (sym d)) e), rec (rw e at k))

pub use-differ : (l : List ℕ) (q : ℕ) → EachTwo (λ x y. x ≡ y → ⊥) l → EachTwo (λ x y. x ≡ y → ⊥) (with_use l q)
use-differ l q h = go (which (has q l))
  where
    go : Which (has q l) → EachTwo (λ x y. x ≡ y → ⊥) (with_use l q)
    go (holds e) = rw (with-known l q e) h
    go (fails e) = rw (with-new l q e) (two-end (λ x y. x ≡ y → ⊥) l q h (has-not q l e))

-- ---- how many there are

few-entries : (t regions : ℕ) (s : Set) → t ≤ regions → Ascending t s → Proper regions s → t + length s ≤ regions
few-entries t regions [] l a p = omega arith
few-entries t regions (e ∷ s) l a p = omega (arith, a.0, few-entries (suc e.0) regions s (omega (arith, p.0.1)) a.1 p.1)

-- no more than there are regions
pub begun-few : {w : List ℕ} {t : SetTables} {s : Said} {sets uses start count : ℕ} → Holds w t s sets uses start count → count ≤ t.regions
begun-few {w} {t} {s} {sets} {uses} {start} {count} h =
    let long : length s.begun ≡ count = ap (λ (b : Set). length b) (sym h.begun-is) ∙ in-order-long (entries start count w) ∙ entries-long count start w in
    omega (
      arith,
      few-entries 0 (length s.used) s.begun (omega arith) h.good.rising h.good.proper,
      few-below t.regions s.used h.used_low h.used-differ,
    )
