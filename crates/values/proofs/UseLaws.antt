-- Regions in use, and entries put into a set. Assumes nothing.
use mathlib.Core.Path.{◌≡◌, refl, sym, ◌∙◌}
use mathlib.Core.Bool.{true, false}
use mathlib.Core.List.{List, [], ◌∷◌, ◌++◌}
use mathlib.Core.Logic.{⊎_elim, ◌≢◌}
use Prim.Native.Nat.{ℕ, suc, ◌+◌, ◌-◌, ◌*◌, ◌≤◌, ◌<◌}
use native.Mathlib.Omega.{arith}
use lib.ListN.{length, get_or, set, length-set, length-append, get_or-append}
use lib.Seq.{get_or-set_same, get_or-set_other, get_or_at}
use borrow.Author.Tests.{eq-eqb, ne_eqb}
use Rattle.laws.specs.LentRange.{Only}
use Rattle.laws.proofs.Cases.{Which, which, lt-or-ge, same_or_not}
use Rattle.laws.proofs.Cases.Which.{holds, fails}
use Rattle.laws.proofs.RangeLaws.{only-refl, only-trans, only_set}
use Rattle.said.specs.Sets.{has, index_in}
use Rattle.values.specs.Lent.{slot_in, Uses, UsedNow, PutEntry}
use Rattle.entries.proofs.EntryLaws.{entries-push}
use Rattle.said.proofs.IndexLaws.{has-snoc, index_below, index-snoc-old, index-snoc-new, with-known, with-new}

-- ---- one more use

slot-zero : (q : ℕ) (l : List ℕ) → slot_in q l ≡ 0 → has q l ≡ false
unfolding slot_in
slot-zero q l e = go (which (has q l))
  where
    go : Which (has q l) → has q l ≡ false
    go (holds h) = let f = rw h at e in absurd (omega arith)
    go (fails h) = h

slot-some : (q : ℕ) (l : List ℕ) → (slot_in q l ≡ 0 → ⊥) → has q l ≡ true
unfolding slot_in
slot-some q l n = go (which (has q l))
  where
    go : Which (has q l) → has q l ≡ true
    go (holds h) = h
    go (fails h) = absurd (n (rw h))

slot_is : (q : ℕ) (l : List ℕ) → has q l ≡ true → slot_in q l ≡ suc (index_in q l)
unfolding slot_in
slot_is q l h = rw h

slot-old : (q p : ℕ) (l : List ℕ) → (q ≡ p → ⊥) → slot_in q (l ++ (p ∷ [])) ≡ slot_in q l
unfolding slot_in
slot-old q p l n = go (which (has q l))
  where
    go : Which (has q l) → slot_in q (l ++ (p ∷ [])) ≡ slot_in q l
    go (holds h) = rw (has-snoc q p l, h, index-snoc-old q p l h)
    go (fails h) = rw (has-snoc q p l, h, ne_eqb q p n)

slot-new : (q : ℕ) (l : List ℕ) → has q l ≡ false → slot_in q (l ++ (q ∷ [])) ≡ suc (length l)
unfolding slot_in
slot-new q l h = rw (has-snoc q q l, h, eq-eqb q q refl, index-snoc-new q l h)

module _ (slot used regions count q : ℕ) (l w : List ℕ) (n : length l ≡ count) (u : Uses w slot used regions l) (b : q < regions) where
  pub use-known : (get_or w (slot + q) 0 ≡ 0 → ⊥) → UsedNow slot used regions count q l w w (get_or w (slot + q) 0 - 1)
  use-known s =
      let h = slot-some q l (λ e. s (u.slots q b ∙ e)) in
      let e = u.slots q b ∙ slot_is q l h in
      let k = with-known l q h in
      record {
        only = only-refl ((slot, regions) ∷ (used + count, 1) ∷ []) w;
        uses = rw k u;
        index = rw k (omega arith);
        grown = λ f. absurd (omega (arith, index_below q l h));
        same = λ f. rw k n;
      }

  pub use-new : slot + regions ≤ length w → used + count < slot → get_or w (slot + q) 0 ≡ 0
      → UsedNow slot used regions count q l w (set (set w (slot + q) (count + 1)) (used + count) q) count
  use-new room apart s =
      let h = slot-zero q l (sym (u.slots q b) ∙ s) in
      let k = with-new l q h in
      let w₁ = set w (slot + q) (count + 1) in
      let w₂ = set w₁ (used + count) q in
      let rs : List (ℕ × ℕ) = (slot, regions) ∷ (used + count, 1) ∷ [] in
      record {
        only = only-trans
            (only_set rs w (slot + q) (count + 1) (λ o. omega (arith, o.0.apart (omega arith))))
            (only_set rs w₁ (used + count) q (λ o. omega (arith, o.1.0.apart (omega arith))));
        uses = rw k (record {
          slots = λ p a. get_or-set_other w₁ (used + count) (slot + p) q 0 (omega arith)
              ∙ ⊎_elim
              (λ (e : p ≡ q). rw e (get_or-set_same w (slot + q) (count + 1) 0 (omega arith) ∙ sym (slot-new q l h ∙ omega arith)))
              (λ (d : p ≢ q). get_or-set_other w (slot + q) (slot + p) (count + 1) 0 (λ e. d (omega arith)) ∙ u.slots p a ∙ sym (slot-old p q l d))
              (same_or_not p q);
          table = λ p a. ⊎_elim
              (λ (f : p < length l). get_or-set_other w₁ (used + count) (used + p) q 0 (omega arith)
              ∙ get_or-set_other w (slot + q) (used + p) (count + 1) 0 (omega arith)
              ∙ u.table p f ∙ sym (get_or-append l (q ∷ []) 0 p f))
              (λ (f : length l ≤ p).
              let e : p ≡ count = omega (arith, length-append l (q ∷ [])) in
              rw e (get_or-set_same w₁ (used + count) q 0 (omega (arith, length-set w (slot + q) (count + 1)))
              ∙ sym (get_or_at l q [] 0 count n)))
              (lt-or-ge p (length l));
        });
        index = rw k (sym (index-snoc-new q l h ∙ n));
        grown = λ _. rw (k, length-append l (q ∷ [])) (omega arith);
        same = λ f. absurd (f refl);
      }

pub use-set : (slot used regions count q v x : ℕ) (w : List ℕ) → q < regions → Only ((slot, regions) ∷ (used + count, 1) ∷ []) w (set (set w (slot + q) v) (used + count) x)
use-set slot used regions count q v x w b = only-trans
    (only_set ((slot, regions) ∷ (used + count, 1) ∷ []) w (slot + q) v (λ o. omega (arith, o.0.apart (omega arith))))
    (only_set ((slot, regions) ∷ (used + count, 1) ∷ []) (set w (slot + q) v) (used + count) x (λ o. omega (arith, o.1.0.apart (omega arith))))

-- ---- an entry put behind the others

pub entry-put : (start count k v : ℕ) (old : List ℕ) → start + 2 * count + 2 ≤ length old
    → PutEntry start count k v old (set (set old (start + 2 * count) k) (start + 2 * count + 1) v)
entry-put start count k v old room =
    let rs : List (ℕ × ℕ) = (start + 2 * count, 2) ∷ [] in
    record {
      only = only-trans
          (only_set rs old (start + 2 * count) k (λ o. omega (arith, o.0.apart (omega arith))))
          (only_set rs (set old (start + 2 * count) k) (start + 2 * count + 1) v (λ o. omega (arith, o.0.apart (omega arith))));
      is = entries-push count start old (start + 2 * count) (start + 2 * count + 1) k v refl refl (omega arith);
    }
