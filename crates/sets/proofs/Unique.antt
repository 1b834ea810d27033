-- What is promised of sorted numbers, of numbers counted up and of ids fixes what is left: all but the scratch of a sort, and but where the numbers
-- of sets stand that are not the first of their like. Assumes nothing.
use mathlib.Core.Path.{◌≡◌, sym, ◌∙◌}
use mathlib.Core.List.{List, [], ◌∷◌}
use Prim.Native.Nat.{ℕ}
use Rattle.laws.specs.LentRange.{Only, seg}
use Rattle.laws.specs.Sorting.{keep}
use Rattle.laws.proofs.RangeLaws.{only-swap}
use Rattle.laws.proofs.OnceLaws.{only-both, only_same, words_same, seg-once}
use Rattle.sets.specs.Lent.{SortedAt, CountedUp, Identified, is_first_of_like}

-- two results differ in the words from `tmp` on alone
pub sorted-once : {index at n tmp : ℕ} {old u v : List ℕ} → SortedAt index at n tmp old u → SortedAt index at n tmp old v → Only ((tmp, n) ∷ []) u v
sorted-once {index} {at} {n} {tmp} {old} {u} {v} p q = only_same (only-both p.only q.only) (words_same at n u v (q.sorts.is ∙ sym p.sorts.is))

pub counted-once : {at n : ℕ} {old u v : List ℕ} → CountedUp at n old u → CountedUp at n old v → u ≡ v
counted-once p q = seg-once p.only q.only (p.is ∙ sym q.is)

-- two results differ in the words from `at` on alone, and there the firsts of their like stand in one order
pub identified-once : {index n at first ids : ℕ} {old u v : List ℕ} {r s : ℕ} → Identified index n at first ids old u r → Identified index n at first ids old v s
    → (r ≡ s) × Only ((at, n) ∷ []) u v × (keep (is_first_of_like index n old) (seg at n u) ≡ keep (is_first_of_like index n old) (seg at n v))
identified-once {index} {n} {at} {first} {ids} {old} {u} {v} p q = (
  p.count ∙ sym q.count,
  only_same
      (only-swap (only_same (only-swap (only-both p.only q.only)) (λ k l. q.firsts k l ∙ sym (p.firsts k l))))
      (words_same ids n u v (q.given ∙ sym p.given)),
  p.firsts-line ∙ sym q.firsts-line,
)
