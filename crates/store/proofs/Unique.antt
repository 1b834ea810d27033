-- What `mark_shape` promises fixes the marks; what `draft` promises fixes its numbers, which regions are marked, and the number of each. Assumes
-- nothing.
use mathlib.Core.Path.{◌≡◌, sym, ap, ◌∙◌}
use mathlib.Core.List.{List}
use mathlib.Core.Logic.{⊎_elim}
use Prim.Native.Nat.{ℕ, ◌+◌, ◌*◌, ◌<◌}
use lib.ListN.{length, get_or, get_or-eq_default}
use lib.Seq.{ext_get_or}
use Rattle.laws.specs.Bounded.{up_to}
use Rattle.laws.specs.Sorting.{keep}
use Rattle.laws.proofs.Cases.{lt-or-ge, same_or_not}
use Rattle.laws.proofs.EveryLaws.{all-intro}
use Rattle.laws.proofs.SortLaws.{keep_same}
use Rattle.store.specs.Lent.{marked_in, sizes_at, sum_of, Named, Drafted}

pub named-once : {s old u v : List ℕ} → Named s old u → Named s old v → u ≡ v
named-once {s} {old} {u} {v} p q = ext_get_or 0 u v (p.long ∙ sym q.long) (λ k _. same k)
  where
    same : (k : ℕ) → get_or u k 0 ≡ get_or v k 0
    same k = ⊎_elim
        (λ (z : get_or s k 0 ≡ 0). p.none k z ∙ sym (q.none k z))
        (λ d. ⊎_elim
        (λ (l : k < length s). p.some k l d ∙ sym (q.some k l d))
        (λ l. absurd (d (get_or-eq_default s 0 l)))
        (lt-or-ge k (length s)))
        (same_or_not (get_or s k 0) 0)

-- what two drafts of the same groups have in common
pub record DraftedOnce (regions : ℕ) (marks numbers marks' numbers' : List ℕ) (bytes runs kept bytes' runs' kept' : ℕ) : Type 0 where
  pub bytes_same : bytes ≡ bytes'
  pub runs_same : runs ≡ runs'
  pub kept_same : kept ≡ kept'
  pub marked-same : (r : ℕ) → marked_in marks r ≡ marked_in marks' r
  pub numbers-same : (r : ℕ) → r < regions → get_or numbers r 0 ≡ get_or numbers' r 0

pub drafted-once : {axes : ℕ} {w : List ℕ} {regions groups count : ℕ} {marks numbers marks' numbers' : List ℕ} {bytes runs kept bytes' runs' kept' : ℕ}
    → Drafted axes w regions groups count marks numbers bytes runs kept → Drafted axes w regions groups count marks' numbers' bytes' runs' kept'
    → DraftedOnce regions marks numbers marks' numbers' bytes runs kept bytes' runs' kept'
drafted-once {axes} {w} {regions} {groups} {count} {marks} {numbers} {marks'} {numbers'} {bytes} {runs} {kept} {bytes'} {runs'} {kept'} p q =
    let marked : (r : ℕ) → marked_in marks r ≡ marked_in marks' r = (λ r. p.marked.is r ∙ sym (q.marked.is r)) in
    let before : (n : ℕ) → length (keep (marked_in marks) (up_to n)) ≡ length (keep (marked_in marks') (up_to n)) =
    (λ n. ap (λ (l : List ℕ). length l) (keep_same (marked_in marks) (marked_in marks') (up_to n) (all-intro (λ r. marked_in marks r ≡ marked_in marks' r) (up_to n) 0 (λ i _. marked (get_or (up_to n) i 0))))) in
    let runs-are = p.runs-is ∙ sym q.runs-is in
    let kept-are = p.numbered.all ∙ before regions ∙ sym q.numbered.all in
    record {
      bytes_same = p.bytes-is
          ∙ ap (λ (k : ℕ). 8 + 4 * k + (4 + 6 * axes * kept) + sum_of (sizes_at regions groups count w)) runs-are
          ∙ ap (λ (k : ℕ). 8 + 4 * runs' + (4 + 6 * axes * k) + sum_of (sizes_at regions groups count w)) kept-are
          ∙ sym q.bytes-is;
      runs_same = runs-are;
      kept_same = kept-are;
      marked-same = marked;
      numbers-same = λ r l. p.numbered.at r l ∙ before r ∙ sym (q.numbered.at r l);
    }
