-- The walk along a set's entries that writes its shape, from the last to the first. Assumes nothing.
use mathlib.Core.Path.{◌≡◌, refl, sym, ap, ◌∙◌}
use mathlib.Core.List.{List, [], ◌∷◌, ◌++◌}
use mathlib.Core.Logic.{⊎_elim}
use Prim.Native.Nat.{ℕ, zero, suc, ◌+◌, ◌-◌, ◌*◌, ◌/◌, ◌≤◌, ◌<◌}
use native.Mathlib.Omega.{arith}
use lib.ListN.{length, get_or, set, take, drop, replicate, length-replicate, length-set}
use Rattle.std.proofs.lemmas.List.{get_or_past, get_or-replicate}
use lib.Seq.{ext_get_or, get_or-set_same, get_or-set_other}
use Rattle.laws.specs.LentRange.{Only, seg}
use Rattle.laws.specs.Signed.{value, zero_word}
use Rattle.laws.proofs.Cases.{same_or_not, lt-or-ge}
use Rattle.laws.proofs.BoundedLaws.{length-tabulate, get_or-tabulate}
use Rattle.laws.proofs.RangeLaws.{length-seg, get_or-seg}
use Rattle.shapes.specs.Width.{width_of, cost_of}
use Rattle.shapes.proofs.WidthLaws.{none-cost}
use Rattle.sets.specs.Set.{Set, word_of}
use Rattle.groups.specs.Groups.{shape_of}
use Rattle.groups.proofs.PartLaws.{Around, front-part, front-length, between-at, only-between}
use Rattle.sets.specs.Lent.{entries, entries_at, count_of, set_of}
use Rattle.shaping.specs.Lent.{ShapedAt, ShapedFrom}
use Rattle.sets.proofs.SetLaws.{entries-cons, entries_none, word-head, word-tail}

-- the cost of the width of region k's value
abbrev pub width_in : Set → ℕ → ℕ
width_in s k = cost_of (width_of (value (word_of s k)))

word-nowhere : (i : ℕ) → word_of [] i ≡ zero_word
unfolding word_of
word-nowhere i = refl

pub zero-at : (n : ℕ) {w : List ℕ} → w ≡ replicate n 0 → (i : ℕ) → get_or w i 0 ≡ 0
zero-at n {w} e i = ap (λ (x : List ℕ). get_or x i 0) e ∙ ⊎_elim
    (λ (h : i < n). get_or-replicate n i 0 0 h)
    (λ h. get_or_past (replicate n 0) i 0 (omega (arith, length-replicate {A = ℕ} n 0)))
    (lt-or-ge i n)

-- no entry is walked yet
pub width-start : (a m : ℕ) (w : List ℕ) (i : ℕ) → 0 ≡ width_in (entries a (m - m) w) i
width-start a m w i =
    let z : m - m ≡ 0 = omega arith in
    sym (rw (z, entries_none a w) (none-cost (word_of [] i) (word-nowhere i)))

module _ (w : List ℕ) (m j : ℕ) (h : 0 < j) (l : j ≤ m) where
  abbrev head : ℕ × ℕ
  head = (get_or w (2 * (j - 1)) 0, get_or w (2 * (j - 1) + 1) 0)

  split : entries (2 * (j - 1)) (m - (j - 1)) w ≡ head ∷ entries (2 * j) (m - j) w
  split =
      let e : 2 * (j - 1) + 2 ≡ 2 * j = omega arith in
      let f : m - (j - 1) - 1 ≡ m - j = omega arith in
      entries-cons (2 * (j - 1)) (m - (j - 1)) w (omega arith) ∙ rw (e, f)

  -- a region that this entry does not name
  pub width-other : (i : ℕ) → (get_or w (2 * (j - 1)) 0 ≡ i → ⊥) → width_in (entries (2 * j) (m - j) w) i ≡ width_in (entries (2 * (j - 1)) (m - (j - 1)) w) i
  width-other i n = sym (rw split (ap (λ (x : ℕ). cost_of (width_of (value x))) (word-tail head (entries (2 * j) (m - j) w) i n)))

  pub width-here : cost_of (width_of (value (get_or w (2 * (j - 1) + 1) 0))) ≡ width_in (entries (2 * (j - 1)) (m - (j - 1)) w) (get_or w (2 * (j - 1)) 0)
  width-here = sym (rw split (ap (λ (x : ℕ). cost_of (width_of (value x))) (word-head head (entries (2 * j) (m - j) w) (get_or w (2 * (j - 1)) 0) refl)))

  -- the entry's region has its width
  pub width-more : (shape : List ℕ) → ((i : ℕ) → i < length shape → get_or shape i 0 ≡ width_in (entries (2 * j) (m - j) w) i) → get_or w (2 * (j - 1)) 0 < length shape
      → (v : ℕ) → v ≡ cost_of (width_of (value (get_or w (2 * (j - 1) + 1) 0)))
      → (i : ℕ) → i < length (set shape (get_or w (2 * (j - 1)) 0) v) → get_or (set shape (get_or w (2 * (j - 1)) 0) v) i 0 ≡ width_in (entries (2 * (j - 1)) (m - (j - 1)) w) i
  width-more shape s b v e i p = ⊎_elim
      (λ (n : get_or w (2 * (j - 1)) 0 ≡ i). rw (← n) (get_or-set_same shape (get_or w (2 * (j - 1)) 0) v 0 b ∙ e ∙ width-here))
      (λ n. get_or-set_other shape (get_or w (2 * (j - 1)) 0) i v 0 (λ x. n (omega arith)) ∙ s i (omega (arith, p, length-set shape (get_or w (2 * (j - 1)) 0) v)) ∙ width-other i n)
      (same_or_not (get_or w (2 * (j - 1)) 0) i)

pub width-done : (w shape : List ℕ) (m n : ℕ) → length shape ≡ n → ((i : ℕ) → i < length shape → get_or shape i 0 ≡ width_in (entries (2 * 0) (m - 0) w) i) → shape ≡ shape_of n (entries 0 m w)
unfolding shape_of
width-done w shape m n l s =
    let e : m - 0 ≡ m = omega arith in
    ext_get_or 0 shape (shape_of n (entries 0 m w)) (l ∙ sym (length-tabulate 0 n (width_in (entries 0 m w))))
    (λ i p.
    let z : i ≡ 0 + i = omega arith in
    rw e at (s i p) ∙ ap (width_in (entries 0 m w)) z ∙ sym (get_or-tabulate 0 n (width_in (entries 0 m w)) 0 i (omega arith)))

-- ---- into the words from a place on

-- entries that stand in a part of the words
entries-part : (n a b : ℕ) (u w : List ℕ) → ((k : ℕ) → k < 2 * n → get_or u (a + k) 0 ≡ get_or w (b + k) 0) → entries a n u ≡ entries b n w
unfolding entries
entries-part zero a b u w h = refl
entries-part (suc n) a b u w h =
    let p : get_or u a 0 ≡ get_or w b 0 = let x : a + 0 ≡ a = omega arith in let y : b + 0 ≡ b = omega arith in rw (x, y) at (h 0 (omega arith)) in
    rw (
      p,
      h 1 (omega arith),
      entries-part n (a + 2) (b + 2) u w (λ k l.
          let x : a + (2 + k) ≡ a + 2 + k = omega arith in
          let y : b + (2 + k) ≡ b + 2 + k = omega arith in
          rw (x, y) at (h (2 + k) (omega arith))),
    ) refl

-- m entries from `from` on, among the words that stand before
abbrev pub part : ℕ → ℕ → List ℕ → List ℕ
part from m front = take (from + 2 * m - from) (drop from front)

module _ {w front behind : List ℕ} {from m at regions : ℕ} (r : Around at (at + regions) w front behind) (before : from + 2 * m ≤ at) (shape : List ℕ) (long : length shape ≡ regions) where
  pub from-shaped : shape ≡ shape_of regions (entries 0 (length (part from m front) / 2) (part from m front)) → ShapedFrom from m at regions w (front ++ (shape ++ behind))
  from-shaped s =
      let half : length (part from m front) / 2 ≡ m = omega (arith, front-length r from (from + 2 * m) before) in
      let to : at + length shape ≡ at + regions = omega arith in
      let o : Only ((at, regions) ∷ []) w (front ++ (shape ++ behind)) = rw long at (only-between r shape to) in
      record {
        only = o;
        is = ext_get_or 0 (seg at regions (front ++ (shape ++ behind))) shape (length-seg at regions (front ++ (shape ++ behind)) (omega (arith, o.long, r.behind-long)) ∙ sym long)
            (λ k h.
            let b : k < regions = omega (arith, length-seg at regions (front ++ (shape ++ behind)) (omega (arith, o.long, r.behind-long))) in
            get_or-seg at regions (front ++ (shape ++ behind)) k b ∙ between-at r shape behind to k (omega arith))
            ∙ s ∙ rw half (ap (shape_of regions) (entries-part m 0 from (part from m front) w (λ k l.
            let z : 0 + k ≡ k = omega arith in
            rw z (front-part r from (from + 2 * m) k (omega arith) before))));
      }

-- ---- the set of a number

pub set-shaped : {old new : List ℕ} {index x at regions from m : ℕ} → from ≡ entries_at index x old → m ≡ count_of index x old → ShapedFrom from m at regions old new → ShapedAt index x at regions old new
unfolding set_of
set-shaped f g s = record { only = s.only; is = s.is ∙ rw (f, g) }
