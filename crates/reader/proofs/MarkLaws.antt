-- Marks by bits, and the loop that marks region indexes. Assumes nothing.
use mathlib.Core.Path.{◌≡◌, sym, ap, ◌∙◌}
use mathlib.Core.Bool.{true, false}
use mathlib.Core.List.{List, [], ◌∷◌}
use mathlib.Core.Logic.{◌≢◌, ⊎_elim}
use Prim.Native.Nat.{ℕ, suc, ◌+◌, ◌-◌, ◌*◌, ◌/◌, ◌%◌, ◌^◌, ◌≤◌, ◌<◌}
use native.Mathlib.Nat.{one-mul, zero-div, div-eq_of_lt, div_self, mul-div_cancel, mul-mod_left, pow-suc}
use native.Mathlib.Numerals.{add-one}
use native.Mathlib.Omega.{arith}
use lib.Bits.{bit_or, or_shr, or_mod, or_zero_r}
use lib.Dec.{eqb}
use lib.ListN.{length, get_or, set, drop, replicate, length-set, length-replicate}
use lib.Pow.{pow_pos, pow-lt, pow-add, shl_exact}
use lib.Seq.{get_or-set_same, get_or-set_other, drop-cons, drop-length}
use borrow.Author.Count.{below_more}
use borrow.Author.Tests.{eqb-true, eqb-false, eq-eqb, ne_eqb, lt-ltb, le-ltb}
use Rattle.laws.specs.Bytes.{be}
use Rattle.laws.proofs.Cases.{lt-or-ge, same_or_not, Which, which}
use Rattle.laws.proofs.Cases.Which.{holds, fails}
use Rattle.reader.specs.Store.{words, are_columns_ok}
use Rattle.reader.specs.LentMarks.{mark_at, with_mark, NoMarks, with_marks}
use Rattle.reader.proofs.StoreLaws.{words-length, words-at, ok-below, ok-once, ok-intro, zeros-at}

-- ---- one bit

-- as the code computes it
pub bit_is : (k : ℕ) → k < 32 → 1 * 2 ^ k % 2 ^ 32 ≡ 2 ^ k
bit_is k h = shl_exact {a = 1} 1 k 32 (omega arith) (omega arith) ∙ one-mul (2 ^ k)

bit-same : (k : ℕ) → 2 ^ k / 2 ^ k % 2 ≡ 1
bit-same k = ap (λ (x : ℕ). x % 2) (div_self (pow_pos k))

bit-other : (k j : ℕ) → k ≢ j → 2 ^ k / 2 ^ j % 2 ≡ 0
bit-other k j d = ⊎_elim
    (λ (l : k < j). ap (λ (x : ℕ). x % 2) (div-eq_of_lt (pow-lt l)))
    (λ l.
    let e : k ≡ suc (k - 1 - j) + j = omega arith in
    ap (λ (i : ℕ). 2 ^ i / 2 ^ j % 2) e
    ∙ ap (λ (x : ℕ). x / 2 ^ j % 2) (pow-add 2 (suc (k - 1 - j)) j)
    ∙ ap (λ (x : ℕ). x % 2) (mul-div_cancel (2 ^ suc (k - 1 - j)) (pow_pos j))
    ∙ ap (λ (x : ℕ). x % 2) (pow-suc 2 (k - 1 - j))
    ∙ mul-mod_left (2 ^ (k - 1 - j)) 2)
    (lt-or-ge k j)

-- bit j of a word in which bit k was set
or-bit : (a k j : ℕ) → bit_or a (2 ^ k) / 2 ^ j % 2 ≡ bit_or (a / 2 ^ j % 2) (2 ^ k / 2 ^ j % 2)
or-bit a k j = ap (λ (x : ℕ). x % 2) (or_shr a (2 ^ k) j) ∙ or_mod (a / 2 ^ j) (2 ^ k / 2 ^ j) 1

or-one : (b : ℕ) → b < 2 → bit_or b 1 ≡ 1
or-one b h = ⊎_elim (λ (e : b ≡ 0). rw e) (λ d. let e : b ≡ 1 = omega arith in rw e) (same_or_not b 0)

-- ---- one mark

module _ (w : List ℕ) (x : ℕ) where
  pub mark_made : x / 32 < length w → mark_at (with_mark w x) x ≡ 1
  unfolding mark_at with_mark
  mark_made l =
      ap (λ (a : ℕ). a / 2 ^ (x % 32) % 2) (get_or-set_same w (x / 32) (bit_or (get_or w (x / 32) 0) (2 ^ (x % 32))) 0 l)
      ∙ or-bit (get_or w (x / 32) 0) (x % 32) (x % 32)
      ∙ ap (bit_or (get_or w (x / 32) 0 / 2 ^ (x % 32) % 2)) (bit-same (x % 32))
      ∙ or-one (get_or w (x / 32) 0 / 2 ^ (x % 32) % 2) (omega arith)

  pub mark-other : x / 32 < length w → (v : ℕ) → v ≢ x → mark_at (with_mark w x) v ≡ mark_at w v
  unfolding mark_at with_mark
  mark-other l v d = ⊎_elim
      (λ (e : v / 32 ≡ x / 32).
      let k : x % 32 ≢ v % 32 = (λ f. d (omega arith)) in
      ap (λ (i : ℕ). get_or (set w (x / 32) (bit_or (get_or w (x / 32) 0) (2 ^ (x % 32)))) i 0 / 2 ^ (v % 32) % 2) e
      ∙ ap (λ (a : ℕ). a / 2 ^ (v % 32) % 2) (get_or-set_same w (x / 32) (bit_or (get_or w (x / 32) 0) (2 ^ (x % 32))) 0 l)
      ∙ or-bit (get_or w (x / 32) 0) (x % 32) (v % 32)
      ∙ ap (bit_or (get_or w (x / 32) 0 / 2 ^ (v % 32) % 2)) (bit-other (x % 32) (v % 32) k)
      ∙ or_zero_r (get_or w (x / 32) 0 / 2 ^ (v % 32) % 2)
      ∙ ap (λ (i : ℕ). get_or w i 0 / 2 ^ (v % 32) % 2) (sym e))
      (λ e. ap (λ (a : ℕ). a / 2 ^ (v % 32) % 2) (get_or-set_other w (x / 32) (v / 32) (bit_or (get_or w (x / 32) 0) (2 ^ (x % 32))) 0 e))
      (same_or_not (v / 32) (x / 32))

  pub mark-long : length (with_mark w x) ≡ length w
  unfolding with_mark
  mark-long = length-set w (x / 32) (bit_or (get_or w (x / 32) 0) (2 ^ (x % 32)))

  -- as the code computes them
  pub mark-is : (a : ℕ) → a ≡ get_or w (x / 32) 0 → set w (x / 32) (bit_or a (1 * 2 ^ (x % 32) % 2 ^ 32)) ≡ with_mark w x
  unfolding with_mark
  mark-is a e = rw (e, bit_is (x % 32) (omega arith))

  pub mark-new : (a : ℕ) → a ≡ get_or w (x / 32) 0 → eqb (a / 2 ^ (x % 32) % 2) 0 ≡ eqb (mark_at w x) 0
  unfolding mark_at
  mark-new a e = rw e

-- words of zeros have no mark
pub no-marks : (regions n : ℕ) → ((x : ℕ) → x < regions → x < 65536 → x / 32 < n) → NoMarks regions (replicate n 0)
unfolding mark_at
no-marks regions n h = record {
  room = λ x l m. omega (arith, h x l m, length-replicate {A = ℕ} n 0);
  none = λ x. rw (zeros-at n (x / 32), zero-div (2 ^ (x % 32)));
}

-- ---- the loop: the marks say which of the first j indexes were seen; they are below the count, and none was named twice

pub record Seen (l : List ℕ) (regions : ℕ) (old marks : List ℕ) (j : ℕ) : Type 0 where
  pub within : j ≤ length l
  pub long : length marks ≡ length old
  pub room : (x : ℕ) → x < regions → x < 65536 → x / 32 < length marks
  pub below : (k : ℕ) → k < j → get_or l k 0 < regions
  pub once : (k : ℕ) → k < j → (i : ℕ) → i < k → get_or l k 0 ≡ get_or l i 0 → ⊥
  pub marked : (k : ℕ) → k < j → mark_at marks (get_or l k 0) ≡ 1
  pub only : (v : ℕ) → mark_at marks v ≢ 0 → (k : ℕ) × (k < j) × (get_or l k 0 ≡ v)
  pub left : with_marks regions (drop j l) marks ≡ with_marks regions l old

module _ (l : List ℕ) (regions : ℕ) where
  module _ {old marks : List ℕ} {j : ℕ} (s : Seen l regions old marks j) where
    -- the end
    seen_done : length l ≤ j → (true ≡ are_columns_ok regions l) × (marks ≡ with_marks regions l old)
    unfolding with_marks
    seen_done h =
        let e : j ≡ length l = omega (arith, s.within) in
        let d : drop j l ≡ [] = ap (λ (i : ℕ). drop i l) e ∙ drop-length l in
        (sym (ok-intro regions l (λ k p. s.below k (omega arith)) (λ i k p q. s.once k (omega arith) i p)), (rw d at s.left))

    module _ (h : j < length l) where
      -- what the next index does to the marks
      left-next : with_marks regions (get_or l j 0 ∷ drop (suc j) l) marks ≡ with_marks regions l old
      left-next = ap (λ (r : List ℕ). with_marks regions r marks) (sym (drop-cons l j 0 h)) ∙ s.left

      -- one that is too large
      seen-large : regions ≤ get_or l j 0 → (false ≡ are_columns_ok regions l) × (marks ≡ with_marks regions l old)
      unfolding with_marks
      seen-large b = (go (which (are_columns_ok regions l)), (rw (le-ltb (get_or l j 0) regions b) at left-next))
        where
          go : Which (are_columns_ok regions l) → false ≡ are_columns_ok regions l
          go (holds t) = absurd (omega (arith, ok-below regions l t j h))
          go (fails t) = sym t

      -- one that has its mark
      seen_twice : get_or l j 0 < regions → mark_at marks (get_or l j 0) ≢ 0 → (false ≡ are_columns_ok regions l) × (with_mark marks (get_or l j 0) ≡ with_marks regions l old)
      unfolding with_marks
      seen_twice b d = (go (which (are_columns_ok regions l)), (rw (lt-ltb (get_or l j 0) regions b, ne_eqb (mark_at marks (get_or l j 0)) 0 d) at left-next))
        where
          go : Which (are_columns_ok regions l) → false ≡ are_columns_ok regions l
          go (holds t) = let o = s.only (get_or l j 0) d in absurd (ok-once regions l t o.0 j o.1 h (sym o.2))
          go (fails t) = sym t

      module _ (f : get_or l j 0 < 65536) (b : get_or l j 0 < regions) (z : mark_at marks (get_or l j 0) ≡ 0) where
        new : (i : ℕ) → i < j → get_or l j 0 ≡ get_or l i 0 → ⊥
        new i p e = let m = s.marked i p in let q = ap (mark_at marks) e in omega arith

        at : get_or l j 0 / 32 < length marks
        at = s.room (get_or l j 0) b f

        owner : (v : ℕ) → mark_at (with_mark marks (get_or l j 0)) v ≢ 0 → Which (eqb v (get_or l j 0)) → (k : ℕ) × (k < j + 1) × (get_or l k 0 ≡ v)
        owner v n (holds t) = (j, omega arith, sym (eqb-true v (get_or l j 0) t))
        owner v n (fails t) =
            let o = s.only v (λ e. n (mark-other marks (get_or l j 0) at v (eqb-false v (get_or l j 0) t) ∙ e)) in
            (o.0, omega (arith, o.1), o.2)

        left-more : with_marks regions (drop (j + 1) l) (with_mark marks (get_or l j 0)) ≡ with_marks regions l old
        unfolding with_marks
        left-more =
            ap (λ (i : ℕ). with_marks regions (drop i l) (with_mark marks (get_or l j 0))) (add-one j)
            ∙ (rw (lt-ltb (get_or l j 0) regions b, eq-eqb (mark_at marks (get_or l j 0)) 0 z) at left-next)

        seen_more : Seen l regions old (with_mark marks (get_or l j 0)) (j + 1)
        seen_more = record {
          within = omega arith;
          long = mark-long marks (get_or l j 0) ∙ s.long;
          room = λ x p q. omega (arith, s.room x p q, mark-long marks (get_or l j 0));
          below = below_more _ _ s.below b;
          once = below_more _ _ s.once new;
          marked = below_more _ _
              (λ k p. mark-other marks (get_or l j 0) at (get_or l k 0) (λ e. new k p (sym e)) ∙ s.marked k p)
              (mark_made marks (get_or l j 0) at);
          only = λ v n. owner v n (which (eqb v (get_or l j 0)));
          left = left-more;
        }

-- the same, of the indexes that stand in a store from at on, x the one that was read last
module _ (s : List ℕ) (at n regions : ℕ) where
  module _ {old marks : List ℕ} {j : ℕ} (v : Seen (words s at n) regions old marks j) where
    pub index-done : n ≤ j → (true ≡ are_columns_ok regions (words s at n)) × (marks ≡ with_marks regions (words s at n) old)
    index-done h = seen_done (words s at n) regions v (omega (arith, words-length s at n))

    module _ {x : ℕ} (h : j < n) (e : x ≡ be 2 s (at + 2 * j)) where
      index_is : get_or (words s at n) j 0 ≡ x
      index_is = words-at s at n j h ∙ sym e

      inside : j < length (words s at n)
      inside = omega (arith, words-length s at n)

      pub index-large : regions ≤ x → (false ≡ are_columns_ok regions (words s at n)) × (marks ≡ with_marks regions (words s at n) old)
      index-large b = seen-large (words s at n) regions v inside (omega (arith, index_is))

      pub index-room : x < 65536 → x < regions → x / 32 < length marks
      index-room f b = v.room x b f

      pub index-twice : {marks' : List ℕ} → x < regions → mark_at marks x ≢ 0 → marks' ≡ with_mark marks x → (false ≡ are_columns_ok regions (words s at n)) × (marks' ≡ with_marks regions (words s at n) old)
      index-twice b d m =
          let r = rw index_is at (seen_twice (words s at n) regions v inside (omega (arith, index_is)) (rw index_is d)) in
          (r.0, m ∙ r.1)

      pub index-more : {marks' : List ℕ} → x < 65536 → x < regions → mark_at marks x ≡ 0 → marks' ≡ with_mark marks x → Seen (words s at n) regions old marks' (j + 1)
      index-more f b z m =
          rw m (rw index_is at (seen_more (words s at n) regions v inside (omega (arith, index_is)) (omega (arith, index_is)) (rw index_is z)))
