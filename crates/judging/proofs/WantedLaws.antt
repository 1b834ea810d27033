-- What a set names, by coordinates, against its entries in work. Assumes nothing.
use mathlib.Core.Path.{◌≡◌, refl, sym, ap, ◌∙◌}
use mathlib.Core.Bool.{true, false}
use mathlib.Core.List.{List, [], ◌∷◌}
use mathlib.Core.Logic.{◌⊎◌, inl, inr}
use Prim.Native.Nat.{ℕ, zero, suc, ◌+◌, ◌-◌, ◌*◌, ◌<◌}
use native.Mathlib.Omega.{arith}
use lib.Dec.{eqb}
use lib.IntN.{pos}
use lib.ListN.{get_or}
use borrow.Author.Tests.{eqb-true, eq-eqb}
use Rattle.laws.specs.Signed.{value, zero_word}
use Rattle.laws.proofs.Cases.{and-true, same_or_not, true-false, Which, which}
use Rattle.laws.proofs.Cases.Which.{holds, fails}
use Rattle.sets.specs.Set.{Set, word_of}
use Rattle.sets.specs.Lent.{entries}
use Rattle.sets.proofs.SetLaws.{entries-cons, entries_none, word-head, word-tail}
use Rattle.said.specs.Job.{Said}
use Rattle.stores.specs.Coordinates.{are_same_bytes, wanted}
use Rattle.call.specs.Build.{coords_in_use}
use Rattle.giving.specs.declared.entries.Aims.{Aims}
use Rattle.giving.specs.Lent.{aim_at, aim}
use Rattle.giving.proofs.LayLaws.{aim-here, aim-else, aim-none}
use Rattle.judging.specs.Judge.{named_in}

-- ---- the test of equal bytes

bytes-true : (l m : List ℕ) → are_same_bytes l m ≡ true → l ≡ m
unfolding are_same_bytes
bytes-true [] [] h = refl
bytes-true [] (y ∷ m) h = let z : ◌≡◌ {A = ℕ} 0 1 = cc in absurd (omega arith)
bytes-true (x ∷ l) [] h = let z : ◌≡◌ {A = ℕ} 0 1 = cc in absurd (omega arith)
bytes-true (x ∷ l) (y ∷ m) h =
    let a = and-true (eqb x y) (are_same_bytes l m) h in
    rw (eqb-true x y a.0, bytes-true l m a.1)

bytes_same : (l : List ℕ) → are_same_bytes l l ≡ true
unfolding are_same_bytes
bytes_same [] = refl
bytes_same (x ∷ l) = rw (eq-eqb x x refl, bytes_same l)

pub bytes-is : (l m : List ℕ) → l ≡ m → are_same_bytes l m ≡ true
bytes-is l m e = rw e (bytes_same m)

pub bytes-not : (l m : List ℕ) → (l ≡ m → ⊥) → are_same_bytes l m ≡ false
bytes-not l m d = go (which (are_same_bytes l m))
  where
    go : Which (are_same_bytes l m) → are_same_bytes l m ≡ false
    go (holds e) = absurd (d (bytes-true l m e))
    go (fails e) = e

-- equal or not, decided
pub bytes-or : (l m : List ℕ) → (l ≡ m) ⊎ (l ≡ m → ⊥)
bytes-or l m = go (which (are_same_bytes l m))
  where
    go : Which (are_same_bytes l m) → (l ≡ m) ⊎ (l ≡ m → ⊥)
    go (holds e) = inl (bytes-true l m e)
    go (fails e) = inr (λ z. true-false (bytes-is l m z) e)

-- ---- entry by entry

module _ (s : Said) (w : List ℕ) where
  abbrev coords : ℕ → List ℕ
  coords u = get_or (coords_in_use s) u []

  want-none : (x : ℕ) (c : List ℕ) → wanted (named_in s (entries x 0 w)) c ≡ pos 0
  unfolding named_in wanted
  want-none x c = rw (entries_none x w)

  module _ (x n : ℕ) (c : List ℕ) where
    cons : entries x (suc n) w ≡ (get_or w x 0, get_or w (x + 1) 0) ∷ entries (x + 2) n w
    cons =
        let z : suc n - 1 ≡ n = omega arith in
        entries-cons x (suc n) w (omega arith) ∙ ap (λ (m : ℕ). (get_or w x 0, get_or w (x + 1) 0) ∷ entries (x + 2) m w) z

    want-here : coords (get_or w x 0) ≡ c → wanted (named_in s (entries x (suc n) w)) c ≡ value (get_or w (x + 1) 0)
    unfolding named_in wanted
    want-here e = rw (cons, bytes-is (get_or (coords_in_use s) (get_or w x 0) []) c e)

    want-else : (coords (get_or w x 0) ≡ c → ⊥) → wanted (named_in s (entries x (suc n) w)) c ≡ wanted (named_in s (entries (x + 2) n w)) c
    unfolding named_in wanted
    want-else d = rw (cons, bytes-not (get_or (coords_in_use s) (get_or w x 0) []) c d)

  move : (x i : ℕ) → x + 2 + 2 * i ≡ x + 2 * suc i
  move x i = omega arith

  here : (x : ℕ) → x + 2 * 0 ≡ x
  here x = omega arith

  less : (n : ℕ) → suc n - 1 ≡ n
  less n = omega arith

  -- no entry names these coordinates
  pub wanted-none : (c : List ℕ) (n x : ℕ) → ((i : ℕ) → i < n → coords (get_or w (x + 2 * i) 0) ≡ c → ⊥) → wanted (named_in s (entries x n w)) c ≡ pos 0
  wanted-none c zero x d = want-none x c
  wanted-none c (suc n) x d =
      want-else x n c (rw (here x) at (d 0 (omega arith)))
      ∙ wanted-none c n (x + 2) (λ i h. rw (move x i) (d (suc i) (omega arith)))

  -- the coordinates of region index u, where no other index has them
  pub wanted-word : (uses u : ℕ) → u < uses → ((v : ℕ) → v < uses → coords v ≡ coords u → v ≡ u) → (n x : ℕ) → ((i : ℕ) → i < n → get_or w (x + 2 * i) 0 < uses)
      → wanted (named_in s (entries x n w)) (coords u) ≡ value (word_of (entries x n w) u)
  unfolding word_of
  wanted-word uses u b once zero x low = want-none x (coords u) ∙ (rw (entries_none x w) zero_is)
    where
      zero_is : pos 0 ≡ value zero_word
      zero_is = unfold value in refl
  wanted-word uses u b once (suc n) x low = go (same_or_not (get_or w x 0) u) (wanted-word uses u b once n (x + 2) (λ i h. rw (move x i) (low (suc i) (omega arith))))
    where
      first-low : get_or w x 0 < uses
      first-low = rw (here x) at (low 0 (omega arith))

      go : (get_or w x 0 ≡ u) ⊎ (get_or w x 0 ≡ u → ⊥) → wanted (named_in s (entries (x + 2) n w)) (coords u) ≡ value (word_of (entries (x + 2) n w) u)
          → wanted (named_in s (entries x (suc n) w)) (coords u) ≡ value (word_of (entries x (suc n) w) u)
      go (inl e) r =
          want-here x n (coords u) (ap coords e)
          ∙ sym (ap value (ap (λ (l : Set). word_of l u) (cons x n (coords u)) ∙ word-head (get_or w x 0, get_or w (x + 1) 0) (entries (x + 2) n w) u e))
      go (inr d) r =
          want-else x n (coords u) (λ z. d (once (get_or w x 0) first-low z))
          ∙ r
          ∙ sym (ap value (ap (λ (l : Set). word_of l u) (cons x n (coords u)) ∙ word-tail (get_or w x 0, get_or w (x + 1) 0) (entries (x + 2) n w) u d))

  -- the coordinates of listed region q, where the words of work aim at it exactly for them
  pub wanted-aim : (t : Aims) (uses q : ℕ) (c : List ℕ) → ((u : ℕ) → u < uses → get_or w (t.to + u) 0 ≡ q → coords u ≡ c) → ((u : ℕ) → u < uses → coords u ≡ c → get_or w (t.to + u) 0 ≡ q)
      → (n x : ℕ) → ((i : ℕ) → i < n → get_or w (x + 2 * i) 0 < uses) → wanted (named_in s (entries x n w)) c ≡ value (aim w t (entries x n w) q)
  wanted-aim t uses q c hit back zero x low = want-none x c ∙ sym (ap value (aim-none w t x q) ∙ zero_is)
    where
      zero_is : value zero_word ≡ pos 0
      zero_is = unfold value in refl
  wanted-aim t uses q c hit back (suc n) x low = go (same_or_not (aim_at w t x) q) (wanted-aim t uses q c hit back n (x + 2) (λ i h. rw (move x i) (low (suc i) (omega arith))))
    where
      first-low : get_or w x 0 < uses
      first-low = rw (here x) at (low 0 (omega arith))

      go : (aim_at w t x ≡ q) ⊎ (aim_at w t x ≡ q → ⊥) → wanted (named_in s (entries (x + 2) n w)) c ≡ value (aim w t (entries (x + 2) n w) q)
          → wanted (named_in s (entries x (suc n) w)) c ≡ value (aim w t (entries x (suc n) w) q)
      go (inl e) r =
          want-here x n c (hit (get_or w x 0) first-low e)
          ∙ sym (ap value (aim-here w t x (suc n) q (omega arith) e))
      go (inr d) r =
          want-else x n c (λ z. d (back (get_or w x 0) first-low z))
          ∙ r
          ∙ sym (ap value (aim-else w t x (suc n) q (omega arith) d ∙ ap (λ (m : ℕ). aim w t (entries (x + 2) m w) q) (less n)))
