-- The bytes of a record that must be 0: all are, or there is a first that is not. Assumes nothing.
use mathlib.Core.Path.{◌≡◌, refl, sym, subst, ◌∙◌}
use mathlib.Core.Bool.{true}
use mathlib.Core.List.{List, [], ◌∷◌}
use mathlib.Core.Logic.{⊎_elim}
use Prim.Native.Nat.{ℕ, ◌<◌}
use native.Mathlib.Omega.{arith}
use lib.ListN.{get_or}
use lib.Dec.{eqb}
use borrow.Author.Tests.{eq-eqb, ne_eqb, eqb-true}
use Rattle.laws.proofs.Cases.{Tri, tri, same_or_not, or_left, or_right, or_cases, true-false}
use Rattle.laws.proofs.Cases.Tri.{below, same, above}
use Rattle.said.specs.Records.{kind, must_be_zero, first_not_zero, first_wrong_byte}
use Rattle.said.specs.Refusals.{not_zero, byte_of}
use Rattle.said.specs.Sets.{has}
use Rattle.refusing.specs.Counts.{AllZero, NotZeroAt}

-- ---- any bytes, in rising order

-- numbers that rise, each above `low`
abbrev Rising : ℕ → List ℕ → Type 0
Rising low [] = Unit {0}
Rising low (b ∷ l) = (low < b) × Rising b l

rising-above : (low : ℕ) (l : List ℕ) → Rising low l → (b : ℕ) → has b l ≡ true → low < b
unfolding has
rising-above low [] u b h = absurd (true-false h refl)
rising-above low (x ∷ l) u b h = go (λ e. rising-above x l u.1 b e) u.0
  where
    go : (has b l ≡ true → x < b) → low < x → low < b
    go rec h' =
        ⊎_elim (λ (e : eqb b x ≡ true). let z = eqb-true b x e in omega arith) (λ (e : has b l ≡ true). let z = rec e in omega arith)
        (or_cases (eqb b x) (has b l) h)

-- what is found in them
data Looked (r l : List ℕ) : Type 0 where
  all_are : ((b : ℕ) → has b l ≡ true → get_or r b 0 ≡ 0) → first_not_zero r l ≡ 0 → Looked r l
  one-not : has (first_not_zero r l) l ≡ true → (get_or r (first_not_zero r l) 0 ≡ 0 → ⊥)
      → ((a : ℕ) → a < first_not_zero r l → has a l ≡ true → get_or r a 0 ≡ 0) → 0 < first_not_zero r l → Looked r l

module _ (r : List ℕ) (x : ℕ) (l : List ℕ) where
  -- a zero before them
  zero-first : get_or r x 0 ≡ 0 → first_not_zero r (x ∷ l) ≡ first_not_zero r l
  unfolding first_not_zero
  zero-first z = rw (eq-eqb (get_or r x 0) 0 z)

  one-or-more : get_or r x 0 ≡ 0 → (b : ℕ) → (has b l ≡ true → get_or r b 0 ≡ 0) → has b (x ∷ l) ≡ true → get_or r b 0 ≡ 0
  unfolding has
  one-or-more z b rec h =
      ⊎_elim (λ (e : eqb b x ≡ true). subst (λ (k : ℕ). get_or r k 0 ≡ 0) (sym (eqb-true b x e)) z) (λ (e : has b l ≡ true). rec e)
      (or_cases (eqb b x) (has b l) h)

  zero-looked : get_or r x 0 ≡ 0 → Looked r l → Looked r (x ∷ l)
  unfolding has
  zero-looked z (all_are a e) = all_are (λ b h. one-or-more z b (a b) h) (zero-first z ∙ e)
  zero-looked z (one-not h d a s) =
      let e = sym (zero-first z) in
      one-not (or_right (eqb (first_not_zero r (x ∷ l)) x) (has (first_not_zero r (x ∷ l)) l) (subst (λ (k : ℕ). has k l ≡ true) e h))
      (subst (λ (k : ℕ). get_or r k 0 ≡ 0 → ⊥) e d)
      (λ b less m. one-or-more z b (a b (omega arith)) m)
      (omega arith)

  -- a byte before them that is not 0
  here-first : (get_or r x 0 ≡ 0 → ⊥) → first_not_zero r (x ∷ l) ≡ x
  unfolding first_not_zero
  here-first d = rw (ne_eqb (get_or r x 0) 0 d)

  here-looked : (low : ℕ) → Rising low (x ∷ l) → (get_or r x 0 ≡ 0 → ⊥) → Looked r (x ∷ l)
  unfolding has
  here-looked low u d =
      let e = here-first d in
      let h = u.0 in
      one-not (or_left (eqb (first_not_zero r (x ∷ l)) x) (has (first_not_zero r (x ∷ l)) l) (eq-eqb (first_not_zero r (x ∷ l)) x e))
      (subst (λ (k : ℕ). get_or r k 0 ≡ 0 → ⊥) (sym e) d)
      (λ b less m. absurd (none b (omega arith) m))
      (omega arith)
    where
      none : (b : ℕ) → b < x → has b (x ∷ l) ≡ true → ⊥
      none b less m =
          ⊎_elim (λ (e : eqb b x ≡ true). let z = eqb-true b x e in omega arith) (λ (e : has b l ≡ true). let z = rising-above x l u.1 b e in omega arith)
          (or_cases (eqb b x) (has b l) m)

looked : (r : List ℕ) (low : ℕ) (l : List ℕ) → Rising low l → Looked r l
unfolding has first_not_zero
looked r low [] u = all_are (λ b h. absurd (true-false h refl)) refl
looked r low (x ∷ l) u = go (looked r x l u.1)
  where
    go : Looked r l → Looked r (x ∷ l)
    go rec = ⊎_elim (λ (z : get_or r x 0 ≡ 0). zero-looked r x l z rec) (λ d. here-looked r x l low u d) (same_or_not (get_or r x 0) 0)

-- ---- those of a record

must-rise : (k : ℕ) → Rising 0 (must_be_zero k)
unfolding must_be_zero
must-rise k =
    ⊎_elim (λ (e : k ≡ 1). rw (eq-eqb k 1 e) (omega arith, (omega arith, tt)))
    (λ a. ⊎_elim (λ (e : k ≡ 2). rw (ne_eqb k 1 a, eq-eqb k 2 e) (omega arith, (omega arith, (omega arith, (omega arith, (omega arith, tt))))))
    (λ b. ⊎_elim
    (λ (e : k ≡ 3). rw (ne_eqb k 1 a, ne_eqb k 2 b, eq-eqb k 3 e)
    (omega arith, (omega arith, (omega arith, (omega arith, (omega arith, (omega arith, (omega arith, (omega arith, (omega arith, (omega arith, (omega arith, tt))))))))))))
    (λ d. rw (ne_eqb k 1 a, ne_eqb k 2 b, ne_eqb k 3 d) tt)
    (same_or_not k 3))
    (same_or_not k 2))
    (same_or_not k 1)

module _ (r : List ℕ) where
  -- R31: all zero, or the byte that is named
  pub data ZerosOf : Type 0 where
    all-zero : AllZero r → first_wrong_byte r ≡ 0 → ZerosOf
    not-zero : NotZeroAt r (first_wrong_byte r) → 0 < first_wrong_byte r → ZerosOf

  pub zeros_of : ZerosOf
  unfolding first_wrong_byte
  zeros_of = go (looked r 0 (must_be_zero (kind r)) (must-rise (kind r)))
    where
      go : Looked r (must_be_zero (kind r)) → ZerosOf
      go (all_are a e) = all-zero a e
      go (one-not h d a s) = not-zero (record { must = h; is-not = d; first = a }) s

  pub zeros-all : first_wrong_byte r ≡ 0 → AllZero r
  zeros-all e = go zeros_of
    where
      go : ZerosOf → AllZero r
      go (all-zero a z) = a
      go (not-zero n s) = absurd (omega arith)

  pub not-all : (b : ℕ) → NotZeroAt r b → AllZero r → ⊥
  not-all b n a = n.is-not (a b n.must)

  pub all-zeros : AllZero r → first_wrong_byte r ≡ 0
  all-zeros a = go zeros_of
    where
      go : ZerosOf → first_wrong_byte r ≡ 0
      go (all-zero b z) = z
      go (not-zero n s) = absurd (not-all (first_wrong_byte r) n a)

  pub zeros-not : (first_wrong_byte r ≡ 0 → ⊥) → NotZeroAt r (first_wrong_byte r)
  zeros-not d = go zeros_of
    where
      go : ZerosOf → NotZeroAt r (first_wrong_byte r)
      go (all-zero a z) = absurd (d z)
      go (not-zero n s) = n

  -- there is one first byte
  pub one-first : (b c : ℕ) → NotZeroAt r b → NotZeroAt r c → b ≡ c
  one-first b c n m = go (tri b c)
    where
      go : Tri b c → b ≡ c
      go (below h) = absurd (n.is-not (m.first b h n.must))
      go (same e) = e
      go (above h) = absurd (m.is-not (n.first c h m.must))

  pub not_zeros : (b : ℕ) → NotZeroAt r b → (first_wrong_byte r ≡ b) × (0 < first_wrong_byte r)
  not_zeros b n = go zeros_of
    where
      go : ZerosOf → (first_wrong_byte r ≡ b) × (0 < first_wrong_byte r)
      go (all-zero a z) = absurd (not-all b n a)
      go (not-zero m s) = (one-first (first_wrong_byte r) b m n, s)

  -- the byte that a refusal names
  pub byte-wrong : byte_of not_zero r ≡ first_wrong_byte r
  unfolding byte_of
  byte-wrong = refl

  pub byte-is : (b : ℕ) → NotZeroAt r b → byte_of not_zero r ≡ b
  byte-is b n = byte-wrong ∙ (not_zeros b n).0

  pub byte-none : (n : ℕ) → (n ≡ not_zero → ⊥) → byte_of n r ≡ 0
  unfolding byte_of
  byte-none n d = rw (ne_eqb n not_zero d)
