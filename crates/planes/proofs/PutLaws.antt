-- One region's width put into planes: a join with a shape that has that region alone. Assumes nothing.
use mathlib.Core.Path.{◌≡◌, refl, sym, ap, ap₂, ◌∙◌}
use mathlib.Core.List.{List, [], ◌∷◌}
use mathlib.Core.Logic.{◌≢◌, ⊎_elim}
use Prim.Native.Nat.{ℕ, zero, suc, ◌+◌, ◌-◌, ◌*◌, ◌/◌, ◌%◌, ◌^◌, ◌≤◌, ◌<◌, max}
use native.Mathlib.Nat.{zero-mod, mod-eq_of_lt, mod-lt, div-eq_of_lt, mul_assoc, mul-mod_left, pow-suc, div-add-mod'}
use native.Mathlib.Omega.{arith}
use lib.ListN.{length, get_or, set, length-set}
use lib.Seq.{get_or-set_same, get_or-set_other}
use lib.Pow.{pow-add, pow_mono, shl_lt, shl-shr, shl_exact}
use lib.Bits.{bit_or, or_zero_r}
use Rattle.laws.proofs.Cases.{same_or_not, Tri, tri}
use Rattle.laws.proofs.Cases.Tri.{below, same, above}
use Rattle.laws.proofs.RangeLaws.{only-trans, only_set}
use Rattle.shapes.specs.Shape.{Shape, join}
use Rattle.shapes.proofs.ShapeLaws.{join-comm, join-none}
use Rattle.planes.specs.Plane.{IsCost, at_least, plane, word}
use Rattle.planes.specs.Lent.{PutsCost}
use Rattle.planes.proofs.PlaneLaws.{at_none, at_some, at_most}
use Rattle.planes.proofs.JoinLaws.{Ored, planes-or}

-- ---- the shape that has region r alone

pub single : ℕ → ℕ → Shape
single zero c = c ∷ []
single (suc r) c = 0 ∷ single r c

join-nothing : (s : Shape) → join s [] ≡ s
join-nothing s = join-comm s [] ∙ join-none s

join-single : (s : Shape) (r c : ℕ) → r < length s → join s (single r c) ≡ set s r (max (get_or s r 0) c)
unfolding single join
join-single [] r c h = absurd (omega arith)
join-single (x ∷ s) zero c h = ap (λ (t : Shape). max x c ∷ t) (join-nothing s)
join-single (x ∷ s) (suc r) c h = ap₂ ◌∷◌ (omega arith) (join-single s r c (omega arith))

single-length : (r c : ℕ) → length (single r c) ≡ suc r
unfolding single
single-length zero c = refl
single-length (suc r) c = ap suc (single-length r c)

zero-cost : IsCost 0
zero-cost = record { most = omega arith; not_three = λ e. omega arith }

single-costs : (r c : ℕ) → IsCost c → (k : ℕ) → IsCost (get_or (single r c) k 0)
unfolding single
single-costs zero c h zero = h
single-costs zero c h (suc k) = zero-cost
single-costs (suc r) c h zero = zero-cost
single-costs (suc r) c h (suc k) = single-costs r c h k

single-plane : (t : ℕ) → 0 < t → (r c : ℕ) → plane t (single r c) ≡ at_least t c * 2 ^ r
unfolding single plane
single-plane t h zero c = omega arith
single-plane t h (suc r) c =
    let e = pow-suc 2 r in
    let a : at_least t c * 2 ^ suc r ≡ at_least t c * 2 ^ r * 2 = ap (λ (x : ℕ). at_least t c * x) e ∙ sym (mul_assoc (at_least t c) (2 ^ r) 2) in
    omega (arith, at_none t 0 h, single-plane t h r c)

-- ---- a number of one word, shifted by whole words

module _ (x q : ℕ) (h : x < 2 ^ 32) where
  word_same : word (x * 2 ^ (32 * q)) q ≡ x
  unfolding word
  word_same = ap (λ (z : ℕ). z % 2 ^ 32) (shl-shr x (32 * q)) ∙ mod-eq_of_lt h

  word_below : (k : ℕ) → k < q → word (x * 2 ^ (32 * q)) k ≡ 0
  unfolding word
  word_below k l =
      let e : 2 ^ (32 * q) ≡ 2 ^ (32 * (q - k - 1)) * 2 ^ 32 * 2 ^ (32 * k) =
      ap (λ (z : ℕ). 2 ^ z) {x = 32 * q} {y = 32 * (q - k - 1) + 32 + 32 * k} (omega arith)
      ∙ pow-add 2 (32 * (q - k - 1) + 32) (32 * k)
      ∙ ap (λ (z : ℕ). z * 2 ^ (32 * k)) (pow-add 2 (32 * (q - k - 1)) 32) in
      let m = 2 ^ (32 * (q - k - 1)) in
      let f : x * 2 ^ (32 * q) ≡ x * m * 2 ^ 32 * 2 ^ (32 * k) =
      ap (λ (z : ℕ). x * z) e ∙ sym (mul_assoc x (m * 2 ^ 32) (2 ^ (32 * k))) ∙ ap (λ (z : ℕ). z * 2 ^ (32 * k)) (sym (mul_assoc x m (2 ^ 32))) in
      ap (λ (z : ℕ). z / 2 ^ (32 * k) % 2 ^ 32) f ∙ ap (λ (z : ℕ). z % 2 ^ 32) (shl-shr (x * m * 2 ^ 32) (32 * k)) ∙ mul-mod_left (x * m) (2 ^ 32)

  word-above : (k : ℕ) → q < k → word (x * 2 ^ (32 * q)) k ≡ 0
  unfolding word
  word-above k l =
      let a = shl_lt {a = x} 32 (32 * q) h in
      let b = pow_mono {i = 32 + 32 * q} {j = 32 * k} (omega arith) in
      ap (λ (z : ℕ). z % 2 ^ 32) (div-eq_of_lt (omega arith)) ∙ zero-mod (2 ^ 32)

  word-other : (k : ℕ) → k ≢ q → word (x * 2 ^ (32 * q)) k ≡ 0
  word-other k d = go (tri k q)
    where
      go : Tri k q → word (x * 2 ^ (32 * q)) k ≡ 0
      go (below l) = word_below k l
      go (same e) = absurd (d e)
      go (above l) = word-above k l

-- ---- the three words

module _ (t r c : ℕ) (o : 0 < t) where
  flag-lt : at_least t c * 2 ^ (r % 32) < 2 ^ 32
  flag-lt =
      let a = shl_lt {a = at_least t c} 1 (r % 32) (at_most t c) in
      let m = mod-lt r {m = 32} (omega arith) in
      let b = pow_mono {i = 1 + r % 32} {j = 32} (omega arith) in
      omega arith

  single-words : plane t (single r c) ≡ at_least t c * 2 ^ (r % 32) * 2 ^ (32 * (r / 32))
  single-words =
      single-plane t o r c
      ∙ ap (λ (z : ℕ). at_least t c * z)
      (ap (λ (z : ℕ). 2 ^ z) {x = r} {y = r % 32 + 32 * (r / 32)} (omega (arith, div-add-mod' r 32)) ∙ pow-add 2 (r % 32) (32 * (r / 32)))
      ∙ sym (mul_assoc (at_least t c) (2 ^ (r % 32)) (2 ^ (32 * (r / 32))))

  pub ored-put : (old new : List ℕ) (p n : ℕ) → get_or new (p + r / 32) 0 ≡ bit_or (get_or old (p + r / 32) 0) (at_least t c * 2 ^ (r % 32))
      → ((k : ℕ) → k < n → k ≢ r / 32 → get_or new (p + k) 0 ≡ get_or old (p + k) 0) → Ored old new p n (plane t (single r c))
  ored-put old new p n e f = record {
    at = λ k l. rw single-words (⊎_elim
        (λ s.
        ap (λ (i : ℕ). get_or new (p + i) 0) s ∙ e
        ∙ ap₂ (λ (i x : ℕ). bit_or (get_or old (p + i) 0) x) (sym s)
        (sym (ap (word (at_least t c * 2 ^ (r % 32) * 2 ^ (32 * (r / 32)))) s ∙ word_same (at_least t c * 2 ^ (r % 32)) (r / 32) flag-lt)))
        (λ d.
        f k l d ∙ sym (or_zero_r (get_or old (p + k) 0))
        ∙ ap (bit_or (get_or old (p + k) 0)) (sym (word-other (at_least t c * 2 ^ (r % 32)) (r / 32) flag-lt k d)))
        (same_or_not k (r / 32)));
  }

-- ---- a flag as the code makes it

pub flag-none : (t c j : ℕ) → c < t → 0 ≡ at_least t c * 2 ^ j
flag-none t c j h = rw (at_none t c h) (omega arith)

pub flag-some : (t c j : ℕ) → t ≤ c → j < 32 → (1 * 2 ^ j) % 2 ^ 32 ≡ at_least t c * 2 ^ j
flag-some t c j h l = shl_exact 1 j 32 (omega arith) (omega arith) ∙ ap (λ (x : ℕ). x * 2 ^ j) (sym (at_some t c h))

-- ---- three stores

abbrev pub or_at : List ℕ → ℕ → ℕ → List ℕ
or_at w i x = set w i (bit_or (get_or w i 0) x)

or_same : (w : List ℕ) (i j x : ℕ) → i < length w → j ≡ i → get_or (or_at w i x) j 0 ≡ bit_or (get_or w j 0) x
or_same w i j x h e = rw e (get_or-set_same w i (bit_or (get_or w i 0) x) 0 h)

or-other : (w : List ℕ) (i j x : ℕ) → j ≢ i → get_or (or_at w i x) j 0 ≡ get_or w j 0
or-other w i j x h = get_or-set_other w i j (bit_or (get_or w i 0) x) 0 h

module _ (w : List ℕ) (a n r c : ℕ) (l : a + 3 * n ≤ length w) (h : r < 32 * n) (cost : IsCost c) where
  place : r / 32 < n
  place = omega (arith, div-add-mod' r 32)

  pub put-done : (f g k : ℕ) → f ≡ at_least 1 c * 2 ^ (r % 32) → g ≡ at_least 2 c * 2 ^ (r % 32) → k ≡ at_least 4 c * 2 ^ (r % 32)
      → PutsCost a n r c w (or_at (or_at (or_at w (a + r / 32) f) (a + r / 32 + n) g) (a + r / 32 + n + n) k)
  put-done f g k ef eg ek =
      let q = r / 32 in
      let b : r / 32 < n = place in
      let u = or_at w (a + r / 32) f in
      let v = or_at u (a + r / 32 + n) g in
      let z = or_at v (a + r / 32 + n + n) k in
      let lu : length u ≡ length w = length-set w (a + r / 32) (bit_or (get_or w (a + r / 32) 0) f) in
      let lv : length v ≡ length u = length-set u (a + r / 32 + n) (bit_or (get_or u (a + r / 32 + n) 0) g) in
      record {
        only = only-trans (only-trans
            (only_set ((a, 3 * n) ∷ []) w (a + r / 32) (bit_or (get_or w (a + r / 32) 0) f) (λ o. omega (arith, o.0.apart (omega arith))))
            (only_set ((a, 3 * n) ∷ []) u (a + r / 32 + n) (bit_or (get_or u (a + r / 32 + n) 0) g) (λ o. omega (arith, o.0.apart (omega arith)))))
            (only_set ((a, 3 * n) ∷ []) v (a + r / 32 + n + n) (bit_or (get_or v (a + r / 32 + n + n) 0) k) (λ o. omega (arith, o.0.apart (omega arith))));
        is = λ s m p.
            let e = planes-or w z a n s (single r c) (omega (arith, single-length r c)) (single-costs r c cost)
            (ored-put 1 r c (omega arith) w z a n
            (or-other v (a + r / 32 + n + n) (a + r / 32) k (λ e. omega arith) ∙ or-other u (a + r / 32 + n) (a + r / 32) g (λ e. omega arith)
            ∙ or_same w (a + r / 32) (a + r / 32) f (omega arith) refl ∙ ap (bit_or (get_or w (a + r / 32) 0)) ef)
            (λ i j d. or-other v (a + r / 32 + n + n) (a + i) k (λ e. omega arith) ∙ or-other u (a + r / 32 + n) (a + i) g (λ e. omega arith)
            ∙ or-other w (a + r / 32) (a + i) f (λ e. d (omega arith))))
            (ored-put 2 r c (omega arith) w z (a + n) n
            (or-other v (a + r / 32 + n + n) (a + n + r / 32) k (λ e. omega arith) ∙ or_same u (a + r / 32 + n) (a + n + r / 32) g (omega arith) (omega arith)
            ∙ ap₂ bit_or (or-other w (a + r / 32) (a + n + r / 32) f (λ e. omega arith)) eg)
            (λ i j d. or-other v (a + r / 32 + n + n) (a + n + i) k (λ e. omega arith) ∙ or-other u (a + r / 32 + n) (a + n + i) g (λ e. d (omega arith))
            ∙ or-other w (a + r / 32) (a + n + i) f (λ e. omega arith)))
            (ored-put 4 r c (omega arith) w z (a + n + n) n
            (or_same v (a + r / 32 + n + n) (a + n + n + r / 32) k (omega arith) (omega arith)
            ∙ ap₂ bit_or (or-other u (a + r / 32 + n) (a + n + n + r / 32) g (λ e. omega arith) ∙ or-other w (a + r / 32) (a + n + n + r / 32) f (λ e. omega arith)) ek)
            (λ i j d. or-other v (a + r / 32 + n + n) (a + n + n + i) k (λ e. d (omega arith)) ∙ or-other u (a + r / 32 + n) (a + n + n + i) g (λ e. omega arith)
            ∙ or-other w (a + r / 32) (a + n + n + i) f (λ e. omega arith)))
            p in
            rw (join-single s r c m) at e;
      }
