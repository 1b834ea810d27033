-- What the planes mean: which bit is a region's, where they stay, that a shape has one run of words, and that all words 0 are a shape.
-- Assumes nothing.
use mathlib.Core.Path.{◌≡◌, refl, sym, ap, ◌∙◌}
use mathlib.Core.List.{List, [], ◌∷◌, ◌++◌}
use mathlib.Core.Logic.{⊎_elim}
use Prim.Native.Nat.{ℕ, zero, suc, ◌+◌, ◌-◌, ◌*◌, ◌/◌, ◌%◌, ◌^◌, ◌≤◌, ◌<◌}
use native.Mathlib.Nat.{zero-div, zero-mod, mod-lt, div-add-mod'}
use native.Mathlib.Omega.{arith}
use lib.ListN.{length, get_or, replicate, length-replicate, get_or-append}
use lib.Seq.{get_or-append-add}
use Rattle.laws.specs.Bounded.{tabulate}
use Rattle.laws.specs.LentRange.{Only, Outside, seg}
use Rattle.laws.proofs.Cases.{lt-or-ge}
use Rattle.laws.proofs.RangeLaws.{get_or-seg}
use Rattle.shapes.specs.Shape.{Shape}
use Rattle.planes.specs.Plane.{IsCost, at_least, plane, bit, word, planes}
use Rattle.planes.specs.Lent.{Holds, PlanesAt}
use Rattle.planes.proofs.PlaneLaws.{at_none, plane-bit, word-bit}

-- region r is bit r % 32 of word r / 32
pub plane-word-bit : (t : ℕ) → 0 < t → (s : Shape) (r : ℕ) → bit (word (plane t s) (r / 32)) (r % 32) ≡ at_least t (get_or s r 0)
plane-word-bit t h s r =
    word-bit (plane t s) (r / 32) (r % 32) (mod-lt r {m = 32} (omega arith))
    ∙ plane-bit t h s (32 * (r / 32) + r % 32)
    ∙ ap (λ (k : ℕ). at_least t (get_or s k 0)) {x = 32 * (r / 32) + r % 32} {y = r} (omega (arith, div-add-mod' r 32))

-- ---- words that stay, and the words of one shape

pub holds_kept : {rs : List (ℕ × ℕ)} {w w' : List ℕ} (p n x : ℕ) → Only rs w w' → ((k : ℕ) → p ≤ k → k < p + n → Outside rs k) → Holds w p n x → Holds w' p n x
holds_kept p n x o f h = record { at = λ k l. o.kept (p + k) (f (p + k) (omega arith) (omega arith)) ∙ h.at k l }

pub planes-kept : {rs : List (ℕ × ℕ)} {w w' : List ℕ} (a n : ℕ) (s : Shape) → Only rs w w' → ((k : ℕ) → a ≤ k → k < a + 3 * n → Outside rs k) → PlanesAt w a n s → PlanesAt w' a n s
planes-kept a n s o f h = record {
  room = h.room;
  costs = h.costs;
  one = holds_kept a n (plane 1 s) o (λ k p q. f k (omega arith) (omega arith)) h.one;
  two = holds_kept (a + n) n (plane 2 s) o (λ k p q. f k (omega arith) (omega arith)) h.two;
  four = holds_kept (a + n + n) n (plane 4 s) o (λ k p q. f k (omega arith) (omega arith)) h.four;
}

pub planes-once : {u v : List ℕ} (a n : ℕ) (s : Shape) → PlanesAt u a n s → PlanesAt v a n s → (k : ℕ) → k < 3 * n → get_or v (a + k) 0 ≡ get_or u (a + k) 0
planes-once {u} {v} a n s p q k l = ⊎_elim
    (λ (h : k < n). q.one.at k h ∙ sym (p.one.at k h))
    (λ h. ⊎_elim
    (λ (g : k < n + n). let i : a + n + (k - n) ≡ a + k = omega arith in rw i at (q.two.at (k - n) (omega arith) ∙ sym (p.two.at (k - n) (omega arith))))
    (λ g.
    let i : a + n + n + (k - n - n) ≡ a + k = omega arith in
    rw i at (q.four.at (k - n - n) (omega arith) ∙ sym (p.four.at (k - n - n) (omega arith))))
    (lt-or-ge k (n + n)))
    (lt-or-ge k n)

-- ---- all words 0

plane-none : (t m : ℕ) → 0 < t → plane t (replicate m 0) ≡ 0
unfolding plane
plane-none t zero h = refl
plane-none t (suc m) h = omega (arith, plane-none t m h, at_none t 0 h)

word_none : (k : ℕ) → word 0 k ≡ 0
unfolding word
word_none k = ap (λ (x : ℕ). x % 2 ^ 32) (zero-div (2 ^ (32 * k))) ∙ zero-mod (2 ^ 32)

holds-none : (w : List ℕ) (p n t m : ℕ) → 0 < t → ((k : ℕ) → k < n → get_or w (p + k) 0 ≡ 0) → Holds w p n (plane t (replicate m 0))
holds-none w p n t m h z = record { at = λ k l. z k l ∙ sym (ap (λ (x : ℕ). word x k) (plane-none t m h) ∙ word_none k) }

none-cost : (m k : ℕ) → IsCost (get_or (replicate m 0) k 0)
none-cost zero k = record { most = omega arith; not_three = λ e. omega arith }
none-cost (suc m) zero = record { most = omega arith; not_three = λ e. omega arith }
none-cost (suc m) (suc k) = none-cost m k

pub planes-none : (w : List ℕ) (a n m : ℕ) → m ≤ 32 * n → ((k : ℕ) → k < 3 * n → get_or w (a + k) 0 ≡ 0) → PlanesAt w a n (replicate m 0)
planes-none w a n m h z = record {
  room = omega (arith, length-replicate {A = ℕ} m 0);
  costs = none-cost m;
  one = holds-none w a n 1 m (omega arith) (λ k l. z k (omega arith));
  two = holds-none w (a + n) n 2 m (omega arith)
      (λ k l. ap (λ (i : ℕ). get_or w i 0) {x = a + n + k} {y = a + (n + k)} (omega arith) ∙ z (n + k) (omega arith));
  four = holds-none w (a + n + n) n 4 m (omega arith)
      (λ k l. ap (λ (i : ℕ). get_or w i 0) {x = a + n + n + k} {y = a + (n + n + k)} (omega arith) ∙ z (n + n + k) (omega arith));
}

-- ---- the words written out are the planes

tab-length : (f : ℕ → ℕ) (n a : ℕ) → length (tabulate a n f) ≡ n
unfolding tabulate
tab-length f zero a = refl
tab-length f (suc n) a = ap suc (tab-length f n (suc a))

tab-at : (f : ℕ → ℕ) (n a k : ℕ) → k < n → get_or (tabulate a n f) k 0 ≡ f (a + k)
unfolding tabulate
tab-at f zero a k h = absurd (omega arith)
tab-at f (suc n) a zero h = ap f (omega arith)
tab-at f (suc n) a (suc k) h = tab-at f n (suc a) k (omega arith) ∙ ap f {x = suc a + k} {y = a + suc k} (omega arith)

tab-first : (f : ℕ → ℕ) (n k : ℕ) → k < n → get_or (tabulate 0 n f) k 0 ≡ f k
tab-first f n k h = tab-at f n 0 k h ∙ ap f {x = 0 + k} {y = k} (omega arith)

pub planes-at : (w : List ℕ) (a n : ℕ) (s : Shape) → length s ≤ 32 * n → ((k : ℕ) → IsCost (get_or s k 0)) → seg a (3 * n) w ≡ planes n s → PlanesAt w a n s
unfolding planes
planes-at w a n s l c e =
    let one = tabulate 0 n (word (plane 1 s)) in
    let two = tabulate 0 n (word (plane 2 s)) in
    let four = tabulate 0 n (word (plane 4 s)) in
    let lo : length one ≡ n = tab-length (word (plane 1 s)) n 0 in
    let lt : length two ≡ n = tab-length (word (plane 2 s)) n 0 in
    let at : (k : ℕ) → k < 3 * n → get_or w (a + k) 0 ≡ get_or (one ++ (two ++ four)) k 0 = λ k h. sym (get_or-seg a (3 * n) w k h) ∙ ap (λ (v : List ℕ). get_or v k 0) e in
    let skip : (xs ys : List ℕ) (k : ℕ) → length xs ≡ n → get_or (xs ++ ys) (n + k) 0 ≡ get_or ys k 0 =
    λ xs ys k h. ap (λ (i : ℕ). get_or (xs ++ ys) (i + k) 0) (sym h) ∙ get_or-append-add xs ys k 0 in
    record {
      room = l;
      costs = c;
      one = record { at = λ k h. at k (omega arith) ∙ get_or-append one (two ++ four) 0 k (omega arith) ∙ tab-first (word (plane 1 s)) n k h };
      two = record {
        at = λ k h.
            ap (λ (i : ℕ). get_or w i 0) {x = a + n + k} {y = a + (n + k)} (omega arith) ∙ at (n + k) (omega arith)
            ∙ skip one (two ++ four) k lo ∙ get_or-append two four 0 k (omega arith) ∙ tab-first (word (plane 2 s)) n k h;
      };
      four = record {
        at = λ k h.
            ap (λ (i : ℕ). get_or w i 0) {x = a + n + n + k} {y = a + (n + (n + k))} (omega arith) ∙ at (n + (n + k)) (omega arith)
            ∙ skip one (two ++ four) (n + k) lo ∙ skip two four k lt ∙ tab-first (word (plane 4 s)) n k h;
      };
    }

-- ---- one shape computed: regions of None, One, Two, Four and 30 more of None, which take two words

pub worked : planes 2 (0 ∷ 1 ∷ 2 ∷ 4 ∷ replicate 29 0 ++ (4 ∷ [])) ≡ 0b1110 ∷ 2 ∷ 0b1100 ∷ 2 ∷ 0b1000 ∷ 2 ∷ []
unfolding planes plane word at_least tabulate
worked = refl
