-- Words that are split in three: what stands before, what is written, and what stands behind. Assumes nothing.
use mathlib.Core.Path.{◌≡◌, refl, ap, ◌∙◌}
use mathlib.Core.List.{List, [], ◌∷◌, ◌++◌}
use mathlib.Core.Logic.{⊎_elim}
use Prim.Native.Nat.{ℕ, ◌+◌, ◌-◌, ◌≤◌, ◌<◌}
use native.Mathlib.Omega.{arith}
use lib.ListN.{length, get_or, take, drop, length-append, length-drop}
use lib.Seq.{get_or-take, get_or-drop, length-take-le}
use Rattle.std.proofs.lemmas.List.{get_or_append_left, get_or-append_right}
use Rattle.laws.specs.LentRange.{Only}
use Rattle.laws.proofs.Cases.{lt-or-ge}

-- the words of w before a and those from b on
pub record Around (a b : ℕ) (w front behind : List ℕ) : Type 0 where
  pub to : a ≤ b
  pub front-long : length front ≡ a
  pub behind-long : b + length behind ≡ length w
  pub front-at : (k : ℕ) → k < a → get_or front k 0 ≡ get_or w k 0
  pub behind-at : (k : ℕ) → get_or behind k 0 ≡ get_or w (b + k) 0

pub around : (a n : ℕ) {w front rest behind : List ℕ} → a + n ≤ length w → front ≡ take a w → rest ≡ drop a w → behind ≡ drop n rest → Around a (a + n) w front behind
around a n {w} {front} {rest} {behind} room f r b = record {
  to = omega arith;
  front-long = ap length f ∙ length-take-le a w (omega arith);
  behind-long = omega (arith, ap length b, length-drop n rest, ap length r, length-drop a w);
  front-at = λ k h. ap (λ (x : List ℕ). get_or x k 0) f ∙ get_or-take a w k 0 h;
  behind-at = λ k.
      let i : a + (n + k) ≡ a + n + k = omega arith in
      ap (λ (x : List ℕ). get_or x k 0) b ∙ get_or-drop n rest k 0 ∙ ap (λ (x : List ℕ). get_or x (n + k) 0) r ∙ get_or-drop a w (n + k) 0 ∙ ap (λ (j : ℕ). get_or w j 0) i;
}

module _ {a b : ℕ} {w front behind : List ℕ} (r : Around a b w front behind) where
  -- a part of what stands before, and one of what stands behind
  pub front-part : (s e k : ℕ) → s + k < e → e ≤ a → get_or (take (e - s) (drop s front)) k 0 ≡ get_or w (s + k) 0
  front-part s e k h l = get_or-take (e - s) (drop s front) k 0 (omega arith) ∙ get_or-drop s front k 0 ∙ r.front-at (s + k) (omega arith)

  pub front-length : (s e : ℕ) → e ≤ a → length (take (e - s) (drop s front)) ≡ e - s
  front-length s e l = length-take-le (e - s) (drop s front) (omega (arith, length-drop s front, r.front-long))

  pub behind-part : (s e k : ℕ) → b ≤ s → s + k < e → get_or (take (e - b - (s - b)) (drop (s - b) behind)) k 0 ≡ get_or w (s + k) 0
  behind-part s e k g h =
      let i : b + (s - b + k) ≡ s + k = omega arith in
      get_or-take (e - b - (s - b)) (drop (s - b) behind) k 0 (omega arith) ∙ get_or-drop (s - b) behind k 0 ∙ r.behind-at (s - b + k) ∙ ap (λ (j : ℕ). get_or w j 0) i

  pub behind-length : (s e : ℕ) → b ≤ s → s ≤ e → e ≤ length w → length (take (e - b - (s - b)) (drop (s - b) behind)) ≡ e - s
  behind-length s e g h l = length-take-le (e - b - (s - b)) (drop (s - b) behind) (omega (arith, length-drop (s - b) behind, r.behind-long)) ∙ omega arith

  -- the words that are between, and what may be behind them
  module _ (m tail : List ℕ) (long : a + length m ≡ b) where
    pub before-at : (k : ℕ) → k < a → get_or (front ++ (m ++ tail)) k 0 ≡ get_or w k 0
    before-at k h = get_or_append_left front (m ++ tail) 0 k (omega (arith, r.front-long)) ∙ r.front-at k h

    pub between-at : (k : ℕ) → k < length m → get_or (front ++ (m ++ tail)) (a + k) 0 ≡ get_or m k 0
    between-at k h =
        let i : a + k - a ≡ k = omega arith in
        get_or-append_right front (m ++ tail) a (a + k) 0 r.front-long (omega arith) ∙ ap (λ (j : ℕ). get_or (m ++ tail) j 0) i ∙ get_or_append_left m tail 0 k h

    pub tail-at : (k : ℕ) → get_or (front ++ (m ++ tail)) (b + k) 0 ≡ get_or tail k 0
    tail-at k =
        let i : b + k - a ≡ length m + k = omega arith in
        let j : length m + k - length m ≡ k = omega arith in
        get_or-append_right front (m ++ tail) a (b + k) 0 r.front-long (omega arith) ∙ ap (λ (j : ℕ). get_or (m ++ tail) j 0) i
        ∙ get_or-append_right m tail (length m) (length m + k) 0 refl (omega arith) ∙ ap (λ (j : ℕ). get_or tail j 0) j

  pub only-between : (m : List ℕ) → a + length m ≡ b → Only ((a, length m) ∷ []) w (front ++ (m ++ behind))
  only-between m long = record {
    long = omega (arith, length-append front (m ++ behind), length-append m behind, r.front-long, r.behind-long);
    kept = λ k o. ⊎_elim
        (λ (h : k < a). before-at m behind long k h)
        (λ h.
        let i : b + (k - b) ≡ k = omega (arith, o.0.apart (omega arith)) in
        rw i at (tail-at m behind long (k - b) ∙ r.behind-at (k - b)))
        (lt-or-ge k a);
  }
