-- The first places, and the last heirs. Assumes nothing.
use mathlib.Core.Path.{◌≡◌, sym, ap, ◌∙◌}
use mathlib.Core.Logic.{⊎_elim}
use mathlib.Core.List.{List, [], ◌∷◌}
use Prim.Native.Nat.{ℕ, ◌+◌, ◌-◌, ◌*◌, ◌≤◌, ◌<◌}
use native.Mathlib.Omega.{arith}
use lib.ListN.{get_or}
use Rattle.laws.specs.LentRange.{Only}
use Rattle.laws.proofs.Cases.{same_or_not}
use Rattle.laws.proofs.RangeLaws.{only-trans, only-weaken, apart-part}
use Rattle.slots.specs.declared.tables.MergeTables.{MergeTables}
use Rattle.waits.specs.LentWaits.{place_of}
use Rattle.merging.specs.LentHeld.{Reaches}
use Rattle.merging.specs.LentHeld.Reaches.{here, onto}
use Rattle.merging.specs.LentOptimized.{GroupsPlaced, Onward, Resolved}

-- ---- the first i of n places, at p, are one more than the words at o

pub record Settling (n p o : ℕ) (w₀ w : List ℕ) (i : ℕ) : Type 0 where
  pub within : i ≤ n
  pub only : Only ((p, n) ∷ []) w₀ w
  pub done : (k : ℕ) → k < i → get_or w (p + k) 0 ≡ get_or w₀ (o + k) 0 + 1

pub settled : (t : MergeTables) (w₀ w : List ℕ) (i : ℕ) → Settling t.groups t.place t.order w₀ w i → t.groups ≤ i → GroupsPlaced t w₀ w
settled t w₀ w i s l = record { only = s.only; is = λ k q. s.done k (omega (arith, s.within)) }

-- ---- one heir

-- ---- all of them, from the last down

pub record Finishing (t : MergeTables) (k : ℕ) (w₀ w : List ℕ) (c : ℕ) : Type 0 where
  pub within : c ≤ k
  pub only : Only ((t.into, 2 * t.groups) ∷ []) w₀ w
  pub left : (i : ℕ) → i < c → get_or w (t.into + i) 0 ≡ get_or w₀ (t.into + i) 0
  pub done : (i d : ℕ) → c ≤ i → Reaches t k w₀ i d → get_or w (t.into + i) 0 ≡ d

module _ (t : MergeTables) (k : ℕ) (w₀ : List ℕ) (h : Onward t k w₀) where
  module _ (w : List ℕ) (c : ℕ) (f : Finishing t k w₀ w c) (pos : 0 < c) where
    place_same : (i : ℕ) → i < k → place_of t w i ≡ place_of t w₀ i
    place_same i l = f.only.kept (t.place + i) (omega (arith, h.laid, h.most))

    module _ (w' : List ℕ) (r : Resolved t (c - 1) w w') where
      own : (i d : ℕ) → i ≡ c - 1 → Reaches t k w₀ i d → get_or w' (t.into + i) 0 ≡ d
      own i d e (here x l a) =
          let m : place_of t w (c - 1) ≡ 0 → ⊥ = λ z. omega (arith, place_same i l, ap (place_of t w) e) in
          ap (λ (y : ℕ). get_or w' (t.into + y) 0) e ∙ r.alive m ∙ sym e
      own i d e (onto x y l a q) =
          let z : place_of t w (c - 1) ≡ 0 = ap (place_of t w) (sym e) ∙ place_same i l ∙ a in
          let u : get_or w (t.into + (c - 1)) 0 ≡ get_or w₀ (t.into + i) 0 = f.left (c - 1) (omega arith) ∙ ap (λ (v : ℕ). get_or w₀ (t.into + v) 0) (sym e) in
          let b = h.later i l a in
          ap (λ (v : ℕ). get_or w' (t.into + v) 0) e ∙ r.dead z ∙ ap (λ (v : ℕ). get_or w (t.into + v) 0) u
          ∙ f.done (get_or w₀ (t.into + i) 0) d (omega arith) q

      pub finishing-more : Finishing t k w₀ w' (c - 1)
      finishing-more =
          let n = f.within in
          record {
            within = omega arith;
            only = only-trans f.only (only-weaken (λ i o. (apart-part o.0 (omega arith) (omega (arith, h.most)), tt)) r.only);
            left = λ i l. r.only.kept (t.into + i) (omega arith) ∙ f.left i (omega arith);
            done = λ i d l q. ⊎_elim
                (λ (e : i ≡ c - 1). own i d e q)
                (λ e. r.only.kept (t.into + i) (omega arith) ∙ f.done i d (omega arith) q)
                (same_or_not i (c - 1));
          }
