-- A shape's regions put into planes of zeros, one after the other; how long planes are. Assumes nothing.
use mathlib.Core.Path.{◌≡◌, refl, sym, ap, subst, ◌∙◌}
use mathlib.Core.List.{List, [], ◌∷◌}
use Prim.Native.Nat.{ℕ, zero, suc, ◌+◌, ◌*◌, ◌/◌, ◌≤◌, ◌<◌, max}
use native.Mathlib.Omega.{arith}
use lib.ListN.{length, get_or, set, replicate}
use Rattle.laws.specs.LentRange.{Only, Zeroed, seg}
use Rattle.laws.proofs.RangeLaws.{apart-sym, outside-at, only-refl, only-trans, only-seg, length-seg, get_or-seg}
use Rattle.shapes.specs.Shape.{Shape}
use Rattle.planes.specs.Plane.{IsCost, plane_length, plane_words}
use Rattle.planes.specs.Lent.{PlanesAt, PutsCost, FillFit, Filled}
use Rattle.planes.proofs.Meaning.{planes-none}

-- ---- how long they are

pub words-three : (r : ℕ) → plane_words r ≡ 3 * plane_length r
unfolding plane_words
words-three r = refl

pub planes-room : (r : ℕ) → r ≤ 32 * plane_length r
unfolding plane_length
planes-room r = omega arith

pub long-is : (r : ℕ) → plane_length r ≡ (r + 31) / 32
unfolding plane_length
long-is r = refl

pub long-few : (r : ℕ) → r ≤ 65536 → plane_length r ≤ 2048
unfolding plane_length
long-few r h = omega arith

-- ---- the first r regions, and None behind them

unfoldable pub up_to : Shape → ℕ → Shape
up_to [] r = []
up_to (w ∷ s) zero = 0 ∷ up_to s zero
up_to (w ∷ s) (suc r) = w ∷ up_to s r

up-length : (s : Shape) (r : ℕ) → length (up_to s r) ≡ length s
unfolding up_to
up-length [] r = refl
up-length (w ∷ s) zero = ap suc (up-length s zero)
up-length (w ∷ s) (suc r) = ap suc (up-length s r)

up_none : (s : Shape) → up_to s 0 ≡ replicate (length s) 0
unfolding up_to
up_none [] = refl
up_none (w ∷ s) = ap (λ (l : Shape). 0 ∷ l) (up_none s)

up-all : (s : Shape) (r : ℕ) → length s ≤ r → up_to s r ≡ s
unfolding up_to
up-all [] r h = refl
up-all (w ∷ s) zero h = absurd (omega arith)
up-all (w ∷ s) (suc r) h = ap (λ (l : Shape). w ∷ l) (up-all s r (omega arith))

up-skip : (s : Shape) (r : ℕ) → get_or s r 0 ≡ 0 → up_to s r ≡ up_to s (suc r)
unfolding up_to
up-skip [] r e = refl
up-skip (w ∷ s) zero e = ap (λ (x : ℕ). x ∷ up_to s zero) (sym e)
up-skip (w ∷ s) (suc r) e = ap (λ (l : Shape). w ∷ l) (up-skip s r e)

up-put : (s : Shape) (r : ℕ) → r < length s → set (up_to s r) r (max (get_or (up_to s r) r 0) (get_or s r 0)) ≡ up_to s (suc r)
unfolding up_to
up-put [] r h = absurd (omega arith)
up-put (w ∷ s) zero h = let e : max 0 w ≡ w = omega arith in ap (λ (x : ℕ). x ∷ up_to s zero) e
up-put (w ∷ s) (suc r) h = ap (λ (l : Shape). w ∷ l) (up-put s r (omega arith))

-- ---- the walk along the regions

pub record Filling (x m a n : ℕ) (old new : List ℕ) (r : ℕ) : Type 0 where
  pub within : r ≤ m
  pub only : Only ((a, 3 * n) ∷ []) old new
  pub is : PlanesAt new a n (up_to (seg x m old) r)

module _ (x m a n : ℕ) (old : List ℕ) (fit : FillFit x m a n old) where
  long : length (seg x m old) ≡ m
  long = length-seg x m old fit.shape-in

  pub filling-start : ((k : ℕ) → k < 3 * n → get_or old (a + k) 0 ≡ 0) → Filling x m a n old old 0
  filling-start z = record {
    within = omega arith;
    only = only-refl ((a, 3 * n) ∷ []) old;
    is = subst (PlanesAt old a n) (sym (up_none (seg x m old))) (planes-none old a n (length (seg x m old)) (omega (arith, long, fit.room)) z);
  }

  module _ (new : List ℕ) (r : ℕ) (f : Filling x m a n old new r) (h : r < m) where
    -- what is read is the shape's region r
    pub read_is : get_or new (x + r) 0 ≡ get_or (seg x m old) r 0
    read_is = f.only.kept (x + r) (outside-at (apart-sym fit.apart) (omega arith) (omega arith), tt) ∙ sym (get_or-seg x m old r h)

    pub read-cost : IsCost (get_or new (x + r) 0)
    read-cost = subst IsCost (sym read_is) (fit.costs r)

    next : suc r ≡ r + 1
    next = omega arith

    pub filling_skip : get_or new (x + r) 0 ≡ 0 → Filling x m a n old new (r + 1)
    filling_skip e = record {
      within = omega arith;
      only = f.only;
      is = subst (λ (i : ℕ). PlanesAt new a n (up_to (seg x m old) i)) next (subst (PlanesAt new a n) (up-skip (seg x m old) r (sym read_is ∙ e)) f.is);
    }

    pub filling-put : (new' : List ℕ) → PutsCost a n r (get_or new (x + r) 0) new new' → Filling x m a n old new' (r + 1)
    filling-put new' p = record {
      within = omega arith;
      only = only-trans f.only p.only;
      is =
          let s = seg x m old in
          let q = p.is (up_to s r) (omega (arith, up-length s r, long)) f.is in
          let e = ap (λ (c : ℕ). set (up_to s r) r (max (get_or (up_to s r) r 0) c)) read_is ∙ up-put s r (omega (arith, long)) ∙ ap (up_to s) next in
          subst (PlanesAt new' a n) e q;
    }

  pub filling-done : (new : List ℕ) (r : ℕ) → Filling x m a n old new r → m ≤ r → Filled x m a n old new
  filling-done new r f h = record {
    only = f.only;
    is = subst (PlanesAt new a n) (up-all (seg x m old) r (omega (arith, long))) f.is;
  }

-- ---- after the words were made zero

module _ {x m a n : ℕ} {w v : List ℕ} (fit : FillFit x m a n w) (z : Zeroed a (3 * n) w v) where
  same : seg x m v ≡ seg x m w
  same = only-seg z.only x m fit.shape-in (λ k p q. (outside-at (apart-sym fit.apart) p q, tt))

  pub zeroed-fit : FillFit x m a n v
  zeroed-fit = record {
    shape-in = omega (arith, fit.shape-in, z.only.long);
    planes-in = omega (arith, fit.planes-in, z.only.long);
    apart = fit.apart;
    room = fit.room;
    costs = λ k. subst (λ (s : List ℕ). IsCost (get_or s k 0)) (sym same) (fit.costs k);
  }

  pub zeroed-filled : {u : List ℕ} → Filled x m a n v u → Filled x m a n w u
  zeroed-filled {u} f = record { only = only-trans z.only f.only; is = subst (PlanesAt u a n) same f.is }
