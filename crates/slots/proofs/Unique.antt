-- What measuring promises fixes what it leaves, and so does joining two slots. Assumes nothing.
use mathlib.Core.Path.{◌≡◌, sym, ap, subst, ◌∙◌}
use mathlib.Core.List.{List}
use mathlib.Core.Logic.{⊎_elim}
use Prim.Native.Nat.{ℕ, zero, suc, ◌+◌, ◌-◌, ◌*◌, ◌<◌}
use native.Mathlib.Nat.{suc-mul}
use native.Mathlib.Omega.{arith}
use lib.ListN.{length, get_or}
use Rattle.laws.specs.LentRange.{seg}
use Rattle.laws.proofs.OnceLaws.{only-both, only_same, only_none, words_same, word_same}
use Rattle.laws.proofs.Cases.{lt-or-ge}
use Rattle.shapes.specs.Shape.{Shape}
use Rattle.shapes.specs.Group.{Group}
use Rattle.shapes.specs.Lent.{Measured}
use Rattle.shapes.proofs.Unique.{measured-once}
use Rattle.slots.specs.declared.tables.MergeTables.{MergeTables}
use Rattle.planes.specs.Plane.{plane_length, plane_words}
use Rattle.planes.proofs.Meaning.{planes-once}
use Rattle.planes.proofs.FillLaws.{words-three}
use Rattle.slots.specs.Lent.{shape_in, group_in, plane_at, Planed, Sound, MeasuredIn, MeasuredAll, JoinedIn}
use Rattle.slots.proofs.TableLaws.{slot-end}
use Rattle.slots.proofs.SlotLaws.{shape-kept, shape_is, sets-is}

-- planes of one shape are the same words
planes-same : (t : MergeTables) (u v : List ℕ) (s : ℕ) (x : Shape) → Planed t u s x → Planed t v s x → (k : ℕ) → k < plane_words t.regions
    → get_or v (plane_at t s + k) 0 ≡ get_or u (plane_at t s + k) 0
planes-same t u v s x p q k l = planes-once (plane_at t s) (plane_length t.regions) x p q k (omega (arith, words-three t.regions))

-- the word k of some rows is in one of them
in_row : (n m k : ℕ) → k < n * m → (s : ℕ) × (s < n) × (r : ℕ) × (r < m) × (k ≡ s * m + r)
in_row zero m k l = absurd (omega arith)
in_row (suc n) m k l = ⊎_elim
    (λ (h : k < n * m). let i = in_row n m k h in (i.0, omega (arith, i.1), i.2, i.3, i.4))
    (λ h. (n, omega arith, k - n * m, omega (arith, suc-mul n m), omega arith))
    (lt-or-ge k (n * m))

all-planes : (t : MergeTables) (u v : List ℕ) → ((s : ℕ) → s < t.groups → (k : ℕ) → k < plane_words t.regions → get_or v (plane_at t s + k) 0 ≡ get_or u (plane_at t s + k) 0)
    → (k : ℕ) → k < t.groups * plane_words t.regions → get_or v (t.planes + k) 0 ≡ get_or u (t.planes + k) 0
all-planes t u v h k l =
    let i = in_row t.groups (plane_words t.regions) k l in
    let e : plane_at t i.0 + i.2 ≡ t.planes + k = omega (arith, i.4) in
    rw e at (h i.0 i.1 i.2 i.3)

pub measured-in-once : {t : MergeTables} {s : ℕ} {old u v : List ℕ} → MeasuredIn t s old u → MeasuredIn t s old v → u ≡ v
measured-in-once {t} {s} {old} {u} {v} p q =
    let e = measured-once q.is p.is in
    only_none
    (only_same
    (only_same (only_same (only-both p.only q.only) (word_same (t.costs + s) u v e.0)) (word_same (t.columns + s) u v e.1))
    (planes-same t u v s (shape_in t old s) p.planed q.planed))

shape-seg : (t : MergeTables) (u v : List ℕ) (s : ℕ) → shape_in t v s ≡ shape_in t u s → seg (t.slots + s * t.regions) t.regions v ≡ seg (t.slots + s * t.regions) t.regions u
unfolding shape_in
shape-seg t u v s e = e

-- slots of one shape have one cost
costs-once : (t : MergeTables) (u v : List ℕ) (s : ℕ) → Sound t u → Sound t v → s < t.groups → shape_in t v s ≡ shape_in t u s
    → (get_or v (t.costs + s) 0 ≡ get_or u (t.costs + s) 0) × (get_or v (t.columns + s) 0 ≡ get_or u (t.columns + s) 0)
costs-once t u v s p q l e = measured-once (q.measured s l) (subst (λ x. Measured x (get_or u (t.costs + s) 0) (get_or u (t.columns + s) 0)) (sym e) (p.measured s l))

pub measured-all-once : {t : MergeTables} {old u v : List ℕ} → MeasuredAll t old u → MeasuredAll t old v → u ≡ v
measured-all-once {t} {old} {u} {v} p q =
    only_none
    (only_same
    (only_same
    (only_same (only-both p.only q.only) (λ s l. (costs-once t u v s p.sound q.sound l (shape s l)).0))
    (λ s l. (costs-once t u v s p.sound q.sound l (shape s l)).1))
    (all-planes t u v (λ s l. planes-same t u v s (shape_in t v s) (subst (Planed t u s) (sym (shape s l)) (p.sound.planed s l)) (q.sound.planed s l))))
  where
    shape : (s : ℕ) → s < t.groups → shape_in t v s ≡ shape_in t u s
    shape s l =
        let d = p.sound.shaped.laid in
        let e = slot-end t (length u) s d l in
        shape-kept t u v s d l (only-both p.only q.only) (λ k b m. omega arith)

-- slot a holds one group, and what that costs
pub joined-in-once : {t : MergeTables} {a b : ℕ} {old u v : List ℕ} → a < t.groups → JoinedIn t a b old u → JoinedIn t a b old v → u ≡ v
joined-in-once {t} {a} {b} {old} {u} {v} l p q =
    only_none
    (only_same
    (only_same
    (only_same
    (only_same
    (only_same (only-both p.only q.only) (shape-words shape))
    (word_same (t.counts + a) u v (sym (sets-is t v a) ∙ ap (λ (g : Group). g.sets) same ∙ sets-is t u a)))
    (word_same (t.costs + a) u v (costs-once t u v a p.sound q.sound l shape).0))
    (word_same (t.columns + a) u v (costs-once t u v a p.sound q.sound l shape).1))
    (planes-same t u v a (shape_in t v a) (subst (Planed t u a) (sym shape) (p.sound.planed a l)) (q.sound.planed a l)))
  where
    same : group_in t v a ≡ group_in t u a
    same = q.is ∙ sym p.is

    shape : shape_in t v a ≡ shape_in t u a
    shape = sym (shape_is t v a) ∙ ap (λ (g : Group). g.shape) same ∙ shape_is t u a

    shape-words : shape_in t v a ≡ shape_in t u a → (k : ℕ) → k < t.regions → get_or v (t.slots + a * t.regions + k) 0 ≡ get_or u (t.slots + a * t.regions + k) 0
    shape-words e = words_same (t.slots + a * t.regions) t.regions u v (shape-seg t u v a e)
