-- What the functions over slots do: measuring, joining, adding up what the starting groups cost. Assumes nothing.
use mathlib.Core.Path.{◌≡◌, refl, sym, ap, ap₂, subst, ◌∙◌}
use mathlib.Core.Logic.{◌≢◌, ⊎_elim}
use mathlib.Core.List.{List, [], ◌∷◌}
use Prim.Native.Nat.{ℕ, ◌+◌, ◌*◌, ◌≤◌, ◌<◌}
use native.Mathlib.Nat.{add-zero}
use native.Mathlib.Omega.{arith}
use lib.ListN.{length, get_or, set, length-set}
use lib.Seq.{get_or-set_same, get_or-set_other}
use Rattle.laws.specs.Bag.{weigh}
use Rattle.laws.specs.Bounded.{tabulate}
use Rattle.laws.specs.LentRange.{Only, Outside, Apart}
use Rattle.laws.proofs.Cases.{same_or_not, Tri, tri}
use Rattle.laws.proofs.Cases.Tri.{below, same, above}
use Rattle.laws.proofs.BagLaws.{weigh-append}
use Rattle.laws.proofs.BoundedLaws.{tabulate-snoc}
use Rattle.laws.proofs.RangeLaws.{only-refl, only-trans, only_set, only-seg, only-weaken, apart-part, outside-at}
use Rattle.laws.proofs.Products.{product, row_fits}
use Rattle.shapes.specs.Shape.{Shape, join}
use Rattle.shapes.specs.Group.{Group, group_cost}
use Rattle.shapes.specs.Lent.{Narrow, Measured, Small, cost_of, JoinedAt}
use Rattle.shapes.proofs.GroupLaws.{joined-shape, joined-sets, cost-measured}
use Rattle.shapes.proofs.ShapeLaws.{join-self}
use Rattle.shapes.proofs.LentLaws.{narrow-join}
use Rattle.planes.specs.Plane.{IsCost, plane_length, plane_words}
use Rattle.planes.specs.Lent.{MeasuresJoin, JoinsPlanes, FillFit, Filled}
use Rattle.planes.proofs.Meaning.{planes-kept}
use Rattle.planes.proofs.FillLaws.{words-three, planes-room}
use Rattle.slots.specs.declared.tables.MergeTables.{MergeTables}
use Rattle.slots.specs.Lent.{Laid, shape_in, group_in, starting, plane_at, Planed, Shaped, Sound, CostsAs, NotedIn, MeasuredIn, MeasuredAll, ShapesJoined, JoinedIn}
use Rattle.slots.proofs.TableLaws.{slot-end, slot-room, shape-length, plane-end, plane-past, plane-room, costs-measured, costs-small}

-- ---- frames

rows_apart : (base n a b : ℕ) → a ≢ b → Apart (base + a * n) n (base + b * n) n
rows_apart base n a b d = go (tri a b)
  where
    go : Tri a b → Apart (base + a * n) n (base + b * n) n
    go (below l) = record { apart = λ p. omega (arith, row_fits n b a l) }
    go (same e) = absurd (d e)
    go (above l) = record { apart = λ p. omega (arith, row_fits n a b l) }

pub slots_apart : (t : MergeTables) (a b : ℕ) → a ≢ b → Apart (t.slots + a * t.regions) t.regions (t.slots + b * t.regions) t.regions
slots_apart t = rows_apart t.slots t.regions

pub planes-apart : (t : MergeTables) (a b : ℕ) → a ≢ b → Apart (plane_at t a) (plane_words t.regions) (plane_at t b) (plane_words t.regions)
planes-apart t = rows_apart t.planes (plane_words t.regions)

-- words that did not change are the same shape
pub shape-kept : {rs : List (ℕ × ℕ)} (t : MergeTables) (w w' : List ℕ) (s : ℕ) → Laid t (length w) → s < t.groups → Only rs w w'
    → ((k : ℕ) → t.slots + s * t.regions ≤ k → k < t.slots + s * t.regions + t.regions → Outside rs k) → shape_in t w' s ≡ shape_in t w s
unfolding shape_in
shape-kept t w w' s h l p o = only-seg p (t.slots + s * t.regions) t.regions (slot-room t (length w) s h l) o

pub laid_kept : {rs : List (ℕ × ℕ)} (t : MergeTables) (w w' : List ℕ) → Laid t (length w) → Only rs w w' → Laid t (length w')
laid_kept t w w' h p = subst (Laid t) (sym p.long) h

-- words that did not change are the same planes
pub planed-kept : {rs : List (ℕ × ℕ)} (t : MergeTables) (w w' : List ℕ) (s : ℕ) (x : Shape) → Only rs w w'
    → ((k : ℕ) → plane_at t s ≤ k → k < plane_at t s + plane_words t.regions → Outside rs k) → Planed t w s x → Planed t w' s x
planed-kept t w w' s x o f p =
    planes-kept (plane_at t s) (plane_length t.regions) x o (λ k l h. f k l (omega (arith, words-three t.regions))) p

pub group-is : (t : MergeTables) (w w' : List ℕ) (s : ℕ) → shape_in t w' s ≡ shape_in t w s → get_or w' (t.counts + s) 0 ≡ get_or w (t.counts + s) 0 → group_in t w' s ≡ group_in t w s
unfolding group_in
group-is t w w' s e f = λ i. record { shape = e i; sets = f i }

-- ---- measuring

module _ (t : MergeTables) (w : List ℕ) (s x words row cols : ℕ) (h : Laid t (length w)) (l : s < t.groups) (ex : x ≡ plane_at t s)
    (el : words ≡ plane_length t.regions) (j : MeasuresJoin w x x words row cols) where
  abbrev one : List ℕ
  one = set w (t.costs + s) row

  abbrev both : List ℕ
  both = set one (t.columns + s) cols

  at_slot : MeasuresJoin w (plane_at t s) (plane_at t s) (plane_length t.regions) row cols
  at_slot = rw (ex, el) at j

  row-there : get_or both (t.costs + s) 0 ≡ row
  row-there = get_or-set_other one (t.columns + s) (t.costs + s) cols 0 (omega (arith, h)) ∙ get_or-set_same w (t.costs + s) row 0 (omega (arith, h))

  columns-there : get_or both (t.columns + s) 0 ≡ cols
  columns-there = get_or-set_same one (t.columns + s) cols 0 (simp length-set (omega (arith, h)))

  pub noted_in : NotedIn t s w both
  noted_in = record {
    only = only-trans
        (only_set ((t.costs + s, 1) ∷ (t.columns + s, 1) ∷ []) w (t.costs + s) row (λ o. omega (arith, o.0.apart (omega arith))))
        (only_set ((t.costs + s, 1) ∷ (t.columns + s, 1) ∷ []) one (t.columns + s) cols (λ o. omega (arith, o.1.0.apart (omega arith))));
    is = λ z p.
        let m : Measured z row cols = subst (λ (y : Shape). Measured y row cols) (join-self z) (at_slot.is z z p p) in
        rw (row-there, columns-there) m;
  }

-- what `fill` asks
pub fill-fits : (t : MergeTables) (w : List ℕ) (s x y words : ℕ) → Shaped t w → s < t.groups → x ≡ t.slots + s * t.regions → y ≡ plane_at t s
    → words ≡ plane_length t.regions → FillFit x t.regions y words w
unfolding shape_in
fill-fits t w s x y words h l ex ey el = record {
  shape-in = omega (arith, slot-room t (length w) s h.laid l);
  planes-in = plane-room t (length w) s y words h.laid l ey el;
  apart = let e = slot-end t (length w) s h.laid l in let g = h.laid in record { apart = λ p. omega arith };
  room = omega (arith, planes-room t.regions);
  costs = λ k. rw ex (h.costs s l k);
}

module _ (t : MergeTables) (w w₁ : List ℕ) (s x y words : ℕ) (h : Shaped t w) (l : s < t.groups) (ex : x ≡ t.slots + s * t.regions) (ey : y ≡ plane_at t s)
    (el : words ≡ plane_length t.regions) (f : Filled x t.regions y words w w₁) where
  at-planes : Filled (t.slots + s * t.regions) t.regions (plane_at t s) (plane_length t.regions) w w₁
  at-planes = rw (ex, ey, el) at f

  fill-only : Only ((plane_at t s, plane_words t.regions) ∷ []) w w₁
  fill-only = subst (λ (n : ℕ). Only ((plane_at t s, n) ∷ []) w w₁) (sym (words-three t.regions)) at-planes.only

  fill-planed : Planed t w₁ s (shape_in t w s)
  unfolding shape_in
  fill-planed = at-planes.is

  pub fill-laid : Laid t (length w₁)
  fill-laid = laid_kept t w w₁ h.laid fill-only

  pub measured-in : (w₂ : List ℕ) → NotedIn t s w₁ w₂ → MeasuredIn t s w w₂
  measured-in w₂ m = record {
    only = only-trans (only-weaken (λ k o. (o.1.1.0, tt)) fill-only) (only-weaken (λ k o. (o.0, (o.1.0, tt))) m.only);
    is = m.is (shape_in t w s) fill-planed;
    planed =
        let g = h.laid in
        let e = plane-past t (length w) s g in
        planed-kept t w₁ w₂ s (shape_in t w s) m.only (λ k p q. omega arith) fill-planed;
  }

-- the slots below s are measured
pub record Measuring (t : MergeTables) (old new : List ℕ) (s : ℕ) : Type 0 where
  pub within : s ≤ t.groups
  pub only : Only ((t.costs, t.groups) ∷ (t.columns, t.groups) ∷ (t.planes, t.groups * plane_words t.regions) ∷ []) old new
  pub done : (k : ℕ) → k < s → Measured (shape_in t old k) (get_or new (t.costs + k) 0) (get_or new (t.columns + k) 0)
  pub planed : (k : ℕ) → k < s → Planed t new k (shape_in t old k)

module _ (t : MergeTables) (old : List ℕ) (h : Shaped t old) where
  pub measuring-start : Measuring t old old 0
  measuring-start = record {
    within = omega arith;
    only = only-refl ((t.costs, t.groups) ∷ (t.columns, t.groups) ∷ (t.planes, t.groups * plane_words t.regions) ∷ []) old;
    done = λ k l. absurd (omega arith);
    planed = λ k l. absurd (omega arith);
  }

  kept : (new : List ℕ) (s : ℕ) → Measuring t old new s → (k : ℕ) → k < t.groups → shape_in t new k ≡ shape_in t old k
  kept new s m k l =
      let e = slot-end t (length old) k h.laid l in
      let g = h.laid in
      shape-kept t old new k g l m.only (λ i p q. omega arith)

  pub measuring-shaped : (new : List ℕ) (s : ℕ) → Measuring t old new s → Shaped t new
  measuring-shaped new s m = record {
    laid = laid_kept t old new h.laid m.only;
    narrow = λ k l. subst Narrow (sym (kept new s m k l)) (h.narrow k l);
    costs = λ k l. subst (λ (z : Shape). (i : ℕ) → IsCost (get_or z i 0)) (sym (kept new s m k l)) (h.costs k l);
  }

  pub measuring-more : (new new' : List ℕ) (s : ℕ) → Measuring t old new s → s < t.groups → MeasuredIn t s new new' → Measuring t old new' (s + 1)
  measuring-more new new' s m l r = record {
    within = omega arith;
    only =
        let e = plane-end t (length old) s h.laid l in
        only-trans m.only
        (only-weaken (λ k o. (apart-part o.0 (omega arith) (omega arith), (apart-part o.1.0 (omega arith) (omega arith), (apart-part o.1.1.0 (omega arith) (omega arith), tt)))) r.only);
    done = λ k q. ⊎_elim
        (λ (e : k ≡ s). rw e (subst (λ (z : List ℕ). Measured z (get_or new' (t.costs + s) 0) (get_or new' (t.columns + s) 0)) (kept new s m s l) r.is))
        (λ d.
        let g = h.laid in
        let e = plane-past t (length old) s g in
        rw (r.only.kept (t.costs + k) (omega arith), r.only.kept (t.columns + k) (omega arith)) (m.done k (omega arith)))
        (same_or_not k s);
    planed = λ k q. ⊎_elim
        (λ (e : k ≡ s). rw e (subst (Planed t new' s) (kept new s m s l) r.planed))
        (λ d.
        let g = h.laid in
        let e = plane-past t (length old) k g in
        planed-kept t new new' k (shape_in t old k) r.only
        (λ i a b. (record { apart = λ z. omega arith }, (record { apart = λ z. omega arith }, (outside-at (planes-apart t s k (λ u. d (sym u))) a b, tt))))
        (m.planed k (omega arith)))
        (same_or_not k s);
  }

  pub measuring-done : (new : List ℕ) (s : ℕ) → Measuring t old new s → t.groups ≤ s → MeasuredAll t old new
  measuring-done new s m l = record {
    only = m.only;
    sound = record {
      shaped = measuring-shaped new s m;
      measured = λ k q. subst (λ (z : List ℕ). Measured z (get_or new (t.costs + k) 0) (get_or new (t.columns + k) 0)) (sym (kept new s m k q)) (m.done k (omega (arith, m.within)));
      planed = λ k q. subst (Planed t new k) (sym (kept new s m k q)) (m.planed k (omega (arith, m.within)));
    };
  }

-- ---- joining

pub sets-is : (t : MergeTables) (w : List ℕ) (s : ℕ) → (group_in t w s).sets ≡ get_or w (t.counts + s) 0
unfolding group_in
sets-is t w s = refl

pub shape_is : (t : MergeTables) (w : List ℕ) (s : ℕ) → (group_in t w s).shape ≡ shape_in t w s
unfolding group_in
shape_is t w s = refl

-- what `RowShape::join` asks
pub join-asks : (t : MergeTables) (n a b x y : ℕ) → Laid t n → a < t.groups → b < t.groups → a ≢ b → x ≡ t.slots + a * t.regions → y ≡ t.slots + b * t.regions
    → (x + t.regions ≤ n) × ((y + t.regions ≤ n) × Apart x t.regions y t.regions)
join-asks t n a b x y h la lb d ex ey =
    (omega (arith, slot-room t n a h la), (omega (arith, slot-room t n b h lb), rw (ex, ey) (slots_apart t a b d)))

-- and `join_into`
pub join-planes-asks : (t : MergeTables) (n a b p q words : ℕ) → Laid t n → a < t.groups → b < t.groups → a ≢ b → p ≡ plane_at t a → q ≡ plane_at t b
    → words ≡ plane_length t.regions → (p + 3 * words ≤ n) × ((q + 3 * words ≤ n) × Apart p (3 * words) q (3 * words))
join-planes-asks t n a b p q words h la lb d ep eq el = (
  plane-room t n a p words h la ep el,
  (plane-room t n b q words h lb eq el, let e = words-three t.regions in let g = planes-apart t a b d in record { apart = λ z. omega (arith, g.apart (omega arith)) }),
)

module _ (t : MergeTables) (w u v : List ℕ) (a b x y p q words : ℕ) (h : Sound t w) (la : a < t.groups) (lb : b < t.groups)
    (ex : x ≡ t.slots + a * t.regions) (ey : y ≡ t.slots + b * t.regions) (ep : p ≡ plane_at t a) (eq : q ≡ plane_at t b) (el : words ≡ plane_length t.regions)
    (j : JoinedAt x y t.regions w u) (k : JoinsPlanes p q words u v) where
  words-joined : JoinedAt (t.slots + a * t.regions) (t.slots + b * t.regions) t.regions w u
  words-joined = rw (ex, ey) at j

  planes-joined : JoinsPlanes (plane_at t a) (plane_at t b) (plane_length t.regions) u v
  planes-joined = rw (ep, eq, el) at k

  planes-only : Only ((plane_at t a, plane_words t.regions) ∷ []) u v
  planes-only = subst (λ (n : ℕ). Only ((plane_at t a, n) ∷ []) u v) (sym (words-three t.regions)) planes-joined.only

  planed-first : (s : ℕ) → s < t.groups → Planed t u s (shape_in t w s)
  planed-first s l =
      let g = h.shaped.laid in
      let e = plane-past t (length w) s g in
      let f = slot-end t (length w) a g la in
      planed-kept t w u s (shape_in t w s) words-joined.only (λ i m n. omega arith) (h.planed s l)

  pub shapes-joined : ShapesJoined t a b w v
  shapes-joined = record {
    only = only-trans (only-weaken (λ i o. (o.0, tt)) words-joined.only) (only-weaken (λ i o. (o.1.0, tt)) planes-only);
    is =
        let g = h.shaped.laid in
        let e = plane-past t (length w) a g in
        let f = slot-end t (length w) a g la in
        shape-kept t u v a (laid_kept t w u g words-joined.only) la planes-only (λ i m n. omega arith) ∙ (unfold shape_in in words-joined.is);
    planed = planes-joined.is (shape_in t w a) (shape_in t w b) (planed-first a la) (planed-first b lb);
  }

module _ (t : MergeTables) (w w₁ : List ℕ) (a b : ℕ) (h : Sound t w) (la : a < t.groups) (lb : b < t.groups) (j : ShapesJoined t a b w w₁) where
  abbrev sum : ℕ
  sum = get_or w₁ (t.counts + a) 0 + get_or w₁ (t.counts + b) 0

  abbrev w₂ : List ℕ
  w₂ = set w₁ (t.counts + a) sum

  lies : Laid t (length w)
  lies = h.shaped.laid

  count_kept : (s : ℕ) → s < t.groups → get_or w₁ (t.counts + s) 0 ≡ get_or w (t.counts + s) 0
  count_kept s l =
      let e = slot-end t (length w) a lies la in
      let f = plane-past t (length w) a lies in
      let g = lies in
      j.only.kept (t.counts + s) (omega arith)

  pub sum_fits : (group_in t w a).sets + (group_in t w b).sets < 4294967296 → sum < 4294967296
  sum_fits f = omega (arith, count_kept a la, count_kept b lb, sets-is t w a, sets-is t w b)

  second : Only ((t.counts + a, 1) ∷ []) w₁ w₂
  second = only_set ((t.counts + a, 1) ∷ []) w₁ (t.counts + a) sum (λ o. omega (arith, o.0.apart (omega arith)))

  pub second-laid : Laid t (length w₂)
  second-laid = laid_kept t w₁ w₂ (laid_kept t w w₁ lies j.only) second

  shape-second : (s : ℕ) → s < t.groups → shape_in t w₂ s ≡ shape_in t w₁ s
  shape-second s l =
      let e = slot-end t (length w) s lies l in
      let g = lies in
      shape-kept t w₁ w₂ s (laid_kept t w w₁ lies j.only) l second (λ i p q. omega arith)

  planed-second : (s : ℕ) → s < t.groups → (x : Shape) → Planed t w₁ s x → Planed t w₂ s x
  planed-second s l x p =
      let e = plane-past t (length w) s lies in
      let g = lies in
      planed-kept t w₁ w₂ s x second (λ i m n. omega arith) p

  shape-other : (s : ℕ) → s < t.groups → s ≢ a → shape_in t w₂ s ≡ shape_in t w s
  shape-other s l n =
      let e = slot-end t (length w) s lies l in
      let f = plane-past t (length w) a lies in
      let g = lies in
      shape-second s l ∙ shape-kept t w w₁ s lies l j.only (λ i p q. (outside-at (slots_apart t a s (λ e. n (sym e))) p q, (record { apart = λ z. omega arith }, tt)))

  planed-other : (s : ℕ) → s < t.groups → s ≢ a → Planed t w₂ s (shape_in t w s)
  planed-other s l n =
      let e = slot-end t (length w) a lies la in
      let f = plane-past t (length w) s lies in
      let g = lies in
      planed-second s l (shape_in t w s)
      (planed-kept t w w₁ s (shape_in t w s) j.only (λ i p q. (record { apart = λ z. omega arith }, (outside-at (planes-apart t a s (λ e. n (sym e))) p q, tt))) (h.planed s l))

  shape-joined : shape_in t w₂ a ≡ join (shape_in t w a) (shape_in t w b)
  shape-joined = shape-second a la ∙ j.is

  planed-joined : Planed t w₂ a (join (shape_in t w a) (shape_in t w b))
  planed-joined = planed-second a la (join (shape_in t w a) (shape_in t w b)) j.planed

  narrow-joined : Narrow (shape_in t w₂ a)
  narrow-joined =
      subst Narrow (sym shape-joined)
      (narrow-join (shape_in t w a) (shape_in t w b) (h.shaped.narrow a la) (h.shaped.narrow b lb) (shape-length t w a lies la ∙ sym (shape-length t w b lies lb)))

  module _ (w₃ : List ℕ) (m : NotedIn t a w₂ w₃) where
    shape-third : (s : ℕ) → s < t.groups → shape_in t w₃ s ≡ shape_in t w₂ s
    shape-third s l =
        let e = slot-end t (length w) s lies l in
        let g = lies in
        shape-kept t w₂ w₃ s second-laid l m.only (λ i p q. omega arith)

    shape-now : (s : ℕ) → s < t.groups → s ≢ a → shape_in t w₃ s ≡ shape_in t w s
    shape-now s l n = shape-third s l ∙ shape-other s l n

    became : shape_in t w₃ a ≡ join (shape_in t w a) (shape_in t w b)
    became = shape-third a la ∙ shape-joined

    planed-third : (s : ℕ) → s < t.groups → (x : Shape) → Planed t w₂ s x → Planed t w₃ s x
    planed-third s l x p =
        let e = plane-past t (length w) s lies in
        let g = lies in
        planed-kept t w₂ w₃ s x m.only (λ i r q. omega arith) p

    planed-now : Planed t w₃ a (shape_in t w₃ a)
    planed-now = subst (Planed t w₃ a) (sym became) (planed-third a la (join (shape_in t w a) (shape_in t w b)) planed-joined)

    all-only : Only ((t.slots + a * t.regions, t.regions) ∷ (t.counts + a, 1) ∷ (t.costs + a, 1) ∷ (t.columns + a, 1) ∷ (plane_at t a, plane_words t.regions) ∷ []) w w₃
    all-only =
        only-trans (only-weaken (λ k o. (o.0, (o.1.1.1.1.0, tt))) j.only)
        (only-trans (only-weaken (λ k o. (o.1.0, tt)) second) (only-weaken (λ k o. (o.1.1.0, (o.1.1.1.0, tt))) m.only))

    count-joined : get_or w₃ (t.counts + a) 0 ≡ get_or w (t.counts + a) 0 + get_or w (t.counts + b) 0
    count-joined =
        let g = lies in
        m.only.kept (t.counts + a) (omega arith)
        ∙ get_or-set_same w₁ (t.counts + a) sum 0 (omega (arith, j.only.long))
        ∙ ap₂ ◌+◌ (count_kept a la) (count_kept b lb)

    costs-other : (s : ℕ) → s < t.groups → s ≢ a → Measured (shape_in t w₃ s) (get_or w₃ (t.costs + s) 0) (get_or w₃ (t.columns + s) 0)
    costs-other s l n =
        let g = lies in
        let u = slot-end t (length w) a lies la in
        let v = plane-past t (length w) a lies in
        let r = all-only.kept (t.costs + s) (omega arith) in
        let c = all-only.kept (t.columns + s) (omega arith) in
        rw (shape-now s l n, r, c) (h.measured s l)

    pub join-sound : Sound t w₃
    join-sound = record {
      shaped = record {
        laid = laid_kept t w w₃ lies all-only;
        narrow = λ s l. ⊎_elim
            (λ (e : s ≡ a). rw e (subst Narrow (sym (shape-third a la)) narrow-joined))
            (λ n. subst Narrow (sym (shape-now s l n)) (h.shaped.narrow s l))
            (same_or_not s a);
        costs = λ s l. ⊎_elim
            (λ (e : s ≡ a). rw e planed-now.costs)
            (λ n. subst (λ (z : Shape). (i : ℕ) → IsCost (get_or z i 0)) (sym (shape-now s l n)) (h.shaped.costs s l))
            (same_or_not s a);
      };
      measured = λ s l. ⊎_elim
          (λ (e : s ≡ a). rw e (subst (λ (z : List ℕ). Measured z (get_or w₃ (t.costs + a) 0) (get_or w₃ (t.columns + a) 0)) (sym became) (m.is (join (shape_in t w a) (shape_in t w b)) planed-joined)))
          (λ n. costs-other s l n)
          (same_or_not s a);
      planed = λ s l. ⊎_elim
          (λ (e : s ≡ a). rw e planed-now)
          (λ n. subst (Planed t w₃ s) (sym (shape-now s l n)) (planed-third s l (shape_in t w s) (planed-other s l n)))
          (same_or_not s a);
    }

    pub join-done : JoinedIn t a b w w₃
    join-done = record {
      only = all-only;
      sound = join-sound;
      is = unfold group_in in λ i. record {
        shape = (became ∙ sym (joined-shape (group_in t w a) (group_in t w b))) i;
        sets = (count-joined ∙ sym (joined-sets (group_in t w a) (group_in t w b))) i;
      };
    }

-- ---- what the starting groups cost

-- the first i are added up
pub record Adding (t : MergeTables) (w : List ℕ) (total i : ℕ) : Type 0 where
  pub within : i ≤ t.groups
  pub is : total ≡ weigh group_cost (tabulate 0 i (λ k. group_in t w (get_or w (t.order + k) 0)))
  pub most : total ≤ i * 1126037345927168

pub adding-start : (t : MergeTables) (w : List ℕ) → Adding t w 0 0
unfolding tabulate weigh
adding-start t w = record { within = omega arith; is = refl; most = omega arith }

pub adding-cost : (row cols sets : ℕ) → Small row cols → sets < 4294967296 → cost_of row cols sets ≤ 1126037345927168
adding-cost row cols sets s l = omega (arith, product 262144 4294967295 {a = row} {b = sets} s.row-most (omega arith), s.columns-most)

cost-in : (t : MergeTables) (w : List ℕ) (s row cols sets : ℕ) → Sound t w → s < t.groups → CostsAs t w s row cols sets → group_cost (group_in t w s) ≡ cost_of row cols sets
unfolding group_in
cost-in t w s row cols sets h b q = rw (← q.sets-is) (cost-measured (shape_in t w s) row cols sets (costs-measured t w s row cols sets h b q))

weigh-single : (g : Group) → weigh group_cost (g ∷ []) ≡ group_cost g
unfolding weigh
weigh-single g = add-zero (group_cost g)

pub adding-more : (t : MergeTables) (w : List ℕ) (total i cost row cols sets : ℕ) → Sound t w → get_or w (t.order + i) 0 < t.groups → Adding t w total i → i < t.groups
    → CostsAs t w (get_or w (t.order + i) 0) row cols sets → cost ≡ cost_of row cols sets → Adding t w (total + cost) (i + 1)
adding-more t w total i cost row cols sets h b p l q e =
    let s = get_or w (t.order + i) 0 in
    let g : ℕ → Group = λ k. group_in t w (get_or w (t.order + k) 0) in
    let c : group_cost (group_in t w s) ≡ cost = cost-in t w s row cols sets h b q ∙ sym e in
    let m = adding-cost row cols sets (costs-small t w s row cols sets h b q) q.sets-few in
    record {
      within = omega arith;
      is =
          let n : 0 + i ≡ i = omega arith in
          let z : weigh group_cost (g (0 + i) ∷ []) ≡ cost = weigh-single (g (0 + i)) ∙ ap (λ (k : ℕ). group_cost (g k)) n ∙ c in
          let v = ap (weigh group_cost) (tabulate-snoc 0 i g) ∙ weigh-append group_cost (tabulate 0 i g) (g (0 + i) ∷ []) in
          let k = p.is in
          omega arith;
      most = omega (arith, p.most);
    }

pub adding-done : (t : MergeTables) (w : List ℕ) (total i : ℕ) → Adding t w total i → t.groups ≤ i → total ≡ weigh group_cost (starting t w)
unfolding starting
adding-done t w total i p l = let e : i ≡ t.groups = omega (arith, p.within) in rw e at p.is
