-- What joining a pair does to the words. Assumes nothing.
use mathlib.Core.Path.{◌≡◌, sym, ap, subst, ◌∙◌}
use mathlib.Core.Logic.{◌≢◌}
use mathlib.Core.List.{List, [], ◌∷◌}
use Prim.Native.Nat.{ℕ, ◌+◌, ◌-◌, ◌*◌, ◌≤◌, ◌<◌}
use native.Mathlib.Omega.{arith}
use lib.ListN.{length, get_or}
use Rattle.laws.specs.LentRange.{Only, Outside, Apart, seg}
use Rattle.laws.proofs.Products.{row_fits}
use Rattle.laws.proofs.RangeLaws.{only-trans, only-weaken, only-seg, apart-part, outside-at}
use Rattle.shapes.specs.Shape.{Shape}
use Rattle.shapes.specs.Group.{joined}
use Rattle.shapes.specs.Lent.{Narrow}
use Rattle.planes.specs.Plane.{IsCost, plane_words}
use Rattle.pairs.specs.declared.Pair.{Pair}
use Rattle.slots.specs.declared.tables.MergeTables.{MergeTables}
use Rattle.slots.specs.Lent.{Laid, shape_in, group_in, plane_at, Planed, Sound, JoinedIn}
use Rattle.waits.specs.LentWaits.{place_of, group_of}
use Rattle.merging.specs.LentHeld.{written, Retired, Noted, Joinable, PairJoined}
use Rattle.slots.proofs.TableLaws.{slot-end, plane-end}
use Rattle.slots.proofs.SlotLaws.{shape-kept, planed-kept, laid_kept, slots_apart}
use Rattle.waits.proofs.WaitLaws.{group-kept}

-- ---- tables that did not change

abbrev pub Untouched : List (ℕ × ℕ) → ℕ → ℕ → Type 0
Untouched rs a n = (k : ℕ) → a ≤ k → k < a + n → Outside rs k

module _ {rs : List (ℕ × ℕ)} (t : MergeTables) (w w' : List ℕ) (h : Laid t (length w)) (o : Only rs w w') where
  slot-out : Untouched rs t.slots (t.groups * t.regions) → (s : ℕ) → s < t.groups → Untouched rs (t.slots + s * t.regions) t.regions
  slot-out u s l k p q = let e = row_fits t.regions t.groups s l in u k (omega arith) (omega arith)

  pub frame-sound : Untouched rs t.slots (t.groups * t.regions) → Untouched rs t.costs t.groups → Untouched rs t.columns t.groups
      → Untouched rs t.planes (t.groups * plane_words t.regions) → Sound t w → Sound t w'
  frame-sound u r c b s = record {
    shaped = record {
      laid = laid_kept t w w' h o;
      narrow = λ k l. subst Narrow (sym (shape-kept t w w' k h l o (slot-out u k l))) (s.shaped.narrow k l);
      costs = λ k l. subst (λ (z : Shape). (i : ℕ) → IsCost (get_or z i 0)) (sym (shape-kept t w w' k h l o (slot-out u k l))) (s.shaped.costs k l);
    };
    planed = λ k l.
        let e = row_fits (plane_words t.regions) t.groups k l in
        subst (Planed t w' k) (sym (shape-kept t w w' k h l o (slot-out u k l)))
        (planed-kept t w w' k (shape_in t w k) o (λ i p q. b i (omega arith) (omega arith)) (s.planed k l));
    measured = λ k l.
        let e = shape-kept t w w' k h l o (slot-out u k l) in
        let p = o.kept (t.costs + k) (r (t.costs + k) (omega arith) (omega arith)) in
        let q = o.kept (t.columns + k) (c (t.columns + k) (omega arith) (omega arith)) in
        rw (e, p, q) (s.measured k l);
  }

  pub frame-groups : Untouched rs t.slots (t.groups * t.regions) → Untouched rs t.counts t.groups → (s : ℕ) → s < t.groups → group_in t w' s ≡ group_in t w s
  frame-groups u c s l = group-kept t w w' s h l o (slot-out u s l) (c (t.counts + s) (omega arith) (omega arith))

-- ---- joining

pub join-pair-asks : (t : MergeTables) (j : ℕ) (p : Pair) (w : List ℕ) → Joinable t j p w
    → Sound t w × ((place_of t w p.first - 1 < t.groups) × ((place_of t w p.second - 1 < t.groups) × ((place_of t w p.first - 1 ≢ place_of t w p.second - 1)
    × ((group_in t w (place_of t w p.first - 1)).sets + (group_in t w (place_of t w p.second - 1)).sets < 4294967296))))
unfolding group_of
join-pair-asks t j p w h = (
  h.sound,
  (omega (arith, h.first-lives, h.first_slot), (omega (arith, h.second-lives, h.second-slot), (λ e. h.apart (omega (arith, h.first-lives, h.second-lives)), h.sets-few))),
)

module _ (t : MergeTables) (j : ℕ) (p : Pair) (w w₁ w₂ w₃ : List ℕ) (h : Joinable t j p w)
    (x : JoinedIn t (place_of t w p.first - 1) (place_of t w p.second - 1) w w₁)
    (y : Retired t p.first p.second (t.groups + j) (place_of t w p.first) w₁ w₂)
    (z : Noted t j p w₂ w₃) where
  abbrev slot : ℕ
  slot = place_of t w p.first - 1

  lies : Laid t (length w)
  lies = h.sound.shaped.laid

  within : slot < t.groups
  within = omega (arith, h.first-lives, h.first_slot)

  lies₁ : Laid t (length w₁)
  lies₁ = laid_kept t w w₁ lies x.only

  lies₂ : Laid t (length w₂)
  lies₂ = laid_kept t w₁ w₂ lies₁ y.only

  -- the words of the first step lie in the slots, the counts, the rows and the columns
  past : (k : ℕ) → t.place ≤ k → k < t.costs → Outside ((t.slots + slot * t.regions, t.regions) ∷ (t.counts + slot, 1) ∷ (t.costs + slot, 1) ∷ (t.columns + slot, 1) ∷ (plane_at t slot, plane_words t.regions) ∷ []) k
  past k a b = let e = slot-end t (length w) slot lies within in let l = within in omega (arith, lies)

  far : (k : ℕ) → t.into ≤ k → k < t.planes → Outside ((t.slots + slot * t.regions, t.regions) ∷ (t.counts + slot, 1) ∷ (t.costs + slot, 1) ∷ (t.columns + slot, 1) ∷ (plane_at t slot, plane_words t.regions) ∷ []) k
  far k a b = let e = slot-end t (length w) slot lies within in let l = within in omega (arith, lies)

  place₁ : (c : ℕ) → c < 2 * t.groups → place_of t w₁ c ≡ place_of t w c
  place₁ c l = x.only.kept (t.place + c) (past (t.place + c) (omega arith) (omega (arith, lies)))

  place₃ : (c : ℕ) → c < 2 * t.groups → place_of t w₃ c ≡ place_of t w₂ c
  place₃ c l = z.only.kept (t.place + c) (omega (arith, lies))

  into₁ : (c : ℕ) → c < 2 * t.groups → get_or w₁ (t.into + c) 0 ≡ get_or w (t.into + c) 0
  into₁ c l = x.only.kept (t.into + c) (far (t.into + c) (omega arith) (omega (arith, lies)))

  into₃ : (c : ℕ) → c < 2 * t.groups → get_or w₃ (t.into + c) 0 ≡ get_or w₂ (t.into + c) 0
  into₃ c l = z.only.kept (t.into + c) (omega (arith, lies))

  sound₂ : Sound t w₂
  sound₂ = frame-sound t w₁ w₂ lies₁ y.only (λ k a b. omega (arith, lies)) (λ k a b. omega (arith, lies)) (λ k a b. omega (arith, lies)) (λ k a b. omega (arith, lies)) x.sound

  sound₃ : Sound t w₃
  sound₃ = frame-sound t w₂ w₃ lies₂ z.only (λ k a b. omega (arith, lies)) (λ k a b. omega (arith, lies)) (λ k a b. omega (arith, lies)) (λ k a b. omega (arith, lies, h.room)) sound₂

  groups₃ : (s : ℕ) → s < t.groups → group_in t w₃ s ≡ group_in t w₁ s
  groups₃ s l =
      frame-groups t w₂ w₃ lies₂ z.only (λ k a b. omega (arith, lies)) (λ k a b. omega (arith, lies)) s l
      ∙ frame-groups t w₁ w₂ lies₁ y.only (λ k a b. omega (arith, lies)) (λ k a b. omega (arith, lies)) s l

  apart-slots : (s : ℕ) → s < t.groups → s ≢ slot → group_in t w₁ s ≡ group_in t w s
  apart-slots s l n =
      group-kept t w w₁ s lies l x.only
      (λ k a b. (outside-slot k a b, rest k a b))
      (let e = slot-end t (length w) slot lies within in let i = within in omega (arith, lies))
    where
      outside-slot : (k : ℕ) → t.slots + s * t.regions ≤ k → k < t.slots + s * t.regions + t.regions → Apart (t.slots + slot * t.regions) t.regions k 1
      outside-slot k a b = outside-at (slots_apart t slot s (λ e. n (sym e))) a b

      rest : (k : ℕ) → t.slots + s * t.regions ≤ k → k < t.slots + s * t.regions + t.regions → Outside ((t.counts + slot, 1) ∷ (t.costs + slot, 1) ∷ (t.columns + slot, 1) ∷ (plane_at t slot, plane_words t.regions) ∷ []) k
      rest k a b = let e = slot-end t (length w) s lies l in let i = within in omega (arith, lies)

  all-only : Only (written t) w w₃
  all-only =
      let e = slot-end t (length w) slot lies within in
      let r = row_fits t.regions t.groups slot within in
      let f = plane-end t (length w) slot lies within in
      let i = within in
      only-trans
      (only-weaken (λ k o. (apart-part o.0 (omega arith) (omega arith), (apart-part o.1.0 (omega arith) (omega arith), (apart-part o.1.1.1.0 (omega arith) (omega arith), (apart-part o.1.1.1.1.0 (omega arith) (omega arith), (apart-part o.1.1.1.1.1.1.1.0 (omega arith) (omega arith), tt)))))) x.only)
      (only-trans
      (only-weaken (λ k o. (o.1.1.0, (o.1.1.1.1.1.0, tt))) y.only)
      (only-weaken (λ k o. (apart-part o.1.1.1.1.1.1.0 (omega arith) (omega (arith, h.room)), tt)) z.only))

  became₃ : group_of t w₃ (t.groups + j) ≡ joined (group_of t w p.first) (group_of t w p.second)
  unfolding group_of
  became₃ =
      let e : place_of t w₃ (t.groups + j) ≡ place_of t w p.first = place₃ (t.groups + j) (omega (arith, h.room)) ∙ y.new in
      ap (λ (s : ℕ). group_in t w₃ (s - 1)) e ∙ groups₃ slot within ∙ x.is

  log₃ : seg t.log (3 * j) w₃ ≡ seg t.log (3 * j) w
  log₃ =
      only-seg z.only t.log (3 * j) (omega (arith, lies₂, h.room)) (λ k a b. omega arith)
      ∙ only-seg y.only t.log (3 * j) (omega (arith, lies₁, h.room)) (λ k a b. omega (arith, lies))
      ∙ only-seg x.only t.log (3 * j) (omega (arith, lies, h.room)) (λ k a b. far k (omega (arith, lies)) (omega (arith, lies, h.room)))

  pub pair-joined : PairJoined t j p w w₃
  pair-joined = record {
    only = all-only;
    sound = sound₃;
    first-dead = place₃ p.first (omega (arith, h.room, h.order, h.below)) ∙ y.first-dead;
    second-dead = place₃ p.second (omega (arith, h.room, h.below)) ∙ y.second-dead;
    new = place₃ (t.groups + j) (omega (arith, h.room)) ∙ y.new;
    others = λ c n m l.
        let i : c < 2 * t.groups = omega (arith, h.room) in
        place₃ c i ∙ y.others c n m (λ e. omega arith) i ∙ place₁ c i;
    became = became₃;
    other-slots = λ s l n. groups₃ s l ∙ apart-slots s l n;
    first-into = into₃ p.first (omega (arith, h.room, h.order, h.below)) ∙ y.first-into;
    second-into = into₃ p.second (omega (arith, h.room, h.below)) ∙ y.second-into;
    others-into = λ c n m l.
        let i : c < 2 * t.groups = omega (arith, h.room) in
        into₃ c i ∙ y.others-into c n m i ∙ into₁ c i;
    log-new = z.is;
    log-old = log₃;
  }
