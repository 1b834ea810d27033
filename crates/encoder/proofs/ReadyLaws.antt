-- The groups of a job's sets are what merging asks for. Assumes nothing.
use mathlib.Core.Path.{◌≡◌, refl, sym, ap, subst, ◌∙◌}
use mathlib.Core.List.{List}
use Prim.Native.Nat.{ℕ, ◌+◌, ◌-◌, ◌*◌, ◌≤◌, ◌<◌}
use native.Mathlib.Omega.{arith}
use lib.ListN.{length, get_or}
use lib.Seq.{ext_get_or}
use Rattle.laws.specs.Bag.{weigh}
use Rattle.laws.specs.Bounded.{tabulate}
use Rattle.laws.specs.Every.{All}
use Rattle.laws.specs.LentRange.{Apart}
use Rattle.laws.proofs.Products.{product}
use Rattle.laws.proofs.EveryLaws.{all-and, all-get_or, two-get_or}
use Rattle.laws.proofs.Pigeon.{onto}
use Rattle.shapes.specs.Shape.{Shape}
use Rattle.shapes.specs.Group.{Group}
use Rattle.shapes.specs.Lent.{Narrow}
use Rattle.planes.specs.Plane.{IsCost, plane_words}
use Rattle.planes.proofs.FillLaws.{words-three, long-is}
use Rattle.sets.specs.Lent.{sets_in}
use Rattle.sets.proofs.IdLaws.{distinct-most}
use Rattle.sets.proofs.HeldLaws.{sets-length}
use Rattle.groups.specs.Groups.{Before, groups_of}
use Rattle.table.specs.LentTable as tab
use Rattle.groups.proofs.GroupLaws.{before-unlike, groups-some, groups-long, groups-unlike, groups-count}
use Rattle.grouping.proofs.AddSteps.{none, groups-length, shape_at}
use Rattle.slots.specs.Lent as merge
use Rattle.merging.specs.LentOptimized.{Ready, Optimized}
use Rattle.rule.proofs.Theorems.{Proper}
use Rattle.encoder.specs.declared.places.Places.{Places}
use Rattle.encoder.specs.LentPlaces.{Laid}
use Rattle.encoder.specs.LentArranged.{shapes_at, tables_of, JoinFit}
use Rattle.encoder.proofs.CostLaws.{groups-costs}

-- the groups stand in the table of shapes as merging reads them
starting-same : (p : Places) (groups : ℕ) (w : List ℕ) → merge.starting (tables_of p groups) w ≡ tab.groups_in (shapes_at p) groups w
unfolding merge.starting merge.group_in merge.shape_in tab.groups_in tab.group_in tab.shape_in
starting-same p groups w = refl

pub shape_same : (p : Places) (groups : ℕ) (w : List ℕ) (s : ℕ) → merge.shape_in (tables_of p groups) w s ≡ tab.shape_in (shapes_at p) s w
unfolding merge.shape_in tab.shape_in
shape_same p groups w s = refl

-- so many groups fit where merging finds them
module _ {p : Places} {groups long : ℕ} (lies : Laid p long) (few : groups ≤ p.room) where
  slots-to : p.slots + groups * p.regions ≤ p.order
  slots-to = let q = product (p.room + 1) p.regions {a = groups} {b = p.regions} (omega arith) (omega arith) in omega (arith, lies)

  planes-to : p.rows + groups * plane_words p.regions ≤ long
  planes-to =
      let three = words-three p.regions ∙ ap (λ (n : ℕ). 3 * n) (long-is p.regions) in
      let q = product p.room (plane_words p.regions) {a = groups} {b = plane_words p.regions} few (omega arith) in
      let e = ap (λ (n : ℕ). p.room * n) three in
      omega (arith, lies.planes-to)

  pub tables-laid : merge.Laid (tables_of p groups) long
  tables-laid = record {
    groups-few = omega (arith, lies);
    regions-few = omega (arith, lies);
    slots_end = slots-to;
    order-end = omega (arith, lies);
    counts_end = omega (arith, lies);
    place_end = omega (arith, lies);
    costs-end = omega (arith, lies);
    columns-end = omega (arith, lies);
    into-end = omega (arith, lies);
    log-end = omega (arith, lies);
    planes-end = planes-to;
  }

-- merging of no groups has nothing to ask for but room
pub ready-none : (p : Places) (w : List ℕ) → merge.Laid (tables_of p 0) (length w) → Ready (tables_of p 0) w
unfolding merge.starting tabulate weigh
ready-none p w l = record {
  shaped = record { laid = l; narrow = λ s h. absurd (omega arith); costs = λ s h. absurd (omega arith) };
  dealt = record { within = λ i h. absurd (omega arith); apart = λ i j h k. absurd (omega arith) };
  sets-few = omega arith;
}

-- and leaves its words as they are
pub idle : (p : Places) (groups : ℕ) {m v b a : ℕ} {w w' : List ℕ} → Optimized (tables_of p groups) m v b a w w' → groups ≡ 0 → w' ≡ w
idle p groups {w = w} {w' = w'} o z =
    let none₀ : groups * p.regions ≡ 0 * p.regions = ap (λ (n : ℕ). n * p.regions) z in
    let none : groups * p.regions ≡ 0 = omega arith in
    let twice : 2 * groups ≡ 0 = omega arith in
    let late : 3 * (groups - 1) ≡ 0 = omega arith in
    let bits₀ : groups * plane_words p.regions ≡ 0 * plane_words p.regions = ap (λ (n : ℕ). n * plane_words p.regions) z in
    let bits : groups * plane_words p.regions ≡ 0 = omega arith in
    ext_get_or 0 w' w o.only.long (λ i h. o.only.kept i (off p.slots (groups * p.regions) i none, (off p.counts groups i z, (off p.place (2 * groups) i twice, (off p.costs groups i z, (off p.columns groups i z, (off p.into (2 * groups) i twice, (off p.log (3 * (groups - 1)) i late, (off p.rows (groups * plane_words p.regions) i bits, tt)))))))))
  where
    off : (a n k : ℕ) → n ≡ 0 → Apart a n k 1
    off a n k e = record { apart = λ h. omega arith }

module _ {p : Places} {groups ids : ℕ} {w : List ℕ} (f : JoinFit p groups ids w) where
  pub groups-fit : groups ≤ p.room
  groups-fit = f.grouped.table.fits

  pub starting-are : merge.starting (tables_of p groups) w ≡ groups_of p.regions (sets_in 0 p.sets w)
  starting-are = starting-same p groups w ∙ f.grouped.groups

  pub groups-count-is : groups ≡ length (groups_of p.regions (sets_in 0 p.sets w))
  groups-count-is = sym (groups-length (shapes_at p) groups w) ∙ ap length f.grouped.groups

  -- slots of their own
  pub slot-below : (i : ℕ) → i < groups → get_or w (p.order + i) 0 < groups
  slot-below = f.grouped.table.below

  pub slot_apart : (i j : ℕ) → i < j → j < groups → get_or w (p.order + i) 0 ≡ get_or w (p.order + j) 0 → ⊥
  slot_apart i j l h e =
      let n = groups-length (shapes_at p) groups w in
      let b = two-get_or Before (tab.groups_in (shapes_at p) groups w) i j none f.grouped.table.ordered l (omega arith) in
      before-unlike (get_or (tab.groups_in (shapes_at p) groups w) i none) (get_or (tab.groups_in (shapes_at p) groups w) j none) b
      (shape_at (shapes_at p) groups w i (omega arith) ∙ ap (λ (s : ℕ). tab.shape_in (shapes_at p) s w) e ∙ sym (shape_at (shapes_at p) groups w j h))

  -- each slot below `groups` is some group's
  pub slot-of : (s : ℕ) → s < groups → (i : ℕ) × (i < groups) × (get_or w (p.order + i) 0 ≡ s)
  slot-of = onto (λ i. get_or w (p.order + i) 0) groups slot-below slot_apart

  slot-narrow : (s : ℕ) → s < groups → Narrow (tab.shape_in (shapes_at p) s w)
  slot-narrow s h =
      let i = slot-of s h in
      let n = groups-length (shapes_at p) groups w in
      let g = all-get_or (λ (x : Group). Narrow x.shape) (tab.groups_in (shapes_at p) groups w) i.0 none f.grouped.table.narrow (omega (arith, i.1)) in
      subst Narrow (shape_at (shapes_at p) groups w i.0 i.1 ∙ ap (λ (x : ℕ). tab.shape_in (shapes_at p) x w) i.2) g

  slot-costs : (s : ℕ) → s < groups → (k : ℕ) → IsCost (get_or (tab.shape_in (shapes_at p) s w) k 0)
  slot-costs s h =
      let i = slot-of s h in
      let n = groups-length (shapes_at p) groups w in
      let all = subst (All (λ (x : Group). (k : ℕ) → IsCost (get_or x.shape k 0))) (sym f.grouped.groups) (groups-costs p.regions (sets_in 0 p.sets w)) in
      let g = all-get_or (λ (x : Group). (k : ℕ) → IsCost (get_or x.shape k 0)) (tab.groups_in (shapes_at p) groups w) i.0 none all (omega (arith, i.1)) in
      subst (λ (x : Shape). (k : ℕ) → IsCost (get_or x k 0)) (shape_at (shapes_at p) groups w i.0 i.1 ∙ ap (λ (x : ℕ). tab.shape_in (shapes_at p) x w) i.2) g

  pub merge-laid : merge.Laid (tables_of p groups) (length w)
  merge-laid = tables-laid f.laid groups-fit

  pub slots_end : p.slots + groups * p.regions ≤ p.order
  slots_end = merge-laid.slots_end

  sets-few : weigh (λ x. x.sets) (merge.starting (tables_of p groups) w) < 4294967296
  sets-few =
      let all = sets_in 0 p.sets w in
      let c = ap (weigh (λ (x : Group). x.sets)) starting-are ∙ groups-count p.regions all in
      omega (arith, c, distinct-most all, sets-length 0 p.sets w, f.laid.sets-few)

  pub ready : Ready (tables_of p groups) w
  ready = record {
    shaped = record {
      laid = merge-laid;
      narrow = λ s h. subst Narrow (sym (shape_same p groups w s)) (slot-narrow s h);
      costs = λ s h. subst (λ (x : Shape). (k : ℕ) → IsCost (get_or x k 0)) (sym (shape_same p groups w s)) (slot-costs s h);
    };
    dealt = record { within = slot-below; apart = slot_apart };
    sets-few = sets-few;
  }

  pub proper : Proper p.regions (merge.starting (tables_of p groups) w)
  proper =
      let all = sets_in 0 p.sets w in
      subst (Proper p.regions) (sym starting-are) (record {
        full = all-and _ _ (groups_of p.regions all) (groups-some p.regions all) (groups-long p.regions all);
        distinct = groups-unlike p.regions all;
      })
