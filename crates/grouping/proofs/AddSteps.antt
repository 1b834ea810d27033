-- One more set in the table of shapes: in the group that has its shape, or as a group of its own. Assumes nothing.
use mathlib.Core.Path.{◌≡◌, refl, sym, ap, ◌∙◌}
use mathlib.Core.List.{List, [], ◌∷◌, ◌++◌}
use mathlib.Core.Logic.{⊎_elim}
use Prim.Native.Nat.{ℕ, ◌+◌, ◌-◌, ◌*◌, ◌≤◌, ◌<◌}
use native.Mathlib.Omega.{arith}
use lib.ListN.{length, get_or, take, drop, set, length-set}
use lib.Seq.{ext_get_or, get_or-set_same, get_or-set_other}
use borrow.Author.Count.{below_more}
use Rattle.laws.specs.Every.{All}
use Rattle.laws.specs.LentRange.{Only}
use Rattle.laws.proofs.Cases.{Tri, tri, same_or_not}
use Rattle.laws.proofs.Cases.Tri.{below, same, above}
use Rattle.laws.proofs.Products.{row_fits}
use Rattle.laws.proofs.ListLaws.{length-insert, insert-front, insert-here, insert-back}
use Rattle.laws.proofs.BoundedLaws.{length-tabulate, get_or-tabulate, tabulate-same}
use Rattle.laws.proofs.EveryLaws.{all-get_or, all-intro, two-get_or}
use Rattle.laws.proofs.RangeLaws.{only-trans, only_set, only-weaken, only-seg}
use Rattle.shapes.specs.Shape.{cost_of_row}
use Rattle.shapes.specs.Group.{Group}
use Rattle.shapes.specs.Lent.{Narrow}
use Rattle.groups.specs.Groups.{Before, with_shape}
use Rattle.table.specs.declared.Shapes.{Shapes}
use Rattle.table.specs.LentTable.{shape_in, slot_in, group_in, groups_in, SlotFits, Searchable, FoundAt, FoundGap}
use Rattle.grouping.specs.LentGroups.{Laid, Table, JoinFit, JoinedIn, NewFit, NewIn, AddFit, AddedOne, AddedNone}
use Rattle.groups.proofs.GroupLaws.{one, more, Long, with_all, with-before, with_at, with-new, before-unlike}
use Rattle.table.proofs.TableSteps.{shape-in-length}

pub none : Group
none = record { shape = []; sets = 0 }

group-eq : {g h : Group} → g.shape ≡ h.shape → g.sets ≡ h.sets → g ≡ h
group-eq p q = λ i. record { shape = p i; sets = q i }

-- ---- the groups of the table, one by one

pub groups-length : (t : Shapes) (m : ℕ) (w : List ℕ) → length (groups_in t m w) ≡ m
unfolding groups_in
groups-length t m w = length-tabulate 0 m (group_in t w)

pub groups-at : (t : Shapes) (m : ℕ) (w : List ℕ) (i : ℕ) → i < m → get_or (groups_in t m w) i none ≡ group_in t w i
unfolding groups_in
groups-at t m w i h =
    let e : 0 + i ≡ i = omega arith in
    get_or-tabulate 0 m (group_in t w) none i h ∙ ap (group_in t w) e

group-shape : (t : Shapes) (w : List ℕ) (i : ℕ) → (group_in t w i).shape ≡ shape_in t (slot_in t i w) w
unfolding group_in
group-shape t w i = refl

pub group-sets : (t : Shapes) (w : List ℕ) (i : ℕ) → (group_in t w i).sets ≡ get_or w (t.counts + slot_in t i w) 0
unfolding group_in
group-sets t w i = refl

pub shape_at : (t : Shapes) (m : ℕ) (w : List ℕ) (i : ℕ) → i < m → (get_or (groups_in t m w) i none).shape ≡ shape_in t (slot_in t i w) w
shape_at t m w i h = ap (λ (g : Group). g.shape) (groups-at t m w i h) ∙ group-shape t w i

-- groups whose words are as they were
pub groups-kept : (t : Shapes) (m : ℕ) (u w : List ℕ) → ((i : ℕ) → i < m → slot_in t i w ≡ slot_in t i u)
    → ((i : ℕ) → i < m → get_or w (t.counts + slot_in t i u) 0 ≡ get_or u (t.counts + slot_in t i u) 0)
    → ((i : ℕ) → i < m → shape_in t (slot_in t i u) w ≡ shape_in t (slot_in t i u) u) → groups_in t m w ≡ groups_in t m u
unfolding groups_in group_in
groups-kept t m u w p q r = tabulate-same 0 m (group_in t w) (group_in t u)
    (λ i a b.
    let l : i < m = omega arith in
    group-eq (ap (λ (s : ℕ). shape_in t s w) (p i l) ∙ r i l) (ap (λ (s : ℕ). get_or w (t.counts + s) 0) (p i l) ∙ q i l))

-- a slot lies within the slots, before the other tables
pub slot-end : {t : Shapes} {w : List ℕ} → Laid t w → (s : ℕ) → s ≤ t.room → t.slots + s * t.regions + t.regions ≤ t.order
slot-end {t} l s h = omega (arith, l.slots-to, row_fits t.regions (t.room + 1) s (omega arith))

pub slot-room : {t : Shapes} {w : List ℕ} → Laid t w → (s : ℕ) → s ≤ t.room → t.slots + s * t.regions + t.regions ≤ length w
slot-room l s h = omega (arith, slot-end l s h, l.order-to, l.counts-to)

-- the slots come before the numbers
pub slots-first : {t : Shapes} {w : List ℕ} → Laid t w → t.slots ≤ t.order
slots-first {t} l = omega (arith, slot-end l 0 (omega arith))

module _ {t : Shapes} {m kind : ℕ} {w : List ℕ} (a : AddFit t m kind w) where
  laid : Laid t w
  laid = a.table.laid

  fits : m ≤ t.room
  fits = a.table.fits

  slot-below : (i : ℕ) → i < m → slot_in t i w < m
  slot-below = a.table.below

  slot-fits : (i : ℕ) → i < m → SlotFits t (slot_in t i w) w
  slot-fits i h = record {
    room = slot-room laid (slot_in t i w) (omega (arith, slot-below i h, fits));
    narrow = rw (shape_at t m w i h) at (all-get_or (λ g. Narrow g.shape) (groups_in t m w) i none a.table.narrow (omega (arith, groups-length t m w)));
  }

  long : All (Long t.regions) (groups_in t m w)
  long = all-intro (Long t.regions) (groups_in t m w) none
      (λ i h. let l : i < m = omega (arith, groups-length t m w) in rw (shape_at t m w i l) (shape-in-length t (slot_in t i w) w (slot-fits i l)))

  before : (i j : ℕ) → i < j → j < m → Before (get_or (groups_in t m w) i none) (get_or (groups_in t m w) j none)
  before i j p q = two-get_or Before (groups_in t m w) i j none a.table.ordered p (omega (arith, groups-length t m w))

  pub sought-fits : SlotFits t m w
  sought-fits = record { room = slot-room laid m fits; narrow = a.sought }

  pub searchable : Searchable t m m w
  searchable = record {
    room = omega (arith, laid.order-to, laid.counts-to, fits);
    sought = sought-fits;
    slot = slot-fits;
    cost = λ i h. record {
      room = λ e. omega (arith, laid.counts-to, slot-below i h, fits);
      is = λ e. a.table.costs (slot_in t i w) (slot-below i h);
    };
    ordered = λ i j p q. let l : i < m = omega arith in rw (shape_at t m w i l, shape_at t m w j q) at (before i j p q);
  }

  -- distinct groups lie in distinct slots
  slots_apart : (i j : ℕ) → i < m → j < m → (j ≡ i → ⊥) → slot_in t j w ≡ slot_in t i w → ⊥
  slots_apart i j p q n e = go (tri i j)
    where
      shapes : (get_or (groups_in t m w) i none).shape ≡ (get_or (groups_in t m w) j none).shape
      shapes = shape_at t m w i p ∙ ap (λ (s : ℕ). shape_in t s w) (sym e) ∙ sym (shape_at t m w j q)

      go : Tri i j → ⊥
      go (below l) = before-unlike (get_or (groups_in t m w) i none) (get_or (groups_in t m w) j none) (before i j l q) shapes
      go (same l) = n (sym l)
      go (above l) = before-unlike (get_or (groups_in t m w) j none) (get_or (groups_in t m w) i none) (before j i l p) (sym shapes)

  -- words that may change
  abbrev may : List (ℕ × ℕ)
  may = (kind, 1) ∷ (t.order, t.room) ∷ (t.counts, 2 * t.room) ∷ []

  shape-kept : {new : List ℕ} → Only may w new → (s : ℕ) → s ≤ t.room → shape_in t s new ≡ shape_in t s w
  unfolding shape_in
  shape-kept o s h = only-seg o (t.slots + s * t.regions) t.regions (slot-room laid s h)
      (λ k p q.
      let e = slot-end laid s h in (
        record { apart = λ x. omega (arith, a.kind-to) },
        (record { apart = λ x. absurd (omega arith) }, (record { apart = λ x. absurd (omega (arith, laid.order-to)) }, tt)),
      ))

  table_of : {new : List ℕ} {r : ℕ} → length new ≡ length w → r ≤ t.room → ((i : ℕ) → i < r → slot_in t i new < r)
      → groups_in t r new ≡ with_shape (groups_in t m w) (shape_in t m w) → ((s : ℕ) → s < r → get_or new (t.counts + t.room + s) 0 ≡ cost_of_row (shape_in t s new)) → Table t r new
  table_of {new} {r} l f b e c = record {
    laid = record { slots-to = laid.slots-to; order-to = laid.order-to; counts-to = omega (arith, laid.counts-to); costed = laid.costed; few = laid.few; narrow = laid.narrow };
    fits = f;
    below = b;
    ordered = rw e (with-before t.regions (groups_in t m w) (shape_in t m w) (shape-in-length t m w sought-fits) long a.table.ordered);
    narrow = rw e (with_all (λ g. Narrow g.shape) (groups_in t m w) (shape_in t m w) a.sought (λ g q. q) a.table.narrow);
    costs = c;
  }

  -- ---- the shape is that of group i

  module _ {i : ℕ} (f : FoundAt t m m w i) where
    pub join-fit : JoinFit t i kind w
    join-fit = record {
      place = omega (arith, f.below, fits, slots-first laid, laid.order-to, laid.counts-to);
      count = omega (arith, slot-below i f.below, fits, laid.counts-to);
      small = a.small i f.below;
      kind-in = omega (arith, a.kind-to, slots-first laid, laid.order-to, laid.counts-to);
    }

    module _ {new : List ℕ} (j : JoinedIn t i kind w new) where
      abbrev v : ℕ
      v = get_or w (t.counts + slot_in t i w) 0 + 1

      join-only : Only may w new
      join-only = rw j.is (only-trans
          (only_set may w (t.counts + slot_in t i w) v (λ o. omega (arith, o.1.1.0.apart (omega (arith, slot-below i f.below, fits)), slot-below i f.below, fits)))
          (only_set may (set w (t.counts + slot_in t i w) v) kind (slot_in t i w) (λ o. omega (arith, o.0.apart (omega arith)))))

      slot_same : (k : ℕ) → k < m → slot_in t k new ≡ slot_in t k w
      slot_same k l = rw j.is
          (get_or-set_other (set w (t.counts + slot_in t i w) v) kind (t.order + k) (slot_in t i w) 0 (omega (arith, a.kind-to, slots-first laid))
          ∙ get_or-set_other w (t.counts + slot_in t i w) (t.order + k) v 0 (omega (arith, laid.order-to, fits)))

      count_same : (s : ℕ) → s < m → (s ≡ slot_in t i w → ⊥) → get_or new (t.counts + s) 0 ≡ get_or w (t.counts + s) 0
      count_same s l n = rw j.is
          (get_or-set_other (set w (t.counts + slot_in t i w) v) kind (t.counts + s) (slot_in t i w) 0 (omega (arith, a.kind-to, slots-first laid, laid.order-to))
          ∙ get_or-set_other w (t.counts + slot_in t i w) (t.counts + s) v 0 (λ e. n (omega arith)))

      count-more : get_or new (t.counts + slot_in t i w) 0 ≡ get_or w (t.counts + slot_in t i w) 0 + 1
      count-more = rw j.is
          (get_or-set_other (set w (t.counts + slot_in t i w) v) kind (t.counts + slot_in t i w) (slot_in t i w) 0 (omega (arith, a.kind-to, slots-first laid, laid.order-to))
          ∙ get_or-set_same w (t.counts + slot_in t i w) v 0 join-fit.count)

      cost-same : (s : ℕ) → s < m → get_or new (t.counts + t.room + s) 0 ≡ cost_of_row (shape_in t s new)
      cost-same s l = rw j.is
          (get_or-set_other (set w (t.counts + slot_in t i w) v) kind (t.counts + t.room + s) (slot_in t i w) 0 (omega (arith, a.kind-to, slots-first laid, laid.order-to))
          ∙ get_or-set_other w (t.counts + slot_in t i w) (t.counts + t.room + s) v 0 (omega (arith, slot-below i f.below, fits)))
          ∙ a.table.costs s l ∙ ap cost_of_row (sym (shape-kept join-only s (omega (arith, fits))))

      kind-is : get_or new kind 0 ≡ slot_in t i w
      kind-is = rw j.is (get_or-set_same (set w (t.counts + slot_in t i w) v) kind (slot_in t i w) 0 (rw length-set join-fit.kind-in))

      group-is : (k : ℕ) → k < m → group_in t new k ≡ get_or (set (groups_in t m w) i (more (get_or (groups_in t m w) i none))) k none
      group-is k l = ⊎_elim
          (λ (e : k ≡ i).
          rw e (group-eq
          (group-shape t new i ∙ ap (λ (s : ℕ). shape_in t s new) (slot_same i f.below) ∙ shape-kept join-only (slot_in t i w) (omega (arith, slot-below i f.below, fits)) ∙ sym (shape_at t m w i f.below))
          (group-sets t new i ∙ ap (λ (s : ℕ). get_or new (t.counts + s) 0) (slot_same i f.below) ∙ count-more
          ∙ ap (λ (x : ℕ). x + 1) (sym (ap (λ (g : Group). g.sets) (groups-at t m w i f.below) ∙ group-sets t w i)))
          ∙ sym (get_or-set_same (groups_in t m w) i (more (get_or (groups_in t m w) i none)) none (omega (arith, f.below, groups-length t m w)))))
          (λ n.
          group-eq
          (group-shape t new k ∙ ap (λ (s : ℕ). shape_in t s new) (slot_same k l) ∙ shape-kept join-only (slot_in t k w) (omega (arith, slot-below k l, fits)) ∙ sym (group-shape t w k))
          (group-sets t new k ∙ ap (λ (s : ℕ). get_or new (t.counts + s) 0) (slot_same k l) ∙ count_same (slot_in t k w) (slot-below k l) (slots_apart i k f.below l n) ∙ sym (group-sets t w k))
          ∙ sym (groups-at t m w k l)
          ∙ sym (get_or-set_other (groups_in t m w) i k (more (get_or (groups_in t m w) i none)) none n))
          (same_or_not k i)

      groups-are : groups_in t m new ≡ with_shape (groups_in t m w) (shape_in t m w)
      groups-are =
          let g = groups_in t m w in
          ext_get_or none (groups_in t m new) (set g i (more (get_or g i none))) (groups-length t m new ∙ sym (length-set g i (more (get_or g i none)) ∙ groups-length t m w))
          (λ k p. let l : k < m = omega (arith, groups-length t m new) in groups-at t m new k l ∙ group-is k l)
          ∙ sym (with_at t.regions g i none (omega (arith, f.below, groups-length t m w)) long a.table.ordered)
          ∙ ap (with_shape g) (shape_at t m w i f.below ∙ sym f.same)

      pub join_one : AddedOne t m kind w new m
      join_one = record {
        only = join-only;
        table = table_of join-only.long fits (λ k l. rw (slot_same k l) (slot-below k l)) groups-are cost-same;
        groups = groups-are;
        kind-below = rw kind-is (slot-below i f.below);
        kind-shape = ap (λ (s : ℕ). shape_in t s new) kind-is ∙ shape-kept join-only (slot_in t i w) (omega (arith, slot-below i f.below, fits)) ∙ sym f.same;
      }

  -- ---- no group has the shape, and i come before it

  module _ {i : ℕ} (f : FoundGap t m m w i) where
    with-gap : with_shape (groups_in t m w) (shape_in t m w) ≡ take i (groups_in t m w) ++ (one (shape_in t m w) ∷ drop i (groups_in t m w))
    with-gap = with-new t.regions (groups_in t m w) (shape_in t m w) i none (omega (arith, f.most, groups-length t m w))
        (λ k p. rw (shape_at t m w k (omega (arith, f.most))) (f.behind k p))
        (λ k p q. let l : k < m = omega (arith, groups-length t m w) in rw (shape_at t m w k l) (f.ahead k p l))

    with-one-more : length (with_shape (groups_in t m w) (shape_in t m w)) ≡ m + 1
    with-one-more = ap length with-gap ∙ length-insert (groups_in t m w) i (one (shape_in t m w)) none (omega (arith, f.most, groups-length t m w)) ∙ ap (λ (x : ℕ). x + 1) (groups-length t m w)

    pub add_none : t.room ≤ m → AddedNone t m w w
    add_none h = record { same = refl; full = omega (arith, with-one-more) }

    module _ (h : m < t.room) where
      pub new-fit : NewFit t m i kind w
      new-fit = record {
        most = f.most;
        place = omega (arith, slots-first laid, laid.order-to, laid.counts-to);
        slot = sought-fits;
        cost = omega (arith, laid.counts-to);
        few = omega (arith, laid.few);
        kind-in = omega (arith, a.kind-to, slots-first laid, laid.order-to, laid.counts-to);
      }

      module _ {new : List ℕ} (n : NewIn t m i kind w new) where
        new-only : Only may w new
        new-only = rw n.is (only-trans
            (only-weaken (λ k o. (record { apart = λ x. omega (arith, o.1.0.apart (omega arith)) }, tt)) n.inserted.only)
            (only-trans
            (only_set may n.between (t.counts + m) 1 (λ o. omega (arith, o.1.1.0.apart (omega arith))))
            (only-trans
            (only_set may (set n.between (t.counts + m) 1) (t.counts + t.room + m) (cost_of_row (shape_in t m w)) (λ o. omega (arith, o.1.1.0.apart (omega arith))))
            (only_set may (set (set n.between (t.counts + m) 1) (t.counts + t.room + m) (cost_of_row (shape_in t m w))) kind m (λ o. omega (arith, o.0.apart (omega arith)))))))

        order_is : (k : ℕ) → k ≤ m → slot_in t k new ≡ slot_in t k n.between
        order_is k l = rw n.is
            (get_or-set_other (set (set n.between (t.counts + m) 1) (t.counts + t.room + m) (cost_of_row (shape_in t m w))) kind (t.order + k) m 0 (omega (arith, a.kind-to, slots-first laid))
            ∙ get_or-set_other (set n.between (t.counts + m) 1) (t.counts + t.room + m) (t.order + k) (cost_of_row (shape_in t m w)) 0 (omega (arith, laid.order-to))
            ∙ get_or-set_other n.between (t.counts + m) (t.order + k) 1 0 (omega (arith, laid.order-to)))

        count-old : (s : ℕ) → s < m → get_or new (t.counts + s) 0 ≡ get_or w (t.counts + s) 0
        count-old s l = rw n.is
            (get_or-set_other (set (set n.between (t.counts + m) 1) (t.counts + t.room + m) (cost_of_row (shape_in t m w))) kind (t.counts + s) m 0 (omega (arith, a.kind-to, slots-first laid, laid.order-to))
            ∙ get_or-set_other (set n.between (t.counts + m) 1) (t.counts + t.room + m) (t.counts + s) (cost_of_row (shape_in t m w)) 0 (omega arith)
            ∙ get_or-set_other n.between (t.counts + m) (t.counts + s) 1 0 (omega arith)
            ∙ n.inserted.only.kept (t.counts + s) (record { apart = λ x. omega (arith, laid.order-to) }, tt))

        count-new : get_or new (t.counts + m) 0 ≡ 1
        count-new = rw n.is
            (get_or-set_other (set (set n.between (t.counts + m) 1) (t.counts + t.room + m) (cost_of_row (shape_in t m w))) kind (t.counts + m) m 0 (omega (arith, a.kind-to, slots-first laid, laid.order-to))
            ∙ get_or-set_other (set n.between (t.counts + m) 1) (t.counts + t.room + m) (t.counts + m) (cost_of_row (shape_in t m w)) 0 (omega arith)
            ∙ get_or-set_same n.between (t.counts + m) 1 0 (omega (arith, new-fit.cost, n.inserted.only.long)))

        kind-new : get_or new kind 0 ≡ m
        kind-new = rw n.is (get_or-set_same (set (set n.between (t.counts + m) 1) (t.counts + t.room + m) (cost_of_row (shape_in t m w))) kind m 0
            (omega (arith, length-set (set n.between (t.counts + m) 1) (t.counts + t.room + m) (cost_of_row (shape_in t m w)), length-set n.between (t.counts + m) 1, new-fit.kind-in, n.inserted.only.long)))

        cost-old : (s : ℕ) → s < m → get_or new (t.counts + t.room + s) 0 ≡ cost_of_row (shape_in t s new)
        cost-old s l = rw n.is
            (get_or-set_other (set (set n.between (t.counts + m) 1) (t.counts + t.room + m) (cost_of_row (shape_in t m w))) kind (t.counts + t.room + s) m 0 (omega (arith, a.kind-to, slots-first laid, laid.order-to))
            ∙ get_or-set_other (set n.between (t.counts + m) 1) (t.counts + t.room + m) (t.counts + t.room + s) (cost_of_row (shape_in t m w)) 0 (omega arith)
            ∙ get_or-set_other n.between (t.counts + m) (t.counts + t.room + s) 1 0 (omega arith)
            ∙ n.inserted.only.kept (t.counts + t.room + s) (record { apart = λ x. omega (arith, laid.order-to) }, tt))
            ∙ a.table.costs s l ∙ ap cost_of_row (sym (shape-kept new-only s (omega arith)))

        cost-new : get_or new (t.counts + t.room + m) 0 ≡ cost_of_row (shape_in t m new)
        cost-new = rw n.is
            (get_or-set_other (set (set n.between (t.counts + m) 1) (t.counts + t.room + m) (cost_of_row (shape_in t m w))) kind (t.counts + t.room + m) m 0 (omega (arith, a.kind-to, slots-first laid, laid.order-to))
            ∙ get_or-set_same (set n.between (t.counts + m) 1) (t.counts + t.room + m) (cost_of_row (shape_in t m w)) 0 (omega (arith, length-set n.between (t.counts + m) 1, new-fit.cost, n.inserted.only.long)))
            ∙ ap cost_of_row (sym (shape-kept new-only m fits))

        -- a group that keeps its slot, under another number
        moved : (k j : ℕ) → j < m → slot_in t k new ≡ slot_in t j w → group_in t new k ≡ get_or (groups_in t m w) j none
        moved k j l e =
            group-eq
            (group-shape t new k ∙ ap (λ (s : ℕ). shape_in t s new) e ∙ shape-kept new-only (slot_in t j w) (omega (arith, slot-below j l, fits)) ∙ sym (group-shape t w j))
            (group-sets t new k ∙ ap (λ (s : ℕ). get_or new (t.counts + s) 0) e ∙ count-old (slot_in t j w) (slot-below j l) ∙ sym (group-sets t w j))
            ∙ sym (groups-at t m w j l)

        front-slot : (k : ℕ) → k < i → slot_in t k new ≡ slot_in t k w
        front-slot k l = order_is k (omega (arith, f.most)) ∙ n.inserted.front k l

        here-slot : slot_in t i new ≡ m
        here-slot = order_is i f.most ∙ n.inserted.here

        back-slot : (k : ℕ) → i < k → k ≤ m → slot_in t k new ≡ slot_in t (k - 1) w
        back-slot k l q = order_is k q ∙ n.inserted.back k l q

        here-group : group_in t new i ≡ one (shape_in t m w)
        here-group = group-eq
            (group-shape t new i ∙ ap (λ (s : ℕ). shape_in t s new) here-slot ∙ shape-kept new-only m fits)
            (group-sets t new i ∙ ap (λ (s : ℕ). get_or new (t.counts + s) 0) here-slot ∙ count-new)

        new-group-is : (k : ℕ) → k < m + 1 → group_in t new k ≡ get_or (take i (groups_in t m w) ++ (one (shape_in t m w) ∷ drop i (groups_in t m w))) k none
        new-group-is k l = go (tri k i)
          where
            room : i ≤ length (groups_in t m w)
            room = omega (arith, f.most, groups-length t m w)

            go : Tri k i → group_in t new k ≡ get_or (take i (groups_in t m w) ++ (one (shape_in t m w) ∷ drop i (groups_in t m w))) k none
            go (below p) = moved k k (omega (arith, f.most)) (front-slot k p) ∙ sym (insert-front (groups_in t m w) i (one (shape_in t m w)) none room k p)
            go (same p) = rw p (here-group ∙ sym (insert-here (groups_in t m w) i (one (shape_in t m w)) none room))
            go (above p) = moved k (k - 1) (omega arith) (back-slot k p (omega arith)) ∙ sym (insert-back (groups_in t m w) i (one (shape_in t m w)) none room k p)

        new-groups : groups_in t (m + 1) new ≡ with_shape (groups_in t m w) (shape_in t m w)
        new-groups =
            let g = groups_in t m w in
            ext_get_or none (groups_in t (m + 1) new) (take i g ++ (one (shape_in t m w) ∷ drop i g))
            (groups-length t (m + 1) new ∙ sym (length-insert g i (one (shape_in t m w)) none (omega (arith, f.most, groups-length t m w)) ∙ ap (λ (x : ℕ). x + 1) (groups-length t m w)))
            (λ k p. let l : k < m + 1 = omega (arith, groups-length t (m + 1) new) in groups-at t (m + 1) new k l ∙ new-group-is k l)
            ∙ sym with-gap

        new-below : (k : ℕ) → k < m + 1 → slot_in t k new < m + 1
        new-below k l = go (tri k i)
          where
            go : Tri k i → slot_in t k new < m + 1
            go (below p) = omega (arith, front-slot k p, slot-below k (omega (arith, f.most)))
            go (same p) = rw p (omega (arith, here-slot))
            go (above p) = omega (arith, back-slot k p (omega arith), slot-below (k - 1) (omega arith))

        pub new-one : AddedOne t m kind w new (m + 1)
        new-one = record {
          only = new-only;
          table = table_of new-only.long (omega arith) new-below new-groups (below_more _ _ cost-old cost-new);
          groups = new-groups;
          kind-below = omega (arith, kind-new);
          kind-shape = ap (λ (s : ℕ). shape_in t s new) kind-new ∙ shape-kept new-only m fits;
        }
