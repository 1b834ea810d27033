-- The steps of looking a shape up in the table, and of inserting a number. Assumes nothing.
use mathlib.Core.Path.{◌≡◌, sym, ap, ◌∙◌}
use mathlib.Core.List.{List}
use Prim.Native.Nat.{ℕ, ◌+◌, ◌-◌, ◌*◌, ◌≤◌, ◌<◌}
use native.Mathlib.Omega.{arith}
use lib.ListN.{length, get_or, take, drop, set, length-set}
use lib.Seq.{get_or-take, get_or-drop, get_or-set_same, get_or-set_other}
use Rattle.std.specs.declared.cmp.Ordering.TheVariants.{Less, Equal, Greater}
use borrow.Rule.Slice.PartMut.{put_mid}
use Rattle.laws.proofs.PartLaws.{only-mid, seg-mid}
use Rattle.laws.specs.LentRange.{seg}
use Rattle.laws.proofs.Cases.{Tri, tri}
use Rattle.laws.proofs.Cases.Tri.{below, same, above}
use Rattle.laws.proofs.RangeLaws.{length-seg, get_or-seg}
use Rattle.shapes.specs.Shape.{Shape, cost_of_row}
use Rattle.shapes.specs.Order.{order}
use Rattle.shapes.specs.Lent.{Narrow, Measured}
use Rattle.shapes.proofs.OrderLaws.{order-equal, order-chain}
use Rattle.table.specs.declared.Shapes.{Shapes}
use Rattle.table.specs.LentTable.{shape_in, slot_in, SlotFits, Searchable, FoundAt, FoundGap, InsertedIn, InsertedAt}
use Rattle.groups.proofs.GroupLaws.{flip-less, flip-more}

pub shape-in-length : (t : Shapes) (s : ℕ) (w : List ℕ) → SlotFits t s w → length (shape_in t s w) ≡ t.regions
unfolding shape_in
shape-in-length t s w f = length-seg (t.slots + s * t.regions) t.regions w f.room

-- ---- a search among the first n groups, on its way: the shape comes behind those before lo, and before those from hi on
pub record Searching (t : Shapes) (n s : ℕ) (w : List ℕ) (lo hi : ℕ) : Type 0 where
  pub within : lo ≤ hi
  pub most : hi ≤ n
  pub behind : (k : ℕ) → k < lo → order (shape_in t s w) (shape_in t (slot_in t k w) w) ≡ Greater
  pub ahead : (k : ℕ) → hi ≤ k → k < n → order (shape_in t s w) (shape_in t (slot_in t k w) w) ≡ Less

module _ {t : Shapes} {n s : ℕ} {w : List ℕ} (r : Searchable t n s w) where
  pub search-start : Searching t n s w 0 n
  search-start = record { within = omega arith; most = omega arith; behind = λ k h. absurd (omega arith); ahead = λ k p q. absurd (omega arith) }

  -- the shape of group k, and its length
  shape : ℕ → Shape
  shape k = shape_in t (slot_in t k w) w

  long : (k : ℕ) → k < n → length (shape_in t (slot_in t k w) w) ≡ t.regions
  long k h = shape-in-length t (slot_in t k w) w (r.slot k h)

  sought-long : length (shape_in t s w) ≡ t.regions
  sought-long = shape-in-length t s w r.sought

  module _ {lo hi : ℕ} (i : Searching t n s w lo hi) (mid : ℕ) (p : lo ≤ mid) (q : mid < hi) where
    mid-below : mid < n
    mid-below = omega (arith, i.most)

    -- it comes before group mid, and so before those behind
    pub search-less : order (shape_in t s w) (shape_in t (slot_in t mid w) w) ≡ Less → Searching t n s w lo mid
    search-less e = record {
      within = p;
      most = omega (arith, i.most);
      behind = i.behind;
      ahead = λ k x y. go k x y (tri mid k);
    }
      where
        go : (k : ℕ) → mid ≤ k → k < n → Tri mid k → order (shape_in t s w) (shape_in t (slot_in t k w) w) ≡ Less
        go k x y (below l) =
            (order-chain (shape_in t s w) (shape_in t (slot_in t mid w) w) (shape_in t (slot_in t k w) w) (sought-long ∙ sym (long mid mid-below)) (long mid mid-below ∙ sym (long k y))).less-less e (r.ordered mid k l y)
        go k x y (same l) = rw (← l) e
        go k x y (above l) = absurd (omega arith)

    -- it comes behind group mid, and so behind those before
    pub search-more : order (shape_in t s w) (shape_in t (slot_in t mid w) w) ≡ Greater → Searching t n s w (mid + 1) hi
    search-more e = record {
      within = omega arith;
      most = i.most;
      behind = λ k x. go k x (tri k mid);
      ahead = i.ahead;
    }
      where
        less : order (shape_in t (slot_in t mid w) w) (shape_in t s w) ≡ Less
        less = flip-less t.regions (shape_in t s w) (shape_in t (slot_in t mid w) w) sought-long (long mid mid-below) e

        go : (k : ℕ) → k < mid + 1 → Tri k mid → order (shape_in t s w) (shape_in t (slot_in t k w) w) ≡ Greater
        go k x (below l) =
            let b : k < n = omega (arith, mid-below) in
            let m = long mid mid-below in
            flip-more t.regions (shape_in t (slot_in t k w) w) (shape_in t s w) (long k b) sought-long
            ((order-chain (shape_in t (slot_in t k w) w) (shape_in t (slot_in t mid w) w) (shape_in t s w) (long k b ∙ sym m) (m ∙ sym sought-long)).less-less (r.ordered k mid l mid-below) less)
        go k x (same l) = rw l e
        go k x (above l) = absurd (omega arith)

    pub search-here : order (shape_in t s w) (shape_in t (slot_in t mid w) w) ≡ Equal → FoundAt t n s w mid
    search-here e = record { below = mid-below; same = order-equal (shape_in t s w) (shape_in t (slot_in t mid w) w) (sought-long ∙ sym (long mid mid-below)) e }

  pub search-done : {lo hi : ℕ} → Searching t n s w lo hi → hi ≤ lo → FoundGap t n s w lo
  search-done {lo} {hi} i h = record { most = omega (arith, i.within, i.most); behind = i.behind; ahead = λ k p q. i.ahead k (omega arith) q }

-- ---- inserting

-- from the k-th on the words have moved up
pub record MovedUp (k : ℕ) (old new : List ℕ) : Type 0 where
  pub front : (j : ℕ) → j ≤ k → get_or new j 0 ≡ get_or old j 0
  pub back : (j : ℕ) → k < j → j < length new → get_or new j 0 ≡ get_or old (j - 1) 0

pub insert-done : {k i v : ℕ} {old new : List ℕ} → k ≡ i → i < length old → length new ≡ length old → MovedUp k old new → InsertedIn i v old (set new i v)
insert-done {k} {i} {v} {old} {new} e h l m = record {
  long = length-set new i v ∙ l;
  front = λ j b. get_or-set_other new i j v 0 (omega arith) ∙ m.front j (omega arith);
  here = get_or-set_same new i v 0 (omega arith);
  back = λ j b t. get_or-set_other new i j v 0 (omega arith) ∙ m.back j (omega arith) (omega (arith, length-set new i v, t));
}

-- into a part that is lent

module _ (at n i v : ℕ) (old s : List ℕ) (most : i ≤ n) (room : at + (n + 1) ≤ length old) (fits : length s ≡ at + (n + 1) - at)
    (d : InsertedIn i v (take (at + (n + 1) - at) (drop at old)) s) where
  before : (k : ℕ) → k < n + 1 → get_or (take (at + (n + 1) - at) (drop at old)) k 0 ≡ get_or old (at + k) 0
  before k h = get_or-take (at + (n + 1) - at) (drop at old) k 0 (omega arith) ∙ get_or-drop at old k 0

  after : (k : ℕ) → k < n + 1 → get_or (put_mid at (at + (n + 1) - at) old s) (at + k) 0 ≡ get_or s k 0
  after k h = sym (get_or-seg at (n + 1) (put_mid at (at + (n + 1) - at) old s) k h) ∙ ap (λ (x : List ℕ). get_or x k 0) (seg-mid at (n + 1) old s room fits)

  pub inserted : InsertedAt at n i v old (put_mid at (at + (n + 1) - at) old s)
  inserted = record {
    only = only-mid at (n + 1) old s room fits;
    front = λ k h. after k (omega arith) ∙ d.front k h ∙ before k (omega arith);
    here = after i (omega arith) ∙ d.here;
    back = λ k h l. after k (omega arith) ∙ d.back k h (omega arith) ∙ before (k - 1) (omega arith);
  }

-- ---- a slot lent as a part of the slice

module _ (t : Shapes) (s : ℕ) (w : List ℕ) where
  pub part-shape : take (t.slots + s * t.regions + t.regions - (t.slots + s * t.regions)) (drop (t.slots + s * t.regions) w) ≡ shape_in t s w
  unfolding shape_in seg
  part-shape = let e : t.slots + s * t.regions + t.regions - (t.slots + s * t.regions) ≡ t.regions = omega arith in rw e

  pub part-narrow : SlotFits t s w → Narrow (take (t.slots + s * t.regions + t.regions - (t.slots + s * t.regions)) (drop (t.slots + s * t.regions) w))
  part-narrow f = rw part-shape f.narrow

  pub part-cost : (r cols : ℕ) → Measured (take (t.slots + s * t.regions + t.regions - (t.slots + s * t.regions)) (drop (t.slots + s * t.regions) w)) r cols → r ≡ cost_of_row (shape_in t s w)
  part-cost r cols m = m.row_is ∙ ap cost_of_row part-shape

  pub cost-part : (r : ℕ) → r ≡ cost_of_row (shape_in t s w) → r ≡ cost_of_row (take (t.slots + s * t.regions + t.regions - (t.slots + s * t.regions)) (drop (t.slots + s * t.regions) w))
  cost-part r e = e ∙ sym (ap cost_of_row part-shape)

  pub part_length : SlotFits t s w → length (take (t.slots + s * t.regions + t.regions - (t.slots + s * t.regions)) (drop (t.slots + s * t.regions) w)) ≡ t.regions
  part_length f = rw part-shape (shape-in-length t s w f)
