-- Sets put into the table of shapes one after the other: the steps of `add_set` and of the loop of `group`. Assumes nothing.
use mathlib.Core.Path.{◌≡◌, refl, sym, ap, ap₂, ◌∙◌}
use mathlib.Core.List.{List, [], ◌∷◌, map}
use mathlib.Core.Logic.{⊎_elim}
use Prim.Native.Nat.{ℕ, ◌+◌, ◌*◌, ◌≤◌, ◌<◌}
use native.Mathlib.Omega.{arith}
use lib.ListN.{length, get_or, take, set, length-set, length-map, length-take, get_or-eq_default}
use lib.Seq.{get_or-set_same, get_or-set_other}
use borrow.Author.Count.{below_more}
use Rattle.laws.specs.Bag.{weigh}
use Rattle.laws.specs.Bounded.{tabulate}
use Rattle.laws.specs.LentRange.{Only}
use Rattle.laws.specs.Signed.{value}
use Rattle.laws.proofs.Cases.{lt-or-ge}
use Rattle.laws.proofs.Products.{row_fits}
use Rattle.laws.proofs.ListLaws.{map-append}
use Rattle.laws.proofs.BagLaws.{weigh-at}
use Rattle.laws.proofs.BoundedLaws.{length-tabulate, get_or-tabulate}
use Rattle.laws.proofs.RangeLaws.{only-refl, only-trans, only_set, only-weaken, only-seg}
use Rattle.shapes.specs.Shape.{cost_of_row}
use Rattle.shapes.specs.Width.{width_of, cost_of}
use Rattle.shapes.specs.Group.{Group}
use Rattle.shapes.specs.Lent.{Narrow}
use Rattle.shapes.proofs.WidthLaws.{cost-most}
use Rattle.sets.specs.Set.{Set, word_of}
use Rattle.sets.specs.Ids.{place, distinct, distinct_from}
use Rattle.groups.specs.Groups.{shape_of, with_shape, groups_from, groups_of}
use Rattle.sets.specs.Lent.{entries_at, count_of, set_of, sets_in}
use Rattle.shaping.specs.Lent.{ShapedAt}
use Rattle.table.specs.declared.Shapes.{Shapes}
use Rattle.std.specs.Prelude.{Some, None}
use Rattle.std.specs.declared.option.Option.{Option}
use Rattle.table.specs.LentTable.{shape_in, slot_in, groups_in}
use Rattle.grouping.specs.LentGroups.{Laid, Table, AddFit, AddedOne, AddedNone, AddedIn, SetFit, SetOne, SetNone, AddedSet, GroupFit, grouped, GroupedAt}
use Rattle.sets.proofs.IdLaws.{grows-here, first-distinct, again-distinct, again-same, distinct-most, distinct-all-of, place-first}
use Rattle.sets.proofs.HeldLaws.{Kept, kept-only, held_kept, held-stored, set_same, sets-length, sets-at}
use Rattle.groups.proofs.GroupLaws.{shape-length, with-length, from-length, from-count, from-append}
use Rattle.grouping.proofs.AddSteps.{none, groups-length, groups-at, group-sets, groups-kept, slot-end, slot-room, slots-first}

-- the shape of a set of few regions is narrow
pub shape-narrow : (regions : ℕ) (s : Set) → regions ≤ 65536 → Narrow (shape_of regions s)
unfolding shape_of
shape-narrow regions s h = record {
  few = omega (arith, shape-length regions s);
  narrow = λ k. ⊎_elim
      (λ (p : k < regions). rw (get_or-tabulate 0 regions (λ k. cost_of (width_of (value (word_of s k)))) 0 k p) (cost-most (width_of (value (word_of s (0 + k))))))
      (λ (p : regions ≤ k).
      rw (get_or-eq_default (tabulate 0 regions (λ k. cost_of (width_of (value (word_of s k))))) 0 {n = k} (omega (arith, length-tabulate 0 regions (λ k. cost_of (width_of (value (word_of s k))))))) (omega arith))
      (lt-or-ge k regions);
}

-- ---- set x, its shape written into slot m

module _ {t : Shapes} {index x m kind : ℕ} {w : List ℕ} (f : SetFit t index x m kind w) where
  laid : Laid t w
  laid = f.table.laid

  pub slot-in : t.slots + m * t.regions + t.regions ≤ length w
  slot-in = slot-room laid m f.table.fits

  pub entries-before : entries_at index x w + 2 * count_of index x w ≤ t.slots + m * t.regions
  entries-before = omega (arith, f.before)

  module _ {v : List ℕ} (s : ShapedAt index x (t.slots + m * t.regions) t.regions w v) where
    past-kept : (k : ℕ) → t.order ≤ k → get_or v k 0 ≡ get_or w k 0
    past-kept k h = s.only.kept k (record { apart = λ p. omega (arith, slot-end laid m f.table.fits) }, tt)

    slot_kept : (j : ℕ) → j < m → shape_in t j v ≡ shape_in t j w
    unfolding shape_in
    slot_kept j h =
        let r = row_fits t.regions m j h in
        only-seg s.only (t.slots + j * t.regions) t.regions (slot-room laid j (omega (arith, f.table.fits)))
        (λ k p q. (record { apart = λ z. absurd (omega arith) }, tt))

    number-kept : (i : ℕ) → i < m → slot_in t i v ≡ slot_in t i w
    number-kept i h = past-kept (t.order + i) (omega arith)

    count_kept : (j : ℕ) → j < m → get_or v (t.counts + j) 0 ≡ get_or w (t.counts + j) 0
    count_kept j h = past-kept (t.counts + j) (omega (arith, laid.order-to))

    same-groups : groups_in t m v ≡ groups_in t m w
    same-groups = groups-kept t m w v number-kept (λ i h. count_kept (slot_in t i w) (f.table.below i h)) (λ i h. slot_kept (slot_in t i w) (f.table.below i h))

    sought-is : shape_in t m v ≡ shape_of t.regions (set_of index x w)
    unfolding shape_in
    sought-is = s.is

    pub add_fit : AddFit t m kind v
    add_fit = record {
      table = record {
        laid = record { slots-to = laid.slots-to; order-to = laid.order-to; counts-to = omega (arith, laid.counts-to, s.only.long); costed = laid.costed; few = laid.few; narrow = laid.narrow };
        fits = f.table.fits;
        below = λ i h. rw (number-kept i h) (f.table.below i h);
        ordered = rw same-groups f.table.ordered;
        narrow = rw same-groups f.table.narrow;
        costs = λ j h. past-kept (t.counts + t.room + j) (omega (arith, laid.order-to)) ∙ f.table.costs j h ∙ ap cost_of_row (sym (slot_kept j h));
      };
      small = λ i h. rw (number-kept i h, count_kept (slot_in t i w) (f.table.below i h)) (f.small i h);
      sought = rw sought-is (shape-narrow t.regions (set_of index x w) laid.narrow);
      kind-to = f.kind-to;
    }

    all_slots : Only ((t.slots, (t.room + 1) * t.regions) ∷ []) w v
    all_slots =
        let r = row_fits t.regions (t.room + 1) m (omega (arith, f.table.fits)) in
        only-weaken (λ k o. (record { apart = λ p. omega (arith, o.0.apart (omega arith)) }, tt)) s.only

    pub set-one : {u : List ℕ} {r : ℕ} → AddedOne t m kind v u r → SetOne t index x m kind w u r
    set-one {u} {r} a = record {
      only = only-trans (only-weaken (λ k o. (o.1.0, tt)) all_slots) (only-weaken (λ k o. (o.0, (o.1.1.0, (o.1.1.1.0, tt)))) a.only);
      table = a.table;
      groups = a.groups ∙ ap₂ with_shape same-groups sought-is;
      kept = λ j h. slot-kept₂ j h ∙ slot_kept j h;
      kind-below = a.kind-below;
      kind-shape = a.kind-shape ∙ sought-is;
    }
      where
        slot-kept₂ : (j : ℕ) → j < m → shape_in t j u ≡ shape_in t j v
        slot-kept₂ j h = unfold shape_in in only-seg a.only (t.slots + j * t.regions) t.regions (omega (arith, slot-room laid j (omega (arith, f.table.fits)), s.only.long))
            (λ k p q.
            let e = slot-end laid j (omega (arith, f.table.fits)) in (
              record { apart = λ z. omega (arith, f.kind-to) },
              (record { apart = λ z. absurd (omega arith) }, (record { apart = λ z. absurd (omega (arith, laid.order-to)) }, tt)),
            ))

    pub set-none : {u : List ℕ} → AddedNone t m v u → SetNone t index x m w u
    set-none {u} a = record { only = rw a.same all_slots; full = rw (same-groups, sought-is) at a.full }

    pub set-added : (u : List ℕ) (r : Option ℕ) → AddedIn t m kind v u r → AddedSet t index x m kind w u r
    set-added u (Some r) a = set-one a
    set-added u None a = set-none a

-- ---- the loop: the first k sets are in the table, in m groups

pub record Grouping (t : Shapes) (index n first kinds : ℕ) (old new : List ℕ) (m k : ℕ) : Type 0 where
  pub within : k ≤ n
  pub only : Only (grouped t n kinds) old new
  pub table : Table t m new
  pub groups : groups_in t m new ≡ groups_from [] (map (shape_of t.regions) (distinct (take k (sets_in index n old))))
  pub kind-below : (j : ℕ) → j < k → get_or new (kinds + j) 0 < m
  pub kind-shape : (j : ℕ) → j < k → shape_in t (get_or new (kinds + j) 0) new ≡ shape_of t.regions (set_of index j old)

module _ {t : Shapes} {index n first kinds : ℕ} {old : List ℕ} (f : GroupFit t index n first kinds old) where
  abbrev sets : List Set
  sets = sets_in index n old

  sets-long : length (sets_in index n old) ≡ n
  sets-long = sets-length index n old

  pub group-start : Grouping t index n first kinds old old 0 0
  unfolding groups_in tabulate groups_from distinct_from
  group-start = record {
    within = omega arith;
    only = only-refl (grouped t n kinds) old;
    table = record { laid = f.laid; fits = omega arith; below = λ i h. absurd (omega arith); ordered = tt; narrow = tt; costs = λ s h. absurd (omega arith) };
    groups = refl;
    kind-below = λ j h. absurd (omega arith);
    kind-shape = λ j h. absurd (omega arith);
  }

  module _ {new : List ℕ} {m k : ℕ} (g : Grouping t index n first kinds old new m k) where
    -- as many groups as there are in the definition
    count : m ≡ length (groups_from [] (map (shape_of t.regions) (distinct (take k (sets_in index n old)))))
    count = sym (groups-length t m new) ∙ ap length g.groups

    known-most : length (distinct (take k (sets_in index n old))) ≤ k
    known-most = omega (arith, distinct-most (take k (sets_in index n old)), length-take k (sets_in index n old))

    -- no count is above the number of sets
    count-below : (i : ℕ) → i < m → get_or new (t.counts + slot_in t i new) 0 ≤ k
    unfolding weigh
    count-below i l =
        let e = ap (λ (x : Group). x.sets) (groups-at t m new i l) ∙ group-sets t new i in
        let b = weigh-at (λ (x : Group). x.sets) (groups_in t m new) i none (omega (arith, groups-length t m new)) in
        let c = ap (weigh (λ (x : Group). x.sets)) g.groups ∙ from-count [] (map (shape_of t.regions) (distinct (take k (sets_in index n old)))) in
        let d = length-map (distinct (take k (sets_in index n old))) (shape_of t.regions) in
        omega (arith, e, b, c, d, known-most)

    kept : Kept f.end old new
    kept = kept-only g.only (omega (arith, f.behind, f.first_to), (omega (arith, f.behind, f.first_to, f.kinds-to), (omega (arith, f.behind, f.first_to, f.kinds-to, slots-first f.laid), (omega (arith, f.behind, f.first_to, f.kinds-to, slots-first f.laid, f.laid.order-to), tt))))

    pub first-kept : (j : ℕ) → j < n → get_or new (first + j) 0 ≡ place (get_or (sets_in index n old) j []) (sets_in index n old)
    first-kept j h =
        g.only.kept (first + j) (
          record { apart = λ p. absurd (omega (arith, f.first_to)) },
          (
            record { apart = λ p. absurd (omega (arith, f.first_to, f.kinds-to)) },
            (
              record { apart = λ p. absurd (omega (arith, f.first_to, f.kinds-to, slots-first f.laid)) },
              (record { apart = λ p. absurd (omega (arith, f.first_to, f.kinds-to, slots-first f.laid, f.laid.order-to)) }, tt),
            ),
          ),
        )
        ∙ f.firsts j h ∙ ap (λ (s : Set). place s (sets_in index n old)) (sym (sets-at index n old j h))

    pub first-most : (j : ℕ) → j < n → get_or new (first + j) 0 ≤ j
    first-most j h = rw (first-kept j h) (place-first (get_or (sets_in index n old) j []) (sets_in index n old) j (omega (arith, sets-long)) refl)

    module _ (h : k < n) where
      k-in : k < length (sets_in index n old)
      k-in = omega (arith, sets-long)

      this : get_or (sets_in index n old) k [] ≡ set_of index k old
      this = sets-at index n old k h

      set_is : set_of index k new ≡ get_or (sets_in index n old) k []
      set_is = set_same f.held kept k h ∙ sym this

      pub set-fit : SetFit t index k m (kinds + k) new
      set-fit = record {
        table = g.table;
        small = λ i l.
            omega (arith, count-below i l, f.few);
        kind-to = omega (arith, f.kinds-to);
        stored = held-stored (held_kept f.held kept) k h;
        before = omega (arith, (held_kept f.held kept).body k h, f.behind, f.first_to, f.kinds-to);
      }

      -- the definition after one more set
      with_first : place (get_or (sets_in index n old) k []) (sets_in index n old) ≡ k
          → groups_from [] (map (shape_of t.regions) (distinct (take (k + 1) (sets_in index n old)))) ≡ with_shape (groups_in t m new) (shape_of t.regions (set_of index k new))
      unfolding groups_from
      with_first e =
          let d = distinct (take k (sets_in index n old)) in
          let s = get_or (sets_in index n old) k [] in
          ap (λ (l : List Set). groups_from [] (map (shape_of t.regions) l)) (first-distinct (sets_in index n old) k k-in e)
          ∙ ap (groups_from []) (map-append (shape_of t.regions) d (s ∷ []))
          ∙ from-append [] (map (shape_of t.regions) d) (shape_of t.regions s ∷ [])
          ∙ ap₂ with_shape (sym g.groups) (ap (shape_of t.regions) (sym set_is))

      is-first : get_or new (first + k) 0 ≡ k → place (get_or (sets_in index n old) k []) (sets_in index n old) ≡ k
      is-first e = sym (first-kept k h) ∙ e

      pub group-first : get_or new (first + k) 0 ≡ k → {next : List ℕ} {r : ℕ} → SetOne t index k m (kinds + k) new next r → Grouping t index n first kinds old next r (k + 1)
      group-first e {next} {r} s = record {
        within = omega arith;
        only = only-trans g.only (only-weaken (λ j o. (record { apart = λ p. omega (arith, o.0.apart (omega arith)) }, o.1)) s.only);
        table = s.table;
        groups = s.groups ∙ sym (with_first (is-first e));
        kind-below = below_more _ _ (λ j l. rw (word_kept j l) (omega (arith, g.kind-below j l, grown))) s.kind-below;
        kind-shape = below_more _ _
            (λ j l. ap (λ (x : ℕ). shape_in t x next) (word_kept j l) ∙ s.kept (get_or new (kinds + j) 0) (g.kind-below j l) ∙ g.kind-shape j l)
            (s.kind-shape ∙ ap (shape_of t.regions) (set_is ∙ this));
      }
        where
          word_kept : (j : ℕ) → j < k → get_or next (kinds + j) 0 ≡ get_or new (kinds + j) 0
          word_kept j l = s.only.kept (kinds + j) (
            record { apart = λ p. absurd (omega arith) },
            (
              record { apart = λ p. absurd (omega (arith, f.kinds-to)) },
              (
                record { apart = λ p. absurd (omega (arith, f.kinds-to, slots-first f.laid)) },
                (record { apart = λ p. absurd (omega (arith, f.kinds-to, slots-first f.laid, f.laid.order-to)) }, tt),
              ),
            ),
          )

          grown : m ≤ r
          grown =
              let a = (with-length (groups_in t m new) (shape_of t.regions (set_of index k new))).0 in
              omega (arith, groups-length t m new, groups-length t r next, ap length s.groups)

      pub group-full : get_or new (first + k) 0 ≡ k → {next : List ℕ} → SetNone t index k m new next → GroupedAt t index n first kinds old next None
      unfolding groups_of
      group-full e {next} s = record {
        only = only-trans g.only (only-weaken (λ j o. (o.1.0, tt)) s.only);
        result =
            let w = with_first (is-first e) in
            let a = grows-here (sets_in index n old) k k-in in
            let all : groups_from [] (map (shape_of t.regions) (distinct (sets_in index n old))) ≡ groups_from (with_shape (groups_in t m new) (shape_of t.regions (set_of index k new))) (map (shape_of t.regions) a.more) =
            ap (λ (l : List Set). groups_from [] (map (shape_of t.regions) l)) a.is
            ∙ ap (groups_from []) (map-append (shape_of t.regions) (distinct (take (k + 1) (sets_in index n old))) a.more)
            ∙ from-append [] (map (shape_of t.regions) (distinct (take (k + 1) (sets_in index n old)))) (map (shape_of t.regions) a.more)
            ∙ ap (λ (x : List Group). groups_from x (map (shape_of t.regions) a.more)) w
            in
            omega (arith, s.full, ap length all, (from-length (with_shape (groups_in t m new) (shape_of t.regions (set_of index k new))) (map (shape_of t.regions) a.more)).0);
      }

      -- an earlier set equals this one
      pub again-below : (get_or new (first + k) 0 ≡ k → ⊥) → get_or new (first + k) 0 < k
      again-below other = ⊎_elim (λ l. l) (λ l. absurd (other (omega (arith, first-most k h)))) (lt-or-ge (get_or new (first + k) 0) k)

      pub group-again : (get_or new (first + k) 0 ≡ k → ⊥) → Grouping t index n first kinds old (set new (kinds + k) (get_or new (kinds + get_or new (first + k) 0) 0)) m (k + 1)
      group-again other =
          let j = get_or new (first + k) 0 in
          let l = again-below other in
          let v = get_or new (kinds + j) 0 in
          let b : place (get_or (sets_in index n old) k []) (sets_in index n old) < k = rw (first-kept k h) at l in
          let same : set_of index j old ≡ set_of index k old =
          sym (sets-at index n old j (omega arith)) ∙ ap (λ (x : ℕ). get_or (sets_in index n old) x []) (first-kept k h) ∙ again-same (sets_in index n old) k k-in b ∙ this
          in
          record {
            within = omega arith;
            only = only-trans g.only (only_set (grouped t n kinds) new (kinds + k) v (λ o. omega (arith, o.0.apart (omega arith))));
            table = record {
              laid = record { slots-to = f.laid.slots-to; order-to = f.laid.order-to; counts-to = omega (arith, g.table.laid.counts-to, length-set new (kinds + k) v); costed = f.laid.costed; few = f.laid.few; narrow = f.laid.narrow };
              fits = g.table.fits;
              below = λ i p. rw (order-kept v i p) (g.table.below i p);
              ordered = rw (groups-same v) g.table.ordered;
              narrow = rw (groups-same v) g.table.narrow;
              costs = λ s p. get_or-set_other new (kinds + k) (t.counts + t.room + s) v 0 (omega (arith, f.kinds-to, slots-first f.laid, f.laid.order-to)) ∙ g.table.costs s p ∙ ap cost_of_row (sym (shape_same v s p));
            };
            groups = groups-same v ∙ g.groups ∙ ap (λ (x : List Set). groups_from [] (map (shape_of t.regions) x)) (sym (again-distinct (sets_in index n old) k k-in b));
            kind-below = below_more _ _
                (λ i p. rw (get_or-set_other new (kinds + k) (kinds + i) v 0 (omega arith)) (g.kind-below i p))
                (rw (get_or-set_same new (kinds + k) v 0 room) (g.kind-below j l));
            kind-shape = below_more _ _
                (λ i p. ap (λ (x : ℕ). shape_in t x (set new (kinds + k) v)) (get_or-set_other new (kinds + k) (kinds + i) v 0 (omega arith)) ∙ shape_same v (get_or new (kinds + i) 0) (g.kind-below i p) ∙ g.kind-shape i p)
                (ap (λ (x : ℕ). shape_in t x (set new (kinds + k) v)) (get_or-set_same new (kinds + k) v 0 room) ∙ shape_same v v (g.kind-below j l) ∙ g.kind-shape j l ∙ ap (shape_of t.regions) same);
          }
        where
          room : kinds + k < length new
          room = omega (arith, f.kinds-to, slots-first f.laid, g.table.laid.order-to, g.table.laid.counts-to)

          order-kept : (v i : ℕ) → i < m → slot_in t i (set new (kinds + k) v) ≡ slot_in t i new
          order-kept v i p = get_or-set_other new (kinds + k) (t.order + i) v 0 (omega (arith, f.kinds-to, slots-first f.laid))

          shape_same : (v s : ℕ) → s < m → shape_in t s (set new (kinds + k) v) ≡ shape_in t s new
          shape_same v s p = unfold shape_in in only-seg (only_set ((kinds + k, 1) ∷ []) new (kinds + k) v (λ o. omega (arith, o.0.apart (omega arith)))) (t.slots + s * t.regions) t.regions
              (slot-room g.table.laid s (omega (arith, g.table.fits)))
              (λ q a b. (record { apart = λ z. omega (arith, f.kinds-to) }, tt))

          groups-same : (v : ℕ) → groups_in t m (set new (kinds + k) v) ≡ groups_in t m new
          groups-same v = groups-kept t m new (set new (kinds + k) v) (λ i p. order-kept v i p)
              (λ i p. get_or-set_other new (kinds + k) (t.counts + slot_in t i new) v 0 (omega (arith, f.kinds-to, slots-first f.laid, f.laid.order-to)))
              (λ i p. shape_same v (slot_in t i new) (g.table.below i p))

    pub group-done : n ≤ k → GroupedAt t index n first kinds old new (Some m)
    unfolding groups_of
    group-done h = record {
      only = g.only;
      result = record {
        table = g.table;
        groups = g.groups ∙ ap (λ (l : List Set). groups_from [] (map (shape_of t.regions) l)) (distinct-all-of (sets_in index n old) k (omega (arith, sets-long)));
        kind-below = λ j p. g.kind-below j (omega arith);
        kind-shape = λ j p. g.kind-shape j (omega arith);
      };
    }
