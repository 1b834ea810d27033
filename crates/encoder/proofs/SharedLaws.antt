-- From merged groups to final ones: what `arrange` asks holds after a merge, and what it leaves is what the definitions say. Assumes nothing.
use mathlib.Core.Path.{◌≡◌, refl, sym, ap, ap₂, subst, ◌∙◌}
use mathlib.Core.Logic.{⊎_elim}
use mathlib.Core.Bool.{Bool, ◌&&◌}
use mathlib.Core.List.{List, [], ◌∷◌, map, Memᴰ}
use Prim.Native.Nat.{ℕ, ◌+◌, ◌-◌, ◌*◌, ◌≤◌, ◌<◌}
use native.Mathlib.Omega.{arith}
use borrow.Author.Tests.{eq-eqb, ne_eqb}
use lib.Dec.{eqb}
use lib.ListN.{length, get_or, length-map}
use lib.Seq.{ext_get_or}
use Rattle.laws.specs.Every.{All}
use Rattle.laws.specs.Bounded.{up_to, tabulate}
use Rattle.laws.specs.LentRange.{Apart, Only, seg}
use Rattle.laws.specs.Sorting.{sorted, keep}
use Rattle.laws.proofs.Cases.{same_or_not}
use Rattle.laws.proofs.Products.{row_fits}
use Rattle.laws.proofs.ListLaws.{get_or-map-in}
use Rattle.laws.proofs.EveryLaws.{all-imp, all-get_or, all-intro}
use Rattle.laws.proofs.BoundedLaws.{length-tabulate, get_or-tabulate, tabulate-same}
use Rattle.laws.proofs.RangeLaws.{apart-part, only-trans, only-weaken, seg-ext, get_or-seg, length-seg}
use Rattle.laws.proofs.SortLaws.{sorted_all, keep_same}
use Rattle.laws.proofs.SortMap.{length-sorted, keep_all, keep-keep}
use Rattle.laws.proofs.SortMap as mapping
use Rattle.laws.proofs.UpLaws.{up-all}
use Rattle.shapes.specs.Group.{Group}
use Rattle.sets.specs.Set.{Set, Ascending}
use Rattle.sets.specs.Ids.{place, shared_ids, distinct}
use Rattle.sets.specs.Lent.{set_of, sets_in, is_first_of_like, at_most}
use Rattle.sets.proofs.IdLaws.{distinct-most}
use Rattle.sets.proofs.HeldLaws.{Kept, kept-only, set_same, held_kept, sets-length, sets-at}
use Rattle.groups.specs.Groups.{shape_of, groups_of}
use Rattle.table.specs.LentTable as tab
use Rattle.groups.proofs.GroupLaws.{groups-unlike}
use Rattle.grouping.proofs.AddSteps.{none, shape_at}
use Rattle.slots.specs.declared.tables.MergeTables.{MergeTables}
use Rattle.rule.specs.Model.{Living, start, merged, total}
use Rattle.slots.specs.Lent as merge
use Rattle.rule.specs.Told.{words}
use Rattle.merging.specs.LentOptimized.{Optimized}
use Rattle.rule.proofs.Bridge.{has}
use Rattle.merging.proofs.Unique.{final}
use Rattle.merging.proofs.Demand.{demand}
use Rattle.store.specs.Placing.{Final}
use Rattle.store.specs.Lent.{final_at, finals_at}
use Rattle.encoder.specs.declared.places.Places.{Places}
use Rattle.encoder.specs.Packed.{no_later, dense, belongs, final_of, is_ahead, finals_of, is_among, home_of, origins_of, shared}
use Rattle.encoder.specs.LentPlaces.{Laid}
use Rattle.encoder.specs.Lent.{relabel, group_at, origins_in, FinalIn}
use Rattle.encoder.specs.LentArranged.{shapes_at, tables_of, living_at, living_line, LineFit, heir_slot, ArrangeFit, Arranged, JoinFit, JoinedGroups}
use Rattle.encoder.proofs.DenseIds.{set-of-id, dealt-ids}
use Rattle.encoder.proofs.LivingLaws.{slot_of, living-few, living-shapes, living-line, living-fit, line-long, line-below, line-apart}
use Rattle.encoder.proofs.NumberLaws.{number_at, among, not-among, home_found, mem-at, at_mem, mem-sorted}
use Rattle.encoder.proofs.ReadyLaws.{groups-fit, starting-are, groups-count-is, slot-below, slot_apart, slot-of, slots_end, merge-laid, proper}

abbrev nobody : Living
nobody = record { num = 0; group = none; origins = [] }

abbrev nothing : Final
nothing = record { shape = []; ids = [] }

-- a part of a range that k is outside of
part : {a n k : ℕ} {c l : ℕ} → Apart a n k 1 → a ≤ c → c + l ≤ a + n → Apart c l k 1
part h x y = apart-part h x y

module _ {p : Places} {groups ids : ℕ} {w : List ℕ} (f : JoinFit p groups ids w) {j m b a : ℕ} {w' : List ℕ} (o : Optimized (tables_of p groups) j m b a w w') where
  abbrev t : MergeTables
  t = tables_of p groups

  abbrev xs : List Group
  xs = merge.starting (tables_of p groups) w

  abbrev living : List Living
  living = (merged (merge.starting (tables_of p groups) w)).living

  abbrev ordered : List Living
  ordered = sorted is_ahead (merged (merge.starting (tables_of p groups) w)).living

  lies : Laid p (length w)
  lies = f.laid

  pub merges-less : j ≤ groups - 1
  merges-less =
      let d = demand (tables_of p groups) j m b a w w' o in
      ⊎_elim (λ (z : groups ≡ 0). omega (arith, d.none-of-none z)) (λ n. omega (arith, d.fewer-merges (omega arith))) (same_or_not groups 0)

  -- ---- what a merge leaves alone

  low : (i : ℕ) → i < p.slots → get_or w' i 0 ≡ get_or w i 0
  low i h = (kept-only {end = p.slots} o.only
      (omega arith, (omega (arith, lies), (omega (arith, lies), (omega (arith, lies), (omega (arith, lies), (omega (arith, lies), (omega (arith, lies), (omega (arith, lies), tt))))))))).below i h

  order-kept : (i : ℕ) → i < groups → get_or w' (p.order + i) 0 ≡ get_or w (p.order + i) 0
  order-kept i h =
      let e = slots_end f in
      let g = groups-fit f in
      o.only.kept (p.order + i) (
        record { apart = λ x. omega arith },
        (
          record { apart = λ x. absurd (omega (arith, lies)) },
          (
            record { apart = λ x. absurd (omega (arith, lies)) },
            (
              record { apart = λ x. absurd (omega (arith, lies)) },
              (
                record { apart = λ x. absurd (omega (arith, lies)) },
                (
                  record { apart = λ x. absurd (omega (arith, lies)) },
                  (record { apart = λ x. absurd (omega (arith, lies)) }, (record { apart = λ x. absurd (omega (arith, lies)) }, tt)),
                ),
              ),
            ),
          ),
        ),
      )

  -- ---- the line of the living

  line-is : living_line p (groups + j) w' ≡ map (slot_of (tables_of p groups) w') ordered
  unfolding living_line
  line-is = living-line o (living_at p) refl refl

  line-length : length (living_line p (groups + j) w') ≡ length living
  line-length = ap length line-is ∙ line-long o

  line_at : (q : ℕ) → q < length living → get_or (living_line p (groups + j) w') q 0 ≡ slot_of (tables_of p groups) w' (get_or ordered q nobody)
  line_at q h =
      ap (λ (l : List ℕ). get_or l q 0) line-is
      ∙ get_or-map-in (slot_of (tables_of p groups) w') ordered q nobody 0 (omega (arith, length-sorted is_ahead living))

  line-fit : LineFit p groups (groups + j) w'
  line-fit =
      let g = groups-fit f in
      let long = o.only.long in
      let e = slots_end f in
      let few = living-few o in
      let l = merges-less in
      record {
        laid = rw long lies;
        few = g;
        living = living-fit o (living_at p) refl refl (omega (arith, lies)) (omega (arith, lies)) (omega (arith, lies)) refl (proper f);
        living-few = omega (arith, line-length);
        below = λ q h. rw line-is (line-below o q (omega (arith, line-length)));
        apart = λ q r u v z. line-apart o q r u (omega (arith, line-length)) (rw line-is at z);
      }

  -- ---- heirs

  record Heir (i : ℕ) : Type 0 where
    pub group : Living
    pub origin : Memᴰ i group.origins
    pub num-is : get_or w' (p.into + i) 0 ≡ group.num
    pub known : group.num < 2 * groups
    pub alive : 0 < get_or w' (p.place + group.num) 0
    pub spot : ℕ
    pub spot-below : spot < length living
    pub here : get_or ordered spot nobody ≡ group

  heir : (i : ℕ) → i < groups → Heir i
  heir i h =
      let e = final (tables_of p groups) j m b a i w w' o h in
      let q = mem-at ordered nobody e.group (mem-sorted is_ahead living e.group e.here) in
      record {
        group = e.group;
        origin = e.origin;
        num-is = e.num-is;
        known = e.lives.known;
        alive = e.lives.alive;
        spot = q.place;
        spot-below = omega (arith, q.below, length-sorted is_ahead living);
        here = q.is;
      }

  heir-slot : (i : ℕ) (h : i < groups) → heir_slot p w' i ≡ slot_of (tables_of p groups) w' (heir i h).group
  heir-slot i h = ap (λ (z : ℕ). get_or w' (p.place + z) 0 - 1) (heir i h).num-is

  heir-line : (i : ℕ) (h : i < groups) → get_or (living_line p (groups + j) w') (heir i h).spot 0 ≡ heir_slot p w' i
  heir-line i h =
      line_at (heir i h).spot (heir i h).spot-below
      ∙ ap (slot_of (tables_of p groups) w') (heir i h).here ∙ sym (heir-slot i h)

  -- ---- sets

  line-number : (q : ℕ) → q < p.sets → get_or w (p.line + q) 0 < p.sets
  line-number q h =
      let n : length (seg p.line p.sets w) ≡ p.sets = length-seg p.line p.sets w (omega (arith, lies)) in
      let l = all-get_or (λ (x : ℕ). x < p.sets) (seg p.line p.sets w) q 0 f.line_low (omega arith) in
      subst (λ (z : ℕ). z < p.sets) (get_or-seg p.line p.sets w q h) l

  kinds-low : (x : ℕ) → x < p.sets → get_or w' (p.kinds + x) 0 ≡ get_or w (p.kinds + x) 0
  kinds-low x h = low (p.kinds + x) (omega (arith, lies))

  pub arrange-fit : ArrangeFit p groups (groups + j) w'
  arrange-fit = record {
    line = line-fit;
    from-below = λ i h. rw (order-kept i h) (slot-below f i h);
    from-apart = λ i k l h e. slot_apart f i k l h (sym (order-kept i (omega arith)) ∙ e ∙ order-kept k h);
    heir-below = λ i h. rw (heir i h).num-is (omega (arith, (heir i h).known, groups-fit f));
    heir-lives = λ i h. rw (heir i h).num-is (heir i h).alive;
    heir-at = λ i h. ((heir i h).spot, omega (arith, (heir i h).spot-below, line-length), heir-line i h);
    number = λ q h. rw (low (p.line + q) (omega (arith, lies))) (line-number q h);
    kind = λ x h. rw (kinds-low x h) (f.grouped.kind-below x h);
  }

  -- ---- the final groups

  abbrev all : List Set
  all = sets_in 0 p.sets w

  abbrev gs : List Group
  gs = groups_of p.regions (sets_in 0 p.sets w)

  -- the number of the group of set x: that of its slot
  record Kind (x : ℕ) : Type 0 where
    pub number : ℕ
    pub below : number < groups
    pub slot_is : get_or w (p.order + number) 0 ≡ get_or w (p.kinds + x) 0

  kind : (x : ℕ) → x < p.sets → Kind x
  kind x h = let i = slot-of f (get_or w (p.kinds + x) 0) (f.grouped.kind-below x h) in record { number = i.0; below = i.1; slot_is = i.2 }

  kind-shape : (x : ℕ) (h : x < p.sets) → shape_of p.regions (set_of 0 x w) ≡ (get_or (groups_of p.regions (sets_in 0 p.sets w)) (kind x h).number none).shape
  kind-shape x h =
      sym (f.grouped.kind-shape x h)
      ∙ ap (λ (s : ℕ). tab.shape_in (shapes_at p) s w) (sym (kind x h).slot_is)
      ∙ sym (shape_at (shapes_at p) groups w (kind x h).number (kind x h).below)
      ∙ ap (λ (l : List Group). (get_or l (kind x h).number none).shape) f.grouped.groups

  belongs-is : (g : Living) (x : ℕ) (h : x < p.sets) → belongs p.regions gs g (get_or all x []) ≡ is_among (kind x h).number g.origins
  unfolding belongs
  belongs-is g x h =
      let e : shape_of p.regions (get_or all x []) ≡ shape_of p.regions (set_of 0 x w) = ap (shape_of p.regions) (sets-at 0 p.sets w x h) in
      ap (λ (i : ℕ). is_among i g.origins)
      (number_at gs (kind x h).number none (shape_of p.regions (get_or all x [])) (groups-unlike p.regions all) (omega (arith, (kind x h).below, groups-count-is f)) (e ∙ kind-shape x h))

  module _ {w'' : List ℕ} {count : ℕ} (r : Arranged p groups (groups + j) w' w'' count) where
    count-is : count ≡ length living
    count-is = r.count-is ∙ line-length

    at : ℕ → Living
    at q = get_or ordered q nobody

    at_in : (q : ℕ) → q < count → Memᴰ (at q) ordered
    unfolding at
    at_in q h = at_mem ordered nobody q (omega (arith, count-is, length-sorted is_ahead living))

    -- what holds of each living group holds of the q-th
    at_all : (P : Living → Type 0) → All P living → (q : ℕ) → q < count → P (at q)
    at_all P h q l = has P ordered (sorted_all is_ahead P living h) (at q) (at_in q l)

    slot_at : (q : ℕ) → q < count → get_or (living_line p (groups + j) w') q 0 ≡ slot_of (tables_of p groups) w' (at q)
    unfolding at
    slot_at q h = line_at q (omega (arith, count-is))

    -- a group that has i among its origins is the heir of starting group i
    origin-line : (i q : ℕ) → q < count → Memᴰ i (at q).origins → get_or (living_line p (groups + j) w') q 0 ≡ heir_slot p w' i
    origin-line i q l k =
        let v = at_all (λ g. Memᴰ i g.origins → get_or w' (p.into + i) 0 ≡ g.num) (all-imp (λ g y k. has (λ (c : ℕ). get_or w' (p.into + c) 0 ≡ g.num) g.origins y i k) living o.homes) q l k in
        slot_at q l ∙ sym (ap (λ (z : ℕ). get_or w' (p.place + z) 0 - 1) v)

    module _ (x : ℕ) (h : x < p.sets) where
      abbrev i : ℕ
      i = (kind x h).number

      slot_is : get_or w' (p.kinds + x) 0 ≡ get_or w' (p.order + (kind x h).number) 0
      slot_is = kinds-low x h ∙ sym (kind x h).slot_is ∙ sym (order-kept (kind x h).number (kind x h).below)

      abbrev e : Heir (kind x h).number
      e = heir (kind x h).number (kind x h).below

      home-is : (q : ℕ) → q < count → get_or (living_line p (groups + j) w') q 0 ≡ heir_slot p w' (kind x h).number → r.home (get_or w' (p.kinds + x) 0) ≡ q
      home-is q l z = ap r.home slot_is ∙ r.home-is i q (kind x h).below l z

      home-spot : r.home (get_or w' (p.kinds + x) 0) ≡ (heir (kind x h).number (kind x h).below).spot
      home-spot = home-is e.spot (omega (arith, count-is, e.spot-below)) (heir-line i (kind x h).below)

      in_group : (q : ℕ) → (heir (kind x h).number (kind x h).below).spot ≡ q → eqb (r.home (get_or w' (p.kinds + x) 0)) q ≡ is_among (kind x h).number (at q).origins
      unfolding at
      in_group q z =
          eq-eqb (r.home (get_or w' (p.kinds + x) 0)) q (home-spot ∙ z)
          ∙ sym (among i (get_or ordered q nobody).origins (subst (λ (g : Living). Memᴰ (kind x h).number g.origins) (sym e.here ∙ ap (λ (y : ℕ). get_or ordered y nobody) z) e.origin))

      not-in-group : (q : ℕ) → q < count → ((heir (kind x h).number (kind x h).below).spot ≡ q → ⊥) → eqb (r.home (get_or w' (p.kinds + x) 0)) q ≡ is_among (kind x h).number (at q).origins
      not-in-group q l n =
          ne_eqb (r.home (get_or w' (p.kinds + x) 0)) q (λ z. n (sym home-spot ∙ z))
          ∙ sym (not-among i (at q).origins (λ k. n (sym home-spot ∙ home-is q l (origin-line i q l k))))

      -- a set has its home in group q exactly where the number of its group is among that group's origins
      home-of : (q : ℕ) → q < count → eqb (r.home (get_or w' (p.kinds + x) 0)) q ≡ is_among (kind x h).number (at q).origins
      home-of q l = ⊎_elim (in_group q) (not-in-group q l) (same_or_not (heir (kind x h).number (kind x h).below).spot q)

    -- ---- rows

    all-long : length all ≡ p.sets
    all-long = sets-length 0 p.sets w

    all-ascending : All (Ascending 0) all
    all-ascending = all-intro (Ascending 0) all [] (λ x h. let l : x < p.sets = omega (arith, all-long) in subst (Ascending 0) (sym (sets-at 0 p.sets w x l)) (f.held.ascending x l))

    most-same : (x y : ℕ) → x < p.sets → y < p.sets → at_most w 0 x y ≡ no_later all x y
    unfolding at_most no_later
    most-same x y h k = rw (sets-at 0 p.sets w x h, sets-at 0 p.sets w y k) refl

    line_kept : seg p.line p.sets w' ≡ seg p.line p.sets w
    line_kept = seg-ext p.line p.line p.sets w' w (omega (arith, lies, o.only.long)) (omega (arith, lies)) (λ i h. low (p.line + i) (omega (arith, lies)))

    sorted-is : sorted (at_most w 0) (up_to p.sets) ≡ sorted (no_later all) (up_to (length all))
    sorted-is =
        mapping.sorted-same (λ (x : ℕ). x < p.sets) (at_most w 0) (no_later all) most-same (up_to p.sets) (up-all p.sets)
        ∙ ap (λ (n : ℕ). sorted (no_later all) (up_to n)) (sym all-long)

    sorted-low : All (λ (x : ℕ). x < p.sets) (sorted (no_later all) (up_to (length all)))
    sorted-low = sorted_all (no_later all) (λ (x : ℕ). x < p.sets) (up_to (length all)) (all-imp (λ x h. omega (arith, all-long)) (up_to (length all)) (up-all (length all)))

    first-is : (x : ℕ) → x < p.sets → is_first_of_like 0 p.sets w x ≡ eqb (place (get_or all x []) all) x
    unfolding is_first_of_like
    first-is x h = ap (λ (s : Set). eqb (place s all) x) (sym (sets-at 0 p.sets w x h))

    firsts-are : (l : List ℕ) → All (λ (x : ℕ). x < p.sets) l → keep (is_first_of_like 0 p.sets w) l ≡ keep (λ x. eqb (place (get_or all x []) all) x) l
    firsts-are l low = keep_same (is_first_of_like 0 p.sets w) (λ x. eqb (place (get_or all x []) all) x) l (all-imp first-is l low)

    -- the numbers that are the first of their like stand in the order of the sets
    line-sorted : keep (λ x. eqb (place (get_or all x []) all) x) (seg p.line p.sets w) ≡ keep (λ x. eqb (place (get_or all x []) all) x) (sorted (no_later all) (up_to (length all)))
    line-sorted =
        sym (firsts-are (seg p.line p.sets w) f.line_low)
        ∙ f.line-firsts
        ∙ ap (keep (is_first_of_like 0 p.sets w)) sorted-is
        ∙ firsts-are (sorted (no_later all) (up_to (length all))) sorted-low

    test-same : (q x : ℕ) → q < count → x < p.sets
        → (eqb (get_or w' (p.first + x) 0) x && eqb (r.home (get_or w' (p.kinds + x) 0)) q) ≡ (eqb (place (get_or all x []) all) x && belongs p.regions gs (at q) (get_or all x []))
    test-same q x l h =
        let e : get_or w' (p.first + x) 0 ≡ place (get_or all x []) all = low (p.first + x) (omega (arith, lies)) ∙ f.firsts x h ∙ ap (λ (s : Set). place s all) (sym (sets-at 0 p.sets w x h)) in
        ap₂ (λ (c d : Bool). c && d) (ap (λ (y : ℕ). eqb y x) e) (home-of x h q l ∙ sym (belongs-is (at q) x h))

    rows-kept : (q : ℕ) → q < count → seg (get_or w'' (group_at p q + 1) 0) (get_or w'' (group_at p q + 2) 0) w''
        ≡ keep (λ x. eqb (place (get_or all x []) all) x && belongs p.regions gs (at q) (get_or all x [])) (sorted (no_later all) (up_to (length all)))
    rows-kept q l =
        r.rows q l
        ∙ ap (keep (λ x. eqb (get_or w' (p.first + x) 0) x && eqb (r.home (get_or w' (p.kinds + x) 0)) q)) line_kept
        ∙ keep_same (λ x. eqb (get_or w' (p.first + x) 0) x && eqb (r.home (get_or w' (p.kinds + x) 0)) q)
        (λ x. eqb (place (get_or all x []) all) x && belongs p.regions gs (at q) (get_or all x []))
        (seg p.line p.sets w)
        (all-imp (λ x h. test-same q x l h) (seg p.line p.sets w) f.line_low)
        ∙ sym (keep-keep (λ x. belongs p.regions gs (at q) (get_or all x [])) (λ x. eqb (place (get_or all x []) all) x) (seg p.line p.sets w))
        ∙ ap (keep (λ x. belongs p.regions gs (at q) (get_or all x []))) line-sorted
        ∙ keep-keep (λ x. belongs p.regions gs (at q) (get_or all x [])) (λ x. eqb (place (get_or all x []) all) x) (sorted (no_later all) (up_to (length all)))

    rows_are : (q : ℕ) → q < count → map (λ x. get_or (shared_ids all) x 0) (seg (get_or w'' (group_at p q + 1) 0) (get_or w'' (group_at p q + 2) 0) w'')
        ≡ keep (λ k. belongs p.regions gs (at q) (get_or (distinct all) k [])) (dense (distinct all))
    rows_are q l = ap (map (λ x. get_or (shared_ids all) x 0)) (rows-kept q l) ∙ dealt-ids all all-ascending (belongs p.regions gs (at q))

    rows-low : (q : ℕ) → q < count → All (λ (x : ℕ). x < p.sets) (seg (get_or w'' (group_at p q + 1) 0) (get_or w'' (group_at p q + 2) 0) w'')
    rows-low q l = subst (All (λ (x : ℕ). x < p.sets)) (sym (rows-kept q l)) (keep_all _ (λ (x : ℕ). x < p.sets) (sorted (no_later all) (up_to (length all))) sorted-low)

    -- ---- shapes

    slot-below-at : (q : ℕ) → q < count → slot_of (tables_of p groups) w' (at q) < groups
    slot-below-at q l = subst (λ (z : ℕ). z < groups) (slot_at q l) (line-fit.below q (omega (arith, r.count-is)))

    slot-end-at : (q : ℕ) → q < count → p.slots + slot_of (tables_of p groups) w' (at q) * p.regions + p.regions ≤ p.order
    slot-end-at q l =
        let e = row_fits p.regions groups (slot_of (tables_of p groups) w' (at q)) (slot-below-at q l) in
        omega (arith, slots_end f)

    shape-word : (q : ℕ) → q < count → get_or w'' (group_at p q) 0 ≡ p.slots + slot_of (tables_of p groups) w' (at q) * p.regions
    shape-word q l = r.shape q l ∙ ap (λ (z : ℕ). p.slots + z * p.regions) (slot_at q l)

    -- `arrange` leaves everything before the homes, and the log
    low'' : (i : ℕ) → i < p.homes → get_or w'' i 0 ≡ get_or w' i 0
    low'' i h = (kept-only {end = p.homes} r.only (omega arith, (omega (arith, lies), (omega (arith, lies), (omega (arith, lies), tt))))).below i h

    shape-slot : (q : ℕ) → q < count → seg (get_or w'' (group_at p q) 0) p.regions w'' ≡ tab.shape_in (living_at p) (slot_of (tables_of p groups) w' (at q)) w'
    unfolding tab.shape_in
    shape-slot q l =
        let n = slot-end-at q l in
        ap (λ (z : ℕ). seg z p.regions w'') (shape-word q l)
        ∙ seg-ext (p.slots + slot_of (tables_of p groups) w' (at q) * p.regions) (p.slots + slot_of (tables_of p groups) w' (at q) * p.regions) p.regions w'' w'
        (omega (arith, lies, r.only.long, o.only.long)) (omega (arith, lies, o.only.long)) (λ i h. low'' (p.slots + slot_of (tables_of p groups) w' (at q) * p.regions + i) (omega (arith, lies)))

    shape_is : (q : ℕ) → q < count → seg (get_or w'' (group_at p q) 0) p.regions w'' ≡ (at q).group.shape
    shape_is q l = shape-slot q l ∙ at_all (λ g. tab.shape_in (living_at p) (slot_of (tables_of p groups) w' g) w' ≡ g.group.shape) (living-shapes o (living_at p) refl refl) q l

    final-in : (q : ℕ) → q < count → FinalIn p w'' q
    final-in q l = record {
      shape-to = omega (arith, shape-word q l, slot-end-at q l, lies);
      rows-from = (r.rows_in q l).0;
      rows-to = (r.rows_in q l).1;
      numbers = rows-low q l;
    }

    -- ---- all of them

    finals-long : length (finals_at p.regions p.finals count w'') ≡ count
    unfolding finals_at
    finals-long = length-tabulate 0 count (λ g. final_at p.regions w'' (p.finals + 3 * g))

    final-at : (q : ℕ) → q < count → get_or (finals_at p.regions p.finals count w'') q nothing ≡ final_at p.regions w'' (group_at p q)
    unfolding finals_at
    final-at q h =
        let e : 0 + q ≡ q = omega arith in
        get_or-tabulate 0 count (λ g. final_at p.regions w'' (p.finals + 3 * g)) nothing q h ∙ ap (λ (z : ℕ). final_at p.regions w'' (p.finals + 3 * z)) e

    -- a group by the ids of its rows
    named : Final → Final
    named g = record { shape = g.shape; ids = map (λ x. get_or (shared_ids all) x 0) g.ids }

    named-at : (q : ℕ) → q < count → named (final_at p.regions w'' (group_at p q)) ≡ final_of p.regions gs (distinct all) (at q)
    unfolding final_at final_of named
    named-at q h = λ i. record { shape = shape_is q h i; ids = rows_are q h i }

    finals-are : relabel (λ x. get_or (shared_ids all) x 0) (finals_at p.regions p.finals count w'') ≡ map (final_of p.regions gs (distinct all)) ordered
    unfolding relabel named at
    finals-are =
        let l = finals-long in
        let n = length-map (finals_at p.regions p.finals count w'') named in
        let n' = length-map ordered (final_of p.regions gs (distinct all)) in
        let s = length-sorted is_ahead living in
        ext_get_or nothing (map named (finals_at p.regions p.finals count w'')) (map (final_of p.regions gs (distinct all)) ordered) (omega (arith, count-is))
        (λ q h.
        let k : q < count = omega arith in
        get_or-map-in named (finals_at p.regions p.finals count w'') q nothing nothing (omega arith)
        ∙ ap named (final-at q k) ∙ named-at q k
        ∙ sym (get_or-map-in (final_of p.regions gs (distinct all)) ordered q nobody nothing (omega (arith, count-is))))

    finals-shared : relabel (λ x. get_or (shared_ids all) x 0) (finals_at p.regions p.finals count w'') ≡ finals_of p.regions gs (distinct all)
    unfolding finals_of
    finals-shared = finals-are ∙ ap (λ (z : List Group). map (final_of p.regions gs (distinct all)) (sorted is_ahead (merged z).living)) (starting-are f)

    -- ---- origins

    order'' : (i : ℕ) → i < groups → get_or w'' (p.order + i) 0 ≡ get_or w' (p.order + i) 0
    order'' i h = low'' (p.order + i) (omega (arith, lies, groups-fit f))

    origin-at : (i : ℕ) → i < groups → get_or w'' (p.homes + get_or w'' (p.order + i) 0) 0 ≡ home_of i ordered
    unfolding at
    origin-at i h =
        let e = heir i h in
        let n = length-sorted is_ahead living in
        let d = home_found i ordered nobody e.spot (omega (arith, e.spot-below)) (subst (λ (g : Living). Memᴰ i g.origins) (sym e.here) e.origin) in
        let c : home_of i ordered < count = omega (arith, d.0, count-is) in
        rw (order'' i h)
        (r.homes-are (get_or w' (p.order + i) 0) (arrange-fit.from-below i h)
        ∙ r.home-is i (home_of i ordered) h c (origin-line i (home_of i ordered) c d.1))

    origins-are : origins_in p groups w'' ≡ origins_of gs
    unfolding origins_in origins_of
    origins-are =
        tabulate-same 0 groups (λ i. get_or w'' (p.homes + get_or w'' (p.order + i) 0) 0) (λ i. home_of i ordered) (λ i l h. origin-at i (omega arith))
        ∙ ap (λ (n : ℕ). tabulate 0 n (λ i. home_of i ordered)) (groups-count-is f)
        ∙ ap (λ (z : List Group). tabulate 0 (length gs) (λ i. home_of i (sorted is_ahead (merged z).living))) (starting-are f)

    -- ---- in sum

    below'' : Kept p.line w w''
    below'' = record {
      long = r.only.long ∙ o.only.long;
      below = λ i h. low'' i (omega (arith, lies)) ∙ low i (omega (arith, lies));
    }

    ids-kept : seg p.ids p.sets w'' ≡ shared_ids all
    ids-kept =
        seg-ext p.ids p.ids p.sets w'' w (omega (arith, lies, below''.long)) (omega (arith, lies)) (λ i h. low'' (p.ids + i) (omega (arith, lies)) ∙ low (p.ids + i) (omega (arith, lies)))
        ∙ f.ids-are

    log-kept : seg p.log (3 * j) w'' ≡ words (merged xs).log
    log-kept =
        let g = groups-fit f in
        let l = merges-less in
        seg-ext p.log p.log (3 * j) w'' w' (omega (arith, lies, below''.long)) (omega (arith, lies, o.only.long))
        (λ i h. r.only.kept (p.log + i) (
          record { apart = λ x. omega (arith, lies) },
          (
            record { apart = λ x. omega (arith, lies) },
            (record { apart = λ x. omega (arith, lies) }, (record { apart = λ x. absurd (omega (arith, lies)) }, tt)),
          ),
        ))
        ∙ o.log_is

    only'' : Only ((p.line, length w) ∷ []) w w''
    only'' =
        let e = slots_end f in
        let g = groups-fit f in
        let long = o.only.long in
        only-trans {rs = (p.line, length w) ∷ []}
        (only-weaken (λ k u. (
          part u.0 (omega (arith, lies)) (omega (arith, lies)),
          (
            part u.0 (omega (arith, lies)) (omega (arith, lies)),
            (
              part u.0 (omega (arith, lies)) (omega (arith, lies)),
              (
                part u.0 (omega (arith, lies)) (omega (arith, lies)),
                (
                  part u.0 (omega (arith, lies)) (omega (arith, lies)),
                  (
                    part u.0 (omega (arith, lies)) (omega (arith, lies)),
                    (part u.0 (omega (arith, lies)) (omega (arith, lies)), (part u.0 (omega (arith, lies)) (omega (arith, lies, (merge-laid f).planes-end)), tt)),
                  ),
                ),
              ),
            ),
          ),
        )) o.only)
        (only-weaken (λ k u. (
          part u.0 (omega (arith, lies)) (omega (arith, lies)),
          (
            part u.0 (omega (arith, lies)) (omega (arith, lies)),
            (part u.0 (omega (arith, lies)) (omega (arith, lies)), (part u.0 (omega (arith, lies)) (omega (arith, lies)), tt)),
          ),
        )) r.only)

    pub joined-groups : JoinedGroups p w w'' (record { distinct = ids; count = count; groups = groups; merges = j; weighed = m; before = b; after = a })
    unfolding shared
    joined-groups =
        let g = groups-fit f in
        let l = merges-less in
        let c = count-is in
        let few = living-few o in
        record {
          only = only'';
          packed = record {
            held = held_kept f.held below'';
            sets-few = lies.sets-few;
            regions-few = lies.regions-few;
            line-to = omega (arith, lies);
            ids-to = omega (arith, lies);
            finals-few = omega (arith, lies);
            finals-to = omega (arith, lies);
            rows-to = omega (arith, lies, below''.long);
            log-to = omega (arith, lies);
            order-to = omega (arith, lies);
            homes-to = λ i h. rw (order'' i h) (omega (arith, lies, arrange-fit.from-below i h));
            ids-are = ids-kept;
            sets-are = λ x h. set-of-id all x (omega (arith, all-long)) ∙ sets-at 0 p.sets w x h ∙ sym (set_same f.held below'' x h);
            distinct-is = f.ids-is;
            distinct-few = omega (arith, f.ids-is, distinct-most all, all-long);
            finals-in = final-in;
            rows_few = r.rows_few;
            finals-are = finals-shared;
            groups-is = groups-count-is f;
            groups-few = omega (arith, lies);
            origins-are = origins-are;
            merges-is = o.merges-are ∙ ap (λ (z : List Group). length (merged z).log) (starting-are f);
            log-are = log-kept ∙ ap (λ (z : List Group). words (merged z).log) (starting-are f);
            weighed-is = o.weighed-are ∙ ap (λ (z : List Group). (merged z).weighed) (starting-are f);
            before-is = o.before-is ∙ ap (λ (z : List Group). total (start z).living) (starting-are f);
            after_is = o.after_is ∙ ap (λ (z : List Group). total (merged z).living) (starting-are f);
          };
        }
