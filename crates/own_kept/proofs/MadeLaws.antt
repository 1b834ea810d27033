-- The store of final groups, none of which is empty, has nothing to drop: every subtable has rows, and every region of the list a column. Assumes nothing.
use mathlib.Core.Path.{◌≡◌, refl, ap, subst, ◌∙◌}
use mathlib.Core.Bool.{true}
use mathlib.Core.List.{List, [], ◌∷◌, map}
use mathlib.Core.Logic.{⊎_elim}
use mathlib.Core.Option.{Option, none, some}
use Prim.Native.Nat.{ℕ, zero, suc, ◌+◌, ◌*◌, ◌≤◌, ◌<◌}
use native.Mathlib.Omega.{arith}
use lib.Dec.{eqb}
use lib.ListN.{length, get_or, take, drop, length-take, length-drop, get_or-eq_default}
use borrow.Author.Tests.{eqb-false}
use Rattle.laws.specs.Every.{All}
use Rattle.laws.specs.Bag.{sum}
use Rattle.laws.proofs.Cases.{lt-or-ge, or_left, or_right, true-false, Which, which}
use Rattle.laws.proofs.Cases.Which.{holds, fails}
use Rattle.laws.proofs.BoundedLaws.{length-tabulate, get_or-tabulate}
use Rattle.laws.proofs.EveryLaws.{all-imp, all_map, all-get_or, all-intro}
use Rattle.laws.proofs.RankLaws.{rank-onto}
use Rattle.shapes.specs.Shape.{Shape}
use Rattle.shapes.specs.Group.{max_items}
use Rattle.rows.specs.Columns.{columns_of}
use Rattle.rows.specs.Row.{Set, Widths}
use Rattle.rows.specs.Subtable.{run_count_for}
use Rattle.rows.proofs.RunLaws.{run-some}
use Rattle.rows.proofs.ColumnsLaws.{columns-has}
use Rattle.stores.specs.Stores.{Table}
use Rattle.stores.specs.Dropping.{has, named}
use Rattle.stores.proofs.Picking.{picked-long, has-map}
use Rattle.stores.proofs.Again.{Full, Packed}
use Rattle.stores.proofs.Kept.{low}
use Rattle.cutting.proofs.NameLaws.{has-at}
use Rattle.store.specs.Placing.{Final, runs_of, all_runs, names, new_index, slot_of, made_of}
use Rattle.readback.proofs.MapBack.{empty}
use Rattle.readback.proofs.Parsing.{Fit, regions-are, made_shaped}
use Rattle.accepted.proofs.RunSound.{runs-all}
use Rattle.origins.proofs.RunsLaws.{slot, slots, table_at}

-- ---- regions by name

-- a region that is named has a width in some group
names-from : (r : ℕ) (gs : List Final) → names r gs ≡ true → (q : ℕ) × (q < length gs) × (get_or (get_or gs q empty).shape r 0 ≡ 0 → ⊥)
unfolding names
names-from r [] h = absurd (true-false h refl)
names-from r (g ∷ gs) h = go (which (eqb (get_or g.shape r 0) 0)) (names-from r gs)
  where
    go : Which (eqb (get_or g.shape r 0) 0) → (names r gs ≡ true → (q : ℕ) × (q < length gs) × (get_or (get_or gs q empty).shape r 0 ≡ 0 → ⊥))
        → (q : ℕ) × (q < suc (length gs)) × (get_or (get_or (g ∷ gs) q empty).shape r 0 ≡ 0 → ⊥)
    go (holds e) rec = let a = rec (rw e at h) in (suc a.0, omega (arith, a.1), a.2)
    go (fails e) rec = (0, omega arith, eqb-false (get_or g.shape r 0) 0 e)

named-at : (ts : List (Option Table)) (o : ℕ) (t : Table) (r : ℕ) → get_or ts o none ≡ some t → has t.columns r ≡ true → named ts r ≡ true
unfolding named
named-at [] o t r e h = let z : ◌≡◌ {A = ℕ} 0 1 = cc in absurd (omega arith)
named-at (none ∷ ts) zero t r e h = let z : ◌≡◌ {A = ℕ} 0 1 = cc in absurd (omega arith)
named-at (none ∷ ts) (suc o) t r e h = named-at ts o t r e h
named-at (some x ∷ ts) zero t r e h = let y : x ≡ t = cc in or_left (has x.columns r) (named ts r) (rw y h)
named-at (some x ∷ ts) (suc o) t r e h = or_right (has x.columns r) (named ts r) (named-at ts o t r e h)

has_in : (l : List ℕ) (j x : ℕ) → j < length l → get_or l j 0 ≡ x → has l x ≡ true
has_in l j x h e = subst (λ (y : ℕ). has l y ≡ true) e (has-at l j h)

in-shape : (s : Shape) (r : ℕ) → (get_or s r 0 ≡ 0 → ⊥) → r < length s
in-shape s r d = ⊎_elim (λ (l : r < length s). l) (λ (l : length s ≤ r). absurd (d (get_or-eq_default s 0 {n = r} l))) (lt-or-ge r (length s))

-- ---- runs that have rows

runs-full : (g : Final) → 0 < length g.ids → All (λ (r : Final). 0 < length r.ids) (runs_of g)
unfolding runs_of
runs-full g h =
    let n = length g.ids in
    let f : ℕ → Final = (λ k. record { shape = g.shape; ids = take max_items (drop (max_items * k) g.ids) }) in
    all-intro (λ (r : Final). 0 < length r.ids) (runs_of g) empty
    (λ k b.
    let c : k < run_count_for n = omega (arith, length-tabulate 0 (run_count_for n) f) in
    let e : get_or (runs_of g) k empty ≡ f (0 + k) = get_or-tabulate 0 (run_count_for n) f empty k c in
    rw e (filled g k h c))
  where
    filled : (g : Final) (k : ℕ) → 0 < length g.ids → k < run_count_for (length g.ids) → 0 < length (take max_items (drop (max_items * (0 + k)) g.ids))
    filled g k h c =
        omega (arith, run-some (length g.ids) (omega arith), length-take max_items (drop (max_items * (0 + k)) g.ids), length-drop (max_items * (0 + k)) g.ids)

slot-full : (number : ℕ → ℕ) (set : ℕ → Set) (s : Shape) (xs : List ℕ) → 0 < length xs → Full (slot_of number set s xs)
unfolding slot_of
slot-full number set s [] h = absurd (omega arith)
slot-full number set s (x ∷ xs) h = omega arith

-- ---- the store

module _ (axes : ℕ) (coords : List (List ℕ)) (set : ℕ → Set) (gs : List Final) (fit : Fit axes coords set gs) (wide : All (λ (g : Final). Widths g.shape) gs)
    (filled : All (λ (g : Final). 0 < length g.ids) gs) where
  abbrev number : ℕ → ℕ
  number = new_index gs

  region-named : (r : ℕ) → names r gs ≡ true → named (made_of axes coords set gs).tables (number r) ≡ true
  unfolding made_of
  region-named r h =
      let a = names-from r gs h in
      let g = get_or gs a.0 empty in
      let n = all-get_or (λ (g : Final). 0 < length g.ids) gs a.0 empty filled a.1 in
      let w = all-get_or (λ (g : Final). Widths g.shape) gs a.0 empty wide a.1 in
      let p : 0 < get_or g.shape r 0 = omega (arith, a.2) in
      let j = columns-has g.shape r (in-shape g.shape r a.2) p (w.most r) (w.one_of r) in
      let t = table_at number set gs empty a.0 0 a.1 n (omega (arith, run-some (length g.ids) (omega arith))) in
      named-at (map (slot number set) (all_runs gs)) (sum (λ p. length (slots number set (get_or gs p empty))) a.0 + 0) t.table (number r) t.here
      (rw t.columns-are (has-map number (columns_of g.shape) r (has_in (columns_of g.shape) j.0 r j.1 j.2)))

  all_named : (r : ℕ) → r < length (made_of axes coords set gs).regions → named (made_of axes coords set gs).tables r ≡ true
  all_named r h =
      let l : length (made_of axes coords set gs).regions ≡ number (length coords) = ap length (regions-are axes coords set gs) ∙ picked-long (λ q. names q gs) [] coords in
      let a = rank-onto (λ q. names q gs) (length coords) r (omega (arith, l)) in
      subst (λ (x : ℕ). named (made_of axes coords set gs).tables x ≡ true) a.3 (region-named a.0 a.2)

  all-full : All Full (made_of axes coords set gs).tables
  unfolding made_of
  all-full =
      all_map Full (slot number set) (all_runs gs)
      (all-imp (λ (r : Final) (h : 0 < length r.ids). slot-full number set r.shape r.ids h) (all_runs gs)
      (runs-all (λ (r : Final). 0 < length r.ids) gs (all-imp (λ (g : Final) (h : 0 < length g.ids). runs-full g h) gs filled)))

  -- THE LAW
  pub made-packed : Packed (made_of axes coords set gs)
  made-packed = record {
    full = all-full;
    low = low (made_of axes coords set gs) (λ o i. true) (made_shaped axes coords set gs fit);
    regions-named = all_named;
  }
