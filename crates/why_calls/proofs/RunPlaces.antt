-- Where an id's row stands: the run of its final group, counted over the groups, is the outer number of its map word (RULES F3, F4). Assumes nothing.
use mathlib.Core.Path.{◌≡◌, sym, ap, subst, ◌∙◌}
use mathlib.Core.List.Memᴰ
use mathlib.Core.List.{List, [], ◌∷◌, ◌++◌, Memᴰ}
use mathlib.Core.Logic.{⊎_elim}
use Prim.Native.Nat.{ℕ, zero, suc, ◌+◌, ◌*◌, ◌/◌, ◌%◌, ◌<◌}
use native.Mathlib.Omega.{arith}
use lib.ListN.{length, get_or, take, drop, length-take, length-drop, length-append, get_or-append}
use lib.Seq.{get_or-take, get_or-drop, get_or-append-add}
use borrow.Author.Tests.{ltb-true, ltb-false}
use Rattle.laws.specs.Pick.{pick}
use Rattle.laws.specs.Every.{EachTwo}
use Rattle.laws.specs.Joining.{join_all}
use Rattle.laws.proofs.Cases.{Which, which, Tri, tri}
use Rattle.laws.proofs.Cases.Which.{holds, fails}
use Rattle.laws.proofs.Cases.Tri.{below, same, above}
use Rattle.laws.proofs.BoundedLaws.{length-tabulate, get_or-tabulate}
use Rattle.shapes.specs.Group.{max_items}
use Rattle.rows.specs.Subtable.{run_count_for}
use Rattle.rows.proofs.RunLaws.{run-some}
use Rattle.store.specs.Placing.{Final, runs_of, all_runs, id_words, stored}
use Rattle.readback.proofs.MapBack.{empty, map_at}
use Rattle.accepted.proofs.PackedLaws.{row_ids}
use Rattle.finding.specs.First.{first_at}
use Rattle.finding.proofs.FirstLaws.{first-is, first-in}
use Rattle.reasons.specs.Why.{has_row, home_in, final_no, run_in}
use Rattle.why_told.specs.WhyTold.{home_of, InOneRun}
use Rattle.why_calls.specs.WhyTaken.{outer_of}

-- ---- the group of an id

pub home-in : (x : ℕ) (gs : List Final) → Memᴰ x (row_ids gs) → home_in x gs < length gs
unfolding home_in join_all
home-in x [] m = absurd (Memᴰ.not-nil m)
home-in x (g ∷ gs) m = go (home-in x gs) (which (has_row x g))
  where
    go : (Memᴰ x (row_ids gs) → home_in x gs < length gs) → Which (has_row x g) → pick (has_row x g) 0 (suc (home_in x gs)) < suc (length gs)
    go rec (holds t) = rw t (omega arith)
    go rec (fails t) = rw t (⊎_elim
        (λ (h : Memᴰ x g.ids). absurd (omega (arith, first-in x g.ids h, ltb-false (first_at x g.ids) (length g.ids) t)))
        (λ h. omega (arith, rec h))
        (Memᴰ.append_cases g.ids m))

pub home-has : (x : ℕ) (gs : List Final) → home_in x gs < length gs → first_at x (home_of gs x).ids < length (home_of gs x).ids
unfolding home_in
home-has x [] h = absurd (omega arith)
home-has x (g ∷ gs) h = go (home-has x gs) (which (has_row x g)) h
  where
    go : (home_in x gs < length gs → first_at x (home_of gs x).ids < length (home_of gs x).ids) → Which (has_row x g) → pick (has_row x g) 0 (suc (home_in x gs)) < suc (length gs)
        → first_at x (final_no (g ∷ gs) (pick (has_row x g) 0 (suc (home_in x gs)))).ids < length (final_no (g ∷ gs) (pick (has_row x g) 0 (suc (home_in x gs)))).ids
    go rec (holds t) b = rw t (ltb-true (first_at x g.ids) (length g.ids) t)
    go rec (fails t) b = rw t (rec (omega (arith, rw t at b)))

-- ---- the runs before a group

-- of the groups before group q
unfoldable pub runs_before : List Final → ℕ → ℕ
runs_before gs zero = 0
runs_before [] (suc q) = 0
runs_before (g ∷ gs) (suc q) = length (runs_of g) + runs_before gs q

-- run k of group q stands behind them
run_at : (gs : List Final) (q k : ℕ) → q < length gs → k < length (runs_of (final_no gs q))
    → (runs_before gs q + k < length (all_runs gs)) × (get_or (all_runs gs) (runs_before gs q + k) empty ≡ get_or (runs_of (final_no gs q)) k empty)
unfolding all_runs join_all runs_before
run_at [] q k h b = absurd (omega arith)
run_at (g ∷ gs) zero k h b =
    let e : 0 + k ≡ k = omega arith in (
      omega (arith, length-append (runs_of g) (all_runs gs)),
      ap (λ (i : ℕ). get_or (runs_of g ++ all_runs gs) i empty) e ∙ get_or-append (runs_of g) (all_runs gs) empty k b,
    )
run_at (g ∷ gs) (suc q) k h b =
    let ih = run_at gs q k (omega arith) b in
    let e : length (runs_of g) + runs_before gs q + k ≡ length (runs_of g) + (runs_before gs q + k) = omega arith in (
      omega (arith, ih.0, length-append (runs_of g) (all_runs gs)),
      ap (λ (i : ℕ). get_or (runs_of g ++ all_runs gs) i empty) e ∙ get_or-append-add (runs_of g) (all_runs gs) (runs_before gs q + k) empty ∙ ih.1,
    )

-- an earlier group's runs come first
run-less : (gs : List Final) (q r k : ℕ) → q < r → r < length gs → k < length (runs_of (final_no gs q)) → runs_before gs q + k < runs_before gs r
unfolding runs_before
run-less [] q r k h l b = absurd (omega arith)
run-less (g ∷ gs) q zero k h l b = absurd (omega arith)
run-less (g ∷ gs) zero (suc r) k h l b = omega arith
run-less (g ∷ gs) (suc q) (suc r) k h l b = omega (arith, run-less gs q r k (omega arith) (omega arith) b)

-- ---- the run of a row

runs-long : (g : Final) → length (runs_of g) ≡ run_count_for (length g.ids)
unfolding runs_of
runs-long g = length-tabulate 0 (run_count_for (length g.ids)) (λ k. record { shape = g.shape; ids = take max_items (drop (max_items * k) g.ids) })

run-ids : (g : Final) (k : ℕ) → k < length (runs_of g) → (get_or (runs_of g) k empty).ids ≡ take max_items (drop (max_items * k) g.ids)
unfolding runs_of
run-ids g k h =
    let cut : ℕ → Final = λ i. record { shape = g.shape; ids = take max_items (drop (max_items * i) g.ids) } in
    let e : 0 + k ≡ k = omega arith in
    ap (λ (f : Final). f.ids) (get_or-tabulate 0 (run_count_for (length g.ids)) cut empty k (omega (arith, runs-long g)))
    ∙ ap (λ (i : ℕ). take max_items (drop (max_items * i) g.ids)) e

run-there : (g : Final) (p : ℕ) → p < length g.ids → p / max_items < length (runs_of g)
run-there g p h = omega (arith, runs-long g, run-some (length g.ids) (λ z. omega arith))

row-there : (l : List ℕ) (p : ℕ) → p < length l → p % max_items < length (take max_items (drop (max_items * (p / max_items)) l))
row-there l p h = omega (arith, length-take max_items (drop (max_items * (p / max_items)) l), length-drop (max_items * (p / max_items)) l)

row_is : (l : List ℕ) (p : ℕ) → get_or (take max_items (drop (max_items * (p / max_items)) l)) (p % max_items) 0 ≡ get_or l p 0
row_is l p =
    let e : max_items * (p / max_items) + p % max_items ≡ p = omega arith in
    get_or-take max_items (drop (max_items * (p / max_items)) l) (p % max_items) 0 (omega arith)
    ∙ get_or-drop (max_items * (p / max_items)) l (p % max_items) 0
    ∙ ap (λ (i : ℕ). get_or l i 0) e

-- ---- the map word of an id

-- the number of its run among all runs
abbrev pub table_of : List Final → ℕ → ℕ
table_of gs x = runs_before gs (home_in x gs) + run_in x (home_of gs x).ids

module _ (gs : List Final) (x : ℕ) (h : home_in x gs < length gs) where
  abbrev ids : List ℕ
  ids = (home_of gs x).ids

  abbrev place : ℕ
  place = first_at x ids

  run-below : run_in x (home_of gs x).ids < length (runs_of (home_of gs x))
  run-below = run-there (home_of gs x) place (home-has x gs h)

  pub table_below : table_of gs x < length (all_runs gs)
  table_below = (run_at gs (home_in x gs) (run_in x ids) h run-below).0

  table-ids : (get_or (all_runs gs) (table_of gs x) empty).ids ≡ take max_items (drop (max_items * run_in x (home_of gs x).ids) (home_of gs x).ids)
  table-ids = ap (λ (f : Final). f.ids) (run_at gs (home_in x gs) (run_in x ids) h run-below).1 ∙ run-ids (home_of gs x) (run_in x ids) run-below

  row_here : get_or (get_or (all_runs gs) (table_of gs x) empty).ids (first_at x (home_of gs x).ids % max_items) 0 ≡ x
  row_here = ap (λ (l : List ℕ). get_or l (place % max_items) 0) table-ids ∙ row_is ids place ∙ first-is x ids (home-has x gs h)

  pub row_below : first_at x (home_of gs x).ids % max_items < length (get_or (all_runs gs) (table_of gs x) empty).ids
  row_below = omega (arith, ap length table-ids, row-there ids place (home-has x gs h))

module _ (gs : List Final) (m : List ℕ) (once : EachTwo (λ (a b : ℕ × ℕ). b.0 ≡ a.0 → ⊥) (id_words 0 (all_runs gs))) where
  module _ (x : ℕ) (h : home_in x gs < length gs) (fits : x < length m) where
    pub word-of : get_or (stored (id_words 0 (all_runs gs)) m) x 0 ≡ table_of gs x * 65536 + first_at x (home_of gs x).ids % max_items
    word-of =
        let i = first_at x (home_of gs x).ids % max_items in
        let e = row_here gs x h in
        subst (λ (y : ℕ). get_or (stored (id_words 0 (all_runs gs)) m) y 0 ≡ table_of gs x * 65536 + i) e
        (map_at (all_runs gs) m (table_of gs x) i once (table_below gs x h) (row_below gs x h) (omega (arith, e)))

    outer-is : outer_of (stored (id_words 0 (all_runs gs)) m) x ≡ table_of gs x
    outer-is = omega (arith, word-of)

  -- THE LAW: two words have one outer number exactly where the rows are in one run of one group
  module _ (a b : ℕ) (h : home_in a gs < length gs) (k : home_in b gs < length gs) (p : a < length m) (q : b < length m) where
    pub one-outer : InOneRun gs a b → outer_of (stored (id_words 0 (all_runs gs)) m) a ≡ outer_of (stored (id_words 0 (all_runs gs)) m) b
    one-outer s =
        let e = s.one-group in
        let f : run_in b (home_of gs a).ids ≡ run_in b (home_of gs b).ids = ap (λ (i : ℕ). run_in b (final_no gs i).ids) e in
        let g : runs_before gs (home_in a gs) ≡ runs_before gs (home_in b gs) = ap (runs_before gs) e in
        omega (arith, outer-is a h p, outer-is b k q, s.one-run, f, g)

    pub outer_one : outer_of (stored (id_words 0 (all_runs gs)) m) a ≡ outer_of (stored (id_words 0 (all_runs gs)) m) b → InOneRun gs a b
    outer_one e =
        let t : table_of gs a ≡ table_of gs b = sym (outer-is a h p) ∙ e ∙ outer-is b k q in
        go t (tri (home_in a gs) (home_in b gs))
      where
        go : table_of gs a ≡ table_of gs b → Tri (home_in a gs) (home_in b gs) → InOneRun gs a b
        go t (below l) = absurd (omega (arith, t, run-less gs (home_in a gs) (home_in b gs) (run_in a (home_of gs a).ids) l k (run-below gs a h)))
        go t (above l) = absurd (omega (arith, t, run-less gs (home_in b gs) (home_in a gs) (run_in b (home_of gs b).ids) l h (run-below gs b k)))
        go t (same s) =
            let f : run_in b (home_of gs a).ids ≡ run_in b (home_of gs b).ids = ap (λ (i : ℕ). run_in b (final_no gs i).ids) s in
            let g : runs_before gs (home_in a gs) ≡ runs_before gs (home_in b gs) = ap (runs_before gs) s in
            record { one-group = s; one-run = omega (arith, t, f, g) }
