-- Lists put one after the other, by the place of each: the runs of groups, and the subtable of each run. Assumes nothing.
use mathlib.Core.Path.{◌≡◌, refl, sym, ap, ◌∙◌}
use mathlib.Core.List.{List, [], ◌∷◌, ◌++◌, map}
use mathlib.Core.Option.{Option, none}
use Prim.Native.Nat.{ℕ, zero, suc, ◌+◌, ◌-◌, ◌*◌, ◌<◌, min}
use native.Mathlib.Omega.{arith}
use lib.ListN.{length, get_or, take, drop, length-map, length-append, length-take, length-drop, get_or-append}
use lib.Seq.{get_or-append-add}
use Rattle.laws.specs.Bag.{sum}
use Rattle.laws.specs.Joining.{join_all}
use Rattle.laws.proofs.ListLaws.{get_or-map-in, map-map}
use Rattle.laws.proofs.BoundedLaws.{length-tabulate, get_or-tabulate}
use Rattle.laws.proofs.JoinLaws.{map-join}
use Rattle.shapes.specs.Shape.{Shape}
use Rattle.shapes.specs.Group.{max_items}
use Rattle.sets.specs.Set.{Set}
use Rattle.rows.specs.Row.{row_of}
use Rattle.rows.specs.Columns.{columns_of, word_count}
use Rattle.rows.specs.Subtable.{run_count_for}
use Rattle.rows.proofs.RunLaws.{run-some}
use Rattle.stores.specs.Stores.{Table}
use Rattle.store.specs.Placing.{Final, runs_of, all_runs, slot_of}
use Rattle.origins.specs.Origins.{TableOf}

-- ---- places

sum-shift : (a : ℕ → ℕ) (n : ℕ) → sum a (suc n) ≡ a 0 + sum (λ p. a (suc p)) n
unfolding sum
sum-shift a zero = omega arith
sum-shift a (suc n) = omega (arith, sum-shift a n)

module _ {A B : Type 0} (f : A → List B) (d : A) (e : B) where
  -- how long the first q are together
  abbrev before : List A → ℕ → ℕ
  before l q = sum (λ p. length (f (get_or l p d))) q

  before_more : (x : A) (l : List A) (q : ℕ) → before (x ∷ l) (suc q) ≡ length (f x) + before l q
  before_more x l q = sum-shift (λ p. length (f (get_or (x ∷ l) p d))) q

  before-none : (l : List A) → before l 0 ≡ 0
  unfolding sum
  before-none l = refl

  pub joined_at : (l : List A) (q k : ℕ) → q < length l → k < length (f (get_or l q d)) → get_or (join_all (map f l)) (before l q + k) e ≡ get_or (f (get_or l q d)) k e
  unfolding join_all
  joined_at [] q k h b = absurd (omega arith)
  joined_at (x ∷ l) zero k h b =
      let n : before (x ∷ l) 0 + k ≡ k = omega (arith, before-none (x ∷ l)) in
      ap (λ (i : ℕ). get_or (f x ++ join_all (map f l)) i e) n ∙ get_or-append (f x) (join_all (map f l)) e k b
  joined_at (x ∷ l) (suc q) k h b =
      let n : before (x ∷ l) (suc q) + k ≡ length (f x) + (before l q + k) = omega (arith, before_more x l q) in
      ap (λ (i : ℕ). get_or (f x ++ join_all (map f l)) i e) n
      ∙ get_or-append-add (f x) (join_all (map f l)) (before l q + k) e
      ∙ joined_at l q k (omega arith) b

  pub joined-long : (l : List A) → length (join_all (map f l)) ≡ before l (length l)
  unfolding join_all
  joined-long [] = sym (before-none [])
  joined-long (x ∷ l) = omega (arith, length-append (f x) (join_all (map f l)), joined-long l, before_more x l (length l))

-- ---- runs and subtables

-- a run that is not past the rows of its group has rows
run-filled : (n k : ℕ) → 0 < n → k < run_count_for n → max_items * k < n
run-filled n k p h = omega (arith, run-some n (omega arith))

module _ (number : ℕ → ℕ) (set : ℕ → Set) where
  abbrev pub slot : Final → Option Table
  slot r = slot_of number set r.shape r.ids

  abbrev pub slots : Final → List (Option Table)
  slots g = map slot (runs_of g)

  -- run k of a group
  abbrev run_at : Final → ℕ → Final
  run_at g k = record { shape = g.shape; ids = take max_items (drop (max_items * k) g.ids) }

  tables-joined : (gs : List Final) → map slot (all_runs gs) ≡ join_all (map slots gs)
  unfolding all_runs
  tables-joined gs = map-join slot (map runs_of gs) ∙ ap join_all (map-map (map slot) runs_of gs)

  pub slots-long : (g : Final) → length (slots g) ≡ run_count_for (length g.ids)
  unfolding runs_of
  slots-long g = length-map (runs_of g) slot ∙ length-tabulate 0 (run_count_for (length g.ids)) (run_at g)

  slot-some : (s : Shape) (n : ℕ) (xs : List ℕ) → length xs ≡ n → 0 < n → TableOf number s n (slot_of number set s xs)
  unfolding slot_of
  slot-some s n [] e h = absurd (omega arith)
  slot-some s n (x ∷ xs) e h = record {
    table = record { word = word_count s; columns = map number (columns_of s); rows = map (λ y. row_of s (set y)) (x ∷ xs) };
    here = refl;
    word-is = refl;
    columns-are = refl;
    rows-many = length-map (x ∷ xs) (λ y. row_of s (set y)) ∙ e;
  }

  run_long : (g : Final) (k : ℕ) → length (run_at g k).ids ≡ min max_items (length g.ids - max_items * k)
  run_long g k = length-take max_items (drop (max_items * k) g.ids) ∙ ap (min max_items) (length-drop (max_items * k) g.ids)

  slots_at : (g : Final) (k : ℕ) → k < run_count_for (length g.ids) → get_or (slots g) k none ≡ slot (run_at g k)
  unfolding runs_of
  slots_at g k h =
      let n : k < length (runs_of g) = omega (arith, length-tabulate 0 (run_count_for (length g.ids)) (run_at g)) in
      let z : 0 + k ≡ k = omega arith in
      get_or-map-in slot (runs_of g) k g none n
      ∙ ap slot (get_or-tabulate 0 (run_count_for (length g.ids)) (run_at g) g k h ∙ ap (run_at g) z)

  -- the subtable of run k of a group that has rows
  pub table_of : (g : Final) (k : ℕ) → 0 < length g.ids → k < run_count_for (length g.ids)
      → TableOf number g.shape (min max_items (length g.ids - max_items * k)) (get_or (slots g) k none)
  table_of g k p h =
      let b = run-filled (length g.ids) k p h in
      rw (slots_at g k h) (slot-some g.shape (min max_items (length g.ids - max_items * k)) (run_at g k).ids (run_long g k) (omega arith))

  module _ (gs : List Final) (d : Final) where
    pub table_at : (q k : ℕ) → q < length gs → 0 < length (get_or gs q d).ids → k < run_count_for (length (get_or gs q d).ids)
        → TableOf number (get_or gs q d).shape (min max_items (length (get_or gs q d).ids - max_items * k))
        (get_or (map slot (all_runs gs)) (sum (λ p. length (slots (get_or gs p d))) q + k) none)
    table_at q k h p b =
        let e = tables-joined gs in
        rw (e, joined_at slots d none gs q k h (omega (arith, slots-long (get_or gs q d)))) (table_of (get_or gs q d) k p b)

    pub tables-many : length (map slot (all_runs gs)) ≡ sum (λ p. length (slots (get_or gs p d))) (length gs)
    tables-many = ap length (tables-joined gs) ∙ joined-long slots d none gs
