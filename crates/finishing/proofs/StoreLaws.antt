-- From packed sets in work to the store of the definition: the same groups by the numbers of sets or by ids have one store, as many runs and one
-- forecast; and rows that were replaced by ids are those groups. Assumes nothing.
use mathlib.Core.Path.{◌≡◌, refl, sym, ap, ap₂, ◌∙◌}
use mathlib.Core.Bool.{Bool, not, ◌||◌}
use mathlib.Core.List.{List, [], ◌∷◌, ◌++◌, map}
use mathlib.Core.Option.{Option, some}
use Prim.Native.Nat.{ℕ, zero, suc, ◌+◌, ◌-◌, ◌*◌, ◌≤◌, ◌<◌}
use native.Mathlib.Omega.{arith}
use lib.Dec.{eqb}
use lib.ListN.{length, get_or, take, drop, length-map}
use lib.Seq.{ext_get_or}
use Rattle.laws.specs.Bag.{weigh}
use Rattle.laws.specs.Pick.{pick}
use Rattle.laws.specs.Every.{All}
use Rattle.laws.specs.Bounded.{tabulate, up_to}
use Rattle.laws.specs.LentRange.{seg}
use Rattle.laws.proofs.EveryLaws.{all, all_append, all_take, all_drop}
use Rattle.laws.specs.Joining.{join_all}
use Rattle.laws.proofs.ListLaws.{map-append, get_or-map-in, map_same}
use Rattle.laws.proofs.BoundedLaws.{tabulate-same, map-tabulate}
use Rattle.laws.proofs.BagLaws.{weigh-map, weigh-same}
use Rattle.laws.proofs.SortLaws.{keep_same}
use Rattle.laws.proofs.RangeLaws.{length-seg, get_or-seg, only-seg, seg_all}
use Rattle.shapes.specs.Shape.{Shape}
use Rattle.shapes.specs.Group.{max_items}
use Rattle.sets.specs.Lent.{entries, set_of}
use Rattle.stores.specs.Stores.{Table, place}
use Rattle.rows.specs.Columns.{columns_of, word_count}
use Rattle.rows.specs.Row.{Set, row_of}
use Rattle.rows.specs.Subtable.{run_count_for}
use Rattle.store.specs.Placing.{Final, runs_of, all_runs, names, kept_of, new_index, slot_of, made_of, store_of, row_bytes, run_bytes, forecast_of}
use Rattle.rows.specs.Lent.{entries_at, set_at}
use Rattle.store.specs.Lent.{final_at, finals_at}
use Rattle.encoder.specs.declared.places.Places.{Places}
use Rattle.encoder.specs.Lent.{relabel, group_at, FinalIn}
use Rattle.finishing.specs.Lent.{RowsNamed}

-- ---- sets in work, by either definition

entries-same : (a n : ℕ) (w : List ℕ) → entries_at a n w ≡ entries a n w
unfolding entries_at entries
entries-same a zero w = refl
entries-same a (suc n) w = ap (λ (l : Set). (get_or w a 0, get_or w (a + 1) 0) ∷ l) (entries-same (a + 2) n w)

pub set_same : (index x : ℕ) (w : List ℕ) → set_at index w x ≡ set_of index x w
unfolding set_at set_of
set_same index x w = entries-same (get_or w (index + 2 * x) 0) (get_or w (index + 2 * x + 1) 0) w

-- ---- groups with other numbers for their sets

take-map : (f : ℕ → ℕ) (n : ℕ) (l : List ℕ) → take n (map f l) ≡ map f (take n l)
take-map f zero l = refl
take-map f (suc n) [] = refl
take-map f (suc n) (x ∷ l) = ap (λ (m : List ℕ). f x ∷ m) (take-map f n l)

drop-map : (f : ℕ → ℕ) (n : ℕ) (l : List ℕ) → drop n (map f l) ≡ map f (drop n l)
drop-map f zero l = refl
drop-map f (suc n) [] = refl
drop-map f (suc n) (x ∷ l) = drop-map f n l

-- one group
abbrev labelled : (ℕ → ℕ) → Final → Final
labelled f g = record { shape = g.shape; ids = map f g.ids }

group-runs : (f : ℕ → ℕ) (g : Final) → runs_of (labelled f g) ≡ relabel f (runs_of g)
unfolding runs_of relabel
group-runs f g =
    let F : ℕ → Final = (λ k. record { shape = g.shape; ids = take max_items (drop (max_items * k) (map f g.ids)) }) in
    let G : ℕ → Final = (λ k. record { shape = g.shape; ids = take max_items (drop (max_items * k) g.ids) }) in
    ap (λ (n : ℕ). tabulate 0 (run_count_for n) F) (length-map g.ids f)
    ∙ tabulate-same 0 (run_count_for (length g.ids)) F (λ k. labelled f (G k))
    (λ k p q. ap (λ (l : List ℕ). record { shape = g.shape; ids = l }) (ap (take max_items) (drop-map f (max_items * k) g.ids) ∙ take-map f max_items (drop (max_items * k) g.ids)))
    ∙ sym (map-tabulate (labelled f) 0 (run_count_for (length g.ids)) G)

pub runs-relabel : (f : ℕ → ℕ) (gs : List Final) → all_runs (relabel f gs) ≡ relabel f (all_runs gs)
unfolding all_runs join_all relabel
runs-relabel f [] = refl
runs-relabel f (g ∷ gs) =
    ap₂ ◌++◌ (group-runs f g) (runs-relabel f gs)
    ∙ sym (map-append (labelled f) (runs_of g) (join_all (map runs_of gs)))

pub runs-count : (f : ℕ → ℕ) (gs : List Final) → length (all_runs (relabel f gs)) ≡ length (all_runs gs)
unfolding relabel
runs-count f gs = ap length (runs-relabel f gs) ∙ length-map (all_runs gs) (labelled f)

pub names-relabel : (r : ℕ) (f : ℕ → ℕ) (gs : List Final) → names r (relabel f gs) ≡ names r gs
unfolding names relabel
names-relabel r f [] = refl
names-relabel r f (g ∷ gs) = ap (λ (b : Bool). not (eqb (get_or g.shape r 0) 0) || b) (names-relabel r f gs)

pub kept-relabel : (n : ℕ) (f : ℕ → ℕ) (gs : List Final) → kept_of n (relabel f gs) ≡ kept_of n gs
kept-relabel n f gs = keep_same (λ r. names r (relabel f gs)) (λ r. names r gs) (up_to n) (all (λ r. names-relabel r f gs) (up_to n))

run-relabel : (f : ℕ → ℕ) (g : Final) → run_bytes (labelled f g) ≡ run_bytes g
unfolding run_bytes
run-relabel f g =
    ap (λ (n : ℕ). pick (eqb n 0) 4 (10 + 2 * length (columns_of g.shape) + n * row_bytes g.shape)) (length-map g.ids f)

pub forecast-relabel : (axes kept : ℕ) (f : ℕ → ℕ) (gs : List Final) → forecast_of axes kept (relabel f gs) ≡ forecast_of axes kept gs
unfolding forecast_of relabel
forecast-relabel axes kept f gs = ap (λ (m : ℕ). 12 + 6 * axes * kept + m)
    (ap (weigh run_bytes) (runs-relabel f gs)
    ∙ weigh-map run_bytes (labelled f) (all_runs gs)
    ∙ weigh-same (λ (g : Final). run_bytes (labelled f g)) run_bytes (all_runs gs) (all (run-relabel f) (all_runs gs)))

-- ---- the store

module _ (P : ℕ → Type 0) where
  -- what holds of the ids of groups holds of their runs'
  group-all : (g : Final) → All P g.ids → All (λ (r : Final). All P r.ids) (runs_of g)
  unfolding runs_of tabulate
  group-all g h = go 0 (run_count_for (length g.ids))
    where
      go : (a n : ℕ) → All (λ (r : Final). All P r.ids) (tabulate a n (λ k. record { shape = g.shape; ids = take max_items (drop (max_items * k) g.ids) }))
      go a zero = tt
      go a (suc n) = (all_take P max_items (drop (max_items * a) g.ids) (all_drop P (max_items * a) g.ids h), go (suc a) n)

  runs-all : (gs : List Final) → All (λ (g : Final). All P g.ids) gs → All (λ (g : Final). All P g.ids) (all_runs gs)
  unfolding all_runs join_all
  runs-all [] h = tt
  runs-all (g ∷ gs) h = all_append (λ (r : Final). All P r.ids) (runs_of g) (join_all (map runs_of gs)) (group-all g h.0) (runs-all gs h.1)

module _ (f : ℕ → ℕ) (set set' : ℕ → Set) (n : ℕ) (same : (x : ℕ) → x < n → set x ≡ set' (f x)) where
  rows-relabel : (s : Shape) (xs : List ℕ) → All (λ x. x < n) xs → map (λ y. row_of s (set y)) xs ≡ map (λ y. row_of s (set' y)) (map f xs)
  rows-relabel s [] h = refl
  rows-relabel s (x ∷ xs) h = ap₂ (λ (e : Set) (m : List (List ℕ)). row_of s e ∷ m) (same x h.0) (rows-relabel s xs h.1)

  module _ (number number' : ℕ → ℕ) (numbers : (r : ℕ) → number r ≡ number' r) where
    slot-relabel : (s : Shape) (xs : List ℕ) → All (λ x. x < n) xs → slot_of number set s xs ≡ slot_of number' set' s (map f xs)
    unfolding slot_of
    slot-relabel s [] h = refl
    slot-relabel s (x ∷ xs) h = ap₂ (λ (c : List ℕ) (m : List (List ℕ)). some (record { word = word_count s; columns = c; rows = m }))
        (map_same number number' (columns_of s) (all numbers (columns_of s)))
        (rows-relabel s (x ∷ xs) h)

    slots-relabel : (rs : List Final) → All (λ (r : Final). All (λ x. x < n) r.ids) rs
        → map (λ (r : Final). slot_of number set r.shape r.ids) rs ≡ map (λ (r : Final). slot_of number' set' r.shape r.ids) (relabel f rs)
    unfolding relabel
    slots-relabel [] h = refl
    slots-relabel (r ∷ rs) h = ap₂ ◌∷◌ (slot-relabel r.shape r.ids h.0) (slots-relabel rs h.1)

pub store-relabel : (axes : ℕ) (coords : List (List ℕ)) (f : ℕ → ℕ) (set set' : ℕ → Set) (n : ℕ) (gs : List Final)
    → All (λ (g : Final). All (λ x. x < n) g.ids) gs → ((x : ℕ) → x < n → set x ≡ set' (f x))
    → store_of axes coords set gs ≡ store_of axes coords set' (relabel f gs)
unfolding store_of made_of
store-relabel axes coords f set set' n gs h same =
    let T : Final → Option Table = (λ (r : Final). slot_of (new_index (relabel f gs)) set' r.shape r.ids) in
    ap₂ (λ (k : List ℕ) (t : List (Option Table)). place (record { axes = axes; regions = map (λ r. get_or coords r []) k; tables = t }))
    (sym (kept-relabel (length coords) f gs))
    (slots-relabel f set set' n same (new_index gs) (new_index (relabel f gs)) (λ r. ap length (sym (kept-relabel r f gs))) (all_runs gs) (runs-all (λ x. x < n) gs h)
    ∙ ap (map T) (sym (runs-relabel f gs)))

-- ---- rows that became ids

module _ (p : Places) (count : ℕ) (old new : List ℕ) (named : RowsNamed p.rows p.sets p.ids old new) (ins : (g : ℕ) → g < count → FinalIn p old g)
    (groups-to : p.finals + 3 * count ≤ p.rows) (ids-to : p.ids + p.sets ≤ p.finals) (rows-to : p.rows + p.sets ≤ length old) where
  abbrev id_of : ℕ → ℕ
  id_of x = get_or (seg p.ids p.sets old) x 0

  -- all before the rows stays
  before : (k : ℕ) → k < p.rows → get_or new k 0 ≡ get_or old k 0
  before k h = named.only.kept k (record { apart = λ q. absurd (omega arith) }, tt)

  row_named : (k : ℕ) → p.rows ≤ k → k < p.rows + p.sets → get_or old k 0 < p.sets → get_or new k 0 ≡ id_of (get_or old k 0)
  row_named k a b h =
      let e : p.rows + (k - p.rows) ≡ k = omega arith in
      (rw e at (named.at (k - p.rows) (omega arith) (rw e h))) ∙ sym (get_or-seg p.ids p.sets old (get_or old k 0) h)

  -- a part of the rows
  part-named : (a n : ℕ) → p.rows ≤ a → a + n ≤ p.rows + p.sets → All (λ x. x < p.sets) (seg a n old) → seg a n new ≡ map id_of (seg a n old)
  part-named a n f t h =
      let lo : length (seg a n old) ≡ n = length-seg a n old (omega arith) in
      let ln : length (seg a n new) ≡ n = length-seg a n new (omega (arith, named.only.long)) in
      ext_get_or 0 (seg a n new) (map id_of (seg a n old)) (ln ∙ sym lo ∙ sym (length-map (seg a n old) id_of))
      (λ k l.
      let b : k < n = omega arith in
      get_or-seg a n new k b
      ∙ row_named (a + k) (omega arith) (omega arith) (seg_all (λ x. x < p.sets) n a old (omega arith) h (a + k) (omega arith) (omega arith))
      ∙ ap id_of (sym (get_or-seg a n old k b))
      ∙ sym (get_or-map-in id_of (seg a n old) k 0 0 (omega arith)))

  group-named : (g : ℕ) → g < count → final_at p.regions new (group_at p g) ≡ labelled id_of (final_at p.regions old (group_at p g))
  unfolding final_at
  group-named g h =
      let f = ins g h in
      let a = get_or old (group_at p g) 0 in
      let b = get_or old (group_at p g + 1) 0 in
      let n = get_or old (group_at p g + 2) 0 in
      let shape_is : seg (get_or new (group_at p g) 0) p.regions new ≡ seg a p.regions old =
      rw (before (group_at p g) (omega arith))
      (only-seg named.only a p.regions (omega (arith, f.shape-to)) (λ k q r. (record { apart = λ z. absurd (omega (arith, f.shape-to)) }, tt))) in
      let ids-are : seg (get_or new (group_at p g + 1) 0) (get_or new (group_at p g + 2) 0) new ≡ map id_of (seg b n old) =
      rw (before (group_at p g + 1) (omega arith), before (group_at p g + 2) (omega arith))
      (part-named b n f.rows-from f.rows-to f.numbers) in
      (λ i. record { shape = shape_is i; ids = ids-are i })

  pub finals-named : finals_at p.regions p.finals count new ≡ relabel (λ x. get_or (seg p.ids p.sets old) x 0) (finals_at p.regions p.finals count old)
  unfolding finals_at relabel
  finals-named =
      tabulate-same 0 count (λ g. final_at p.regions new (p.finals + 3 * g)) (λ g. labelled id_of (final_at p.regions old (p.finals + 3 * g))) (λ g q r. group-named g (omega arith))
      ∙ sym (map-tabulate (labelled id_of) 0 count (λ g. final_at p.regions old (p.finals + 3 * g)))
