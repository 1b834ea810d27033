-- The store of the definition, by the pieces that the code writes. Assumes nothing.
use mathlib.Core.Path.{◌≡◌, refl, sym, ap, ◌∙◌}
use mathlib.Core.Bool.{Bool}
use mathlib.Core.List.{List, [], ◌∷◌, ◌++◌, map}
use Prim.Native.Nat.{ℕ, zero, suc, ◌+◌, ◌-◌, ◌*◌, ◌≤◌, ◌<◌, min}
use Rattle.limits.specs.Limits.{max_regions}
use Rattle.said.specs.Records.{axis_coordinates, coords_long}
use Rattle.said.specs.Refusals.{most_bytes}
use native.Mathlib.Nat.{mul_comm}
use native.Mathlib.Omega.{arith}
use lib.ListN.{length, get_or, drop, length-append, length-map, length-take, length-drop}
use Rattle.laws.proofs.ListLaws.{map_same}
use Rattle.laws.specs.Bag.{weigh}
use Rattle.laws.specs.Bytes.{bytes_of}
use Rattle.laws.specs.Bounded.{tabulate, up_to}
use Rattle.laws.specs.LentRange.{seg}
use Rattle.laws.specs.Sorting.{keep}
use Rattle.laws.specs.Joining.{join_all}
use Rattle.laws.proofs.EveryLaws.{all, all-imp, all_map}
use Rattle.laws.proofs.JoinLaws.{map-join, join-join, join-long}
use Rattle.laws.proofs.BoundedLaws.{tabulate-same, length-tabulate, get_or-tabulate, map-tabulate}
use Rattle.laws.proofs.SortLaws.{keep_same}
use Rattle.laws.proofs.SortMap.{keep_all}
use Rattle.laws.proofs.UpLaws.{up-all}
use Rattle.laws.proofs.BytesLaws.{bytes-length}
use Rattle.shapes.specs.Group.{max_items}
use Rattle.reader.specs.Store.{column_start}
use Rattle.rows.specs.Columns.{columns_of, word_count}
use Rattle.rows.specs.Row.{Set}
use Rattle.rows.specs.Subtable.{run_count_for}
use Rattle.store.specs.Placing.{Final, runs_of, all_runs, names, kept_of, new_index, store_of}
use Rattle.rows.specs.Lent.{Put, set_at, number_in, run_at, runs_bytes}
use Rattle.store.specs.Lent.{Drafted, Marks, Numbered, Planned, Ready, Sourced, Spotted, header_bytes, chain, coords_at, coords_in, final_at, finals_at, group_bytes, group_sizes, kept_bytes, list_bytes, marked_in, run_sizes, sizes_at, spots_of, subtable_of, subtable_size, sum_of}
use Rattle.laws.proofs.RangeLaws.{length-seg}
use Rattle.store.proofs.RegionLaws.{kept-most}
use Rattle.store.proofs.SpotLaws.{spots-length}
use Rattle.store.proofs.ListLaws.{list_length}
use Rattle.rows.proofs.PutLaws.{put-join, put-long}
use Rattle.store.proofs.TableLaws.{sub-length, sub_same}
use Rattle.store.proofs.Pieces.{list_of, store-pieces}

-- ---- one group

tables_of : (ℕ → ℕ) → (ℕ → Set) → Final → List (List ℕ)
tables_of number set g = tabulate 0 (run_count_for (length g.ids)) (λ k. subtable_of number set g.shape (run_at g.ids k))

group-tables : (number : ℕ → ℕ) (set : ℕ → Set) (g : Final) → map (λ r. subtable_of number set r.shape r.ids) (runs_of g) ≡ tables_of number set g
unfolding runs_of tables_of
group-tables number set g =
    map-tabulate (λ (r : Final). subtable_of number set r.shape r.ids) 0 (run_count_for (length g.ids)) (λ k. record { shape = g.shape; ids = run_at g.ids k })

group-joined : (number : ℕ → ℕ) (set : ℕ → Set) (g : Final) → join_all (tables_of number set g) ≡ group_bytes number set g
unfolding tables_of group_bytes runs_bytes
group-joined number set g = refl

run_length : (ids : List ℕ) (k : ℕ) → length (run_at ids k) ≡ min max_items (length ids - max_items * k)
run_length ids k = length-take max_items (drop (max_items * k) ids) ∙ rw (length-drop (max_items * k) ids)

group-sized : (number : ℕ → ℕ) (set : ℕ → Set) (g : Final) → length g.shape < 32768 → map length (tables_of number set g) ≡ group_sizes g
unfolding tables_of group_sizes run_sizes
group-sized number set g few =
    let n = length (columns_of g.shape) in
    let row = column_start (word_count g.shape) n in
    map-tabulate (λ (t : List ℕ). length t) 0 (run_count_for (length g.ids)) (λ k. subtable_of number set g.shape (run_at g.ids k))
    ∙ tabulate-same 0 (run_count_for (length g.ids)) (λ k. length (subtable_of number set g.shape (run_at g.ids k))) (λ k. subtable_size n row (min max_items (length g.ids - max_items * k)))
    (λ k p q. sub-length number set g.shape (run_at g.ids k) few ∙ ap (subtable_size n row) (run_length g.ids k))

pub group-same : (f h : ℕ → ℕ) (set : ℕ → Set) (g : Final) → ((r : ℕ) → r < length g.shape → f r ≡ h r) → group_bytes f set g ≡ group_bytes h set g
unfolding group_bytes runs_bytes
group-same f h set g e =
    ap join_all (tabulate-same 0 (run_count_for (length g.ids)) (λ k. subtable_of f set g.shape (run_at g.ids k)) (λ k. subtable_of h set g.shape (run_at g.ids k)) (λ k p q. sub_same f h set g.shape (run_at g.ids k) e))

-- ---- all groups

module _ (number : ℕ → ℕ) (set : ℕ → Set) (f : ℕ → Final) (n : ℕ) where
  abbrev pub tables : List (List ℕ)
  tables = map (λ (r : Final). subtable_of number set r.shape r.ids) (all_runs (tabulate 0 n f))

  tables-are : tables ≡ join_all (tabulate 0 n (λ g. tables_of number set (f g)))
  unfolding all_runs
  tables-are =
      let T : Final → List ℕ = (λ (r : Final). subtable_of number set r.shape r.ids) in
      ap (λ (l : List (List Final)). map T (join_all l)) (map-tabulate runs_of 0 n f)
      ∙ map-join T (tabulate 0 n (λ g. runs_of (f g)))
      ∙ ap join_all (map-tabulate (map T) 0 n (λ g. runs_of (f g)))
      ∙ ap join_all (tabulate-same 0 n (λ g. map T (runs_of (f g))) (λ g. tables_of number set (f g)) (λ g p q. group-tables number set (f g)))

  pub tables-joined : join_all tables ≡ chain (λ g. group_bytes number set (f g)) n
  unfolding chain
  tables-joined =
      ap join_all tables-are
      ∙ join-join (tabulate 0 n (λ g. tables_of number set (f g)))
      ∙ ap join_all (map-tabulate join_all 0 n (λ g. tables_of number set (f g)) ∙ tabulate-same 0 n (λ g. join_all (tables_of number set (f g))) (λ g. group_bytes number set (f g)) (λ g p q. group-joined number set (f g)))

  module _ (few : (g : ℕ) → g < n → length (f g).shape < 32768) where
    pub tables-sized : map (λ (t : List ℕ). length t) tables ≡ chain (λ g. group_sizes (f g)) n
    unfolding chain
    tables-sized =
        let L : List ℕ → ℕ = (λ (t : List ℕ). length t) in
        ap (map L) tables-are
        ∙ map-join L (tabulate 0 n (λ g. tables_of number set (f g)))
        ∙ ap join_all (map-tabulate (map L) 0 n (λ g. tables_of number set (f g)) ∙ tabulate-same 0 n (λ g. map L (tables_of number set (f g))) (λ g. group_sizes (f g)) (λ g p q. group-sized number set (f g) (few g (omega arith))))

    pub tables-count : length tables ≡ length (chain (λ g. group_sizes (f g)) n)
    tables-count = sym (length-map tables (λ (t : List ℕ). length t)) ∙ ap length tables-sized

-- ---- the region list

module _ (src : List ℕ) (axes : ℕ) (w : List ℕ) (starts regions : ℕ) (gs : List Final) (marks : List ℕ) (m : Marks gs marks) where
  kept-is : kept_of (length (coords_in src axes w starts regions)) gs ≡ keep (marked_in marks) (up_to regions)
  unfolding coords_in
  kept-is =
      ap (λ (n : ℕ). keep (λ r. names r gs) (up_to n)) (length-tabulate 0 regions (λ r. coords_at src axes (get_or w (starts + r) 0)))
      ∙ keep_same (λ r. names r gs) (marked_in marks) (up_to regions) (all (λ r. sym (m.is r)) (up_to regions))

  coord-at : (r : ℕ) → r < regions → get_or (coords_in src axes w starts regions) r [] ≡ coords_at src axes (get_or w (starts + r) 0)
  unfolding coords_in
  coord-at r h =
      get_or-tabulate 0 regions (λ r. coords_at src axes (get_or w (starts + r) 0)) [] r h
      ∙ (let e : 0 + r ≡ r = omega arith in rw e)

  pub list-is : list_of axes (coords_in src axes w starts regions) gs
      ≡ list_bytes axes (length (keep (marked_in marks) (up_to regions))) (kept_bytes src axes w starts (keep (marked_in marks) (up_to regions)))
  unfolding kept_bytes
  list-is =
      let kept = keep (marked_in marks) (up_to regions) in
      let coords = coords_in src axes w starts regions in
      let f : ℕ → List ℕ = (λ r. coords_at src axes (get_or w (starts + r) 0)) in
      rw kept-is
      (ap (λ (l : List (List ℕ)). bytes_of 2 axes ++ (bytes_of 2 (length kept) ++ join_all l))
      (map_same (λ r. get_or coords r []) f kept
      (keep_all (marked_in marks) (λ r. get_or coords r [] ≡ f r) (up_to regions)
      (all-imp (λ r h. coord-at r (omega arith)) (up_to regions) (up-all regions)))))

-- ---- how long the list is

pieces-length : (src : List ℕ) (from n k : ℕ) → ((a : ℕ) → k ≤ a → a < k + n → axis_coordinates from a + coords_long ≤ length src)
    → length (join_all (tabulate k n (λ a. seg (axis_coordinates from a) coords_long src))) ≡ 6 * n
unfolding join_all tabulate
pieces-length src from zero k h = refl
pieces-length src from (suc n) k h =
    length-append (seg (axis_coordinates from k) coords_long src) (join_all (tabulate (suc k) n (λ a. seg (axis_coordinates from a) coords_long src)))
    ∙ omega (arith, length-seg (axis_coordinates from k) coords_long src (h k (omega arith) (omega arith)), pieces-length src from n (suc k) (λ a p q. h a (omega arith) (omega arith)))

pub coords-length : (src : List ℕ) (axes from : ℕ) → Sourced axes src from → length (coords_at src axes from) ≡ 6 * axes
unfolding coords_at chain
coords-length src axes from s = pieces-length src from axes 0 (λ a p q. s.inside a (omega arith))

pub kept-length : (src : List ℕ) (axes : ℕ) (w : List ℕ) (starts regions : ℕ) (p : ℕ → Bool) → ((r : ℕ) → r < regions → Sourced axes src (get_or w (starts + r) 0))
    → length (kept_bytes src axes w starts (keep p (up_to regions))) ≡ 6 * axes * length (keep p (up_to regions))
unfolding kept_bytes
kept-length src axes w starts regions p s =
    join-long (6 * axes) (map (λ r. coords_at src axes (get_or w (starts + r) 0)) (keep p (up_to regions)))
    (all_map (λ c. length c ≡ 6 * axes) (λ r. coords_at src axes (get_or w (starts + r) 0)) (keep p (up_to regions))
    (keep_all p (λ r. length (coords_at src axes (get_or w (starts + r) 0)) ≡ 6 * axes) (up_to regions)
    (all-imp (λ r h. coords-length src axes (get_or w (starts + r) 0) (s r (omega arith))) (up_to regions) (up-all regions))))
    ∙ ap (λ (n : ℕ). n * (6 * axes)) (length-map (keep p (up_to regions)) (λ r. coords_at src axes (get_or w (starts + r) 0)))
    ∙ mul_comm (length (keep p (up_to regions))) (6 * axes)

-- ---- the whole store

shape-few : (regions : ℕ) (w : List ℕ) (group : ℕ) → regions ≤ max_regions → length (final_at regions w group).shape ≤ max_regions
unfolding final_at seg
shape-few regions w group h = omega (arith, length-take regions (drop (get_or w group 0) w))

shape-within : (regions : ℕ) (w : List ℕ) (group : ℕ) → length (final_at regions w group).shape ≤ regions
unfolding final_at seg
shape-within regions w group = omega (arith, length-take regions (drop (get_or w group 0) w))

-- what the pieces of a store rest on, whatever its size
pub record Laid (axes : ℕ) (w : List ℕ) (regions groups count : ℕ) (marks numbers : List ℕ) (runs kept : ℕ) : Type 0 where
  pub marked : Marks (finals_at regions groups count w) marks
  pub numbered : Numbered marks regions numbers kept
  pub runs-is : runs ≡ length (sizes_at regions groups count w)

module _ (src : List ℕ) (axes starts : ℕ) (w : List ℕ) (regions groups count index : ℕ) (marks numbers : List ℕ) (runs kept : ℕ)
    (ready : Ready src axes starts w regions groups count index) (plan : Laid axes w regions groups count marks numbers runs kept) where
  abbrev pub store : List ℕ
  store = store_of axes (coords_in src axes w starts regions) (set_at index w) (finals_at regions groups count w)

  abbrev pub list : List ℕ
  list = list_bytes axes kept (kept_bytes src axes w starts (keep (marked_in marks) (up_to regions)))

  abbrev pub sizes : List ℕ
  sizes = sizes_at regions groups count w

  abbrev pub body : List ℕ
  body = chain (λ g. group_bytes (number_in numbers) (set_at index w) (final_at regions w (groups + 3 * g))) count

  number_is : (r : ℕ) → r < regions → number_in numbers r ≡ new_index (finals_at regions groups count w) r
  number_is r h =
      plan.numbered.at r h
      ∙ sym (ap length (keep_same (λ q. names q (finals_at regions groups count w)) (marked_in marks) (up_to r) (all (λ q. sym (plan.marked.is q)) (up_to r))))

  coords-long : length list ≡ 4 + 6 * axes * kept
  coords-long =
      let k = kept-length src axes w starts regions (marked_in marks) ready.sourced in
      let e = ap (λ (n : ℕ). 6 * axes * n) plan.numbered.all in
      omega (arith, list_length axes kept (kept_bytes src axes w starts (keep (marked_in marks) (up_to regions))))

  body_is : join_all (tables (new_index (finals_at regions groups count w)) (set_at index w) (λ g. final_at regions w (groups + 3 * g)) count) ≡ body
  unfolding chain
  body_is =
      let gs = finals_at regions groups count w in
      let f : ℕ → Final = (λ g. final_at regions w (groups + 3 * g)) in
      tables-joined (new_index gs) (set_at index w) f count
      ∙ ap join_all (tabulate-same 0 count (λ g. group_bytes (new_index gs) (set_at index w) (f g)) (λ g. group_bytes (number_in numbers) (set_at index w) (f g))
      (λ g p q. group-same (new_index gs) (number_in numbers) (set_at index w) (f g) (λ r h. sym (number_is r (omega (arith, shape-within regions w (groups + 3 * g)))))))

  store_is : store ≡ header_bytes runs ++ (spots_of (8 + 4 * runs + (4 + 6 * axes * kept)) sizes ++ (list ++ body))
  unfolding finals_at sizes_at
  store_is =
      let gs = tabulate 0 count (λ g. final_at regions w (groups + 3 * g)) in
      let f : ℕ → Final = (λ g. final_at regions w (groups + 3 * g)) in
      let number = new_index gs in
      let few : (g : ℕ) → g < count → length (f g).shape < 32768 = (λ g h. omega (arith, shape-few regions w (groups + 3 * g) ready.regions-most)) in
      let n = tables-count number (set_at index w) f count few ∙ sym plan.runs-is in
      let l = list-is src axes w starts regions gs marks plan.marked ∙ ap (λ (k : ℕ). list_bytes axes k (kept_bytes src axes w starts (keep (marked_in marks) (up_to regions)))) (sym plan.numbered.all) in
      store-pieces axes (coords_in src axes w starts regions) (set_at index w) gs
      ∙ rw (l, n, coords-long, tables-sized number (set_at index w) f count few, body_is)

  header-long : length (header_bytes runs) ≡ 8
  header-long = length-append (bytes_of 2 1) (bytes_of 4 (8 + 4 * runs) ++ bytes_of 2 runs)
      ∙ omega (arith, length-append (bytes_of 4 (8 + 4 * runs)) (bytes_of 2 runs), bytes-length 2 1, bytes-length 4 (8 + 4 * runs), bytes-length 2 runs)

  spots-long : (first : ℕ) → length (spots_of first sizes) ≡ 4 * runs
  spots-long first = spots-length first sizes ∙ ap (λ (n : ℕ). 4 * n) (sym plan.runs-is)

  laid-long : length store ≡ 8 + 4 * runs + (4 + 6 * axes * kept) + length body
  laid-long =
      let first = 8 + 4 * runs + (4 + 6 * axes * kept) in
      ap length store_is
      ∙ length-append (header_bytes runs) (spots_of first sizes ++ (list ++ body))
      ∙ omega (arith, header-long, length-append (spots_of first sizes) (list ++ body), spots-long first, length-append list body, coords-long)

module _ (src : List ℕ) (axes starts : ℕ) (w : List ℕ) (regions groups count index : ℕ) (marks numbers : List ℕ) (runs kept : ℕ)
    (ready : Ready src axes starts w regions groups count index) (plan : Planned axes w regions groups count marks numbers runs kept) where
  abbrev pub lay : Laid axes w regions groups count marks numbers runs kept
  lay = record { marked = plan.marked; numbered = plan.numbered; runs-is = plan.runs-is }

  abbrev pub first : ℕ
  first = 8 + 4 * runs + (4 + 6 * axes * kept)

  abbrev pub whole : List ℕ
  whole = store src axes starts w regions groups count index marks numbers runs kept ready lay

  abbrev pub coords : List ℕ
  coords = list src axes starts w regions groups count index marks numbers runs kept ready lay

  abbrev pub sized : List ℕ
  sized = sizes src axes starts w regions groups count index marks numbers runs kept ready lay

  abbrev pub tail : List ℕ
  tail = body src axes starts w regions groups count index marks numbers runs kept ready lay

  pub store_long : length whole ≡ first + length tail
  store_long = laid-long src axes starts w regions groups count index marks numbers runs kept ready lay

  pub kept-few : kept ≤ max_regions
  kept-few = omega (arith, plan.numbered.all, kept-most (marked_in marks) regions, ready.regions-most)

  head : length (header_bytes runs) ≡ 8
  head = header-long src axes starts w regions groups count index marks numbers runs kept ready lay

  spots : length (spots_of first sized) ≡ 4 * runs
  spots = spots-long src axes starts w regions groups count index marks numbers runs kept ready lay first

  list-long : length coords ≡ 4 + 6 * axes * kept
  list-long = coords-long src axes starts w regions groups count index marks numbers runs kept ready lay

  -- the pieces, one after another
  module _ (o : List ℕ) (room : length whole ≤ length o) where
    pub spots-room : (p : List ℕ) (at : ℕ) → Put 0 (header_bytes runs) o p at
        → (at + length (spots_of first sized) ≤ length p) × (length p ≡ length o)
    spots-room p at h =
        let l = put-long 0 (header_bytes runs) o p at h (omega (arith, head, store_long)) in
        (omega (arith, h.end, head, spots, store_long), l)

    pub list-room : (p q : List ℕ) (at b next : ℕ) → Put 0 (header_bytes runs) o p at → Spotted at first sized p q b next
        → (b + length coords ≤ length q) × (length q ≡ length o)
    list-room p q at b next h s =
        let r = spots-room p at h in
        let l = put-long at (spots_of first sized) p q b s.put r.0 in
        (omega (arith, h.end, s.put.end, head, spots, list-long, store_long, r.1), omega (arith, r.1))

    pub body-room : (p q r : List ℕ) (at b next c : ℕ) → Put 0 (header_bytes runs) o p at → Spotted at first sized p q b next
        → Put b coords q r c → (c + length tail ≤ length r) × (length r ≡ length o)
    body-room p q r at b next c h s k =
        let m = list-room p q at b next h s in
        let l = put-long b coords q r c k m.0 in
        (omega (arith, h.end, s.put.end, k.end, head, spots, list-long, store_long, m.1), omega (arith, m.1))

    pub store-put : (p q r t : List ℕ) (at b next c e : ℕ) → Put 0 (header_bytes runs) o p at → Spotted at first sized p q b next
        → Put b coords q r c → Put c tail r t e → Put 0 whole o t e
    store-put p q r t at b next c e h s k j =
        let m1 = spots-room p at h in
        let m2 = list-room p q at b next h s in
        let j1 : Put b (coords ++ tail) q t e = put-join b coords tail q r t c e k j (omega (arith, h.end, s.put.end, head, spots, list-long, store_long, m2.1)) in
        let j2 : Put at (spots_of first sized ++ (coords ++ tail)) p t e = put-join at (spots_of first sized) (coords ++ tail) p q t b e s.put j1 (omega (arith, h.end, head, spots, list-long, store_long, m1.1, length-append coords tail)) in
        rw (store_is src axes starts w regions groups count index marks numbers runs kept ready lay) (put-join 0 (header_bytes runs) (spots_of first sized ++ (coords ++ tail)) o p t at e h j2 (omega (arith, head, spots, list-long, store_long, length-append coords tail, length-append (spots_of first sized) (coords ++ tail))))

-- ---- what was drafted is what is written

join-total : (ts : List (List ℕ)) → length (join_all ts) ≡ sum_of (map (λ (t : List ℕ). length t) ts)
unfolding join_all weigh
join-total [] = refl
join-total (t ∷ ts) = length-append t (join_all ts) ∙ rw (join-total ts)

module _ (src : List ℕ) (axes starts : ℕ) (w : List ℕ) (regions groups count index : ℕ) (marks numbers : List ℕ) (bytes runs kept : ℕ)
    (ready : Ready src axes starts w regions groups count index) (d : Drafted axes w regions groups count marks numbers bytes runs kept) where
  pub planned : bytes ≤ most_bytes → Planned axes w regions groups count marks numbers runs kept
  planned h = record {
    marks-room = d.marks-room;
    numbers-room = d.numbers-room;
    marked = d.marked;
    numbered = d.numbered;
    runs-is = d.runs-is;
    runs-few = d.runs-few;
    short = omega (arith, d.bytes-is);
  }

  -- the bytes that were drafted are exactly those of the store
  pub draft-exact : bytes ≡ length (store_of axes (coords_in src axes w starts regions) (set_at index w) (finals_at regions groups count w))
  unfolding sizes_at
  draft-exact =
      let f : ℕ → Final = (λ g. final_at regions w (groups + 3 * g)) in
      let number = new_index (finals_at regions groups count w) in
      let few : (g : ℕ) → g < count → length (f g).shape < 32768 = (λ g l. omega (arith, shape-few regions w (groups + 3 * g) ready.regions-most)) in
      let laid : Laid axes w regions groups count marks numbers runs kept = record { marked = d.marked; numbered = d.numbered; runs-is = d.runs-is } in
      let b = sym (ap length (body_is src axes starts w regions groups count index marks numbers runs kept ready laid)) ∙ join-total (tables number (set_at index w) f count) ∙ ap sum_of (tables-sized number (set_at index w) f count few) in
      omega (arith, d.bytes-is, laid-long src axes starts w regions groups count index marks numbers runs kept ready laid)
