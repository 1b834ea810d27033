-- The call: its tests, and what it leaves. Assumes nothing.
use mathlib.Core.Path.{◌≡◌, refl, sym, ap, ap₂, ◌∙◌}
use mathlib.Core.Bool.{Bool, true, false, ◌&&◌, ◌||◌, or-true}
use mathlib.Core.List.{List, [], ◌∷◌, map}
use mathlib.Core.Logic.{⊎_elim}
use mathlib.Core.Option.{Option, none, some}
use Prim.Native.Nat.{ℕ, zero, suc, ◌+◌, ◌-◌, ◌*◌, ◌/◌, ◌%◌, ◌^◌, ◌≤◌, ◌<◌, min}
use Rattle.std.specs.List.{list_all}
use native.Mathlib.Nat.{zero-add}
use native.Mathlib.Omega.{arith}
use lib.Dec.{ltb}
use lib.ListN.{length, get_or, drop, take, length-map, take-append-drop, length-drop}
use lib.Seq.{take_all}
use borrow.Author.Tests.{lt-ltb, le-ltb}
use Rattle.laws.specs.Bag.{sum, weigh}
use Rattle.laws.specs.Bounded.{up_to}
use Rattle.laws.specs.Bytes.{be, over}
use Rattle.laws.specs.LentRange.{seg}
use Rattle.laws.specs.Pick.{pick}
use Rattle.laws.specs.Sorting.{rank}
use Rattle.laws.proofs.BagLaws.{weigh-map, weigh-same, sum_same, sum-add}
use Rattle.laws.proofs.Cases.{lt-or-ge}
use Rattle.laws.proofs.EveryLaws.{all}
use Rattle.laws.proofs.ListLaws.{get_or-map-in}
use Rattle.laws.proofs.BoundedLaws.{length-tabulate}
use Rattle.laws.proofs.Products.{product}
use Rattle.laws.proofs.RangeLaws.{seg-ext}
use Rattle.laws.proofs.RankLaws.{rank_most}
use Rattle.laws.proofs.SortLaws.{keep_same}
use Rattle.reader.specs.Store.{list_at, axis_count, region_count, column_count}
use Rattle.reader.proofs.StoreLaws.{words-length}
use Rattle.stores.specs.Stores.{Table, Parsed, rows_at, row_long, store_at, place, place_size, slot_size}
use Rattle.stores.specs.Dropping.{used, left, named, renumber, dropped, new_place}
use Rattle.stores.specs.Coordinates.{is_row_there}
use Rattle.stores.proofs.Back.{place-long}
use Rattle.stores.proofs.Kept.{dropped-shaped}
use Rattle.stores.proofs.PartLaws.{be-two}
use Rattle.stores.proofs.WholeLaws.{Whole, whole_is, parse-done, parse-shaped}
use Rattle.rows.specs.Lent.{Put}
use Rattle.choosing.specs.Lent.{Low, ChosenAt, PlacesPut}
use Rattle.cutting.specs.LentCut.{start_of, rows_of, table_of, StoreFit, StoreNamed, cut_size, tables_of, list_put, store_put}
use Rattle.cutting.proofs.WholeLaws as cutting-whole
use Rattle.keeping.specs.Keeping.{keeping_work, room_of, is_too_long, most_bytes, all_there, kept_bytes, last_of, done_of, out_left, places_left, kept_short}
use Rattle.keeping.specs.LentKeep.{Words, RegionsNamed, Sound}
use Rattle.keeping.specs.Answers.{Done, Refused}
use Rattle.keeping.proofs.ThereLaws.{row_is, there-at}
use Rattle.keeping.proofs.WordLaws.{words, words-kept, store-fit}
use Rattle.keeping.proofs.LeftLaws.{cut_table, left_is, left-named, places-are, weigh-tabulate}
use Rattle.keeping.proofs.PlacedLaws.{store-named, tables-count, rows-count, regions-kept, marks-count, place_is}

-- ---- the published work

pub words-many : (bytes rows : ℕ) → bytes ≤ 9223372036854775807 → 2305843009213693951 < rows → 0 ≡ keeping_work bytes rows
unfolding keeping_work
words-many bytes rows h l = rw (lt-ltb bytes (2 ^ 63) (omega arith), le-ltb rows (2 ^ 61) (omega arith))

pub words-some : (bytes rows : ℕ) → bytes < 9223372036854775808 → rows < 2305843009213693952 → 3 * rows + bytes + 65536 ≡ keeping_work bytes rows
unfolding keeping_work
words-some bytes rows h l = rw (lt-ltb bytes (2 ^ 63) (omega arith), lt-ltb rows (2 ^ 61) (omega arith)) (omega arith)

-- ---- room

pub room-is : (long r : ℕ) → r ≡ min long most_bytes → (r ≡ room_of long) × (r ≤ long) × (r ≤ 4294967295)
unfolding room_of
room-is long r e = (
  ⊎_elim
      (λ (h : most_bytes < long). rw (lt-ltb most_bytes long h) (omega arith))
      (λ (h : long ≤ most_bytes). rw (le-ltb most_bytes long h) (omega arith))
      (lt-or-ge most_bytes long),
  omega arith,
  omega arith,
)

room-cases : (long end : ℕ) → end ≡ room_of long → (P : Type 0) → (most_bytes < long → end ≡ most_bytes → P) → (long ≤ most_bytes → end ≡ long → P) → P
unfolding room_of
room-cases long end e P a b = ⊎_elim
    (λ (h : most_bytes < long). a h (e ∙ rw (lt-ltb most_bytes long h)))
    (λ (h : long ≤ most_bytes). b h (e ∙ rw (le-ltb most_bytes long h)))
    (lt-or-ge most_bytes long)

too_long : (long end n : ℕ) → end ≡ room_of long → end < n → is_too_long long n ≡ true
unfolding is_too_long
too_long long end n e h = room-cases long end e (ltb long n || ltb most_bytes n ≡ true)
    (λ l f. rw (lt-ltb most_bytes n (omega arith), or-true (ltb long n)))
    (λ l f. rw (lt-ltb long n (omega arith)))

not-long : (long end n : ℕ) → end ≡ room_of long → n ≤ end → is_too_long long n ≡ false
unfolding is_too_long
not-long long end n e h = room-cases long end e (ltb long n || ltb most_bytes n ≡ false)
    (λ l f. rw (le-ltb long n (omega arith), le-ltb most_bytes n (omega arith)))
    (λ l f. rw (le-ltb long n (omega arith), le-ltb most_bytes n (omega arith)))

-- ---- the entries

pub all_there_is : (p : Parsed) (rows : List ℕ) → list_all (λ x. is_row_there p (x / 65536) (x % 65536)) rows ≡ all_there p rows
unfolding all_there
all_there_is p [] = refl
all_there_is p (x ∷ rows) = ap (λ b. is_row_there p (x / 65536) (x % 65536) && b) (all_there_is p rows)

-- ---- words put over a front

pub over-same : (old new bs : List ℕ) → length new ≡ length old → length bs ≤ length old → ((i : ℕ) → i < length bs → get_or new i 0 ≡ get_or bs i 0)
    → ((i : ℕ) → length bs ≤ i → get_or new i 0 ≡ get_or old i 0) → new ≡ over old 0 (length bs) bs
unfolding seg
over-same old new bs l m a b =
    let k = length bs in
    let r = length old - k in
    let front : take k (drop 0 new) ≡ take k (drop 0 bs) = seg-ext 0 0 k new bs (omega arith) (omega arith) (λ i h. (let z : 0 + i ≡ i = omega arith in rw z (a i h))) in
    let back : take r (drop k new) ≡ take r (drop k old) = seg-ext k k r new old (omega arith) (omega arith) (λ i h. b (k + i) (omega arith)) in
    let x : take k new ≡ bs = front ∙ take_all k bs (omega arith) in
    let y : drop k new ≡ drop k old = sym (take_all r (drop k new) (simp length-drop (omega arith))) ∙ back ∙ take_all r (drop k old) (simp length-drop (omega arith)) in
    sym (take-append-drop k new) ∙ (let z : 0 + k ≡ k = omega arith in rw (x, y, z))

-- ---- sizes of slots

module _ {rows w : List ℕ} {k t : ℕ} (c : Words rows w k t) {s : List ℕ} (bytes : (i : ℕ) → get_or s i 0 < 256) (whole : Whole s) (there : all_there (store_at s) rows ≡ true)
    (room : 3 * length rows + 1 + region_count s ≤ length w) where
  abbrev n : ℕ
  n = length rows

  abbrev d : Parsed
  d = dropped (store_at s) (used rows)

  slot-of : (g : ℕ) → slot_size (some (cut_table c bytes whole there room g)) ≡ 4 + cut_size s n w g
  unfolding slot_size cut_table cut_size
  slot-of g =
      let at = table_of s n w g in
      rw (words-length s (at + 6) (column_count s at), length-tabulate 0 (rows_of n w g) (λ i. seg (rows_at s at + get_or w (start_of n w g + i) 0 % 65536 * row_long s at) (row_long s at) s))
      (omega arith)

  fours : (t : ℕ) → sum (λ g. 4) t ≡ 4 * t
  unfolding sum
  fours zero = refl
  fours (suc t) = omega (arith, fours t)

  slots-sum : weigh slot_size d.tables ≡ 4 * t + sum (cut_size s n w) t
  unfolding dropped
  slots-sum =
      weigh-map slot_size (renumber (rank (named (left (store_at s) (used rows))))) (left (store_at s) (used rows))
      ∙ weigh-same (λ x. slot_size (renumber (rank (named (left (store_at s) (used rows)))) x)) slot_size (left (store_at s) (used rows)) (all same_size (left (store_at s) (used rows)))
      ∙ ap (weigh slot_size) (left_is c bytes whole there room)
      ∙ weigh-tabulate slot_size (λ g. some (cut_table c bytes whole there room g)) t
      ∙ sum_same (λ g. 4 + cut_size s n w g) (λ g. slot_size (some (cut_table c bytes whole there room g))) t (λ g h. slot-of g)
      ∙ sum-add (λ g. 4) (cut_size s n w) t
      ∙ ap (λ (x : ℕ). x + sum (cut_size s n w) t) (fours t)
    where
      same_size : (x : Option Table) → slot_size (renumber (rank (named (left (store_at s) (used rows)))) x) ≡ slot_size x
      same_size none = unfold renumber in refl
      same_size (some x) = unfold renumber slot_size in rw (length-map x.columns (rank (named (left (store_at s) (used rows)))))

  -- the bytes of the store that is left
  pub bytes-are : length (place (dropped (store_at s) (used rows))) ≡ 12 + 6 * axis_count s * length (dropped (store_at s) (used rows)).regions + (4 * t + sum (cut_size s n w) t)
  bytes-are = place-long d (dropped-shaped (store_at s) (used rows) (parse-shaped s bytes (store_at s) (parse-done s whole))) ∙ sized
    where
      sized : place_size d ≡ 12 + 6 * axis_count s * length d.regions + (4 * t + sum (cut_size s n w) t)
      sized = unfold place_size dropped store_at in ap (λ (x : ℕ). 12 + 6 * axis_count s * length d.regions + x) slots-sum

-- ---- the call after its first tests

module _ {s rows w₀ : List ℕ} {places : ℕ} (h : Sound s rows w₀ places) (bytes : (i : ℕ) → get_or s i 0 < 256) where
  whole : Whole s
  whole = whole_is s h.ok

  there : all_there (store_at s) rows ≡ true
  there = h.there

  -- entries of the list are low
  pub rows-low : Low (length rows) rows
  rows-low = record {
    top = λ i l.
        let r = row_is s whole (get_or rows i 0 / 65536) (get_or rows i 0 % 65536) (there-at (store_at s) rows there i l) in
        omega (arith, r.outer-in, be-two s bytes 6);
  }

  module _ {w₁ : List ℕ} {k t : ℕ} (c : ChosenAt rows w₀ w₁ k t) where
    abbrev m : ℕ
    m = length rows

    abbrev left_store : Parsed
    left_store = dropped (store_at s) (used rows)

    abbrev total : ℕ
    total = length (place (dropped (store_at s) (used rows)))

    room₁ : 3 * length rows + 1 + region_count s ≤ length w₁
    room₁ = omega (arith, h.work-room, be-two s bytes (list_at s + 2), c.only.long)

    pub fit : StoreFit s (length rows) w₁ t
    fit = store-fit (words c) bytes whole there room₁

    -- what is too long before the regions are counted
    pub early-long : (long end size : ℕ) → end ≡ room_of long → size ≡ sum (cut_size s (length rows) w₁) t → end < 12 + 4 * t + size → Refused kept_short ≡ last_of (store_at s) rows long
    unfolding last_of
    early-long long end size e z l =
        let b = bytes-are (words c) bytes whole there room₁ in
        rw (too_long long end (length (kept_bytes (store_at s) rows)) e (omega (arith, b, z)))

    module _ {w₂ : List ℕ} {kept : ℕ} (q : RegionsNamed s (length rows) t w₁ w₂ kept) where
      words₂ : Words rows w₂ k t
      words₂ = words-kept q.only (words c)

      room₂ : 3 * length rows + 1 + region_count s ≤ length w₂
      room₂ = omega (arith, room₁, q.only.long)

      abbrev nm : ℕ → Bool
      nm = named (left (store_at s) (used rows))

      same_names : (r : ℕ) → named (tables_of s (length rows) w₁ t) r ≡ nm r
      same_names r = sym (left-named (words c) bytes whole there room₁ r)

      same_rank : (r : ℕ) → rank (named (tables_of s (length rows) w₁ t)) r ≡ rank nm r
      same_rank r = ap length (keep_same (named (tables_of s (length rows) w₁ t)) nm (up_to r) (all same_names (up_to r)))

      num₂ : (r : ℕ) → r < region_count s → get_or w₂ (3 * length rows + 1 + r) 0 ≡ pick (nm r) (rank nm r + 1) 0
      num₂ r l = q.is r l ∙ ap₂ (λ (x : Bool) (y : ℕ). pick x (y + 1) 0) (same_names r) (same_rank r)

      kept-is : kept ≡ rank nm (region_count s)
      kept-is = q.count ∙ same_rank (region_count s)

      pub kept-few : kept < 65536
      kept-few = omega (arith, kept-is, rank_most nm (region_count s), be-two s bytes (list_at s + 2))

      pub fit₂ : StoreFit s (length rows) w₂ t
      fit₂ = store-fit words₂ bytes whole there room₂

      pub named₂ : StoreNamed s (length rows) w₂ t
      named₂ = store-named words₂ bytes whole there room₂ num₂

      regions-are : length left_store.regions ≡ kept
      regions-are = regions-kept words₂ bytes whole there room₂ num₂ ∙ sym kept-is

      placed : place left_store ≡ store_put s (length rows) w₂ t kept
      placed = place_is words₂ bytes whole there room₂ num₂ kept kept-is

      -- the region list's bytes
      list-is : length (list_put s w₂ (3 * length rows + 1) kept) ≡ 4 + 6 * axis_count s * kept
      list-is = cutting-whole.list-long s w₂ (3 * length rows + 1) kept whole.header
          ∙ ap (λ (x : ℕ). 4 + 6 * axis_count s * x) (marks-count words₂ bytes whole there room₂ num₂ ∙ sym kept-is)

      module _ (list axes size first : ℕ) (la : list ≡ list_at s) (ax : axes ≡ be 2 s list) (z : size ≡ sum (cut_size s (length rows) w₁) t) (fi : first ≡ 12 + 4 * t + 6 * axes * kept) where
        axes-are : axes ≡ axis_count s
        axes-are = ax ∙ ap (be 2 s) la

        total-is : total ≡ first + size
        total-is =
            let b = bytes-are (words c) bytes whole there room₁ in
            let e : 6 * axis_count s * length left_store.regions ≡ 6 * axes * kept = ap₂ (λ (x y : ℕ). 6 * x * y) (sym axes-are) regions-are in
            omega (arith, b, z, fi, e)

        pub first-is : first ≡ 8 + 4 * t + length (list_put s w₂ (3 * length rows + 1) kept)
        first-is =
            let e : 6 * axis_count s * kept ≡ 6 * axes * kept = ap (λ (x : ℕ). 6 * x * kept) (sym axes-are) in
            omega (arith, fi, list-is, e)

        pub late-long : (long end : ℕ) → end ≡ room_of long → end < first + size → Refused kept_short ≡ last_of (store_at s) rows long
        unfolding last_of
        late-long long end e l = rw (too_long long end (length (kept_bytes (store_at s) rows)) e (omega (arith, total-is)))

        pub put-fits : (long end : ℕ) → (end ≡ room_of long) × (end ≤ long) × (end ≤ 4294967295) → first + size ≤ end
            → (length (store_put s (length rows) w₂ t kept) < 4294967296) × (length (store_put s (length rows) w₂ t kept) ≤ long)
        put-fits long end e l =
            let x : length (store_put s (length rows) w₂ t kept) ≡ first + size = sym (ap length placed) ∙ total-is in
            (omega (arith, e.2), omega (arith, e.1))

        module _ {o o' : List ℕ} {r : ℕ} (put : Put 0 (store_put s (length rows) w₂ t kept) o o' r) where
          put' : Put 0 (place left_store) o o' r
          put' = rw (← placed) at put

          pub done-is : (long end : ℕ) → (end ≡ room_of long) × (end ≤ long) × (end ≤ 4294967295) → first + size ≤ end → Done r t kept k ≡ last_of (store_at s) rows long
          unfolding last_of done_of
          done-is long end e l =
              let a : r ≡ total = put'.end ∙ zero-add total in
              rw (not-long long end (length (kept_bytes (store_at s) rows)) e.0 (omega (arith, total-is)), tables-count words₂ bytes whole there room₂ num₂, regions-are, rows-count words₂ bytes whole there room₂ num₂, ← a)

          pub out-is : o' ≡ out_left (some (store_at s)) rows (Done r t kept k) o
          unfolding out_left
          out-is = put'.is

        pub places_is : (r : ℕ) {old new : List ℕ} → length old ≡ places → PlacesPut k (length rows) w₂ rows old new → new ≡ places_left (some (store_at s)) rows (Done r t kept k) old
        unfolding places_left
        places_is r {old} {new} l pp =
            let f = new_place (store_at s) (used rows) in
            let lm = length-map rows f in
            rw lm at (over-same old new (map f rows) pp.only.long (omega (arith, h.place-room))
            (λ i x.
            let b : i < length rows = omega arith in
            let a = words₂.into i b in
            pp.is i a.0 b a.1 a.2 ∙ sym (places-are words₂ bytes whole there room₂ a.0 a.1) ∙ ap f a.2 ∙ sym (get_or-map-in f rows i 0 0 b))
            (λ i y. pp.only.kept i (record { apart = λ x. omega arith }, tt)))

        -- for the places
        pub places-fit : (k ≤ length w₂) × (length rows + k ≤ length w₂)
        places-fit = (omega (arith, words₂.most, room₂), omega (arith, words₂.most, room₂))

      pub words-now : Words rows w₂ k t
      words-now = words₂

-- ---- refusals leave all as it was

pub out-same : (p : Parsed) (rows : List ℕ) (n : ℕ) (old : List ℕ) → old ≡ out_left (some p) rows (Refused n) old
unfolding out_left
out-same p rows n old = refl

pub places_same : (p : Parsed) (rows : List ℕ) (n : ℕ) (old : List ℕ) → old ≡ places_left (some p) rows (Refused n) old
unfolding places_left
places_same p rows n old = refl

pub first-low : (axes kept : ℕ) → axes < 65536 → kept < 65536 → 6 * axes * kept ≤ 393210 * 65535
first-low axes kept a b = product 393210 65535 (omega arith) (omega arith)
