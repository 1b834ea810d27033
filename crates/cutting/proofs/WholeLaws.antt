-- The whole store written: header, offsets, region list, subtables. Assumes nothing.
use mathlib.Core.Path.{◌≡◌, refl, sym, ap, ap₂, ◌∙◌}
use mathlib.Core.Bool.{true}
use mathlib.Core.List.{List, [], ◌++◌, map}
use Prim.Native.Nat.{ℕ, zero, suc, ◌+◌, ◌*◌, ◌≤◌, ◌<◌}
use native.Mathlib.Nat.{mul_comm}
use native.Mathlib.Omega.{arith}
use lib.ListN.{length, get_or, length-append, length-map}
use borrow.Author.Tests.{eq-eqb, ne_eqb}
use Rattle.laws.specs.Bag.{sum}
use Rattle.laws.specs.Bytes.{be, bytes_of, over}
use Rattle.laws.specs.Bounded.{tabulate, up_to}
use Rattle.laws.specs.LentRange.{seg}
use Rattle.laws.specs.Sorting.{keep, rank}
use Rattle.laws.specs.Joining.{join_all}
use Rattle.laws.proofs.BagLaws.{sum-next, sum-part}
use Rattle.laws.proofs.BytesLaws.{bytes-length}
use Rattle.laws.proofs.EveryLaws.{all_map, all-imp}
use Rattle.laws.proofs.SortMap.{keep_all}
use Rattle.laws.proofs.UpLaws.{up-all}
use Rattle.laws.proofs.JoinLaws.{join-long, join-snoc}
use Rattle.laws.proofs.BoundedLaws.{tabulate-snoc}
use Rattle.laws.proofs.Products.{row_fits}
use Rattle.laws.proofs.RangeLaws.{length-seg}
use Rattle.reader.specs.Store.{list_at, axis_count, region_count, is_header_ok}
use Rattle.reader.proofs.StoreLaws.{header-fits}
use Rattle.rows.specs.Lent.{Put}
use Rattle.rows.proofs.PutLaws.{Putting, put-start, put-more, put_last, put-join, put-long}
use Rattle.cutting.specs.LentCut.{StoreFit, cut_bytes, cut_size, marked, header_put, spots_put, regions_put, list_put, tables_put, store_put}
use Rattle.cutting.proofs.PieceLaws.{pieces, rest, pieces-start, pieces-over, pieces_more, pieces_room, pieces-done, pieces-long, some, left, some-room, some_in, some_out, some-done}
use Rattle.cutting.proofs.TableLaws.{cut-long}

-- ---- header

pub header-long : (t : ℕ) → length (header_put t) ≡ 8
header-long t = length-append (bytes_of 2 1) (bytes_of 4 (8 + 4 * t) ++ bytes_of 2 t)
    ∙ omega (arith, length-append (bytes_of 4 (8 + 4 * t)) (bytes_of 2 t), bytes-length 2 1, bytes-length 4 (8 + 4 * t), bytes-length 2 t)

pub header-put : (t : ℕ) (o p q r : List ℕ) → 8 ≤ length o → p ≡ over o 0 2 (bytes_of 2 1) → q ≡ over p 2 4 (bytes_of 4 (8 + 4 * t)) → r ≡ over q 6 2 (bytes_of 2 t)
    → Put 0 (header_put t) o r 8
header-put t o p q r room e f g =
    let a = bytes_of 2 1 in
    let b = bytes_of 4 (8 + 4 * t) in
    let c = bytes_of 2 t in
    let h : 0 + length (a ++ (b ++ c)) ≤ length o = omega (arith, header-long t) in
    let p1 = put-more 0 (a ++ (b ++ c)) o o 0 a (b ++ c) p 2 h (put-start 0 (a ++ (b ++ c)) o) (bytes-length 2 1) e in
    let p2 = put-more 0 (a ++ (b ++ c)) o p 2 b c q 4 h p1 (bytes-length 4 (8 + 4 * t)) f in
    put_last 0 (a ++ (b ++ c)) o q 6 c r 2 p2 (bytes-length 2 t) g

-- ---- offsets

module _ (s : List ℕ) (n : ℕ) (w : List ℕ) (t first at : ℕ) (old : List ℕ) where
  abbrev spot : ℕ → List ℕ
  spot g = bytes_of 4 (first + sum (cut_size s n w) g)

  spots-size : length (pieces spot t) ≡ t * 4
  spots-size = pieces-long spot 4 0 t (λ i p q. bytes-length 4 (first + sum (cut_size s n w) i))

  pub record SpotsAt (new : List ℕ) (p next g : ℕ) : Type 0 where
    pub within : g ≤ t
    pub spot_is : p ≡ at + 4 * g
    pub next-is : next ≡ first + sum (cut_size s n w) g
    pub put : Putting at (pieces spot t) old new p (rest spot t g)

  pub spots-start : SpotsAt old at first 0
  unfolding sum
  spots-start = record { within = omega arith; spot_is = omega arith; next-is = omega arith; put = pieces-start spot t at old }

  pub spots-more : at + 4 * t ≤ length old → (new next : List ℕ) (p x g size : ℕ) → SpotsAt new p x g → g < t → size ≡ cut_size s n w g → next ≡ over new p 4 (bytes_of 4 x)
      → SpotsAt next (p + 4) (x + size) (g + 1)
  spots-more room new next p x g size h l e o = record {
    within = omega arith;
    spot_is = omega (arith, h.spot_is);
    next-is = omega (arith, h.next-is, e, sum-next (cut_size s n w) g);
    put = pieces-over spot t at old (omega (arith, spots-size)) new p g h.put l next 4 (bytes-length 4 (first + sum (cut_size s n w) g)) (o ∙ rw h.next-is);
  }

  -- an offset is a word
  pub spots-low : (new : List ℕ) (p x g : ℕ) → SpotsAt new p x g → g < t → first + sum (cut_size s n w) t < 4294967296 → x < 4294967296
  spots-low new p x g h l b = omega (arith, h.next-is, sum-part (cut_size s n w) g t l)

  pub spots-done : (new : List ℕ) (p x g : ℕ) → SpotsAt new p x g → t ≤ g → Put at (spots_put s n w first t) old new p
  unfolding spots_put
  spots-done new p x g h l = pieces-done spot t at old new p g h.put l

pub spots-long : (s : List ℕ) (n : ℕ) (w : List ℕ) (first t : ℕ) → length (spots_put s n w first t) ≡ 4 * t
unfolding spots_put
spots-long s n w first t = spots-size s n w t first 0 [] ∙ omega arith

-- ---- regions

abbrev coords : List ℕ → ℕ → ℕ → ℕ → List ℕ
coords s from long r = seg (from + r * long) long s

-- the first r regions are looked at
pub record RegionsAt (s : List ℕ) (from long : ℕ) (w : List ℕ) (m regions at : ℕ) (old new : List ℕ) (p r : ℕ) : Type 0 where
  pub put : Putting at (some (coords s from long) (marked m w) regions) old new p (left (coords s from long) (marked m w) regions r)

pub regions-inside : (from long regions end r : ℕ) → from + regions * long ≤ end → r < regions → from + r * long + long ≤ end
regions-inside from long regions end r b h = omega (arith, row_fits long regions r h)

module _ (s : List ℕ) (from long : ℕ) (w : List ℕ) (m regions at : ℕ) (old : List ℕ) where
  abbrev c : ℕ → List ℕ
  c = coords s from long

  module _ (room : at + length (regions_put s from long w m regions) ≤ length old) (new : List ℕ) (p r : ℕ) (h : RegionsAt s from long w m regions at old new p r) (l : r < regions) where
    room' : at + length (some c (marked m w) regions) ≤ length old
    unfolding regions_put
    room' = room

    on : (get_or w (m + r) 0 ≡ 0 → ⊥) → marked m w r ≡ true
    on d = rw (ne_eqb (get_or w (m + r) 0) 0 d)

    pub regions-room : from + regions * long ≤ length s → (get_or w (m + r) 0 ≡ 0 → ⊥) → p + long ≤ length new
    regions-room b d = omega (arith, some-room c (marked m w) regions at old room' new p r h.put l (on d), length-seg (from + r * long) long s (regions-inside from long regions (length s) r b l))

    pub regions-in : (get_or w (m + r) 0 ≡ 0 → ⊥) → (next : List ℕ) (q : ℕ) → Put p (seg (from + r * long) long s) new next q → RegionsAt s from long w m regions at old next q (r + 1)
    regions-in d next q k = record { put = some_in c (marked m w) regions at old room' new p r h.put l (on d) next q k }

    pub regions-out : get_or w (m + r) 0 ≡ 0 → RegionsAt s from long w m regions at old new p (r + 1)
    regions-out e = record { put = some_out c (marked m w) regions at old room' new p r h.put l (rw (eq-eqb (get_or w (m + r) 0) 0 e)) }

  pub regions-done : (new : List ℕ) (p r : ℕ) → RegionsAt s from long w m regions at old new p r → regions ≤ r → Put at (regions_put s from long w m regions) old new p
  unfolding regions_put
  regions-done new p r h l = some-done c (marked m w) regions at old new p r h.put l

pub regions-long : (s : List ℕ) (from long : ℕ) (w : List ℕ) (m regions : ℕ) → from + regions * long ≤ length s
    → length (regions_put s from long w m regions) ≡ rank (marked m w) regions * long
unfolding regions_put
regions-long s from long w m regions b =
    let kept = keep (marked m w) (up_to regions) in
    join-long long (map (λ r. seg (from + r * long) long s) kept)
    (all_map (λ c. length c ≡ long) (λ r. seg (from + r * long) long s) kept
    (keep_all (marked m w) (λ r. length (seg (from + r * long) long s) ≡ long) (up_to regions)
    (all-imp (λ r h. length-seg (from + r * long) long s (regions-inside from long regions (length s) r b h)) (up_to regions) (up-all regions))))
    ∙ ap (λ (x : ℕ). x * long) (length-map kept (λ r. seg (from + r * long) long s))

-- ---- the list

-- the coordinates lie in the store
pub coords-in : (s : List ℕ) → is_header_ok s ≡ true → list_at s + 4 + region_count s * (6 * axis_count s) ≤ length s
coords-in s h = let f = header-fits s h in omega (arith, f.regions, mul_comm (region_count s) (6 * axis_count s))

module _ (s : List ℕ) (w : List ℕ) (m kept : ℕ) where
  pub list-long : is_header_ok s ≡ true → length (list_put s w m kept) ≡ 4 + 6 * axis_count s * rank (marked m w) (region_count s)
  unfolding list_put
  list-long h =
      let r = regions_put s (list_at s + 4) (6 * axis_count s) w m (region_count s) in
      length-append (bytes_of 2 (axis_count s)) (bytes_of 2 kept ++ r)
      ∙ omega (arith, length-append (bytes_of 2 kept) r, bytes-length 2 (axis_count s), bytes-length 2 kept, regions-long s (list_at s + 4) (6 * axis_count s) w m (region_count s) (coords-in s h), mul_comm (rank (marked m w) (region_count s)) (6 * axis_count s))

  module _ (at : ℕ) (o : List ℕ) (room : at + length (list_put s w m kept) ≤ length o) (list axes regions : ℕ)
      (a : list ≡ list_at s) (b : axes ≡ be 2 s list) (c : regions ≡ be 2 s (list + 2)) where
    axes-are : axes ≡ axis_count s
    axes-are = b ∙ ap (be 2 s) a

    pub regions-are : regions ≡ region_count s
    regions-are = c ∙ ap (λ (x : ℕ). be 2 s (x + 2)) a

    body : List ℕ
    body = regions_put s (list + 4) (6 * axes) w m regions

    bytes-are : bytes_of 2 axes ++ (bytes_of 2 kept ++ body) ≡ list_put s w m kept
    unfolding list_put body
    bytes-are = rw (a, axes-are, regions-are)

    all-long : length (list_put s w m kept) ≡ 4 + length body
    all-long =
        ap length (sym bytes-are) ∙ length-append (bytes_of 2 axes) (bytes_of 2 kept ++ body)
        ∙ omega (arith, length-append (bytes_of 2 kept) body, bytes-length 2 axes, bytes-length 2 kept)

    pub list-head : at + 4 ≤ length o
    list-head = omega (arith, all-long)

    pub list_inside : is_header_ok s ≡ true → list + 4 + regions * (6 * axes) ≤ length s
    list_inside h = rw (a, axes-are, regions-are) (coords-in s h)

    module _ {p q : List ℕ} (e : p ≡ over o at 2 (bytes_of 2 axes)) (f : q ≡ over p (at + 2) 2 (bytes_of 2 kept)) where
      all : List ℕ
      all = bytes_of 2 axes ++ (bytes_of 2 kept ++ body)

      room₀ : at + length (bytes_of 2 axes ++ (bytes_of 2 kept ++ body)) ≤ length o
      room₀ = rw (← bytes-are) at room

      put₁ : Putting at (bytes_of 2 axes ++ (bytes_of 2 kept ++ body)) o p (at + 2) (bytes_of 2 kept ++ body)
      put₁ = put-more at (bytes_of 2 axes ++ (bytes_of 2 kept ++ body)) o o at (bytes_of 2 axes) (bytes_of 2 kept ++ body) p 2 room₀
          (put-start at (bytes_of 2 axes ++ (bytes_of 2 kept ++ body)) o) (bytes-length 2 axes) e

      put₂ : Putting at (bytes_of 2 axes ++ (bytes_of 2 kept ++ body)) o q (at + 4) body
      put₂ =
          let z : at + 2 + 2 ≡ at + 4 = omega arith in
          rw z at (put-more at (bytes_of 2 axes ++ (bytes_of 2 kept ++ body)) o p (at + 2) (bytes_of 2 kept) body q 2 room₀ put₁ (bytes-length 2 kept) f)

      pub list-room : at + 4 + length (regions_put s (list + 4) (6 * axes) w m regions) ≤ length q
      unfolding body
      list-room = omega (arith, put₂.long, put₂.end, room₀)

      pub list-put : {r : List ℕ} {t : ℕ} → Put (at + 4) (regions_put s (list + 4) (6 * axes) w m regions) q r t → Put at (list_put s w m kept) o r t
      unfolding body
      list-put {r} {t} k = rw (k.end, ← bytes-are) (put_last at (bytes_of 2 axes ++ (bytes_of 2 kept ++ body)) o q (at + 4) body r (length body) put₂ refl k.is)

-- ---- subtables

-- the first g are written
pub record TablesAt (s : List ℕ) (n : ℕ) (w : List ℕ) (t at : ℕ) (old new : List ℕ) (p g : ℕ) : Type 0 where
  pub put : Putting at (pieces (cut_bytes s n w) t) old new p (rest (cut_bytes s n w) t g)

module _ (s : List ℕ) (n : ℕ) (w : List ℕ) (t at : ℕ) (old : List ℕ) where
  module _ (room : at + length (tables_put s n w t) ≤ length old) (new : List ℕ) (p g : ℕ) (h : TablesAt s n w t at old new p g) (l : g < t) where
    room₁ : at + length (pieces (cut_bytes s n w) t) ≤ length old
    unfolding tables_put
    room₁ = room

    pub bodies-room : p + length (cut_bytes s n w g) ≤ length new
    bodies-room = pieces_room (cut_bytes s n w) t at old room₁ new p g h.put l

    pub bodies-more : (next : List ℕ) (q : ℕ) → Put p (cut_bytes s n w g) new next q → TablesAt s n w t at old next q (g + 1)
    bodies-more next q k = record { put = pieces_more (cut_bytes s n w) t at old room₁ new p g h.put l next q k }

  pub bodies-done : (new : List ℕ) (p g : ℕ) → TablesAt s n w t at old new p g → t ≤ g → Put at (tables_put s n w t) old new p
  unfolding tables_put
  bodies-done new p g h l = pieces-done (cut_bytes s n w) t at old new p g h.put l

-- their bytes together
pieces-next : (f : ℕ → List ℕ) (n : ℕ) → length (join_all (tabulate 0 (n + 1) f)) ≡ length (join_all (tabulate 0 n f)) + length (f n)
pieces-next f n =
    let z : 0 + n ≡ n = omega arith in
    ap (λ (l : List (List ℕ)). length (join_all l)) (tabulate-snoc 0 n f)
    ∙ ap length (join-snoc (tabulate 0 n f) (f (0 + n)))
    ∙ length-append (join_all (tabulate 0 n f)) (f (0 + n))
    ∙ rw z

bodies-sum : (f : ℕ → List ℕ) (a : ℕ → ℕ) (n : ℕ) → ((g : ℕ) → g < n → length (f g) ≡ a g) → length (join_all (tabulate 0 n f)) ≡ sum a n
unfolding sum
bodies-sum f a zero h = unfold join_all tabulate in refl
bodies-sum f a (suc n) h =
    let z : n + 1 ≡ suc n = omega arith in
    rw z at (pieces-next f n) ∙ ap₂ (λ (x y : ℕ). x + y) (bodies-sum f a n (λ g l. h g (omega arith))) (h n (omega arith))

pub tables-long : {s : List ℕ} {n : ℕ} {w : List ℕ} {t : ℕ} → StoreFit s n w t → length (tables_put s n w t) ≡ sum (cut_size s n w) t
unfolding tables_put
tables-long {s} {n} {w} {t} f = bodies-sum (cut_bytes s n w) (cut_size s n w) t (λ g l. cut-long (f.table g l))

-- ---- the store

module _ {s : List ℕ} {n : ℕ} {w : List ℕ} {t : ℕ} (f : StoreFit s n w t) (kept first : ℕ) (o : List ℕ)
    (first-is : first ≡ 8 + 4 * t + length (list_put s w (3 * n + 1) kept)) (short : length (store_put s n w t kept) < 4294967296) (room : length (store_put s n w t kept) ≤ length o) where
  abbrev list : List ℕ
  list = list_put s w (3 * n + 1) kept

  abbrev spots : List ℕ
  spots = spots_put s n w first t

  abbrev tables : List ℕ
  tables = tables_put s n w t

  store_is : header_put t ++ (spots ++ (list ++ tables)) ≡ store_put s n w t kept
  unfolding store_put
  store_is = rw first-is

  pub store_long : length (store_put s n w t kept) ≡ first + sum (cut_size s n w) t
  store_long =
      ap length (sym store_is) ∙ length-append (header_put t) (spots ++ (list ++ tables))
      ∙ omega (arith, length-append spots (list ++ tables), length-append list tables, header-long t, spots-long s n w first t, tables-long f, first-is)

  pub header-room : 8 ≤ length o
  header-room = omega (arith, store_long, first-is)

  module _ {p : List ℕ} {a : ℕ} (h : Put 0 (header_put t) o p a) where
    long₁ : length p ≡ length o
    long₁ = put-long 0 (header_put t) o p a h (omega (arith, header-long t, header-room))

    at₁ : a ≡ 8
    at₁ = omega (arith, h.end, header-long t)

    pub spots-room : (a + 4 * t ≤ length p) × (first + sum (cut_size s n w) t < 4294967296)
    spots-room = (omega (arith, long₁, at₁, store_long, first-is), omega (arith, store_long))

    module _ {q : List ℕ} {b : ℕ} (k : Put a (spots_put s n w first t) p q b) where
      long₂ : length q ≡ length o
      long₂ = put-long a spots p q b k (omega (arith, spots-long s n w first t, spots-room.0)) ∙ long₁

      at₂ : b ≡ 8 + 4 * t
      at₂ = omega (arith, k.end, spots-long s n w first t, at₁)

      pub list-fits : b + length (list_put s w (3 * n + 1) kept) ≤ length q
      list-fits = omega (arith, long₂, at₂, store_long, first-is)

      module _ {r : List ℕ} {d : ℕ} (l : Put b (list_put s w (3 * n + 1) kept) q r d) where
        long₃ : length r ≡ length o
        long₃ = put-long b list q r d l list-fits ∙ long₂

        at₃ : d ≡ first
        at₃ = omega (arith, l.end, at₂, first-is)

        pub tables-fit : d + length (tables_put s n w t) ≤ length r
        tables-fit = omega (arith, long₃, at₃, store_long, tables-long f)

        pub store-put : {u : List ℕ} {e : ℕ} → Put d (tables_put s n w t) r u e → Put 0 (store_put s n w t kept) o u e
        store-put {u} {e} m =
            let j1 = put-join b list tables q r u d e l m (omega (arith, long₂, at₂, store_long, first-is, tables-long f)) in
            let j2 = put-join a spots (list ++ tables) p q u b e k j1 (omega (arith, long₁, at₁, spots-long s n w first t, length-append list tables, store_long, first-is, tables-long f)) in
            rw store_is at (put-join 0 (header_put t) (spots ++ (list ++ tables)) o p u a e h j2
            (omega (arith, header-long t, length-append spots (list ++ tables), spots-long s n w first t, length-append list tables, store_long, first-is, tables-long f)))
