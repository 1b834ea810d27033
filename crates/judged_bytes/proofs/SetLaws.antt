-- One set of a sound job beside a sound store: it is right exactly where the records of the job are read at its word. Assumes nothing.
use mathlib.Core.Path.{◌≡◌, refl, sym, ap, ◌∙◌}
use mathlib.Core.List.{List, []}
use mathlib.Core.Logic.{◌⊎◌, inl, inr, ⊎_elim}
use Prim.Native.Nat.{ℕ, zero, suc, ◌+◌, ◌*◌, ◌/◌, ◌%◌, ◌≤◌, ◌<◌}
use native.Mathlib.Nat.{mul_comm}
use native.Mathlib.Omega.{arith}
use lib.IntN.{ℤ, pos, ℤ_discrete}
use lib.ListN.{length, get_or, take, drop}
use borrow.Author.Tests.{lt-leb}
use Rattle.laws.specs.LentRange.{seg}
use Rattle.laws.specs.Signed.{value}
use Rattle.laws.proofs.Cases.{lt-or-ge}
use Rattle.laws.proofs.EveryLaws.{all-get_or}
use Rattle.sets.specs.Set.{Set, word_of, Proper}
use Rattle.reader.specs.declared.column.Column.{Column}
use Rattle.reader.specs.declared.column.Column.TheVariants.{At, Missing}
use Rattle.reader.specs.Store.{Written, NoColumn, find, read_store, value_of, list_at, region_count}
use Rattle.said.specs.Records.{record_count, region_number, record_at}
use Rattle.said.specs.Refusals.{early_refusal, pair_records}
use Rattle.said.specs.Job.{Said, fine, outcome}
use Rattle.said.proofs.SoundLaws.{Bytes, WellSaid, well-said, open-if}
use Rattle.job.proofs.CheckLaws.{none-early}
use Rattle.stores.specs.Stores.{Parsed, read_row, read_table, read_parsed}
use Rattle.stores.specs.Coordinates.{place_in, wanted}
use Rattle.stores.proofs.WholeLaws.{parse-shaped}
use Rattle.stores.proofs.ByCoordinates.{place_found, place_at}
use Rattle.stores.proofs.Reading.{Listing, list-parsed, read-parsed}
use Rattle.told.specs.Told.{ValueIn, index_of, Told}
use Rattle.told.proofs.Bytes.{told}
use Rattle.call.specs.Build.{region_bytes, coords_in_use}
use Rattle.accepted.proofs.Accepted.{coords-long, coords-once}
use Rattle.demands.specs.SetsRead.{listed, named_by, value_at, InStore, SetRead}
use Rattle.demands.proofs.BytesBack.{value-at, coords-at}
use Rattle.judging.specs.Judge.{named_in}
use Rattle.judging.specs.Yes.{RowRight, SetRight, Sound}
use Rattle.judging.proofs.WorkLaws.{judge-first}
use Rattle.own_right.proofs.NamedLaws.{zero_is, wanted-lost, wanted-at}
use Rattle.kept_rows.proofs.RowLaws.{RowIn, row_in}
use Rattle.judged_bytes.specs.Bytes.{SetTold}

value-or : (a b : ℤ) → (a ≡ b) ⊎ (a ≡ b → ⊥)
value-or a b = elim (ℤ_discrete a b) [ yes e ↦ inl e | no d ↦ inr d ]

-- a row that is there answers for every listed region
column-answers : (word : ℕ) (row : List ℕ) (c : Column) → (read_row word row c ≡ Written (value_of (read_row word row c))) ⊎ (read_row word row c ≡ NoColumn)
unfolding read_row value_of
column-answers word row (At j) = inl refl
column-answers word row Missing = inr refl

module _ (p : Parsed) (o i : ℕ) (x : RowIn p o i) (q : ℕ) (b : q < length p.regions) where
  read_is : read_parsed p o i q ≡ read_row x.table.word (get_or x.table.rows i []) (find q 0 x.table.columns)
  unfolding read_parsed read_table
  read_is = rw (x.is, lt-leb (length x.table.rows) i x.below, lt-leb (length p.regions) q b)

  row-answers : (read_parsed p o i q ≡ Written (value_of (read_parsed p o i q))) ⊎ (read_parsed p o i q ≡ NoColumn)
  row-answers = rw read_is (column-answers x.table.word (get_or x.table.rows i []) (find q 0 x.table.columns))

module _ (axes : ℕ) (job store words : List ℕ) (work : ℕ) (s : Said) (p : Parsed) (a : Sound axes job store work s p) (bytes : Bytes job) (octets : Bytes store) where
  -- ---- what the job says

  early : early_refusal axes 0 job work pair_records ≡ 0
  early = go (early_refusal axes 0 job work pair_records) refl
    where
      go : (n : ℕ) → early_refusal axes 0 job work pair_records ≡ n → n ≡ 0
      go zero e = refl
      go (suc n) e = absurd (omega (arith, judge-first axes job (length store) work (suc n) (sym e) (λ z. omega arith), a.passed))

  outcome-is : outcome axes 0 job work pair_records ≡ fine s
  unfolding outcome
  outcome-is = none-early _ _ early ∙ a.said-is

  pub job-told : Told axes job s
  job-told = told axes 0 job work pair_records s outcome-is

  axes-some : 0 < axes
  axes-some = (open-if axes 0 job work pair_records early).some

  well : WellSaid axes job (record_count job) s
  well = well-said axes 0 job (record_count job) s axes-some bytes a.said-is

  abbrev coords : List (List ℕ)
  coords = coords_in_use s

  once : (x y : ℕ) → x < length coords → y < length coords → get_or coords x [] ≡ get_or coords y [] → x ≡ y
  once = coords-once axes 0 job (record_count job) s a.said-is axes-some bytes

  -- ---- the store's list

  list : Listing store p
  list = list-parsed store p a.parsed

  region-at : (q : ℕ) → q < length p.regions → get_or p.regions q [] ≡ listed axes store q
  unfolding seg
  region-at q h =
      let z : q * (6 * axes) ≡ 6 * axes * q = mul_comm q (6 * axes) in
      sym (list.region q h)
      ∙ ap (λ (x : ℕ). take (6 * x) (drop (list_at store + 4 + q * (6 * x)) store)) a.axes-are
      ∙ ap (λ (x : ℕ). take (6 * axes) (drop (list_at store + 4 + x) store)) z

  module _ (k : ℕ) (h : k < length s.sets) where
    abbrev set : Set
    set = get_or s.sets k []

    abbrev wants : List ℕ → ℤ
    wants c = wanted (named_in s (get_or s.sets k [])) c

    proper : Proper (length (coords_in_use s)) (get_or s.sets k [])
    proper = rw (coords-long s) (all-get_or (Proper (length s.used)) s.sets k [] well.good.sets-proper h)

    wants-at : (u : ℕ) → u < length coords → wants (get_or coords u []) ≡ value (word_of set u)
    wants-at u l = wanted-at s (length coords) u l (λ v m f. once v u m l f) set proper

    -- a region in use that no record of the set names is wanted as zero
    silent : (u : ℕ) → u < length coords → ((i : ℕ) → ValueIn job k i → get_or coords u [] ≡ named_by axes job i → ⊥) → wants (get_or coords u []) ≡ pos 0
    silent u l f =
        let m : u < length s.used = omega (arith, coords-long s) in
        wants-at u l
        ∙ ap value (job-told.unnamed k u h m (λ i v c. f i v (coords-at axes job s bytes job-told u m ∙ ap region_bytes (sym c))))
        ∙ zero_is

    -- what a set wants of coordinates that a record names
    module _ (i : ℕ) (v : ValueIn job k i) where
      abbrev r : ℕ
      r = index_of s (region_number (record_at job i))

      r-below : r < length coords
      r-below = omega (arith, (job-told.given k i v).index_below, coords-long s)

      named-at : get_or coords r [] ≡ named_by axes job i
      named-at = coords-at axes job s bytes job-told r (job-told.given k i v).index_below ∙ ap region_bytes (job-told.given k i v).coordinates-are

      wants-named : wants (named_by axes job i) ≡ value_at job i
      wants-named = ap wants (sym named-at) ∙ wants-at r r-below ∙ ap value (job-told.given k i v).word-is ∙ value-at job i bytes

    -- and of coordinates that none does
    wants-none : (c : List ℕ) → ((i : ℕ) → ValueIn job k i → c ≡ named_by axes job i → ⊥) → wants c ≡ pos 0
    wants-none c f = ⊎_elim
        (λ (l : place_in coords c < length coords).
        let e = place_at coords c l in
        ap wants (sym e) ∙ silent (place_in coords c) l (λ i v g. f i v (sym e ∙ g)))
        (λ (l : length coords ≤ place_in coords c). wanted-lost s (length coords) c (λ u m e. omega (arith, l, (place_found coords c u m e).0)) set proper)
        (lt-or-ge (place_in coords c) (length coords))

    -- a value that each record gives, and that is zero where none does, is the one that the set wants
    by-records : (c : List ℕ) (z : ℤ) → ((i : ℕ) → ValueIn job k i → c ≡ named_by axes job i → z ≡ value_at job i)
        → (((i : ℕ) → ValueIn job k i → c ≡ named_by axes job i → ⊥) → z ≡ pos 0) → z ≡ wants c
    by-records c z given unnamed = ⊎_elim
        (λ (e : z ≡ wants c). e)
        (λ d.
        let f : (i : ℕ) → ValueIn job k i → c ≡ named_by axes job i → ⊥ = (λ i v e. d (given i v e ∙ sym (ap wants e ∙ wants-named i v))) in
        unnamed f ∙ sym (wants-none c f))
        (value-or z (wants c))

    abbrev w : ℕ
    w = get_or words k 0

    -- ---- one way

    module _ (y : SetRight store words p s k) where
      row : RowIn p (w / 65536) (w % 65536)
      row = row_in p (w / 65536) (w % 65536) y.row.there

      listed_in : (q : ℕ) → q < region_count store → q < length p.regions
      listed_in q l = omega (arith, list.count)

      reads_at : (q : ℕ) → q < region_count store → value_of (read_store store (w / 65536) (w % 65536) q) ≡ wants (listed axes store q)
      reads_at q l = y.row.reads q (listed_in q l) ∙ ap wants (region-at q (listed_in q l))

      in-store : (i : ℕ) → ValueIn job k i → (value_at job i ≡ pos 0 → ⊥) → InStore axes job store i
      in-store i v d = ⊎_elim
          (λ (l : place_in p.regions (named_by axes job i) < length p.regions).
          record {
            index = place_in p.regions (named_by axes job i);
            below = omega (arith, list.count);
            coordinates = sym (region-at (place_in p.regions (named_by axes job i)) l) ∙ place_at p.regions (named_by axes job i) l;
          })
          (λ (l : length p.regions ≤ place_in p.regions (named_by axes job i)).
          absurd (d (sym (wants-named i v) ∙ y.row.absent (named_by axes job i) (λ q b e. omega (arith, l, (place_found p.regions (named_by axes job i) q b e).0)))))
          (lt-or-ge (place_in p.regions (named_by axes job i)) (length p.regions))

      set-read : SetRead axes job store k (get_or words k 0)
      set-read = record {
        outer = w / 65536;
        inner = w % 65536;
        outer_below = omega (arith, row.outer_below, (parse-shaped store octets p a.parsed).tables-few);
        inner_below = omega arith;
        word-is = omega arith;
        answers = λ q l.
            rw (read-parsed store p a.parsed (w / 65536) (w % 65536) q) (row-answers p (w / 65536) (w % 65536) row q (listed_in q l));
        given = λ i v q l e. reads_at q l ∙ ap wants e ∙ wants-named i v;
        in_list = in-store;
        unnamed = λ q l f. reads_at q l ∙ wants-none (listed axes store q) f;
      }

    -- ---- and back

    module _ (y : SetTold axes job store words p k) where
      abbrev g : SetRead axes job store k (get_or words k 0)
      g = y.reads

      outer-is : w / 65536 ≡ g.outer
      outer-is = omega (arith, g.word-is, g.inner_below)

      inner-is : w % 65536 ≡ g.inner
      inner-is = omega (arith, g.word-is, g.inner_below)

      row-right : RowRight store p s (get_or words k 0) k
      row-right = record {
        there = y.row-there;
        reads = λ q b.
            let l : q < region_count store = omega (arith, list.count) in
            rw (outer-is, inner-is, region-at q b)
            (by-records (listed axes store q) (value_of (read_store store g.outer g.inner q)) (λ i v e. g.given i v q l e) (λ f. g.unnamed q l f));
        absent = λ c f. sym (by-records c (pos 0)
            (λ i v e. ⊎_elim (λ (z : value_at job i ≡ pos 0). sym z)
            (λ d.
            let x = g.in_list i v d in
            let b : x.index < length p.regions = omega (arith, x.below, list.count) in
            absurd (f x.index b (region-at x.index b ∙ x.coordinates ∙ sym e)))
            (value-or (value_at job i) (pos 0)))
            (λ f. refl));
      }

    pub right-told : SetRight store words p s k → SetTold axes job store words p k
    right-told y = record { word-there = y.word-there; row-there = y.row.there; reads = set-read y }

    pub told-right : SetTold axes job store words p k → SetRight store words p s k
    told-right y = record { word-there = y.word-there; row = row-right y }
