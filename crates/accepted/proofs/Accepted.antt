-- What is known of a build that is done: its job is sound, none of refusals 10 to 14 and 61 is given, and everything lent is as the definitions say.
-- Assumes nothing.
use mathlib.Core.Path.{◌≡◌, refl, sym, ap, ap₂, ◌∙◌}
use mathlib.Core.List.{List, [], ◌∷◌}
use Prim.Native.Nat.{ℕ, ◌+◌, ◌-◌, ◌*◌, ◌/◌, ◌≤◌, ◌<◌}
use native.Mathlib.Omega.{arith}
use lib.Dec.{eqb, leb}
use lib.ListN.{length, get_or, take, length-append, length-map}
use borrow.Author.Tests.{eq-eqb, leb-true}
use Rattle.laws.specs.Pick.{pick}
use Rattle.laws.specs.Every.{All}
use Rattle.laws.specs.Sorting.{sorted}
use Rattle.laws.specs.Bytes.{bytes_of, over}
use Rattle.laws.proofs.Cases.{Tri, tri, Which, which}
use Rattle.laws.proofs.Cases.Which.{holds, fails}
use Rattle.laws.proofs.Cases.Tri.{below, same, above}
use Rattle.laws.proofs.EveryLaws.{all-imp, all_map, all-get_or, two-get_or}
use Rattle.laws.proofs.ListLaws.{get_or-map-in}
use Rattle.laws.proofs.BoundedLaws.{length-tabulate}
use Rattle.laws.proofs.BytesLaws.{bytes-length, take-over, over-at}
use Rattle.sets.specs.Set.{Set}
use Rattle.groups.specs.Groups.{groups_of, max_shapes}
use Rattle.rule.specs.Model.{merged}
use Rattle.rule.specs.Told.{words}
use Rattle.rule.proofs.Theorems.{words-length}
use Rattle.store.specs.Placing.{all_runs, id_words, stored}
use Rattle.said.specs.Records.{record_bytes, most_records, most_axes}
use Rattle.said.specs.Refusals.{most_bytes}
use Rattle.said.specs.Sets.{Region}
use Rattle.said.specs.Job.{Said, Outcome, refused, fine, in_axes, records_from}
use Rattle.said.specs.LentOpen.{Open}
use Rattle.said.proofs.SaidLaws.{room_of}
use Rattle.said.proofs.RecordLaws.{first-passed}
use Rattle.said.proofs.SoundLaws.{Bytes, Coordinates, WellSaid, well-said, fine-walk}
use Rattle.sets.specs.Ids.{distinct}
use Rattle.encoder.specs.Packed.{Packed, is_ahead, home_of, origins_of, shared, own}
use Rattle.finishing.specs.declared.answers.Report.{Report}
use Rattle.finishing.specs.Answers.{Done}
use Rattle.finishing.specs.Buffers.{Buffers, Lengths, lengths}
use Rattle.finishing.specs.Late.{store_for, origin_words, late_no, report_of, written, buffers_left}
use Rattle.finishing.proofs.LoopLaws.{told-long}
use Rattle.finishing.proofs.DoneLaws.{late-done}
use Rattle.call.specs.Lending.{Lending}
use Rattle.call.specs.Build.{region_bytes, coords_in_use, packed_of, answer_from, left_from, outcome_of, answer_of, after}
use Rattle.accepted.proofs.ReadBack.{Sized}
use Rattle.call.proofs.CoordLaws.{coords-bytes}

-- ---- the sizes of what a sound job says

region-long : (c : Region) → length (region_bytes c) ≡ 2 * length c
unfolding region_bytes
region-long [] = refl
region-long (x ∷ c) = length-append (bytes_of 2 x) (region_bytes c) ∙ omega (arith, bytes-length 2 x, region-long c)

-- the numbers of two bytes each
abbrev back_of : List ℕ → List ℕ
back_of [] = []
back_of (h ∷ []) = []
back_of (h ∷ l ∷ bs) = (h * 256 + l) ∷ back_of bs

region-back : (c : Region) → All (λ x. x < 65536) c → back_of (region_bytes c) ≡ c
unfolding region_bytes bytes_of
region-back [] h = refl
region-back (x ∷ c) h = let l = h.0 in ap₂ ◌∷◌ (omega arith) (region-back c h.1)

-- a region's coordinates for each region in use
pub coords-long : (s : Said) → length (coords_in_use s) ≡ length s.used
unfolding coords_in_use
coords-long s = length-map s.used (λ (q : ℕ). region_bytes (get_or s.regions q []))

module _ (axes mode : ℕ) (job : List ℕ) (records : ℕ) (s : Said) (e : records_from axes mode job job records 0 in_axes ≡ fine s) (some : 0 < axes) (bytes : Bytes job) where
  abbrev well : WellSaid axes job records s
  well = well-said axes mode job records s some bytes e

  region-whole : (q : ℕ) → q < length s.regions → length (region_bytes (get_or s.regions q [])) ≡ 6 * axes
  region-whole q h = omega (arith, region-long (get_or s.regions q []), (all-get_or (Coordinates axes) s.regions q [] well.coordinates-are h).0)

  coords-whole : All (λ (c : List ℕ). length c ≡ 6 * axes) (coords_in_use s)
  unfolding coords_in_use
  coords-whole =
      all_map (λ (c : List ℕ). length c ≡ 6 * axes) (λ (q : ℕ). region_bytes (get_or s.regions q [])) s.used
      (all-imp region-whole s.used well.counted.used_low)

  -- no two regions in use are equal (S1): they have coordinates of their own, and so have their bytes
  pub coords-once : (x y : ℕ) → x < length (coords_in_use s) → y < length (coords_in_use s) → get_or (coords_in_use s) x [] ≡ get_or (coords_in_use s) y [] → x ≡ y
  unfolding coords_in_use
  coords-once x y h k f = go (tri x y)
    where
      use-low : (i : ℕ) → i < length (coords_in_use s) → get_or s.used i 0 < length s.regions
      use-low i l = all-get_or (λ q. q < length s.regions) s.used i 0 well.counted.used_low (omega (arith, coords-long s))

      at : (i : ℕ) → i < length (coords_in_use s) → back_of (get_or (coords_in_use s) i []) ≡ get_or s.regions (get_or s.used i 0) []
      at i l =
          ap back_of (get_or-map-in (λ (q : ℕ). region_bytes (get_or s.regions q [])) s.used i 0 [] (omega (arith, coords-long s)))
          ∙ region-back (get_or s.regions (get_or s.used i 0) []) (all-get_or (Coordinates axes) s.regions (get_or s.used i 0) [] well.coordinates-are (use-low i l)).1

      equal : get_or s.regions (get_or s.used x 0) [] ≡ get_or s.regions (get_or s.used y 0) []
      equal = sym (at x h) ∙ ap back_of f ∙ at y k

      differ : (i j : ℕ) → i < j → j < length (coords_in_use s) → get_or s.regions (get_or s.used i 0) [] ≡ get_or s.regions (get_or s.used j 0) [] → ⊥
      differ i j l m = two-get_or (λ a b. get_or s.regions a [] ≡ get_or s.regions b [] → ⊥) s.used i j 0 well.used-apart l (omega (arith, coords-long s))

      go : Tri x y → x ≡ y
      go (below l) = absurd (differ x y l k equal)
      go (same l) = l
      go (above l) = absurd (differ y x l h (sym equal))

  pub sized : axes ≤ most_axes → records ≤ most_records → Sized axes (length s.used) (coords_in_use s) s.sets
  sized a n =
      let room = room_of axes job records s some well.counted in
      record {
        proper = well.good.sets-proper;
        words = well.words-low;
        coords-are = coords-long s;
        coords-whole = coords-whole;
        coords-bytes = coords-bytes s;
        axes-few = a;
        regions-few = room.2;
        sets-few = omega (arith, room.0);
      }

-- ---- what is not refused late

-- each of refusals 10 to 14, 60 and 61 is not given
pub record Roomy (axes : ℕ) (coords : List (List ℕ)) (k : Packed) (l : Lengths) : Type 0 where
  pub shapes-few : k.groups ≤ max_shapes
  pub ids-fit : length k.ids ≤ l.ids
  pub map-fits : length k.sets ≤ l.map
  pub log-fits : 3 * (k.groups - 1) ≤ l.log
  pub origins-fit : 2 * k.groups ≤ l.origins
  pub bytes-few : length (store_for axes coords k) ≤ most_bytes
  pub out-fits : length (store_for axes coords k) ≤ l.out

roomy : (axes : ℕ) (coords : List (List ℕ)) (k : Packed) (l : Lengths) → late_no axes coords k l ≡ 0 → Roomy axes coords k l
unfolding late_no
roomy axes coords k l z =
    let t₁ = leb k.groups max_shapes in
    let t₂ = leb (length k.ids) l.ids in
    let t₃ = leb (length k.sets) l.map in
    let t₄ = leb (3 * (k.groups - 1)) l.log in
    let t₅ = leb (2 * k.groups) l.origins in
    let t₆ = leb (length (store_for axes coords k)) most_bytes in
    let t₇ = leb (length (store_for axes coords k)) l.out in
    let a = first-passed t₁ 9 ((t₂, 11) ∷ (t₃, 12) ∷ (t₄, 13) ∷ (t₅, 61) ∷ (t₆, 60) ∷ (t₇, 14) ∷ []) z in
    let b = first-passed t₂ 10 ((t₃, 12) ∷ (t₄, 13) ∷ (t₅, 61) ∷ (t₆, 60) ∷ (t₇, 14) ∷ []) a.1 in
    let c = first-passed t₃ 11 ((t₄, 13) ∷ (t₅, 61) ∷ (t₆, 60) ∷ (t₇, 14) ∷ []) b.1 in
    let d = first-passed t₄ 12 ((t₅, 61) ∷ (t₆, 60) ∷ (t₇, 14) ∷ []) c.1 in
    let o = first-passed t₅ 60 ((t₆, 60) ∷ (t₇, 14) ∷ []) d.1 in
    let s = first-passed t₆ 59 ((t₇, 14) ∷ []) o.1 in
    let f = first-passed t₇ 13 [] s.1 in
    record {
      shapes-few = leb-true k.groups max_shapes a.0;
      ids-fit = leb-true (length k.ids) l.ids b.0;
      map-fits = leb-true (length k.sets) l.map c.0;
      log-fits = leb-true (3 * (k.groups - 1)) l.log d.0;
      origins-fit = leb-true (2 * k.groups) l.origins o.0;
      bytes-few = leb-true (length (store_for axes coords k)) most_bytes s.0;
      out-fits = leb-true (length (store_for axes coords k)) l.out f.0;
    }

-- ---- done

-- what is packed of a job that says s, and its store
abbrev pub packed_in : Lending → Said → Packed
packed_in c s = packed_of c.mode s

abbrev pub store_in : Lending → Said → List ℕ
store_in c s = store_for c.axes (coords_in_use s) (packed_of c.mode s)

pub record Accepted (c : Lending) (r : Report) : Type 0 where
  pub said : Said
  pub said-is : outcome_of c ≡ fine said
  pub entered : Open c.axes c.mode c.job (length c.work) (length c.pairs)
  pub walked : records_from c.axes c.mode c.job c.job (length c.job / record_bytes) 0 in_axes ≡ fine said
  pub none-late : late_no c.axes (coords_in_use said) (packed_in c said) (lengths c.lent) ≡ 0
  pub room : Roomy c.axes (coords_in_use said) (packed_in c said) (lengths c.lent)
  pub report-is : r ≡ report_of c.axes (coords_in_use said) (packed_in c said)
  -- everything that is written
  pub lent_is : (after c).lent ≡ written c.axes (coords_in_use said) (packed_in c said) c.lent

lent-done : (c : Lending) (s : Said) → outcome_of c ≡ fine s → late_no c.axes (coords_in_use s) (packed_in c s) (lengths c.lent) ≡ 0
    → (after c).lent ≡ written c.axes (coords_in_use s) (packed_in c s) c.lent
unfolding left_from buffers_left
lent-done c s e z = rw (e, eq-eqb (late_no c.axes (coords_in_use s) (packed_in c s) (lengths c.lent)) 0 z) refl

pub accepted : (c : Lending) (r : Report) → answer_of c ≡ Done r → Accepted c r
unfolding answer_of answer_from
accepted c r e = go (outcome_of c) refl e
  where
    go : (o : Outcome) → outcome_of c ≡ o → answer_from c.axes c.mode (lengths c.lent) o ≡ Done r → Accepted c r
    go (refused n i) f g = let z : ◌≡◌ {A = ℕ} 0 1 = cc in absurd (omega arith)
    go (fine s) f g =
        let w = fine-walk c.axes c.mode c.job (length c.work) (length c.pairs) s f in
        let d = late-done c.axes (coords_in_use s) (packed_in c s) (lengths c.lent) r g in
        record {
          said = s;
          said-is = f;
          entered = w.0;
          walked = w.1;
          none-late = d.0;
          room = roomy c.axes (coords_in_use s) (packed_in c s) (lengths c.lent) d.0;
          report-is = d.1;
          lent_is = lent-done c s f d.0;
        }

-- what its job says is of these sizes
pub accepted-sized : (c : Lending) (r : Report) (a : Accepted c r) → Bytes c.job → Sized c.axes (length a.said.used) (coords_in_use a.said) a.said.sets
accepted-sized c r a b =
    sized c.axes c.mode c.job (length c.job / record_bytes) a.said a.walked a.entered.some b a.entered.most a.entered.few

-- ---- and what is left in the buffers, one by one

-- each starting group has an origin
shared-origins : (n : ℕ) (all : List Set) → length (shared n all).origins ≡ (shared n all).groups
unfolding shared origins_of
shared-origins n all = length-tabulate 0 (length (groups_of n all)) (λ i. home_of i (sorted is_ahead (merged (groups_of n all)).living))

own-origins : (n : ℕ) (all : List Set) → length (own n all).origins ≡ (own n all).groups
unfolding own
own-origins n all = refl

origins-all : (mode : ℕ) (s : Said) → length (packed_of mode s).origins ≡ (packed_of mode s).groups
unfolding packed_of
origins-all mode s = go (which (eqb mode 0))
  where
    go : Which (eqb mode 0) → length (pick (eqb mode 0) (shared (length s.used) s.sets) (own (length s.used) s.sets)).origins
        ≡ (pick (eqb mode 0) (shared (length s.used) s.sets) (own (length s.used) s.sets)).groups
    go (holds e) = rw e (shared-origins (length s.used) s.sets)
    go (fails e) = rw e (own-origins (length s.used) s.sets)

module _ (c : Lending) (r : Report) (a : Accepted c r) where
  pub bytes-are : r.bytes ≡ length (store_in c a.said)
  unfolding report_of
  bytes-are = ap (λ (t : Report). t.bytes) a.report-is

  pub merges-are : r.merges ≡ length (packed_in c a.said).log
  unfolding report_of
  merges-are = ap (λ (t : Report). t.merges) a.report-is

  pub out-is : (after c).lent.out ≡ over c.lent.out 0 (length (store_in c a.said)) (store_in c a.said)
  unfolding written
  out-is = ap (λ (b : Buffers). b.out) a.lent_is

  pub ids-is : (after c).lent.ids ≡ over c.lent.ids 0 (length (packed_in c a.said).ids) (packed_in c a.said).ids
  unfolding written
  ids-is = ap (λ (b : Buffers). b.ids) a.lent_is

  pub map_is : (after c).lent.map ≡ stored (id_words 0 (all_runs (packed_in c a.said).finals)) c.lent.map
  unfolding written
  map_is = ap (λ (b : Buffers). b.map) a.lent_is

  pub log_is : (after c).lent.log ≡ over c.lent.log 0 (length (words (packed_in c a.said).log)) (words (packed_in c a.said).log)
  unfolding written
  log_is = ap (λ (b : Buffers). b.log) a.lent_is

  pub groups-are : r.groups ≡ (packed_in c a.said).groups
  unfolding report_of
  groups-are = ap (λ (t : Report). t.groups) a.report-is

  pub origins-is : (after c).lent.origins ≡ over c.lent.origins 0 (length (origin_words 0 (packed_in c a.said).origins)) (origin_words 0 (packed_in c a.said).origins)
  unfolding written
  origins-is = ap (λ (b : Buffers). b.origins) a.lent_is

  -- two words a starting group
  pub origins-long : 2 * r.groups ≡ length (origin_words 0 (packed_in c a.said).origins)
  origins-long =
      ap (λ (n : ℕ). 2 * n) (groups-are ∙ sym (origins-all c.mode a.said))
      ∙ sym (told-long 0 (packed_in c a.said).origins)

  -- the output begins with the store, the log with the merges, and origins with the starting groups
  pub store-front : take r.bytes (after c).lent.out ≡ store_in c a.said
  store-front = ap (take r.bytes) out-is ∙ take-over c.lent.out (store_in c a.said) r.bytes bytes-are

  pub log-front : take (3 * r.merges) (after c).lent.log ≡ words (packed_in c a.said).log
  log-front =
      ap (take (3 * r.merges)) log_is
      ∙ take-over c.lent.log (words (packed_in c a.said).log) (3 * r.merges) (omega (arith, merges-are, words-length (packed_in c a.said).log))

  pub origins-front : take (2 * r.groups) (after c).lent.origins ≡ origin_words 0 (packed_in c a.said).origins
  origins-front =
      ap (take (2 * r.groups)) origins-is
      ∙ take-over c.lent.origins (origin_words 0 (packed_in c a.said).origins) (2 * r.groups) origins-long

  pub id-at : (n : ℕ) → n < length (packed_in c a.said).ids → get_or (after c).lent.ids n 0 ≡ get_or (packed_in c a.said).ids n 0
  id-at n h = ap (λ (l : List ℕ). get_or l n 0) ids-is ∙ over-at c.lent.ids (packed_in c a.said).ids n h

-- ---- what mode 0 makes of the sets

pub shared-is : (s : Said) → packed_of 0 s ≡ shared (length s.used) s.sets
unfolding packed_of
shared-is s = refl

pub sets-are : (s : Said) → (packed_of 0 s).sets ≡ distinct s.sets
unfolding shared
sets-are s = ap (λ (k : Packed). k.sets) (shared-is s)

pub packed-is : (c : Lending) (s : Said) → c.mode ≡ 0 → packed_in c s ≡ packed_of 0 s
packed-is c s m = ap (λ (k : ℕ). packed_of k s) m
