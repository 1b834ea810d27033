-- Rows 10 to 14, 60 and 61 of the refusal table, each exactly where it says, at place 0, in the order T4; and done exactly where no row holds. Assumes nothing.
use mathlib.Core.Path.{◌≡◌, refl, sym, ap, ◌∙◌}
use mathlib.Core.Bool.{Bool}
use mathlib.Core.List.{[], ◌∷◌}
use mathlib.Core.Logic.{⊎_elim}
use Prim.Native.Nat.{ℕ, ◌-◌, ◌*◌, ◌≤◌, ◌<◌}
use native.Mathlib.Omega.{arith}
use lib.ListN.{length}
use lib.Dec.{leb}
use borrow.Author.Tests.{leb-true, leb-false, le-leb, lt-leb, eq-eqb, ne_eqb}
use Rattle.laws.proofs.Cases.{same_or_not}
use Rattle.sets.proofs.IdLaws.{distinct-most}
use Rattle.groups.specs.Groups.{groups_of}
use Rattle.said.specs.Refusals.{first_failed, most_bytes}
use Rattle.said.specs.Job.{Said, fine}
use Rattle.told.proofs.Bytes.{told}
use Rattle.encoder.specs.Packed.{Packed, shared, own}
use Rattle.finishing.specs.declared.answers.Report.{Report}
use Rattle.finishing.specs.Answers.{Refused, Done}
use Rattle.finishing.specs.Buffers.{Lengths, lengths}
use Rattle.finishing.specs.Late.{late_no, store_for, report_of}
use Rattle.call.specs.Lending.{Lending}
use Rattle.call.specs.Build.{coords_in_use, packed_of, outcome_of, answer_of}
use Rattle.accepted.proofs.PastLaws.{ids-long}
use Rattle.refusing.specs.Exactly.{Exactly}
use Rattle.refusing.specs.Counts.{end_records}
use Rattle.demands.specs.Rooms.{Taken, shape_count, distinct_ids, store_bytes, ShapesFit, IdsFit, MapFit, LogFit, OriginsFit, BytesFit, OutFit}
use Rattle.refusing.proofs.FailedLaws.{this-alone, Tests, this, failed, other, later, passed, none-failed}
use Rattle.demands.proofs.OutcomeRows.{LateNo, no-low, no-high, late, answer-late, answer-done, late-only, Answers, answers}
use Rattle.demands.proofs.OutcomeRows.Answers.{by-job, by-late, done}

-- ---- N, and the ids

pub shapes-are : (s : Said) → shape_count 0 s ≡ length (groups_of (length s.used) s.sets)
unfolding packed_of shared
shapes-are s = refl

pub shapes-none : (mode : ℕ) (s : Said) → (mode ≡ 0 → ⊥) → shape_count mode s ≡ 0
unfolding packed_of own
shapes-none mode s d = rw (ne_eqb mode 0 d, shape_count)

shapes-mode : (mode : ℕ) (s : Said) → 0 < shape_count mode s → mode ≡ 0
shapes-mode mode s h = ⊎_elim (λ (e : mode ≡ 0). e) (λ d. let n = shapes-none mode s d in absurd (omega arith)) (same_or_not mode 0)

-- there are no more ids than sets
pub ids-most : (mode : ℕ) (s : Said) → distinct_ids mode s ≤ length s.sets
unfolding packed_of shared own
ids-most mode s = ⊎_elim
    (λ (e : mode ≡ 0). rw (eq-eqb mode 0 e) (distinct-most s.sets))
    (λ d. rw (ne_eqb mode 0 d) (omega arith))
    (same_or_not mode 0)

-- ---- the seven tests

module _ (c : Lending) (s : Said) (ends : length s.sets ≡ end_records c.job) where
  abbrev axes : ℕ
  axes = c.axes

  abbrev mode : ℕ
  mode = c.mode

  abbrev l : Lengths
  l = lengths c.lent

  abbrev k : Packed
  k = packed_of mode s

  -- an id for each end record
  ids-are : length k.ids ≡ end_records c.job
  ids-are = ids-long mode s ∙ ends

  abbrev out_ok : Bool
  out_ok = leb (length (store_for axes (coords_in_use s) k)) l.out

  abbrev bytes_ok : Bool
  bytes_ok = leb (length (store_for axes (coords_in_use s) k)) most_bytes

  abbrev log_ok : Bool
  log_ok = leb (3 * (k.groups - 1)) l.log

  abbrev origins_ok : Bool
  origins_ok = leb (2 * k.groups) l.origins

  abbrev map_ok : Bool
  map_ok = leb (length k.sets) l.map

  abbrev ids_ok : Bool
  ids_ok = leb (length k.ids) l.ids

  abbrev shapes_ok : Bool
  shapes_ok = leb k.groups 1024

  abbrev at14 : Tests
  at14 = (out_ok, 14) ∷ []

  abbrev at60 : Tests
  at60 = (bytes_ok, 60) ∷ at14

  abbrev at61 : Tests
  at61 = (origins_ok, 61) ∷ at60

  abbrev at13 : Tests
  at13 = (log_ok, 13) ∷ at61

  abbrev at12 : Tests
  at12 = (map_ok, 12) ∷ at13

  abbrev at11 : Tests
  at11 = (ids_ok, 11) ∷ at12

  late_is : late c s ≡ first_failed ((shapes_ok, 10) ∷ at11)
  unfolding late_no
  late_is = refl

  module _ (n : ℕ) (e : late c s ≡ n) where
    past10 : (10 ≡ n → ⊥) → ShapesFit mode s × (first_failed at11 ≡ n)
    past10 d =
        let f = sym late_is ∙ e in
        (record { shapes-few = leb-true k.groups 1024 (other 10 at11 n shapes_ok d f) }, later 10 at11 n shapes_ok d f)

    past11 : (10 ≡ n → ⊥) → (11 ≡ n → ⊥) → IdsFit c s × (first_failed at12 ≡ n)
    past11 d d' =
        let a = past10 d in
        let r = leb-true (length k.ids) l.ids (other 11 at12 n ids_ok d' a.1) in
        (record { shapes-fit = a.0; ids-room = omega (arith, ids-are) }, later 11 at12 n ids_ok d' a.1)

    past12 : (10 ≡ n → ⊥) → (11 ≡ n → ⊥) → (12 ≡ n → ⊥) → MapFit c s × (first_failed at13 ≡ n)
    past12 d d' d'' =
        let a = past11 d d' in
        (record { ids-fit = a.0; map-room = leb-true (length k.sets) l.map (other 12 at13 n map_ok d'' a.1) }, later 12 at13 n map_ok d'' a.1)

    past13 : (10 ≡ n → ⊥) → (11 ≡ n → ⊥) → (12 ≡ n → ⊥) → (13 ≡ n → ⊥) → LogFit c s × (first_failed at61 ≡ n)
    past13 d d' d'' d''' =
        let a = past12 d d' d'' in
        (record { map-fit = a.0; log-room = leb-true (3 * (k.groups - 1)) l.log (other 13 at61 n log_ok d''' a.1) }, later 13 at61 n log_ok d''' a.1)

    past61 : (10 ≡ n → ⊥) → (11 ≡ n → ⊥) → (12 ≡ n → ⊥) → (13 ≡ n → ⊥) → (61 ≡ n → ⊥) → OriginsFit c s × (first_failed at60 ≡ n)
    past61 d d' d'' d''' f =
        let a = past13 d d' d'' d''' in
        (record { log-fit = a.0; origins-room = leb-true (2 * k.groups) l.origins (other 61 at60 n origins_ok f a.1) }, later 61 at60 n origins_ok f a.1)

    past60 : (10 ≡ n → ⊥) → (11 ≡ n → ⊥) → (12 ≡ n → ⊥) → (13 ≡ n → ⊥) → (61 ≡ n → ⊥) → (60 ≡ n → ⊥) → BytesFit c s × (first_failed at14 ≡ n)
    past60 d d' d'' d''' f g =
        let a = past61 d d' d'' d''' f in
        (record { origins-fit = a.0; bytes-few = omega (arith, leb-true (length (store_for axes (coords_in_use s) k)) most_bytes (other 60 at14 n bytes_ok g a.1)) }, later 60 at14 n bytes_ok g a.1)

  to10 : (n : ℕ) → ShapesFit mode s → first_failed at11 ≡ n → late c s ≡ n
  to10 n a e = late_is ∙ passed 10 at11 n shapes_ok (le-leb k.groups 1024 a.shapes-few) e

  to11 : (n : ℕ) → IdsFit c s → first_failed at12 ≡ n → late c s ≡ n
  to11 n a e =
      let r = a.ids-room in
      to10 n a.shapes-fit (passed 11 at12 n ids_ok (le-leb (length k.ids) l.ids (omega (arith, ids-are))) e)

  to12 : (n : ℕ) → MapFit c s → first_failed at13 ≡ n → late c s ≡ n
  to12 n a e = to11 n a.ids-fit (passed 12 at13 n map_ok (le-leb (length k.sets) l.map a.map-room) e)

  to13 : (n : ℕ) → LogFit c s → first_failed at61 ≡ n → late c s ≡ n
  to13 n a e = to12 n a.map-fit (passed 13 at61 n log_ok (le-leb (3 * (k.groups - 1)) l.log a.log-room) e)

  to61 : (n : ℕ) → OriginsFit c s → first_failed at60 ≡ n → late c s ≡ n
  to61 n a e = to13 n a.log-fit (passed 61 at60 n origins_ok (le-leb (2 * k.groups) l.origins a.origins-room) e)

  to60 : (n : ℕ) → BytesFit c s → first_failed at14 ≡ n → late c s ≡ n
  to60 n a e = to61 n a.origins-fit (passed 60 at14 n bytes_ok (le-leb (length (store_for axes (coords_in_use s) k)) most_bytes (omega (arith, a.bytes-few))) e)

  late-shapes : Exactly (late c s ≡ 10) ((mode ≡ 0) × (1024 < shape_count mode s))
  late-shapes = record {
    given = λ b. late_is ∙ failed 10 at11 shapes_ok (lt-leb k.groups 1024 b.1);
    only = λ e.
        let h = leb-false k.groups 1024 (this 10 at11 shapes_ok (omega arith) (omega arith, (omega arith, (omega arith, (omega arith, (omega arith, (omega arith, tt)))))) (sym late_is ∙ e)) in
        (shapes-mode mode s (omega arith), h);
  }

  late-ids : Exactly (late c s ≡ 11) (ShapesFit mode s × (l.ids < end_records c.job))
  late-ids = record {
    given = λ b.
        let h = b.1 in
        to10 11 b.0 (failed 11 at12 ids_ok (lt-leb (length k.ids) l.ids (omega (arith, ids-are))));
    only = λ e.
        let a = past10 11 e (λ z. omega arith) in
        let h = leb-false (length k.ids) l.ids (this 11 at12 ids_ok (omega arith) (omega arith, (omega arith, (omega arith, (omega arith, (omega arith, tt))))) a.1) in
        (a.0, omega (arith, ids-are));
  }

  late-map : Exactly (late c s ≡ 12) (IdsFit c s × (l.map < distinct_ids mode s))
  late-map = record {
    given = λ b. to11 12 b.0 (failed 12 at13 map_ok (lt-leb (length k.sets) l.map b.1));
    only = λ e.
        let a = past11 12 e (λ z. omega arith) (λ z. omega arith) in
        (a.0, leb-false (length k.sets) l.map (this 12 at13 map_ok (omega arith) (omega arith, (omega arith, (omega arith, (omega arith, tt)))) a.1));
  }

  late-log : Exactly (late c s ≡ 13) (MapFit c s × (mode ≡ 0) × (1 ≤ shape_count mode s) × (l.log < 3 * (shape_count mode s - 1)))
  late-log = record {
    given = λ b. to12 13 b.0 (failed 13 at61 log_ok (lt-leb (3 * (k.groups - 1)) l.log b.3));
    only = λ e.
        let a = past12 13 e (λ z. omega arith) (λ z. omega arith) (λ z. omega arith) in
        let h = leb-false (3 * (k.groups - 1)) l.log (this 13 at61 log_ok (omega arith) (omega arith, (omega arith, (omega arith, tt))) a.1) in
        let some : 1 ≤ shape_count mode s = omega arith in
        (a.0, shapes-mode mode s (omega arith), some, h);
  }

  late-origins : Exactly (late c s ≡ 61) (LogFit c s × (mode ≡ 0) × (l.origins < 2 * shape_count mode s))
  late-origins = record {
    given = λ b. to13 61 b.0 (failed 61 at60 origins_ok (lt-leb (2 * k.groups) l.origins b.2));
    only = λ e.
        let a = past13 61 e (λ z. omega arith) (λ z. omega arith) (λ z. omega arith) (λ z. omega arith) in
        let h = leb-false (2 * k.groups) l.origins (this-alone 61 at60 origins_ok (omega arith) ((λ z. omega arith), ((λ z. omega arith), tt)) a.1) in
        (a.0, shapes-mode mode s (omega arith), h);
  }

  late-big : Exactly (late c s ≡ 60) (OriginsFit c s × (most_bytes < store_bytes axes mode s))
  late-big = record {
    given = λ b. to61 60 b.0 (failed 60 at14 bytes_ok (lt-leb (length (store_for axes (coords_in_use s) k)) most_bytes b.1));
    only = λ e.
        let a = past61 60 e (λ z. omega arith) (λ z. omega arith) (λ z. omega arith) (λ z. omega arith) (λ z. omega arith) in
        (a.0, leb-false (length (store_for axes (coords_in_use s) k)) most_bytes (this-alone 60 at14 bytes_ok (omega arith) ((λ z. omega arith), tt) a.1));
  }

  late-out : Exactly (late c s ≡ 14) (BytesFit c s × (l.out < store_bytes axes mode s))
  late-out = record {
    given = λ b. to60 14 b.0 (failed 14 [] out_ok (lt-leb (length (store_for axes (coords_in_use s) k)) l.out b.1));
    only = λ e.
        let a = past60 14 e (λ z. omega arith) (λ z. omega arith) (λ z. omega arith) (λ z. omega arith) (λ z. omega arith) (λ z. omega arith) in
        (a.0, leb-false (length (store_for axes (coords_in_use s) k)) l.out (this 14 [] out_ok (omega arith) tt a.1));
  }

  late-none : Exactly (late c s ≡ 0) (OutFit c s)
  late-none = record {
    given = λ b. to60 0 b.bytes_fit (passed 14 [] 0 out_ok (le-leb (length (store_for axes (coords_in_use s) k)) l.out b.out-room) none-failed);
    only = λ e.
        let a = past60 0 e (λ z. omega arith) (λ z. omega arith) (λ z. omega arith) (λ z. omega arith) (λ z. omega arith) (λ z. omega arith) in
        record { bytes_fit = a.0; out-room = leb-true (length (store_for axes (coords_in_use s) k)) l.out (other 14 [] 0 out_ok (λ z. omega arith) a.1) };
  }

-- ---- the rows

-- a set for each end record
pub ends_of : (c : Lending) (s : Said) → outcome_of c ≡ fine s → length s.sets ≡ end_records c.job
ends_of c s e = (told c.axes c.mode c.job (length c.work) (length c.pairs) s e).sets-are

module _ (c : Lending) where
  module _ (p : ℕ) where
    row : (n : ℕ) (Why : Said → Type 0) → LateNo n → ((s : Said) → length s.sets ≡ end_records c.job → Exactly (late c s ≡ n) (Why s))
        → Exactly (answer_of c ≡ Refused n p) ((p ≡ 0) × Taken c Why)
    row n Why ok x = record {
      given = λ b. rw b.0 (answer-late c b.1.said n b.1.sound ((x b.1.said (ends_of c b.1.said b.1.sound)).given b.1.holds) (omega (arith, ok.some)));
      only = λ e.
          let a = late-only c n p ok e in
          (a.0, record { said = a.1; sound = a.2; holds = (x a.1 (ends_of c a.1 a.2)).only a.3 });
    }

    -- R10 SHAPES_FULL
    pub shapes-full : Exactly (answer_of c ≡ Refused 10 p) ((p ≡ 0) × Taken c (λ s. (c.mode ≡ 0) × (1024 < shape_count c.mode s)))
    shapes-full = row 10 (λ s. (c.mode ≡ 0) × (1024 < shape_count c.mode s)) (no-low (omega arith) (omega arith)) (late-shapes c)

    -- R11 IDS_SHORT
    pub ids-short : Exactly (answer_of c ≡ Refused 11 p) ((p ≡ 0) × Taken c (λ s. ShapesFit c.mode s × (length c.lent.ids < end_records c.job)))
    ids-short = row 11 (λ s. ShapesFit c.mode s × (length c.lent.ids < end_records c.job)) (no-low (omega arith) (omega arith)) (late-ids c)

    -- R12 MAP_SHORT
    pub map-short : Exactly (answer_of c ≡ Refused 12 p) ((p ≡ 0) × Taken c (λ s. IdsFit c s × (length c.lent.map < distinct_ids c.mode s)))
    map-short = row 12 (λ s. IdsFit c s × (length c.lent.map < distinct_ids c.mode s)) (no-low (omega arith) (omega arith)) (late-map c)

    -- R13 LOG_SHORT
    pub log-short : Exactly (answer_of c ≡ Refused 13 p)
        ((p ≡ 0) × Taken c (λ s. MapFit c s × (c.mode ≡ 0) × (1 ≤ shape_count c.mode s) × (length c.lent.log < 3 * (shape_count c.mode s - 1))))
    log-short = row 13 (λ s. MapFit c s × (c.mode ≡ 0) × (1 ≤ shape_count c.mode s) × (length c.lent.log < 3 * (shape_count c.mode s - 1))) (no-low (omega arith) (omega arith)) (late-log c)

    -- R61 ORIGINS_SHORT
    pub origins-short : Exactly (answer_of c ≡ Refused 61 p) ((p ≡ 0) × Taken c (λ s. LogFit c s × (c.mode ≡ 0) × (length c.lent.origins < 2 * shape_count c.mode s)))
    origins-short = row 61 (λ s. LogFit c s × (c.mode ≡ 0) × (length c.lent.origins < 2 * shape_count c.mode s)) (no-high (omega arith) (omega arith)) (late-origins c)

    -- R60 STORE_TOO_BIG
    pub store-too-big : Exactly (answer_of c ≡ Refused 60 p) ((p ≡ 0) × Taken c (λ s. OriginsFit c s × (most_bytes < store_bytes c.axes c.mode s)))
    store-too-big = row 60 (λ s. OriginsFit c s × (most_bytes < store_bytes c.axes c.mode s)) (no-high (omega arith) (omega arith)) (late-big c)

    -- R14 OUT_SHORT
    pub out-short : Exactly (answer_of c ≡ Refused 14 p) ((p ≡ 0) × Taken c (λ s. BytesFit c s × (length c.lent.out < store_bytes c.axes c.mode s)))
    out-short = row 14 (λ s. BytesFit c s × (length c.lent.out < store_bytes c.axes c.mode s)) (no-low (omega arith) (omega arith)) (late-out c)

  -- done: the job is sound, and none of 10 to 14, 60 and 61 is given
  pub is-done : (r : Report) → Exactly (answer_of c ≡ Done r)
      (Taken c (λ s. OutFit c s × (r ≡ report_of c.axes (coords_in_use s) (packed_of c.mode s))))
  is-done r = record {
    given = λ b. answer-done c b.said b.sound ((late-none c b.said (ends_of c b.said b.sound)).given b.holds.0) ∙ ap Done (sym b.holds.1);
    only = λ e. go e (answers c);
  }
    where
      go : answer_of c ≡ Done r → Answers c
          → Taken c (λ s. OutFit c s × (r ≡ report_of c.axes (coords_in_use s) (packed_of c.mode s)))
      go e (by-job n p f g b) = let z : ◌≡◌ {A = ℕ} 0 1 = cc in absurd (omega arith)
      go e (by-late s f b g) = let z : ◌≡◌ {A = ℕ} 0 1 = cc in absurd (omega arith)
      go e (done s f b g) =
          let z : r ≡ report_of c.axes (coords_in_use s) (packed_of c.mode s) = cc in
          record { said = s; sound = f; holds = ((late-none c s (ends_of c s f)).only b, z) }
