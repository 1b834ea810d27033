-- A forecast tells what a build of the same job answers (specs/Foretold.antt). Assumes nothing.
use mathlib.Core.Path.{◌≡◌, refl, sym, ap, ap₂, ◌∙◌}
use mathlib.Core.List.{List}
use mathlib.Core.Logic.{⊎_elim}
use Prim.Native.Nat.{ℕ, ◌≤◌, ◌<◌}
use native.Mathlib.Omega.{arith}
use borrow.Author.Tests.{le-leb, lt-leb}
use Rattle.laws.proofs.Cases.{lt-or-ge}
use Rattle.pairs.specs.declared.Pair.{Pair}
use Rattle.limits.specs.Limits.{max_shapes}
use Rattle.said.specs.Refusals.{most_bytes, shapes_full, store_too_big}
use Rattle.said.specs.Job.{Said, Outcome, refused, fine, outcome}
use Rattle.said.proofs.SoundLaws.{Bytes}
use Rattle.finishing.specs.declared.answers.Report.{Report}
use Rattle.finishing.specs.Answers.{Refused, Done}
use Rattle.finishing.specs.Buffers.{Buffers, lengths}
use Rattle.finishing.specs.Late.{report_of, size_told, late_forecast}
use Rattle.call.specs.Lending.{Lending}
use Rattle.call.specs.Build.{coords_in_use, packed_of, outcome_of, answer_of}
use Rattle.call.specs.Foretold.{foretold_from, foretold}
use Rattle.call.proofs.AnswerLaws.{too_many}
use Rattle.accepted.proofs.Accepted as accepted
use Rattle.accepted.proofs.ForetoldLaws.{forecast-long}
use Rattle.refusing.specs.Counts.{end_records}
use Rattle.demands.specs.Rooms.{shape_count, store_bytes, OriginsFit, OutFit}
use Rattle.demands.specs.Foretold.{Exact, building, AsMuch, RoomFor, Foretold}
use Rattle.demands.proofs.OutcomeRows.{answer-refused, answer-late}
use Rattle.demands.proofs.LateRows.{ids-most, ends_of, store-too-big, is-done}

-- ---- who tells

module _ (c : Lending) where
  abbrev report : Said → Report
  report s = report_of c.axes (coords_in_use s) (packed_of c.mode s)

  records-tell : (n p : ℕ) → outcome_of c ≡ refused n p → foretold c ≡ Refused n p
  unfolding foretold foretold_from
  records-tell n p e = rw e

  shapes-tell : (s : Said) → outcome_of c ≡ fine s → max_shapes < shape_count c.mode s → foretold c ≡ Refused shapes_full 0
  unfolding foretold foretold_from late_forecast
  shapes-tell s e h = rw (e, lt-leb (shape_count c.mode s) max_shapes h)

  big-tells : (s : Said) → outcome_of c ≡ fine s → shape_count c.mode s ≤ max_shapes → most_bytes < store_bytes c.axes c.mode s → foretold c ≡ Refused store_too_big 0
  unfolding foretold foretold_from late_forecast size_told report_of
  big-tells s e h b = rw (e, le-leb (shape_count c.mode s) max_shapes h, lt-leb (store_bytes c.axes c.mode s) most_bytes b)

  sets-tell : (s : Said) → outcome_of c ≡ fine s → shape_count c.mode s ≤ max_shapes → store_bytes c.axes c.mode s ≤ most_bytes
      → foretold c ≡ Done (report_of c.axes (coords_in_use s) (packed_of c.mode s))
  unfolding foretold foretold_from late_forecast size_told report_of
  sets-tell s e h b = rw (e, le-leb (shape_count c.mode s) max_shapes h, le-leb (store_bytes c.axes c.mode s) most_bytes b)

  pub data Tells : Type 0 where
    by-records : (n p : ℕ) → outcome_of c ≡ refused n p → foretold c ≡ Refused n p → Tells
    by-shapes : (s : Said) → outcome_of c ≡ fine s → max_shapes < shape_count c.mode s → foretold c ≡ Refused shapes_full 0 → Tells
    by_size : (s : Said) → outcome_of c ≡ fine s → shape_count c.mode s ≤ max_shapes → most_bytes < store_bytes c.axes c.mode s → foretold c ≡ Refused store_too_big 0 → Tells
    by-sets : (s : Said) → outcome_of c ≡ fine s → shape_count c.mode s ≤ max_shapes → store_bytes c.axes c.mode s ≤ most_bytes → foretold c ≡ Done (report_of c.axes (coords_in_use s) (packed_of c.mode s)) → Tells

  pub tells : Tells
  tells = go (outcome_of c) refl
    where
      go : (o : Outcome) → outcome_of c ≡ o → Tells
      go (refused n p) e = by-records n p e (records-tell n p e)
      go (fine s) e = ⊎_elim
          (λ (h : max_shapes < shape_count c.mode s). by-shapes s e h (shapes-tell s e h))
          (λ (h : shape_count c.mode s ≤ max_shapes). ⊎_elim
          (λ (b : most_bytes < store_bytes c.axes c.mode s). by_size s e h b (big-tells s e h b))
          (λ (b : store_bytes c.axes c.mode s ≤ most_bytes). by-sets s e h b (sets-tell s e h b))
          (lt-or-ge most_bytes (store_bytes c.axes c.mode s)))
          (lt-or-ge max_shapes (shape_count c.mode s))

  -- ---- the same job, built

  module _ (work : List ℕ) (pairs : List Pair) (lent : Buffers) (m : AsMuch c work pairs) where
    abbrev d : Lending
    d = building c work pairs lent

    said-alike : outcome_of (building c work pairs lent) ≡ outcome_of c
    said-alike = ap₂ (outcome c.axes c.mode c.job) m.work-long m.pairs-long

    builds : (r : Report) → foretold c ≡ Done r → RoomFor c.job r.ids r.groups r.bytes lent → answer_of (building c work pairs lent) ≡ Done r
    unfolding report_of
    builds r e room = go tells
      where
        go : Tells → answer_of (building c work pairs lent) ≡ Done r
        go (by-records n p f g) = let q : Refused n p ≡ Done r = sym g ∙ e in let z : ◌≡◌ {A = ℕ} 0 1 = cc in absurd (omega arith)
        go (by-shapes s f h g) = let q : Refused shapes_full 0 ≡ Done r = sym g ∙ e in let z : ◌≡◌ {A = ℕ} 0 1 = cc in absurd (omega arith)
        go (by_size s f h b g) = let q : Refused store_too_big 0 ≡ Done r = sym g ∙ e in let z : ◌≡◌ {A = ℕ} 0 1 = cc in absurd (omega arith)
        go (by-sets s f h b g) =
            let q : Done (report s) ≡ Done r = sym g ∙ e in
            let x : report s ≡ r = cc in
            let ids = ap (λ (t : Report). t.ids) x in
            let groups = ap (λ (t : Report). t.groups) x in
            let bytes = ap (λ (t : Report). t.bytes) x in
            let fits : OutFit d s = record {
              bytes_fit = record {
                origins-fit = record {
                  log-fit = record {
                    map-fit = record { ids-fit = record { shapes-fit = record { shapes-few = h }; ids-room = room.ids-room }; map-room = omega (arith, room.map-room) };
                    log-room = omega (arith, room.log-room);
                  };
                  origins-room = omega (arith, room.origins-room);
                };
                bytes-few = b;
              };
              out-room = omega (arith, room.out-room);
            } in
            (is-done d r).given (record { said = s; sound = said-alike ∙ f; holds = (fits, sym x) })

    refuses : (n p : ℕ) → (n ≡ store_too_big → ⊥) → foretold c ≡ Refused n p → answer_of (building c work pairs lent) ≡ Refused n p
    refuses n p other e = go tells
      where
        go : Tells → answer_of (building c work pairs lent) ≡ Refused n p
        go (by-records a b f g) = answer-refused d a b (said-alike ∙ f) ∙ sym g ∙ e
        go (by-shapes s f h g) =
            answer-late d s shapes_full (said-alike ∙ f) (too_many c.axes (coords_in_use s) (packed_of c.mode s) (lengths lent) h) (omega arith) ∙ sym g ∙ e
        go (by_size s f h b g) = let q : Refused store_too_big 0 ≡ Refused n p = sym g ∙ e in let z : n ≡ store_too_big = cc in absurd (other z)
        go (by-sets s f h b g) = let q : Done (report s) ≡ Refused n p = sym g ∙ e in let z : ◌≡◌ {A = ℕ} 0 1 = cc in absurd (omega arith)

    too-big : (p : ℕ) → foretold c ≡ Refused store_too_big p → RoomFor c.job (end_records c.job) max_shapes 0 lent → answer_of (building c work pairs lent) ≡ Refused store_too_big p
    too-big p e room = go tells
      where
        go : Tells → answer_of (building c work pairs lent) ≡ Refused store_too_big p
        go (by-records a b f g) = answer-refused d a b (said-alike ∙ f) ∙ sym g ∙ e
        go (by-shapes s f h g) = let q : Refused shapes_full 0 ≡ Refused store_too_big p = sym g ∙ e in let z : ◌≡◌ {A = ℕ} shapes_full store_too_big = cc in absurd (omega arith)
        go (by_size s f h b g) =
            let q : Refused store_too_big 0 ≡ Refused store_too_big p = sym g ∙ e in
            let z : p ≡ 0 = cc in
            let ids = ids-most c.mode s in
            let ends = ends_of c s f in
            let fits : OriginsFit d s = record {
              log-fit = record {
                map-fit = record { ids-fit = record { shapes-fit = record { shapes-few = h }; ids-room = room.ids-room }; map-room = omega (arith, room.map-room) };
                log-room = omega (arith, room.log-room);
              };
              origins-room = omega (arith, room.origins-room);
            } in
            (store-too-big d p).given (z, record { said = s; sound = said-alike ∙ f; holds = (fits, b) })
        go (by-sets s f h b g) = let q : Done (report s) ≡ Refused store_too_big p = sym g ∙ e in let z : ◌≡◌ {A = ℕ} 0 1 = cc in absurd (omega arith)

    foreseen : (r : Report) → answer_of (building c work pairs lent) ≡ Done r → foretold c ≡ Done r
    foreseen r e =
        let t = (is-done d r).only e in
        let b = t.holds.0.bytes_fit in
        sets-tell t.said (sym said-alike ∙ t.sound) b.origins-fit.log-fit.map-fit.ids-fit.shapes-fit.shapes-few b.bytes-few ∙ ap Done (sym t.holds.1)

  -- THE LAW
  pub foretold-law : Foretold c
  foretold-law = record {
    builds = λ r e work pairs lent m room. builds work pairs lent m r e room;
    refuses = λ n p o e work pairs lent m. refuses work pairs lent m n p o e;
    too-big = λ p e work pairs lent m room. too-big work pairs lent m p e room;
    foreseen = λ r work pairs lent m e. foreseen work pairs lent m r e;
  }

-- ---- the forecast is the length of the store

exact-of : (c : Lending) (r : Report) (s : Said) → outcome_of c ≡ fine s → Bytes c.job → r ≡ report_of c.axes (coords_in_use s) (packed_of c.mode s) → Exact c r
unfolding report_of
exact-of c r s f b e = record {
  said = s;
  said-is = f;
  bytes-are = ap (λ (t : Report). t.bytes) e;
  forecast-is = ap (λ (t : Report). t.forecast) e ∙ forecast-long c s f b;
}

-- THE LAW, of a done build
pub exact-built : (c : Lending) (r : Report) → Bytes c.job → answer_of c ≡ Done r → Exact c r
exact-built c r b e = let a = accepted.accepted c r e in exact-of c r a.said a.said-is b a.report-is

-- and of a forecast
pub exact-foretold : (c : Lending) (r : Report) → Bytes c.job → foretold c ≡ Done r → Exact c r
exact-foretold c r b e = go (tells c)
  where
    go : Tells c → Exact c r
    go (by-records n p f g) = let q : Refused n p ≡ Done r = sym g ∙ e in let z : ◌≡◌ {A = ℕ} 0 1 = cc in absurd (omega arith)
    go (by-shapes s f h g) = let q : Refused shapes_full 0 ≡ Done r = sym g ∙ e in let z : ◌≡◌ {A = ℕ} 0 1 = cc in absurd (omega arith)
    go (by_size s f h y g) = let q : Refused store_too_big 0 ≡ Done r = sym g ∙ e in let z : ◌≡◌ {A = ℕ} 0 1 = cc in absurd (omega arith)
    go (by-sets s f h y g) = let q : Done (report c s) ≡ Done r = sym g ∙ e in let x : report c s ≡ r = cc in exact-of c r s f b (sym x)
