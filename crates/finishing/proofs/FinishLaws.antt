-- From packed sets in work to the answer of the definition: what writing asks for is there, what it leaves is what is to be left, and the tests of
-- what is lent are the definition's. Assumes nothing.
use mathlib.Core.Path.{◌≡◌, refl, sym, ap, ap₂, subst, ◌∙◌}
use mathlib.Core.Bool.{true, false}
use mathlib.Core.List.{List, [], ◌∷◌, map}
use Prim.Native.Nat.{ℕ, zero, suc, ◌+◌, ◌-◌, ◌*◌, ◌≤◌, ◌<◌}
use native.Mathlib.Omega.{arith}
use lib.Dec.{eqb, leb}
use lib.ListN.{length, get_or, length-map}
use borrow.Author.Tests.{le-leb, eq-eqb, ne_eqb}
use Rattle.laws.specs.Bytes.{over}
use Rattle.laws.specs.Every.{All}
use Rattle.laws.specs.Bounded.{tabulate, up_to}
use Rattle.laws.specs.LentRange.{seg}
use Rattle.laws.proofs.EveryLaws.{all, all_map}
use Rattle.laws.proofs.BoundedLaws.{length-tabulate}
use Rattle.laws.proofs.RangeLaws.{length-seg}
use Rattle.laws.proofs.SortLaws.{keep_same}
use Rattle.groups.specs.Groups.{max_shapes}
use Rattle.rule.specs.Told.{words}
use Rattle.rule.proofs.Theorems.{words-length}
use Rattle.store.specs.Placing.{Final, all_runs, id_words, names, kept_of, store_of, forecast_of, stored}
use Rattle.rows.specs.Lent.{set_at}
use Rattle.store.specs.Lent.{Drafted, Planned, Ready, coords_at, coords_in, final_at, finals_at, marked_in, sizes_at}
use Rattle.store.proofs.PlacedLaws.{coords-length, planned, draft-exact, tables-count}
use Rattle.store.proofs.ForecastLaws.{Short, forecast-exact}
use Rattle.said.specs.Refusals.{first_failed, most_bytes, shapes_full, ids_short, map_short, log_short, origins_short, store_too_big, out_short}
use Rattle.encoder.specs.declared.places.Places.{Places}
use Rattle.encoder.specs.declared.encoded.Encoded.{Encoded}
use Rattle.encoder.specs.Packed.{Packed}
use Rattle.encoder.specs.Lent.{relabel, origins_in, PackedAt}
use Rattle.finishing.specs.declared.answers.Report.{Report}
use Rattle.finishing.specs.declared.measuring.Packing.{Packing}
use Rattle.finishing.specs.Answers.{Refused, Done}
use Rattle.finishing.specs.Buffers.{Buffers, Lengths, lengths}
use Rattle.finishing.specs.Late.{store_for, regions_kept, origin_words, late_no, report_of, late_answer, written, buffers_left}
use Rattle.finishing.specs.Lent.{FinishFit, Finished, MeasuredAs, RoomFor, WordsFit, WordsWritten, report_in, short_no, store_in}
use Rattle.finishing.proofs.LoopLaws.{told-long, room_for}
use Rattle.finishing.proofs.WordsLaws.{groups-to, handed, small}
use Rattle.finishing.proofs.StoreLaws.{set_same, runs-count, kept-relabel, store-relabel}

all-tabulate : {A : Type 0} (P : A → Type 0) (a n : ℕ) (f : ℕ → A) → ((k : ℕ) → a ≤ k → k < a + n → P (f k)) → All P (tabulate a n f)
unfolding tabulate
all-tabulate P a zero f h = tt
all-tabulate P a (suc n) f h = (h a (omega arith) (omega arith), all-tabulate P (suc a) n f (λ k p q. h k (omega arith) (omega arith)))

-- with so few groups, the first test of the definition holds
late-same : (sets distinct groups bytes out ids map log origins : ℕ) → groups ≤ max_shapes
    → short_no sets distinct groups bytes out ids map log origins
    ≡ first_failed ((leb groups max_shapes, shapes_full) ∷ (leb sets ids, ids_short) ∷ (leb distinct map, map_short) ∷ (leb (3 * (groups - 1)) log, log_short) ∷ (leb (2 * groups) origins, origins_short) ∷ (leb bytes most_bytes, store_too_big) ∷ (leb bytes out, out_short) ∷ [])
unfolding short_no first_failed
late-same sets distinct groups bytes out ids map log origins h = rw (le-leb groups max_shapes h)

-- ---- what is measured

pub report-made : (e : Encoded) (bytes runs kept : ℕ)
    → record { bytes = bytes; subtables = runs; regions = kept; ids = e.distinct; groups = e.groups; merges = e.merges; weighed = e.weighed; before = e.before; after = e.after; forecast = bytes }
    ≡ report_in e bytes runs kept
unfolding report_in
report-made e bytes runs kept = refl

pub measured-as : (k : Packing) (w marks numbers : List ℕ) (bytes runs kept : ℕ) (r : Report) → r ≡ report_in k.encoded bytes runs kept
    → Drafted k.axes w k.places.regions k.places.finals k.encoded.count marks numbers bytes runs kept → MeasuredAs k w marks numbers r
unfolding report_in
measured-as k w marks numbers bytes runs kept r e d = subst (λ (x : Report). MeasuredAs k w marks numbers x) (sym e) (record { drafted = d; report-is = refl })

-- ---- what writing asks for

pub words-fit : {axes starts : ℕ} {job : List ℕ} {p : Places} {e : Encoded} {w : List ℕ} → FinishFit axes starts job p e w → WordsFit p e w
words-fit f = record { packed-as = f.packed-as; packed = f.packed; merges-few = f.merges-few; ids-below = f.ids-below }

module _ {axes starts : ℕ} {job : List ℕ} {p : Places} {e : Encoded} {w : List ℕ} (fit : FinishFit axes starts job p e w) where
  pub ready : Ready job axes starts w p.regions p.finals e.count 0
  ready =
      let k = fit.packed in
      record {
        axes-most = fit.axes-few;
        regions-most = k.regions-few;
        groups-most = k.finals-few;
        rows = groups-to (words-fit fit);
        starting = omega (arith, fit.starts-to, k.rows-to);
        handed = handed (words-fit fit);
        small = small (words-fit fit);
        sourced = fit.sourced;
      }

  -- the log is as long as the merges need it
  pub log-fits : {sets distinct bytes out ids map log origins : ℕ} → RoomFor sets distinct e.groups bytes out ids map log origins → 3 * e.merges ≤ log
  log-fits r = omega (arith, r.log-room, fit.merges-few)

  -- ---- what was drafted

  module _ {marks numbers : List ℕ} {bytes runs kept : ℕ} (d : Drafted axes w p.regions p.finals e.count marks numbers bytes runs kept) where
    pub bytes-are : bytes ≡ length (store_in axes starts job p e w)
    bytes-are = draft-exact job axes starts w p.regions p.finals e.count 0 marks numbers bytes runs kept ready d

    -- none of the tests fails: there is room for the store
    pub room : {code out ids map log origins : ℕ} → code ≡ short_no p.sets e.distinct e.groups bytes out ids map log origins → code ≡ 0
        → RoomFor p.sets e.distinct e.groups (length (store_in axes starts job p e w)) out ids map log origins
    room {code} {out} {ids} {map} {log} {origins} q z =
        rw bytes-are at (room_for p.sets e.distinct e.groups bytes out ids map log origins (sym q ∙ z))

    -- and its offsets fit 32 bits
    pub plan : {out ids map log origins : ℕ} → RoomFor p.sets e.distinct e.groups (length (store_in axes starts job p e w)) out ids map log origins
        → Planned axes w p.regions p.finals e.count marks numbers runs kept
    plan r = planned job axes starts w p.regions p.finals e.count 0 marks numbers bytes runs kept ready d (omega (arith, bytes-are, r.bytes-few))

    -- ---- the definition's words for it

    module _ (k : Packed) (at : PackedAt k p e w) where
      abbrev coords : List (List ℕ)
      coords = coords_in job axes w starts p.regions

      abbrev groups : List Final
      groups = finals_at p.regions p.finals e.count w

      abbrev id_of : ℕ → ℕ
      id_of x = get_or k.ids x 0

      groups-all : All (λ (g : Final). All (λ x. x < p.sets) g.ids) groups
      unfolding finals_at final_at
      groups-all = all-tabulate (λ (g : Final). All (λ x. x < p.sets) g.ids) 0 e.count (λ g. final_at p.regions w (p.finals + 3 * g)) (λ g l h. (at.finals-in g (omega arith)).numbers)

      pub store_is : store_in axes starts job p e w ≡ store_for axes coords k
      unfolding store_for
      store_is =
          store-relabel axes coords id_of (set_at 0 w) (λ x. get_or k.sets x []) p.sets groups groups-all (λ x h. set_same 0 x w ∙ sym (at.sets-are x h))
          ∙ ap (store_of axes coords (λ x. get_or k.sets x [])) at.finals-are

      pub ids-long : length k.ids ≡ p.sets
      ids-long = ap length (sym at.ids-are) ∙ length-seg p.ids p.sets w (omega (arith, at.ids-to, at.finals-to, at.rows-to))

      pub late_is : (l : Lengths) → short_no p.sets e.distinct e.groups bytes l.out l.ids l.map l.log l.origins ≡ late_no axes coords k l
      unfolding late_no
      late_is l =
          let b : bytes ≡ length (store_for axes coords k) = bytes-are ∙ ap length store_is in
          ap₂ (λ (m n : ℕ). short_no m n e.groups bytes l.out l.ids l.map l.log l.origins) (sym ids-long) at.distinct-is
          ∙ ap₂ (λ (m n : ℕ). short_no (length k.ids) (length k.sets) m n l.out l.ids l.map l.log l.origins) at.groups-is b
          ∙ late-same (length k.ids) (length k.sets) k.groups (length (store_for axes coords k)) l.out l.ids l.map l.log l.origins (omega (arith, at.groups-is, at.groups-few))

      shapes-few : (g : ℕ) → g < e.count → length (final_at p.regions w (p.finals + 3 * g)).shape < 32768
      unfolding final_at
      shapes-few g h =
          omega (arith, length-seg (get_or w (p.finals + 3 * g) 0) p.regions w (omega (arith, (at.finals-in g h).shape-to, at.rows-to)), at.regions-few)

      runs-are : runs ≡ length (all_runs k.finals)
      unfolding sizes_at finals_at
      runs-are =
          let f : ℕ → Final = (λ g. final_at p.regions w (p.finals + 3 * g)) in
          let number : ℕ → ℕ = (λ r. r) in
          d.runs-is
          ∙ sym (tables-count number (set_at 0 w) f e.count shapes-few)
          ∙ length-map (all_runs (tabulate 0 e.count f)) _
          ∙ sym (runs-count id_of (tabulate 0 e.count f))
          ∙ ap (λ (gs : List Final). length (all_runs gs)) at.finals-are

      kept-are : kept ≡ regions_kept coords k
      unfolding regions_kept coords_in
      kept-are =
          d.numbered.all
          ∙ ap length (keep_same (marked_in marks) (λ r. names r groups) (up_to p.regions) (all (λ r. d.marked.is r) (up_to p.regions)))
          ∙ ap length (sym (kept-relabel p.regions id_of groups))
          ∙ ap (λ (gs : List Final). length (kept_of p.regions gs)) at.finals-are
          ∙ ap (λ (n : ℕ). length (kept_of n k.finals)) (sym (length-tabulate 0 p.regions (λ r. coords_at job axes (get_or w (starts + r) 0))))

      -- coordinates and shapes of the groups are as long as the forecast asks
      coords-whole : All (λ (c : List ℕ). length c ≡ 6 * axes) coords
      unfolding coords_in
      coords-whole =
          all-tabulate (λ (c : List ℕ). length c ≡ 6 * axes) 0 p.regions (λ r. coords_at job axes (get_or w (starts + r) 0))
          (λ r l h. coords-length job axes (get_or w (starts + r) 0) (fit.sourced r (omega arith)))

      finals-short : All Short k.finals
      unfolding finals_at relabel
      finals-short =
          subst (λ (gs : List Final). All Short gs) at.finals-are
          (all_map Short (λ (g : Final). record { shape = g.shape; ids = map id_of g.ids }) groups
          (all-tabulate Short 0 e.count (λ g. final_at p.regions w (p.finals + 3 * g)) (λ g l h. shapes-few g (omega arith))))

      forecast-are : bytes ≡ forecast_of axes (regions_kept coords k) k.finals
      unfolding regions_kept store_for
      forecast-are =
          bytes-are
          ∙ ap length store_is
          ∙ sym (forecast-exact axes coords (λ x. get_or k.sets x []) k.finals coords-whole finals-short)

      -- ---- the answers

      pub report-is : report_in e bytes runs kept ≡ report_of axes coords k
      unfolding report_in report_of
      report-is =
          let b : bytes ≡ length (store_for axes coords k) = bytes-are ∙ ap length store_is in
          (λ i. record {
            bytes = b i;
            subtables = runs-are i;
            regions = kept-are i;
            ids = at.distinct-is i;
            groups = at.groups-is i;
            merges = at.merges-is i;
            weighed = at.weighed-is i;
            before = at.before-is i;
            after = at.after_is i;
            forecast = forecast-are i;
          })

      -- the first test of what is lent that fails
      abbrev short : Buffers → ℕ
      short b = short_no p.sets e.distinct e.groups bytes (length b.out) (length b.ids) (length b.map) (length b.log) (length b.origins)

      pub refused_as : (code : ℕ) (old : Buffers) → code ≡ short old → (code ≡ 0 → ⊥) → Finished axes coords k (Refused code 0) old old
      unfolding late_answer buffers_left
      refused_as code old q z =
          let n : code ≡ late_no axes coords k (lengths old) = q ∙ late_is (lengths old) in
          let t : eqb (late_no axes coords k (lengths old)) 0 ≡ false = rw (← n) (ne_eqb code 0 z) in
          record { answer = rw (t, n); left = rw t }

      -- two words a starting group
      origins-long : 2 * e.groups ≡ length (origin_words 0 k.origins)
      unfolding origins_in
      origins-long =
          sym (ap (λ (n : ℕ). 2 * n) (length-tabulate 0 e.groups (λ i. get_or w (p.homes + get_or w (p.order + i) 0) 0)))
          ∙ sym (told-long 0 (origins_in p e.groups w))
          ∙ ap (λ (l : List ℕ). length (origin_words 0 l)) at.origins-are

      pub done-as : (code : ℕ) (r : Report) (old new : Buffers) → code ≡ short old → code ≡ 0
          → new.out ≡ over old.out 0 (length (store_in axes starts job p e w)) (store_in axes starts job p e w) → r ≡ report_in e bytes runs kept
          → WordsWritten p e w old.ids old.map old.log old.origins new.ids new.map new.log new.origins
          → Finished axes coords k (Done r) old new
      unfolding late_answer buffers_left written
      done-as code r old new q z o m a =
          let t : eqb (late_no axes coords k (lengths old)) 0 ≡ true = eq-eqb (late_no axes coords k (lengths old)) 0 (sym (late_is (lengths old)) ∙ sym q ∙ z) in
          record { answer = rw t (ap Done (m ∙ report-is)); left = rw t (λ i. record { out = out-is i; ids = ids-is i; map = map_is i; log = log_is i; origins = origins-is i }) }
        where
          renamed : relabel (λ x. get_or (seg p.ids p.sets w) x 0) groups ≡ k.finals
          renamed = ap (λ (s : List ℕ). relabel (λ x. get_or s x 0) groups) at.ids-are ∙ at.finals-are

          log-long : 3 * e.merges ≡ length (words k.log)
          log-long = ap (λ (n : ℕ). 3 * n) at.merges-is ∙ sym (words-length k.log)

          out-is : new.out ≡ over old.out 0 (length (store_for axes coords k)) (store_for axes coords k)
          out-is = o ∙ ap (λ (s : List ℕ). over old.out 0 (length s) s) store_is

          ids-is : new.ids ≡ over old.ids 0 (length k.ids) k.ids
          ids-is = a.ids-is ∙ ap₂ (λ (n : ℕ) (s : List ℕ). over old.ids 0 n s) (sym ids-long) at.ids-are

          map_is : new.map ≡ stored (id_words 0 (all_runs k.finals)) old.map
          map_is = a.map_is ∙ ap (λ (gs : List Final). stored (id_words 0 (all_runs gs)) old.map) renamed

          log_is : new.log ≡ over old.log 0 (length (words k.log)) (words k.log)
          log_is = a.log_is ∙ ap₂ (λ (n : ℕ) (s : List ℕ). over old.log 0 n s) log-long at.log-are

          origins-is : new.origins ≡ over old.origins 0 (length (origin_words 0 k.origins)) (origin_words 0 k.origins)
          origins-is = a.origins-is ∙ ap₂ (λ (n : ℕ) (s : List ℕ). over old.origins 0 n s) origins-long (ap (origin_words 0) at.origins-are)
