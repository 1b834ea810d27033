-- The part of the store that a taken call of `ivs_show` shows is the id's row, and its bytes give the id's values back (specs/PartShown.antt). Assumes
-- nothing.
use mathlib.Core.Path.{◌≡◌, refl, sym, ap, ap₂, subst, ◌∙◌}
use mathlib.Core.Bool.{true}
use mathlib.Core.List.{List, [], ◌∷◌, map}
use mathlib.Core.Option.{Option, none, some}
use Prim.Native.Nat.{ℕ, suc, ◌+◌, ◌*◌, ◌/◌, ◌%◌, ◌<◌}
use native.Mathlib.Nat.{zero-add}
use native.Mathlib.Omega.{arith}
use lib.Dec.{eqb}
use lib.ListN.{length, get_or, take, drop, length-map}
use borrow.Author.Tests.{eq-eqb, ne_eqb, eqb-true, lt-leb}
use Rattle.laws.specs.Pick.{pick}
use Rattle.laws.specs.LentRange.{seg}
use Rattle.laws.specs.Bounded.{tabulate}
use Rattle.laws.proofs.Cases.{Which, which}
use Rattle.laws.proofs.Cases.Which.{holds, fails}
use Rattle.laws.proofs.BoundedLaws.{length-tabulate, get_or-tabulate}
use Rattle.laws.proofs.ListLaws.{get_or-map-in}
use Rattle.sets.specs.Set.{Set}
use Rattle.reader.specs.Store.{list_at, axis_count, region_count, is_subtable_ok, item_count, word_at, regions_at, find, read_store, value_of}
use Rattle.stores.specs.Stores.{Table, Parsed, parts, table_count, offset_at, rows_at, row_long, table_at, slot_at, store_at, parse, read_row, read_table, read_parsed}
use Rattle.stores.specs.Dropping.{row_count}
use Rattle.stores.proofs.PartLaws.{parts-long, parts_at}
use Rattle.stores.proofs.WholeLaws.{Slot, Whole, parse-is, parse-done}
use Rattle.stores.proofs.WholeLaws.Slot.{null, good}
use Rattle.stores.proofs.Reading.{read-parsed}
use Rattle.rows.specs.Row.{row_of}
use Rattle.shapes.specs.Group.{max_items}
use Rattle.store.specs.Placing.{Final, all_runs, new_index, slot_of, made_of}
use Rattle.readback.proofs.MapBack.{empty, words-apart}
use Rattle.said.specs.Records.{record_count}
use Rattle.said.proofs.SoundLaws.{Bytes}
use Rattle.encoder.specs.Packed.{Packed}
use Rattle.call.specs.Lending.{Lending, Left}
use Rattle.call.specs.Build.{coords_in_use, after}
use Rattle.told.specs.Told.{ends_before}
use Rattle.accepted.proofs.PackedLaws.{WellPacked}
use Rattle.accepted.proofs.RunSound.{ids-once}
use Rattle.accepted.proofs.Accepted.{Accepted, accepted, packed_in, map_is}
use Rattle.accepted.proofs.PastLaws.{count-ids}
use Rattle.accepted.proofs.WholeBack.{made_in, store-parsed}
use Rattle.demands.specs.SetsRead.{SetRead}
use Rattle.demands.proofs.BytesBack.{bytes_back}
use Rattle.finding.specs.First.{first_at}
use Rattle.reasons.specs.Why.{home_in}
use Rattle.why_told.specs.WhyTold.{home_of}
use Rattle.showing.specs.declared.ends.Span.{Span}
use Rattle.showing.specs.Answers.{Shown}
use Rattle.showing.specs.Parts.{no_span, span, row_in, row_span, in_store, asked_part}
use Rattle.showing.proofs.FoundLaws.{row_within}
use Rattle.reporting.specs.Answers.{filled}
use Rattle.why_words.specs.ShownWords.{span_words, shown_words}
use Rattle.ivs.specs.Asked.{ShowAnswered}
use Rattle.why_calls.specs.PartShown.{start_told, long_told, bytes_told, IsRow, value_shown, RowGives, RowShown}
use Rattle.why_calls.proofs.Taken.{Taken, shown-fine, said_in, packed-here, good-is}
use Rattle.why_calls.proofs.RunPlaces.{home-in, table_of, table_below, row_below, word-of}
use Rattle.why_calls.proofs.Reports.{filled-all}
use Rattle.why_calls.proofs.Ends.{first_of, span-long}

-- ---- a row of a store that is well formed

-- a subtable that has a row is not null, and is good
slot-there : (s : List ℕ) (at inner : ℕ) → Slot s at → inner < row_count (slot_at s at) → (at ≡ 0 → ⊥) × (is_subtable_ok s at (region_count s) ≡ true) × (inner < item_count s at)
unfolding slot_at row_count table_at
slot-there s at inner (null e) h = absurd (omega (arith, rw (eq-eqb at 0 e) at h))
slot-there s at inner (good d t) h = (d, t, rw (ne_eqb at 0 d, parts-long s (rows_at s at) (row_long s at) (item_count s at)) at h)

record Row (s : List ℕ) (outer inner : ℕ) : Type 0 where
  whole : Whole s
  outer-there : outer < table_count s
  not_null : offset_at s outer ≡ 0 → ⊥
  sound : is_subtable_ok s (offset_at s outer) (region_count s) ≡ true
  row-there : inner < item_count s (offset_at s outer)

module _ (s : List ℕ) (p : Parsed) (parsed : parse s ≡ some p) where
  abbrev whole_is : Whole s
  whole_is = (parse-is s p parsed).0

  tables-are : tabulate 0 (table_count s) (λ o. slot_at s (offset_at s o)) ≡ p.tables
  unfolding store_at
  tables-are = ap (λ (x : Parsed). x.tables) (parse-is s p parsed).1

  tables-many : table_count s ≡ length p.tables
  tables-many = sym (length-tabulate 0 (table_count s) (λ o. slot_at s (offset_at s o))) ∙ ap length tables-are

  slot_is : (o : ℕ) → o < length p.tables → slot_at s (offset_at s o) ≡ get_or p.tables o none
  slot_is o h =
      ap (λ (i : ℕ). slot_at s (offset_at s i)) (sym (zero-add o))
      ∙ sym (get_or-tabulate 0 (table_count s) (λ i. slot_at s (offset_at s i)) none o (omega (arith, tables-many)))
      ∙ ap (λ (l : List (Option Table)). get_or l o none) tables-are

  row-of : (o i : ℕ) → o < length p.tables → i < row_count (get_or p.tables o none) → Row s o i
  row-of o i h k =
      let b : o < table_count s = omega (arith, tables-many) in
      let t = slot-there s (offset_at s o) i (whole_is.slots o b) (subst (λ (x : Option Table). i < row_count x) (sym (slot_is o h)) k) in
      record { whole = whole_is; outer-there = b; not_null = t.0; sound = t.1; row-there = t.2 }

-- ---- what is shown of it, and read from what is shown

module _ (s : List ℕ) (o i : ℕ) (r : Row s o i) where
  abbrev at : ℕ
  at = offset_at s o

  abbrev begins : ℕ
  begins = rows_at s at + i * row_long s at

  shown-is : (word : ℕ) → word / 65536 ≡ o → word % 65536 ≡ i → row_span s word ≡ span (rows_at s (offset_at s o) + i * row_long s (offset_at s o)) (row_long s (offset_at s o))
  unfolding row_span row_in
  shown-is word e f =
      rw (e, f, r.whole.header, lt-leb (table_count s) o r.outer-there, ne_eqb at 0 r.not_null, r.sound, lt-leb (item_count s at) i r.row-there) refl

  -- the bytes are the row
  bytes-are : (long start : ℕ) → long ≡ (span (rows_at s (offset_at s o) + i * row_long s (offset_at s o)) (row_long s (offset_at s o))).long
      → start ≡ (span (rows_at s (offset_at s o) + i * row_long s (offset_at s o)) (row_long s (offset_at s o))).at
      → take long (drop start s) ≡ get_or (parts s (rows_at s (offset_at s o)) (row_long s (offset_at s o)) (item_count s (offset_at s o))) i []
  unfolding span seg
  bytes-are long start e f =
      rw (e, f, parts_at s (rows_at s at) (row_long s at) (item_count s at) i r.row-there) (go (which (eqb (row_long s at) 0)))
    where
      go : Which (eqb (row_long s at) 0)
          → take (pick (eqb (row_long s at) 0) no_span (record { at = begins; long = row_long s at })).long (drop (pick (eqb (row_long s at) 0) no_span (record { at = begins; long = row_long s at })).at s)
          ≡ take (row_long s at) (drop begins s)
      go (holds t) = rw (t, eqb-true (row_long s at) 0 t) refl
      go (fails t) = rw t refl

  long-is : (span (rows_at s (offset_at s o) + i * row_long s (offset_at s o)) (row_long s (offset_at s o))).long ≡ row_long s (offset_at s o)
  unfolding span
  long-is = go (which (eqb (row_long s at) 0))
    where
      go : Which (eqb (row_long s at) 0) → (pick (eqb (row_long s at) 0) no_span (record { at = begins; long = row_long s at })).long ≡ row_long s at
      go (holds t) = rw t (sym (eqb-true (row_long s at) 0 t))
      go (fails t) = rw t refl

  start_is : 0 < row_long s (offset_at s o) → (span (rows_at s (offset_at s o) + i * row_long s (offset_at s o)) (row_long s (offset_at s o))).at ≡ rows_at s (offset_at s o) + i * row_long s (offset_at s o)
  unfolding span
  start_is h = rw (ne_eqb (row_long s at) 0 (λ z. omega arith)) refl

  none-at : row_long s (offset_at s o) ≡ 0 → (span (rows_at s (offset_at s o) + i * row_long s (offset_at s o)) (row_long s (offset_at s o))).at ≡ 0
  unfolding span
  none-at z = rw (eq-eqb (row_long s at) 0 z) refl

  slot-here : get_or (tabulate 0 (table_count s) (λ k. slot_at s (offset_at s k))) o none ≡ some (table_at s (offset_at s o))
  unfolding slot_at
  slot-here =
      get_or-tabulate 0 (table_count s) (λ k. slot_at s (offset_at s k)) none o r.outer-there
      ∙ ap (λ (k : ℕ). slot_at s (offset_at s k)) (zero-add o)
      ∙ rw (ne_eqb at 0 r.not_null) refl

  -- a value of the store is one of the row
  reads : (q : ℕ) → q < region_count s
      → read_store s o i q ≡ read_row (word_at s (offset_at s o)) (get_or (parts s (rows_at s (offset_at s o)) (row_long s (offset_at s o)) (item_count s (offset_at s o))) i []) (find q 0 (regions_at s (offset_at s o)))
  unfolding read_parsed store_at read_table table_at
  reads q h =
      read-parsed s (store_at s) (parse-done s r.whole) o i q
      ∙ rw (
        slot-here,
        parts-long s (list_at s + 4) (6 * axis_count s) (region_count s),
        parts-long s (rows_at s at) (row_long s at) (item_count s at),
        lt-leb (item_count s at) i r.row-there,
        lt-leb (region_count s) q h,
      ) refl

-- ---- of a call

slot-rows : (number : ℕ → ℕ) (set : ℕ → Set) (sh ids : List ℕ) → row_count (slot_of number set sh ids) ≡ length ids
unfolding slot_of row_count
slot-rows number set sh [] = refl
slot-rows number set sh (x ∷ xs) = ap suc (length-map xs (λ y. row_of sh (set y)))

-- the run of an id's row is a subtable of what the groups are made as, and has that row
made_row : (axes : ℕ) (coords : List (List ℕ)) (set : ℕ → Set) (gs : List Final) (x : ℕ) → home_in x gs < length gs
    → (table_of gs x < length (made_of axes coords set gs).tables) × (first_at x (home_of gs x).ids % max_items < row_count (get_or (made_of axes coords set gs).tables (table_of gs x) none))
unfolding made_of
made_row axes coords set gs x h =
    let slot : Final → Option Table = λ (f : Final). slot_of (new_index gs) set f.shape f.ids in
    let b = table_below gs x h in
    let run = get_or (all_runs gs) (table_of gs x) empty in
    let e : row_count (get_or (map slot (all_runs gs)) (table_of gs x) none) ≡ length run.ids =
    ap row_count (get_or-map-in slot (all_runs gs) (table_of gs x) empty none b) ∙ slot-rows (new_index gs) set run.shape run.ids in
    (omega (arith, length-map (all_runs gs) slot), omega (arith, e, row_below gs x h))

module _ {c : Lending} {store : List ℕ} {id : ℕ} {l : Left} (t : Taken c store id id l) (m : c.mode ≡ 0) (bytes : Bytes c.job) (left : l ≡ after c) where
  abbrev a : Accepted c t.report
  a = accepted c t.report t.done

  abbrev k : Packed
  k = packed_in c (accepted c t.report t.done).said

  abbrev gs : List Final
  gs = (packed_in c (accepted c t.report t.done).said).finals

  abbrev outer : ℕ
  outer = table_of gs id

  abbrev inner : ℕ
  inner = first_at id (home_of gs id).ids % max_items

  store-here : store ≡ take t.report.bytes (after c).lent.out
  store-here = t.store_is ∙ ap (λ (x : Left). take t.report.bytes x.lent.out) left

  packed-good : WellPacked (length (said_in t m).used) (packed_in c (accepted c t.report t.done).said)
  packed-good = subst (λ (x : Packed). WellPacked (length (said_in t m).used) x) (sym (packed-here t m)) (good-is t m bytes)

  below : id < length (packed_in c (accepted c t.report t.done).said).sets
  below = omega (arith, count-ids c t.report a, t.first_below)

  home : home_in id (packed_in c (accepted c t.report t.done).said).finals < length (packed_in c (accepted c t.report t.done).said).finals
  home = home-in id gs (packed-good.each id below)

  word-is : get_or l.lent.map id 0 ≡ outer * 65536 + inner
  word-is =
      ap (λ (x : Left). get_or x.lent.map id 0) left
      ∙ ap (λ (x : List ℕ). get_or x id 0) (map_is c t.report a)
      ∙ word-of gs c.lent.map (ids-once (length (said_in t m).used) k packed-good) id home (omega (arith, below, a.room.map-fits))

  row : Row store outer inner
  row =
      let p = made_row c.axes (coords_in_use a.said) (λ x. get_or k.sets x []) gs id home in
      row-of store (made_in c t.report a) (ap parse store-here ∙ store-parsed c t.report a bytes) outer inner p.0 p.1

  module _ (report : List ℕ) (e : report ≡ span_words (row_span store (get_or l.lent.map id 0)).at (row_span store (get_or l.lent.map id 0)).long) where
    abbrev word : ℕ
    word = get_or l.lent.map id 0

    outer-word : get_or l.lent.map id 0 / 65536 ≡ outer
    outer-word = omega (arith, word-is)

    inner-word : get_or l.lent.map id 0 % 65536 ≡ inner
    inner-word = omega (arith, word-is)

    part-is : row_span store (get_or l.lent.map id 0) ≡ span (rows_at store (offset_at store outer) + inner * row_long store (offset_at store outer)) (row_long store (offset_at store outer))
    part-is = shown-is store outer inner row word outer-word inner-word

    start-told : start_told report ≡ (row_span store (get_or l.lent.map id 0)).at
    unfolding span_words
    start-told = ap start_told e

    long-told : long_told report ≡ (row_span store (get_or l.lent.map id 0)).long
    unfolding span_words
    long-told = ap long_told e

    long-here : long_told report ≡ row_long store (offset_at store outer)
    long-here = long-told ∙ ap (λ (x : Span). x.long) part-is ∙ long-is store outer inner row

    is_row : IsRow store outer inner (offset_at store outer) report
    is_row = record {
      header = row.whole.header;
      outer-there = row.outer-there;
      at-is = refl;
      not_null = row.not_null;
      sound = row.sound;
      row-there = row.row-there;
      long-is = long-here;
      start_is = λ h. start-told ∙ ap (λ (x : Span). x.at) part-is ∙ start_is store outer inner row (omega (arith, long-here));
      none-at = λ z. start-told ∙ ap (λ (x : Span). x.at) part-is ∙ none-at store outer inner row (sym long-here ∙ z);
      within = omega (arith, start-told, long-told, row_within store word);
    }

    bytes-here : bytes_told store report ≡ get_or (parts store (rows_at store (offset_at store outer)) (row_long store (offset_at store outer)) (item_count store (offset_at store outer))) inner []
    bytes-here =
        bytes-are store outer inner row (long_told report) (start_told report) (long-told ∙ ap (λ (x : Span). x.long) part-is) (start-told ∙ ap (λ (x : Span). x.at) part-is)

    value-here : (q : ℕ) → q < region_count store → value_shown store (offset_at store outer) (bytes_told store report) q ≡ value_of (read_store store outer inner q)
    value-here q h =
        ap (λ (x : List ℕ). value_shown store (offset_at store outer) x q) bytes-here
        ∙ ap value_of (sym (reads store outer inner row q h))

    set_gives : (n : ℕ) → SetRead c.axes c.job store n (get_or l.lent.map id 0) → RowGives c.axes c.job store (offset_at store outer) (bytes_told store report) n
    set_gives n s =
        let w = words-apart s.outer s.inner outer inner s.inner_below (omega arith) (sym s.word-is ∙ word-is) in
        let v : (q : ℕ) → q < region_count store → value_shown store (offset_at store outer) (bytes_told store report) q ≡ value_of (read_store store s.outer s.inner q) =
        λ q b. value-here q b ∙ sym (ap₂ (λ (x y : ℕ). value_of (read_store store x y q)) w.0 w.1) in
        record {
          given = λ i g q b d. v q b ∙ s.given i g q b d;
          in_list = s.in_list;
          unnamed = λ q b d. v q b ∙ s.unnamed q b d;
        }

    gives : (n : ℕ) → n < ends_before c.job (record_count c.job) → get_or l.lent.ids n 0 ≡ id
        → RowGives c.axes c.job store (offset_at store outer) (bytes_told store report) n
    gives n h f = set_gives n
        (subst (λ (x : ℕ). SetRead c.axes c.job store n x)
        (ap₂ (λ (x : Left) (i : ℕ). get_or x.lent.map i 0) (sym left) (ap (λ (x : Left). get_or x.lent.ids n 0) (sym left) ∙ f))
        (subst (λ (x : List ℕ). SetRead c.axes c.job x n (get_or (after c).lent.map (get_or (after c).lent.ids n 0) 0)) (sym store-here)
        ((bytes_back c t.report bytes t.done).sets-read n h)))

    row-shown : RowShown c store id l report
    row-shown = record {
      at = offset_at store outer;
      is_row = subst (λ (x : ℕ). IsRow store x (word % 65536) (offset_at store outer) report) (sym outer-word)
          (subst (λ (x : ℕ). IsRow store outer x (offset_at store outer) report) (sym inner-word) is_row);
      set = first_at id l.lent.ids;
      first_of = first_of t m (ap (λ (x : Left). x.lent.ids) left);
      gives = gives;
    }

asked-row : (job store ids words : List ℕ) (id what : ℕ) → (what ≡ 0 → ⊥) → asked_part job store ids words id what ≡ in_store (row_span store (get_or words id 0))
unfolding asked_part
asked-row job store ids words id what d = rw (ne_eqb what 0 d) refl

told-row : (job : List ℕ) (p : Span) → shown_words job (in_store p) ≡ span_words p.at p.long
unfolding shown_words
told-row job p = refl

-- THE LAW: a call of `ivs_show` in mode 0, with a report of sixteen words, that asks for the store's part and answers 0
pub show-row : (c : Lending) (store : List ℕ) (id what n : ℕ) (l : Left) (old report : List ℕ) → c.mode ≡ 0 → Bytes c.job → length old ≡ 16
    → ShowAnswered c store id what n l old report → n ≡ 0 → (what ≡ 0 → ⊥) → RowShown c store id l report
show-row c store id what n l old report m bytes long w z other =
    let f = shown-fine c store id what l w.answer w.obeys.answer (sym w.number_is ∙ z) in
    let p = row_span store (get_or l.lent.map id 0) in
    let e = f.1 ∙ asked-row c.job store l.lent.ids l.lent.map id what other in
    row-shown f.0 m bytes w.obeys.left report
    (w.report-is
    ∙ ap (λ (x : Shown). filled 0 (shown_words c.job x) old) e
    ∙ ap (λ (x : List ℕ). filled 0 x old) (told-row c.job p)
    ∙ filled-all (span_words p.at p.long) old (long ∙ sym (span-long p.at p.long)))
