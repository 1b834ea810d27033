-- Whatever a done build writes gets a yes, in both modes, where each set's word is the map's word of its id. Assumes nothing.
use mathlib.Core.Path.{◌≡◌, refl, sym, ap, subst, ◌∙◌}
use mathlib.Core.Bool.{true}
use mathlib.Core.List.{List, [], ◌∷◌}
use mathlib.Core.Logic.{⊎_elim}
use mathlib.Core.Option.{none, some}
use Prim.Native.Nat.{ℕ, suc, ◌+◌, ◌*◌, ◌/◌, ◌%◌, ◌≤◌, ◌<◌}
use native.Mathlib.Nat.{mul_comm}
use native.Mathlib.Omega.{arith}
use lib.Dec.{eqb}
use lib.IntN.{pos}
use lib.ListN.{length, get_or, take, drop, length-map}
use borrow.Author.Tests.{lt-ltb}
use Rattle.laws.specs.Pick.{pick}
use Rattle.laws.specs.LentRange.{seg}
use Rattle.laws.specs.Signed.{value, zero_word}
use Rattle.laws.proofs.Cases.{lt-or-ge, same_or_not, Which, which}
use Rattle.laws.proofs.Cases.Which.{holds, fails}
use Rattle.laws.proofs.EveryLaws.{all-get_or}
use Rattle.laws.proofs.ListLaws.{get_or-map-in}
use Rattle.limits.specs.Limits.{max_shapes, pair_records}
use Rattle.sets.specs.Set.{Set, word_of, Proper}
use Rattle.groups.specs.Groups.{groups_of}
use Rattle.reader.specs.Store.{read_store, value_of, list_at}
use Rattle.stores.specs.Stores.{Parsed, parse}
use Rattle.stores.specs.Dropping.{row_count}
use Rattle.stores.specs.Coordinates.{place_in, is_row_there, wanted, Distinct}
use Rattle.stores.proofs.ByCoordinates.{place_at, place_found, picked-distinct}
use Rattle.stores.proofs.Reading.{Listing, list-parsed}
use Rattle.store.specs.Placing.{all_runs, id_words, names, new_index, slot_of, made_of, stored}
use Rattle.readback.proofs.MapBack.{empty, map_at, words-apart}
use Rattle.readback.proofs.Parsing.{regions-are}
use Rattle.readback.proofs.StoreBack.{run_sound}
use Rattle.said.specs.Records.{record_count, record_bytes}
use Rattle.said.specs.Work.{regions_at_head}
use Rattle.said.specs.LentOpen.{Open}
use Rattle.said.specs.Job.{Said, fine}
use Rattle.said.proofs.SoundLaws.{Bytes}
use Rattle.encoder.specs.Packed.{Packed, shared, own}
use Rattle.finishing.specs.declared.answers.Report.{Report}
use Rattle.finishing.specs.Answers.{Done}
use Rattle.said.specs.Refusals.{most_bytes}
use Rattle.finishing.specs.Late.{store_for}
use Rattle.call.specs.Lending.{Lending}
use Rattle.call.specs.Build.{coords_in_use, packed_of, answer_of, after}
use Rattle.accepted.proofs.RunSound.{Spot, id-spot, ids-once}
use Rattle.accepted.proofs.ShortLaws.{Storable, fit}
use Rattle.accepted.proofs.ReadBack.{Sized, GivesBack, IdOf, shared-storable, own-storable, shared_back, own_back}
use Rattle.accepted.proofs.Accepted.{Accepted, accepted, accepted-sized, coords-long, coords-once, map_is, id-at, bytes-are, store-front}
use Rattle.accepted.proofs.PastLaws.{ids-long}
use Rattle.accepted.proofs.WholeBack.{made_in, made-axes, store-parsed}
use Rattle.demands.specs.SetsRead.{listed}
use Rattle.demands.specs.Demand2.{SetBack, Demand2}
use Rattle.demands.proofs.Demand2.{demand2}
use Rattle.judging.specs.Answers.{Right}
use Rattle.judging.specs.Judge.{named_in, judge_work, judge_of}
use Rattle.judging.specs.Yes.{RowRight, Sound}
use Rattle.judging.proofs.WorkLaws.{judge-passed}
use Rattle.judging.proofs.Verdicts.{right-if}
use Rattle.own_right.proofs.ModeLaws.{in-mode-zero}
use Rattle.own_right.proofs.NamedLaws.{zero_is, wanted-lost, wanted-at}

-- ---- what is packed, in both modes

shared-groups : (n : ℕ) (all : List Set) → (shared n all).groups ≤ max_shapes → length (groups_of n all) ≤ max_shapes
unfolding shared
shared-groups n all h = h

module _ (axes mode : ℕ) (s : Said) (z : Sized axes (length s.used) (coords_in_use s) s.sets) (h : (packed_of mode s).groups ≤ max_shapes) where
  storable : Storable axes (length s.used) (coords_in_use s) (packed_of mode s)
  unfolding packed_of
  storable = go (which (eqb mode 0)) h
    where
      go : Which (eqb mode 0) → (pick (eqb mode 0) (shared (length s.used) s.sets) (own (length s.used) s.sets)).groups ≤ 1024
          → Storable axes (length s.used) (coords_in_use s) (pick (eqb mode 0) (shared (length s.used) s.sets) (own (length s.used) s.sets))
      go (holds e) h = rw e (shared-storable axes (length s.used) (coords_in_use s) s.sets z (shared-groups (length s.used) s.sets (rw e at h)))
      go (fails e) h = rw e (own-storable axes (length s.used) (coords_in_use s) s.sets z)

  gives_back : length (store_for axes (coords_in_use s) (packed_of mode s)) ≤ most_bytes → GivesBack axes (length s.used) (coords_in_use s) s.sets (packed_of mode s)
  unfolding packed_of
  gives_back short = go (which (eqb mode 0)) h short
    where
      go : Which (eqb mode 0) → (pick (eqb mode 0) (shared (length s.used) s.sets) (own (length s.used) s.sets)).groups ≤ 1024
          → length (store_for axes (coords_in_use s) (pick (eqb mode 0) (shared (length s.used) s.sets) (own (length s.used) s.sets))) ≤ most_bytes
          → GivesBack axes (length s.used) (coords_in_use s) s.sets (pick (eqb mode 0) (shared (length s.used) s.sets) (own (length s.used) s.sets))
      go (holds e) h b = rw e (shared_back axes (length s.used) (coords_in_use s) s.sets z (shared-groups (length s.used) s.sets (rw e at h)) (rw e at b))
      go (fails e) h b = rw e (own_back axes (length s.used) (coords_in_use s) s.sets z (rw e at b))

slot-rows : (number : ℕ → ℕ) (set : ℕ → Set) (sh : List ℕ) (ids : List ℕ) → row_count (slot_of number set sh ids) ≡ length ids
unfolding slot_of row_count
slot-rows number set sh [] = refl
slot-rows number set sh (x ∷ xs) = ap suc (length-map xs (λ y. Rattle.rows.specs.Row.row_of sh (set y)))

-- ---- a done build

module _ (c : Lending) (r : Report) (bytes : Bytes c.job) (done : answer_of c ≡ Done r) where
  a : Accepted c r
  a = accepted c r done

  abbrev s : Said
  s = (accepted c r done).said

  abbrev k : Packed
  k = packed_of c.mode (accepted c r done).said

  abbrev store : List ℕ
  store = take r.bytes (after c).lent.out

  abbrev p : Parsed
  p = made_in c r (accepted c r done)

  abbrev coords : List (List ℕ)
  coords = coords_in_use (accepted c r done).said

  size : Sized c.axes (length s.used) (coords_in_use s) s.sets
  size = accepted-sized c r (accepted c r done) bytes

  parsed : parse store ≡ some p
  parsed = store-parsed c r (accepted c r done) bytes

  once : (x y : ℕ) → x < length coords → y < length coords → get_or coords x [] ≡ get_or coords y [] → x ≡ y
  once =
      let b = accepted c r done in
      coords-once c.axes c.mode c.job (length c.job / record_bytes) b.said b.walked b.entered.some bytes

  coords-distinct : Distinct (coords_in_use (accepted c r done).said)
  coords-distinct = record { apart = once }

  distinct : Distinct (made_in c r (accepted c r done)).regions
  distinct =
      rw (regions-are c.axes (coords_in_use s) (λ x. get_or k.sets x []) k.finals)
      (picked-distinct (λ x. names x k.finals) (coords_in_use s) coords-distinct)

  -- D2, by the same said
  two : Demand2 c r
  two = demand2 c r bytes done

  same-said : two.said ≡ s
  same-said = let e : fine two.said ≡ fine s = sym two.said-is ∙ (accepted c r done).said-is in cc

  back : (n : ℕ) → n < length s.sets
      → SetBack c.axes (coords_in_use s) (get_or s.sets n []) store (get_or (after c).lent.map (get_or (after c).lent.ids n 0) 0)
  back n h =
      subst (λ (x : Said). SetBack c.axes (coords_in_use x) (get_or x.sets n []) store (get_or (after c).lent.map (get_or (after c).lent.ids n 0) 0))
      same-said (two.sets-back n (rw same-said h))

  list : Listing store p
  list = list-parsed store p parsed

  region-at : (q : ℕ) → q < length p.regions → get_or p.regions q [] ≡ listed c.axes store q
  unfolding seg
  region-at q h =
      let e = made-axes c r (accepted c r done) in
      let z : q * (6 * c.axes) ≡ 6 * c.axes * q = mul_comm q (6 * c.axes) in
      sym (list.region q h)
      ∙ ap (λ (x : ℕ). take (6 * x) (drop (list_at store + 4 + q * (6 * x)) store)) e
      ∙ ap (λ (x : ℕ). take (6 * c.axes) (drop (list_at store + 4 + x) store)) z

  module _ (n : ℕ) (h : n < length s.sets) where
    abbrev set : Set
    set = get_or s.sets n []

    abbrev word : ℕ
    word = get_or (after c).lent.map (get_or (after c).lent.ids n 0) 0

    b : SetBack c.axes (coords_in_use s) (get_or s.sets n []) store (get_or (after c).lent.map (get_or (after c).lent.ids n 0) 0)
    b = back n h

    proper : Proper (length (coords_in_use s)) (get_or s.sets n [])
    proper = rw (coords-long s) (all-get_or (Proper (length s.used)) s.sets n [] size.proper h)

    -- the set wants its word of a region in use
    wants : (u : ℕ) → u < length (coords_in_use s) → wanted (named_in s (get_or s.sets n [])) (get_or (coords_in_use s) u []) ≡ value (word_of (get_or s.sets n []) u)
    wants u l = wanted-at s (length (coords_in_use s)) u l (λ v m f. once v u m l f) (get_or s.sets n []) proper

    reads : (q : ℕ) → q < length p.regions
        → value_of (read_store store b.outer b.inner q) ≡ wanted (named_in s (get_or s.sets n [])) (get_or p.regions q [])
    reads q l =
        let x = b.regions q (omega (arith, list.count)) in
        x.gives_back ∙ sym (ap (wanted (named_in s (get_or s.sets n []))) (region-at q l ∙ x.coordinates) ∙ wants x.region x.below)

    absent-at : (u : ℕ) → u < length (coords_in_use s)
        → ((q : ℕ) → q < length p.regions → get_or p.regions q [] ≡ get_or (coords_in_use s) u [] → ⊥) → word_of (get_or s.sets n []) u ≡ zero_word
    absent-at u l d = ⊎_elim
        (λ (z : word_of (get_or s.sets n []) u ≡ zero_word). z)
        (λ f.
        let x = b.in_list u l f in
        let m : x.index < length p.regions = omega (arith, x.below, list.count) in
        absurd (d x.index m (region-at x.index m ∙ x.coordinates)))
        (same_or_not (word_of (get_or s.sets n []) u) zero_word)

    absent : (d : List ℕ) → ((q : ℕ) → q < length p.regions → get_or p.regions q [] ≡ d → ⊥) → wanted (named_in s (get_or s.sets n [])) d ≡ pos 0
    absent d f = ⊎_elim
        (λ (l : place_in (coords_in_use s) d < length (coords_in_use s)).
        let u = place_in (coords_in_use s) d in
        let e = place_at (coords_in_use s) d l in
        ap (wanted (named_in s (get_or s.sets n []))) (sym e)
        ∙ wants u l
        ∙ ap value (absent-at u l (λ q m g. f q m (g ∙ e)))
        ∙ zero_is)
        (λ (l : length (coords_in_use s) ≤ place_in (coords_in_use s) d).
        wanted-lost s (length (coords_in_use s)) d (λ u m e. omega (arith, l, (place_found (coords_in_use s) d u m e).0)) (get_or s.sets n []) proper)
        (lt-or-ge (place_in (coords_in_use s) d) (length (coords_in_use s)))

    -- ---- the row is there

    few : (packed_of c.mode s).groups ≤ max_shapes
    few = (accepted c r done).room.shapes-few

    kept : Storable c.axes (length s.used) (coords_in_use s) k
    kept = storable c.axes c.mode s size few

    id : IdOf s.sets k n
    id = (gives_back c.axes c.mode s size few (accepted c r done).room.bytes-few).ids n h

    spot : Spot (all_runs k.finals) (get_or k.ids n 0)
    spot = id-spot (length s.used) k kept.good (get_or k.ids n 0) id.below

    abbrev set_of : ℕ → Set
    set_of y = get_or k.sets y []

    inner-low : spot.inner < 65536
    inner-low =
        let f = fit c.axes (length s.used) (coords_in_use s) k kept in
        let m = run_sound c.axes (coords_in_use s) set_of k.finals f spot.outer spot.outer_below spot.inner spot.inner_below in
        omega (arith, spot.inner_below, m.items)

    word-here : get_or (after c).lent.map (get_or (after c).lent.ids n 0) 0 ≡ spot.outer * 65536 + spot.inner
    word-here =
        ap (λ (m : List ℕ). get_or m (get_or (after c).lent.ids n 0) 0) (map_is c r (accepted c r done))
        ∙ ap (λ (i : ℕ). get_or (stored (id_words 0 (all_runs k.finals)) c.lent.map) i 0) (id-at c r (accepted c r done) n (rw (ids-long c.mode s) h))
        ∙ subst (λ (y : ℕ). get_or (stored (id_words 0 (all_runs k.finals)) c.lent.map) y 0 ≡ spot.outer * 65536 + spot.inner) spot.is
        (map_at (all_runs k.finals) c.lent.map spot.outer spot.inner (ids-once (length s.used) k kept.good) spot.outer_below spot.inner_below
        (let l = id.below in omega (arith, spot.is, (accepted c r done).room.map-fits)))

    same_place : (b.outer ≡ spot.outer) × (b.inner ≡ spot.inner)
    same_place = words-apart b.outer b.inner spot.outer spot.inner b.inner_below inner-low (sym b.word-is ∙ word-here)

    spot-there : is_row_there p spot.outer spot.inner ≡ true
    unfolding is_row_there made_of
    spot-there =
        let run = get_or (all_runs k.finals) spot.outer empty in
        let e = get_or-map-in (λ r. slot_of (new_index k.finals) set_of r.shape r.ids) (all_runs k.finals) spot.outer empty none spot.outer_below in
        rw (e, slot-rows (new_index k.finals) set_of run.shape run.ids) (lt-ltb spot.inner (length run.ids) spot.inner_below)

    there : is_row_there p b.outer b.inner ≡ true
    there = rw (same_place.0, same_place.1) spot-there

    row-right : (w : ℕ) → w ≡ get_or (after c).lent.map (get_or (after c).lent.ids n 0) 0 → RowRight store p s w n
    row-right w e =
        let l = b.inner_below in
        let x : w ≡ b.outer * 65536 + b.inner = e ∙ b.word-is in
        let o : w / 65536 ≡ b.outer = omega arith in
        let i : w % 65536 ≡ b.inner = omega arith in
        record { there = (rw (o, i) there); reads = λ q m. rw (o, i) (reads q m); absent = absent }

  -- ---- THE LAW

  -- the words of work do, and each set's word is the map's word of its id
  pub record Asked (words : List ℕ) (work : ℕ) : Type 0 where
    pub enough : judge_work (record_count c.job) (regions_at_head c.axes c.job) r.bytes ≤ work
    pub word-of : (n : ℕ) → n < length s.sets → n < length words
    pub word-is : (n : ℕ) → n < length s.sets → get_or words n 0 ≡ get_or (after c).lent.map (get_or (after c).lent.ids n 0) 0

  module _ (words : List ℕ) (work : ℕ) (q : Asked words work) where
    store_long : length (take r.bytes (after c).lent.out) ≡ r.bytes
    store_long = ap length (store-front c r (accepted c r done)) ∙ sym (bytes-are c r (accepted c r done))

    entered : Open c.axes 0 c.job work pair_records
    entered =
        let o = (accepted c r done).entered in
        record {
          some = o.some;
          most = o.most;
          mode-known = omega arith;
          few = o.few;
          whole = o.whole;
          enough = omega (arith, q.enough);
          paired = omega arith;
        }

    sound : Sound c.axes c.job store work s p
    sound = record {
      passed = sym (judge-passed c.axes c.job (length store) work entered (rw store_long q.enough));
      said-is = in-mode-zero c.axes c.mode c.job (record_count c.job) s (accepted c r done).entered.mode-known (accepted c r done).walked;
      parsed = parsed;
      axes-are = made-axes c r (accepted c r done);
      distinct = distinct;
    }

    pub own-right : judge_of c.axes c.job (take r.bytes (after c).lent.out) words work ≡ Right
    own-right =
        right-if c.axes c.job store words work s p sound
        (λ n h. record { word-there = q.word-of n h; row = row-right n h (get_or words n 0) (q.word-is n h) })
