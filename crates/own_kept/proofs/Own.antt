-- What a done build wrote, kept with a list that has every row, is the same bytes, in mode 0 always and in mode 1 where there is a set. Assumes nothing.
use mathlib.Core.Path.{◌≡◌, sym, ap, subst, ◌∙◌}
use mathlib.Core.Bool.{true}
use mathlib.Core.List.{List, []}
use mathlib.Core.Option.{some}
use Prim.Native.Nat.{ℕ, ◌+◌, ◌/◌, ◌%◌, ◌≤◌, ◌<◌}
use native.Mathlib.Omega.{arith}
use lib.Dec.{eqb}
use lib.ListN.{length, get_or, take, drop}
use borrow.Author.Tests.{lt-ltb, eqb-false}
use Rattle.laws.specs.Pick.{pick}
use Rattle.laws.specs.Every.{All}
use Rattle.laws.proofs.BytesLaws.{take-over}
use Rattle.laws.proofs.Cases.{Which, which}
use Rattle.laws.proofs.Cases.Which.{holds, fails}
use Rattle.laws.proofs.UpLaws.{up-long}
use Rattle.limits.specs.Limits.{max_shapes}
use Rattle.sets.specs.Set.{Set}
use Rattle.groups.specs.Groups.{groups_of}
use Rattle.stores.specs.Stores.{Parsed, parse, place}
use Rattle.stores.specs.Dropping.{used, has, row_count, AllRows}
use Rattle.stores.specs.Coordinates.{is_row_there}
use Rattle.stores.proofs.Again.{Packed, packed-again}
use Rattle.stores.proofs.Words.{again-place}
use Rattle.cutting.proofs.NameLaws.{has-at}
use Rattle.store.specs.Placing.{Final, store_of}
use Rattle.said.specs.Job.{Said}
use Rattle.said.proofs.SoundLaws.{Bytes}
use Rattle.encoder.specs.Packed.{shared, own}
use Rattle.finishing.specs.declared.answers.Report.{Report}
use Rattle.finishing.specs.Answers as built
use Rattle.finishing.specs.Late.{store_for}
use Rattle.call.specs.Lending.{Lending}
use Rattle.call.specs.Build.{coords_in_use, packed_of, answer_of, after}
use Rattle.sizes.proofs.Counted.{sizes}
use Rattle.accepted.proofs.ShortLaws.{Storable, fit}
use Rattle.accepted.proofs.ReadBack.{Sized, shared-storable, own-storable}
use Rattle.accepted.proofs.Accepted.{accepted, accepted-sized, store-front}
use Rattle.accepted.proofs.WholeBack.{made_in, store-parsed}
use Rattle.keeping.specs.Answers.{Done}
use Rattle.keeping.specs.Keeping.{kept_bytes, keep_of, out_left, places_left}
use Rattle.keeping.proofs.ThereLaws.{there-at}
use Rattle.keeping.proofs.Told.{done-told}
use Rattle.kept_rows.proofs.RowLaws.{row_in}
use Rattle.kept_rows.proofs.Rows.{place_at}
use Rattle.own_kept.specs.OwnKept.{NoNull, EveryRow, KeptWhole}
use Rattle.own_kept.proofs.MadeLaws.{made-packed}

-- ---- what is packed, in both modes

shared-groups : (n : ℕ) (all : List Set) → (shared n all).groups ≤ max_shapes → length (groups_of n all) ≤ max_shapes
unfolding shared
shared-groups n all h = h

own-filled : (n : ℕ) (all : List Set) → 0 < length all → All (λ (g : Final). 0 < length g.ids) (own n all).finals
unfolding own
own-filled n all h = (rw (up-long (length all)) h, tt)

module _ (axes mode : ℕ) (s : Said) (z : Sized axes (length s.used) (coords_in_use s) s.sets) (h : (packed_of mode s).groups ≤ max_shapes) (some-set : NoNull mode (length s.sets)) where
  storable : Storable axes (length s.used) (coords_in_use s) (packed_of mode s)
  unfolding packed_of
  storable = go (which (eqb mode 0)) h
    where
      go : Which (eqb mode 0) → (pick (eqb mode 0) (shared (length s.used) s.sets) (own (length s.used) s.sets)).groups ≤ 1024
          → Storable axes (length s.used) (coords_in_use s) (pick (eqb mode 0) (shared (length s.used) s.sets) (own (length s.used) s.sets))
      go (holds e) h = rw e (shared-storable axes (length s.used) (coords_in_use s) s.sets z (shared-groups (length s.used) s.sets (rw e at h)))
      go (fails e) h = rw e (own-storable axes (length s.used) (coords_in_use s) s.sets z)

  filled : All (λ (g : Final). 0 < length g.ids) (packed_of mode s).finals
  unfolding packed_of
  filled = go (which (eqb mode 0))
    where
      go : Which (eqb mode 0) → All (λ (g : Final). 0 < length g.ids) (pick (eqb mode 0) (shared (length s.used) s.sets) (own (length s.used) s.sets)).finals
      go (holds e) = rw e (sizes (length s.used) s.sets).finals-some
      go (fails e) = rw e (own-filled (length s.used) s.sets (omega (arith, some-set (eqb-false mode 0 e))))

-- ---- a done build

module _ (c : Lending) (r : Report) (bytes : Bytes c.job) (done : answer_of c ≡ built.Done r) (some-set : NoNull c.mode (length (accepted c r done).said.sets)) where
  abbrev s : Said
  s = (accepted c r done).said

  abbrev store : List ℕ
  store = take r.bytes (after c).lent.out

  abbrev p : Parsed
  p = made_in c r (accepted c r done)

  parsed : parse (take r.bytes (after c).lent.out) ≡ some (made_in c r (accepted c r done))
  parsed = store-parsed c r (accepted c r done) bytes

  packed : Packed (made_in c r (accepted c r done))
  packed =
      let k = packed_of c.mode s in
      let a = accepted c r done in
      let f = storable c.axes c.mode s (accepted-sized c r a bytes) a.room.shapes-few some-set in
      made-packed c.axes (coords_in_use s) (λ x. get_or k.sets x []) k.finals (fit c.axes (length s.used) (coords_in_use s) k f)
      f.good.widths (filled c.axes c.mode s (accepted-sized c r a bytes) a.room.shapes-few some-set)

  placed : place (made_in c r (accepted c r done)) ≡ take r.bytes (after c).lent.out
  unfolding store_for store_of
  placed = sym (store-front c r (accepted c r done))

  module _ (rows : List ℕ) (every : EveryRow (take r.bytes (after c).lent.out) rows) where
    all-rows : AllRows p (used rows)
    unfolding is_row_there row_count
    all-rows = record {
      every = λ o i t e h.
          let there : is_row_there p o i ≡ true = rw e (lt-ltb i (length t.rows) h) in
          let a = every.has-row p parsed o i there in
          subst (λ (x : ℕ). has rows x ≡ true) a.2 (has-at rows a.0 a.1);
    }

    same_bytes : kept_bytes p rows ≡ store
    same_bytes = ap place (packed-again p (used rows) packed all-rows) ∙ placed

    -- THE THEOREM
    pub kept_whole : (out places : List ℕ) (work b t q k : ℕ) → keep_of (take r.bytes (after c).lent.out) rows work (length out) (length places) ≡ Done b t q k
        → KeptWhole (take r.bytes (after c).lent.out) rows (out_left (parse (take r.bytes (after c).lent.out)) rows (Done b t q k) out)
        (places_left (parse (take r.bytes (after c).lent.out)) rows (Done b t q k) places)
    unfolding out_left places_left
    kept_whole out places work b t q k h =
        let d = done-told store rows work (length out) (length places) b t q k h in
        let e : some d.store ≡ some p = sym d.parsed ∙ parsed in
        let f : d.store ≡ p = cc in
        let there = rw f at d.there in
        rw parsed record {
          bytes_same = take-over out (kept_bytes p rows) (length store) (ap length (sym same_bytes)) ∙ same_bytes;
          places_same = λ j l.
              let x = row_in p (get_or rows j 0 / 65536) (get_or rows j 0 % 65536) (there-at p rows there j l) in
              place_at p rows (drop (0 + length rows) places) j l
              ∙ again-place p (used rows) packed all-rows (get_or rows j 0) x.table x.is x.below x.outer_below;
        }
