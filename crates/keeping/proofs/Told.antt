-- A done call: what it says, that doing it again with all rows of the result changes no byte, and that new places keep the order of the old ones.
-- Assumes nothing.
use mathlib.Core.Path.{◌≡◌, refl, sym, ap}
use mathlib.Core.Bool.{Bool, true, false, ◌||◌}
use mathlib.Core.List.{List, []}
use mathlib.Core.Logic.{⊎_elim}
use mathlib.Core.Option.{Option, none, some}
use Prim.Native.Nat.{ℕ, ◌/◌, ◌%◌, ◌≤◌, ◌<◌}
use native.Mathlib.Omega.{arith}
use lib.Dec.{ltb}
use lib.ListN.{length, get_or}
use borrow.Author.Tests.{ltb-false, lt-ltb}
use Rattle.laws.specs.Bag.{weigh}
use Rattle.laws.proofs.Cases.{lt-or-ge, Which, which}
use Rattle.laws.proofs.Cases.Which.{holds, fails}
use Rattle.laws.proofs.RankLaws.{rank_less, rank_most}
use Rattle.stores.specs.Stores.{Table, Parsed, parse}
use Rattle.stores.specs.Dropping.{rank, picked, cut, has_rows, stays, new_place, row_count, row_words}
use Rattle.stores.proofs.Picking.{picked-long}
use Rattle.stores.proofs.Words.{drop-twice}
use Rattle.keeping.specs.Keeping.{keeping_work, most_bytes, is_too_long, all_there, kept_store, kept_bytes, done_of, last_of, keep_in, keep_parsed, keep_of}
use Rattle.keeping.specs.KeptTold.{DoneSays}
use Rattle.keeping.specs.Answers.{Kept, Done, Refused}

is_done : Kept → ℕ
is_done (Done b t r k) = 1
is_done (Refused n) = 0

-- a refusal is not done
apart : {b t r k n : ℕ} → Refused n ≡ Done b t r k → ⊥
unfolding is_done
apart e = let z : ◌≡◌ {A = ℕ} 0 1 = ap is_done e in omega arith

or_no : (a b : Bool) → a || b ≡ false → (a ≡ false) × (b ≡ false)
or_no true b h = let z : ◌≡◌ {A = ℕ} 0 1 = cc in absurd (omega arith)
or_no false b h = (refl, h)

module _ (s rows : List ℕ) (work room places b t r k : ℕ) (h : keep_of s rows work room places ≡ Done b t r k) where
  work-test : ltb work (keeping_work (length s) (length rows)) ≡ false
  unfolding keep_of
  work-test = go (which (ltb work (keeping_work (length s) (length rows))))
    where
      go : Which (ltb work (keeping_work (length s) (length rows))) → ltb work (keeping_work (length s) (length rows)) ≡ false
      go (holds e) = absurd (apart (rw e at h))
      go (fails e) = e

  after-work : keep_parsed (parse s) rows room places ≡ Done b t r k
  unfolding keep_of
  after-work = rw work-test at h

  module _ (p : Parsed) (parsed : parse s ≡ some p) where
    in-store : keep_in p rows room places ≡ Done b t r k
    unfolding keep_parsed
    in-store = rw parsed at after-work

    there-test : all_there p rows ≡ true
    unfolding keep_in
    there-test = go (which (all_there p rows))
      where
        go : Which (all_there p rows) → all_there p rows ≡ true
        go (holds e) = e
        go (fails e) = absurd (apart (rw e at in-store))

    places-test : ltb places (length rows) ≡ false
    unfolding keep_in
    places-test = go (which (ltb places (length rows)))
      where
        go : Which (ltb places (length rows)) → ltb places (length rows) ≡ false
        go (holds e) = absurd (apart (rw (there-test, e) at in-store))
        go (fails e) = e

    last-is : last_of p rows room ≡ Done b t r k
    unfolding keep_in
    last-is = rw (there-test, places-test) at in-store

    long-test : is_too_long room (length (kept_bytes p rows)) ≡ false
    unfolding last_of
    long-test = go (which (is_too_long room (length (kept_bytes p rows))))
      where
        go : Which (is_too_long room (length (kept_bytes p rows))) → is_too_long room (length (kept_bytes p rows)) ≡ false
        go (holds e) = absurd (apart (rw e at last-is))
        go (fails e) = e

    done-are : done_of p rows ≡ Done b t r k
    unfolding last_of
    done-are = rw long-test at last-is

    told_of : DoneSays s rows work room places b t r k
    unfolding done_of is_too_long
    told_of =
        let x = or_no (ltb room (length (kept_bytes p rows))) (ltb most_bytes (length (kept_bytes p rows))) long-test in
        let d : Done (length (kept_bytes p rows)) (length (kept_store p rows).tables) (length (kept_store p rows).regions) (weigh row_count (kept_store p rows).tables) ≡ Done b t r k = done-are in
        let l : length (kept_bytes p rows) ≡ b = cc in
        record {
          store = p;
          parsed = parsed;
          there = there-test;
          work-enough = ltb-false work (keeping_work (length s) (length rows)) work-test;
          places-enough = ltb-false places (length rows) places-test;
          room-enough = omega (arith, ltb-false room (length (kept_bytes p rows)) x.0);
          short = omega (arith, ltb-false most_bytes (length (kept_bytes p rows)) x.1);
          bytes-are = sym l;
          tables-are = (cc);
          regions-are = (cc);
          rows_are = (cc);
        }

  -- what is done says all of that
  pub done-told : DoneSays s rows work room places b t r k
  unfolding keep_parsed
  done-told = go (parse s) refl
    where
      go : (q : Option Parsed) → parse s ≡ q → DoneSays s rows work room places b t r k
      go none e = absurd (apart (rw e at after-work))
      go (some p) e = told_of p e

  -- doing it again with all rows of the result changes no byte
  pub done-again : ((i : ℕ) → get_or s i 0 < 256) → (q : Parsed) → parse (kept_bytes done-told.store rows) ≡ some q → kept_bytes q (row_words q) ≡ kept_bytes done-told.store rows
  done-again bytes q e = drop-twice s bytes done-told.store done-told.parsed rows (omega (arith, done-told.short, done-told.bytes-are)) q e

-- ---- places

module _ (p : Parsed) (u : ℕ → ℕ → Bool) (o i : ℕ) (t : Table) (e : get_or p.tables o none ≡ some t) (h : i < length t.rows) (y : u o i ≡ true) where
  pub used-stays : stays p u o ≡ true
  unfolding has_rows cut
  used-stays = rw e (lt-ltb 0 (length (picked (u o) [] t.rows)) (omega (arith, picked-long (u o) [] t.rows, rank_less (u o) i (length t.rows) y h)))

-- of two used rows the first has the smaller new place: places are one to one and keep their order
pub places-less : (p : Parsed) (u : ℕ → ℕ → Bool) (x z : ℕ) (t v : Table) → get_or p.tables (x / 65536) none ≡ some t → x % 65536 < length t.rows → u (x / 65536) (x % 65536) ≡ true
    → get_or p.tables (z / 65536) none ≡ some v → z % 65536 < length v.rows → u (z / 65536) (z % 65536) ≡ true → x < z → new_place p u x < new_place p u z
unfolding new_place
places-less p u x z t v e h a f l b less = ⊎_elim
    (λ (q : x / 65536 < z / 65536).
    let c = rank_less (stays p u) (x / 65536) (z / 65536) (used-stays p u (x / 65536) (x % 65536) t e h a) q in
    let d = rank-small (u (x / 65536)) (x % 65536) (omega arith) in
    omega arith)
    (λ (q : z / 65536 ≤ x / 65536).
    let s : z / 65536 ≡ x / 65536 = omega arith in
    let c = rank_less (u (x / 65536)) (x % 65536) (z % 65536) a (omega arith) in
    rw s (omega arith))
    (lt-or-ge (x / 65536) (z / 65536))
  where
    rank-small : (f : ℕ → Bool) (j : ℕ) → j < 65536 → rank f j < 65536
    rank-small f j m = omega (arith, rank_most f j)
