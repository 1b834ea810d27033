-- THE THEOREM of #112, of what a done call leaves in output and places (specs/KeptRows.antt). Assumes nothing.
use mathlib.Core.Path.{◌≡◌, refl, sym, subst, ◌∙◌}
use mathlib.Core.Bool.{Bool, true}
use mathlib.Core.List.{List, [], ◌++◌, map}
use mathlib.Core.Option.{some}
use Prim.Native.Nat.{ℕ, ◌+◌, ◌*◌, ◌/◌, ◌%◌, ◌<◌}
use native.Mathlib.Omega.{arith}
use lib.ListN.{length, get_or, drop, length-map, get_or-append}
use Rattle.laws.proofs.Cases.{Which, which}
use Rattle.laws.proofs.Cases.Which.{holds, fails}
use Rattle.laws.proofs.ListLaws.{get_or-map-in}
use Rattle.laws.proofs.RankLaws.{rank_less}
use Rattle.stores.specs.Stores.{Parsed, parse, Shaped}
use Rattle.stores.specs.Dropping.{rank, used, left, named, dropped, new_place}
use Rattle.stores.specs.Coordinates.{is_row_there}
use Rattle.stores.proofs.WholeLaws.{parse-shaped}
use Rattle.stores.proofs.Picking.{picked-long}
use Rattle.stores.proofs.Reading.{read-parsed}
use Rattle.stores.proofs.Tail.{parse-tail}
use Rattle.stores.proofs.ByCoordinates.{drop-same}
use Rattle.stores.proofs.Kept.{drop-coordinates, drop-none, drop-parses}
use Rattle.stores.proofs.Words.{place-outer, place-inner, word-reads}
use Rattle.cutting.proofs.NameLaws.{has-place, has-at}
use Rattle.keeping.specs.Answers.{Done}
use Rattle.keeping.specs.Keeping.{all_there, kept_store, kept_bytes, keep_of, out_left, places_left}
use Rattle.keeping.proofs.ThereLaws.{there-at}
use Rattle.keeping.proofs.Told.{done-told, places-less}
use Rattle.kept_rows.specs.KeptRows.{RegionKept, RowKept, KeptAll}
use Rattle.kept_rows.specs.KeptRows.RegionKept.{here, gone}
use Rattle.kept_rows.proofs.RowLaws.{RowIn, row_in, same-columns, was-row}

module _ (s rows : List ℕ) (bytes : (k : ℕ) → get_or s k 0 < 256) (p : Parsed) (parsed : parse s ≡ some p) (all : all_there p rows ≡ true) (short : length (kept_bytes p rows) < 4294967296) (rest : List ℕ) where
  abbrev u : ℕ → ℕ → Bool
  u = used rows

  abbrev q : Parsed
  q = kept_store p rows

  abbrev out : List ℕ
  out = kept_bytes p rows ++ rest

  shaped : Shaped p
  shaped = parse-shaped s bytes p parsed

  new-parsed : parse (kept_bytes p rows ++ rest) ≡ some (kept_store p rows)
  new-parsed = parse-tail (kept_bytes p rows) rest (kept_store p rows) (drop-parses s bytes p parsed (used rows) short)

  module _ (j : ℕ) (l : j < length rows) where
    abbrev w : ℕ
    w = get_or rows j 0

    abbrev v : ℕ
    v = new_place p (used rows) (get_or rows j 0)

    x : RowIn p (get_or rows j 0 / 65536) (get_or rows j 0 % 65536)
    x = row_in p (get_or rows j 0 / 65536) (get_or rows j 0 % 65536) (there-at p rows all j l)

    entry-used : used rows (get_or rows j 0 / 65536) (get_or rows j 0 % 65536) ≡ true
    entry-used = let z : w / 65536 * 65536 + w % 65536 ≡ w = omega arith in rw z (has-at rows j l)

    number_in : (r : ℕ) → r < length p.regions → named (left p u) r ≡ true → rank (named (left p u)) r < length (dropped p u).regions
    unfolding dropped
    number_in r b k = rw (picked-long (named (left p u)) [] p.regions) (rank_less (named (left p u)) r (length p.regions) k b)

    region-kept : (r : ℕ) → r < length p.regions → Which (named (left p u) r) → RegionKept s out p q w v r
    region-kept r b (holds k) =
        here (rank (named (left p u)) r) (number_in r b k) (drop-coordinates p u shaped (w / 65536) (w % 65536) x.table x.is x.below entry-used r b k)
        (read-parsed out q new-parsed (v / 65536) (v % 65536) (rank (named (left p u)) r)
        ∙ word-reads p u w shaped x.table x.is x.below entry-used r b k
        ∙ sym (read-parsed s p parsed (w / 65536) (w % 65536) r))
    region-kept r b (fails k) =
        gone (read-parsed s p parsed (w / 65536) (w % 65536) r ∙ drop-none p u shaped (w / 65536) (w % 65536) x.table x.is x.below entry-used r b k)

    row_kept : RowKept s out p q w v
    row_kept = record {
      columns = same-columns p u shaped w x entry-used;
      by-region = λ r b. region-kept r b (which (named (left p u) r));
      by-coordinates = λ d c. rw (place-outer p u w, place-inner p u w) (drop-same p u d shaped (w / 65536) (w % 65536) x.table x.is x.below entry-used c);
    }

  -- a row of the new store is the place of an entry
  only_kept : (o i : ℕ) → is_row_there q o i ≡ true → (j : ℕ) × (j < length rows) × (new_place p u (get_or rows j 0) ≡ o * 65536 + i)
  unfolding new_place
  only_kept o i h =
      let a = was-row p u shaped o i h in
      let b = has-place rows (a.outer * 65536 + a.inner) a.was-used in
      let m : get_or rows b.0 0 / 65536 ≡ a.outer = omega (arith, b.2, a.inner-low) in
      let n : get_or rows b.0 0 % 65536 ≡ a.inner = omega (arith, b.2, a.inner-low) in
      (b.0, b.1, rw (m, n, a.outer-is, a.inner-is) refl)

  in_order : (i j : ℕ) → i < length rows → j < length rows → get_or rows i 0 < get_or rows j 0 → new_place p u (get_or rows i 0) < new_place p u (get_or rows j 0)
  in_order i j l m less =
      let a = x i l in
      let b = x j m in
      places-less p u (get_or rows i 0) (get_or rows j 0) a.table b.table a.is a.below (entry-used i l) b.is b.below (entry-used j m) less

-- words put over the first ones
pub place_at : (p : Parsed) (rows rest : List ℕ) (j : ℕ) → j < length rows → get_or (map (new_place p (used rows)) rows ++ rest) j 0 ≡ new_place p (used rows) (get_or rows j 0)
place_at p rows rest j l =
    get_or-append (map (new_place p (used rows)) rows) rest 0 j (omega (arith, length-map rows (new_place p (used rows))))
    ∙ get_or-map-in (new_place p (used rows)) rows j 0 0 l

-- THE THEOREM
pub kept-all : (s rows out places : List ℕ) (work b t r k : ℕ) → ((i : ℕ) → get_or s i 0 < 256) → keep_of s rows work (length out) (length places) ≡ Done b t r k
    → KeptAll s rows (out_left (parse s) rows (Done b t r k) out) (places_left (parse s) rows (Done b t r k) places)
unfolding out_left places_left
kept-all s rows out places work b t r k bytes h =
    let d = done-told s rows work (length out) (length places) b t r k h in
    let p = d.store in
    let short : length (kept_bytes p rows) < 4294967296 = omega (arith, d.short, d.bytes-are) in
    let rest = drop (0 + length (kept_bytes p rows)) out in
    let behind = drop (0 + length rows) places in
    rw d.parsed record {
      store = p;
      parsed = d.parsed;
      new = kept_store p rows;
      new-parsed = new-parsed s rows bytes p d.parsed d.there short rest;
      row_kept = λ j l.
          subst (λ (v : ℕ). RowKept s (kept_bytes p rows ++ rest) p (kept_store p rows) (get_or rows j 0) v) (sym (place_at p rows behind j l))
          (row_kept s rows bytes p d.parsed d.there short rest j l);
      only_kept = λ o i x. let a = only_kept s rows bytes p d.parsed d.there short rest o i x in (a.0, a.1, place_at p rows behind a.0 a.1 ∙ a.2);
      in_order = λ i j l m less. rw (place_at p rows behind i l, place_at p rows behind j m) (in_order s rows bytes p d.parsed d.there short rest i j l m less);
    }
