-- Regions, and sets behind them, are the job. Assumes nothing.
use mathlib.Core.Path.{◌≡◌}
use mathlib.Core.Bool.{true}
use mathlib.Core.List.{List}
use Prim.Native.Nat.{ℕ, ◌+◌, ◌≤◌}
use native.Mathlib.Omega.{arith}
use lib.ListN.{length, length-append}
use Rattle.reader.specs.Store.{is_header_ok}
use Rattle.rows.specs.Lent.{Put}
use Rattle.rows.proofs.PutLaws.{put-join, put-long}
use Rattle.stores.specs.Stores.{Parsed, is_whole_ok}
use Rattle.stores.proofs.WholeLaws.{whole_is}
use Rattle.recovering.specs.Recovering.{regions_from, rows_of, sets_bytes, job_of}

pub header_of : (s : List ℕ) → is_whole_ok s ≡ true → is_header_ok s ≡ true
header_of s ok = (whole_is s ok).header

module _ (p : Parsed) (old : List ℕ) (room : length (job_of p) ≤ length old) where
  abbrev front : List ℕ
  front = regions_from p.axes 0 p.regions

  abbrev back : List ℕ
  back = sets_bytes (rows_of p.tables)

  long : length (job_of p) ≡ length (regions_from p.axes 0 p.regions) + length (sets_bytes (rows_of p.tables))
  unfolding job_of
  long = length-append (regions_from p.axes 0 p.regions) (sets_bytes (rows_of p.tables))

  pub front-room : length (regions_from p.axes 0 p.regions) ≤ length old
  front-room = omega (arith, long)

  module _ {mid : List ℕ} {at : ℕ} (a : Put 0 (regions_from p.axes 0 p.regions) old mid at) where
    mid-long : length mid ≡ length old
    mid-long = put-long 0 (regions_from p.axes 0 p.regions) old mid at a (omega (arith, front-room))

    pub back-room : at + length (sets_bytes (rows_of p.tables)) ≤ length mid
    back-room = omega (arith, long, mid-long, a.end)

    pub job-put : {new : List ℕ} {end : ℕ} → Put at (sets_bytes (rows_of p.tables)) mid new end → Put 0 (job_of p) old new (length (job_of p))
    unfolding job_of
    job-put {new} {end} b =
        let j = put-join 0 (regions_from p.axes 0 p.regions) (sets_bytes (rows_of p.tables)) old mid new at end a b (omega (arith, long)) in
        record { end = omega arith; is = j.is }
