-- A forecast and the build of the same job. The forecast of a done build is the length of its store; a build that is lent as much as the forecast says
-- is done with the same report; what the forecast refuses the build refuses alike, whatever it is lent to write to, but for too big a store, which is
-- tested behind ids, map, log and origins (T4). Assumes nothing.
use Rattle.std.specs.Prelude.{◌≡◌, List, ℕ, ◌-◌, ◌*◌, ◌≤◌, length}
use Rattle.pairs.specs.declared.Pair.{Pair}
use Rattle.said.specs.Refusals.{store_too_big}
use Rattle.said.specs.Job.{Said, fine}
use Rattle.limits.specs.Limits.{max_shapes}
use Rattle.finishing.specs.declared.answers.Report.{Report}
use Rattle.finishing.specs.Answers.{Refused, Done}
use Rattle.finishing.specs.Buffers.{Buffers}
use Rattle.finishing.specs.Late.{store_for}
use Rattle.call.specs.Lending.{Lending, lending}
use Rattle.call.specs.Build.{coords_in_use, packed_of, outcome_of, answer_of}
use Rattle.call.specs.Foretold.{foretold}
use Rattle.refusing.specs.Counts.{end_records}

-- ---- the forecast is exact

pub record Exact (c : Lending) (r : Report) : Type 0 where
  pub said : Said
  pub said-is : outcome_of c ≡ fine said
  pub bytes-are : r.bytes ≡ length (store_for c.axes (coords_in_use said) (packed_of c.mode said))
  pub forecast-is : r.forecast ≡ length (store_for c.axes (coords_in_use said) (packed_of c.mode said))

-- ---- and then the build

-- the job of a call, built with other memory
abbrev pub building : Lending → List ℕ → List Pair → Buffers → Lending
building c work pairs lent = lending c.axes c.mode c.job work pairs lent

-- as many words of work and pair records as the call had
pub record AsMuch (c : Lending) (work : List ℕ) (pairs : List Pair) : Type 0 where
  pub work-long : length work ≡ length c.work
  pub pairs-long : length pairs ≡ length c.pairs

-- room for what so many sets, distinct ids, N and bytes are: an id for each end record, and what the report says
pub record RoomFor (job : List ℕ) (ids groups bytes : ℕ) (lent : Buffers) : Type 0 where
  pub ids-room : end_records job ≤ length lent.ids
  pub map-room : ids ≤ length lent.map
  pub log-room : 3 * (groups - 1) ≤ length lent.log
  pub origins-room : 2 * groups ≤ length lent.origins
  pub out-room : bytes ≤ length lent.out

pub record Foretold (c : Lending) : Type 0 where
  pub builds : (r : Report) → foretold c ≡ Done r → (work : List ℕ) (pairs : List Pair) (lent : Buffers) → AsMuch c work pairs
      → RoomFor c.job r.ids r.groups r.bytes lent → answer_of (building c work pairs lent) ≡ Done r
  -- whatever is lent to write to
  pub refuses : (n p : ℕ) → (n ≡ store_too_big → ⊥) → foretold c ≡ Refused n p → (work : List ℕ) (pairs : List Pair) (lent : Buffers) → AsMuch c work pairs
      → answer_of (building c work pairs lent) ≡ Refused n p
  -- with room for as many ids, merges and origins as any job of so many sets can have; the output is not looked at
  pub too-big : (p : ℕ) → foretold c ≡ Refused store_too_big p → (work : List ℕ) (pairs : List Pair) (lent : Buffers) → AsMuch c work pairs
      → RoomFor c.job (end_records c.job) max_shapes 0 lent → answer_of (building c work pairs lent) ≡ Refused store_too_big p
  -- and no build is done that was not forecast
  pub foreseen : (r : Report) (work : List ℕ) (pairs : List Pair) (lent : Buffers) → AsMuch c work pairs → answer_of (building c work pairs lent) ≡ Done r
      → foretold c ≡ Done r
