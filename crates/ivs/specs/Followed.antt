-- A forecast and then a build as a host has them: number and report of each. Assumes nothing.
use Rattle.std.specs.Prelude.{◌≡◌, List, ℕ, get_or}
use Rattle.finishing.specs.Buffers.{Buffers}
use Rattle.limits.specs.Limits.{max_shapes}
use Rattle.said.specs.Refusals.{store_too_big}
use Rattle.refusing.specs.Counts.{end_records}
use Rattle.demands.specs.Foretold.{RoomFor}

-- a forecast's number and report of sixteen words (word 5 distinct ids, 6 N, 2 bytes), and those of a build of the same job

pub record Followed (job : List ℕ) (lent : Buffers) (number : ℕ) (report : List ℕ) (number' : ℕ) (report' : List ℕ) : Type 0 where
  pub done : number ≡ 0 → RoomFor job (get_or report 5 0) (get_or report 6 0) (get_or report 2 0) lent → (number' ≡ 0) × (report' ≡ report)
  pub refused-alike : (number ≡ 0 → ⊥) → (number ≡ store_too_big → ⊥) → (number' ≡ number) × (report' ≡ report)
  -- too big a store, where ids, map, log and origins have room for any job of so many sets
  pub too-big : number ≡ store_too_big → RoomFor job (end_records job) max_shapes 0 lent → (number' ≡ number) × (report' ≡ report)
