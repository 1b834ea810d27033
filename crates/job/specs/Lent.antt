-- What lent words hold of a whole job: the promises of `src/`, which no reader of docs/RULES.md needs.
use Rattle.std.specs.Prelude.{◌≡◌, List, [], ◌∷◌, ℕ, ◌+◌, ◌*◌, length, Result, MatchResult}
use Rattle.refusals.specs.declared.Refused.{Refused}
use Rattle.refusals.specs.Refusals.{number}
use Rattle.laws.specs.LentRange.{Only, seg}
use Rattle.sets.specs.Lent.{Held, sets_in}
use Rattle.said.specs.Job.{Said, in_axes, regions_only, refused, fine, records_from}
use Rattle.values.specs.declared.tables.SetTables.{SetTables}
use Rattle.job.specs.declared.whole.JobCounts.{JobCounts}
use Rattle.said.specs.Sets.{region_list}
use Rattle.values.specs.Lent.{Holds}
use Rattle.job_scan.specs.Lent.{Room}

-- the offsets of the tables for a job of n records and so many regions: sets below word 4 n, regions in use from there on
unfoldable pub set_tables_at : ℕ → ℕ → ℕ → SetTables
set_tables_at n axes regions = record {
  rows = 0;
  body = 2 * n;
  used = 4 * n;
  slot = 5 * n;
  stamp = 5 * n + regions;
  first = 5 * n + (3 * regions + regions * (6 * axes));
  regions = regions;
}

-- What the records of a job say is held in work: the sets below word 4 n, sorted and without zeros, and from there on by region index the
-- regions in use.
pub record JobHeld (axes mode : ℕ) (job : List ℕ) (records : ℕ) (new : List ℕ) (c : JobCounts) : Type 0 where
  pub said : Said
  pub is : records_from axes mode job job records 0 in_axes ≡ fine said
  pub regions-are : length said.regions ≡ c.regions
  pub sets-are : sets_in 0 c.sets new ≡ said.sets
  pub values-are : said.values ≡ c.values
  pub used-are : seg (4 * records) c.uses new ≡ said.used
  pub uses-are : length said.used ≡ c.uses
  pub held : Held new 0 c.sets c.uses (4 * records)

-- it is held, or the records are refused
pub record JobRead (axes mode : ℕ) (job : List ℕ) (records : ℕ) (old new : List ℕ) (r : Result JobCounts Refused) : Type 0 where
  pub is : MatchResult r (λ c. JobHeld axes mode job records new c) (λ x. records_from axes mode job job records 0 in_axes ≡ refused (number x.refusal) x.place)
  pub only : Only ((0, 16 * records) ∷ []) old new

-- the tables hold the firsts of so many regions, and no sets
pub record Prepared (axes regions records : ℕ) (job old new : List ℕ) : Type 0 where
  pub holds : Holds new (set_tables_at records axes regions) (regions_only (region_list axes regions job)) 0 0 (2 * records) 0
  pub room : Room (set_tables_at records axes regions) records (length new)
  pub only : Only ((0, 16 * records) ∷ []) old new
