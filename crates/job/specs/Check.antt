-- What looking at a job answers, and what it leaves in work (RULES R1 to R9, L2).
use Rattle.std.specs.Prelude.{List, ℕ, eqb, length, replicate, Result, Ok, Err}
use Rattle.refusals.specs.declared.Refused.{Refused}
use Rattle.refusals.specs.Refusals.{number}
use Rattle.laws.specs.Pick.{pick}
use Rattle.said.specs.Refusals.{early_refusal}
use Rattle.said.specs.Job.{Outcome, refused, fine}
use Rattle.job.specs.declared.whole.JobCounts.{JobCounts}

-- a refusal's number and place, or the numbers of regions, sets and values
pub data Checked : Type 0 where
  turned_down : ℕ → ℕ → Checked
  sound : ℕ → ℕ → ℕ → Checked

-- of what the code answers
unfoldable pub checked : Result JobCounts Refused → Checked
checked (Ok c) = sound c.regions c.sets c.values
checked (Err x) = turned_down (number x.refusal) x.place

unfoldable pub checked_of : Outcome → Checked
checked_of (refused n i) = turned_down n i
checked_of (fine s) = sound (length s.regions) (length s.sets) s.values

-- how many regions are in use, 0 of a refused job
unfoldable pub uses_in : Result JobCounts Refused → ℕ
uses_in (Ok c) = c.uses
uses_in (Err x) = 0

unfoldable pub uses_of : Outcome → ℕ
uses_of (refused n i) = 0
uses_of (fine s) = length s.used

-- work is left by R1 to R4, and all zeros after any other answer (L2)
unfoldable pub work_left : (axes mode : ℕ) (job : List ℕ) (pairs : ℕ) (work : List ℕ) → List ℕ
work_left axes mode job pairs w = pick (eqb (early_refusal axes mode job (length w) pairs) 0) (replicate (length w) 0) w
