-- What the last part of a build makes of where it stands after merging. Assumes nothing.
use Rattle.std.specs.Prelude.{◌≡◌, List, ℕ, length, Result}
use Rattle.refusals.specs.declared.Refused.{Refused}
use Rattle.merging.specs.declared.optimizing.Merged.{Merged}
use Rattle.said.specs.Job.{Outcome, outcome}
use Rattle.job.specs.Check.{work_left}
use Rattle.panel.specs.Panelled.{panelled}
use Rattle.call.specs.Foretold.{foretold_from}
use Rattle.finishing.specs.Answers.{Built}
use Rattle.opening.specs.declared.opening.Stage.{Stage}
use Rattle.opening.specs.LentOpened.{OpenedBy}
use Rattle.finishing.specs.Buffers.{Buffers, lengths}
use Rattle.panel.specs.declared.Profile.{Profile}
use Rattle.call.specs.Profiled.{answer_with, left_with}
use Rattle.arranging.specs.LentArranged.{JoinedBy, PackFit}

-- what the records say is answered by the profile, and the buffers are as it says
pub record RecordsBuilt (p : Profile) (axes mode : ℕ) (o : Outcome) (r : Built) (old new : Buffers) : Type 0 where
  pub answer : r ≡ answer_with p axes mode (lengths old) o
  pub left : new ≡ left_with p axes mode old o

-- what is asked: a build of some job that was opened, and its groups joined
pub record ForetellFit (s : Stage) (m : Merged) (w : List ℕ) : Type 0 where
  pub job : List ℕ
  pub fits : PackFit job s m w

-- the same, or a refusal where it was opened
pub record CloseFit (job : List ℕ) (r : Result (Result Stage Refused) Refused) (m : Merged) (w : List ℕ) : Type 0 where
  pub profile : Profile
  pub axes : ℕ
  pub mode : ℕ
  pub old : List ℕ
  pub pairs : ℕ
  pub mid : List ℕ
  pub opened : OpenedBy profile axes mode job old pairs mid r
  pub joined : JoinedBy r m mid w

pub record ForeseeFit (r : Result (Result Stage Refused) Refused) (m : Merged) (w : List ℕ) : Type 0 where
  pub job : List ℕ
  pub fits : CloseFit job r m w

-- ---- what a build and a forecast leave, once work is cleared: the answer, the buffers and work

pub record Closed (p : Profile) (axes mode : ℕ) (job work : List ℕ) (pairs : ℕ) (r : Built) (old new : Buffers) (work' : List ℕ) : Type 0 where
  pub built : RecordsBuilt p axes mode (panelled p job (outcome axes mode job (length work) pairs)) r old new
  pub work-is : work' ≡ work_left axes mode job pairs work

pub record Foreseen (axes mode : ℕ) (job work : List ℕ) (pairs : ℕ) (r : Built) (work' : List ℕ) : Type 0 where
  pub answer : r ≡ foretold_from axes mode (outcome axes mode job (length work) pairs)
  pub work-is : work' ≡ work_left axes mode job pairs work
