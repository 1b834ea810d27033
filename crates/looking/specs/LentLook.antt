-- What a look asks of where a build stands after merging, and what it leaves. Assumes nothing.
use Rattle.std.specs.Prelude.{◌≡◌, List, ℕ, length, Result}
use Rattle.refusals.specs.declared.Refused.{Refused}
use Rattle.merging.specs.declared.optimizing.Merged.{Merged}
use Rattle.said.specs.Job.{outcome}
use Rattle.job.specs.Check.{work_left}
use Rattle.panel.specs.declared.Profile.TheVariants.{Plain}
use Rattle.opening.specs.declared.opening.Stage.{Stage}
use Rattle.opening.specs.LentOpened.{OpenedBy}
use Rattle.arranging.specs.LentArranged.{JoinedBy, PackFit}
use Rattle.reasons.specs.declared.reason.Reason.{Reason}
use Rattle.looking.specs.Look.{why_from}

-- a build in mode 0, its groups joined
pub record LookFit (s : Stage) (m : Merged) (w : List ℕ) : Type 0 where
  pub job : List ℕ
  pub fits : PackFit job s m w
  pub shared : fits.mode ≡ 0

-- the same, or a refusal where it was opened
pub record CloseLookFit (r : Result (Result Stage Refused) Refused) (m : Merged) (w : List ℕ) : Type 0 where
  pub axes : ℕ
  pub job : List ℕ
  pub old : List ℕ
  pub pairs : ℕ
  pub mid : List ℕ
  pub opened : OpenedBy Plain axes 0 job old pairs mid r
  pub joined : JoinedBy r m mid w

-- the reason, and work as a build leaves it
pub record Looked (axes : ℕ) (job work : List ℕ) (pairs first second : ℕ) (r : Reason) (work' : List ℕ) : Type 0 where
  pub answer : r ≡ why_from (outcome axes 0 job (length work) pairs) first second
  pub work-is : work' ≡ work_left axes 0 job pairs work
