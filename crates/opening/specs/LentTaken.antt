-- What reading a job by a profile leaves. Assumes nothing.
use Rattle.std.specs.Prelude.{◌≡◌, List, [], ◌∷◌, ℕ, ◌*◌, Result, MatchResult}
use Rattle.refusals.specs.declared.Refused.{Refused}
use Rattle.refusals.specs.Refusals.{number}
use Rattle.laws.specs.LentRange.{Only}
use Rattle.said.specs.Job.{in_axes, refused, fine, records_from}
use Rattle.job.specs.declared.whole.JobCounts.{JobCounts}
use Rattle.job.specs.Lent.{JobHeld}
use Rattle.panel.specs.declared.Profile.{Profile}
use Rattle.panel.specs.Panelled.{panelled}

-- the profile takes all records of a job, and work holds what they say
pub record AllTaken (p : Profile) (axes mode : ℕ) (job : List ℕ) (records : ℕ) (new : List ℕ) (c : JobCounts) : Type 0 where
  pub held : JobHeld axes mode job records new c
  pub taken : panelled p job (records_from axes mode job job records 0 in_axes) ≡ fine held.said

-- that, or they are refused, by the profile or without it
pub record JobTaken (p : Profile) (axes mode : ℕ) (job : List ℕ) (records : ℕ) (old new : List ℕ) (r : Result JobCounts Refused) : Type 0 where
  pub is : MatchResult r (λ c. AllTaken p axes mode job records new c) (λ x. panelled p job (records_from axes mode job job records 0 in_axes) ≡ refused (number x.refusal) x.place)
  pub only : Only ((0, 16 * records) ∷ []) old new
