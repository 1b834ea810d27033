-- Where a build stands before merging: what its first part leaves. Assumes nothing.
use Rattle.std.specs.Prelude.{◌≡◌, List, ℕ, ◌<◌, length, Result, Ok, Err, IfOk, MatchResult}
use Rattle.refusals.specs.declared.Refused.{Refused}
use Rattle.refusals.specs.Refusals.{number}
use Rattle.groups.specs.Groups.{groups_of, max_shapes}
use Rattle.merging.specs.LentOptimized.{Ready}
use Rattle.said.specs.Refusals.{early_refusal, shapes_full}
use Rattle.said.specs.Job.{Said, Outcome, refused, fine, in_axes, records_from}
use Rattle.said.specs.Records.{record_count}
use Rattle.encoder.specs.declared.places.Places.{Places}
use Rattle.encoder.specs.LentArranged.{tables_of, JoinFit}
use Rattle.opening.specs.declared.opening.Stage.{Stage}
use Rattle.panel.specs.declared.Profile.{Profile}
use Rattle.panel.specs.Panelled.{panelled}
use Rattle.opening.specs.LentCollected.{Collected}

-- no tables
abbrev pub no_places : ℕ → Places
no_places n = record { sets = 0; regions = 0; room = 0; line = 0; first = 0; ids = 0; kinds = 0; slots = 0; order = 0; counts = 0; homes = 0; place = 0; costs = 0; living = 0; columns = 0; spots = 0; finals = 0; into = 0; log = 0; rows = n }

-- a job that says x is read: its sets are held in work, and grouped in mode 0
pub record Grouped (axes mode : ℕ) (job : List ℕ) (x : Said) (s : Stage) (w : List ℕ) : Type 0 where
  pub axes-is : s.axes ≡ axes
  pub mode-is : s.mode ≡ mode
  pub collected : Collected axes s.starts job s.places x w
  pub joins : mode ≡ 0 → JoinFit s.places s.groups s.distinct w
  pub alone : (mode ≡ 0 → ⊥) → s.groups ≡ 0

-- there are too many shapes
pub record TooMany (mode : ℕ) (x : Said) (r : Refused) : Type 0 where
  pub shared : mode ≡ 0
  pub number_is : number r.refusal ≡ shapes_full
  pub place-is : r.place ≡ 0
  pub many : max_shapes < length (groups_of (length x.used) x.sets)

-- the records were read
abbrev pub Read : ℕ → ℕ → List ℕ → Outcome → Result Stage Refused → List ℕ → Type 0
Read axes mode job (refused n i) (Ok s) w = ⊥
Read axes mode job (refused n i) (Err r) w = (number r.refusal ≡ n) × (r.place ≡ i)
Read axes mode job (fine x) (Ok s) w = Grouped axes mode job x s w
Read axes mode job (fine x) (Err r) w = TooMany mode x r

-- a build by a profile was opened
pub record OpenedAt (p : Profile) (axes mode : ℕ) (job : List ℕ) (o : Outcome) (old new : List ℕ) (r : Result Stage Refused) : Type 0 where
  pub long : length new ≡ length old
  pub is : Read axes mode job o r new
  pub ready : IfOk r (λ s. Ready (tables_of s.places s.groups) new)

-- ---- of every job

-- refused by 1 to 4, before its first record: nothing is written
pub record RefusedAtOnce (axes mode : ℕ) (job old : List ℕ) (pairs : ℕ) (new : List ℕ) (x : Refused) : Type 0 where
  pub kept : new ≡ old
  pub number_is : number x.refusal ≡ early_refusal axes mode job (length old) pairs
  pub place-is : x.place ≡ 0

-- by none of them: its records were read by a profile
pub record OpenedAfter (p : Profile) (axes mode : ℕ) (job old : List ℕ) (pairs : ℕ) (new : List ℕ) (r : Result Stage Refused) : Type 0 where
  pub not-early : early_refusal axes mode job (length old) pairs ≡ 0
  pub opened : OpenedAt p axes mode job (panelled p job (records_from axes mode job job (record_count job) 0 in_axes)) old new r

-- a build by a profile that is lent so many pair records was opened
pub record OpenedBy (p : Profile) (axes mode : ℕ) (job old : List ℕ) (pairs : ℕ) (new : List ℕ) (r : Result (Result Stage Refused) Refused) : Type 0 where
  pub long : length new ≡ length old
  pub is : MatchResult r (λ s. OpenedAfter p axes mode job old pairs new s) (λ x. RefusedAtOnce axes mode job old pairs new x)
