-- Where a build stands after merging, and what is left of its groups, arranged. Assumes nothing.
use Rattle.std.specs.Prelude.{◌≡◌, Bool, true, false, List, ℕ, ◌+◌, ◌*◌, ◌≤◌, ◌<◌, length, Result, Ok, Err, MatchResult}
use Rattle.refusals.specs.declared.Refused.{Refused}
use Rattle.merging.specs.declared.optimizing.Merged.{Merged}
use Rattle.merging.specs.LentOptimized.{Optimized}
use Rattle.said.specs.Job.{Said, Outcome, fine}
use Rattle.encoder.specs.LentArranged.{tables_of}
use Rattle.encoder.specs.declared.encoded.Encoded.{Encoded}
use Rattle.encoder.specs.Lent.{PackedAt}
use Rattle.encoder.specs.LentPlaces.{scratch_at}
use Rattle.store.specs.Lent as store
use Rattle.finishing.specs.declared.measuring.Packing.{Packing}
use Rattle.finishing.specs.Lent.{FinishFit}
use Rattle.call.specs.Build.{coords_in_use, packed_of}
use Rattle.opening.specs.declared.opening.Stage.{Stage}
use Rattle.opening.specs.LentOpened.{Read, no_places}

-- a build was opened and its groups joined
abbrev pub Joined : Stage → Merged → List ℕ → List ℕ → Type 0
Joined s m mid w = Optimized (tables_of s.places s.groups) m.merges m.weighed m.before m.after mid w

-- and where what was opened may be refused: nothing was joined then
abbrev pub JoinedOrRefused : Result Stage Refused → Merged → List ℕ → List ℕ → Type 0
JoinedOrRefused (Ok s) m mid w = Joined s m mid w
JoinedOrRefused (Err x) m mid w = w ≡ mid

-- or be refused before its first record
abbrev pub JoinedBy : Result (Result Stage Refused) Refused → Merged → List ℕ → List ℕ → Type 0
JoinedBy (Ok r) m mid w = JoinedOrRefused r m mid w
JoinedBy (Err x) m mid w = w ≡ mid

-- how many pair records are to be cleared: none where nothing was written yet
abbrev pub PairsUsed : Result (Result Stage Refused) Refused → ℕ → ℕ → Type 0
PairsUsed opened pairs n = MatchResult opened (λ r. n ≡ pairs) (λ x. n ≡ 0)

-- whether it is mode 1 without sets
abbrev pub NullStage : Stage → Bool → Type 0
NullStage s b = (b ≡ true → (s.mode ≡ 0 → ⊥) × (s.places.sets ≡ 0)) × (b ≡ false → (s.mode ≡ 0 → ⊥) → 0 < s.places.sets)

-- which is one group of no rows
abbrev pub one_null : Encoded
one_null = record { distinct = 0; count = 1; groups = 0; merges = 0; weighed = 0; before = 0; after = 0 }

abbrev pub packing_of_null : ℕ → Packing
packing_of_null axes = record { axes = axes; starts = 0; places = no_places 3; encoded = one_null }

-- what the sets of a job are packed as by their mode stands in work
pub record ArrangedAs (axes mode : ℕ) (job : List ℕ) (o : Outcome) (k : Packing) (w : List ℕ) : Type 0 where
  pub said : Said
  pub said-is : o ≡ fine said
  pub axes-is : k.axes ≡ axes
  pub fit : FinishFit k.axes k.starts job k.places k.encoded w
  pub packed : PackedAt (packed_of mode said) k.places k.encoded w
  pub room : scratch_at k.places + 4 * k.places.regions ≤ length w
  pub coords-are : store.coords_in job k.axes w k.starts k.places.regions ≡ coords_in_use said

-- ---- what is asked: such a build

pub record PackFit (job : List ℕ) (s : Stage) (m : Merged) (w : List ℕ) : Type 0 where
  pub axes : ℕ
  pub mode : ℕ
  pub outcome : Outcome
  pub mid : List ℕ
  pub read : Read axes mode job outcome (Ok s) mid
  pub joined : Joined s m mid w

-- which has sets to arrange
pub record ArrangeFit (s : Stage) (m : Merged) (w : List ℕ) : Type 0 where
  pub job : List ℕ
  pub fits : PackFit job s m w
  pub some : (s.mode ≡ 0 → ⊥) → 0 < s.places.sets
