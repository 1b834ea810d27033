-- A build by a profile: what the profile refuses by R70 to R72, and else the build as it is without one (RULES T7). Assumes nothing.
use Rattle.std.specs.Prelude.{Bool, false, ◌&&◌, ℕ, leb}
use Rattle.laws.specs.Pick.{pick}
use Rattle.groups.specs.Groups.{max_shapes}
use Rattle.said.specs.Refusals.{wide_subtable}
use Rattle.said.specs.Job.{Outcome, refused, fine}
use Rattle.panel.specs.declared.Profile.{Profile}
use Rattle.panel.specs.Panelled.{panelled}
use Rattle.narrow.specs.Columns.{is_too_wide}
use Rattle.encoder.specs.Packed.{Packed}
use Rattle.finishing.specs.Answers.{Built}
use Rattle.finishing.specs.Answers.{Refused}
use Rattle.finishing.specs.Buffers.{Buffers, Lengths, lengths}
use Rattle.call.specs.Lending.{Lending, Left}
use Rattle.call.specs.Build.{packed_of, answer_from, left_from, outcome_of, after}

-- R72 WIDE_SUBTABLE: after R10, so where there are not too many shapes
unfoldable pub is_wide : Profile → Packed → Bool
is_wide p k = is_too_wide p k.finals && leb k.groups max_shapes

unfoldable pub wide_of : Profile → (mode : ℕ) → Outcome → Bool
wide_of p mode (refused n i) = false
wide_of p mode (fine s) = is_wide p (packed_of mode s)

-- its place is 0, and it leaves the buffers as they were; before R11 to R14
unfoldable pub answer_with : Profile → ℕ → ℕ → Lengths → Outcome → Built
answer_with p axes mode l o = pick (wide_of p mode o) (Refused wide_subtable 0) (answer_from axes mode l o)

unfoldable pub left_with : Profile → ℕ → ℕ → Buffers → Outcome → Buffers
left_with p axes mode old o = pick (wide_of p mode o) old (left_from axes mode old o)

-- ---- of a call

abbrev pub outcome_by : Profile → Lending → Outcome
outcome_by p c = panelled p c.job (outcome_of c)

unfoldable pub answer_by : Profile → Lending → Built
answer_by p c = answer_with p c.axes c.mode (lengths c.lent) (outcome_by p c)

-- work and pair records are left as without the profile
abbrev pub after_by : Profile → Lending → Left
after_by p c = record { work = (after c).work; pairs = (after c).pairs; lent = left_with p c.axes c.mode c.lent (outcome_by p c) }
