-- The plain profile is as none: the answer, and all that is left. Assumes nothing.
use mathlib.Core.Path.{◌≡◌, refl, ap, ◌∙◌}
use mathlib.Core.Bool.{false}
use Prim.Native.Nat.{ℕ}
use Rattle.panel.specs.declared.Profile.TheVariants.{Plain}
use Rattle.panel.proofs.PanelledLaws.{panelled-plain}
use Rattle.narrow.specs.Columns.{is_too_wide}
use Rattle.finishing.specs.Buffers.{lengths}
use Rattle.said.specs.Job.{Outcome, refused, fine}
use Rattle.call.specs.Lending.{Lending}
use Rattle.call.specs.Build.{outcome_of, answer_of, after}
use Rattle.call.specs.Profiled.{is_wide, wide_of, answer_with, left_with, answer_by, after_by}

plain-narrow : (mode : ℕ) (o : Outcome) → wide_of Plain mode o ≡ false
unfolding wide_of is_wide is_too_wide
plain-narrow mode (refused n i) = refl
plain-narrow mode (fine s) = refl

module _ (c : Lending) where
  pub answer-plain : answer_by Plain c ≡ answer_of c
  unfolding answer_by answer_with answer_of
  answer-plain =
      ap (answer_with Plain c.axes c.mode (lengths c.lent)) (panelled-plain c.job (outcome_of c)) ∙ rw (plain-narrow c.mode (outcome_of c)) refl

  lent-plain : (after_by Plain c).lent ≡ (after c).lent
  unfolding left_with
  lent-plain = ap (left_with Plain c.axes c.mode c.lent) (panelled-plain c.job (outcome_of c)) ∙ rw (plain-narrow c.mode (outcome_of c)) refl

  pub after-plain : after_by Plain c ≡ after c
  after-plain = λ i. record { work = (after c).work; pairs = (after c).pairs; lent = lent-plain i }
