use mathlib.Core.Path.{◌∙◌}
use native.Mathlib.Omega.{arith}
use Rattle.rows.proofs.CountLaws.{counted, form-count, form-wide, form-narrow}
use Rattle.rows.proofs.column.form_alone.Goals as goal

pub returns-then-fours-gt0 : goal.returns-then-fours-gt0
returns-then-fours-gt0 c = (form-wide _ _ _ _ (c.count_width-fours.ensures.value ∙ counted 4 0 _) (c.count_width-twos.ensures.value ∙ counted 2 0 _) (c.count_width.ensures.value ∙ counted 1 0 _) c.if-fours-gt0.true, form-count _ _ _ _ (c.count_width-fours.ensures.value ∙ counted 4 0 _) (c.count_width-twos.ensures.value ∙ counted 2 0 _) (c.count_width.ensures.value ∙ counted 1 0 _))

pub returns : goal.returns
returns c = (form-narrow _ _ _ _ (c.count_width-fours.ensures.value ∙ counted 4 0 _) (c.count_width-twos.ensures.value ∙ counted 2 0 _) (c.count_width.ensures.value ∙ counted 1 0 _) (λ h. omega (arith, c.if-fours-gt0.false)), form-count _ _ _ _ (c.count_width-fours.ensures.value ∙ counted 4 0 _) (c.count_width-twos.ensures.value ∙ counted 2 0 _) (c.count_width.ensures.value ∙ counted 1 0 _))
