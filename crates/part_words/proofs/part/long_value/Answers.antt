use native.Mathlib.Omega.{arith}
use mathlib.Core.Path.{refl}
use Rattle.part_words.proofs.PartTells.{long-below, long-above}
use borrow.Author.Rules.{rules}
use Rattle.part_words.proofs.part.long_value.Goals as goal

pub overflow_add-result : goal.overflow_add-result
overflow_add-result c = search rules

pub returns-then-w-lt2147483648 : goal.returns-then-w-lt2147483648
returns-then-w-lt2147483648 c = long-below _ _ refl (omega arith)

pub overflow_sub-result : goal.overflow_sub-result
overflow_sub-result c = search rules

pub returns : goal.returns
returns c = long-above _ _ refl (λ h. omega arith)
