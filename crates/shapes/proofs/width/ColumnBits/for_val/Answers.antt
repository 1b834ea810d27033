use mathlib.Core.Path.{sym}
use Rattle.shapes.proofs.WidthLaws.{word_none, word-four-low, word-four-high, word-two-low, word-two-high, word-one}
use native.Mathlib.Omega.{arith}
use Rattle.shapes.proofs.width.ColumnBits.for_val.Goals as goal

pub returns-in-2147483648 : goal.returns-in-2147483648
returns-in-2147483648 c = sym (word_none _ (omega arith))

pub returns-in-2147483520-to-2147483775 : goal.returns-in-2147483520-to-2147483775
returns-in-2147483520-to-2147483775 c = sym (word-one _ (λ e. omega arith) (omega arith) (omega arith))

pub returns-in-2147450880-to-2147516415 : goal.returns-in-2147450880-to-2147516415
returns-in-2147450880-to-2147516415 c = sym (word-two-low _ (omega arith) (omega arith))

pub returns-in-2147450880-to-2147516415-2 : goal.returns-in-2147450880-to-2147516415-2
returns-in-2147450880-to-2147516415-2 c = sym (word-two-high _ (omega arith) (omega arith))

pub returns-in_default : goal.returns-in_default
returns-in_default c = sym (word-four-low _ (omega arith))

pub returns-in_default-2 : goal.returns-in_default-2
returns-in_default-2 c = sym (word-four-high _ (omega arith))
