use mathlib.Core.Path.{ap, ◌∙◌}
use mathlib.Core.List.{List}
use Prim.Native.Nat.{ℕ}
use Rattle.said.specs.Records.{record_start, value_as_word}
use Rattle.laws.proofs.ListLaws.{tail-is}
use Rattle.records.proofs.nth.word_at.Goals as goal

pub returns : goal.returns
returns c =
    let a = c.args in
    c.value_word.ensures ∙ ap (λ (x : List ℕ). value_as_word x) (tail-is a.job.now (record_start a.i))
