use mathlib.Core.Path.{ap, ◌∙◌}
use mathlib.Core.List.{List}
use Prim.Native.Nat.{ℕ}
use Rattle.said.specs.Records.{record_start, peak_of}
use Rattle.laws.proofs.ListLaws.{tail-is}
use Rattle.records.proofs.nth.peak_at.Goals as goal

pub returns : goal.returns
returns c =
    let a = c.args in
    record { value = c.two_bytes.ensures.value ∙ ap (λ (x : List ℕ). peak_of x) (tail-is a.job.now (record_start a.i)); upper_bound = c.two_bytes.ensures.upper_bound }
