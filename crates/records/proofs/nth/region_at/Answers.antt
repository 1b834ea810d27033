use mathlib.Core.Path.{ap, ◌∙◌}
use mathlib.Core.List.{List}
use Prim.Native.Nat.{ℕ}
use Rattle.said.specs.Records.{record_start, region_number}
use Rattle.laws.proofs.ListLaws.{tail-is}
use Rattle.records.proofs.nth.region_at.Goals as goal

pub returns : goal.returns
returns c =
    let a = c.args in
    c.region_of.ensures ∙ ap (λ (x : List ℕ). region_number x) (tail-is a.job.now (record_start a.i))
