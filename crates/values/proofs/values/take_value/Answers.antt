use mathlib.Core.Path.{ap}
use Prim.Native.Nat.{ℕ, ◌+◌}
use lib.ListN.{get_or}
use Rattle.said.specs.Records.{record_at}
use Rattle.values.proofs.HoldLaws.{took-unknown, took-twice, took-on}
use native.Mathlib.Omega.{arith}
use Rattle.values.proofs.values.take_value.Goals as goal

pub returns-then-t-r : goal.returns-then-t-r
returns-then-t-r c = λ s sets m h. took-unknown h (record_at c.args.job.now c.args.i) (omega (arith, c.region_at-r.ensures))

pub returns-then-work-stamp : goal.returns-then-work-stamp
returns-then-work-stamp c =
    let a = c.args in
    λ s sets m h. took-twice h (record_at a.job.now a.i) (omega (arith, c.region_at-r.ensures)) a.mark m _ (ap (λ (x : ℕ). get_or a.work.now (a.t.first + x) 0) c.region_at-r.ensures) c.if-work-stamp.true

pub returns : goal.returns
returns c =
    let a = c.args in
    λ s sets m h. took-on h (record_at a.job.now a.i) (omega (arith, c.region_at-r.ensures)) a.mark m _ (ap (λ (x : ℕ). get_or a.work.now (a.t.first + x) 0) c.region_at-r.ensures) c.if-work-stamp.false c.word_at.result c.word_at.ensures _ _ (c.put_value.ensures s sets m h)
