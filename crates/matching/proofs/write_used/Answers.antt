use mathlib.Core.Path.{sym, ◌∙◌}
use Prim.Native.Nat.{◌*◌}
use lib.ListN.{drop}
use Rattle.laws.proofs.BytesLaws.{be-drop}
use Rattle.said.specs.Records.{coord_place}
use Rattle.said.specs.Sets.{coordinates}
use Rattle.job_scan.proofs.WriteLaws.{writing_start, writing_more, writing-done}
use Rattle.said.proofs.RegionLaws.{coords-length, coords-at}
use native.Mathlib.Omega.{arith}
use Rattle.matching.proofs.write_used.Goals as goal

pub loop-k-init : goal.loop-k-init
loop-k-init c = writing_start _ _ _ _ (omega arith) (coords-length c.args.axes (drop c.args.p c.args.job.now))

pub loop-k-preserved : goal.loop-k-preserved
loop-k-preserved c =
    let a = c.args in
    let l = c.loop-k in
    let b = c.coordinate-v in
    writing_more a.at (3 * a.axes) (coordinates a.axes (drop a.p a.job.now)) a.work.now (omega arith) (coords-length a.axes (drop a.p a.job.now))
    l.work l.k b.result l.invariant (omega arith)
    (b.ensures.value
    ∙ sym (be-drop 2 a.p a.job.now (coord_place l.k))
    ∙ sym (coords-at a.axes (drop a.p a.job.now) l.k (omega arith)))
    b.ensures.upper_bound

pub returns : goal.returns
returns c =
    let a = c.args in
    writing-done a.at (3 * a.axes) (coordinates a.axes (drop a.p a.job.now)) a.work.now (omega arith) (coords-length a.axes (drop a.p a.job.now))
    c.loop-k.work c.loop-k.k c.loop-k.invariant (omega arith)
