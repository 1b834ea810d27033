use Rattle.job_scan.proofs.ReadingLaws.{stands-start, record-fits, stands-more, read-stopped, read-open, read-fine}
use native.Mathlib.Omega.{arith}
use Rattle.job_scan.proofs.reading.read_sets.Goals as goal

pub loop-i-init : goal.loop-i-init
loop-i-init c =
    let a = c.args in
    let p = c.requires in
    stands-start a.axes a.mode a.job.now a.records a.from a.t a.work.now p.room p.from_le_records.0 p.from_le_records.3 p.holds c.begin-f.result c.begin-f.ensures

pub read_record-requires-clause-record_fits : goal.read_record-requires-clause-record_fits
read_record-requires-clause-record_fits c =
    let a = c.args in
    record-fits a.axes a.mode a.job.now a.records a.from a.t a.work.now c.requires.room c.loop-i.invariant (omega arith)

pub returns-in-Err : goal.returns-in-Err
returns-in-Err c =
    let a = c.args in
    let n = c.loop-i.invariant in
    read-stopped a.axes a.mode a.job.now a.records a.from a.t a.work.now c.requires.room n (omega arith) _ c.in-Err.refusal (c.in-Err.ensures n.said n.reached)

pub loop-i-preserved : goal.loop-i-preserved
loop-i-preserved c =
    let a = c.args in
    let n = c.loop-i.invariant in
    stands-more a.axes a.mode a.job.now a.records a.from a.t a.work.now c.requires.room n (omega arith) _ c.in-Ok.next (c.in-Ok.ensures n.said n.reached)

pub returns-then-f : goal.returns-then-f
returns-then-f c =
    let a = c.args in
    read-open a.axes a.mode a.job.now a.records a.from a.t a.work.now c.requires.room c.loop-i.invariant (omega arith) c.if-f.true

pub returns : goal.returns
returns c =
    let a = c.args in
    read-fine a.axes a.mode a.job.now a.records a.from a.t a.work.now c.requires.room c.loop-i.invariant (omega arith) c.if-f.false
