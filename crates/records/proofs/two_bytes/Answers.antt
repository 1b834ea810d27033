use Rattle.said.proofs.RecordLaws.{be-two}
use native.Mathlib.Omega.{arith}
use Rattle.records.proofs.two_bytes.Goals as goal

pub returns-clause-value : goal.returns-clause-value
returns-clause-value c =
    let e = be-two c.args.rec.now c.args.p in
    omega arith
