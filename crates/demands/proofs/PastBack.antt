-- Behind what a done build writes all is as it was, in both modes (specs/Past.antt). Assumes nothing.
use mathlib.Core.Path.{◌≡◌, sym}
use lib.ListN.{length}
use Rattle.told.proofs.Bytes.{told}
use Rattle.finishing.specs.declared.answers.Report.{Report}
use Rattle.finishing.specs.Answers.{Done}
use Rattle.call.specs.Lending.{Lending}
use Rattle.call.specs.Build.{answer_of}
use Rattle.accepted.proofs.Accepted.{accepted}
use Rattle.accepted.proofs.PastLaws.{out-past, ids-past, map-past, log-past, origins-past}
use Rattle.refusing.specs.Counts.{end_records}
use Rattle.demands.specs.Past.{PastKept}

-- THE LAW
pub past-kept : (c : Lending) (r : Report) → answer_of c ≡ Done r → PastKept c r
past-kept c r e =
    let a = accepted c r e in
    let t = told c.axes c.mode c.job (length c.work) (length c.pairs) a.said a.said-is in
    record {
      out-kept = out-past c r a;
      ids-kept = ids-past c r a (end_records c.job) (sym t.sets-are);
      map-kept = map-past c r a;
      log-kept = log-past c r a;
      origins-kept = origins-past c r a;
    }
