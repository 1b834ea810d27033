use Rattle.finishing.proofs.FinishLaws.{report-made}
use Rattle.finishing.proofs.measuring.report.Goals as goal

pub returns : goal.returns
returns c = let a = c.args in report-made a.e a.plan.bytes a.plan.runs a.plan.kept
