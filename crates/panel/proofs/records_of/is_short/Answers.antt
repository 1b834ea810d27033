use Rattle.said.specs.Records.{record_at}
use Rattle.panel.proofs.OddLaws.{short-low, short-high, short-in}
use native.Mathlib.Omega.{arith}
use Rattle.panel.proofs.records_of.is_short.Goals as goal

pub returns-then-w-lt2147450880 : goal.returns-then-w-lt2147450880
returns-then-w-lt2147450880 c = let a = c.args in short-low (record_at a.job.now a.i) c.word_at-w.result c.word_at-w.ensures c.if-w-lt2147450880.true

pub returns-then-w-gt2147516415 : goal.returns-then-w-gt2147516415
returns-then-w-gt2147516415 c = let a = c.args in short-high (record_at a.job.now a.i) c.word_at-w.result c.word_at-w.ensures c.if-w-gt2147516415.true

pub returns : goal.returns
returns c = let a = c.args in short-in (record_at a.job.now a.i) c.word_at-w.result c.word_at-w.ensures (omega (arith, c.if-w-lt2147450880.false)) (omega (arith, c.if-w-gt2147516415.false))
