use native.Mathlib.Omega.{arith}
use mathlib.Core.Path.{ap}
use Prim.Native.Nat.{ℕ, ◌*◌}
use Rattle.job_writing.proofs.RecordLaws.{axis-is}
use Rattle.job_writing.proofs.records.put_axis.Goals as goal

pub returns : goal.returns
returns c = rw (axis-is _ (λ k. omega (arith, c.type_inv.s k)) _ _ _ _ _ _ c.requires.record_fits.0 c.requires.record_fits.1 c.head.ensures c.be-first.ensures.is (ap (λ (x : ℕ). x * 65536) c.be.ensures.is)) at c.put_record.ensures
