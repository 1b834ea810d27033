use native.Mathlib.Omega.{arith}
use Rattle.reader.proofs.MarkLaws.{no-marks}
use Rattle.reader.proofs.marks.among.Goals as goal

pub named_once-requires : goal.named_once-requires
named_once-requires g c = record { n_bound = omega arith; n_in_bounds = omega arith; no_marks = no-marks _ _ (λ x l m. omega arith) }
