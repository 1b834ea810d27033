-- Why two ids of a job are where they are, by what its records say, built in mode 0 (RULES Z1 to Z4). Assumes nothing.
use Rattle.std.specs.Prelude.{◌&&◌, ℕ, ltb, leb, length}
use Rattle.laws.specs.Pick.{pick}
use Rattle.groups.specs.Groups.{max_shapes}
use Rattle.said.specs.Job.{Outcome, refused, fine}
use Rattle.encoder.specs.Packed.{Packed}
use Rattle.call.specs.Build.{packed_of}
use Rattle.reasons.specs.declared.reason.Reason.{Reason}
use Rattle.reasons.specs.declared.reason.Reason.TheVariants.{None}
use Rattle.reasons.specs.Why.{why_of}

-- of sets that are packed: none where there are too many shapes (R10), or an id is not there
unfoldable pub why_packed : Packed → ℕ → ℕ → Reason
why_packed k a b = pick (leb k.groups max_shapes && (ltb a (length k.sets) && ltb b (length k.sets))) (why_of k.finals a b) None

unfoldable pub why_from : Outcome → ℕ → ℕ → Reason
why_from (refused n i) a b = None
why_from (fine s) a b = why_packed (packed_of 0 s) a b
