use Prim.Native.Nat.{◌<◌, ◌^◌}
use mathlib.Core.Path.{◌≡◌}
use Rattle.laws.specs.Bytes.{be}
use Rattle.reader.proofs.bytes.be.Given as goal

abbrev pub invariant-loop-byte : goal.invariant-loop-byte
invariant-loop-byte l = (l.x ≡ be l.byte-index l.fn.s l.at) × (l.x < 256 ^ l.byte-index)
