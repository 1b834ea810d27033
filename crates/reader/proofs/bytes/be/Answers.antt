use mathlib.Core.Path.{◌≡◌}
use native.Mathlib.Numerals.{add-one}
use native.Mathlib.Omega.{arith}
use Rattle.laws.specs.Bytes.{be}
use Rattle.laws.proofs.BytesLaws.{pow-top, pow-next}
use Rattle.std.proofs.lemmas.Grind.{common_steps}
use lib.ListN.{get_or}
use Prim.Native.Nat.{◌+◌}
use Rattle.reader.proofs.bytes.be.Goals as goal

pub overflow_mul-x : goal.overflow_mul-x
overflow_mul-x c = omega (arith, pow-top 3 {i = c.loop-byte.byte-index} (omega arith))

pub overflow_add-x : goal.overflow_add-x
overflow_add-x c = omega (arith, pow-top 3 {i = c.loop-byte.byte-index} (omega arith))

pub loop-byte-preserved : goal.loop-byte-preserved
unfolding be
loop-byte-preserved c =
    let i = c.loop-byte.byte-index in
    let e : c.from.result ≡ get_or c.args.s.now (c.args.at + i) 0 = grind (arith, common_steps) in
    (rw add-one (cc), omega (arith, pow-next i))
