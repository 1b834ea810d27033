use Prim.Native.Nat.{◌+◌, ◌*◌}
use Rattle.said.proofs.RecordLaws.{be-four, word_low, word-high}
use native.Mathlib.Omega.{arith}
use Rattle.records.proofs.value_word.Goals as goal

pub returns-then-x-lt2147483648 : goal.returns-then-x-lt2147483648
returns-then-x-lt2147483648 c =
    let a = c.two_bytes in
    let b = c.two_bytes-2 in
    let r = c.args.rec.now in
    let x = a.ensures.value in
    let y = b.ensures.value in
    let e = be-four r in
    word_low r (a.result * 65536 + b.result) (omega arith) (omega arith)

pub returns : goal.returns
returns c =
    let a = c.two_bytes in
    let b = c.two_bytes-2 in
    let r = c.args.rec.now in
    let x = a.ensures.value in
    let y = b.ensures.value in
    let e = be-four r in
    word-high r (a.result * 65536 + b.result) (omega arith) (omega (arith, a.ensures.upper_bound, b.ensures.upper_bound)) (omega arith)
