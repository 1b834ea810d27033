-- The header of the store is put. Assumes nothing.
use mathlib.Core.Path.{◌≡◌, ◌∙◌}
use mathlib.Core.List.{List, ◌++◌}
use Prim.Native.Nat.{ℕ, ◌+◌, ◌*◌, ◌≤◌}
use native.Mathlib.Omega.{arith}
use lib.ListN.{length, length-append}
use Rattle.laws.specs.Bytes.{bytes_of, over}
use Rattle.laws.proofs.BytesLaws.{bytes-length}
use Rattle.rows.specs.Lent.{Put}
use Rattle.store.specs.Lent.{header_bytes}
use Rattle.rows.proofs.PutLaws.{put-start, put-more, put_last}

pub header-put : (runs : ℕ) (o p q r : List ℕ) → 8 ≤ length o
    → p ≡ over o 0 2 (bytes_of 2 1) → q ≡ over p 2 4 (bytes_of 4 (8 + 4 * runs)) → r ≡ over q 6 2 (bytes_of 2 runs) → Put 0 (header_bytes runs) o r 8
header-put runs o p q r room e f g =
    let a = bytes_of 2 1 in
    let b = bytes_of 4 (8 + 4 * runs) in
    let c = bytes_of 2 runs in
    let la = bytes-length 2 1 in
    let lb = bytes-length 4 (8 + 4 * runs) in
    let lc = bytes-length 2 runs in
    let n : length (a ++ (b ++ c)) ≡ 8 = length-append a (b ++ c) ∙ omega (arith, length-append b c) in
    let h : 0 + length (a ++ (b ++ c)) ≤ length o = omega arith in
    let p1 = put-more 0 (a ++ (b ++ c)) o o 0 a (b ++ c) p 2 h (put-start 0 (a ++ (b ++ c)) o) la e in
    let p2 = put-more 0 (a ++ (b ++ c)) o p 2 b c q 4 h p1 lb f in
    put_last 0 (a ++ (b ++ c)) o q 6 c r 2 p2 lc g
