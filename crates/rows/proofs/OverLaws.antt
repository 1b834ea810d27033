-- Laws of bytes put over others, and of loops that put one piece after another. Assumes nothing.
use mathlib.Core.Path.{◌≡◌}
use mathlib.Core.List.{List, [], ◌∷◌, ◌++◌, append_assoc}
use Prim.Native.Nat.{ℕ, ◌+◌, ◌≤◌, ◌<◌}
use native.Mathlib.Nat.{add-zero}
use native.Mathlib.Numerals.{add-one}
use native.Mathlib.Omega.{arith}
use lib.ListN.{length, drop, set, take-append-drop}
use lib.Seq.{set_split}
use Rattle.laws.specs.Bytes.{over}
use Rattle.laws.proofs.BytesLaws.{over-take, over-drop}

pub over_none : (out : List ℕ) (at : ℕ) → over out at 0 [] ≡ out
over_none out at = rw add-zero (take-append-drop at out)

-- one piece behind another
pub over-join : (out : List ℕ) (at : ℕ) (x y : List ℕ) (k l : ℕ) → length x ≡ k → length y ≡ l → at + k + l ≤ length out
    → over (over out at k x) (at + k) l y ≡ over out at (k + l) (x ++ y)
over-join out at x y k l p q h =
    let e : at + k + l ≡ at + (k + l) = omega arith in
    rw (over-take out at k x p (omega arith), over-drop out at k x p (omega arith) (at + k + l) (omega arith), e, append_assoc, append_assoc)

pub set-over : (out : List ℕ) (i v : ℕ) → i < length out → set out i v ≡ over out i 1 (v ∷ [])
set-over out i v h = rw (set_split out i v h, add-one)

-- a front replaced
pub over-front : (out bs : List ℕ) (n : ℕ) → over out 0 n bs ≡ bs ++ drop n out
over-front out bs n = let e : 0 + n ≡ n = omega arith in rw e
