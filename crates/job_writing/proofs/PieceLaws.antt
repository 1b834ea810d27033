-- The next piece of what is to be put. Assumes nothing.
use mathlib.Core.Path.{◌≡◌, refl, sym, ap, ◌∙◌}
use mathlib.Core.List.{List, [], ◌++◌, append-nil}
use Prim.Native.Nat.{ℕ, ◌+◌, ◌≤◌}
use native.Mathlib.Omega.{arith}
use lib.ListN.{length, length-append}
use Rattle.rows.specs.Lent.{Put}
use Rattle.rows.proofs.OverLaws.{over_none}
use Rattle.rows.proofs.PutLaws.{Putting, put-more, put-done}

module _ {at : ℕ} {all old new : List ℕ} {n : ℕ} {left : List ℕ} (x rest : List ℕ) (room : at + length all ≤ length old) (p : Putting at all old new n left) (e : left ≡ x ++ rest) where
  -- there is room for it
  pub piece-room : n + length x ≤ length new
  piece-room = omega (arith, p.long, p.end, ap length e, length-append x rest)

  pub piece-put : {next : List ℕ} {r : ℕ} → Put n x new next r → Putting at all old next r rest
  piece-put {next} {r} q = rw q.end (put-more at all old new n x rest next (length x) room (rw e at p) refl q.is)

-- nothing is left
pub piece-done : {at : ℕ} {all old new : List ℕ} {n : ℕ} {left : List ℕ} → Putting at all old new n left → left ≡ [] → Put at all old new n
piece-done {at} {all} {old} {new} {n} {left} p e = put-done at all old new n left p e

-- a piece that is the last
pub piece-last : {at : ℕ} {all old new next : List ℕ} {n r : ℕ} {left : List ℕ} (x : List ℕ) → at + length all ≤ length old → Putting at all old new n left → left ≡ x → Put n x new next r → Put at all old next r
piece-last {at} {all} {old} {new} {next} {n} {r} {left} x room p e q =
    piece-done (piece-put x [] room p (e ∙ sym (append-nil x)) q) refl

pub last-room : {at : ℕ} {all old new : List ℕ} {n : ℕ} {left x : List ℕ} → at + length all ≤ length old → Putting at all old new n left → left ≡ x → n + length x ≤ length new
last-room {at} {all} {old} {new} {n} {left} {x} room p e = omega (arith, p.long, p.end, ap length e)

pub from_zero : {n m : ℕ} → n ≤ m → 0 + n ≤ m
from_zero h = omega arith

-- nothing put
pub put-nothing : (at : ℕ) (x old : List ℕ) → x ≡ [] → Put at x old old at
put-nothing at x old e = rw e (record { end = omega arith; is = sym (over_none old at) })
