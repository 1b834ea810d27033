-- What `?` hands on is the refusal that it was given. Assumes nothing.
use Rattle.std.specs.Prelude.{◌≡◌, Result, Ok, Err, IsErrAnd}
use mathlib.Core.Path.{ap}

pub passed : {T E : Type 0} {x : E} (r : Result T E) → IsErrAnd r (λ y. y ≡ x) → r ≡ Err x
passed (Ok v) e = absurd e
passed (Err y) e = ap Err e
