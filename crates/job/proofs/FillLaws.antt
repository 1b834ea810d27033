-- Words that are filled by a part of them. Assumes nothing.
use mathlib.Core.Path.{◌≡◌}
use mathlib.Core.List.{List, ◌++◌, append-nil}
use Prim.Native.Nat.{ℕ}
use native.Mathlib.Omega.{arith}
use lib.ListN.{length, take, drop, replicate, drop_of_length-le}
use Rattle.std.proofs.lemmas.List.{take_all}

-- the first n made zero are all, where n is as long: an answer that cites it holds of a body that fills such a part too, so that a shorter part is
-- refused for its length alone
pub filled-part : (n m : ℕ) (w f : List ℕ) → f ≡ replicate (length (take n w)) 0 → n ≡ length w → m ≡ length w → f ++ drop n w ≡ replicate m 0
filled-part n m w f h e g = rw (g, drop_of_length-le w {i = n} (omega (arith, e)), append-nil f) (rw (take_all n w (omega (arith, e))) at h)
