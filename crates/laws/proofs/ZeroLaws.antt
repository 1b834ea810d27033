-- Words made zero. Assumes nothing.
use mathlib.Core.Path.{◌≡◌, sym, ◌∙◌}
use mathlib.Core.List.{List}
use Prim.Native.Nat.{ℕ, ◌+◌, ◌≤◌, ◌<◌}
use native.Mathlib.Omega.{arith}
use lib.ListN.{length, replicate, length-replicate, get_or-replicate}
use lib.Seq.{ext_get_or}
use Rattle.laws.specs.LentRange.{Zeroed, seg}
use Rattle.laws.proofs.RangeLaws.{length-seg, get_or-seg}

-- as a part of the list
pub zeroed-part : {at n : ℕ} {old new : List ℕ} → Zeroed at n old new → at + n ≤ length old → seg at n new ≡ replicate n 0
zeroed-part {at} {n} {old} {new} z room =
    let l = length-seg at n new (omega (arith, z.only.long)) in
    ext_get_or 0 (seg at n new) (replicate n 0) (l ∙ sym (length-replicate n 0))
    (λ k p. let b : k < n = omega arith in get_or-seg at n new k b ∙ z.is k b ∙ sym (get_or-replicate n k 0 0 b))
