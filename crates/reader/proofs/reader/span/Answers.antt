use Prim.Native.Nat.{ℕ, zero, suc, ◌*◌, ◌%◌, ◌^◌, ◌≤◌}
use mathlib.Core.Path.{◌≡◌, refl}
use native.Mathlib.Omega.{arith}
use Rattle.reader.proofs.reader.span.Goals as goal

bits : (k : ℕ) → k ≤ 4 → 1 * 2 ^ (8 * k) % 18446744073709551616 ≡ 256 ^ k
bits zero h = refl
bits (suc zero) h = refl
bits (suc (suc zero)) h = refl
bits (suc (suc (suc zero))) h = refl
bits (suc (suc (suc (suc zero)))) h = refl
bits (suc (suc (suc (suc (suc k))))) h = absurd (omega arith)

pub returns : goal.returns
returns c = bits c.args.k c.requires
