-- How long a part is that starts somewhere. Assumes nothing.
use mathlib.Core.Path.{◌≡◌}
use Prim.Native.Nat.{ℕ, ◌+◌, ◌-◌}
use native.Mathlib.Nat.{add-sub_cancel_left}

pub one_long : (at long : ℕ) → at + long - at ≡ long
one_long at long = add-sub_cancel_left at long
