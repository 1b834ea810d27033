use Prim.Native.Nat.{◌+◌, ◌-◌, ◌%◌, ◌≤◌, ◌<◌}
use mathlib.Core.Path.{◌≡◌, ◌∙◌}
use mathlib.Core.Logic.{⊎_elim}
use native.Mathlib.Omega.{arith}
use Rattle.laws.proofs.Cases.{lt-or-ge}
use Rattle.rows.proofs.RowLaws.{twos-below, twos-above}
use Rattle.subtables.proofs.row.twos.Goals as goal

pub returns : goal.returns
returns c =
    let w = c.args.word in
    ⊎_elim
    (λ (h : w < 2147483648). let e : (w + 2147483648) % 4294967296 ≡ w + 2147483648 = omega arith in e ∙ twos-below w h)
    (λ (h : 2147483648 ≤ w). let e : (w + 2147483648) % 4294967296 ≡ w - 2147483648 = omega arith in e ∙ twos-above w h)
    (lt-or-ge w 2147483648)
