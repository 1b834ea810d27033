use mathlib.Core.Path.{◌≡◌, ap, ◌∙◌}
use mathlib.Core.List.{List, ◌++◌}
use Prim.Native.Nat.{ℕ, ◌+◌}
use native.Mathlib.Omega.{arith}
use lib.ListN.{drop}
use Rattle.store.proofs.GroupLaws.{part-seg}
use Rattle.finishing.proofs.finishing.copy_words.Goals as goal

pub returns : goal.returns
returns c =
    let a = c.args in
    let z : 0 + a.n ≡ a.n = omega arith in
    rw z (ap (λ (x : List ℕ). x ++ drop a.n a.to.now) (c.copy_slice.ensures ∙ part-seg a.from a.n a.work.now))
