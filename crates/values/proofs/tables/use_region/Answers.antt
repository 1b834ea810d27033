use borrow.Author.Rules.{rules}
use Prim.Native.Nat.{◌+◌}
use Rattle.values.proofs.UseLaws.{use-known, use-new, use-set}
use mathlib.Core.List.{[], ◌∷◌}
use Rattle.laws.proofs.RangeLaws.{only-refl}
use native.Mathlib.Omega.{arith}
use Rattle.values.proofs.tables.use_region.Goals as goal

pub returns-then-s-ne0 : goal.returns-then-s-ne0
returns-then-s-ne0 c =
    let a = c.args in
    record { by_index = (λ l n u. use-known a.slot a.used a.regions a.count a.q l a.work.now n u (omega arith) (λ e. c.if-s-ne0.true e)); use_kept = record { only = only-refl ((a.slot, a.regions) ∷ (a.used + a.count, 1) ∷ []) a.work.now; small = search rules } }

pub returns : goal.returns
returns c =
    let a = c.args in
    record { by_index = (λ l n u. use-new a.slot a.used a.regions a.count a.q l a.work.now n u (omega arith) (omega arith) (omega arith) c.if-s-ne0.false); use_kept = record { only = use-set a.slot a.used a.regions a.count a.q (a.count + 1) a.q a.work.now (omega arith); small = omega arith } }
