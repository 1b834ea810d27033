-- RULES D3, of what `optimize` answers and leaves: a field for each part of it. (That a living group never has the
-- joined shape is `no-fold` of rule's Theorems.antt, for shapes that differ at the start.) Assumes nothing.
use mathlib.Core.Path.{◌≡◌, ◌∙◌}
use mathlib.Core.List.{List}
use Prim.Native.Nat.{ℕ, ◌+◌, ◌-◌, ◌*◌, ◌/◌, ◌≤◌, ◌<◌}
use native.Mathlib.Omega.{arith}
use lib.ListN.{length}
use Rattle.laws.specs.Every.{All, EachTwo}
use Rattle.shapes.specs.Group.{Group}
use Rattle.rule.specs.Model.{gain_of, start, merged}
use Rattle.rule.proofs.Theorems.{Merges, saved, merged-merges, run-total, all-gains-zero, fewer, none-of-none, merged-few, merged-weighed}
use Rattle.rule.proofs.Origins.{homes, one-home, Made, made}
use Rattle.slots.specs.declared.tables.MergeTables.{MergeTables}
use Rattle.slots.specs.Lent.{starting}
use Rattle.merging.specs.LentOptimized.{Optimized}
use Rattle.merging.proofs.Unique.{starting-length}

pub record Demand (t : MergeTables) (merges weighed before after : ℕ) (w : List ℕ) : Type 0 where
  -- M3: each merge's pair gains and is ahead of every living pair; the log has these merges and no others
  pub each : Merges (start (starting t w)) (merged (starting t w))
  -- the modelled size falls by the gains of the log
  pub falls : after + saved (merged (starting t w)).log ≡ before
  -- M6: at the end no two living groups gain
  pub done : EachTwo (λ g h. gain_of g h ≡ 0) (merged (starting t w)).living
  -- fewer merges than groups, and none of none
  pub fewer-merges : 0 < t.groups → merges < t.groups
  pub none-of-none : t.groups ≡ 0 → merges ≡ 0
  -- M7: pairs weighed, and at most (N-1)²
  pub pairs-weighed : weighed ≡ t.groups * (t.groups - 1) / 2 + merges * (t.groups - 1) - merges * (merges + 1) / 2
  pub pairs-most : weighed ≤ (t.groups - 1) * (t.groups - 1)
  -- every starting group is in one living group and in no other, which has their shapes joined and their sets together
  pub one-group : (i : ℕ) → i < t.groups → homes i (merged (starting t w)).living ≡ 1
  pub made_of : All (Made (starting t w)) (merged (starting t w)).living

few : (t : MergeTables) (w : List ℕ) (m : ℕ) → m ≡ (merged (starting t w)).weighed → m ≤ (t.groups - 1) * (t.groups - 1)
few t w m e = let f = rw (starting-length t w) at (merged-few (starting t w)) in omega arith

weighed-by : (n j m : ℕ) (xs : List Group) → length xs ≡ n → j ≡ length (merged xs).log → m ≡ (merged xs).weighed → m ≡ n * (n - 1) / 2 + j * (n - 1) - j * (j + 1) / 2
weighed-by n j m xs e f g = rw (← e, f) (g ∙ merged-weighed xs)

pub demand : (t : MergeTables) (j m b a : ℕ) (w w' : List ℕ) → Optimized t j m b a w w' → Demand t j m b a w
unfolding merged
demand t j m b a w w' o =
    let xs = starting t w in
    let n : length xs ≡ t.groups = starting-length t w in
    let k = length xs in
    let e = o.merges-are in
    record {
      each = merged-merges xs;
      falls = omega (arith, run-total k xs, o.before-is, o.after_is);
      done = all-gains-zero xs;
      fewer-merges = λ l. omega (arith, fewer k xs (omega arith));
      none-of-none = λ z. omega (arith, (none-of-none k xs (n ∙ z)).0);
      pairs-weighed = weighed-by t.groups j m xs n e o.weighed-are;
      pairs-most = few t w m o.weighed-are;
      one-group = λ i l. one-home k xs i (omega arith);
      made_of = made k xs;
    }
