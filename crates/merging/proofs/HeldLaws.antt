-- The state of the rule in the tables: where the best pair is taken, and where it is passed over. Assumes nothing.
use mathlib.Core.Path.{◌≡◌, ap}
use mathlib.Core.Logic.{◌⊎◌, ⊎_elim}
use mathlib.Core.List.{List}
use Prim.Native.Nat.{ℕ, ◌+◌, ◌-◌, ◌*◌, ◌≤◌}
use native.Mathlib.Omega.{arith}
use lib.ListN.{length}
use Rattle.laws.proofs.Cases.{same_or_not}
use Rattle.shapes.specs.Group.{Group}
use Rattle.rule.specs.Model.{start, run}
use Rattle.rule.proofs.Theorems.{run-count, fewer}
use Rattle.pairs.specs.declared.Pair.{Pair}
use Rattle.pairs.specs.LentQueue.{Popped}
use Rattle.pairs.proofs.Content.{take-best, take-keeps, take-only}
use Rattle.slots.specs.declared.tables.MergeTables.{MergeTables}
use Rattle.waits.specs.LentWaits.{place_of, pair_of}
use Rattle.merging.specs.LentHeld.{Held, Standing, Chosen}

-- ---- as many merges as groups, at most

pub merges-few : (t : MergeTables) (xs : List Group) (j : ℕ) (w : List ℕ) → length xs ≡ t.groups → Held t (run j (start xs)) j w → t.groups + j ≤ 2 * t.groups
merges-few t xs j w e h = omega (arith, run-count j xs, h.log-long)

-- fewer than groups, where there are any
pub merges-less : (t : MergeTables) (xs : List Group) (j : ℕ) (w : List ℕ) → length xs ≡ t.groups → Held t (run j (start xs)) j w → j ≤ t.groups - 1
merges-less t xs j w e h =
    ⊎_elim (λ (z : t.groups ≡ 0). omega (arith, run-count j xs, h.log-long)) (λ n. omega (arith, fewer j xs (omega arith), h.log-long)) (same_or_not t.groups 0)

-- ---- the best pair was taken

pub chosen-taken : (t : MergeTables) (xs : List Group) (n m j z : ℕ) (p : Pair) (w : List ℕ) (ps ps' : List Pair) → Standing t xs n m j z w ps → Popped ps n p ps' → Chosen t xs (n - 1) m j z p w ps'
chosen-taken t xs n m j z p w ps ps' s q = record {
  many = s.many;
  sets-few = s.sets-few;
  held = s.held;
  ordered = q.ordered;
  own = s.waits.fair p q.has;
  best = λ a b r x y u. take-best q (s.waits.all a b r x y u);
  rest = λ a b r x y u. take-keeps q (s.waits.all a b r x y u);
  fair = λ v u. s.waits.fair v (take-only q u);
  weighed = s.weighed;
  few = omega (arith, s.few, q.some);
  size_is = s.size_is;
}

-- ---- one of its two is dead

pub chosen-dead : (t : MergeTables) (xs : List Group) (n m j z : ℕ) (p : Pair) (w : List ℕ) (ps : List Pair) → Chosen t xs n m j z p w ps
    → (place_of t w p.first ≡ 0) ⊎ (place_of t w p.second ≡ 0) → Standing t xs n m j z w ps
chosen-dead t xs n m j z p w ps c d = record {
  many = c.many;
  sets-few = c.sets-few;
  held = c.held;
  waits = record {
    ordered = c.ordered;
    all = λ a b r x y u. ⊎_elim
        (λ (e : pair_of t w a b ≡ p).
        let ea = ap (λ (v : Pair). place_of t w v.first) e in
        let eb = ap (λ (v : Pair). place_of t w v.second) e in
        absurd (⊎_elim (λ q. omega arith) (λ q. omega arith) d))
        (λ g. g)
        (c.rest a b r x y u);
    fair = c.fair;
  };
  weighed = c.weighed;
  few = omega (arith, c.few);
  size_is = c.size_is;
}
