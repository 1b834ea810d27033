-- What a caller has of `optimize`: where each starting group is at the end, and that nothing of it is left open but where in the tables it lies.
-- Assumes nothing.
use mathlib.Core.Path.{◌≡◌, sym, ◌∙◌}
use mathlib.Core.List.{List, Memᴰ}
use Prim.Native.Nat.{ℕ, ◌+◌, ◌*◌, ◌<◌}
use lib.ListN.{length, get_or}
use Rattle.laws.specs.Every.{All}
use Rattle.laws.specs.LentRange.{seg}
use Rattle.laws.proofs.BoundedLaws.{length-tabulate}
use Rattle.laws.proofs.EveryLaws.{all-imp, all-and}
use Rattle.rule.specs.Model.{Living, merged}
use Rattle.rule.proofs.Origins.{Home, home}
use Rattle.rule.proofs.Bridge.{has}
use Rattle.slots.specs.declared.tables.MergeTables.{MergeTables}
use Rattle.slots.specs.Lent.{group_in, starting}
use Rattle.waits.specs.LentWaits.{group_of}
use Rattle.merging.specs.LentHeld.{Lives}
use Rattle.merging.specs.LentOptimized.{Optimized}

pub starting-length : (t : MergeTables) (w : List ℕ) → length (starting t w) ≡ t.groups
unfolding starting
starting-length t w = length-tabulate 0 t.groups (λ i. group_in t w (get_or w (t.order + i) 0))

-- the living group that starting group i went into, its number, and its slot
pub record Final (t : MergeTables) (i : ℕ) (w w' : List ℕ) : Type 0 where
  pub group : Living
  pub here : Memᴰ group (merged (starting t w)).living
  pub origin : Memᴰ i group.origins
  pub num-is : get_or w' (t.into + i) 0 ≡ group.num
  pub lives : Lives t w' group

home-end : (t : MergeTables) (w : List ℕ) (i : ℕ) → i < t.groups → Home (merged (starting t w)).living i
unfolding merged
home-end t w i l = home (length (starting t w)) (starting t w) i (rw (starting-length t w) l)

pub final : (t : MergeTables) (j m b a i : ℕ) (w w' : List ℕ) → Optimized t j m b a w w' → i < t.groups → Final t i w w'
final t j m b a i w w' o l =
    let h = home-end t w i l in
    record {
      group = h.group;
      here = h.here;
      origin = h.origin;
      num-is = has (λ k. get_or w' (t.into + k) 0 ≡ h.group.num) h.group.origins (has _ (merged (starting t w)).living o.homes h.group h.here) i h.origin;
      lives = has (Lives t w') (merged (starting t w)).living o.lives h.group h.here;
    }

-- two runs from the same words: the same counts, log, final groups and living groups
pub record Agree (t : MergeTables) (j m b a j' m' b' a' : ℕ) (w u v : List ℕ) : Type 0 where
  pub merges : j ≡ j'
  pub weighed : m ≡ m'
  pub before : b ≡ b'
  pub after : a ≡ a'
  pub log : seg t.log (3 * j) u ≡ seg t.log (3 * j') v
  pub into : (i : ℕ) → i < t.groups → get_or u (t.into + i) 0 ≡ get_or v (t.into + i) 0
  pub living : All (λ g. group_of t u g.num ≡ group_of t v g.num) (merged (starting t w)).living

pub unique : (t : MergeTables) (j m b a j' m' b' a' : ℕ) (w u v : List ℕ) → Optimized t j m b a w u → Optimized t j' m' b' a' w v → Agree t j m b a j' m' b' a' w u v
unique t j m b a j' m' b' a' w u v p q = record {
  merges = p.merges-are ∙ sym q.merges-are;
  weighed = p.weighed-are ∙ sym q.weighed-are;
  before = p.before-is ∙ sym q.before-is;
  after = p.after_is ∙ sym q.after_is;
  log = p.log_is ∙ sym q.log_is;
  into = λ i l.
      let h = home-end t w i l in
      let x = has _ (merged (starting t w)).living p.homes h.group h.here in
      let y = has _ (merged (starting t w)).living q.homes h.group h.here in
      has (λ k. get_or u (t.into + k) 0 ≡ h.group.num) h.group.origins x i h.origin
      ∙ sym (has (λ k. get_or v (t.into + k) 0 ≡ h.group.num) h.group.origins y i h.origin);
  living = all-imp (λ g r. r.0.is ∙ sym r.1.is) (merged (starting t w)).living (all-and (Lives t u) (Lives t v) (merged (starting t w)).living p.lives q.lives);
}
