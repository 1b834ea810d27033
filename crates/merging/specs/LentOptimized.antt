-- What `optimize` asks of the words that it is lent, and what it leaves in them: what the rule (rule's specs/Model.antt) makes of the starting groups.
-- Assumes nothing.
use Rattle.std.specs.Prelude.{◌≡◌, List, [], ◌∷◌, ℕ, ◌+◌, ◌*◌, ◌≤◌, ◌<◌, length, get_or}
use Rattle.laws.specs.Bag.{weigh}
use Rattle.laws.specs.Every.{All}
use Rattle.laws.specs.LentRange.{Only, seg}
use Rattle.rule.specs.Model.{start, merged, total}
use Rattle.rule.specs.Told.{Among, words}
use Rattle.slots.specs.declared.tables.MergeTables.{MergeTables}
use Rattle.slots.specs.Lent.{Laid, Shaped, Sound, Dealt, starting}
use Rattle.waits.specs.LentWaits.{place_of}
use Rattle.merging.specs.LentHeld.{Lives, Reaches, written}

-- The starting groups lie in slots of their own, in narrow shapes, and their sets together fit a word.
pub record Ready (t : MergeTables) (w : List ℕ) : Type 0 where
  pub shaped : Shaped t w
  pub dealt : Dealt t w
  pub sets-few : weigh (λ x. x.sets) (starting t w) < 4294967296

-- Only the tables changed. The log, the counts and the living groups are the rule's, each living group stands in a slot of its own, no other number
-- lives, and for each starting group the number of the living group that it went into is noted.
pub record Optimized (t : MergeTables) (merges weighed before after : ℕ) (w w' : List ℕ) : Type 0 where
  pub only : Only (written t) w w'
  pub merges-are : merges ≡ length (merged (starting t w)).log
  pub weighed-are : weighed ≡ (merged (starting t w)).weighed
  pub before-is : before ≡ total (start (starting t w)).living
  pub after_is : after ≡ total (merged (starting t w)).living
  pub log_is : seg t.log (3 * merges) w' ≡ words (merged (starting t w)).log
  pub lives : All (Lives t w') (merged (starting t w)).living
  pub others-dead : (c : ℕ) → c < t.groups + merges → 0 < place_of t w' c → Among (merged (starting t w)).living c
  pub apart : (c d : ℕ) → c < d → d < t.groups + merges → 0 < place_of t w' c → place_of t w' c ≡ place_of t w' d → ⊥
  pub sound : Sound t w'
  pub homes : All (λ g. All (λ i. get_or w' (t.into + i) 0 ≡ g.num) g.origins) (merged (starting t w)).living

-- ---- of the private functions

-- number i lives in the slot of starting group i
pub record GroupsPlaced (t : MergeTables) (w w' : List ℕ) : Type 0 where
  pub only : Only ((t.place, t.groups) ∷ []) w w'
  pub is : (i : ℕ) → i < t.groups → place_of t w' i ≡ get_or w (t.order + i) 0 + 1

-- a dead number below k was joined into a later one
pub record Onward (t : MergeTables) (k : ℕ) (w : List ℕ) : Type 0 where
  pub laid : Laid t (length w)
  pub most : k ≤ 2 * t.groups
  pub later : (c : ℕ) → c < k → place_of t w c ≡ 0 → (c < get_or w (t.into + c) 0) × (get_or w (t.into + c) 0 < k)

-- number c's heir is its heir's heir, or itself where it lives
pub record Resolved (t : MergeTables) (c : ℕ) (w w' : List ℕ) : Type 0 where
  pub only : Only ((t.into + c, 1) ∷ []) w w'
  pub dead : place_of t w c ≡ 0 → get_or w' (t.into + c) 0 ≡ get_or w (t.into + get_or w (t.into + c) 0) 0
  pub alive : (place_of t w c ≡ 0 → ⊥) → get_or w' (t.into + c) 0 ≡ c

-- the heir of each number below k is the living one that it reaches
pub record AllResolved (t : MergeTables) (k : ℕ) (w w' : List ℕ) : Type 0 where
  pub only : Only ((t.into, 2 * t.groups) ∷ []) w w'
  pub is : (c d : ℕ) → Reaches t k w c d → get_or w' (t.into + c) 0 ≡ d
