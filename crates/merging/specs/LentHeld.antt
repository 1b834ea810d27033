-- A state of the rule (rule's specs/Model.antt) in lent words and pair records. Assumes nothing.
use Rattle.std.specs.Prelude.{◌≡◌, ◌≢◌, ◌⊎◌, List, [], ◌∷◌, ℕ, ◌+◌, ◌-◌, ◌*◌, ◌≤◌, ◌<◌, length, get_or}
use Rattle.laws.specs.Bag.{sum, weigh}
use Rattle.laws.specs.Every.{All}
use Rattle.laws.specs.LentRange.{Only, seg}
use Rattle.shapes.specs.Group.{Group, gain, joined}
use Rattle.planes.specs.Plane.{plane_words}
use Rattle.rule.specs.Model.{Living, State, start, run, total}
use Rattle.rule.specs.Told.{Among, words}
use Rattle.pairs.specs.declared.Pair.{Pair}
use Rattle.pairs.specs.LentQueue.{AtLeast, HeapOrdered, Has, SameFrom}
use Rattle.slots.specs.declared.tables.MergeTables.{MergeTables}
use Rattle.slots.specs.Lent.{Sound, group_in}
use Rattle.waits.specs.LentWaits.{room, place_of, group_of, alive, pair_of, Placed, Reached, Fair, Waits}

-- the group lies in the slot of its number
pub record Lives (t : MergeTables) (w : List ℕ) (g : Living) : Type 0 where
  pub known : g.num < 2 * t.groups
  pub alive : 0 < place_of t w g.num
  pub slot : place_of t w g.num ≤ t.groups
  pub is : group_of t w g.num ≡ g.group

-- number c was joined into one that was joined into .. d, which lives; all below k
pub data Reaches (t : MergeTables) (k : ℕ) (w : List ℕ) : ℕ → ℕ → Type 0 where
  here : (c : ℕ) → c < k → 0 < place_of t w c → Reaches t k w c c
  onto : (c d : ℕ) → c < k → place_of t w c ≡ 0 → Reaches t k w (get_or w (t.into + c) 0) d → Reaches t k w c d

-- the state s, after j merges, lies in the tables
pub record Held (t : MergeTables) (s : State) (j : ℕ) (w : List ℕ) : Type 0 where
  pub sound : Sound t w
  pub next-is : s.next ≡ t.groups + j
  pub log-long : length s.log ≡ j
  pub placed : Placed t (t.groups + j) w
  pub apart : (c d : ℕ) → c < d → d < t.groups + j → 0 < place_of t w c → place_of t w c ≡ place_of t w d → ⊥
  pub lives : All (Lives t w) s.living
  pub found : (c : ℕ) → c < t.groups + j → 0 < place_of t w c → Among s.living c
  pub counted : sum (alive t w) (t.groups + j) ≡ length s.living
  pub log_is : seg t.log (3 * j) w ≡ words s.log
  pub onward : (c : ℕ) → c < t.groups + j → place_of t w c ≡ 0 → (c < get_or w (t.into + c) 0) × (get_or w (t.into + c) 0 < t.groups + j)
  pub homes : All (λ g. All (λ i. Reaches t (t.groups + j) w i g.num) g.origins) s.living

-- The run of the groups xs, after j merges: n pairs wait, m were weighed, and the groups cost z together.
pub record Standing (t : MergeTables) (xs : List Group) (n m j z : ℕ) (w : List ℕ) (ps : List Pair) : Type 0 where
  pub many : length xs ≡ t.groups
  pub sets-few : weigh (λ x. x.sets) xs < 4294967296
  pub held : Held t (run j (start xs)) j w
  pub waits : Waits t (t.groups + j) 0 n w ps
  pub weighed : m ≡ (run j (start xs)).weighed
  pub few : n ≤ m
  pub size_is : z ≡ total (run j (start xs)).living

-- the same, when p has just been taken
pub record Chosen (t : MergeTables) (xs : List Group) (n m j z : ℕ) (p : Pair) (w : List ℕ) (ps : List Pair) : Type 0 where
  pub many : length xs ≡ t.groups
  pub sets-few : weigh (λ x. x.sets) xs < 4294967296
  pub held : Held t (run j (start xs)) j w
  pub ordered : HeapOrdered ps n
  pub own : Fair t (t.groups + j) 0 w p
  pub best : (a b : ℕ) → Reached (t.groups + j) 0 a b → 0 < place_of t w a → 0 < place_of t w b → 0 < gain (group_of t w a) (group_of t w b) → AtLeast p (pair_of t w a b)
  pub rest : (a b : ℕ) → Reached (t.groups + j) 0 a b → 0 < place_of t w a → 0 < place_of t w b → 0 < gain (group_of t w a) (group_of t w b)
      → (pair_of t w a b ≡ p) ⊎ Has ps n (pair_of t w a b)
  pub fair : (q : Pair) → Has ps n q → Fair t (t.groups + j) 0 w q
  pub weighed : m ≡ (run j (start xs)).weighed
  pub few : n + 1 ≤ m
  pub size_is : z ≡ total (run j (start xs)).living

-- the tables that a merge writes
abbrev pub written : MergeTables → List (ℕ × ℕ)
written t =
    (t.slots, t.groups * t.regions)
    ∷ (t.counts, t.groups)
    ∷ (t.place, 2 * t.groups)
    ∷ (t.costs, t.groups)
    ∷ (t.columns, t.groups)
    ∷ (t.into, 2 * t.groups)
    ∷ (t.log, 3 * (t.groups - 1))
    ∷ (t.planes, t.groups * plane_words t.regions)
    ∷ []

-- numbers a and b died, and number k, in the slot that a had, is what they became
pub record Retired (t : MergeTables) (a b k v : ℕ) (w w' : List ℕ) : Type 0 where
  pub only : Only ((t.place, 2 * t.groups) ∷ (t.into, 2 * t.groups) ∷ []) w w'
  pub first-dead : place_of t w' a ≡ 0
  pub second-dead : place_of t w' b ≡ 0
  pub new : place_of t w' k ≡ v
  pub others : (c : ℕ) → c ≢ a → c ≢ b → c ≢ k → c < 2 * t.groups → place_of t w' c ≡ place_of t w c
  pub first-into : get_or w' (t.into + a) 0 ≡ k
  pub second-into : get_or w' (t.into + b) 0 ≡ k
  pub others-into : (c : ℕ) → c ≢ a → c ≢ b → c < 2 * t.groups → get_or w' (t.into + c) 0 ≡ get_or w (t.into + c) 0

-- entry j of the log
pub record Noted (t : MergeTables) (j : ℕ) (p : Pair) (w w' : List ℕ) : Type 0 where
  pub only : Only ((t.log + 3 * j, 3) ∷ []) w w'
  pub is : seg (t.log + 3 * j) 3 w' ≡ p.first ∷ p.second ∷ p.gain ∷ []

-- what joining the pair p as merge j asks
pub record Joinable (t : MergeTables) (j : ℕ) (p : Pair) (w : List ℕ) : Type 0 where
  pub sound : Sound t w
  pub room : j + 1 < t.groups
  pub order : p.first < p.second
  pub below : p.second < t.groups + j
  pub first-lives : 0 < place_of t w p.first
  pub first_slot : place_of t w p.first ≤ t.groups
  pub second-lives : 0 < place_of t w p.second
  pub second-slot : place_of t w p.second ≤ t.groups
  pub apart : place_of t w p.first ≢ place_of t w p.second
  pub sets-few : (group_of t w p.first).sets + (group_of t w p.second).sets < 4294967296

-- and does: both are dead, the next number is what they became, in the first one's slot, and the log has them
pub record PairJoined (t : MergeTables) (j : ℕ) (p : Pair) (w w' : List ℕ) : Type 0 where
  pub only : Only (written t) w w'
  pub sound : Sound t w'
  pub first-dead : place_of t w' p.first ≡ 0
  pub second-dead : place_of t w' p.second ≡ 0
  pub new : place_of t w' (t.groups + j) ≡ place_of t w p.first
  pub others : (c : ℕ) → c ≢ p.first → c ≢ p.second → c < t.groups + j → place_of t w' c ≡ place_of t w c
  pub became : group_of t w' (t.groups + j) ≡ joined (group_of t w p.first) (group_of t w p.second)
  pub other-slots : (s : ℕ) → s < t.groups → s ≢ place_of t w p.first - 1 → group_in t w' s ≡ group_in t w s
  pub first-into : get_or w' (t.into + p.first) 0 ≡ t.groups + j
  pub second-into : get_or w' (t.into + p.second) 0 ≡ t.groups + j
  pub others-into : (c : ℕ) → c ≢ p.first → c ≢ p.second → c < t.groups + j → get_or w' (t.into + c) 0 ≡ get_or w (t.into + c) 0
  pub log-new : seg (t.log + 3 * j) 3 w' ≡ p.first ∷ p.second ∷ p.gain ∷ []
  pub log-old : seg t.log (3 * j) w' ≡ seg t.log (3 * j) w

-- and the run's numbers: as before, one merge more, and the size less what it gains
pub record JoinedAt (t : MergeTables) (p : Pair) (n m j z n' m' j' z' : ℕ) (w w' : List ℕ) : Type 0 where
  pub pair-joined : PairJoined t j p w w'
  pub waiting-same : n' ≡ n
  pub weighed-same : m' ≡ m
  pub one_more : j' ≡ j + 1
  pub falls : z' ≡ z - p.gain

-- ---- The groups that a run started from are known to no function below `optimize`: what each asks holds of some groups, and what each does of
-- any that hold.

pub record SomeStanding (t : MergeTables) (n m j z : ℕ) (w : List ℕ) (ps : List Pair) : Type 0 where
  pub groups : List Group
  pub standing : Standing t groups n m j z w ps

-- a turn of the run
pub record Turned (t : MergeTables) (n m j z n' m' j' z' : ℕ) (w w' : List ℕ) (ps ps' : List Pair) : Type 0 where
  pub only : Only (written t) w w'
  pub stands : (xs : List Group) → Standing t xs n m j z w ps → Standing t xs n' m' j' z' w' ps'
  pub less : n' + m < n + m'
  pub rest : SameFrom ps (room t.groups) ps'

-- fewer pairs wait, and none is lost whose two live
pub record Tidied (t : MergeTables) (n m j z n' m' j' z' : ℕ) (w : List ℕ) (ps ps' : List Pair) : Type 0 where
  pub stands : (xs : List Group) → Standing t xs n m j z w ps → Standing t xs n' m' j' z' w ps'
  pub fewer : n' ≤ n
  pub weighed-same : m' ≡ m
  pub rest : SameFrom ps (room t.groups) ps'

-- the whole run: nothing waits
pub record Ran (t : MergeTables) (n m j z n' m' j' z' : ℕ) (w w' : List ℕ) (ps ps' : List Pair) : Type 0 where
  pub only : Only (written t) w w'
  pub stands : (xs : List Group) → Standing t xs n m j z w ps → Standing t xs n' m' j' z' w' ps'
  pub done : n' ≡ 0
  pub rest : SameFrom ps (room t.groups) ps'
