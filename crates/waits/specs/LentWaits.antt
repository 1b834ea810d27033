-- What waits to be joined: pairs of numbers of groups in lent words, in a lent slice of pair records. Assumes nothing.
use Rattle.std.specs.Prelude.{◌≡◌, List, ℕ, ◌+◌, ◌-◌, ◌*◌, ◌≤◌, ◌<◌, eqb, get_or}
use Rattle.laws.specs.Pick.{pick}
use Rattle.laws.specs.Bag.{sum}
use Rattle.shapes.specs.Group.{Group, gain}
use Rattle.pairs.specs.declared.Pair.{Pair}
use Rattle.pairs.specs.LentQueue.{pair_at, HeapOrdered, Has, SameFrom}
use Rattle.slots.specs.declared.tables.MergeTables.{MergeTables}
use Rattle.slots.specs.Lent.{group_in, Sound}

-- how many pairs n groups can have waiting: each pair that is ever weighed, and no more
unfoldable pub room : ℕ → ℕ
room n = (n - 1) * (n - 1)

-- number c lives in a slot, one less than its place; 0 where it is dead
abbrev pub place_of : MergeTables → List ℕ → ℕ → ℕ
place_of t w c = get_or w (t.place + c) 0

unfoldable pub group_of : MergeTables → List ℕ → ℕ → Group
group_of t w c = group_in t w (place_of t w c - 1)

-- 1 where it lives
unfoldable pub alive : MergeTables → List ℕ → ℕ → ℕ
alive t w c = pick (eqb (place_of t w c) 0) 0 1

-- the pair of two living numbers, as it waits
abbrev pub pair_of : MergeTables → List ℕ → ℕ → ℕ → Pair
pair_of t w a b = record { gain = gain (group_of t w a) (group_of t w b); first = a; second = b }

-- each number below k has a slot, or none
pub record Placed (t : MergeTables) (k : ℕ) (w : List ℕ) : Type 0 where
  pub within : (c : ℕ) → c < k → place_of t w c ≤ t.groups

-- Number k is being weighed with those below it, and has been with those below c: the pairs a, b that were weighed.
pub record Reached (k c a b : ℕ) : Type 0 where
  pub order : a < b
  pub below : b ≤ k
  pub last : b ≡ k → a < c

-- what waits was weighed, gains, and is a living pair's own or a dead one
pub record Fair (t : MergeTables) (k c : ℕ) (w : List ℕ) (q : Pair) : Type 0 where
  pub reached : Reached k c q.first q.second
  pub some : 0 < q.gain
  pub is : 0 < place_of t w q.first → 0 < place_of t w q.second → q ≡ pair_of t w q.first q.second

-- each living pair that was weighed and gains waits, among the first n of ps
pub record Waits (t : MergeTables) (k c n : ℕ) (w : List ℕ) (ps : List Pair) : Type 0 where
  pub ordered : HeapOrdered ps n
  pub all : (a b : ℕ) → Reached k c a b → 0 < place_of t w a → 0 < place_of t w b → 0 < gain (group_of t w a) (group_of t w b) → Has ps n (pair_of t w a b)
  pub fair : (q : Pair) → Has ps n q → Fair t k c w q

-- the same of pairs in no order
pub record Lists (t : MergeTables) (k c n : ℕ) (w : List ℕ) (ps : List Pair) : Type 0 where
  pub all : (a b : ℕ) → Reached k c a b → 0 < place_of t w a → 0 < place_of t w b → 0 < gain (group_of t w a) (group_of t w b) → Has ps n (pair_of t w a b)
  pub fair : (q : Pair) → Has ps n q → Fair t k c w q

-- number k can be weighed with those below it
pub record Weighable (t : MergeTables) (k : ℕ) (w : List ℕ) : Type 0 where
  pub sound : Sound t w
  pub placed : Placed t (k + 1) w
  pub living : 0 < place_of t w k
  pub known : k < 2 * t.groups

-- what weighing number k with those from c on asks
pub record Asked (t : MergeTables) (k c n : ℕ) (w : List ℕ) (ps : List Pair) : Type 0 where
  pub weighable : Weighable t k w
  pub waits : Waits t k c n w ps

-- what weighing it with number c does: n pairs wait and m were weighed before it, n' and m' after it; a new pair stands behind the n
pub record Offered (t : MergeTables) (k c n m n' m' : ℕ) (w : List ℕ) (ps ps' : List Pair) : Type 0 where
  pub lists : Lists t k (c + 1) n' w ps'
  pub weighed : m' ≡ m + alive t w c
  pub few : n' ≤ n + alive t w c
  pub more : n ≤ n'
  pub front : (i : ℕ) → i < n → pair_at ps' i ≡ pair_at ps i
  pub rest : SameFrom ps (room t.groups) ps'

-- and with each number below it
pub record OfferedAll (t : MergeTables) (k n m n' m' : ℕ) (w : List ℕ) (ps ps' : List Pair) : Type 0 where
  pub waits : Waits t k k n' w ps'
  pub weighed : m' ≡ m + sum (alive t w) k
  pub few : n' ≤ n + sum (alive t w) k
  pub rest : SameFrom ps (room t.groups) ps'

-- each pair of the starting groups: each has a slot, and n pairs wait of m that were weighed
pub record Opening (t : MergeTables) (w : List ℕ) : Type 0 where
  pub sound : Sound t w
  pub living : (c : ℕ) → c < t.groups → (0 < place_of t w c) × (place_of t w c ≤ t.groups)

pub record Opened (t : MergeTables) (n m : ℕ) (w : List ℕ) (ps ps' : List Pair) : Type 0 where
  pub waits : Waits t t.groups 0 n w ps'
  pub weighed : 2 * m + t.groups ≡ t.groups * t.groups
  pub few : n ≤ m
  pub rest : SameFrom ps (room t.groups) ps'
