-- What the clauses of private functions cite. Assumes nothing.
use Rattle.std.specs.Prelude.{◌≡◌, Bool, true, false, List, [], ◌∷◌, ℕ, ◌+◌, ◌*◌, ◌≤◌, ◌<◌, length, get_or}
use Rattle.laws.specs.LentRange.{Only}
use Rattle.laws.specs.Signed.{zero_word}
use Rattle.limits.specs.Limits.{most_records, most_axes, pair_records}
use Rattle.sets.specs.Lent.{sets_in, Held}
use Rattle.said.specs.Records.{record_start, record_count}
use Rattle.said.specs.LentOpen.{Open}
use Rattle.said.specs.Job.{Said, in_axes, records_from, fine}
use Rattle.job.specs.Lent.{JobHeld}
use Rattle.reader.specs.Store.{axis_count, region_count, list_at}
use Rattle.stores.specs.Stores.{parse, parses}
use Rattle.cells.specs.Lent.{Ahead}
use Rattle.matching.specs.declared.Sides.{Sides}
use Rattle.matching.specs.Lent.{total, scratch, firsts_of, FirstSide, SidesFit}

-- ---- numbers

-- what refusals 1, 3 and 4 leave
pub record JudgeOpen (axes : ℕ) (job : List ℕ) (store work : ℕ) : Type 0 where
  pub passed : Open axes 0 job work pair_records
  pub room : 16 * record_count job + 3 * store ≤ work

-- ---- the store by itself

pub record Looked (store : List ℕ) (at : ℕ) (old new : List ℕ) (r : Bool) : Type 0 where
  pub only : Only ((at, length store) ∷ []) old new
  pub is : r ≡ parses (parse store)

-- a word that is not its own number
pub record NotFirst (w : List ℕ) (first n : ℕ) : Type 0 where
  pub region : ℕ
  pub within : region < n
  pub other : get_or w (first + region) 0 ≡ region → ⊥

pub record Firsts (w : List ℕ) (first n : ℕ) (r : Bool) : Type 0 where
  pub own : r ≡ true → (q : ℕ) → q < n → get_or w (first + q) 0 ≡ q
  pub not_own : r ≡ false → NotFirst w first n

pub record Filled (at n : ℕ) (old new : List ℕ) : Type 0 where
  pub only : Only ((at, n) ∷ []) old new
  pub is : (k : ℕ) → k < n → get_or new (at + k) 0 ≡ zero_word

-- and behind them the zeros of the store
pub record SetOut (store : List ℕ) (at n : ℕ) (old new : List ℕ) : Type 0 where
  pub only : Only ((at, n + length store) ∷ []) old new
  pub is : (k : ℕ) → k < n → get_or new (at + k) 0 ≡ zero_word
  pub ahead : Ahead store (at + n) new

-- ---- a job whose sets work holds, and room for judging

pub record JudgeFit (axes : ℕ) (job : List ℕ) (records sets uses store : ℕ) (w : List ℕ) : Type 0 where
  pub some : 0 < axes
  pub most : axes ≤ most_axes
  pub few : records ≤ most_records
  pub bytes : (k : ℕ) → get_or job k 0 < 256
  pub whole : record_start records ≤ length job
  pub room : 16 * records + 3 * store ≤ length w
  pub regions : ℕ
  pub values : ℕ
  pub held : JobHeld axes 0 job records w (record { regions = regions; sets = sets; values = values; uses = uses })

-- where the store's regions and the job's stand
abbrev pub sides_of : (store : List ℕ) (axes records uses : ℕ) → Sides
sides_of store axes records uses = record { axes = axes; list = list_at store + 4; listed = region_count store; used = 4 * records; uses = uses; index = 5 * records }

-- the sets are held, and the first like each region is found
pub record Sided (store job : List ℕ) (sets : ℕ) (w : List ℕ) (t : Sides) : Type 0 where
  pub said : Said
  pub records : ℕ
  pub bytes : (k : ℕ) → get_or job k 0 < 256
  pub is : records_from t.axes 0 job job records 0 in_axes ≡ fine said
  pub parsed : parses (parse store) ≡ true
  pub axes-are : t.axes ≡ axis_count store
  pub listed-are : t.listed ≡ region_count store
  pub list-is : t.list ≡ list_at store + 4
  pub uses-are : t.uses ≡ length said.used
  pub fits : SidesFit store job t w
  pub room : t.index + scratch t + length store ≤ length w
  pub used-are : (u : ℕ) → u < t.uses → get_or w (t.used + u) 0 ≡ get_or said.used u 0
  pub held : Held w 0 sets t.uses t.used
  pub sets-are : sets_in 0 sets w ≡ said.sets
  pub firsts : (x : ℕ) → x < total t → FirstSide store job w t x (get_or w (firsts_of t + x) 0)
