-- What lent words hold of a job so far: the promises of `src/`, which no reader of docs/RULES.md needs.
use Rattle.std.specs.Prelude.{◌≡◌, false, List, [], ◌∷◌, ◌++◌, ℕ, suc, ◌+◌, ◌*◌, ◌≤◌, ◌<◌, length, get_or, eqb, Result, IfOk}
use Rattle.laws.specs.Pick.{pick}
use Rattle.laws.specs.Every.{All, EachTwo}
use Rattle.laws.specs.LentRange.{Only}
use Rattle.sets.specs.Lent.{entries, entries_at, count_of, set_of}
use Rattle.entries.specs.Lent.{entries_in_order}
use Rattle.said.specs.Records.{region_number, value_as_word}
use Rattle.said.specs.Refusals.{value_no}
use Rattle.said.specs.Job.{Said, after_value, after_end}
use Rattle.limits.specs.Limits.{most_records}
use Rattle.refusals.specs.declared.Refusal.{Refusal}
use Rattle.refusals.specs.Refusals.{number_in}
use Rattle.values.specs.declared.tables.SetTables.{SetTables}
use Rattle.values.specs.declared.values.Took.{Took}
use Rattle.said.specs.Sets.{first_like, has, with_use, index_in}
use Rattle.said.specs.LentGood.{SetsGood}

-- of the regions in use: at `slot` for each region its index and one, 0 where it is not in use; at `used` for each index its region
unfoldable pub slot_in : ℕ → List ℕ → ℕ
slot_in q l = pick (has q l) (suc (index_in q l)) 0

pub record Uses (w : List ℕ) (slot used regions : ℕ) (l : List ℕ) : Type 0 where
  pub slots : (q : ℕ) → q < regions → get_or w (slot + q) 0 ≡ slot_in q l
  pub table : (k : ℕ) → k < length l → get_or w (used + k) 0 ≡ get_or l k 0

-- region q is in use, by the index r
pub record UsedNow (slot used regions count q : ℕ) (l old new : List ℕ) (r : ℕ) : Type 0 where
  pub only : Only ((slot, regions) ∷ (used + count, 1) ∷ []) old new
  pub uses : Uses new slot used regions (with_use l q)
  pub index : r ≡ index_in q (with_use l q)
  pub grown : r ≡ count → length (with_use l q) ≡ count + 1
  pub same : (r ≡ count → ⊥) → length (with_use l q) ≡ count

-- an entry was put behind those of a set
pub record PutEntry (start count k v : ℕ) (old new : List ℕ) : Type 0 where
  pub only : Only ((start + 2 * count, 2) ∷ []) old new
  pub is : entries start (count + 1) new ≡ entries start count old ++ ((k, v) ∷ [])

-- at `stamp` for each region the number of a set, the last `mark`: it is that where the set has named the region
pub record Stamps (w : List ℕ) (stamp regions mark : ℕ) (named : List ℕ) : Type 0 where
  pub old : (q : ℕ) → q < regions → get_or w (stamp + q) 0 ≤ mark
  pub here : (q : ℕ) → q < regions → eqb (get_or w (stamp + q) 0) mark ≡ has q named

-- Work holds what the records so far say: `sets` sets have ended, `uses` regions are in use, and the set that has not ended has `count`
-- entries from `start` on, as they came.
pub record Holds (w : List ℕ) (t : SetTables) (s : Said) (sets uses start count : ℕ) : Type 0 where
  pub regions-are : length s.regions ≡ t.regions
  pub firsts : (r : ℕ) → r < t.regions → get_or w (t.first + r) 0 ≡ first_like s.regions r
  pub firsts-low : (r : ℕ) → r < t.regions → get_or w (t.first + r) 0 < t.regions
  pub stamps : Stamps w t.stamp t.regions (sets + 1) s.named
  pub uses-are : Uses w t.slot t.used t.regions s.used
  pub uses-count : length s.used ≡ uses
  pub used_low : All (λ q. q < t.regions) s.used
  pub used-differ : EachTwo (λ x y. x ≡ y → ⊥) s.used
  pub begun-is : entries_in_order (entries start count w) ≡ s.begun
  pub sets-count : length s.sets ≡ sets
  pub rows_are : (x : ℕ) → x < sets → set_of t.rows x w ≡ get_or s.sets x []
  pub bodies : (x : ℕ) → x < sets → entries_at t.rows x w + 2 * count_of t.rows x w ≤ start
  pub bodies-low : (x : ℕ) → x < sets → t.body ≤ entries_at t.rows x w
  pub rows-low : t.rows + 2 * sets ≤ start
  pub start-low : t.body ≤ start
  pub good : SetsGood s

-- what one more value asks of the tables
pub record ValueFits (w : List ℕ) (t : SetTables) (uses start count : ℕ) : Type 0 where
  pub firsts-low : (r : ℕ) → r < t.regions → get_or w (t.first + r) 0 < t.regions
  pub body-in : start + 2 * count + 2 ≤ t.used
  pub used-in : t.used + uses < t.slot
  pub slot-to : t.slot + t.regions ≤ t.stamp
  pub stamp-to : t.stamp + t.regions ≤ t.first
  pub first_to : t.first + t.regions ≤ length w
  pub few : uses < 4294967295
  pub regions-few : t.regions ≤ most_records

-- a value record of the bytes r was refused, or is held now
pub record TookValue (r : List ℕ) (t : SetTables) (s : Said) (sets uses start count : ℕ) (old new : List ℕ) (k : Result Took Refusal) : Type 0 where
  pub number_is : number_in k ≡ value_no r (length s.regions) (has (first_like s.regions (region_number r)) s.named)
  pub now-holds : IfOk k (λ k. Holds new t (after_value s (first_like s.regions (region_number r)) (value_as_word r)) sets k.uses start k.count)
  pub only : Only ((0, t.first) ∷ []) old new
  pub uses-few : IfOk k (λ k. k.uses ≤ uses + 1)
  pub count-few : IfOk k (λ k. k.count ≤ count + 1)

-- the word v of a value of region q, which the set has not named, is held now
pub record PutValue (q v : ℕ) (t : SetTables) (s : Said) (sets uses start count : ℕ) (old new : List ℕ) (k : Took) : Type 0 where
  pub now-holds : has q s.named ≡ false → Holds new t (after_value s q v) sets k.uses start k.count
  pub only : Only ((0, t.first) ∷ []) old new
  pub uses-few : k.uses ≤ uses + 1
  pub count-few : k.count ≤ count + 1

-- what a use changes, and that an index is a word
pub record UseKept (slot used regions count : ℕ) (old new : List ℕ) (r : ℕ) : Type 0 where
  pub only : Only ((slot, regions) ∷ (used + count, 1) ∷ []) old new
  pub small : r < 4294967296

-- a set has ended
pub record EndedSet (t : SetTables) (s : Said) (sets uses start count : ℕ) (old new : List ℕ) : Type 0 where
  pub now-holds : Holds new t (after_end s) (sets + 1) uses (start + 2 * count) 0
  pub only : Only ((0, t.first) ∷ []) old new
