-- What a yes and a no say (#106), by what the job says and what the store parses to, and each value as `read_store` has it. Assumes nothing.
use Rattle.std.specs.Prelude.{◌≡◌, true, List, [], ℕ, ◌/◌, ◌%◌, ◌<◌, pos, length, get_or}
use Rattle.std.proofs.Math.Option.{some}
use Rattle.said.specs.Job.{Said, fine, in_axes, records_from}
use Rattle.said.specs.Records.{record_count}
use Rattle.reader.specs.Store.{read_store, value_of}
use Rattle.stores.specs.Stores.{Parsed, parse}
use Rattle.stores.specs.Coordinates.{is_row_there, wanted, Distinct}
use Rattle.judging.specs.Judge.{named_in, judge_refusal}

-- the row that word k names gives set k: it is there, each listed region reads as the set wants it, and the set wants nothing but zero of coordinates
-- that are not listed
pub record RowRight (store : List ℕ) (p : Parsed) (s : Said) (word k : ℕ) : Type 0 where
  pub there : is_row_there p (word / 65536) (word % 65536) ≡ true
  pub reads : (q : ℕ) → q < length p.regions → value_of (read_store store (word / 65536) (word % 65536) q) ≡ wanted (named_in s (get_or s.sets k [])) (get_or p.regions q [])
  pub absent : (c : List ℕ) → ((q : ℕ) → q < length p.regions → get_or p.regions q [] ≡ c → ⊥) → wanted (named_in s (get_or s.sets k [])) c ≡ pos 0

pub record SetRight (store words : List ℕ) (p : Parsed) (s : Said) (k : ℕ) : Type 0 where
  pub word-there : k < length words
  pub row : RowRight store p s (get_or words k 0) k

-- the job is sound, and the store is well formed throughout, has its axis count and lists no region twice
pub record Sound (axes : ℕ) (job store : List ℕ) (work : ℕ) (s : Said) (p : Parsed) : Type 0 where
  pub passed : judge_refusal axes job (length store) work ≡ 0
  pub said-is : records_from axes 0 job job (record_count job) 0 in_axes ≡ fine s
  pub parsed : parse store ≡ some p
  pub axes-are : p.axes ≡ axes
  pub distinct : Distinct p.regions
