-- What a build is lent to write its answer to: the output's bytes, and the words of ids, map, log and origins. Assumes nothing.
use Rattle.std.specs.Prelude.{List, ℕ, length}

-- what each holds
pub record Buffers : Type 0 where
  pub out : List ℕ
  pub ids : List ℕ
  pub map : List ℕ
  pub log : List ℕ
  pub origins : List ℕ

abbrev pub buffers : List ℕ → List ℕ → List ℕ → List ℕ → List ℕ → Buffers
buffers out ids map log origins = record { out = out; ids = ids; map = map; log = log; origins = origins }

-- how long each is: an answer depends on nothing else of them
pub record Lengths : Type 0 where
  pub out : ℕ
  pub ids : ℕ
  pub map : ℕ
  pub log : ℕ
  pub origins : ℕ

abbrev pub lengths : Buffers → Lengths
lengths b = record { out = length b.out; ids = length b.ids; map = length b.map; log = length b.log; origins = length b.origins }
