-- A whole build: its answer, and what it leaves in everything lent, for every axis count, mode and job (RULES D1, L1 to
-- L4). Assumes nothing.
use Rattle.std.specs.Prelude.{List, [], ◌∷◌, ◌++◌, map, ℕ, eqb, length, get_or, replicate}
use Rattle.laws.specs.Pick.{pick}
use Rattle.laws.specs.Bytes.{bytes_of}
use Rattle.pairs.specs.declared.Pair.{Pair}
use Rattle.said.specs.Refusals.{early_refusal}
use Rattle.said.specs.Sets.{Region}
use Rattle.said.specs.Job.{Said, Outcome, refused, fine, outcome}
use Rattle.encoder.specs.Packed.{Packed, shared, own}
use Rattle.finishing.specs.Answers.{Built}
use Rattle.finishing.specs.Answers.{Refused}
use Rattle.job.specs.Check.{work_left}
use Rattle.finishing.specs.Buffers.{Buffers, Lengths, lengths}
use Rattle.finishing.specs.Late.{late_answer, buffers_left}
use Rattle.call.specs.Lending.{Lending, Left, no_pair}

-- start, peak, end of each axis, two bytes each (B2)
unfoldable pub region_bytes : Region → List ℕ
region_bytes [] = []
region_bytes (x ∷ c) = bytes_of 2 x ++ region_bytes c

-- the regions in use, by region index
unfoldable pub coords_in_use : Said → List (List ℕ)
coords_in_use s = map (λ q. region_bytes (get_or s.regions q [])) s.used

-- mode 0 shares rows, mode 1 does not (J2)
unfoldable pub packed_of : ℕ → Said → Packed
packed_of mode s = pick (eqb mode 0) (shared (length s.used) s.sets) (own (length s.used) s.sets)

unfoldable pub answer_from : ℕ → ℕ → Lengths → Outcome → Built
answer_from axes mode l (refused n i) = Refused n i
answer_from axes mode l (fine s) = late_answer axes (coords_in_use s) (packed_of mode s) l

-- the buffers after the build: as they were where the records refuse
unfoldable pub left_from : ℕ → ℕ → Buffers → Outcome → Buffers
left_from axes mode old (refused n i) = old
left_from axes mode old (fine s) = buffers_left axes (coords_in_use s) (packed_of mode s) old

-- the pair records: as work is, untouched by 1 to 4 and zeros to the last after every other answer; `work` is how many words that has
unfoldable pub pairs_left : (axes mode : ℕ) (job : List ℕ) (work : ℕ) → List Pair → List Pair
pairs_left axes mode job work pairs = pick (eqb (early_refusal axes mode job work (length pairs)) 0) (replicate (length pairs) no_pair) pairs

-- ---- of a call

abbrev pub outcome_of : Lending → Outcome
outcome_of c = outcome c.axes c.mode c.job (length c.work) (length c.pairs)

unfoldable pub answer_of : Lending → Built
answer_of c = answer_from c.axes c.mode (lengths c.lent) (outcome_of c)

abbrev pub after : Lending → Left
after c = record {
  work = work_left c.axes c.mode c.job (length c.pairs) c.work;
  pairs = pairs_left c.axes c.mode c.job (length c.work) c.pairs;
  lent = left_from c.axes c.mode c.lent (outcome_of c);
}
