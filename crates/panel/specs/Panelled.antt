-- A job as a profile takes it: the earliest bad record answers, and at one record the checks that every build makes come before the profile's (RULES T2, T7). What is
-- read is as without it. Assumes nothing.
use Rattle.std.specs.Prelude.{List, ℕ, zero, suc, ◌+◌, eqb, Result, Ok, Err}
use Rattle.laws.specs.Pick.{pick}
use Rattle.said.specs.Records.{after_record, record_count}
use Rattle.said.specs.Job.{Outcome, refused, fine}
use Rattle.panel.specs.declared.Profile.{Profile}
use Rattle.panel.specs.declared.Profile.TheVariants.{Plain, Panel}
use Rattle.refusals.specs.declared.Refused.{Refused}
use Rattle.refusals.specs.Refusals.{number}
use Rattle.panel.specs.Taken.{panel_refusal}

-- a refusal's number and the record's place; the number is 0 where all are taken
pub record Odd : Type 0 where
  pub no : ℕ
  pub at : ℕ

abbrev pub none_odd : Odd
none_odd = record { no = 0; at = 0 }

-- what the code answers
abbrev pub odd_in : Result (Unit {0}) Refused → Odd
odd_in (Ok u) = none_odd
odd_in (Err x) = record { no = number x.refusal; at = x.place }

-- of so many records from record i on, the first that the panel's reader does not take; r are the bytes from that record on
unfoldable pub first_of : (r : List ℕ) (left i : ℕ) → Odd
first_of r zero i = none_odd
first_of r (suc left) i = pick (eqb (panel_refusal r) 0) (first_of (after_record r) left (i + 1)) (record { no = panel_refusal r; at = i })

-- of the first so many records of a job, by the profile
unfoldable pub odd_of : Profile → (job : List ℕ) (limit : ℕ) → Odd
odd_of Plain job limit = none_odd
odd_of Panel job limit = first_of job limit 0

-- how many records stand before what answered: all of them where none was refused. (The place of R1 to R4 is 0, that of R8 the record count.)
unfoldable pub read_records : (records : ℕ) → Outcome → ℕ
read_records n (refused m i) = i
read_records n (fine s) = n

unfoldable pub odd_else : Odd → Outcome → Outcome
odd_else x o = pick (eqb x.no 0) o (refused x.no x.at)

unfoldable pub panelled : Profile → (job : List ℕ) → Outcome → Outcome
panelled p job o = odd_else (odd_of p job (read_records (record_count job) o)) o
