-- The two readings of one job side by side: what was read then is read the same now, and what uses the new byte was refused then. Assumes nothing.
use Rattle.std.specs.Prelude.{◌≡◌, List, ◌⊎◌, ℕ, ◌≤◌, get_or}
use Rattle.said.specs.Records.{kind, axis_kind, value_kind, record_at, first_wrong_byte}
use Rattle.said.specs.Refusals.{not_zero}
use Rattle.said.specs.Job.{in_axes, Outcome, refused, records_from}
use Rattle.one_byte.specs.OneByte.{one_wrong, one_records}

-- n records of a job, as they are read and as they were
abbrev pub now_read : (axes mode : ℕ) (job : List ℕ) (n : ℕ) → Outcome
now_read axes mode job n = records_from axes mode job job n 0 in_axes

abbrev pub then_read : (axes mode : ℕ) (job : List ℕ) (n : ℕ) → Outcome
then_read axes mode job n = one_records axes mode job job n 0 in_axes

-- an axis record or a value record whose byte 3 is used
pub record UsesByte (r : List ℕ) : Type 0 where
  pub of-region : (kind r ≡ axis_kind) ⊎ (kind r ≡ value_kind)
  pub high : get_or r 3 0 ≡ 0 → ⊥

-- refused for byte 3 then
pub record ForByte (job : List ℕ) (i : ℕ) (o : Outcome) : Type 0 where
  pub is : o ≡ refused not_zero i
  pub uses : UsesByte (record_at job i)
  pub byte : one_wrong (record_at job i) ≡ 3

-- What was accepted, or refused otherwise than for byte 3, has the same outcome now: what it says, or the refusal and its place
pub data Together (job : List ℕ) (now before : Outcome) : Type 0 where
  same : now ≡ before → Together job now before
  for-byte : (i : ℕ) → ForByte job i before → Together job now before

-- so has a record its byte: where byte 3 was not named, the one that was is named now
abbrev pub SameByte : List ℕ → Type 0
SameByte r = (first_wrong_byte r ≡ one_wrong r) ⊎ (UsesByte r × (one_wrong r ≡ 3))

-- a job whose record j uses the byte was refused there or before
pub record NeverRead (j : ℕ) (before : Outcome) : Type 0 where
  pub number : ℕ
  pub place : ℕ
  pub is : before ≡ refused number place
  pub soon : place ≤ j
