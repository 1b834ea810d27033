-- What the panel's profile refuses, exactly, and that all else is as without it (RULES R70 to R72, T7). Assumes nothing.
use Rattle.std.specs.Prelude.{◌≡◌, true, ℕ, ◌≤◌, ◌<◌, length, take}
use Rattle.said.specs.Records.{record_at, record_count}
use Rattle.said.specs.Refusals.{early_refusal, long_value, bad_region, wide_subtable}
use Rattle.said.specs.Job.{Said, fine}
use Rattle.groups.specs.Groups.{max_shapes}
use Rattle.panel.specs.declared.Profile.TheVariants.{Panel}
use Rattle.narrow.specs.Columns.{is_some_wide}
use Rattle.finishing.specs.declared.answers.Report.{Report}
use Rattle.finishing.specs.Answers.{Refused, Done}
use Rattle.call.specs.Lending.{Lending}
use Rattle.call.specs.Build.{packed_of, outcome_of, answer_of, after}
use Rattle.call.specs.Profiled.{answer_by, after_by}
use Rattle.demands.specs.Demand2.{Demand2}
use Rattle.demands.specs.Demand3.{Demand3}
use Rattle.refusing.specs.Exactly.{Exactly}
use Rattle.refusing.specs.OddRecords.{LongValue, BadAxis, PanelTakes, EarliestOdd}
use Rattle.profiled.specs.Readable.{Readable}

-- none of R1 to R4
abbrev pub Entered : Lending → Type 0
Entered c = early_refusal c.axes c.mode c.job (length c.work) (length c.pairs) ≡ 0

-- R72: the job is sound, the profile takes every record, there are not too many shapes, and some final group has more than 32 columns
pub record Wide (c : Lending) : Type 0 where
  pub said : Said
  pub sound : outcome_of c ≡ fine said
  pub all-taken : (j : ℕ) → j < record_count c.job → PanelTakes c.job j
  pub shapes-few : (packed_of c.mode said).groups ≤ max_shapes
  pub wide : is_some_wide (packed_of c.mode said).finals ≡ true

pub record PanelBuild (c : Lending) : Type 0 where
  pub long-value : (i : ℕ) → Exactly (answer_by Panel c ≡ Refused long_value i) (Entered c × EarliestOdd c.axes c.mode c.job i (LongValue (record_at c.job i)))
  pub bad-region : (i : ℕ) → Exactly (answer_by Panel c ≡ Refused bad_region i) (Entered c × EarliestOdd c.axes c.mode c.job i (BadAxis (record_at c.job i)))
  pub wide-subtable : (p : ℕ) → Exactly (answer_by Panel c ≡ Refused wide_subtable p) ((p ≡ 0) × Wide c)
  -- whatever it refuses by another number is refused alike without it
  pub refused-alike : (n p : ℕ) → (n ≡ long_value → ⊥) → (n ≡ bad_region → ⊥) → (n ≡ wide_subtable → ⊥) → answer_by Panel c ≡ Refused n p → answer_of c ≡ Refused n p
  -- whatever it accepts is built as without it: the answer, and everything lent
  pub built_alike : (r : Report) → answer_by Panel c ≡ Done r → (answer_of c ≡ Done r) × (after_by Panel c ≡ after c)
  -- a refusal leaves the buffers as they were
  pub untouched : (n p : ℕ) → answer_by Panel c ≡ Refused n p → (after_by Panel c).lent ≡ c.lent

-- a build that is done by it: all that is left is as without it, demands 2 and 3 read as before, and the instrument's reader knows all of the store
pub record PanelDone (c : Lending) (r : Report) : Type 0 where
  pub left-alike : after_by Panel c ≡ after c
  pub sets-read : Demand2 c r
  pub merges-ruled : c.mode ≡ 0 → Demand3 c r
  pub readable : Readable (take r.bytes (after_by Panel c).lent.out)
