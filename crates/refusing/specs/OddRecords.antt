-- R70 and R71 by a job's bytes: where the panel's profile refuses a record that the checks of every build take (T2, T7). Assumes nothing.
use Rattle.std.specs.Prelude.{◌≡◌, false, List, ℕ, suc, ◌<◌}
use Rattle.said.specs.Records.{record_at, record_count, kind, axis_kind, value_kind}
use Rattle.panel.specs.Taken.{has_short_value, has_sound_axis}
use Rattle.refusing.specs.Fine.{AllFine}

-- R70 LONG_VALUE: a value that 16 bits do not hold
pub record LongValue (r : List ℕ) : Type 0 where
  pub is-value : kind r ≡ value_kind
  pub long : has_short_value r ≡ false

-- R71 BAD_REGION: an axis that is not sound. (The axis records of a region come one after another, so the first of them is its first bad axis.)
pub record BadAxis (r : List ℕ) : Type 0 where
  pub is-axis : kind r ≡ axis_kind
  pub not_sound : has_sound_axis r ≡ false

-- the profile takes record j
pub record PanelTakes (job : List ℕ) (j : ℕ) : Type 0 where
  pub not-long : LongValue (record_at job j) → ⊥
  pub not-bad : BadAxis (record_at job j) → ⊥

-- record i is fine by the checks of every build, all before it by both, and this is so of it
pub record EarliestOdd (axes mode : ℕ) (job : List ℕ) (i : ℕ) (Why : Type 0) : Type 0 where
  pub within : i < record_count job
  pub all-fine : AllFine axes mode job (suc i)
  pub before-taken : (j : ℕ) → j < i → PanelTakes job j
  pub why : Why
