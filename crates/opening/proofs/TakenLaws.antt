-- A job's records read by a profile: how far they were read, and which record answers. Assumes nothing.
use mathlib.Core.Path.{◌≡◌, refl, ◌∙◌}
use mathlib.Core.List.{List}
use Prim.Native.Nat.{ℕ, ◌≤◌}
use native.Mathlib.Omega.{arith}
use lib.ListN.{length}
use Rattle.std.specs.Prelude.{Ok, Err}
use Rattle.refusals.specs.declared.Refused.{Refused}
use Rattle.refusals.specs.Refusals.{number}
use Rattle.refusals.proofs.Numbers.{some_number}
use Rattle.said.specs.Records.{record_start, record_count}
use Rattle.said.specs.Job.{in_axes, records_from}
use Rattle.job.specs.declared.whole.JobCounts.{JobCounts}
use Rattle.job.specs.Lent.{JobRead}
use Rattle.panel.specs.declared.Profile.{Profile}
use Rattle.panel.specs.Panelled.{none_odd, odd_in, odd_of, read_records}
use Rattle.panel.proofs.PanelledLaws as laws
use Rattle.panel.proofs.ReachLaws.{place-most}
use Rattle.opening.specs.LentTaken.{JobTaken}

module _ {axes mode : ℕ} {job : List ℕ} {records : ℕ} {old new : List ℕ} (all : records ≡ record_count job) (p : Profile) where
  module _ (x : Refused) (j : JobRead axes mode job records old new (Err x)) where
    -- no further than the job's last record
    pub place-in : record_start records ≤ length job → record_start x.place ≤ length job
    place-in h = let m = place-most axes mode job records (number x.refusal) x.place j.is in omega arith

    before : x.place ≡ read_records (record_count job) (records_from axes mode job job records 0 in_axes)
    before = laws.read-refused (record_count job) (records_from axes mode job job records 0 in_axes) (number x.refusal) x.place j.is

    pub odd-before : (y : Refused) → odd_in (Err y) ≡ odd_of p job x.place → JobTaken p axes mode job records old new (Err y)
    odd-before y e = record { is = laws.odd-answers p job (records_from axes mode job job records 0 in_axes) x.place before (odd_in (Err y)) e (some_number y.refusal); only = j.only }

    pub none-before : none_odd ≡ odd_of p job x.place → JobTaken p axes mode job records old new (Err x)
    none-before e = record { is = laws.odd-passes p job (records_from axes mode job job records 0 in_axes) x.place before none_odd e refl ∙ j.is; only = j.only }

  module _ (c : JobCounts) (j : JobRead axes mode job records old new (Ok c)) where
    to_end : records ≡ read_records (record_count job) (records_from axes mode job job records 0 in_axes)
    to_end = all ∙ laws.read-fine (record_count job) (records_from axes mode job job records 0 in_axes) j.is.said j.is.is

    pub odd-among : (y : Refused) → odd_in (Err y) ≡ odd_of p job records → JobTaken p axes mode job records old new (Err y)
    odd-among y e = record { is = laws.odd-answers p job (records_from axes mode job job records 0 in_axes) records to_end (odd_in (Err y)) e (some_number y.refusal); only = j.only }

    pub none-among : none_odd ≡ odd_of p job records → JobTaken p axes mode job records old new (Ok c)
    none-among e = record { is = record { held = j.is; taken = laws.odd-passes p job (records_from axes mode job job records 0 in_axes) records to_end none_odd e refl ∙ j.is.is }; only = j.only }

-- where all were taken it is as without the profile
abbrev pub as_read : {p : Profile} {axes mode : ℕ} {job : List ℕ} {records : ℕ} {old new : List ℕ} {c : JobCounts}
    → JobTaken p axes mode job records old new (Ok c) → JobRead axes mode job records old new (Ok c)
as_read t = record { is = t.is.held; only = t.only }
