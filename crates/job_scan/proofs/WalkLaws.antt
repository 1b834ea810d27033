-- One turn of the records_from along a job's records, by what its record is. Assumes nothing.
use mathlib.Core.Path.{◌≡◌, sym, ap, ◌∙◌, subst}
use mathlib.Core.Bool.{false}
use mathlib.Core.List.{List}
use Prim.Native.Nat.{ℕ, suc, ◌+◌, ◌-◌, ◌/◌, ◌%◌, ◌≤◌, ◌<◌}
use native.Mathlib.Nat.{sub-zero}
use native.Mathlib.Omega.{arith}
use lib.ListN.{drop}
use lib.Seq.{drop-drop}
use borrow.Author.Tests.{eq-eqb, ne_eqb}
use Rattle.std.specs.Prelude.{Ok, Err}
use Rattle.refusals.specs.declared.Refusal.{Refusal}
use Rattle.refusals.specs.declared.Refusal.TheVariants.{Unfinished}
use Rattle.refusals.specs.Refusals.{number}
use Rattle.refusals.proofs.Numbers.{some_number}
use Rattle.said.specs.Records.{record_bytes, record_start, record_at, after_record, kind, axis_kind, is_axis}
use Rattle.said.specs.Refusals.{form_refusal}
use Rattle.said.specs.Sets.{region_list}
use Rattle.said.specs.Job.{State, in_axes, in_sets, Step, stop, on, regions_only, axes_before, is_late, kind_step, step, Outcome, refused, ended, ended_sets, follow, records_from}
use Rattle.said.proofs.StepLaws.{unless-stop, unless-on, whole_before, begin-step}
use Rattle.job_scan.specs.LentAxes.{AxesRead}

module _ (axes mode : ℕ) (job : List ℕ) (records i : ℕ) where
  -- what record i and those after it answer, from a state
  abbrev pub left : State → Outcome
  left s = records_from axes mode job (record_at job i) (records - i) i s

  abbrev pub after : State → Outcome
  after s = records_from axes mode job (record_at job (i + 1)) (records - (i + 1)) (i + 1) s

  pub at-end : (s : State) → records ≤ i → left s ≡ ended axes job i s
  unfolding records_from
  at-end s e = let z : records - i ≡ 0 = omega arith in rw z

  module _ (h : i < records) where
    turn : (s : State) → left s ≡ follow i (step axes mode job (record_at job i) i s) (λ s'. after s')
    unfolding records_from
    turn s =
        let z : records - i ≡ suc (records - (i + 1)) = omega arith in
        let n : record_start i + record_bytes ≡ record_start (i + 1) = omega arith in
        let d : after_record (record_at job i) ≡ record_at job (i + 1) = drop-drop record_bytes (record_start i) job ∙ ap (λ (k : ℕ). drop k job) n in
        rw z
        (ap (λ (r : List ℕ). follow i (step axes mode job (record_at job i) i s) (λ s'. records_from axes mode job r (records - (i + 1)) (i + 1) s')) d)

    pub turn-stop : (s : State) (n : ℕ) → step axes mode job (record_at job i) i s ≡ stop n → left s ≡ refused n i
    unfolding follow
    turn-stop s n e = turn s ∙ rw e

    pub turn_on : (s s' : State) → step axes mode job (record_at job i) i s ≡ on s' → left s ≡ after s'
    unfolding follow
    turn_on s s' e = turn s ∙ rw e

    -- in the axes
    pub axis-stop : (n : ℕ) → n ≡ form_refusal axes i false (record_at job i) → (n ≡ 0 → ⊥) → left in_axes ≡ refused n i
    unfolding step axes_before is_late
    axis-stop n e z = turn-stop in_axes n (rw (← e) (unless-stop n _ z))

    module _ (z : form_refusal axes i false (record_at job i) ≡ 0) where
      pub axis-on : kind (record_at job i) ≡ axis_kind → left in_axes ≡ after in_axes
      unfolding step axes_before is_late kind_step
      axis-on k = turn_on in_axes in_axes (rw (unless-on (form_refusal axes i false (record_at job i)) _ z, eq-eqb (kind (record_at job i)) axis_kind k))

      module _ (k : kind (record_at job i) ≡ axis_kind → ⊥) where
        other : is_axis (record_at job i) ≡ false
        other = ne_eqb (kind (record_at job i)) axis_kind k

        pub behind-whole : i % axes ≡ 0
        behind-whole = whole_before axes mode job (record_at job i) i z other

        -- the first record that is no axis record is read as in the sets
        pub begin : left in_axes ≡ left (in_sets (regions_only (region_list axes (i / axes) job)))
        begin =
            turn in_axes ∙ ap (λ (x : Step). follow i x (λ s'. after s')) (begin-step axes mode job (record_at job i) i z other)
            ∙ sym (turn (in_sets (regions_only (region_list axes (i / axes) job))))

-- ---- the loop over the axis records: what is left answers for the whole

pub record Reading (axes : ℕ) (job : List ℕ) (records i : ℕ) : Type 0 where
  pub within : i ≤ records
  pub rest : (mode : ℕ) → left axes mode job records i in_axes ≡ records_from axes mode job job records 0 in_axes

pub reading-start : (axes : ℕ) (job : List ℕ) (records : ℕ) → Reading axes job records 0
reading-start axes job records = record { within = omega arith; rest = λ mode. rw sub-zero }

module _ {axes : ℕ} {job : List ℕ} {records i : ℕ} (r : Reading axes job records i) where
  pub reading-more : i < records → form_refusal axes i false (record_at job i) ≡ 0 → kind (record_at job i) ≡ axis_kind → Reading axes job records (i + 1)
  reading-more h z k = record { within = omega arith; rest = λ mode. sym (axis-on axes mode job records i h z k) ∙ r.rest mode }

  pub read-bad : (x : Refusal) → i < records → number x ≡ form_refusal axes i false (record_at job i) → AxesRead axes job records (Err (record { refusal = x; place = i }))
  read-bad x h e = (omega arith, λ mode. sym (r.rest mode) ∙ axis-stop axes mode job records i h (number x) e (some_number x))

  pub read_whole : i < records → form_refusal axes i false (record_at job i) ≡ 0 → (kind (record_at job i) ≡ axis_kind → ⊥) → AxesRead axes job records (Ok i)
  read_whole h z k = record {
    within = omega arith;
    whole = behind-whole axes 0 job records i h z k;
    good = λ mode. sym (r.rest mode) ∙ begin axes mode job records i h z k;
  }

module _ {axes : ℕ} {job : List ℕ} {records i : ℕ} (s : Reading axes job records i) (l : records ≤ i) where
  r : Reading axes job records records
  r = let e : i ≡ records = omega (arith, s.within) in subst (λ (x : ℕ). Reading axes job records x) e s

  pub read-open : (records % axes ≡ 0 → ⊥) → AxesRead axes job records (Err (record { refusal = Unfinished; place = records }))
  unfolding ended
  read-open p = (r.within, λ mode. sym (r.rest mode) ∙ at-end axes mode job records records in_axes (omega arith) ∙ rw (ne_eqb (records % axes) 0 p))

  pub read_all : records % axes ≡ 0 → AxesRead axes job records (Ok records)
  unfolding ended ended_sets regions_only
  read_all p = record {
    within = r.within;
    whole = p;
    good = λ mode. sym (r.rest mode) ∙ at-end axes mode job records records in_axes (omega arith) ∙ rw (eq-eqb (records % axes) 0 p)
        (sym (at-end axes mode job records records (in_sets (regions_only (region_list axes (records / axes) job))) (omega arith)));
  }
