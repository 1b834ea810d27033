-- The numbers of a parting are small, and the byte that it names is one of the job's. Assumes nothing.
use mathlib.Core.Path.{◌≡◌, refl, sym, subst}
use mathlib.Core.Bool.{Bool, true, false, ◌&&◌}
use mathlib.Core.List.{List, []}
use Prim.Native.Nat.{ℕ, zero, suc, ◌+◌, ◌≤◌, ◌<◌}
use native.Mathlib.Omega.{arith}
use lib.Dec.{ltb}
use lib.ListN.{length, get_or}
use Rattle.laws.specs.Pick.{pick}
use Rattle.sets.specs.declared.Parting.{Parting}
use Rattle.sets.specs.declared.Parting.TheVariants as parts
use Rattle.sets.specs.Order.{parting}
use Rattle.said.specs.Records.{record_count, record_start}
use Rattle.said.specs.Refusals.{pair_records, early_refusal, not_zero}
use Rattle.said.specs.Job.{Said, Outcome, refused, fine, in_axes, records_from, outcome_from, outcome}
use Rattle.parting.specs.Answers.{Parted}
use Rattle.parting.specs.Part.{named, parted_in, parted_of, part_of}
use Rattle.part_words.specs.PartWords.{part_few, part_within}
use Rattle.refusing.proofs.WalkEnds.{walk_no, stops-only}
use Rattle.demands.proofs.OutcomeRows.{early-few}

-- ---- refusal numbers are small

module _ (axes : ℕ) (job : List ℕ) (work : ℕ) where
  outcome-few : (n i : ℕ) → outcome axes 0 job work pair_records ≡ refused n i → n < 4294967296
  unfolding outcome
  outcome-few n i e = go (early_refusal axes 0 job work pair_records) (early-few axes 0 job work pair_records) e
    where
      go : (k : ℕ) → k ≤ 4 → outcome_from k (records_from axes 0 job job (record_count job) 0 in_axes) ≡ refused n i → n < 4294967296
      go zero h f = unfold outcome_from in omega (arith, (walk_no axes 0 job (record_count job) n i f).high)
      go (suc k) h f = unfold outcome_from in (let z : suc k ≡ n = cc in omega arith)

  -- the byte that a refusal names is one of the job's
  outcome-within : (n i : ℕ) → outcome axes 0 job work pair_records ≡ refused n i → n ≡ not_zero → record_start (i + 1) ≤ length job
  unfolding outcome
  outcome-within n i e z = go (early_refusal axes 0 job work pair_records) (early-few axes 0 job work pair_records) e
    where
      go : (k : ℕ) → k ≤ 4 → outcome_from k (records_from axes 0 job job (record_count job) 0 in_axes) ≡ refused n i → record_start (i + 1) ≤ length job
      go zero h f =
          unfold outcome_from in
          (let w = stops-only axes 0 job (record_count job) n i (λ x. omega arith) f in let l = w.within in omega arith)
      go (suc k) h f = unfold outcome_from in (let y : suc k ≡ n = cc in absurd (omega arith))

  module _ (x y : ℕ) where
    named-few : (s : Said) (o : Parting) → part_few (named job s o)
    unfolding named
    named-few s parts.Equal = tt
    named-few s (parts.Smaller r v u) = tt
    named-few s (parts.Larger r v u) = tt

    either : (b : Bool) (p q : Parted) → part_few p → part_few q → part_few (pick b p q)
    either true p q h k = h
    either false p q h k = k

    parted-few : (o : Outcome) → outcome axes 0 job work pair_records ≡ o → part_few (parted_of job x y o)
    unfolding parted_of parted_in
    parted-few (refused n i) e = outcome-few n i e
    parted-few (fine s) e =
        either (ltb x (length s.sets) && ltb y (length s.sets)) _ _
        (named-few s (parting (get_or s.sets x []) (get_or s.sets y []))) (omega arith)

    pub part-few : (p : Parted) → p ≡ part_of axes job x y work → part_few p
    part-few p e = subst part_few (sym e) (parted-few (outcome axes 0 job work pair_records) refl)

    named-within : (s : Said) (o : Parting) → part_within job (named job s o)
    unfolding named
    named-within s parts.Equal = tt
    named-within s (parts.Smaller r v u) = tt
    named-within s (parts.Larger r v u) = tt

    either-within : (b : Bool) (p q : Parted) → part_within job p → part_within job q → part_within job (pick b p q)
    either-within true p q h k = h
    either-within false p q h k = k

    parted-within : (o : Outcome) → outcome axes 0 job work pair_records ≡ o → part_within job (parted_of job x y o)
    unfolding parted_of parted_in
    parted-within (refused n i) e = outcome-within n i e
    parted-within (fine s) e =
        either-within (ltb x (length s.sets) && ltb y (length s.sets)) _ _
        (named-within s (parting (get_or s.sets x []) (get_or s.sets y []))) (λ z. absurd (omega arith))

    pub part-within : (p : Parted) → p ≡ part_of axes job x y work → part_within job p
    part-within p e = subst (part_within job) (sym e) (parted-within (outcome axes 0 job work pair_records) refl)
