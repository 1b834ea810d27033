-- The numbers of a verdict are small, and the byte that it names is one of the job's. Assumes nothing.
use mathlib.Core.Path.{◌≡◌, refl, sym, subst}
use mathlib.Core.Bool.{Bool, true, false, ◌&&◌}
use mathlib.Core.List.{List, [], ◌∷◌}
use mathlib.Core.Option.{Option, none, some}
use Prim.Native.Nat.{ℕ, zero, suc, ◌+◌, ◌≤◌, ◌<◌}
use native.Mathlib.Omega.{arith}
use lib.Dec.{eqb, ltb, leb}
use lib.ListN.{length}
use Rattle.laws.specs.Pick.{pick}
use Rattle.said.specs.Records.{record_count, record_start, is_whole_records, most_records, most_axes}
use Rattle.said.specs.Refusals.{first_failed, bad_axes, bad_job_length, work_short, not_zero}
use Rattle.said.specs.Work.{regions_at_head}
use Rattle.said.specs.Job.{Said, Outcome, refused, fine, in_axes, records_from, outcome_from}
use Rattle.stores.specs.Stores.{Parsed, parse}
use Rattle.stores.specs.Coordinates.{once}
use Rattle.refusing.proofs.WalkEnds.{walk_no, stops-only}
use Rattle.judging.specs.Answers.{Judged}
use Rattle.judging.specs.Answers.{WrongSet}
use Rattle.judging.specs.Judge.{set_given, first_failing, judged_in, judged_of, judge_work, judge_refusal, judge_of}
use Rattle.verdict_words.specs.VerdictWords.{judge_few, judge_within}

tests-few : (a b c : Bool) → first_failed ((a, bad_axes) ∷ (b, bad_job_length) ∷ (c, work_short) ∷ []) ≤ 4
unfolding first_failed
tests-few true true true = omega arith
tests-few true true false = omega arith
tests-few true false c = omega arith
tests-few false b c = omega arith

no-few : (axes : ℕ) (job : List ℕ) (store work : ℕ) → judge_refusal axes job store work ≤ 4
unfolding judge_refusal
no-few axes job store work =
    tests-few (ltb 0 axes && leb axes most_axes) (is_whole_records (length job) && leb (record_count job) most_records) (leb (judge_work (record_count job) (regions_at_head axes job) store) work)

-- ---- a verdict is no refusal

failing-few : (given : ℕ → Bool) (left k : ℕ) → judge_few (first_failing given left k)
unfolding first_failing
failing-few given zero k = tt
failing-few given (suc left) k = go (given k) (failing-few given left (suc k))
  where
    go : (b : Bool) → judge_few (first_failing given left (suc k)) → judge_few (pick b (first_failing given left (suc k)) (WrongSet k))
    go true h = h
    go false h = tt

failing-within : (job : List ℕ) (given : ℕ → Bool) (left k : ℕ) → judge_within job (first_failing given left k)
unfolding first_failing
failing-within job given zero k = tt
failing-within job given (suc left) k = go (given k) (failing-within job given left (suc k))
  where
    go : (b : Bool) → judge_within job (first_failing given left (suc k)) → judge_within job (pick b (first_failing given left (suc k)) (WrongSet k))
    go true h = h
    go false h = tt

either-few : (b : Bool) (p q : Judged) → judge_few p → judge_few q → judge_few (pick b p q)
either-few true p q h k = h
either-few false p q h k = k

either-within : (job : List ℕ) (b : Bool) (p q : Judged) → judge_within job p → judge_within job q → judge_within job (pick b p q)
either-within job true p q h k = h
either-within job false p q h k = k

in-few : (axes : ℕ) (words : List ℕ) (s : Said) (o : Option Parsed) → judge_few (judged_in axes words s o)
unfolding judged_in
in-few axes words s none = tt
in-few axes words s (some p) = either-few (eqb p.axes axes && once p.regions) _ _ (failing-few (set_given p s words) (length s.sets) 0) tt

in_within : (job : List ℕ) (axes : ℕ) (words : List ℕ) (s : Said) (o : Option Parsed) → judge_within job (judged_in axes words s o)
unfolding judged_in
in_within job axes words s none = tt
in_within job axes words s (some p) = either-within job (eqb p.axes axes && once p.regions) _ _ (failing-within job (set_given p s words) (length s.sets) 0) tt

-- ---- of a call

module _ (axes : ℕ) (job store words : List ℕ) (work : ℕ) where
  abbrev ends : Outcome
  ends = outcome_from (judge_refusal axes job (length store) work) (records_from axes 0 job job (record_count job) 0 in_axes)

  refused-few : (n i : ℕ) → ends ≡ refused n i → n < 4294967296
  refused-few n i e = go (judge_refusal axes job (length store) work) (no-few axes job (length store) work) e
    where
      go : (k : ℕ) → k ≤ 4 → outcome_from k (records_from axes 0 job job (record_count job) 0 in_axes) ≡ refused n i → n < 4294967296
      go zero h f = unfold outcome_from in omega (arith, (walk_no axes 0 job (record_count job) n i f).high)
      go (suc k) h f = unfold outcome_from in (let z : suc k ≡ n = cc in omega arith)

  refused-within : (n i : ℕ) → ends ≡ refused n i → n ≡ not_zero → record_start (i + 1) ≤ length job
  refused-within n i e z = go (judge_refusal axes job (length store) work) (no-few axes job (length store) work) e
    where
      go : (k : ℕ) → k ≤ 4 → outcome_from k (records_from axes 0 job job (record_count job) 0 in_axes) ≡ refused n i → record_start (i + 1) ≤ length job
      go zero h f =
          unfold outcome_from in
          (let w = stops-only axes 0 job (record_count job) n i (λ x. omega arith) f in let l = w.within in omega arith)
      go (suc k) h f = unfold outcome_from in (let y : suc k ≡ n = cc in absurd (omega arith))

  of-few : (o : Outcome) → ends ≡ o → judge_few (judged_of axes store words o)
  unfolding judged_of
  of-few (refused n i) e = refused-few n i e
  of-few (fine s) e = in-few axes words s (parse store)

  of-within : (o : Outcome) → ends ≡ o → judge_within job (judged_of axes store words o)
  unfolding judged_of
  of-within (refused n i) e = refused-within n i e
  of-within (fine s) e = in_within job axes words s (parse store)

  pub judge-few : (p : Judged) → p ≡ judge_of axes job store words work → judge_few p
  unfolding judge_of
  judge-few p e = subst judge_few (sym e) (of-few ends refl)

  pub judge-within : (p : Judged) → p ≡ judge_of axes job store words work → judge_within job p
  unfolding judge_of
  judge-within p e = subst (judge_within job) (sym e) (of-within ends refl)
