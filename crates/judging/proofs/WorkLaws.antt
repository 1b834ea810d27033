-- Refusals 1, 3 and 4 of a call that judges, and its words of work. Assumes nothing.
use mathlib.Core.Path.{◌≡◌, refl, ap, ap₂, ◌∙◌}
use mathlib.Core.Bool.{Bool, true, false, ◌&&◌}
use mathlib.Core.List.{List, [], ◌∷◌}
use Prim.Native.Nat.{ℕ, ◌+◌, ◌*◌, ◌%◌, ◌≤◌, ◌<◌, min}
use native.Mathlib.Omega.{arith}
use lib.ListN.{length}
use lib.Dec.{ltb, leb}
use borrow.Author.Tests.{lt-ltb, le-leb, lt-leb, eq-eqb, leb-false}
use Rattle.limits.specs.Limits.{max_regions}
use Rattle.said.specs.Records.{record_bytes, record_count, is_whole_records, most_records, most_axes}
use Rattle.said.specs.Work.{regions_at_head}
use Rattle.said.specs.Refusals.{first_failed, published_work, job_work, building_work, early_refusal, pair_records, bad_axes, bad_mode, bad_job_length, work_short}
use Rattle.said.specs.LentOpen.{Open}
use Rattle.said.proofs.WorkLaws.{work-most, work-records, words_are, head-most}
use Rattle.judging.specs.Judge.{judge_work, judging_work, judge_refusal}
use Rattle.judging.specs.LentJudge.{JudgeOpen}

pub published-words : (n r : ℕ) → n ≤ most_records → building_work n r ≡ published_work n (min r max_regions)
unfolding building_work
published-words n r h = rw (le-leb n most_records h)

-- of a job: more regions than there may be are not at its head
pub words_of : (axes : ℕ) (job : List ℕ) (n r w : ℕ) → n ≡ record_count job → r ≡ regions_at_head axes job → record_count job ≤ most_records → w ≡ building_work n r → w ≡ job_work axes job
words_of axes job n r w e f h g = g ∙ ap₂ building_work e f ∙ words_are (record_count job) (regions_at_head axes job) h (head-most axes job)

pub published-most : (n r : ℕ) → n ≤ most_records → published_work n (min r max_regions) ≤ 0x1000_0000
published-most n r h = omega (arith, work-most n (min r max_regions) (omega arith))

-- ---- as it is asked for

pub words-many : (n r bytes : ℕ) → most_records < n → 0 ≡ judging_work n r bytes
unfolding judging_work
words-many n r bytes h = rw (lt-leb n most_records h)

pub words_long : (n r bytes : ℕ) → n ≤ most_records → 0x4000_0000_0000_0000 < bytes → 0 ≡ judging_work n r bytes
unfolding judging_work
words_long n r bytes h l = rw (le-leb n most_records h, lt-leb bytes 0x4000_0000_0000_0000 l)

pub words-both : (n r bytes w : ℕ) → n ≤ most_records → bytes ≤ 0x4000_0000_0000_0000 → w ≡ building_work n r → w + 3 * bytes ≡ judging_work n r bytes
unfolding judging_work
words-both n r bytes w h l e = rw (le-leb n most_records h, le-leb bytes 0x4000_0000_0000_0000 l) (ap (λ (k : ℕ). k + 3 * bytes) (e ∙ published-words n r h))

-- ---- the refusals

same_first : (a m b c p d : Bool) → m ≡ true → p ≡ true → (c ≡ false → d ≡ false)
    → (first_failed ((a, bad_axes) ∷ (m, bad_mode) ∷ (b, bad_job_length) ∷ (c, work_short) ∷ (p, work_short) ∷ []) ≡ 0 → ⊥)
    → first_failed ((a, bad_axes) ∷ (m, bad_mode) ∷ (b, bad_job_length) ∷ (c, work_short) ∷ (p, work_short) ∷ [])
    ≡ first_failed ((a, bad_axes) ∷ (b, bad_job_length) ∷ (d, work_short) ∷ [])
unfolding first_failed
same_first true true true true true d e f h z = absurd (z refl)
same_first true true true true false d e f h z = let x : ◌≡◌ {A = ℕ} 0 1 = cc in absurd (omega arith)
same_first true true true false p d e f h z = rw (h refl) refl
same_first true true false c p d e f h z = refl
same_first true false b c p d e f h z = let x : ◌≡◌ {A = ℕ} 0 1 = cc in absurd (omega arith)
same_first false m b c p d e f h z = refl

module _ (axes : ℕ) (job : List ℕ) (store work : ℕ) where
  abbrev asked : ℕ
  asked = judge_work (record_count job) (regions_at_head axes job) store

  pub judge-first : (n : ℕ) → n ≡ early_refusal axes 0 job work pair_records → (n ≡ 0 → ⊥) → n ≡ judge_refusal axes job store work
  unfolding early_refusal judge_refusal
  judge-first n e d =
      e
      ∙ same_first (ltb 0 axes && leb axes most_axes) (leb 0 1) (is_whole_records (length job) && leb (record_count job) most_records) (leb (job_work axes job) work)
      (leb pair_records pair_records) (leb asked work) (le-leb 0 1 (omega arith)) (le-leb pair_records pair_records (omega arith))
      (λ f. lt-leb asked work (let g = leb-false (job_work axes job) work f in omega arith))
      (λ z. d (e ∙ z))

  module _ (o : Open axes 0 job work pair_records) where
    spare : length job % record_bytes ≡ 0
    spare = omega (arith, o.whole)

    pub judge-short : work < judge_work (record_count job) (regions_at_head axes job) store → work_short ≡ judge_refusal axes job store work
    unfolding judge_refusal first_failed
    judge-short h = rw (
      lt-ltb 0 axes o.some,
      le-leb axes most_axes o.most,
      eq-eqb (length job % record_bytes) 0 spare,
      le-leb (record_count job) most_records o.few,
      lt-leb asked work h,
    )

    pub judge-passed : judge_work (record_count job) (regions_at_head axes job) store ≤ work → 0 ≡ judge_refusal axes job store work
    unfolding judge_refusal first_failed
    judge-passed h = rw (
      lt-ltb 0 axes o.some,
      le-leb axes most_axes o.most,
      eq-eqb (length job % record_bytes) 0 spare,
      le-leb (record_count job) most_records o.few,
      le-leb asked work h,
    )

    pub judge-open : judge_work (record_count job) (regions_at_head axes job) store ≤ work → JudgeOpen axes job store work
    judge-open h = record { passed = o; room = omega (arith, work-records (record_count job) (regions_at_head axes job)) }
