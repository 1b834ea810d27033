-- Where two sets part, taken apart into numbers. Assumes nothing.
use mathlib.Core.Path.{◌≡◌, refl, sym, ap, ◌∙◌}
use mathlib.Core.List.{List, [], ◌∷◌}
use Prim.Native.Nat.{ℕ, ◌+◌, ◌-◌, ◌<◌}
use native.Mathlib.Omega.{arith}
use lib.ListN.{length}
use Rattle.laws.specs.Signed.{twos, value, zero_word}
use Rattle.laws.proofs.SignedLaws.{value-below, value-above}
use Rattle.parting.specs.Answers.{Parted}
use Rattle.parting.specs.Answers.{Refused, Equal, Smaller, Larger}
use Rattle.std.specs.Prelude.{Result, Ok, Err}
use Rattle.refusals.specs.declared.Refused as refusals
use Rattle.refusals.specs.Refusals.{number}
use Rattle.parting.specs.declared.answering.Standing.{Standing}
use Rattle.parting.specs.declared.answering.Standing.TheVariants as standing
use Rattle.parting.specs.Answers.{standing_of, parted}
use Rattle.reporting.specs.Answers.{refused_words, filled, words_of}
use Rattle.reporting.proofs.ReportLaws.{filled-all}
use Rattle.part_words.specs.PartWords.{part_number, value_of_64_bits, standing_words, part_report}

-- ---- a value of 64 bits

pub long-below : (w x : ℕ) → x ≡ w → w < zero_word → x + 18446744071562067968 ≡ value_of_64_bits w
unfolding value_of_64_bits twos
long-below w x e h = rw (value-below w h) (omega arith)

pub long-above : (w x : ℕ) → x ≡ w → (w < zero_word → ⊥) → x - 2147483648 ≡ value_of_64_bits w
unfolding value_of_64_bits twos
long-above w x e h = rw (value-above w (omega arith)) (omega arith)

-- ---- the answer as numbers

sixteen-long : (job : List ℕ) (p : Parted) → length (part_report job p) ≡ 16
unfolding part_report refused_words standing_words
sixteen-long job (Refused n at) = refl
sixteen-long job Equal = refl
sixteen-long job (Smaller r p v u) = refl
sixteen-long job (Larger r p v u) = refl

-- of sets that were compared the job's bytes say nothing more
any-job : (job : List ℕ) (s : Standing) → part_report [] (standing_of s) ≡ part_report job (standing_of s)
unfolding part_report
any-job job standing.Equal = refl
any-job job (standing.Smaller r p v u) = refl
any-job job (standing.Larger r p v u) = refl

no_number : (s : Standing) → 0 ≡ part_number (standing_of s)
unfolding part_number
no_number standing.Equal = refl
no_number (standing.Smaller r p v u) = refl
no_number (standing.Larger r p v u) = refl

module _ (job : List ℕ) (a : Result Standing refusals.Refused) (old : List ℕ) (long : length old ≡ 16) where
  all : part_report job (parted a) ≡ filled 0 (part_report job (parted a)) old
  all = sym (filled-all (part_report job (parted a)) old (long ∙ sym (sixteen-long job (parted a))))

  pub told-number : (s : Standing) → a ≡ Ok s → 0 ≡ part_number (parted a)
  told-number s e = rw e (no_number s)

  pub told-standing : (s : Standing) → a ≡ Ok s → part_report [] (standing_of s) ≡ filled 0 (part_report job (parted a)) old
  told-standing s e = any-job job s ∙ ap (λ (x : Result Standing refusals.Refused). part_report job (parted x)) (sym e) ∙ all

  pub refused-number : (x : refusals.Refused) → a ≡ Err x → number x.refusal ≡ part_number (parted a)
  unfolding part_number
  refused-number x e = rw e refl

  pub told-refused : (x : refusals.Refused) → a ≡ Err x → words_of job x ≡ filled 0 (part_report job (parted a)) old
  told-refused x e = same x ∙ ap (λ (y : Result Standing refusals.Refused). part_report job (parted y)) (sym e) ∙ all
    where
      same : (x : refusals.Refused) → words_of job x ≡ part_report job (Refused (number x.refusal) x.place)
      same x = unfold part_report in refl

-- computed: larger at index 1, which region 3 of the job used first, by 7 and -5
worked : part_report [] (Larger 1 3 (zero_word + 7) (zero_word - 5))
    ≡ 0 ∷ 0 ∷ 2 ∷ 1 ∷ 3 ∷ 7 ∷ 0xFFFF_FFFF_FFFF_FFFB ∷ 0 ∷ 0 ∷ 0 ∷ 0 ∷ 0 ∷ 0 ∷ 0 ∷ 0 ∷ 0 ∷ []
unfolding part_report standing_words value_of_64_bits twos value
worked = refl
