-- The part that shows an id, taken apart into numbers. Assumes nothing.
use mathlib.Core.Path.{◌≡◌, refl, sym, ap, subst, ◌∙◌}
use mathlib.Core.List.{List}
use Prim.Native.Nat.{ℕ, ◌+◌, ◌≤◌}
use native.Mathlib.Omega.{arith}
use lib.ListN.{length, take, drop, length-drop}
use lib.Seq.{length-take-le}
use Rattle.refusals.specs.declared.Refused as refusals
use Rattle.refusals.specs.Refusals.{number}
use Rattle.showing.specs.Answers.{Shown, Refused, InJob, InStore}
use Rattle.showing.specs.Parts.{bytes_shown}
use Rattle.showing.specs.LentParts.{Within}
use Rattle.reporting.specs.Answers.{refused_words, filled, words_of}
use Rattle.reporting.proofs.ReportLaws.{filled-all}
use Rattle.why_words.specs.ShownWords.{span_words, shown_number, shown_words}

part-long : (at long : ℕ) (l : List ℕ) → at + long ≤ length l → length (take long (drop at l)) ≡ long
part-long at long l h = length-take-le long (drop at l) (omega (arith, length-drop at l))

sixteen-long : (job : List ℕ) (s : Shown) → length (shown_words job s) ≡ 16
unfolding shown_words refused_words span_words
sixteen-long job (Refused n at) = refl
sixteen-long job (InJob at long) = refl
sixteen-long job (InStore at long) = refl

module _ (job store : List ℕ) (s : Shown) (old : List ℕ) (sixteen : length old ≡ 16) where
  all : shown_words job s ≡ filled 0 (shown_words job s) old
  all = sym (filled-all (shown_words job s) old (sixteen ∙ sym (sixteen-long job s)))

  pub refused-number : (n at : ℕ) → s ≡ Refused n at → n ≡ shown_number s
  unfolding shown_number
  refused-number n at e = rw e refl

  pub told-refused : (x : refusals.Refused) → s ≡ Refused (number x.refusal) x.place → words_of job x ≡ filled 0 (shown_words job s) old
  told-refused x e = same x ∙ ap (shown_words job) (sym e) ∙ all
    where
      same : (x : refusals.Refused) → words_of job x ≡ shown_words job (Refused (number x.refusal) x.place)
      same x = unfold shown_words in refl

  module _ (at long : ℕ) where
    pub number-job : s ≡ InJob at long → 0 ≡ shown_number s
    unfolding shown_number
    number-job e = rw e refl

    pub number-store : s ≡ InStore at long → 0 ≡ shown_number s
    unfolding shown_number
    number-store e = rw e refl

    module _ (bytes : List ℕ) (b : bytes ≡ bytes_shown job store s) (lies : Within job store s) where
      long-job : s ≡ InJob at long → length bytes ≡ long
      unfolding bytes_shown
      long-job e = ap length (b ∙ ap (bytes_shown job store) e) ∙ part-long at long job (subst (Within job store) e lies)

      long-store : s ≡ InStore at long → length bytes ≡ long
      unfolding bytes_shown
      long-store e = ap length (b ∙ ap (bytes_shown job store) e) ∙ part-long at long store (subst (Within job store) e lies)

      pub told-job : s ≡ InJob at long → span_words at (length bytes) ≡ filled 0 (shown_words job s) old
      unfolding shown_words
      told-job e = ap (span_words at) (long-job e) ∙ (ap (shown_words job) (sym e) ∙ all)

      pub told-store : s ≡ InStore at long → span_words at (length bytes) ≡ filled 0 (shown_words job s) old
      unfolding shown_words
      told-store e = ap (span_words at) (long-store e) ∙ (ap (shown_words job) (sym e) ∙ all)
