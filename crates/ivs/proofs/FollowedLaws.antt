-- A host asks for a forecast, lends what its report says, and builds: the build answers with the same number and report (specs/Foretold.antt). Assumes
-- nothing.
use mathlib.Core.Path.{◌≡◌, refl, sym, ap, subst, ◌∙◌}
use mathlib.Core.List.{List}
use mathlib.Core.Logic.{⊎_elim}
use Prim.Native.Nat.{ℕ}
use native.Mathlib.Omega.{arith}
use lib.ListN.{length, get_or}
use Rattle.laws.proofs.Cases.{same_or_not}
use Rattle.limits.specs.Limits.{max_shapes}
use Rattle.said.specs.Refusals.{store_too_big}
use Rattle.refusing.specs.Counts.{end_records}
use Rattle.pairs.specs.declared.Pair.{Pair}
use Rattle.finishing.specs.declared.answers.Report.{Report}
use Rattle.finishing.specs.Answers.{Built}
use Rattle.finishing.specs.Answers.{Refused, Done}
use Rattle.finishing.specs.Answers as built
use Rattle.finishing.specs.Buffers.{Buffers}
use Rattle.call.specs.Lending.{Lending, Left}
use Rattle.call.specs.Build.{answer_of}
use Rattle.call.specs.Foretold.{foretold}
use Rattle.reporting.specs.Answers.{number_of, done_words, report_words}
use Rattle.ivs.specs.Answered.{Answered, Forecasted}
use Rattle.demands.specs.Foretold.{building, AsMuch, RoomFor}
use Rattle.ivs.specs.Followed.{Followed}
use Rattle.demands.proofs.OutcomeRows.{numbers}
use Rattle.reporting.proofs.ReportLaws.{sixteen}
use Rattle.ivs.proofs.ReportedLaws.{reported}
use Rattle.demands.proofs.ForetoldLaws.{foretold-law}

room_of : (job : List ℕ) (r : Report) (words : List ℕ) (lent : Buffers) → words ≡ done_words r → RoomFor job (get_or words 5 0) (get_or words 6 0) (get_or words 2 0) lent
    → RoomFor job r.ids r.groups r.bytes lent
unfolding done_words
room_of job r words lent e room = subst (λ (w : List ℕ). RoomFor job (get_or w 5 0) (get_or w 6 0) (get_or w 2 0) lent) e room

module _ (c : Lending) (work : List ℕ) (pairs : List Pair) (lent : Buffers) (m : AsMuch c work pairs) where
  abbrev d : Lending
  d = building c work pairs lent

  follows : (b : Built) → foretold c ≡ b → {number number' : ℕ} {report report' : List ℕ} → number ≡ number_of b → report ≡ report_words c.job b
      → number' ≡ number_of (answer_of (building c work pairs lent)) → report' ≡ report_words c.job (answer_of (building c work pairs lent))
      → Followed c.job lent number report number' report'
  unfolding number_of report_words
  follows (built.Refused n p) e {number} {number'} {report} {report'} f g h i =
      record {
        done = λ z room. absurd (⊎_elim (λ (s : n ≡ store_too_big). omega arith) (λ s. omega (arith, (numbers d n p (alike s)).0)) (same_or_not n store_too_big));
        refused-alike = λ z s. tells (alike (λ q. s (f ∙ q)));
        too-big = λ s room. tells (big (sym f ∙ s) room);
      }
    where
      alike : (n ≡ store_too_big → ⊥) → answer_of (building c work pairs lent) ≡ Refused n p
      alike s = (foretold-law c).refuses n p s e work pairs lent m

      big : n ≡ store_too_big → RoomFor c.job (end_records c.job) max_shapes 0 lent → answer_of (building c work pairs lent) ≡ Refused n p
      big q room =
          (foretold-law c).too-big p (e ∙ ap (λ (k : ℕ). Refused k p) q) work pairs lent m room ∙ ap (λ (k : ℕ). Refused k p) (sym q)

      tells : answer_of (building c work pairs lent) ≡ Refused n p → (number' ≡ number) × (report' ≡ report)
      tells a = (h ∙ ap number_of a ∙ sym f, i ∙ ap (report_words c.job) a ∙ sym g)
  follows (built.Done r) e {number} {number'} {report} {report'} f g h i = record {
    done = λ z room.
        let a : answer_of d ≡ Done r = (foretold-law c).builds r e work pairs lent m (room_of c.job r report lent g room) in
        (h ∙ ap number_of a, i ∙ ap (report_words c.job) a ∙ sym g);
    refused-alike = λ z s. absurd (z f);
    too-big = λ s room. absurd (omega arith);
  }

  -- THE LAW
  pub followed : {number number' : ℕ} {work' : List ℕ} {pairs' : List Pair} {l : Left} {old old' report report' : List ℕ}
      → Forecasted c number work' pairs' old report → length old ≡ 16 → Answered (building c work pairs lent) number' l old' report' → length old' ≡ 16
      → Followed c.job lent number report number' report'
  followed {old = old} t long u long' =
      let r = reported u long' in
      follows (foretold c) refl
      (t.number_is ∙ ap number_of t.foretells.answer)
      (t.report-is ∙ sixteen c.job t.answer old long ∙ ap (report_words c.job) t.foretells.answer)
      r.number_is r.report-is
