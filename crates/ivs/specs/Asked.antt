-- What a host is told of why two ids are where they are, and of the part that shows one: the promise of the build in mode 0, with the answer as
-- numbers. Assumes nothing.
use Rattle.std.specs.Prelude.{◌≡◌, List, ℕ}
use Rattle.finishing.specs.Answers.{Built}
use Rattle.call.specs.Lending.{Lending, Left}
use Rattle.call.specs.Build.{outcome_of}
use Rattle.packer.specs.Promised.{Obeys}
use Rattle.looking.specs.Look.{why_from}
use Rattle.showing.specs.Parts.{found_of}
use Rattle.reporting.specs.Answers.{filled}
use Rattle.why_words.specs.Answers.{Why}
use Rattle.why_words.specs.Explained.{explained}
use Rattle.why_words.specs.WhyWords.{why_number, why_report}
use Rattle.why_words.specs.ShownWords.{shown_number, shown_words}

-- the build's refusal, R62 or R63, or the reason by what the records say
abbrev pub why_asked : Lending → Built → (store : List ℕ) → (first second : ℕ) → Left → Why
why_asked c b store first second l = explained b (why_from (outcome_of c) first second) store l.lent.out first second

pub record WhyAnswered (c : Lending) (store : List ℕ) (first second number : ℕ) (l : Left) (report report' : List ℕ) : Type 0 where
  pub answer : Built
  pub obeys : Obeys c answer l
  pub number_is : number ≡ why_number (why_asked c answer store first second l)
  pub report-is : report' ≡ filled 0 (why_report c.job (why_asked c answer store first second l)) report

pub record ShowAnswered (c : Lending) (store : List ℕ) (id what number : ℕ) (l : Left) (report report' : List ℕ) : Type 0 where
  pub answer : Built
  pub obeys : Obeys c answer l
  pub number_is : number ≡ shown_number (found_of answer c.job store l.lent.out l.lent.ids l.lent.map id what)
  pub report-is : report' ≡ filled 0 (shown_words c.job (found_of answer c.job store l.lent.out l.lent.ids l.lent.map id what)) report
