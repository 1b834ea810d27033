-- What a host is told of a build call, and of a forecast: the promise of each, with its answer as numbers. Assumes nothing.
use Rattle.std.specs.Prelude.{◌≡◌, List, ℕ}
use Rattle.pairs.specs.declared.Pair.{Pair}
use Rattle.finishing.specs.Answers.{Built}
use Rattle.call.specs.Lending.{Lending, Left}
use Rattle.packer.specs.Promised.{Obeys, ObeysBy, Foretells}
use Rattle.panel.specs.declared.Profile.TheVariants.{Panel}
use Rattle.reporting.specs.Answers.{number_of, report_words, filled}

-- the number that is returned, all that is left, and the report before and after
pub record Answered (c : Lending) (number : ℕ) (l : Left) (report report' : List ℕ) : Type 0 where
  pub answer : Built
  pub obeys : Obeys c answer l
  pub number_is : number ≡ number_of answer
  pub report-is : report' ≡ filled 0 (report_words c.job answer) report

-- by the panel's profile
pub record PanelAnswered (c : Lending) (number : ℕ) (l : Left) (report report' : List ℕ) : Type 0 where
  pub answer : Built
  pub obeys : ObeysBy Panel c answer l
  pub number_is : number ≡ number_of answer
  pub report-is : report' ≡ filled 0 (report_words c.job answer) report

-- of a forecast: the number, what is left of work and pair records, and the report
pub record Forecasted (c : Lending) (number : ℕ) (work : List ℕ) (pairs : List Pair) (report report' : List ℕ) : Type 0 where
  pub answer : Built
  pub foretells : Foretells c answer work pairs
  pub number_is : number ≡ number_of answer
  pub report-is : report' ≡ filled 0 (report_words c.job answer) report
