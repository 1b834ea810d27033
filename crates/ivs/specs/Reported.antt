-- What a host has after a call, of a report of sixteen words: nothing of what it held is left (H2). Assumes nothing.
use Rattle.std.specs.Prelude.{◌≡◌, List, ℕ}
use Rattle.call.specs.Lending.{Lending, Left}
use Rattle.call.specs.Build.{answer_of, after}
use Rattle.reporting.specs.Answers.{number_of, report_words}

pub record Reported (c : Lending) (number : ℕ) (l : Left) (report : List ℕ) : Type 0 where
  pub number_is : number ≡ number_of (answer_of c)
  pub left_is : l ≡ after c
  pub report-is : report ≡ report_words c.job (answer_of c)
