-- What a host is told of a store that was judged: the number that is returned, all that is left, and the report before and after. Assumes nothing.
use Rattle.std.specs.Prelude.{◌≡◌, List, ℕ, length}
use Rattle.judging.specs.Judge.{judge_of, judge_left}
use Rattle.reporting.specs.Answers.{filled}
use Rattle.verdict_words.specs.VerdictWords.{judge_number, judged_words}

pub record JudgeTold (axes : ℕ) (job store words work : List ℕ) (number : ℕ) (work' report report' : List ℕ) : Type 0 where
  pub number_is : number ≡ judge_number (judge_of axes job store words (length work))
  pub work-is : work' ≡ judge_left axes job (length store) work
  pub report-is : report' ≡ filled 0 (judged_words job (judge_of axes job store words (length work))) report
