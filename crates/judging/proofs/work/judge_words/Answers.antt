use Rattle.judging.proofs.WorkLaws.{words-many, words_long, words-both, published-words, published-most}
use native.Mathlib.Omega.{arith}
use borrow.Author.Rules.{rules}
use Rattle.judging.proofs.work.judge_words.Goals as goal

pub returns-then-records-gt-RECORDS : goal.returns-then-records-gt-RECORDS
returns-then-records-gt-RECORDS c = words-many _ _ _ (omega arith)

pub returns-then-bytes-gt-MOST_BYTES : goal.returns-then-bytes-gt-MOST_BYTES
returns-then-bytes-gt-MOST_BYTES c = words_long _ _ _ (omega arith) (omega arith)

pub work_words-requires : goal.work_words-requires
work_words-requires c = search rules

pub overflow_mul-result : goal.overflow_mul-result
overflow_mul-result c = omega arith

pub overflow_add-result : goal.overflow_add-result
overflow_add-result c = omega (arith, c.work_words.ensures, published-words c.args.records c.args.regions (omega arith), published-most c.args.records c.args.regions (omega arith))

pub returns : goal.returns
returns c = words-both _ _ _ _ (omega arith) (omega arith) c.work_words.ensures
