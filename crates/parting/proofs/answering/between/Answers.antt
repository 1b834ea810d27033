use native.Mathlib.Omega.{arith}
use Rattle.parting.proofs.AnswerLaws.{no-first, no_second, set-stored, told-equal, fit-less, fit-more, told-less, told_more}
use Rattle.parting.proofs.answering.between.Goals as goal

pub returns-then-sets-first : goal.returns-then-sets-first
returns-then-sets-first c = λ f. no-first f _ _ (omega arith)

pub returns-then-sets-second : goal.returns-then-sets-second
returns-then-sets-second c = λ f. no_second f _ _ (omega arith) (omega arith)

pub compare-requires : goal.compare-requires
compare-requires c = record { stored = set-stored c.requires _ (omega arith); stored_2 = set-stored c.requires _ (omega arith) }

pub user-p-requires : goal.user-p-requires
user-p-requires c = fit-less c.requires _ _ (omega arith) (omega arith) _ c.compare.ensures.walked c.compare.ensures.dense _ _ _ c.in-Smaller.is

pub user-p-requires-in-Larger : goal.user-p-requires-in-Larger
user-p-requires-in-Larger c = fit-more c.requires _ _ (omega arith) (omega arith) _ c.compare.ensures.walked c.compare.ensures.dense _ _ _ c.in-Larger.is

pub returns-in-Equal : goal.returns-in-Equal
returns-in-Equal c = λ f. told-equal f _ _ (omega arith) (omega arith) _ c.compare.ensures.walked c.in-Equal.is

pub returns-in-Smaller : goal.returns-in-Smaller
returns-in-Smaller c = λ f. told-less f _ _ (omega arith) (omega arith) _ c.compare.ensures.walked c.compare.ensures.dense _ _ _ _ c.in-Smaller.is c.user-p.ensures

pub returns-in-Larger : goal.returns-in-Larger
returns-in-Larger c = λ f. told_more f _ _ (omega arith) (omega arith) _ c.compare.ensures.walked c.compare.ensures.dense _ _ _ _ c.in-Larger.is c.user-p-in-Larger.ensures
