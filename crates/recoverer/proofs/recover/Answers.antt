use native.Mathlib.Omega.{arith}
use Rattle.recoverer.proofs.Steps.{refused-answer, refused-left, recover-short, work-short, work-zeros}
use Rattle.recoverer.proofs.recover.Goals as goal

pub returns-then-work-recover_words : goal.returns-then-work-recover_words
returns-then-work-recover_words c = record { value = refused-answer _ c.args.out.now _ _ (recover-short _ _ _ (omega arith)) (λ z. omega arith); work_after = work-short _ _ (omega arith); out_after = refused-left _ _ _ _ (recover-short _ _ _ (omega arith)) (λ z. omega arith) }

pub returns : goal.returns
returns c = record { value = c.recover_in-answer.ensures.value; work_after = work-zeros _ _ _ _ (omega arith) (omega (arith, c.recover_in-answer.auto.work)) (c.fill.ensures.after (λ y e. e)); out_after = c.recover_in-answer.ensures.out_after }
