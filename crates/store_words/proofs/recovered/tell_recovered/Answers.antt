use mathlib.Core.Path.{ap, ◌∙◌}
use Prim.Native.Nat.{ℕ}
use Rattle.reporting.specs.Answers.{refused_words}
use Rattle.store_words.proofs.StoreTells.{recover-done, recover-refused}
use Rattle.store_words.proofs.recovered.tell_recovered.Goals as goal

pub returns-in-Ok : goal.returns-in-Ok
returns-in-Ok c =
    let p = recover-done c.args.report.now c.told-report c.args.answer c.in-Ok.c c.in-Ok.is in
    record { value = p.0; report_after = c.count_words.ensures ∙ p.1 }

pub returns-in-Err : goal.returns-in-Err
returns-in-Err c =
    let p = recover-refused c.args.report.now c.told-report c.args.answer c.in-Err.refusal c.in-Err.is in
    record { value = c.from-no.ensures ∙ p.0; report_after = c.refused_words.ensures ∙ (ap (λ (n : ℕ). refused_words n 0 0) c.from-no.ensures ∙ p.1) }
