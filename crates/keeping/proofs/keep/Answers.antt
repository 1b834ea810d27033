use lib.ListN.{length}
use native.Mathlib.Omega.{arith}
use Rattle.keeping.proofs.KeepLaws.{words-some}
use Rattle.keeping.proofs.CallLaws.{work-short, zeros-all, keep-done}
use Rattle.keeping.proofs.keep.Goals as goal

pub returns-then-work-keep_words : goal.returns-then-work-keep_words
returns-then-work-keep_words c =
    let k = work-short c.args.store.now c.args.rows.now (length c.args.out.now) (length c.args.places.now) _ c.args.out.now c.args.places.now c.args.work.now c.keep_words.ensures c.if-work-keep_words.true in
    record { value = k.0; out_after = k.1.0; places_after = k.1.1.0; work_after = k.1.1.1 }

pub keep_in-answer-requires : goal.keep_in-answer-requires
keep_in-answer-requires c = (omega (arith, words-some (length c.args.store.now) (length c.args.rows.now) (omega (arith)) (omega (arith)), c.keep_words.ensures, c.if-work-keep_words.false, c.fill.ensures.len), zeros-all _ (c.fill.ensures.after (λ y e. e)))

pub returns : goal.returns
returns c =
    let k = keep-done c.args.store.now c.args.rows.now (length c.args.out.now) (length c.args.places.now) _ _ c.args.out.now _ c.args.places.now _ c.args.work.now _ _ c.keep_words.ensures (omega (arith, c.if-work-keep_words.false)) (c.keep_in-answer.ensures.value, (c.keep_in-answer.ensures.out_after, c.keep_in-answer.ensures.places_after)) (c.fill-2.ensures.after (λ y e. e)) (omega (arith, c.keep_in-answer.auto.work, c.fill.ensures.len)) in
    record { value = k.0; out_after = k.1.0; places_after = k.1.1.0; work_after = k.1.1.1 }
