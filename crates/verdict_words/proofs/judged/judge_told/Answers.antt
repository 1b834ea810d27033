use Rattle.verdict_words.proofs.FewLaws.{judge-within}
use Rattle.verdict_words.proofs.VerdictTells.{judge-whole}
use Rattle.verdict_words.proofs.judged.judge_told.Goals as goal

pub tell_judged-requires : goal.tell_judged-requires
tell_judged-requires c =
    let e = c.judge-answer.ensures.value in
    judge-within _ _ _ _ _ _ e

pub returns : goal.returns
returns c =
    let e = c.judge-answer.ensures in
    judge-whole _ e.value e.work_after c.tell_judged.ensures.value c.tell_judged.ensures.report_after
