use Rattle.store_words.proofs.StoreTells.{recover-whole}
use Rattle.store_words.proofs.recovered.recover_told.Goals as goal

pub returns : goal.returns
returns c =
    let e = c.recover-answer.ensures in
    recover-whole _ e.value e.work_after e.out_after c.tell_recovered.ensures.value c.tell_recovered.ensures.report_after
