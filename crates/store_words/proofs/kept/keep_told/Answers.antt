use Rattle.store_words.proofs.StoreTells.{keep-whole}
use Rattle.store_words.proofs.kept.keep_told.Goals as goal

pub returns : goal.returns
returns c =
    let e = c.keep-answer.ensures in
    keep-whole _ e.value e.out_after e.places_after e.work_after c.tell_kept.ensures.value c.tell_kept.ensures.report_after
