use mathlib.Core.Path.{ap, ◌∙◌}
use Rattle.parting.specs.Answers.{Parted}
use Rattle.reporting.specs.Answers.{filled}
use Rattle.part_words.specs.PartWords.{part_number, part_report}
use Rattle.ivs.proofs.PartLaws.{part-within}
use borrow.Author.Rules.{rules}
use Rattle.ivs.proofs.part.ivs_part.Goals as goal

pub tell_parted-requires : goal.tell_parted-requires
tell_parted-requires c = let a = c.args in let e = c.part-answer.ensures.value in part-within a.axes a.job.now _ a.first a.second _ e

pub returns : goal.returns
returns c =
    let a = c.args in
    let p = c.part-answer in
    record { value = c.tell_parted.ensures.value ∙ ap part_number p.ensures.value; work_after = p.ensures.work_after; report_after = c.tell_parted.ensures.report_after ∙ ap (λ (x : Parted). filled 0 (part_report a.job.now x) a.report.now) p.ensures.value }
