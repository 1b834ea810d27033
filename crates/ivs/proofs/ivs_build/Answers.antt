use Rattle.finishing.specs.Buffers.{buffers}
use Rattle.call.specs.Lending.{lending}
use Rattle.packer.proofs.BuildLaws.{plain-obeys}
use Rattle.finishing.specs.Answers.{built}
use Rattle.ivs.proofs.FewLaws.{answer-within}
use Rattle.ivs.proofs.ivs_build.Goals as goal

pub tell-requires : goal.tell-requires
tell-requires c =
    let a = c.args in
    let l = lending a.axes a.mode a.job.now a.work.now a.pairs.now (buffers a.out.now a.ids.now a.map.now a.log.now a.origins.now) in
    let o = plain-obeys l (built c.build-answer.result) _ c.build-answer.ensures in
    answer-within l (built c.build-answer.result) o.answer

pub returns : goal.returns
returns c =
    let a = c.args in
    let l = lending a.axes a.mode a.job.now a.work.now a.pairs.now (buffers a.out.now a.ids.now a.map.now a.log.now a.origins.now) in
    record { answer = (built c.build-answer.result); obeys = plain-obeys l (built c.build-answer.result) _ c.build-answer.ensures; number_is = c.tell.ensures.value; report-is = c.tell.ensures.report_after }
