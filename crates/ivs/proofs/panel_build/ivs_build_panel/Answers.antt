use Rattle.finishing.specs.Buffers.{buffers}
use Rattle.call.specs.Lending.{lending}
use Rattle.finishing.specs.Answers.{built}
use Rattle.ivs.proofs.FewLaws.{panel-answer-within}
use Rattle.ivs.proofs.panel_build.ivs_build_panel.Goals as goal

pub tell-requires : goal.tell-requires
tell-requires c =
    let a = c.args in
    let l = lending a.axes a.mode a.job.now a.work.now a.pairs.now (buffers a.out.now a.ids.now a.map.now a.log.now a.origins.now) in
    panel-answer-within l (built c.build-answer.result) c.build-answer.ensures.answer

pub returns : goal.returns
returns c = record { answer = (built c.build-answer.result); obeys = c.build-answer.ensures; number_is = c.tell.ensures.value; report-is = c.tell.ensures.report_after }
