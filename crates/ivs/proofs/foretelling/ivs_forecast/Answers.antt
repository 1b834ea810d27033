use Rattle.call.specs.Lending.{lending, no_buffers}
use Rattle.finishing.specs.Answers.{built}
use Rattle.ivs.proofs.FewLaws.{foretold-within}
use Rattle.ivs.proofs.foretelling.ivs_forecast.Goals as goal

pub tell-requires : goal.tell-requires
tell-requires c =
    let a = c.args in
    let l = lending a.axes a.mode a.job.now a.work.now a.pairs.now no_buffers in
    foretold-within l (built c.forecast-answer.result) c.forecast-answer.ensures.answer

pub returns : goal.returns
returns c = record { answer = (built c.forecast-answer.result); foretells = c.forecast-answer.ensures; number_is = c.tell.ensures.value; report-is = c.tell.ensures.report_after }
