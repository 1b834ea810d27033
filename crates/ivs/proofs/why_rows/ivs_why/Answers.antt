use native.Mathlib.Omega.{arith}
use Rattle.finishing.specs.Buffers.{buffers}
use Rattle.call.specs.Lending.{lending, leaves}
use Rattle.packer.proofs.BuildLaws.{plain-obeys}
use Rattle.finishing.specs.Answers.{built}
use Rattle.why_words.specs.Answers.{why_of}
use Rattle.ivs.proofs.AskedLaws.{fits_out, few-why, why-answered}
use Rattle.ivs.proofs.why_rows.ivs_why.Goals as goal

pub explain-said-requires : goal.explain-said-requires
explain-said-requires c =
    let a = c.args in
    let l = lending a.axes 0 a.job.now a.work.now a.pairs.now (buffers a.out.now a.ids.now a.map.now a.log.now a.origins.now) in
    let o = plain-obeys l (built c.build-answer.result) _ c.build-answer.ensures in
    fits_out l (built c.build-answer.result) o.answer c.build-answer.new.out (omega arith)

pub tell_why-requires : goal.tell_why-requires
tell_why-requires c =
    let a = c.args in
    let l = lending a.axes 0 a.job.now a.work.now a.pairs.now (buffers a.out.now a.ids.now a.map.now a.log.now a.origins.now) in
    let o = plain-obeys l (built c.build-answer.result) _ c.build-answer.ensures in
    (few-why l (built c.build-answer.result) o.answer (why_of c.explain-said.result) c.look-reason.result a.store.now c.build-answer.new.out a.first a.second c.explain-said.ensures).1

pub returns : goal.returns
returns c =
    let a = c.args in
    let b = c.build-answer in
    let old = buffers a.out.now a.ids.now a.map.now a.log.now a.origins.now in
    let new = buffers b.new.out b.new.ids b.new.map b.new.log b.new.origins in
    let o = plain-obeys (lending a.axes 0 a.job.now a.work.now a.pairs.now old) (built b.result) (leaves b.new.work b.new.pairs new) b.ensures in
    why-answered a.axes a.job.now a.work.now a.pairs.now old (built b.result) new (omega arith) (omega arith) o a.first a.second c.look-reason.ensures a.store.now (why_of c.explain-said.result) c.explain-said.ensures _ c.tell_why.ensures.value _ _ c.tell_why.ensures.report_after
