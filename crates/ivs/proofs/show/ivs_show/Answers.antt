use native.Mathlib.Omega.{arith}
use Rattle.finishing.specs.Buffers.{buffers}
use Rattle.call.specs.Lending.{lending, leaves}
use Rattle.packer.proofs.BuildLaws.{plain-obeys}
use Rattle.finishing.specs.Answers.{built}
use Rattle.showing.specs.Answers.{shown_of}
use Rattle.ivs.proofs.AskedLaws.{fits_both, few-shown, show-answered}
use Rattle.ivs.proofs.show.ivs_show.Goals as goal

pub find-part-requires : goal.find-part-requires
find-part-requires c =
    let a = c.args in
    let l = lending a.axes 0 a.job.now a.work.now a.pairs.now (buffers a.out.now a.ids.now a.map.now a.log.now a.origins.now) in
    let o = plain-obeys l (built c.build-answer.result) _ c.build-answer.ensures in
    fits_both l (built c.build-answer.result) o.answer c.build-answer.new.out c.build-answer.new.map (omega arith) (omega arith)

pub tell_shown-requires : goal.tell_shown-requires
tell_shown-requires c =
    let a = c.args in
    let l = lending a.axes 0 a.job.now a.work.now a.pairs.now (buffers a.out.now a.ids.now a.map.now a.log.now a.origins.now) in
    let o = plain-obeys l (built c.build-answer.result) _ c.build-answer.ensures in
    let f = few-shown l (built c.build-answer.result) o.answer (shown_of c.find-part.result) a.job.now a.store.now c.build-answer.new.out c.build-answer.new.ids c.build-answer.new.map a.id a.what c.find-part.ensures in (f.1, f.2)

pub returns : goal.returns
returns c =
    let a = c.args in
    let b = c.build-answer in
    let l = lending a.axes 0 a.job.now a.work.now a.pairs.now (buffers a.out.now a.ids.now a.map.now a.log.now a.origins.now) in
    let left = leaves b.new.work b.new.pairs (buffers b.new.out b.new.ids b.new.map b.new.log b.new.origins) in
    show-answered l (built b.result) left (plain-obeys l (built b.result) left b.ensures) a.store.now a.id a.what (shown_of c.find-part.result) c.find-part.ensures _ c.tell_shown.ensures.value _ _ c.tell_shown.ensures.report_after
