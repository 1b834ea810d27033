use mathlib.Core.Path.{sym, ◌∙◌}
use Rattle.reader.specs.Store.{words}
use Rattle.reader.proofs.StoreLaws.{words-length, words-at}
use Rattle.job_scan.proofs.WriteLaws.{writing_start, writing_more, writing-done}
use native.Mathlib.Omega.{arith}
use Rattle.matching.proofs.write_listed.Goals as goal

pub loop-k-init : goal.loop-k-init
loop-k-init c = writing_start _ _ _ _ (omega arith) (words-length c.args.store.now c.args.p c.args.n)

pub loop-k-preserved : goal.loop-k-preserved
loop-k-preserved c =
    let a = c.args in
    let l = c.loop-k in
    let b = c.be-v in
    writing_more a.at a.n (words a.store.now a.p a.n) a.work.now (omega arith) (words-length a.store.now a.p a.n)
    l.work l.k b.result l.invariant (omega arith)
    (b.ensures.is ∙ sym (words-at a.store.now a.p a.n l.k (omega arith)))
    (omega (arith, b.ensures.below))

pub returns : goal.returns
returns c =
    let a = c.args in
    writing-done a.at a.n (words a.store.now a.p a.n) a.work.now (omega arith) (words-length a.store.now a.p a.n)
    c.loop-k.work c.loop-k.k c.loop-k.invariant (omega arith)
