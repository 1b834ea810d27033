use Rattle.finishing.proofs.FinishLaws.{words-fit}
use Rattle.closing.proofs.CloseLaws.{none_told, arranged-few, arranged-told}
use Rattle.arranging.proofs.StageLaws.{stage-few}
use Rattle.closing.proofs.foretelling.foresee_stage.Goals as goal

pub foretell_none-requires : goal.foretell_none-requires
foretell_none-requires c =
    let q = c.requires in
    let f = q.fits in
    stage-few f.axes f.mode q.job c.args.s f.outcome f.mid f.read f.joined

pub returns-then-is_null : goal.returns-then-is_null
returns-then-is_null c =
    λ axes mode job o mid r j.
    let t = c.is_null.ensures.0 c.if-is_null.true in
    none_told axes mode job c.args.s o mid r j t.0 t.1 _ c.foretell_none.ensures c.tell_size.ensures

pub arrange-k-requires : goal.arrange-k-requires
arrange-k-requires c =
    let q = c.requires in
    record { job = q.job; fits = q.fits; some = c.is_null.ensures.1 c.if-is_null.false }

pub foretell-requires : goal.foretell-requires
foretell-requires c =
    let q = c.requires in
    let f = q.fits in
    let a = c.arrange-k.ensures f.axes f.mode q.job f.outcome f.mid f.read f.joined in
    record { axes_le_most_axes = arranged-few a; words_fit = words-fit a.fit; regions_in_bounds = a.room }

pub returns : goal.returns
returns c = λ axes mode job o mid r j. arranged-told (c.arrange-k.ensures axes mode job o mid r j) _ c.foretell.ensures c.tell_size-2.ensures
