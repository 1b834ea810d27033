use mathlib.Core.Path.{sym, ◌∙◌}
use Rattle.closing.proofs.CloseLaws.{none-built, arranged-built, arranged-wide}
use Rattle.closing.proofs.WideLaws.{wide-fit}
use Rattle.arranging.proofs.StageLaws.{stage-few}
use Rattle.closing.proofs.closing.close_stage.Goals as goal

pub finish_none-requires : goal.finish_none-requires
finish_none-requires c =
    let q = c.requires in
    stage-few q.axes q.mode c.args.job.now c.args.s q.outcome q.mid q.read q.joined

pub returns-then-is_null : goal.returns-then-is_null
returns-then-is_null c =
    λ axes mode o mid r j.
    let t = c.is_null.ensures.0 c.if-is_null.true in
    none-built axes mode c.args.job.now c.args.s o mid r j t.0 t.1 _ _ _ _ c.finish_none.ensures

pub arrange-k-requires : goal.arrange-k-requires
arrange-k-requires c = record { job = c.args.job.now; fits = c.requires; some = c.is_null.ensures.1 c.if-is_null.false }

pub too_wide-requires : goal.too_wide-requires
too_wide-requires c =
    let q = c.requires in
    record { regions_le_max_regions = (wide-fit (c.arrange-k.ensures q.axes q.mode c.args.job.now q.outcome q.mid q.read q.joined).fit).0; count_in_bounds = (wide-fit (c.arrange-k.ensures q.axes q.mode c.args.job.now q.outcome q.mid q.read q.joined).fit).1.0; by_index = (wide-fit (c.arrange-k.ensures q.axes q.mode c.args.job.now q.outcome q.mid q.read q.joined).fit).1.1 }

pub returns-then-too_wide : goal.returns-then-too_wide
returns-then-too_wide c = λ axes mode o mid r j. arranged-wide (c.arrange-k.ensures axes mode c.args.job.now o mid r j) _ (sym c.if-too_wide.true ∙ c.too_wide.ensures) _

pub finish-requires : goal.finish-requires
finish-requires c =
    let q = c.requires in
    let a = c.arrange-k.ensures q.axes q.mode c.args.job.now q.outcome q.mid q.read q.joined in
    record { finish_fit = a.fit; regions_in_bounds = a.room }

pub returns : goal.returns
returns c = λ axes mode o mid r j. arranged-built (c.arrange-k.ensures axes mode c.args.job.now o mid r j) _ (sym c.if-too_wide.false ∙ c.too_wide.ensures) _ _ _ c.finish.ensures
