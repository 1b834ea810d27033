use lib.Seq.{length-take-le}
use Rattle.finishing.proofs.WordsLaws.{groups-to, handed, small}
use Rattle.finishing.proofs.FinishLaws.{measured-as}
use native.Mathlib.Omega.{arith}
use borrow.Author.Rules.{rules}
use Rattle.finishing.proofs.measuring.measure.Goals as goal

pub draft-plan-requires : goal.draft-plan-requires
draft-plan-requires c =
    let q = c.requires in
    let f = q.words_fit in
    let k = f.packed in
    record { axes_le_most_axes = q.axes_le_most_axes; regions_le_max_regions = k.regions-few; count_le_max_shapes = k.finals-few; count_bound = omega (arith, groups-to f, length-take-le c.args.scratch c.args.work.now (omega (arith, q.regions_in_bounds))); by_index = handed f; by_index_2 = small f; regions_in_bounds = omega (arith, q.regions_in_bounds) }

pub report-requires : goal.report-requires
report-requires c = search rules

pub shape_of-work : goal.shape_of-work
shape_of-work c = search rules

pub returns : goal.returns
returns c = record { measured_as = measured-as _ _ _ _ _ _ _ _ c.report.ensures c.draft-plan.ensures.drafted; only = c.draft-plan.ensures.only }
