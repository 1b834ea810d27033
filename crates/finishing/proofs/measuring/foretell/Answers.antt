use mathlib.Core.Path.{ap, ◌∙◌}
use mathlib.Core.List.{List}
use Prim.Native.Nat.{ℕ, ◌+◌}
use Rattle.finishing.specs.Late.{report_of}
use Rattle.finishing.proofs.FinishLaws.{report-is}
use Rattle.finishing.proofs.FrontLaws.{words-front, finish-front, packed-front, coords-front}
use native.Mathlib.Omega.{arith}
use borrow.Author.Rules.{rules}
use Rattle.finishing.proofs.measuring.foretell.Goals as goal

pub overflow_add-p : goal.overflow_add-p
overflow_add-p c = omega (arith, c.requires.regions_in_bounds)

pub measure-requires : goal.measure-requires
measure-requires c =
    let q = c.requires in
    let k = c.args.k in
    record { axes_le_most_axes = q.axes_le_most_axes; regions_in_bounds = q.regions_in_bounds; words_fit = words-front k.places k.encoded c.args.work.now (k.places.rows + k.places.sets) (omega arith) (omega (arith, q.regions_in_bounds)) q.words_fit }

pub shape_of-work : goal.shape_of-work
shape_of-work c = search rules

pub returns : goal.returns
returns c job x f at =
    let k = c.args.k in
    let w = c.args.work.now in
    let s = k.places.rows + k.places.sets in
    c.measure.ensures.measured_as.report-is
    ∙ report-is (finish-front k.places k.encoded w s (omega arith) (omega (arith, c.requires.regions_in_bounds)) f) c.measure.ensures.measured_as.drafted x (packed-front k.places k.encoded w s (omega arith) (omega (arith, c.requires.regions_in_bounds)) x at)
    ∙ ap (λ (l : List (List ℕ)). report_of k.axes l x) (coords-front k.places k.encoded w s (omega arith) (omega (arith, c.requires.regions_in_bounds)) f)
