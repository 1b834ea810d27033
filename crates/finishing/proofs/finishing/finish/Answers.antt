use mathlib.Core.Path.{refl, sym}
use Rattle.refusals.proofs.Passing.{passed}
use Rattle.refusals.proofs.Numbers.{some_number}
use Prim.Native.Nat.{◌+◌}
use lib.Seq.{length-take-le}
use Rattle.finishing.proofs.FinishLaws.{words-fit, log-fits, plan, room, refused_as, done-as}
use Rattle.finishing.proofs.FrontLaws.{finish-front, packed-front, coords-front, front-stays}
use native.Mathlib.Omega.{arith}
use Rattle.finishing.proofs.finishing.finish.Goals as goal

pub overflow_add-scratch : goal.overflow_add-scratch
overflow_add-scratch c = omega (arith, c.requires.regions_in_bounds)

pub measure-done-requires : goal.measure-done-requires
measure-done-requires c =
    let q = c.requires in
    let k = c.args.k in
    record { axes_le_most_axes = q.finish_fit.axes-few; regions_in_bounds = q.regions_in_bounds; words_fit = words-fit (finish-front k.places k.encoded c.args.work.now (k.places.rows + k.places.sets) (omega arith) (omega (arith, q.regions_in_bounds)) q.finish_fit) }

pub check_lent-requires : goal.check_lent-requires
check_lent-requires c = c.requires.finish_fit.packed.groups-few

pub returns-in_err-check_lent : goal.returns-in_err-check_lent
returns-in_err-check_lent c x at =
    let q = c.requires in
    let k = c.args.k in
    let w = c.args.work.now in
    let s = k.places.rows + k.places.sets in
    let f = finish-front k.places k.encoded w s (omega arith) (omega (arith, q.regions_in_bounds)) q.finish_fit in
    rw (← coords-front k.places k.encoded w s (omega arith) (omega (arith, q.regions_in_bounds)) q.finish_fit) (rw (passed c.from_residual.result c.from_residual.ensures.1) (refused_as f c.measure-done.ensures.measured_as.drafted x (packed-front k.places k.encoded w s (omega arith) (omega (arith, q.regions_in_bounds)) x at) _ _ c.in_err-check_lent.ensures (some_number c.in_err-check_lent.field-0.0)))

pub write_out-requires : goal.write_out-requires
write_out-requires c =
    let q = c.requires in
    let k = c.args.k in
    let w = c.args.work.now in
    let s = k.places.rows + k.places.sets in
    let f = finish-front k.places k.encoded w s (omega arith) (omega (arith, q.regions_in_bounds)) q.finish_fit in
    let d = c.measure-done.ensures.measured_as.drafted in
    let e = front-stays s c.measure-done.ensures.only (omega arith) (omega (arith, q.regions_in_bounds)) in
    let r = room f d c.in_ok-check_lent.ensures refl in
    record { finish_fit = rw e f; regions_in_bounds = omega (arith, q.regions_in_bounds, c.measure-done.ensures.only.long); planned = rw e (plan f d r); work_in_bounds = rw e r.out-room }

pub slice_bounds-write_words-end : goal.slice_bounds-write_words-end
slice_bounds-write_words-end c = omega (arith, c.requires.regions_in_bounds, c.measure-done.ensures.only.long, c.write_out.ensures.only.long)

pub slice_bounds-write_words-end-2 : goal.slice_bounds-write_words-end-2
slice_bounds-write_words-end-2 c = sym (length-take-le (c.args.k.places.rows + c.args.k.places.sets) c.write_out.new.work (omega (arith, c.requires.regions_in_bounds, c.measure-done.ensures.only.long, c.write_out.ensures.only.long)))

pub write_words-requires : goal.write_words-requires
write_words-requires c =
    let q = c.requires in
    let k = c.args.k in
    let w = c.args.work.now in
    let s = k.places.rows + k.places.sets in
    let f = finish-front k.places k.encoded w s (omega arith) (omega (arith, q.regions_in_bounds)) q.finish_fit in
    let e = front-stays s c.measure-done.ensures.only (omega arith) (omega (arith, q.regions_in_bounds)) in
    let g = front-stays s c.write_out.ensures.only (omega arith) (omega (arith, q.regions_in_bounds, c.measure-done.ensures.only.long)) in
    let r = room f c.measure-done.ensures.measured_as.drafted c.in_ok-check_lent.ensures refl in
    record { words_fit = rw (g, e) (words-fit f); sets_in_bounds = r.ids-room; distinct_in_bounds = r.map-room; merges_in_bounds = log-fits f r; groups_in_bounds = r.origins-room }

pub returns : goal.returns
returns c x at =
    let q = c.requires in
    let k = c.args.k in
    let w = c.args.work.now in
    let s = k.places.rows + k.places.sets in
    let f = finish-front k.places k.encoded w s (omega arith) (omega (arith, q.regions_in_bounds)) q.finish_fit in
    let e = front-stays s c.measure-done.ensures.only (omega arith) (omega (arith, q.regions_in_bounds)) in
    let g = front-stays s c.write_out.ensures.only (omega arith) (omega (arith, q.regions_in_bounds, c.measure-done.ensures.only.long)) in
    rw (coords-front k.places k.encoded w s (omega arith) (omega (arith, q.regions_in_bounds)) q.finish_fit) at (done-as f c.measure-done.ensures.measured_as.drafted x (packed-front k.places k.encoded w s (omega arith) (omega (arith, q.regions_in_bounds)) x at) 0 _ _ _ c.in_ok-check_lent.ensures refl (rw e at c.write_out.ensures.out_after) c.measure-done.ensures.measured_as.report-is (rw (g, e) at c.write_words.ensures))
