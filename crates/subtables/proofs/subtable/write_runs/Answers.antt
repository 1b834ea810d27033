use mathlib.Core.Path.{◌≡◌, sym, ap, ◌∙◌}
use Prim.Native.Nat.{ℕ, ◌+◌, ◌*◌, ◌≤◌}
use Rattle.laws.specs.LentRange.{seg}
use Rattle.laws.proofs.RangeLaws.{length-seg, seg_all}
use Rattle.rows.specs.Subtable.{run_count_for}
use Rattle.rows.specs.Lent.{Stored, run_at}
use Rattle.rows.proofs.RunLaws.{run-starts, run-seg, runs-start, runs-room, runs-more, runs_done}
use native.Mathlib.Omega.{arith}
use Rattle.subtables.proofs.subtable.write_runs.Goals as goal

pub loop-k-init : goal.loop-k-init
loop-k-init c =
    let a = c.args in
    (c.run_count-runs.ensures ∙ ap run_count_for (sym (length-seg a.sets.ids a.sets.count a.work.now c.requires.count_in_bounds)), runs-start _ _ _ _ c.requires.work_in_bounds)

pub overflow_mul-run : goal.overflow_mul-run
overflow_mul-run c =
    let starts : 65535 * c.loop-k.k ≤ c.args.sets.count = run-starts c.args.sets.count c.loop-k.k (omega (arith, c.run_count-runs.ensures)) in
    omega (arith, starts)

pub overflow_add-run : goal.overflow_add-run
overflow_add-run c =
    let starts : 65535 * c.loop-k.k ≤ c.args.sets.count = run-starts c.args.sets.count c.loop-k.k (omega (arith, c.run_count-runs.ensures)) in
    omega (arith, starts, c.requires.count_in_bounds)

pub invariant_of-write_table : goal.invariant_of-write_table
invariant_of-write_table c =
    let starts : 65535 * c.loop-k.k ≤ c.args.sets.count = run-starts c.args.sets.count c.loop-k.k (omega (arith, c.run_count-runs.ensures)) in
    let a = c.args in
    let s = 65535 * c.loop-k.k in
    record {
      within = omega (arith, starts, c.requires.count_in_bounds, c.run_items.ensures);
      stored = λ k h. seg_all (Stored a.sets.index a.work.now) a.sets.count a.sets.ids a.work.now c.requires.count_in_bounds c.requires.all (a.sets.ids + s + k) (omega arith) (omega (arith, starts, c.run_items.ensures));
    }

pub write_table-a-requires : goal.write_table-a-requires
write_table-a-requires c =
    let starts : 65535 * c.loop-k.k ≤ c.args.sets.count = run-starts c.args.sets.count c.loop-k.k (omega (arith, c.run_count-runs.ensures)) in
    let part : run_at (seg c.args.sets.ids c.args.sets.count c.args.work.now) c.loop-k.k ≡ seg (c.args.sets.ids + 65535 * c.loop-k.k) c.run_items.result c.args.work.now = let a = c.args in
    run-seg a.sets.ids a.sets.count a.work.now c.loop-k.k c.requires.count_in_bounds (starts)
    ∙ ap (λ (m : ℕ). seg (a.sets.ids + 65535 * c.loop-k.k) m a.work.now) (sym c.run_items.ensures) in
    let a = c.args in
    let l = c.loop-k in
    let h = starts in
    let e = c.run_items.ensures in
    record { regions_value = c.requires.cols_value; count_bound = omega arith; table_in_bounds = rw (← part) (runs-room _ _ _ _ c.requires.work_in_bounds _ _ _ l.invariant.1 (omega (arith, l.invariant.0, c.loop-k-test.true))) }

pub loop-k-preserved : goal.loop-k-preserved
loop-k-preserved c =
    let starts : 65535 * c.loop-k.k ≤ c.args.sets.count = run-starts c.args.sets.count c.loop-k.k (omega (arith, c.run_count-runs.ensures)) in
    let part : run_at (seg c.args.sets.ids c.args.sets.count c.args.work.now) c.loop-k.k ≡ seg (c.args.sets.ids + 65535 * c.loop-k.k) c.run_items.result c.args.work.now = let a = c.args in
    run-seg a.sets.ids a.sets.count a.work.now c.loop-k.k c.requires.count_in_bounds (starts)
    ∙ ap (λ (m : ℕ). seg (a.sets.ids + 65535 * c.loop-k.k) m a.work.now) (sym c.run_items.ensures) in
    let l = c.loop-k in
    (l.invariant.0, runs-more _ _ _ _ c.requires.work_in_bounds _ _ _ l.invariant.1 (omega (arith, l.invariant.0, c.loop-k-test.true)) _ _ (rw (part) c.write_table-a.ensures))

pub returns : goal.returns
returns c = runs_done _ _ _ _ c.requires.work_in_bounds _ _ _ c.loop-k.invariant.1 (omega (arith, c.loop-k.invariant.0, c.loop-k-test.false))
