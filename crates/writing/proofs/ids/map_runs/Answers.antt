use mathlib.Core.Path.{◌≡◌, sym, ap, ap₂, ◌∙◌}
use mathlib.Core.List.{List}
use Prim.Native.Nat.{ℕ, ◌+◌, ◌*◌, ◌≤◌, ◌<◌}
use lib.ListN.{length}
use lib.Seq.{take-length}
use Rattle.laws.specs.LentRange.{seg}
use Rattle.store.specs.Placing.{stored}
use Rattle.rows.specs.Lent.{run_at}
use Rattle.rows.proofs.RunLaws.{run-starts, run-seg, all-part}
use Rattle.store.proofs.SizeLaws.{runs-few}
use Rattle.store.proofs.MapLaws.{runs-all, runs-more, runs_done}
use native.Mathlib.Omega.{arith}
use Rattle.writing.proofs.ids.map_runs.Goals as goal

whole : (w : List ℕ) → seg 0 (length w) w ≡ w
unfolding seg
whole w = take-length w

pub loop-k-init : goal.loop-k-init
loop-k-init c = let a = c.args in λ s. ap (λ (l : List (ℕ × ℕ)). stored l a.map.now) (runs-all s a.ids.now a.first)

pub overflow_mul-from : goal.overflow_mul-from
overflow_mul-from c = omega (arith, run-starts (length c.args.ids.now) c.loop-k.k (omega (arith, c.run_count-runs.ensures)))

pub overflow_add-first : goal.overflow_add-first
overflow_add-first c = omega (arith, c.run_count-runs.ensures, runs-few (length c.args.ids.now) c.requires.ids_le_most_records, c.requires.first_bound)

pub map_run-requires : goal.map_run-requires
map_run-requires c =
    let a = c.args in
    let starts = run-starts (length a.ids.now) c.loop-k.k (omega (arith, c.run_count-runs.ensures)) in
    let few = runs-few (length a.ids.now) c.requires.ids_le_most_records in
    let e = c.run_items.ensures in
    let P = λ (x : ℕ). x < length c.loop-k.map in
    record {
      in_bounds = omega (arith, starts);
      le_max_items = omega arith;
      outer_bound = omega (arith, few, c.run_count-runs.ensures, c.requires.first_bound);
      all = rw c.loop-k.auto.map (all-part (λ x. x < length a.map.now) 0 (length a.ids.now) _ _ a.ids.now (omega arith) (omega arith) (omega (arith, starts)) (rw (whole a.ids.now) c.requires.all));
    }

pub loop-k-preserved : goal.loop-k-preserved
loop-k-preserved c =
    let a = c.args in
    let l = c.loop-k in
    let starts : 65535 * l.k ≤ length a.ids.now = run-starts (length a.ids.now) l.k (omega (arith, c.run_count-runs.ensures)) in
    let zero : 0 + 65535 * l.k ≡ 65535 * l.k = omega arith in
    let part : run_at a.ids.now l.k ≡ seg (65535 * l.k) c.run_items.result a.ids.now =
    ap (λ (w : List ℕ). run_at w l.k) (sym (whole a.ids.now))
    ∙ run-seg 0 (length a.ids.now) a.ids.now l.k (omega arith) starts
    ∙ ap₂ (λ (from m : ℕ). seg from m a.ids.now) zero (sym c.run_items.ensures) in
    λ s. runs-more s a.ids.now a.first _ l.map _ l.k (l.invariant s) (omega (arith, c.run_count-runs.ensures)) (rw part c.map_run.ensures)

pub overflow_add-result : goal.overflow_add-result
overflow_add-result c = omega (arith, c.run_count-runs.ensures, runs-few (length c.args.ids.now) c.requires.ids_le_most_records, c.requires.first_bound)

pub returns : goal.returns
returns c =
    let a = c.args in
    let l = c.loop-k in
    record {
      mapped = λ s. runs_done s a.ids.now a.first _ _ l.k _ (l.invariant s) (omega (arith, c.run_count-runs.ensures)) (ap (λ (n : ℕ). a.first + n) c.run_count-runs.ensures);
      upper_bound = omega (arith, c.run_count-runs.ensures, runs-few (length a.ids.now) c.requires.ids_le_most_records);
    }
