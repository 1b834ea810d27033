use Prim.Native.Nat.{ℕ, ◌-◌, ◌*◌, min}
use Rattle.rows.specs.Subtable.{run_count_for}
use Rattle.store.specs.Lent.{subtable_size}
use Rattle.store.proofs.SizeLaws.{runs-few, sum_more, sum_done, sized}
use native.Mathlib.Omega.{arith}
use Rattle.planning.proofs.size.size_runs.Goals as goal

abbrev piece : ℕ → ℕ → ℕ → ℕ → ℕ
piece n row count k = subtable_size n row (min 65535 (count - 65535 * k))

pub overflow_add-bytes : goal.overflow_add-bytes
overflow_add-bytes c = omega (arith, c.loop-k.invariant, c.table_size-bytes.ensures.upper_bound, runs-few c.args.count c.requires.count_le_most_records)

pub loop-k-preserved : goal.loop-k-preserved
loop-k-preserved c =
    let a = c.args in
    let l = c.loop-k in
    (omega (arith, l.invariant.0, c.table_size-bytes.ensures.upper_bound), rw (c.table_size-bytes.ensures.value, c.run_items.ensures) (sum_more (piece a.n a.row a.count) (run_count_for a.count) l.bytes l.k l.invariant.1 (omega arith)))

pub returns : goal.returns
returns c =
    let a = c.args in
    let l = c.loop-k in
    let f = runs-few a.count c.requires.count_le_most_records in
    record { summed = sized a.n a.row a.count _ _ c.run_count-runs.ensures (sum_done (piece a.n a.row a.count) (run_count_for a.count) l.bytes l.k l.invariant.1 (omega arith)); bytes_bound = (omega (arith, l.invariant.0), omega arith) }
