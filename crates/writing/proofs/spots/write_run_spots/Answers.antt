use mathlib.Core.Path.{◌≡◌, ap, ◌∙◌}
use mathlib.Core.List.{◌∷◌}
use Prim.Native.Nat.{ℕ, ◌+◌, ◌-◌, ◌*◌, ◌≤◌, ◌<◌, min}
use lib.ListN.{length}
use Rattle.laws.specs.Bytes.{bytes_of, over}
use Rattle.store.specs.Lent.{run_sizes, spot_of, subtable_size}
use Rattle.store.proofs.SpotLaws.{Spotting, spot-start, spot-one, one_spot, spot-done, runs_from, runs-all, runs-step, runs_none}
use native.Mathlib.Omega.{arith}
use Rattle.writing.proofs.spots.write_run_spots.Goals as goal

pub loop-k-init : goal.loop-k-init
loop-k-init c =
    let a = c.args in
    (c.run_count-runs.ensures, rw (runs-all a.n a.row a.count) (spot-start a.at a.first (run_sizes a.n a.row a.count) a.out.now))

pub put-requires : goal.put-requires
put-requires c =
    let size_of : ℕ = subtable_size c.args.n c.args.row (min 65535 (c.args.count - 65535 * c.loop-k.k)) in
    let here : Spotting c.args.at c.args.first (run_sizes c.args.n c.args.row c.args.count) c.args.out.now c.loop-k.out c.loop-k.p c.loop-k.next (size_of ∷ runs_from c.args.n c.args.row c.args.count (c.loop-k.k + 1)) = rw (runs-step c.args.n c.args.row c.args.count c.loop-k.k (omega (arith, c.loop-k.invariant.0, c.loop-k-test.true))) at c.loop-k.invariant.1 in
    let bounds : (c.loop-k.p + 4 ≤ length c.loop-k.out) × (c.loop-k.next + size_of < 4294967296) = one_spot _ _ _ _ c.requires.count_in_bounds _ _ _ _ _ (here) c.requires.count_bound in
    omega (arith, bounds)

pub loop-k-preserved : goal.loop-k-preserved
loop-k-preserved c =
    let size_of : ℕ = subtable_size c.args.n c.args.row (min 65535 (c.args.count - 65535 * c.loop-k.k)) in
    let here : Spotting c.args.at c.args.first (run_sizes c.args.n c.args.row c.args.count) c.args.out.now c.loop-k.out c.loop-k.p c.loop-k.next (size_of ∷ runs_from c.args.n c.args.row c.args.count (c.loop-k.k + 1)) = rw (runs-step c.args.n c.args.row c.args.count c.loop-k.k (omega (arith, c.loop-k.invariant.0, c.loop-k-test.true))) at c.loop-k.invariant.1 in
    let size_is : c.table_size-size.result ≡ size_of = c.table_size-size.ensures.value ∙ ap (subtable_size c.args.n c.args.row) c.run_items.ensures in
    let l = c.loop-k in
    let e : c.put.new.out ≡ over l.out l.p 4 (bytes_of 4 (spot_of l.next (size_of))) = c.put.ensures ∙ ap (λ (x : ℕ). over l.out l.p 4 (bytes_of 4 x)) (c.offset.ensures ∙ ap (spot_of l.next) (size_is)) in
    (l.invariant.0, rw (size_is) (spot-one _ _ _ _ c.requires.count_in_bounds _ _ _ _ _ (here) _ e))

pub returns : goal.returns
returns c =
    let a = c.args in
    spot-done _ _ _ _ _ _ _ _ c.loop-k.invariant.1 (runs_none a.n a.row a.count _ (omega (arith, c.loop-k.invariant.0, c.loop-k-test.false)))
