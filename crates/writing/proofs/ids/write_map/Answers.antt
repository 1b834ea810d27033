use mathlib.Core.Path.{refl, ap, ◌∙◌}
use mathlib.Core.List.{List}
use Prim.Native.Nat.{ℕ, ◌+◌, ◌*◌}
use Rattle.store.specs.Placing.{Final, stored}
use Rattle.store.specs.Lent.{final_at, finals_at}
use Rattle.store.proofs.MapLaws.{groups-all, groups-more, groups-done}
use native.Mathlib.Omega.{arith}
use Rattle.writing.proofs.ids.write_map.Goals as goal

abbrev finals : List ℕ → ℕ → ℕ → ℕ → Final
finals work regions groups g = final_at regions work (groups + 3 * g)

pub loop-g-init : goal.loop-g-init
unfolding finals_at
loop-g-init c =
    let a = c.args in
    (omega arith, omega arith, refl, ap (λ (l : List (ℕ × ℕ)). stored l a.map.now) (groups-all (finals a.work.now a.t.regions a.t.groups) a.t.count))

pub loop-g-preserved : goal.loop-g-preserved
loop-g-preserved c =
    let a = c.args in
    let l = c.loop-g in (
      omega (arith, c.loop-g-test),
      omega (arith, l.invariant.1, c.map_group-first.ensures.upper_bound),
      c.map_group-first.auto.map ∙ l.invariant.2,
      groups-more (finals a.work.now a.t.regions a.t.groups) a.t.count _ l.map _ l.first l.g _ l.invariant.3 c.loop-g-test.true c.map_group-first.ensures.mapped,
    )

pub returns : goal.returns
returns c =
    let a = c.args in
    let l = c.loop-g in
    groups-done (finals a.work.now a.t.regions a.t.groups) a.t.count _ l.map l.first l.g l.invariant.3 (omega arith)
