-- What a job says is still held where only the tables behind it changed. Assumes nothing.
use mathlib.Core.Path.{◌≡◌, ap, ◌∙◌}
use mathlib.Core.List.{List, [], ◌∷◌}
use Prim.Native.Nat.{ℕ, ◌+◌, ◌<◌}
use native.Mathlib.Omega.{arith}
use lib.ListN.{length, get_or}
use Rattle.laws.specs.LentRange.{Only}
use Rattle.laws.proofs.BoundedLaws.{tabulate-same}
use Rattle.sets.proofs.HeldLaws.{kept-only, held_kept, sets_same}
use Rattle.store.specs.Lent as store
use Rattle.said.specs.Job.{Said}
use Rattle.encoder.specs.declared.places.Places.{Places}
use Rattle.call.specs.Build.{coords_in_use}
use Rattle.opening.specs.LentCollected.{Collected}

module _ {axes starts : ℕ} {job w : List ℕ} {p : Places} {s : Said} (c : Collected axes starts job p s w) where
  module _ {w' : List ℕ} (only : Only ((p.line, length w) ∷ []) w w') where
    kept : (i : ℕ) → i < p.line → get_or w' i 0 ≡ get_or w i 0
    kept i h = only.kept i (record { apart = λ x. absurd (omega arith) }, tt)

    pub start-kept : (r : ℕ) → r < p.regions → get_or w' (starts + r) 0 ≡ get_or w (starts + r) 0
    start-kept r h = kept (starts + r) (omega (arith, c.starts-to))

    pub coords-kept : store.coords_in job axes w' starts p.regions ≡ coords_in_use s
    unfolding store.coords_in
    coords-kept =
        tabulate-same 0 p.regions (λ r. store.coords_at job axes (get_or w' (starts + r) 0)) (λ r. store.coords_at job axes (get_or w (starts + r) 0))
        (λ r a b. ap (store.coords_at job axes) (start-kept r (omega arith))) ∙ c.coords-are

    -- what a job says is still held where only the tables changed
    pub collected-kept : Collected axes starts job p s w'
    collected-kept =
        let below = kept-only {end = p.line} only (omega arith, tt) in
        record {
          fit = record { laid = rw only.long c.fit.laid; held = held_kept c.fit.held below };
          axes-few = c.axes-few;
          starts-to = c.starts-to;
          sets-are = sets_same c.fit.held below ∙ c.sets-are;
          regions-are = c.regions-are;
          sourced = λ r h. rw (start-kept r h) (c.sourced r h);
          coords-are = coords-kept;
          no-use = c.no-use;
        }
