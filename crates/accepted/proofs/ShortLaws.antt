-- Packed sets have few runs, so their store fits what its header can tell, and parses back where its bytes are not too many (R60). Assumes nothing.
use mathlib.Core.Path.{◌≡◌}
use mathlib.Core.List.{List, [], ◌∷◌}
use Prim.Native.Nat.{ℕ, ◌*◌, ◌≤◌}
use native.Mathlib.Omega.{arith}
use lib.ListN.{length, get_or, take, drop, length-append}
use Rattle.laws.specs.Every.{All}
use Rattle.laws.specs.Joining.{join_all}
use Rattle.laws.proofs.BoundedLaws.{length-tabulate}
use Rattle.shapes.specs.Group.{max_items}
use Rattle.stores.specs.Stores.{Bytes}
use Rattle.rows.specs.Subtable.{run_count_for}
use Rattle.store.specs.Placing.{Final, runs_of, all_runs}
use Rattle.store.proofs.SizeLaws.{runs-few}
use Rattle.readback.proofs.Parsing.{Fit}
use Rattle.encoder.specs.Packed.{Packed}
use Rattle.limits.specs.Limits.{most_records, most_axes, max_regions, max_shapes}
use Rattle.accepted.proofs.PackedLaws.{row_ids, WellPacked, rows-most}
use Rattle.accepted.proofs.RunSound.{runs-sound}

-- ---- runs

ids-most : (gs : List Final) (n : ℕ) → length (row_ids gs) ≤ n → All (λ (g : Final). length g.ids ≤ n) gs
unfolding join_all
ids-most [] n h = tt
ids-most (g ∷ gs) n h =
    let e = length-append g.ids (row_ids gs) in
    (omega arith, ids-most gs n (omega arith))

group-runs : (g : Final) → length (runs_of g) ≡ run_count_for (length g.ids)
unfolding runs_of
group-runs g = length-tabulate 0 (run_count_for (length g.ids)) (λ k. record { shape = g.shape; ids = take max_items (drop (max_items * k) g.ids) })

all-runs : (gs : List Final) → All (λ (g : Final). length g.ids ≤ most_records) gs → length (all_runs gs) ≤ 17 * length gs
unfolding all_runs join_all
all-runs [] h = omega arith
all-runs (g ∷ gs) h =
    let a = runs-few (length g.ids) h.0 in
    omega (arith, length-append (runs_of g) (all_runs gs), group-runs g, all-runs gs h.1)

-- ---- in all

-- packed sets within the bounds of the rules, and the coordinates of their regions
pub record Storable (axes regions : ℕ) (coords : List (List ℕ)) (k : Packed) : Type 0 where
  pub good : WellPacked regions k
  pub coords-are : length coords ≡ regions
  pub coords-whole : All (λ (c : List ℕ). length c ≡ 6 * axes) coords
  pub coords-bytes : All Bytes coords
  pub axes-few : axes ≤ most_axes
  pub regions-few : regions ≤ max_regions
  pub groups-few : k.groups ≤ max_shapes
  pub sets-few : length k.sets ≤ most_records

module _ (axes regions : ℕ) (coords : List (List ℕ)) (k : Packed) (s : Storable axes regions coords k) where
  abbrev gs : List Final
  gs = k.finals

  rows_few : length (row_ids gs) ≤ length k.sets
  rows_few = rows-most regions k s.good

  runs-most : length (all_runs gs) ≤ 17408
  runs-most = omega (arith, all-runs gs (ids-most gs most_records (omega (arith, rows_few, s.sets-few))), s.good.finals-few s.groups-few)

  pub fit : Fit axes coords (λ y. get_or k.sets y []) k.finals
  fit = record {
    axes-few = omega (arith, s.axes-few);
    regions-few = omega (arith, s.coords-are, s.regions-few);
    coords-long = s.coords-whole;
    coords-bytes = s.coords-bytes;
    runs-few = omega (arith, runs-most);
    sound = runs-sound regions k s.good coords s.coords-are;
  }
