-- D2 of both modes, from the sets of a job on: the n-th set's id is an id, its set is the n-th set, and its row gives
-- that back. Assumes nothing.
use mathlib.Core.Path.{◌≡◌, ap}
use mathlib.Core.List.{List, []}
use Prim.Native.Nat.{ℕ, ◌*◌, ◌≤◌, ◌<◌}
use native.Mathlib.Omega.{arith}
use lib.ListN.{length, get_or}
use Rattle.laws.specs.Every.{All}
use Rattle.laws.specs.Bounded.{up_to}
use Rattle.laws.proofs.UpLaws.{up_at}
use Rattle.sets.specs.Set.{Set, Proper}
use Rattle.sets.proofs.IdLaws.{id-at, id_below, distinct-most}
use Rattle.groups.specs.Groups.{groups_of}
use Rattle.stores.specs.Stores.{Bytes}
use Rattle.encoder.specs.Packed.{Packed, shared, own}
use Rattle.encoder.proofs.DenseIds.{set-of-id}
use Rattle.said.specs.Refusals.{most_bytes}
use Rattle.finishing.specs.Late.{store_for}
use Rattle.limits.specs.Limits.{most_records, most_axes, max_regions, max_shapes}
use Rattle.accepted.proofs.PackedLaws.{Words, shared-good, own-good, WellPacked}
use Rattle.accepted.proofs.RowsBack.{RowsBack, rows-back}
use Rattle.accepted.proofs.ShortLaws.{Storable, fit}
use Rattle.accepted.proofs.ListBack.{ListBack, list_back}

-- word n of ids is set n's id (S6)
pub record IdOf (jobs : List Set) (k : Packed) (n : ℕ) : Type 0 where
  pub below : get_or k.ids n 0 < length k.sets
  pub is : get_or k.sets (get_or k.ids n 0) [] ≡ get_or jobs n []

-- the store and the map of a job's sets give each of them back
pub record GivesBack (axes regions : ℕ) (coords : List (List ℕ)) (jobs : List Set) (k : Packed) : Type 0 where
  pub ids : (n : ℕ) → n < length jobs → IdOf jobs k n
  -- each set's row, read back, has the set's values, and zero elsewhere (D2)
  pub reads : RowsBack axes regions coords k
  -- and the regions that are read are those of the list's coordinates
  pub list : ListBack axes regions coords k

-- a set has no zeros (S3), names regions of the job, and has values of 32 bits; each region has six bytes an axis
pub record Sized (axes regions : ℕ) (coords : List (List ℕ)) (jobs : List Set) : Type 0 where
  pub proper : All (Proper regions) jobs
  pub words : All (λ (s : Set). Words s) jobs
  pub coords-are : length coords ≡ regions
  pub coords-whole : All (λ (c : List ℕ). length c ≡ 6 * axes) coords
  pub coords-bytes : All Bytes coords
  pub axes-few : axes ≤ most_axes
  pub regions-few : regions ≤ max_regions
  pub sets-few : length jobs ≤ most_records

module _ (axes regions : ℕ) (coords : List (List ℕ)) (jobs : List Set) (s : Sized axes regions coords jobs) where
  shared-ids : (n : ℕ) → n < length jobs → IdOf jobs (shared regions jobs) n
  unfolding shared
  shared-ids n h = record { below = rw (id-at jobs n h) (id_below jobs n h); is = set-of-id jobs n h }

  own-ids : (n : ℕ) → n < length jobs → IdOf jobs (own regions jobs) n
  unfolding own
  own-ids n h =
      let e : get_or (up_to (length jobs)) n 0 ≡ n = up_at (length jobs) n h in
      record { below = omega arith; is = ap (λ (i : ℕ). get_or jobs i []) e }

  shared-sets : length (shared regions jobs).sets ≤ most_records
  unfolding shared
  shared-sets = omega (arith, distinct-most jobs, s.sets-few)

  shared-groups : length (groups_of regions jobs) ≤ max_shapes → (shared regions jobs).groups ≤ max_shapes
  unfolding shared
  shared-groups h = h

  own-sets : length (own regions jobs).sets ≤ most_records
  unfolding own
  own-sets = s.sets-few

  own-groups : (own regions jobs).groups ≤ max_shapes
  unfolding own
  own-groups = omega arith

  storable : (k : Packed) → WellPacked regions k → k.groups ≤ max_shapes → length k.sets ≤ most_records → Storable axes regions coords k
  storable k good groups sets = record {
    good = good;
    coords-are = s.coords-are;
    coords-whole = s.coords-whole;
    coords-bytes = s.coords-bytes;
    axes-few = s.axes-few;
    regions-few = s.regions-few;
    groups-few = groups;
    sets-few = sets;
  }

  back : (k : Packed) → Storable axes regions coords k → length (store_for axes coords k) ≤ most_bytes → ((n : ℕ) → n < length jobs → IdOf jobs k n) → GivesBack axes regions coords jobs k
  back k f short ids = record {
    ids = ids;
    reads = rows-back axes regions coords k f.good f.coords-are (fit axes regions coords k f) (omega arith);
    list = list_back axes regions coords k f.coords-are (fit axes regions coords k f) (omega arith);
  }

  pub shared-storable : length (groups_of regions jobs) ≤ 1024 → Storable axes regions coords (shared regions jobs)
  shared-storable h = storable (shared regions jobs) (shared-good regions jobs s.proper s.words) (shared-groups h) shared-sets

  -- THE LAW of mode 0: where no more than 1,024 shapes are there, and the store is not too big
  pub shared_back : length (groups_of regions jobs) ≤ max_shapes → length (store_for axes coords (shared regions jobs)) ≤ most_bytes → GivesBack axes regions coords jobs (shared regions jobs)
  shared_back h short = back (shared regions jobs) (shared-storable h) short shared-ids

  pub own-storable : Storable axes regions coords (own regions jobs)
  own-storable = storable (own regions jobs) (own-good regions jobs s.proper s.words) own-groups own-sets

  -- THE LAW of mode 1
  pub own_back : length (store_for axes coords (own regions jobs)) ≤ most_bytes → GivesBack axes regions coords jobs (own regions jobs)
  own_back short = back (own regions jobs) own-storable short own-ids
