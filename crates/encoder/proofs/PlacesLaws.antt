-- The tables of a build have room: the words that a job's records and regions ask for are enough. Assumes nothing.
use mathlib.Core.Path.{◌≡◌, refl}
use mathlib.Core.Logic.{⊎_elim}
use Prim.Native.Nat.{ℕ, ◌+◌, ◌-◌, ◌*◌, ◌/◌, ◌≤◌, ◌<◌, min}
use native.Mathlib.Nat.{mul-add}
use native.Mathlib.Omega.{arith}
use borrow.Author.Tests.{eq-eqb, ne_eqb}
use Rattle.laws.proofs.Cases.{lt-or-ge}
use Rattle.laws.proofs.Products.{product, row_next}
use Rattle.limits.specs.Limits.{most_records, max_regions, max_shapes}
use Rattle.encoder.specs.declared.places.Places.{Places}
use Rattle.encoder.specs.LentPlaces.{room_for, PlacesAt, Laid}

-- ---- how many groups there may be

pub room-none : (n u : ℕ) → u ≡ 0 → room_for n u ≡ min n 1
unfolding room_for
room-none n u e = rw (eq-eqb u 0 e) refl

pub room-some : (n u : ℕ) → 0 < u → room_for n u ≡ min n max_shapes
unfolding room_for
room-some n u h = rw (ne_eqb u 0 (λ z. omega arith)) refl

pub room_most : (n u : ℕ) → room_for n u ≤ min n max_shapes
room_most n u = ⊎_elim (λ (l : 0 < u). omega (arith, room-some n u l)) (λ (l : u ≤ 0). omega (arith, room-none n u (omega arith))) (lt-or-ge 0 u)

-- one at least, where there are sets
pub room-one : (n u : ℕ) → 0 < n → 0 < room_for n u
room-one n u h = ⊎_elim (λ (l : 0 < u). omega (arith, room-some n u l)) (λ (l : u ≤ 0). omega (arith, room-none n u (omega arith))) (lt-or-ge 0 u)

-- ---- numbers

-- the words of the slots
pub slots-few : (sets regions room : ℕ) → room ≡ room_for sets regions → regions ≤ max_regions → (room + 1) * regions ≤ (max_shapes + 1) * max_regions
slots-few sets regions room e h = product (max_shapes + 1) max_regions (omega (arith, room_most sets regions)) h

-- ---- the tables

-- r records, and h regions at their head. Four tables of a word a region have room behind the rows, and so have the planes of bits from the rows on
module _ (base n u r h long : ℕ) (p : Places) (f : PlacesAt base n u p) (behind : base ≤ 4 * r + u) (few : r ≤ most_records) (narrow : u ≤ max_regions)
    (fits : n + u ≤ r) (head : u ≤ h) where
  rows_is : p.rows ≡ base + 4 * n + (p.room + 1) * u + 8 * p.room + 3 * (p.room - 1)
  rows_is = omega (arith, f.rows_is, f.log_is, f.place_is, f.order_is, f.slots-is)

  low : p.room ≤ n
  low = omega (arith, f.room-is, room_most n u)

  most : p.room ≤ max_shapes
  most = omega (arith, f.room-is, room_most n u)

  -- the words of so many groups, with their planes
  shapes-short : p.room * u + p.room * 16 + p.room * (3 * ((u + 31) / 32)) ≤ min r max_shapes * (h + 16 + 3 * ((h + 31) / 32))
  shapes-short =
      let b = 3 * ((u + 31) / 32) in
      let all : p.room * (u + 16 + b) ≤ min r max_shapes * (h + 16 + 3 * ((h + 31) / 32))
      = product (min r max_shapes) (h + 16 + 3 * ((h + 31) / 32)) (omega (arith, low, most)) (omega arith) in
      omega (arith, mul-add p.room (u + 16) b, mul-add p.room u 16)

  pub rows_short : p.rows + n + 4 * u ≤ 16 * r + min r max_shapes * (h + 16 + 3 * ((h + 31) / 32))
  rows_short = omega (arith, rows_is, low, shapes-short, row_next p.room u)

  pub planes-short : p.rows + p.room * (3 * ((u + 31) / 32)) ≤ 16 * r + min r max_shapes * (h + 16 + 3 * ((h + 31) / 32))
  planes-short = omega (arith, rows_is, low, shapes-short, row_next p.room u)

  pub rows_few : p.rows + n + 4 * u < 4294967296
  rows_few = omega (arith, rows_is, low, most, slots-few n u p.room f.room-is narrow)

  -- THE LAW: the published words are enough
  pub laid : 16 * r + min r max_shapes * (h + 16 + 3 * ((h + 31) / 32)) ≤ long → Laid p long
  laid room = record {
    sets-few = omega (arith, f.sets-is);
    regions-few = omega (arith, f.regions-is);
    room-is = rw (f.sets-is, f.regions-is) f.room-is;
    room-few = most;
    room_most = omega (arith, f.sets-is, low);
    line-to = omega (arith, f.sets-is, f.line-is, f.first-is);
    first_to = omega (arith, f.sets-is, f.first-is, f.ids-is);
    ids-to = omega (arith, f.sets-is, f.ids-is, f.kinds-is);
    kinds-to = omega (arith, f.sets-is, f.kinds-is, f.slots-is);
    slots-to = rw f.regions-is (omega (arith, f.order_is));
    order-to = omega (arith, f.counts-is);
    counts-to = omega (arith, f.counts-is, f.place_is);
    homes-is = f.homes-is;
    place-to = omega (arith, f.costs-is);
    costs-to = omega (arith, f.costs-is, f.columns-is);
    living-is = f.living-is;
    columns-to = omega (arith, f.columns-is, f.into-is);
    spots-is = f.spots-is;
    finals-is = f.finals-is;
    into-to = omega (arith, f.into-is, f.log_is);
    log-to = omega (arith, f.rows_is);
    rows-to = omega (arith, f.sets-is, rows_short);
    scratch-to = rw (f.sets-is, f.regions-is) (omega (arith, rows_short));
    planes-to = rw f.regions-is (omega (arith, planes-short));
    few = rw f.sets-is (omega (arith, rows_few));
  }
