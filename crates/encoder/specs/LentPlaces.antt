-- Where the tables of a build stand in work. Assumes nothing.
use Rattle.std.specs.Prelude.{◌≡◌, ℕ, ◌+◌, ◌-◌, ◌*◌, ◌/◌, ◌≤◌, ◌<◌, min, eqb}
use Rattle.laws.specs.Pick.{pick}
use Rattle.limits.specs.Limits.{most_records, max_regions, max_shapes}
use Rattle.encoder.specs.declared.places.Places.{Places}

-- How many groups there may be: no more than sets, and at most 1,024; one, where no region is in use, since all sets are empty then.
unfoldable pub room_for : ℕ → ℕ → ℕ
room_for sets regions = min sets (pick (eqb regions 0) 1 max_shapes)

-- The tables of so many sets and regions, one behind the other from `base` on; four of them stand where another stood before.
pub record PlacesAt (base sets regions : ℕ) (p : Places) : Type 0 where
  pub sets-is : p.sets ≡ sets
  pub regions-is : p.regions ≡ regions
  pub room-is : p.room ≡ room_for sets regions
  pub line-is : p.line ≡ base
  pub first-is : p.first ≡ base + sets
  pub ids-is : p.ids ≡ base + 2 * sets
  pub kinds-is : p.kinds ≡ base + 3 * sets
  pub slots-is : p.slots ≡ base + 4 * sets
  pub order_is : p.order ≡ p.slots + (p.room + 1) * regions
  pub counts-is : p.counts ≡ p.order + p.room
  pub homes-is : p.homes ≡ p.counts
  pub place_is : p.place ≡ p.order + 2 * p.room
  pub costs-is : p.costs ≡ p.place + 2 * p.room
  pub living-is : p.living ≡ p.costs
  pub columns-is : p.columns ≡ p.place + 3 * p.room
  pub spots-is : p.spots ≡ p.columns
  pub finals-is : p.finals ≡ p.columns
  pub into-is : p.into ≡ p.place + 4 * p.room
  pub log_is : p.log ≡ p.place + 6 * p.room
  pub rows_is : p.rows ≡ p.log + 3 * (p.room - 1)

-- Behind the rows stand four tables of a word a region: which ones the store keeps, their new numbers, and for each final group in turn
-- its columns and their places.
abbrev pub scratch_at : Places → ℕ
scratch_at p = p.rows + p.sets

-- They lie one behind the other in so many words. While groups are merged the words from `rows` on have room for the planes of bits of the
-- slots: three of each slot, a bit a region, each in whole words.
pub record Laid (p : Places) (long : ℕ) : Type 0 where
  pub sets-few : p.sets ≤ most_records
  pub regions-few : p.regions ≤ max_regions
  pub room-is : p.room ≡ room_for p.sets p.regions
  pub room-few : p.room ≤ max_shapes
  pub room_most : p.room ≤ p.sets
  pub line-to : p.line + p.sets ≤ p.first
  pub first_to : p.first + p.sets ≤ p.ids
  pub ids-to : p.ids + p.sets ≤ p.kinds
  pub kinds-to : p.kinds + p.sets ≤ p.slots
  pub slots-to : p.slots + (p.room + 1) * p.regions ≤ p.order
  pub order-to : p.order + p.room ≤ p.counts
  pub counts-to : p.counts + p.room ≤ p.place
  pub homes-is : p.homes ≡ p.counts
  pub place-to : p.place + 2 * p.room ≤ p.costs
  pub costs-to : p.costs + p.room ≤ p.columns
  pub living-is : p.living ≡ p.costs
  pub columns-to : p.columns + p.room ≤ p.into
  pub spots-is : p.spots ≡ p.columns
  pub finals-is : p.finals ≡ p.columns
  pub into-to : p.into + 2 * p.room ≤ p.log
  pub log-to : p.log + 3 * (p.room - 1) ≤ p.rows
  pub rows-to : p.rows + p.sets ≤ long
  pub scratch-to : scratch_at p + 4 * p.regions ≤ long
  pub planes-to : p.rows + p.room * (3 * ((p.regions + 31) / 32)) ≤ long
  pub few : p.rows + p.sets < 4294967296
