-- The region list of a store, read by the OpenType rules: as many regions as are kept, each with its coordinates. Assumes nothing.
use mathlib.Core.Path.{◌≡◌, ap, ◌∙◌}
use mathlib.Core.Bool.{true}
use mathlib.Core.List.{List, [], map}
use Prim.Native.Nat.{ℕ, ◌+◌, ◌*◌, ◌<◌}
use native.Mathlib.Nat.{mul_comm}
use native.Mathlib.Omega.{arith}
use lib.ListN.{length, get_or, take, drop, length-map}
use Rattle.laws.specs.LentRange.{seg}
use Rattle.laws.proofs.ListLaws.{get_or-map-in}
use Rattle.sets.specs.Set.{Set}
use Rattle.reader.specs.Store.{list_at, axis_count, region_count, is_header_ok}
use Rattle.stores.proofs.Reading.{Listing, list-parsed}
use Rattle.store.specs.Placing.{Final, kept_of, made_of, store_of}
use Rattle.readback.proofs.Parsing.{Fit, made-parsed}
use Rattle.encoder.specs.Packed.{Packed}
use Rattle.finishing.specs.Late.{store_for}

pub record ListBack (axes regions : ℕ) (coords : List (List ℕ)) (k : Packed) : Type 0 where
  -- V1: neither header nor list is refused
  pub header : is_header_ok (store_for axes coords k) ≡ true
  -- the region list (B2)
  pub axes-are : axis_count (store_for axes coords k) ≡ axes
  pub count-is : region_count (store_for axes coords k) ≡ length (kept_of regions k.finals)
  pub coordinates : (q : ℕ) → q < length (kept_of regions k.finals)
      → take (6 * axes) (drop (list_at (store_for axes coords k) + 4 + 6 * axes * q) (store_for axes coords k)) ≡ get_or coords (get_or (kept_of regions k.finals) q 0) []

module _ (axes regions : ℕ) (coords : List (List ℕ)) (k : Packed) (coords-are : length coords ≡ regions)
    (fit : Fit axes coords (λ y. get_or k.sets y []) k.finals) (short : length (store_for axes coords k) < 4294967296) where
  abbrev gs : List Final
  gs = k.finals

  abbrev set : ℕ → Set
  set y = get_or k.sets y []

  abbrev S : List ℕ
  S = store_for axes coords k

  abbrev kept : List ℕ
  kept = kept_of (length coords) gs

  listing : Listing S (made_of axes coords set gs)
  unfolding store_for
  listing = list-parsed (store_of axes coords set gs) (made_of axes coords set gs) (made-parsed axes coords set gs fit short)

  kept-long : length (map (λ r. get_or coords r []) kept) ≡ length kept
  kept-long = length-map kept (λ r. get_or coords r [])

  axes-is : axis_count S ≡ axes
  unfolding made_of
  axes-is = listing.axes-are

  count : region_count S ≡ length kept
  unfolding made_of
  count = listing.count ∙ kept-long

  coords-at : (q : ℕ) → q < length kept → take (6 * axes) (drop (list_at S + 4 + 6 * axes * q) S) ≡ get_or coords (get_or kept q 0) []
  unfolding made_of seg
  coords-at q h =
      let e : list_at S + 4 + 6 * axes * q ≡ list_at S + 4 + q * (6 * axes) = omega (arith, mul_comm (6 * axes) q) in
      ap (λ (i : ℕ). take (6 * axes) (drop i S)) e
      ∙ listing.region q (omega (arith, kept-long))
      ∙ get_or-map-in (λ r. get_or coords r []) kept q 0 [] h

  -- THE LAW
  pub list_back : ListBack axes regions coords k
  list_back = record {
    header = listing.header;
    axes-are = axes-is;
    count-is = rw coords-are at count;
    coordinates = rw coords-are at coords-at;
  }
