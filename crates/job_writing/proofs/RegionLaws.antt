-- Axis records, one after the other. Assumes nothing.
use mathlib.Core.Path.{◌≡◌, refl, ap, ◌∙◌}
use mathlib.Core.Bool.{true}
use mathlib.Core.List.{List, [], ◌++◌}
use Prim.Native.Nat.{ℕ, zero, suc, ◌+◌, ◌-◌, ◌*◌, ◌≤◌, ◌<◌}
use native.Mathlib.Nat.{mul_comm}
use native.Mathlib.Omega.{arith}
use lib.ListN.{length, drop}
use lib.Seq.{get_or-drop, drop-drop}
use Rattle.laws.specs.Bytes.{be}
use Rattle.laws.specs.Bounded.{tabulate}
use Rattle.laws.specs.LentRange.{seg}
use Rattle.laws.proofs.Products.{row_fits, row_next}
use Rattle.laws.proofs.RangeLaws.{get_or-seg, seg-drop}
use Rattle.reader.specs.Store.{list_at, axis_count, region_count, is_header_ok}
use Rattle.reader.proofs.StoreLaws.{header-fits}
use Rattle.stores.specs.Stores.{parts, store_at}
use Rattle.recovering.specs.Recovering.{axis_record, axes_from, regions_from}
use Rattle.rows.proofs.PutLaws.{Putting, put-start}
use Rattle.job_writing.proofs.PieceLaws.{piece-room}

-- ---- the axes of one region

-- those from axis a on
abbrev pub axes_left : List ℕ → (q from axes a : ℕ) → List ℕ
axes_left s q from axes a = axes_from q a (axes - a) (drop (from + 6 * a) s)

module _ (s : List ℕ) (q from axes : ℕ) where
  pub axes-step : (a : ℕ) → a < axes → axes_left s q from axes a ≡ axis_record q a (drop (from + 6 * a) s) ++ axes_left s q from axes (a + 1)
  unfolding axes_from
  axes-step a h =
      let z : axes - a ≡ suc (axes - (a + 1)) = omega arith in
      let y : suc a ≡ a + 1 = omega arith in
      let x : from + 6 * a + 6 ≡ from + 6 * (a + 1) = omega arith in
      rw (z, y, drop-drop 6 (from + 6 * a) s, x)

  pub axes-room : {at : ℕ} {all old new : List ℕ} {p : ℕ} (a : ℕ) → at + length all ≤ length old → Putting at all old new p (axes_left s q from axes a) → a < axes → p + 12 ≤ length new
  axes-room a room p h = piece-room (axis_record q a (drop (from + 6 * a) s)) (axes_left s q from axes (a + 1)) room p (axes-step a h)

  pub axes-end : (a : ℕ) → axes ≤ a → axes_left s q from axes a ≡ []
  unfolding axes_from
  axes-end a h = let z : axes - a ≡ 0 = omega arith in rw z

-- a region's own bytes say the same
pub axes-seg : (s : List ℕ) (q a n from : ℕ) → from + 6 * n ≤ length s → axes_from q a n (seg from (6 * n) s) ≡ axes_from q a n (drop from s)
unfolding axes_from
axes-seg s q a zero from h = refl
axes-seg s q a (suc n) from h =
    let m = 6 * suc n in
    let z : 6 * suc n - 6 ≡ 6 * n = omega arith in
    rw (
      get_or-seg from m s 0 (omega arith),
      get_or-seg from m s 1 (omega arith),
      get_or-seg from m s 2 (omega arith),
      get_or-seg from m s 3 (omega arith),
      get_or-seg from m s 4 (omega arith),
      get_or-seg from m s 5 (omega arith),
      get_or-drop from s 0 0,
      get_or-drop from s 1 0,
      get_or-drop from s 2 0,
      get_or-drop from s 3 0,
      get_or-drop from s 4 0,
      get_or-drop from s 5 0,
      seg-drop from m 6 s (omega arith) h,
      z,
      drop-drop 6 from s,
      axes-seg s q (suc a) n (from + 6) (omega arith),
    )

-- ---- the regions

abbrev pub regions_left : List ℕ → (list axes n q : ℕ) → List ℕ
regions_left s list axes n q = regions_from axes q (tabulate q (n - q) (λ i. seg (list + i * (6 * axes)) (6 * axes) s))

-- the coordinates of region q stand from `from` on
pub record Region (list axes n from q : ℕ) : Type 0 where
  pub within : q ≤ n
  pub from_is : from ≡ list + q * (6 * axes)

module _ (s : List ℕ) (list axes n : ℕ) (inside : list + 6 * axes * n ≤ length s) where
  pub region-start : Region list axes n list 0
  region-start = record { within = omega arith; from_is = omega arith }

  module _ (from q : ℕ) (r : Region list axes n from q) (h : q < n) where
    pub region-in : from + 6 * axes ≤ length s
    region-in = omega (arith, r.from_is, row_fits (6 * axes) n q h, mul_comm n (6 * axes))

    pub region-next : Region list axes n (from + 6 * axes) (q + 1)
    region-next = record { within = omega arith; from_is = rw (r.from_is, row_next q (6 * axes)) (omega arith) }

    pub regions-step : regions_left s list axes n q ≡ axes_from q 0 axes (drop from s) ++ regions_left s list axes n (q + 1)
    unfolding tabulate regions_from
    regions-step =
        let z : n - q ≡ suc (n - (q + 1)) = omega arith in
        let y : suc q ≡ q + 1 = omega arith in
        let l : list + q * (6 * axes) + 6 * axes ≤ length s = omega (arith, region-in, r.from_is) in
        rw (z, y, axes-seg s q 0 axes (list + q * (6 * axes)) l, r.from_is)

    pub regions-room : {at : ℕ} {all old new : List ℕ} {p : ℕ} → at + length all ≤ length old → Putting at all old new p (regions_left s list axes n q)
        → p + length (axes_from q 0 axes (drop from s)) ≤ length new
    regions-room room p = piece-room (axes_from q 0 axes (drop from s)) (regions_left s list axes n (q + 1)) room p regions-step

  pub regions-end : (q : ℕ) → n ≤ q → regions_left s list axes n q ≡ []
  unfolding tabulate regions_from
  regions-end q h = let z : n - q ≡ 0 = omega arith in rw z

-- what is read of the header
pub record Head (s : List ℕ) (place axes n : ℕ) : Type 0 where
  pub place_is : place ≡ list_at s
  pub axes-is : axes ≡ axis_count s
  pub count-is : n ≡ region_count s

pub head_of : (s : List ℕ) (place axes n : ℕ) → place ≡ list_at s → axes ≡ be 2 s place → n ≡ be 2 s (place + 2) → Head s place axes n
head_of s place axes n p a c = record { place_is = p; axes-is = a ∙ ap (be 2 s) p; count-is = c ∙ ap (λ (x : ℕ). be 2 s (x + 2)) p }

module _ (s : List ℕ) (ok : is_header_ok s ≡ true) (place axes n : ℕ) (h : Head s place axes n) where
  pub head-inside : place + 4 + 6 * axes * n ≤ length s
  head-inside = rw (h.place_is, h.axes-is, h.count-is) (header-fits s ok).regions

  pub regions-are : regions_left s (place + 4) axes n 0 ≡ regions_from (store_at s).axes 0 (store_at s).regions
  unfolding store_at parts
  regions-are = let z : n - 0 ≡ n = omega arith in rw (z, h.place_is, h.axes-is, h.count-is)

  pub regions-put : (old : List ℕ) → Putting 0 (regions_from (store_at s).axes 0 (store_at s).regions) old old 0 (regions_left s (place + 4) axes n 0)
  regions-put old = rw regions-are (put-start 0 (regions_from (store_at s).axes 0 (store_at s).regions) old)

  pub axes-low : axis_count s < 256 → axes < 256
  axes-low l = rw h.axes-is l
