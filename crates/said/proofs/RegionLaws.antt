-- The regions of a job: their coordinates, how many there are, the first like each. Assumes nothing.
use mathlib.Core.Path.{◌≡◌, refl, ap, ◌∙◌}
use mathlib.Core.Bool.{true}
use mathlib.Core.List.{List, [], ◌∷◌}
use Prim.Native.Nat.{ℕ, zero, suc, ◌+◌, ◌*◌, ◌<◌}
use native.Mathlib.Numerals.{add-one}
use native.Mathlib.Omega.{arith}
use lib.ListN.{length, get_or, drop}
use lib.Seq.{drop-drop}
use borrow.Author.Tests.{eq-eqb}
use Rattle.laws.specs.Bytes.{be}
use Rattle.laws.proofs.BytesLaws.{be-drop}
use Rattle.laws.proofs.Products.{row_next}
use Rattle.said.specs.Records.{record_bytes, after_record, region_length, after_region, region_from, coord_place}
use Rattle.said.specs.Sets.{Region, coordinates, region_list, same_region, like}
use Rattle.laws.proofs.Cases.{Which, which}
use Rattle.laws.proofs.Cases.Which.{holds, fails}

-- ---- coordinates

pub coords-length : (n : ℕ) (rest : List ℕ) → length (coordinates n rest) ≡ 3 * n
unfolding coordinates
coords-length zero rest = refl
coords-length (suc n) rest = omega (arith, coords-length n (after_record rest))

pub coords-at : (n : ℕ) (rest : List ℕ) (k : ℕ) → k < 3 * n → get_or (coordinates n rest) k 0 ≡ be 2 rest (coord_place k)
unfolding coordinates
coords-at zero rest k h = absurd (omega arith)
coords-at (suc n) rest zero h = refl
coords-at (suc n) rest (suc zero) h = refl
coords-at (suc n) rest (suc (suc zero)) h = refl
coords-at (suc n) rest (suc (suc (suc k))) h =
    let e : record_bytes + coord_place k ≡ coord_place (suc (suc (suc k))) = omega arith in
    coords-at n (after_record rest) k (omega arith) ∙ be-drop 2 record_bytes rest (coord_place k) ∙ ap (λ (q : ℕ). be 2 rest q) e

-- ---- the regions of a job

pub regions-length : (axes n : ℕ) (job : List ℕ) → length (region_list axes n job) ≡ n
unfolding region_list
regions-length axes zero job = refl
regions-length axes (suc n) job = ap suc (regions-length axes n (after_region axes job))

pub regions-at : (axes n : ℕ) (job : List ℕ) (x : ℕ) → x < n → get_or (region_list axes n job) x [] ≡ coordinates axes (region_from axes job x)
unfolding region_list
regions-at axes zero job x h = absurd (omega arith)
regions-at axes (suc n) job zero h = let e : 0 * region_length axes ≡ 0 = omega arith in rw e
regions-at axes (suc n) job (suc x) h =
    let e : region_length axes + x * region_length axes ≡ suc x * region_length axes = (let r = row_next x (region_length axes) in let q : (x + 1) * region_length axes ≡ suc x * region_length axes = rw add-one in omega arith) in
    regions-at axes n (after_region axes job) x (omega arith)
    ∙ ap (coordinates axes) (drop-drop (x * region_length axes) (region_length axes) job ∙ ap (λ (k : ℕ). drop k job) e)

-- ---- the first like each

-- the first like a region is a region
same_self : (c : Region) → same_region c c ≡ true
unfolding same_region
same_self [] = refl
same_self (x ∷ c) = rw (eq-eqb x x refl, same_self c)

pub like-below : (l : List Region) (r : ℕ) → r < length l → like (get_or l r []) l < length l
unfolding like
like-below [] r h = absurd (omega arith)
like-below (d ∷ l) zero h = rw (same_self d) (omega arith)
like-below (d ∷ l) (suc r) h = go (like-below l r (omega arith)) (which (same_region (get_or l r []) d))
  where
    go : like (get_or l r []) l < length l → Which (same_region (get_or l r []) d) → like (get_or l r []) (d ∷ l) < suc (length l)
    go rec (holds e) = rw e (omega arith)
    go rec (fails e) = rw e (omega arith)
