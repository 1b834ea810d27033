-- What the counts of a sound job are bounded by: its regions, the regions in use, its sets and its values, by its records. Assumes nothing.
use mathlib.Core.Path.{◌≡◌, refl, sym, ap}
use mathlib.Core.Bool.{Bool, false, ◌||◌}
use mathlib.Core.List.{List, [], ◌∷◌}
use mathlib.Core.Logic.{⊎_elim}
use Prim.Native.Nat.{ℕ, suc, ◌+◌, ◌*◌, ◌/◌, ◌%◌, ◌≤◌, ◌<◌}
use native.Mathlib.Nat.{le_refl, mod-eq-sub-div-mul, div-mul-le_self, lt-div-mul-add, le_of_mul-le-mul_right}
use native.Mathlib.Omega.{arith}
use lib.ListN.{length, get_or, length-append}
use lib.Dec.{eqb}
use borrow.Author.Tests.{eq-eqb}
use Rattle.laws.specs.Every.{All, EachTwo}
use Rattle.laws.proofs.Cases.{Which, which, lt-or-ge, true-false}
use Rattle.laws.proofs.Cases.Which.{holds, fails}
use Rattle.laws.proofs.EveryLaws.{all_append, two-end}
use Rattle.laws.proofs.Products.{product, row_fits}
use Rattle.laws.proofs.Pigeon.{few-below}
use Rattle.said.specs.Records.{region_number, value_as_word, record_at, kind, axis_kind}
use Rattle.said.specs.Refusals.{form_refusal, value_no}
use Rattle.limits.specs.Limits.{max_regions}
use Rattle.said.specs.Sets.{region_list, first_like, has, with_use}
use Rattle.said.specs.Job.{Said, in_axes, after_value, after_end, regions_only, fine, records_from}
use Rattle.said.proofs.RecordLaws.{form-passed, value-unknown}
use Rattle.said.proofs.RegionLaws.{regions-length}
use Rattle.said.proofs.IndexLaws.{with-known, with-new}
use Rattle.said.proofs.RegionLaws.{like-below}
use Rattle.said.proofs.WalkLaws.{walk-keeps}

-- after so many records, in the sets
pub record Counts (axes : ℕ) (job : List ℕ) (records : ℕ) (s : Said) : Type 0 where
  pub records-are : length s.regions * axes + (length s.sets + s.values) ≡ records
  pub used-most : length s.used ≤ s.values
  pub used_low : All (λ q. q < length s.regions) s.used
  pub used-differ : EachTwo (λ x y. x ≡ y → ⊥) s.used
  pub used-few : length s.used ≤ length s.regions
  pub regions-few : length s.regions ≤ max_regions
  pub regions-are : s.regions ≡ region_list axes (length s.regions) job
  -- before the first set, and between values, nothing is in use
  pub quiet : length s.sets ≡ 0 → s.named ≡ [] → length s.used ≡ 0

-- ---- one more use

has-not : (q : ℕ) (l : List ℕ) → has q l ≡ false → All (λ x. x ≡ q → ⊥) l
unfolding has
has-not q [] h = tt
has-not q (x ∷ l) h = go (λ k. has-not q l k) (which (eqb q x)) h
  where
    go : (has q l ≡ false → All (λ y. y ≡ q → ⊥) l) → Which (eqb q x) → (eqb q x || has q l) ≡ false → (x ≡ q → ⊥) × All (λ y. y ≡ q → ⊥) l
    go rec (holds e) k = let f = rw e at k in let z : ◌≡◌ {A = ℕ} 0 1 = cc in absurd (omega arith)
    go rec (fails e) k = ((λ d. true-false (eq-eqb q x (sym d)) e), rec (rw e at k))

module _ (l : List ℕ) (q : ℕ) where
  use-most : (n : ℕ) → length l ≤ n → length (with_use l q) ≤ n + 1
  use-most n h = go (which (has q l))
    where
      go : Which (has q l) → length (with_use l q) ≤ n + 1
      go (holds e) = rw (with-known l q e) (omega arith)
      go (fails e) = rw (with-new l q e, length-append l (q ∷ [])) (omega arith)

  pub use-low : (n : ℕ) → q < n → All (λ x. x < n) l → All (λ x. x < n) (with_use l q)
  use-low n b h = go (which (has q l))
    where
      go : Which (has q l) → All (λ x. x < n) (with_use l q)
      go (holds e) = rw (with-known l q e) h
      go (fails e) = rw (with-new l q e) (all_append (λ x. x < n) l (q ∷ []) h (b, tt))

  use-differ : EachTwo (λ x y. x ≡ y → ⊥) l → EachTwo (λ x y. x ≡ y → ⊥) (with_use l q)
  use-differ h = go (which (has q l))
    where
      go : Which (has q l) → EachTwo (λ x y. x ≡ y → ⊥) (with_use l q)
      go (holds e) = rw (with-known l q e) h
      go (fails e) = rw (with-new l q e) (two-end (λ x y. x ≡ y → ⊥) l q h (has-not q l e))

-- ---- tests that are passed

pub value-known : (r : List ℕ) (regions : ℕ) (named : Bool) → value_no r regions named ≡ 0 → region_number r < regions
value-known r regions named z = ⊎_elim
    (λ (h : region_number r < regions). h)
    (λ (h : regions ≤ region_number r). absurd (let b = value-unknown r regions named h in omega arith))
    (lt-or-ge (region_number r) regions)

module _ (axes : ℕ) (some : 0 < axes) (job : List ℕ) where
  -- no set yet
  module _ (i : ℕ) (h : i ≤ max_regions * axes) (z : i % axes ≡ 0) where
    whole : i / axes * axes ≡ i
    whole = let a = mod-eq-sub-div-mul i axes in let b = div-mul-le_self i axes in omega arith

    most : i / axes ≤ max_regions
    most = le_of_mul-le-mul_right {m = i / axes} {n = max_regions} {k = axes} (let b = div-mul-le_self i axes in omega arith) some

    begin : Counts axes job i (regions_only (region_list axes (i / axes) job))
    unfolding regions_only
    begin =
        let n = regions-length axes (i / axes) job in
        record {
          records-are = rw n (omega (arith, whole));
          used-most = omega arith;
          used_low = tt;
          used-differ = tt;
          used-few = omega arith;
          regions-few = omega (arith, n, most);
          regions-are = sym (ap (λ (k : ℕ). region_list axes k job) n);
          quiet = λ _ _. refl;
        }

  -- one more value, one more set
  module _ (i : ℕ) (s : Said) (c : Counts axes job i s) where
    value-more : (q w : ℕ) → q < length s.regions → Counts axes job (suc i) (after_value s q w)
    unfolding after_value
    value-more q w b =
        let low = use-low s.used q (length s.regions) b c.used_low in
        let differ = use-differ s.used q c.used-differ in
        record {
          records-are = omega (arith, c.records-are);
          used-most = use-most s.used q s.values c.used-most;
          used_low = low;
          used-differ = differ;
          used-few = few-below (length s.regions) (with_use s.used q) low differ;
          regions-few = c.regions-few;
          regions-are = c.regions-are;
          quiet = λ _ e. absurd (let l = ap length e in omega arith);
        }

    end_more : Counts axes job (suc i) (after_end s)
    unfolding after_end
    end_more = record {
      records-are = omega (arith, c.records-are, length-append s.sets (s.begun ∷ []));
      used-most = c.used-most;
      used_low = c.used_low;
      used-differ = c.used-differ;
      used-few = c.used-few;
      regions-few = c.regions-few;
      regions-are = c.regions-are;
      quiet = λ e _. absurd (omega (arith, length-append s.sets (s.begun ∷ [])));
    }

  axis-more : (r : List ℕ) (i : ℕ) → kind r ≡ axis_kind → form_refusal axes i false r ≡ 0 → suc i ≤ max_regions * axes
  axis-more r i k z =
      let p = form-passed axes i false r z in
      let a = eq-eqb (kind r) axis_kind k in
      let b = p.region-few a in
      let e = p.region-next a in
      let l = lt-div-mul-add {a = i} {b = axes} some in
      let f = row_fits axes max_regions (i / axes) (omega arith) in
      omega arith

ends : (axes mode : ℕ) (job : List ℕ) (records : ℕ) (s : Said) → 0 < axes → ((k : ℕ) → get_or job k 0 < 256)
    → records_from axes mode job job records 0 in_axes ≡ fine s → Counts axes job records s × (s.named ≡ [])
unfolding first_like
ends axes mode job records s some bytes e =
    walk-keeps axes mode job (λ i. i ≤ max_regions * axes) (Counts axes job)
    (λ i k z h. axis-more axes some job (record_at job i) i k z)
    (λ i z h. begin axes some job i h z)
    (λ i s _ z c. value-more axes some job i s c (first_like s.regions (region_number (record_at job i))) (value_as_word (record_at job i))
    (like-below s.regions (region_number (record_at job i)) (value-known (record_at job i) (length s.regions) (has (first_like s.regions (region_number (record_at job i))) s.named) z)))
    (λ i s _ c. end_more axes some job i s c)
    records s (omega arith) e

pub counts : (axes mode : ℕ) (job : List ℕ) (records : ℕ) (s : Said) → 0 < axes → ((k : ℕ) → get_or job k 0 < 256)
    → records_from axes mode job job records 0 in_axes ≡ fine s → Counts axes job records s
counts axes mode job records s some bytes e = (ends axes mode job records s some bytes e).0

-- without sets no region is in use
pub no-use : (axes mode : ℕ) (job : List ℕ) (records : ℕ) (s : Said) → 0 < axes → ((k : ℕ) → get_or job k 0 < 256)
    → records_from axes mode job job records 0 in_axes ≡ fine s → length s.sets ≡ 0 → length s.used ≡ 0
no-use axes mode job records s some bytes e z =
    let x = ends axes mode job records s some bytes e in
    x.0.quiet z x.1

-- ---- in numbers

-- sets and regions in use are no more than the records, and where a region is in use its axis records are more
pub room_of : (axes : ℕ) (job : List ℕ) (records : ℕ) (s : Said) → 0 < axes → Counts axes job records s
    → (length s.sets + length s.used ≤ records)
    × (0 < length s.used → length s.sets + length s.used + 1 ≤ records)
    × (length s.used ≤ max_regions)
room_of axes job records s some c =
    let rows : length s.regions * 1 ≤ length s.regions * axes = product (length s.regions) axes (le_refl (length s.regions)) some in
    let all = c.records-are in
    let a = c.used-most in
    let b = c.used-few in
    let d = c.regions-few in
    (omega arith, (λ h. omega arith), omega arith)
