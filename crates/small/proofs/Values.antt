-- The entries of a job's sets are no more than its values. Assumes nothing.
use mathlib.Core.Path.{◌≡◌, refl, ap}
use mathlib.Core.List.{List, [], ◌∷◌}
use Prim.Native.Nat.{ℕ, suc, ◌+◌, ◌/◌, ◌≤◌}
use native.Mathlib.Omega.{arith}
use lib.Dec.{eqb, ltb}
use lib.ListN.{length}
use Rattle.laws.specs.Bag.{weigh}
use Rattle.laws.specs.Signed.{zero_word}
use Rattle.laws.proofs.Cases.{Which, which}
use Rattle.laws.proofs.Cases.Which.{holds, fails}
use Rattle.laws.proofs.BagLaws.{weigh-append}
use Rattle.sets.specs.Set.{Set}
use Rattle.said.specs.Records.{record_at, region_number, value_as_word}
use Rattle.said.specs.Sets.{Region, region_list, first_like, with_use, index_in, with_entry, with_value}
use Rattle.said.specs.Job.{Said, in_axes, after_value, after_end, regions_only, fine, records_from}
use Rattle.said.proofs.WalkLaws.{walk-keeps}
use Rattle.small.proofs.StartSize.{entries_in}

entry-long : (k w : ℕ) (s : Set) → length (with_entry k w s) ≡ suc (length s)
unfolding with_entry
entry-long k w [] = refl
entry-long k w (e ∷ s) = go (entry-long k w s) (which (ltb k e.0))
  where
    go : length (with_entry k w s) ≡ suc (length s) → Which (ltb k e.0) → length (with_entry k w (e ∷ s)) ≡ suc (suc (length s))
    go rec (holds h) = rw h
    go rec (fails h) = rw h (ap suc rec)

value-long : (k w : ℕ) (s : Set) → length (with_value k w s) ≤ length s + 1
unfolding with_value
value-long k w s = go (which (eqb w zero_word))
  where
    go : Which (eqb w zero_word) → length (with_value k w s) ≤ length s + 1
    go (holds h) = rw h (omega arith)
    go (fails h) = rw h (omega (arith, entry-long k w s))

-- so far, with the set that has not ended
abbrev Filled : ℕ → Said → Type 0
Filled i s = weigh entries_in s.sets + length s.begun ≤ s.values

filled-start : (i : ℕ) (regions : List Region) → Filled i (regions_only regions)
unfolding regions_only weigh
filled-start i regions = omega arith

filled-value : (i : ℕ) (s : Said) (q w : ℕ) → Filled i s → Filled (suc i) (after_value s q w)
unfolding after_value
filled-value i s q w h = omega (arith, h, value-long (index_in q (with_use s.used q)) w s.begun)

filled-end : (i : ℕ) (s : Said) → Filled i s → Filled (suc i) (after_end s)
unfolding after_end weigh
filled-end i s h = omega (arith, h, weigh-append entries_in s.sets (s.begun ∷ []))

pub entries-most : (axes mode : ℕ) (job : List ℕ) (records : ℕ) (s : Said) → records_from axes mode job job records 0 in_axes ≡ fine s
    → weigh entries_in s.sets ≤ s.values
entries-most axes mode job records s e =
    let h = walk-keeps axes mode job (λ i. Unit {0}) Filled
    (λ i k z q. tt)
    (λ i z q. filled-start i (region_list axes (i / axes) job))
    (λ i s k z h. filled-value i s (first_like s.regions (region_number (record_at job i))) (value_as_word (record_at job i)) h)
    (λ i s k h. filled-end i s h)
    records s tt e in
    omega (arith, h.0)
