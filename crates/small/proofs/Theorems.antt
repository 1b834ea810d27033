-- In mode 0 a store is small. Assumes nothing.
use mathlib.Core.Path.{◌≡◌, sym, ap, ◌∙◌}
use mathlib.Core.List.{List}
use Prim.Native.Nat.{ℕ, ◌+◌, ◌*◌, ◌≤◌, ◌<◌}
use native.Mathlib.Nat.{mul_comm, mul_assoc, mul-le-mul_left}
use native.Mathlib.Omega.{arith}
use lib.ListN.{length, get_or}
use Rattle.laws.specs.Every.{All}
use Rattle.laws.specs.Bag.{weigh}
use Rattle.laws.specs.Sorting.{sorted}
use Rattle.laws.proofs.EveryLaws.{all-imp, all_map, all-and}
use Rattle.laws.proofs.BagLaws.{weigh-map, weigh-same}
use Rattle.laws.proofs.SortLaws.{sorted_all, weigh-sorted}
use Rattle.shapes.specs.Group.{Group}
use Rattle.sets.specs.Set.{Set}
use Rattle.sets.specs.Ids.{distinct}
use Rattle.sets.proofs.IdLaws.{distinct-most}
use Rattle.groups.specs.Groups.{groups_of}
use Rattle.groups.proofs.GroupLaws.{Long, groups-some, groups-long, groups-unlike, groups-count}
use Rattle.rule.specs.Model.{Living, start, merged, total}
use Rattle.rule.proofs.Theorems.{Proper, run-full, run-total, run-sets}
use Rattle.rows.specs.Row as rows
use Rattle.said.specs.Records.{record_count}
use Rattle.said.specs.Job.{Said, in_axes, fine, records_from, outcome}
use Rattle.said.proofs.SaidLaws.{counts}
use Rattle.said.proofs.SoundLaws.{fine-walk}
use Rattle.store.specs.Placing.{Final, names, kept_of, store_of, forecast_of}
use Rattle.store.proofs.RegionLaws.{kept-most}
use Rattle.store.proofs.ForecastLaws.{forecast-exact}
use Rattle.encoder.specs.Packed.{final_of, is_ahead, finals_of, shared}
use Rattle.sizes.proofs.Counted.{sizes}
use Rattle.small.specs.Small.{packed_of, bytes_of, Small}
use Rattle.small.proofs.RowSize.{row-twice}
use Rattle.small.proofs.RunSize.{ids_of, all_most, all-runs}
use Rattle.small.proofs.StartSize.{entries_in, start-cost, number-cost}
use Rattle.small.proofs.Values.{entries-most}

-- ---- of some sets over so many regions

module _ (regions : ℕ) (jobs : List Set) where
  abbrev groups : List Group
  groups = groups_of regions jobs

  abbrev final : Living → Final
  final = final_of regions groups (distinct jobs)

  proper : Proper regions groups
  proper = record { full = all-and (λ (g : Group). 0 < g.sets) (Long regions) groups (groups-some regions jobs) (groups-long regions jobs); distinct = groups-unlike regions jobs }

  -- the final groups have each distinct set once
  ids-are : weigh ids_of (shared regions jobs).finals ≡ length (distinct jobs)
  unfolding shared finals_of merged
  ids-are =
      weigh-map ids_of final (sorted is_ahead (merged groups).living)
      ∙ weigh-sorted is_ahead (λ g. ids_of (final g)) (merged groups).living
      ∙ weigh-same (λ g. ids_of (final g)) (λ g. g.group.sets) (merged groups).living (sizes regions jobs).living-count
      ∙ run-sets (length groups) groups
      ∙ groups-count regions jobs

  shapes-short : regions < 32768 → All (λ f. length f.shape < 32768) (shared regions jobs).finals
  unfolding shared finals_of final_of merged
  shapes-short h =
      all_map (λ f. length f.shape < 32768) final (sorted is_ahead (merged groups).living)
      (sorted_all is_ahead (λ g. length g.group.shape < 32768) (merged groups).living
      (all-imp (λ g f. omega (arith, f.1)) (merged groups).living (run-full regions (length groups) groups proper)))

  falls : (shared regions jobs).after ≤ (shared regions jobs).before
  unfolding shared merged
  falls = omega (arith, run-total (length groups) groups)

  starts : (shared regions jobs).before ≤ 10 * length jobs + 6 * weigh entries_in jobs
  unfolding shared start total
  starts = omega (arith, number-cost 0 groups, start-cost regions jobs)

-- ---- of a job

module _ (axes mode : ℕ) (job : List ℕ) (records : ℕ) (s : Said) (some : 0 < axes) (bytes : (k : ℕ) → get_or job k 0 < 256)
    (e : records_from axes mode job job records 0 in_axes ≡ fine s) (short : length s.used < 32768) where
  abbrev used : ℕ
  used = length s.used

  abbrev kept : ℕ
  kept = length (kept_of used (packed_of s).finals)

  list-most : 6 * axes * kept ≤ 6 * (length s.regions * axes)
  list-most =
      let c = counts axes mode job records s some bytes e in
      let k : kept ≤ length s.regions = omega (arith, kept-most (λ r. names r (packed_of s).finals) used, c.used-few) in
      omega (arith, mul-le-mul_left (6 * axes) k, mul_assoc 6 axes (length s.regions), mul_comm axes (length s.regions))

  few : bytes_of axes s ≤ 12 + 35 * records
  unfolding forecast_of
  few =
      let c = counts axes mode job records s some bytes e in
      omega (
        arith,
        list-most,
        all_most (packed_of s).finals (shapes-short used s.sets short),
        (sizes used s.sets).after_is,
        ids-are used s.sets,
        falls used s.sets,
        starts used s.sets,
        distinct-most s.sets,
        entries-most axes mode job records s e,
        c.records-are,
      )

  -- THE THEOREM, for any number of regions that a word count can tell
  pub small : Small axes records s
  small = record {
    falls = falls used s.sets;
    starts = omega (arith, starts used s.sets, entries-most axes mode job records s e);
    twice = all-imp (λ f h. row-twice f.shape h) (packed_of s).finals (shapes-short used s.sets short);
    runs = omega (arith, all-runs (packed_of s).finals, ids-are used s.sets);
    few = omega (arith, few);
  }

-- an accepted job's store is below 4,294,967,296 bytes
pub never-big : (axes : ℕ) (job : List ℕ) (work pairs : ℕ) (s : Said) → ((k : ℕ) → get_or job k 0 < 256) → outcome axes 0 job work pairs ≡ fine s
    → bytes_of axes s < 4294967296
never-big axes job work pairs s bytes e =
    let w = fine-walk axes 0 job work pairs s e in
    let c = counts axes 0 job (record_count job) s w.0.some bytes w.1 in
    omega (arith, (small axes 0 job (record_count job) s w.0.some bytes w.1 (omega (arith, c.used-few, c.regions-few))).few, w.0.few)

-- and that is the store's length, wherever its regions' coordinates come from
pub store-small : (axes : ℕ) (job : List ℕ) (work pairs : ℕ) (s : Said) → ((k : ℕ) → get_or job k 0 < 256) → outcome axes 0 job work pairs ≡ fine s
    → (coords : List (List ℕ)) (set : ℕ → rows.Set) → length coords ≡ length s.used → All (λ (c : List ℕ). length c ≡ 6 * axes) coords
    → length (store_of axes coords set (packed_of s).finals) < 4294967296
store-small axes job work pairs s bytes e coords set l whole =
    let w = fine-walk axes 0 job work pairs s e in
    let c = counts axes 0 job (record_count job) s w.0.some bytes w.1 in
    let short = shapes-short (length s.used) s.sets (omega (arith, c.used-few, c.regions-few)) in
    let f = forecast-exact axes coords set (packed_of s).finals whole short in
    let b = never-big axes job work pairs s bytes e in
    omega (arith, sym f, ap (λ (n : ℕ). forecast_of axes (length (kept_of n (packed_of s).finals)) (packed_of s).finals) l)
