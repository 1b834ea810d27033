use mathlib.Core.Path.{refl}
use Prim.Native.Nat.{ℕ, ◌*◌, ◌≤◌}
use Rattle.laws.proofs.Products.{product}
use Rattle.limits.specs.Limits.{most_axes, max_regions}
use Rattle.planning.proofs.DraftLaws.{still-handed, none-marked, kept-few, only-tables, drafted}
use native.Mathlib.Omega.{arith}
use Rattle.planning.proofs.outline.draft.Goals as goal

coords-few : (axes kept : ℕ) → axes ≤ most_axes → kept ≤ max_regions → 6 * axes * kept ≤ 6 * most_axes * max_regions
coords-few axes kept a b = product (6 * most_axes) max_regions {a = 6 * axes} {b = kept} (omega arith) b

pub mark_groups-requires : goal.mark_groups-requires
mark_groups-requires c =
    let z = c.zero_part.ensures in
    record { count_bound = c.requires.count_bound; regions_in_bounds = omega (arith, c.requires.regions_in_bounds, z.only.long); by_index = λ g h. still-handed _ c.args.t.groups _ _ _ c.requires.regions_in_bounds z _ _ (c.requires.by_index g h); marks = none-marked _ _ _ _ _ c.requires.regions_in_bounds z }

pub overflow_mul-result-3 : goal.overflow_mul-result-3
overflow_mul-result-3 c = omega (arith, coords-few c.args.axes c.number-kept.result c.requires.axes_le_most_axes (omega (arith, c.requires.regions_le_max_regions, kept-few _ _ _ _ _ c.requires.regions_in_bounds c.zero_part.ensures _ _ _ _ c.mark_groups.ensures.marks_2 c.mark_groups.ensures.only c.number-kept.ensures)))

pub overflow_add-result-2 : goal.overflow_add-result-2
overflow_add-result-2 c = omega (arith, coords-few c.args.axes c.number-kept.result c.requires.axes_le_most_axes (omega (arith, c.requires.regions_le_max_regions, kept-few _ _ _ _ _ c.requires.regions_in_bounds c.zero_part.ensures _ _ _ _ c.mark_groups.ensures.marks_2 c.mark_groups.ensures.only c.number-kept.ensures)))

pub overflow_add-result-3 : goal.overflow_add-result-3
overflow_add-result-3 c = omega (arith, c.size_groups-sum.ensures.bytes_bound, coords-few c.args.axes c.number-kept.result c.requires.axes_le_most_axes (omega (arith, c.requires.regions_le_max_regions, kept-few _ _ _ _ _ c.requires.regions_in_bounds c.zero_part.ensures _ _ _ _ c.mark_groups.ensures.marks_2 c.mark_groups.ensures.only c.number-kept.ensures)))

pub overflow_add-result-4 : goal.overflow_add-result-4
overflow_add-result-4 c = omega (arith, c.size_groups-sum.ensures.bytes_bound, coords-few c.args.axes c.number-kept.result c.requires.axes_le_most_axes (omega (arith, c.requires.regions_le_max_regions, kept-few _ _ _ _ _ c.requires.regions_in_bounds c.zero_part.ensures _ _ _ _ c.mark_groups.ensures.marks_2 c.mark_groups.ensures.only c.number-kept.ensures)))

pub returns : goal.returns
returns c = record { drafted = drafted _ _ _ _ _ c.requires.regions_in_bounds c.zero_part.ensures _ _ _ _ c.mark_groups.ensures.marks_2 c.mark_groups.ensures.only c.number-kept.ensures _ _ _ _ c.size_groups-sum.ensures.summed (omega (arith, c.size_groups-sum.ensures.bytes_bound)) refl; only = only-tables _ _ _ _ _ c.requires.regions_in_bounds c.zero_part.ensures _ _ _ _ c.mark_groups.ensures.marks_2 c.mark_groups.ensures.only c.number-kept.ensures }
