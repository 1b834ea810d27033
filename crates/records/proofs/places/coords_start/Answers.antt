use mathlib.Core.Path.{refl}
use Prim.Native.Nat.{◌*◌, ◌≤◌}
use native.Mathlib.Omega.{arith}
use Rattle.limits.specs.Limits.{most_axes, max_regions}
use Rattle.laws.proofs.Products.{product}
use Rattle.said.specs.Records.{region_length}
use Rattle.records.proofs.places.coords_start.Goals as goal

pub overflow_mul-result-2 : goal.overflow_mul-result-2
overflow_mul-result-2 c =
    let few : region_length c.args.axes * c.args.x ≤ region_length most_axes * max_regions = product (region_length most_axes) max_regions {a = region_length c.args.axes} {b = c.args.x} (omega (arith, c.requires.0)) (omega (arith, c.requires.1)) in
    omega (arith, few)

pub overflow_add-result : goal.overflow_add-result
overflow_add-result c =
    let few : region_length c.args.axes * c.args.x ≤ region_length most_axes * max_regions = product (region_length most_axes) max_regions {a = region_length c.args.axes} {b = c.args.x} (omega (arith, c.requires.0)) (omega (arith, c.requires.1)) in
    omega (arith, few)

pub returns : goal.returns
returns c =
    let few : region_length c.args.axes * c.args.x ≤ region_length most_axes * max_regions = product (region_length most_axes) max_regions {a = region_length c.args.axes} {b = c.args.x} (omega (arith, c.requires.0)) (omega (arith, c.requires.1)) in
    record { value = refl; upper_bound = omega (arith, few) }
