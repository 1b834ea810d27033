use mathlib.Core.Path.{refl, ap}
use native.Mathlib.Omega.{arith}
use Prim.Native.Nat.{ℕ, ◌+◌, ◌*◌}
use lib.ListN.{get_or}
use Rattle.parting.proofs.UserLaws.{regions-in, coords-in, bytes-in, index-room, named-fit, user-done}
use borrow.Author.Rules.{rules}
use Rattle.parting.proofs.naming.user.Goals as goal

pub overflow_mul-q : goal.overflow_mul-q
overflow_mul-q c = omega (arith, c.requires.passed.few)

pub overflow_add-q : goal.overflow_add-q
overflow_add-q c = omega (arith, c.requires.passed.few, index-room c.requires)

pub offset_bounds-work-records : goal.offset_bounds-work-records
offset_bounds-work-records c = omega (arith, c.requires.passed.few, index-room c.requires)

pub bounds-work-records : goal.bounds-work-records
bounds-work-records c = omega (arith, c.requires.passed.room, index-room c.requires)

pub overflow_mul-records : goal.overflow_mul-records
overflow_mul-records c = omega (arith, c.requires.passed.few)

pub find_firsts-requires : goal.find_firsts-requires
find_firsts-requires c =
    let p = c.requires in
    record { axes_in_bounds = (bytes-in p, p.passed.some, p.passed.most, omega (arith, p.passed.few, regions-in p)); axes_in_bounds_2 = (omega (arith, p.passed.room, regions-in p, coords-in p), omega (arith, p.passed.few, regions-in p, coords-in p)) }

pub overflow_mul-records-2 : goal.overflow_mul-records-2
overflow_mul-records-2 c = let p = c.requires in omega (arith, p.passed.few, p.passed.most, regions-in p, coords-in p)

pub overflow_mul-regions : goal.overflow_mul-regions
overflow_mul-regions c = let p = c.requires in omega (arith, p.passed.few, p.passed.most, regions-in p, coords-in p)

pub overflow_mul-axes : goal.overflow_mul-axes
overflow_mul-axes c = let p = c.requires in omega (arith, p.passed.few, p.passed.most, regions-in p, coords-in p)

pub overflow_mul-regions-2 : goal.overflow_mul-regions-2
overflow_mul-regions-2 c = let p = c.requires in omega (arith, p.passed.few, p.passed.most, regions-in p, coords-in p)

pub overflow_add-regions : goal.overflow_add-regions
overflow_add-regions c = let p = c.requires in omega (arith, p.passed.few, p.passed.most, regions-in p, coords-in p)

pub overflow_add-records : goal.overflow_add-records
overflow_add-records c = let p = c.requires in omega (arith, p.passed.few, p.passed.most, regions-in p, coords-in p)

pub first_named-requires : goal.first_named-requires
first_named-requires c = named-fit c.requires _ _ refl c.find_firsts.ensures

pub shape_of-work : goal.shape_of-work
shape_of-work c = search rules

pub returns : goal.returns
returns c = let a = c.args in λ f. user-done f _ _ refl c.find_firsts.ensures _ (ap (λ (k : ℕ). get_or a.work.now (4 * a.records + k) 0) refl) _ c.first_named.ensures
