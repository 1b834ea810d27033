-- What final groups cost, from their shapes in lent words. Assumes nothing.
use mathlib.Core.Path.{◌≡◌, sym, ◌∙◌}
use mathlib.Core.List.{List}
use Prim.Native.Nat.{ℕ, ◌+◌, ◌-◌}
use lib.ListN.{length, take, drop}
use Rattle.laws.specs.LentRange.{seg}
use Rattle.laws.proofs.RangeLaws.{length-seg}
use Rattle.shapes.specs.Shape.{Shape, join}
use Rattle.shapes.specs.Group.{group_cost}
use Rattle.shapes.specs.Lent.{Narrow, Measured, Small, cost_of}
use Rattle.shapes.proofs.LentLaws.{narrow-small, narrow-join}
use Rattle.shapes.proofs.GroupLaws.{cost-measured}
use Rattle.store.proofs.GroupLaws.{part-seg}
use Rattle.reasons.specs.LentReasons.{ShapesIn}

module _ (a b regions n : ℕ) (w : List ℕ) (f : ShapesIn a b regions n w) where
  abbrev s : Shape
  s = seg a regions w

  abbrev t : Shape
  t = seg b regions w

  pub first-narrow : Narrow (take (a + regions - a) (drop a w))
  first-narrow = rw (part-seg a regions w) f.first-narrow

  pub second-narrow : Narrow (take (b + regions - b) (drop b w))
  second-narrow = rw (part-seg b regions w) f.second-narrow

  same-long : length (seg a regions w) ≡ length (seg b regions w)
  same-long = length-seg a regions w f.first_to ∙ sym (length-seg b regions w f.second-to)

  pub both_long : length (take (a + regions - a) (drop a w)) ≡ length (take (b + regions - b) (drop b w))
  both_long = rw (part-seg a regions w, part-seg b regions w) same-long

  module _ (row cols : ℕ) (m : Measured (join (take (a + regions - a) (drop a w)) (take (b + regions - b) (drop b w))) row cols) where
    measured : Measured (join (seg a regions w) (seg b regions w)) row cols
    measured = rw (part-seg a regions w, part-seg b regions w) at m

    pub joined_small : Small row cols
    joined_small = narrow-small (join s t) row cols (narrow-join s t f.first-narrow f.second-narrow same-long) measured

    pub joined-cost : cost_of row cols n ≡ group_cost (record { shape = join (seg a regions w) (seg b regions w); sets = n })
    joined-cost = sym (cost-measured (join s t) row cols n measured)
