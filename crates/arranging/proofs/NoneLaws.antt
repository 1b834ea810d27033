-- Mode 1 without sets: three words stand for the one group, which has no rows. Assumes nothing.
use mathlib.Core.Path.{◌≡◌, refl, sym, ap, subst}
use mathlib.Core.List.{List, [], ◌∷◌}
use Prim.Native.Nat.{ℕ, ◌+◌, ◌*◌, ◌≤◌}
use native.Mathlib.Omega.{arith}
use lib.ListN.{length}
use Rattle.laws.specs.Bag.{sum}
use Rattle.laws.specs.Bounded.{tabulate}
use Rattle.laws.specs.LentRange.{seg}
use Rattle.groups.specs.Cover.{cover_from}
use Rattle.rule.specs.Told.{words}
use Rattle.store.specs.Lent.{coords_in, final_at, finals_at}
use Rattle.encoder.specs.declared.places.Places.{Places}
use Rattle.encoder.specs.Packed.{Packed, own, one_cost}
use Rattle.encoder.specs.Lent.{relabel, origins_in, FinalIn, PackedAt}
use Rattle.encoder.specs.LentPlaces.{scratch_at}
use Rattle.finishing.specs.Answers.{Built}
use Rattle.finishing.specs.Buffers.{Buffers}
use Rattle.finishing.specs.declared.answers.Report.{Report}
use Rattle.finishing.specs.declared.measuring.Packing.{Packing}
use Rattle.finishing.specs.Late.{report_of}
use Rattle.finishing.specs.Lent.{FinishFit, Finished, WordsFit}
use Rattle.limits.specs.Limits.{most_axes}
use Rattle.opening.specs.LentOpened.{no_places}
use Rattle.arranging.specs.LentArranged.{one_null, packing_of_null}

abbrev three : List ℕ
three = 0 ∷ 3 ∷ 0 ∷ []

null-in : FinalIn (no_places 3) three 0
unfolding seg
null-in = record { shape-to = omega arith; rows-from = omega arith; rows-to = omega arith; numbers = tt }

none-packed : PackedAt (own 0 []) (no_places 3) one_null three
unfolding own one_cost tabulate seg relabel origins_in finals_at final_at cover_from sum words
none-packed = record {
  held = record { room = omega arith; rows = omega arith; body = λ x h. absurd (omega arith); ascending = λ x h. absurd (omega arith); proper = λ x h. absurd (omega arith) };
  sets-few = omega arith;
  regions-few = omega arith;
  line-to = omega arith;
  ids-to = omega arith;
  finals-few = omega arith;
  finals-to = omega arith;
  rows-to = omega arith;
  log-to = omega arith;
  order-to = omega arith;
  homes-to = λ i h. absurd (omega arith);
  ids-are = refl;
  sets-are = λ x h. absurd (omega arith);
  distinct-is = refl;
  distinct-few = omega arith;
  finals-in = λ g h. let e : 0 ≡ g = omega arith in subst (λ (z : ℕ). FinalIn (no_places 3) three z) e null-in;
  rows_few = omega arith;
  finals-are = refl;
  groups-is = refl;
  groups-few = omega arith;
  origins-are = refl;
  merges-is = refl;
  log-are = refl;
  weighed-is = refl;
  before-is = refl;
  after_is = refl;
}

none-words : WordsFit (no_places 3) one_null three
none-words = record { packed-as = own 0 []; packed = none-packed; merges-few = omega arith; ids-below = λ x h. absurd (omega arith) }

null-fit : (axes : ℕ) (job : List ℕ) → axes ≤ most_axes → FinishFit axes 0 job (no_places 3) one_null three
null-fit axes job a = record {
  axes-few = a;
  packed-as = own 0 [];
  packed = none-packed;
  starts-to = omega arith;
  sourced = λ r h. absurd (omega arith);
  merges-few = omega arith;
  ids-below = λ x h. absurd (omega arith);
}

null-room : scratch_at (no_places 3) + 4 * (no_places 3).regions ≤ length three
null-room = omega arith

pub null_is : (axes : ℕ) (p : Places) → p ≡ no_places 3 → ◌≡◌ {A = Packing} (record { axes = axes; starts = 0; places = p; encoded = one_null }) (packing_of_null axes)
null_is axes p e = ap (λ (x : Places). record { axes = axes; starts = 0; places = x; encoded = one_null }) e

module _ (axes : ℕ) (k : Packing) (e : k ≡ packing_of_null axes) where
  pub none-fit : (job : List ℕ) → axes ≤ most_axes → FinishFit k.axes k.starts job k.places k.encoded three
  none-fit job a = subst (λ (x : Packing). FinishFit x.axes x.starts job x.places x.encoded three) (sym e) (null-fit axes job a)

  pub none-fits : axes ≤ most_axes → (k.axes ≤ most_axes) × WordsFit k.places k.encoded three
  none-fits a = subst (λ (x : Packing). (x.axes ≤ most_axes) × WordsFit x.places x.encoded three) (sym e) (a, none-words)

  -- its tables of a word a region are empty
  pub none-room : scratch_at k.places + 4 * k.places.regions ≤ length three
  none-room = subst (λ (x : Packing). scratch_at x.places + 4 * x.places.regions ≤ length three) (sym e) null-room

  -- no region has coordinates
  pub none_done : (job : List ℕ) (r : Built) (old new : Buffers)
      → ((x : Packed) → PackedAt x k.places k.encoded three → Finished k.axes (coords_in job k.axes three k.starts k.places.regions) x r old new)
      → Finished axes [] (own 0 []) r old new
  unfolding coords_in tabulate
  none_done job r old new f =
      subst (λ (y : Packing). ((x : Packed) → PackedAt x y.places y.encoded three → Finished y.axes (coords_in job y.axes three y.starts y.places.regions) x r old new)) e f (own 0 []) none-packed

  pub none-foretold : axes ≤ most_axes → (r : Report)
      → ((job : List ℕ) (x : Packed) → FinishFit k.axes k.starts job k.places k.encoded three → PackedAt x k.places k.encoded three
      → r ≡ report_of k.axes (coords_in job k.axes three k.starts k.places.regions) x)
      → r ≡ report_of axes [] (own 0 [])
  unfolding coords_in tabulate
  none-foretold a r f =
      subst (λ (y : Packing). ((job : List ℕ) (x : Packed) → FinishFit y.axes y.starts job y.places y.encoded three → PackedAt x y.places y.encoded three → r ≡ report_of y.axes (coords_in job y.axes three y.starts y.places.regions) x)) e f
      [] (own 0 []) (null-fit axes [] a) none-packed
