-- No two refusals have one number, so an answer's number says which it is. Assumes nothing.
use Rattle.std.specs.Prelude.{◌≡◌, refl, Bool, true, false, ℕ, eqb, Result, Ok, Err}
use mathlib.Core.Path.{ap, sym, ◌∙◌}
use native.Mathlib.Omega.{arith}
use Rattle.refusals.specs.declared.Refusal.{Refusal}
use Rattle.refusals.specs.declared.Refusal.TheVariants.{BadAxes, BadMode, BadJobLength, WorkShort, UnknownRegion, RegionTwice, Unfinished, SetsFull, ShapesFull, IdsShort, MapShort, LogShort, OutShort, BadStore, NoRow, UnknownKind, NotZero, AxisOutOfTurn, AxisTooLate, RegionUnfinished, RegionsEqual, RegionsOrAxes, JobTooLong, JobShort, StoreTooBig, OriginsShort, NoId, OtherStore, NoSet, LongValue, BadRegion, WideSubtable, PlacesShort, KeptShort}
use Rattle.refusals.specs.declared.Refused.{Refused}
use Rattle.refusals.specs.Refusals.{number, number_in}

choose : Bool → Refusal → Refusal → Refusal
choose true r s = r
choose false r s = s

pub refusal_of : ℕ → Refusal
refusal_of n =
    choose (eqb n 1) BadAxes (
    choose (eqb n 2) BadMode (
    choose (eqb n 3) BadJobLength (
    choose (eqb n 4) WorkShort (
    choose (eqb n 6) UnknownRegion (
    choose (eqb n 7) RegionTwice (
    choose (eqb n 8) Unfinished (
    choose (eqb n 9) SetsFull (
    choose (eqb n 10) ShapesFull (
    choose (eqb n 11) IdsShort (
    choose (eqb n 12) MapShort (
    choose (eqb n 13) LogShort (
    choose (eqb n 14) OutShort (
    choose (eqb n 20) BadStore (
    choose (eqb n 21) NoRow (
    choose (eqb n 30) UnknownKind (
    choose (eqb n 31) NotZero (
    choose (eqb n 32) AxisOutOfTurn (
    choose (eqb n 33) AxisTooLate (
    choose (eqb n 34) RegionUnfinished (
    choose (eqb n 50) RegionsEqual (
    choose (eqb n 51) RegionsOrAxes (
    choose (eqb n 52) JobTooLong (
    choose (eqb n 53) JobShort (
    choose (eqb n 60) StoreTooBig (
    choose (eqb n 61) OriginsShort (
    choose (eqb n 62) NoId (
    choose (eqb n 63) OtherStore (
    choose (eqb n 64) NoSet (
    choose (eqb n 70) LongValue (
    choose (eqb n 71) BadRegion (
    choose (eqb n 72) WideSubtable (
    choose (eqb n 73) PlacesShort (KeptShort)))))))))))))))))))))))))))))))))

pub back : (r : Refusal) → refusal_of (number r) ≡ r
unfolding refusal_of choose
back BadAxes = refl
back BadMode = refl
back BadJobLength = refl
back WorkShort = refl
back UnknownRegion = refl
back RegionTwice = refl
back Unfinished = refl
back SetsFull = refl
back ShapesFull = refl
back IdsShort = refl
back MapShort = refl
back LogShort = refl
back OutShort = refl
back BadStore = refl
back NoRow = refl
back UnknownKind = refl
back NotZero = refl
back AxisOutOfTurn = refl
back AxisTooLate = refl
back RegionUnfinished = refl
back RegionsEqual = refl
back RegionsOrAxes = refl
back JobTooLong = refl
back JobShort = refl
back StoreTooBig = refl
back OriginsShort = refl
back NoId = refl
back OtherStore = refl
back NoSet = refl
back LongValue = refl
back BadRegion = refl
back WideSubtable = refl
back PlacesShort = refl
back KeptShort = refl

pub number_same : (r s : Refusal) → number r ≡ number s → r ≡ s
number_same r s e = sym (back r) ∙ (ap refusal_of e ∙ back s)

pub some_number : (r : Refusal) → number r ≡ 0 → ⊥
some_number BadAxes e = absurd (omega arith)
some_number BadMode e = absurd (omega arith)
some_number BadJobLength e = absurd (omega arith)
some_number WorkShort e = absurd (omega arith)
some_number UnknownRegion e = absurd (omega arith)
some_number RegionTwice e = absurd (omega arith)
some_number Unfinished e = absurd (omega arith)
some_number SetsFull e = absurd (omega arith)
some_number ShapesFull e = absurd (omega arith)
some_number IdsShort e = absurd (omega arith)
some_number MapShort e = absurd (omega arith)
some_number LogShort e = absurd (omega arith)
some_number OutShort e = absurd (omega arith)
some_number BadStore e = absurd (omega arith)
some_number NoRow e = absurd (omega arith)
some_number UnknownKind e = absurd (omega arith)
some_number NotZero e = absurd (omega arith)
some_number AxisOutOfTurn e = absurd (omega arith)
some_number AxisTooLate e = absurd (omega arith)
some_number RegionUnfinished e = absurd (omega arith)
some_number RegionsEqual e = absurd (omega arith)
some_number RegionsOrAxes e = absurd (omega arith)
some_number JobTooLong e = absurd (omega arith)
some_number JobShort e = absurd (omega arith)
some_number StoreTooBig e = absurd (omega arith)
some_number OriginsShort e = absurd (omega arith)
some_number NoId e = absurd (omega arith)
some_number OtherStore e = absurd (omega arith)
some_number NoSet e = absurd (omega arith)
some_number LongValue e = absurd (omega arith)
some_number BadRegion e = absurd (omega arith)
some_number WideSubtable e = absurd (omega arith)
some_number PlacesShort e = absurd (omega arith)
some_number KeptShort e = absurd (omega arith)

-- what tests answer is fixed by its number
pub tested_same : (a b : Result (Unit {0}) Refusal) → number_in a ≡ number_in b → a ≡ b
tested_same (Ok _) (Ok _) e = refl
tested_same (Ok _) (Err s) e = absurd (some_number s (sym e))
tested_same (Err r) (Ok _) e = absurd (some_number r e)
tested_same (Err r) (Err s) e = ap Err (number_same r s e)

-- ---- with a place

abbrev pub refused_of : ℕ → ℕ → Refused
refused_of n at = record { refusal = refusal_of n; place = at }

pub refused_back : (x : Refused) → refused_of (number x.refusal) x.place ≡ x
refused_back x = let e = back x.refusal in λ i. record { refusal = e i; place = x.place }

pub refused_same : (x y : Refused) → number x.refusal ≡ number y.refusal → x.place ≡ y.place → x ≡ y
refused_same x y n p = let e = number_same x.refusal y.refusal n in λ i. record { refusal = e i; place = p i }
