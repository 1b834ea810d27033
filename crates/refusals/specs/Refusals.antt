-- The refusals of RULES, their numbers, and the number and place of an answer that may be refused.
use Rattle.std.specs.Prelude.{Bool, true, false, ℕ, Result, Ok, Err}
use Rattle.refusals.specs.declared.Refusal.{Refusal}
use Rattle.refusals.specs.declared.Refusal.TheVariants.{BadAxes, BadMode, BadJobLength, WorkShort, UnknownRegion, RegionTwice, Unfinished, SetsFull, ShapesFull, IdsShort, MapShort, LogShort, OutShort, BadStore, NoRow, UnknownKind, NotZero, AxisOutOfTurn, AxisTooLate, RegionUnfinished, RegionsEqual, RegionsOrAxes, JobTooLong, JobShort, StoreTooBig, OriginsShort, NoId, OtherStore, NoSet, LongValue, BadRegion, WideSubtable, PlacesShort, KeptShort}
use Rattle.refusals.specs.declared.Refused.{Refused}

abbrev pub number : Refusal → ℕ
number BadAxes = 1
number BadMode = 2
number BadJobLength = 3
number WorkShort = 4
number UnknownRegion = 6
number RegionTwice = 7
number Unfinished = 8
number SetsFull = 9
number ShapesFull = 10
number IdsShort = 11
number MapShort = 12
number LogShort = 13
number OutShort = 14
number BadStore = 20
number NoRow = 21
number UnknownKind = 30
number NotZero = 31
number AxisOutOfTurn = 32
number AxisTooLate = 33
number RegionUnfinished = 34
number RegionsEqual = 50
number RegionsOrAxes = 51
number JobTooLong = 52
number JobShort = 53
number StoreTooBig = 60
number OriginsShort = 61
number NoId = 62
number OtherStore = 63
number NoSet = 64
number LongValue = 70
number BadRegion = 71
number WideSubtable = 72
number PlacesShort = 73
number KeptShort = 74

-- of a job as a whole the place is 0 (T5)
abbrev pub of_job : Refusal → Refused
of_job r = record { refusal = r; place = 0 }

abbrev pub ensured : Bool → Refusal → Result (Unit {0}) Refusal
ensured true r = Ok tt
ensured false r = Err r

-- ---- the number of an answer: 0 where it is not refused

abbrev pub number_in : {T : Type 0} → Result T Refusal → ℕ
number_in (Ok x) = 0
number_in (Err r) = number r

abbrev pub refused_number : {T : Type 0} → Result T Refused → ℕ
refused_number (Ok x) = 0
refused_number (Err x) = number x.refusal

-- its place: 0 where it is not refused
abbrev pub refused_place : {T : Type 0} → Result T Refused → ℕ
refused_place (Ok x) = 0
refused_place (Err x) = x.place
