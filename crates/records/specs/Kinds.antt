-- The kinds of records, and the byte of each. Assumes nothing.
use Rattle.std.specs.Prelude.{ℕ, eqb, Result, Ok, Err}
use Rattle.laws.specs.Pick.{pick}
use Rattle.said.specs.Records.{axis_kind, value_kind, end_kind}
use Rattle.refusals.specs.declared.Refusal.{Refusal}
use Rattle.refusals.specs.declared.Refusal.TheVariants.{UnknownKind}
use Rattle.records.specs.declared.kinds.Kind.{Kind}
use Rattle.records.specs.declared.kinds.Kind.TheVariants.{Axis, Value, End}

-- the byte that stands for a kind
abbrev pub code_of : Kind → ℕ
code_of Axis = axis_kind
code_of Value = value_kind
code_of End = end_kind

-- the kind that a byte stands for (R30: else none)
abbrev pub kind_of : ℕ → Result Kind Refusal
kind_of k = pick (eqb k axis_kind) (Ok Axis) (pick (eqb k value_kind) (Ok Value) (pick (eqb k end_kind) (Ok End) (Err UnknownKind)))
