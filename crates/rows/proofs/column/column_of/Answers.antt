use Rattle.rows.proofs.RowLaws.{place_out, place_none, place-some}
use native.Mathlib.Omega.{arith}
use Rattle.rows.proofs.column.column_of.Goals as goal

pub returns-then-places-region : goal.returns-then-places-region
returns-then-places-region c = λ cols p. place_out cols _ _ p c.if-places-region.true

pub returns-then-place-eq0 : goal.returns-then-place-eq0
returns-then-place-eq0 c = λ cols p. place_none cols _ _ p (omega arith) c.if-place-eq0.true

pub returns : goal.returns
returns c = λ cols p. place-some cols _ _ p (omega arith) c.if-place-eq0.false
