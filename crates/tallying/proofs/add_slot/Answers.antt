use native.Mathlib.Omega.{arith}
use Rattle.tallying.proofs.TallyLaws.{added_none, added-over, added-values}
use Rattle.tallying.proofs.add_slot.Goals as goal

pub returns-then-at-eq0 : goal.returns-then-at-eq0
returns-then-at-eq0 c = added_none _ _ _ _ c.requires.records_le_most_records.0 c.requires.records_le_most_records.1 (omega arith)

pub returns-then-records-gt-RECORDS : goal.returns-then-records-gt-RECORDS
returns-then-records-gt-RECORDS c = added-over _ _ _ _ c.requires.records_le_most_records.0 c.requires.records_le_most_records.1 (λ e. omega arith) _ c.be-items.ensures.is (omega arith) (omega arith)

pub returns : goal.returns
returns c = added-values _ _ _ _ c.requires.records_le_most_records.0 c.requires.records_le_most_records.1 (λ e. omega arith) _ c.be-items.ensures.is (omega arith) _ c.table_values-values.ensures.value c.table_values-values.ensures.upper_bound
