use native.Mathlib.Omega.{arith}
use Rattle.job_writing.proofs.SetLaws.{slot-put-none, slot-room, slot-put}
use Rattle.job_writing.proofs.set_records.write_slot.Goals as goal

pub returns-then-table-eq0 : goal.returns-then-table-eq0
returns-then-table-eq0 c = slot-put-none _ _ _ _ (omega arith)

pub write_table-requires : goal.write_table-requires
write_table-requires c =
    let d = c.if-table-eq0.false in
    record { table_in = (c.requires.slot_in.0.there d, c.requires.slot_in.1); table_in_bounds = slot-room _ _ d _ _ c.requires.table_in_bounds }

pub returns : goal.returns
returns c = slot-put c.args.s.now c.args.table c.if-table-eq0.false c.write_table.ensures
