use Rattle.refusals.proofs.Passing.{passed}
use Rattle.opening.proofs.TakenLaws.{place-in, odd-before, none-before, odd-among, none-among}
use Rattle.opening.proofs.taking.take_job.Goals as goal

pub returns-in_err-check_records-in-Ok : goal.returns-in_err-check_records-in-Ok
returns-in_err-check_records-in-Ok c =
    rw (passed c.from_residual.result c.from_residual.ensures.1)
    (odd-among c.requires.records_value c.args.profile c.in-Ok.counts c.in-Ok.ensures c.in_err-check_records-in-Ok.field-0.0 c.in_err-check_records-in-Ok.ensures)

pub returns-in_ok-check_records-in-Ok : goal.returns-in_ok-check_records-in-Ok
returns-in_ok-check_records-in-Ok c = none-among c.requires.records_value c.args.profile c.in-Ok.counts c.in-Ok.ensures c.in_ok-check_records-in-Ok.ensures

pub check_records-requires-in-Err : goal.check_records-requires-in-Err
check_records-requires-in-Err c = place-in c.requires.records_value c.args.profile c.in-Err.refused c.in-Err.ensures c.requires.records_in_bounds.0

pub returns-in_err-check_records-in-Err : goal.returns-in_err-check_records-in-Err
returns-in_err-check_records-in-Err c =
    rw (passed c.from_residual-in_err-check_records-in-Err.result c.from_residual-in_err-check_records-in-Err.ensures.1)
    (odd-before c.requires.records_value c.args.profile c.in-Err.refused c.in-Err.ensures c.in_err-check_records-in-Err.field-0.0 c.in_err-check_records-in-Err.ensures)

pub returns-in_ok-check_records-in-Err : goal.returns-in_ok-check_records-in-Err
returns-in_ok-check_records-in-Err c = none-before c.requires.records_value c.args.profile c.in-Err.refused c.in-Err.ensures c.in_ok-check_records-in-Err.ensures
