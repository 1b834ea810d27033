use native.Mathlib.Omega.{arith}
use mathlib.Core.Path.{refl}
use Rattle.refusals.proofs.Numbers.{some_number}
use Rattle.refusals.proofs.Passing.{passed}
use lib.ListN.{length}
use Rattle.reader.proofs.StoreLaws.{header-fits}
use Rattle.recoverer.proofs.Steps.{header_of, head_of, refused-answer, refused-left, late-bounds, late-long, late-short, late-fine, job-room, job-axes, done-answer, done-left}
use Rattle.recoverer.proofs.finish.Goals as goal

pub be-list-requires : goal.be-list-requires
be-list-requires c =
    let f = header-fits _ (header_of _ c.requires.0) in
    record { k_bound = omega arith; k_in_bounds = omega (arith, f.head) }

pub be-axes-requires : goal.be-axes-requires
be-axes-requires c =
    let f = header-fits _ (header_of _ c.requires.0) in
    record { k_bound = omega arith; k_in_bounds = omega (arith, f.list, c.be-list.ensures.is) }

pub be-regions-requires : goal.be-regions-requires
be-regions-requires c =
    let f = header-fits _ (header_of _ c.requires.0) in
    record { k_bound = omega arith; k_in_bounds = omega (arith, f.list, c.be-list.ensures.is) }

pub returns-in_err-check_bounds : goal.returns-in_err-check_bounds
returns-in_err-check_bounds c =
    let h = head_of _ _ _ _ c.be-list.ensures.is c.be-axes.ensures.is c.be-regions.ensures.is in
    let some = some_number c.in_err-check_bounds.field-0.0 in
    let e = late-bounds _ _ _ _ h _ _ c.in_err-check_bounds.ensures some in
    rw (passed c.from_residual.result c.from_residual.ensures.1) (record { value = refused-answer _ c.args.out.now _ _ e some; out_after = refused-left _ _ _ _ e some })

pub returns-then-t-gt-RECORDS : goal.returns-then-t-gt-RECORDS
returns-then-t-gt-RECORDS c =
    let h = head_of _ _ _ _ c.be-list.ensures.is c.be-axes.ensures.is c.be-regions.ensures.is in
    let e = late-long _ _ _ _ h _ _ c.in_ok-check_bounds.ensures refl _ _ c.tally-t.ensures (omega arith) in
    record { value = refused-answer _ c.args.out.now _ _ e (λ z. omega arith); out_after = refused-left _ _ _ _ e (λ z. omega arith) }

pub returns-then-out-t : goal.returns-then-out-t
returns-then-out-t c =
    let h = head_of _ _ _ _ c.be-list.ensures.is c.be-axes.ensures.is c.be-regions.ensures.is in
    let e = late-short _ _ _ _ h (length c.args.out.now) _ c.in_ok-check_bounds.ensures refl _ _ c.tally-t.ensures (omega arith) (omega arith) in
    record { value = refused-answer _ c.args.out.now _ _ e (λ z. omega arith); out_after = refused-left _ _ _ _ e (λ z. omega arith) }

pub write_job-requires : goal.write_job-requires
write_job-requires c =
    let h = head_of _ _ _ _ c.be-list.ensures.is c.be-axes.ensures.is c.be-regions.ensures.is in
    let few = job-axes _ _ _ _ h (length c.args.out.now) _ c.in_ok-check_bounds.ensures refl _ _ c.tally-t.ensures (omega arith) in
    record { s_value = (c.requires.0, few, c.requires.1); s_in_bounds = job-room _ _ _ _ h _ _ c.in_ok-check_bounds.ensures refl _ _ c.tally-t.ensures (omega arith) (omega arith) }

pub returns : goal.returns
returns c =
    let h = head_of _ _ _ _ c.be-list.ensures.is c.be-axes.ensures.is c.be-regions.ensures.is in
    record { value = done-answer _ _ _ _ h _ _ c.in_ok-check_bounds.ensures refl _ _ c.tally-t.ensures (omega arith) (omega arith); out_after = done-left _ _ _ _ _ (late-fine _ _ _ _ h _ _ c.in_ok-check_bounds.ensures refl _ _ c.tally-t.ensures (omega arith) (omega arith)) c.write_job.ensures }
