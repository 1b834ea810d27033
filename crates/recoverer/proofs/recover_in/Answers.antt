use mathlib.Core.Path.{refl}
use native.Mathlib.Omega.{arith}
use lib.ListN.{length}
use Rattle.refusals.proofs.Numbers.{some_number}
use Rattle.refusals.proofs.Passing.{passed}
use Rattle.recoverer.proofs.Steps.{refused-answer, refused-left, recover-look, recover-late, recover-whole, same_answer, same_left}
use Rattle.recoverer.proofs.recover_in.Goals as goal

pub returns-in_err-look : goal.returns-in_err-look
returns-in_err-look c =
    let some = some_number c.in_err-look.field-0.0 in
    let e = recover-look c.args.store.now (length c.args.work.now) (length c.args.out.now) (omega (arith, c.requires)) _ c.in_err-look.ensures some in
    rw (passed c.from_residual.result c.from_residual.ensures.1) (record { value = refused-answer _ c.args.out.now _ _ e some; out_after = refused-left _ _ _ _ e some })

pub finish-requires : goal.finish-requires
finish-requires c = (recover-whole _ (length c.args.work.now) (length c.args.out.now) (omega (arith, c.requires)) _ c.in_ok-look.ensures refl, c.look_ahead.ensures.ahead)

pub returns : goal.returns
returns c =
    let e = recover-late c.args.store.now (length c.args.work.now) (length c.args.out.now) (omega (arith, c.requires)) _ c.in_ok-look.ensures refl in
    record { value = same_answer _ _ _ _ c.finish.ensures.value e; out_after = same_left _ _ _ _ _ c.finish.ensures.out_after e }
