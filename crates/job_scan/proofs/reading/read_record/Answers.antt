use mathlib.Core.Path.{refl, sym, ap, ◌∙◌}
use Rattle.said.specs.Records.{record_at, kind, value_kind}
use Rattle.records.proofs.KindLaws.{is_by, not_by}
use Rattle.refusals.proofs.Passing.{passed}
use Rattle.refusals.specs.Refusals.{number_in}
use Rattle.job_scan.proofs.ReadingLaws.{form-read, value-refused, value_read, full-read, end_read}
use native.Mathlib.Omega.{arith}
use Rattle.job_scan.proofs.reading.read_record.Goals as goal

pub returns-in_err-check_record : goal.returns-in_err-check_record
returns-in_err-check_record c =
    let a = c.args in
    λ s h. rw (passed c.from_residual.result c.from_residual.ensures.1)
    (form-read a.axes a.mode a.job.now a.i a.from a.t s a.f a.work.now h c.in_err-check_record.field-0.0 (sym (ap number_in (c.in_err-check_record.was)) ∙ c.check_record.ensures))

pub overflow_add-mark : goal.overflow_add-mark
overflow_add-mark c = omega (arith, c.requires.record_fits.few)

pub overflow_cast-mark : goal.overflow_cast-mark
overflow_cast-mark c = omega (arith, c.requires.record_fits.few)

pub take_value-requires : goal.take_value-requires
take_value-requires c = record { i_in_bounds = c.requires.axes_nonzero.1; value_fits = c.requires.record_fits.value-fits }

pub returns-in_err-k : goal.returns-in_err-k
returns-in_err-k c =
    let a = c.args in
    λ s h. rw (passed c.from_residual-in_err-k.result c.from_residual-in_err-k.ensures.1)
    (value-refused a.axes a.mode a.job.now a.i a.from a.t s a.f a.work.now h (sym c.check_record.ensures ∙ ap number_in (c.in_ok-check_record.was))
    (is_by (kind (record_at a.job.now a.i)) value_kind c.if-is_kind.ensures) _ c.take_value.result (c.take_value.ensures s a.f.sets refl h.held) c.in_err-k.field-0.0 (c.in_err-k.was))

pub returns-then-is_kind : goal.returns-then-is_kind
returns-then-is_kind c =
    let a = c.args in
    λ s h. value_read a.axes a.mode a.job.now a.i a.from a.t s a.f a.work.now h (sym c.check_record.ensures ∙ ap number_in (c.in_ok-check_record.was))
    (is_by (kind (record_at a.job.now a.i)) value_kind c.if-is_kind.ensures) _ c.take_value.result (c.take_value.ensures s a.f.sets refl h.held) c.in_ok-k.k (c.in_ok-k.was)

pub returns-in_err-check_end : goal.returns-in_err-check_end
returns-in_err-check_end c =
    let a = c.args in
    λ s h. rw (passed c.from_residual-in_err-check_end.result c.from_residual-in_err-check_end.ensures.1)
    (full-read a.axes a.mode a.job.now a.i a.from a.t s a.f a.work.now h (sym c.check_record.ensures ∙ ap number_in (c.in_ok-check_record.was))
    (not_by (kind (record_at a.job.now a.i)) value_kind c.if-is_kind.ensures) c.check_end.result c.check_end.ensures c.in_err-check_end.field-0.0 (c.in_err-check_end.was))

pub end_set-requires : goal.end_set-requires
end_set-requires c = c.requires.record_fits.end_fits

pub returns : goal.returns
returns c =
    let a = c.args in
    λ s h. end_read a.axes a.mode a.job.now a.i a.from a.t s a.f a.work.now h (sym c.check_record.ensures ∙ ap number_in (c.in_ok-check_record.was))
    (not_by (kind (record_at a.job.now a.i)) value_kind c.if-is_kind.ensures) c.check_end.result c.check_end.ensures c.in_ok-check_end.field-0 (c.in_ok-check_end.was) _
    (c.end_set.ensures s a.f.uses (omega (arith, c.requires.record_fits.value-fits.used-in)) h.held)
