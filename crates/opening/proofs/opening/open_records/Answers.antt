use native.Mathlib.Omega.{arith}
use Rattle.job.proofs.WholeLaws.{work-enough}
use mathlib.Core.Path.{◌∙◌}
use Rattle.refusals.proofs.Passing.{passed}
use Rattle.opening.proofs.OpenLaws.{read-refused, read-alone, read-full, read-groups}
use Rattle.opening.proofs.RecordsLaws.{starts-room, starts-low, uses-few, sets-few, base-few, collected}
use Rattle.opening.proofs.opening.open_records.Goals as goal

pub take_job-requires : goal.take_job-requires
take_job-requires c =
    let q = c.requires in
    record { records_value = q.records_value; records_in_bounds = omega (arith, work-enough _ _ _ q.records_in_bounds.4) }

pub returns-in_err-counts : goal.returns-in_err-counts
returns-in_err-counts c = rw (passed c.from_residual.result c.from_residual.ensures.1) (read-refused _ _ _ _ _ c.in_err-counts.field-0.0 c.in_err-counts.ensures.is c.in_err-counts.ensures.only.long)

pub place_starts-requires : goal.place_starts-requires
place_starts-requires c = record { n_in_bounds = starts-room c.requires.records_in_bounds.1 c.requires.records_in_bounds.2 (λ k. omega (arith, c.type_inv.job k)) c.requires.records_in_bounds.0 c.requires.records_in_bounds.3 c.requires.records_in_bounds.4 _ c.in_ok-counts.ensures.is.held c.in_ok-counts.ensures.only; axes_le_most_axes = c.requires.records_in_bounds.2; by_index = starts-low c.requires.records_in_bounds.1 c.requires.records_in_bounds.2 (λ k. omega (arith, c.type_inv.job k)) c.requires.records_in_bounds.0 c.requires.records_in_bounds.3 c.requires.records_in_bounds.4 _ c.in_ok-counts.ensures.is.held c.in_ok-counts.ensures.only }

pub overflow_add-starts : goal.overflow_add-starts
overflow_add-starts c = omega (arith, base-few c.requires.records_in_bounds.1 c.requires.records_in_bounds.2 (λ k. omega (arith, c.type_inv.job k)) c.requires.records_in_bounds.0 c.requires.records_in_bounds.3 c.requires.records_in_bounds.4 _ c.in_ok-counts.ensures.is.held c.in_ok-counts.ensures.only)

pub lay_out-places-requires : goal.lay_out-places-requires
lay_out-places-requires c = record { base_bound = base-few c.requires.records_in_bounds.1 c.requires.records_in_bounds.2 (λ k. omega (arith, c.type_inv.job k)) c.requires.records_in_bounds.0 c.requires.records_in_bounds.3 c.requires.records_in_bounds.4 _ c.in_ok-counts.ensures.is.held c.in_ok-counts.ensures.only; sets_le_most_records = sets-few c.requires.records_in_bounds.1 c.requires.records_in_bounds.2 (λ k. omega (arith, c.type_inv.job k)) c.requires.records_in_bounds.0 c.requires.records_in_bounds.3 c.requires.records_in_bounds.4 _ c.in_ok-counts.ensures.is.held c.in_ok-counts.ensures.only; regions_le_max_regions = uses-few c.requires.records_in_bounds.1 c.requires.records_in_bounds.2 (λ k. omega (arith, c.type_inv.job k)) c.requires.records_in_bounds.0 c.requires.records_in_bounds.3 c.requires.records_in_bounds.4 _ c.in_ok-counts.ensures.is.held c.in_ok-counts.ensures.only }

pub returns-then-mode-ne0 : goal.returns-then-mode-ne0
returns-then-mode-ne0 c = read-alone (collected c.requires.records_in_bounds.1 c.requires.records_in_bounds.2 (λ k. omega (arith, c.type_inv.job k)) c.requires.records_in_bounds.0 c.requires.records_in_bounds.3 c.requires.records_in_bounds.4 _ c.in_ok-counts.ensures.is.held c.in_ok-counts.ensures.only c.place_starts.ensures c.lay_out-places.ensures) _ _ c.in_ok-counts.ensures.is.taken _ (c.place_starts.ensures.only.long ∙ c.in_ok-counts.ensures.only.long) c.if-mode-ne0.true

pub gather-requires : goal.gather-requires
gather-requires c = (collected c.requires.records_in_bounds.1 c.requires.records_in_bounds.2 (λ k. omega (arith, c.type_inv.job k)) c.requires.records_in_bounds.0 c.requires.records_in_bounds.3 c.requires.records_in_bounds.4 _ c.in_ok-counts.ensures.is.held c.in_ok-counts.ensures.only c.place_starts.ensures c.lay_out-places.ensures).fit

pub returns-in_default : goal.returns-in_default
returns-in_default c = read-full (collected c.requires.records_in_bounds.1 c.requires.records_in_bounds.2 (λ k. omega (arith, c.type_inv.job k)) c.requires.records_in_bounds.0 c.requires.records_in_bounds.3 c.requires.records_in_bounds.4 _ c.in_ok-counts.ensures.is.held c.in_ok-counts.ensures.only c.place_starts.ensures c.lay_out-places.ensures) _ _ c.in_ok-counts.ensures.is.taken _ (c.place_starts.ensures.only.long ∙ c.in_ok-counts.ensures.only.long) c.gather.ensures c.if-mode-ne0.false c.in_default.is

pub returns : goal.returns
returns c = read-groups (collected c.requires.records_in_bounds.1 c.requires.records_in_bounds.2 (λ k. omega (arith, c.type_inv.job k)) c.requires.records_in_bounds.0 c.requires.records_in_bounds.3 c.requires.records_in_bounds.4 _ c.in_ok-counts.ensures.is.held c.in_ok-counts.ensures.only c.place_starts.ensures c.lay_out-places.ensures) _ _ c.in_ok-counts.ensures.is.taken _ (c.place_starts.ensures.only.long ∙ c.in_ok-counts.ensures.only.long) c.gather.ensures c.if-mode-ne0.false _ _ c.in-Some.is
