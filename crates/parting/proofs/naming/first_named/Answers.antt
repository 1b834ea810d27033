use Rattle.said.specs.Records.{record_at, kind, value_kind}
use Rattle.records.proofs.KindLaws.{is_by, not_by}
use Rattle.parting.proofs.NamedLaws.{naming-start, naming-none, naming-other, region-room, naming-past, naming-here}
use mathlib.Core.Path.{refl}
use native.Mathlib.Omega.{arith}
use Rattle.parting.proofs.naming.first_named.Goals.{then-is_kind+else-work-first, else-is_kind}
use Rattle.parting.proofs.naming.first_named.Goals as goal

pub loop-i-init : goal.loop-i-init
loop-i-init c = naming-start

pub is_kind-requires : goal.is_kind-requires
is_kind-requires c = omega (arith, c.requires.whole)

pub region_at-p-requires : goal.region_at-p-requires
region_at-p-requires c = omega (arith, c.requires.whole)

pub overflow_add-first : goal.overflow_add-first
overflow_add-first c = omega (arith, region-room c.loop-i.invariant (omega arith) refl (is_by (kind (record_at c.args.job.now c.loop-i.i)) value_kind c.if-is_kind.ensures) c.region_at-p.ensures c.requires)

pub offset_bounds-work-first : goal.offset_bounds-work-first
offset_bounds-work-first c = omega (arith, region-room c.loop-i.invariant (omega arith) refl (is_by (kind (record_at c.args.job.now c.loop-i.i)) value_kind c.if-is_kind.ensures) c.region_at-p.ensures c.requires)

pub bounds-work-first : goal.bounds-work-first
bounds-work-first c = omega (arith, region-room c.loop-i.invariant (omega arith) refl (is_by (kind (record_at c.args.job.now c.loop-i.i)) value_kind c.if-is_kind.ensures) c.region_at-p.ensures c.requires)

pub returns-then-work-first : goal.returns-then-work-first
returns-then-work-first c = naming-here c.loop-i.invariant (omega arith) refl (is_by (kind (record_at c.args.job.now c.loop-i.i)) value_kind c.if-is_kind.ensures) c.region_at-p.ensures c.if-work-first.true

pub loop-i-preserved : goal.loop-i-preserved
loop-i-preserved c =
    elim c.if-is_kind.branch [
      | then-is_kind+else-work-first w ↦ naming-past c.loop-i.invariant (omega arith) refl (is_by (kind (record_at c.args.job.now c.loop-i.i)) value_kind w.if-is_kind.ensures) w.region_at-p.ensures w.if-work-first.false
      | else-is_kind w ↦ naming-other c.loop-i.invariant (omega arith) refl (not_by (kind (record_at c.args.job.now c.loop-i.i)) value_kind w.if-is_kind.ensures)
    ]

pub returns : goal.returns
returns c = naming-none c.loop-i.invariant (omega arith)
