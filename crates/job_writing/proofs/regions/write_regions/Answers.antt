use native.Mathlib.Omega.{arith}
use Rattle.reader.proofs.StoreLaws.{header-fits}
use Rattle.job_writing.proofs.PieceLaws.{piece-put, piece-done, from_zero}
use Rattle.job_writing.proofs.RegionLaws.{region-start, region-in, region-next, regions-step, regions-room, regions-end, head_of, head-inside, regions-put, axes-low}
use Rattle.job_writing.proofs.regions.write_regions.Goals as goal

pub be-list-requires : goal.be-list-requires
be-list-requires c =
    let f = header-fits _ c.requires.s_value.0 in
    record { k_bound = omega arith; k_in_bounds = omega (arith, f.head) }

pub be-axes-requires : goal.be-axes-requires
be-axes-requires c =
    let f = header-fits _ c.requires.s_value.0 in
    record { k_bound = omega arith; k_in_bounds = omega (arith, f.list, c.be-list.ensures.is) }

pub be-n-requires : goal.be-n-requires
be-n-requires c =
    let f = header-fits _ c.requires.s_value.0 in
    record { k_bound = omega arith; k_in_bounds = omega (arith, f.list, c.be-list.ensures.is) }

pub loop-q-init : goal.loop-q-init
loop-q-init c =
    let h = head_of _ _ _ _ c.be-list.ensures.is c.be-axes.ensures.is c.be-n.ensures.is in
    let ok = c.requires.s_value.0 in
    (region-start c.args.s.now _ _ _ (head-inside _ ok _ _ _ h), regions-put _ ok _ _ _ h _)

pub write_axes-p-requires : goal.write_axes-p-requires
write_axes-p-requires c =
    let h = head_of _ _ _ _ c.be-list.ensures.is c.be-axes.ensures.is c.be-n.ensures.is in
    let ok = c.requires.s_value.0 in
    let i = c.loop-q.invariant in
    let t = c.loop-q-test.true in
    let few = c.be-n.ensures.below in
    record { record_fits = (omega arith, axes-low _ ok _ _ _ h c.requires.s_value.1, region-in c.args.s.now _ _ _ (head-inside _ ok _ _ _ h) _ _ i.0 t); s_in_bounds = regions-room _ _ _ _ (head-inside _ ok _ _ _ h) _ _ i.0 t (from_zero c.requires.s_in_bounds) i.1 }

pub loop-q-preserved : goal.loop-q-preserved
loop-q-preserved c =
    let h = head_of _ _ _ _ c.be-list.ensures.is c.be-axes.ensures.is c.be-n.ensures.is in
    let ok = c.requires.s_value.0 in
    let i = c.loop-q.invariant in
    let t = c.loop-q-test.true in (
      region-next c.args.s.now _ _ _ (head-inside _ ok _ _ _ h) _ _ i.0 t,
      piece-put _ _ (from_zero c.requires.s_in_bounds) i.1 (regions-step _ _ _ _ (head-inside _ ok _ _ _ h) _ _ i.0 t) c.write_axes-p.ensures,
    )

pub returns : goal.returns
returns c =
    let h = head_of _ _ _ _ c.be-list.ensures.is c.be-axes.ensures.is c.be-n.ensures.is in
    let ok = c.requires.s_value.0 in
    piece-done c.loop-q.invariant.1 (regions-end _ _ _ _ (head-inside _ ok _ _ _ h) _ (omega arith))
