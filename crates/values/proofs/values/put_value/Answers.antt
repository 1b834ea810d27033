use mathlib.Core.Path.{◌∙◌}
use lib.ListN.{length-set}
use Rattle.values.proofs.HoldLaws.{uses-marked, zero-put, value-put}
use native.Mathlib.Omega.{arith}
use Rattle.values.proofs.values.put_value.Goals as goal

pub use_region-k-requires : goal.use_region-k-requires
use_region-k-requires c =
    let f = c.requires.value_fits in
    record { q_lt_regions = simp length-set (omega (arith, f.used-in, f.slot-to, f.stamp-to, f.first_to, f.few, f.regions-few, c.requires.q_lt_regions)); count_bound = omega (arith, f.used-in, f.slot-to, f.stamp-to, f.first_to, f.few, f.regions-few, c.requires.q_lt_regions) }

pub shape_of-work-then-v-eq-ZERO : goal.shape_of-work-then-v-eq-ZERO
shape_of-work-then-v-eq-ZERO c = c.use_region-k.ensures.use_kept.only.long ∙ simp length-set

pub returns-then-v-eq-ZERO : goal.returns-then-v-eq-ZERO
returns-then-v-eq-ZERO c =
    let a = c.args in
    let f = c.requires.value_fits in
    let g = c.grown in
    λ s sets m h. zero-put h f a.q a.v c.requires.q_lt_regions a.mark m _ c.use_region-k.result
    (c.use_region-k.ensures.by_index s.used h.uses-count (uses-marked h f a.q a.v c.requires.q_lt_regions a.mark m))
    g.result g.ensures.value g.ensures.value_2 c.if-v-eq-ZERO.true

pub put_entry-requires : goal.put_entry-requires
put_entry-requires c =
    let f = c.requires.value_fits in
    let o = c.use_region-k.ensures.use_kept.only in
    let l = o.long ∙ length-set c.args.work.now _ _ in
    omega (arith, f.body-in, f.used-in, f.slot-to, f.stamp-to, f.first_to)

pub shape_of-work : goal.shape_of-work
shape_of-work c = c.put_entry.ensures.only.long ∙ c.use_region-k.ensures.use_kept.only.long ∙ simp length-set

pub returns : goal.returns
returns c =
    let a = c.args in
    let f = c.requires.value_fits in
    let g = c.grown-2 in
    λ s sets m h. value-put h f a.q a.v c.requires.q_lt_regions a.mark m _ c.use_region-k.result
    (c.use_region-k.ensures.by_index s.used h.uses-count (uses-marked h f a.q a.v c.requires.q_lt_regions a.mark m))
    g.result g.ensures.value g.ensures.value_2 _ c.put_entry.ensures c.if-v-eq-ZERO.false
