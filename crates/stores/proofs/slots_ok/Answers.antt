use mathlib.Core.Path.{refl, ◌∙◌}
use native.Mathlib.Omega.{arith}
use Rattle.reader.proofs.StoreLaws.{header-fits}
use borrow.Author.Tests.{not-true, not-false}
use Rattle.stores.proofs.WholeLaws.{so-start, so-more, so-bad, so-done}
use Rattle.stores.proofs.slots_ok.Goals as goal

pub be-list-requires : goal.be-list-requires
be-list-requires c = record { k_bound = omega (arith, header-fits _ c.requires.s_value); k_in_bounds = omega (arith, header-fits _ c.requires.s_value) }

pub be-regions-requires : goal.be-regions-requires
be-regions-requires c = record { k_bound = omega (arith, header-fits _ c.requires.s_value); k_in_bounds = omega (arith, header-fits _ c.requires.s_value) }

pub be-n-requires : goal.be-n-requires
be-n-requires c = record { k_bound = omega (arith, header-fits _ c.requires.s_value); k_in_bounds = omega (arith, header-fits _ c.requires.s_value) }

pub loop-o-init : goal.loop-o-init
loop-o-init c = (so-start _ _, refl, c.requires.s_in_bounds.1)

pub be-at-requires : goal.be-at-requires
be-at-requires c = record { k_bound = omega (arith, header-fits _ c.requires.s_value, c.loop-o.invariant.0.within); k_in_bounds = omega (arith, header-fits _ c.requires.s_value, c.loop-o.invariant.0.within) }

pub returns-then-not-slot_once : goal.returns-then-not-slot_once
returns-then-not-slot_once c = so-bad _ _ _ _ c.loop-o.invariant.0 (omega arith) c.be-at.ensures.is _ c.slot_once.ensures.value c.be-n.ensures.is (not-true _ c.if-not-slot_once.true-raw)

pub loop-o-preserved : goal.loop-o-preserved
loop-o-preserved c = (so-more _ _ _ _ c.loop-o.invariant.0 (omega arith) c.be-at.ensures.is _ c.slot_once.ensures.value (not-false _ c.if-not-slot_once.false-raw), c.slot_once.auto.seen ∙ c.loop-o.invariant.1, c.slot_once.ensures.marked)

pub returns : goal.returns
returns c = so-done _ _ _ c.loop-o.invariant.0 c.be-n.ensures.is (omega arith)
