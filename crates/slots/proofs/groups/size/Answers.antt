use Rattle.slots.proofs.SlotLaws.{adding-start, adding-cost, adding-more, adding-done}
use Rattle.slots.proofs.TableLaws.{costs-small}
use native.Mathlib.Omega.{arith}
use Rattle.slots.proofs.groups.size.Goals as goal

pub loop-i-init : goal.loop-i-init
loop-i-init c = adding-start _ _

pub cost-total-requires : goal.cost-total-requires
cost-total-requires c = costs-small _ _ _ _ _ _ c.requires.sound (c.requires.dealt.within _ c.loop-i-test.true) c.costs-group.ensures

pub overflow_add-total : goal.overflow_add-total
overflow_add-total c =
    let s = costs-small _ _ _ _ _ _ c.requires.sound (c.requires.dealt.within _ c.loop-i-test.true) c.costs-group.ensures in
    let n = adding-cost _ _ _ s c.costs-group.ensures.sets-few in
    omega (arith, c.cost-total.ensures, c.loop-i.invariant.most, c.loop-i.invariant.within, c.requires.sound.shaped.laid.groups-few)

pub loop-i-preserved : goal.loop-i-preserved
loop-i-preserved c = adding-more _ _ _ _ _ _ _ _ c.requires.sound (c.requires.dealt.within _ c.loop-i-test.true) c.loop-i.invariant c.loop-i-test.true c.costs-group.ensures c.cost-total.ensures

pub returns : goal.returns
returns c = adding-done _ _ _ _ c.loop-i.invariant (omega arith)
