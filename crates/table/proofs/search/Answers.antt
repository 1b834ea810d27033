use mathlib.Core.Path.{sym, ◌∙◌}
use Prim.Native.Nat.{◌-◌, ◌+◌, ◌/◌}
use Rattle.table.proofs.TableSteps.{search-start, search-less, search-more, search-here, search-done}
use native.Mathlib.Omega.{arith}
use Rattle.table.proofs.search.Goals as goal

pub loop-lo-init : goal.loop-lo-init
loop-lo-init c = search-start c.requires.searchable

pub compare_slots-requires : goal.compare_slots-requires
compare_slots-requires c = record { slot_fits = c.requires.searchable.sought; cost_value = c.requires.cost_value; slot_fits_2 = (c.requires.searchable.slot (c.loop-lo.lo + (c.loop-lo.hi - c.loop-lo.lo) / 2) (omega arith)); costed = (c.requires.searchable.cost (c.loop-lo.lo + (c.loop-lo.hi - c.loop-lo.lo) / 2) (omega arith)) }

pub loop-lo-preserved-in-Less : goal.loop-lo-preserved-in-Less
loop-lo-preserved-in-Less c =
    search-less c.requires.searchable c.loop-lo.invariant (c.loop-lo.lo + (c.loop-lo.hi - c.loop-lo.lo) / 2) (omega arith) (omega arith)
    (sym c.compare_slots.ensures ∙ c.in-Less.is)

pub returns-in-Equal : goal.returns-in-Equal
returns-in-Equal c =
    search-here c.requires.searchable c.loop-lo.invariant (c.loop-lo.lo + (c.loop-lo.hi - c.loop-lo.lo) / 2) (omega arith) (omega arith)
    (sym c.compare_slots.ensures ∙ c.in-Equal.is)

pub loop-lo-preserved : goal.loop-lo-preserved
loop-lo-preserved c =
    search-more c.requires.searchable c.loop-lo.invariant (c.loop-lo.lo + (c.loop-lo.hi - c.loop-lo.lo) / 2) (omega arith) (omega arith)
    (sym c.compare_slots.ensures ∙ c.in-Greater.is)

pub returns : goal.returns
returns c = search-done c.requires.searchable c.loop-lo.invariant (omega arith)
