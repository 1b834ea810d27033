use Rattle.finishing.proofs.LoopLaws.{naming-start, naming-done}
use native.Mathlib.Omega.{arith}
use Rattle.finishing.proofs.finishing.name_rows.Goals as goal

pub loop-q-init : goal.loop-q-init
loop-q-init c = naming-start _ _ _ _

pub bounds-work-rows : goal.bounds-work-rows
bounds-work-rows c = let l = c.loop-q.invariant.long in omega arith

pub bounds-work-ids : goal.bounds-work-ids
bounds-work-ids c = let l = c.loop-q.invariant.long in omega arith

pub bounds-work-rows-then-x-n : goal.bounds-work-rows-then-x-n
bounds-work-rows-then-x-n c = let l = c.loop-q.invariant.long in omega arith

pub returns : goal.returns
returns c = naming-done c.loop-q.invariant (omega arith) (omega arith)
