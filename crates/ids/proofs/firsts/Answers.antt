use native.Mathlib.Omega.{arith}
use Rattle.ids.proofs.FirstSteps.{first-start, block_fit, block-done, first_done, new-stored}
use Rattle.ids.proofs.firsts.Goals as goal

pub loop-i-init : goal.loop-i-init
loop-i-init c = λ f. first-start f

pub block_end-j-requires : goal.block_end-j-requires
block_end-j-requires c =
    let p = c.requires in
    let g = c.loop-i.invariant p in
    record { n_in_bounds = omega (arith, g.only.long, p.at-to, p.room); by_index = new-stored p g; i_lt_n = omega arith }

pub firsts_block-requires : goal.firsts_block-requires
firsts_block-requires c = let p = c.requires in block_fit p (c.loop-i.invariant p) (omega (arith, c.block_end-j.ensures)) c.block_end-j.ensures.1

pub loop-i-smaller : goal.loop-i-smaller
loop-i-smaller c = omega (arith, c.block_end-j.ensures)

pub loop-i-preserved : goal.loop-i-preserved
loop-i-preserved c = λ f. block-done f (c.loop-i.invariant f) (omega (arith, c.block_end-j.ensures)) c.block_end-j.ensures.1 c.firsts_block.ensures

pub shape_of-work : goal.shape_of-work
shape_of-work c = (c.loop-i.invariant c.requires).only.long

pub returns : goal.returns
returns c = λ f. first_done f (c.loop-i.invariant f) (omega arith)
