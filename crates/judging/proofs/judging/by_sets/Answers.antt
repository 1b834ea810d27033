use Rattle.judging.proofs.StageLaws.{wrong-store, sets-fit, wrong-set, right-store}
use native.Mathlib.Omega.{arith}
use Rattle.judging.proofs.judging.by_sets.Goals as goal

pub overflow_add-all : goal.overflow_add-all
overflow_add-all c = omega (arith, c.requires.fits.few)

pub overflow_mul-first : goal.overflow_mul-first
overflow_mul-first c = omega (arith, c.requires.fits.few)

pub overflow_add-first : goal.overflow_add-first
overflow_add-first c = omega (arith, c.requires.fits.few)

pub overflow_mul-first-2 : goal.overflow_mul-first-2
overflow_mul-first-2 c = omega (arith, c.requires.fits.few, c.requires.fits.most)

pub overflow_mul-first-3 : goal.overflow_mul-first-3
overflow_mul-first-3 c = omega (arith, c.requires.fits.few, c.requires.fits.most)

pub overflow_add-first-2 : goal.overflow_add-first-2
overflow_add-first-2 c = omega (arith, c.requires.fits.few)

pub overflow_add-first-3 : goal.overflow_add-first-3
overflow_add-first-3 c = omega (arith, c.requires.fits.few)

pub overflow_add-values : goal.overflow_add-values
overflow_add-values c = omega (arith, c.requires.fits.few)

pub all_first-requires : goal.all_first-requires
all_first-requires c = omega (arith, c.requires.fits.room)

pub returns-then-not-all_first : goal.returns-then-not-all_first
returns-then-not-all_first c = λ f. wrong-store f (λ k. omega (arith, c.type_inv.store k)) c.args.words.now c.all_first.ensures c.if-not-all_first.true-raw

pub set_out-requires : goal.set_out-requires
set_out-requires c = omega (arith, c.requires.room)

pub overflow_add-aims : goal.overflow_add-aims
overflow_add-aims c = omega (arith, c.requires.fits.few)

pub overflow_add-aims-2 : goal.overflow_add-aims-2
overflow_add-aims-2 c = omega (arith, c.requires.fits.few)

pub first_failing-k-requires : goal.first_failing-k-requires
first_failing-k-requires c = sets-fit c.requires (λ k. omega (arith, c.type_inv.store k)) c.args.words.now c.all_first.ensures c.if-not-all_first.false-raw _ c.set_out.ensures

pub returns-then-k-sets : goal.returns-then-k-sets
returns-then-k-sets c = λ f. wrong-set f (λ k. omega (arith, c.type_inv.store k)) c.args.words.now c.all_first.ensures c.if-not-all_first.false-raw _ c.set_out.ensures _ c.first_failing-k.ensures (omega arith)

pub returns : goal.returns
returns c = λ f. right-store f (λ k. omega (arith, c.type_inv.store k)) c.args.words.now c.all_first.ensures c.if-not-all_first.false-raw _ c.set_out.ensures _ c.first_failing-k.ensures (omega arith)
