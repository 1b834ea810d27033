use mathlib.Core.Path.{ap, ◌∙◌}
use Prim.Native.Nat.{ℕ, ◌+◌}
use Rattle.laws.specs.Bytes.{be}
use Rattle.giving.proofs.WordLaws.{head_of}
use Rattle.judging.proofs.CallLaws.{not-parsed, is-parsed, other-axes, sides-fit, sided, by-store-done}
use native.Mathlib.Omega.{arith}
use Rattle.judging.proofs.judging.by_store.Goals as goal

pub overflow_mul-records : goal.overflow_mul-records
overflow_mul-records c = omega (arith, c.requires.few)

pub store_ok-requires : goal.store_ok-requires
store_ok-requires c = omega (arith, c.requires.room)

pub returns-then-not-store_ok : goal.returns-then-not-store_ok
returns-then-not-store_ok c = λ f. not-parsed _ _ _ _ _ c.store_ok.ensures.is c.if-not-store_ok.true-raw

pub be-list-requires : goal.be-list-requires
be-list-requires c = record { k_bound = omega (arith, (head_of _ (is-parsed _ _ c.store_ok.ensures.is c.if-not-store_ok.false-raw)).head); k_in_bounds = omega (arith, (head_of _ (is-parsed _ _ c.store_ok.ensures.is c.if-not-store_ok.false-raw)).head) }

pub be-requires : goal.be-requires
be-requires c = record { k_bound = omega (arith, (head_of _ (is-parsed _ _ c.store_ok.ensures.is c.if-not-store_ok.false-raw)).list, c.be-list.ensures.is); k_in_bounds = omega (arith, (head_of _ (is-parsed _ _ c.store_ok.ensures.is c.if-not-store_ok.false-raw)).list, c.be-list.ensures.is) }

pub returns-then-be-axes : goal.returns-then-be-axes
returns-then-be-axes c = let s = c.args.store.now in λ f. other-axes _ (is-parsed _ _ c.store_ok.ensures.is c.if-not-store_ok.false-raw) _ _ _ _ (c.be.ensures.is ∙ ap (be 2 s) c.be-list.ensures.is) c.if-be-axes.true

pub overflow_add-t : goal.overflow_add-t
overflow_add-t c = omega (arith, c.be-list.ensures.below)

pub overflow_add-list : goal.overflow_add-list
overflow_add-list c = omega (arith, c.be-list.ensures.below)

pub be-requires-2 : goal.be-requires-2
be-requires-2 c = record { k_bound = omega (arith, (head_of _ (is-parsed _ _ c.store_ok.ensures.is c.if-not-store_ok.false-raw)).list, c.be-list.ensures.is); k_in_bounds = omega (arith, (head_of _ (is-parsed _ _ c.store_ok.ensures.is c.if-not-store_ok.false-raw)).list, c.be-list.ensures.is) }

pub overflow_mul-t : goal.overflow_mul-t
overflow_mul-t c = omega (arith, c.requires.few)

pub overflow_mul-t-2 : goal.overflow_mul-t-2
overflow_mul-t-2 c = omega (arith, c.requires.few)

pub match_regions-requires : goal.match_regions-requires
match_regions-requires c =
    let s = c.args.store.now in
    sides-fit c.requires (λ k. omega (arith, c.type_inv.store k)) _ _ c.store_ok.ensures (is-parsed _ _ c.store_ok.ensures.is c.if-not-store_ok.false-raw) _ c.be-list.ensures.is _ (c.be.ensures.is ∙ ap (be 2 s) c.be-list.ensures.is) c.if-be-axes.false _ (c.be-2.ensures.is ∙ ap (λ (k : ℕ). be 2 s (k + 2)) c.be-list.ensures.is)

pub by_sets-requires : goal.by_sets-requires
by_sets-requires c =
    let s = c.args.store.now in
    sided c.requires (λ k. omega (arith, c.type_inv.store k)) _ _ c.store_ok.ensures (is-parsed _ _ c.store_ok.ensures.is c.if-not-store_ok.false-raw) _ c.be-list.ensures.is _ (c.be.ensures.is ∙ ap (be 2 s) c.be-list.ensures.is) c.if-be-axes.false _ (c.be-2.ensures.is ∙ ap (λ (k : ℕ). be 2 s (k + 2)) c.be-list.ensures.is) _ c.match_regions.ensures

pub returns : goal.returns
returns c =
    let s = c.args.store.now in λ f.
    by-store-done f (λ k. omega (arith, c.type_inv.store k)) _ _ c.store_ok.ensures (is-parsed _ _ c.store_ok.ensures.is c.if-not-store_ok.false-raw) _ c.be-list.ensures.is _ (c.be.ensures.is ∙ ap (be 2 s) c.be-list.ensures.is) c.if-be-axes.false _ (c.be-2.ensures.is ∙ ap (λ (k : ℕ). be 2 s (k + 2)) c.be-list.ensures.is) _ c.match_regions.ensures _ _ c.by_sets.ensures
