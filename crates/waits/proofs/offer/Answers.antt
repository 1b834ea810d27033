use native.Mathlib.Omega.{arith}
use Rattle.waits.proofs.WaitLaws.{offer-dead, offer-none, offer-one, offer-append}
use Rattle.waits.proofs.offer.Goals as goal

pub returns-in_default : goal.returns-in_default
returns-in_default c = offer-dead c.requires.lists c.requires.c_lt_k c.args.at.weighed c.in_default.ensures

pub returns-then-pair-eq0 : goal.returns-then-pair-eq0
returns-then-pair-eq0 c = offer-none c.requires.lists c.requires.c_lt_k c.in-Some.ensures.0 c.in-Some.ensures.1 c.args.at.weighed c.if-pair-eq0.true

pub append-waiting-requires : goal.append-waiting-requires
append-waiting-requires c = omega (arith, offer-one c.requires.lists c.requires.c_lt_k c.in-Some.ensures.0 c.in-Some.ensures.1)

pub returns : goal.returns
returns c = offer-append c.requires.lists c.requires.c_lt_k c.in-Some.ensures.0 c.in-Some.ensures.1 c.if-pair-eq0.false c.args.at.weighed _ _ c.requires.c_bound c.requires.groups_in_bounds c.append-waiting.ensures.0 c.append-waiting.ensures.1
