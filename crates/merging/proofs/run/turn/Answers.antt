use native.Mathlib.Omega.{arith}
use Rattle.pairs.proofs.Marks.{marked-first, marked-second, one-unmarked}
use Rattle.merging.proofs.RunLaws.{turn-room, turn-ordered, turn-known, turned-dead, turn-joinable, turn-gain, turn-asked, turn_more, turned-joined}
use Rattle.merging.proofs.run.turn.Goals as goal

pub take-p-requires : goal.take-p-requires
take-p-requires c = (omega (arith, turn-room c.requires.some_standing), c.requires.waiting_nonzero, turn-ordered c.requires.some_standing)

pub marked-requires : goal.marked-requires
marked-requires c = turn-known c.requires.some_standing c.take-p.ensures

pub join-joined-requires-clause-joinable : goal.join-joined-requires-clause-joinable
join-joined-requires-clause-joinable c = turn-joinable c.requires.some_standing c.take-p.ensures (marked-first _ _ _ c.if-marked.ensures tt) (marked-second _ _ _ c.if-marked.ensures tt)

pub join-joined-requires-clause-gain_le_size : goal.join-joined-requires-clause-gain_le_size
join-joined-requires-clause-gain_le_size c = turn-gain c.requires.some_standing c.take-p.ensures (marked-first _ _ _ c.if-marked.ensures tt) (marked-second _ _ _ c.if-marked.ensures tt)

pub offer_all-after-requires-clause-asked : goal.offer_all-after-requires-clause-asked
offer_all-after-requires-clause-asked c = turn-asked c.requires.some_standing c.take-p.ensures (marked-first _ _ _ c.if-marked.ensures tt) (marked-second _ _ _ c.if-marked.ensures tt) c.join-joined.ensures

pub offer_all-after-requires-clause-k_bound : goal.offer_all-after-requires-clause-k_bound
offer_all-after-requires-clause-k_bound c = (turn_more c.requires.some_standing c.take-p.ensures (marked-first _ _ _ c.if-marked.ensures tt) (marked-second _ _ _ c.if-marked.ensures tt) c.join-joined.ensures).0

pub offer_all-after-requires-clause-k_bound_2 : goal.offer_all-after-requires-clause-k_bound_2
offer_all-after-requires-clause-k_bound_2 c = (turn_more c.requires.some_standing c.take-p.ensures (marked-first _ _ _ c.if-marked.ensures tt) (marked-second _ _ _ c.if-marked.ensures tt) c.join-joined.ensures).1

pub returns-then-marked : goal.returns-then-marked
returns-then-marked c = turned-joined c.requires.some_standing c.take-p.ensures (marked-first _ _ _ c.if-marked.ensures tt) (marked-second _ _ _ c.if-marked.ensures tt) c.join-joined.ensures c.offer_all-after.ensures

pub returns : goal.returns
returns c = turned-dead c.requires.some_standing c.take-p.ensures (one-unmarked _ _ _ c.marked.ensures c.if-marked.false)
