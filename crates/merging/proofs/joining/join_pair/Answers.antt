use Rattle.merging.proofs.JoinLaws.{join-pair-asks, pair-joined}
use Rattle.merging.proofs.joining.join_pair.Goals as goal

pub join_slots-requires-clause-b_bound : goal.join_slots-requires-clause-b_bound
join_slots-requires-clause-b_bound c = (join-pair-asks _ _ _ _ c.requires).1.1.1.1

pub returns : goal.returns
returns c = pair-joined _ _ _ _ _ _ _ c.requires c.join_slots.ensures c.retire.ensures c.note.ensures
