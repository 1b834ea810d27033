use Rattle.encoder.proofs.GatherLaws.{gather-ids, gather-group, gather-full, gather-groups}
use Rattle.encoder.proofs.sharing.gather.Goals as goal

pub identify-distinct-requires : goal.identify-distinct-requires
identify-distinct-requires c = gather-ids c.requires

pub group-requires : goal.group-requires
group-requires c = gather-group c.requires c.identify-distinct.ensures

pub returns-in_err-groups : goal.returns-in_err-groups
returns-in_err-groups c = rw c.from_residual.ensures (gather-full c.requires c.identify-distinct.ensures c.group.ensures c.in_err-groups.was)

pub returns : goal.returns
returns c = gather-groups c.requires c.identify-distinct.ensures c.group.ensures _ c.in_ok-groups.was
