use Rattle.reasons.proofs.ReasonLaws.{groups-in, first_below, costs-in, why-same, why-apart}
use Rattle.reasons.proofs.reason.reason_of.Goals as goal

pub same_group-requires : goal.same_group-requires
same_group-requires c =
    let f = c.requires in
    (groups-in _ _ _ _ _ f).each _ (first_below _ _ _ _ _ f _ _ c.home_of-a.ensures c.home_of-b.ensures)

pub returns-then-a-b : goal.returns-then-a-b
returns-then-a-b c = λ k q. why-same _ _ _ _ _ c.requires _ _ c.home_of-a.ensures c.home_of-b.ensures k q _ c.if-a-b.true c.same_group.ensures

pub never_joined-requires : goal.never_joined-requires
never_joined-requires c = costs-in _ _ _ _ _ c.requires _ _ c.home_of-a.ensures c.home_of-b.ensures

pub returns : goal.returns
returns c = λ k q. why-apart _ _ _ _ _ c.requires _ _ c.home_of-a.ensures c.home_of-b.ensures k q _ c.if-a-b.false c.never_joined.ensures
