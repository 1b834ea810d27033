use Rattle.std.proofs.Common.{arith, rules, ◌≡◌, replicate}
use Rattle.shaping.proofs.CoverSteps.{fit-zeroed, covered, filled}
use Rattle.shaping.proofs.covering.cover.Goals as goal

pub join_each-requires : goal.join_each-requires
join_each-requires c =
    let z : c.fill.new.self ≡ replicate c.args.regions 0 = search rules in
    fit-zeroed c.requires (filled c.args.at c.args.regions c.args.work.now c.fill.new.self (omega (arith, c.requires.at-to, c.requires.room)) z)

pub returns : goal.returns
returns c =
    let z : c.fill.new.self ≡ replicate c.args.regions 0 = search rules in
    covered c.requires (filled c.args.at c.args.regions c.args.work.now c.fill.new.self (omega (arith, c.requires.at-to, c.requires.room)) z) c.join_each.ensures
