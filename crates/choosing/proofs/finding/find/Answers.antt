use Rattle.std.proofs.Common.{take, arith}
use Rattle.std.proofs.lemmas.List.Sorted.{searched}
use Rattle.choosing.proofs.FindLaws.{in-order, found, not-missed}
use Rattle.choosing.proofs.finding.find.Goals as goal

pub returns-in-Ok : goal.returns-in-Ok
returns-in-Ok c =
    let words = take c.args.k c.args.work.now in
    let s = searched words c.args.x _ c.binary_search.ensures.position (in-order c.requires.1 c.requires.0) in
    found c.requires.1 c.requires.0 (rw c.in-Ok.is at s) _ (omega arith)

pub returns-in-Err : goal.returns-in-Err
returns-in-Err c =
    let words = take c.args.k c.args.work.now in
    let s = searched words c.args.x _ c.binary_search.ensures.position (in-order c.requires.1 c.requires.0) in
    absurd (not-missed c.requires.1 c.requires.0 c.requires.2 (rw c.in-Err.is at s))
