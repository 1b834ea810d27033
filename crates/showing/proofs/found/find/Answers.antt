use mathlib.Core.Path.{refl, ap}
use Rattle.finishing.specs.Answers.{built}
use Rattle.showing.proofs.FoundLaws.{found-id}
use Rattle.showing.proofs.found.find.Goals as goal

pub part_asked-requires : goal.part_asked-requires
part_asked-requires c =
    let a = c.args in
    found-id (built a.answer) a.job.now a.store.now a.out.now a.ids.now a.map.now a.id a.what c.in_ok-done.done (ap built c.in_ok-done.was) 0 c.in_ok-check_asked.ensures c.requires refl
