use Rattle.finishing.proofs.FinishLaws.{ready}
use borrow.Author.Rules.{rules}
use Rattle.finishing.proofs.finishing.write_out.Goals as goal

pub write_store-requires : goal.write_store-requires
write_store-requires c =
    let q = c.requires in
    record { regions_in_bounds = q.regions_in_bounds; ready = ready q.finish_fit; planned = q.planned; work_in_bounds = q.work_in_bounds }

pub shape_of-out : goal.shape_of-out
shape_of-out c = search rules

pub shape_of-work : goal.shape_of-work
shape_of-work c = search rules

pub returns : goal.returns
returns c = record { out_after = c.write_store.ensures.put.is; only = c.write_store.ensures.only }
