use native.Mathlib.Omega.{arith}
use Rattle.ids.proofs.IdentifySteps.{sort-fit, firsts-fit, firsts-done, first-room, first-most, room-first, room-ids, ids-apart, first-few, identified}
use borrow.Author.Rules.{rules}
use Rattle.ids.proofs.identify.Goals as goal

pub screen-m-requires : goal.screen-m-requires
screen-m-requires c = search rules

pub sort_kept-requires : goal.sort_kept-requires
sort_kept-requires c = sort-fit c.requires c.screen-m.ensures

pub firsts-requires : goal.firsts-requires
firsts-requires c = firsts-fit c.requires c.screen-m.ensures c.sort_kept.ensures

pub resolve-requires : goal.resolve-requires
resolve-requires c = record { n_in_bounds = first-room c.requires c.screen-m.ensures c.sort_kept.ensures (firsts-done c.requires c.screen-m.ensures c.sort_kept.ensures c.firsts.ensures); by_index = first-most c.requires c.screen-m.ensures c.sort_kept.ensures (firsts-done c.requires c.screen-m.ensures c.sort_kept.ensures c.firsts.ensures) }

pub give_ids-requires : goal.give_ids-requires
give_ids-requires c = record { n_in_bounds = (room-first c.requires c.screen-m.ensures c.sort_kept.ensures (firsts-done c.requires c.screen-m.ensures c.sort_kept.ensures c.firsts.ensures) c.resolve.ensures, room-ids c.requires c.screen-m.ensures c.sort_kept.ensures (firsts-done c.requires c.screen-m.ensures c.sort_kept.ensures c.firsts.ensures) c.resolve.ensures); apart = ids-apart c.requires c.screen-m.ensures c.sort_kept.ensures (firsts-done c.requires c.screen-m.ensures c.sort_kept.ensures c.firsts.ensures) c.resolve.ensures; n_bound = omega (arith, c.requires.few); by_index = first-few c.requires c.screen-m.ensures c.sort_kept.ensures (firsts-done c.requires c.screen-m.ensures c.sort_kept.ensures c.firsts.ensures) c.resolve.ensures }

pub shape_of-work : goal.shape_of-work
shape_of-work c = (identified c.requires c.screen-m.ensures c.sort_kept.ensures (firsts-done c.requires c.screen-m.ensures c.sort_kept.ensures c.firsts.ensures) c.resolve.ensures c.give_ids.ensures).only.long

pub returns : goal.returns
returns c = identified c.requires c.screen-m.ensures c.sort_kept.ensures (firsts-done c.requires c.screen-m.ensures c.sort_kept.ensures c.firsts.ensures) c.resolve.ensures c.give_ids.ensures
