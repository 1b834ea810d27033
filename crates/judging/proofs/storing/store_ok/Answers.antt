use mathlib.Core.Path.{refl}
use Rattle.judging.proofs.StoringLaws.{marks-fit, looked}
use borrow.Author.Rules.{rules}
use Rattle.judging.proofs.storing.store_ok.Goals as goal

pub overflow_add-end : goal.overflow_add-end
overflow_add-end c = search rules

pub zero_part-requires : goal.zero_part-requires
zero_part-requires c = search rules

pub offset_bounds-work-at : goal.offset_bounds-work-at
offset_bounds-work-at c = search rules

pub slice_bounds-whole_ok-count : goal.slice_bounds-whole_ok-count
slice_bounds-whole_ok-count c = search rules

pub slice_bounds-whole_ok-start : goal.slice_bounds-whole_ok-start
slice_bounds-whole_ok-start c = search rules

pub slice_bounds-whole_ok-end : goal.slice_bounds-whole_ok-end
slice_bounds-whole_ok-end c = search rules

pub whole_ok-requires : goal.whole_ok-requires
whole_ok-requires c = marks-fit c.zero_part.ensures c.requires

pub shape_of-work : goal.shape_of-work
shape_of-work c = search rules

pub returns : goal.returns
returns c = looked c.zero_part.ensures c.requires c.args.store.now refl c.whole_ok.new.seen c.whole_ok.auto.seen _ c.whole_ok.ensures
