use Rattle.finishing.proofs.WordsLaws.{groups-to, origins-fit, long-named, handed-named, small-named, below-named, words-done}
use native.Mathlib.Omega.{arith}
use borrow.Author.Rules.{rules}
use Rattle.finishing.proofs.finishing.write_words.Goals as goal

pub copy_words-requires : goal.copy_words-requires
copy_words-requires c =
    let q = c.requires in
    let k = q.words_fit.packed in
    record { n_in_bounds = omega (arith, k.ids-to, k.finals-to, k.rows-to); n_in_bounds_2 = q.sets_in_bounds }

pub overflow_mul-e : goal.overflow_mul-e
overflow_mul-e c = let q = c.requires in omega (arith, q.words_fit.merges-few, q.words_fit.packed.groups-few)

pub copy_words-requires-2 : goal.copy_words-requires-2
copy_words-requires-2 c =
    let q = c.requires in
    let k = q.words_fit.packed in
    record { n_in_bounds = omega (arith, k.log-to, k.rows-to); n_in_bounds_2 = q.merges_in_bounds }

pub write_origins-requires : goal.write_origins-requires
write_origins-requires c =
    let q = c.requires in
    record { origins_fit = origins-fit q.words_fit; groups_in_bounds = q.groups_in_bounds }

pub name_rows-requires : goal.name_rows-requires
name_rows-requires c =
    let k = c.requires.words_fit.packed in
    record { n_bound = omega (arith, k.ids-to, k.finals-to); n_in_bounds = k.rows-to }

pub write_map-requires : goal.write_map-requires
write_map-requires c =
    let q = c.requires in
    let n = c.name_rows.ensures in
    record { count_le_max_shapes = q.words_fit.packed.finals-few; count_in_bounds = omega (arith, groups-to q.words_fit, long-named q.words_fit n); by_index = handed-named q.words_fit n; by_index_2 = small-named q.words_fit n; by_index_3 = λ g h. below-named q.words_fit n g h _ q.distinct_in_bounds }

pub shape_of-work : goal.shape_of-work
shape_of-work c = search rules

pub shape_of-ids : goal.shape_of-ids
shape_of-ids c = search rules

pub shape_of-map : goal.shape_of-map
shape_of-map c = search rules

pub shape_of-log : goal.shape_of-log
shape_of-log c = search rules

pub shape_of-origins : goal.shape_of-origins
shape_of-origins c = search rules

pub returns : goal.returns
returns c = words-done c.requires.words_fit c.name_rows.ensures c.copy_words.ensures c.copy_words-2.ensures c.write_origins.ensures c.write_map.ensures
