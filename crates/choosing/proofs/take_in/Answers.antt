use Rattle.std.proofs.Common.{ℕ, List, subst, IsPermutation}
use Rattle.std.proofs.lemmas.List.Sorted.{IsNonDecreasingBy-from_sort}
use Rattle.choosing.proofs.ChooseLaws.{taken}
use Rattle.choosing.proofs.take_in.Goals as goal

pub returns : goal.returns
returns c =
    let words = c.sort_unstable.new.self in
    taken _ _ words c.requires (subst (λ (l : List ℕ). IsPermutation l words) c.copy_slice.ensures c.sort_unstable.ensures.permutation)
    (IsNonDecreasingBy-from_sort (λ x. x) words c.sort_unstable.ensures.sorted)
