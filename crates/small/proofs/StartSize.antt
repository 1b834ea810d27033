-- The modelled size before merging, by the sets and their entries. Assumes nothing.
use mathlib.Core.Path.{◌≡◌, refl, sym, ap, ◌∙◌}
use mathlib.Core.List.{List, [], ◌∷◌, map}
use mathlib.Core.Logic.{⊎_elim, ◌≢◌}
use Prim.Native.Nat.{ℕ, zero, suc, ◌+◌, ◌*◌, ◌≤◌, ◌<◌}
use native.Mathlib.Nat.{mul-add}
use native.Mathlib.Omega.{arith}
use lib.Dec.{ltb}
use lib.ListN.{length}
use borrow.Author.Tests.{ne_eqb}
use Rattle.laws.specs.Every.{All}
use Rattle.laws.specs.Bag.{weigh}
use Rattle.laws.specs.Bounded.{tabulate}
use Rattle.laws.specs.Signed.{value, zero_word}
use Rattle.laws.proofs.Cases.{Which, which, same_or_not}
use Rattle.laws.proofs.Cases.Which.{holds, fails}
use Rattle.laws.proofs.BagLaws.{weigh-append, weigh-map}
use Rattle.shapes.specs.Width.{width_of, cost_of}
use Rattle.shapes.specs.Shape.{Shape, cost_of_row, columns, overhead}
use Rattle.shapes.specs.Lent.{column_of}
use Rattle.shapes.specs.Group.{Group, group_cost}
use Rattle.shapes.specs.Order.{order}
use Rattle.shapes.proofs.WidthLaws.{word_none, cost-most}
use Rattle.shapes.proofs.ShapeLaws.{columns-cons, column-most}
use Rattle.shapes.proofs.LentLaws.{column-none, column-some}
use Rattle.shapes.proofs.OrderLaws.{order-equal}
use Rattle.sets.specs.Set.{Set, word_of}
use Rattle.sets.specs.Ids.{place, with_set, distinct_from, distinct}
use Rattle.groups.specs.Groups.{shape_of, with_shape, groups_from, groups_of}
use Rattle.groups.proofs.GroupLaws.{Said, said, Long, shape-length, with-less, with-equal, with-more, with-long}
use Rattle.groups.proofs.GroupLaws.Said.{less, equal, greater}
use Rattle.rule.specs.Model.{number}

-- ---- the shape of a set has no more columns than the set has entries

-- two tables that differ at one place
module _ (f g : ℕ → ℕ) (j : ℕ) (same : (k : ℕ) → k ≢ j → f k ≡ g k) where
  behind : (n a : ℕ) → j < a → columns (tabulate a n f) ≡ columns (tabulate a n g)
  unfolding tabulate
  behind zero a l = refl
  behind (suc n) a l =
      columns-cons (f a) (tabulate (suc a) n f)
      ∙ omega (arith, columns-cons (g a) (tabulate (suc a) n g), ap column_of (same a (λ e. omega arith)), behind n (suc a) (omega arith))

  one_more : (n a : ℕ) → columns (tabulate a n f) ≤ columns (tabulate a n g) + 1
  unfolding tabulate
  one_more zero a = omega arith
  one_more (suc n) a = ⊎_elim
      (λ (e : a ≡ j). omega (
        arith,
        columns-cons (f a) (tabulate (suc a) n f),
        columns-cons (g a) (tabulate (suc a) n g),
        column-most (f a),
        behind n (suc a) (omega arith),
      ))
      (λ d. omega (
        arith,
        columns-cons (f a) (tabulate (suc a) n f),
        columns-cons (g a) (tabulate (suc a) n g),
        ap column_of (same a d),
        one_more n (suc a),
      ))
      (same_or_not a j)

-- what region k costs in the shape of a set
abbrev width_at : Set → ℕ → ℕ
width_at s k = cost_of (width_of (value (word_of s k)))

none-cost : (k : ℕ) → width_at [] k ≡ 0
unfolding word_of cost_of
none-cost k = ap cost_of (word_none zero_word refl)

none-columns : (n a : ℕ) → columns (tabulate a n (width_at [])) ≡ 0
unfolding tabulate
none-columns zero a = unfold columns in refl
none-columns (suc n) a =
    columns-cons (width_at [] a) (tabulate (suc a) n (width_at []))
    ∙ omega (arith, column-none (width_at [] a) (none-cost a), none-columns n (suc a))

other-same : (e : ℕ × ℕ) (s : Set) (k : ℕ) → k ≢ e.0 → width_at (e ∷ s) k ≡ width_at s k
unfolding word_of
other-same e s k d = rw (ne_eqb e.0 k (λ q. d (sym q)))

entry-columns : (n : ℕ) (s : Set) → columns (tabulate 0 n (width_at s)) ≤ length s
entry-columns n [] = omega (arith, none-columns n 0)
entry-columns n (e ∷ s) = omega (arith, one_more (width_at (e ∷ s)) (width_at s) e.0 (other-same e s) n 0, entry-columns n s)

width-column : (v : ℕ) → v ≤ 4 → v ≤ 4 * column_of v
width-column v h = ⊎_elim (λ (e : v ≡ 0). omega arith) (λ d. omega (arith, column-some v d)) (same_or_not v 0)

row-columns : (n a : ℕ) (f : ℕ → ℕ) → ((k : ℕ) → f k ≤ 4) → cost_of_row (tabulate a n f) ≤ 4 * columns (tabulate a n f)
unfolding tabulate cost_of_row
row-columns zero a f h = omega arith
row-columns (suc n) a f h = omega (arith, columns-cons (f a) (tabulate (suc a) n f), width-column (f a) (h a), row-columns n (suc a) f h)

-- ---- what a set costs alone

abbrev shape_cost : Shape → ℕ
shape_cost s = overhead s + cost_of_row s

set-cost : (regions : ℕ) (s : Set) → shape_cost (shape_of regions s) ≤ 10 + 6 * length s
unfolding shape_of overhead
set-cost regions s = omega (arith, entry-columns regions s, row-columns regions 0 (width_at s) (λ k. cost-most (width_of (value (word_of s k)))))

-- ---- groups cost no more than their sets alone

with-cost : (n : ℕ) (gs : List Group) (s : Shape) → length s ≡ n → All (Long n) gs → weigh group_cost (with_shape gs s) ≤ weigh group_cost gs + shape_cost s
unfolding weigh group_cost
with-cost n [] s l h = unfold with_shape in omega arith
with-cost n (g ∷ gs) s l h = go (with-cost n gs s l h.1) (said (order s g.shape))
  where
    go : weigh group_cost (with_shape gs s) ≤ weigh group_cost gs + shape_cost s → Said (order s g.shape)
        → weigh group_cost (with_shape (g ∷ gs) s) ≤ weigh group_cost (g ∷ gs) + shape_cost s
    go rec (less e) = rw (with-less g gs s e) (omega arith)
    go rec (equal e) = rw (with-equal g gs s e)
        (omega (arith, mul-add (cost_of_row g.shape) g.sets 1, ap cost_of_row (order-equal s g.shape (l ∙ sym h.0) e)))
    go rec (greater e) = rw (with-more g gs s e) (omega (arith, rec))

from-cost : (n : ℕ) (gs : List Group) (l : List Shape) → All (λ s. length s ≡ n) l → All (Long n) gs
    → weigh group_cost (groups_from gs l) ≤ weigh group_cost gs + weigh shape_cost l
unfolding groups_from weigh
from-cost n gs [] h k = omega arith
from-cost n gs (s ∷ l) h k = omega (arith, from-cost n (with_shape gs s) l h.1 (with-long n gs s h.0 k), with-cost n gs s h.0 k)

-- ---- each distinct set once

with-weigh : (φ : Set → ℕ) (known : List Set) (s : Set) → weigh φ (with_set known s) ≤ weigh φ known + φ s
unfolding with_set weigh
with-weigh φ known s = go (which (ltb (place s known) (length known)))
  where
    go : Which (ltb (place s known) (length known)) → weigh φ (with_set known s) ≤ weigh φ known + φ s
    go (holds h) = rw h (omega arith)
    go (fails h) = rw h (omega (arith, weigh-append φ known (s ∷ [])))

distinct-weigh : (φ : Set → ℕ) (known l : List Set) → weigh φ (distinct_from known l) ≤ weigh φ known + weigh φ l
unfolding distinct_from weigh
distinct-weigh φ known [] = omega arith
distinct-weigh φ known (s ∷ l) = omega (arith, distinct-weigh φ (with_set known s) l, with-weigh φ known s)

weigh-most : {A : Type 0} (φ ψ : A → ℕ) (l : List A) → ((x : A) → φ x ≤ ψ x) → weigh φ l ≤ weigh ψ l
unfolding weigh
weigh-most φ ψ [] h = omega arith
weigh-most φ ψ (x ∷ l) h = omega (arith, h x, weigh-most φ ψ l h)

abbrev pub entries_in : Set → ℕ
entries_in s = length s

ten-six : (l : List Set) → weigh (λ s. 10 + 6 * length s) l ≡ 10 * length l + 6 * weigh entries_in l
unfolding weigh
ten-six [] = refl
ten-six (s ∷ l) = omega (arith, ten-six l)

shapes-long : (regions : ℕ) (l : List Set) → All (λ s. length s ≡ regions) (map (shape_of regions) l)
shapes-long regions [] = tt
shapes-long regions (s ∷ l) = (shape-length regions s, shapes-long regions l)

pub start-cost : (regions : ℕ) (sets : List Set) → weigh group_cost (groups_of regions sets) ≤ 10 * length sets + 6 * weigh entries_in sets
unfolding groups_of weigh
start-cost regions sets =
    omega (
      arith,
      from-cost regions [] (map (shape_of regions) (distinct sets)) (shapes-long regions (distinct sets)) tt,
      weigh-map shape_cost (shape_of regions) (distinct sets),
      weigh-most (λ s. shape_cost (shape_of regions s)) (λ s. 10 + 6 * length s) (distinct sets) (set-cost regions),
      distinct-weigh (λ s. 10 + 6 * length s) [] sets,
      ten-six sets,
    )

pub number-cost : (k : ℕ) (xs : List Group) → weigh (λ g. group_cost g.group) (number k xs) ≡ weigh group_cost xs
unfolding number weigh
number-cost k [] = refl
number-cost k (x ∷ xs) = ap (◌+◌ (group_cost x)) (number-cost (suc k) xs)
