-- The order of sets, and where two of them part (RULES F1): by their values from region 0 up, zero where a set has none.
-- Words are ordered as the values are (`word-order` of laws).
use Rattle.std.specs.Prelude.{◌≡◌, [], ◌∷◌, ℕ, ◌≤◌, ◌<◌, ltb}
use Rattle.std.specs.declared.cmp.Ordering.{Ordering}
use Rattle.std.specs.declared.cmp.Ordering.TheVariants.{Less, Equal, Greater}
use Rattle.laws.specs.Pick.{pick}
use Rattle.laws.specs.Signed.{zero_word}
use Rattle.sets.specs.declared.Parting.{Parting}
use Rattle.sets.specs.declared.Parting.TheVariants as parts
use Rattle.sets.specs.Set.{Set}

-- what `o` says of two functions of the regions, from region t on: they agree everywhere, or at the first region where they differ the one is smaller
pub data Compared (t : ℕ) (f g : ℕ → ℕ) : Ordering → Type 0 where
  less : (r : ℕ) → t ≤ r → ((k : ℕ) → t ≤ k → k < r → f k ≡ g k) → f r < g r → Compared t f g Less
  equal : ((k : ℕ) → t ≤ k → f k ≡ g k) → Compared t f g Equal
  greater : (r : ℕ) → t ≤ r → ((k : ℕ) → t ≤ k → k < r → f k ≡ g k) → g r < f r → Compared t f g Greater

-- the same with the region and both words in it: r is the first region where the functions differ, and v and u are what they have there
pub record DifferAt (t : ℕ) (f g : ℕ → ℕ) (r v u : ℕ) : Type 0 where
  pub from : t ≤ r
  pub agree : (k : ℕ) → t ≤ k → k < r → f k ≡ g k
  pub left : v ≡ f r
  pub right : u ≡ g r

pub data PartsAt (t : ℕ) (f g : ℕ → ℕ) : Parting → Type 0 where
  alike : ((k : ℕ) → t ≤ k → f k ≡ g k) → PartsAt t f g parts.Equal
  smaller : (r v u : ℕ) → DifferAt t f g r v u → v < u → PartsAt t f g (parts.Smaller r v u)
  larger : (r v u : ℕ) → DifferAt t f g r v u → u < v → PartsAt t f g (parts.Larger r v u)

-- by the two words of a region, and where they are equal as `rest` says
unfoldable pub by_words : (region v u : ℕ) → Parting → Parting
by_words r v u rest = pick (ltb v u) (parts.Smaller r v u) (pick (ltb u v) (parts.Larger r v u) rest)

-- the empty set and b
unfoldable pub part_none : Set → Parting
part_none [] = parts.Equal
part_none (e ∷ b) = by_words e.0 zero_word e.1 (part_none b)

-- a set of head e and of a tail that parts from each set as `rest` says, and b
unfoldable pub part_head : ℕ × ℕ → (Set → Parting) → Set → Parting
part_head e rest [] = by_words e.0 e.1 zero_word (rest [])
part_head e rest (d ∷ b) =
    pick (ltb e.0 d.0) (by_words e.0 e.1 zero_word (rest (d ∷ b)))
    (pick (ltb d.0 e.0) (by_words d.0 zero_word d.1 (part_head e rest b)) (by_words e.0 e.1 d.1 (rest b)))

-- where two sets part, by a walk along both
unfoldable pub parting : Set → Set → Parting
parting [] b = part_none b
parting (e ∷ a) b = part_head e (parting a) b

-- what that says of their order
unfoldable pub order_of : Parting → Ordering
order_of parts.Equal = Equal
order_of (parts.Smaller r v u) = Less
order_of (parts.Larger r v u) = Greater

-- the order of two sets
unfoldable pub order : Set → Set → Ordering
order a b = order_of (parting a b)
