-- A set of adjustments (RULES S3): no zeros, in rising order of region index.
use Rattle.std.specs.Prelude.{◌≡◌, Bool, true, false, ◌&&◌, List, [], ◌∷◌, ℕ, suc, ◌≤◌, ◌<◌, eqb}
use Rattle.laws.specs.Pick.{pick}
use Rattle.laws.specs.Signed.{zero_word}

-- entries of a region index and the word of its value (`value` of laws gives the signed number)
abbrev pub Set : Type 0
Set = List (ℕ × ℕ)

-- the word of region k: that of zero where the set does not name it
unfoldable pub word_of : Set → ℕ → ℕ
word_of [] k = zero_word
word_of (e ∷ s) k = pick (eqb e.0 k) e.1 (word_of s k)

-- the region indexes ascend strictly, from t on
abbrev pub Ascending : ℕ → Set → Type 0
Ascending t [] = Unit
Ascending t (e ∷ s) = (t ≤ e.0) × Ascending (suc e.0) s

-- no value is zero, and each region is one of so many
abbrev pub Proper : ℕ → Set → Type 0
Proper regions [] = Unit
Proper regions (e ∷ s) = ((e.1 ≡ zero_word → ⊥) × (e.0 < regions)) × Proper regions s

-- two sets are equal
unfoldable pub same_set : Set → Set → Bool
same_set [] [] = true
same_set [] (d ∷ t) = false
same_set (e ∷ s) [] = false
same_set (e ∷ s) (d ∷ t) = eqb e.0 d.0 && (eqb e.1 d.1 && same_set s t)
