-- What the clauses of private functions cite. Assumes nothing.
use Rattle.std.specs.Prelude.{List, [], ◌∷◌, ℕ, ◌-◌, ◌%◌, eqb}
use Rattle.laws.specs.Bounded.{tabulate}
use Rattle.said.specs.Refusals.{first_failed, region_unfinished}

-- the numbers from a up to b, without b
abbrev pub between : ℕ → ℕ → List ℕ
between a b = tabulate a (b - a) (λ k. k)

-- the bytes of an axis record, of a value record and of an end record that must be 0
abbrev pub axis_zeros : List ℕ
axis_zeros = 10 ∷ 11 ∷ []

abbrev pub value_zeros : List ℕ
value_zeros = 2 ∷ 8 ∷ 9 ∷ 10 ∷ 11 ∷ []

abbrev pub end_zeros : List ℕ
end_zeros = 1 ∷ 2 ∷ 3 ∷ 4 ∷ 5 ∷ 6 ∷ 7 ∷ 8 ∷ 9 ∷ 10 ∷ 11 ∷ []

-- R34 alone, of a value record or an end record behind so many axis records
abbrev pub part_refusal : ℕ → ℕ → ℕ
part_refusal axes before = first_failed ((eqb (before % axes) 0, region_unfinished) ∷ [])
