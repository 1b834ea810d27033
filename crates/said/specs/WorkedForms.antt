-- Single records, computed: R30 to R34, each from both sides, and the byte that is named.
use Rattle.std.specs.Prelude.{Bool, true, false, List, [], ◌∷◌, ◌≡◌, refl, ℕ, set}
use Rattle.said.specs.Records.{must_be_zero, first_not_zero, first_wrong_byte}
use Rattle.said.specs.Refusals.{first_failed, in_turn, form_refusal, byte_of}

abbrev axis_record : ℕ → ℕ → List ℕ
axis_record region axis = 1 ∷ region ∷ axis ∷ 0 ∷ 192 ∷ 0 ∷ 64 ∷ 1 ∷ 64 ∷ 2 ∷ 0 ∷ 0 ∷ []

abbrev value_record : List ℕ
value_record = 2 ∷ 7 ∷ 0 ∷ 0 ∷ 1 ∷ 2 ∷ 3 ∷ 4 ∷ 0 ∷ 0 ∷ 0 ∷ 0 ∷ []

abbrev end_record : List ℕ
end_record = 3 ∷ 0 ∷ 0 ∷ 0 ∷ 0 ∷ 0 ∷ 0 ∷ 0 ∷ 0 ∷ 0 ∷ 0 ∷ 0 ∷ []

-- the refusal of a record, and the byte: two axes, so many axis records before it
told : (before : ℕ) (late : Bool) → List ℕ → ℕ × ℕ
told before late r = (form_refusal 2 before late r, byte_of (form_refusal 2 before late r) r)

-- the first record, or one after the axis records of two regions and a value
abbrev first : List ℕ → ℕ × ℕ
first r = told 0 false r

abbrev later : List ℕ → ℕ × ℕ
later r = told 4 true r

abbrev fine : ℕ × ℕ
fine = (0, 0)

-- kinds 0 to 4
kinds : first (set end_record 0 0) ∷ first (axis_record 0 0) ∷ first value_record ∷ first end_record ∷ first (set end_record 0 4) ∷ []
    ≡ (30, 0) ∷ fine ∷ fine ∷ fine ∷ (30, 0) ∷ []
unfolding told form_refusal byte_of in_turn first_failed first_wrong_byte first_not_zero must_be_zero
kinds = refl

-- each byte that must be 0, alone; and the first of two
zeros : first (set (axis_record 0 0) 10 1) ∷ first (set (axis_record 0 0) 11 255)
    ∷ first (set value_record 2 1) ∷ first (set value_record 8 1) ∷ first (set value_record 9 1)
    ∷ first (set value_record 10 1) ∷ first (set value_record 11 255)
    ∷ first (set end_record 1 1) ∷ first (set end_record 2 1) ∷ first (set end_record 3 1) ∷ first (set end_record 4 1) ∷ first (set end_record 5 1)
    ∷ first (set end_record 6 1) ∷ first (set end_record 7 1) ∷ first (set end_record 8 1) ∷ first (set end_record 9 1)
    ∷ first (set end_record 10 1) ∷ first (set end_record 11 255)
    ∷ first (set (set value_record 11 1) 8 1) ∷ first (set (set end_record 11 1) 10 1) ∷ []
    ≡ (31, 10) ∷ (31, 11)
    ∷ (31, 2) ∷ (31, 8) ∷ (31, 9) ∷ (31, 10) ∷ (31, 11)
    ∷ (31, 1) ∷ (31, 2) ∷ (31, 3) ∷ (31, 4) ∷ (31, 5) ∷ (31, 6) ∷ (31, 7) ∷ (31, 8) ∷ (31, 9) ∷ (31, 10) ∷ (31, 11)
    ∷ (31, 8) ∷ (31, 10) ∷ []
unfolding told form_refusal byte_of in_turn first_failed first_wrong_byte first_not_zero must_be_zero
zeros = refl

-- Byte 3 is the region's high byte, of an axis record and of a value record. Regions 256 and 32,766, the last; behind it none is next
high : first (set (axis_record 0 0) 3 1) ∷ first (set value_record 3 1) ∷ first (set value_record 3 255)
    ∷ told 512 false (set (axis_record 0 0) 3 1) ∷ told 512 false (axis_record 0 0)
    ∷ told 65532 false (set (axis_record 254 0) 3 127) ∷ told 65534 false (set (axis_record 255 0) 3 127) ∷ []
    ≡ (32, 0) ∷ fine ∷ fine
    ∷ fine ∷ (32, 0)
    ∷ fine ∷ (32, 0) ∷ []
unfolding told form_refusal byte_of in_turn first_failed first_wrong_byte first_not_zero must_be_zero
high = refl

-- The turn: region 1, axis 1 is the fourth. By its region and by its axis; too late, the next one and others
turns : told 3 false (axis_record 1 1) ∷ told 3 false (axis_record 0 1) ∷ told 3 false (axis_record 1 0) ∷ told 3 false (axis_record 2 1)
    ∷ later (axis_record 2 0) ∷ later (axis_record 1 0) ∷ later (axis_record 3 0) ∷ later (axis_record 2 1) ∷ later (axis_record 0 0) ∷ []
    ≡ fine ∷ (32, 0) ∷ (32, 0) ∷ (32, 0)
    ∷ (33, 0) ∷ (32, 0) ∷ (32, 0) ∷ (32, 0) ∷ (32, 0) ∷ []
unfolding told form_refusal byte_of in_turn first_failed first_wrong_byte first_not_zero must_be_zero
turns = refl

-- values and ends, between regions and inside one
parts : told 2 false value_record ∷ told 2 false end_record ∷ told 3 false value_record ∷ told 3 false end_record ∷ later value_record ∷ later end_record ∷ []
    ≡ fine ∷ fine ∷ (34, 0) ∷ (34, 0) ∷ fine ∷ fine ∷ []
unfolding told form_refusal byte_of in_turn first_failed first_wrong_byte first_not_zero must_be_zero
parts = refl

-- Several at once: a byte before the turn, late or not; a byte and an unknown kind before a region that is unfinished
several : later (set (axis_record 9 1) 10 1) ∷ later (set (axis_record 2 0) 11 1) ∷ first (set (axis_record 1 0) 10 1)
    ∷ told 3 false (set value_record 9 1) ∷ told 3 false (set end_record 11 1) ∷ told 3 false (set value_record 0 4) ∷ told 3 false (set (set value_record 0 0) 2 1) ∷ []
    ≡ (31, 10) ∷ (31, 11) ∷ (31, 10)
    ∷ (31, 9) ∷ (31, 11) ∷ (30, 0) ∷ (30, 0) ∷ []
unfolding told form_refusal byte_of in_turn first_failed first_wrong_byte first_not_zero must_be_zero
several = refl
