-- A record of a job (RULES J1): 12 bytes, the highest byte of a number first, the kind in byte 0. This file alone knows
-- where in a record things stand, and where in a job a record does. Below, `r` are the bytes from a record's first one
-- on.
use Rattle.std.specs.Prelude.{Bool, ◌||◌, List, [], ◌∷◌, ℕ, ◌+◌, ◌*◌, ◌/◌, ◌%◌, get_or, drop, length, eqb}
use Rattle.laws.specs.Pick.{pick}
use Rattle.laws.specs.Bytes.{be}
use Rattle.laws.specs.Signed.{word, signed}
-- how many records and axes there may be
pub use Rattle.limits.specs.Limits.{most_records, most_axes}

abbrev pub record_bytes : ℕ
record_bytes = 12

-- ---- the records of a job

-- where record i begins, and so how long i records are
abbrev pub record_start : ℕ → ℕ
record_start i = record_bytes * i

-- the bytes from record i on
abbrev pub record_at : List ℕ → ℕ → List ℕ
record_at job i = drop (record_start i) job

-- where r are the bytes from a record on, those from the next one on
abbrev pub after_record : List ℕ → List ℕ
after_record r = drop record_bytes r

-- how many of so many bytes are left over where the rest are records; none is; how many records they are
abbrev pub spare_bytes : ℕ → ℕ
spare_bytes bytes = bytes % record_bytes

abbrev pub is_whole_records : ℕ → Bool
is_whole_records bytes = eqb (spare_bytes bytes) 0

abbrev pub whole_records_in : ℕ → ℕ
whole_records_in bytes = bytes / record_bytes

abbrev pub record_count : List ℕ → ℕ
record_count job = whole_records_in (length job)

-- the bytes of a region's axis records, one for each axis; where r are the bytes from a region on, those from the next one on
abbrev pub region_length : ℕ → ℕ
region_length axes = record_bytes * axes

abbrev pub after_region : ℕ → List ℕ → List ℕ
after_region axes r = drop (region_length axes) r

-- the bytes from region x on
abbrev pub region_from : ℕ → List ℕ → ℕ → List ℕ
region_from axes job x = drop (x * region_length axes) job

-- ---- one record

-- the kinds: 1 axis, 2 value, 3 end of set
abbrev pub kind : List ℕ → ℕ
kind r = get_or r 0 0

abbrev pub axis_kind : ℕ
axis_kind = 1

abbrev pub value_kind : ℕ
value_kind = 2

abbrev pub end_kind : ℕ
end_kind = 3

abbrev pub is_axis : List ℕ → Bool
is_axis r = eqb (kind r) axis_kind

abbrev pub is_value : List ℕ → Bool
is_value r = eqb (kind r) value_kind

abbrev pub is_end : List ℕ → Bool
is_end r = eqb (kind r) end_kind

abbrev pub is_known : List ℕ → Bool
is_known r = is_axis r || (is_value r || is_end r)

-- an axis record: region (its low byte in byte 1, its high byte in byte 3), axis, start, peak, end; its other bytes are 0
abbrev pub region_number : List ℕ → ℕ
region_number r = get_or r 3 0 * 256 + get_or r 1 0

abbrev pub axis_of : List ℕ → ℕ
axis_of r = get_or r 2 0

-- start, peak and end, each by the number that its 16 bits are
abbrev pub start_of : List ℕ → ℕ
start_of r = be 2 r 4

abbrev pub peak_of : List ℕ → ℕ
peak_of r = be 2 r 6

abbrev pub end_of : List ℕ → ℕ
end_of r = be 2 r 8

-- where the k-th coordinate of a region stands, from the region's first byte on: start, peak and end of each axis in turn
abbrev pub coord_place : ℕ → ℕ
coord_place k = record_bytes * (k / 3) + (4 + 2 * (k % 3))

-- where in a job the coordinates of region x start; from there on, where those of axis a do, and how many bytes these are
abbrev pub coordinates_start : ℕ → ℕ → ℕ
coordinates_start axes x = region_length axes * x + 4

abbrev pub axis_coordinates : ℕ → ℕ → ℕ
axis_coordinates from a = from + record_bytes * a

abbrev pub coords_long : ℕ
coords_long = 6

-- a value record: region and value; its other bytes are 0. The word of the value (`value` of laws gives the signed
-- number)
unfoldable pub value_as_word : List ℕ → ℕ
value_as_word r = word (signed 4 (be 4 r 4))

-- an end record: all bytes but the kind are 0

-- ---- the bytes that must be 0

-- of a record of this kind
unfoldable pub must_be_zero : ℕ → List ℕ
must_be_zero k =
    pick (eqb k axis_kind) (10 ∷ 11 ∷ [])
    (pick (eqb k value_kind) (2 ∷ 8 ∷ 9 ∷ 10 ∷ 11 ∷ [])
    (pick (eqb k end_kind) (1 ∷ 2 ∷ 3 ∷ 4 ∷ 5 ∷ 6 ∷ 7 ∷ 8 ∷ 9 ∷ 10 ∷ 11 ∷ []) []))

-- the first of these bytes that is not 0; 0 where all are
unfoldable pub first_not_zero : List ℕ → List ℕ → ℕ
first_not_zero r [] = 0
first_not_zero r (b ∷ l) = pick (eqb (get_or r b 0) 0) (first_not_zero r l) b

unfoldable pub first_wrong_byte : List ℕ → ℕ
first_wrong_byte r = first_not_zero r (must_be_zero (kind r))
