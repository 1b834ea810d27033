-- What the bytes of an item variation store mean: the value of one region in one row. Written from OpenType's chapter
-- on common table formats for font variations, and in the order of tests of RULES V1 to V6. Nothing here knows how a
-- store is written.
use Rattle.std.specs.Prelude.{◌≡◌, Bool, true, false, not, ◌&&◌, List, [], ◌∷◌, ℕ, zero, suc, ◌+◌, ◌-◌, ◌*◌, ◌%◌, ◌^◌, ◌<◌, ltb, leb, eqb, ℤ, pos, length, Option, Some, None, Result, Ok, Err}
use Rattle.laws.specs.Pick.{pick}
use Rattle.laws.specs.Bytes.{be}
use Rattle.laws.specs.Signed.{signed}
use Rattle.reader.specs.declared.column.Column.{Column}
use Rattle.reader.specs.declared.column.Column.TheVariants.{At, Missing}
use Rattle.reader.specs.declared.reader.ReadError.{ReadError}
use Rattle.reader.specs.declared.reader.ReadError.TheVariants.{BadStore, NoRow, NoRegion, BadGlyphMap, BadWidths}

-- the n numbers of two bytes from at on
unfoldable pub words : List ℕ → ℕ → ℕ → List ℕ
words s at zero = []
words s at (suc n) = be 2 s at ∷ words s (at + 2) n

-- Header: format, region list offset, subtable count, subtable offsets. Region list: axis count, region count, six bytes an axis of each
-- region (start, peak, end).
abbrev pub list_at : List ℕ → ℕ
list_at s = be 4 s 2

abbrev pub axis_count : List ℕ → ℕ
axis_count s = be 2 s (list_at s)

abbrev pub region_count : List ℕ → ℕ
region_count s = be 2 s (list_at s + 2)

-- V1: header and list lie inside, the format is 1, and there is a list
unfoldable pub is_header_ok : List ℕ → Bool
is_header_ok s =
    leb 8 (length s) &&
    (eqb (be 2 s 0) 1 &&
    (not (eqb (list_at s) 0) &&
    (leb (8 + 4 * be 2 s 6) (length s) &&
    (leb (list_at s + 4) (length s) && leb (list_at s + 4 + 6 * axis_count s * region_count s) (length s)))))

-- the first place at which x stands in the list, counted from j
unfoldable pub find : ℕ → ℕ → List ℕ → Column
find x j [] = Missing
find x j (y ∷ ys) = pick (eqb y x) (At j) (find x (j + 1) ys)

abbrev pub absent : Column → Bool
absent (At j) = false
absent Missing = true

-- V4: each region number is one of the list's, and none occurs twice
unfoldable pub are_columns_ok : ℕ → List ℕ → Bool
are_columns_ok regions [] = true
are_columns_ok regions (x ∷ xs) = ltb x regions && (absent (find x 0 xs) && are_columns_ok regions xs)

-- The word count: its low 15 bits say how many columns, the first ones, are of full word width. Its high bit says that a full word is 4 bytes
-- and any other column 2; without it they are 2 and 1.
abbrev pub full_columns : ℕ → ℕ
full_columns word = word % 32768

abbrev pub lay : ℕ → ℕ → ℕ → ℕ → ℕ
lay wide narrow w j = pick (ltb j w) (wide * j) (wide * w + narrow * (j - w))

-- how many bytes of a row stand before column j; a row of n columns has `column_start word n` bytes
unfoldable pub column_start : ℕ → ℕ → ℕ
column_start word j = pick (ltb word 32768) (lay 2 1 (full_columns word) j) (lay 4 2 (full_columns word) j)

-- how many bytes column j has
unfoldable pub column_width : ℕ → ℕ → ℕ
column_width word j = pick (ltb word 32768) (pick (ltb j (full_columns word)) 2 1) (pick (ltb j (full_columns word)) 4 2)

-- A subtable, from at on: item count, word count, region count, region indexes, rows.
abbrev pub item_count : List ℕ → ℕ → ℕ
item_count s at = be 2 s at

abbrev pub word_at : List ℕ → ℕ → ℕ
word_at s at = be 2 s (at + 2)

abbrev pub column_count : List ℕ → ℕ → ℕ
column_count s at = be 2 s (at + 4)

abbrev pub regions_at : List ℕ → ℕ → List ℕ
regions_at s at = words s (at + 6) (column_count s at)

-- V4: the subtable lies inside, and has no more columns of full width than columns
unfoldable pub is_subtable_ok : List ℕ → ℕ → ℕ → Bool
is_subtable_ok s at regions =
    leb (at + 6) (length s) &&
    (leb (full_columns (word_at s at)) (column_count s at) &&
    (leb (at + 6 + 2 * column_count s at + item_count s at * column_start (word_at s at) (column_count s at)) (length s) &&
    are_columns_ok regions (regions_at s at)))

-- the value in column j of row inner: the column's bytes as two's complement
unfoldable pub cell : List ℕ → ℕ → ℕ → ℕ → ℤ
cell s at inner j =
    signed (column_width (word_at s at) j)
    (be (column_width (word_at s at) j) s
    (at + 6 + 2 * column_count s at + inner * column_start (word_at s at) (column_count s at) + column_start (word_at s at) j))

-- what is read: the value that is written, NoColumn, or why nothing is read
abbrev pub Reading : Type 0
Reading = Result (Option ℤ) ReadError

abbrev pub Written : ℤ → Reading
Written v = Ok (Some v)

abbrev pub NoColumn : Reading
NoColumn = Ok None

abbrev pub Refused : ReadError → Reading
Refused e = Err e

-- V7: NoColumn, or the value that is written
abbrev pub in_column : List ℕ → ℕ → ℕ → Column → Reading
in_column s at inner Missing = NoColumn
in_column s at inner (At j) = Written (cell s at inner j)

-- the numbers of its refusals
abbrev pub bad_store : ℕ
bad_store = 20

abbrev pub no_row : ℕ
no_row = 21

abbrev pub no_region : ℕ
no_region = 22

abbrev pub bad_glyph_map : ℕ
bad_glyph_map = 42

abbrev pub bad_widths : ℕ
bad_widths = 43

abbrev pub read_number : ReadError → ℕ
read_number BadStore = bad_store
read_number NoRow = no_row
read_number NoRegion = no_region
read_number BadGlyphMap = bad_glyph_map
read_number BadWidths = bad_widths

-- R20, R21, R22, in the order V1 to V6
unfoldable pub subtable_reading : List ℕ → ℕ → ℕ → ℕ → Reading
subtable_reading s at inner region =
    pick (eqb at 0) (Refused NoRow)
    (pick (not (is_subtable_ok s at (region_count s))) (Refused BadStore)
    (pick (leb (item_count s at) inner) (Refused NoRow)
    (pick (leb (region_count s) region) (Refused NoRegion)
    (in_column s at inner (find region 0 (regions_at s at))))))

unfoldable pub read_store : List ℕ → ℕ → ℕ → ℕ → Reading
read_store s outer inner region =
    pick (not (is_header_ok s)) (Refused BadStore)
    (pick (leb (be 2 s 6) outer) (Refused NoRow)
    (subtable_reading s (be 4 s (8 + 4 * outer)) inner region))

-- The refusal's number of an answer, 0 where nothing is refused, and its value: NoColumn means zero.
unfoldable pub refusal_of : Reading → ℕ
refusal_of (Ok v) = 0
refusal_of (Err e) = read_number e

unfoldable pub value_of : Reading → ℤ
value_of (Ok (Some v)) = v
value_of (Ok None) = pos 0
value_of (Err e) = pos 0

-- what reading k bytes gives
pub record Word (k : ℕ) (s : List ℕ) (at r : ℕ) : Type 0 where
  pub is : r ≡ be k s at
  pub below : r < 256 ^ k
