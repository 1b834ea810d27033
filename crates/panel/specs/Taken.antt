-- What the panel's reader takes of a record, by the record's bytes alone (RULES R70, R71). Below, `r` are the bytes from a record's first one on. Assumes
-- nothing.
use Rattle.std.specs.Prelude.{Bool, not, ◌&&◌, ◌||◌, List, [], ◌∷◌, ℕ, ℤ, pos, negsuc}
use Rattle.std.specs.Int.Signed.{lt_z, le_z}
use Rattle.laws.specs.Signed.{fits, is_zero, signed, value}
use Rattle.said.specs.Records.{is_axis, is_value, start_of, peak_of, end_of, value_as_word}
use Rattle.said.specs.Refusals.{long_value, bad_region, first_failed}

-- ---- a value record: only values of 16 bits

unfoldable pub has_short_value : List ℕ → Bool
has_short_value r = fits 2 (value (value_as_word r))

-- ---- an axis record: start, peak and end of one axis, in units of 1/16384

abbrev pub minus_one : ℤ
minus_one = negsuc 16383

abbrev pub one : ℤ
one = pos 16384

abbrev pub within : ℤ → Bool
within z = le_z minus_one z && le_z z one

-- 0 lies inside
abbrev pub around : (start end : ℤ) → Bool
around s e = lt_z s (pos 0) && lt_z (pos 0) e

-- start <= peak <= end, all within -1.0 to 1.0, and peak 0 wherever start is below 0 and end above
unfoldable pub is_sound_axis : (start peak end : ℤ) → Bool
is_sound_axis s p e = le_z s p && (le_z p e && (within s && (within p && (within e && (not (around s e) || is_zero p)))))

unfoldable pub has_sound_axis : List ℕ → Bool
has_sound_axis r = is_sound_axis (signed 2 (start_of r)) (signed 2 (peak_of r)) (signed 2 (end_of r))

-- ---- R70, R71: the number that a record is refused by, 0 where it is taken

unfoldable pub panel_refusal : List ℕ → ℕ
panel_refusal r = first_failed ((not (is_value r) || has_short_value r, long_value) ∷ (not (is_axis r) || has_sound_axis r, bad_region) ∷ [])
