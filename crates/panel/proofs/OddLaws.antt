-- The records that the panel's reader does not take: by kind, one after another, and what is left of them answers for the whole. Assumes nothing.
use mathlib.Core.Path.{◌≡◌, sym}
use mathlib.Core.Bool.{Bool, true, false}
use mathlib.Core.List.{List}
use mathlib.Core.Logic.{⊎_elim}
use Prim.Native.Nat.{ℕ, suc, ◌+◌, ◌-◌, ◌*◌, ◌≤◌, ◌<◌}
use native.Mathlib.Nat.{sub-zero}
use native.Mathlib.Omega.{arith}
use lib.IntN.{ℤ, pos, negsuc}
use lib.Seq.{drop-drop}
use borrow.Author.Tests.{le-ltb, ne_eqb}
use Rattle.laws.specs.Signed.{fits, signed, zero_word, value}
use Rattle.laws.proofs.SignedLaws.{value-below, value-above, mag-fits}
use Rattle.laws.proofs.Cases.{lt-or-ge}
use Rattle.said.specs.Records.{start_of, peak_of, end_of, value_as_word, record_at, record_bytes, record_start}
use Rattle.refusals.specs.declared.Refusal.{Refusal}
use Rattle.refusals.specs.Refusals.{number}
use Rattle.refusals.proofs.Numbers.{some_number}
use Rattle.panel.specs.Taken.{has_short_value, is_sound_axis, has_sound_axis, panel_refusal}
use Rattle.panel.specs.Panelled.{none_odd, first_of}

-- ---- a value of 16 bits, by its word

module _ (r : List ℕ) (w : ℕ) (e : w ≡ value_as_word r) where
  pub short-low : w < 2147450880 → false ≡ has_short_value r
  unfolding has_short_value fits
  short-low h = rw (← e, value-below w (omega arith), le-ltb (2 * (zero_word - suc w)) 65536 (omega arith))

  pub short-high : 2147516415 < w → false ≡ has_short_value r
  unfolding has_short_value fits
  short-high h = rw (← e, value-above w (omega arith), le-ltb (2 * (w - zero_word)) 65536 (omega arith))

  pub short-in : 2147450880 ≤ w → w ≤ 2147516415 → true ≡ has_short_value r
  unfolding has_short_value fits
  short-in l h = rw (← e) (⊎_elim low high (lt-or-ge w zero_word))
    where
      low : w < zero_word → true ≡ fits 2 (value w)
      low k = rw (value-below w k) (sym (mag-fits 2 (negsuc (zero_word - suc w)) (omega arith)))

      high : zero_word ≤ w → true ≡ fits 2 (value w)
      high k = rw (value-above w k) (sym (mag-fits 2 (pos (w - zero_word)) (omega arith)))

-- ---- an axis, by its coordinates

pub sound-by : (r : List ℕ) (b : Bool) (x y z : ℤ) → b ≡ is_sound_axis x y z → x ≡ signed 2 (start_of r) → y ≡ signed 2 (peak_of r) → z ≡ signed 2 (end_of r) → b ≡ has_sound_axis r
unfolding has_sound_axis
sound-by r b x y z e p q s = rw (← p, ← q, ← s) e

-- ---- the records from i on answer for all

module _ (job : List ℕ) (limit i : ℕ) (h : i < limit) where
  one_more : limit - i ≡ suc (limit - (i + 1))
  one_more = omega arith

  pub odd-here : (x : Refusal) → number x ≡ panel_refusal (record_at job i) → record { no = number x; at = i } ≡ first_of (record_at job i) (limit - i) i
  unfolding first_of
  odd-here x e = rw (one_more, ← e, ne_eqb (number x) 0 (some_number x))

  pub odd-later : 0 ≡ panel_refusal (record_at job i) → first_of (record_at job i) (limit - i) i ≡ first_of (record_at job (i + 1)) (limit - (i + 1)) (i + 1)
  unfolding first_of
  odd-later e =
      let k : record_start i + record_bytes ≡ record_start (i + 1) = omega arith in
      rw (one_more, ← e, drop-drop record_bytes (record_start i) job, k)

pub odd-start : (job : List ℕ) (limit : ℕ) → first_of (record_at job 0) (limit - 0) 0 ≡ first_of job limit 0
odd-start job limit = rw (sub-zero limit)

pub odd-none : (job : List ℕ) (limit i : ℕ) → limit ≤ i → none_odd ≡ first_of (record_at job i) (limit - i) i
unfolding first_of
odd-none job limit i h = let e : limit - i ≡ 0 = omega arith in rw e
