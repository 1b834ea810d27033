-- Laws of the reader of a glyph map: what a sound map says of its length. Assumes nothing.
use mathlib.Core.Path.{◌≡◌, subst}
use mathlib.Core.Bool.{true, false}
use mathlib.Core.List.{List}
use Prim.Native.Nat.{ℕ, ◌+◌, ◌-◌, ◌*◌, ◌/◌, ◌%◌, ◌^◌, ◌≤◌, ◌<◌}
use native.Mathlib.Omega.{arith}
use lib.ListN.{length}
use borrow.Author.Tests.{leb-true, ltb-true, eqb-false, not-true, lt-ltb, le-ltb, eq-eqb, ne_eqb}
use Rattle.std.specs.Prelude.{Ok, Err}
use Rattle.reader.specs.declared.reader.ReadError.TheVariants.{BadGlyphMap}
use Rattle.laws.specs.Bytes.{be}
use Rattle.laws.proofs.Cases.{and-true}
use Rattle.laws.proofs.Products.{row_fits}
use Rattle.reader.specs.Store as store
use Rattle.glyphs.specs.Reading.{format_in, form_in, entries_from, count_in, bits_in, size_in, is_map_ok, entry_of_glyph, place_of, word_of, read_map}

module _ (format : ℕ) where
  pub start-zero : format ≡ 0 → 4 ≡ entries_from format
  unfolding entries_from
  start-zero e = rw (eq-eqb format 0 e)

  pub start-one : (format ≡ 0 → ⊥) → 6 ≡ entries_from format
  unfolding entries_from
  start-one d = rw (ne_eqb format 0 d)

module _ (s : List ℕ) where
  pub count-two : format_in s ≡ 0 → be 2 s 2 ≡ count_in s
  unfolding count_in
  count-two e = rw (eq-eqb (format_in s) 0 e)

  pub count-four : (format_in s ≡ 0 → ⊥) → be 4 s 2 ≡ count_in s
  unfolding count_in
  count-four d = rw (ne_eqb (format_in s) 0 d)

pub record MapFits (s : List ℕ) : Type 0 where
  pub head : 4 ≤ length s
  pub format : format_in s < 2
  pub form : form_in s < 64
  pub start : entries_from (format_in s) ≤ length s
  pub some : count_in s ≡ 0 → ⊥
  pub whole : entries_from (format_in s) + count_in s * size_in s ≤ length s

pub map-fits : (s : List ℕ) → is_map_ok s ≡ true → MapFits s
unfolding is_map_ok
map-fits s h =
    let a = and-true _ _ h in
    let b = and-true _ _ a.1 in
    let d = and-true _ _ b.1 in
    let e = and-true _ _ d.1 in
    let f = and-true _ _ e.1 in
    record {
      head = leb-true _ _ a.0;
      format = ltb-true _ _ b.0;
      form = ltb-true _ _ d.0;
      start = leb-true _ _ e.0;
      some = eqb-false _ _ (not-true _ f.0);
      whole = leb-true _ _ f.1;
    }

-- the entry of a sound map lies in it
pub place_inside : (s : List ℕ) (k size at : ℕ) → MapFits s → k < count_in s → size ≡ size_in s → at ≡ entries_from (format_in s) → at + k * size + size ≤ length s
place_inside s k size at f h e g = rw (e, g) (omega (arith, f.whole, row_fits (size_in s) (count_in s) k h))

module _ (n g : ℕ) where
  pub no-inside : g < n → g ≡ entry_of_glyph n g
  unfolding entry_of_glyph
  no-inside h = rw (lt-ltb g n h)

  pub no-past : n ≤ g → n - 1 ≡ entry_of_glyph n g
  unfolding entry_of_glyph
  no-past h = rw (le-ltb g n h)

-- ---- the answer

pub bad-map : (s : List ℕ) (g : ℕ) → is_map_ok s ≡ false → Err BadGlyphMap ≡ read_map s g
unfolding read_map
bad-map s g h = rw h

module _ (s : List ℕ) (g : ℕ) (ok : is_map_ok s ≡ true) (e p : ℕ) (f : e ≡ be (size_in s) s (place_of s g)) (q : p ≡ 2 ^ bits_in s) where
  pub word-there : e / p ≤ 65535 → Ok (e / p * 65536 + e % p) ≡ read_map s g
  unfolding read_map word_of
  word-there h = rw (ok, ← f, ← q, le-ltb 65535 (e / p) h)

-- the entry that was read is the one that the definition names
pub entry-there : (s : List ℕ) (g size at k n r : ℕ) → size ≡ size_in s → at ≡ entries_from (format_in s) → n ≡ count_in s → k ≡ entry_of_glyph n g
    → store.Word size s (at + k * size) r → store.Word (size_in s) s (place_of s g) r
unfolding place_of
entry-there s g size at k n r p q c e w =
    let f : at + k * size ≡ entries_from (format_in s) + entry_of_glyph (count_in s) g * size_in s = rw (q, e, c, p) in
    subst (λ (x : ℕ). store.Word x s (entries_from (format_in s) + entry_of_glyph (count_in s) g * size_in s) r) p
    (subst (λ (x : ℕ). store.Word size s x r) f w)
