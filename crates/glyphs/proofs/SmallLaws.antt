-- Every number in an answer is below 2^32, and a refusal's is at most 42: an answer fits a word of 64 bits, the refusal in its high half; how many bytes
-- always do. Assumes nothing.
use mathlib.Core.Path.{◌≡◌}
use mathlib.Core.Bool.{Bool, true, false, not}
use mathlib.Core.List.{List}
use mathlib.Core.Logic.{⊎_elim}
use Prim.Native.Nat.{ℕ, ◌+◌, ◌*◌, ◌/◌, ◌%◌, ◌^◌, ◌≤◌, ◌<◌}
use native.Mathlib.Nat.{mod-lt}
use native.Mathlib.Omega.{arith}
use lib.Dec.{ltb}
use lib.ListN.{length}
use lib.Pow.{pow_pos}
use borrow.Author.Tests.{ltb-false, le-ltb}
use Rattle.std.specs.Prelude.{Result, Ok, Err}
use Rattle.reader.specs.Store.{read_number}
use Rattle.glyphs.specs.declared.write.WriteError.TheVariants.{TooManyGlyphs, GlyphMapShort}
use Rattle.reader.specs.declared.reader.ReadError.TheVariants.{BadGlyphMap}
use Rattle.reader.specs.declared.reader.ReadError.{ReadError}
use Rattle.glyphs.specs.declared.write.WriteError.{WriteError}
use Rattle.laws.specs.Bytes.{be}
use Rattle.laws.specs.Pick.{pick}
use Rattle.laws.proofs.Cases.{Which, which, lt-or-ge}
use Rattle.laws.proofs.Cases.Which.{holds, fails}
use Rattle.laws.proofs.Products.{product}
use Rattle.glyphs.specs.Packing.{map_size, count_of, head_length, map_bytes}
use Rattle.glyphs.specs.Answers.{write_number, max_glyphs, glyphs_of}
use Rattle.glyphs.specs.Reading.{bits_in, size_in, is_map_ok, place_of, word_of, read_map}
use Rattle.glyphs.proofs.FormatLaws.{size-range}
use Rattle.glyphs.proofs.KeptLaws.{count_most}
use Rattle.glyphs.proofs.WidthLaws.{power-most}
use Rattle.glyphs.proofs.WriteLaws.{size-zero, size-one}
use Rattle.glyphs.proofs.AnswerLaws.{map-long}

-- ---- of writing

abbrev pub GlyphsSmall : (Result ℕ WriteError) → Type 0
GlyphsSmall (Ok n) = n < 4294967296
GlyphsSmall (Err e) = write_number e ≤ 42

-- as many bytes always do
pub map-most : (ws : List ℕ) → length (map_bytes ws) ≤ 6 + 4 * length ws
map-most ws =
    let n = count_of ws in
    let p = product (length ws) 4 {a = n} {b = map_size ws} (count_most ws) (size-range ws).1 in
    let s : head_length n ≤ 6 = ⊎_elim (λ l. omega (arith, size-zero 0 n l)) (λ l. omega (arith, size-one 0 n l)) (lt-or-ge n 65536) in
    omega (arith, map-long ws)

pub glyphs-enough : (ws : List ℕ) (room : ℕ) → length ws ≤ max_glyphs → 6 + 4 * length ws ≤ room → glyphs_of ws room ≡ Ok (length (map_bytes ws))
unfolding glyphs_of
glyphs-enough ws room few h = rw (le-ltb max_glyphs (length ws) few, le-ltb room (length (map_bytes ws)) (omega (arith, map-most ws)))

map-small : (ws : List ℕ) → length ws ≤ max_glyphs → length (map_bytes ws) < 4294967296
map-small ws h = omega (arith, map-most ws)

pub glyphs-small : (ws : List ℕ) (room : ℕ) → GlyphsSmall (glyphs_of ws room)
unfolding glyphs_of
glyphs-small ws room = many (which (ltb max_glyphs (length ws)))
  where
    short : length ws ≤ max_glyphs → (b : Bool) → GlyphsSmall (pick b (Err GlyphMapShort) (Ok (length (map_bytes ws))))
    short h true = omega arith
    short h false = map-small ws h

    many : Which (ltb max_glyphs (length ws)) → GlyphsSmall (pick (ltb max_glyphs (length ws)) (Err TooManyGlyphs) (pick (ltb room (length (map_bytes ws))) (Err GlyphMapShort) (Ok (length (map_bytes ws)))))
    many (holds e) = rw e (omega arith)
    many (fails e) = rw e (short (ltb-false _ _ e) (ltb room (length (map_bytes ws))))

-- ---- of reading

abbrev pub EntrySmall : (Result ℕ ReadError) → Type 0
EntrySmall (Ok w) = w < 4294967296
EntrySmall (Err e) = read_number e ≤ 42

word_small : (bits e : ℕ) → bits ≤ 16 → EntrySmall (word_of bits e)
unfolding word_of
word_small bits e h = go (which (ltb 65535 (e / 2 ^ bits)))
  where
    go : Which (ltb 65535 (e / 2 ^ bits)) → EntrySmall (pick (ltb 65535 (e / 2 ^ bits)) (Err BadGlyphMap) (Ok (e / 2 ^ bits * 65536 + e % 2 ^ bits)))
    go (holds t) = rw t (omega arith)
    go (fails t) = rw t (omega (arith, ltb-false 65535 (e / 2 ^ bits) t, mod-lt e {m = 2 ^ bits} (pow_pos bits), power-most bits h))

pub entry-small : (s : List ℕ) (g : ℕ) → EntrySmall (read_map s g)
unfolding read_map
entry-small s g = go (is_map_ok s)
  where
    go : (b : Bool) → EntrySmall (pick (not b) (Err BadGlyphMap) (word_of (bits_in s) (be (size_in s) s (place_of s g))))
    go true = word_small (bits_in s) (be (size_in s) s (place_of s g)) (omega arith)
    go false = omega arith
