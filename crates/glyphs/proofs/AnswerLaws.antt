-- Laws of what writing a glyph map answers and leaves. Assumes nothing.
use mathlib.Core.Path.{◌≡◌, sym, ap, ◌∙◌}
use mathlib.Core.List.{List, ◌++◌}
use Prim.Native.Nat.{ℕ, ◌+◌, ◌-◌, ◌*◌, ◌≤◌, ◌<◌}
use native.Mathlib.Omega.{arith}
use lib.ListN.{length, take, length-append}
use lib.Seq.{length-take-le}
use borrow.Author.Tests.{lt-ltb, le-ltb}
use Rattle.std.specs.Prelude.{Ok, Err}
use Rattle.glyphs.specs.declared.write.WriteError.TheVariants.{TooManyGlyphs, GlyphMapShort}
use Rattle.laws.specs.Bytes.{over}
use Rattle.rows.specs.Lent.{Put}
use Rattle.rows.proofs.PutLaws.{put-join}
use Rattle.glyphs.specs.Packing.{together, inner_bit_count, entry_of, bytes_for_entry, map_bits, map_size, entry_format, count_of, head_for, head_length, entries_of, map_bytes}
use Rattle.glyphs.specs.Answers.{max_glyphs, glyphs_of, glyphs_left}
use Rattle.glyphs.proofs.KeptLaws.{count_most}
use Rattle.glyphs.proofs.WriteLaws.{head-size, entries-long}

pub map-long : (ws : List ℕ) → length (map_bytes ws) ≡ head_length (count_of ws) + count_of ws * map_size ws
unfolding map_bytes
map-long ws =
    let form = entry_format (map_size ws) (map_bits ws) in
    let es = entries_of (map_size ws) (map_bits ws) (take (count_of ws) ws) in
    length-append (head_for form (count_of ws)) es
    ∙ rw (head-size form (count_of ws), entries-long (map_size ws) (map_bits ws) (take (count_of ws) ws), length-take-le (count_of ws) ws (count_most ws))

-- what the code works out before it writes
pub record Sized (ws : List ℕ) (bits size count at : ℕ) : Type 0 where
  pub bits_is : bits ≡ map_bits ws
  pub size_is : size ≡ map_size ws
  pub count-is : count ≡ count_of ws
  pub at-is : at ≡ head_length (count_of ws)

pub sized : (ws : List ℕ) (all bits e size count at : ℕ) → all ≡ together ws → bits ≡ inner_bit_count all → e ≡ entry_of bits all → size ≡ bytes_for_entry e → count ≡ count_of ws → at ≡ head_length count
    → Sized ws bits size count at
unfolding map_bits map_size
sized ws all bits e size count at pa pb pe ps pc pt =
    let b : bits ≡ map_bits ws = pb ∙ ap inner_bit_count pa in
    record {
      bits_is = b;
      size_is = ps ∙ ap bytes_for_entry (pe ∙ rw (b, pa));
      count-is = pc;
      at-is = pt ∙ ap head_length pc;
    }

module _ (ws old : List ℕ) where
  pub many-answer : max_glyphs < length ws → (room : ℕ) → Err TooManyGlyphs ≡ glyphs_of ws room
  unfolding glyphs_of
  many-answer h room = rw (lt-ltb max_glyphs (length ws) h)

  pub many-left : max_glyphs < length ws → old ≡ glyphs_left ws old
  unfolding glyphs_left
  many-left h = rw (lt-ltb max_glyphs (length ws) h)

  module _ (few : length ws ≤ max_glyphs) (bits size count at : ℕ) (z : Sized ws bits size count at) where
    pub bytes-are : at + count * size ≡ length (map_bytes ws)
    bytes-are = rw (z.at-is, z.count-is, z.size_is) (sym (map-long ws))

    pub short-answer : length old < at + count * size → Err GlyphMapShort ≡ glyphs_of ws (length old)
    unfolding glyphs_of
    short-answer h = rw (le-ltb max_glyphs (length ws) few, lt-ltb (length old) (length (map_bytes ws)) (omega (arith, bytes-are)))

    pub short-left : length old < at + count * size → old ≡ glyphs_left ws old
    unfolding glyphs_left
    short-left h = rw (le-ltb max_glyphs (length ws) few, lt-ltb (length old) (length (map_bytes ws)) (omega (arith, bytes-are)))

    module _ (room : at + count * size ≤ length old) where
      pub done-answer : Ok (at + count * size) ≡ glyphs_of ws (length old)
      unfolding glyphs_of
      done-answer = rw (le-ltb max_glyphs (length ws) few, le-ltb (length old) (length (map_bytes ws)) (omega (arith, bytes-are)), bytes-are)

      pieces : (form : ℕ) → form ≡ (size - 1) * 16 + (bits - 1) → head_for form count ++ entries_of size bits (take count ws) ≡ map_bytes ws
      unfolding map_bytes entry_format
      pieces form f = rw (f, z.size_is, z.bits_is, z.count-is)

      pub done-left : (mid new : List ℕ) (form t : ℕ) → form ≡ (size - 1) * 16 + (bits - 1) → Put 0 (head_for form count) old mid (head_length count)
          → Put at (entries_of size bits (take count ws)) mid new t → new ≡ glyphs_left ws old
      unfolding glyphs_left
      done-left mid new form t f a b =
          let x = head_for form count in
          let y = entries_of size bits (take count ws) in
          let e : at ≡ head_length count = z.at-is ∙ ap head_length (sym z.count-is) in
          let m = pieces form f in
          let n : length (x ++ y) ≡ at + count * size = ap length m ∙ sym bytes-are in
          let j = put-join 0 x y old mid new (head_length count) t a (rw e at b) (omega (arith, length-append x y, n)) in
          rw (le-ltb max_glyphs (length ws) few, le-ltb (length old) (length (map_bytes ws)) (omega (arith, bytes-are)))
          (j.is ∙ ap (λ (l : List ℕ). over old 0 (length l) l) m)
