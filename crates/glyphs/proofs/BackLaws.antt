-- What is written reads back: `glyph-back`, every glyph's word, and `empty-refused`. Assumes nothing.
use mathlib.Core.Path.{◌≡◌, refl, sym, ap, ◌∙◌, subst}
use mathlib.Core.Bool.{true}
use mathlib.Core.List.{List, [], ◌∷◌, ◌++◌, append_assoc}
use mathlib.Core.Logic.{⊎_elim}
use Prim.Native.Nat.{ℕ, suc, ◌+◌, ◌-◌, ◌*◌, ◌/◌, ◌%◌, ◌^◌, ◌≤◌, ◌<◌}
use native.Mathlib.Nat.{mod-eq_of_lt}
use native.Mathlib.Omega.{arith}
use lib.Count.{count_leading_zeros}
use lib.Pow.{high, low}
use lib.ListN.{length, get_or, take, drop, length-append}
use lib.Seq.{split_at, length-take-le, get_or-take}
use borrow.Author.Tests.{lt-ltb, le-ltb, le-leb, ne_eqb}
use Rattle.std.specs.Prelude.{Ok, Err}
use Rattle.reader.specs.declared.reader.ReadError.TheVariants.{BadGlyphMap}
use Rattle.laws.specs.Every.{All}
use Rattle.laws.specs.Bytes.{be, bytes_of}
use Rattle.laws.proofs.EveryLaws.{all-get_or}
use Rattle.laws.proofs.BytesLaws.{bytes-length, be-bytes}
use Rattle.laws.proofs.Cases.{lt-or-ge}
use Rattle.glyphs.specs.Packing.{outer_of, inner_of, ored, inner_bit_count, entry_of, bytes_for_entry, map_bits, map_size, entry_format, kept_of, count_of, head_of, head_for, head_length, entries_of, map_bytes}
use Rattle.glyphs.specs.Reading.{format_in, form_in, entries_from, count_in, bits_in, size_in, is_map_ok, entry_of_glyph, place_of, word_of, read_map}
use Rattle.glyphs.proofs.FormatLaws.{format-holds, bits_range, size-range}
use Rattle.glyphs.proofs.KeptLaws.{count_most, count-some, count_same}
use Rattle.glyphs.proofs.WriteLaws.{size-zero, size-one, head-zero, head-one, head-size, entries-long}
use Rattle.glyphs.proofs.AnswerLaws.{map-long}
use Rattle.glyphs.proofs.ReadLaws.{start-zero, start-one, count-two, count-four, no-inside, no-past, MapFits}

-- ---- the head

module _ (format k form n : ℕ) (rest : List ℕ) where
  abbrev a : List ℕ
  a = bytes_of 1 format

  abbrev b : List ℕ
  b = bytes_of 1 form

  abbrev c : List ℕ
  c = bytes_of k n

  abbrev all : List ℕ
  all = head_of format k form n ++ rest

  turned : all ≡ a ++ (b ++ (c ++ rest))
  turned = append_assoc a (b ++ c) rest ∙ ap (λ (l : List ℕ). a ++ l) (append_assoc b c rest)

  format_back : format_in all ≡ format % 256
  format_back = ap (λ (l : List ℕ). be 1 l 0) turned ∙ be-bytes [] (b ++ (c ++ rest)) 1 format 0 refl

  form-back : form_in all ≡ form % 256
  form-back = ap (λ (l : List ℕ). be 1 l 1) turned ∙ be-bytes a (c ++ rest) 1 form 1 (bytes-length 1 format)

  count-back : be k all 2 ≡ n % 256 ^ k
  count-back =
      let l : length (a ++ b) ≡ 2 = simp length-append (omega (arith, bytes-length 1 format, bytes-length 1 form)) in
      ap (λ (l : List ℕ). be k l 2) (turned ∙ sym (append_assoc a b (c ++ rest))) ∙ be-bytes (a ++ b) rest k n 2 l

-- what the head of a map says
record Said (form n : ℕ) (s : List ℕ) : Type 0 where
  known : format_in s < 2
  form-is : form_in s ≡ form
  start_is : entries_from (format_in s) ≡ head_length n
  count-is : count_in s ≡ n

module _ (form n : ℕ) (rest : List ℕ) (f : form < 64) where
  said-zero : n < 65536 → Said form n (head_of 0 2 form n ++ rest)
  said-zero h =
      let s = head_of 0 2 form n ++ rest in
      let z : format_in s ≡ 0 = format_back 0 2 form n rest in
      record {
        known = omega (arith, z);
        form-is = form-back 0 2 form n rest ∙ mod-eq_of_lt (omega arith);
        start_is = sym (start-zero (format_in s) z) ∙ size-zero 0 n h;
        count-is = sym (count-two s z) ∙ count-back 0 2 form n rest ∙ mod-eq_of_lt (omega arith);
      }

  said-one : 65536 ≤ n → n < 4294967296 → Said form n (head_of 1 4 form n ++ rest)
  said-one h l =
      let s = head_of 1 4 form n ++ rest in
      let z : format_in s ≡ 1 = format_back 1 4 form n rest in
      let d : format_in s ≡ 0 → ⊥ = λ e. omega (arith, z, e) in
      record {
        known = omega (arith, z);
        form-is = form-back 1 4 form n rest ∙ mod-eq_of_lt (omega arith);
        start_is = sym (start-one (format_in s) d) ∙ size-one 0 n h;
        count-is = sym (count-four s d) ∙ count-back 1 4 form n rest ∙ mod-eq_of_lt (omega arith);
      }

  said : n < 4294967296 → Said form n (head_for form n ++ rest)
  said l =
      ⊎_elim (λ h. subst (λ (x : List ℕ). Said form n (x ++ rest)) (sym (head-zero form n h)) (said-zero h))
      (λ h. subst (λ (x : List ℕ). Said form n (x ++ rest)) (sym (head-one form n h)) (said-one h l))
      (lt-or-ge n 65536)

-- ---- one entry

entries-append : (size bits : ℕ) (xs ys : List ℕ) → entries_of size bits (xs ++ ys) ≡ entries_of size bits xs ++ entries_of size bits ys
unfolding entries_of
entries-append size bits [] ys = refl
entries-append size bits (x ∷ xs) ys =
    ap (λ (l : List ℕ). bytes_of size (entry_of bits x) ++ l) (entries-append size bits xs ys)
    ∙ sym (append_assoc (bytes_of size (entry_of bits x)) (entries_of size bits xs) (entries_of size bits ys))

entry-split : (size bits : ℕ) (ws : List ℕ) (j : ℕ) → j < length ws
    → entries_of size bits ws ≡ entries_of size bits (take j ws) ++ (bytes_of size (entry_of bits (get_or ws j 0)) ++ entries_of size bits (drop (suc j) ws))
unfolding entries_of
entry-split size bits ws j h = ap (entries_of size bits) (split_at ws j 0 h) ∙ entries-append size bits (take j ws) (get_or ws j 0 ∷ drop (suc j) ws)

entry-back : (pre : List ℕ) (at size bits : ℕ) (ws : List ℕ) (j : ℕ) → length pre ≡ at → j < length ws
    → be size (pre ++ entries_of size bits ws) (at + j * size) ≡ entry_of bits (get_or ws j 0) % 256 ^ size
entry-back pre at size bits ws j l h =
    let x = entries_of size bits (take j ws) in
    let e = entry_of bits (get_or ws j 0) in
    let y = entries_of size bits (drop (suc j) ws) in
    let t : length (take j ws) ≡ j = length-take-le j ws (omega arith) in
    let n : length x ≡ j * size = entries-long size bits (take j ws) ∙ ap (λ (i : ℕ). i * size) t in
    let m : length (pre ++ x) ≡ at + j * size = simp length-append (omega arith) in
    ap (λ (s : List ℕ). be size s (at + j * size))
    (ap (λ (s : List ℕ). pre ++ s) (entry-split size bits ws j h) ∙ sym (append_assoc pre x (bytes_of size e ++ y)))
    ∙ be-bytes (pre ++ x) y size e (at + j * size) m

-- an entry is its word's
word_back : (bits w : ℕ) → w < 4294967296 → inner_of w < 2 ^ bits → word_of bits (entry_of bits w) ≡ Ok w
unfolding word_of entry_of
word_back bits w h i =
    let q : (outer_of w * 2 ^ bits + inner_of w) / 2 ^ bits ≡ outer_of w = high (outer_of w) bits i in
    let r : (outer_of w * 2 ^ bits + inner_of w) % 2 ^ bits ≡ inner_of w = low (outer_of w) bits i in
    let e : outer_of w * 65536 + inner_of w ≡ w = omega arith in
    rw (q, r, le-ltb 65535 (outer_of w) (omega arith), e)

-- ---- a glyph's entry, after the trailing repeats were dropped

module _ (ws : List ℕ) (some : 0 < length ws) (g : ℕ) where
  last-back : count_of ws ≤ g → get_or ws (count_of ws - 1) 0 ≡ get_or ws (entry_of_glyph (length ws) g) 0
  last-back h =
      ⊎_elim (λ (l : g < length ws). rw (← no-inside (length ws) g l) (sym (count_same ws g l h)))
      (λ (l : length ws ≤ g). rw (← no-past (length ws) g l)
      (⊎_elim (λ (k : length ws - 1 < count_of ws). let e : count_of ws - 1 ≡ length ws - 1 = omega (arith, count_most ws) in rw e)
      (λ k. sym (count_same ws (length ws - 1) (omega arith) k))
      (lt-or-ge (length ws - 1) (count_of ws))))
      (lt-or-ge g (length ws))

  kept_back : get_or ws (entry_of_glyph (count_of ws) g) 0 ≡ get_or ws (entry_of_glyph (length ws) g) 0
  kept_back =
      ⊎_elim (λ (l : g < count_of ws). rw (← no-inside (count_of ws) g l, ← no-inside (length ws) g (omega (arith, count_most ws))))
      (λ l. rw (← no-past (count_of ws) g l) (last-back l))
      (lt-or-ge g (count_of ws))

no-below : (n g : ℕ) → 0 < n → entry_of_glyph n g < n
no-below n g h =
    ⊎_elim (λ (l : g < n). rw (← no-inside n g l) l) (λ l. rw (← no-past n g l) (omega arith)) (lt-or-ge g n)

-- a map that passes every test is sound
sound : (s : List ℕ) → MapFits s → is_map_ok s ≡ true
unfolding is_map_ok
sound s f = rw (le-leb _ _ f.head, lt-ltb _ _ f.format, lt-ltb _ _ f.form, le-leb _ _ f.start, ne_eqb _ _ f.some, le-leb _ _ f.whole)

-- ---- the map

module _ (ws : List ℕ) (words : All (λ w. w < 4294967296) ws) (some : 0 < length ws) (few : length ws < 4294967296) where
  abbrev bits : ℕ
  bits = map_bits ws

  abbrev size : ℕ
  size = map_size ws

  abbrev n : ℕ
  n = count_of ws

  abbrev s : List ℕ
  s = map_bytes ws

  form_small : entry_format size bits < 64
  unfolding entry_format
  form_small = omega (arith, bits_range ws, size-range ws)

  size-in : entry_format size bits / 16 + 1 ≡ size
  unfolding entry_format
  size-in = omega (arith, bits_range ws, size-range ws)

  bits-in : entry_format size bits % 16 + 1 ≡ bits
  unfolding entry_format
  bits-in = omega (arith, bits_range ws, size-range ws)

  head : Said (entry_format size bits) n s
  unfolding map_bytes
  head = said (entry_format size bits) n (entries_of size bits (take n ws)) form_small (omega (arith, count_most ws))

  size_is : size_in s ≡ size
  size_is = ap (λ (x : ℕ). x / 16 + 1) head.form-is ∙ size-in

  bits_is : bits_in s ≡ bits
  bits_is = ap (λ (x : ℕ). x % 16 + 1) head.form-is ∙ bits-in

  whole : entries_from (format_in s) + count_in s * size_in s ≡ length s
  whole = rw (head.start_is, head.count-is, size_is) (sym (map-long ws))

  head_few : 4 ≤ head_length n
  head_few = ⊎_elim (λ h. omega (arith, size-zero 0 n h)) (λ h. omega (arith, size-one 0 n h)) (lt-or-ge n 65536)

  fits : MapFits s
  fits = record {
    head = omega (arith, whole, head.start_is, head_few);
    format = head.known;
    form = rw head.form-is form_small;
    start = omega (arith, whole);
    some = λ e. omega (arith, e, head.count-is, count-some ws some);
    whole = omega (arith, whole);
  }

  module _ (g : ℕ) where
    abbrev j : ℕ
    j = entry_of_glyph n g

    within : j < n
    within = no-below n g (count-some ws some)

    there : be size s (head_length n + j * size) ≡ entry_of bits (get_or ws j 0)
    unfolding map_bytes
    there =
        let l : length (take n ws) ≡ n = length-take-le n ws (count_most ws) in
        entry-back (head_for (entry_format size bits) n) (head_length n) size bits (take n ws) j (head-size (entry_format size bits) n) (omega (arith, l, within))
        ∙ rw (get_or-take n ws j 0 within) (mod-eq_of_lt ((format-holds ws words).entries j (omega (arith, within, count_most ws))))

    entry_read : be (size_in s) s (place_of s g) ≡ entry_of bits (get_or ws j 0)
    unfolding place_of
    entry_read = rw (head.start_is, head.count-is, size_is) there

    -- what is written reads back (G8): the word of glyph g, or the last where g is past the end
    pub glyph-back : read_map (map_bytes ws) g ≡ Ok (get_or ws (entry_of_glyph (length ws) g) 0)
    unfolding read_map
    glyph-back =
        let inside : j < length ws = omega (arith, within, count_most ws) in
        rw (sound s fits, entry_read, bits_is)
        (word_back bits (get_or ws j 0) (all-get_or (λ w. w < 4294967296) ws j 0 words inside) ((format-holds ws words).inners j inside)
        ∙ ap Ok (kept_back ws some g))

-- no words give the empty map (G5), and reading it is refused (G9)
pub empty-map : map_bytes [] ≡ 0 ∷ 0 ∷ 0 ∷ 0 ∷ []
unfolding map_bytes head_for entry_format map_size map_bits inner_bit_count count_leading_zeros count_of kept_of entries_of bytes_for_entry entry_of ored bytes_of
empty-map = refl

pub empty-refused : (g : ℕ) → read_map (map_bytes []) g ≡ Err BadGlyphMap
unfolding read_map is_map_ok be entries_from count_in
empty-refused g = rw empty-map
