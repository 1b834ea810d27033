-- What lies in the output after a glyph map was written: its first bytes read back every glyph's word, and all behind them is as it was. Assumes
-- nothing.
use mathlib.Core.Path.{◌≡◌, sym, ap, ◌∙◌}
use mathlib.Core.List.{List}
use Prim.Native.Nat.{ℕ, ◌+◌, ◌≤◌, ◌<◌}
use native.Mathlib.Omega.{arith}
use lib.Dec.{ltb}
use lib.ListN.{length, get_or, take, drop}
use lib.Seq.{take_at, drop_at}
use borrow.Author.Tests.{ltb-false, le-ltb}
use Rattle.std.specs.Prelude.{Ok, Err}
use Rattle.glyphs.specs.declared.write.WriteError.TheVariants.{TooManyGlyphs, GlyphMapShort}
use Rattle.laws.specs.Pick.{pick}
use Rattle.laws.specs.Every.{All}
use Rattle.laws.specs.Bytes.{over}
use Rattle.laws.proofs.Cases.{Which, which}
use Rattle.laws.proofs.Cases.Which.{holds, fails}
use Rattle.glyphs.specs.Packing.{map_bytes}
use Rattle.glyphs.specs.Reading.{entry_of_glyph, read_map}
use Rattle.glyphs.specs.Answers.{max_glyphs, glyphs_of, glyphs_left}
use Rattle.glyphs.proofs.ReadLaws.{no-inside}
use Rattle.glyphs.proofs.BackLaws.{glyph-back}

module _ (ws out : List ℕ) where
  abbrev s : List ℕ
  s = map_bytes ws

  -- what is known of a done answer
  done-is : (n : ℕ) → glyphs_of ws (length out) ≡ Ok n → (length ws ≤ max_glyphs) × (length s ≤ length out) × (length s ≡ n)
  unfolding glyphs_of
  done-is n e = go (which (ltb max_glyphs (length ws))) (which (ltb (length out) (length s))) e
    where
      go : Which (ltb max_glyphs (length ws)) → Which (ltb (length out) (length s))
          → pick (ltb max_glyphs (length ws)) (Err TooManyGlyphs) (pick (ltb (length out) (length s)) (Err GlyphMapShort) (Ok (length s))) ≡ Ok n
          → (length ws ≤ max_glyphs) × (length s ≤ length out) × (length s ≡ n)
      go (holds h) w f = let g = rw h at f in let z : ◌≡◌ {A = ℕ} 0 1 = cc in absurd (omega arith)
      go (fails h) (holds k) f = let g = rw (h, k) at f in let z : ◌≡◌ {A = ℕ} 0 1 = cc in absurd (omega arith)
      go (fails h) (fails k) f =
          let g : Ok (length s) ≡ Ok n = rw (h, k) at f in
          let z : length s ≡ n = cc in
          (ltb-false max_glyphs (length ws) h, ltb-false (length out) (length s) k, z)

  left_is : length ws ≤ max_glyphs → length s ≤ length out → glyphs_left ws out ≡ over out 0 (length s) s
  unfolding glyphs_left
  left_is h k = rw (le-ltb max_glyphs (length ws) h, le-ltb (length out) (length s) k)

  module _ (n : ℕ) (e : glyphs_of ws (length out) ≡ Ok n) where
    -- the output begins with the map
    pub left-front : take n (glyphs_left ws out) ≡ s
    left-front =
        let d = done-is n e in
        ap (take n) (left_is d.0 d.1) ∙ take_at s (drop (0 + length s) out) n d.2

    -- and nothing behind it changed
    pub left-past : drop n (glyphs_left ws out) ≡ drop n out
    left-past =
        let d = done-is n e in
        let z : 0 + length s ≡ n = omega arith in
        ap (drop n) (left_is d.0 d.1) ∙ drop_at s (drop (0 + length s) out) n d.2 ∙ ap (λ (k : ℕ). drop k out) z

    module _ (words : All (λ w. w < 4294967296) ws) (some : 0 < length ws) where
      -- THE LAW: of every glyph; one past the last has the last one's word
      pub left_back : (g : ℕ) → read_map (take n (glyphs_left ws out)) g ≡ Ok (get_or ws (entry_of_glyph (length ws) g) 0)
      left_back g =
          let d = done-is n e in
          ap (λ (b : List ℕ). read_map b g) left-front ∙ glyph-back ws words some (omega arith) g

      pub left_word : (g : ℕ) → g < length ws → read_map (take n (glyphs_left ws out)) g ≡ Ok (get_or ws g 0)
      left_word g h = left_back g ∙ ap (λ (k : ℕ). Ok (get_or ws k 0)) (sym (no-inside (length ws) g h))
