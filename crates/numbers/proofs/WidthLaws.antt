-- The answers of the width table as numbers, and that each half of a number says what it is to. Assumes nothing.
use mathlib.Core.Path.{◌≡◌}
use mathlib.Core.List.{List}
use Prim.Native.Nat.{ℕ}
use native.Mathlib.Omega.{arith}
use lib.ListN.{length}
use Rattle.std.specs.Prelude.{Ok, Err}
use Rattle.glyphs.specs.declared.write.WriteError.{WriteError}
use Rattle.widths.specs.Answers.{widths_of}
use Rattle.widths.proofs.DoneLaws.{done-half}
use Rattle.glyphs.specs.Answers.{write_number}
use Rattle.numbers.specs.WidthWords.{widths_word}
use Rattle.numbers.proofs.GlyphLaws.{Halves}

-- ---- the halves

pub widths-halves : (s ws old : List ℕ) (n : ℕ) → widths_of s ws (length old) ≡ Ok n → Halves (widths_word (widths_of s ws (length old))) 0 n
unfolding widths_word
widths-halves s ws old n f = let small = done-half s ws old n f in rw f (omega arith, omega arith)

pub short-halves : (s ws old : List ℕ) (x : WriteError) → widths_of s ws (length old) ≡ Err x → Halves (widths_word (widths_of s ws (length old))) (write_number x) 0
unfolding widths_word
short-halves s ws old x f = rw f (omega arith, omega arith)
