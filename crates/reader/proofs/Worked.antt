-- Concrete stores, read by the definition: one statement over a list. Assumes nothing.
use mathlib.Core.Path.{◌≡◌, refl, sym, ◌∙◌}
use mathlib.Core.List.{List, [], ◌∷◌, map}
use Prim.Native.Nat.{ℕ}
use lib.IntN.{pos, negsuc}
use lib.ListN.{take}
use Rattle.laws.specs.Bytes.{be}
use Rattle.laws.specs.Signed.{signed}
use Rattle.reader.specs.declared.reader.ReadError.TheVariants.{BadStore, NoRow, NoRegion, BadGlyphMap, BadWidths}
use Rattle.reader.specs.Store.{Reading, Written, NoColumn, Refused, read_number, refusal_of, read_store, subtable_reading, is_header_ok, is_subtable_ok, words, find, are_columns_ok, column_start, column_width, cell}

-- header, offset, a list of two regions, and a subtable
abbrev with : List ℕ → List ℕ
with subtable =
    0 ∷ 1 ∷ 0 ∷ 0 ∷ 0 ∷ 12 ∷ 0 ∷ 1 ∷ 0 ∷ 0 ∷ 0 ∷ 28
    ∷ 0 ∷ 1 ∷ 0 ∷ 2 ∷ 0 ∷ 0 ∷ 0x40 ∷ 0 ∷ 0x40 ∷ 0 ∷ 0xC0 ∷ 0 ∷ 0xC0 ∷ 0 ∷ 0 ∷ 0
    ∷ subtable

-- {R0: -128, R1: 128}
abbrev p5 : List ℕ
p5 = with (0 ∷ 1 ∷ 0 ∷ 1 ∷ 0 ∷ 2 ∷ 0 ∷ 1 ∷ 0 ∷ 0 ∷ 0 ∷ 0x80 ∷ 0x80 ∷ [])

-- {R0: 100, R1: 70000}
abbrev p7 : List ℕ
p7 = with (0 ∷ 1 ∷ 0x80 ∷ 1 ∷ 0 ∷ 2 ∷ 0 ∷ 1 ∷ 0 ∷ 0 ∷ 0 ∷ 1 ∷ 0x11 ∷ 0x70 ∷ 0 ∷ 0x64 ∷ [])

-- R1 alone
abbrev one : List ℕ
one = with (0 ∷ 1 ∷ 0 ∷ 0 ∷ 0 ∷ 1 ∷ 0 ∷ 1 ∷ 0xFF ∷ [])

-- R1 named twice, and 65,535 columns
abbrev twice : List ℕ
twice = with (0 ∷ 1 ∷ 0x80 ∷ 1 ∷ 0 ∷ 2 ∷ 0 ∷ 1 ∷ 0 ∷ 1 ∷ 0 ∷ 1 ∷ 0x11 ∷ 0x70 ∷ 0 ∷ 0x64 ∷ [])

abbrev many : List ℕ
many = with (0 ∷ 1 ∷ 0x80 ∷ 1 ∷ 255 ∷ 255 ∷ 0 ∷ 1 ∷ 0 ∷ 0 ∷ 0 ∷ 1 ∷ 0x11 ∷ 0x70 ∷ 0 ∷ 0x64 ∷ [])

-- a store, outer, inner, region, and the answer
pub record Case : Type 0 where
  pub store : List ℕ
  pub outer : ℕ
  pub inner : ℕ
  pub region : ℕ
  pub answer : Reading

abbrev case : List ℕ → ℕ → ℕ → ℕ → Reading → Case
case s o i q a = record { store = s; outer = o; inner = i; region = q; answer = a }

abbrev cases : List Case
cases =
    case p7 0 0 0 (Written (pos 100))
    ∷ case p7 0 0 1 (Written (pos 70000))
    ∷ case p7 0 0 2 (Refused NoRegion)
    ∷ case p7 0 1 2 (Refused NoRow)
    ∷ case p7 1 0 0 (Refused NoRow)
    ∷ case p5 0 0 0 (Written (negsuc 127))
    ∷ case p5 0 0 1 (Written (pos 128))
    ∷ case one 0 0 0 NoColumn
    ∷ case one 0 0 1 (Written (negsuc 0))
    ∷ case (take 43 p7) 0 0 0 (Refused BadStore)
    ∷ case twice 0 0 0 (Refused BadStore)
    ∷ case many 0 0 0 (Refused BadStore)
    ∷ case [] 0 0 0 (Refused BadStore)
    ∷ []

pub reads : map (λ (c : Case). read_store c.store c.outer c.inner c.region) cases ≡ map (λ (c : Case). c.answer) cases
unfolding read_store subtable_reading is_header_ok is_subtable_ok be words find are_columns_ok column_start column_width cell signed
reads = refl

-- the refusals' numbers (R20 to R22), 0 where nothing is refused
pub refusals-worked : map (λ (c : Case). refusal_of (read_store c.store c.outer c.inner c.region)) cases ≡ 0 ∷ 0 ∷ 22 ∷ 21 ∷ 21 ∷ 0 ∷ 0 ∷ 0 ∷ 0 ∷ 20 ∷ 20 ∷ 20 ∷ 20 ∷ []
unfolding refusal_of read_store subtable_reading is_header_ok is_subtable_ok be words find are_columns_ok column_start column_width cell signed
refusals-worked = refl

-- each error's number (R20 to R22, R42, R43)
pub numbers-worked : map read_number (BadStore ∷ NoRow ∷ NoRegion ∷ BadGlyphMap ∷ BadWidths ∷ []) ≡ 20 ∷ 21 ∷ 22 ∷ 42 ∷ 43 ∷ []
numbers-worked = refl

-- two answers that meet the reader's contract are equal
pub read-once : (s : List ℕ) (outer inner region : ℕ) (a b : Reading) → a ≡ read_store s outer inner region → b ≡ read_store s outer inner region → a ≡ b
read-once s outer inner region a b p q = p ∙ sym q
