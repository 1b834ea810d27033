-- Records as three numbers of four bytes. Assumes nothing.
use mathlib.Core.Path.{◌≡◌, refl, ◌∙◌}
use mathlib.Core.List.{List, [], ◌∷◌, ◌++◌}
use Prim.Native.Nat.{ℕ, zero, suc, ◌+◌, ◌-◌, ◌*◌, ◌/◌, ◌%◌, ◌^◌, ◌≤◌, ◌<◌}
use native.Mathlib.Omega.{arith}
use lib.ListN.{length, get_or, drop, length-append}
use lib.Seq.{get_or-drop}
use borrow.Author.Tests.{lt-ltb, le-ltb}
use Rattle.laws.specs.Bytes.{be, bytes_of, over}
use Rattle.laws.specs.Signed.{signed, twos}
use Rattle.laws.proofs.BytesLaws.{bytes-length, pow-top}
use Rattle.rows.specs.Lent.{Put}
use Rattle.rows.proofs.PutLaws.{put-start, put-more, put_last}
use Rattle.recovering.specs.Recovering.{low_byte, high_byte, axis_record, value_bytes, end_record}
use Rattle.job_writing.specs.LentWrite.{three_words}

-- as many numbers as k bytes have, by a shift
pub span_is : (k : ℕ) → k ≤ 4 → (1 * 2 ^ (8 * k)) % 2 ^ 64 ≡ 256 ^ k
span_is zero h = refl
span_is (suc zero) h = refl
span_is (suc (suc zero)) h = refl
span_is (suc (suc (suc zero))) h = refl
span_is (suc (suc (suc (suc zero)))) h = refl
span_is (suc (suc (suc (suc (suc k))))) h = absurd (omega arith)

pub span_low : (k : ℕ) → k ≤ 4 → (1 * 2 ^ (8 * k)) % 2 ^ 64 ≤ 4294967296
span_low k h = let p : 256 ^ k ≤ 256 ^ 4 = pow-top 4 {i = k} h in omega (arith, span_is k h)

pub three-long : (a b c : ℕ) → length (three_words a b c) ≡ 12
three-long a b c =
    length-append (bytes_of 4 a) (bytes_of 4 b ++ bytes_of 4 c) ∙ omega (arith, bytes-length 4 a, bytes-length 4 b, bytes-length 4 c, length-append (bytes_of 4 b) (bytes_of 4 c))

pub three-put : (at a b c : ℕ) (o p q r : List ℕ) → at + 12 ≤ length o → p ≡ over o at 4 (bytes_of 4 a) → q ≡ over p (at + 4) 4 (bytes_of 4 b) → r ≡ over q (at + 8) 4 (bytes_of 4 c)
    → Put at (three_words a b c) o r (at + 12)
three-put at a b c o p q r room e f g =
    let all = three_words a b c in
    let h : at + length all ≤ length o = omega (arith, three-long a b c) in
    let x : at + 4 + 4 ≡ at + 8 = omega arith in
    let y : at + 8 + 4 ≡ at + 12 = omega arith in
    let p1 = put-more at all o o at (bytes_of 4 a) (bytes_of 4 b ++ bytes_of 4 c) p 4 h (put-start at all o) (bytes-length 4 a) e in
    let p2 = put-more at all o p (at + 4) (bytes_of 4 b) (bytes_of 4 c) q 4 h p1 (bytes-length 4 b) f in
    rw y at (put_last at all o q (at + 8) (bytes_of 4 c) r 4 (rw x at p2) (bytes-length 4 c) g)

-- the bytes of a number of four
pub four : (x a b c d : ℕ) → x / 256 / 256 / 256 % 256 ≡ a → x / 256 / 256 % 256 ≡ b → x / 256 % 256 ≡ c → x % 256 ≡ d → bytes_of 4 x ≡ a ∷ b ∷ c ∷ d ∷ []
unfolding bytes_of
four x a b c d e f g h = rw (e, f, g, h)

four_bytes : (a b c d : ℕ) → a < 256 → b < 256 → c < 256 → d < 256 → bytes_of 4 (a * 16777216 + b * 65536 + c * 256 + d) ≡ a ∷ b ∷ c ∷ d ∷ []
four_bytes a b c d h k l m = four (a * 16777216 + b * 65536 + c * 256 + d) a b c d (omega arith) (omega arith) (omega arith) (omega arith)

-- the number of the first four bytes of a record
abbrev head_of : ℕ → ℕ → ℕ → ℕ
head_of kind q a = kind * 16777216 + low_byte q * 65536 + a * 256 + high_byte q

head-is : (kind q a : ℕ) → kind < 4 → q < 65536 → a < 256 → bytes_of 4 (head_of kind q a) ≡ kind ∷ low_byte q ∷ a ∷ high_byte q ∷ []
head-is kind q a k h l = four_bytes kind (low_byte q) a (high_byte q) (omega arith) (omega arith) l (omega arith)

zero-four : bytes_of 4 0 ≡ 0 ∷ 0 ∷ 0 ∷ 0 ∷ []
zero-four = four 0 0 0 0 0 (omega arith) (omega arith) (omega arith) (omega arith)

pub value-is : (q x h : ℕ) → q < 65536 → h ≡ head_of 2 q 0 → three_words h x 0 ≡ value_bytes q x
value-is q x h l e = rw (e, head-is 2 q 0 (omega arith) l (omega arith), four x _ _ _ _ refl refl refl refl, zero-four)

pub end_is : (h : ℕ) → h ≡ head_of 3 0 0 → three_words h 0 0 ≡ end_record
end_is h e = rw (e, head-is 3 0 0 (omega arith) (omega arith) (omega arith), zero-four)

-- a number of two bytes, and two that are zero
two-four : (a b n : ℕ) → a < 256 → b < 256 → n ≡ a * 256 + b → bytes_of 4 (n * 65536) ≡ a ∷ b ∷ 0 ∷ 0 ∷ []
two-four a b n h l e =
    let x : n * 65536 / 256 ≡ n * 256 = omega arith in
    let y : n * 65536 / 256 / 256 ≡ n = omega arith in
    let z : n * 65536 / 256 / 256 / 256 ≡ a = omega arith in
    four (n * 65536) a b 0 0 (rw z (omega arith)) (rw y (omega arith)) (rw x (omega arith)) (omega arith)

-- the six bytes of an axis, as numbers of four and of two
module _ (s : List ℕ) (bytes : (k : ℕ) → get_or s k 0 < 256) (from : ℕ) where
  four_is : bytes_of 4 (be 4 s from) ≡ get_or s (from + 0) 0 ∷ get_or s (from + 1) 0 ∷ get_or s (from + 2) 0 ∷ get_or s (from + 3) 0 ∷ []
  unfolding be
  four_is =
      let a = bytes (from + 0) in
      let b = bytes (from + 1) in
      let c = bytes (from + 2) in
      let d = bytes (from + 3) in
      four (be 4 s from) (get_or s (from + 0) 0) (get_or s (from + 1) 0) (get_or s (from + 2) 0) (get_or s (from + 3) 0) (omega arith) (omega arith) (omega arith) (omega arith)

  two_is : bytes_of 4 (be 2 s (from + 4) * 65536) ≡ get_or s (from + 4 + 0) 0 ∷ get_or s (from + 4 + 1) 0 ∷ 0 ∷ 0 ∷ []
  unfolding be
  two_is = two-four (get_or s (from + 4 + 0) 0) (get_or s (from + 4 + 1) 0) (be 2 s (from + 4)) (bytes (from + 4 + 0)) (bytes (from + 4 + 1)) (omega arith)

  pub axis-is : (q a h x y : ℕ) → q < 65536 → a < 256 → h ≡ head_of 1 q a → x ≡ be 4 s from → y ≡ be 2 s (from + 4) * 65536
      → three_words h x y ≡ axis_record q a (drop from s)
  axis-is q a h x y l m e f g =
      let u : from + 4 + 0 ≡ from + 4 = omega arith in
      let v : from + 4 + 1 ≡ from + 5 = omega arith in
      rw (e, f, g, head-is 1 q a (omega arith) l m, four_is, two_is, u, v, get_or-drop from s 0 0, get_or-drop from s 1 0, get_or-drop from s 2 0, get_or-drop from s 3 0, get_or-drop from s 4 0, get_or-drop from s 5 0)

-- ---- two's complement in four bytes

module _ (k x m : ℕ) (few : k ≤ 4) (h : x < 256 ^ k) (e : m ≡ 256 ^ k) where
  pub top : m ≤ 4294967296
  top = let p : 256 ^ k ≤ 256 ^ 4 = pow-top 4 {i = k} few in omega arith

  pub four-small : 2 * x < m → x ≡ twos 4 (signed k x)
  unfolding signed twos
  four-small l = rw (lt-ltb (2 * x) (256 ^ k) (omega arith))

  pub four-large : m ≤ 2 * x → 4294967296 - m + x ≡ twos 4 (signed k x)
  unfolding signed twos
  four-large l = let t = top in rw (le-ltb (2 * x) (256 ^ k) (omega arith)) (omega arith)
