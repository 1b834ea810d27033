-- The entry format of a list of words holds every one of them, and none with fewer inner bits or fewer bytes does. Assumes nothing.
use mathlib.Core.Path.{◌≡◌, refl, sym, ◌∙◌}
use mathlib.Core.List.{List, [], ◌∷◌}
use Prim.Native.Nat.{ℕ, zero, suc, ◌+◌, ◌*◌, ◌/◌, ◌%◌, ◌^◌, ◌≤◌, ◌<◌}
use native.Mathlib.Nat.{pow-suc, mul-le-mul_right}
use native.Mathlib.Omega.{arith}
use lib.Pow.{pow-add, pow_pos}
use lib.Bits.{bit_or, or_lt, or_add_and, and_le_l, and_le_r, or_block, or_shr, or_mod}
use lib.ListN.{length, get_or}
use Rattle.laws.specs.Every.{All}
use Rattle.laws.proofs.EveryLaws.{all-get_or}
use Rattle.glyphs.specs.Packing.{outer_of, inner_of, ored, together, inner_bit_count, entry_of, map_bits, map_size}
use Rattle.glyphs.proofs.WidthLaws.{inner-hold, inner-some, inner-most, inner-least, entry-below, bytes-some, bytes_most, bytes-hold, bytes-least}

-- both halves of a are at most those of b
record Under (a b : ℕ) : Type 0 where
  outer : outer_of a ≤ outer_of b
  inner : inner_of a ≤ inner_of b

or_left : (a b : ℕ) → a ≤ bit_or a b
or_left a b = omega (arith, or_add_and a b, and_le_r a b)

or_right : (a b : ℕ) → b ≤ bit_or a b
or_right a b = omega (arith, or_add_and a b, and_le_l a b)

under_left : (a b : ℕ) → Under a (bit_or a b)
under_left a b = record {
  outer = rw (or_shr a b 16) (or_left (a / 65536) (b / 65536));
  inner = rw (or_mod a b 16) (or_left (a % 65536) (b % 65536));
}

under-right : (a b : ℕ) → Under b (bit_or a b)
under-right a b = record {
  outer = rw (or_shr a b 16) (or_right (a / 65536) (b / 65536));
  inner = rw (or_mod a b 16) (or_right (a % 65536) (b % 65536));
}

under-then : (a b c : ℕ) → Under a b → Under b c → Under a c
under-then a b c p q = record { outer = omega (arith, p.outer, q.outer); inner = omega (arith, p.inner, q.inner) }

ored-under : (all : ℕ) (ws : List ℕ) → Under all (ored all ws)
unfolding ored
ored-under all [] = record { outer = omega arith; inner = omega arith }
ored-under all (w ∷ ws) = under-then all (bit_or all w) (ored (bit_or all w) ws) (under_left all w) (ored-under (bit_or all w) ws)

ored-each : (all : ℕ) (ws : List ℕ) (i : ℕ) → i < length ws → Under (get_or ws i 0) (ored all ws)
unfolding ored
ored-each all [] i h = absurd (omega arith)
ored-each all (w ∷ ws) zero h = under-then w (bit_or all w) (ored (bit_or all w) ws) (under-right all w) (ored-under (bit_or all w) ws)
ored-each all (w ∷ ws) (suc i) h = ored-each (bit_or all w) ws i (omega arith)

-- what holds of each and goes over to two ored holds of all ored
ored-keeps : (P : ℕ → Type 0) → ((a b : ℕ) → P a → P b → P (bit_or a b)) → (all : ℕ) (ws : List ℕ) → P all → ((i : ℕ) → i < length ws → P (get_or ws i 0)) → P (ored all ws)
unfolding ored
ored-keeps P f all [] p h = p
ored-keeps P f all (w ∷ ws) p h = ored-keeps P f (bit_or all w) ws (f all w p (h 0 (omega arith))) (λ i k. h (suc i) (omega arith))

entry-under : (bits a b : ℕ) → Under a b → entry_of bits a ≤ entry_of bits b
unfolding entry_of
entry-under bits a b u = omega (arith, u.inner, mul-le-mul_right (2 ^ bits) u.outer)

pub together-below : (ws : List ℕ) → All (λ w. w < 4294967296) ws → together ws < 4294967296
together-below ws a = ored-keeps (λ w. w < 4294967296) (λ a b p q. or_lt 32 a b p q) 0 ws (omega arith) (λ i h. all-get_or (λ w. w < 4294967296) ws i 0 a h)

-- ---- a width that holds all words

pub record HoldsAll (size bits : ℕ) (ws : List ℕ) : Type 0 where
  pub inners : (i : ℕ) → i < length ws → inner_of (get_or ws i 0) < 2 ^ bits
  pub entries : (i : ℕ) → i < length ws → entry_of bits (get_or ws i 0) < 256 ^ size

pub format-holds : (ws : List ℕ) → All (λ w. w < 4294967296) ws → HoldsAll (map_size ws) (map_bits ws) ws
unfolding map_bits map_size
format-holds ws a =
    let t = together ws in
    let b = inner_bit_count t in
    record {
      inners = λ i h. omega (arith, inner-hold t, (ored-each 0 ws i h).inner);
      entries = λ i h. omega (arith, entry-under b (get_or ws i 0) t (ored-each 0 ws i h), bytes-hold (entry_of b t) (entry-below b t (inner-most t) (together-below ws a)));
    }

pub bits-fewest : (ws : List ℕ) (k : ℕ) → 1 ≤ k → ((i : ℕ) → i < length ws → inner_of (get_or ws i 0) < 2 ^ k) → map_bits ws ≤ k
unfolding map_bits
bits-fewest ws k p h =
    inner-least (together ws) k p
    (ored-keeps (λ w. inner_of w < 2 ^ k) (λ a b x y. rw (or_mod a b 16) (or_lt k (a % 65536) (b % 65536) x y)) 0 ws (pow_pos k) h)

bytes_bits : (k : ℕ) → 256 ^ k ≡ 2 ^ (8 * k)
bytes_bits zero = refl
bytes_bits (suc k) =
    let e : 8 * suc k ≡ 8 * k + 8 = omega arith in
    rw (pow-suc, bytes_bits k, e, pow-add 2 (8 * k) 8)

entry-or : (bits a b : ℕ) → inner_of a < 2 ^ bits → inner_of b < 2 ^ bits → entry_of bits (bit_or a b) ≡ bit_or (entry_of bits a) (entry_of bits b)
unfolding entry_of
entry-or bits a b p q =
    sym (or_block bits (a / 65536) (b / 65536) (a % 65536) (b % 65536) p q ∙ rw (← or_shr a b 16, ← or_mod a b 16))

-- an entry that is held by so many bits and bytes
record Both (bits k w : ℕ) : Type 0 where
  inner : inner_of w < 2 ^ bits
  entry : entry_of bits w < 256 ^ k

both-or : (bits k a b : ℕ) → Both bits k a → Both bits k b → Both bits k (bit_or a b)
both-or bits k a b p q = record {
  inner = rw (or_mod a b 16) (or_lt bits (a % 65536) (b % 65536) p.inner q.inner);
  entry =
      rw (entry-or bits a b p.inner q.inner, bytes_bits k)
      (or_lt (8 * k) (entry_of bits a) (entry_of bits b) (rw (bytes_bits k) at p.entry) (rw (bytes_bits k) at q.entry));
}

both-none : (bits k : ℕ) → Both bits k 0
unfolding entry_of
both-none bits k = record { inner = pow_pos bits; entry = rw (bytes_bits k) (omega (arith, pow_pos (8 * k))) }

pub bytes-fewest : (ws : List ℕ) (k : ℕ) → 1 ≤ k → All (λ w. w < 4294967296) ws
    → ((i : ℕ) → i < length ws → entry_of (map_bits ws) (get_or ws i 0) < 256 ^ k) → map_size ws ≤ k
unfolding map_size
bytes-fewest ws k p a h =
    let b = map_bits ws in
    bytes-least (entry_of b (together ws)) k p
    (ored-keeps (Both b k) (both-or b k) 0 ws (both-none b k)
    (λ i l. record { inner = (format-holds ws a).inners i l; entry = h i l })).entry

-- ---- how wide they can be

module _ (ws : List ℕ) where
  pub bits_range : (1 ≤ map_bits ws) × (map_bits ws ≤ 16)
  unfolding map_bits
  bits_range = (inner-some (together ws), inner-most (together ws))

  pub size-range : (1 ≤ map_size ws) × (map_size ws ≤ 4)
  unfolding map_size
  size-range = let e = entry_of (map_bits ws) (together ws) in (bytes-some e, bytes_most e)
