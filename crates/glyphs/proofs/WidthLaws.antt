-- Laws of the widths of entries: the inner bits and the entry bytes hold what they were counted for, and none fewer do. Assumes nothing.
use mathlib.Core.Path.{◌≡◌, refl}
use mathlib.Core.List.{List}
use mathlib.Core.Logic.{⊎_elim}
use Prim.Native.Nat.{ℕ, suc, ◌+◌, ◌-◌, ◌*◌, ◌/◌, ◌%◌, ◌^◌, ◌≤◌, ◌<◌}
use native.Mathlib.Nat.{pow-suc}
use native.Mathlib.Numerals.{add-one}
use native.Mathlib.Omega.{arith}
use lib.Dec.{eqb}
use lib.Pow.{pow_mono}
use lib.Bits.{bit_or}
use lib.Count.{count_leading_zeros, leading_length}
use lib.ListN.{length, get_or, drop, drop_of_length-le}
use lib.Seq.{drop-cons}
use borrow.Author.Tests.{eq-eqb, ne_eqb, eqb-true, eqb-false, lt-ltb, le-ltb}
use Rattle.laws.proofs.Cases.{Which, which, lt-or-ge}
use Rattle.laws.proofs.Cases.Which.{holds, fails}
use Rattle.laws.proofs.Products.{product}
use Rattle.laws.proofs.BytesLaws.{pow-top}
use Rattle.glyphs.specs.Packing.{inner_of, ored, bits_of, inner_bit_count, entry_of, bytes_for_entry}

-- ---- all words ored, one more

pub ored-more : (all : ℕ) (ws : List ℕ) (i : ℕ) → i < length ws → ored all (drop i ws) ≡ ored (bit_or all (get_or ws i 0)) (drop (i + 1) ws)
unfolding ored
ored-more all ws i h = rw (drop-cons ws i 0 h, add-one)

pub ored-done : (all : ℕ) (ws : List ℕ) (i : ℕ) → length ws ≤ i → ored all (drop i ws) ≡ all
unfolding ored
ored-done all ws i h = rw (drop_of_length-le ws h)

-- ---- the bits of one number

bits-hold : (n : ℕ) → n < 65536 → n < 2 ^ bits_of n
bits-hold n h =
    let l = leading_length 16 n h in
    let e : 16 - count_leading_zeros 16 n ≡ l.0 = omega (arith, l.1) in
    rw e l.2

pub bits-least : (n k : ℕ) → n < 65536 → n < 2 ^ k → bits_of n ≤ k
bits-least n k h b = ⊎_elim few (λ x. x) (lt-or-ge k (bits_of n))
  where
    few : k < bits_of n → bits_of n ≤ k
    few lt =
        let l = leading_length 16 n h in
        let m : 2 ^ suc k ≤ 2 ^ l.0 = pow_mono (omega (arith, l.1)) in
        absurd (omega (arith, l.3, pow-suc 2 k))

-- ---- the inner bits

module _ (all : ℕ) where
  pub bits_none : bits_of (inner_of all) ≡ 0 → 1 ≡ inner_bit_count all
  unfolding inner_bit_count
  bits_none e = rw (eq-eqb (bits_of (inner_of all)) 0 e)

  pub bits-some : (bits_of (inner_of all) ≡ 0 → ⊥) → bits_of (inner_of all) ≡ inner_bit_count all
  unfolding inner_bit_count
  bits-some d = rw (ne_eqb (bits_of (inner_of all)) 0 d)

  inner-small : inner_of all < 65536
  inner-small = omega arith

  pub inner-hold : inner_of all < 2 ^ inner_bit_count all
  inner-hold = go (which (eqb (bits_of (inner_of all)) 0))
    where
      go : Which (eqb (bits_of (inner_of all)) 0) → inner_of all < 2 ^ inner_bit_count all
      go (holds h) =
          let z = eqb-true (bits_of (inner_of all)) 0 h in
          let b = rw z at (bits-hold (inner_of all) inner-small) in
          rw (← bits_none z) (omega arith)
      go (fails h) = rw (← bits-some (eqb-false _ _ h)) (bits-hold (inner_of all) inner-small)

  pub inner-some : 1 ≤ inner_bit_count all
  inner-some = go (which (eqb (bits_of (inner_of all)) 0))
    where
      go : Which (eqb (bits_of (inner_of all)) 0) → 1 ≤ inner_bit_count all
      go (holds h) = omega (arith, bits_none (eqb-true _ _ h))
      go (fails h) = let d = eqb-false _ _ h in omega (arith, bits-some d, d)

  pub inner-most : inner_bit_count all ≤ 16
  inner-most = go (which (eqb (bits_of (inner_of all)) 0))
    where
      go : Which (eqb (bits_of (inner_of all)) 0) → inner_bit_count all ≤ 16
      go (holds h) = omega (arith, bits_none (eqb-true _ _ h))
      go (fails h) = omega (arith, bits-some (eqb-false _ _ h))

  pub inner-least : (k : ℕ) → 1 ≤ k → inner_of all < 2 ^ k → inner_bit_count all ≤ k
  inner-least k p b = go (which (eqb (bits_of (inner_of all)) 0))
    where
      go : Which (eqb (bits_of (inner_of all)) 0) → inner_bit_count all ≤ k
      go (holds h) = omega (arith, bits_none (eqb-true _ _ h))
      go (fails h) = omega (arith, bits-some (eqb-false _ _ h), bits-least (inner_of all) k inner-small b)

-- ---- powers

pub power-most : (bits : ℕ) → bits ≤ 16 → 2 ^ bits ≤ 65536
power-most bits h = pow_mono h

-- ---- an entry

module _ (bits w p : ℕ) (h : bits ≤ 16) (f : w < 4294967296) (e : p ≡ 2 ^ bits) where
  entry-product : w / 65536 * p ≤ 65535 * 65536
  entry-product = product 65535 65536 (omega arith) (omega (arith, power-most bits h))

  pub entry-room : w / 65536 * p + w % 65536 < 4294967296
  entry-room = omega (arith, entry-product)

  pub entry-is : w / 65536 * p + w % 65536 ≡ entry_of bits w
  unfolding entry_of
  entry-is = rw e

pub entry-below : (bits w : ℕ) → bits ≤ 16 → w < 4294967296 → entry_of bits w < 4294967296
entry-below bits w h f = rw (← entry-is bits w (2 ^ bits) h f refl) (entry-room bits w (2 ^ bits) h f refl)

-- ---- the bytes of an entry

module _ (e : ℕ) where
  pub bytes_one : e < 256 → 1 ≡ bytes_for_entry e
  unfolding bytes_for_entry
  bytes_one h = rw (lt-ltb e 256 h)

  pub bytes-two : 256 ≤ e → e < 65536 → 2 ≡ bytes_for_entry e
  unfolding bytes_for_entry
  bytes-two g h = rw (le-ltb e 256 g, lt-ltb e 65536 h)

  pub bytes-three : 65536 ≤ e → e < 16777216 → 3 ≡ bytes_for_entry e
  unfolding bytes_for_entry
  bytes-three g h = rw (le-ltb e 256 (omega arith), le-ltb e 65536 g, lt-ltb e 16777216 h)

  pub bytes-four : 16777216 ≤ e → 4 ≡ bytes_for_entry e
  unfolding bytes_for_entry
  bytes-four g = rw (le-ltb e 256 (omega arith), le-ltb e 65536 (omega arith), le-ltb e 16777216 g)

  -- a fact of the bytes, by their four cases
  by_bytes : (P : ℕ → Type 0) → (e < 256 → P 1) → (256 ≤ e → e < 65536 → P 2) → (65536 ≤ e → e < 16777216 → P 3) → (16777216 ≤ e → P 4) → P (bytes_for_entry e)
  by_bytes P a b c d =
      ⊎_elim (λ h. rw (← bytes_one h) (a h))
      (λ g. ⊎_elim (λ h. rw (← bytes-two g h) (b g h))
      (λ k. ⊎_elim (λ h. rw (← bytes-three k h) (c k h)) (λ l. rw (← bytes-four l) (d l)) (lt-or-ge e 16777216))
      (lt-or-ge e 65536))
      (lt-or-ge e 256)

  pub bytes-some : 1 ≤ bytes_for_entry e
  bytes-some = by_bytes (λ k. 1 ≤ k) (λ h. omega arith) (λ g h. omega arith) (λ g h. omega arith) (λ g. omega arith)

  pub bytes_most : bytes_for_entry e ≤ 4
  bytes_most = by_bytes (λ k. k ≤ 4) (λ h. omega arith) (λ g h. omega arith) (λ g h. omega arith) (λ g. omega arith)

  pub bytes-hold : e < 4294967296 → e < 256 ^ bytes_for_entry e
  bytes-hold l = by_bytes (λ k. e < 256 ^ k) (λ h. h) (λ g h. h) (λ g h. h) (λ g. l)

  pub bytes-least : (k : ℕ) → 1 ≤ k → e < 256 ^ k → bytes_for_entry e ≤ k
  bytes-least k p b = by_bytes (λ n. n ≤ k) (λ h. p) (λ g h. more 1 g) (λ g h. more 2 g) (λ g. more 3 g)
    where
      more : (j : ℕ) → 256 ^ j ≤ e → suc j ≤ k
      more j g = ⊎_elim (λ h. h) (λ h. let m = pow-top j h in absurd (omega arith)) (lt-or-ge j k)
