-- Coordinates as words: one test after another comes to the definition's. Assumes nothing.
use mathlib.Core.Path.{◌≡◌, refl, sym, ap, ◌∙◌}
use mathlib.Core.Bool.{Bool, true, false, not, ◌&&◌, ◌||◌}
use Prim.Native.Nat.{ℕ, suc, ◌+◌, ◌-◌, ◌*◌, ◌≤◌, ◌<◌}
use native.Mathlib.Omega.{arith}
use native.Mathlib.Decide.{dec_lt}
use lib.Dec.{eqb, ltb, leb}
use lib.IntN.{ℤ, pos, negsuc}
use lib.Signed.{lt_z, le_z}
use borrow.Author.Tests.{lt-ltb, le-ltb, le-leb, lt-leb, eq-eqb, ne_eqb}
use Rattle.laws.specs.Signed.{fits, is_zero, signed, zero_word, word, value}
use Rattle.laws.proofs.SignedLaws.{value-below, value-above, value-word, word-order, mag-fits}
use Rattle.panel.specs.Taken.{minus_one, one, within, around, is_sound_axis}

-- ---- the word of a coordinate

pub word_low : (x : ℕ) → x < 32768 → zero_word + x ≡ word (signed 2 x)
unfolding word signed
word_low x h = rw (lt-ltb (2 * x) 65536 (omega arith))

pub word-high : (x : ℕ) → x < 65536 → 32768 ≤ x → x + 2147418112 ≡ word (signed 2 x)
unfolding word signed
word-high x l h = rw (le-ltb (2 * x) 65536 (omega arith)) (omega arith)

signed-fits : (x : ℕ) → x < 65536 → fits 4 (signed 2 x) ≡ true
unfolding signed
signed-fits x l = go (dec_lt x 32768)
  where
    go : Dec (x < 32768) → fits 4 (signed 2 x) ≡ true
    go (yes h) = rw (lt-ltb (2 * x) 65536 (omega arith)) (mag-fits 4 (pos x) (omega arith))
    go (no h) = rw (le-ltb (2 * x) 65536 (omega arith)) (mag-fits 4 (negsuc (65536 - suc x)) (omega arith))

-- which is the coordinate
pub word_back : (x w : ℕ) → x < 65536 → w ≡ word (signed 2 x) → value w ≡ signed 2 x
word_back x w l e = ap value e ∙ value-word (signed 2 x) (signed-fits x l)

-- ---- order by words

leb-not : (a b : ℕ) → leb a b ≡ not (ltb b a)
leb-not a b = go (dec_lt b a)
  where
    go : Dec (b < a) → leb a b ≡ not (ltb b a)
    go (yes h) = rw (lt-leb a b h, lt-ltb b a h)
    go (no h) = rw (le-leb a b (omega arith), le-ltb b a (omega arith))

le_z-not : (a b : ℤ) → le_z a b ≡ not (lt_z b a)
le_z-not (pos a) (pos b) = leb-not a b
le_z-not (pos a) (negsuc b) = refl
le_z-not (negsuc a) (pos b) = refl
le_z-not (negsuc a) (negsuc b) = leb-not b a

module _ (v w : ℕ) where
  pub le-value : v ≤ w → le_z (value v) (value w) ≡ true
  le-value h = rw (le_z-not (value v) (value w), word-order w v, le-ltb w v h)

  pub gt-value : w < v → le_z (value v) (value w) ≡ false
  gt-value h = rw (le_z-not (value v) (value w), word-order w v, lt-ltb w v h)

  lt-value : v < w → lt_z (value v) (value w) ≡ true
  lt-value h = rw (word-order v w, lt-ltb v w h)

  ge-value : w ≤ v → lt_z (value v) (value w) ≡ false
  ge-value h = rw (word-order v w, le-ltb v w h)

-- -1.0, 0 and 1.0 by their words
low-is : value 2147467264 ≡ minus_one
low-is = value-below 2147467264 (omega arith)

zero_is : value 2147483648 ≡ pos 0
zero_is = value-above 2147483648 (omega arith)

high_is : value 2147500032 ≡ one
high_is = value-above 2147500032 (omega arith)

is-zero : (p : ℕ) → is_zero (value p) ≡ eqb p 2147483648
unfolding is_zero
is-zero p = go (dec_lt p zero_word)
  where
    go : Dec (p < zero_word) → is_zero (value p) ≡ eqb p 2147483648
    go (yes h) = rw (value-below p h, ne_eqb p 2147483648 (omega arith))
    go (no h) = at (dec_lt zero_word p)
      where
        at : Dec (zero_word < p) → is_zero (value p) ≡ eqb p 2147483648
        at (yes k) = rw (value-above p (omega arith), ne_eqb p 2147483648 (omega arith), ne_eqb (p - zero_word) 0 (omega arith))
        at (no k) = rw (value-above p (omega arith), eq-eqb p 2147483648 (omega arith), eq-eqb (p - zero_word) 0 (omega arith))

-- ---- the tests, one after another

module _ (s p e : ℕ) where
  pub start-after : p < s → false ≡ is_sound_axis (value s) (value p) (value e)
  unfolding is_sound_axis
  start-after h = rw (gt-value s p h)

  module _ (a : s ≤ p) where
    pub peak-after : e < p → false ≡ is_sound_axis (value s) (value p) (value e)
    unfolding is_sound_axis
    peak-after h = rw (le-value s p a, gt-value p e h)

    module _ (b : p ≤ e) where
      pub start-low : s < 2147467264 → false ≡ is_sound_axis (value s) (value p) (value e)
      unfolding is_sound_axis
      start-low h = rw (le-value s p a, le-value p e b, ← low-is, gt-value 2147467264 s h)

      module _ (l : 2147467264 ≤ s) where
        -- what is left once start is in order and not too low
        rest : Bool
        rest = le_z (value s) one && (within (value p) && (within (value e) && (not (around (value s) (value e)) || is_zero (value p))))

        low-in : (z : ℕ) → 2147467264 ≤ z → le_z minus_one (value z) ≡ true
        low-in z h = rw (← low-is) (le-value 2147467264 z h)

        high-in : (z : ℕ) → z ≤ 2147500032 → le_z (value z) one ≡ true
        high-in z h = rw (← high_is) (le-value z 2147500032 h)

        pub end-high : 2147500032 < e → false ≡ is_sound_axis (value s) (value p) (value e)
        unfolding is_sound_axis
        end-high h =
            rw (le-value s p a, le-value p e b, low-in s l, low-in p (omega arith), low-in e (omega arith))
            (go (le_z (value s) one) (le_z (value p) one))
          where
            out : le_z (value e) one ≡ false
            out = rw (← high_is) (gt-value e 2147500032 h)

            go : (x y : Bool) → false ≡ (x && (y && (le_z (value e) one && (not (around (value s) (value e)) || is_zero (value p)))))
            go true true = rw out
            go true false = refl
            go false y = refl

        module _ (h : e ≤ 2147500032) where
          all_in : is_sound_axis (value s) (value p) (value e) ≡ (not (around (value s) (value e)) || is_zero (value p))
          unfolding is_sound_axis
          all_in = rw (le-value s p a, le-value p e b, low-in s l, low-in p (omega arith), low-in e (omega arith), high-in s (omega arith), high-in p (omega arith), high-in e h)

          pub start-not-below : 2147483648 ≤ s → true ≡ is_sound_axis (value s) (value p) (value e)
          start-not-below k = sym (all_in ∙ rw (← zero_is, ge-value s 2147483648 k))

          module _ (k : s < 2147483648) where
            pub end-not-above : e ≤ 2147483648 → true ≡ is_sound_axis (value s) (value p) (value e)
            end-not-above m = sym (all_in ∙ rw (← zero_is, lt-value s 2147483648 k, ge-value 2147483648 e m))

            pub peak-there : 2147483648 < e → eqb p 2147483648 ≡ is_sound_axis (value s) (value p) (value e)
            peak-there m = sym (all_in ∙ rw (← zero_is, lt-value s 2147483648 k, lt-value 2147483648 e m) (is-zero p))
