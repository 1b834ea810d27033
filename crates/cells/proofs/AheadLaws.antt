-- Zeros counted from the last byte to the first. Assumes nothing.
use mathlib.Core.Path.{◌≡◌, sym, ◌∙◌}
use mathlib.Core.List.{List, [], ◌∷◌}
use mathlib.Core.Logic.{⊎_elim}
use Prim.Native.Nat.{ℕ, ◌+◌, ◌-◌, ◌≤◌, ◌<◌}
use native.Mathlib.Decide.{ℕ_discrete}
use native.Mathlib.Omega.{arith}
use lib.ListN.{length, get_or, set}
use lib.Seq.{get_or-set_same, get_or-set_other}
use Rattle.laws.specs.LentRange.{Only}
use Rattle.laws.proofs.Cases.{lt-or-ge}
use Rattle.laws.proofs.RangeLaws.{only-trans, only_set}
use Rattle.cells.specs.Lent.{ZerosFrom, OneMore}

-- ---- one byte before others

module _ (s : List ℕ) (p z : ℕ) (low : 0 < p) (f : ZerosFrom s p z) where
  byte-zeros : get_or s (p - 1) 0 ≡ 0 → (r : ℕ) → r ≤ z + 1 → (i : ℕ) → i < r → get_or s (p - 1 + i) 0 ≡ 0
  byte-zeros b r h i l =
      ⊎_elim
      (λ (q : i < 1). let e : p - 1 + i ≡ p - 1 = omega arith in rw e b)
      (λ (q : 1 ≤ i). let e : p - 1 + i ≡ p + (i - 1) = omega arith in rw e (f.zeros (i - 1) (omega arith)))
      (lt-or-ge i 1)

  pub one_none : (get_or s (p - 1) 0 ≡ 0 → ⊥) → ZerosFrom s (p - 1) 0
  one_none d = record {
    zeros = λ i h. absurd (omega arith);
    stops = λ a b e. d (let y : p - 1 + 0 ≡ p - 1 = omega arith in rw y at e);
  }

  pub one-next : get_or s (p - 1) 0 ≡ 0 → ZerosFrom s (p - 1) (z + 1)
  one-next b = record {
    zeros = byte-zeros b (z + 1) (omega arith);
    stops = λ a l e. let y : p - 1 + (z + 1) ≡ p + z = omega arith in f.stops (omega arith) (omega arith) (rw y at e);
  }

  pub one-full : get_or s (p - 1) 0 ≡ 0 → 4294967295 ≤ z → ZerosFrom s (p - 1) z
  one-full b h = record { zeros = byte-zeros b z (omega arith); stops = λ a l e. absurd (omega arith) }

  pub one-more-is : (byte r : ℕ) → byte ≡ get_or s (p - 1) 0 → OneMore byte z r → ZerosFrom s (p - 1) r
  one-more-is byte r e m = go (ℕ_discrete byte 0)
    where
      go : Dec (byte ≡ 0) → ZerosFrom s (p - 1) r
      go (yes b) =
          ⊎_elim
          (λ (q : z < 4294967295). rw (m.more b q) (one-next (sym e ∙ b)))
          (λ (q : 4294967295 ≤ z). rw (m.full b q) (one-full (sym e ∙ b) q))
          (lt-or-ge z 4294967295)
      go (no d) = rw (m.none d) (one_none (λ y. d (e ∙ y)))

-- ---- on the way

-- from byte p on it is said, and so many zeros are there from p on
pub record Looking (s : List ℕ) (at : ℕ) (old new : List ℕ) (z p : ℕ) : Type 0 where
  pub within : p ≤ length s
  pub only : Only ((at, length s) ∷ []) old new
  pub says : (q : ℕ) → p ≤ q → q < length s → ZerosFrom s q (get_or new (at + q) 0)
  pub here : ZerosFrom s p z

module _ (s : List ℕ) (at : ℕ) (old : List ℕ) (room : at + length s ≤ length old) where
  pub look-more : (new : List ℕ) (z p byte r : ℕ) → Looking s at old new z p → 0 < p → byte ≡ get_or s (p - 1) 0 → OneMore byte z r → Looking s at old (set new (at + (p - 1)) r) r (p - 1)
  look-more new z p byte r l low e m = record {
    within = omega (arith, l.within);
    only = only-trans l.only (only_set ((at, length s) ∷ []) new (at + (p - 1)) r (λ o. omega (arith, o.0.apart (omega (arith, l.within)), l.within)));
    says = λ q a b.
        ⊎_elim
        (λ (h : q < p).
        let y : q ≡ p - 1 = omega arith in
        rw (y, get_or-set_same new (at + (p - 1)) r 0 (omega (arith, l.only.long, l.within))) f)
        (λ (h : p ≤ q). rw (get_or-set_other new (at + (p - 1)) (at + q) r 0 (λ y. omega arith)) (l.says q h b))
        (lt-or-ge q p);
    here = f;
  }
    where
      f : ZerosFrom s (p - 1) r
      f = one-more-is s p z low l.here byte r e m
