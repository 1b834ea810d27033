-- The walk's steps, on entries that stand in a list of words. Assumes nothing.
use mathlib.Core.Path.{◌≡◌, ◌∙◌}
use mathlib.Core.List.{List}
use Prim.Native.Nat.{ℕ, ◌+◌, ◌-◌, ◌*◌, ◌≤◌, ◌<◌}
use native.Mathlib.Nat.{add-zero, sub-zero}
use native.Mathlib.Omega.{arith}
use lib.ListN.{get_or}
use borrow.Author.Tests.{lt-ltb, le-ltb}
use Rattle.laws.specs.Signed.{zero_word}
use Rattle.sets.specs.declared.Parting.TheVariants.{Equal, Smaller, Larger}
use Rattle.sets.specs.Order.{part_none, part_head, parting}
use Rattle.sets.specs.Lent.{entries}
use Rattle.sets.proofs.SetLaws.{by_less, by-more, by-rest, entries-cons}
use Rattle.comparing.specs.LentWay.{Next}

-- the case of two heads
module _ (w : List ℕ) (a m b n : ℕ) (p : 0 < m) (q : 0 < n) where
  pub next-left : get_or w a 0 < get_or w b 0 → Next w a m b n (get_or w a 0) (get_or w (a + 1) 0) zero_word 1 0
  unfolding parting part_head
  next-left h = record {
    some = omega arith;
    left = p;
    right = omega arith;
    rest = rw (add-zero b, sub-zero n, entries-cons a m w p, entries-cons b n w q, lt-ltb (get_or w a 0) (get_or w b 0) h);
  }

  pub next-right : get_or w b 0 < get_or w a 0 → Next w a m b n (get_or w b 0) zero_word (get_or w (b + 1) 0) 0 1
  unfolding parting part_head
  next-right h = record {
    some = omega arith;
    left = omega arith;
    right = q;
    rest = rw (add-zero a, sub-zero m, entries-cons a m w p, entries-cons b n w q, le-ltb (get_or w a 0) (get_or w b 0) (omega arith), lt-ltb (get_or w b 0) (get_or w a 0) h);
  }

  pub next_both : get_or w a 0 ≡ get_or w b 0 → Next w a m b n (get_or w a 0) (get_or w (a + 1) 0) (get_or w (b + 1) 0) 1 1
  unfolding parting part_head
  next_both h = record {
    some = omega arith;
    left = p;
    right = q;
    rest = rw (entries-cons a m w p, entries-cons b n w q, le-ltb (get_or w a 0) (get_or w b 0) (omega arith), le-ltb (get_or w b 0) (get_or w a 0) (omega arith));
  }

pub next-only-right : (w : List ℕ) (a m b n : ℕ) → m ≡ 0 → 0 < n → Next w a m b n (get_or w b 0) zero_word (get_or w (b + 1) 0) 0 1
unfolding parting part_none entries
next-only-right w a m b n e q = record {
  some = omega arith;
  left = omega arith;
  right = q;
  rest = rw (e, entries-cons b n w q);
}

pub next-only-left : (w : List ℕ) (a m b n : ℕ) → 0 < m → n ≡ 0 → Next w a m b n (get_or w a 0) (get_or w (a + 1) 0) zero_word 1 0
unfolding parting part_head entries
next-only-left w a m b n p e = record {
  some = omega arith;
  left = p;
  right = omega arith;
  rest = rw (e, entries-cons a m w p);
}

pub walk-done : (w : List ℕ) (a m b n : ℕ) → m + n ≤ 0 → parting (entries a m w) (entries b n w) ≡ Equal
unfolding parting part_none entries
walk-done w a m b n h = let p : m ≡ 0 = omega arith in let q : n ≡ 0 = omega arith in rw (p, q)

-- a step that decides, and one that does not
pub next-less : {w : List ℕ} {a m b n r v u da db : ℕ} → Next w a m b n r v u da db → v < u → parting (entries a m w) (entries b n w) ≡ Smaller r v u
next-less s h = s.rest ∙ by_less _ _ _ _ h

pub next_more : {w : List ℕ} {a m b n r v u da db : ℕ} → Next w a m b n r v u da db → u < v → parting (entries a m w) (entries b n w) ≡ Larger r v u
next_more s h = s.rest ∙ by-more _ _ _ _ h

pub next-same : {w : List ℕ} {a m b n r v u da db : ℕ} → Next w a m b n r v u da db → v ≡ u
    → parting (entries a m w) (entries b n w) ≡ parting (entries (a + 2 * da) (m - da) w) (entries (b + 2 * db) (n - db) w)
next-same s h = s.rest ∙ by-rest _ _ _ _ h
