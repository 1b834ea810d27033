-- The store by itself: loops over its regions, and the part of work that is lent for its marks. Assumes nothing.
use mathlib.Core.Path.{◌≡◌, refl, sym, ap, ◌∙◌}
use mathlib.Core.Bool.{Bool, true, false}
use mathlib.Core.List.{List, [], ◌∷◌}
use Prim.Native.Nat.{ℕ, ◌+◌, ◌-◌, ◌≤◌, ◌<◌}
use native.Mathlib.Omega.{arith}
use lib.ListN.{length, get_or, take, drop, set, replicate, length-replicate}
use lib.Seq.{get_or-set_same, get_or-set_other}
use borrow.Author.Count.{below_more}
use borrow.Rule.Slice.PartMut.{put_mid}
use Rattle.laws.specs.LentRange.{Only, seg, Zeroed}
use Rattle.laws.specs.Signed.{zero_word}
use Rattle.laws.proofs.Cases.{true-false}
use Rattle.laws.proofs.PartLaws.{only-mid}
use Rattle.laws.proofs.RangeLaws.{only-refl, only-trans, only_set, only-widen}
use Rattle.laws.proofs.ZeroLaws.{zeroed-part}
use Rattle.reader.proofs.StoreLaws.{zeros-at}
use Rattle.cells.specs.Lent.{LooksAhead}
use Rattle.stores.specs.Stores.{parse, parses}
use Rattle.judging.specs.LentJudge.{Looked, Firsts, Filled, SetOut}

-- ---- the word of zero for each

pub record Filling (at n : ℕ) (old new : List ℕ) (i : ℕ) : Type 0 where
  pub within : i ≤ n
  pub only : Only ((at, n) ∷ []) old new
  pub done : (k : ℕ) → k < i → get_or new (at + k) 0 ≡ zero_word

module _ (at n : ℕ) (old : List ℕ) (room : at + n ≤ length old) where
  pub filling-start : Filling at n old old 0
  filling-start = record { within = omega arith; only = only-refl ((at, n) ∷ []) old; done = λ k h. absurd (omega arith) }

  pub filling-more : (new : List ℕ) (i : ℕ) → Filling at n old new i → i < n → Filling at n old (set new (at + i) zero_word) (i + 1)
  filling-more new i g h = record {
    within = omega arith;
    only = only-trans g.only (only_set ((at, n) ∷ []) new (at + i) zero_word (λ o. omega (arith, o.0.apart (omega arith))));
    done = below_more _ _
        (λ k l. get_or-set_other new (at + i) (at + k) zero_word 0 (λ z. omega arith) ∙ g.done k l)
        (get_or-set_same new (at + i) zero_word 0 (omega (arith, g.only.long)));
  }

  pub filling-done : (new : List ℕ) (i : ℕ) → Filling at n old new i → n ≤ i → Filled at n old new
  filling-done new i g h = record { only = g.only; is = λ k l. g.done k (omega arith) }

-- and the zeros of the store behind them
pub set_out : (store : List ℕ) (at n : ℕ) (old mid new : List ℕ) → Filled at n old mid → LooksAhead store (at + n) mid new → SetOut store at n old new
set_out store at n old mid new f l = record {
  only = only-trans
      (only-widen at (n + length store) (omega arith) (omega arith) f.only)
      (only-widen at (n + length store) (omega arith) (omega arith) l.only);
  is = λ k h. l.only.kept (at + k) (record { apart = λ z. absurd (omega arith) }, tt) ∙ f.is k h;
  ahead = l.ahead;
}

-- ---- each its own number

pub record Firsting (w : List ℕ) (first n q : ℕ) : Type 0 where
  pub within : q ≤ n
  pub own : (k : ℕ) → k < q → get_or w (first + k) 0 ≡ k

module _ (w : List ℕ) (first n : ℕ) where
  pub firsting-start : Firsting w first n 0
  firsting-start = record { within = omega arith; own = λ k h. absurd (omega arith) }

  pub firsting-more : (q x : ℕ) → Firsting w first n q → q < n → x ≡ get_or w (first + q) 0 → x ≡ q → Firsting w first n (q + 1)
  firsting-more q x g h e f = record { within = omega arith; own = below_more _ _ g.own (sym e ∙ f) }

  pub firsting-bad : (q x : ℕ) → q < n → x ≡ get_or w (first + q) 0 → (x ≡ q → ⊥) → Firsts w first n false
  firsting-bad q x h e d = record {
    own = λ z. absurd (true-false z refl);
    not_own = λ z. record { region = q; within = h; other = λ f. d (e ∙ f) };
  }

  pub firsting-done : (q : ℕ) → Firsting w first n q → n ≤ q → Firsts w first n true
  firsting-done q g h = record { own = λ z k l. g.own k (omega arith); not_own = λ z. absurd (true-false refl z) }

-- ---- the marks

-- a part that is zeros
module _ {at n : ℕ} {old new : List ℕ} (z : Zeroed at n old new) (room : at + n ≤ length old) where
  part-is : take (at + n - at) (drop at new) ≡ replicate n 0
  unfolding seg
  part-is = let e : at + n - at ≡ n = omega arith in rw e (zeroed-part z room)

  pub marks-fit : (n ≤ length (take (at + n - at) (drop at new))) × ((k : ℕ) → get_or (take (at + n - at) (drop at new)) k 0 ≡ 0)
  marks-fit = rw part-is (omega (arith, length-replicate {A = ℕ} n 0), zeros-at n)

  part-long : length (take (at + n - at) (drop at new)) ≡ at + n - at
  part-long = ap length part-is ∙ length-replicate {A = ℕ} n 0 ∙ (let e : n ≡ at + n - at = omega arith in e)

  pub looked : (store : List ℕ) → n ≡ length store → (seen : List ℕ) → length seen ≡ length (take (at + n - at) (drop at new)) → (r : Bool) → r ≡ parses (parse store)
      → Looked store at old (put_mid at (at + n - at) new seen) r
  looked store e seen l r is = record {
    only = rw (← e) (only-trans z.only (only-mid at n new seen (omega (arith, z.only.long)) (l ∙ part-long)));
    is = is;
  }
