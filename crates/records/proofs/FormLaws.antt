-- The bytes that must be 0, part by part; kinds and turns by their bytes. Assumes nothing.
use mathlib.Core.Path.{◌≡◌, refl, sym, ◌∙◌}
use mathlib.Core.List.{List, [], ◌∷◌, ◌++◌}
use Prim.Native.Nat.{ℕ, zero, suc, ◌+◌, ◌-◌, ◌≤◌, ◌<◌}
use native.Mathlib.Numerals.{add-one}
use native.Mathlib.Omega.{arith}
use lib.ListN.{get_or}
use lib.Dec.{eqb}
use borrow.Author.Tests.{eq-eqb, ne_eqb}
use Rattle.laws.specs.Pick.{pick}
use Rattle.laws.specs.Every.{All}
use Rattle.laws.specs.Bounded.{tabulate}
use Rattle.laws.proofs.Cases.{Which, which}
use Rattle.laws.proofs.Cases.Which.{holds, fails}
use Rattle.said.specs.Records.{first_not_zero}
use Rattle.records.specs.Lent.{between}

-- ---- one part: what is left of it answers for the whole

module _ (r : List ℕ) (b to : ℕ) where
  next : b < to → between b to ≡ b ∷ between (b + 1) to
  unfolding tabulate
  next l = let n : to - b ≡ suc (to - (b + 1)) = omega arith in rw (n, add-one b)

  pub look-here : b < to → (get_or r b 0 ≡ 0 → ⊥) → b ≡ first_not_zero r (between b to)
  unfolding first_not_zero
  look-here l n = rw (next l, ne_eqb (get_or r b 0) 0 n)

  pub look-more : b < to → get_or r b 0 ≡ 0 → first_not_zero r (between b to) ≡ first_not_zero r (between (b + 1) to)
  unfolding first_not_zero
  look-more l z = rw (next l, eq-eqb (get_or r b 0) 0 z)

  pub look_none : to ≤ b → 0 ≡ first_not_zero r (between b to)
  unfolding first_not_zero tabulate
  look_none l = let n : to - b ≡ 0 = omega arith in rw n

-- ---- two parts

stays : (r a b : List ℕ) → (first_not_zero r a ≡ 0 → ⊥) → first_not_zero r (a ++ b) ≡ first_not_zero r a
unfolding first_not_zero
stays r [] b h = absurd (h refl)
stays r (x ∷ a) b h = go (λ k. stays r a b k) (which (eqb (get_or r x 0) 0)) h
  where
    go : ((first_not_zero r a ≡ 0 → ⊥) → first_not_zero r (a ++ b) ≡ first_not_zero r a) → Which (eqb (get_or r x 0) 0)
        → (pick (eqb (get_or r x 0) 0) (first_not_zero r a) x ≡ 0 → ⊥)
        → pick (eqb (get_or r x 0) 0) (first_not_zero r (a ++ b)) x ≡ pick (eqb (get_or r x 0) 0) (first_not_zero r a) x
    go rec (holds e) h = rw e (rec (rw e at h))
    go rec (fails e) h = rw e

goes_on : (r a b : List ℕ) → All (λ x. 0 < x) a → first_not_zero r a ≡ 0 → first_not_zero r (a ++ b) ≡ first_not_zero r b
unfolding first_not_zero
goes_on r [] b p h = refl
goes_on r (x ∷ a) b p h = go (λ k. goes_on r a b p.1 k) (which (eqb (get_or r x 0) 0)) h
  where
    go : (first_not_zero r a ≡ 0 → first_not_zero r (a ++ b) ≡ first_not_zero r b) → Which (eqb (get_or r x 0) 0)
        → pick (eqb (get_or r x 0) 0) (first_not_zero r a) x ≡ 0
        → pick (eqb (get_or r x 0) 0) (first_not_zero r (a ++ b)) x ≡ first_not_zero r b
    go rec (holds e) h = rw e (rec (rw e at h))
    go rec (fails e) h = let z = rw e at h in let s = p.0 in absurd (omega arith)

some : (a n : ℕ) → 0 < a → All (λ x. 0 < x) (tabulate a n (λ k. k))
unfolding tabulate
some a zero h = tt
some a (suc n) h = (h, some (suc a) n (omega arith))

module _ (r : List ℕ) (from to then' end' x : ℕ) (is : x ≡ first_not_zero r (between from to)) where
  pub two_here : (x ≡ 0 → ⊥) → x ≡ first_not_zero r (between from to ++ between then' end')
  two_here n = is ∙ sym (stays r (between from to) (between then' end') (λ z. n (is ∙ z)))

  pub two_then : 0 < from → x ≡ 0 → (y : ℕ) → y ≡ first_not_zero r (between then' end') → y ≡ first_not_zero r (between from to ++ between then' end')
  two_then h z y e = e ∙ sym (goes_on r (between from to) (between then' end') (some from (to - from) h) (sym is ∙ z))
