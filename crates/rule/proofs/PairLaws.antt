-- What is true of each pair of a list of living groups, and of the pair that is chosen. Assumes nothing.
use mathlib.Core.Path.{◌≡◌, refl, ap, subst, sym}
use mathlib.Core.Logic.{◌⊎◌, inl, inr}
use mathlib.Core.Option.{Option, none, some}
use mathlib.Core.List.{List, [], ◌∷◌, ◌++◌, map}
use Prim.Native.Nat.{ℕ, zero, suc, ◌+◌, ◌<◌}
use lib.ListN.{length}
use native.Mathlib.Omega.{arith}
use Rattle.laws.specs.Bag.{weigh}
use Rattle.laws.specs.Order.{then_by, is_most}
use Rattle.laws.specs.Every.{All, EachTwo}
use Rattle.laws.proofs.Cases.{Tri, tri}
use Rattle.laws.proofs.Cases.Tri.{below, same, above}
use Rattle.laws.proofs.OrderLaws.{compared-less, compared-more, compared_same}
use Rattle.laws.proofs.EveryLaws.{all-imp, all-and, all_append, all_left, all_right, two-imp, all_map, all-unmap}
use Rattle.rule.specs.Model.{Living, Pair, Ahead, gain_of, keep_out, outs, pair_with, keep_pair, pairs, better, lead, best, worth, if_worth, choice}

-- ---- what is true of each pair of a list

pairs-cons : (P : Pair → Type 0) (g : Living) (l : List Living) → All (λ o. P (pair_with g o)) (outs l) → All (λ c. P (keep_pair g c)) (pairs l) → All P (pairs (g ∷ l))
unfolding pairs
pairs-cons P g l h k = all_append P (map (pair_with g) (outs l)) (map (keep_pair g) (pairs l)) (all_map P (pair_with g) (outs l) h) (all_map P (keep_pair g) (pairs l) k)

-- a sum over a list is what the pair has and what the rest has
module _ (f : Living → ℕ) where
  outs-sum : (l : List Living) → All (λ o. weigh f l ≡ f o.one + weigh f o.rest) (outs l)
  unfolding weigh outs keep_out
  outs-sum [] = tt
  outs-sum (g ∷ l) = (refl, all_map _ (keep_out g) (outs l) (all-imp (λ o e. omega arith) (outs l) (outs-sum l)))

  pub pairs-sum : (l : List Living) → All (λ c. weigh f l ≡ f c.first + f c.second + weigh f c.rest) (pairs l)
  unfolding weigh pairs keep_pair pair_with
  pairs-sum [] = tt
  pairs-sum (g ∷ l) =
      pairs-cons _ g l (all-imp (λ o e. omega arith) (outs l) (outs-sum l)) (all-imp (λ c e. omega arith) (pairs l) (pairs-sum l))

  pub sum-end : (l : List Living) (z : Living) → weigh f (l ++ (z ∷ [])) ≡ weigh f l + f z
  unfolding weigh
  sum-end [] z = omega arith
  sum-end (g ∷ l) z = omega (arith, sum-end l z)

-- its length
outs-length : (l : List Living) → All (λ o. length l ≡ suc (length o.rest)) (outs l)
unfolding outs keep_out
outs-length [] = tt
outs-length (g ∷ l) = (refl, all_map _ (keep_out g) (outs l) (all-imp (λ o e. ap suc e) (outs l) (outs-length l)))

pub pairs-length : (l : List Living) → All (λ c. length l ≡ suc (suc (length c.rest))) (pairs l)
unfolding pairs keep_pair pair_with
pairs-length [] = tt
pairs-length (g ∷ l) =
    pairs-cons _ g l (all-imp (λ o e. ap suc e) (outs l) (outs-length l)) (all-imp (λ c e. ap suc e) (pairs l) (pairs-length l))

-- ---- the best pair

abbrev ahead : Pair → Pair → Type 0
ahead c d = Ahead c.first c.second d.first d.second

ahead-self : (c : Pair) → ahead c c
ahead-self c = omega arith

ahead-trans : (c d e : Pair) → ahead c d → ahead d e → ahead c e
ahead-trans c d e p q =
    (omega arith, λ u. let p1 = p.1 (omega arith) in let q1 = q.1 (omega arith) in (omega arith, λ v. let p2 = p1.1 (omega arith) in let q2 = q1.1 (omega arith) in omega arith))

-- the better of two is one of them, and ahead of the other
better-one : (c d : Pair) → (ahead c d × (better c d ≡ c)) ⊎ (ahead d c × (better c d ≡ d))
unfolding better then_by is_most
better-one c d = by_gain (tri (gain_of d.first d.second) (gain_of c.first c.second))
  where
    by_second : gain_of d.first d.second ≡ gain_of c.first c.second → c.first.num ≡ d.first.num → Tri c.second.num d.second.num
        → (ahead c d × (better c d ≡ c)) ⊎ (ahead d c × (better c d ≡ d))
    by_second e f (below h) = inl ((omega arith, λ u. (omega arith, λ v. omega arith)), rw (compared_same _ _ e, compared_same _ _ f, compared-less _ _ h))
    by_second e f (same h) = inl ((omega arith, λ u. (omega arith, λ v. omega arith)), rw (compared_same _ _ e, compared_same _ _ f, compared_same _ _ h))
    by_second e f (above h) = inr ((omega arith, λ u. (omega arith, λ v. omega arith)), rw (compared_same _ _ e, compared_same _ _ f, compared-more _ _ h))

    by_first : gain_of d.first d.second ≡ gain_of c.first c.second → Tri c.first.num d.first.num
        → (ahead c d × (better c d ≡ c)) ⊎ (ahead d c × (better c d ≡ d))
    by_first e (below h) = inl ((omega arith, λ u. (omega arith, λ v. absurd (omega arith))), rw (compared_same _ _ e, compared-less _ _ h))
    by_first e (same h) = by_second e h (tri c.second.num d.second.num)
    by_first e (above h) = inr ((omega arith, λ u. (omega arith, λ v. absurd (omega arith))), rw (compared_same _ _ e, compared-more _ _ h))

    by_gain : Tri (gain_of d.first d.second) (gain_of c.first c.second) → (ahead c d × (better c d ≡ c)) ⊎ (ahead d c × (better c d ≡ d))
    by_gain (below h) = inl ((omega arith, λ e. absurd (omega arith)), rw (compared-less _ _ h))
    by_gain (same h) = by_first h (tri c.first.num d.first.num)
    by_gain (above h) = inr ((omega arith, λ e. absurd (omega arith)), rw (compared-more _ _ h))

abbrev Leads : List Pair → Option Pair → Type 0
Leads cs none = All (λ _. ⊥) cs
Leads cs (some c) = All (ahead c) cs

best-leads : (cs : List Pair) → Leads cs (best cs)
unfolding best lead
best-leads [] = tt
best-leads (c ∷ cs) = go (best cs) (best-leads cs)
  where
    by : (d : Pair) → All (ahead d) cs → (ahead c d × (better c d ≡ c)) ⊎ (ahead d c × (better c d ≡ d)) → All (ahead (better c d)) (c ∷ cs)
    by d h (inl p) = subst (λ (x : Pair). All (ahead x) (c ∷ cs)) (sym p.1) (ahead-self c, all-imp (λ e q. ahead-trans c d e p.0 q) cs h)
    by d h (inr p) = subst (λ (x : Pair). All (ahead x) (c ∷ cs)) (sym p.1) (p.0, h)

    go : (o : Option Pair) → Leads cs o → Leads (c ∷ cs) (lead c o)
    go none h = (ahead-self c, all-imp (λ e x. absurd x) cs h)
    go (some d) h = by d h (better-one c d)

-- what holds of each pair of a list holds of the best
abbrev Of : (Pair → Type 0) → Option Pair → Type 0
Of P none = Unit {0}
Of P (some c) = P c

best-in : (P : Pair → Type 0) (cs : List Pair) → All P cs → Of P (best cs)
unfolding best lead
best-in P [] h = tt
best-in P (c ∷ cs) h = go (best cs) (best-in P cs h.1)
  where
    by : (d : Pair) → P d → (ahead c d × (better c d ≡ c)) ⊎ (ahead d c × (better c d ≡ d)) → P (better c d)
    by d k (inl p) = rw p.1 h.0
    by d k (inr p) = rw p.1 k

    go : (o : Option Pair) → Of P o → Of P (lead c o)
    go none k = h.0
    go (some d) k = by d k (better-one c d)

choice-in : (P : Pair → Type 0) (l : List Living) → All P (pairs l) → Of P (choice l)
unfolding choice if_worth worth
choice-in P l h = go (best (pairs l)) (best-in P (pairs l) h)
  where
    by : (c : Pair) → P c → (n : ℕ) → Of P (worth c n)
    by c k zero = tt
    by c k (suc n) = k

    go : (o : Option Pair) → Of P o → Of P (if_worth o)
    go none k = tt
    go (some c) k = by c k (gain_of c.first c.second)

-- of a fact of each pair, a fact of each two groups
outs-ones : (Q : Living → Type 0) (l : List Living) → All (λ o. Q o.one) (outs l) → All Q l
unfolding outs keep_out
outs-ones Q [] h = tt
outs-ones Q (g ∷ l) h = (h.0, outs-ones Q l (all-unmap _ (keep_out g) (outs l) h.1))

pairs-each : (R : Living → Living → Type 0) (l : List Living) → All (λ c. R c.first c.second) (pairs l) → EachTwo R l
unfolding pairs pair_with keep_pair
pairs-each R [] h = tt
pairs-each R (g ∷ l) h = (
  outs-ones (R g) l (all-unmap _ (pair_with g) (outs l) (all_left _ (map (pair_with g) (outs l)) (map (keep_pair g) (pairs l)) h)),
  pairs-each R l (all-unmap _ (keep_pair g) (pairs l) (all_right _ (map (pair_with g) (outs l)) (map (keep_pair g) (pairs l)) h)),
)

-- what holds of each group of a list holds of the pair's two and of each in the rest
module _ (Q : Living → Type 0) where
  pub outs-all : (l : List Living) → All Q l → All (λ o. Q o.one × All Q o.rest) (outs l)
  unfolding outs keep_out
  outs-all [] h = tt
  outs-all (g ∷ l) h = (h, all_map _ (keep_out g) (outs l) (all-imp (λ o k. (k.0, (h.0, k.1))) (outs l) (outs-all l h.1)))

  pub pairs-all : (l : List Living) → All Q l → All (λ c. Q c.first × Q c.second × All Q c.rest) (pairs l)
  unfolding pairs pair_with keep_pair
  pairs-all [] h = tt
  pairs-all (g ∷ l) h =
      pairs-cons _ g l (all-imp (λ o k. (h.0, k.0, k.1)) (outs l) (outs-all l h.1)) (all-imp (λ c k. (k.0, k.1, (h.0, k.2))) (pairs l) (pairs-all l h.1))

-- what holds of each two; S is what is wanted of the pair's two with those in the rest, either way round
module _ (R S : Living → Living → Type 0) (f : (x y : Living) → R x y → S x y) (f' : (x y : Living) → R x y → S y x) where
  outs-two : (l : List Living) → EachTwo R l → All (λ o. All (S o.one) o.rest × EachTwo R o.rest) (outs l)
  unfolding outs keep_out
  outs-two [] h = tt
  outs-two (g ∷ l) h = (
    (all-imp (f g) l h.0, h.1),
    all_map _ (keep_out g) (outs l)
        (all-imp (λ o k. ((f' g o.one k.0.0, k.1.0), (k.0.1, k.1.1))) (outs l) (all-and _ _ (outs l) (outs-all (R g) l h.0) (outs-two l h.1))),
  )

  pub pairs-two : (l : List Living) → EachTwo R l → All (λ c. R c.first c.second × All (S c.first) c.rest × All (S c.second) c.rest × EachTwo R c.rest) (pairs l)
  unfolding pairs pair_with keep_pair
  pairs-two [] h = tt
  pairs-two (g ∷ l) h =
      pairs-cons _ g l
      (all-imp (λ o k. (k.0.0, all-imp (f g) o.rest k.0.1, k.1.0, k.1.1)) (outs l) (all-and _ _ (outs l) (outs-all (R g) l h.0) (outs-two l h.1)))
      (all-imp (λ c k. (k.1.0, (f' g c.first k.0.0, k.1.1), (f' g c.second k.0.1, k.1.2), (k.0.2, k.1.3))) (pairs l) (all-and _ _ (pairs l) (pairs-all (R g) l h.0) (pairs-two l h.1)))

-- of a fact of each two groups, a fact of each pair
pub each-pairs : (R : Living → Living → Type 0) (l : List Living) → EachTwo R l → All (λ c. R c.first c.second) (pairs l)
each-pairs R l h = all-imp (λ c k. k.0) (pairs l) (pairs-two R (λ _ _. Unit {0}) (λ _ _ _. tt) (λ _ _ _. tt) l h)

-- ---- T1 and T3: what is chosen, and what holds where nothing is

-- The pair gains, and is ahead of every two groups of the list.
abbrev pub Verdict : List Living → Option Pair → Type 0
Verdict l none = EachTwo (λ g h. gain_of g h ≡ 0) l
Verdict l (some c) = (0 < gain_of c.first c.second) × EachTwo (Ahead c.first c.second) l

pub choice-verdict : (l : List Living) → Verdict l (choice l)
unfolding choice if_worth worth
choice-verdict l = go (best (pairs l)) (best-leads (pairs l))
  where
    by : (c : Pair) → EachTwo (Ahead c.first c.second) l → (n : ℕ) → gain_of c.first c.second ≡ n → Verdict l (worth c n)
    by c h zero e = two-imp (λ x y p. omega arith) l h
    by c h (suc n) e = (omega arith, h)

    go : (o : Option Pair) → Leads (pairs l) o → Verdict l (if_worth o)
    go none h = pairs-each _ l (all-imp (λ c x. absurd x) (pairs l) h)
    go (some c) h = by c (pairs-each _ l h) (gain_of c.first c.second) refl

pub chosen : (l : List Living) (c : Pair) → choice l ≡ some c → (0 < gain_of c.first c.second) × EachTwo (Ahead c.first c.second) l
chosen l c e = subst (Verdict l) e (choice-verdict l)

pub not_chosen : (l : List Living) → choice l ≡ none → EachTwo (λ g h. gain_of g h ≡ 0) l
not_chosen l e = subst (Verdict l) e (choice-verdict l)

pub chosen-has : (P : Pair → Type 0) (l : List Living) (c : Pair) → choice l ≡ some c → All P (pairs l) → P c
chosen-has P l c e h = subst (Of P) e (choice-in P l h)
