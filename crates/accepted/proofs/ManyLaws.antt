-- Lists one after the other, and lists of what passes a test: what is in them, and what holds of each two. Assumes nothing.
use mathlib.Core.Path.{◌≡◌, sym, ap, subst, ◌∙◌}
use mathlib.Core.Bool.{Bool, true}
use mathlib.Core.Logic.{◌⊎◌, ⊎_elim}
use mathlib.Core.List.Memᴰ
use mathlib.Core.List.{List, [], ◌∷◌, ◌++◌, map, Memᴰ}
use Prim.Native.Nat.{ℕ, ◌<◌}
use native.Mathlib.Omega.{arith}
use Rattle.laws.specs.Every.{All, EachTwo}
use Rattle.laws.specs.Bounded.{up_to}
use Rattle.laws.specs.Sorting.{keep}
use Rattle.laws.specs.Joining.{join_all}
use Rattle.laws.proofs.Cases.{Which, which, true-false}
use Rattle.laws.proofs.Cases.Which.{holds, fails}
use Rattle.laws.proofs.EveryLaws.{all_append, all-imp}
use Rattle.laws.proofs.SortMap.{keep-in, keep_out}
use Rattle.laws.proofs.UpLaws.{up-long, up_at}
use Rattle.encoder.proofs.NumberLaws.{at_mem}

module _ {A : Type 0} where
  -- what is in one of the lists is in all of them together
  pub mem-join : (x : A) (ls : List (List A)) (l : List A) → Memᴰ l ls → Memᴰ x l → Memᴰ x (join_all ls)
  unfolding join_all
  mem-join x [] l m h = absurd (Memᴰ.not-nil m)
  mem-join x (k ∷ ls) l m h = ⊎_elim
      (λ e. Memᴰ.append_left (join_all ls) (subst (λ (z : List A). Memᴰ x z) e h))
      (λ t. Memᴰ.append_right k (mem-join x ls l t h))
      (Memᴰ.cases_cons m)

  pub mem-keep : (p : A → Bool) (x : A) (l : List A) → Memᴰ x l → p x ≡ true → Memᴰ x (keep p l)
  mem-keep p x [] m h = absurd (Memᴰ.not-nil m)
  mem-keep p x (y ∷ l) m h = go (λ t. mem-keep p x l t h) (which (p y)) (Memᴰ.cases_cons m)
    where
      go : (Memᴰ x l → Memᴰ x (keep p l)) → Which (p y) → (x ≡ y) ⊎ Memᴰ x l → Memᴰ x (keep p (y ∷ l))
      go rec (holds e) w = rw (keep-in p y l e) (⊎_elim (λ q. Memᴰ.head q) (λ t. Memᴰ.tail (rec t)) w)
      go rec (fails e) w = rw (keep_out p y l e) (⊎_elim (λ q. absurd (true-false (ap p (sym q) ∙ h) e)) rec w)

  -- what holds of each of each list
  pub all_join : (P : A → Type 0) (ls : List (List A)) → All (λ (l : List A). All P l) ls → All P (join_all ls)
  unfolding join_all
  all_join P [] h = tt
  all_join P (l ∷ ls) h = all_append P l (join_all ls) h.0 (all_join P ls h.1)

  two-append : (R : A → A → Type 0) (l m : List A) → EachTwo R l → EachTwo R m → All (λ x. All (R x) m) l → EachTwo R (l ++ m)
  two-append R [] m p q h = q
  two-append R (x ∷ l) m p q h = (all_append (R x) l m p.0 h.0, two-append R l m p.1 q h.1)

  -- each of the one list with each of the other
  abbrev pub Cross : (A → A → Type 0) → List A → List A → Type 0
  Cross R l m = All (λ x. All (R x) m) l

  cross-join : (R : A → A → Type 0) (l : List A) (ls : List (List A)) → All (λ (m : List A). Cross R l m) ls → Cross R l (join_all ls)
  cross-join R [] ls h = tt
  cross-join R (x ∷ l) ls h = (all_join (R x) ls (all-imp (λ m t. t.0) ls h), cross-join R l ls (all-imp (λ m t. t.1) ls h))

  -- what holds of each two of each list, and of each of one with each of a later one
  pub two-join : (R : A → A → Type 0) (ls : List (List A)) → All (λ (l : List A). EachTwo R l) ls → EachTwo (λ (l m : List A). Cross R l m) ls → EachTwo R (join_all ls)
  unfolding join_all
  two-join R [] p q = tt
  two-join R (l ∷ ls) p q = two-append R l (join_all ls) p.0 (two-join R ls p.1 q.1) (cross-join R l ls q.0)

pub mem-map : {A B : Type 0} (f : A → B) (x : A) (l : List A) → Memᴰ x l → Memᴰ (f x) (map f l)
mem-map f x [] m = absurd (Memᴰ.not-nil m)
mem-map f x (y ∷ l) m = ⊎_elim (λ e. Memᴰ.head (ap f e)) (λ t. Memᴰ.tail (mem-map f x l t)) (Memᴰ.cases_cons m)

-- each number below n is among 0 up to n
pub up-has : (n x : ℕ) → x < n → Memᴰ x (up_to n)
up-has n x h = subst (λ (z : ℕ). Memᴰ z (up_to n)) (up_at n x h) (at_mem (up_to n) 0 x (omega (arith, up-long n)))
