-- Laws of lists put one after the other. Assumes nothing.
use mathlib.Core.Path.{◌≡◌, refl, ap, ◌∙◌}
use mathlib.Core.List.{List, [], ◌∷◌, ◌++◌, append_assoc, append-nil, map}
use Prim.Native.Nat.{ℕ, ◌*◌}
use native.Mathlib.Nat.{suc-mul}
use native.Mathlib.Omega.{arith}
use lib.ListN.{length, length-append}
use Rattle.laws.specs.Every.{All}
use Rattle.laws.specs.Joining.{join_all}
use Rattle.laws.proofs.ListLaws.{map-append}

pub map-join : {A B : Type 0} (g : A → B) (ls : List (List A)) → map g (join_all ls) ≡ join_all (map (map g) ls)
unfolding join_all
map-join g [] = refl
map-join g (l ∷ ls) = map-append g l (join_all ls) ∙ ap (λ (k : List _). map g l ++ k) (map-join g ls)

module _ {A : Type 0} where
  pub join-append : (l m : List (List A)) → join_all (l ++ m) ≡ join_all l ++ join_all m
  unfolding join_all
  join-append [] m = refl
  join-append (x ∷ l) m = rw (join-append l m, append_assoc)

  pub join-join : (ls : List (List (List A))) → join_all (join_all ls) ≡ join_all (map join_all ls)
  unfolding join_all
  join-join [] = refl
  join-join (l ∷ ls) = join-append l (join_all ls) ∙ rw (join-join ls)

  pub join-snoc : (ls : List (List A)) (l : List A) → join_all (ls ++ (l ∷ [])) ≡ join_all ls ++ l
  unfolding join_all
  join-snoc [] l = append-nil l
  join-snoc (m ∷ ls) l = rw (join-snoc ls l, append_assoc)

  -- all of one length
  pub join-long : (k : ℕ) (l : List (List A)) → All (λ r. length r ≡ k) l → length (join_all l) ≡ length l * k
  unfolding join_all
  join-long k [] a = omega arith
  join-long k (r ∷ l) a = length-append r (join_all l) ∙ omega (arith, join-long k l a.1, a.0, suc-mul (length l) k)
