-- What a set wants, by coordinates: the values of its regions, and zero elsewhere. Assumes nothing.
use mathlib.Core.Path.{◌≡◌, refl, sym, ap, ◌∙◌}
use mathlib.Core.List.{List, [], ◌∷◌}
use mathlib.Core.Logic.{⊎_elim}
use Prim.Native.Nat.{ℕ, ◌<◌}
use lib.IntN.{pos}
use lib.ListN.{get_or}
use Rattle.laws.specs.Signed.{value, zero_word}
use Rattle.laws.proofs.Cases.{same_or_not}
use Rattle.sets.specs.Set.{Set, word_of, Proper}
use Rattle.sets.proofs.SetLaws.{word-head, word-tail}
use Rattle.said.specs.Job.{Said}
use Rattle.stores.specs.Coordinates.{wanted}
use Rattle.call.specs.Build.{coords_in_use}
use Rattle.judging.specs.Judge.{named_in}
use Rattle.judging.proofs.WantedLaws.{bytes-is, bytes-not}

pub zero_is : value zero_word ≡ pos 0
unfolding value
zero_is = refl

module _ (s : Said) (uses : ℕ) where
  abbrev coords : ℕ → List ℕ
  coords u = get_or (coords_in_use s) u []

  want-here : (e : ℕ × ℕ) (l : Set) (c : List ℕ) → coords e.0 ≡ c → wanted (named_in s (e ∷ l)) c ≡ value e.1
  unfolding named_in wanted
  want-here e l c h = rw (bytes-is (get_or (coords_in_use s) e.0 []) c h)

  want-else : (e : ℕ × ℕ) (l : Set) (c : List ℕ) → (coords e.0 ≡ c → ⊥) → wanted (named_in s (e ∷ l)) c ≡ wanted (named_in s l) c
  unfolding named_in wanted
  want-else e l c h = rw (bytes-not (get_or (coords_in_use s) e.0 []) c h)

  want-none : (c : List ℕ) → wanted (named_in s []) c ≡ pos 0
  unfolding named_in wanted
  want-none c = refl

  pub wanted-lost : (c : List ℕ) → ((u : ℕ) → u < uses → coords u ≡ c → ⊥) → (l : Set) → Proper uses l → wanted (named_in s l) c ≡ pos 0
  wanted-lost c d [] p = want-none c
  wanted-lost c d (e ∷ l) p = want-else e l c (d e.0 p.0.1) ∙ wanted-lost c d l p.1

  pub wanted-at : (u : ℕ) → u < uses → ((v : ℕ) → v < uses → coords v ≡ coords u → v ≡ u) → (l : Set) → Proper uses l
      → wanted (named_in s l) (coords u) ≡ value (word_of l u)
  unfolding word_of
  wanted-at u b once [] p = want-none (coords u) ∙ sym zero_is
  wanted-at u b once (e ∷ l) p = ⊎_elim
      (λ (h : e.0 ≡ u). want-here e l (coords u) (ap coords h) ∙ sym (ap value (word-head e l u h)))
      (λ d.
      want-else e l (coords u) (λ z. d (once e.0 p.0.1 z))
      ∙ wanted-at u b once l p.1
      ∙ sym (ap value (word-tail e l u d)))
      (same_or_not e.0 u)
