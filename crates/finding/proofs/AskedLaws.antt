-- What is asked of a build that is done, test by test. Assumes nothing.
use mathlib.Core.Path.{◌≡◌, refl}
use mathlib.Core.Bool.{true}
use mathlib.Core.List.{List, [], ◌∷◌}
use Prim.Native.Nat.{ℕ, ◌<◌}
use lib.Dec.{ltb}
use lib.ListN.{take}
use borrow.Author.Tests.{lt-ltb, ltb-true}
use Rattle.said.specs.Refusals.{first_failed}
use Rattle.said.proofs.RecordLaws.{first-passed}
use Rattle.stores.specs.Coordinates.{are_same_bytes}
use Rattle.finding.specs.Asked.{no_id, other_store, asked_refusal}
use Rattle.finding.proofs.SameLaws.{same-is}

module _ (ids bytes a b : ℕ) (store out : List ℕ) where
  module _ (one : a < ids) where
    pub asked-fine : b < ids → true ≡ are_same_bytes store (take bytes out) → 0 ≡ asked_refusal ids bytes a b store out
    unfolding asked_refusal first_failed
    asked-fine h e = rw (lt-ltb a ids one, lt-ltb b ids h, ← e) refl

  -- where none is given
  pub asked-none : asked_refusal ids bytes a b store out ≡ 0 → (a < ids) × (b < ids) × (store ≡ take bytes out)
  unfolding asked_refusal
  asked-none z =
      let s = are_same_bytes store (take bytes out) in
      let p = first-passed (ltb a ids) 61 ((ltb b ids, no_id) ∷ (s, other_store) ∷ []) z in
      let q = first-passed (ltb b ids) 61 ((s, other_store) ∷ []) p.1 in
      let t = first-passed s 62 [] q.1 in
      (ltb-true a ids p.0, ltb-true b ids q.0, same-is store (take bytes out) t.0)
