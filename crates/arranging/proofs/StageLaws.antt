-- From where a build stands after merging to its sets arranged, by either mode. Assumes nothing.
use mathlib.Core.Path.{◌≡◌, refl, sym, subst, ◌∙◌}
use mathlib.Core.Bool.{true, false}
use mathlib.Core.List.{List, []}
use Prim.Native.Nat.{ℕ, ◌≤◌}
use native.Mathlib.Omega.{arith}
use Rattle.laws.proofs.Cases.{true-false}
use Rattle.merging.specs.declared.optimizing.Merged.{Merged}
use Rattle.merging.specs.LentOptimized.{Optimized}
use Rattle.said.specs.Job.{Said, Outcome, refused, fine}
use Rattle.encoder.specs.declared.encoded.Encoded.{Encoded}
use Rattle.encoder.specs.Packed.{own}
use Rattle.encoder.specs.Lent.{Fit, OwnAt}
use Rattle.encoder.specs.LentArranged.{tables_of, JoinFit, RegroupFit, JoinedGroups}
use Rattle.encoder.proofs.ReadyLaws.{idle}
use Rattle.opening.specs.declared.opening.Stage.{Stage}
use Rattle.call.specs.Build.{coords_in_use, packed_of}
use Rattle.opening.specs.LentCollected.{Collected}
use Rattle.std.specs.Prelude.{Ok}
use Rattle.opening.specs.LentOpened.{Grouped, Read}
use Rattle.arranging.specs.LentArranged.{Joined, NullStage, ArrangedAs}
use Rattle.limits.specs.Limits.{most_axes}
use Rattle.arranging.proofs.PackLaws.{shared-arranged, own-arranged, none-own}

-- where nothing was refused a job says something
pub record SaidBy (axes mode : ℕ) (job : List ℕ) (o : Outcome) (s : Stage) (w : List ℕ) : Type 0 where
  pub said : Said
  pub is : o ≡ fine said
  pub grouped : Grouped axes mode job said s w

pub said-by : (axes mode : ℕ) (job : List ℕ) (o : Outcome) (s : Stage) (w : List ℕ) → Read axes mode job o (Ok s) w → SaidBy axes mode job o s w
said-by axes mode job (refused n i) s w r = absurd r
said-by axes mode job (fine x) s w r = record { said = x; is = refl; grouped = r }

-- ---- whether it is mode 1 without sets

pub null-shared : (s : Stage) → s.mode ≡ 0 → NullStage s false
null-shared s e = (λ f. absurd (true-false f refl), λ _ d. absurd (d e))

pub null-none : (s : Stage) → (s.mode ≡ 0 → ⊥) → s.places.sets ≡ 0 → NullStage s true
null-none s d e = (λ _. (d, e), λ f. absurd (true-false refl f))

pub null-some : (s : Stage) → (s.places.sets ≡ 0 → ⊥) → NullStage s false
null-some s d = (λ f. absurd (true-false f refl), λ _ _. omega arith)

module _ (axes mode : ℕ) (job : List ℕ) (s : Stage) {w : List ℕ} {m : Merged} (o : Outcome) (mid : List ℕ) (r : Read axes mode job o (Ok s) mid) (j : Joined s m mid w) where
  abbrev by : SaidBy axes mode job o s mid
  by = said-by axes mode job o s mid r

  held : Collected axes s.starts job s.places (said-by axes mode job o s mid r).said mid
  held = by.grouped.collected

  pub stage-few : s.axes ≤ most_axes
  stage-few = omega (arith, by.grouped.axes-is, held.axes-few)

  -- ---- mode 0

  module _ (v : s.mode ≡ 0) where
    zero : mode ≡ 0
    zero = sym (by.grouped.mode-is) ∙ v

    joins : JoinFit s.places s.groups s.distinct mid
    joins = by.grouped.joins zero

    pub regroup-fit : RegroupFit s.places s.groups s.distinct m w
    regroup-fit = record { old = mid; fit = joins; joined = j }

    pub arranged-shared : {w' : List ℕ} {e : Encoded}
        → ((old : List ℕ) → JoinFit s.places s.groups s.distinct old → Optimized (tables_of s.places s.groups) m.merges m.weighed m.before m.after old w → JoinedGroups s.places old w' e)
        → ArrangedAs axes mode job o (record { axes = s.axes; starts = s.starts; places = s.places; encoded = e }) w'
    arranged-shared f = shared-arranged held (f mid joins j) mode zero o by.is s.axes (by.grouped.axes-is)

  -- ---- mode 1, for which merging did nothing

  module _ (v : s.mode ≡ 0 → ⊥) where
    other : mode ≡ 0 → ⊥
    other q = v (by.grouped.mode-is ∙ q)

    alone : Collected axes s.starts job s.places (said-by axes mode job o s mid r).said w
    alone = subst (λ (x : List ℕ). Collected axes s.starts job s.places by.said x) (sym (idle s.places s.groups j (by.grouped.alone other))) held

    pub alone-fit : Fit s.places w
    alone-fit = alone.fit

    pub arranged-own : {w' : List ℕ} {e : Encoded} → OwnAt s.places w w' e
        → ArrangedAs axes mode job o (record { axes = s.axes; starts = s.starts; places = s.places; encoded = e }) w'
    arranged-own f = own-arranged alone f mode other o by.is s.axes (by.grouped.axes-is)

    module _ (n : s.places.sets ≡ 0) where
      pub none-packed : (packed_of mode (said-by axes mode job o s mid r).said ≡ own 0 []) × (coords_in_use (said-by axes mode job o s mid r).said ≡ [])
      none-packed = none-own alone mode other n
