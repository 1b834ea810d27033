-- Sets packed by either mode are what the last part of a build asks for. Assumes nothing.
use mathlib.Core.Path.{◌≡◌, refl, sym, ap, subst, ◌∙◌}
use mathlib.Core.Logic.{⊎_elim}
use mathlib.Core.List.{List, [], ◌∷◌}
use Prim.Native.Nat.{ℕ, ◌+◌, ◌-◌, ◌≤◌, ◌<◌}
use native.Mathlib.Omega.{arith}
use borrow.Author.Tests.{eq-eqb, ne_eqb}
use lib.ListN.{length, get_or}
use Rattle.laws.specs.LentRange.{Only}
use Rattle.laws.proofs.Cases.{same_or_not}
use Rattle.laws.proofs.ListLaws.{none-long}
use Rattle.laws.proofs.EveryLaws.{all-get_or}
use Rattle.laws.proofs.UpLaws.{up_at}
use Rattle.laws.proofs.RangeLaws.{get_or-seg}
use Rattle.shapes.specs.Group.{Group}
use Rattle.sets.specs.Set.{Set}
use Rattle.sets.specs.Ids.{shared_ids, distinct}
use Rattle.sets.specs.Lent.{sets_in}
use Rattle.sets.proofs.HeldLaws.{sets-length}
use Rattle.groups.specs.Groups.{groups_of}
use Rattle.rule.specs.Model.{merged}
use Rattle.rule.proofs.Theorems.{fewer, none-of-none}
use Rattle.said.specs.Job.{Said, Outcome, fine}
use Rattle.encoder.specs.declared.places.Places.{Places}
use Rattle.encoder.specs.declared.encoded.Encoded.{Encoded}
use Rattle.encoder.specs.Packed.{Packed, shared, own}
use Rattle.encoder.specs.LentPlaces.{Laid}
use Rattle.encoder.specs.Lent.{PackedAt, OwnAt}
use Rattle.encoder.specs.LentArranged.{JoinedGroups}
use Rattle.encoder.proofs.DenseIds.{ids-length, ids-below}
use Rattle.call.specs.Build.{coords_in_use, packed_of}
use Rattle.finishing.specs.Lent.{FinishFit}
use Rattle.opening.specs.LentCollected.{Collected}
use Rattle.arranging.specs.LentArranged.{ArrangedAs}
use Rattle.opening.proofs.KeptLaws.{start-kept, coords-kept}

-- ---- fewer merges than groups, and ids below their count

merges-most : (xs : List Group) → length (merged xs).log ≤ length xs - 1
unfolding merged
merges-most xs = ⊎_elim
    (λ (z : length xs ≡ 0). omega (arith, (none-of-none (length xs) xs z).0))
    (λ n. omega (arith, fewer (length xs) xs (omega arith)))
    (same_or_not (length xs) 0)

shared-merges : (n : ℕ) (all : List Set) → length (shared n all).log ≤ (shared n all).groups - 1
unfolding shared
shared-merges n all = merges-most (groups_of n all)

shared-ids : (n : ℕ) (all : List Set) (x : ℕ) → x < length all → get_or (shared n all).ids x 0 < length (shared n all).sets
unfolding shared
shared-ids n all x h = all-get_or (λ (y : ℕ). y < length (distinct all)) (shared_ids all) x 0 (ids-below all) (omega (arith, ids-length all))

own-ids : (n : ℕ) (all : List Set) (x : ℕ) → x < length all → get_or (own n all).ids x 0 < length (own n all).sets
unfolding own
own-ids n all x h = omega (arith, up_at (length all) x h)

own-merges : (n : ℕ) (all : List Set) → length (own n all).log ≤ (own n all).groups - 1
unfolding own
own-merges n all = omega arith

module _ {axes starts : ℕ} {job w : List ℕ} {p : Places} {s : Said} (c : Collected axes starts job p s w) where
  abbrev all : List Set
  all = sets_in 0 p.sets w

  lies : Laid p (length w)
  lies = c.fit.laid

  shared-is : (mode : ℕ) → mode ≡ 0 → shared p.regions all ≡ packed_of mode s
  unfolding packed_of
  shared-is mode e = rw (eq-eqb mode 0 e, c.sets-are, c.regions-are) refl

  own_is : (mode : ℕ) → (mode ≡ 0 → ⊥) → own p.regions all ≡ packed_of mode s
  unfolding packed_of
  own_is mode e = rw (ne_eqb mode 0 e, c.sets-are, c.regions-are) refl

  module _ {w' : List ℕ} (only : Only ((p.line, length w) ∷ []) w w') where
    module _ (k : Packed) (e : Encoded) (packed : PackedAt k p e w') (merges : length k.log ≤ k.groups - 1)
        (low : (x : ℕ) → x < length all → get_or k.ids x 0 < length k.sets) where
      pub finish-fit : FinishFit axes starts job p e w'
      finish-fit = record {
        axes-few = c.axes-few;
        packed-as = k;
        packed = packed;
        starts-to = omega (arith, c.starts-to, lies);
        sourced = λ r h. rw (start-kept c only r h) (c.sourced r h);
        merges-few = omega (arith, packed.merges-is, packed.groups-is);
        ids-below = λ x h.
            let v : get_or w' (p.ids + x) 0 ≡ get_or k.ids x 0 = sym (get_or-seg p.ids p.sets w' x h) ∙ ap (λ (l : List ℕ). get_or l x 0) packed.ids-are in
            let b = low x (omega (arith, sets-length 0 p.sets w)) in
            omega (arith, packed.distinct-is);
      }

      -- the sets of a job that says s, arranged for a axes
      arranged : (mode : ℕ) → k ≡ packed_of mode s → (o : Outcome) → o ≡ fine s → (a : ℕ) → a ≡ axes
          → ArrangedAs axes mode job o (record { axes = a; starts = starts; places = p; encoded = e }) w'
      arranged mode same o f a q =
          subst (λ (x : ℕ). ArrangedAs axes mode job o (record { axes = x; starts = starts; places = p; encoded = e }) w') (sym q) (record {
            said = s;
            said-is = f;
            axes-is = refl;
            fit = finish-fit;
            packed = subst (λ (x : Packed). PackedAt x p e w') same packed;
            room = omega (arith, lies.scratch-to, only.long);
            coords-are = coords-kept c only;
          })

  -- mode 0
  pub shared-arranged : {w' : List ℕ} {e : Encoded} → JoinedGroups p w w' e → (mode : ℕ) → mode ≡ 0 → (o : Outcome) → o ≡ fine s → (a : ℕ) → a ≡ axes
      → ArrangedAs axes mode job o (record { axes = a; starts = starts; places = p; encoded = e }) w'
  shared-arranged {w'} {e} h mode z o f a q =
      arranged h.only (shared p.regions all) e h.packed (shared-merges p.regions all) (shared-ids p.regions all) mode (shared-is mode z) o f a q

  -- mode 1
  pub own-arranged : {w' : List ℕ} {e : Encoded} → OwnAt p w w' e → (mode : ℕ) → (mode ≡ 0 → ⊥) → (o : Outcome) → o ≡ fine s → (a : ℕ) → a ≡ axes
      → ArrangedAs axes mode job o (record { axes = a; starts = starts; places = p; encoded = e }) w'
  own-arranged {w'} {e} h mode z o f a q =
      arranged h.only (own p.regions all) e h.result (own-merges p.regions all) (own-ids p.regions all) mode (own_is mode z) o f a q

  -- without sets
  pub none-own : (mode : ℕ) → (mode ≡ 0 → ⊥) → p.sets ≡ 0 → (packed_of mode s ≡ own 0 []) × (coords_in_use s ≡ [])
  none-own mode z n =
      let long : length s.sets ≡ 0 = ap length (sym c.sets-are) ∙ sets-length 0 p.sets w ∙ n in
      let none : s.sets ≡ [] = none-long s.sets long in
      let idle : s.used ≡ [] = none-long s.used (c.no-use long) in
      (own-none none idle, coords-none idle)
    where
      coords-none : s.used ≡ [] → coords_in_use s ≡ []
      coords-none e = unfold coords_in_use in rw e

      own-none : s.sets ≡ [] → s.used ≡ [] → packed_of mode s ≡ own 0 []
      own-none a b = unfold packed_of in rw (ne_eqb mode 0 z, a, b)
