-- Mode 0 up to merging: ids and groups. Assumes nothing.
use mathlib.Core.Path.{◌≡◌, refl, sym, ap, subst, ◌∙◌}
use mathlib.Core.List.{List, [], ◌∷◌}
use mathlib.Core.Logic.{⊎_elim}
use Prim.Native.Nat.{ℕ, ◌+◌, ◌≤◌, ◌<◌}
use native.Mathlib.Omega.{arith}
use lib.ListN.{length, get_or}
use Rattle.laws.specs.Every.{All, EachTwo}
use Rattle.laws.specs.Bounded.{up_to}
use Rattle.laws.specs.LentRange.{Only, seg}
use Rattle.laws.specs.Sorting.{sorted, keep}
use Rattle.laws.proofs.Cases.{lt-or-ge}
use Rattle.laws.proofs.ListLaws.{none-long}
use Rattle.laws.proofs.RangeLaws.{apart-part, only-trans, only-weaken, seg-ext}
use Rattle.laws.proofs.EveryLaws.{all-imp}
use Rattle.laws.proofs.SortLaws.{sorted_all, keep_same}
use Rattle.laws.proofs.SortMap.{sorted-same}
use Rattle.laws.proofs.UpLaws.{up-all}
use Rattle.shapes.specs.Group.{Group}
use Rattle.sets.specs.Set.{Set}
use Rattle.sets.specs.Ids.{place, shared_ids, distinct}
use Rattle.sets.specs.Lent.{set_of, sets_in, is_first_of_like, at_most, IdsFit, Identified}
use Rattle.sets.proofs.IdLaws.{distinct-most}
use Rattle.sets.proofs.HeldLaws.{Kept, kept-only, kept_trans, set_same, sets_same, most-same, first-same, held_kept, sets-length}
use Rattle.groups.specs.Groups.{shape_of, groups_of}
use Rattle.grouping.specs.LentGroups as tab
use Rattle.groups.proofs.GroupLaws.{Long, groups-long, groups-unlike, groups-few}
use Rattle.encoder.specs.declared.places.Places.{Places}
use Rattle.std.specs.Prelude.{Some, None}
use Rattle.std.specs.declared.option.Option.{Option}
use Rattle.encoder.specs.LentPlaces.{Laid}
use Rattle.encoder.specs.Lent.{Fit}
use Rattle.encoder.specs.LentArranged.{shapes_at, JoinFit, GatheredAt}
use Rattle.encoder.proofs.PlacesLaws.{room-none, room-some}

-- ---- where no region is in use there is one shape

one_at_most : (gs : List Group) → All (Long 0) gs → EachTwo (λ g h. g.shape ≡ h.shape → ⊥) gs → length gs ≤ 1
one_at_most [] l b = omega arith
one_at_most (g ∷ []) l b = omega arith
one_at_most (g ∷ h ∷ gs) l b = absurd (b.0.0 (none-long g.shape l.0 ∙ sym (none-long h.shape l.1.0)))

groups-one : (regions : ℕ) (sets : List Set) → regions ≡ 0 → length (groups_of regions sets) ≤ 1
groups-one regions sets z =
    one_at_most (groups_of regions sets) (subst (λ (n : ℕ). All (Long n) (groups_of regions sets)) z (groups-long regions sets)) (groups-unlike regions sets)

-- ---- the calls of `gather`

module _ {p : Places} {w : List ℕ} (f : Fit p w) where
  lies : Laid p (length w)
  lies = f.laid

  pub gather-ids : IdsFit w 0 p.sets p.line p.first p.ids
  gather-ids = record {
    regions = p.regions;
    end = p.line;
    held = f.held;
    few = omega (arith, lies);
    behind = omega arith;
    at-to = omega (arith, lies);
    first_to = omega (arith, lies);
    room = omega (arith, lies);
  }

  module _ {w₁ : List ℕ} {ids : ℕ} (d : Identified 0 p.sets p.line p.first p.ids w w₁ ids) where
    kept₁ : Kept p.line w w₁
    kept₁ = kept-only d.only (omega arith, (omega (arith, lies), (omega (arith, lies), tt)))

    sets₁ : sets_in 0 p.sets w₁ ≡ sets_in 0 p.sets w
    sets₁ = sets_same f.held kept₁

    firsts₁ : (x : ℕ) → x < p.sets → get_or w₁ (p.first + x) 0 ≡ place (set_of 0 x w₁) (sets_in 0 p.sets w₁)
    firsts₁ x h = rw (sets₁, set_same f.held kept₁ x h) (d.firsts x h)

    pub gather-group : tab.GroupFit (shapes_at p) 0 p.sets p.first p.kinds w₁
    gather-group =
        let long = d.only.long in
        record {
          end = p.line;
          held = held_kept f.held kept₁;
          behind = omega (arith, lies);
          first_to = omega (arith, lies);
          kinds-to = omega (arith, lies);
          laid = record {
            slots-to = lies.slots-to;
            order-to = lies.order-to;
            counts-to = omega (arith, lies);
            costed = refl;
            few = omega (arith, lies);
            narrow = omega (arith, lies);
          };
          few = omega (arith, lies);
          firsts = firsts₁;
        }

    module _ {w₂ : List ℕ} {r : Option ℕ} (g : tab.GroupedAt (shapes_at p) 0 p.sets p.first p.kinds w₁ w₂ r) where
      low₂ : (i : ℕ) → i < p.kinds → get_or w₂ i 0 ≡ get_or w₁ i 0
      low₂ i h = (kept-only {end = p.kinds} g.only (omega arith, (omega (arith, lies), (omega (arith, lies), (omega (arith, lies), tt))))).below i h

      kept₂ : Kept p.line w₁ w₂
      kept₂ = record { long = g.only.long; below = λ i h. low₂ i (omega (arith, lies)) }

      kept : Kept p.line w w₂
      kept = kept_trans kept₁ kept₂

      sets₂ : sets_in 0 p.sets w₂ ≡ sets_in 0 p.sets w
      sets₂ = sets_same f.held kept

      groups-most : length (groups_of p.regions (sets_in 0 p.sets w)) ≤ p.sets
      groups-most = omega (arith, groups-few p.regions (sets_in 0 p.sets w), distinct-most (sets_in 0 p.sets w), sets-length 0 p.sets w)

      only₂ : Only ((p.line, length w) ∷ []) w w₂
      only₂ =
          let long = d.only.long in
          only-trans {rs = (p.line, length w) ∷ []}
          (only-weaken (λ k u. (apart-part u.0 (omega arith) (omega (arith, lies)), (apart-part u.0 (omega (arith, lies)) (omega (arith, lies)), (apart-part u.0 (omega (arith, lies)) (omega (arith, lies)), tt)))) d.only)
          (only-weaken (λ k u. (
            apart-part u.0 (omega (arith, lies)) (omega (arith, lies)),
            (
              apart-part u.0 (omega (arith, lies)) (omega (arith, lies)),
              (
                apart-part u.0 (omega (arith, lies)) (omega (arith, lies)),
                (apart-part u.0 (omega (arith, lies)) (omega (arith, lies)), tt),
              ),
            ),
          )) g.only)

      result : (a : Option ℕ) → r ≡ a → tab.Result (shapes_at p) 0 p.sets p.kinds w₁ w₂ a
      result a e = subst (λ (x : Option ℕ). tab.Result (shapes_at p) 0 p.sets p.kinds w₁ w₂ x) e g.result

      pub gather-full : r ≡ None → GatheredAt p w w₂ None
      gather-full e =
          let n = rw sets₁ at (result None e) in
          record {
            only = only₂;
            result = ⊎_elim
                (λ (l : 0 < p.regions). omega (arith, lies.room-is, room-some p.sets p.regions l, groups-most))
                (λ (l : p.regions ≤ 0).
                let z : p.regions ≡ 0 = omega arith in
                absurd (omega (arith, lies.room-is, room-none p.sets p.regions z, groups-most, groups-one p.regions (sets_in 0 p.sets w) z)))
                (lt-or-ge 0 p.regions);
          }

      module _ (groups : ℕ) (e : r ≡ Some groups) where
        abbrev into : tab.GroupedInto (shapes_at p) 0 p.sets p.kinds w₁ w₂ groups
        into = result (Some groups) e

        line₂ : seg p.line p.sets w₂ ≡ seg p.line p.sets w₁
        line₂ = seg-ext p.line p.line p.sets w₂ w₁ (omega (arith, lies, kept.long)) (omega (arith, lies, d.only.long)) (λ i h. low₂ (p.line + i) (omega (arith, lies)))

        -- the tests agree on the sets' numbers
        firsts_same : (l : List ℕ) → All (λ x. x < p.sets) l → keep (is_first_of_like 0 p.sets w₂) l ≡ keep (is_first_of_like 0 p.sets w) l
        firsts_same l low = keep_same (is_first_of_like 0 p.sets w₂) (is_first_of_like 0 p.sets w) l (all-imp (λ x h. first-same f.held kept x h) l low)

        line-firsts₂ : keep (is_first_of_like 0 p.sets w₂) (seg p.line p.sets w₂) ≡ keep (is_first_of_like 0 p.sets w₂) (sorted (at_most w₂ 0) (up_to p.sets))
        line-firsts₂ =
            ap (keep (is_first_of_like 0 p.sets w₂)) line₂
            ∙ firsts_same (seg p.line p.sets w₁) d.numbers
            ∙ d.firsts-line
            ∙ sym (firsts_same (sorted (at_most w 0) (up_to p.sets)) (sorted_all (at_most w 0) (λ (x : ℕ). x < p.sets) (up_to p.sets) (up-all p.sets)))
            ∙ ap (keep (is_first_of_like 0 p.sets w₂))
            (sorted-same (λ (x : ℕ). x < p.sets) (at_most w 0) (at_most w₂ 0) (λ x y h k. sym (most-same f.held kept x y h k)) (up_to p.sets) (up-all p.sets))

        ids₂ : seg p.ids p.sets w₂ ≡ shared_ids (sets_in 0 p.sets w₂)
        ids₂ =
            seg-ext p.ids p.ids p.sets w₂ w₁ (omega (arith, lies, kept.long)) (omega (arith, lies, d.only.long)) (λ i h. low₂ (p.ids + i) (omega (arith, lies)))
            ∙ d.given ∙ ap shared_ids (sym sets₂)

        gather-join : JoinFit p groups ids w₂
        gather-join = record {
          laid = rw kept.long lies;
          held = held_kept f.held kept;
          line_low = subst (All (λ (x : ℕ). x < p.sets)) (sym line₂) d.numbers;
          line-firsts = line-firsts₂;
          firsts = λ x h. low₂ (p.first + x) (omega (arith, lies)) ∙ d.firsts x h
              ∙ rw (sets₂, set_same f.held kept x h) refl;
          ids-are = ids₂;
          ids-is = d.count ∙ ap (λ (l : List Set). length (distinct l)) (sym sets₂);
          grouped = record {
            table = into.table;
            groups = into.groups ∙ ap (groups_of p.regions) (sets₁ ∙ sym sets₂);
            kind-below = into.kind-below;
            kind-shape = λ x h. into.kind-shape x h ∙ ap (shape_of p.regions) (set_same f.held kept₁ x h ∙ sym (set_same f.held kept x h));
          };
        }

        pub gather-groups : GatheredAt p w w₂ (Some (record { groups = groups; distinct = ids }))
        gather-groups = record { only = only₂; result = gather-join }
