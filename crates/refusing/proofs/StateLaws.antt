-- What the state before a record means, by counts of the records before it. Assumes nothing.
use mathlib.Core.Path.{◌≡◌, refl, sym, ap, subst, ◌∙◌}
use mathlib.Core.Bool.{true, false, ◌||◌}
use mathlib.Core.List.{List, [], ◌∷◌}
use mathlib.Core.Logic.{◌⊎◌, inl, inr, ⊎_elim}
use Prim.Native.Nat.{ℕ, zero, suc, ◌-◌, ◌*◌, ◌/◌, ◌%◌, ◌≤◌, ◌<◌}
use native.Mathlib.Omega.{arith}
use lib.ListN.{length, length-append}
use lib.Dec.{eqb}
use borrow.Author.Tests.{eq-eqb, ne_eqb, eqb-true}
use Rattle.laws.proofs.Cases.{lt-or-ge, or_left, or_right, or_cases, true-false}
use Rattle.said.specs.Records.{kind, region_number, value_as_word, record_at}
use Rattle.said.specs.Sets.{Region, region_list, first_like, has}
use Rattle.said.specs.Job.{Said, State, in_axes, in_sets, on, unless, after_value, after_end, value_step, end_step, regions_only, said_at, axes_before, is_late, step}
use Rattle.said.proofs.RecordLaws.{Formed, form-passed}
use Rattle.said.proofs.StepLaws.{regions-from}
use Rattle.said.proofs.SaidLaws.{value-known}
use Rattle.told.proofs.WordLaws.{count-here, count_past, count_most}
use Rattle.told.specs.Told.{count_kind, ends_before}
use Rattle.refusing.specs.Exactly.{Exactly}
use Rattle.refusing.proofs.Passing.{Passed}
use Rattle.refusing.specs.Counts.{axis_records, known_regions}
use Rattle.refusing.proofs.StepLaws.{not-stop, form_told, Looks, looks, value_told, end_told}
use Rattle.refusing.proofs.StepLaws.Looks.{bad, axis, value, set-end}

-- ---- steps that go on

on_one : (s t : State) → on s ≡ on t → s ≡ t
on_one s t e = cc

unless-on-only : (k : ℕ) (s t : State) → unless k (on s) ≡ on t → (k ≡ 0) × (s ≡ t)
unfolding unless
unless-on-only zero s t e = (refl, on_one s t e)
unless-on-only (suc k) s t e = absurd (not-stop t (suc k) (sym e))

pub value_on : (r : List ℕ) (s : Said) (t : State) → value_step r s ≡ on t
    → (value_told r s ≡ 0) × (in_sets (after_value s (first_like s.regions (region_number r)) (value_as_word r)) ≡ t)
unfolding value_step
value_on r s t e = unless-on-only (value_told r s) _ t e

pub end_on : (mode : ℕ) (s : Said) (t : State) → end_step mode s ≡ on t → (end_told mode s ≡ 0) × (in_sets (after_end s) ≡ t)
unfolding end_step
end_on mode s t e = unless-on-only (end_told mode s) _ t e

-- ---- the regions that a set has named

-- by a value record at `place`, where all records from there to record i are values
pub record NamedAt (regions : List Region) (job : List ℕ) (i q : ℕ) : Type 0 where
  pub place : ℕ
  pub before-it : place < i
  pub one_set : (k : ℕ) → place ≤ k → k < i → kind (record_at job k) ≡ 2
  pub known : region_number (record_at job place) < length regions
  pub same : first_like regions (region_number (record_at job place)) ≡ q

not_named : (regions : List Region) (job : List ℕ) (i q : ℕ) → (kind (record_at job i) ≡ 2 → ⊥) → NamedAt regions job (suc i) q → ⊥
not_named regions job i q d n = let h = n.before-it in d (n.one_set i (omega arith) (omega arith))

named_here : (regions : List Region) (job : List ℕ) (i q : ℕ) → kind (record_at job i) ≡ 2 → region_number (record_at job i) < length regions
    → first_like regions (region_number (record_at job i)) ≡ q → NamedAt regions job (suc i) q
named_here regions job i q v l e = record {
  place = i;
  before-it = omega arith;
  one_set = λ k a b. let z : i ≡ k = omega arith in subst (λ (x : ℕ). kind (record_at job x) ≡ 2) z v;
  known = l;
  same = e;
}

named-on : (regions : List Region) (job : List ℕ) (i q : ℕ) → kind (record_at job i) ≡ 2 → NamedAt regions job i q → NamedAt regions job (suc i) q
named-on regions job i q v n = record {
  place = n.place;
  before-it = let h = n.before-it in omega arith;
  one_set = λ k a b.
      ⊎_elim (λ (h : k < i). n.one_set k a h) (λ (h : i ≤ k). let z : i ≡ k = omega arith in subst (λ (x : ℕ). kind (record_at job x) ≡ 2) z v) (lt-or-ge k i);
  known = n.known;
  same = n.same;
}

-- either here or before
named_by : (regions : List Region) (job : List ℕ) (i q : ℕ) → NamedAt regions job (suc i) q → (first_like regions (region_number (record_at job i)) ≡ q) ⊎ NamedAt regions job i q
named_by regions job i q n =
    ⊎_elim (λ (h : n.place < i). inr (record {
      place = n.place;
      before-it = h;
      one_set = λ k a b. n.one_set k a (omega arith);
      known = n.known;
      same = n.same;
    }))
    (λ (h : i ≤ n.place). let b = n.before-it in let z : n.place ≡ i = omega arith in inl (subst (λ (x : ℕ). first_like regions (region_number (record_at job x)) ≡ q) z n.same))
    (lt-or-ge n.place i)

-- ---- the state

pub record Means (axes : ℕ) (job : List ℕ) (i : ℕ) (s : State) : Type 0 where
  pub regions-are : (said_at axes job i s).regions ≡ known_regions axes job i
  pub sets-are : length (said_at axes job i s).sets ≡ ends_before job i
  pub in-axes : s ≡ in_axes → axis_records job i ≡ i
  pub in-sets : (s ≡ in_axes → ⊥) → (axis_records job i < i) × (axis_records job i % axes ≡ 0)
  pub named-is : (q : ℕ) → Exactly (has q (said_at axes job i s).named ≡ true) (NamedAt (known_regions axes job i) job i q)
  -- inside a set: the last record is a value
  pub set-open : Exactly (0 < length (said_at axes job i s).named) ((k : ℕ) × (suc k ≡ i) × (kind (record_at job k) ≡ 2))

-- only axis records so far
axes-mean : (axes : ℕ) (job : List ℕ) (i : ℕ) → axis_records job i ≡ i → ends_before job i ≡ 0 → ((k : ℕ) → suc k ≡ i → kind (record_at job k) ≡ 1) → Means axes job i in_axes
unfolding said_at regions_only has
axes-mean axes job i a z last = record {
  regions-are = ap (λ (n : ℕ). region_list axes (n / axes) job) (sym a);
  sets-are = sym z;
  in-axes = λ e. a;
  in-sets = λ d. absurd (d refl);
  named-is = λ q. record {
    given = λ n. absurd (none n);
    only = λ e. let y : ◌≡◌ {A = ℕ} 0 1 = cc in absurd (omega arith);
  };
  set-open = record {
    given = λ o. let l = last o.0 o.1 in let y = o.2 in absurd (omega arith);
    only = λ h. absurd (omega arith);
  };
}
  where
    none : {q : ℕ} → NamedAt (known_regions axes job i) job i q → ⊥
    none n =
        let b = n.before-it in
        let x = last (i - 1) (omega arith) in
        let y = n.one_set (i - 1) (omega arith) (omega arith) in
        omega arith

-- ---- one record more

pub not-axes : (s : Said) → in_sets s ≡ in_axes → ⊥
not-axes s e = let z : ◌≡◌ {A = ℕ} 0 1 = cc in omega arith

module _ (axes : ℕ) (job : List ℕ) (i : ℕ) where
  -- the axis records before record i, and whether a value or an end stands there
  pub before-is : (t : State) → Means axes job i t → axes_before axes i t ≡ axis_records job i
  unfolding axes_before said_at
  before-is in_axes m = sym (m.in-axes refl)
  before-is (in_sets s) m =
      ap (λ (l : List Region). axes * length l) m.regions-are ∙ regions-from axes job (axis_records job i) (m.in-sets (not-axes s)).1

  pub late_is : (t : State) → Means axes job i t → Exactly (is_late t ≡ true) (axis_records job i < i)
  unfolding is_late
  late_is in_axes m = record { given = λ l. let e = m.in-axes refl in absurd (omega arith); only = λ e. absurd (true-false e refl) }
  late_is (in_sets s) m = record { given = λ l. refl; only = λ e. (m.in-sets (not-axes s)).0 }

  pub early-is : (t : State) → is_late t ≡ false → t ≡ in_axes
  unfolding is_late
  early-is in_axes e = refl
  early-is (in_sets s) e = absurd (true-false refl e)

  none-ended : (t : State) → t ≡ in_axes → length (said_at axes job i t).sets ≡ 0
  unfolding said_at regions_only
  none-ended t e = rw e

  module _ (t : State) (m : Means axes job i t) where
    abbrev r : List ℕ
    r = record_at job i

    abbrev old : Said
    old = said_at axes job i t

    abbrev q' : ℕ
    q' = first_like old.regions (region_number r)

    -- no axis record: the regions are the same
    regions-same : (kind r ≡ 1 → ⊥) → known_regions axes job (suc i) ≡ known_regions axes job i
    regions-same d = ap (λ (n : ℕ). region_list axes (n / axes) job) (count_past 1 job i d)

    past-axes : (kind r ≡ 1 → ⊥) → axis_records job i % axes ≡ 0 → (axis_records job (suc i) < suc i) × (axis_records job (suc i) % axes ≡ 0)
    past-axes d w =
        let c = count_past 1 job i d in
        let h = count_most 1 job i in
        (omega arith, ap (λ (n : ℕ). n % axes) c ∙ w)

    value-mean : kind r ≡ 2 → axis_records job i % axes ≡ 0 → value_told r old ≡ 0 → Means axes job (suc i) (in_sets (after_value old q' (value_as_word r)))
    unfolding said_at after_value has
    value-mean v w z = record {
      regions-are = m.regions-are ∙ sym (regions-same not-one);
      sets-are = m.sets-are ∙ sym (count_past 3 job i (λ e. omega arith));
      in-axes = λ e. absurd (not-axes _ e);
      in-sets = λ d. past-axes not-one w;
      named-is = λ q. record {
        given = λ n. named-given q (subst (λ (x : List Region). NamedAt x job (suc i) q) (regions-same not-one) n);
        only = λ e. subst (λ (x : List Region). NamedAt x job (suc i) q) (sym (regions-same not-one)) (named-only q e);
      };
      set-open = record { given = λ o. omega arith; only = λ h. (i, refl, v) };
    }
      where
        not-one : kind r ≡ 1 → ⊥
        not-one e = omega arith

        like_is : q' ≡ first_like (known_regions axes job i) (region_number r)
        like_is = ap (λ (x : List Region). first_like x (region_number r)) m.regions-are

        known : region_number r < length (known_regions axes job i)
        known = subst (λ (x : List Region). region_number r < length x) m.regions-are (value-known r (length old.regions) (has q' old.named) z)

        named-given : (q : ℕ) → NamedAt (known_regions axes job i) job (suc i) q → eqb q q' || has q old.named ≡ true
        named-given q n =
            ⊎_elim (λ (e : first_like (known_regions axes job i) (region_number r) ≡ q). or_left (eqb q q') (has q old.named) (eq-eqb q q' (sym (like_is ∙ e))))
            (λ (x : NamedAt (known_regions axes job i) job i q). or_right (eqb q q') (has q old.named) ((m.named-is q).given x))
            (named_by (known_regions axes job i) job i q n)

        named-only : (q : ℕ) → eqb q q' || has q old.named ≡ true → NamedAt (known_regions axes job i) job (suc i) q
        named-only q h =
            ⊎_elim (λ (e : eqb q q' ≡ true). named_here (known_regions axes job i) job i q v known (sym like_is ∙ sym (eqb-true q q' e)))
            (λ (e : has q old.named ≡ true). named-on (known_regions axes job i) job i q v ((m.named-is q).only e))
            (or_cases (eqb q q') (has q old.named) h)

    end-mean : kind r ≡ 3 → axis_records job i % axes ≡ 0 → Means axes job (suc i) (in_sets (after_end old))
    unfolding said_at after_end has
    end-mean v w = record {
      regions-are = m.regions-are ∙ sym (regions-same not-one);
      sets-are = length-append old.sets (old.begun ∷ []) ∙ (let a = m.sets-are in let b = count-here 3 job i v in omega arith);
      in-axes = λ e. absurd (not-axes _ e);
      in-sets = λ d. past-axes not-one w;
      named-is = λ q. record {
        given = λ n. absurd (not_named (known_regions axes job (suc i)) job i q not-two n);
        only = λ e. let y : ◌≡◌ {A = ℕ} 0 1 = cc in absurd (omega arith);
      };
      set-open = record { given = λ o. absurd (last o.0 o.1 o.2); only = λ h. absurd (omega arith) };
    }
      where
        not-one : kind r ≡ 1 → ⊥
        not-one e = omega arith

        not-two : kind r ≡ 2 → ⊥
        not-two e = omega arith

        last : (k : ℕ) → suc k ≡ suc i → kind (record_at job k) ≡ 2 → ⊥
        last k e d = let y : k ≡ i = omega arith in not-two (subst (λ (x : ℕ). kind (record_at job x) ≡ 2) y d)

    axis-mean : kind r ≡ 1 → t ≡ in_axes → Means axes job (suc i) in_axes
    axis-mean v a =
        axes-mean axes job (suc i) (count-here 1 job i v ∙ ap suc (m.in-axes a))
        (count_past 3 job i (λ e. omega arith) ∙ sym m.sets-are ∙ none-ended t a)
        (λ k e. let y : i ≡ k = omega arith in subst (λ (x : ℕ). kind (record_at job x) ≡ 1) y v)

    -- a record whose form is right
    abbrev Right : Type 0
    Right = Formed axes (axes_before axes i t) (is_late t) r

    right : (mode : ℕ) → form_told axes mode job r i t ≡ 0 → Right
    right mode z = form-passed axes (axes_before axes i t) (is_late t) r z

    pub whole_is : Right → (kind r ≡ 1 → ⊥) → axis_records job i % axes ≡ 0
    whole_is f d = ap (λ (n : ℕ). n % axes) (sym (before-is t m)) ∙ f.whole (ne_eqb (kind r) 1 d)

    next-means : (mode : ℕ) (s : State) → step axes mode job r i t ≡ on s → Means axes job (suc i) s
    next-means mode s f = go (looks axes mode job r i t)
      where
        go : Looks axes mode job r i t → Means axes job (suc i) s
        go (bad n e h g) = absurd (not-stop s n (sym f ∙ g))
        go (axis z k e) =
            let first = early-is t ((right mode z).early (eq-eqb (kind r) 1 k)) in
            subst (λ (x : State). Means axes job (suc i) x) (on_one in_axes s (sym e ∙ f)) (axis-mean k first)
        go (value z k e) =
            let u = value_on r old s (sym e ∙ f) in
            subst (λ (x : State). Means axes job (suc i) x) u.1 (value-mean k (whole_is (right mode z) (λ a. omega arith)) u.0)
        go (set-end z k e) =
            let u = end_on mode old s (sym e ∙ f) in
            subst (λ (x : State). Means axes job (suc i) x) u.1 (end-mean k (whole_is (right mode z) (λ a. omega arith)))

pub means : (axes mode : ℕ) (job : List ℕ) (i : ℕ) (s : State) → Passed axes mode job i s → Means axes job i s
unfolding Passed count_kind
means axes mode job zero s p = subst (λ (x : State). Means axes job 0 x) (sym p) (axes-mean axes job 0 refl refl (λ k e. absurd (omega arith)))
means axes mode job (suc i) s (t, p, e) = next-means axes job i t (means axes mode job i t p) mode s e
