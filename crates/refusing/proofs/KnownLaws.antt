-- A region that a value has named before has its axis records; named before means the same coordinates. Assumes nothing.
use mathlib.Core.Path.{◌≡◌, sym, subst, ◌∙◌}
use mathlib.Core.List.{List}
use mathlib.Core.Logic.{⊎_elim}
use Prim.Native.Nat.{ℕ, zero, suc, ◌/◌, ◌≤◌, ◌<◌}
use native.Mathlib.Omega.{arith}
use lib.ListN.{length}
use borrow.Author.Tests.{eq-eqb}
use Rattle.laws.proofs.Cases.{lt-or-ge, same_or_not}
use Rattle.said.specs.Records.{kind, region_number, record_at}
use Rattle.said.specs.Sets.{Region, region_list, first_like, has}
use Rattle.said.specs.Job.{State, said_at, axes_before, is_late}
use Rattle.said.proofs.RecordLaws.{form-passed}
use Rattle.said.proofs.MeaningLaws.{first-equal, equal-first}
use Rattle.said.proofs.SaidLaws.{value-known}
use Rattle.told.proofs.WordLaws.{count-here, count_past, count_most}
use Rattle.refusing.specs.Exactly.{Exactly}
use Rattle.refusing.specs.Counts.{known_regions, NamedBefore, axis_records}
use Rattle.refusing.proofs.Passing.{Passed}
use Rattle.refusing.proofs.StepLaws.{not-stop, Looks, looks}
use Rattle.refusing.proofs.StepLaws.Looks.{bad, axis, value, set-end}
use Rattle.refusing.proofs.StateLaws.{value_on, NamedAt, Means, means, early-is}

-- one record of another kind, and not all are axis records
count_less : (job : List ℕ) (i p : ℕ) → p < i → (kind (record_at job p) ≡ 1 → ⊥) → axis_records job i < i
count_less job zero p h d = absurd (omega arith)
count_less job (suc i) p h d = ⊎_elim (λ (l : p < i). before (count_less job i p l d)) here (lt-or-ge p i)
  where
    more : axis_records job (suc i) ≤ suc (axis_records job i)
    more =
        ⊎_elim (λ (e : kind (record_at job i) ≡ 1). omega (arith, count-here 1 job i e)) (λ c. omega (arith, count_past 1 job i c)) (same_or_not (kind (record_at job i)) 1)

    before : axis_records job i < i → axis_records job (suc i) < suc i
    before l = let y = more in omega arith

    here : i ≤ p → axis_records job (suc i) < suc i
    here l =
        let e : p ≡ i = omega arith in
        let x = count_past 1 job i (subst (λ (n : ℕ). kind (record_at job n) ≡ 1 → ⊥) e d) in
        let y = count_most 1 job i in
        omega arith

module _ (axes mode : ℕ) (job : List ℕ) where
  abbrev Known : ℕ → ℕ → Type 0
  Known i p = region_number (record_at job p) < length (known_regions axes job i)

  next_known : (i : ℕ) → (kind (record_at job i) ≡ 1 → ⊥) → (p : ℕ) → Known i p → Known (suc i) p
  next_known i d p h = subst (λ (n : ℕ). region_number (record_at job p) < length (region_list axes (n / axes) job)) (sym (count_past 1 job i d)) h

  -- every value that passed named a region with axis records
  pub all_known : (i : ℕ) (s : State) → Passed axes mode job i s → (p : ℕ) → p < i → kind (record_at job p) ≡ 2 → Known i p
  unfolding Passed
  all_known zero s p q h v = absurd (omega arith)
  all_known (suc i) s (t, p, f) q h v = go (means axes mode job i t p) (λ l. all_known i t p q l v) (looks axes mode job (record_at job i) i t)
    where
      -- at record i itself, or before it
      at : (i ≤ q → Known (suc i) q) → (q < i → Known (suc i) q) → Known (suc i) q
      at a b = ⊎_elim b a (lt-or-ge q i)

      here : i ≤ q → kind (record_at job i) ≡ 2
      here l = let e : q ≡ i = omega arith in subst (λ (n : ℕ). kind (record_at job n) ≡ 2) e v

      go : Means axes job i t → (q < i → Known i q) → Looks axes mode job (record_at job i) i t → Known (suc i) q
      go m rec (bad n z h e) = absurd (not-stop s n (sym f ∙ e))
      go m rec (axis z k e) =
          let a = early-is axes job i t ((form-passed axes (axes_before axes i t) (is_late t) (record_at job i) z).early (eq-eqb (kind (record_at job i)) 1 k)) in
          at (λ l. let w = here l in absurd (omega arith))
          (λ l. let x = count_less job i q l (λ z. omega arith) in let y = m.in-axes a in absurd (omega arith))
      go m rec (value z k e) =
          let u = value_on (record_at job i) (said_at axes job i t) s (sym e ∙ f) in
          let x = value-known (record_at job i) (length (said_at axes job i t).regions) (has (first_like (said_at axes job i t).regions (region_number (record_at job i))) (said_at axes job i t).named) u.0 in
          let y : Known i i = subst (λ (x : List Region). region_number (record_at job i) < length x) m.regions-are x in
          at (λ l. let z : i ≡ q = omega arith in next_known i (λ c. omega arith) q (subst (λ (n : ℕ). Known i n) z y)) (λ l. next_known i (λ c. omega arith) q (rec l))
      go m rec (set-end z k e) = at (λ l. let w' = here l in absurd (omega arith)) (λ l. next_known i (λ c. omega arith) q (rec l))

  -- S1: equal regions have one first like
  pub named-before : (i : ℕ) (s : State) → Passed axes mode job i s → (q : ℕ) → q < length (known_regions axes job i)
      → Exactly (NamedAt (known_regions axes job i) job i (first_like (known_regions axes job i) q)) (NamedBefore axes job i q)
  named-before i s p q h = record {
    given = λ n. record {
      place = n.place;
      before-it = n.before-it;
      one_set = n.one_set;
      known = let l = n.before-it in all_known i s p n.place l (n.one_set n.place (omega arith) l);
      same = equal-first (known_regions axes job i) (region_number (record_at job n.place)) q n.same;
    };
    only = λ n. record {
      place = n.place;
      before-it = n.before-it;
      one_set = n.one_set;
      same = first-equal (known_regions axes job i) (region_number (record_at job n.place)) q n.known h n.same;
    };
  }
