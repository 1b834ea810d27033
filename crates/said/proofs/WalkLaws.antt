-- What each record of a job keeps true, the records_from along all of them keeps true: one induction for all such facts. Assumes nothing.
use mathlib.Core.Path.{◌≡◌, refl, sym, ap, subst, ◌∙◌}
use mathlib.Core.Bool.{Bool, true, false, ◌||◌}
use mathlib.Core.List.{List, [], ◌∷◌}
use Prim.Native.Nat.{ℕ, zero, suc, ◌+◌, ◌*◌, ◌/◌, ◌%◌}
use native.Mathlib.Nat.{add-zero}
use native.Mathlib.Numerals.{add-one}
use native.Mathlib.Omega.{arith}
use lib.ListN.{length, drop}
use lib.Seq.{drop-drop}
use lib.Dec.{eqb}
use borrow.Author.Tests.{eqb-true}
use Rattle.laws.specs.Pick.{pick}
use Rattle.laws.proofs.Cases.{Which, which, true-false}
use Rattle.laws.proofs.Cases.Which.{holds, fails}
use Rattle.said.specs.Records.{record_at, kind, axis_kind, value_kind, end_kind, is_axis, is_value, is_end, region_number, value_as_word}
use Rattle.said.specs.Refusals.{form_refusal, value_no, end_refusal}
use Rattle.said.specs.Sets.{region_list, first_like, has}
use Rattle.said.specs.Job.{Said, State, in_axes, in_sets, Step, stop, on, unless, after_value, after_end, value_step, end_step, regions_only, said_at, axes_before, is_late, kind_step, step, Outcome, refused, fine, ended, ended_sets, follow, records_from}
use Rattle.said.proofs.RecordLaws.{form-passed}

-- the third of three, where it is none of the others
third : (a b c : Bool) → (a || (b || c)) ≡ true → a ≡ false → b ≡ false → c ≡ true
third true b c h p q = absurd (true-false refl p)
third false true c h p q = absurd (true-false refl q)
third false false c h p q = h

-- Before record i: Q i while all records so far were axis records, P i s once s is said.
module _ (axes mode : ℕ) (job : List ℕ) (Q : ℕ → Type 0) (P : ℕ → Said → Type 0)
    (axis-more : (i : ℕ) → kind (record_at job i) ≡ axis_kind → form_refusal axes i false (record_at job i) ≡ 0 → Q i → Q (suc i))
    (begin : (i : ℕ) → i % axes ≡ 0 → Q i → P i (regions_only (region_list axes (i / axes) job)))
    (value-more : (i : ℕ) (s : Said) → kind (record_at job i) ≡ value_kind
    → value_no (record_at job i) (length s.regions) (has (first_like s.regions (region_number (record_at job i))) s.named) ≡ 0
    → P i s → P (suc i) (after_value s (first_like s.regions (region_number (record_at job i))) (value_as_word (record_at job i))))
    (end_more : (i : ℕ) (s : Said) → kind (record_at job i) ≡ end_kind → P i s → P (suc i) (after_end s)) where
  abbrev Kept : ℕ → State → Type 0
  Kept i in_axes = Q i
  Kept i (in_sets s) = P i s

  abbrev After : ℕ → Step → Type 0
  After i (stop n) = Unit {0}
  After i (on s) = Kept i s

  abbrev Ends : ℕ → Outcome → Type 0
  Ends i (refused n at) = Unit {0}
  Ends i (fine s) = P i s × (s.named ≡ [])

  -- ---- one step

  unless-after : (i n : ℕ) (x : Step) → (n ≡ 0 → After i x) → After i (unless n x)
  unfolding unless
  unless-after i zero x h = h refl
  unless-after i (suc n) x h = tt

  pick-after : (i : ℕ) (b : Bool) (x y : Step) → (b ≡ true → After i x) → (b ≡ false → After i y) → After i (pick b x y)
  pick-after i true x y h k = h refl
  pick-after i false x y h k = k refl

  -- a value or an end
  set_after : (i : ℕ) (s : Said) → (is_value (record_at job i) ≡ false → is_end (record_at job i) ≡ true) → P i s
      → After (suc i) (pick (is_value (record_at job i)) (value_step (record_at job i) s) (end_step mode s))
  unfolding value_step end_step
  set_after i s known p =
      let r = record_at job i in
      let q = first_like s.regions (region_number r) in
      pick-after (suc i) (is_value r) (value_step r s) (end_step mode s)
      (λ e. unless-after (suc i) (value_no r (length s.regions) (has q s.named)) (on (in_sets (after_value s q (value_as_word r))))
      (λ z. value-more i s (eqb-true (kind r) value_kind e) z p))
      (λ e. unless-after (suc i) (end_refusal mode (length s.sets)) (on (in_sets (after_end s)))
      (λ z. end_more i s (eqb-true (kind r) end_kind (known e)) p))

  kind-after : (i : ℕ) (s : State) → Kept i s → form_refusal axes (axes_before axes i s) (is_late s) (record_at job i) ≡ 0
      → After (suc i) (kind_step mode (record_at job i) (said_at axes job i s))
  unfolding kind_step said_at axes_before is_late
  kind-after i in_axes k z =
      let r = record_at job i in
      let first = regions_only (region_list axes (i / axes) job) in
      let f = form-passed axes i false r z in
      pick-after (suc i) (is_axis r) (on in_axes) (pick (is_value r) (value_step r first) (end_step mode first))
      (λ e. axis-more i (eqb-true (kind r) axis_kind e) z k)
      (λ e. set_after i first (third (is_axis r) (is_value r) (is_end r) f.known e) (begin i (f.whole e) k))
  kind-after i (in_sets s) k z =
      let r = record_at job i in
      let f = form-passed axes (axes * length s.regions) true r z in
      pick-after (suc i) (is_axis r) (on in_axes) (pick (is_value r) (value_step r s) (end_step mode s))
      (λ e. absurd (true-false refl (f.early e)))
      (λ e. set_after i s (third (is_axis r) (is_value r) (is_end r) f.known e) k)

  step_after : (i : ℕ) (s : State) → Kept i s → After (suc i) (step axes mode job (record_at job i) i s)
  unfolding step
  step_after i s k =
      unless-after (suc i) (form_refusal axes (axes_before axes i s) (is_late s) (record_at job i)) (kind_step mode (record_at job i) (said_at axes job i s))
      (λ z. kind-after i s k z)

  -- ---- the records_from

  sets_end : (i : ℕ) (s : Said) (named : List ℕ) → s.named ≡ named → P i s → Ends i (ended_sets i s named)
  unfolding ended_sets
  sets_end i s [] e p = (p, e)
  sets_end i s (q ∷ named) e p = tt

  ended-ends : (i : ℕ) (s : State) → Kept i s → Ends i (ended axes job i s)
  unfolding ended regions_only
  ended-ends i in_axes k = go (which (eqb (i % axes) 0))
    where
      go : Which (eqb (i % axes) 0) → Ends i (pick (eqb (i % axes) 0) (fine (regions_only (region_list axes (i / axes) job))) (refused 8 i))
      go (holds e) = rw e (begin i (eqb-true (i % axes) 0 e) k, refl)
      go (fails e) = rw e tt
  ended-ends i (in_sets s) k = sets_end i s s.named refl k

  follow-ends : (i n : ℕ) (t : Step) (go : State → Outcome) → ((s : State) → Kept (suc i) s → Ends n (go s)) → After (suc i) t → Ends n (follow i t go)
  unfolding follow
  follow-ends i n (stop m) go h a = tt
  follow-ends i n (on s) go h a = h s a

  next-record : (i : ℕ) → drop 12 (record_at job i) ≡ record_at job (i + 1)
  next-record i = let e : 12 * i + 12 ≡ 12 * (i + 1) = omega arith in drop-drop 12 (12 * i) job ∙ ap (λ (k : ℕ). drop k job) e

  walk_ends : (left i n : ℕ) (rest : List ℕ) (s : State) → rest ≡ record_at job i → i + left ≡ n → Kept i s → Ends n (records_from axes mode job rest left i s)
  unfolding records_from
  walk_ends zero i n rest s r e k = subst (λ (m : ℕ). Ends m (ended axes job i s)) (sym (add-zero i) ∙ e) (ended-ends i s k)
  walk_ends (suc left) i n rest s r e k =
      follow-ends i n (step axes mode job rest i s) (λ s'. records_from axes mode job (drop 12 rest) left (i + 1) s')
      (λ s' a. walk_ends left (i + 1) n (drop 12 rest) s' (ap (drop 12) r ∙ next-record i) (omega arith) (subst (λ (m : ℕ). Kept m s') (sym (add-one i)) a))
      (subst (λ (l : List ℕ). After (suc i) (step axes mode job l i s)) (sym r) (step_after i s k))

  pub walk-keeps : (records : ℕ) (s : Said) → Q 0 → records_from axes mode job job records 0 in_axes ≡ fine s → P records s × (s.named ≡ [])
  walk-keeps records s q e = subst (Ends records) e (walk_ends records 0 records job in_axes refl (omega arith) q)
