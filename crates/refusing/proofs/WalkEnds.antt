-- The walk along a job's records from its answer back: it stopped at a record, or came to the end, which is refused exactly where the job is unfinished
-- (R8). Assumes nothing.
use mathlib.Core.Path.{◌≡◌, refl, sym, ap, ◌∙◌}
use mathlib.Core.List.{List, [], ◌∷◌}
use mathlib.Core.Logic.{⊎_elim}
use Prim.Native.Nat.{ℕ, ◌%◌, ◌≤◌, ◌<◌}
use native.Mathlib.Omega.{arith}
use lib.ListN.{length}
use lib.Dec.{eqb}
use borrow.Author.Tests.{eq-eqb, ne_eqb}
use Rattle.laws.specs.Pick.{pick}
use Rattle.laws.proofs.Cases.{same_or_not}
use Rattle.said.specs.Records.{record_at}
use Rattle.said.specs.Job.{Said, State, in_axes, in_sets, regions_only, said_at, Outcome, refused, fine, ended, ended_sets, records_from}
use Rattle.refusing.specs.Exactly.{Exactly}
use Rattle.refusing.specs.Counts.{RecordNo, Unfinished}
use Rattle.refusing.specs.Counts.RecordNo.{of-form, of-region, of-sets}
use Rattle.refusing.specs.Counts.Unfinished.{inside-region, inside-set}
use Rattle.refusing.proofs.Passing.{StopsAt, EndsAs}
use Rattle.refusing.proofs.StepLaws.{stop-no}
use Rattle.refusing.proofs.StateLaws.{Means, not-axes}
use Rattle.refusing.proofs.WalkRows.{Way, way, stops-given}
use Rattle.refusing.proofs.WalkRows.Way.{stopped, came}

-- ---- the numbers

pub not_eight : (n : ℕ) → RecordNo n → n ≡ 8 → ⊥
not_eight n (of-form l h) e = omega arith
not_eight n (of-region v) e = ⊎_elim (λ (z : n ≡ 6). omega arith) (λ (z : n ≡ 7). omega arith) v
not_eight n (of-sets z) e = omega arith

-- of a record or of the end
pub record WalkNo (n : ℕ) : Type 0 where
  pub low : 6 ≤ n
  pub high : n ≤ 34
  pub gap : 9 < n → 30 ≤ n

pub record-walk : (n : ℕ) → RecordNo n → WalkNo n
record-walk n (of-form l h) = record { low = omega arith; high = omega arith; gap = λ g. omega arith }
record-walk n (of-region v) =
    ⊎_elim (λ (z : n ≡ 6). record { low = omega arith; high = omega arith; gap = λ g. omega arith })
    (λ (z : n ≡ 7). record { low = omega arith; high = omega arith; gap = λ g. omega arith }) v
record-walk n (of-sets z) = record { low = omega arith; high = omega arith; gap = λ g. omega arith }

pub ended-no : (axes : ℕ) (job : List ℕ) (k : ℕ) (s : State) (n i : ℕ) → ended axes job k s ≡ refused n i → (n ≡ 8) × (i ≡ k)
unfolding ended
ended-no axes job k in_axes n i e = ⊎_elim whole part (same_or_not (k % axes) 0)
  where
    whole : k % axes ≡ 0 → (n ≡ 8) × (i ≡ k)
    whole h = let f = rw (eq-eqb (k % axes) 0 h) at e in let z : ◌≡◌ {A = ℕ} 0 1 = cc in absurd (omega arith)

    part : (k % axes ≡ 0 → ⊥) → (n ≡ 8) × (i ≡ k)
    part h = let f = rw (ne_eqb (k % axes) 0 h) at e in let a : n ≡ 8 = cc in let b : i ≡ k = cc in (a, b)
ended-no axes job k (in_sets s) n i e = go s.named e
  where
    go : (l : List ℕ) → ended_sets k s l ≡ refused n i → (n ≡ 8) × (i ≡ k)
    go [] f = unfold ended_sets in (let z : ◌≡◌ {A = ℕ} 0 1 = cc in absurd (omega arith))
    go (q ∷ l) f = unfold ended_sets in (let a : n ≡ 8 = cc in let b : i ≡ k = cc in (a, b))

-- ---- the walk

module _ (axes mode : ℕ) (job : List ℕ) (records : ℕ) where
  pub stops-only : (n i : ℕ) → (n ≡ 8 → ⊥) → records_from axes mode job job records 0 in_axes ≡ refused n i → StopsAt axes mode job records n i
  stops-only n i d e = go (way axes mode job records)
    where
      go : Way axes mode job records (records_from axes mode job job records 0 in_axes) → StopsAt axes mode job records n i
      go (stopped m j f a) = let x : m ≡ n = cc in let y : j ≡ i = cc in rw (← x, ← y) a
      go (came a) = absurd (d (ended-no axes job records a.state n i (a.ends ∙ e)).0)

  -- T2: the first record that stops the records_from decides
  pub earliest : (n i : ℕ) → i < records → Exactly (records_from axes mode job job records 0 in_axes ≡ refused n i) (StopsAt axes mode job records n i)
  earliest n i h = record { given = λ a. stops-given axes mode job records n i a; only = λ e. go e (way axes mode job records) }
    where
      go : records_from axes mode job job records 0 in_axes ≡ refused n i → Way axes mode job records (records_from axes mode job job records 0 in_axes) → StopsAt axes mode job records n i
      go e (stopped m j f a) = let x : m ≡ n = cc in let y : j ≡ i = cc in rw (← x, ← y) a
      go e (came a) = let k = (ended-no axes job records a.state n i (a.ends ∙ e)).1 in absurd (omega arith)

  pub ends-only : (o : Outcome) → ((n i : ℕ) → o ≡ refused n i → n ≡ 8) → records_from axes mode job job records 0 in_axes ≡ o → EndsAs axes mode job records o
  ends-only o d e = go (way axes mode job records)
    where
      go : Way axes mode job records (records_from axes mode job job records 0 in_axes) → EndsAs axes mode job records o
      go (stopped m j f a) = absurd (not_eight m (stop-no axes mode job (record_at job j) j a.state m a.stops) (d m j (sym e ∙ f)))
      go (came a) = record { state = a.state; all_pass = a.all_pass; ends = a.ends ∙ e }

  pub walk_no : (n i : ℕ) → records_from axes mode job job records 0 in_axes ≡ refused n i → WalkNo n
  walk_no n i e =
      ⊎_elim (λ (z : n ≡ 8). record { low = omega arith; high = omega arith; gap = λ h. omega arith })
      (λ d. let a = stops-only n i d e in record-walk n (stop-no axes mode job (record_at job i) i a.state n a.stops))
      (same_or_not n 8)

-- ---- the end of a job

module _ (axes : ℕ) (job : List ℕ) (k : ℕ) where
  unfinished-axes : Means axes job k in_axes → Exactly (ended axes job k in_axes ≡ refused 8 k) (Unfinished axes job k)
  unfolding ended said_at regions_only
  unfinished-axes m = record { given = given; only = only }
    where
      cut : (k % axes ≡ 0 → ⊥) → pick (eqb (k % axes) 0) (fine (said_at axes job k in_axes)) (refused 8 k) ≡ refused 8 k
      cut d = rw (ne_eqb (k % axes) 0 d)

      given : Unfinished axes job k → ended axes job k in_axes ≡ refused 8 k
      given (inside-region d) = cut (λ e. d (ap (λ (n : ℕ). n % axes) (m.in-axes refl) ∙ e))
      given (inside-set j e v) = let h = m.set-open.given (j, e, v) in absurd (omega arith)

      only : ended axes job k in_axes ≡ refused 8 k → Unfinished axes job k
      only e =
          inside-region (λ c.
          let h : k % axes ≡ 0 = ap (λ (n : ℕ). n % axes) (sym (m.in-axes refl)) ∙ c in
          let f = rw (eq-eqb (k % axes) 0 h) at e in
          let z : ◌≡◌ {A = ℕ} 0 1 = cc in
          omega arith)

  sets-some : (s : Said) (l : List ℕ) → 0 < length l → ended_sets k s l ≡ refused 8 k
  unfolding ended_sets
  sets-some s [] h = absurd (omega arith)
  sets-some s (q ∷ l) h = refl

  some-sets : (s : Said) (l : List ℕ) → ended_sets k s l ≡ refused 8 k → 0 < length l
  unfolding ended_sets
  some-sets s [] e = let z : ◌≡◌ {A = ℕ} 0 1 = cc in absurd (omega arith)
  some-sets s (q ∷ l) e = omega arith

  unfinished-sets : (s : Said) → Means axes job k (in_sets s) → Exactly (ended axes job k (in_sets s) ≡ refused 8 k) (Unfinished axes job k)
  unfolding ended said_at
  unfinished-sets s m = record { given = given; only = only }
    where
      given : Unfinished axes job k → ended axes job k (in_sets s) ≡ refused 8 k
      given (inside-region d) = absurd (d (m.in-sets (not-axes s)).1)
      given (inside-set j e v) = sets-some s s.named (m.set-open.given (j, e, v))

      only : ended axes job k (in_sets s) ≡ refused 8 k → Unfinished axes job k
      only e = let o = m.set-open.only (some-sets s s.named e) in inside-set o.0 o.1 o.2

  pub unfinished-is : (s : State) → Means axes job k s → Exactly (ended axes job k s ≡ refused 8 k) (Unfinished axes job k)
  unfinished-is in_axes m = unfinished-axes m
  unfinished-is (in_sets s) m = unfinished-sets s m
