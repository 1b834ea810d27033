-- The first record that the panel's reader does not take is one and right; and what the profile makes of an outcome. Assumes nothing.
use mathlib.Core.Path.{◌≡◌, refl, ap, subst, ◌∙◌}
use mathlib.Core.Bool.{not, ◌||◌}
use mathlib.Core.List.{List}
use mathlib.Core.Logic.{⊎_elim}
use Prim.Native.Nat.{ℕ, zero, suc, ◌+◌, ◌≤◌, ◌<◌}
use native.Mathlib.Omega.{arith}
use lib.Seq.{drop-drop}
use borrow.Author.Tests.{eq-eqb, ne_eqb}
use Rattle.laws.proofs.Cases.{Tri, tri, same_or_not, lt-or-ge, Which, which}
use Rattle.laws.proofs.Cases.Tri.{below, same, above}
use Rattle.laws.proofs.Cases.Which.{holds, fails}
use Rattle.said.specs.Records.{record_at, record_count, is_axis, is_value, record_bytes, record_start}
use Rattle.said.specs.Refusals.{long_value, bad_region, first_failed}
use Rattle.said.specs.Job.{Said, Outcome, refused, fine}
use Rattle.panel.specs.declared.Profile.{Profile}
use Rattle.panel.specs.declared.Profile.TheVariants.{Plain, Panel}
use Rattle.panel.specs.Panelled.{Odd}
use Rattle.panel.specs.Taken.{has_short_value, has_sound_axis, panel_refusal}
use Rattle.panel.specs.Panelled.{none_odd, first_of, odd_of, read_records, odd_else, panelled}
use Rattle.panel.specs.LentOdd.{AllTaken, FirstOdd}

-- ---- the first of some records

module _ (job : List ℕ) where
  -- from record i on, where those before it are taken
  data From (n : ℕ) (x : Odd) : Type 0 where
    none : AllTaken job n → x ≡ none_odd → From n x
    found : FirstOdd job n x → From n x

  from : (left i n : ℕ) → i + left ≡ n → AllTaken job i → From n (first_of (record_at job i) left i)
  unfolding first_of
  from zero i n e t = none (λ j h. t j (omega arith)) refl
  from (suc left) i n e t =
      ⊎_elim (taken (λ u. from left (i + 1) n (omega arith) u)) odd (same_or_not (panel_refusal (record_at job i)) 0)
    where
      one_more : panel_refusal (record_at job i) ≡ 0 → AllTaken job (i + 1)
      one_more z j h =
          ⊎_elim (λ (l : j < i). t j l) (λ (l : i ≤ j). let q : i ≡ j = omega arith in subst (λ (m : ℕ). panel_refusal (record_at job m) ≡ 0) q z) (lt-or-ge j i)

      taken : (AllTaken job (i + 1) → From n (first_of (record_at job (i + 1)) left (i + 1))) → panel_refusal (record_at job i) ≡ 0 → From n (first_of (record_at job i) (suc left) i)
      taken rec z =
          let k : record_start i + record_bytes ≡ record_start (i + 1) = omega arith in
          rw (eq-eqb (panel_refusal (record_at job i)) 0 z, drop-drop record_bytes (record_start i) job, k) (rec (one_more z))

      odd : (panel_refusal (record_at job i) ≡ 0 → ⊥) → From n (first_of (record_at job i) (suc left) i)
      odd d = rw (ne_eqb (panel_refusal (record_at job i)) 0 d) (found (record { within = omega arith; before-taken = t; number_is = refl; some = d }))

  whole : (n : ℕ) → From n (first_of job n 0)
  whole n = from n 0 n (omega arith) (λ j h. absurd (omega arith))

  -- there is but one
  odd-only : (n i : ℕ) → i < n → AllTaken job i → (panel_refusal (record_at job i) ≡ 0 → ⊥) → first_of job n 0 ≡ record { no = panel_refusal (record_at job i); at = i }
  odd-only n i h t d = go (whole n)
    where
      go : From n (first_of job n 0) → first_of job n 0 ≡ record { no = panel_refusal (record_at job i); at = i }
      go (none a e) = absurd (d (a i h))
      go (found f) = by (tri (first_of job n 0).at i)
        where
          by : Tri (first_of job n 0).at i → first_of job n 0 ≡ record { no = panel_refusal (record_at job i); at = i }
          by (below l) = absurd (f.some (f.number_is ∙ t (first_of job n 0).at l))
          by (same e) =
              let a : (first_of job n 0).no ≡ panel_refusal (record_at job i) = f.number_is ∙ ap (λ (m : ℕ). panel_refusal (record_at job m)) e in
              (λ k. record { no = a k; at = e k })
          by (above l) = absurd (d (f.before-taken i l))

-- ---- its numbers

pub data PanelNo (n : ℕ) : Type 0 where
  all_right : n ≡ 0 → PanelNo n
  long : n ≡ long_value → PanelNo n
  bad : n ≡ bad_region → PanelNo n

pub panel-no : (r : List ℕ) → PanelNo (panel_refusal r)
unfolding panel_refusal first_failed
panel-no r = go (which (not (is_value r) || has_short_value r)) (which (not (is_axis r) || has_sound_axis r))
  where
    go : Which (not (is_value r) || has_short_value r) → Which (not (is_axis r) || has_sound_axis r) → PanelNo (panel_refusal r)
    go (holds e) (holds f) = rw (e, f) (all_right refl)
    go (holds e) (fails f) = rw (e, f) (bad refl)
    go (fails e) f = rw e (long refl)

-- ---- what the profile makes of an outcome

pub panelled-plain : (job : List ℕ) (o : Outcome) → panelled Plain job o ≡ o
unfolding panelled odd_of odd_else
panelled-plain job o = refl

module _ (job : List ℕ) (o : Outcome) where
  abbrev limit : ℕ
  limit = read_records (record_count job) o

  -- it takes all records that were read, or the first that it does not answers
  pub data Way : Type 0 where
    takes : AllTaken job limit → panelled Panel job o ≡ o → Way
    stops : (i : ℕ) → i < limit → AllTaken job i → (panel_refusal (record_at job i) ≡ 0 → ⊥) → panelled Panel job o ≡ refused (panel_refusal (record_at job i)) i → Way

  pub way : Way
  unfolding panelled odd_of odd_else
  way = go (whole job limit)
    where
      go : From job limit (first_of job limit 0) → Way
      go (none a e) = takes a (rw e)
      go (found f) =
          let x = first_of job limit 0 in
          stops x.at f.within f.before-taken (λ z. f.some (f.number_is ∙ z))
          (rw (ne_eqb x.no 0 f.some) (ap (λ (m : ℕ). refused m x.at) f.number_is))

  -- it answers by record i
  pub panelled-odd : (i : ℕ) → i < read_records (record_count job) o → AllTaken job i → (panel_refusal (record_at job i) ≡ 0 → ⊥) → panelled Panel job o ≡ refused (panel_refusal (record_at job i)) i
  unfolding panelled odd_of odd_else
  panelled-odd i h t d = rw (odd-only job (read_records (record_count job) o) i h t d, ne_eqb (panel_refusal (record_at job i)) 0 d)

-- ---- as code finds it: of so many records the first, or none

module _ (p : Profile) (job : List ℕ) (o : Outcome) (limit : ℕ) (l : limit ≡ read_records (record_count job) o) (x : Odd) (e : x ≡ odd_of p job limit) where
  pub odd-answers : (x.no ≡ 0 → ⊥) → panelled p job o ≡ refused x.no x.at
  unfolding panelled odd_else
  odd-answers d = rw (← l, ← e, ne_eqb x.no 0 d)

  pub odd-passes : x.no ≡ 0 → panelled p job o ≡ o
  unfolding panelled odd_else
  odd-passes z = rw (← l, ← e, eq-eqb x.no 0 z)

-- no record stands before what was refused at place 0
pub panelled-early : (p : Profile) (job : List ℕ) (o : Outcome) (n i : ℕ) → o ≡ refused n i → i ≡ 0 → panelled p job o ≡ refused n i
unfolding panelled odd_of odd_else read_records first_of
panelled-early Plain job o n i e z = e
panelled-early Panel job o n i e z = rw (e, z)

-- how many records were read
pub read-fine : (n : ℕ) (o : Outcome) (s : Said) → o ≡ fine s → n ≡ read_records n o
unfolding read_records
read-fine n o s e = rw e

pub read-refused : (n : ℕ) (o : Outcome) (m i : ℕ) → o ≡ refused m i → i ≡ read_records n o
unfolding read_records
read-refused n o m i e = rw e
