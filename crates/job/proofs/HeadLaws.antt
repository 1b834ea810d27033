-- The run of axis records at a job's head, counted record by record. Assumes nothing.
use mathlib.Core.Path.{◌≡◌, refl, sym, ap, ◌∙◌}
use Rattle.std.proofs.lemmas.Grind.{div_ceil_times}
use Rattle.std.proofs.lemmas.Nat.{div-mul-add}
use mathlib.Core.List.{List}
use Prim.Native.Nat.{ℕ, ◌+◌, ◌-◌, ◌*◌, ◌/◌, ◌%◌, ◌≤◌, ◌<◌, min}
use native.Mathlib.Omega.{arith}
use lib.ListN.{drop}
use lib.Seq.{drop-drop}
use borrow.Author.Tests.{eq-eqb, ne_eqb}
use Rattle.limits.specs.Limits.{max_regions}
use Rattle.said.specs.Records.{record_bytes, record_at, after_record, record_count, kind, axis_kind}
use Rattle.said.specs.Work.{axis_run, regions_at_head}
use Rattle.said.proofs.WorkLaws.{run-axis, run_ends, run-most}

-- the first i records are axis records
pub record Heading (job : List ℕ) (records i : ℕ) : Type 0 where
  pub within : i ≤ records
  is : axis_run job records ≡ i + axis_run (record_at job i) (records - i)

next : (job : List ℕ) (i : ℕ) → after_record (record_at job i) ≡ record_at job (i + 1)
next job i =
    let e : record_bytes * i + record_bytes ≡ record_bytes * (i + 1) = omega arith in
    drop-drop record_bytes (record_bytes * i) job ∙ ap (λ (k : ℕ). drop k job) e

pub heading-start : (job : List ℕ) (records : ℕ) → Heading job records 0
heading-start job records = record { within = omega arith; is = let e : records - 0 ≡ records = omega arith in rw e (omega arith) }

module _ {job : List ℕ} {records i : ℕ} (h : Heading job records i) where
  pub heading-more : i < records → kind (record_at job i) ≡ axis_kind → Heading job records (i + 1)
  heading-more l e =
      let one = run-axis (record_at job i) (records - i) (omega arith) (eq-eqb (kind (record_at job i)) axis_kind e) in
      let same : records - i - 1 ≡ records - (i + 1) = omega arith in
      let rest : axis_run (after_record (record_at job i)) (records - i - 1) ≡ axis_run (record_at job (i + 1)) (records - (i + 1)) = rw (next job i, same) refl in
      record { within = omega arith; is = omega (arith, h.is) }

  -- another record, or none
  pub heading-other : (kind (record_at job i) ≡ axis_kind → ⊥) → i ≡ axis_run job records
  heading-other e = omega (arith, h.is, run_ends (record_at job i) (records - i) (ne_eqb (kind (record_at job i)) axis_kind e))

  pub heading-all : (i < records → ⊥) → i ≡ axis_run job records
  heading-all e =
      let none : records - i ≡ 0 = omega (arith, h.within) in
      let z = run-most (record_at job i) (records - i) in
      omega (arith, h.is)

-- ---- the regions that the run is

-- rounding up, as the definition writes it
rounds : (a b : ℕ) → 0 < b → a / b + min 1 (a % b) ≡ (a + (b - 1)) / b
rounds a b h =
    let d = a / b + min 1 (a % b) in
    let t = div_ceil_times a b h in
    let s = a + (b - 1) - d * b in
    let e : a + (b - 1) ≡ d * b + s = omega (arith, t.0, t.1) in
    sym (ap (λ (x : ℕ). x / b) e ∙ div-mul-add d b s (omega (arith, t.0, t.1)))

pub head_is : (axes : ℕ) (job : List ℕ) → (axes ≡ 0 → ⊥) → {run regions : ℕ} → run ≡ axis_run job (record_count job) → regions ≡ run / axes + min 1 (run % axes)
    → min regions max_regions ≡ regions_at_head axes job
unfolding regions_at_head
head_is axes job h {run} r q = rw (ne_eqb axes 0 h, ← r, q, rounds run axes (omega arith)) refl
