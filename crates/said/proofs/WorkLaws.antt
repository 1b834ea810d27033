-- The published work: it is bounded by the records and the regions, for however many of them, and the regions at a job's head, which it goes by, are no
-- fewer than those that the job has. Assumes nothing.
use mathlib.Core.Path.{◌≡◌, refl, subst, sym, ap, ◌∙◌}
use mathlib.Core.Bool.{true, false}
use mathlib.Core.List.{List}
use mathlib.Core.Logic.{⊎_elim}
use Prim.Native.Nat.{ℕ, zero, suc, ◌+◌, ◌-◌, ◌*◌, ◌/◌, ◌%◌, ◌≤◌, ◌<◌, min}
use native.Mathlib.Nat.{le_refl, mul-add, mod-eq-sub-div-mul, div-mul-le_self, lt-div-mul-add, le_of_mul-le-mul_right}
use native.Mathlib.Omega.{arith}
use lib.ListN.{length, get_or, drop}
use lib.Seq.{drop-drop}
use lib.Dec.{eqb, leb}
use borrow.Author.Tests.{eq-eqb, ne_eqb, le-leb}
use Rattle.laws.specs.Pick.{pick}
use Rattle.laws.proofs.Cases.{Which, which, lt-or-ge}
use Rattle.laws.proofs.Cases.Which.{holds, fails}
use Rattle.laws.proofs.Products.{product}
use Rattle.limits.specs.Limits.{max_regions}
use Rattle.said.specs.Records.{record_bytes, record_start, record_at, after_record, record_count, most_records, kind, axis_kind, is_axis}
use Rattle.said.specs.Work.{axis_run, regions_at_head, published_work, building_work}
use Rattle.said.specs.Sets.{region_list}
use Rattle.said.specs.Job.{Said, in_axes, regions_only, after_value, after_end, fine, records_from}
use Rattle.said.proofs.RegionLaws.{regions-length}
use Rattle.said.proofs.WalkLaws.{walk-keeps}
use Rattle.said.proofs.SaidLaws.{counts}

-- ---- how many words they are

pub work-most : (n r : ℕ) → r ≤ max_regions → published_work n r ≤ 16 * n + 1024 * r + 4194304
unfolding published_work
work-most n r l =
    let s = r + 16 + 3 * ((r + 31) / 32) in
    let h : min n 1024 ≤ 1024 = omega arith in
    omega (arith, product 1024 s h (le_refl s))

-- a small job asks for little
pub work-small : (n r : ℕ) → published_work n r ≤ n * (r + 32 + 3 * ((r + 31) / 32))
unfolding published_work
work-small n r =
    let s = r + 16 + 3 * ((r + 31) / 32) in
    let h : min n 1024 ≤ n = omega arith in
    let same : s + 16 ≡ r + 32 + 3 * ((r + 31) / 32) = omega arith in
    rw (← same) (omega (arith, product n s h (le_refl s), mul-add n s 16))

-- sixteen words a record, whatever the regions
pub work-records : (n r : ℕ) → 16 * n ≤ published_work n r
unfolding published_work
work-records n r = omega arith

-- as it is asked for
pub words_are : (n r : ℕ) → n ≤ most_records → r ≤ max_regions → building_work n r ≡ published_work n r
unfolding building_work
words_are n r h l = let e : min r max_regions ≡ r = omega arith in rw (le-leb n most_records h, e)

pub words-most : (n r : ℕ) → building_work n r ≤ 16 * n + 1024 * r + 4194304
unfolding building_work
words-most n r = go (which (leb n most_records))
  where
    go : Which (leb n most_records) → pick (leb n most_records) (published_work n (min r max_regions)) 0 ≤ 16 * n + 1024 * r + 4194304
    go (holds e) = rw e (omega (arith, work-most n (min r max_regions) (omega arith)))
    go (fails e) = rw e (omega arith)

-- ---- the regions at the head

pub head-most : (axes : ℕ) (job : List ℕ) → regions_at_head axes job ≤ max_regions
unfolding regions_at_head
head-most axes job = go (which (eqb axes 0))
  where
    go : Which (eqb axes 0) → pick (eqb axes 0) 0 (min ((axis_run job (record_count job) + (axes - 1)) / axes) max_regions) ≤ max_regions
    go (holds e) = rw e (omega arith)
    go (fails e) = rw e (omega arith)

-- the run, record by record
pub run-axis : (r : List ℕ) (n : ℕ) → 0 < n → is_axis r ≡ true → axis_run r n ≡ suc (axis_run (after_record r) (n - 1))
unfolding axis_run
run-axis r zero h e = absurd (omega arith)
run-axis r (suc n) h e = let d : suc n - 1 ≡ n = omega arith in rw (e, d) refl

pub run_ends : (r : List ℕ) (n : ℕ) → is_axis r ≡ false → axis_run r n ≡ 0
unfolding axis_run
run_ends r zero e = refl
run_ends r (suc n) e = rw e refl

pub run-most : (r : List ℕ) (n : ℕ) → axis_run r n ≤ n
unfolding axis_run
run-most r zero = omega arith
run-most r (suc n) = go (run-most (after_record r) n) (which (is_axis r))
  where
    go : axis_run (after_record r) n ≤ n → Which (is_axis r) → pick (is_axis r) (suc (axis_run (after_record r) n)) 0 ≤ suc n
    go h (holds e) = rw e (omega arith)
    go h (fails e) = rw e (omega arith)

record-behind : (r : List ℕ) (k : ℕ) → record_at (after_record r) k ≡ record_at r (suc k)
record-behind r k =
    let e : record_bytes + record_bytes * k ≡ record_bytes * suc k = omega arith in
    drop-drop (record_bytes * k) record_bytes r ∙ ap (λ (x : ℕ). drop x r) e

-- where the first m of n records are axis records, the run is no shorter
run-has : (m n : ℕ) (r : List ℕ) → m ≤ n → ((k : ℕ) → k < m → is_axis (record_at r k) ≡ true) → m ≤ axis_run r n
unfolding axis_run
run-has zero n r h a = omega arith
run-has (suc m) zero r h a = absurd (omega arith)
run-has (suc m) (suc n) r h a =
    let f = run-has m n (after_record r) (omega arith) (λ k l. subst (λ (x : List ℕ). is_axis x ≡ true) (sym (record-behind r k)) (a (suc k) (omega arith))) in
    rw (a 0 (omega arith)) (omega arith)

-- so many whole regions of a run are no more than it counts
rounded : (axes regions run : ℕ) → 0 < axes → regions * axes ≤ run → regions ≤ (run + (axes - 1)) / axes
rounded axes regions run some h =
    let q = (run + (axes - 1)) / axes in
    let l = lt-div-mul-add {a = run + (axes - 1)} {b = axes} some in
    le_of_mul-le-mul_right {m = regions} {n = q} {k = axes} (omega arith) some

-- the records of the regions of a job are axis records
module _ (axes mode : ℕ) (job : List ℕ) where
  abbrev Axes : ℕ → Type 0
  Axes n = (k : ℕ) → k < n → is_axis (record_at job k) ≡ true

  abbrev Behind : ℕ → Said → Type 0
  Behind i s = Axes (length s.regions * axes)

  axis-more : (i : ℕ) → kind (record_at job i) ≡ axis_kind → Axes i → Axes (suc i)
  axis-more i e a k l = ⊎_elim
      (λ (h : k < i). a k h)
      (λ (h : i ≤ k). let same : i ≡ k = omega arith in subst (λ (x : ℕ). is_axis (record_at job x) ≡ true) same (eq-eqb (kind (record_at job i)) axis_kind e))
      (lt-or-ge k i)

  begin : (i : ℕ) → i % axes ≡ 0 → Axes i → Behind i (regions_only (region_list axes (i / axes) job))
  unfolding regions_only
  begin i z a k l =
      let n = regions-length axes (i / axes) job in
      let d = mod-eq-sub-div-mul i axes in
      let b = div-mul-le_self i axes in
      a k (let l' = rw n at l in omega arith)

  value-more : (i : ℕ) (s : Said) (q w : ℕ) → Behind i s → Behind (suc i) (after_value s q w)
  unfolding after_value
  value-more i s q w a = a

  end_more : (i : ℕ) (s : Said) → Behind i s → Behind (suc i) (after_end s)
  unfolding after_end
  end_more i s a = a

  axes-first : (records : ℕ) (s : Said) → records_from axes mode job job records 0 in_axes ≡ fine s → Axes (length s.regions * axes)
  axes-first records s e =
      (walk-keeps axes mode job Axes Behind (λ i k _ a. axis-more i k a) begin (λ i s _ _ a. value-more i s _ _ a) (λ i s _ a. end_more i s a)
      records s (λ k l. absurd (omega arith)) e).0

  -- THE LAW: a job has no more regions than there are at its head
  pub head-enough : (records : ℕ) (s : Said) → 0 < axes → ((k : ℕ) → get_or job k 0 < 256) → record_start records ≤ length job
      → records_from axes mode job job records 0 in_axes ≡ fine s → length s.regions ≤ regions_at_head axes job
  unfolding regions_at_head
  head-enough records s some bytes room e =
      let c = counts axes mode job records s some bytes e in
      let n = length s.regions in
      let run = run-has (n * axes) (record_count job) job (omega (arith, c.records-are)) (axes-first records s e) in
      let all = rounded axes n (axis_run job (record_count job)) some run in
      rw (ne_eqb axes 0 (λ z. omega arith)) (omega (arith, c.regions-few))
