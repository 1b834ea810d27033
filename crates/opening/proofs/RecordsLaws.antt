-- A job whose records are read: its sets are held, its regions' starts noted, and the tables laid out behind them. Assumes nothing.
use mathlib.Core.Path.{◌≡◌, sym, ap, ◌∙◌}
use mathlib.Core.List.{List, [], ◌∷◌, map}
use Prim.Native.Nat.{ℕ, ◌+◌, ◌*◌, ◌/◌, ◌≤◌, ◌<◌, min}
use native.Mathlib.Omega.{arith}
use lib.ListN.{length, get_or}
use Rattle.laws.proofs.Products.{row_fits}
use Rattle.laws.proofs.EveryLaws.{all-get_or}
use Rattle.laws.proofs.RangeLaws.{get_or-seg}
use Rattle.sets.specs.Lent.{Held, sets_in}
use Rattle.sets.proofs.HeldLaws.{Kept, kept-only, held_kept, sets_same, sets-length}
use Rattle.store.specs.Lent as store
use Rattle.said.specs.Records.{record_start, region_length, coordinates_start, axis_coordinates, coords_long}
use Rattle.said.specs.Work.{regions_at_head, published_work}
use Rattle.said.specs.Sets.{Region}
use Rattle.said.specs.Job.{Said}
use Rattle.laws.specs.LentRange.{Only}
use Rattle.job.specs.declared.whole.JobCounts.{JobCounts}
use Rattle.job.specs.Lent.{JobHeld}
use Rattle.said.proofs.SaidLaws.{Counts, counts, room_of, no-use}
use Rattle.said.proofs.WorkLaws.{head-enough}
use Rattle.encoder.specs.declared.places.Places.{Places}
use Rattle.encoder.specs.LentPlaces.{PlacesAt}
use Rattle.encoder.proofs.PlacesLaws.{laid}
use Rattle.call.specs.Build.{region_bytes, coords_in_use}
use Rattle.limits.specs.Limits.{most_records, most_axes, max_regions, max_shapes}
use Rattle.opening.specs.LentCollected.{StartsAt, Collected}
use Rattle.call.proofs.CoordLaws.{coords-are}

-- ---- sets held below one word are held below a later one

held_more : {w : List ℕ} {n regions end : ℕ} (end' : ℕ) → Held w 0 n regions end → end ≤ end' → end' ≤ length w → Held w 0 n regions end'
held_more end' h a b = record {
  room = b;
  rows = omega (arith, h.rows);
  body = λ x l. omega (arith, h.body x l);
  ascending = h.ascending;
  proper = h.proper;
}

-- ---- where a region's coordinates end

-- region x of n regions of so many axes, in so many records
in-job : (axes n x records a : ℕ) → x < n → a < axes → n * axes ≤ records → axis_coordinates (coordinates_start axes x) a + coords_long ≤ record_start records
in-job axes n x records a h k m =
    let f = row_fits axes n x h in
    let e : region_length axes * x ≡ record_start (x * axes) = omega arith in
    omega arith

module _ {axes mode records : ℕ} {job w w₁ : List ℕ} (some : 0 < axes) (few : axes ≤ most_axes) (bytes : (k : ℕ) → get_or job k 0 < 256)
    (room : record_start records ≤ length job) (most : records ≤ most_records) (work : published_work records (regions_at_head axes job) ≤ length w)
    (c : JobCounts) (held : JobHeld axes mode job records w₁ c) (only : Only ((0, 16 * records) ∷ []) w w₁) where
  abbrev pub says : Said
  says = held.said

  cs : Counts axes job records held.said
  cs = counts axes mode job records says some bytes held.is

  sets-long : length held.said.sets ≡ c.sets
  sets-long = ap length (sym held.sets-are) ∙ sets-length 0 c.sets w₁

  sum-few : c.sets + c.uses ≤ records
  sum-few = omega (arith, (room_of axes job records says some cs).0, sets-long, held.uses-are)

  pub uses-few : c.uses ≤ max_regions
  uses-few = omega (arith, (room_of axes job records says some cs).2, held.uses-are)

  -- no more than the regions at the job's head
  head : c.uses ≤ regions_at_head axes job
  head = omega (arith, head-enough axes mode job records says some bytes room held.is, cs.used-few, held.uses-are)

  published : 16 * records + min records max_shapes * (regions_at_head axes job + 16 + 3 * ((regions_at_head axes job + 31) / 32)) ≤ length w₁
  unfolding published_work
  published = omega (arith, only.long)

  pub starts-room : 4 * records + c.uses ≤ length w₁
  starts-room = omega (arith, published, sum-few)

  used-word : (i : ℕ) → i < c.uses → get_or w₁ (4 * records + i) 0 ≡ get_or held.said.used i 0
  used-word i h = sym (get_or-seg (4 * records) c.uses w₁ i h) ∙ ap (λ (l : List ℕ). get_or l i 0) held.used-are

  used_low : (i : ℕ) → i < c.uses → get_or held.said.used i 0 < length held.said.regions
  used_low i h = all-get_or (λ (q : ℕ). q < length held.said.regions) says.used i 0 cs.used_low (omega (arith, held.uses-are))

  pub starts-low : (i : ℕ) → i < c.uses → get_or w₁ (4 * records + i) 0 < max_regions
  starts-low i h = omega (arith, used-word i h, used_low i h, cs.regions-few)

  pub sets-few : c.sets ≤ most_records
  sets-few = omega (arith, sum-few)

  pub base-few : 4 * records + c.uses ≤ 5242880
  base-few = omega (arith, sum-few)

  module _ {w₂ : List ℕ} (t : StartsAt (4 * records) c.uses axes w₁ w₂) {p : Places} (q : PlacesAt (4 * records + c.uses) c.sets c.uses p) where
    kept : Kept (4 * records) w₁ w₂
    kept = kept-only t.only (omega arith, tt)

    start_word : (i : ℕ) → i < c.uses → get_or w₂ (4 * records + i) 0 ≡ coordinates_start axes (get_or held.said.used i 0)
    start_word i h = t.is i h ∙ ap (coordinates_start axes) (used-word i h)

    regions-fit : length held.said.regions * axes ≤ records
    regions-fit = omega (arith, cs.records-are)

    held₂ : Held w₂ 0 p.sets p.regions p.line
    held₂ = rw (q.sets-is, q.regions-is, q.line-is) (held_more (4 * records + c.uses) (held_kept held.held kept) (omega arith) (omega (arith, starts-room, t.only.long)))

    job-long : region_length axes * length held.said.regions ≤ length job
    job-long =
        let n = length says.regions in
        let e : region_length axes * n ≡ record_start (n * axes) = omega arith in
        omega (arith, regions-fit)

    coords₂ : store.coords_in job axes w₂ (4 * records) (length held.said.used) ≡ coords_in_use held.said
    unfolding coords_in_use
    coords₂ =
        coords-are job bytes axes (length says.regions) job-long w₂ (4 * records) says.used cs.used_low (λ i h. start_word i (omega (arith, held.uses-are)))
        ∙ ap (λ (l : List Region). map (λ x. region_bytes (get_or l x [])) says.used) (sym cs.regions-are)

    pub collected : Collected axes (4 * records) job p held.said w₂
    collected = record {
      fit = record {
        laid = laid (4 * records + c.uses) c.sets c.uses records (regions_at_head axes job) (length w₂) p q (omega arith) most uses-few sum-few head (omega (arith, published, t.only.long));
        held = held₂;
      };
      axes-few = few;
      starts-to = omega (arith, q.regions-is, q.line-is);
      sets-are = ap (λ (n : ℕ). sets_in 0 n w₂) q.sets-is ∙ sets_same held.held kept ∙ held.sets-are;
      regions-are = held.uses-are ∙ sym q.regions-is;
      sourced = λ i h.
          let l : i < c.uses = omega (arith, q.regions-is) in
          rw (start_word i l) (record { inside = λ a k. omega (arith, in-job axes (length says.regions) (get_or says.used i 0) records a (used_low i l) k regions-fit) });
      coords-are = ap (store.coords_in job axes w₂ (4 * records)) (q.regions-is ∙ sym held.uses-are) ∙ coords₂;
      no-use = no-use axes mode job records says some bytes held.is;
    }
