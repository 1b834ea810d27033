-- The number in the job of the region that first used an index, where the firsts of the regions are found anew. Assumes
-- nothing.
use mathlib.Core.Path.{◌≡◌, sym, ap, ◌∙◌}
use mathlib.Core.List.{List}
use Prim.Native.Nat.{ℕ, ◌+◌, ◌*◌, ◌≤◌, ◌<◌}
use native.Mathlib.Nat.{le_refl, mul_left_comm}
use native.Mathlib.Omega.{arith}
use lib.ListN.{length, get_or}
use Rattle.laws.proofs.Products.{product}
use Rattle.said.specs.Records.{region_length}
use Rattle.said.specs.Sets.{Region, region_list, first_like}
use Rattle.said.proofs.SaidLaws.{Counts, counts, room_of}
use Rattle.job_scan.specs.Lent.{FirstsOf}
use Rattle.told.proofs.TellLaws.{Telling, all_told}
use Rattle.parting.specs.Part.{first_region_named, user_of}
use Rattle.parting.specs.LentPart.{NamedFit, UserFit}

module _ {axes records regions index : ℕ} {job w : List ℕ} (f : UserFit axes job records regions w index) where
  all : Counts axes job records f.said
  all = counts axes 0 job records f.said f.passed.some f.passed.bytes f.is

  axes-in : regions * axes ≤ records
  axes-in = rw (← f.regions-are) (omega (arith, all.records-are))

  pub regions-in : regions ≤ records
  regions-in = omega (arith, product regions axes (le_refl regions) f.passed.some, axes-in)

  long : (k : ℕ) → regions * (k * axes) ≡ k * (regions * axes)
  long k = mul_left_comm regions k axes

  pub coords-in : regions * (6 * axes) ≤ 6 * records
  coords-in = omega (arith, long 6, axes-in)

  pub bytes-in : regions * region_length axes ≤ length job
  bytes-in = omega (arith, long 12, axes-in, f.passed.whole)

  pub index-room : index < records
  index-room = let a = room_of axes job records f.said f.passed.some all in omega (arith, a.0, f.index_in)

  module _ (first : ℕ) (new : List ℕ) (first-is : first ≡ 5 * records + (3 * regions + regions * (6 * axes)))
      (o : FirstsOf (5 * records) (5 * records + (3 * regions + regions * (6 * axes))) axes regions job w new) where
    telling : Telling axes job records f.said
    telling = (all_told axes 0 job records f.said f.is).0

    regions-list : region_list axes regions job ≡ f.said.regions
    regions-list = sym (telling.regions-are ∙ ap (λ (k : ℕ). region_list axes k job) f.regions-are)

    abbrev fit : NamedFit job records new first
    fit = record {
      regions = f.said.regions;
      whole = f.passed.whole;
      room = omega (arith, first-is, f.regions-are, o.only.long, f.passed.room, regions-in, coords-in);
      firsts = λ p h. rw first-is (o.is p (omega (arith, f.regions-are)) ∙ ap (λ (l : List Region). first_like l p) regions-list);
      known = telling.known;
    }

    pub named-fit : NamedFit job records new first
    named-fit = fit

    -- what is found is what the definition says
    pub user-done : (q : ℕ) → q ≡ get_or w (4 * records + index) 0 → (r : ℕ)
        → ((g : NamedFit job records new first) → r ≡ first_region_named g.regions q records job) → r ≡ user_of job f.said index
    unfolding user_of
    user-done q e r h =
        h fit
        ∙ ap (λ (k : ℕ). first_region_named f.said.regions k records job) (e ∙ f.used-is)
        ∙ ap (λ (n : ℕ). first_region_named f.said.regions (get_or f.said.used index 0) n job) f.passed.records-are
