-- The tables before the first set, and what work holds after the last. Assumes nothing.
use mathlib.Core.Path.{◌≡◌, refl, sym, ◌∙◌, subst}
use mathlib.Core.List.{List, [], ◌∷◌}
use Prim.Native.Nat.{ℕ, ◌+◌, ◌*◌, ◌/◌, ◌≤◌, ◌<◌}
use native.Mathlib.Nat.{mul_left_comm, mul-le-mul_left, div-mul-le_self, div-le_self}
use native.Mathlib.Omega.{arith}
use lib.ListN.{length, get_or}
use lib.Seq.{ext_get_or}
use Rattle.laws.specs.LentRange.{seg, Zeroed}
use Rattle.laws.proofs.EveryLaws.{all-get_or}
use Rattle.laws.proofs.RangeLaws.{only-refl, only-trans, only-weaken, length-seg, get_or-seg}
use Rattle.sets.specs.Set.{Ascending, Proper}
use Rattle.sets.specs.Lent.{entries, sets_in}
use Rattle.sets.proofs.HeldLaws.{sets-length, sets-at}
use Rattle.values.specs.declared.tables.SetTables.{SetTables}
use Rattle.said.specs.Sets.{region_list, first_like, has}
use Rattle.said.specs.Job.{regions_only}
use Rattle.std.specs.Prelude.{Result, Ok, Err}
use Rattle.refusals.specs.declared.Refused.{Refused}
use Rattle.job_scan.specs.declared.reading.SetCounts.{SetCounts}
use Rattle.job_scan.specs.LentAxes.{AxesEnd, AxesRead}
use Rattle.values.specs.Lent.{slot_in, Holds}
use Rattle.job_scan.specs.Lent.{FirstsOf, Room, SetsHeld, SetsRead}
use Rattle.limits.specs.Limits.{most_records}
use Rattle.job.specs.Lent.{set_tables_at, Prepared, JobHeld, JobRead}
use Rattle.said.specs.Refusals.{published_work}
use Rattle.said.proofs.WorkLaws.{work-records}
use Rattle.said.proofs.RegionLaws.{regions-length, like-below}
use Rattle.values.proofs.HoldLaws.{stamps-none}
use Rattle.entries.proofs.OrderLaws.{in-order-none}
use Rattle.said.proofs.GoodLaws.{good_start}

module _ (axes regions records : ℕ) (job old mid new : List ℕ) (few : records ≤ most_records) (room : 16 * records ≤ length old)
    (small : regions * (6 * axes) ≤ 6 * records) (fits : regions ≤ records) (some : 0 < axes)
    (f : FirstsOf (5 * records) (5 * records + (3 * regions + regions * (6 * axes))) axes regions job old mid)
    (z : Zeroed (5 * records) (2 * regions) mid new) where
  high : (j : ℕ) → 5 * records + 2 * regions ≤ j → get_or new j 0 ≡ get_or mid j 0
  high j l = z.only.kept j (record { apart = λ p. omega arith }, tt)

  n : length (region_list axes regions job) ≡ regions
  n = regions-length axes regions job

  first-is : (r : ℕ) → r < regions → get_or new (5 * records + (3 * regions + regions * (6 * axes)) + r) 0 ≡ first_like (region_list axes regions job) r
  first-is r l = high (5 * records + (3 * regions + regions * (6 * axes)) + r) (omega arith) ∙ f.is r l

  -- a region's coordinates, as a set, take more than a word
  regions-once : regions * 1 ≤ regions * (6 * axes)
  regions-once = mul-le-mul_left regions (omega arith)

  pub prepared : Prepared axes regions records job old new
  unfolding set_tables_at regions_only slot_in has entries first_like
  prepared = record {
    holds = record {
      regions-are = n;
      firsts = first-is;
      firsts-low = λ r l. rw (first-is r l) (omega (arith, n, like-below (region_list axes regions job) r (omega (arith, n))));
      stamps = stamps-none (5 * records + regions) regions new (λ q l.
          let e : 5 * records + regions + q ≡ 5 * records + (regions + q) = omega arith in
          rw e (z.is (regions + q) (omega arith)));
      uses-are = record { slots = λ q l. z.is q (omega arith); table = λ k l. absurd (omega arith) };
      uses-count = refl;
      used_low = tt;
      used-differ = tt;
      begun-is = in-order-none;
      sets-count = refl;
      rows_are = λ x l. absurd (omega arith);
      bodies = λ x l. absurd (omega arith);
      bodies-low = λ x l. absurd (omega arith);
      rows-low = omega arith;
      start-low = omega arith;
      good = good_start (region_list axes regions job);
    };
    room = record {
      rows-to = omega arith;
      body-to = omega arith;
      used-to = omega arith;
      slot-to = omega arith;
      spare-to = omega (arith, regions-once);
      first_to = omega (arith, z.only.long, f.only.long);
      few = few;
      regions-few = omega arith;
      long-few = omega arith;
    };
    only = record {
      long = z.only.long ∙ f.only.long;
      kept = λ j o.
          let far = o.0.apart in
          z.only.kept j (record { apart = λ p. omega (arith, far (omega arith)) }, tt)
          ∙ f.only.kept j (record { apart = λ p. omega (arith, far (omega arith)) }, tt);
    };
  }

-- ---- so many whole regions

pub span : (a b c : ℕ) → a / b * (c * b) ≤ c * a
span a b c =
    let e : a / b * (c * b) ≡ c * (a / b * b) = mul_left_comm (a / b) c b in
    rw e (mul-le-mul_left c (div-mul-le_self a b))

pub regions-fit : (a b records : ℕ) → a ≤ records → a / b ≤ records
regions-fit a b records h = omega (arith, div-le_self a b)

-- ---- after the last record

module _ (axes mode : ℕ) (job : List ℕ) (records at : ℕ) (old mid new : List ℕ) (a : AxesEnd axes job records at) (p : Prepared axes (at / axes) records job old mid) where
  abbrev tables : SetTables
  tables = set_tables_at records axes (at / axes)

  module _ (long : length new ≡ length mid)
      (room : 16 * records ≤ length old) (small : at / axes * (6 * axes) ≤ 6 * records) (fits : at / axes ≤ records) where
    job-held : (c : SetCounts) → SetsHeld axes mode job records at tables new c
        → JobHeld axes mode job records new (record { regions = at / axes; sets = c.sets; values = c.values; uses = c.uses })
    unfolding set_tables_at
    job-held c s = let sets = c.sets in let uses = c.uses in record {
      said = s.said;
      is = a.good mode ∙ s.is;
      regions-are = s.held.regions-are;
      sets-are = ext_get_or [] (sets_in 0 sets new) s.said.sets (sets-length 0 sets new ∙ sym s.held.sets-count)
          (λ k l. let q : k < sets = omega (arith, sets-length 0 sets new) in sets-at 0 sets new k q ∙ s.held.rows_are k q);
      values-are = s.values-are;
      used-are =
          let long : 4 * records + uses ≤ length new = (let x = length-new in let y = s.uses-few in omega arith) in
          ext_get_or 0 (seg (4 * records) uses new) s.said.used (length-seg (4 * records) uses new long ∙ sym s.held.uses-count)
          (λ k l.
          let q : k < uses = omega (arith, length-seg (4 * records) uses new long) in
          get_or-seg (4 * records) uses new k q ∙ s.held.uses-are.table k (omega (arith, s.held.uses-count)));
      uses-are = s.held.uses-count;
      held = record {
        room = omega (arith, length-new);
        rows = omega (arith, s.held.rows-low, s.start-in);
        body = λ x l. omega (arith, s.held.bodies x l, s.start-in);
        ascending = λ x l. rw (s.held.rows_are x l) (all-get_or (Ascending 0) s.said.sets x [] s.held.good.sets-rising (omega (arith, s.held.sets-count)));
        proper = λ x l. rw (s.held.rows_are x l, ← s.held.uses-count) (all-get_or (Proper (length s.said.used)) s.said.sets x [] s.held.good.sets-proper (omega (arith, s.held.sets-count)));
      };
    }
      where
        length-new : length new ≡ length old
        length-new = long ∙ p.only.long

    pub job_read : (r : Result SetCounts Refused) → SetsRead axes mode job records at tables mid new r
        → (c : SetCounts) → r ≡ Ok c → JobRead axes mode job records old new (Ok (record { regions = at / axes; sets = c.sets; values = c.values; uses = c.uses }))
    unfolding set_tables_at
    job_read r h c e = record {
      is = job-held c (rw e at h.is);
      only = only-trans p.only (only-weaken (λ j o. (record { apart = λ q. omega (arith, o.0.apart (omega arith)) }, tt)) h.only);
    }

  pub sets-refused : (r : Result SetCounts Refused) → SetsRead axes mode job records at tables mid new r → (x : Refused) → r ≡ Err x → JobRead axes mode job records old new (Err x)
  unfolding set_tables_at
  sets-refused r h x e = record {
    is = a.good mode ∙ (rw e at h.is);
    only = only-trans p.only (only-weaken (λ j o. (record { apart = λ q. omega (arith, o.0.apart (omega arith)) }, tt)) h.only);
  }

pub axes-refused : (axes mode : ℕ) (job : List ℕ) (records : ℕ) (old : List ℕ) (r : Result ℕ Refused) (x : Refused) → AxesRead axes job records r → r ≡ Err x
    → JobRead axes mode job records old old (Err x)
axes-refused axes mode job records old r x a e = record { is = (rw e at a).1 mode; only = only-refl ((0, 16 * records) ∷ []) old }

-- the tables as the code makes them
pub ready : (t : SetTables) (axes regions records : ℕ) (job old new : List ℕ) → t ≡ set_tables_at records axes regions → Prepared axes regions records job old new
    → Room t records (length new) × Holds new t (regions_only (region_list axes regions job)) 0 0 t.body 0
unfolding set_tables_at
ready t axes regions records job old new e p =
    subst (λ (x : SetTables). Room x records (length new) × Holds new x (regions_only (region_list axes regions job)) 0 0 x.body 0) (sym e) (p.room, p.holds)

-- the published work has the words of the tables
pub work-enough : (n r work : ℕ) → published_work n r ≤ work → 16 * n ≤ work
work-enough n r work h = omega (arith, work-records n r)
