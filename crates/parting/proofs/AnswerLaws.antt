-- The answer, by what reading the job and comparing two of its sets told. Assumes nothing.
use mathlib.Core.Path.{◌≡◌, refl, sym, ap, ap₂, ◌∙◌}
use mathlib.Core.List.{List, []}
use Prim.Native.Nat.{ℕ, ◌*◌, ◌≤◌, ◌<◌}
use native.Mathlib.Omega.{arith}
use lib.ListN.{length, get_or}
use borrow.Author.Tests.{lt-ltb, le-ltb}
use Rattle.laws.proofs.RangeLaws.{get_or-seg}
use Rattle.sets.specs.declared.Parting.{Parting}
use Rattle.sets.specs.declared.Parting.TheVariants as parts
use Rattle.sets.specs.Set.{Set, word_of}
use Rattle.sets.specs.Order.{DifferAt, PartsAt, parting}
use Rattle.sets.specs.Lent.{set_of, Stored}
use Rattle.sets.proofs.HeldLaws.{sets-length, sets-at, held-stored}
use Rattle.sets.proofs.PartLaws.{told-smaller, told-larger, differ-below}
use Rattle.said.specs.Records.{record_count}
use Rattle.said.specs.Refusals.{pair_records, early_refusal, no_set}
use Rattle.said.specs.LentOpen.{Open}
use Rattle.said.specs.Job.{Said, in_axes, records_from}
use Rattle.job.specs.Lent.{JobRead}
use Rattle.std.specs.Prelude.{Ok, Err}
use Rattle.refusals.specs.declared.Refusal.{Refusal}
use Rattle.refusals.specs.declared.Refused as refusals
use Rattle.refusals.specs.Refusals.{number}
use Rattle.job.specs.declared.whole.JobCounts.{JobCounts}
use Rattle.job.proofs.CheckLaws.{refused-early, outcome-walk, room}
use Rattle.parting.specs.Answers.{Parted}
use Rattle.parting.specs.Answers.{Refused, Equal, Smaller, Larger}
use Rattle.parting.specs.Part.{user_of, named, parted_in, parted_of, part_of}
use Rattle.parting.specs.LentPart.{UserFit, JobStands}

-- ---- of a job whose sets work holds

module _ {axes records regions sets : ℕ} {job w : List ℕ} (f : JobStands axes job records regions sets w) where
  abbrev s : Said
  s = f.held.said

  sets-long : length s.sets ≡ sets
  sets-long = ap length (sym f.held.sets-are) ∙ sets-length 0 sets w

  pub no-first : (x y : ℕ) → sets ≤ x → Refused no_set 0 ≡ parted_in job x y s
  unfolding parted_in
  no-first x y h = rw (le-ltb x (length s.sets) (omega (arith, sets-long)))

  module _ (x y : ℕ) (p : x < sets) where
    pub no_second : sets ≤ y → Refused no_set 0 ≡ parted_in job x y s
    unfolding parted_in
    no_second h = rw (lt-ltb x (length s.sets) (omega (arith, sets-long)), le-ltb y (length s.sets) (omega (arith, sets-long)))

  pub set-stored : (x : ℕ) → x < sets → Stored w 0 x
  set-stored x h = held-stored f.held.held x h

  set_is : (x : ℕ) → x < sets → set_of 0 x w ≡ get_or s.sets x []
  set_is x h = sym (sets-at 0 sets w x h) ∙ ap (λ (l : List Set). get_or l x []) f.held.sets-are

  module _ (x y : ℕ) (p : x < sets) (q : y < sets) (o : Parting) (e : o ≡ parting (set_of 0 x w) (set_of 0 y w)) where
    told : named job s o ≡ parted_in job x y s
    unfolding parted_in
    told =
        ap (named job s) (e ∙ ap₂ parting (set_is x p) (set_is y q))
        ∙ rw (lt-ltb x (length s.sets) (omega (arith, sets-long)), lt-ltb y (length s.sets) (omega (arith, sets-long))) refl

    pub told-equal : o ≡ parts.Equal → Equal ≡ parted_in job x y s
    unfolding named
    told-equal h = sym (ap (named job s) h) ∙ told

    module _ (d : PartsAt 0 (word_of (set_of 0 x w)) (word_of (set_of 0 y w)) o) where
      abbrev fit_at : (r v u : ℕ) → DifferAt 0 (word_of (set_of 0 x w)) (word_of (set_of 0 y w)) r v u → (v ≡ u → ⊥) → UserFit axes job records regions w r
      fit_at r v u a n =
          let b : r < f.uses = differ-below f.uses (set_of 0 x w) (set_of 0 y w) r v u (f.held.held.proper x p) (f.held.held.proper y q) a n in
          record {
            passed = f.passed;
            said = s;
            is = f.held.is;
            regions-are = f.held.regions-are;
            index_in = omega (arith, f.held.uses-are);
            used-is = sym (get_or-seg (4 * records) f.uses w r b) ∙ ap (λ (l : List ℕ). get_or l r 0) f.held.used-are;
          }

      abbrev fit_smaller : (r v u : ℕ) → o ≡ parts.Smaller r v u → UserFit axes job records regions w r
      fit_smaller r v u h = let a = told-smaller d r v u h in fit_at r v u a.0 (λ z. omega (arith, a.1))

      abbrev fit_larger : (r v u : ℕ) → o ≡ parts.Larger r v u → UserFit axes job records regions w r
      fit_larger r v u h = let a = told-larger d r v u h in fit_at r v u a.0 (λ z. omega (arith, a.1))

      pub fit-less : (r v u : ℕ) → o ≡ parts.Smaller r v u → UserFit axes job records regions w r
      fit-less r v u h = fit_smaller r v u h

      pub fit-more : (r v u : ℕ) → o ≡ parts.Larger r v u → UserFit axes job records regions w r
      fit-more r v u h = fit_larger r v u h

      pub told-less : (r v u k : ℕ) → o ≡ parts.Smaller r v u → ((g : UserFit axes job records regions w r) → k ≡ user_of job g.said r)
          → Smaller r k v u ≡ parted_in job x y s
      unfolding named
      told-less r v u k h i = ap (λ (n : ℕ). Smaller r n v u) (i (fit_smaller r v u h)) ∙ sym (ap (named job s) h) ∙ told

      pub told_more : (r v u k : ℕ) → o ≡ parts.Larger r v u → ((g : UserFit axes job records regions w r) → k ≡ user_of job g.said r)
          → Larger r k v u ≡ parted_in job x y s
      unfolding named
      told_more r v u k h i = ap (λ (n : ℕ). Larger r n v u) (i (fit_larger r v u h)) ∙ sym (ap (named job s) h) ∙ told

-- ---- of the records, and of a whole call

module _ (axes x y : ℕ) (job w : List ℕ) where
  pub refused-first : (r : Refusal) → number r ≡ early_refusal axes 0 job (length w) pair_records → Refused (number r) 0 ≡ part_of axes job x y (length w)
  unfolding parted_of
  refused-first r e = sym (ap (parted_of job x y) (refused-early axes 0 job w pair_records r e))

  pub walked : 0 ≡ early_refusal axes 0 job (length w) pair_records → (p : Parted) → p ≡ parted_of job x y (records_from axes 0 job job (record_count job) 0 in_axes)
      → p ≡ part_of axes job x y (length w)
  walked e p h = h ∙ ap (parted_of job x y) (sym (outcome-walk axes 0 job w pair_records e))

  module _ {records : ℕ} (r : records ≡ record_count job) where
    walk_is : records_from axes 0 job job records 0 in_axes ≡ records_from axes 0 job job (record_count job) 0 in_axes
    walk_is = rw r refl

    pub refused-record : {new : List ℕ} (z : refusals.Refused) → JobRead axes 0 job records w new (Err z) → Refused (number z.refusal) z.place ≡ parted_of job x y (records_from axes 0 job job (record_count job) 0 in_axes)
    unfolding parted_of
    refused-record z read = sym (ap (parted_of job x y) (sym walk_is ∙ read.is))

    module _ (bytes : (k : ℕ) → get_or job k 0 < 256) (o : Open axes 0 job (length w) pair_records) {new : List ℕ} (c : JobCounts) (read : JobRead axes 0 job records w new (Ok c)) where
      abbrev pub stands : JobStands axes job records c.regions c.sets new
      stands = record {
        passed = record {
          bytes = bytes;
          some = o.some;
          most = o.most;
          few = omega (arith, r, o.few);
          records-are = r;
          whole = omega (arith, r, o.whole);
          room = omega (arith, r, room axes 0 job (length w) pair_records o, read.only.long);
        };
        values = c.values;
        uses = c.uses;
        held = read.is;
      }

      pub answered : (p : Parted) → ((f : JobStands axes job records c.regions c.sets new) → p ≡ parted_in job x y f.held.said)
          → p ≡ parted_of job x y (records_from axes 0 job job (record_count job) 0 in_axes)
      unfolding parted_of
      answered p h = h stands ∙ sym (ap (parted_of job x y) (sym walk_is ∙ read.is.is))
