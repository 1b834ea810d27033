-- What a sound job says: its sets are sorted, have no zeros and name regions in use; values are words of 32 bits; each region has three coordinates an
-- axis, of 16 bits each. Assumes nothing.
use mathlib.Core.Path.{◌≡◌, refl, sym, subst, ◌∙◌}
use mathlib.Core.Bool.{Bool, false, ◌&&◌}
use mathlib.Core.List.{List, [], ◌∷◌}
use mathlib.Core.Logic.{⊎_elim}
use Prim.Native.Nat.{ℕ, zero, suc, ◌+◌, ◌*◌, ◌/◌, ◌%◌, ◌^◌, ◌≤◌, ◌<◌}
use native.Mathlib.Omega.{arith}
use lib.ListN.{length, get_or, drop}
use lib.Seq.{get_or-drop}
use lib.Dec.{eqb, ltb, leb}
use borrow.Author.Tests.{eqb-true, ltb-true, leb-true}
use Rattle.laws.specs.Pick.{pick}
use Rattle.laws.specs.Every.{All, EachTwo}
use Rattle.laws.specs.Signed.{zero_word}
use Rattle.laws.specs.Bytes.{be}
use Rattle.laws.proofs.Cases.{Which, which, lt-or-ge, and-true}
use Rattle.laws.proofs.Cases.Which.{holds, fails}
use Rattle.laws.proofs.EveryLaws.{all_append, all-imp, all-and}
use Rattle.sets.specs.Set.{Set}
use Rattle.said.specs.Records.{record_bytes, most_records, most_axes, region_number, value_as_word, record_at, after_record, is_whole_records, record_count, region_length, after_region}
use Rattle.said.specs.Refusals.{job_work, pair_records, early_refusal, value_no}
use Rattle.said.specs.Sets.{Region, coordinates, region_list, first_like, has, with_use, index_in, with_entry, with_value}
use Rattle.said.specs.Job.{Said, in_axes, after_value, after_end, regions_only, Outcome, fine, records_from, outcome_from, outcome}
use Rattle.said.specs.LentGood.{SetsGood}
use Rattle.said.specs.LentOpen.{Open}
use Rattle.said.proofs.RecordLaws.{be-two, be-four, word_low, word-high, first-passed, value-twice}
use Rattle.said.proofs.RegionLaws.{coords-length}
use Rattle.said.proofs.GoodLaws.{placed-all, good_start, good-value, good-end}
use Rattle.said.proofs.IndexLaws.{with-known, with-new}
use Rattle.said.proofs.RegionLaws.{like-below}
use Rattle.said.proofs.MeaningLaws.{like-here, equal-first}
use Rattle.said.proofs.WalkLaws.{walk-keeps}
use Rattle.said.proofs.SaidLaws.{Counts, counts, value-known}

-- each is a byte
abbrev pub Bytes : List ℕ → Type 0
Bytes job = (k : ℕ) → get_or job k 0 < 256

bytes_drop : (n : ℕ) (l : List ℕ) → Bytes l → Bytes (drop n l)
bytes_drop n l b k = rw (get_or-drop n l k 0) (b (n + k))

-- ---- what each record keeps of the sets said, a records_from keeps

module _ (P : Said → Type 0)
    (begins : (l : List Region) → P (regions_only l))
    (more : (r : List ℕ) (s : Said) → Bytes r → value_no r (length s.regions) (has (first_like s.regions (region_number r)) s.named) ≡ 0
    → P s → P (after_value s (first_like s.regions (region_number r)) (value_as_word r)))
    (ends : (s : Said) → P s → P (after_end s)) where
  said-keeps : (axes mode : ℕ) (job : List ℕ) (records : ℕ) (s : Said) → Bytes job → records_from axes mode job job records 0 in_axes ≡ fine s → P s
  said-keeps axes mode job records s b e =
      (walk-keeps axes mode job (λ i. Unit {0}) (λ i t. P t) (λ i _ _ _. tt)
      (λ i _ _. begins (region_list axes (i / axes) job))
      (λ i t _ z p. more (record_at job i) t (bytes_drop (record_bytes * i) job b) z p)
      (λ i t _ p. ends t p)
      records s tt e).0

-- ---- values

two-low : (s : List ℕ) (p : ℕ) → Bytes s → be 2 s p < 65536
two-low s p b = omega (arith, be-two s p, b p, b (p + 1))

value_low : (r : List ℕ) → Bytes r → value_as_word r < 256 ^ 4
value_low r b =
    let x = be-four r in
    let h = two-low r 4 b in
    let l = two-low r 6 b in
    ⊎_elim
    (λ (q : be 4 r 4 < 2147483648). omega (arith, word_low r (be 4 r 4) refl q))
    (λ (q : 2147483648 ≤ be 4 r 4). let y : be 4 r 4 < 4294967296 = omega arith in omega (arith, word-high r (be 4 r 4) refl y q))
    (lt-or-ge (be 4 r 4) 2147483648)

abbrev pub Low : Set → Type 0
Low b = All (λ (e : ℕ × ℕ). e.1 < 256 ^ 4) b

with-low : (k w : ℕ) (b : Set) → w < 256 ^ 4 → Low b → Low (with_value k w b)
unfolding with_value
with-low k w b h a = go (which (eqb w zero_word))
  where
    go : Which (eqb w zero_word) → Low (pick (eqb w zero_word) b (with_entry k w b))
    go (holds e) = rw e a
    go (fails e) = rw e (placed-all (λ (d : ℕ × ℕ). d.1 < 256 ^ 4) k w b h a)

-- the sets that have ended and the one that has not
record Well (s : Said) : Type 0 where
  good : SetsGood s
  low : All Low s.sets
  begun-low : Low s.begun

well-start : (l : List Region) → Well (regions_only l)
unfolding regions_only
well-start l = record { good = good_start l; low = tt; begun-low = tt }

value-new : (r : List ℕ) (regions : ℕ) (named : Bool) → value_no r regions named ≡ 0 → named ≡ false
value-new r regions named z = go (which named)
  where
    go : Which named → named ≡ false
    go (fails n) = n
    go (holds n) = absurd (let b = value-twice r regions named (value-known r regions named z) n in omega arith)

well-value : (r : List ℕ) (s : Said) → Bytes r → value_no r (length s.regions) (has (first_like s.regions (region_number r)) s.named) ≡ 0
    → Well s → Well (after_value s (first_like s.regions (region_number r)) (value_as_word r))
unfolding after_value
well-value r s b z w =
    let q = first_like s.regions (region_number r) in
    record {
      good = good-value s q (value_as_word r) w.good (value-new r (length s.regions) (has q s.named) z);
      low = w.low;
      begun-low = with-low (index_in q (with_use s.used q)) (value_as_word r) s.begun (value_low r b) w.begun-low;
    }

well-end : (s : Said) → Well s → Well (after_end s)
unfolding after_end
well-end s w = record { good = good-end s w.good; low = all_append Low s.sets (s.begun ∷ []) w.low (w.begun-low, tt); begun-low = tt }

-- ---- coordinates

abbrev pub Coordinates : ℕ → Region → Type 0
Coordinates axes c = (length c ≡ 3 * axes) × All (λ x. x < 65536) c

coords-low : (n : ℕ) (rest : List ℕ) → Bytes rest → All (λ x. x < 65536) (coordinates n rest)
unfolding coordinates
coords-low zero rest b = tt
coords-low (suc n) rest b = (two-low rest 4 b, (two-low rest 6 b, (two-low rest 8 b, coords-low n (after_record rest) (bytes_drop record_bytes rest b))))

regions-well : (axes n : ℕ) (rest : List ℕ) → Bytes rest → All (Coordinates axes) (region_list axes n rest)
unfolding region_list
regions-well axes zero rest b = tt
regions-well axes (suc n) rest b =
    ((coords-length axes rest, coords-low axes rest b), regions-well axes n (after_region axes rest) (bytes_drop (region_length axes) rest b))

-- ---- each region in use is the first like it, so no two have the same coordinates

first-again : (l : List Region) (r : ℕ) → r < length l → first_like l (first_like l r) ≡ first_like l r
unfolding first_like
first-again l r h = equal-first l (first_like l r) r (sym (like-here (get_or l r []) l (like-below l r h)))

abbrev Firsts : Said → Type 0
Firsts s = All (λ q. first_like s.regions q ≡ q) s.used

firsts-start : (l : List Region) → Firsts (regions_only l)
unfolding regions_only
firsts-start l = tt

firsts-value : (r : List ℕ) (s : Said) → Bytes r → value_no r (length s.regions) (has (first_like s.regions (region_number r)) s.named) ≡ 0
    → Firsts s → Firsts (after_value s (first_like s.regions (region_number r)) (value_as_word r))
unfolding after_value
firsts-value r s b z f = go (which (has (first_like s.regions (region_number r)) s.used))
  where
    again : first_like s.regions (first_like s.regions (region_number r)) ≡ first_like s.regions (region_number r)
    again = first-again s.regions (region_number r) (value-known r (length s.regions) (has (first_like s.regions (region_number r)) s.named) z)

    go : Which (has (first_like s.regions (region_number r)) s.used) → All (λ p. first_like s.regions p ≡ p) (with_use s.used (first_like s.regions (region_number r)))
    go (holds e) = rw (with-known s.used (first_like s.regions (region_number r)) e) f
    go (fails e) =
        rw (with-new s.used (first_like s.regions (region_number r)) e)
        (all_append (λ p. first_like s.regions p ≡ p) s.used (first_like s.regions (region_number r) ∷ []) f (again, tt))

firsts-end : (s : Said) → Firsts s → Firsts (after_end s)
unfolding after_end
firsts-end s f = f

apart : (l : List Region) (u : List ℕ) → All (λ q. first_like l q ≡ q) u → EachTwo (λ x y. x ≡ y → ⊥) u → EachTwo (λ x y. get_or l x [] ≡ get_or l y [] → ⊥) u
apart l [] f d = tt
apart l (x ∷ u) f d = (
  all-imp (λ y p e. p.1 (sym f.0 ∙ equal-first l x y e ∙ p.0)) u (all-and (λ y. first_like l y ≡ y) (λ y. x ≡ y → ⊥) u f.1 d.0),
  apart l u f.1 d.1,
)

-- ---- the law

pub record WellSaid (axes : ℕ) (job : List ℕ) (records : ℕ) (s : Said) : Type 0 where
  -- S3: sorted, no zeros, regions in use
  pub good : SetsGood s
  -- values of 32 bits (J1)
  pub words-low : All Low s.sets
  -- start, peak and end of each axis, of 16 bits (J1)
  pub coordinates-are : All (Coordinates axes) s.regions
  -- S1: no two regions in use are equal
  pub used-apart : EachTwo (λ x y. get_or s.regions x [] ≡ get_or s.regions y [] → ⊥) s.used
  -- what is in use are regions of the job; how many there are of everything
  pub counted : Counts axes job records s

-- THE LAW
pub well-said : (axes mode : ℕ) (job : List ℕ) (records : ℕ) (s : Said) → 0 < axes → Bytes job → records_from axes mode job job records 0 in_axes ≡ fine s
    → WellSaid axes job records s
well-said axes mode job records s some b e =
    let w = said-keeps Well well-start well-value well-end axes mode job records s b e in
    let c = counts axes mode job records s some b e in
    record {
      good = w.good;
      words-low = w.low;
      coordinates-are = subst (All (Coordinates axes)) (sym c.regions-are) (regions-well axes (length s.regions) job b);
      used-apart = apart s.regions s.used (said-keeps Firsts firsts-start firsts-value firsts-end axes mode job records s b e) c.used-differ;
      counted = c;
    }

-- ---- what refusals 1 to 4 leave

pub open-if : (axes mode : ℕ) (job : List ℕ) (work pairs : ℕ) → early_refusal axes mode job work pairs ≡ 0 → Open axes mode job work pairs
unfolding early_refusal
open-if axes mode job work pairs z =
    let axes-test = ltb 0 axes && leb axes most_axes in
    let mode-test = leb mode 1 in
    let job-test = is_whole_records (length job) && leb (record_count job) most_records in
    let work-test = leb (job_work axes job) work in
    let pair-test = leb pair_records pairs in
    let a = first-passed axes-test 0 ((mode-test, 2) ∷ (job-test, 3) ∷ (work-test, 4) ∷ (pair-test, 4) ∷ []) z in
    let b = first-passed mode-test 1 ((job-test, 3) ∷ (work-test, 4) ∷ (pair-test, 4) ∷ []) a.1 in
    let c = first-passed job-test 2 ((work-test, 4) ∷ (pair-test, 4) ∷ []) b.1 in
    let d = first-passed work-test 3 ((pair-test, 4) ∷ []) c.1 in
    let f = first-passed pair-test 3 [] d.1 in
    let p = and-true (ltb 0 axes) (leb axes most_axes) a.0 in
    let q = and-true (is_whole_records (length job)) (leb (record_count job) most_records) c.0 in
    let m = eqb-true (length job % record_bytes) 0 q.0 in
    record {
      some = ltb-true 0 axes p.0;
      most = leb-true axes most_axes p.1;
      mode-known = leb-true mode 1 b.0;
      few = leb-true (record_count job) most_records q.1;
      whole = omega arith;
      enough = leb-true (job_work axes job) work d.0;
      paired = leb-true pair_records pairs f.0;
    }

from-fine : (n : ℕ) (o : Outcome) (s : Said) → outcome_from n o ≡ fine s → (n ≡ 0) × (o ≡ fine s)
unfolding outcome_from
from-fine zero o s e = (refl, e)
from-fine (suc n) o s e = let z : ◌≡◌ {A = ℕ} 0 1 = cc in absurd (omega arith)

-- a job that is taken: no refusal of 1 to 4, and its records say it
pub fine-walk : (axes mode : ℕ) (job : List ℕ) (work pairs : ℕ) (s : Said) → outcome axes mode job work pairs ≡ fine s
    → Open axes mode job work pairs × (records_from axes mode job job (record_count job) 0 in_axes ≡ fine s)
unfolding outcome
fine-walk axes mode job work pairs s e =
    let f = from-fine (early_refusal axes mode job work pairs) (records_from axes mode job job (record_count job) 0 in_axes) s e in
    (open-if axes mode job work pairs f.0, f.1)
