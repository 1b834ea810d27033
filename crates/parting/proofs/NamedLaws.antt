-- The first value record of a region, along a job's records. Assumes nothing.
use mathlib.Core.Path.{◌≡◌, refl, sym, ap, ◌∙◌}
use mathlib.Core.Bool.{◌&&◌}
use mathlib.Core.List.{List}
use mathlib.Core.Logic.{⊎_elim, ◌≢◌}
use Prim.Native.Nat.{ℕ, zero, suc, ◌+◌, ◌-◌, ◌≤◌, ◌<◌}
use native.Mathlib.Nat.{sub-zero}
use native.Mathlib.Omega.{arith}
use lib.ListN.{length, get_or, drop}
use lib.Seq.{drop-drop}
use lib.Dec.{eqb}
use borrow.Author.Tests.{eq-eqb, ne_eqb}
use Rattle.laws.specs.Pick.{pick}
use Rattle.laws.proofs.Cases.{same_or_not}
use Rattle.said.specs.Records.{record_bytes, record_start, record_at, after_record, kind, value_kind, region_number}
use Rattle.said.specs.Sets.{Region, first_like}
use Rattle.parting.specs.Part.{first_region_named}
use Rattle.parting.specs.LentPart.{NamedFit}

module _ (l : List Region) (q : ℕ) (job : List ℕ) (records : ℕ) where
  -- from record i on
  abbrev pub named_from : ℕ → ℕ
  named_from i = first_region_named l q (records - i) (record_at job i)

  pub named_start : first_region_named l q records job ≡ named_from 0
  named_start = rw (sub-zero records) refl

  pub named_none : (i : ℕ) → records ≤ i → named_from i ≡ 0
  unfolding first_region_named
  named_none i h = let z : records - i ≡ 0 = omega arith in rw z

  module _ (i : ℕ) (h : i < records) where
    abbrev r : List ℕ
    r = record_at job i

    turn : named_from i ≡ pick (eqb (kind r) value_kind && eqb (first_like l (region_number r)) q) (region_number r) (named_from (i + 1))
    unfolding first_region_named
    turn =
        let z : records - i ≡ suc (records - (i + 1)) = omega arith in
        let n : record_start i + record_bytes ≡ record_start (i + 1) = omega arith in
        let d : after_record (record_at job i) ≡ record_at job (i + 1) = drop-drop record_bytes (record_start i) job ∙ ap (λ (k : ℕ). drop k job) n in
        rw z
        (ap (λ (x : List ℕ). pick (eqb (kind r) value_kind && eqb (first_like l (region_number r)) q) (region_number r) (first_region_named l q (records - (i + 1)) x)) d)

    pub named_here : kind r ≡ value_kind → first_like l (region_number r) ≡ q → named_from i ≡ region_number r
    named_here k e = turn ∙ rw (eq-eqb (kind r) value_kind k, eq-eqb (first_like l (region_number r)) q e)

    pub named_other : (kind r ≡ value_kind → ⊥) → named_from i ≡ named_from (i + 1)
    named_other k = turn ∙ rw (ne_eqb (kind r) value_kind k)

    pub named_past : kind r ≡ value_kind → (first_like l (region_number r) ≡ q → ⊥) → named_from i ≡ named_from (i + 1)
    named_past k e = turn ∙ rw (eq-eqb (kind r) value_kind k, ne_eqb (first_like l (region_number r)) q e)

  -- up to record p, before which no value record has such a region
  pub named-first : (p : ℕ) → p < records → kind (record_at job p) ≡ value_kind → first_like l (region_number (record_at job p)) ≡ q
      → ((j : ℕ) → j < p → kind (record_at job j) ≡ value_kind → first_like l (region_number (record_at job j)) ≡ q → ⊥)
      → first_region_named l q records job ≡ region_number (record_at job p)
  named-first p h k e none = named_start ∙ go p 0 (omega arith)
    where
      one : (j : ℕ) → j < p → named_from j ≡ named_from (j + 1)
      one j m = ⊎_elim
          (λ (a : kind (record_at job j) ≡ value_kind). named_past j (omega arith) a (none j m a))
          (λ (a : kind (record_at job j) ≢ value_kind). named_other j (omega arith) a)
          (same_or_not (kind (record_at job j)) value_kind)

      go : (d i : ℕ) → i + d ≡ p → named_from i ≡ region_number (record_at job p)
      go zero i s = let t : i ≡ p = omega arith in rw t (named_here p h k e)
      go (suc d) i s = one i (omega arith) ∙ go d (i + 1) (omega arith)

-- ---- the loop over the records: those before record i are passed

pub record Naming (job : List ℕ) (records : ℕ) (w : List ℕ) (first q i : ℕ) : Type 0 where
  pub left : (f : NamedFit job records w first) → first_region_named f.regions q records job ≡ named_from f.regions q job records i

module _ {job w : List ℕ} {records first q : ℕ} where
  pub naming-start : Naming job records w first q 0
  naming-start = record { left = λ f. named_start f.regions q job records }

  pub naming-none : {i : ℕ} → Naming job records w first q i → records ≤ i → (f : NamedFit job records w first) → 0 ≡ first_region_named f.regions q records job
  naming-none {i} n h f = sym (n.left f ∙ named_none f.regions q job records i h)

  module _ {i k : ℕ} (n : Naming job records w first q i) (h : i < records) (e : k ≡ kind (record_at job i)) where
    pub naming-other : (k ≡ value_kind → ⊥) → Naming job records w first q (i + 1)
    naming-other d = record { left = λ f. n.left f ∙ named_other f.regions q job records i h (λ z. d (e ∙ z)) }

    module _ (v : k ≡ value_kind) {p : ℕ} (r : p ≡ region_number (record_at job i)) where
      pub region-room : NamedFit job records w first → first + p < length w
      region-room f = omega (arith, f.room, f.known i h (sym e ∙ v), r)

      word-is : (f : NamedFit job records w first) → get_or w (first + p) 0 ≡ first_like f.regions (region_number (record_at job i))
      word-is f = rw r (f.firsts (region_number (record_at job i)) (f.known i h (sym e ∙ v)))

      pub naming-past : (get_or w (first + p) 0 ≡ q → ⊥) → Naming job records w first q (i + 1)
      naming-past d = record { left = λ f. n.left f ∙ named_past f.regions q job records i h (sym e ∙ v) (λ z. d (word-is f ∙ z)) }

      pub naming-here : get_or w (first + p) 0 ≡ q → (f : NamedFit job records w first) → p ≡ first_region_named f.regions q records job
      naming-here d f = r ∙ sym (n.left f ∙ named_here f.regions q job records i h (sym e ∙ v) (sym (word-is f) ∙ d))
