-- The steps of a recovery, each with what it tells of the answer. Assumes nothing.
use mathlib.Core.Path.{◌≡◌, sym, ap, ◌∙◌}
use mathlib.Core.Bool.{Bool, true, false, not, ◌&&◌}
use mathlib.Core.List.{List, []}
use mathlib.Core.Logic.{◌⊎◌, ⊎_elim}
use mathlib.Core.Option.{none, some}
use Prim.Native.Nat.{ℕ, ◌+◌, ◌*◌, ◌≤◌, ◌<◌}
use native.Mathlib.Omega.{arith}
use lib.Dec.{ltb, leb}
use lib.ListN.{length, get_or, replicate}
use borrow.Author.Tests.{not-true, not-false, lt-ltb, le-ltb, ltb-true, le-leb, lt-leb, leb-true, ne_eqb}
use Rattle.laws.specs.Pick.{pick}
use Rattle.laws.specs.Bag.{weigh}
use Rattle.laws.specs.Bytes.{be}
use Rattle.laws.specs.LentRange.{Apart}
use Rattle.laws.proofs.Cases.{lt-or-ge, and-true, Which, which, true-false}
use Rattle.laws.proofs.Cases.Which.{holds, fails}
use Rattle.laws.proofs.Products.{product}
use Rattle.laws.proofs.RangeLaws.{seg-none}
use Rattle.limits.specs.Limits.{most_records, most_axes, max_regions}
use Rattle.reader.specs.Store.{list_at, axis_count, region_count, is_header_ok}
use Rattle.reader.proofs.StoreLaws.{header-fits, zeros-at}
use Rattle.rows.specs.Lent.{Put}
use Rattle.said.specs.Records.{record_bytes}
use Rattle.said.specs.Refusals.{first_failed}
use Rattle.stores.specs.Stores.{Parsed, store_at, is_whole_ok, parse, parses}
use Rattle.stores.specs.Dropping.{row_count}
use Rattle.stores.specs.Coordinates.{once, Distinct}
use Rattle.stores.proofs.PartLaws.{parts-long, parts_at}
use Rattle.stores.proofs.WholeLaws.{whole_is}
use Rattle.stores.proofs.ByCoordinates.{once-distinct}
use Rattle.listed.proofs.OrderedLaws.{distinct-once}
use Rattle.recovering.specs.Recovering.{job_of, records_of}
use Rattle.recovering.proofs.Walked.{job-long}
use Rattle.tallying.specs.LentTally.{Tallied}
use Rattle.recoverer.specs.Answers.{Recovered, Done, Refused}
use Rattle.recoverer.specs.Recover.{look_no, bounds_refusal, late_no, recover_no, answer_for, left_for, work_left}

-- ---- the header

pub record Head (s : List ℕ) (place axes n : ℕ) : Type 0 where
  pub place_is : place ≡ list_at s
  pub axes-is : axes ≡ axis_count s
  pub count-is : n ≡ region_count s

pub head_of : (s : List ℕ) (place axes n : ℕ) → place ≡ list_at s → axes ≡ be 2 s place → n ≡ be 2 s (place + 2) → Head s place axes n
head_of s place axes n p a c = record { place_is = p; axes-is = a ∙ ap (be 2 s) p; count-is = c ∙ ap (λ (x : ℕ). be 2 s (x + 2)) p }

pub header_of : (s : List ℕ) → is_whole_ok s ≡ true → is_header_ok s ≡ true
header_of s ok = (whole_is s ok).header

regions-long : (s : List ℕ) → length (store_at s).regions ≡ region_count s
unfolding store_at
regions-long s = parts-long s (list_at s + 4) (6 * axis_count s) (region_count s)

-- ---- R50

-- with no axes all regions are equal
module _ (s : List ℕ) (z : axis_count s ≡ 0) where
  empty : (i : ℕ) → i < region_count s → get_or (store_at s).regions i [] ≡ []
  unfolding store_at
  empty i h =
      let e : 6 * axis_count s ≡ 0 = omega arith in
      parts_at s (list_at s + 4) (6 * axis_count s) (region_count s) i h ∙ rw e (seg-none (list_at s + 4 + i * 0) s)

  few-distinct : region_count s < 2 → Distinct (store_at s).regions
  few-distinct l = let e = regions-long s in record { apart = λ i j p q f. omega arith }

  many-twice : 2 ≤ region_count s → once (store_at s).regions ≡ false
  many-twice l = go (which (once (store_at s).regions))
    where
      go : Which (once (store_at s).regions) → once (store_at s).regions ≡ false
      go (holds e) =
          let r = regions-long s in
          let z : ◌≡◌ {A = ℕ} 0 1 = (once-distinct (store_at s).regions e).apart 0 1 (omega arith) (omega arith) (empty 0 (omega arith) ∙ sym (empty 1 (omega arith))) in
          absurd (omega arith)
      go (fails e) = e

  pub none-once : (n : ℕ) → n ≡ region_count s → ltb n 2 ≡ once (store_at s).regions
  none-once n e = go (lt-or-ge n 2)
    where
      go : (n < 2) ⊎ (2 ≤ n) → ltb n 2 ≡ once (store_at s).regions
      go = ⊎_elim
          (λ l. lt-ltb n 2 l ∙ sym (distinct-once (store_at s).regions (few-distinct (omega arith))))
          (λ l. le-ltb n 2 l ∙ sym (many-twice (omega arith)))

-- with some the list's numbers have room to be sorted in
pub sort-room : (s : List ℕ) (place axes n work : ℕ) → is_header_ok s ≡ true → Head s place axes n → length s ≤ work → (axes ≡ 0 → ⊥)
    → (0 + region_count s ≤ work) × (n + region_count s ≤ work) × Apart n (region_count s) 0 (region_count s)
sort-room s place axes n work ok h l d =
    let f = header-fits s ok in
    let k = h.count-is in
    let m = h.axes-is in
    let p : 6 * region_count s ≤ 6 * axis_count s * region_count s = product (6 * axis_count s) (region_count s) (omega arith) (omega arith) in
    (omega (arith, f.regions), omega (arith, f.regions), record { apart = λ q. omega arith })

-- ---- words of work

-- all of them are zero
pub zeros-all : (n : ℕ) {new : List ℕ} → new ≡ replicate n 0 → (k : ℕ) → get_or new k 0 ≡ 0
zeros-all n e k = rw e (zeros-at n k)

-- ---- R20 and R50

pub whole_of : (s : List ℕ) → parses (parse s) ≡ true → is_whole_ok s ≡ true
unfolding parse parses
whole_of s h = go (which (is_whole_ok s)) h
  where
    go : Which (is_whole_ok s) → parses (pick (is_whole_ok s) (some (store_at s)) none) ≡ true → is_whole_ok s ≡ true
    go (holds e) k = e
    go (fails e) k = absurd (true-false k (rw e))

module _ (s : List ℕ) (r : Bool) (e : r ≡ parses (parse s)) where
  pub look-bad : not r ≡ true → 20 ≡ look_no s
  unfolding look_no first_failed
  look-bad h = rw (← e, not-true r h)

  module _ (h : not r ≡ false) where
    pub look-header : is_header_ok s ≡ true
    look-header = header_of s (whole_of s (sym e ∙ not-false r h))

    module _ (q : Bool) (f : q ≡ once (store_at s).regions) where
      pub look_twice : not q ≡ true → 50 ≡ look_no s
      unfolding look_no first_failed
      look_twice k = rw (← e, ← f, not-false r h, not-true q k)

      pub look-fine : not q ≡ false → 0 ≡ look_no s
      unfolding look_no first_failed
      look-fine k = rw (← e, ← f, not-false r h, not-false q k)

-- both are passed
look-passed : (s : List ℕ) → look_no s ≡ 0 → (parses (parse s) ≡ true) × (once (store_at s).regions ≡ true)
unfolding look_no first_failed
look-passed s h = go (which (parses (parse s))) (which (once (store_at s).regions)) h
  where
    go : Which (parses (parse s)) → Which (once (store_at s).regions) → ◌≡◌ {A = ℕ} (pick (parses (parse s)) (pick (once (store_at s).regions) 0 50) 20) 0
        → (parses (parse s) ≡ true) × (once (store_at s).regions ≡ true)
    go (holds a) (holds b) k = (a, b)
    go (holds a) (fails b) k = let z : ◌≡◌ {A = ℕ} 50 0 = rw (a, b) at k in absurd (omega arith)
    go (fails a) w k = let z : ◌≡◌ {A = ℕ} 20 0 = rw a at k in absurd (omega arith)

-- ---- R51

module _ (regions axes : ℕ) where
  abbrev fit : Bool
  fit = leb regions max_regions && (ltb 0 axes && leb axes most_axes)

  bounds-passed : bounds_refusal regions axes ≡ 0 → leb regions max_regions && (ltb 0 axes && leb axes most_axes) ≡ true
  unfolding bounds_refusal first_failed
  bounds-passed h = go (which (leb regions max_regions && (ltb 0 axes && leb axes most_axes))) h
    where
      go : Which (leb regions max_regions && (ltb 0 axes && leb axes most_axes)) → ◌≡◌ {A = ℕ} (pick (leb regions max_regions && (ltb 0 axes && leb axes most_axes)) 0 51) 0
          → leb regions max_regions && (ltb 0 axes && leb axes most_axes) ≡ true
      go (holds e) k = e
      go (fails e) k = let z : ◌≡◌ {A = ℕ} 51 0 = rw e at k in absurd (omega arith)

  bounds-failed : (bounds_refusal regions axes ≡ 0 → ⊥) → (leb regions max_regions && (ltb 0 axes && leb axes most_axes) ≡ false) × (bounds_refusal regions axes ≡ 51)
  unfolding bounds_refusal first_failed
  bounds-failed d = go (which (leb regions max_regions && (ltb 0 axes && leb axes most_axes))) d
    where
      go : Which (leb regions max_regions && (ltb 0 axes && leb axes most_axes)) → (◌≡◌ {A = ℕ} (pick (leb regions max_regions && (ltb 0 axes && leb axes most_axes)) 0 51) 0 → ⊥)
          → (leb regions max_regions && (ltb 0 axes && leb axes most_axes) ≡ false) × (◌≡◌ {A = ℕ} (pick (leb regions max_regions && (ltb 0 axes && leb axes most_axes)) 0 51) 51)
      go (holds e) k = absurd (k (rw e))
      go (fails e) k = (e, rw e)

  pub within : bounds_refusal regions axes ≡ 0 → (regions ≤ max_regions) × (0 < axes) × (axes ≤ most_axes)
  within h =
      let a = and-true (leb regions max_regions) (ltb 0 axes && leb axes most_axes) (bounds-passed h) in
      let b = and-true (ltb 0 axes) (leb axes most_axes) a.1 in
      (leb-true regions max_regions a.0, ltb-true 0 axes b.0, leb-true axes most_axes b.1)

-- ---- an answer by its number

module _ (p : Parsed) (out : List ℕ) (n num : ℕ) (e : num ≡ n) where
  pub refused-answer : (n ≡ 0 → ⊥) → Refused n ≡ answer_for p num
  unfolding answer_for
  refused-answer d = rw (e, ne_eqb n 0 d)

  pub refused-left : (n ≡ 0 → ⊥) → out ≡ left_for p num out
  unfolding left_for
  refused-left d = rw (e, ne_eqb n 0 d)

done-is : (p : Parsed) (bytes axes regions sets : ℕ) → bytes ≡ record_bytes * records_of p → axes ≡ p.axes → regions ≡ length p.regions → sets ≡ weigh row_count p.tables
    → Done bytes axes regions sets ≡ answer_for p 0
unfolding answer_for
done-is p bytes axes regions sets a b c d = rw (a, b, c, d)

-- ---- R51 to R53

module _ (p : Parsed) (out : ℕ) (a : leb (length p.regions) max_regions && (ltb 0 p.axes && leb p.axes most_axes) ≡ true) where
  long_of : leb (records_of p) most_records ≡ false → late_no p out ≡ 52
  unfolding late_no first_failed
  long_of b = rw (a, b)

  module _ (b : leb (records_of p) most_records ≡ true) where
    short-of : leb (record_bytes * records_of p) out ≡ false → late_no p out ≡ 53
    unfolding late_no first_failed
    short-of c = rw (a, b, c)

    fine_of : leb (record_bytes * records_of p) out ≡ true → late_no p out ≡ 0
    unfolding late_no first_failed
    fine_of c = rw (a, b, c)

module _ (s : List ℕ) (place axes regions : ℕ) (h : Head s place axes regions) (out : ℕ) where
  p-axes : (store_at s).axes ≡ axes
  unfolding store_at
  p-axes = sym h.axes-is

  p-regions : length (store_at s).regions ≡ regions
  p-regions = regions-long s ∙ sym h.count-is

  -- the first test is that of regions and axes
  pub late-bounds : (num : ℕ) → num ≡ bounds_refusal regions axes → (num ≡ 0 → ⊥) → late_no (store_at s) out ≡ num
  unfolding late_no first_failed
  late-bounds num e d =
      let f = bounds-failed regions axes (λ z. d (e ∙ z)) in
      rw (p-axes, p-regions, f.0) (sym (e ∙ f.1))

  module _ (num : ℕ) (e : num ≡ bounds_refusal regions axes) (z : num ≡ 0) (records sets : ℕ) (t : Tallied (store_at s) records sets) where
    passed : leb regions max_regions && (ltb 0 axes && leb axes most_axes) ≡ true
    passed = bounds-passed regions axes (sym e ∙ z)

    passed_here : leb (length (store_at s).regions) max_regions && (ltb 0 (store_at s).axes && leb (store_at s).axes most_axes) ≡ true
    passed_here = rw (p-axes, p-regions) passed

    pub late-long : most_records < records → late_no (store_at s) out ≡ 52
    late-long l = long_of (store_at s) out passed_here (lt-leb (records_of (store_at s)) most_records (omega (arith, t.most)))

    module _ (few : records ≤ most_records) where
      records-are : records_of (store_at s) ≡ records
      records-are = (t.exact few).0

      few-here : leb (records_of (store_at s)) most_records ≡ true
      few-here = le-leb (records_of (store_at s)) most_records (omega (arith, records-are))

      pub late-short : out < 12 * records → late_no (store_at s) out ≡ 53
      late-short l = short-of (store_at s) out passed_here few-here (lt-leb (record_bytes * records_of (store_at s)) out (omega (arith, records-are)))

      pub late-fine : 12 * records ≤ out → late_no (store_at s) out ≡ 0
      late-fine l = fine_of (store_at s) out passed_here few-here (le-leb (record_bytes * records_of (store_at s)) out (omega (arith, records-are)))

      pub job-room : 12 * records ≤ out → length (job_of (store_at s)) ≤ out
      job-room l = omega (arith, job-long (store_at s), records-are)

      pub job-axes : axis_count s ≤ most_axes
      job-axes = omega (arith, (within regions axes (sym e ∙ z)).2, h.axes-is)

      pub done-answer : 12 * records ≤ out → Done (12 * records) axes regions sets ≡ answer_for (store_at s) (late_no (store_at s) out)
      done-answer l = rw (late-fine l) (done-is (store_at s) (12 * records) axes regions sets (ap (λ (x : ℕ). 12 * x) (sym records-are)) (sym p-axes) (sym p-regions) (sym (t.exact few).1))

pub done-left : (p : Parsed) (num end : ℕ) (old new : List ℕ) → num ≡ 0 → Put 0 (job_of p) old new end → new ≡ left_for p num old
unfolding left_for
done-left p num end old new e w = rw e w.is

-- ---- all of it

module _ (s : List ℕ) (work out : ℕ) where
  pub recover-short : work < length s → recover_no s work out ≡ 4
  unfolding recover_no first_failed
  recover-short h = rw (lt-leb (length s) work h)

  module _ (h : length s ≤ work) (num : ℕ) (e : num ≡ look_no s) where
    pub recover-look : (num ≡ 0 → ⊥) → recover_no s work out ≡ num
    unfolding recover_no late_no look_no first_failed
    recover-look d = rw (le-leb (length s) work h) (go (which (parses (parse s))) (which (once (store_at s).regions)))
      where
        go : Which (parses (parse s)) → Which (once (store_at s).regions)
            → pick (parses (parse s)) (pick (once (store_at s).regions) (late_no (store_at s) out) 50) 20 ≡ num
        go (holds a) (holds b) = absurd (d (e ∙ rw (a, b)))
        go (holds a) (fails b) = rw (a, b) (sym (e ∙ rw (a, b)))
        go (fails a) w = rw a (sym (e ∙ rw a))

    pub recover-late : num ≡ 0 → recover_no s work out ≡ late_no (store_at s) out
    unfolding recover_no late_no first_failed
    recover-late z = let a = look-passed s (sym e ∙ z) in rw (le-leb (length s) work h, a.0, a.1)

    pub recover-whole : num ≡ 0 → is_whole_ok s ≡ true
    recover-whole z = whole_of s (look-passed s (sym e ∙ z)).0

pub work-short : (bytes : ℕ) (work : List ℕ) → length work < bytes → work ≡ work_left bytes work
unfolding work_left
work-short bytes work h = rw (lt-leb bytes (length work) h)

pub work-zeros : (bytes : ℕ) (old mid new : List ℕ) → bytes ≤ length old → length mid ≡ length old → new ≡ replicate (length mid) 0 → new ≡ work_left bytes old
unfolding work_left
work-zeros bytes old mid new h l e = rw (le-leb bytes (length old) h) (e ∙ ap (λ (m : ℕ). replicate m 0) l)

-- the same number, the same answer
pub same_answer : (p : Parsed) (r : Recovered) (a b : ℕ) → r ≡ answer_for p a → b ≡ a → r ≡ answer_for p b
same_answer p r a b h e = h ∙ ap (answer_for p) (sym e)

pub same_left : (p : Parsed) (out new : List ℕ) (a b : ℕ) → new ≡ left_for p a out → b ≡ a → new ≡ left_for p b out
same_left p out new a b h e = h ∙ ap (λ (n : ℕ). left_for p n out) (sym e)
