-- Laws of the sizes of subtables. Assumes nothing.
use mathlib.Core.Path.{◌≡◌, sym, ap, ◌∙◌}
use mathlib.Core.List.{List}
use mathlib.Core.Logic.{⊎_elim}
use Prim.Native.Nat.{ℕ, suc, ◌+◌, ◌-◌, ◌*◌, ◌≤◌, ◌<◌, min}
use native.Mathlib.Numerals.{add-one}
use native.Mathlib.Omega.{arith}
use lib.ListN.{length, get_or, length-append}
use borrow.Author.Tests.{eq-eqb, ne_eqb}
use Rattle.laws.specs.Bag.{weigh}
use Rattle.laws.specs.Bounded.{tabulate}
use Rattle.laws.specs.LentRange.{seg}
use Rattle.laws.specs.Joining.{join_all}
use Rattle.laws.proofs.BagLaws.{weigh-append}
use Rattle.laws.proofs.BoundedLaws.{length-tabulate}
use Rattle.laws.proofs.RangeLaws.{length-seg}
use Rattle.laws.proofs.Cases.{lt-or-ge}
use Rattle.shapes.specs.Group.{max_items}
use Rattle.reader.specs.Store.{column_start}
use Rattle.rows.specs.Columns.{columns_of, word_count}
use Rattle.rows.specs.Subtable.{run_count_for}
use Rattle.limits.specs.Limits.{most_records, max_regions}
use Rattle.store.specs.Lent.{FormOf, Summed, chain, final_at, group_sizes, run_sizes, subtable_size, sum_of}
use Rattle.rows.proofs.CollectLaws.{columns-count, columns-most}
use Rattle.rows.proofs.ColumnsLaws.{word_below}
use Rattle.rows.proofs.RunLaws.{run_none, run-some}
use Rattle.store.proofs.GroupLaws.{left, left_step}

pub size_none : (n row items : ℕ) → items ≡ 0 → 0 ≡ subtable_size n row items
unfolding subtable_size
size_none n row items e = rw (eq-eqb items 0 e)

pub size-some : (n row items : ℕ) → (items ≡ 0 → ⊥) → 6 + 2 * n + items * row ≡ subtable_size n row items
unfolding subtable_size
size-some n row items d = rw (ne_eqb items 0 d)

-- few sets, few runs
pub runs-few : (n : ℕ) → n ≤ most_records → run_count_for n ≤ 17
runs-few n h = ⊎_elim
    (λ (p : n < 1). omega (arith, run_none n (omega arith)))
    (λ (p : 1 ≤ n). omega (arith, run-some n (omega arith)))
    (lt-or-ge n 1)

-- ---- the runs of one group

module _ (f : ℕ → ℕ) (n : ℕ) where
  abbrev pub over_all : ℕ → ℕ
  over_all k = sum_of (tabulate k (n - k) f)

  pub sum-start : 0 + over_all 0 ≡ sum_of (tabulate 0 n f)
  sum-start = (let e : n - 0 ≡ n = omega arith in let z : 0 + sum_of (tabulate 0 n f) ≡ sum_of (tabulate 0 n f) = omega arith in rw e z)

  pub sum_more : (bytes k : ℕ) → bytes + over_all k ≡ sum_of (tabulate 0 n f) → k < n → bytes + f k + over_all (k + 1) ≡ sum_of (tabulate 0 n f)
  unfolding tabulate weigh
  sum_more bytes k s h =
      let e : n - k ≡ suc (n - (k + 1)) = omega arith in
      let m : over_all k ≡ f k + over_all (k + 1) = rw (e, add-one) in
      omega arith

  pub sum_done : (bytes k : ℕ) → bytes + over_all k ≡ sum_of (tabulate 0 n f) → n ≤ k → bytes ≡ sum_of (tabulate 0 n f)
  unfolding tabulate weigh
  sum_done bytes k s h =
      let e : n - k ≡ 0 = omega arith in
      let z : over_all k ≡ 0 = rw e in
      omega arith

pub sized : (n row count bytes runs : ℕ) → runs ≡ run_count_for count → bytes ≡ sum_of (tabulate 0 (run_count_for count) (λ k. subtable_size n row (min max_items (count - max_items * k))))
    → Summed (run_sizes n row count) bytes runs
unfolding run_sizes
sized n row count bytes runs e f = record {
  bytes-is = f;
  runs-is = e ∙ sym (length-tabulate 0 (run_count_for count) (λ k. subtable_size n row (min max_items (count - max_items * k))));
}

-- ---- one group

-- by its word count and how many columns it has
pub form-by : (regions : ℕ) (w : List ℕ) (group word count : ℕ) → regions ≤ max_regions → get_or w group 0 + regions ≤ length w
    → word ≡ word_count (seg (get_or w group 0) regions w) → count ≡ length (columns_of (seg (get_or w group 0) regions w)) → FormOf (final_at regions w group) word count
unfolding final_at
form-by regions w group word count few inside a b =
    let s = seg (get_or w group 0) regions w in
    let l = length-seg (get_or w group 0) regions w inside in
    record {
      word-is = a;
      count-is = b;
      word_below = omega (arith, word_below s (omega arith));
      count_most = omega (arith, columns-count s, columns-most s);
    }

pub group-sized : (regions : ℕ) (w : List ℕ) (group word count row bytes runs : ℕ)
    → get_or w (group + 1) 0 + get_or w (group + 2) 0 ≤ length w → FormOf (final_at regions w group) word count → row ≡ column_start word count
    → Summed (run_sizes count row (get_or w (group + 2) 0)) bytes runs → Summed (group_sizes (final_at regions w group)) bytes runs
unfolding group_sizes final_at
group-sized regions w group word count row bytes runs inside f r s =
    rw (length-seg (get_or w (group + 1) 0) (get_or w (group + 2) 0) w inside, ← f.word-is, ← f.count-is, ← r) s

-- ---- all groups

module _ (f : ℕ → List ℕ) (n : ℕ) where
  pub record Totting (bytes runs k : ℕ) : Type 0 where
    pub within : k ≤ n
    pub bytes_rest : bytes + sum_of (left f n k) ≡ sum_of (chain f n)
    pub runs-rest : runs + length (left f n k) ≡ length (chain f n)

  pub tot-start : Totting 0 0 0
  unfolding chain
  tot-start =
      let e : n - 0 ≡ n = omega arith in
      record {
        within = omega arith;
        bytes_rest = (let z : 0 + sum_of (join_all (tabulate 0 n f)) ≡ sum_of (join_all (tabulate 0 n f)) = omega arith in rw e z);
        runs-rest = (let z : 0 + length (join_all (tabulate 0 n f)) ≡ length (join_all (tabulate 0 n f)) = omega arith in rw e z);
      }

  pub tot-more : (bytes runs k b r : ℕ) → Totting bytes runs k → k < n → Summed (f k) b r → Totting (bytes + b) (runs + r) (k + 1)
  tot-more bytes runs k b r t h s =
      let e = left_step f n k h in
      let x = ap sum_of e ∙ weigh-append (λ (x : ℕ). x) (f k) (left f n (k + 1)) in
      let y = ap length e ∙ length-append (f k) (left f n (k + 1)) in
      record {
        within = omega arith;
        bytes_rest = omega (arith, t.bytes_rest, s.bytes-is);
        runs-rest = omega (arith, t.runs-rest, s.runs-is);
      }

  pub tot-done : (bytes runs k : ℕ) → Totting bytes runs k → n ≤ k → Summed (chain f n) bytes runs
  unfolding join_all tabulate weigh
  tot-done bytes runs k t h =
      let e : n - k ≡ 0 = omega arith in
      let x : sum_of (left f n k) ≡ 0 = rw e in
      let y : length (left f n k) ≡ 0 = rw e in
      record { bytes-is = omega (arith, t.bytes_rest); runs-is = omega (arith, t.runs-rest) }
