-- Laws of the groups' subtables in lent words. Assumes nothing.
use mathlib.Core.Path.{◌≡◌, refl, sym, ap, ◌∙◌}
use mathlib.Core.Bool.{true}
use mathlib.Core.List.{List, [], ◌∷◌, ◌++◌}
use Prim.Native.Nat.{ℕ, suc, ◌+◌, ◌-◌, ◌*◌, ◌≤◌, ◌<◌}
use native.Mathlib.Numerals.{add-one}
use native.Mathlib.Omega.{arith}
use lib.ListN.{length, take, drop, length-append}
use Rattle.laws.specs.Bounded.{tabulate}
use Rattle.laws.specs.LentRange.{Only, seg}
use Rattle.laws.specs.Joining.{join_all}
use Rattle.laws.proofs.BoundedLaws.{tabulate-same}
use Rattle.laws.proofs.RangeLaws.{length-seg, only-seg, only-trans, only-widen}
use Rattle.shapes.specs.Shape.{Shape}
use Rattle.reader.specs.Store.{are_columns_ok}
use Rattle.rows.specs.Columns.{columns_of, word_count}
use Rattle.rows.specs.Row.{Set}
use Rattle.rows.specs.Subtable.{run_count_for}
use Rattle.rows.specs.Lent.{FormedIn, Placed, PlacedIn, Put, table_bytes, run_at, runs_bytes}
use Rattle.store.specs.Lent.{chain, subtable_of}
use Rattle.reader.proofs.StoreLaws.{ok-intro, ok-below, ok-once}
use Rattle.rows.proofs.ColumnsLaws.{columns-ok, word_below}
use Rattle.rows.proofs.CollectLaws.{columns-count, columns-most}
use Rattle.rows.proofs.PutLaws.{Putting, put-start, put-more, put-done, put_only, put-seg}
use Rattle.rows.proofs.InWork.{take-only}
use Rattle.limits.specs.Limits.{max_regions}
use Rattle.store.proofs.TableLaws.{table_is}

-- ---- one group

pub ok-more : (n m : ℕ) (l : List ℕ) → are_columns_ok n l ≡ true → n ≤ m → are_columns_ok m l ≡ true
ok-more n m l ok h = ok-intro m l (λ k b. omega (arith, ok-below n l ok k b)) (λ i j p b. ok-once n l ok i j p b)

-- a group's columns and their places were laid into the last two of the four tables from `scratch` on
module _ (shape regions scratch : ℕ) (old : List ℕ) (few : regions ≤ max_regions) (to : shape + regions ≤ scratch) (room : scratch + 4 * regions ≤ length old) where
  abbrev cols : ℕ
  cols = scratch + regions + regions

  abbrev shape_of : Shape
  shape_of = seg shape regions old

  shape-long : length shape_of ≡ regions
  shape-long = length-seg shape regions old (omega arith)

  module _ (mid : List ℕ) (word count : ℕ) (f : FormedIn shape regions cols old mid word count) where
    pub laid-few : count ≤ regions
    laid-few = omega (arith, f.count-is, columns-count shape_of, columns-most shape_of, shape-long)

    pub laid_word : word < 65536
    laid_word = omega (arith, f.word-is, word_below shape_of (omega (arith, shape-long)))

    in-room : cols + length (columns_of shape_of) ≤ length old
    in-room = omega (arith, f.count-is, laid-few)

    mid-cols : seg cols count mid ≡ columns_of shape_of
    mid-cols = rw f.count-is (put-seg cols (columns_of shape_of) old mid (cols + count) f.put in-room)

    mid-only : Only ((scratch + 2 * regions, 2 * regions) ∷ []) old mid
    mid-only = only-widen (scratch + 2 * regions) (2 * regions) (omega arith) (omega (arith, f.count-is, laid-few)) (put_only cols (columns_of shape_of) old mid (cols + count) f.put in-room)

    pub laid-long : length mid ≡ length old
    laid-long = mid-only.long

    pub laid-ok : are_columns_ok regions (seg cols count mid) ≡ true
    laid-ok = rw mid-cols (ok-more (length shape_of) regions (columns_of shape_of) (columns-ok shape_of) (omega (arith, shape-long)))

    module _ (new : List ℕ) (p : PlacedIn cols count (cols + regions) regions mid new) where
      pub laid-only : Only ((scratch + 2 * regions, 2 * regions) ∷ []) old new
      laid-only = only-trans mid-only (only-widen (scratch + 2 * regions) (2 * regions) (omega arith) (omega arith) p.only)

      cols-same : seg cols count new ≡ seg cols count mid
      cols-same = only-seg p.only cols count (omega (arith, laid-few, laid-long)) (λ k a b. (record { apart = λ q. omega (arith, laid-few) }, tt))

      cols-are : seg cols count new ≡ columns_of shape_of
      cols-are = cols-same ∙ mid-cols

      pub cols-long : length (seg cols count new) ≡ count
      cols-long = ap length cols-are ∙ sym f.count-is

      pub cols-ok : are_columns_ok regions (seg cols count new) ≡ true
      cols-ok = rw cols-same laid-ok

      pub laid-placed : Placed (seg cols count new) (seg (cols + regions) regions new)
      laid-placed = rw cols-same p.placed

      -- what stands before the two tables is as it was
      pub before_same : take scratch new ≡ take scratch old
      before_same = take-only laid-only scratch (omega arith) (λ k l. (record { apart = λ q. omega arith }, tt))

      pub numbers-same : seg (scratch + regions) regions new ≡ seg (scratch + regions) regions old
      numbers-same = only-seg laid-only (scratch + regions) regions (omega arith) (λ k a b. (record { apart = λ q. omega arith }, tt))

      pub group-is : (number : ℕ → ℕ) (set : ℕ → Set) (xs : List ℕ)
          → runs_bytes (subtable_of number set shape_of) xs ≡ runs_bytes (table_bytes number word (seg cols count new) set) xs
      unfolding runs_bytes
      group-is number set xs =
          rw (cols-are, f.word-is)
          (ap join_all (tabulate-same 0 (run_count_for (length xs)) (λ k. subtable_of number set shape_of (run_at xs k)) (λ k. table_bytes number (word_count shape_of) (columns_of shape_of) set (run_at xs k)) (λ k a b. table_is number shape_of set (run_at xs k) (omega (arith, shape-long)))))

-- ---- pieces one after another

module _ (f : ℕ → List ℕ) (n : ℕ) where
  abbrev pub left : ℕ → List ℕ
  left k = join_all (tabulate k (n - k) f)

  pub left_step : (k : ℕ) → k < n → left k ≡ f k ++ left (k + 1)
  unfolding join_all tabulate
  left_step k h =
      let e : n - k ≡ suc (n - (k + 1)) = omega arith in
      rw (e, add-one)

  module _ (at : ℕ) (old : List ℕ) (room : at + length (chain f n) ≤ length old) where
    pub chain-start : Putting at (chain f n) old old at (left 0)
    unfolding chain
    chain-start = (let e : n - 0 ≡ n = omega arith in rw e (put-start at (join_all (tabulate 0 n f)) old))

    module _ (new : List ℕ) (a k : ℕ) (p : Putting at (chain f n) old new a (left k)) (h : k < n) where
      pub chain-room : a + length (f k) ≤ length new
      chain-room =
          let e = ap length (left_step k h) ∙ length-append (f k) (left (k + 1)) in
          omega (arith, p.long, p.end)

      pub chain_more : (next : List ℕ) (b : ℕ) → Put a (f k) new next b → Putting at (chain f n) old next b (left (k + 1))
      chain_more next b q =
          rw q.end (put-more at (chain f n) old new a (f k) (left (k + 1)) next (length (f k)) room (rw (left_step k h) at p) refl q.is)

    pub chain-done : (new : List ℕ) (a k : ℕ) → Putting at (chain f n) old new a (left k) → n ≤ k → Put at (chain f n) old new a
    unfolding join_all tabulate
    chain-done new a k p h =
        let e : n - k ≡ 0 = omega arith in
        put-done at (chain f n) old new a (left k) p (rw e)

-- a part of a slice, as it is lent
pub part-seg : (a n : ℕ) (w : List ℕ) → take (a + n - a) (drop a w) ≡ seg a n w
unfolding seg
part-seg a n w = let e : a + n - a ≡ n = omega arith in rw e
