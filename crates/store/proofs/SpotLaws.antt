-- Laws of the subtables' offsets. Assumes nothing.
use mathlib.Core.Path.{◌≡◌, refl, ap, ◌∙◌}
use mathlib.Core.List.{List, [], ◌∷◌, ◌++◌, append_assoc}
use Prim.Native.Nat.{ℕ, suc, ◌+◌, ◌-◌, ◌*◌, ◌≤◌, ◌<◌, min}
use native.Mathlib.Nat.{add-zero}
use native.Mathlib.Numerals.{add-one}
use native.Mathlib.Omega.{arith}
use lib.ListN.{length, get_or, length-append}
use borrow.Author.Tests.{eq-eqb, ne_eqb}
use Rattle.laws.specs.Bag.{weigh}
use Rattle.laws.specs.Bytes.{bytes_of, over}
use Rattle.laws.specs.Bounded.{tabulate}
use Rattle.laws.specs.Joining.{join_all}
use Rattle.laws.proofs.BagLaws.{weigh-append}
use Rattle.laws.proofs.BytesLaws.{bytes-length}
use Rattle.laws.proofs.RangeLaws.{length-seg}
use Rattle.shapes.specs.Group.{max_items}
use Rattle.reader.specs.Store.{column_start}
use Rattle.rows.specs.Subtable.{run_count_for}
use Rattle.store.specs.Lent.{FormOf, Spotted, chain, final_at, group_sizes, run_sizes, spot_of, spots_of, subtable_size, sum_of}
use Rattle.rows.proofs.PutLaws.{Putting, put-start, put-more, put-done}
use Rattle.store.proofs.GroupLaws.{left}

pub spot-none : (at size : ℕ) → size ≡ 0 → 0 ≡ spot_of at size
unfolding spot_of
spot-none at size e = rw (eq-eqb size 0 e)

pub spot-some : (at size : ℕ) → (size ≡ 0 → ⊥) → at ≡ spot_of at size
unfolding spot_of
spot-some at size d = rw (ne_eqb size 0 d)

spots-append : (at : ℕ) (l m : List ℕ) → spots_of at (l ++ m) ≡ spots_of at l ++ spots_of (at + sum_of l) m
unfolding spots_of weigh
spots-append at [] m = rw add-zero
spots-append at (x ∷ l) m =
    let e : at + x + sum_of l ≡ at + (x + sum_of l) = omega arith in
    rw (spots-append (at + x) l m, append_assoc, e)

pub spots-length : (at : ℕ) (l : List ℕ) → length (spots_of at l) ≡ 4 * length l
unfolding spots_of
spots-length at [] = refl
spots-length at (x ∷ l) = length-append (bytes_of 4 (spot_of at x)) (spots_of (at + x) l) ∙ omega (arith, bytes-length 4 (spot_of at x), spots-length (at + x) l)

-- the offsets up to p are put, and the next subtable begins at next; the sizes in rest are still to come
pub record Spotting (at first : ℕ) (sizes old new : List ℕ) (p next : ℕ) (rest : List ℕ) : Type 0 where
  pub put : Putting at (spots_of first sizes) old new p (spots_of next rest)
  pub sum : next + sum_of rest ≡ first + sum_of sizes

pub spot-start : (at first : ℕ) (sizes old : List ℕ) → Spotting at first sizes old old at first sizes
spot-start at first sizes old = record { put = put-start at (spots_of first sizes) old; sum = refl }

pub spot-done : (at first : ℕ) (sizes old new : List ℕ) (p next : ℕ) (rest : List ℕ) → Spotting at first sizes old new p next rest → rest ≡ [] → Spotted at first sizes old new p next
unfolding spots_of weigh
spot-done at first sizes old new p next rest s e =
    let z = rw e at s.sum in
    record { put = put-done at (spots_of first sizes) old new p (spots_of next rest) s.put (rw e); next-is = omega arith }

module _ (at first : ℕ) (sizes old : List ℕ) (room : at + length (spots_of first sizes) ≤ length old) (new : List ℕ) (p next : ℕ) where
  -- several at once
  pub spot-group : (x rest : List ℕ) → Spotting at first sizes old new p next (x ++ rest) → (after : List ℕ) (q n : ℕ) → Spotted p next x new after q n
      → Spotting at first sizes old after q n rest
  spot-group x rest s after q n t =
      let a = s.put in
      let m = weigh-append (λ (y : ℕ). y) x rest in
      record {
        put =
            rw (t.put.end, t.next-is)
            (put-more at (spots_of first sizes) old new p (spots_of next x) (spots_of (next + sum_of x) rest) after (length (spots_of next x)) room (rw (spots-append next x rest) at a) refl t.put.is);
        sum = omega (arith, s.sum, t.next-is);
      }

  pub group-spots : (x rest : List ℕ) → Spotting at first sizes old new p next (x ++ rest) → first + sum_of sizes < 4294967296
      → (p + length (spots_of next x) ≤ length new) × (next + sum_of x < 4294967296)
  group-spots x rest s h =
      let e = ap length (spots-append next x rest) ∙ length-append (spots_of next x) (spots_of (next + sum_of x) rest) in
      let m = weigh-append (λ (y : ℕ). y) x rest in
      (omega (arith, s.put.long, s.put.end), omega (arith, s.sum))

  -- one
  pub spot-one : (x : ℕ) (rest : List ℕ) → Spotting at first sizes old new p next (x ∷ rest) → (after : List ℕ) → after ≡ over new p 4 (bytes_of 4 (spot_of next x))
      → Spotting at first sizes old after (p + 4) (next + x) rest
  unfolding spots_of weigh
  spot-one x rest s after e = record {
    put = put-more at (spots_of first sizes) old new p (bytes_of 4 (spot_of next x)) (spots_of (next + x) rest) after 4 room s.put (bytes-length 4 (spot_of next x)) e;
    sum = omega (arith, s.sum);
  }

  pub one_spot : (x : ℕ) (rest : List ℕ) → Spotting at first sizes old new p next (x ∷ rest) → first + sum_of sizes < 4294967296
      → (p + 4 ≤ length new) × (next + x < 4294967296)
  unfolding spots_of weigh
  one_spot x rest s h =
      (omega (arith, s.put.long, s.put.end, length-append (bytes_of 4 (spot_of next x)) (spots_of (next + x) rest), bytes-length 4 (spot_of next x)), omega (arith, s.sum))

-- the sizes of a group's runs, one step on
module _ (n row count : ℕ) where
  abbrev pub runs_from : ℕ → List ℕ
  runs_from k = tabulate k (run_count_for count - k) (λ i. subtable_size n row (min max_items (count - max_items * i)))

  pub runs-all : runs_from 0 ≡ run_sizes n row count
  unfolding run_sizes
  runs-all = let e : run_count_for count - 0 ≡ run_count_for count = omega arith in rw e

  pub runs-step : (k : ℕ) → k < run_count_for count → runs_from k ≡ subtable_size n row (min max_items (count - max_items * k)) ∷ runs_from (k + 1)
  unfolding tabulate
  runs-step k h = let e : run_count_for count - k ≡ suc (run_count_for count - (k + 1)) = omega arith in rw (e, add-one)

  pub runs_none : (k : ℕ) → run_count_for count ≤ k → runs_from k ≡ []
  unfolding tabulate
  runs_none k h = let e : run_count_for count - k ≡ 0 = omega arith in rw e

-- one group's numbers are those of its rows
pub group-sizes-are : (regions : ℕ) (w : List ℕ) (group word count row : ℕ) → get_or w (group + 1) 0 + get_or w (group + 2) 0 ≤ length w
    → FormOf (final_at regions w group) word count → row ≡ column_start word count → group_sizes (final_at regions w group) ≡ run_sizes count row (get_or w (group + 2) 0)
unfolding group_sizes final_at
group-sizes-are regions w group word count row inside f r =
    rw (length-seg (get_or w (group + 1) 0) (get_or w (group + 2) 0) w inside, ← f.word-is, ← f.count-is, ← r)

-- the groups from k on
module _ (f : ℕ → List ℕ) (n : ℕ) where
  pub left-all : left f n 0 ≡ chain f n
  unfolding chain
  left-all = let e : n - 0 ≡ n = omega arith in rw e

  pub left-none : (k : ℕ) → n ≤ k → left f n k ≡ []
  unfolding join_all tabulate
  left-none k h = let e : n - k ≡ 0 = omega arith in rw e
