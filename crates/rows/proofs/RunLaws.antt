-- Laws of one subtable's bytes, and of a group cut into runs. Assumes nothing.
use mathlib.Core.Path.{◌≡◌, refl, sym, ap, ◌∙◌}
use mathlib.Core.List.{List, [], ◌∷◌, ◌++◌}
use mathlib.Core.Logic.{⊎_elim}
use Prim.Native.Nat.{ℕ, suc, ◌+◌, ◌-◌, ◌*◌, ◌/◌, ◌≤◌, ◌<◌, min}
use native.Mathlib.Numerals.{add-one}
use native.Mathlib.Omega.{arith}
use lib.ListN.{length, take, drop, length-append}
use lib.Seq.{take-take, take_all}
use borrow.Author.Tests.{eq-eqb, ne_eqb}
use Rattle.laws.specs.Bounded.{tabulate}
use Rattle.laws.specs.LentRange.{seg}
use Rattle.laws.specs.Every.{All}
use Rattle.laws.specs.Joining.{join_all}
use Rattle.laws.proofs.BytesLaws.{bytes-length}
use Rattle.laws.proofs.RangeLaws.{length-seg, seg-drop, seg_all, all-seg}
use Rattle.laws.proofs.Cases.{lt-or-ge}
use Rattle.shapes.specs.Group.{max_items}
use Rattle.reader.specs.Store.{column_start}
use Rattle.rows.specs.Row.{Set}
use Rattle.rows.specs.Subtable.{run_count_for}
use Rattle.rows.specs.Lent.{index_bytes, Put, rows_bytes, head_bytes, table_bytes, run_at, runs_bytes}
use Rattle.rows.proofs.PutLaws.{Putting, put-start, put-more, put-done, put-join, put-long, index-length, rows-length}

-- ---- one subtable

pub head-length : (items word count : ℕ) → length (head_bytes items word count) ≡ 6
head-length items word count = simp length-append (omega (arith, bytes-length 2 items, bytes-length 2 word, bytes-length 2 count))

module _ (number : ℕ → ℕ) (word : ℕ) (cols : List ℕ) (set : ℕ → Set) where
  pub table-some : (xs : List ℕ) → (length xs ≡ 0 → ⊥)
      → table_bytes number word cols set xs ≡ head_bytes (length xs) word (length cols) ++ (index_bytes number cols ++ rows_bytes word cols set xs)
  unfolding table_bytes
  table-some [] n = absurd (n refl)
  table-some (x ∷ xs) n = refl

  pub table_none : (xs : List ℕ) → length xs ≡ 0 → table_bytes number word cols set xs ≡ []
  unfolding table_bytes
  table_none [] e = refl
  table_none (x ∷ xs) e = absurd (omega arith)

  pub table-length : (xs : List ℕ) → (length xs ≡ 0 → ⊥) → length (table_bytes number word cols set xs) ≡ 6 + 2 * length cols + length xs * column_start word (length cols)
  table-length xs n =
      ap length (table-some xs n)
      ∙ length-append (head_bytes (length xs) word (length cols)) (index_bytes number cols ++ rows_bytes word cols set xs)
      ∙ omega (arith, head-length (length xs) word (length cols), length-append (index_bytes number cols) (rows_bytes word cols set xs), index-length number cols, rows-length word cols set xs)

  -- with the count that the code has
  module _ (xs : List ℕ) (count at : ℕ) (o : List ℕ) (l : length xs ≡ count) (room : at + length (table_bytes number word cols set xs) ≤ length o) where
    pub empty-put : count ≡ 0 → Put at (table_bytes number word cols set xs) o o at
    empty-put e =
        let z = table_none xs (l ∙ e) in
        put-done at (table_bytes number word cols set xs) o o at (table_bytes number word cols set xs) (put-start at (table_bytes number word cols set xs) o) z

    module _ (n : count ≡ 0 → ⊥) where
      pub table-room : at + 6 + 2 * length cols + count * column_start word (length cols) ≤ length o
      table-room =
          let e = table-length xs (λ z. n (sym l ∙ z)) in
          let f = ap (λ (i : ℕ). i * column_start word (length cols)) l in
          omega arith

      pub table-put : (p q r : List ℕ) (a b t : ℕ) → Put at (head_bytes count word (length cols)) o p a → Put a (index_bytes number cols) p q b
          → Put b (rows_bytes word cols set xs) q r t → Put at (table_bytes number word cols set xs) o r t
      table-put p q r a b t h i k =
          let head = head_bytes count word (length cols) in
          let index = index_bytes number cols in
          let rows = rows_bytes word cols set xs in
          let lh = head-length count word (length cols) in
          let li = index-length number cols in
          let lr = rows-length word cols set xs in
          let f = ap (λ (i : ℕ). i * column_start word (length cols)) l in
          let e : table_bytes number word cols set xs ≡ head ++ (index ++ rows) = table-some xs (λ z. n (sym l ∙ z)) ∙ rw l in
          let long = put-long at head o p a h (omega (arith, table-room)) in
          let j = put-join a index rows p q r b t i k (omega (arith, h.end, table-room)) in
          rw e (put-join at head (index ++ rows) o p r a t h j (omega (arith, length-append index rows, table-room)))

-- ---- runs

pub run_none : (n : ℕ) → n ≡ 0 → 1 ≡ run_count_for n
unfolding run_count_for
run_none n e = rw (eq-eqb n 0 e)

pub run-some : (n : ℕ) → (n ≡ 0 → ⊥) → (n + (max_items - 1)) / max_items ≡ run_count_for n
unfolding run_count_for
run-some n h = rw (ne_eqb n 0 h)

pub run-starts : (n k : ℕ) → k < run_count_for n → max_items * k ≤ n
run-starts n k h = ⊎_elim
    (λ (p : n < 1). omega (arith, run_none n (omega arith)))
    (λ (p : 1 ≤ n). omega (arith, run-some n (omega arith)))
    (lt-or-ge n 1)

-- the ids of run k
pub run-seg : (a n : ℕ) (w : List ℕ) (k : ℕ) → a + n ≤ length w → max_items * k ≤ n → run_at (seg a n w) k ≡ seg (a + max_items * k) (min max_items (n - max_items * k)) w
unfolding seg
run-seg a n w k l h =
    let d = seg-drop a n (max_items * k) w h l in
    let left = n - max_items * k in
    ap (take max_items) d ∙ ⊎_elim
    (λ (p : max_items < left). (let e : min max_items left ≡ max_items = omega arith in rw e (take-take max_items left (drop (a + max_items * k) w) (omega arith))))
    (λ (p : left ≤ max_items). (let e : min max_items left ≡ left = omega arith in
    rw e (take_all max_items (take left (drop (a + max_items * k) w)) (omega (arith, length-seg (a + max_items * k) left w (omega arith))))))
    (lt-or-ge max_items left)

-- a part of a range
pub all-part : (P : ℕ → Type 0) (a n b m : ℕ) (w : List ℕ) → a + n ≤ length w → a ≤ b → b + m ≤ a + n → All P (seg a n w) → All P (seg b m w)
all-part P a n b m w l p q h = all-seg P m b w (omega arith) (λ k i j. seg_all P n a w l h k (omega arith) (omega arith))

module _ (f : List ℕ → List ℕ) (xs : List ℕ) where
  abbrev left : ℕ → List ℕ
  left k = join_all (tabulate k (run_count_for (length xs) - k) (λ i. f (run_at xs i)))

  left_step : (k : ℕ) → k < run_count_for (length xs) → left k ≡ f (run_at xs k) ++ left (k + 1)
  unfolding join_all tabulate
  left_step k h =
      let e : run_count_for (length xs) - k ≡ suc (run_count_for (length xs) - (k + 1)) = omega arith in
      rw (e, add-one)

  module _ (at : ℕ) (old : List ℕ) (room : at + length (runs_bytes f xs) ≤ length old) where
    pub runs-start : Putting at (runs_bytes f xs) old old at (left 0)
    unfolding runs_bytes
    runs-start = (let e : run_count_for (length xs) - 0 ≡ run_count_for (length xs) = omega arith in rw e (put-start at (join_all (tabulate 0 (run_count_for (length xs)) (λ i. f (run_at xs i)))) old))

    module _ (new : List ℕ) (a k : ℕ) (p : Putting at (runs_bytes f xs) old new a (left k)) (h : k < run_count_for (length xs)) where
      pub runs-room : a + length (f (run_at xs k)) ≤ length new
      runs-room =
          let e = ap length (left_step k h) ∙ length-append (f (run_at xs k)) (left (k + 1)) in
          omega (arith, p.long, p.end)

      pub runs-more : (next : List ℕ) (b : ℕ) → Put a (f (run_at xs k)) new next b → Putting at (runs_bytes f xs) old next b (left (k + 1))
      runs-more next b q =
          rw q.end (put-more at (runs_bytes f xs) old new a (f (run_at xs k)) (left (k + 1)) next (length (f (run_at xs k))) room (rw (left_step k h) at p) refl q.is)

    pub runs_done : (new : List ℕ) (a k : ℕ) → Putting at (runs_bytes f xs) old new a (left k) → run_count_for (length xs) ≤ k → Put at (runs_bytes f xs) old new a
    unfolding join_all tabulate
    runs_done new a k p h =
        let e : run_count_for (length xs) - k ≡ 0 = omega arith in
        put-done at (runs_bytes f xs) old new a (left k) p (rw e)
