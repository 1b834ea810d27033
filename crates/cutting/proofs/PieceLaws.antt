-- Loops that put one piece after another. Assumes nothing.
use mathlib.Core.Path.{◌≡◌, refl, ap, ◌∙◌}
use mathlib.Core.Bool.{Bool, true, false}
use mathlib.Core.List.{List, [], ◌++◌, map}
use Prim.Native.Nat.{ℕ, zero, suc, ◌+◌, ◌-◌, ◌*◌, ◌≤◌, ◌<◌}
use native.Mathlib.Nat.{suc-mul, zero-mul}
use native.Mathlib.Numerals.{add-one}
use native.Mathlib.Omega.{arith}
use lib.ListN.{length, take, drop, length-append}
use lib.Seq.{drop-drop}
use borrow.Rule.Slice.PartMut.{put_mid}
use Rattle.laws.specs.Bytes.{over}
use Rattle.laws.specs.Bounded.{tabulate, up_to}
use Rattle.laws.specs.LentRange.{seg}
use Rattle.laws.specs.Sorting.{keep}
use Rattle.laws.specs.Joining.{join_all}
use Rattle.laws.proofs.RangeLaws.{length-seg}
use Rattle.rows.specs.Lent.{Put}
use Rattle.rows.proofs.PutLaws.{Putting, put-start, put-more, put-done}

-- ---- a piece for each number below n

module _ (f : ℕ → List ℕ) (n : ℕ) where
  abbrev pub pieces : List ℕ
  pieces = join_all (tabulate 0 n f)

  abbrev pub rest : ℕ → List ℕ
  rest i = join_all (tabulate i (n - i) f)

  rest-step : (i : ℕ) → i < n → rest i ≡ f i ++ rest (i + 1)
  unfolding join_all tabulate
  rest-step i h = let e : n - i ≡ suc (n - (i + 1)) = omega arith in rw (e, add-one)

  rest-none : (i : ℕ) → n ≤ i → rest i ≡ []
  unfolding join_all tabulate
  rest-none i h = let e : n - i ≡ 0 = omega arith in rw e

  module _ (at : ℕ) (old : List ℕ) where
    pub pieces-start : Putting at pieces old old at (rest 0)
    pieces-start = let e : n - 0 ≡ n = omega arith in rw e (put-start at pieces old)

    module _ (room : at + length pieces ≤ length old) (new : List ℕ) (a i : ℕ) (p : Putting at pieces old new a (rest i)) (h : i < n) where
      pub pieces_room : a + length (f i) ≤ length new
      pieces_room =
          let e = ap length (rest-step i h) ∙ length-append (f i) (rest (i + 1)) in
          omega (arith, p.long, p.end)

      pub pieces-over : (next : List ℕ) (k : ℕ) → length (f i) ≡ k → next ≡ over new a k (f i) → Putting at pieces old next (a + k) (rest (i + 1))
      pieces-over next k l e = put-more at pieces old new a (f i) (rest (i + 1)) next k room (rw (rest-step i h) at p) l e

      pub pieces_more : (next : List ℕ) (b : ℕ) → Put a (f i) new next b → Putting at pieces old next b (rest (i + 1))
      pieces_more next b k = rw k.end (pieces-over next (length (f i)) refl k.is)

    pub pieces-done : (new : List ℕ) (a i : ℕ) → Putting at pieces old new a (rest i) → n ≤ i → Put at pieces old new a
    pieces-done new a i p h = put-done at pieces old new a (rest i) p (rest-none i h)

-- pieces of k bytes each
pub pieces-long : (f : ℕ → List ℕ) (k a n : ℕ) → ((i : ℕ) → a ≤ i → i < a + n → length (f i) ≡ k) → length (join_all (tabulate a n f)) ≡ n * k
unfolding join_all tabulate
pieces-long f k a zero h = rw zero-mul
pieces-long f k a (suc n) h =
    length-append (f a) (join_all (tabulate (suc a) n f))
    ∙ omega (arith, h a (omega arith) (omega arith), pieces-long f k (suc a) n (λ i p q. h i (omega arith) (omega arith)), suc-mul n k)

-- ---- bytes copied

-- a part of src in the place of a part of out, as the code leaves it
pub copy_put : (out src : List ℕ) (at from n k j : ℕ) → from + n ≤ length src → k ≡ n → j ≡ n → Put at (seg from n src) out (put_mid at k out (take j (drop from src))) (at + n)
unfolding seg
copy_put out src at from n k j h p q = let e = length-seg from n src h in rw (p, q) (record { end = rw e; is = rw (e, drop-drop n at out) })

-- ---- a piece for each number that passes a test

module _ (f : ℕ → List ℕ) (p : ℕ → Bool) (n : ℕ) where
  abbrev pub some : List ℕ
  some = join_all (map f (keep p (up_to n)))

  abbrev pub left : ℕ → List ℕ
  left r = join_all (map f (keep p (tabulate r (n - r) (λ k. k))))

  left_in : (r : ℕ) → r < n → p r ≡ true → left r ≡ f r ++ left (r + 1)
  unfolding join_all tabulate keep
  left_in r h e =
      let m : n - r ≡ suc (n - (r + 1)) = omega arith in
      rw (m, e, add-one)

  left_out : (r : ℕ) → r < n → p r ≡ false → left r ≡ left (r + 1)
  unfolding join_all tabulate keep
  left_out r h e =
      let m : n - r ≡ suc (n - (r + 1)) = omega arith in
      rw (m, e, add-one)

  left-none : (r : ℕ) → n ≤ r → left r ≡ []
  unfolding join_all tabulate keep
  left-none r h = let m : n - r ≡ 0 = omega arith in rw m

  module _ (at : ℕ) (old : List ℕ) where
    module _ (room : at + length some ≤ length old) (new : List ℕ) (a r : ℕ) (q : Putting at some old new a (left r)) (h : r < n) where
      pub some-room : p r ≡ true → a + length (f r) ≤ length new
      some-room t =
          let e = ap length (left_in r h t) ∙ length-append (f r) (left (r + 1)) in
          omega (arith, q.long, q.end)

      pub some_in : p r ≡ true → (next : List ℕ) (b : ℕ) → Put a (f r) new next b → Putting at some old next b (left (r + 1))
      some_in t next b k = rw k.end (put-more at some old new a (f r) (left (r + 1)) next (length (f r)) room (rw (left_in r h t) at q) refl k.is)

      pub some_out : p r ≡ false → Putting at some old new a (left (r + 1))
      some_out t = rw (left_out r h t) at q

    pub some-done : (new : List ℕ) (a r : ℕ) → Putting at some old new a (left r) → n ≤ r → Put at some old new a
    some-done new a r q h = put-done at some old new a (left r) q (left-none r h)
