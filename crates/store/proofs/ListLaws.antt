-- Laws of the region list's bytes. Assumes nothing.
use mathlib.Core.Path.{◌≡◌, refl, ap, ◌∙◌}
use mathlib.Core.Bool.{Bool, true, false}
use mathlib.Core.List.{List, [], ◌∷◌, ◌++◌, map}
use Prim.Native.Nat.{ℕ, suc, ◌+◌, ◌-◌, ◌≤◌, ◌<◌}
use native.Mathlib.Numerals.{add-one}
use native.Mathlib.Omega.{arith}
use lib.ListN.{length, get_or, set, length-append}
use borrow.Author.Tests.{eq-eqb, ne_eqb}
use Rattle.laws.specs.Bytes.{bytes_of, over}
use Rattle.laws.specs.Bounded.{tabulate, up_to}
use Rattle.laws.specs.LentRange.{seg}
use Rattle.laws.specs.Sorting.{keep}
use Rattle.laws.specs.Joining.{join_all}
use Rattle.laws.proofs.BytesLaws.{bytes-length}
use Rattle.laws.proofs.RangeLaws.{seg-cons, seg-none, length-seg}
use Rattle.rows.specs.Lent.{Put}
use Rattle.store.specs.Lent.{coords_at, kept_bytes, list_bytes, marked_in}
use Rattle.rows.proofs.OverLaws.{set-over}
use Rattle.rows.proofs.PutLaws.{Putting, put-start, put-more, put-done}

-- ---- bytes copied

module _ (src : List ℕ) (from n at : ℕ) (old : List ℕ) (inside : from + n ≤ length src) (room : at + n ≤ length old) where
  pub copy_start : Putting at (seg from n src) old old (at + 0) (seg (from + 0) (n - 0) src)
  copy_start =
      let e : from + 0 ≡ from = omega arith in
      let f : n - 0 ≡ n = omega arith in
      let g : at + 0 ≡ at = omega arith in
      rw (e, f, g) (put-start at (seg from n src) old)

  copy_step : (i : ℕ) → i < n → seg (from + i) (n - i) src ≡ (get_or src (from + i) 0 ∷ []) ++ seg (from + (i + 1)) (n - (i + 1)) src
  copy_step i h =
      let e : n - i ≡ suc (n - (i + 1)) = omega arith in
      let f : from + i + 1 ≡ from + (i + 1) = omega arith in
      rw (e, seg-cons (from + i) (n - (i + 1)) src (omega arith), f)

  pub copy_more : (new : List ℕ) (i : ℕ) → Putting at (seg from n src) old new (at + i) (seg (from + i) (n - i) src) → i < n
      → Putting at (seg from n src) old (set new (at + i) (get_or src (from + i) 0)) (at + (i + 1)) (seg (from + (i + 1)) (n - (i + 1)) src)
  copy_more new i p h =
      let b = get_or src (from + i) 0 in
      let e : at + i + 1 ≡ at + (i + 1) = omega arith in
      let l = length-seg from n src inside in
      let one : length {A = ℕ} (b ∷ []) ≡ 1 = refl in
      rw e at (put-more at (seg from n src) old new (at + i) (b ∷ []) (seg (from + (i + 1)) (n - (i + 1)) src) (set new (at + i) b) 1 (omega arith) (rw (copy_step i h) at p) one (set-over new (at + i) b (omega (arith, p.long))))

  pub copy_done : (new : List ℕ) (i : ℕ) → Putting at (seg from n src) old new (at + i) (seg (from + i) (n - i) src) → n ≤ i → Put at (seg from n src) old new (at + i)
  copy_done new i p h =
      let e : n - i ≡ 0 = omega arith in
      put-done at (seg from n src) old new (at + i) (seg (from + i) (n - i) src) p (rw e (seg-none (from + i) src))

-- ---- the regions that are kept

module _ (f : ℕ → List ℕ) (p : ℕ → Bool) (n : ℕ) where
  abbrev left : ℕ → List ℕ
  left r = join_all (map f (keep p (tabulate r (n - r) (λ k. k))))

  all_left : left 0 ≡ join_all (map f (keep p (up_to n)))
  all_left = (let e : n - 0 ≡ n = omega arith in rw e)

  left_in : (r : ℕ) → r < n → p r ≡ true → left r ≡ f r ++ left (r + 1)
  unfolding join_all tabulate keep
  left_in r h e =
      let m : n - r ≡ suc (n - (r + 1)) = omega arith in
      rw (m, e, add-one)

  left_out : (r : ℕ) → r < n → p r ≡ false → left r ≡ left (r + 1)
  unfolding join_all tabulate keep
  left_out r h e =
      let m : n - r ≡ suc (n - (r + 1)) = omega arith in
      rw (m, e, add-one)

  left-none : (r : ℕ) → n ≤ r → left r ≡ []
  unfolding join_all tabulate keep
  left-none r h = let m : n - r ≡ 0 = omega arith in rw m

module _ (src : List ℕ) (axes : ℕ) (w : List ℕ) (starts : ℕ) (marks : List ℕ) (n at : ℕ) (old : List ℕ) where
  abbrev all : List ℕ
  all = kept_bytes src axes w starts (keep (marked_in marks) (up_to n))

  abbrev from : ℕ → List ℕ
  from r = coords_at src axes (get_or w (starts + r) 0)

  abbrev rest : ℕ → List ℕ
  rest r = left from (marked_in marks) n r

  pub kept-start : Putting at all old old at (rest 0)
  unfolding kept_bytes
  kept-start = rw (all_left from (marked_in marks) n) (put-start at all old)

  module _ (room : at + length all ≤ length old) (new : List ℕ) (a r : ℕ) (q : Putting at all old new a (rest r)) where
    in_step : r < n → (get_or marks r 0 ≡ 0 → ⊥) → rest r ≡ from r ++ rest (r + 1)
    in_step h d = left_in from (marked_in marks) n r h (rw (ne_eqb (get_or marks r 0) 0 d))

    pub kept-room : r < n → (get_or marks r 0 ≡ 0 → ⊥) → a + length (from r) ≤ length new
    kept-room h d =
        let e = ap length (in_step h d) ∙ length-append (from r) (rest (r + 1)) in
        omega (arith, q.long, q.end)

    pub kept_in : r < n → (get_or marks r 0 ≡ 0 → ⊥) → (next : List ℕ) (b : ℕ) → Put a (from r) new next b → Putting at all old next b (rest (r + 1))
    kept_in h d next b k = rw k.end (put-more at all old new a (from r) (rest (r + 1)) next (length (from r)) room (rw (in_step h d) at q) refl k.is)

    pub kept_out : r < n → get_or marks r 0 ≡ 0 → Putting at all old new a (rest (r + 1))
    kept_out h e = rw (left_out from (marked_in marks) n r h (rw (eq-eqb (get_or marks r 0) 0 e))) at q

    pub kept-done : n ≤ r → Put at all old new a
    kept-done h = put-done at all old new a (rest r) q (left-none from (marked_in marks) n r h)

-- ---- the whole list

pub list-put : (at axes kept : ℕ) (coords o p q r : List ℕ) (t : ℕ) → at + length (list_bytes axes kept coords) ≤ length o
    → p ≡ over o at 2 (bytes_of 2 axes) → q ≡ over p (at + 2) 2 (bytes_of 2 kept) → Put (at + 4) coords q r t → Put at (list_bytes axes kept coords) o r t
list-put at axes kept coords o p q r t room e f k =
    let a = bytes_of 2 axes in
    let b = bytes_of 2 kept in
    let la = bytes-length 2 axes in
    let lb = bytes-length 2 kept in
    let all = a ++ (b ++ coords) in
    let x : at + 2 + 2 ≡ at + 4 = omega arith in
    let p1 = put-more at all o o at a (b ++ coords) p 2 room (put-start at all o) la e in
    let p2 = put-more at all o p (at + 2) b coords q 2 room p1 lb f in
    let p3 : Putting at all o q (at + 4) coords = rw x at p2 in
    let p4 : Putting at all o r (at + 4 + length coords) [] = put-more at all o q (at + 4) coords [] r (length coords) room (rw (nil coords) p3) refl k.is in
    rw k.end (put-done at all o r (at + 4 + length coords) [] p4 refl)
  where
    nil : (l : List ℕ) → l ++ [] ≡ l
    nil [] = refl
    nil (y ∷ l) = ap (λ (m : List ℕ). y ∷ m) (nil l)

pub list_length : (axes kept : ℕ) (coords : List ℕ) → length (list_bytes axes kept coords) ≡ 4 + length coords
list_length axes kept coords =
    length-append (bytes_of 2 axes) (bytes_of 2 kept ++ coords)
    ∙ omega (arith, length-append (bytes_of 2 kept) coords, bytes-length 2 axes, bytes-length 2 kept)
