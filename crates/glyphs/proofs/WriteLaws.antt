-- Laws of writing a glyph map: its head, and its entries one after another. Assumes nothing.
use mathlib.Core.Path.{◌≡◌, ap, ◌∙◌}
use mathlib.Core.List.{List, [], ◌∷◌, ◌++◌}
use Prim.Native.Nat.{ℕ, ◌+◌, ◌*◌, ◌≤◌, ◌<◌}
use native.Mathlib.Nat.{suc-mul, zero-mul}
use native.Mathlib.Numerals.{add-one}
use native.Mathlib.Omega.{arith}
use lib.ListN.{length, get_or, drop, length-append, drop_of_length-le}
use lib.Seq.{drop-cons}
use borrow.Author.Tests.{lt-ltb, le-ltb}
use Rattle.laws.specs.Bytes.{bytes_of, over}
use Rattle.laws.proofs.BytesLaws.{bytes-length}
use Rattle.laws.proofs.Cases.{lt-or-ge}
use mathlib.Core.Logic.{⊎_elim}
use Rattle.rows.specs.Lent.{Put}
use Rattle.rows.proofs.PutLaws.{Putting, put-start, put-more, put-done, put_last}
use Rattle.glyphs.specs.Packing.{head_of, head_for, head_length, entry_of, entries_of}

-- ---- the head

pub head-put : (format k form n : ℕ) (o p q r : List ℕ) → 2 + k ≤ length o
    → p ≡ over o 0 1 (bytes_of 1 format) → q ≡ over p 1 1 (bytes_of 1 form) → r ≡ over q 2 k (bytes_of k n)
    → Put 0 (head_of format k form n) o r (2 + k)
head-put format k form n o p q r room e f g =
    let a = bytes_of 1 format in
    let b = bytes_of 1 form in
    let c = bytes_of k n in
    let la = bytes-length 1 format in
    let lb = bytes-length 1 form in
    let lc = bytes-length k n in
    let l : length (a ++ (b ++ c)) ≡ 2 + k = simp length-append (omega arith) in
    let h : 0 + length (a ++ (b ++ c)) ≤ length o = omega arith in
    let p1 = put-more 0 (a ++ (b ++ c)) o o 0 a (b ++ c) p 1 h (put-start 0 (a ++ (b ++ c)) o) la e in
    let p2 = put-more 0 (a ++ (b ++ c)) o p 1 b c q 1 h p1 lb f in
    put_last 0 (a ++ (b ++ c)) o q 2 c r k p2 lc g

pub head-long : (format k form n : ℕ) → length (head_of format k form n) ≡ 2 + k
head-long format k form n =
    let la = bytes-length 1 format in
    let lb = bytes-length 1 form in
    let lc = bytes-length k n in
    simp length-append (omega arith)

module _ (form n : ℕ) where
  pub size-zero : n < 65536 → 4 ≡ head_length n
  unfolding head_length
  size-zero h = rw (lt-ltb n 65536 h)

  pub size-one : 65536 ≤ n → 6 ≡ head_length n
  unfolding head_length
  size-one h = rw (le-ltb n 65536 h)

  pub head-zero : n < 65536 → head_for form n ≡ head_of 0 2 form n
  unfolding head_for
  head-zero h = rw (lt-ltb n 65536 h)

  pub head-one : 65536 ≤ n → head_for form n ≡ head_of 1 4 form n
  unfolding head_for
  head-one h = rw (le-ltb n 65536 h)

  pub put-zero : (o p : List ℕ) → n < 65536 → Put 0 (head_of 0 2 form n) o p (2 + 2) → Put 0 (head_for form n) o p (head_length n)
  put-zero o p h x = rw (head-zero h, ← size-zero h) x

  pub put_one : (o p : List ℕ) → 65536 ≤ n → Put 0 (head_of 1 4 form n) o p (2 + 4) → Put 0 (head_for form n) o p (head_length n)
  put_one o p h x = rw (head-one h, ← size-one h) x

  pub head-size : length (head_for form n) ≡ head_length n
  head-size =
      ⊎_elim (λ h. rw (head-zero h, ← size-zero h) (head-long 0 2 form n))
      (λ h. rw (head-one h, ← size-one h) (head-long 1 4 form n))
      (lt-or-ge n 65536)

-- ---- the entries

pub entries-long : (size bits : ℕ) (ws : List ℕ) → length (entries_of size bits ws) ≡ length ws * size
unfolding entries_of
entries-long size bits [] = rw zero-mul
entries-long size bits (w ∷ ws) =
    length-append (bytes_of size (entry_of bits w)) (entries_of size bits ws)
    ∙ omega (arith, bytes-length size (entry_of bits w), entries-long size bits ws, suc-mul (length ws) size)

module _ (size bits : ℕ) (ws : List ℕ) (at : ℕ) (old : List ℕ) (room : at + length ws * size ≤ length old) where
  abbrev all : List ℕ
  all = entries_of size bits ws

  abbrev rest : ℕ → List ℕ
  rest i = entries_of size bits (drop i ws)

  all_room : at + length all ≤ length old
  all_room = rw (entries-long size bits ws) room

  rest-step : (i : ℕ) → i < length ws → rest i ≡ bytes_of size (entry_of bits (get_or ws i 0)) ++ rest (i + 1)
  unfolding entries_of
  rest-step i h = rw (drop-cons ws i 0 h, add-one)

  module _ (new : List ℕ) (a i : ℕ) (p : Putting at all old new a (rest i)) (h : i < length ws) where
    -- this entry lies in the output
    pub entries-room : a + size ≤ length new
    entries-room =
        let e = ap length (rest-step i h) in
        omega (arith, p.long, p.end, all_room, length-append (bytes_of size (entry_of bits (get_or ws i 0))) (rest (i + 1)), bytes-length size (entry_of bits (get_or ws i 0)))

    pub entries-more : (next : List ℕ) (x : ℕ) → x ≡ entry_of bits (get_or ws i 0) → next ≡ over new a size (bytes_of size x) → Putting at all old next (a + size) (rest (i + 1))
    entries-more next x k e =
        put-more at all old new a (bytes_of size (entry_of bits (get_or ws i 0))) (rest (i + 1)) next size all_room (rw (rest-step i h) at p) (bytes-length size (entry_of bits (get_or ws i 0))) (rw (← k) e)

  pub entries-done : (new : List ℕ) (a i : ℕ) → Putting at all old new a (rest i) → length ws ≤ i → Put at all old new a
  unfolding entries_of
  entries-done new a i p h = put-done at all old new a (rest i) p (rw (drop_of_length-le ws {i = i} h))
