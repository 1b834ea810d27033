-- A shape, its columns and the table of their places as parts of one slice of words: the loops that read one part and write another. Assumes
-- nothing.
use mathlib.Core.Path.{◌≡◌, sym, subst, ◌∙◌}
use mathlib.Core.Bool.{true}
use mathlib.Core.List.{List, [], ◌∷◌, ◌++◌, append_assoc}
use Prim.Native.Nat.{ℕ, ◌+◌, ◌-◌, ◌≤◌, ◌<◌}
use native.Mathlib.Omega.{arith}
use lib.ListN.{length, get_or, set, take, replicate, length-append, length-set}
use lib.Seq.{ext_get_or, get_or-set_same, get_or-set_other, get_or-take, length-take-le}
use lib.Dec.{eqb}
use borrow.Author.Tests.{lt-ltb, le-ltb, eqb-true, eqb-false}
use Rattle.laws.specs.LentRange.{Only, Outside, Zeroed, seg}
use Rattle.laws.proofs.Cases.{Which, which}
use Rattle.laws.proofs.Cases.Which.{holds, fails}
use Rattle.laws.proofs.RangeLaws.{length-seg, get_or-seg, only-refl, only-seg, only_set, only-trans, seg-ext}
use Rattle.laws.proofs.ZeroLaws.{zeroed-part}
use Rattle.shapes.specs.Shape.{Shape}
use Rattle.reader.specs.Store.{are_columns_ok}
use Rattle.rows.specs.Columns.{of_width, columns_of, fours, word_count}
use Rattle.rows.specs.Lent.{FormedIn, PlacedIn, Put}
use Rattle.rows.proofs.PutLaws.{put-join, put_keeps, put-long}
use Rattle.rows.proofs.CollectLaws.{Collecting, collect-room, collect-same, collect-other, collect-done, columns-most, Marking, mark-start, mark-room, mark-more, mark-done}

-- ---- the words before a place

pub take-only : {rs : List (ℕ × ℕ)} {u w : List ℕ} → Only rs u w → (s : ℕ) → s ≤ length u → ((k : ℕ) → k < s → Outside rs k) → take s w ≡ take s u
take-only {rs} {u} {w} p s h o =
    let l = length-take-le s w (omega (arith, p.long)) in
    ext_get_or 0 (take s w) (take s u) (l ∙ sym (length-take-le s u h))
    (λ k b. let c : k < s = omega arith in get_or-take s w k 0 c ∙ p.kept k (o k c) ∙ sym (get_or-take s u k 0 c))

pub seg-take : (a n s : ℕ) (w : List ℕ) → a + n ≤ s → s ≤ length w → seg a n (take s w) ≡ seg a n w
seg-take a n s w h l =
    seg-ext a a n (take s w) w (omega (arith, length-take-le s w l)) (omega arith) (λ k b. get_or-take s w (a + k) 0 (omega arith))

-- ---- one width

pub record CollectingIn (w shape regions from : ℕ) (old new : List ℕ) (n i : ℕ) : Type 0 where
  pub so_far : Collecting w (seg shape regions old) from old new n i
  pub behind : from ≤ n
  pub before : (k : ℕ) → k < from → get_or new k 0 ≡ get_or old k 0

module _ (w shape regions from : ℕ) (old : List ℕ) (to : shape + regions ≤ from) (room : from + length (of_width w 0 (seg shape regions old)) ≤ length old) where
  long : length (seg shape regions old) ≡ regions
  long = length-seg shape regions old (omega arith)

  module _ (new : List ℕ) (n i : ℕ) (c : CollectingIn w shape regions from old new n i) (h : i < regions) where
    inside : i < length (seg shape regions old)
    inside = omega (arith, long)

    read : get_or (seg shape regions old) i 0 ≡ get_or new (shape + i) 0
    read = get_or-seg shape regions old i h ∙ sym (c.before (shape + i) (omega arith))

    pub in-room : get_or new (shape + i) 0 ≡ w → n < length new
    in-room e = collect-room w (seg shape regions old) from old room new n i c.so_far inside (read ∙ e)

    pub in-same : get_or new (shape + i) 0 ≡ w → CollectingIn w shape regions from old (set new n i) (n + 1) (i + 1)
    in-same e = record {
      so_far = collect-same w (seg shape regions old) from old room new n i c.so_far inside (read ∙ e);
      behind = omega (arith, c.behind);
      before = λ k l. get_or-set_other new n k i 0 (omega (arith, c.behind)) ∙ c.before k l;
    }

    pub in-other : (get_or new (shape + i) 0 ≡ w → ⊥) → CollectingIn w shape regions from old new n (i + 1)
    in-other e = record {
      so_far = collect-other w (seg shape regions old) from old room new n i c.so_far inside (λ q. e (sym read ∙ q));
      behind = c.behind;
      before = c.before;
    }

  pub in-done : (new : List ℕ) (n i : ℕ) → CollectingIn w shape regions from old new n i → regions ≤ i → Put from (of_width w 0 (seg shape regions old)) old new n
  in-done new n i c h = collect-done w (seg shape regions old) from old room new n i c.so_far (omega (arith, long))

-- ---- the three passes

module _ (shape regions cols : ℕ) (old : List ℕ) (few : regions < 32768) (to : shape + regions ≤ cols) (room : cols + regions ≤ length old) where
  abbrev it : Shape
  it = seg shape regions old

  it-long : length it ≡ regions
  it-long = length-seg shape regions old (omega arith)

  pub pass-one : cols + length (of_width 4 0 it) ≤ length old
  pass-one = omega (arith, columns-most it, it-long)

  module _ (a : List ℕ) (x : ℕ) (p : Put cols (of_width 4 0 it) old a x) where
    it-same : seg shape regions a ≡ it
    it-same = put_keeps cols (of_width 4 0 it) old a x p pass-one shape regions to

    a-long : length a ≡ length old
    a-long = put-long cols (of_width 4 0 it) old a x p pass-one

    pub two_from : cols ≤ x
    two_from = omega (arith, p.end)

    pub pass-two : x + length (of_width 2 0 (seg shape regions a)) ≤ length a
    pass-two = rw it-same (omega (arith, p.end, a-long, columns-most it, it-long))

    module _ (b : List ℕ) (y : ℕ) (q : Put x (of_width 2 0 (seg shape regions a)) a b y) where
      as-two : Put x (of_width 2 0 it) a b y
      as-two = subst (λ (s : Shape). Put x (of_width 2 0 s) a b y) it-same q

      it-again : seg shape regions b ≡ it
      it-again = put_keeps x (of_width 2 0 (seg shape regions a)) a b y q pass-two shape regions (omega (arith, two_from)) ∙ it-same

      b-long : length b ≡ length old
      b-long = put-long x (of_width 2 0 (seg shape regions a)) a b y q pass-two ∙ a-long

      pub three-from : x ≤ y
      three-from = omega (arith, q.end)

      pub pass-three : y + length (of_width 1 0 (seg shape regions b)) ≤ length b
      pass-three = rw it-again (omega (arith, p.end, as-two.end, b-long, columns-most it, it-long))

      both : Put cols (of_width 4 0 it ++ of_width 2 0 it) old b y
      both = put-join cols (of_width 4 0 it) (of_width 2 0 it) old a b x y p as-two (omega (arith, columns-most it, it-long))

      module _ (c : List ℕ) (z : ℕ) (r : Put y (of_width 1 0 (seg shape regions b)) b c z) where
        as-three : Put y (of_width 1 0 it) b c z
        as-three = subst (λ (s : Shape). Put y (of_width 1 0 s) b c z) it-again r

        all-put : Put cols (columns_of it) old c z
        unfolding columns_of
        all-put =
            subst (λ (l : List ℕ). Put cols l old c z) (append_assoc (of_width 4 0 it) (of_width 2 0 it) (of_width 1 0 it))
            (put-join cols (of_width 4 0 it ++ of_width 2 0 it) (of_width 1 0 it) old b c y z both as-three
            (omega (arith, length-append (of_width 4 0 it) (of_width 2 0 it), columns-most it, it-long)))

        count-end : z - cols ≡ length (columns_of it)
        count-end = omega (arith, all-put.end)

        put_all : Put cols (columns_of it) old c (cols + (z - cols))
        put_all = record { end = omega (arith, all-put.end); is = all-put.is }

        pub form-wide : cols < x → FormedIn shape regions cols old c (x - cols + 32768) (z - cols)
        unfolding word_count
        form-wide h =
            let e : x - cols ≡ fours it = omega (arith, p.end) in
            let h' : 0 < fours it = omega arith in
            record { word-is = rw (e, lt-ltb 0 (fours it) h'); count-is = count-end; put = put_all }

        pub form-narrow : x ≤ cols → FormedIn shape regions cols old c (y - cols) (z - cols)
        unfolding word_count
        form-narrow h =
            let e : fours it ≤ 0 = omega (arith, p.end) in
            record { word-is = rw (le-ltb 0 (fours it) e) (omega (arith, p.end, as-two.end)); count-is = count-end; put = put_all }

-- ---- the table of places

pub seg-set : (a n : ℕ) (w : List ℕ) (i v : ℕ) → a + n ≤ length w → i < n → seg a n (set w (a + i) v) ≡ set (seg a n w) i v
seg-set a n w i v room h =
    let l = length-seg a n w room in
    let m = length-seg a n (set w (a + i) v) (omega (arith, length-set w (a + i) v)) in
    ext_get_or 0 (seg a n (set w (a + i) v)) (set (seg a n w) i v) (m ∙ sym (length-set (seg a n w) i v ∙ l))
    (λ k b. let c : k < n = omega arith in get_or-seg a n (set w (a + i) v) k c ∙ go k c (which (eqb i k)))
  where
    go : (k : ℕ) → k < n → Which (eqb i k) → get_or (set w (a + i) v) (a + k) 0 ≡ get_or (set (seg a n w) i v) k 0
    go k c (holds t) =
        let e : i ≡ k = eqb-true i k t in
        rw (← e) (get_or-set_same w (a + i) v 0 (omega arith) ∙ sym (get_or-set_same (seg a n w) i v 0 (omega (arith, length-seg a n w room))))
    go k c (fails t) =
        let d = eqb-false i k t in
        get_or-set_other w (a + i) (a + k) v 0 (λ e. d (omega arith))
        ∙ sym (get_or-seg a n w k c)
        ∙ sym (get_or-set_other (seg a n w) i k v 0 (λ e. d (sym e)))

pub record MarkingIn (cols n places regions : ℕ) (old new : List ℕ) (j : ℕ) : Type 0 where
  pub only : Only ((places, regions) ∷ []) old new
  pub so_far : Marking (seg cols n old) (seg places regions new) regions j

module _ (cols n places regions : ℕ) (old : List ℕ) (to : cols + n ≤ places) (room : places + regions ≤ length old) (ok : are_columns_ok regions (seg cols n old) ≡ true) where
  cols-long : length (seg cols n old) ≡ n
  cols-long = length-seg cols n old (omega arith)

  pub into-start : seg places regions old ≡ replicate regions 0 → MarkingIn cols n places regions old old 0
  into-start z = record {
    only = only-refl ((places, regions) ∷ []) old;
    so_far = mark-start (seg cols n old) regions ok (seg places regions old) (length-seg places regions old room) z;
  }

  module _ (new : List ℕ) (j : ℕ) (m : MarkingIn cols n places regions old new j) (h : j < n) where
    col-is : get_or new (cols + j) 0 ≡ get_or (seg cols n old) j 0
    col-is = m.only.kept (cols + j) (record { apart = λ q. omega arith }, tt) ∙ sym (get_or-seg cols n old j h)

    pub into-room : get_or new (cols + j) 0 < regions
    into-room = omega (arith, col-is, mark-room (seg cols n old) regions ok j (omega (arith, cols-long)))

    pub into_more : MarkingIn cols n places regions old (set new (places + get_or new (cols + j) 0) (j + 1)) (j + 1)
    into_more =
        let x = get_or new (cols + j) 0 in
        let b = into-room in
        record {
          only = only-trans m.only (only_set ((places, regions) ∷ []) new (places + x) (j + 1) (λ o. omega (arith, o.0.apart (omega arith))));
          so_far =
              rw (seg-set places regions new x (j + 1) (omega (arith, m.only.long)) b, col-is)
              (mark-more (seg cols n old) regions ok (seg places regions new) j m.so_far (omega (arith, cols-long)));
        }

  pub into-done : (new : List ℕ) (j : ℕ) → MarkingIn cols n places regions old new j → n ≤ j → PlacedIn cols n places regions old new
  into-done new j m h = record { only = m.only; placed = mark-done (seg cols n old) regions ok (seg places regions new) j m.so_far (omega (arith, cols-long)) }

-- cleared before, and then marked
module _ (cols n places regions : ℕ) (old mid : List ℕ) (to : cols + n ≤ places) (room : places + regions ≤ length old) (z : Zeroed places regions old mid) where
  cols-same : seg cols n mid ≡ seg cols n old
  cols-same = only-seg z.only cols n (omega arith) (λ k p q. (record { apart = λ r. omega arith }, tt))

  pub clear-ok : are_columns_ok regions (seg cols n old) ≡ true → are_columns_ok regions (seg cols n mid) ≡ true
  clear-ok ok = rw cols-same ok

  pub clear-zeros : seg places regions mid ≡ replicate regions 0
  clear-zeros = zeroed-part z room

  pub clear-placed : (new : List ℕ) → PlacedIn cols n places regions mid new → PlacedIn cols n places regions old new
  clear-placed new p = record { only = only-trans z.only p.only; placed = rw cols-same at p.placed }
