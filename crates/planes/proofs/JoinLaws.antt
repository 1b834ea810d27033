-- Two shapes in planes joined: measured, and in place. Assumes nothing.
use mathlib.Core.Path.{◌≡◌, refl, sym, ap, ap₂, ◌∙◌}
use mathlib.Core.List.{List, [], ◌∷◌}
use Prim.Native.Nat.{ℕ, ◌+◌, ◌*◌, ◌^◌, ◌≤◌, ◌<◌}
use native.Mathlib.Omega.{arith}
use borrow.Author.Count.{below_more}
use lib.ListN.{length, get_or, set}
use lib.Seq.{get_or-set_same, get_or-set_other}
use lib.Bits.{bit_or, or_lt}
use lib.Count.{ones, ones-le, ones_cat}
use Rattle.laws.specs.Bag.{sum}
use Rattle.laws.specs.LentRange.{Apart, Only}
use Rattle.laws.proofs.BagLaws.{sum_same, sum-next}
use Rattle.laws.proofs.RangeLaws.{outside-at, only-refl, only-trans, only_set}
use Rattle.shapes.specs.Shape.{Shape, join}
use Rattle.shapes.proofs.ShapeLaws.{join-at}
use Rattle.planes.specs.Plane.{IsCost, plane, word, wide}
use Rattle.planes.specs.Lent.{Holds, PlanesAt, or_ones, FourOnes, PairOnes, LastOnes, Counting, CountedTo, MeasuresJoin, JoinsPlanes}
use Rattle.planes.proofs.PlaneLaws.{cost-max, plane-room, plane-join, plane-ones, wide-columns, wide_row, word-or, ones-words, join-room}

-- ---- counting the bits of two numbers together

pub count-start : (w : List ℕ) (p q n : ℕ) → Counting w p q n 0 0
count-start w p q n = record { within = omega arith; most = omega arith; is = unfold sum in refl }

pub or-below : (w : List ℕ) (i j : ℕ) → ((k : ℕ) → get_or w k 0 < 4294967296) → bit_or (get_or w i 0) (get_or w j 0) < 4294967296
or-below w i j h = or_lt 32 (get_or w i 0) (get_or w j 0) (h i) (h j)

pub or-few : (w : List ℕ) (i j : ℕ) → ((k : ℕ) → get_or w k 0 < 4294967296) → ones (bit_or (get_or w i 0) (get_or w j 0)) ≤ 32
or-few w i j h = ones-le 32 (bit_or (get_or w i 0) (get_or w j 0)) (or-below w i j h)

pub count_next : (w : List ℕ) (p q n count i : ℕ) → ((k : ℕ) → get_or w k 0 < 4294967296) → Counting w p q n count i → i < n
    → Counting w p q n (count + ones (bit_or (get_or w (p + i) 0) (get_or w (q + i) 0))) (i + 1)
unfolding or_ones
count_next w p q n count i h c l = record {
  within = omega arith;
  most = omega (arith, or-few w (p + i) (q + i) h, c.most);
  is = ap (λ (k : ℕ). k + ones (bit_or (get_or w (p + i) 0) (get_or w (q + i) 0))) c.is ∙ sym (sum-next (or_ones w p q) i);
}

pub count-done : (w : List ℕ) (p q n count i : ℕ) → Counting w p q n count i → n ≤ i → count ≡ sum (or_ones w p q) n
count-done w p q n count i c h =
    let e : i ≡ n = omega (arith, c.within) in
    c.is ∙ ap (sum (or_ones w p q)) e

-- four words, each counted alone
pub four-done : (w : List ℕ) (p q i : ℕ) → ((k : ℕ) → get_or w k 0 < 4294967296)
    → FourOnes w p q i (ones (bit_or (get_or w (p + i) 0) (get_or w (q + i) 0)) + ones (bit_or (get_or w (p + i + 1) 0) (get_or w (q + i + 1) 0))
    + ones (bit_or (get_or w (p + i + 2) 0) (get_or w (q + i + 2) 0)) + ones (bit_or (get_or w (p + i + 3) 0) (get_or w (q + i + 3) 0)))
unfolding or_ones
four-done w p q i h =
    let behind : (k : ℕ) → ones (bit_or (get_or w (p + i + k) 0) (get_or w (q + i + k) 0)) ≡ or_ones w p q (i + k) =
    λ k. ap₂ (λ (u v : ℕ). ones (bit_or (get_or w u 0) (get_or w v 0))) {x = p + i + k} {y = p + (i + k)} (omega arith) (omega arith) in
    record {
      most = omega (arith, or-few w (p + i) (q + i) h, or-few w (p + i + 1) (q + i + 1) h, or-few w (p + i + 2) (q + i + 2) h, or-few w (p + i + 3) (q + i + 3) h);
      is = omega (arith, behind 1, behind 2, behind 3);
    }

sum-up : (f : ℕ → ℕ) (i k : ℕ) → k ≡ i + 1 → sum f k ≡ sum f i + f i
sum-up f i k e = ap (sum f) e ∙ sum-next f i

pub count-four : (w : List ℕ) (p q n count i r : ℕ) → Counting w p q n count i → FourOnes w p q i r → i + 3 < n → Counting w p q n (count + r) (i + 4)
count-four w p q n count i r c o h =
    let f = or_ones w p q in
    record {
      within = omega arith;
      most = omega (arith, c.most, o.most);
      is = omega (arith, c.is, o.is, sum-next f i, sum-up f (i + 1) (i + 2) (omega arith), sum-up f (i + 2) (i + 3) (omega arith), sum-up f (i + 3) (i + 4) (omega arith));
    }

-- two words as one number: the ones of each are counted apart
pub pair-done : (w : List ℕ) (p q i : ℕ) → ((k : ℕ) → get_or w k 0 < 4294967296)
    → PairOnes w p q i (ones (bit_or (get_or w (p + i + 1) 0) (get_or w (q + i + 1) 0) * 4294967296 + bit_or (get_or w (p + i) 0) (get_or w (q + i) 0)))
unfolding or_ones
pair-done w p q i h =
    let low = bit_or (get_or w (p + i) 0) (get_or w (q + i) 0) in
    let high = bit_or (get_or w (p + i + 1) 0) (get_or w (q + i + 1) 0) in
    let apart : ones (high * 4294967296 + low) ≡ ones high + ones low = ones_cat 32 high low (or-below w (p + i) (q + i) h) in
    let at_p : p + i + 1 ≡ p + (i + 1) = omega arith in
    let at-q : q + i + 1 ≡ q + (i + 1) = omega arith in
    let behind : ones high ≡ or_ones w p q (i + 1) = ap₂ (λ (u v : ℕ). ones (bit_or (get_or w u 0) (get_or w v 0))) at_p at-q in
    record {
      most = omega (arith, apart, or-few w (p + i) (q + i) h, or-few w (p + i + 1) (q + i + 1) h);
      is = omega (arith, apart, behind);
    }

pub count-pair : (w : List ℕ) (p q n count i r : ℕ) → Counting w p q n count i → PairOnes w p q i r → i + 1 < n → Counting w p q n (count + r) (i + 2)
count-pair w p q n count i r c o h =
    let next : i + 2 ≡ i + 1 + 1 = omega arith in
    record {
      within = omega arith;
      most = omega (arith, c.most, o.most);
      is = omega (arith, c.is, o.is, ap (sum (or_ones w p q)) next, sum-next (or_ones w p q) i, sum-next (or_ones w p q) (i + 1));
    }

-- the word that the pairs leave, where there is one
pub last_one : (w : List ℕ) (p q i n : ℕ) → ((k : ℕ) → get_or w k 0 < 4294967296) → i < n → n ≤ i + 1
    → LastOnes w p q i n (ones (bit_or (get_or w (p + i) 0) (get_or w (q + i) 0)))
unfolding or_ones
last_one w p q i n h l m =
    let e : i + 1 ≡ n = omega arith in
    record { most = or-few w (p + i) (q + i) h; is = sym (sum-next (or_ones w p q) i) ∙ ap (sum (or_ones w p q)) e }

pub last_none : (w : List ℕ) (p q i n : ℕ) → i ≤ n → n ≤ i → LastOnes w p q i n 0
last_none w p q i n l m =
    let e : i ≡ n = omega arith in
    record { most = omega arith; is = omega (arith, ap (sum (or_ones w p q)) e) }

pub count-last : (w : List ℕ) (p q n count i r : ℕ) → Counting w p q n count i → LastOnes w p q i n r → count + r ≡ sum (or_ones w p q) n
count-last w p q n count i r c o = omega (arith, c.is, o.is)

-- ---- the three planes side by side

module _ (w : List ℕ) (a b n : ℕ) where
  pub counted_start : CountedTo w a b n 0 0 0 0
  counted_start = record { ones = count-start w a b n; twos = count-start w (a + n) (b + n) n; fours = count-start w (a + n + n) (b + n + n) n }

  pub counted-four : (one two four i x y z : ℕ) → CountedTo w a b n one two four i
      → FourOnes w a b i x → FourOnes w (a + n) (b + n) i y → FourOnes w (a + n + n) (b + n + n) i z → i + 3 < n
      → CountedTo w a b n (one + x) (two + y) (four + z) (i + 4)
  counted-four one two four i x y z c o p q h = record {
    ones = count-four w a b n one i x c.ones o h;
    twos = count-four w (a + n) (b + n) n two i y c.twos p h;
    fours = count-four w (a + n + n) (b + n + n) n four i z c.fours q h;
  }

  pub counted-pair : (one two four i x y z : ℕ) → CountedTo w a b n one two four i
      → PairOnes w a b i x → PairOnes w (a + n) (b + n) i y → PairOnes w (a + n + n) (b + n + n) i z → i + 1 < n
      → CountedTo w a b n (one + x) (two + y) (four + z) (i + 2)
  counted-pair one two four i x y z c o p q h = record {
    ones = count-pair w a b n one i x c.ones o h;
    twos = count-pair w (a + n) (b + n) n two i y c.twos p h;
    fours = count-pair w (a + n + n) (b + n + n) n four i z c.fours q h;
  }

-- ---- what a join costs

module _ (w : List ℕ) (p q n x y : ℕ) (a : Holds w p n x) (b : Holds w q n y) where
  pub or_count : bit_or x y < 2 ^ (32 * n) → sum (or_ones w p q) n ≡ ones (bit_or x y)
  unfolding or_ones
  or_count h =
      sum_same (λ k. ones (word (bit_or x y) k)) (or_ones w p q) n
      (λ k l. ap₂ (λ (u v : ℕ). ones (bit_or u v)) (a.at k l) (b.at k l) ∙ ap ones (sym (word-or x y k)))
      ∙ ones-words (bit_or x y) n h

pub plane-count : (w : List ℕ) (p q n t : ℕ) (x y : Shape) → Holds w p n (plane t x) → Holds w q n (plane t y) → length x ≤ 32 * n → length y ≤ 32 * n
    → sum (or_ones w p q) n ≡ wide t (join x y)
plane-count w p q n t x y a b l m =
    let h = plane-room t (join x y) (32 * n) (join-room (32 * n) x y l m) in
    or_count w p q n (plane t x) (plane t y) a b (rw (plane-join t x y) h)
    ∙ ap ones (plane-join t x y) ∙ plane-ones t (join x y)

join-costs : (x y : Shape) → ((k : ℕ) → IsCost (get_or x k 0)) → ((k : ℕ) → IsCost (get_or y k 0)) → (k : ℕ) → IsCost (get_or (join x y) k 0)
join-costs x y p q k = rw (join-at x y k) (cost-max (get_or x k 0) (get_or y k 0) (p k) (q k))

pub measured : (w : List ℕ) (a b n one two four : ℕ) → one ≡ sum (or_ones w a b) n → two ≡ sum (or_ones w (a + n) (b + n)) n → four ≡ sum (or_ones w (a + n + n) (b + n + n)) n
    → MeasuresJoin w a b n (one + two + 2 * four) one
measured w a b n one two four p q r = record {
  row-bits = omega (arith, p, q, r);
  columns-bits = p;
  is = λ x y c d.
      let e = p ∙ plane-count w a b n 1 x y c.one d.one c.room d.room in
      let f = q ∙ plane-count w (a + n) (b + n) n 2 x y c.two d.two c.room d.room in
      let g = r ∙ plane-count w (a + n + n) (b + n + n) n 4 x y c.four d.four c.room d.room in
      record {
        row_is = omega (arith, e, f, g, wide_row (join x y) (join-costs x y c.costs d.costs));
        columns-is = e ∙ wide-columns (join x y);
      };
}

-- counted to the last word, and that one with it
pub counted-done : (w : List ℕ) (a b n one two four i x y z : ℕ) → CountedTo w a b n one two four i
    → LastOnes w a b i n x → LastOnes w (a + n) (b + n) i n y → LastOnes w (a + n + n) (b + n + n) i n z
    → MeasuresJoin w a b n (one + x + (two + y) + 2 * (four + z)) (one + x)
counted-done w a b n one two four i x y z c o p q =
    measured w a b n (one + x) (two + y) (four + z)
    (count-last w a b n one i x c.ones o)
    (count-last w (a + n) (b + n) n two i y c.twos p)
    (count-last w (a + n + n) (b + n + n) n four i z c.fours q)

-- ---- a number ored into the n words from p on

pub record Ored (old new : List ℕ) (p n y : ℕ) : Type 0 where
  pub at : (k : ℕ) → k < n → get_or new (p + k) 0 ≡ bit_or (get_or old (p + k) 0) (word y k)

or-holds : (old new : List ℕ) (p n x y : ℕ) → Ored old new p n y → Holds old p n x → Holds new p n (bit_or x y)
or-holds old new p n x y o h = record { at = λ k l. o.at k l ∙ ap (λ (z : ℕ). bit_or z (word y k)) (h.at k l) ∙ sym (word-or x y k) }

plane-holds : (old new : List ℕ) (p n t : ℕ) (x y : Shape) → Ored old new p n (plane t y) → Holds old p n (plane t x) → Holds new p n (plane t (join x y))
plane-holds old new p n t x y o h = rw (plane-join t x y) at (or-holds old new p n (plane t x) (plane t y) o h)

pub planes-or : (old new : List ℕ) (a n : ℕ) (x y : Shape) → length y ≤ 32 * n → ((k : ℕ) → IsCost (get_or y k 0))
    → Ored old new a n (plane 1 y) → Ored old new (a + n) n (plane 2 y) → Ored old new (a + n + n) n (plane 4 y)
    → PlanesAt old a n x → PlanesAt new a n (join x y)
planes-or old new a n x y l c o p q h = record {
  room = join-room (32 * n) x y h.room l;
  costs = join-costs x y h.costs c;
  one = plane-holds old new a n 1 x y o h.one;
  two = plane-holds old new (a + n) n 2 x y p h.two;
  four = plane-holds old new (a + n + n) n 4 x y q h.four;
}

-- ---- joining in place

pub record Oring (a b m : ℕ) (old new : List ℕ) (i : ℕ) : Type 0 where
  pub within : i ≤ m
  pub only : Only ((a, m) ∷ []) old new
  pub done : (k : ℕ) → k < i → get_or new (a + k) 0 ≡ bit_or (get_or old (a + k) 0) (get_or old (b + k) 0)
  pub left : (k : ℕ) → i ≤ k → k < m → get_or new (a + k) 0 ≡ get_or old (a + k) 0

module _ (a b m : ℕ) (old : List ℕ) (room-a : a + m ≤ length old) (room-b : b + m ≤ length old) (apart : Apart a m b m) where
  pub oring-start : Oring a b m old old 0
  oring-start = record { within = omega arith; only = only-refl ((a, m) ∷ []) old; done = λ k h. absurd (omega arith); left = λ k p h. refl }

  pub oring-more : (new : List ℕ) (i : ℕ) → Oring a b m old new i → i < m
      → Oring a b m old (set new (a + i) (bit_or (get_or new (a + i) 0) (get_or new (b + i) 0))) (i + 1)
  oring-more new i j h =
      let v = bit_or (get_or new (a + i) 0) (get_or new (b + i) 0) in
      let e : v ≡ bit_or (get_or old (a + i) 0) (get_or old (b + i) 0) =
      ap₂ bit_or (j.left i (omega arith) h) (j.only.kept (b + i) (outside-at apart (omega arith) (omega arith), tt)) in
      record {
        within = omega arith;
        only = only-trans j.only (only_set ((a, m) ∷ []) new (a + i) v (λ o. omega (arith, o.0.apart (omega arith))));
        done = below_more _ _
            (λ k l. get_or-set_other new (a + i) (a + k) v 0 (omega arith) ∙ j.done k l)
            (get_or-set_same new (a + i) v 0 (omega (arith, j.only.long)) ∙ e);
        left = λ k p l. get_or-set_other new (a + i) (a + k) v 0 (omega arith) ∙ j.left k (omega arith) l;
      }

-- the plane that lies `off` behind a and b
part-ored : (a b m : ℕ) (old new : List ℕ) (off n y : ℕ) → off + n ≤ m
    → ((k : ℕ) → k < m → get_or new (a + k) 0 ≡ bit_or (get_or old (a + k) 0) (get_or old (b + k) 0)) → Holds old (b + off) n y → Ored old new (a + off) n y
part-ored a b m old new off n y l d h = record {
  at = λ k p.
      ap (λ (i : ℕ). get_or new i 0) {x = a + off + k} {y = a + (off + k)} (omega arith) ∙ d (off + k) (omega arith)
      ∙ ap₂ bit_or (ap (λ (i : ℕ). get_or old i 0) {x = a + (off + k)} {y = a + off + k} (omega arith))
      (ap (λ (i : ℕ). get_or old i 0) {x = b + (off + k)} {y = b + off + k} (omega arith) ∙ h.at k p);
}

pub oring-done : (a b n i : ℕ) (old new : List ℕ) → Oring a b (3 * n) old new i → 3 * n ≤ i → JoinsPlanes a b n old new
oring-done a b n i old new j h = record {
  only = j.only;
  words = λ k l. j.done k (omega arith);
  is = λ x y c d.
      let all : (k : ℕ) → k < 3 * n → get_or new (a + k) 0 ≡ bit_or (get_or old (a + k) 0) (get_or old (b + k) 0) = λ k l. j.done k (omega arith) in
      let zero_a : a + 0 ≡ a = omega arith in
      let zero-b : b + 0 ≡ b = omega arith in
      let assoc-a : a + (n + n) ≡ a + n + n = omega arith in
      let assoc-b : b + (n + n) ≡ b + n + n = omega arith in
      planes-or old new a n x y d.room d.costs
      (rw zero_a at (part-ored a b (3 * n) old new 0 n (plane 1 y) (omega arith) all (rw zero-b d.one)))
      (part-ored a b (3 * n) old new n n (plane 2 y) (omega arith) all d.two)
      (rw assoc-a at (part-ored a b (3 * n) old new (n + n) n (plane 4 y) (omega arith) all (rw assoc-b d.four)))
      c;
}
