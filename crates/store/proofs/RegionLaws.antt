-- Laws of the regions that a store keeps. Assumes nothing.
use mathlib.Core.Path.{◌≡◌, refl, sym, ap, ◌∙◌}
use mathlib.Core.Bool.{Bool, true, false, not, ◌||◌, or-true, or-false}
use mathlib.Core.List.{List, [], ◌∷◌, ◌++◌}
use mathlib.Core.Logic.{⊎_elim}
use Prim.Native.Nat.{ℕ, ◌+◌, ◌*◌, ◌≤◌, ◌<◌}
use native.Mathlib.Omega.{arith}
use lib.Dec.{eqb}
use lib.ListN.{length, get_or, set, take, length-set, get_or-eq_default}
use lib.Seq.{get_or-set_same, get_or-set_other, get_or-take, length-take-le}
use borrow.Author.Count.{below_more}
use borrow.Author.Tests.{eq-eqb, ne_eqb}
use Rattle.laws.specs.Bounded.{tabulate, up_to}
use Rattle.laws.specs.LentRange.{Only, seg}
use Rattle.laws.specs.Sorting.{keep}
use Rattle.laws.proofs.BoundedLaws.{tabulate-snoc}
use Rattle.laws.proofs.Cases.{same_or_not, lt-or-ge}
use Rattle.laws.proofs.RangeLaws.{get_or-seg, length-seg, only-refl, only_set, only-trans}
use Rattle.laws.proofs.RankLaws.{rank-in, rank-out, rank_most}
use Rattle.store.specs.Placing.{Final, names}
use Rattle.store.specs.Lent.{final_at, finals_at, marked_in, Handed, Named, NamedIn, Marks, Numbered}
use Rattle.rows.proofs.InWork.{seg-set, seg-take, take-only}

-- ---- marks of one shape

pub record Naming (s old new : List ℕ) (i : ℕ) : Type 0 where
  pub within : i ≤ length s
  pub long : length new ≡ length old
  pub some : (r : ℕ) → r < i → (get_or s r 0 ≡ 0 → ⊥) → get_or new r 0 ≡ 1
  pub none : (r : ℕ) → get_or s r 0 ≡ 0 → get_or new r 0 ≡ get_or old r 0

module _ (s old : List ℕ) (room : length s ≤ length old) where
  pub naming-start : Naming s old old 0
  naming-start = record { within = omega arith; long = refl; some = λ r h. absurd (omega arith); none = λ r e. refl }

  module _ (new : List ℕ) (i : ℕ) (m : Naming s old new i) (h : i < length s) where
    pub naming-some : (get_or s i 0 ≡ 0 → ⊥) → Naming s old (set new i 1) (i + 1)
    naming-some n = record {
      within = omega arith;
      long = length-set new i 1 ∙ m.long;
      some = below_more _ _
          (λ r l d. get_or-set_other new i r 1 0 (omega arith) ∙ m.some r l d)
          (λ d. get_or-set_same new i 1 0 (omega (arith, m.long)));
      none = λ r e. get_or-set_other new i r 1 0 (λ q. n (rw q at e)) ∙ m.none r e;
    }

    pub naming-none : get_or s i 0 ≡ 0 → Naming s old new (i + 1)
    naming-none e = record {
      within = omega arith;
      long = m.long;
      some = below_more _ _ m.some (λ d. absurd (d e));
      none = m.none;
    }

  pub naming-done : (new : List ℕ) (i : ℕ) → Naming s old new i → length s ≤ i → Named s old new
  naming-done new i m h = record { long = m.long; some = λ r l d. m.some r (omega arith) d; none = m.none }

-- in one slice of words
pub record NamingIn (shape regions marks : ℕ) (old new : List ℕ) (i : ℕ) : Type 0 where
  pub only : Only ((marks, regions) ∷ []) old new
  pub so_far : Naming (seg shape regions old) (seg marks regions old) (seg marks regions new) i

module _ (shape regions marks : ℕ) (old : List ℕ) (to : shape + regions ≤ marks) (room : marks + regions ≤ length old) where
  shape-long : length (seg shape regions old) ≡ regions
  shape-long = length-seg shape regions old (omega arith)

  enough : length (seg shape regions old) ≤ length (seg marks regions old)
  enough = omega (arith, shape-long, length-seg marks regions old room)

  pub named_start : NamingIn shape regions marks old old 0
  named_start = record { only = only-refl ((marks, regions) ∷ []) old; so_far = naming-start (seg shape regions old) (seg marks regions old) enough }

  module _ (new : List ℕ) (i : ℕ) (m : NamingIn shape regions marks old new i) (h : i < regions) where
    inside : i < length (seg shape regions old)
    inside = omega (arith, shape-long)

    read : get_or (seg shape regions old) i 0 ≡ get_or new (shape + i) 0
    read = get_or-seg shape regions old i h ∙ sym (m.only.kept (shape + i) (record { apart = λ q. omega arith }, tt))

    pub named_some : (get_or new (shape + i) 0 ≡ 0 → ⊥) → NamingIn shape regions marks old (set new (marks + i) 1) (i + 1)
    named_some n = record {
      only = only-trans m.only (only_set ((marks, regions) ∷ []) new (marks + i) 1 (λ o. omega (arith, o.0.apart (omega arith))));
      so_far =
          rw (seg-set marks regions new i 1 (omega (arith, m.only.long)) h)
          (naming-some (seg shape regions old) (seg marks regions old) enough (seg marks regions new) i m.so_far inside (λ e. n (sym read ∙ e)));
    }

    pub named_none : get_or new (shape + i) 0 ≡ 0 → NamingIn shape regions marks old new (i + 1)
    named_none e = record {
      only = m.only;
      so_far = naming-none (seg shape regions old) (seg marks regions old) enough (seg marks regions new) i m.so_far inside (read ∙ e);
    }

  pub named-done : (new : List ℕ) (i : ℕ) → NamingIn shape regions marks old new i → regions ≤ i → NamedIn shape regions marks old new
  named-done new i m h = record {
    only = m.only;
    named = naming-done (seg shape regions old) (seg marks regions old) enough (seg marks regions new) i m.so_far (omega (arith, shape-long));
  }

-- ---- marks of all groups

or-shift : (a b c : Bool) → a || (b || c) ≡ (a || b) || c
or-shift true b c = refl
or-shift false b c = refl

names-snoc : (r : ℕ) (l : List Final) (g : Final) → names r (l ++ (g ∷ [])) ≡ names r l || not (eqb (get_or g.shape r 0) 0)
unfolding names
names-snoc r [] g = or-false (not (eqb (get_or g.shape r 0) 0))
names-snoc r (x ∷ l) g = rw (names-snoc r l g) (or-shift (not (eqb (get_or x.shape r 0) 0)) (names r l) (not (eqb (get_or g.shape r 0) 0)))

pub marks-none : (regions groups : ℕ) (w marks : List ℕ) → ((r : ℕ) → get_or marks r 0 ≡ 0) → Marks (finals_at regions groups 0 w) marks
unfolding finals_at tabulate names
marks-none regions groups w marks z = record { is = λ r. rw (z r) }

module _ (old new : List ℕ) (l : List Final) (g : Final) (m : Marks l old) (n : Named g.shape old new) where
  marks-snoc : Marks (l ++ (g ∷ [])) new
  marks-snoc = record {
    is = λ r. ⊎_elim
        (λ (e : get_or g.shape r 0 ≡ 0).
        rw (names-snoc r l g, n.none r e, eq-eqb (get_or g.shape r 0) 0 e, or-false (names r l)) (m.is r))
        (λ d.
        let b : r < length g.shape = ⊎_elim (λ h. h) (λ h. absurd (d (get_or-eq_default g.shape 0 h))) (lt-or-ge r (length g.shape)) in
        rw (names-snoc r l g, n.some r b d, ne_eqb (get_or g.shape r 0) 0 d, or-true (names r l)))
        (same_or_not (get_or g.shape r 0) 0);
  }

pub marks-more : (regions groups g : ℕ) (w old new : List ℕ) → Marks (finals_at regions groups g w) old → Named (final_at regions w (groups + 3 * g)).shape old new
    → Marks (finals_at regions groups (g + 1) w) new
unfolding finals_at
marks-more regions groups g w old new m n =
    let f : ℕ → Final = (λ i. final_at regions w (groups + 3 * i)) in
    let e : 0 + g ≡ g = omega arith in
    let step : tabulate 0 (g + 1) f ≡ tabulate 0 g f ++ (f g ∷ []) = tabulate-snoc 0 g f ∙ ap (λ (k : ℕ). tabulate 0 g f ++ (f k ∷ [])) e in
    rw step (marks-snoc old new (tabulate 0 g f) (f g) m n)

-- in one slice of words: the groups stand before the marks
pub record MarkingIn (regions groups marks : ℕ) (old new : List ℕ) (g : ℕ) : Type 0 where
  pub only : Only ((marks, regions) ∷ []) old new
  pub so_far : Marks (finals_at regions groups g (take marks old)) (seg marks regions new)

module _ {regions groups marks g : ℕ} {old now : List ℕ} (room : marks ≤ length old) (m : MarkingIn regions groups marks old now g) (h : groups + 3 * g < marks) where
  abbrev spot : ℕ
  spot = get_or now (groups + 3 * g) 0

  before_same : take marks now ≡ take marks old
  before_same = take-only m.only marks room (λ k l. (record { apart = λ q. omega arith }, tt))

  spot_is : get_or (take marks old) (groups + 3 * g) 0 ≡ spot
  spot_is = sym (ap (λ (l : List ℕ). get_or l (groups + 3 * g) 0) before_same) ∙ get_or-take marks now (groups + 3 * g) 0 h

  module _ (index : ℕ) (d : Handed regions index (take marks old) (groups + 3 * g)) where
    pub spot-to : spot + regions ≤ marks
    spot-to = omega (arith, d.shape, spot_is, length-take-le marks old room)

    shape_is : (final_at regions (take marks old) (groups + 3 * g)).shape ≡ seg spot regions now
    unfolding final_at
    shape_is = rw spot_is (ap (seg spot regions) (sym before_same) ∙ seg-take spot regions marks now spot-to (omega (arith, m.only.long)))

    pub marking-more : (new : List ℕ) → NamedIn spot regions marks now new → MarkingIn regions groups marks old new (g + 1)
    marking-more new n = record {
      only = only-trans m.only n.only;
      so_far = marks-more regions groups g (take marks old) (seg marks regions now) (seg marks regions new) m.so_far (rw shape_is n.named);
    }

-- ---- new numbers

pub kept-most : (p : ℕ → Bool) (r : ℕ) → length (keep p (up_to r)) ≤ r
kept-most = rank_most

-- the first r regions are numbered
pub record Numbering (marks : List ℕ) (regions : ℕ) (old numbers : List ℕ) (n r : ℕ) : Type 0 where
  pub within : r ≤ regions
  pub long : length numbers ≡ length old
  pub at : (k : ℕ) → k < r → get_or numbers k 0 ≡ length (keep (marked_in marks) (up_to k))
  pub all : n ≡ length (keep (marked_in marks) (up_to r))

module _ (marks : List ℕ) (regions : ℕ) (old : List ℕ) (room : regions ≤ length old) where
  pub number-start : Numbering marks regions old old 0 0
  unfolding tabulate keep
  number-start = record { within = omega arith; long = refl; at = λ k h. absurd (omega arith); all = refl }

  pub number-most : (numbers : List ℕ) (n r : ℕ) → Numbering marks regions old numbers n r → n ≤ r
  number-most numbers n r m = omega (arith, m.all, rank_most (marked_in marks) r)

  module _ (numbers : List ℕ) (n r : ℕ) (m : Numbering marks regions old numbers n r) (h : r < regions) where
    more : (v : ℕ) → v ≡ length (keep (marked_in marks) (up_to (r + 1))) → Numbering marks regions old (set numbers r n) v (r + 1)
    more v e = record {
      within = omega arith;
      long = length-set numbers r n ∙ m.long;
      at = below_more _ _
          (λ k l. get_or-set_other numbers r k n 0 (omega arith) ∙ m.at k l)
          (get_or-set_same numbers r n 0 (omega (arith, m.long)) ∙ m.all);
      all = e;
    }

    pub number_in : (get_or marks r 0 ≡ 0 → ⊥) → Numbering marks regions old (set numbers r n) (n + 1) (r + 1)
    number_in d =
        let b : marked_in marks r ≡ true = rw (ne_eqb (get_or marks r 0) 0 d) in
        more (n + 1) (omega (arith, m.all, rank-in (marked_in marks) r b))

    pub number-out : get_or marks r 0 ≡ 0 → Numbering marks regions old (set numbers r n) n (r + 1)
    number-out e =
        let b : marked_in marks r ≡ false = rw (eq-eqb (get_or marks r 0) 0 e) in
        more n (omega (arith, m.all, rank-out (marked_in marks) r b))

  pub number-done : (numbers : List ℕ) (n r : ℕ) → Numbering marks regions old numbers n r → regions ≤ r → Numbered marks regions numbers n
  number-done numbers n r m h =
      let e : r ≡ regions = omega (arith, m.within) in
      record { at = λ k l. m.at k (omega arith); all = rw e at m.all }

-- in one slice of words
pub record NumberingIn (marks numbers regions : ℕ) (old new : List ℕ) (n r : ℕ) : Type 0 where
  pub only : Only ((numbers, regions) ∷ []) old new
  pub so_far : Numbering (seg marks regions old) regions (seg numbers regions old) (seg numbers regions new) n r

module _ (marks numbers regions : ℕ) (old : List ℕ) (to : marks + regions ≤ numbers) (room : numbers + regions ≤ length old) where
  numbers-long : regions ≤ length (seg numbers regions old)
  numbers-long = omega (arith, length-seg numbers regions old room)

  pub numbered-start : NumberingIn marks numbers regions old old 0 0
  numbered-start = record { only = only-refl ((numbers, regions) ∷ []) old; so_far = number-start (seg marks regions old) regions (seg numbers regions old) numbers-long }

  module _ (new : List ℕ) (n r : ℕ) (m : NumberingIn marks numbers regions old new n r) where
    pub numbered-most : n ≤ r
    numbered-most = number-most (seg marks regions old) regions (seg numbers regions old) numbers-long (seg numbers regions new) n r m.so_far

    module _ (h : r < regions) where
      -- the mark is read once the number is written
      mark-is : get_or (seg marks regions old) r 0 ≡ get_or (set new (numbers + r) n) (marks + r) 0
      mark-is =
          get_or-seg marks regions old r h
          ∙ sym (m.only.kept (marks + r) (record { apart = λ q. omega arith }, tt))
          ∙ sym (get_or-set_other new (numbers + r) (marks + r) n 0 (omega arith))

      next-only : Only ((numbers, regions) ∷ []) old (set new (numbers + r) n)
      next-only = only-trans m.only (only_set ((numbers, regions) ∷ []) new (numbers + r) n (λ o. omega (arith, o.0.apart (omega arith))))

      pub numbered-in : (get_or (set new (numbers + r) n) (marks + r) 0 ≡ 0 → ⊥) → NumberingIn marks numbers regions old (set new (numbers + r) n) (n + 1) (r + 1)
      numbered-in d = record {
        only = next-only;
        so_far =
            rw (seg-set numbers regions new r n (omega (arith, m.only.long)) h)
            (number_in (seg marks regions old) regions (seg numbers regions old) numbers-long (seg numbers regions new) n r m.so_far h (λ e. d (sym mark-is ∙ e)));
      }

      pub numbered-out : get_or (set new (numbers + r) n) (marks + r) 0 ≡ 0 → NumberingIn marks numbers regions old (set new (numbers + r) n) n (r + 1)
      numbered-out e = record {
        only = next-only;
        so_far =
            rw (seg-set numbers regions new r n (omega (arith, m.only.long)) h)
            (number-out (seg marks regions old) regions (seg numbers regions old) numbers-long (seg numbers regions new) n r m.so_far h (mark-is ∙ e));
      }
