-- Sets one after the other, each with the row that its word names. Assumes nothing.
use mathlib.Core.Path.{◌≡◌, refl, sym, ap, ◌∙◌}
use mathlib.Core.Bool.{Bool, true, false}
use mathlib.Core.List.{List, [], ◌∷◌}
use mathlib.Core.Logic.{◌⊎◌, ⊎_elim}
use mathlib.Core.Option.{Option, none, some}
use Prim.Native.Nat.{ℕ, zero, suc, ◌+◌, ◌-◌, ◌*◌, ◌≤◌, ◌<◌}
use native.Mathlib.Omega.{arith}
use lib.ListN.{length, get_or}
use borrow.Author.Count.{below_more}
use Rattle.laws.specs.LentRange.{Only}
use Rattle.laws.specs.Signed.{value}
use Rattle.laws.proofs.Cases.{true-false, same_or_not}
use Rattle.laws.proofs.RangeLaws.{only-refl, only-trans}
use Rattle.sets.specs.Lent.{entries}
use Rattle.reader.specs.Store.{region_count, item_count, is_subtable_ok}
use Rattle.reader.proofs.StoreLaws.{HeaderFits, header-fits, subtable-fits}
use Rattle.stores.specs.Stores.{Parsed, table_count, offset_at, parse, parses}
use Rattle.stores.proofs.WholeLaws.{Slot, Whole, parse-is}
use Rattle.stores.proofs.WholeLaws.Slot.{null, good}
use Rattle.giving.specs.declared.entries.Aims.{Aims}
use Rattle.giving.specs.Lent.{aim_at, aim, Clean, Given, RowFit, outer_of, inner_of, start_in, count_in, SetGiven, SetsFit, SetJudged, FirstFailing}
use Rattle.giving.proofs.LayLaws.{aim-here, aim-else, aim-none, kept-below, aim_kept, fits_kept}
use Rattle.giving.proofs.PassLaws.{ahead-kept}

-- ---- a store that parses

pub whole_of : (s : List ℕ) → parses (parse s) ≡ true → Whole s
unfolding parses
whole_of s h = go (parse s) refl h
  where
    go : (o : Option Parsed) → parse s ≡ o → parses o ≡ true → Whole s
    go none e k = absurd (true-false k refl)
    go (some p) e k = (parse-is s p e).0

module _ (s : List ℕ) (h : parses (parse s) ≡ true) where
  pub head_of : HeaderFits s
  head_of = header-fits s (whole_of s h).header

  pub table_of : (o : ℕ) → o < table_count s → (offset_at s o ≡ 0 → ⊥) → is_subtable_ok s (offset_at s o) (region_count s) ≡ true
  table_of o l d = go ((whole_of s h).slots o l)
    where
      go : Slot s (offset_at s o) → is_subtable_ok s (offset_at s o) (region_count s) ≡ true
      go (null e) = absurd (d e)
      go (good k g) = g

-- ---- one set

module _ (s words : List ℕ) (k : ℕ) (t : Aims) (old : List ℕ) where
  lacks : (SetGiven s words old t k → ⊥) → SetJudged s words k t old old false
  lacks d = record {
    only = only-refl ((t.values, t.listed) ∷ []) old;
    given = λ z. absurd (true-false z refl);
    clean = λ z. absurd (true-false z refl);
    not-given = λ z. d;
  }

  module _ (w : ℕ) (w-is : w ≡ get_or words k 0) where
    module _ (at : ℕ) (at-is : at ≡ offset_at s (outer_of w)) where
      module _ (f : SetsFit s k old t) (word_in : k < length words) (n : ℕ) (n-is : n ≡ table_count s) (outer-in : outer_of w < n) (not_null : at ≡ 0 → ⊥) where
        pub table-good : is_subtable_ok s at t.listed ≡ true
        table-good =
            rw (f.listed-are, at-is)
            (table_of s f.parsed (outer_of w) (omega (arith, n-is)) (λ z. not_null (at-is ∙ z)))

        pub table-head : at + 6 ≤ length s
        table-head = (subtable-fits s at t.listed table-good).head

        module _ (i : ℕ) (i-is : i ≡ item_count s at) (inner-in : inner_of w < i) (low : at < 4294967296)
            (start count : ℕ) (start_is : start ≡ start_in old k) (count-is : count ≡ count_in old k) where
          pub row-fit : RowFit s at (inner_of w) old start count t
          row-fit = record {
            fits = rw (start_is, count-is) f.fits;
            clean = f.clean;
            behind = f.behind;
            ahead = f.ahead;
            good = table-good;
            inner-in = omega (arith, i-is);
            inner-low = omega arith;
            at_low = low;
          }

-- ---- in another list of words that differs by values only

pub aim_same : (t : Aims) (a b : List ℕ) (n x : ℕ)
    → ((i : ℕ) → i < n → aim_at b t (x + 2 * i) ≡ aim_at a t (x + 2 * i))
    → ((i : ℕ) → i < n → get_or b (x + 2 * i + 1) 0 ≡ get_or a (x + 2 * i + 1) 0)
    → (q : ℕ) → aim b t (entries x n b) q ≡ aim a t (entries x n a) q
aim_same t a b zero x e f q = aim-none b t x q ∙ sym (aim-none a t x q)
aim_same t a b (suc n) x e f q =
    let z : x + 2 * 0 ≡ x = omega arith in
    let e₀ : aim_at b t x ≡ aim_at a t x = rw z at (e 0 (omega arith)) in
    let f₀ : get_or b (x + 1) 0 ≡ get_or a (x + 1) 0 = rw z at (f 0 (omega arith)) in
    go e₀ f₀ (aim_same t a b n (x + 2) (λ i h. rw (move i) (e (suc i) (omega arith))) (λ i h. rw (move i) (f (suc i) (omega arith))) q)
    (same_or_not (aim_at a t x) q)
  where
    move : (i : ℕ) → x + 2 + 2 * i ≡ x + 2 * suc i
    move i = omega arith

    less : suc n - 1 ≡ n
    less = omega arith

    go : aim_at b t x ≡ aim_at a t x → get_or b (x + 1) 0 ≡ get_or a (x + 1) 0 → aim b t (entries (x + 2) n b) q ≡ aim a t (entries (x + 2) n a) q
        → (aim_at a t x ≡ q) ⊎ (aim_at a t x ≡ q → ⊥) → aim b t (entries x (suc n) b) q ≡ aim a t (entries x (suc n) a) q
    go e f r c = ⊎_elim
        (λ (h : aim_at a t x ≡ q). aim-here b t x (suc n) q (omega arith) (e ∙ h) ∙ f ∙ sym (aim-here a t x (suc n) q (omega arith) h))
        (λ (d : aim_at a t x ≡ q → ⊥).
        aim-else b t x (suc n) q (omega arith) (λ z. d (sym e ∙ z))
        ∙ ap (λ (m : ℕ). aim b t (entries (x + 2) m b) q) less
        ∙ r
        ∙ sym (aim-else a t x (suc n) q (omega arith) d ∙ ap (λ (m : ℕ). aim a t (entries (x + 2) m a) q) less))
        c

given-move : (s : List ℕ) (at inner : ℕ) (a b : List ℕ) (start count : ℕ) (t : Aims)
    → ((i : ℕ) → i < count → aim_at b t (start + 2 * i) ≡ aim_at a t (start + 2 * i))
    → ((i : ℕ) → i < count → get_or b (start + 2 * i + 1) 0 ≡ get_or a (start + 2 * i + 1) 0)
    → Given s at inner a start count t → Given s at inner b start count t
given-move s at inner a b start count t e f g = record {
  listed-all = λ i h. rw (e i h) (g.listed-all i h);
  reads = λ q h. g.reads q h ∙ sym (ap value (aim_same t a b count start e f q));
}

module _ (s words : List ℕ) (k : ℕ) (t : Aims) (old new : List ℕ) (f : SetsFit s k old t) (o : Only ((t.values, t.listed) ∷ []) old new) where
  start-same : start_in new k ≡ start_in old k
  start-same = kept-below o (2 * k) (omega (arith, f.row, f.fits.to_values))

  count_same : count_in new k ≡ count_in old k
  count_same = kept-below o (2 * k + 1) (omega (arith, f.row, f.fits.to_values))

  aims_same : (i : ℕ) → i < count_in old k → aim_at new t (start_in old k + 2 * i) ≡ aim_at old t (start_in old k + 2 * i)
  aims_same = aim_kept (start_in old k) (count_in old k) t old new f.fits o

  words_same : (i : ℕ) → i < count_in old k → get_or new (start_in old k + 2 * i + 1) 0 ≡ get_or old (start_in old k + 2 * i + 1) 0
  words_same i h = kept-below o (start_in old k + 2 * i + 1) (omega (arith, f.fits.body, f.fits.to_values))

  pub sets-fit : Clean new t → SetsFit s k new t
  sets-fit c = record {
    parsed = f.parsed;
    listed-are = f.listed-are;
    row = f.row;
    fits = rw (start-same, count_same) (fits_kept (start_in old k) (count_in old k) t old new f.fits o);
    clean = c;
    behind = f.behind;
    ahead = ahead-kept o f.behind f.ahead;
  }

  pub given_back : SetGiven s words new t k → SetGiven s words old t k
  given_back g = record {
    word-there = g.word-there;
    outer-there = g.outer-there;
    not_null = g.not_null;
    inner-there = g.inner-there;
    given = given-move s _ _ new old (start_in old k) (count_in old k) t (λ i h. sym (aims_same i h)) (λ i h. sym (words_same i h)) (rw (start-same, count_same) at g.given);
  }

  pub given-on : SetGiven s words old t k → SetGiven s words new t k
  given-on g = record {
    word-there = g.word-there;
    outer-there = g.outer-there;
    not_null = g.not_null;
    inner-there = g.inner-there;
    given = rw (start-same, count_same) (given-move s _ _ old new (start_in old k) (count_in old k) t aims_same words_same g.given);
  }

-- ---- sets from the first on

pub record Judging (s words : List ℕ) (sets : ℕ) (t : Aims) (old new : List ℕ) (k : ℕ) : Type 0 where
  pub within : k ≤ sets
  pub only : Only ((t.values, t.listed) ∷ []) old new
  pub clean : k < sets → Clean new t
  pub given : (j : ℕ) → j < k → SetGiven s words old t j

module _ (s words : List ℕ) (sets : ℕ) (t : Aims) (old : List ℕ) (f : (k : ℕ) → k < sets → SetsFit s k old t) where
  module _ (new : List ℕ) (k : ℕ) (g : Judging s words sets t old new k) (h : k < sets) where
    module _ (after : List ℕ) (ok : Bool) (r : SetJudged s words k t new after ok) where
      pub judging-more : ok ≡ true → Judging s words sets t old after (k + 1)
      judging-more z = record {
        within = omega arith;
        only = only-trans g.only r.only;
        clean = λ l. r.clean z;
        given = below_more _ _ g.given (given_back s words k t old new (f k h) g.only (r.given z));
      }

      pub judging-bad : ok ≡ false → FirstFailing s words sets t old after k
      judging-bad z = record {
        only = only-trans g.only r.only;
        within = omega arith;
        before-it = g.given;
        fails = λ l x. r.not-given z (given-on s words k t old new (f k h) g.only x);
      }
