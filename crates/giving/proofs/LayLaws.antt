-- Entries laid out by listed region, and looked at again: the two loops over them. Assumes nothing.
use mathlib.Core.Path.{◌≡◌, refl, sym, ap, ◌∙◌}
use mathlib.Core.List.{List, [], ◌∷◌}
use mathlib.Core.Logic.{◌⊎◌, inl, inr, ⊎_elim}
use Prim.Native.Nat.{ℕ, zero, suc, ◌+◌, ◌-◌, ◌*◌, ◌≤◌, ◌<◌}
use native.Mathlib.Omega.{arith}
use lib.ListN.{length, get_or, set}
use lib.Seq.{get_or-set_same, get_or-set_other}
use borrow.Author.Tests.{eq-eqb, ne_eqb}
use Rattle.laws.specs.LentRange.{Only}
use Rattle.laws.specs.Signed.{zero_word}
use Rattle.laws.proofs.Cases.{same_or_not}
use Rattle.laws.proofs.RangeLaws.{only-refl, only-trans, only_set}
use Rattle.sets.specs.Set.{Set}
use Rattle.sets.specs.Lent.{entries}
use Rattle.sets.proofs.SetLaws.{entries-cons, entries_none}
use Rattle.giving.specs.declared.entries.Aims.{Aims}
use Rattle.giving.specs.Lent.{aim_at, aim, Clean, EntriesFit}

-- as two reads find it
pub aim-of : (w : List ℕ) (t : Aims) (x k q : ℕ) → k ≡ get_or w x 0 → q ≡ get_or w (t.to + k) 0 → q ≡ aim_at w t x
aim-of w t x k q e f = f ∙ ap (λ (i : ℕ). get_or w (t.to + i) 0) e

-- ---- what entries give a listed region

module _ (w : List ℕ) (t : Aims) (x n q : ℕ) (h : 0 < n) where
  abbrev rest : Set
  rest = entries (x + 2) (n - 1) w

  pub aim-here : aim_at w t x ≡ q → aim w t (entries x n w) q ≡ get_or w (x + 1) 0
  unfolding aim
  aim-here e = rw (entries-cons x n w h, eq-eqb (aim_at w t x) q e)

  pub aim-else : (aim_at w t x ≡ q → ⊥) → aim w t (entries x n w) q ≡ aim w t rest q
  unfolding aim
  aim-else e = rw (entries-cons x n w h, ne_eqb (aim_at w t x) q e)

pub aim-none : (w : List ℕ) (t : Aims) (x q : ℕ) → aim w t (entries x 0 w) q ≡ zero_word
unfolding aim
aim-none w t x q = rw (entries_none x w)

-- an entry that aims at q
pub record Aiming (w : List ℕ) (t : Aims) (x n q : ℕ) : Type 0 where
  pub entry : ℕ
  pub within : entry < n
  pub aims : aim_at w t (x + 2 * entry) ≡ q

-- where there is none the word is zero's
pub aim-cases : (w : List ℕ) (t : Aims) (n x q : ℕ) → (aim w t (entries x n w) q ≡ zero_word) ⊎ Aiming w t x n q
aim-cases w t zero x q = inl (aim-none w t x q)
aim-cases w t (suc n) x q = go (same_or_not (aim_at w t x) q) (aim-cases w t n (x + 2) q)
  where
    move : (i : ℕ) → x + 2 + 2 * i ≡ x + 2 * suc i
    move i = omega arith

    less : suc n - 1 ≡ n
    less = omega arith

    go : (aim_at w t x ≡ q) ⊎ (aim_at w t x ≡ q → ⊥) → (aim w t (entries (x + 2) n w) q ≡ zero_word) ⊎ Aiming w t (x + 2) n q
        → (aim w t (entries x (suc n) w) q ≡ zero_word) ⊎ Aiming w t x (suc n) q
    go (inl e) r = inr (record { entry = 0; within = omega arith; aims = (let z : x + 2 * 0 ≡ x = omega arith in rw z e) })
    go (inr d) (inl r) = inl (aim-else w t x (suc n) q (omega arith) d ∙ (rw less r))
    go (inr d) (inr r) = inr (record { entry = suc r.entry; within = omega (arith, r.within); aims = (rw (← move r.entry) r.aims) })

-- ---- laying them out, the last one first

pub record Laying (start count : ℕ) (t : Aims) (old new : List ℕ) (i : ℕ) : Type 0 where
  pub within : i ≤ count
  pub only : Only ((t.values, t.listed) ∷ []) old new
  pub is : (q : ℕ) → q < t.listed → get_or new (t.values + q) 0 ≡ aim old t (entries (start + 2 * i) (count - i) old) q
  pub past : (j : ℕ) → i ≤ j → j < count → aim_at old t (start + 2 * j) < t.listed

-- words before the values are as they were
pub kept-below : {a n : ℕ} {old new : List ℕ} → Only ((a, n) ∷ []) old new → (k : ℕ) → k < a → get_or new k 0 ≡ get_or old k 0
kept-below o k h = o.kept k (record { apart = λ q. absurd (omega arith) }, tt)

module _ (start count : ℕ) (t : Aims) (old : List ℕ) (f : EntriesFit old start count t) where
  pub laying-start : Clean old t → Laying start count t old old count
  laying-start c = record {
    within = omega arith;
    only = only-refl ((t.values, t.listed) ∷ []) old;
    is = λ q h.
        let z : count - count ≡ 0 = omega arith in
        c.zero q h ∙ sym (ap (λ (n : ℕ). aim old t (entries (start + 2 * count) n old) q) z ∙ aim-none old t (start + 2 * count) q);
    past = λ j l h. absurd (omega arith);
  }

  -- the entry before those that are laid out
  module _ (new : List ℕ) (i : ℕ) (g : Laying start count t old new i) (h : 0 < i) (x : ℕ) (x-is : x ≡ start + 2 * (i - 1)) where
    pub entry-below : t.to + get_or new x 0 < t.values
    entry-below =
        rw x-is (rw (kept-below g.only (start + 2 * (i - 1)) (omega (arith, f.body, f.to_values, g.within)))
        (f.below (i - 1) (omega (arith, g.within))))

    pub entry-room : x + 1 < length new
    entry-room = omega (arith, x-is, f.body, f.to_values, f.room, g.within, g.only.long)

    same-x : get_or new x 0 ≡ get_or old x 0
    same-x = kept-below g.only x (omega (arith, x-is, f.body, f.to_values, g.within))

    same_next : get_or new (x + 1) 0 ≡ get_or old (x + 1) 0
    same_next = kept-below g.only (x + 1) (omega (arith, x-is, f.body, f.to_values, g.within))

    same-aim : aim_at new t x ≡ aim_at old t x
    same-aim = kept-below g.only (t.to + get_or new x 0) entry-below ∙ ap (λ (k : ℕ). get_or old (t.to + k) 0) same-x

    module _ (q : ℕ) (q-is : q ≡ aim_at new t x) where
      q-old : q ≡ aim_at old t (start + 2 * (i - 1))
      q-old = q-is ∙ same-aim ∙ ap (aim_at old t) x-is

      module _ (l : q < t.listed) where
        pub value_room : t.values + q < length new
        value_room = omega (arith, f.room, g.only.long)

        abbrev after : List ℕ
        after = set new (t.values + q) (get_or new (x + 1) 0)

        step : aim_at old t x ≡ q
        step = sym (q-is ∙ same-aim)

        rest-is : (p : ℕ) → aim old t (entries (x + 2) (count - (i - 1) - 1) old) p ≡ aim old t (entries (start + 2 * i) (count - i) old) p
        rest-is p =
            let a : x + 2 ≡ start + 2 * i = omega (arith, x-is) in
            let b : count - (i - 1) - 1 ≡ count - i = omega (arith, g.within) in
            rw (a, b) refl

        laid-here : (p : ℕ) → p < t.listed → get_or after (t.values + p) 0 ≡ aim old t (entries x (count - (i - 1)) old) p
        laid-here p m = ⊎_elim
            (λ (e : q ≡ p).
            ap (λ (k : ℕ). get_or after (t.values + k) 0) (sym e)
            ∙ get_or-set_same new (t.values + q) (get_or new (x + 1) 0) 0 value_room
            ∙ same_next
            ∙ sym (aim-here old t x (count - (i - 1)) p (omega (arith, g.within)) (step ∙ e)))
            (λ d.
            get_or-set_other new (t.values + q) (t.values + p) (get_or new (x + 1) 0) 0 (λ z. d (omega arith))
            ∙ g.is p m
            ∙ sym (aim-else old t x (count - (i - 1)) p (omega (arith, g.within)) (λ z. d (sym step ∙ z)) ∙ rest-is p))
            (same_or_not q p)

        pub laying-more : Laying start count t old (set new (t.values + q) (get_or new (x + 1) 0)) (i - 1)
        laying-more = record {
          within = omega (arith, g.within);
          only = only-trans g.only (only_set ((t.values, t.listed) ∷ []) new (t.values + q) (get_or new (x + 1) 0) (λ o. omega (arith, o.0.apart (omega arith))));
          is = λ p m. rw (← x-is) (laid-here p m);
          past = λ j a b. ⊎_elim
              (λ (e : j ≡ i - 1). rw e (rw (← q-old) l))
              (λ d. g.past j (omega arith) b)
              (same_or_not j (i - 1));
        }

-- the entries are where they were, and aim as they did
module _ (start count : ℕ) (t : Aims) (old new : List ℕ) (f : EntriesFit old start count t) (o : Only ((t.values, t.listed) ∷ []) old new) where
  entry_kept : (i : ℕ) → i < count → get_or new (start + 2 * i) 0 ≡ get_or old (start + 2 * i) 0
  entry_kept i h = kept-below o (start + 2 * i) (omega (arith, f.body, f.to_values))

  pub aim_kept : (i : ℕ) → i < count → aim_at new t (start + 2 * i) ≡ aim_at old t (start + 2 * i)
  aim_kept i h =
      ap (λ (k : ℕ). get_or new (t.to + k) 0) (entry_kept i h)
      ∙ kept-below o (t.to + get_or old (start + 2 * i) 0) (f.below i h)

  pub fits_kept : EntriesFit new start count t
  fits_kept = record {
    body = f.body;
    to_values = f.to_values;
    below = λ i h. rw (entry_kept i h) (f.below i h);
    room = rw o.long f.room;
  }

-- ---- looking at them again

pub record Meeting (w : List ℕ) (start count : ℕ) (t : Aims) (i : ℕ) : Type 0 where
  pub within : i ≤ count
  pub met : (j : ℕ) → j < i → get_or w (t.values + aim_at w t (start + 2 * j)) 0 ≡ zero_word
