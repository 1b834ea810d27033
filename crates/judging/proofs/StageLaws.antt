-- The sets of a job against the rows of a store, where the first like each region stands in work. Assumes nothing.
use mathlib.Core.Path.{◌≡◌, refl, sym, ap, ◌∙◌}
use mathlib.Core.Bool.{Bool, true, false, not}
use mathlib.Core.List.{List, []}
use Prim.Native.Nat.{ℕ, ◌+◌, ◌*◌, ◌≤◌, ◌<◌}
use native.Mathlib.Omega.{arith}
use lib.ListN.{length, get_or}
use borrow.Author.Tests.{eq-eqb, not-true, not-false}
use Rattle.sets.specs.Set.{Set}
use Rattle.sets.specs.Lent.{entries, entries_at, count_of, set_of, Held}
use Rattle.sets.proofs.HeldLaws.{Kept, kept-only, set_same, held_kept, sets-length, sets-at}
use Rattle.stores.specs.Stores.{Parsed, store_at, parse}
use Rattle.stores.specs.Coordinates.{Distinct}
use Rattle.matching.specs.declared.Sides.{Sides}
use Rattle.matching.specs.Lent.{total, firsts_of}
use Rattle.giving.specs.declared.entries.Aims.{Aims}
use Rattle.giving.specs.Lent.{EntriesFit, start_in, count_in, SetsFit, FirstFailing}
use Rattle.judging.specs.Answers.{Right, WrongSet, WrongStore}
use Rattle.judging.specs.Judge.{set_given, first_failing, judged_in}
use Rattle.judging.specs.LentJudge.{Firsts, SetOut, Sided}
use Rattle.judging.proofs.EntryFacts.{entry-proper}
use Rattle.judging.proofs.FailLaws.{all_right, first-wrong}
use Rattle.judging.proofs.GivenLaws.{Aimed, SetIn, given-said, not-said}
use Rattle.judging.proofs.SideFacts.{distinct-once, not-once, parse-is-some, axes-same, listed-long, all-distinct, not-distinct, coords-once, aim-hit, aim-back}

-- the tables that sets are judged by
abbrev pub aims_of : Sides → Aims
aims_of t = record { to = firsts_of t + t.listed; listed = t.listed; values = firsts_of t + total t; zeros = firsts_of t + total t + t.listed }

module _ {store job : List ℕ} {sets : ℕ} {w : List ℕ} {t : Sides} (f : Sided store job sets w t) (bytes : (k : ℕ) → get_or store k 0 < 256) (words : List ℕ) where
  abbrev q : Parsed
  q = store_at store

  -- ---- a region twice

  pub wrong-store : {ok : Bool} → Firsts w (firsts_of t) t.listed ok → not ok ≡ true → WrongStore ≡ judged_in t.axes words f.said (parse store)
  unfolding judged_in
  wrong-store {ok} g h =
      rw (
        parse-is-some f bytes,
        eq-eqb (store_at store).axes t.axes (axes-same f bytes),
        not-once (store_at store).regions (not-distinct f bytes (g.not_own (not-true ok h))),
      )

  -- ---- no region twice

  module _ {ok : Bool} (g : Firsts w (firsts_of t) t.listed ok) (h : not ok ≡ false) where
    distinct : Distinct (store_at store).regions
    distinct = all-distinct f bytes (g.own (not-false ok h))

    by-sets : judged_in t.axes words f.said (parse store) ≡ first_failing (set_given (store_at store) f.said words) (length f.said.sets) 0
    unfolding judged_in
    by-sets =
        rw (
          parse-is-some f bytes,
          eq-eqb (store_at store).axes t.axes (axes-same f bytes),
          distinct-once (store_at store).regions distinct,
        )
        refl

    sets-are : length f.said.sets ≡ sets
    sets-are = ap length (sym f.sets-are) ∙ sets-length 0 sets w

    module _ (new : List ℕ) (c : SetOut store (firsts_of t + total t) t.listed w new) where
      kept : Kept t.used w new
      kept = kept-only c.only (omega (arith, f.fits.used-to), tt)

      held : Held new 0 sets t.uses t.used
      held = held_kept f.held kept

      low-kept : (k : ℕ) → k < firsts_of t + total t → get_or new k 0 ≡ get_or w k 0
      low-kept k l = c.only.kept k (record { apart = λ z. absurd (omega arith) }, tt)

      own-set : (k : ℕ) → entries (start_in new k) (count_in new k) new ≡ set_of 0 k new
      unfolding set_of
      own-set k = let z : 2 * k ≡ 0 + 2 * k = omega arith in ap (λ (i : ℕ). entries (get_or new i 0) (get_or new (i + 1) 0) new) z

      pub set-in : (k : ℕ) → k < sets → SetIn f.said new t.uses k
      set-in k l = record {
        set_is = own-set k ∙ set_same f.held kept k l ∙ sym (sets-at 0 sets w k l) ∙ ap (λ (x : List Set). get_or x k []) f.sets-are;
        ascending = rw (own-set k) (held.ascending k l);
        proper = rw (own-set k) (held.proper k l);
      }

      pub aimed : Aimed (store_at store) f.said new (aims_of t) t.uses
      aimed = record {
        listed-are = listed-long f bytes;
        distinct = distinct;
        hit = λ u r a b e. aim-hit f bytes u r a b (same u a ∙ e);
        back = λ u r a b e. sym (same u a) ∙ aim-back f bytes distinct u r a b e;
        once = coords-once f bytes;
      }
        where
          same : (u : ℕ) → u < t.uses → get_or w (firsts_of t + (t.listed + u)) 0 ≡ get_or new (firsts_of t + t.listed + u) 0
          same u a =
              let z : firsts_of t + (t.listed + u) ≡ firsts_of t + t.listed + u = omega arith in
              ap (λ (k : ℕ). get_or w k 0) z ∙ sym (low-kept (firsts_of t + t.listed + u) (omega arith))

      start_is : (k : ℕ) → start_in new k ≡ entries_at 0 k new
      start_is k = let z : 2 * k ≡ 0 + 2 * k = omega arith in ap (λ (i : ℕ). get_or new i 0) z

      count-is : (k : ℕ) → count_in new k ≡ count_of 0 k new
      count-is k = let z : 2 * k ≡ 0 + 2 * k = omega arith in ap (λ (i : ℕ). get_or new (i + 1) 0) z

      entries_fit : (k : ℕ) → k < sets → EntriesFit new (start_in new k) (count_in new k) (aims_of t)
      entries_fit k l = record {
        body = omega (arith, held.body k l, start_is k, count-is k, f.fits.used-to);
        to_values = omega arith;
        below = λ i m. omega (arith, (entry-proper new t.uses (count_in new k) (start_in new k) i (set-in k l).proper m).1);
        room = omega (arith, c.only.long, f.fits.room);
      }

      pub sets-fit : (k : ℕ) → k < sets → SetsFit store k new (aims_of t)
      sets-fit k l = record {
        parsed = f.parsed;
        listed-are = f.listed-are;
        row = omega (arith, f.held.rows, f.fits.used-to);
        fits = entries_fit k l;
        clean = record { zero = c.is };
        behind = omega arith;
        ahead = c.ahead;
      }

      module _ (r : ℕ) {last : List ℕ} (x : FirstFailing store words sets (aims_of t) new last r) where
        given : (k : ℕ) → k < r → set_given (store_at store) f.said words k ≡ true
        given k l = given-said store (store_at store) (parse-is-some f bytes) f.said words new (aims_of t) t.uses k aimed (set-in k (omega (arith, x.within))) (x.before-it k l)

        pub wrong-set : r < sets → WrongSet r ≡ judged_in t.axes words f.said (parse store)
        wrong-set l = sym (by-sets
            ∙ first-wrong (set_given (store_at store) f.said words) (length f.said.sets) 0 r (omega arith) (omega (arith, sets-are)) (λ j a b. given j b)
            (not-said store (store_at store) (parse-is-some f bytes) f.said words new (aims_of t) t.uses r aimed (set-in r l) (x.fails l)))

        pub right-store : sets ≤ r → Right ≡ judged_in t.axes words f.said (parse store)
        right-store l = sym (by-sets
            ∙ all_right (set_given (store_at store) f.said words) (length f.said.sets) 0 (λ j a b. given j (omega (arith, sets-are))))
