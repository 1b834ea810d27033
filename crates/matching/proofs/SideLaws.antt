-- Regions of two sides as sets, the loop that writes them, and the first like each. Assumes nothing.
use mathlib.Core.Path.{◌≡◌, refl, sym, ap, ap₂, subst, ◌∙◌}
use mathlib.Core.List.{List, [], ◌∷◌, map}
use mathlib.Core.Logic.{⊎_elim}
use Prim.Native.Nat.{ℕ, suc, ◌+◌, ◌-◌, ◌*◌, ◌≤◌, ◌<◌}
use native.Mathlib.Omega.{arith}
use lib.ListN.{length, get_or, drop, set, length-set}
use lib.Seq.{get_or-set_same, get_or-set_other}
use borrow.Author.Tests.{lt-ltb, le-ltb}
use borrow.Author.Count.{below_more}
use Rattle.laws.specs.Every.{All}
use Rattle.laws.specs.LentRange.{Only}
use Rattle.laws.proofs.Cases.{lt-or-ge}
use Rattle.laws.proofs.Products.{row_fits, row_next}
use Rattle.laws.proofs.RangeLaws.{only-refl, only-trans, only_set, only-weaken}
use Rattle.sets.specs.Set.{Set}
use Rattle.sets.specs.Ids.{place}
use Rattle.sets.specs.Lent.{entries, entries_at, count_of, set_of, sets_in, Held, IdsFit, Identified}
use Rattle.sets.proofs.IdLaws.{place-first, place_here}
use Rattle.sets.proofs.HeldLaws.{sets-length, sets-at}
use Rattle.said.specs.Records.{region_length, region_from}
use Rattle.said.specs.Sets.{Region, coordinates}
use Rattle.said.proofs.RegionLaws.{coords-length}
use Rattle.reader.specs.Store.{words}
use Rattle.reader.proofs.StoreLaws.{words-length}
use Rattle.job_scan.specs.Lent.{as_set, RegionAt}
use Rattle.job_scan.proofs.WriteLaws.{set-ascending, set-proper}
use Rattle.entries.proofs.EntryLaws.{entries-kept}
use Rattle.matching.specs.declared.Sides.{Sides}
use Rattle.matching.specs.Lent.{total, side_at, body_of, firsts_of, SidesFit, Written, FirstSide, Matched}

-- ---- one region

module _ (store job w : List ℕ) (t : Sides) (x : ℕ) where
  pub side-listed : x < t.listed → words store (t.list + x * (6 * t.axes)) (3 * t.axes) ≡ side_at store job w t x
  unfolding side_at
  side-listed h = rw (lt-ltb x t.listed h)

  pub side-used : t.listed ≤ x → coordinates t.axes (region_from t.axes job (get_or w (t.used + (x - t.listed)) 0)) ≡ side_at store job w t x
  unfolding side_at
  side-used h = rw (le-ltb x t.listed h)

  pub side-long : length (side_at store job w t x) ≡ 3 * t.axes
  side-long = ⊎_elim
      (λ (h : x < t.listed). ap length (sym (side-listed h)) ∙ words-length store (t.list + x * (6 * t.axes)) (3 * t.axes))
      (λ (h : t.listed ≤ x). ap length (sym (side-used h)) ∙ coords-length t.axes (region_from t.axes job (get_or w (t.used + (x - t.listed)) 0)))
      (lt-or-ge x t.listed)

-- the same in another list of words that has the regions in use
pub side_same : (store job v w : List ℕ) (t : Sides) (x : ℕ) → x < total t → ((u : ℕ) → u < t.uses → get_or v (t.used + u) 0 ≡ get_or w (t.used + u) 0)
    → side_at store job v t x ≡ side_at store job w t x
side_same store job v w t x h e = ⊎_elim
    (λ (l : x < t.listed). sym (side-listed store job v t x l) ∙ side-listed store job w t x l)
    (λ (l : t.listed ≤ x).
    sym (side-used store job v t x l)
    ∙ ap (λ (q : ℕ). coordinates t.axes (region_from t.axes job q)) (e (x - t.listed) (omega arith))
    ∙ side-used store job w t x l)
    (lt-or-ge x t.listed)

-- what the writer of one region is asked, and what it leaves
module _ {store job w : List ℕ} {t : Sides} (f : SidesFit store job t w) (x : ℕ) (h : x < total t) where
  pub listed-fits : x < t.listed → t.list + x * (6 * t.axes) + 6 * t.axes ≤ length store
  listed-fits l = omega (arith, row_fits (6 * t.axes) t.listed x l, f.list-in)

  module _ (l : t.listed ≤ x) (q r : ℕ) (e : q ≡ get_or w (t.used + (x - t.listed)) 0) (g : r ≡ region_length t.axes) where
    pub used-fits : q * r + region_length t.axes ≤ length job
    used-fits = rw (e, g) (f.used-in (x - t.listed) (omega arith))

    pub used-is : (at : ℕ) (new : List ℕ) → RegionAt at (3 * t.axes) (coordinates t.axes (drop (q * r) job)) w new
        → RegionAt at (3 * t.axes) (side_at store job w t x) w new
    used-is at new m =
        subst (λ (c : Region). RegionAt at (3 * t.axes) c w new)
        (ap (λ (k : ℕ). coordinates t.axes (drop k job)) (ap₂ ◌*◌ e g) ∙ side-used store job w t x l) m

  pub listed-is : x < t.listed → (at : ℕ) (new : List ℕ) → RegionAt at (3 * t.axes) (words store (t.list + x * (6 * t.axes)) (3 * t.axes)) w new
      → RegionAt at (3 * t.axes) (side_at store job w t x) w new
  listed-is l at new m = subst (λ (c : Region). RegionAt at (3 * t.axes) c w new) (side-listed store job w t x l) m

-- a set gives the coordinates back
numbers_in : Set → Region
numbers_in s = map (λ e. e.1) s

set_back : (c : Region) (k : ℕ) → numbers_in (as_set k c) ≡ c
unfolding as_set numbers_in
set_back [] k = refl
set_back (x ∷ c) k = ap (λ (l : Region). x ∷ l) (set_back c (suc k))

set-once : (c d : Region) → as_set 0 c ≡ as_set 0 d → c ≡ d
set-once c d e = sym (set_back c 0) ∙ ap numbers_in e ∙ set_back d 0

-- ---- writing all of them

pub record Siding (store job : List ℕ) (t : Sides) (old new : List ℕ) (x start : ℕ) : Type 0 where
  pub within : x ≤ total t
  pub start_is : start ≡ body_of t + x * (6 * t.axes)
  pub only : Only ((t.index, 2 * total t) ∷ (body_of t, total t * (6 * t.axes)) ∷ []) old new
  pub starts : (y : ℕ) → y < x → entries_at t.index y new ≡ body_of t + y * (6 * t.axes)
  pub counts : (y : ℕ) → y < x → count_of t.index y new ≡ 3 * t.axes
  pub is : (y : ℕ) → y < x → entries (body_of t + y * (6 * t.axes)) (3 * t.axes) new ≡ as_set 0 (side_at store job old t y)
  pub small : (y : ℕ) → y < x → All (λ z. z < 65536) (side_at store job old t y)

module _ (store job : List ℕ) (t : Sides) (old : List ℕ) (f : SidesFit store job t old) where
  pub siding-start : (start : ℕ) → start ≡ body_of t → Siding store job t old old 0 start
  siding-start start e = record {
    within = omega arith;
    start_is = omega arith;
    only = only-refl ((t.index, 2 * total t) ∷ (body_of t, total t * (6 * t.axes)) ∷ []) old;
    starts = λ y h. absurd (omega arith);
    counts = λ y h. absurd (omega arith);
    is = λ y h. absurd (omega arith);
    small = λ y h. absurd (omega arith);
  }

  -- the regions in use stay
  used-kept : (new : List ℕ) (x start : ℕ) → Siding store job t old new x start → (u : ℕ) → u < t.uses → get_or new (t.used + u) 0 ≡ get_or old (t.used + u) 0
  used-kept new x start g u h =
      let to = f.used-to in
      g.only.kept (t.used + u) (record { apart = λ q. absurd (omega (arith, to)) }, (record { apart = λ q. absurd (omega (arith, to)) }, tt))

  -- what one more region is asked of
  pub siding-fits : (new : List ℕ) (x start : ℕ) → Siding store job t old new x start → SidesFit store job t new
  siding-fits new x start g = record {
    some = f.some;
    most = f.most;
    list-in = f.list-in;
    listed-few = f.listed-few;
    uses-few = f.uses-few;
    used-in = λ u h. rw (used-kept new x start g u h) (f.used-in u h);
    used-to = f.used-to;
    room = rw g.only.long f.room;
    few = f.few;
  }

  module _ (new : List ℕ) (x start : ℕ) (g : Siding store job t old new x start) (h : x < total t) where
    pub siding-room : start + 6 * t.axes ≤ body_of t + total t * (6 * t.axes)
    siding-room = omega (arith, row_fits (6 * t.axes) (total t) x h, g.start_is)

    module _ (mid : List ℕ) (m : RegionAt start (3 * t.axes) (side_at store job new t x) new mid) where
      index : ℕ
      index = t.index

      abbrev one_word : List ℕ
      one_word = set mid (t.index + 2 * x) start

      abbrev both_words : List ℕ
      both_words = set one_word (t.index + 2 * x + 1) (3 * t.axes)

      side-is : side_at store job new t x ≡ side_at store job old t x
      side-is = side_same store job new old t x h (used-kept new x start g)

      long : length mid ≡ length old
      long = m.only.long ∙ g.only.long

      -- words outside the row and the entries of region x are as they were
      kept : (k : ℕ) → (k ≡ t.index + 2 * x → ⊥) → (k ≡ t.index + 2 * x + 1 → ⊥) → k < start → get_or both_words k 0 ≡ get_or new k 0
      kept k a b l =
          get_or-set_other one_word (t.index + 2 * x + 1) k (3 * t.axes) 0 b
          ∙ get_or-set_other mid (t.index + 2 * x) k start 0 a
          ∙ m.only.kept k (record { apart = λ q. absurd (omega arith) }, tt)

      row-start : entries_at t.index x both_words ≡ start
      row-start =
          get_or-set_other one_word (t.index + 2 * x + 1) (t.index + 2 * x) (3 * t.axes) 0 (omega arith)
          ∙ get_or-set_same mid (t.index + 2 * x) start 0 (omega (arith, long, f.room))

      row_count : count_of t.index x both_words ≡ 3 * t.axes
      row_count = get_or-set_same one_word (t.index + 2 * x + 1) (3 * t.axes) 0 (omega (arith, length-set mid (t.index + 2 * x) start, long, f.room))

      body_is : entries start (3 * t.axes) both_words ≡ as_set 0 (side_at store job old t x)
      body_is = entries-kept (3 * t.axes) start mid both_words
          (λ k a b.
          get_or-set_other one_word (t.index + 2 * x + 1) k (3 * t.axes) 0 (omega (arith, g.start_is))
          ∙ get_or-set_other mid (t.index + 2 * x) k start 0 (omega (arith, g.start_is)))
          ∙ m.is ∙ ap (as_set 0) side-is

      only_here : Only ((t.index, 2 * total t) ∷ (body_of t, total t * (6 * t.axes)) ∷ []) old both_words
      only_here =
          let rs : List (ℕ × ℕ) = (t.index, 2 * total t) ∷ (body_of t, total t * (6 * t.axes)) ∷ [] in
          only-trans g.only (only-trans
          (only-weaken (λ k o. (record { apart = λ q. omega (arith, o.1.0.apart (omega (arith, siding-room)), g.start_is, siding-room) }, tt)) m.only)
          (only-trans
          (only_set rs mid (t.index + 2 * x) start (λ o. omega (arith, o.0.apart (omega arith))))
          (only_set rs one_word (t.index + 2 * x + 1) (3 * t.axes) (λ o. omega (arith, o.0.apart (omega arith))))))

      pub siding-more : Siding store job t old both_words (x + 1) (start + 6 * t.axes)
      siding-more = record {
        within = omega arith;
        start_is = omega (arith, row_next x (6 * t.axes), g.start_is);
        only = only_here;
        starts = below_more _ _
            (λ y l. kept (t.index + 2 * y) (λ e. omega arith) (λ e. omega arith) (omega (arith, g.start_is)) ∙ g.starts y l)
            (row-start ∙ g.start_is);
        counts = below_more _ _
            (λ y l. kept (t.index + 2 * y + 1) (λ e. omega arith) (λ e. omega arith) (omega (arith, g.start_is)) ∙ g.counts y l)
            row_count;
        is = below_more _ _
            (λ y l. entries-kept (3 * t.axes) (body_of t + y * (6 * t.axes)) new both_words
            (λ k a b. kept k (λ e. omega arith) (λ e. omega arith) (omega (arith, g.start_is, row_fits (6 * t.axes) x y l))) ∙ g.is y l)
            (rw (← g.start_is) body_is);
        small = below_more _ _ (λ y l. g.small y l) (rw side-is at m.small);
      }

  pub siding-done : (new : List ℕ) (x start : ℕ) → Siding store job t old new x start → total t ≤ x → Written store job t old new
  siding-done new x start g h = record {
    only = g.only;
    start = λ y l. g.starts y (omega arith);
    count = λ y l. g.counts y (omega arith);
    is = λ y l. g.is y (omega arith);
    small = λ y l. g.small y (omega arith);
  }

  -- ---- the first like each

  module _ (new : List ℕ) (r : Written store job t old new) where
    set_is : (x : ℕ) → x < total t → set_of t.index x new ≡ as_set 0 (side_at store job old t x)
    unfolding set_of
    set_is x h = rw (r.start x h, r.count x h) (r.is x h)

    sides-held : Held new t.index (total t) (3 * t.axes) (body_of t + total t * (6 * t.axes))
    sides-held = record {
      room = omega (arith, r.only.long, f.room);
      rows = omega arith;
      body = λ x h. omega (arith, r.start x h, r.count x h, row_fits (6 * t.axes) (total t) x h);
      ascending = λ x h. rw (set_is x h) (set-ascending (side_at store job old t x) 0 0 (omega arith));
      proper = λ x h. rw (set_is x h) (set-proper (side_at store job old t x) 0 (3 * t.axes) (r.small x h) (omega (arith, side-long store job old t x)));
    }

    module _ (at : ℕ) (here : at ≡ body_of t + total t * (6 * t.axes)) where
      pub matching-fits : IdsFit new t.index (total t) at (at + total t) (at + 2 * total t)
      matching-fits = record {
        regions = 3 * t.axes;
        end = body_of t + total t * (6 * t.axes);
        held = sides-held;
        few = omega (arith, f.listed-few, f.uses-few);
        behind = omega arith;
        at-to = omega arith;
        first_to = omega arith;
        room = omega (arith, r.only.long, f.room);
      }

      module _ (last : List ℕ) (n : ℕ) (i : Identified t.index (total t) at (at + total t) (at + 2 * total t) new last n) where
        abbrev all : List Set
        all = sets_in t.index (total t) new

        all-long : length all ≡ total t
        all-long = sets-length t.index (total t) new

        all-at : (x : ℕ) → x < total t → get_or all x [] ≡ as_set 0 (side_at store job old t x)
        all-at x h = sets-at t.index (total t) new x h ∙ set_is x h

        first-side : (x : ℕ) → x < total t → FirstSide store job old t x (place (set_of t.index x new) all)
        first-side x h =
            let s = set_of t.index x new in
            let here = place-first s all x (omega (arith, all-long)) (sets-at t.index (total t) new x h) in
            let low : place s all < total t = omega arith in
            record {
              not-past = here;
              same = set-once _ _ (sym (all-at (place s all) low) ∙ place_here s all (omega (arith, all-long)) ∙ set_is x h);
              least = λ j l e. place-first s all j (omega (arith, all-long)) (all-at j l ∙ ap (as_set 0) e ∙ sym (set_is x h));
            }

        pub matching-done : Matched store job t old last
        matching-done = record {
          only = record {
            long = i.only.long ∙ r.only.long;
            kept = λ k o.
                let far = o.0.apart in
                i.only.kept k (record { apart = λ q. omega (arith, far (omega arith)) }, (record { apart = λ q. omega (arith, far (omega arith)) }, (record { apart = λ q. omega (arith, far (omega arith)) }, tt)))
                ∙ r.only.kept k (record { apart = λ q. omega (arith, far (omega arith)) }, (record { apart = λ q. omega (arith, far (omega arith)) }, tt));
          };
          firsts = λ x h.
              let e : firsts_of t + x ≡ at + total t + x = omega arith in
              rw (e, i.firsts x h) (first-side x h);
        }
