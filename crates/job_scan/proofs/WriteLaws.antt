-- Regions as sets, and the loops that write them. Assumes nothing.
use mathlib.Core.Path.{◌≡◌, refl, sym, ap, ◌∙◌}
use mathlib.Core.List.{List, [], ◌∷◌, ◌++◌, map}
use Prim.Native.Nat.{ℕ, suc, ◌+◌, ◌*◌, ◌≤◌, ◌<◌}
use native.Mathlib.Numerals.{add-one}
use native.Mathlib.Nat.{add-zero}
use native.Mathlib.Omega.{arith}
use lib.ListN.{length, get_or, take, drop, set, length-set, length-map}
use lib.Seq.{ext_get_or, take-suc, take_all, length-take-le, get_or-set_same, get_or-set_other}
use borrow.Author.Tests.{eq-eqb}
use borrow.Author.Count.{below_more}
use Rattle.laws.specs.Every.{All}
use Rattle.laws.specs.LentRange.{Only}
use Rattle.laws.proofs.EveryLaws.{all_append}
use Rattle.laws.proofs.ListLaws.{get_or-map-in}
use Rattle.laws.proofs.Products.{row_fits, row_next}
use Rattle.laws.proofs.RangeLaws.{only-refl, only-trans, only_set, only-weaken}
use Rattle.sets.specs.Set.{Set, Ascending, Proper, same_set}
use Rattle.sets.specs.Ids.{place}
use Rattle.sets.specs.Lent.{entries, entries_at, count_of, set_of, Held, sets_in, IdsFit, Identified}
use Rattle.sets.proofs.HeldLaws.{sets-length, sets-at}
use Rattle.limits.specs.Limits.{most_records}
use Rattle.said.specs.Records.{region_length, region_from}
use Rattle.said.specs.Sets.{Region, coordinates, region_list, same_region, like, first_like}
use Rattle.job_scan.specs.Lent.{as_set, RegionAt, RegionsAt, FirstsOf}
use Rattle.said.proofs.RegionLaws.{coords-length, regions-length, regions-at}
use Rattle.entries.proofs.EntryLaws.{entries-kept, entries-snoc}

-- ---- a region as a set

pub set_snoc : (l : Region) (a x : ℕ) → as_set a (l ++ (x ∷ [])) ≡ as_set a l ++ ((a + length l, x) ∷ [])
unfolding as_set
set_snoc [] a x = rw add-zero
set_snoc (y ∷ l) a x = ap (λ (z : Set). (a, y) ∷ z) (set_snoc l (suc a) x ∙ (let e : suc a + length l ≡ a + suc (length l) = omega arith in rw e))

pub set-ascending : (c : Region) (t a : ℕ) → t ≤ a → Ascending t (as_set a c)
unfolding as_set
set-ascending [] t a h = tt
set-ascending (x ∷ c) t a h = (h, set-ascending c (suc a) (suc a) (omega arith))

pub set-proper : (c : Region) (a n : ℕ) → All (λ x. x < 65536) c → a + length c ≤ n → Proper n (as_set a c)
unfolding as_set
set-proper [] a n s h = tt
set-proper (x ∷ c) a n s h = (((λ e. omega (arith, s.0)), omega arith), set-proper c (suc a) n s.1 (omega arith))

set_same : (c d : Region) (a : ℕ) → same_set (as_set a c) (as_set a d) ≡ same_region c d
unfolding as_set same_set same_region
set_same [] [] a = refl
set_same [] (y ∷ d) a = refl
set_same (x ∷ c) [] a = refl
set_same (x ∷ c) (y ∷ d) a = rw (eq-eqb a a refl, set_same c d (suc a))

place-like : (c : Region) (l : List Region) → place (as_set 0 c) (map (as_set 0) l) ≡ like c l
unfolding place like
place-like c [] = refl
place-like c (d ∷ l) = rw (set_same c d 0, place-like c l)

zero-plus : (k : ℕ) → 0 + k ≡ k
zero-plus k = omega arith

-- ---- writing one region

pub record Writing (at n : ℕ) (c : Region) (old new : List ℕ) (k : ℕ) : Type 0 where
  pub within : k ≤ n
  pub only : Only ((at, 2 * n) ∷ []) old new
  pub done : entries at k new ≡ as_set 0 (take k c)
  pub small : All (λ x. x < 65536) (take k c)

module _ (at n : ℕ) (c : Region) (old : List ℕ) (room : at + 2 * n ≤ length old) (l : length c ≡ n) where
  pub writing_start : Writing at n c old old 0
  unfolding entries as_set
  writing_start = record { within = omega arith; only = only-refl ((at, 2 * n) ∷ []) old; done = refl; small = tt }

  pub writing_more : (new : List ℕ) (k v : ℕ) → Writing at n c old new k → k < n → v ≡ get_or c k 0 → v < 65536
      → Writing at n c old (set (set new (at + 2 * k) k) (at + 2 * k + 1) v) (k + 1)
  writing_more new k v w h e s =
      let u = set new (at + 2 * k) k in
      let z = set u (at + 2 * k + 1) v in
      let a : at + 2 * k < length new = omega (arith, w.only.long) in
      let b : at + 2 * k + 1 < length u = omega (arith, length-set new (at + 2 * k) k, w.only.long) in
      let first : get_or z (at + 2 * k) 0 ≡ k = get_or-set_other u (at + 2 * k + 1) (at + 2 * k) v 0 (omega arith) ∙ get_or-set_same new (at + 2 * k) k 0 a in
      let second : get_or z (at + 2 * k + 1) 0 ≡ v = get_or-set_same u (at + 2 * k + 1) v 0 b in
      let old-ones : entries at k z ≡ entries at k new = entries-kept k at new z
      (λ j p q. get_or-set_other u (at + 2 * k + 1) j v 0 (omega arith) ∙ get_or-set_other new (at + 2 * k) j k 0 (omega arith)) in
      let grown : take (k + 1) c ≡ take k c ++ (v ∷ []) = rw (add-one, take-suc c k 0 (omega arith), ← e) in
      let long : length (take k c) ≡ k = length-take-le k c (omega arith) in
      record {
        within = omega arith;
        only = only-trans w.only (only-trans
            (only_set ((at, 2 * n) ∷ []) new (at + 2 * k) k (λ o. omega (arith, o.0.apart (omega arith))))
            (only_set ((at, 2 * n) ∷ []) u (at + 2 * k + 1) v (λ o. omega (arith, o.0.apart (omega arith)))));
        done = entries-snoc k at z ∙ rw (first, second, old-ones, w.done, grown, set_snoc (take k c) 0 v, long, zero-plus k);
        small = rw grown (all_append (λ x. x < 65536) (take k c) (v ∷ []) w.small (s, tt));
      }

  pub writing-done : (new : List ℕ) (k : ℕ) → Writing at n c old new k → n ≤ k → RegionAt at n c old new
  writing-done new k w h =
      let e : k ≡ n = omega (arith, w.within) in
      let t : take k c ≡ c = take_all k c (omega arith) in
      record { only = w.only; is = rw (← e) (w.done ∙ rw t); small = rw t at w.small }

-- ---- writing all regions

pub record Regioning (index body axes regions : ℕ) (job old new : List ℕ) (r p start : ℕ) : Type 0 where
  pub within : r ≤ regions
  pub p-is : p ≡ r * region_length axes
  pub start_is : start ≡ body + r * (6 * axes)
  pub only : Only ((index, 2 * regions) ∷ (body, regions * (6 * axes)) ∷ []) old new
  pub starts : (x : ℕ) → x < r → entries_at index x new ≡ body + x * (6 * axes)
  pub counts : (x : ℕ) → x < r → count_of index x new ≡ 3 * axes
  pub is : (x : ℕ) → x < r → entries (body + x * (6 * axes)) (3 * axes) new ≡ as_set 0 (coordinates axes (region_from axes job x))
  pub small : (x : ℕ) → x < r → All (λ y. y < 65536) (coordinates axes (region_from axes job x))

module _ (index body axes regions : ℕ) (job old : List ℕ) (room : body + regions * (6 * axes) ≤ length old) (behind : index + 2 * regions ≤ body) where
  pub regioning-start : Regioning index body axes regions job old old 0 0 body
  regioning-start = record {
    within = omega arith;
    p-is = omega arith;
    start_is = omega arith;
    only = only-refl ((index, 2 * regions) ∷ (body, regions * (6 * axes)) ∷ []) old;
    starts = λ x h. absurd (omega arith);
    counts = λ x h. absurd (omega arith);
    is = λ x h. absurd (omega arith);
    small = λ x h. absurd (omega arith);
  }

  module _ (new mid : List ℕ) (r p start : ℕ) (g : Regioning index body axes regions job old new r p start) (h : r < regions)
      (m : RegionAt start (3 * axes) (coordinates axes (drop p job)) new mid) where
    fits : start + 6 * axes ≤ body + regions * (6 * axes)
    fits = omega (arith, row_fits (6 * axes) regions r h, g.start_is)

    abbrev one_word : List ℕ
    one_word = set mid (index + 2 * r) start

    abbrev both_words : List ℕ
    both_words = set one_word (index + 2 * r + 1) (3 * axes)

    long : length mid ≡ length old
    long = m.only.long ∙ g.only.long

    -- words outside the row and the entries of region r are as they were
    kept : (k : ℕ) → (k ≡ index + 2 * r → ⊥) → (k ≡ index + 2 * r + 1 → ⊥) → (k < start) → get_or both_words k 0 ≡ get_or new k 0
    kept k a b l =
        get_or-set_other one_word (index + 2 * r + 1) k (3 * axes) 0 b
        ∙ get_or-set_other mid (index + 2 * r) k start 0 a
        ∙ m.only.kept k (record { apart = λ q. absurd (omega arith) }, tt)

    row-start : entries_at index r both_words ≡ start
    row-start =
        get_or-set_other one_word (index + 2 * r + 1) (index + 2 * r) (3 * axes) 0 (omega arith)
        ∙ get_or-set_same mid (index + 2 * r) start 0 (omega (arith, long, fits))

    row_count : count_of index r both_words ≡ 3 * axes
    row_count = get_or-set_same one_word (index + 2 * r + 1) (3 * axes) 0 (omega (arith, length-set mid (index + 2 * r) start, long, fits))

    body_is : entries start (3 * axes) both_words ≡ as_set 0 (coordinates axes (drop p job))
    body_is = entries-kept (3 * axes) start mid both_words
        (λ k a b.
        get_or-set_other one_word (index + 2 * r + 1) k (3 * axes) 0 (omega (arith, g.start_is))
        ∙ get_or-set_other mid (index + 2 * r) k start 0 (omega (arith, g.start_is)))
        ∙ m.is

    only_here : Only ((index, 2 * regions) ∷ (body, regions * (6 * axes)) ∷ []) old both_words
    only_here =
        let rs : List (ℕ × ℕ) = (index, 2 * regions) ∷ (body, regions * (6 * axes)) ∷ [] in
        only-trans g.only (only-trans
        (only-weaken (λ k o. (record { apart = λ q. omega (arith, o.1.0.apart (omega (arith, fits)), g.start_is, fits) }, tt)) m.only)
        (only-trans
        (only_set rs mid (index + 2 * r) start (λ o. omega (arith, o.0.apart (omega arith))))
        (only_set rs one_word (index + 2 * r + 1) (3 * axes) (λ o. omega (arith, o.0.apart (omega arith))))))

    pub regioning-more : (q : ℕ) → q ≡ region_length axes → Regioning index body axes regions job old both_words (r + 1) (p + q) (start + 6 * axes)
    regioning-more q e = record {
      within = omega arith;
      p-is = omega (arith, row_next r (region_length axes), g.p-is);
      start_is = omega (arith, row_next r (6 * axes), g.start_is);
      only = only_here;
      starts = below_more _ _
          (λ x l. kept (index + 2 * x) (λ e. omega arith) (λ e. omega arith) (omega (arith, g.start_is)) ∙ g.starts x l)
          (row-start ∙ g.start_is);
      counts = below_more _ _
          (λ x l. kept (index + 2 * x + 1) (λ e. omega arith) (λ e. omega arith) (omega (arith, g.start_is)) ∙ g.counts x l)
          row_count;
      is = below_more _ _
          (λ x l. entries-kept (3 * axes) (body + x * (6 * axes)) new both_words
          (λ k a b. kept k (λ e. omega arith) (λ e. omega arith) (omega (arith, g.start_is, row_fits (6 * axes) r x l))) ∙ g.is x l)
          (rw (← g.start_is, ← g.p-is) body_is);
      small = below_more _ _ (λ x l. g.small x l) (rw (← g.p-is) m.small);
    }

  pub regioning-done : (new : List ℕ) (r p start : ℕ) → Regioning index body axes regions job old new r p start → regions ≤ r
      → RegionsAt index body axes regions job old new
  regioning-done new r p start g h = record {
    only = g.only;
    start = λ x l. g.starts x (omega arith);
    count = λ x l. g.counts x (omega arith);
    is = λ x l. g.is x (omega arith);
    small = λ x l. g.small x (omega arith);
  }

-- ---- the first like each

module _ (index body axes regions : ℕ) (job old new : List ℕ) (room : body + regions * (6 * axes) ≤ length old) (behind : index + 2 * regions ≤ body)
    (r : RegionsAt index body axes regions job old new) where
  set_is : (x : ℕ) → x < regions → set_of index x new ≡ as_set 0 (coordinates axes (region_from axes job x))
  unfolding set_of
  set_is x h = rw (r.start x h, r.count x h) (r.is x h)

  pub regions-held : Held new index regions (3 * axes) (body + regions * (6 * axes))
  regions-held = record {
    room = omega (arith, r.only.long);
    rows = omega arith;
    body = λ x h. omega (arith, r.start x h, r.count x h, row_fits (6 * axes) regions x h);
    ascending = λ x h. rw (set_is x h) (set-ascending (coordinates axes (region_from axes job x)) 0 0 (omega arith));
    proper = λ x h. rw (set_is x h)
        (set-proper (coordinates axes (region_from axes job x)) 0 (3 * axes) (r.small x h) (omega (arith, coords-length axes (region_from axes job x))));
  }

  sets-are : sets_in index regions new ≡ map (as_set 0) (region_list axes regions job)
  sets-are =
      let n = regions-length axes regions job in
      ext_get_or [] (sets_in index regions new) (map (as_set 0) (region_list axes regions job))
      (sets-length index regions new ∙ sym (length-map (region_list axes regions job) (as_set 0) ∙ n))
      (λ k h.
      let l : k < regions = omega (arith, sets-length index regions new) in
      sets-at index regions new k l ∙ set_is k l
      ∙ sym (get_or-map-in (as_set 0) (region_list axes regions job) k [] [] (omega arith) ∙ ap (as_set 0) (regions-at axes regions job k l)))

  pub first-is : (k : ℕ) → k < regions → place (set_of index k new) (sets_in index regions new) ≡ first_like (region_list axes regions job) k
  unfolding first_like
  first-is k h =
      rw (set_is k h, sets-are, regions-at axes regions job k h)
      (place-like (coordinates axes (region_from axes job k)) (region_list axes regions job))

  module _ (few : regions ≤ most_records) (at : ℕ) (here : at ≡ body + regions * (6 * axes)) (space : at + 3 * regions ≤ length old) where
    pub firsts-fit : IdsFit new index regions at (at + regions) (at + 2 * regions)
    firsts-fit = record {
      regions = 3 * axes;
      end = body + regions * (6 * axes);
      held = regions-held;
      few = omega arith;
      behind = omega arith;
      at-to = omega arith;
      first_to = omega arith;
      room = omega (arith, r.only.long);
    }

    pub firsts-done : (last : List ℕ) (n : ℕ) → body ≡ index + 2 * regions → Identified index regions at (at + regions) (at + 2 * regions) new last n
        → (first : ℕ) → first ≡ at + regions → FirstsOf index first axes regions job old last
    firsts-done last n b i first f = record {
      only = record {
        long = i.only.long ∙ r.only.long;
        kept = λ k o.
            let far = o.0.apart in
            i.only.kept k (record { apart = λ q. omega (arith, far (omega arith)) }, (record { apart = λ q. omega (arith, far (omega arith)) }, (record { apart = λ q. omega (arith, far (omega arith)) }, tt)))
            ∙ r.only.kept k (record { apart = λ q. omega (arith, far (omega arith)) }, (record { apart = λ q. omega (arith, far (omega arith)) }, tt));
      };
      is = λ k h. rw f (i.firsts k h ∙ first-is k h);
    }
