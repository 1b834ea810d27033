-- What the records so far have told of each set, kept from record to record. Assumes nothing.
use mathlib.Core.Path.{◌≡◌, refl, sym, ap, subst, ◌∙◌}
use mathlib.Core.Bool.{true, false}
use mathlib.Core.List.{List, [], ◌∷◌, ◌++◌}
use mathlib.Core.Logic.{⊎_elim}
use Prim.Native.Nat.{ℕ, suc, ◌+◌, ◌-◌, ◌/◌, ◌≤◌, ◌<◌}
use native.Mathlib.Omega.{arith}
use lib.ListN.{length, get_or, length-append, get_or-append}
use lib.Seq.{get_or_at}
use Rattle.laws.specs.Every.{All}
use Rattle.laws.specs.Signed.{zero_word}
use Rattle.laws.proofs.Cases.{Which, which, lt-or-ge, true-false}
use Rattle.laws.proofs.Cases.Which.{holds, fails}
use Rattle.laws.proofs.EveryLaws.{all-get_or}
use Rattle.sets.specs.Set.{Set, word_of, Proper}
use Rattle.sets.proofs.SetLaws.{word-past}
use Rattle.said.specs.Records.{kind, axis_kind, value_kind, end_kind, region_number, value_as_word, record_at}
use Rattle.said.specs.Sets.{Region, region_list, first_like, has, with_use, index_in, with_value}
use Rattle.said.specs.Job.{Said, in_axes, after_value, after_end, regions_only, fine, records_from}
use Rattle.said.specs.LentGood.{SetsGood}
use Rattle.said.proofs.GoodLaws.{good_start, good-value, good-end, has_more, has_first, fresh-differs}
use Rattle.said.proofs.PlacedLaws.{with-other, with-here}
use Rattle.said.proofs.WalkLaws.{walk-keeps}
use Rattle.said.proofs.SaidLaws.{use-low}
use Rattle.said.proofs.IndexLaws.{with-known, with-new, with-has, with-old, index_at, index_below, index-snoc-new}
use Rattle.said.proofs.RegionLaws.{like-below, regions-length}
use Rattle.told.specs.Told.{count_kind, ends_before, FirstUse}
use Rattle.told.proofs.WordLaws.{use_kept, value-fine, count-here, count_past, count-grows}

-- record r's region is in use, and the set has the record's word there
pub record InUse (regions : List Region) (used : List ℕ) (b : Set) (r : List ℕ) : Type 0 where
  pub in_use : has (first_like regions (region_number r)) used ≡ true
  pub word-is : word_of b (index_in (first_like regions (region_number r)) used) ≡ value_as_word r

use-stays : (regions : List Region) (used : List ℕ) (b : Set) (r : List ℕ) (q : ℕ) → InUse regions used b r → InUse regions (with_use used q) b r
use-stays regions used b r q x =
    let k = use_kept used q (first_like regions (region_number r)) x.in_use in
    record { in_use = k.0; word-is = ap (word_of b) k.1 ∙ x.word-is }

-- of the numbers up to i
up_to : (P : ℕ → Type 0) (i : ℕ) → ((j : ℕ) → j < i → P j) → P i → (j : ℕ) → j < suc i → P j
up_to P i h p j l = ⊎_elim
    (λ (a : j < i). h j a)
    (λ (a : i ≤ j). let e : i ≡ j = omega arith in subst P e p)
    (lt-or-ge j i)

module _ (axes : ℕ) (job : List ℕ) where
  -- no value record before record i that is in set n names the region at index r
  abbrev pub Silent : ℕ → Said → ℕ → ℕ → Type 0
  Silent i s n r =
      (j : ℕ) → j < i → kind (record_at job j) ≡ value_kind → ends_before job j ≡ n
      → first_like s.regions (region_number (record_at job j)) ≡ get_or s.used r 0 → ⊥

  -- before record i, in the sets
  pub record Telling (i : ℕ) (s : Said) : Type 0 where
    pub good : SetsGood s
    pub ends : ends_before job i ≡ length s.sets
    pub regions-are : s.regions ≡ region_list axes (length s.regions) job
    pub used_low : All (λ p. p < length s.regions) s.used
    pub known : (j : ℕ) → j < i → kind (record_at job j) ≡ value_kind → region_number (record_at job j) < length s.regions
    pub in_use : (j : ℕ) → j < i → kind (record_at job j) ≡ value_kind → has (first_like s.regions (region_number (record_at job j))) s.used ≡ true
    pub first-use : (r : ℕ) → r < length s.used → FirstUse job i s r
    -- of a set that has ended, and of the one that has not
    pub told : (j : ℕ) → j < i → kind (record_at job j) ≡ value_kind → ends_before job j < length s.sets
        → InUse s.regions s.used (get_or s.sets (ends_before job j) []) (record_at job j)
    pub begun-told : (j : ℕ) → j < i → kind (record_at job j) ≡ value_kind → ends_before job j ≡ length s.sets
        → InUse s.regions s.used s.begun (record_at job j) × (has (first_like s.regions (region_number (record_at job j))) s.named ≡ true)
    pub silent : (n r : ℕ) → n < length s.sets → r < length s.used → Silent i s n r → word_of (get_or s.sets n []) r ≡ zero_word
    pub begun-silent : (r : ℕ) → r < length s.used → Silent i s (length s.sets) r → word_of s.begun r ≡ zero_word

  -- before record i, in the axis records
  record Quiet (i : ℕ) : Type 0 where
    ends : ends_before job i ≡ 0
    none : (j : ℕ) → j < i → kind (record_at job j) ≡ value_kind → ⊥

  quiet-start : Quiet 0
  unfolding count_kind
  quiet-start = record { ends = refl; none = λ j h. absurd (omega arith) }

  quiet-more : (i : ℕ) → Quiet i → kind (record_at job i) ≡ axis_kind → Quiet (suc i)
  quiet-more i q k = record {
    ends = count_past end_kind job i (λ e. omega arith) ∙ q.ends;
    none = up_to (λ j. kind (record_at job j) ≡ value_kind → ⊥) i q.none (λ e. omega arith);
  }

  tell-start : (i n : ℕ) → Quiet i → Telling i (regions_only (region_list axes n job))
  unfolding regions_only word_of
  tell-start i n q = record {
    good = good_start (region_list axes n job);
    ends = q.ends;
    regions-are = ap (λ (k : ℕ). region_list axes k job) (sym (regions-length axes n job));
    used_low = tt;
    known = λ j h k. absurd (q.none j h k);
    in_use = λ j h k. absurd (q.none j h k);
    first-use = λ r h. absurd (omega arith);
    told = λ j h k. absurd (q.none j h k);
    begun-told = λ j h k. absurd (q.none j h k);
    silent = λ n r h. absurd (omega arith);
    begun-silent = λ r h. absurd (omega arith);
  }

  module _ (i : ℕ) (s : Said) (t : Telling i s) where
    -- ---- an end record
    module _ (k : kind (record_at job i) ≡ end_kind) where
      here : (n : ℕ) → n ≡ length s.sets → get_or (s.sets ++ (s.begun ∷ [])) n [] ≡ s.begun
      here n e = get_or_at s.sets s.begun [] [] n (sym e)

      there : (n : ℕ) → n < length s.sets → get_or (s.sets ++ (s.begun ∷ [])) n [] ≡ get_or s.sets n []
      there n h = get_or-append s.sets (s.begun ∷ []) [] n h

      long : length (s.sets ++ (s.begun ∷ [])) ≡ suc (length s.sets)
      long = omega (arith, length-append s.sets (s.begun ∷ []))

      none-later : (j : ℕ) → j < suc i → ends_before job j ≤ length s.sets
      none-later j h =
          let e : j + (i - j) ≡ i = omega arith in
          omega (arith, count-grows end_kind job (i - j) j, ap (ends_before job) e, t.ends)

      abbrev Use : Set → ℕ → Type 0
      Use b j = InUse s.regions s.used b (record_at job j)

      old-told : (j : ℕ) → j < i → kind (record_at job j) ≡ value_kind → ends_before job j < length (s.sets ++ (s.begun ∷ []))
          → Use (get_or (s.sets ++ (s.begun ∷ [])) (ends_before job j) []) j
      old-told j l v h = ⊎_elim
          (λ (a : ends_before job j < length s.sets). subst (λ (b : Set). Use b j) (sym (there (ends_before job j) a)) (t.told j l v a))
          (λ (a : length s.sets ≤ ends_before job j).
          let e : ends_before job j ≡ length s.sets = omega (arith, long) in
          subst (λ (b : Set). Use b j) (sym (here (ends_before job j) e)) (t.begun-told j l v e).0)
          (lt-or-ge (ends_before job j) (length s.sets))

      ended-silent : (n r : ℕ) → n < length (s.sets ++ (s.begun ∷ [])) → r < length s.used → Silent (suc i) s n r
          → word_of (get_or (s.sets ++ (s.begun ∷ [])) n []) r ≡ zero_word
      ended-silent n r h l x = ⊎_elim
          (λ (a : n < length s.sets).
          ap (λ (b : Set). word_of b r) (there n a) ∙ t.silent n r a l (λ j m v e f. x j (omega arith) v e f))
          (λ (a : length s.sets ≤ n).
          let e : n ≡ length s.sets = omega (arith, long) in
          ap (λ (b : Set). word_of b r) (here n e) ∙ t.begun-silent r l (λ j m v g f. x j (omega arith) v (g ∙ sym e) f))
          (lt-or-ge n (length s.sets))

      tell-end : Telling (suc i) (after_end s)
      unfolding after_end word_of
      tell-end = record {
        good = good-end s t.good;
        ends = count-here end_kind job i k ∙ ap suc t.ends ∙ sym long;
        regions-are = t.regions-are;
        used_low = t.used_low;
        known = up_to (λ j. kind (record_at job j) ≡ value_kind → region_number (record_at job j) < length s.regions) i t.known (λ v. absurd (omega arith));
        in_use = up_to (λ j. kind (record_at job j) ≡ value_kind → has (first_like s.regions (region_number (record_at job j))) s.used ≡ true) i t.in_use (λ v. absurd (omega arith));
        first-use = λ r h. let x = t.first-use r h in record {
          place = x.place;
          within = omega (arith, x.within);
          is-value = x.is-value;
          index_is = x.index_is;
          earlier = x.earlier;
        };
        told = up_to
            (λ j. kind (record_at job j) ≡ value_kind → ends_before job j < length (s.sets ++ (s.begun ∷ []))
            → Use (get_or (s.sets ++ (s.begun ∷ [])) (ends_before job j) []) j)
            i old-told (λ v. absurd (omega arith));
        begun-told = λ j l v e. absurd (omega (arith, none-later j l, long));
        silent = ended-silent;
        begun-silent = λ r l x. refl;
      }

    -- ---- a value record
    module _ (k : kind (record_at job i) ≡ value_kind) (known-here : region_number (record_at job i) < length s.regions)
        (new : has (first_like s.regions (region_number (record_at job i))) s.named ≡ false) where
      abbrev q : ℕ
      q = first_like s.regions (region_number (record_at job i))

      abbrev u : List ℕ
      u = with_use s.used q

      abbrev w : ℕ
      w = value_as_word (record_at job i)

      abbrev b' : Set
      b' = with_value (index_in q u) w s.begun

      abbrev first : ℕ → ℕ
      first j = first_like s.regions (region_number (record_at job j))

      -- a region that the set has named has another index
      differs : (p : ℕ) → has p s.used ≡ true → has p s.named ≡ true → index_in q u ≡ index_in p u → ⊥
      differs p a c e =
          let f : q ≡ p =
          sym (index_at q u (with-has s.used q)) ∙ ap (λ (j : ℕ). get_or u j 0) e ∙ index_at p u (use_kept s.used q p a).0 in
          true-false (ap (λ (x : ℕ). has x s.named) f ∙ c) new

      abbrev Begun : ℕ → Type 0
      Begun j = InUse s.regions u b' (record_at job j) × (has (first j) (q ∷ s.named) ≡ true)

      old-begun : (j : ℕ) → j < i → kind (record_at job j) ≡ value_kind → ends_before job j ≡ length s.sets → Begun j
      old-begun j l v e =
          let x = t.begun-told j l v e in
          let a = use_kept s.used q (first j) x.0.in_use in (
            record {
              in_use = a.0;
              word-is =
                  with-other (index_in q u) w (index_in (first j) u) s.begun (differs (first j) x.0.in_use x.1)
                  ∙ ap (word_of s.begun) a.1 ∙ x.0.word-is;
            },
            has_more (first j) q s.named x.1,
          )

      new-begun : Begun i
      new-begun = (
        record {
          in_use = with-has s.used q;
          word-is = with-here (index_in q u) w s.begun (fresh-differs s.used s.named q s.begun new t.good.proper t.good.fresh);
        },
        has_first q s.named,
      )

      abbrev Silence : ℕ → ℕ → Type 0
      Silence n r = (j : ℕ) → j < suc i → kind (record_at job j) ≡ value_kind → ends_before job j ≡ n → first j ≡ get_or u r 0 → ⊥

      less-silent : (n r : ℕ) → r < length s.used → Silence n r → Silent i s n r
      less-silent n r l x j m v e f = x j (omega arith) v e (f ∙ sym (with-old s.used q r l))

      old-silent : (n r : ℕ) → n < length s.sets → Silence n r → word_of (get_or s.sets n []) r ≡ zero_word
      old-silent n r h x = ⊎_elim
          (λ (a : r < length s.used). t.silent n r h a (less-silent n r a x))
          (λ (a : length s.used ≤ r).
          word-past (length s.used) r (get_or s.sets n []) (all-get_or (Proper (length s.used)) s.sets n [] t.good.sets-proper h) a)
          (lt-or-ge r (length s.used))

      new-silent : (r : ℕ) → Silence (length s.sets) r → word_of b' r ≡ zero_word
      new-silent r x =
          with-other (index_in q u) w r s.begun
          (λ e. x i (omega arith) k t.ends (sym (index_at q u (with-has s.used q)) ∙ ap (λ (j : ℕ). get_or u j 0) e))
          ∙ ⊎_elim
          (λ (a : r < length s.used). t.begun-silent r a (less-silent (length s.sets) r a x))
          (λ (a : length s.used ≤ r). word-past (length s.used) r s.begun t.good.proper a)
          (lt-or-ge r (length s.used))

      -- what was in use has its index still
      index_stays : (j : ℕ) → j < i → kind (record_at job j) ≡ value_kind → index_in (first j) u ≡ index_in (first j) s.used
      index_stays j l v = (use_kept s.used q (first j) (t.in_use j l v)).1

      old-use : (r : ℕ) → r < length s.used → FirstUse job (suc i) (after_value s q w) r
      unfolding after_value
      old-use r h =
          let x = t.first-use r h in
          let p = x.within in
          record {
            place = x.place;
            within = omega arith;
            is-value = x.is-value;
            index_is = index_stays x.place p x.is-value ∙ x.index_is;
            earlier = λ j l v. omega (arith, index_stays j (omega arith) v, x.earlier j l v);
          }

      new-use : (r : ℕ) → r < length u → length s.used ≤ r → FirstUse job (suc i) (after_value s q w) r
      unfolding after_value
      new-use r h a = go (which (has q s.used))
        where
          go : Which (has q s.used) → FirstUse job (suc i) (after_value s q w) r
          go (holds e) = absurd (omega (arith, ap length (with-known s.used q e)))
          go (fails e) =
              let n : r ≡ length s.used = omega (arith, ap length (with-new s.used q e), length-append s.used (q ∷ [])) in
              record {
                place = i;
                within = omega arith;
                is-value = k;
                index_is = ap (index_in q) (with-new s.used q e) ∙ index-snoc-new q s.used e ∙ sym n;
                earlier = λ j l v. omega (arith, index_stays j l v, index_below (first j) s.used (t.in_use j l v));
              }

      tell-value : Telling (suc i) (after_value s q w)
      unfolding after_value
      tell-value = record {
        good = good-value s q w t.good new;
        ends = count_past end_kind job i (λ e. omega arith) ∙ t.ends;
        regions-are = t.regions-are;
        used_low = use-low s.used q (length s.regions) (unfold first_like in like-below s.regions (region_number (record_at job i)) known-here) t.used_low;
        known = up_to (λ j. kind (record_at job j) ≡ value_kind → region_number (record_at job j) < length s.regions) i t.known (λ v. known-here);
        in_use = up_to (λ j. kind (record_at job j) ≡ value_kind → has (first j) u ≡ true) i
            (λ j l v. (use_kept s.used q (first j) (t.in_use j l v)).0) (λ v. with-has s.used q);
        first-use = λ r h. ⊎_elim
            (λ (a : r < length s.used). old-use r a)
            (λ (a : length s.used ≤ r). new-use r h a)
            (lt-or-ge r (length s.used));
        told = up_to
            (λ j. kind (record_at job j) ≡ value_kind → ends_before job j < length s.sets
            → InUse s.regions u (get_or s.sets (ends_before job j) []) (record_at job j))
            i
            (λ j l v h. use-stays s.regions s.used (get_or s.sets (ends_before job j) []) (record_at job j) q (t.told j l v h))
            (λ v h. absurd (omega (arith, t.ends)));
        begun-told = up_to (λ j. kind (record_at job j) ≡ value_kind → ends_before job j ≡ length s.sets → Begun j) i old-begun (λ v e. new-begun);
        silent = λ n r h l x. old-silent n r h x;
        begun-silent = λ r l x. new-silent r x;
      }

-- all that the records of a job have told
pub all_told : (axes mode : ℕ) (job : List ℕ) (records : ℕ) (s : Said) → records_from axes mode job job records 0 in_axes ≡ fine s
    → Telling axes job records s × (s.named ≡ [])
all_told axes mode job records s e =
    walk-keeps axes mode job (Quiet axes job) (Telling axes job)
    (λ i k _ q. quiet-more axes job i q k)
    (λ i _ q. tell-start axes job i (i / axes) q)
    (λ i t k z p.
    let f = value-fine (record_at job i) (length t.regions) (has (first_like t.regions (region_number (record_at job i))) t.named) z in
    tell-value axes job i t p k f.0 f.1)
    (λ i t k p. tell-end axes job i t p k)
    records s (quiet-start axes job) e
