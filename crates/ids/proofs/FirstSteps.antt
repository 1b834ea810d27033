-- The loops that count up, find firsts and give ids: their invariants and steps. Assumes nothing.
use mathlib.Core.Path.{◌≡◌, refl, sym, ap, ap₂, subst, ◌∙◌}
use mathlib.Core.Bool.{true, false, not}
use mathlib.Core.List.{List, [], ◌∷◌, map}
use mathlib.Core.Logic.{⊎_elim}
use Prim.Native.Nat.{ℕ, ◌+◌, ◌-◌, ◌≤◌, ◌<◌}
use native.Mathlib.Omega.{arith}
use lib.ListN.{length, get_or, take, set, length-map}
use lib.Seq.{ext_get_or, get_or-set_same, get_or-set_other}
use borrow.Author.Tests.{eq-eqb, ne_eqb}
use borrow.Author.Count.{below_more}
use Rattle.std.specs.declared.cmp.Ordering.{Ordering}
use Rattle.std.specs.declared.cmp.Ordering.TheVariants.{Less, Equal, Greater}
use Rattle.laws.specs.Bounded.{up_to}
use Rattle.laws.specs.LentRange.{Apart, Only, seg}
use Rattle.laws.specs.Sorting.{sorted}
use Rattle.laws.proofs.Cases.{same_or_not, lt-or-ge}
use Rattle.laws.proofs.ListLaws.{get_or-map-in}
use Rattle.laws.proofs.UpLaws.{up-long, up_at}
use Rattle.laws.proofs.RangeLaws.{outside-at, only-refl, only-trans, only_set, length-seg, get_or-seg}
use Rattle.sets.specs.Set.{Set}
use Rattle.sets.specs.Order.{order}
use Rattle.sets.specs.Ids.{place, distinct_from, distinct}
use Rattle.sets.specs.Lent.{set_of, Stored, sets_in, at_most, CountedUp}
use Rattle.ids.specs.LentFirsts.{is_same, begins_at, FirstsFit, Firsting, BlockFit, FirstsAt, Resolved, GivesIds}
use Rattle.sets.proofs.IdLaws.{ids-place, first-id, first_count, again-count, again-same, distinct-all-of}
use Rattle.sets.proofs.HeldLaws.{Kept, kept-only, set_same, held_kept, held-stored}
use Rattle.ids.proofs.FirstLaws.{line_at, order_same, begins-first}

-- ---- counting up

pub record Counting (at n : ℕ) (old new : List ℕ) (i : ℕ) : Type 0 where
  pub within : i ≤ n
  pub only : Only ((at, n) ∷ []) old new
  pub done : (k : ℕ) → k < i → get_or new (at + k) 0 ≡ k

module _ (at n : ℕ) (old : List ℕ) (room : at + n ≤ length old) where
  pub count-done : (new : List ℕ) (i : ℕ) → Counting at n old new i → n ≤ i → CountedUp at n old new
  count-done new i c h = record {
    only = c.only;
    is =
        let l = length-seg at n new (omega (arith, c.only.long)) in
        ext_get_or 0 (seg at n new) (up_to n) (l ∙ sym (up-long n))
        (λ k p.
        let m : k < n = omega arith in
        get_or-seg at n new k m ∙ c.done k (omega arith) ∙ sym (up_at n k m));
  }

-- ---- firsts

module _ {index at n first : ℕ} {old : List ℕ} (r : FirstsFit old index at n first) where
  number_is : (p : ℕ) → p < n → get_or old (at + p) 0 ≡ get_or (sorted (at_most old index) r.numbers) p 0
  number_is p h = sym (get_or-seg at n old p h) ∙ ap (λ (l : List ℕ). get_or l p 0) r.line

  pub number-below : (p : ℕ) → p < n → get_or old (at + p) 0 < r.all
  number-below p h = rw (number_is p h) (line_at r.held r.numbers r.low r.rising p (omega (arith, r.many)))

  pub first-start : Firsting index at n first r.all old old 0
  first-start = record { within = omega arith; only = only-refl ((first, r.all) ∷ []) old; done = λ p h. absurd (omega arith); others = λ x h. refl }

  module _ {new : List ℕ} {i : ℕ} (f : Firsting index at n first r.all old new i) where
    kept : Kept r.end old new
    kept = kept-only f.only (omega (arith, r.behind, r.at-to), tt)

    -- the numbers, and the sets they name, are as they were
    pub number_same : (p : ℕ) → p < n → get_or new (at + p) 0 ≡ get_or old (at + p) 0
    number_same p h = f.only.kept (at + p) (record { apart = λ q. absurd (omega (arith, r.at-to)) }, tt)

    pub new-below : (p : ℕ) → p < n → get_or new (at + p) 0 < r.all
    new-below p h = rw (number_same p h) (number-below p h)

    pub new-stored : (p : ℕ) → p < n → Stored new index (get_or new (at + p) 0)
    new-stored p h = held-stored (held_kept r.held kept) (get_or new (at + p) 0) (new-below p h)

    begins-same : i < n → begins_at new index at i ≡ begins_at old index at i
    unfolding begins_at
    begins-same h =
        let j : i - 1 < n = omega arith in
        rw (
          number_same i h,
          number_same (i - 1) j,
          set_same r.held kept (get_or old (at + i) 0) (number-below i h),
          set_same r.held kept (get_or old (at + (i - 1)) 0) (number-below (i - 1) j),
        )

    -- what a true and a false answer say
    begins-true : i < n → begins_at old index at i ≡ true → place (set_of index (get_or old (at + i) 0) old) (sets_in index r.all old) ≡ get_or old (at + i) 0
    unfolding begins_at is_same
    begins-true h e =
        let j : i - 1 < n = omega arith in
        rw (number_is i h) (begins-first r.held r.numbers r.low r.rising r.firsts-in i (omega (arith, r.many))
        (λ p q.
        let a = ap₂ (λ (y z : ℕ). order (set_of index y old) (set_of index z old)) (number_is (i - 1) j) (number_is i h) ∙ q in
        let b = rw (ne_eqb i 0 (omega arith), a) at e in
        let z : ◌≡◌ {A = ℕ} 0 1 = cc in omega arith))

    begins-false : i < n → begins_at old index at i ≡ false → (0 < i) × (set_of index (get_or old (at + (i - 1)) 0) old ≡ set_of index (get_or old (at + i) 0) old)
    unfolding begins_at
    begins-false h e = ⊎_elim
        (λ (p : 0 < i).
        let j : i - 1 < n = omega arith in (
          p,
          order_same r.held (get_or old (at + (i - 1)) 0) (get_or old (at + i) 0) (number-below (i - 1) j) (number-below i h)
              (said (order (set_of index (get_or old (at + (i - 1)) 0) old) (set_of index (get_or old (at + i) 0) old)) (rw (ne_eqb i 0 (omega arith)) at e)),
        ))
        (λ (p : i ≤ 0). let b = rw (eq-eqb i 0 (omega arith)) at e in let z : ◌≡◌ {A = ℕ} 0 1 = cc in absurd (omega arith))
        (lt-or-ge 0 i)
      where
        said : (o : Ordering) → not (is_same o) ≡ false → o ≡ Equal
        said Less h = unfold is_same in let z : ◌≡◌ {A = ℕ} 0 1 = cc in absurd (omega arith)
        said Equal h = refl
        said Greater h = unfold is_same in let z : ◌≡◌ {A = ℕ} 0 1 = cc in absurd (omega arith)

    -- one more, with the right first
    more : (v : ℕ) → i < n → v ≡ place (set_of index (get_or old (at + i) 0) old) (sets_in index r.all old)
        → Firsting index at n first r.all old (set new (first + get_or new (at + i) 0) v) (i + 1)
    more v h e =
        let y = get_or old (at + i) 0 in
        let b : y < r.all = number-below i h in
        rw (number_same i h) (record {
          within = omega arith;
          only = only-trans f.only (only_set ((first, r.all) ∷ []) new (first + y) v (λ o. omega (arith, o.0.apart (omega arith))));
          done = below_more _ _
              (λ p l. ⊎_elim
              (λ (q : get_or old (at + p) 0 ≡ y). rw q (get_or-set_same new (first + y) v 0 (omega (arith, r.room, f.only.long)) ∙ e))
              (λ q. get_or-set_other new (first + y) (first + get_or old (at + p) 0) v 0 (λ z. q (omega arith)) ∙ f.done p l)
              (same_or_not (get_or old (at + p) 0) y))
              (get_or-set_same new (first + y) v 0 (omega (arith, r.room, f.only.long)) ∙ e);
          others = λ x d. get_or-set_other new (first + y) (first + x) v 0 (λ z. d i h (omega arith)) ∙ f.others x d;
        })

    pub first_more : i < n → begins_at new index at i ≡ true → Firsting index at n first r.all old (set new (first + get_or new (at + i) 0) (get_or new (at + i) 0)) (i + 1)
    first_more h e = more (get_or new (at + i) 0) h (number_same i h ∙ sym (begins-true h (sym (begins-same h) ∙ e)))

    pub again-some : i < n → begins_at new index at i ≡ false → 0 < i
    again-some h e = (begins-false h (sym (begins-same h) ∙ e)).0

    pub again-more : i < n → begins_at new index at i ≡ false
        → Firsting index at n first r.all old (set new (first + get_or new (at + i) 0) (get_or new (first + get_or new (at + (i - 1)) 0) 0)) (i + 1)
    again-more h e =
        let b = begins-false h (sym (begins-same h) ∙ e) in
        let j : i - 1 < n = omega arith in
        let k : i - 1 < i = omega (arith, b.0) in
        more (get_or new (first + get_or new (at + (i - 1)) 0) 0) h
        (ap (λ (y : ℕ). get_or new (first + y) 0) (number_same (i - 1) j) ∙ f.done (i - 1) k ∙ ap (λ (s : Set). place s (sets_in index r.all old)) b.1)

    -- a block from here on may be gone through, and what it promises is one step of all
    pub block_fit : {j : ℕ} → i ≤ j → j ≤ n → BlockFit new index at first i j
    block_fit l m = record { old = old; n = n; fit = r; so_far = f; ahead = l; inside = m }

    pub block-done : {j : ℕ} {next : List ℕ} → i ≤ j → j ≤ n
        → ((b : BlockFit new index at first i j) → Firsting index at b.n first b.fit.all b.old next j) → Firsting index at n first r.all old next j
    block-done l m h = h (record { old = old; n = n; fit = r; so_far = f; ahead = l; inside = m })

    pub first_done : n ≤ i → FirstsAt index at n first r.all old new
    first_done h = record { only = f.only; found = λ p l. f.done p (omega arith); others = f.others }

-- a block that was gone through up to i, which is its end
pub block_to : {index at n first all : ℕ} {old new : List ℕ} {i j : ℕ} → Firsting index at n first all old new i → i ≡ j → Firsting index at n first all old new j
block_to {index} {at} {n} {first} {all} {old} {new} f e = subst (λ (k : ℕ). Firsting index at n first all old new k) e f

-- ---- a first's first

-- the words of the first x places are resolved
pub record Resolving (first n : ℕ) (old new : List ℕ) (x : ℕ) : Type 0 where
  pub within : x ≤ n
  pub only : Only ((first, n) ∷ []) old new
  pub same : (k : ℕ) → x ≤ k → k < n → get_or new (first + k) 0 ≡ get_or old (first + k) 0
  pub each : (F : ℕ → ℕ) → ((k : ℕ) → k < n → (F (get_or old (first + k) 0) ≡ F k) × (get_or old (first + k) 0 ≡ k → F k ≡ k)) → (k : ℕ) → k < x → get_or new (first + k) 0 ≡ F k

module _ (first n : ℕ) (old : List ℕ) (room : first + n ≤ length old) (most : (x : ℕ) → x < n → get_or old (first + x) 0 ≤ x) where
  module _ {new : List ℕ} {x : ℕ} (s : Resolving first n old new x) (h : x < n) where
    -- what stands at the number that stands at x
    next-is : (F : ℕ → ℕ) → ((k : ℕ) → k < n → (F (get_or old (first + k) 0) ≡ F k) × (get_or old (first + k) 0 ≡ k → F k ≡ k))
        → (y : ℕ) → y ≡ get_or old (first + x) 0 → y ≤ x → get_or new (first + y) 0 ≡ F x
    next-is F f y e l = ⊎_elim
        (λ (b : y < x). s.each F f y b ∙ ap F e ∙ (f x h).0)
        (λ b. let z : y ≡ x = omega arith in
        ap (λ (k : ℕ). get_or new (first + k) 0) z ∙ s.same x (omega arith) h ∙ sym e ∙ z ∙ sym ((f x h).1 (sym e ∙ z)))
        (lt-or-ge y x)

    pub resolve-more : (y : ℕ) → y ≡ get_or new (first + x) 0 → Resolving first n old (set new (first + x) (get_or new (first + y) 0)) (x + 1)
    resolve-more y e =
        let v = get_or new (first + y) 0 in
        let y-is : y ≡ get_or old (first + x) 0 = e ∙ s.same x (omega arith) h in
        record {
          within = omega arith;
          only = only-trans s.only (only_set ((first, n) ∷ []) new (first + x) v (λ o. omega (arith, o.0.apart (omega arith))));
          same = λ k l b. get_or-set_other new (first + x) (first + k) v 0 (omega arith) ∙ s.same k (omega arith) b;
          each = λ F f. below_more _ _
              (λ k l. get_or-set_other new (first + x) (first + k) v 0 (omega arith) ∙ s.each F f k l)
              (get_or-set_same new (first + x) v 0 (omega (arith, s.only.long)) ∙ next-is F f y y-is (omega (arith, most x h)));
        }

  pub resolve-done : {new : List ℕ} {x : ℕ} → Resolving first n old new x → n ≤ x → Resolved first n old new
  resolve-done s l = record { only = s.only; each = λ F f k h. s.each F f k (omega arith) }

-- ---- giving ids

-- of sets whose firsts stand from `first` on, the first k have their ids, and `next` were given
pub record Given (first ids n : ℕ) (sets : List Set) (old new : List ℕ) (next k : ℕ) : Type 0 where
  pub counts : next ≡ length (distinct (take k sets))
  pub done : (j : ℕ) → j < k → get_or new (ids + j) 0 ≡ place (get_or sets j []) (distinct sets)

pub record Giving (first ids n : ℕ) (old new : List ℕ) (next k : ℕ) : Type 0 where
  pub within : k ≤ n
  pub few : next ≤ k
  pub only : Only ((ids, n) ∷ []) old new
  pub given : (sets : List Set) → length sets ≡ n → ((j : ℕ) → j < n → get_or old (first + j) 0 ≡ place (get_or sets j []) sets) → Given first ids n sets old new next k

module _ (first ids n : ℕ) (old : List ℕ) (room-first : first + n ≤ length old) (room : ids + n ≤ length old) (apart : Apart ids n first n) where
  pub give-start : Giving first ids n old old 0 0
  unfolding distinct_from
  give-start = record {
    within = omega arith;
    few = omega arith;
    only = only-refl ((ids, n) ∷ []) old;
    given = λ sets l f. record { counts = refl; done = λ j h. absurd (omega arith) };
  }

  module _ {new : List ℕ} {next k : ℕ} (g : Giving first ids n old new next k) (h : k < n) where
    pub first-same : get_or new (first + k) 0 ≡ get_or old (first + k) 0
    first-same = g.only.kept (first + k) (outside-at apart (omega arith) (omega arith), tt)

    put : (v : ℕ) → Only ((ids, n) ∷ []) old (set new (ids + k) v)
    put v = only-trans g.only (only_set ((ids, n) ∷ []) new (ids + k) v (λ o. omega (arith, o.0.apart (omega arith))))

    done_more : (v : ℕ) (sets : List Set) → v ≡ place (get_or sets k []) (distinct sets) → ((j : ℕ) → j < k → get_or new (ids + j) 0 ≡ place (get_or sets j []) (distinct sets))
        → (j : ℕ) → j < k + 1 → get_or (set new (ids + k) v) (ids + j) 0 ≡ place (get_or sets j []) (distinct sets)
    done_more v sets e d = below_more _ _
        (λ j l. get_or-set_other new (ids + k) (ids + j) v 0 (omega arith) ∙ d j l)
        (get_or-set_same new (ids + k) v 0 (omega (arith, g.only.long)) ∙ e)

    -- it is the first of its like
    pub give-first : get_or new (first + k) 0 ≡ k → Giving first ids n old (set new (ids + k) next) (next + 1) (k + 1)
    give-first e = record {
      within = omega arith;
      few = omega (arith, g.few);
      only = put next;
      given = λ sets l f.
          let u = g.given sets l f in
          let p : place (get_or sets k []) sets ≡ k = sym (f k h) ∙ sym first-same ∙ e in
          let b : k < length sets = omega arith in
          record {
            counts = omega (arith, u.counts, first_count sets k b p);
            done = done_more next sets (u.counts ∙ sym (first-id sets k b p)) u.done;
          };
    }

    -- an earlier set equals it
    pub give-again : (get_or new (first + k) 0 ≡ k → ⊥) → get_or old (first + k) 0 ≤ k
        → Giving first ids n old (set new (ids + k) (get_or new (ids + get_or new (first + k) 0) 0)) next (k + 1)
    give-again e most = record {
      within = omega arith;
      few = omega (arith, g.few);
      only = put (get_or new (ids + get_or new (first + k) 0) 0);
      given = λ sets l f.
          let u = g.given sets l f in
          let q = first-same in
          let m = f k h in
          let b : k < length sets = omega arith in
          let p : place (get_or sets k []) sets < k = lower (get_or old (first + k) 0) (place (get_or sets k []) sets) m most (λ z. e (q ∙ z)) in
          let at : get_or new (first + k) 0 ≡ place (get_or sets k []) sets = q ∙ m in
          record {
            counts = omega (arith, u.counts, again-count sets k b p);
            done = done_more (get_or new (ids + get_or new (first + k) 0) 0) sets
                (ap (λ (y : ℕ). get_or new (ids + y) 0) at ∙ u.done (place (get_or sets k []) sets) p ∙ ap (λ (s : Set). place s (distinct sets)) (again-same sets k b p))
                u.done;
          };
    }
      where
        lower : (a b : ℕ) → a ≡ b → a ≤ k → (a ≡ k → ⊥) → b < k
        lower a b e l n = ⊎_elim (λ p. p) (λ p. absurd (n (omega arith))) (lt-or-ge b k)

  pub give-done : {new : List ℕ} {next k : ℕ} → Giving first ids n old new next k → n ≤ k → (sets : List Set) → GivesIds first ids n sets old new next
  give-done {new} {next} {k} g h sets = record {
    only = g.only;
    given = λ l f.
        let u = g.given sets l f in
        let s = length-seg ids n new (omega (arith, g.only.long)) in
        ext_get_or 0 (seg ids n new) (map (λ s. place s (distinct sets)) sets) (s ∙ sym (length-map sets (λ s. place s (distinct sets)) ∙ l))
        (λ j p.
        let m : j < n = omega arith in
        get_or-seg ids n new j m ∙ u.done j (omega arith) ∙ sym (get_or-map-in (λ s. place s (distinct sets)) sets j [] 0 (omega arith)))
        ∙ sym (ids-place [] sets);
    count = λ l f. let u = g.given sets l f in u.counts ∙ ap length (distinct-all-of sets k (omega arith));
  }

-- ---- the answers of `begins`

pub begins-none : (w : List ℕ) (index at i : ℕ) → i ≡ 0 → true ≡ begins_at w index at i
unfolding begins_at
begins-none w index at i e = rw (eq-eqb i 0 e)

pub begins-some : (w : List ℕ) (index at i x y : ℕ) (o : Ordering) → (i ≡ 0 → ⊥) → x ≡ get_or w (at + (i - 1)) 0 → y ≡ get_or w (at + i) 0
    → order (set_of index x w) (set_of index y w) ≡ o → not (is_same o) ≡ begins_at w index at i
unfolding begins_at
begins-some w index at i x y o n p q e = rw (ne_eqb i 0 n) (ap (λ (o : Ordering). not (is_same o)) (sym e ∙ ap₂ (λ (a b : ℕ). order (set_of index a w) (set_of index b w)) p q))
