-- What weighing does to the pairs that wait. Assumes nothing.
use mathlib.Core.Path.{◌≡◌, refl, sym, ap, ap₂, subst, ◌∙◌}
use mathlib.Core.Bool.{Bool, not}
use mathlib.Core.Logic.{⊎_elim}
use mathlib.Core.List.{List}
use Prim.Native.Nat.{ℕ, zero, suc, ◌+◌, ◌-◌, ◌*◌, ◌≤◌, ◌<◌}
use native.Mathlib.Omega.{arith}
use lib.Dec.{T, eqb}
use lib.ListN.{length, set}
use borrow.Author.Tests.{eq-eqb, ne_eqb}
use Rattle.laws.specs.Bag.{sum}
use Rattle.laws.specs.LentRange.{Only, Outside}
use Rattle.laws.proofs.Cases.{same_or_not, lt-or-ge}
use Rattle.laws.proofs.BagLaws.{sum-next, sum-zero}
use Rattle.laws.proofs.Products.{product}
use Rattle.shapes.specs.Group.{gain}
use Rattle.pairs.specs.declared.Pair.{Pair}
use Rattle.pairs.specs.LentQueue.{pair_at, Has, SameFrom, Heaped, Numbered, KeptMarked}
use Rattle.pairs.proofs.Sets.{Put, is-put}
use Rattle.pairs.proofs.Content.{behind-has, behind-keeps, behind-only, heaped-has, heaped-only, kept-has, kept-only}
use Rattle.slots.specs.declared.tables.MergeTables.{MergeTables}
use Rattle.slots.specs.Lent.{Laid, group_in}
use Rattle.waits.specs.LentWaits.{room, place_of, group_of, alive, pair_of, Reached, Fair, Waits, Lists, Asked, Offered, OfferedAll, Opening, Opened}
use Rattle.slots.proofs.SlotLaws.{shape-kept, group-is}

-- ---- how many pairs can wait

pub room-is : (n : ℕ) → (n - 1) * (n - 1) ≡ room n
unfolding room
room-is n = refl

pub room-none : (n : ℕ) → n ≡ 0 → room n ≡ 0
unfolding room
room-none n e = rw e

pub room_most : (n : ℕ) → n ≤ 1024 → room n ≤ 1046529
unfolding room
room_most n h = product 1023 1023 {a = n - 1} {b = n - 1} (omega arith) (omega arith)

-- ---- what a test of the code says

pub not-zero : (n : ℕ) → T (not (eqb n 0)) → n ≡ 0 → ⊥
not-zero n h e = subst (λ (b : Bool). T (not b)) (eq-eqb n 0 e) h

-- ---- living or dead

pub alive-none : (t : MergeTables) (w : List ℕ) (c : ℕ) → place_of t w c ≡ 0 → alive t w c ≡ 0
unfolding alive
alive-none t w c e = rw (eq-eqb (place_of t w c) 0 e)

pub alive-one : (t : MergeTables) (w : List ℕ) (c : ℕ) → (place_of t w c ≡ 0 → ⊥) → alive t w c ≡ 1
unfolding alive
alive-one t w c e = rw (ne_eqb (place_of t w c) 0 e)

pub alive-same : (t : MergeTables) (w w' : List ℕ) (c : ℕ) → place_of t w' c ≡ place_of t w c → alive t w' c ≡ alive t w c
unfolding alive
alive-same t w w' c e = rw e

pub sum_mono : (a : ℕ → ℕ) (n m : ℕ) → n ≤ m → sum a n ≤ sum a m
unfolding sum
sum_mono a n zero h = let e : n ≡ 0 = omega arith in rw e (omega arith)
sum_mono a n (suc m) h = ⊎_elim (λ (l : n < suc m). omega (arith, sum_mono a n m (omega arith))) (λ g. let e : n ≡ suc m = omega arith in rw e (omega arith)) (lt-or-ge n (suc m))

-- ---- frames

-- a slot whose words and count did not change holds the same group
pub group-kept : {rs : List (ℕ × ℕ)} (t : MergeTables) (w w' : List ℕ) (s : ℕ) → Laid t (length w) → s < t.groups → Only rs w w'
    → ((k : ℕ) → t.slots + s * t.regions ≤ k → k < t.slots + s * t.regions + t.regions → Outside rs k) → Outside rs (t.counts + s) → group_in t w' s ≡ group_in t w s
group-kept t w w' s h l p o q = group-is t w w' s (shape-kept t w w' s h l p o) (p.kept (t.counts + s) q)

pub group-of-kept : (t : MergeTables) (w w' : List ℕ) (c : ℕ) → 0 < t.groups → place_of t w c ≤ t.groups → place_of t w' c ≡ place_of t w c
    → ((s : ℕ) → s < t.groups → group_in t w' s ≡ group_in t w s) → group_of t w' c ≡ group_of t w c
unfolding group_of
group-of-kept t w w' c p l e f = ap (λ (x : ℕ). group_in t w' (x - 1)) e ∙ f (place_of t w c - 1) (omega arith)

-- ---- weighing k with c

reached-less : (k c a b : ℕ) → Reached k (c + 1) a b → (b ≡ k → a ≡ c → ⊥) → Reached k c a b
reached-less k c a b r n = record { order = r.order; below = r.below; last = λ e. let l = r.last e in let d = n e in ⊎_elim (λ (x : a ≡ c). absurd (d x)) (λ x. omega arith) (same_or_not a c) }

reached-more : (k c a b : ℕ) → Reached k c a b → Reached k (c + 1) a b
reached-more k c a b r = record { order = r.order; below = r.below; last = λ e. let l = r.last e in omega arith }

fair-more : (t : MergeTables) (w : List ℕ) (k c : ℕ) (q : Pair) → Fair t k c w q → Fair t k (c + 1) w q
fair-more t w k c q f = record { reached = reached-more k c q.first q.second f.reached; some = f.some; is = f.is }

pub considered : (t : MergeTables) (w : List ℕ) (c k g : ℕ) → (place_of t w c ≡ 0 → ⊥) → g ≡ gain (group_in t w (place_of t w c - 1)) (group_in t w (place_of t w k - 1))
    → (0 < place_of t w c) × ◌≡◌ {A = Pair} (record { gain = g; first = c; second = k }) (pair_of t w c k)
unfolding group_of
considered t w c k g d e = (omega arith, λ i. record { gain = e i; first = c; second = k })

module _ {t : MergeTables} {w : List ℕ} {ps : List Pair} {k c n : ℕ} (h : Lists t k c n w ps) (l : c < k) where
  -- they gain nothing, or c is dead
  lists-same : (0 < place_of t w c → gain (group_of t w c) (group_of t w k) ≡ 0) → Lists t k (c + 1) n w ps
  lists-same z = record {
    all = λ a b r x y u.
        h.all a b
        (reached-less k c a b r
        (λ i j.
        let o : 0 < place_of t w c = omega (arith, ap (place_of t w) j) in
        omega (arith, z o, ap₂ (λ (i j : ℕ). gain (group_of t w i) (group_of t w j)) j i)))
        x y u;
    fair = λ f u. fair-more t w k c f (h.fair f u);
  }

  pub offer-dead : (m : ℕ) → place_of t w c ≡ 0 → Offered t k c n m n m w ps ps
  offer-dead m e = record {
    lists = lists-same (λ o. absurd (omega arith));
    weighed = omega (arith, alive-none t w c e);
    few = omega arith;
    more = omega arith;
    front = λ i _. refl;
    rest = λ i _. refl;
  }

  module _ {p : Pair} (lives : 0 < place_of t w c) (p-is : p ≡ pair_of t w c k) where
    pub offer-one : alive t w c ≡ 1
    offer-one = alive-one t w c (λ e. omega (arith, lives))

    gain-is : p.gain ≡ gain (group_of t w c) (group_of t w k)
    gain-is = ap (λ (q : Pair). q.gain) p-is

    first-is : p.first ≡ c
    first-is = ap (λ (q : Pair). q.first) p-is

    second_is : p.second ≡ k
    second_is = ap (λ (q : Pair). q.second) p-is

    pub offer-none : (m : ℕ) → p.gain ≡ 0 → Offered t k c n m n (m + 1) w ps ps
    offer-none m z = record {
      lists = lists-same (λ _. sym gain-is ∙ z);
      weighed = omega (arith, offer-one);
      few = omega arith;
      more = omega arith;
      front = λ i _. refl;
      rest = λ i _. refl;
    }

    -- they gain
    module _ (d : p.gain ≡ 0 → ⊥) where
      pair_same : pair_of t w c k ≡ p
      pair_same = sym p-is

      own : Fair t k (c + 1) w p
      own = record {
        reached = record { order = omega (arith, first-is, second_is); below = omega (arith, second_is); last = λ e. omega (arith, first-is) };
        some = omega arith;
        is = λ x y. p-is ∙ ap₂ (pair_of t w) (sym first-is) (sym second_is);
      }

      lists-more : {ps' : List Pair} → Put ps n p ps' → Lists t k (c + 1) (n + 1) w ps'
      lists-more {ps'} s = record {
        all = λ a b r x y z. ⊎_elim
            (λ (i : b ≡ k). ⊎_elim
            (λ (j : a ≡ c). subst (Has ps' (n + 1)) (sym (ap₂ (pair_of t w) j i ∙ pair_same)) (behind-has s))
            (λ j. behind-keeps s (h.all a b (reached-less k c a b r (λ _ f. j f)) x y z))
            (same_or_not a c))
            (λ i. behind-keeps s (h.all a b (reached-less k c a b r (λ f _. i f)) x y z))
            (same_or_not b k);
        fair = λ f z. ⊎_elim
            (λ (e : f ≡ p). subst (Fair t k (c + 1) w) (sym e) own)
            (λ e. fair-more t w k c f (h.fair f e))
            (behind-only s z);
      }

      pub offer-append : (m : ℕ) (ps' : List Pair) (n' : ℕ) → n + alive t w c ≤ room t.groups → room t.groups ≤ length ps → n' ≡ n + 1 → ps' ≡ set ps n p → Offered t k c n m n' (m + 1) w ps ps'
      offer-append m ps' n' fits enough e made =
          let u = offer-one in
          let s = is-put ps ps' n p (omega arith) made in
          record {
            lists = rw e (lists-more s);
            weighed = omega (arith, u);
            few = omega arith;
            more = omega arith;
            front = λ i j. s.other i (omega arith);
            rest = λ i j. s.other i (omega arith);
          }

-- ---- weighing k with each number below it

-- what waits, without its order
lists_of : {t : MergeTables} {k c n : ℕ} {w : List ℕ} {ps : List Pair} → Waits t k c n w ps → Lists t k c n w ps
lists_of h = record { all = h.all; fair = h.fair }

-- and in heap order
waits-of : {t : MergeTables} {k c n : ℕ} {w : List ℕ} {ps ps' : List Pair} → Lists t k c n w ps → Heaped ps n ps' → Waits t k c n w ps'
waits-of h s = record { ordered = s.ordered; all = λ a b r x y z. heaped-has s (h.all a b r x y z); fair = λ q u. h.fair q (heaped-only s u) }

-- the first n pairs wait in heap order as they did; those behind them, up to n', are new
pub record Offering (t : MergeTables) (k n m : ℕ) (w : List ℕ) (ps₀ ps : List Pair) (n' m' c : ℕ) : Type 0 where
  pub within : c ≤ k
  pub lists : Lists t k c n' w ps
  pub weighed : m' ≡ m + sum (alive t w) c
  pub few : n' ≤ n + sum (alive t w) c
  pub more : n ≤ n'
  pub front : (i : ℕ) → i < n → pair_at ps i ≡ pair_at ps₀ i
  pub rest : SameFrom ps₀ (room t.groups) ps

module _ {t : MergeTables} {k n : ℕ} {w : List ℕ} {ps₀ : List Pair} (h : Asked t k 0 n w ps₀) where
  pub offering-start : (m : ℕ) → Offering t k n m w ps₀ ps₀ n m 0
  offering-start m =
      let z = sum-zero (alive t w) 0 (λ k l. absurd (omega arith)) in
      record { within = omega arith; lists = lists_of h.waits; weighed = omega arith; few = omega arith; more = omega arith; front = λ i _. refl; rest = λ i _. refl }

  module _ {m n' m' c : ℕ} {ps : List Pair} (o : Offering t k n m w ps₀ ps n' m' c) where
    below : c < k → sum (alive t w) c + alive t w c ≤ sum (alive t w) k
    below l = omega (arith, sum-next (alive t w) c, sum_mono (alive t w) (c + 1) k (omega arith))

    pub offering-room : (r : ℕ) → c < k → n + sum (alive t w) k ≤ r → m + sum (alive t w) k ≤ r → (n' + alive t w c ≤ r) × (m' + alive t w c ≤ r)
    offering-room r l x y = (omega (arith, below l, o.few), omega (arith, below l, o.weighed))

    pub offering-more : (ps' : List Pair) (n'' m'' : ℕ) → c < k → Offered t k c n' m' n'' m'' w ps ps' → Offering t k n m w ps₀ ps' n'' m'' (c + 1)
    offering-more ps' n'' m'' l p =
        let s = sum-next (alive t w) c in
        record {
          within = omega arith;
          lists = p.lists;
          weighed = omega (arith, p.weighed, o.weighed);
          few = omega (arith, p.few, o.few);
          more = omega (arith, p.more, o.more);
          front = λ i j. p.front i (omega (arith, o.more)) ∙ o.front i j;
          rest = λ i j. p.rest i j ∙ o.rest i j;
        }

    -- what raising them asks
    pub offering-few : (r : ℕ) → n + sum (alive t w) k ≤ r → n' ≤ r
    offering-few r x = omega (arith, o.few, sum_mono (alive t w) c k o.within)

    pub offering-done : {ps' : List Pair} → k ≤ c → n + sum (alive t w) k ≤ room t.groups → Heaped ps n' ps' → OfferedAll t k n m n' m' w ps₀ ps'
    offering-done l fits s =
        let e : c ≡ k = omega (arith, o.within) in
        record {
          waits = waits-of (rw e at o.lists) s;
          weighed = rw e at o.weighed;
          few = rw e at o.few;
          rest = λ i j. s.rest i (omega (arith, offering-few (room t.groups) fits)) ∙ o.rest i j;
        }

-- all below k are weighed with each other
pub waits-next : (t : MergeTables) (w : List ℕ) (ps : List Pair) (k n : ℕ) → Waits t k k n w ps → Waits t (k + 1) 0 n w ps
waits-next t w ps k n h = record {
  ordered = h.ordered;
  all = λ a b r x y z.
      let o = r.order in
      let l : b ≤ k = ⊎_elim (λ (e : b ≡ k + 1). absurd (omega (arith, r.last e))) (λ d. omega (arith, r.below)) (same_or_not b (k + 1)) in
      h.all a b (record { order = o; below = l; last = λ e. omega arith }) x y z;
  fair = λ q u.
      let f = h.fair q u in
      let r = f.reached in
      record { reached = record { order = r.order; below = omega (arith, r.below); last = λ e. absurd (omega (arith, r.below)) }; some = f.some; is = f.is };
}

-- ---- weighing each pair of the starting groups

pub record Opens (t : MergeTables) (w : List ℕ) (ps₀ ps : List Pair) (n m k : ℕ) : Type 0 where
  pub within : k ≤ t.groups
  pub waits : Waits t k 0 n w ps
  pub weighed : 2 * m + k ≡ k * k
  pub few : n ≤ m
  pub rest : SameFrom ps₀ (room t.groups) ps

pub sum_ones : (a : ℕ → ℕ) (k : ℕ) → ((c : ℕ) → c < k → a c ≡ 1) → sum a k ≡ k
unfolding sum
sum_ones a zero h = refl
sum_ones a (suc k) h = omega (arith, sum_ones a k (λ c l. h c (omega arith)), h k (omega arith))

pub open-arith : (k n m : ℕ) → k < n → 2 * m + k ≡ k * k → m + k ≤ room n
unfolding room
open-arith zero n m l e = omega arith
open-arith (suc k) n m l e =
    let p : suc k * suc k ≤ (n - 1) * (n - 1) = product (n - 1) (n - 1) {a = suc k} {b = suc k} (omega arith) (omega arith) in
    omega arith

module _ {t : MergeTables} {w : List ℕ} (h : Opening t w) (ps₀ : List Pair) where
  module _ {ps : List Pair} {n m k : ℕ} (o : Opens t w ps₀ ps n m k) where
    ones : k ≤ t.groups → sum (alive t w) k ≡ k
    ones l = sum_ones (alive t w) k (λ c q. alive-one t w c (λ z. omega (arith, h.living c (omega arith))))

    pub opens-room : k < t.groups → (n + sum (alive t w) k ≤ room t.groups) × (m + sum (alive t w) k ≤ room t.groups)
    opens-room l =
        let s = ones (omega arith) in
        let a = open-arith k t.groups m l o.weighed in
        (omega (arith, o.few), omega arith)

    pub opens-more : (ps' : List Pair) (n' m' : ℕ) → k < t.groups → OfferedAll t k n m n' m' w ps ps' → Opens t w ps₀ ps' n' m' (k + 1)
    opens-more ps' n' m' l p =
        let s = ones (omega arith) in
        record {
          within = omega arith;
          waits = waits-next t w ps' k n' p.waits;
          weighed = omega (arith, p.weighed, o.weighed);
          few = omega (arith, p.weighed, p.few, o.few);
          rest = λ i j. p.rest i j ∙ o.rest i j;
        }

    pub opens-done : t.groups ≤ k → Opened t n m w ps₀ ps
    opens-done l =
        let e : k ≡ t.groups = omega (arith, o.within) in
        record { waits = rw e at o.waits; weighed = rw e at o.weighed; few = o.few; rest = o.rest }

-- ---- the pairs of dead groups dropped: a living number's place is its mark

-- what waits is still all there
pub waits_kept : {t : MergeTables} {k n r : ℕ} {w : List ℕ} {ps ps' : List Pair} → Waits t k 0 n w ps → KeptMarked w t.place ps n r ps' → Waits t k 0 r w ps'
waits_kept h u = record {
  ordered = u.ordered;
  all = λ a b r x y z. kept-has u (h.all a b r x y z) x y;
  fair = λ q v. h.fair q (kept-only u v);
}

-- the numbers of what waits are known
pub waits-numbered : {t : MergeTables} {k n : ℕ} {w : List ℕ} {ps : List Pair} → Laid t (length w) → k ≤ 2 * t.groups → Waits t k 0 n w ps → Numbered w t.place ps n
waits-numbered {t} {k} {n} {w} {ps} d f h i l =
    let r = (h.fair (pair_at ps i) (record { place = i; below = l; here = refl })).reached in
    let b : (pair_at ps i).second < k = ⊎_elim (λ (e : (pair_at ps i).second ≡ k). absurd (omega (arith, r.last e))) (λ d. omega (arith, r.below)) (same_or_not (pair_at ps i).second k) in
    (omega (arith, r.order, d), omega (arith, d))
