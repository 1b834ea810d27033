-- The best pair lives and is joined: what the code does is the rule's step. Assumes nothing.
use mathlib.Core.Path.{◌≡◌, refl, sym, ap, ap₂, subst, ◌∙◌}
use mathlib.Core.Logic.{◌≢◌, ◌⊎◌, inl, inr, ⊎_elim}
use mathlib.Core.List.Memᴰ
use mathlib.Core.List.{List, [], ◌∷◌, ◌++◌, Memᴰ}
use Prim.Native.Nat.{ℕ, suc, ◌+◌, ◌-◌, ◌*◌, ◌≤◌, ◌<◌}
use native.Mathlib.Numerals.{add-one}
use native.Mathlib.Omega.{arith}
use lib.ListN.{length, get_or, length-append}
use Rattle.laws.specs.Bag.{sum}
use Rattle.laws.specs.Every.{All}
use Rattle.laws.specs.LentRange.{seg}
use Rattle.laws.proofs.Cases.{same_or_not, Tri, tri}
use Rattle.laws.proofs.Cases.Tri.{below, same, above}
use Rattle.laws.proofs.BagLaws.{sum-next, sum-two}
use Rattle.laws.proofs.EveryLaws.{all-imp, all-and, all_append}
use Rattle.laws.proofs.RangeLaws.{seg-add}
use Rattle.shapes.specs.Group.{Group, gain, joined}
use Rattle.rule.specs.Model.{Living, Pair, Entry, State, Ahead, gain_of, joined_as, entry, merge, start, run, total, pairs}
use Rattle.rule.specs.Told.{Among, words}
use Rattle.rule.proofs.PairLaws.{pairs-sum, pairs-length}
use Rattle.rule.proofs.Theorems.{run-sets, run-count, weighed-most, merge-total}
use Rattle.rule.proofs.Bridge.{Rising, run-numbered, has, living_pair, pairs-has, choice-is, without, without_all, without-mem, two-intro, step_is, run_step}
use Rattle.pairs.specs.declared.Pair.{Pair as Waiting}
use Rattle.pairs.specs.LentQueue.{Has}
use Rattle.slots.specs.declared.tables.MergeTables.{MergeTables}
use Rattle.slots.specs.Lent.{group_in}
use Rattle.waits.specs.LentWaits.{room, place_of, group_of, alive, pair_of, Placed, Reached, Waits, Asked, OfferedAll}
use Rattle.merging.specs.LentHeld.{Lives, Reaches, Held, Standing, Chosen, Joinable, PairJoined}
use Rattle.merging.specs.LentHeld.Reaches.{here, onto}
use Rattle.waits.proofs.WaitLaws.{room-is, alive-none, alive-one, alive-same, waits-next}
use Rattle.merging.proofs.HeldLaws.{merges-few}

module _ (t : MergeTables) (xs : List Group) (n m j z : ℕ) (p : Waiting) (w : List ℕ) (ps : List Waiting) (c : Chosen t xs n m j z p w ps)
    (x : 0 < place_of t w p.first) (y : 0 < place_of t w p.second) where
  abbrev k : ℕ
  k = t.groups + j

  abbrev s : State
  s = run j (start xs)

  order : p.first < p.second
  order = c.own.reached.order

  bound : p.second < k
  bound = ⊎_elim (λ (e : p.second ≡ k). absurd (omega (arith, c.own.reached.last e))) (λ d. omega (arith, c.own.reached.below)) (same_or_not p.second k)

  most : k ≤ 2 * t.groups
  most = merges-few t xs j w c.many c.held

  among_first : Among s.living p.first
  among_first = c.held.found p.first (omega (arith, order, bound)) x

  among_second : Among s.living p.second
  among_second = c.held.found p.second bound y

  abbrev g : Living
  g = among_first.one

  abbrev h : Living
  h = among_second.one

  rising : Rising s.living
  rising = (run-numbered j xs).1

  numbers : All (λ i. i.num < k) s.living
  numbers = all-imp (λ i l. omega (arith, c.held.next-is)) s.living (run-numbered j xs).0

  lives-of : (i : Living) → Memᴰ i s.living → Lives t w i
  lives-of i e = has (Lives t w) s.living c.held.lives i e

  first-is : group_of t w p.first ≡ g.group
  first-is = ap (group_of t w) (sym among_first.num-is) ∙ (lives-of g among_first.here).is

  second_is : group_of t w p.second ≡ h.group
  second_is = ap (group_of t w) (sym among_second.num-is) ∙ (lives-of h among_second.here).is

  gain-is : p.gain ≡ gain_of g h
  gain-is = ap (λ (q : Waiting). q.gain) (c.own.is x y) ∙ ap₂ gain first-is second_is

  gains : 0 < gain_of g h
  gains = omega (arith, gain-is, c.own.some)

  ordered-pair : g.num < h.num
  ordered-pair = omega (arith, among_first.num-is, among_second.num-is, order)

  ahead_of : (a b : Living) → Memᴰ a s.living → Memᴰ b s.living → a.num < b.num → Ahead g h a b
  ahead_of a b ma mb l = ⊎_elim
      (λ (e : gain_of a b ≡ 0). let q = gains in (omega arith, λ u. absurd (omega arith)))
      (λ d.
      let la = lives-of a ma in
      let lb = lives-of b mb in
      let e : gain (group_of t w a.num) (group_of t w b.num) ≡ gain_of a b = ap₂ gain la.is lb.is in
      let nb = has (λ i. i.num < k) s.living numbers b mb in
      let r : Reached k 0 a.num b.num = record { order = l; below = omega arith; last = λ q. absurd (omega arith) } in
      let best = c.best a.num b.num r la.alive lb.alive (omega arith) in
      let pg = gain-is in
      let pa = among_first.num-is in
      let pb = among_second.num-is in (
        omega (arith, best.gain),
        λ u.
            let f = best.first (omega arith) in
            (omega arith, λ v. let i = best.second (omega arith) (omega arith) in omega arith),
      ))
      (same_or_not (gain_of a b) 0)

  abbrev chosen : Pair
  chosen = living_pair g h s.living

  member : Memᴰ chosen (pairs s.living)
  member = pairs-has s.living rising g h among_first.here among_second.here ordered-pair

  stepped : run (j + 1) (start xs) ≡ merge s chosen
  stepped =
      ap (λ (i : ℕ). run i (start xs)) (add-one j) ∙ run_step j (start xs)
      ∙ step_is s rising g h among_first.here among_second.here ordered-pair gains (two-intro (Ahead g h) s.living rising ahead_of)

  abbrev left : List Living
  left = without h.num (without g.num s.living)

  left-length : length s.living ≡ suc (suc (length left))
  left-length = has _ (pairs s.living) (pairs-length s.living) chosen member

  some-groups : 0 < t.groups
  some-groups = omega (arith, bound, most)

  -- two live, and each merge before this one took one away
  merge-room : j + 1 < t.groups
  merge-room = omega (arith, run-count j xs, left-length, c.held.log-long, c.many)

  pub joinable : Joinable t j p w
  joinable = record {
    sound = c.held.sound;
    room = merge-room;
    order = order;
    below = bound;
    first-lives = x;
    first_slot = c.held.placed.within p.first (omega (arith, order, bound));
    second-lives = y;
    second-slot = c.held.placed.within p.second bound;
    apart = λ e. c.held.apart p.first p.second order bound x e;
    sets-few =
        let f : Living → ℕ = λ i. i.group.sets in
        let a = has _ (pairs s.living) (pairs-sum f s.living) chosen member in
        let b = run-sets j xs in
        omega (arith, a, b, c.sets-few, ap (λ (i : Group). i.sets) first-is, ap (λ (i : Group). i.sets) second_is);
  }

  pub gain-fits : p.gain ≤ z
  gain-fits =
      let e = merge-total s chosen (choice-is s.living rising chosen member gains (two-intro (Ahead g h) s.living rising ahead_of)) in
      let u = c.size_is in
      let v = gain-is in
      omega arith

  module _ (w₃ : List ℕ) (r : PairJoined t j p w w₃) where
    not_first : (i : ℕ) → 0 < place_of t w₃ i → i ≢ p.first
    not_first i a e = omega (arith, r.first-dead, ap (place_of t w₃) e)

    not-second : (i : ℕ) → 0 < place_of t w₃ i → i ≢ p.second
    not-second i a e = omega (arith, r.second-dead, ap (place_of t w₃) e)

    slots-differ : (i : ℕ) → i < k → i ≢ p.first → 0 < place_of t w i → place_of t w i ≢ place_of t w p.first
    slots-differ i l d a e = go (tri i p.first)
      where
        go : Tri i p.first → ⊥
        go (below q) = c.held.apart i p.first q (omega (arith, order, bound)) a e
        go (same q) = d q
        go (above q) = c.held.apart p.first i q l x (sym e)

    -- a number that stays has its slot and its group
    stays : (i : ℕ) → i < k → i ≢ p.first → i ≢ p.second → place_of t w₃ i ≡ place_of t w i
    stays i l d e = r.others i d e l

    group-stays : (i : ℕ) → i < k → i ≢ p.first → i ≢ p.second → 0 < place_of t w i → group_of t w₃ i ≡ group_of t w i
    unfolding group_of
    group-stays i l d e a =
        let q = c.held.placed.within i l in
        let u = slots-differ i l d a in
        ap (λ (v : ℕ). group_in t w₃ (v - 1)) (stays i l d e) ∙ r.other-slots (place_of t w i - 1) (omega arith) (λ f. u (omega arith))

    pair-stays : (a b : ℕ) → a < k → b < k → 0 < place_of t w₃ a → 0 < place_of t w₃ b → pair_of t w₃ a b ≡ pair_of t w a b
    pair-stays a b la lb u v =
        let ea = stays a la (not_first a u) (not-second a u) in
        let eb = stays b lb (not_first b v) (not-second b v) in
        let ga = group-stays a la (not_first a u) (not-second a u) (omega arith) in
        let gb = group-stays b lb (not_first b v) (not-second b v) (omega arith) in
        λ i. record { gain = gain (ga i) (gb i); first = a; second = b }

    waits₃ : Waits t k 0 n w₃ ps
    waits₃ = record {
      ordered = c.ordered;
      all = λ a b q u v f.
          let lb = below_of a b q in
          let la : a < k = omega (arith, q.order) in
          let e = pair-stays a b la lb u v in
          let u' : 0 < place_of t w a = omega (arith, stays a la (not_first a u) (not-second a u)) in
          let v' : 0 < place_of t w b = omega (arith, stays b lb (not_first b v) (not-second b v)) in
          let f' : 0 < gain (group_of t w a) (group_of t w b) = omega (arith, ap (λ (i : Waiting). i.gain) e) in
          subst (Has ps n) (sym e)
          (⊎_elim (λ (i : pair_of t w a b ≡ p). absurd (not_first a u (ap (λ (o : Waiting). o.first) i))) (λ i. i) (c.rest a b q u' v' f'));
      fair = λ q u.
          let f = c.fair q u in
          let lb = below_of q.first q.second f.reached in
          let la : q.first < k = omega (arith, f.reached.order) in
          record {
            reached = f.reached;
            some = f.some;
            is = λ a b.
                let a' : 0 < place_of t w q.first = omega (arith, stays q.first la (not_first q.first a) (not-second q.first a)) in
                let b' : 0 < place_of t w q.second = omega (arith, stays q.second lb (not_first q.second b) (not-second q.second b)) in
                f.is a' b' ∙ sym (pair-stays q.first q.second la lb a b);
          };
    }
      where
        below_of : (a b : ℕ) → Reached k 0 a b → b < k
        below_of a b q = ⊎_elim (λ (e : b ≡ k). absurd (omega (arith, q.last e))) (λ d. omega (arith, q.below)) (same_or_not b k)

    new-lives : 0 < place_of t w₃ k
    new-lives = omega (arith, r.new, x)

    placed₃ : Placed t (k + 1) w₃
    placed₃ = record {
      within = λ i l. ⊎_elim
          (λ (e : i ≡ k). rw e (omega (arith, r.new, joinable.first_slot)))
          (λ d. ⊎_elim
          (λ (e : i ≡ p.first). rw e (omega (arith, r.first-dead)))
          (λ f. ⊎_elim
          (λ (e : i ≡ p.second). rw e (omega (arith, r.second-dead)))
          (λ u. let v : i < k = omega arith in omega (arith, stays i v f u, c.held.placed.within i v))
          (same_or_not i p.second))
          (same_or_not i p.first))
          (same_or_not i k);
    }

    pub joined-asked : Asked t k 0 n w₃ ps
    joined-asked = record { weighable = record { sound = r.sound; placed = placed₃; living = new-lives; known = omega (arith, merge-room) }; waits = waits₃ }

    -- as many are weighed as are left
    left-count : sum (alive t w₃) k ≡ length left
    left-count =
        let q = sum-two (alive t w) (alive t w₃) k p.first p.second order bound (λ i l d e. alive-same t w w₃ i (stays i l d e)) in
        let a1 = alive-one t w p.first (λ e. omega (arith, x)) in
        let a2 = alive-one t w p.second (λ e. omega (arith, y)) in
        let a3 = alive-none t w₃ p.first r.first-dead in
        let a4 = alive-none t w₃ p.second r.second-dead in
        omega (arith, left-length, c.held.counted)

    weighed-next : (run (j + 1) (start xs)).weighed ≡ m + length left
    weighed-next = ap (λ (i : State). i.weighed) stepped ∙ go
      where
        go : (merge s chosen).weighed ≡ m + length left
        go = unfold merge in ap (λ (i : ℕ). i + length left) (sym c.weighed)

    pub joined-room : (n + sum (alive t w₃) k ≤ room t.groups) × (m + sum (alive t w₃) k ≤ room t.groups)
    joined-room =
        let b = weighed-most (j + 1) xs (t.groups - 1) (omega (arith, c.many, some-groups)) in
        let e = room-is t.groups in
        let l = left-count in
        let u = weighed-next in
        (omega (arith, c.few), omega arith)

    -- ---- the state that the step leads to

    next_one : t.groups + j + 1 ≡ t.groups + (j + 1)
    next_one = omega arith

    abbrev Stay : Living → Type 0
    Stay i = ((Lives t w i × (i.num < k)) × (i.num ≢ g.num)) × (i.num ≢ h.num)

    stay-first : (i : Living) → Stay i → i.num ≢ p.first
    stay-first i q e = q.0.1 (e ∙ sym among_first.num-is)

    stay-second : (i : Living) → Stay i → i.num ≢ p.second
    stay-second i q e = q.1 (e ∙ sym among_second.num-is)

    stay_all : All Stay left
    stay_all =
        without_all _ h.num (without g.num s.living)
        (without_all _ g.num s.living (all-and (Lives t w) (λ i. i.num < k) s.living c.held.lives numbers))

    stay-lives : (i : Living) → Stay i → Lives t w₃ i
    stay-lives i q =
        let l = q.0.0.0 in
        let e = stays i.num q.0.0.1 (stay-first i q) (stay-second i q) in
        record {
          known = l.known;
          alive = omega (arith, l.alive);
          slot = omega (arith, l.slot);
          is = group-stays i.num q.0.0.1 (stay-first i q) (stay-second i q) l.alive ∙ l.is;
        }

    abbrev new : Living
    new = joined_as s.next g h

    new_is : Lives t w₃ new
    new_is = rw c.held.next-is (record {
      known = omega (arith, merge-room);
      alive = new-lives;
      slot = omega (arith, r.new, joinable.first_slot);
      is = r.became ∙ ap₂ joined first-is second_is;
    })

    lives₃ : All (Lives t w₃) (left ++ (new ∷ []))
    lives₃ = all_append (Lives t w₃) left (new ∷ []) (all-imp stay-lives left stay_all) (new_is, tt)

    found₃ : (i : ℕ) → i < t.groups + (j + 1) → 0 < place_of t w₃ i → Among (left ++ (new ∷ [])) i
    found₃ i l a = ⊎_elim
        (λ (e : i ≡ k). record { one = new; here = Memᴰ.append_right left (Memᴰ.head refl); num-is = c.held.next-is ∙ sym e })
        (λ d.
        let v : i < k = omega arith in
        let o = c.held.found i v (omega (arith, stays i v (not_first i a) (not-second i a))) in
        record {
          one = o.one;
          here = Memᴰ.append_left (new ∷ [])
              (without-mem h.num (without g.num s.living) o.one
              (without-mem g.num s.living o.one o.here (λ e. not_first i a (sym o.num-is ∙ e ∙ among_first.num-is)))
              (λ e. not-second i a (sym o.num-is ∙ e ∙ among_second.num-is)));
          num-is = o.num-is;
        })
        (same_or_not i k)

    apart₃ : (a b : ℕ) → a < b → b < t.groups + (j + 1) → 0 < place_of t w₃ a → place_of t w₃ a ≡ place_of t w₃ b → ⊥
    apart₃ a b l q u e =
        let la : a < k = omega arith in
        let ea = stays a la (not_first a u) (not-second a u) in
        ⊎_elim
        (λ (f : b ≡ k). slots-differ a la (not_first a u) (omega arith) (sym ea ∙ e ∙ ap (place_of t w₃) f ∙ r.new))
        (λ d.
        let lb : b < k = omega arith in
        let v : 0 < place_of t w₃ b = omega arith in
        c.held.apart a b l lb (omega arith) (sym ea ∙ e ∙ stays b lb (not_first b v) (not-second b v)))
        (same_or_not b k)

    counted₃ : sum (alive t w₃) (t.groups + (j + 1)) ≡ length (left ++ (new ∷ []))
    counted₃ =
        let a = alive-one t w₃ k (λ e. omega (arith, new-lives)) in
        let b = sum-next (alive t w₃) k in
        let d = left-count in
        let e = ap (sum (alive t w₃)) next_one in
        let f = length-append left (new ∷ []) in
        omega arith

    words-end : (l : List Entry) (e : Entry) → words (l ++ (e ∷ [])) ≡ words l ++ (e.first ∷ e.second ∷ e.gain ∷ [])
    unfolding words
    words-end [] e = refl
    words-end (i ∷ l) e = ap (λ (o : List ℕ). i.first ∷ i.second ∷ i.gain ∷ o) (words-end l e)

    log₃ : seg t.log (3 * (j + 1)) w₃ ≡ words (s.log ++ (entry chosen ∷ []))
    unfolding entry
    log₃ =
        let e : 3 * (j + 1) ≡ 3 * j + 3 = omega arith in
        ap (λ (i : ℕ). seg t.log i w₃) e ∙ seg-add t.log (3 * j) 3 w₃
        ∙ ap₂ ◌++◌ (r.log-old ∙ c.held.log_is) (r.log-new ∙ (λ i. sym among_first.num-is i ∷ sym among_second.num-is i ∷ gain-is i ∷ []))
        ∙ sym (words-end s.log (entry chosen))

    onward₃ : (i : ℕ) → i < t.groups + (j + 1) → place_of t w₃ i ≡ 0 → (i < get_or w₃ (t.into + i) 0) × (get_or w₃ (t.into + i) 0 < t.groups + (j + 1))
    onward₃ i l a = ⊎_elim
        (λ (e : i ≡ p.first). rw e (omega (arith, r.first-into, order, bound), omega (arith, r.first-into)))
        (λ d. ⊎_elim
        (λ (e : i ≡ p.second). rw e (omega (arith, r.second-into, bound), omega (arith, r.second-into)))
        (λ f. ⊎_elim
        (λ (e : i ≡ k). absurd (omega (arith, new-lives, ap (place_of t w₃) e)))
        (λ u.
        let v : i < k = omega arith in
        let o = c.held.onward i v (sym (stays i v d f) ∙ a) in
        let q = r.others-into i d f v in
        (omega arith, omega arith))
        (same_or_not i k))
        (same_or_not i p.second))
        (same_or_not i p.first)

    -- who reached another number reaches it, and who reached one of the two reaches the new one
    reach-other : {i d : ℕ} → Reaches t k w i d → d ≢ p.first → d ≢ p.second → Reaches t (t.groups + (j + 1)) w₃ i d
    reach-other (here i l a) u v = here i (omega arith) (rw (stays i l u v) a)
    reach-other (onto i d l a q) u v =
        let nf : i ≢ p.first = λ e. omega (arith, x, ap (place_of t w) e) in
        let ns : i ≢ p.second = λ e. omega (arith, y, ap (place_of t w) e) in
        onto i d (omega arith) (stays i l nf ns ∙ a) (rw (r.others-into i nf ns l) (reach-other q u v))

    reach-new : {i d : ℕ} → Reaches t k w i d → (d ≡ p.first) ⊎ (d ≡ p.second) → Reaches t (t.groups + (j + 1)) w₃ i k
    reach-new (here i l a) o = ⊎_elim
        (λ (e : i ≡ p.first). onto i k (omega arith) (ap (place_of t w₃) e ∙ r.first-dead) (rw (e, r.first-into) (here k (omega arith) new-lives)))
        (λ (e : i ≡ p.second). onto i k (omega arith) (ap (place_of t w₃) e ∙ r.second-dead) (rw (e, r.second-into) (here k (omega arith) new-lives)))
        o
    reach-new (onto i d l a q) o =
        let nf : i ≢ p.first = λ e. omega (arith, x, ap (place_of t w) e) in
        let ns : i ≢ p.second = λ e. omega (arith, y, ap (place_of t w) e) in
        onto i k (omega arith) (stays i l nf ns ∙ a) (rw (r.others-into i nf ns l) (reach-new q o))

    abbrev Home : Living → Type 0
    Home i = All (λ o. Reaches t k w o i.num) i.origins

    home-of : (i : Living) → Memᴰ i s.living → Home i
    home-of i e = has Home s.living c.held.homes i e

    homes₃ : All (λ i. All (λ o. Reaches t (t.groups + (j + 1)) w₃ o i.num) i.origins) (left ++ (new ∷ []))
    homes₃ =
        let a : All (λ i. ((Home i × (i.num ≢ g.num)) × (i.num ≢ h.num))) left = without_all _ h.num (without g.num s.living) (without_all Home g.num s.living c.held.homes) in
        let old = all-imp (λ i q. all-imp (λ o u. reach-other u (λ e. q.0.1 (e ∙ sym among_first.num-is)) (λ e. q.1 (e ∙ sym among_second.num-is))) i.origins q.0.0) left a in
        let one : All (λ o. Reaches t (t.groups + (j + 1)) w₃ o s.next) g.origins = all-imp (λ o u. rw c.held.next-is (reach-new u (inl among_first.num-is))) g.origins (home-of g among_first.here) in
        let two : All (λ o. Reaches t (t.groups + (j + 1)) w₃ o s.next) h.origins = all-imp (λ o u. rw c.held.next-is (reach-new u (inr among_second.num-is))) h.origins (home-of h among_second.here) in
        all_append _ left (new ∷ []) old (all_append _ g.origins h.origins one two, tt)

    held₃ : Held t (merge s chosen) (j + 1) w₃
    unfolding merge
    held₃ = record {
      sound = r.sound;
      next-is = omega (arith, c.held.next-is);
      log-long = length-append s.log (entry chosen ∷ []) ∙ ap (λ (i : ℕ). i + 1) c.held.log-long;
      placed = rw next_one at placed₃;
      apart = apart₃;
      lives = lives₃;
      found = found₃;
      counted = counted₃;
      log_is = log₃;
      onward = onward₃;
      homes = homes₃;
    }

    size-next : total (run (j + 1) (start xs)).living ≡ z - p.gain
    size-next =
        let e = merge-total s chosen (choice-is s.living rising chosen member gains (two-intro (Ahead g h) s.living rising ahead_of)) in
        let f = ap (λ (i : State). total i.living) stepped in
        let u = c.size_is in
        let v = gain-is in
        omega arith

    pub joined-stands : (ps' : List Waiting) (n' m' : ℕ) → OfferedAll t k n m n' m' w₃ ps ps' → Standing t xs n' m' (j + 1) (z - p.gain) w₃ ps'
    joined-stands ps' n' m' o =
        let e = left-count in
        let u = weighed-next in
        record {
          many = c.many;
          sets-few = c.sets-few;
          held = subst (λ (i : State). Held t i (j + 1) w₃) (sym stepped) held₃;
          waits = rw next_one at (waits-next t w₃ ps' k n' o.waits);
          weighed = omega (arith, o.weighed);
          few = omega (arith, o.weighed, o.few, c.few);
          size_is = sym size-next;
        }

    -- and the queue and the pairs to come are fewer
    pub joined-less : (ps' : List Waiting) (n' m' : ℕ) → OfferedAll t k n m n' m' w₃ ps ps' → (m' ≤ room t.groups) × (n' + m ≤ n + m')
    joined-less ps' n' m' o = (omega (arith, o.weighed, joined-room.1), omega (arith, o.weighed, o.few))
