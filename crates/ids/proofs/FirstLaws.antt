-- Of sets sorted stably by number, the one that begins a run of equal ones is the first of them in the job, if all firsts are sorted. Assumes nothing.
use mathlib.Core.Path.{◌≡◌, sym, ap, ◌∙◌}
use mathlib.Core.Bool.{Bool, true, false}
use mathlib.Core.List.{List, [], ◌∷◌}
use mathlib.Core.Logic.{⊎_elim}
use Prim.Native.Nat.{ℕ, zero, suc, ◌-◌, ◌≤◌, ◌<◌}
use native.Mathlib.Omega.{arith}
use lib.ListN.{length, get_or}
use Rattle.std.specs.declared.cmp.Ordering.TheVariants.{Equal}
use Rattle.laws.specs.Every.{All, EachTwo}
use Rattle.laws.specs.Bounded.{tabulate}
use Rattle.laws.specs.Bag.{SameBag}
use Rattle.laws.specs.Order.{is_most}
use Rattle.laws.specs.Sorting.{sorted}
use Rattle.laws.proofs.Cases.{Tri, tri, lt-or-ge}
use Rattle.laws.proofs.Cases.Tri.{below, same, above}
use Rattle.laws.proofs.EveryLaws.{all-get_or, two-get_or}
use Rattle.laws.proofs.BagLaws.{bag-place, bag-length}
use Rattle.laws.proofs.SortLaws.{sorted-two, sorted_all, sorts}
use Rattle.sets.specs.Set.{Set}
use Rattle.sets.specs.Order.{order}
use Rattle.sets.specs.Ids.{place}
use Rattle.sets.specs.Lent.{set_of, Held, sets_in, at_most}
use Rattle.sets.proofs.SetLaws.{order_trans, order-total, order-both, order-self, order-equal}
use Rattle.sets.proofs.IdLaws.{place-first, place_here}
use Rattle.sets.proofs.HeldLaws.{sets-length, sets-at}

-- 0 up to n ascend
rising : (a n : ℕ) → All (λ x. a ≤ x) (tabulate a n (λ k. k))
unfolding tabulate
rising a zero = tt
rising a (suc n) = (omega arith, weaker (tabulate (suc a) n (λ k. k)) (rising (suc a) n))
  where
    weaker : (l : List ℕ) → All (λ x. suc a ≤ x) l → All (λ x. a ≤ x) l
    weaker [] h = tt
    weaker (x ∷ l) h = (omega (arith, h.0), weaker l h.1)

pub up-two : (a n : ℕ) → EachTwo (λ x y. x < y) (tabulate a n (λ k. k))
unfolding tabulate
up-two a zero = tt
up-two a (suc n) = (rising (suc a) n, up-two (suc a) n)

module _ {w : List ℕ} {index n regions end : ℕ} (h : Held w index n regions end) where
  abbrev le : ℕ → ℕ → Bool
  le = at_most w index

  pub le_trans : (x y z : ℕ) → x < n → y < n → z < n → le x y ≡ true → le y z ≡ true → le x z ≡ true
  unfolding at_most
  le_trans x y z p q r = order_trans _ _ _ (h.ascending x p) (h.ascending y q) (h.ascending z r)

  pub le_total : (x y : ℕ) → x < n → y < n → le x y ≡ false → le y x ≡ true
  unfolding at_most
  le_total x y p q = order-total _ _ (h.ascending x p) (h.ascending y q)

  -- equal sets are at most each other, and only they
  le_same : (x y : ℕ) → x < n → set_of index x w ≡ set_of index y w → le x y ≡ true
  unfolding at_most is_most
  le_same x y p e = rw (← e, order-self (set_of index x w) (h.ascending x p))

  pub order_same : (x y : ℕ) → x < n → y < n → order (set_of index x w) (set_of index y w) ≡ Equal → set_of index x w ≡ set_of index y w
  order_same x y p q = order-equal regions _ _ (h.ascending x p) (h.ascending y q) (h.proper x p) (h.proper y q)

  same-order : (x y : ℕ) → x < n → y < n → le x y ≡ true → le y x ≡ true → order (set_of index x w) (set_of index y w) ≡ Equal
  unfolding at_most
  same-order x y p q = order-both _ _ (h.ascending x p) (h.ascending y q)

  module _ (c : List ℕ) (low : All (λ x. x < n) c) (rise : EachTwo (λ x y. x < y) c) where
    abbrev line : List ℕ
    line = sorted le c

    pub line-below : All (λ x. x < n) (sorted (at_most w index) c)
    line-below = sorted_all le (λ x. x < n) c low

    line-two : EachTwo (λ x y. (le x y ≡ true) × (le y x ≡ true → x < y)) line
    line-two = sorted-two le (λ x. x < n) le_trans le_total (λ x y. x < y) c low rise

    line-bag : SameBag (sorted (at_most w index) c) c
    line-bag = (sorts le (λ x. x < n) le_trans le_total c low).permuted

    pub line-length : length (sorted (at_most w index) c) ≡ length c
    line-length = bag-length line c line-bag

    pub line_at : (i : ℕ) → i < length c → get_or (sorted (at_most w index) c) i 0 < n
    line_at i l = all-get_or (λ x. x < n) line i 0 line-below (omega (arith, line-length))

    -- every number stands in the line
    pub line-has : (j : ℕ) → j < length c → (q : ℕ) × (q < length c) × (get_or (sorted (at_most w index) c) q 0 ≡ get_or c j 0)
    line-has j l = let r = bag-place line c line-bag j l in (r.0, omega (arith, r.1, line-length), r.2)

    -- an equal set of a smaller number stands before, and everything between is equal
    before-equal : (i q : ℕ) → i < length c → q < length c → get_or line q 0 < get_or line i 0 → set_of index (get_or line q 0) w ≡ set_of index (get_or line i 0) w
        → (0 < i) × (order (set_of index (get_or line (i - 1) 0) w) (set_of index (get_or line i 0) w) ≡ Equal)
    before-equal i q li lq lt e = go (tri q i)
      where
        x : ℕ
        x = get_or line i 0

        y : ℕ
        y = get_or line q 0

        x-y : le x y ≡ true
        x-y = le_same x y (line_at i li) (sym e)

        go : Tri q i → (0 < i) × (order (set_of index (get_or line (i - 1) 0) w) (set_of index x w) ≡ Equal)
        go (above p) = absurd (omega (arith, (two-get_or (λ a b. (le a b ≡ true) × (le b a ≡ true → a < b)) line i q 0 line-two p (omega (arith, line-length))).1 (le_same y x (line_at q lq) e)))
        go (same p) = absurd (omega (arith, ap (λ (k : ℕ). get_or line k 0) p))
        go (below p) =
            let b : i - 1 < i = omega arith in
            let xm = two-get_or (λ a b. (le a b ≡ true) × (le b a ≡ true → a < b)) line (i - 1) i 0 line-two b (omega (arith, line-length)) in
            (omega arith, same-order (get_or line (i - 1) 0) x (line_at (i - 1) (omega arith)) (line_at i li) xm.0 (up (tri q (i - 1))))
          where
            up : Tri q (i - 1) → le x (get_or line (i - 1) 0) ≡ true
            up (below r) =
                let yz = two-get_or (λ a b. (le a b ≡ true) × (le b a ≡ true → a < b)) line q (i - 1) 0 line-two r (omega (arith, line-length)) in
                le_trans x y (get_or line (i - 1) 0) (line_at i li) (line_at q lq) (line_at (i - 1) (omega arith)) x-y yz.0
            up (same r) = rw (← r) x-y
            up (above r) = absurd (omega arith)

    -- THE LAW: what begins a run is the first of its like
    pub begins-first : ((f : ℕ) → f < n → place (set_of index f w) (sets_in index n w) ≡ f → (q : ℕ) × (q < length c) × (get_or c q 0 ≡ f))
        → (i : ℕ) → i < length c → (0 < i → order (set_of index (get_or (sorted (at_most w index) c) (i - 1) 0) w) (set_of index (get_or (sorted (at_most w index) c) i 0) w) ≡ Equal → ⊥)
        → place (set_of index (get_or (sorted (at_most w index) c) i 0) w) (sets_in index n w) ≡ get_or (sorted (at_most w index) c) i 0
    begins-first first-in i li differs =
        let x = get_or line i 0 in
        let lx = line_at i li in
        let s = set_of index x w in
        let most = place-first s (sets_in index n w) x (omega (arith, sets-length index n w)) (sets-at index n w x lx) in
        ⊎_elim (λ lt. absurd (
        let f = place s (sets_in index n w) in
        let lf : f < n = omega arith in
        let eq : set_of index f w ≡ s = sym (sets-at index n w f lf) ∙ place_here s (sets_in index n w) (omega (arith, sets-length index n w)) in
        let one = first-in f lf (ap (λ (t : Set). place t (sets_in index n w)) eq) in
        let at = line-has one.0 one.1 in
        let is : get_or line at.0 0 ≡ f = at.2 ∙ one.2 in
        let b = before-equal i at.0 li at.1 (rw is lt) (rw is eq) in
        differs b.0 b.1)) (λ ge. omega arith) (lt-or-ge (place s (sets_in index n w)) x)
