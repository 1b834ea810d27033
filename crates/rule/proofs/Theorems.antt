-- The theorems of merging: RULES D3, over the definition of specs/Model.antt. Assumes nothing.
use mathlib.Core.Path.{◌≡◌, refl, sym, ap, ◌∙◌}
use mathlib.Core.Logic.{◌⊎◌, inl, inr, ⊎_elim}
use mathlib.Core.Option.{Option, none, some}
use mathlib.Core.List.{List, [], ◌∷◌, ◌++◌, map, append-nil, append_assoc}
use Prim.Native.Nat.{ℕ, zero, suc, ◌+◌, ◌*◌, ◌-◌, ◌/◌, ◌≤◌, ◌<◌}
use lib.ListN.{length, length-append, length-map}
use native.Mathlib.Omega.{arith}
use native.Mathlib.Decide.{dec_lt}
use Rattle.laws.specs.Bag.{weigh}
use Rattle.laws.specs.Every.{All, EachTwo}
use Rattle.laws.proofs.Cases.{same_or_not}
use Rattle.laws.proofs.EveryLaws.{all-imp, all-and, all_append, two-imp, two-end}
use Rattle.shapes.specs.Group.{Group, group_cost}
use Rattle.shapes.specs.Shape.{join}
use Rattle.shapes.proofs.ShapeLaws.{join-length}
use Rattle.shapes.proofs.GroupLaws.{joined-shape, joined-sets, gain-comm, gain-falls, clash}
use Rattle.rule.specs.Model.{Living, Pair, Entry, State, Ahead, gain_of, joined_as, keep_out, outs, pairs, if_worth, best, choice, entry, merge, follow, step, run, number, start, merged, total}
use Rattle.rule.specs.Told.{words}
use Rattle.rule.proofs.PairLaws.{pairs-sum, sum-end, pairs-length, pairs-all, pairs-two, chosen, not_chosen, chosen-has}

-- ---- the run

-- what each merge keeps, the run keeps
pub run-keeps : (P : State → Type 0) → ((s : State) (c : Pair) → choice s.living ≡ some c → P s → P (merge s c)) → (k : ℕ) (s : State) → P s → P (run k s)
unfolding run step follow
run-keeps P f zero s p = p
run-keeps P f (suc k) s p = run-keeps P f k (step s) (go (choice s.living) refl)
  where
    go : (o : Option Pair) → choice s.living ≡ o → P (follow s o)
    go none e = p
    go (some c) e = f s c e p

-- ---- the total falls by exactly the gain

pub merge-total : (s : State) (c : Pair) → choice s.living ≡ some c → total s.living ≡ total (merge s c).living + gain_of c.first c.second
unfolding merge total
merge-total s c e =
    let f : Living → ℕ = λ g. group_cost g.group in
    let a = chosen-has _ s.living c e (pairs-sum f s.living) in
    let b = sum-end f c.rest (joined_as s.next c.first c.second) in
    let g = gain-falls c.first.group c.second.group (chosen s.living c e).0 in
    omega arith

-- the gains of a log
unfoldable pub saved : List Entry → ℕ
saved [] = 0
saved (x ∷ l) = x.gain + saved l

saved-end : (l : List Entry) (x : Entry) → saved (l ++ (x ∷ [])) ≡ saved l + x.gain
unfolding saved
saved-end [] x = omega arith
saved-end (y ∷ l) x = omega (arith, saved-end l x)

pub run-total : (k : ℕ) (xs : List Group) → total (run k (start xs)).living + saved (run k (start xs)).log ≡ total (start xs).living
unfolding start saved
run-total k xs =
    run-keeps (λ s. total s.living + saved s.log ≡ total (start xs).living) go k (start xs) (omega arith)
  where
    go : (s : State) (c : Pair) → choice s.living ≡ some c → total s.living + saved s.log ≡ total (start xs).living → total (merge s c).living + saved (merge s c).log ≡ total (start xs).living
    go s c e p = unfold merge entry in omega (arith, merge-total s c e, saved-end s.log (entry c))

-- ---- the ties: a pair with other numbers gains less, or gains as much and comes later

abbrev pub Later : Living → Living → Living → Living → Type 0
Later a b g h = (gain_of g h < gain_of a b) ⊎ ((gain_of g h ≡ gain_of a b) × (a.num < g.num)) ⊎ ((gain_of g h ≡ gain_of a b) × (a.num ≡ g.num) × (b.num < h.num))

ahead-later : (a b g h : Living) → Ahead a b g h → (g.num ≡ a.num → h.num ≡ b.num → ⊥) → Later a b g h
ahead-later a b g h p n = by_gain (dec_lt (gain_of g h) (gain_of a b))
  where
    by_second : gain_of g h ≡ gain_of a b → a.num ≡ g.num → b.num ≤ h.num → Dec (b.num < h.num) → Later a b g h
    by_second e e' q (yes x) = inr (inr (e, e', x))
    by_second e e' q (no x) = absurd (n (sym e') (omega arith))

    by_first : gain_of g h ≡ gain_of a b → (a.num ≤ g.num) × (a.num ≡ g.num → b.num ≤ h.num) → Dec (a.num < g.num) → Later a b g h
    by_first e q (yes x) = inr (inl (e, x))
    by_first e q (no x) = let e' : a.num ≡ g.num = omega arith in by_second e e' (q.1 e') (dec_lt b.num h.num)

    by_gain : Dec (gain_of g h < gain_of a b) → Later a b g h
    by_gain (yes x) = inl x
    by_gain (no x) = let e : gain_of g h ≡ gain_of a b = omega arith in by_first e (p.1 e) (dec_lt a.num g.num)

pub chosen-first : (l : List Living) (c : Pair) → choice l ≡ some c → EachTwo (λ g h. (g.num ≡ c.first.num → h.num ≡ c.second.num → ⊥) → Later c.first c.second g h) l
chosen-first l c e = two-imp (λ g h p n. ahead-later c.first c.second g h p n) l (chosen l c e).1

-- two pairs of which each is ahead of the other have the same gain and numbers
pub ahead-unique : (a b g h : Living) → Ahead a b g h → Ahead g h a b → (gain_of a b ≡ gain_of g h) × (a.num ≡ g.num) × (b.num ≡ h.num)
ahead-unique a b g h p q =
    let p1 = p.1 (omega arith) in
    let q1 = q.1 (omega arith) in
    let p2 = p1.1 (omega arith) in
    let q2 = q1.1 (omega arith) in
    omega arith

-- ---- fewer merges than groups, and it stops

merge-length : (s : State) (c : Pair) → choice s.living ≡ some c → (length s.living ≡ suc (length (merge s c).living)) × (length (merge s c).living ≡ suc (length c.rest)) × (length (merge s c).log ≡ suc (length s.log))
unfolding merge
merge-length s c e =
    let a = chosen-has _ s.living c e (pairs-length s.living) in
    simp length-append (omega (arith, a))

pub number-length : (k : ℕ) (xs : List Group) → length (number k xs) ≡ length xs
unfolding number
number-length k [] = refl
number-length k (x ∷ xs) = ap suc (number-length (suc k) xs)

pub run-count : (k : ℕ) (xs : List Group) → length (run k (start xs)).log + length (run k (start xs)).living ≡ length xs
unfolding start
run-count k xs =
    run-keeps (λ s. length s.log + length s.living ≡ length xs) (λ s c e p. omega (arith, merge-length s c e)) k (start xs) (omega (arith, number-length 0 xs))

pub fewer : (k : ℕ) (xs : List Group) → 0 < length xs → length (run k (start xs)).log < length xs
unfolding start
fewer k xs h =
    let p = run-keeps (λ s. 0 < length s.living) (λ s c e p. omega (arith, merge-length s c e)) k (start xs) (omega (arith, number-length 0 xs)) in
    omega (arith, run-count k xs)

-- where nothing is chosen the run stands still
pub run-idle : (k : ℕ) (s : State) → choice s.living ≡ none → run k s ≡ s
unfolding run step follow
run-idle zero s e = refl
run-idle (suc k) s e = rw e (run-idle k s e)

choice-empty : (l : List Living) → length l ≡ 0 → choice l ≡ none
unfolding choice if_worth best pairs
choice-empty [] e = refl
choice-empty (g ∷ l) e = absurd (omega arith)

run-stops : (k : ℕ) (s : State) → length s.living ≤ k → choice (run k s).living ≡ none
unfolding run step follow
run-stops zero s h = choice-empty s.living (omega arith)
run-stops (suc k) s h = go (λ t p. run-stops k t p) (choice s.living) refl
  where
    go : ((t : State) → length t.living ≤ k → choice (run k t).living ≡ none) → (o : Option Pair) → choice s.living ≡ o → choice (run k (follow s o)).living ≡ none
    go ih none e = rw (run-idle k s e) e
    go ih (some c) e = ih (merge s c) (omega (arith, merge-length s c e))

pub stops : (xs : List Group) → choice (merged xs).living ≡ none
unfolding merged start
stops xs = run-stops (length xs) (start xs) (omega (arith, number-length 0 xs))

-- more steps change nothing
pub enough : (k : ℕ) (xs : List Group) → run k (merged xs) ≡ merged xs
enough k xs = run-idle k (merged xs) (stops xs)

-- at the end every two living groups gain 0
pub all-gains-zero : (xs : List Group) → EachTwo (λ g h. gain_of g h ≡ 0) (merged xs).living
all-gains-zero xs = not_chosen (merged xs).living (stops xs)

-- Each group has sets and a width for each of w regions; no two have the same shape.
abbrev pub Full : ℕ → Living → Type 0
Full w g = (0 < g.group.sets) × (length g.group.shape ≡ w)

abbrev pub Unlike : Living → Living → Type 0
Unlike g h = g.group.shape ≡ h.group.shape → ⊥

module _ (w : ℕ) (s : State) (c : Pair) (e : choice s.living ≡ some c) (full : All (Full w) s.living) (unlike : EachTwo Unlike s.living) where
  -- NO FOLD: no group that stays has the joined shape
  pub merge-unlike : All (λ h. h.group.shape ≡ join c.first.group.shape c.second.group.shape → ⊥) c.rest
  merge-unlike =
      let a = c.first in
      let b = c.second in
      let v = chosen s.living c e in
      let q = chosen-has _ s.living c e (pairs-all (Full w) s.living full) in
      let u = chosen-has _ s.living c e (pairs-two Unlike Unlike (λ x y n. n) (λ x y n p. n (sym p)) s.living unlike) in
      let R : Living → Living → Type 0 = λ g h. gain_of g h ≤ gain_of a b in
      let t = chosen-has _ s.living c e (pairs-two R R (λ x y n. n) (λ x y n. rw (gain-comm y.group x.group) n) s.living (two-imp (λ x y p. p.0) s.living v.1)) in
      all-imp (λ h k p. k.1 (clash a.group b.group h.group v.0 k.0 q.1.0 (q.0.1 ∙ sym q.1.1) p)) c.rest (all-and _ _ c.rest t.1 u.2)

  merge-full : All (Full w) (merge s c).living
  unfolding merge
  merge-full =
      let q = chosen-has _ s.living c e (pairs-all (Full w) s.living full) in
      let n = joined-sets c.first.group c.second.group in
      let m = joined-shape c.first.group c.second.group in
      all_append _ c.rest _ q.2
      ((omega arith, ap length m ∙ join-length w c.first.group.shape c.second.group.shape q.0.1 q.1.1), tt)

  merge-two : EachTwo Unlike (merge s c).living
  unfolding merge
  merge-two =
      let u = chosen-has _ s.living c e (pairs-two Unlike Unlike (λ x y n. n) (λ x y n p. n (sym p)) s.living unlike) in
      let m = joined-shape c.first.group c.second.group in
      two-end _ c.rest _ u.3 (all-imp (λ h n p. n (p ∙ m)) c.rest merge-unlike)

-- shapes stay unlike through the run
pub run-unlike : (w k : ℕ) (s : State) → All (Full w) s.living → EachTwo Unlike s.living → All (Full w) (run k s).living × EachTwo Unlike (run k s).living
run-unlike w k s full unlike =
    run-keeps (λ s. All (Full w) s.living × EachTwo Unlike s.living) (λ s c e p. (merge-full w s c e p.0 p.1, merge-two w s c e p.0 p.1)) k s (full, unlike)

-- ---- the pairs weighed

outs-count : (l : List Living) → length (outs l) ≡ length l
unfolding outs
outs-count [] = refl
outs-count (g ∷ l) = ap suc (length-map (outs l) (keep_out g) ∙ outs-count l)

pub pairs-count : (l : List Living) → 2 * length (pairs l) + length l ≡ length l * length l
unfolding pairs
pairs-count [] = refl
pairs-count (g ∷ l) =
    simp (length-append, length-map, outs-count) (omega (arith, pairs-count l))

weigh-step : (n m w d : ℕ) → 2 * w + m * m + 3 * m + n ≡ n * n + 2 * (m * n) → m + suc (suc d) ≡ n → 2 * (w + d) + suc m * suc m + 3 * suc m + n ≡ n * n + 2 * (suc m * n)
weigh-step n m w d p q = omega arith

abbrev Weighed : ℕ → State → Type 0
Weighed n s = (2 * s.weighed + length s.log * length s.log + 3 * length s.log + n ≡ n * n + 2 * (length s.log * n)) × (length s.log + length s.living ≡ n)

merge-weighed : (n : ℕ) (s : State) (c : Pair) → choice s.living ≡ some c → Weighed n s → Weighed n (merge s c)
merge-weighed n s c e p =
    let k = merge-length s c e in
    rw k.2 (unfold merge in weigh-step n (length s.log) s.weighed (length c.rest) p.0 (omega arith), omega arith)

run-weighed : (k : ℕ) (xs : List Group) → Weighed (length xs) (run k (start xs))
unfolding start
run-weighed k xs =
    let a = rw (number-length 0 xs) at (pairs-count (number 0 xs)) in
    run-keeps (Weighed (length xs)) (merge-weighed (length xs)) k (start xs) (omega (arith, a), omega (arith, number-length 0 xs))

count-arith : (n m w : ℕ) → 2 * w + m * m + 3 * m + n ≡ n * n + 2 * (m * n) → w ≡ n * (n - 1) / 2 + m * (n - 1) - m * (m + 1) / 2
count-arith zero m w p = omega arith
count-arith (suc n) m w p = let e : suc n - 1 ≡ n = omega arith in rw e (omega arith)

-- with n merges and d more groups than merges and the last one
bound-arith : (m d w : ℕ) → 2 * w + m * m + 3 * m + suc (m + d) ≡ suc (m + d) * suc (m + d) + 2 * (m * suc (m + d)) → w ≤ (m + d) * (m + d)
bound-arith m zero w p = omega arith
bound-arith m (suc d) w p = omega arith

-- N(N-1)/2 + M(N-1) - M(M+1)/2
pub weighed-is : (k : ℕ) (xs : List Group) → let n = length xs in let m = length (run k (start xs)).log in (run k (start xs)).weighed ≡ n * (n - 1) / 2 + m * (n - 1) - m * (m + 1) / 2
weighed-is k xs = count-arith (length xs) (length (run k (start xs)).log) (run k (start xs)).weighed (run-weighed k xs).0

-- (N-1)^2
pub weighed-most : (k : ℕ) (xs : List Group) (n : ℕ) → length xs ≡ suc n → (run k (start xs)).weighed ≤ n * n
weighed-most k xs n e =
    let m = length (run k (start xs)).log in
    let f : m < length xs = fewer k xs (omega arith) in
    let q : length xs ≡ suc (m + (n - m)) = omega arith in
    let q' : m + (n - m) ≡ n = omega arith in
    let p = rw q at (run-weighed k xs).0 in
    let b = bound-arith m (n - m) (run k (start xs)).weighed p in
    rw q' at b

-- ---- no fold, from the groups as they come

number-all : (P : Group → Type 0) (k : ℕ) (xs : List Group) → All P xs → All (λ g. P g.group) (number k xs)
unfolding number
number-all P k [] h = tt
number-all P k (x ∷ xs) h = (h.0, number-all P (suc k) xs h.1)

number-two : (R : Group → Group → Type 0) (k : ℕ) (xs : List Group) → EachTwo R xs → EachTwo (λ g h. R g.group h.group) (number k xs)
unfolding number
number-two R k [] h = tt
number-two R k (x ∷ xs) h = (number-all (R x) (suc k) xs h.0, number-two R (suc k) xs h.1)

-- Groups that have sets, a width for each of w regions and shapes of their own: what a merge is asked for.
pub record Proper (w : ℕ) (xs : List Group) : Type 0 where
  pub full : All (λ x. (0 < x.sets) × (length x.shape ≡ w)) xs
  pub distinct : EachTwo (λ x y. x.shape ≡ y.shape → ⊥) xs

module _ (w k : ℕ) (xs : List Group) (p : Proper w xs) where
  pub run-full : All (Full w) (run k (start xs)).living
  unfolding start
  run-full = (run-unlike w k (start xs) (number-all _ 0 xs p.full) (number-two _ 0 xs p.distinct)).0

  -- no two living groups ever have the same shape
  pub shapes-distinct : EachTwo Unlike (run k (start xs)).living
  unfolding start
  shapes-distinct = (run-unlike w k (start xs) (number-all _ 0 xs p.full) (number-two _ 0 xs p.distinct)).1

  -- M8: no living group ever has the joined shape
  pub no-fold : (c : Pair) → choice (run k (start xs)).living ≡ some c → All (λ h. h.group.shape ≡ join c.first.group.shape c.second.group.shape → ⊥) c.rest
  no-fold c e = merge-unlike w (run k (start xs)) c e run-full shapes-distinct

-- ---- what the run keeps: the next number, and the sets

pub run-next : (k : ℕ) (xs : List Group) → (run k (start xs)).next ≡ length xs + length (run k (start xs)).log
unfolding start
run-next k xs =
    run-keeps (λ s. s.next ≡ length xs + length s.log) go k (start xs) (omega arith)
  where
    go : (s : State) (c : Pair) → choice s.living ≡ some c → s.next ≡ length xs + length s.log → (merge s c).next ≡ length xs + length (merge s c).log
    go s c e p = let l = (merge-length s c e).2 in unfold merge in omega (arith, l)

number-sets : (k : ℕ) (xs : List Group) → weigh (λ g. g.group.sets) (number k xs) ≡ weigh (λ x. x.sets) xs
unfolding number weigh
number-sets k [] = refl
number-sets k (x ∷ xs) = omega (arith, number-sets (suc k) xs)

pub run-sets : (k : ℕ) (xs : List Group) → weigh (λ g. g.group.sets) (run k (start xs)).living ≡ weigh (λ x. x.sets) xs
unfolding start
run-sets k xs =
    run-keeps (λ s. weigh (λ g. g.group.sets) s.living ≡ weigh (λ x. x.sets) xs) go k (start xs) (number-sets 0 xs)
  where
    go : (s : State) (c : Pair) → choice s.living ≡ some c → weigh (λ g. g.group.sets) s.living ≡ weigh (λ x. x.sets) xs → weigh (λ g. g.group.sets) (merge s c).living ≡ weigh (λ x. x.sets) xs
    go s c e p =
        let f : Living → ℕ = λ g. g.group.sets in
        let a = chosen-has _ s.living c e (pairs-sum f s.living) in
        let b = sum-end f c.rest (joined_as s.next c.first c.second) in
        let n = joined-sets c.first.group c.second.group in
        unfold merge in omega (arith, a, b, n)

-- ---- the merges, one by one

-- What one merge is: its pair gains at least 1 and is ahead of every two living groups, the log gets its numbers and its gain, and the total falls
-- by just that.
pub record Merge (s s' : State) (c : Pair) : Type 0 where
  pub gains : 1 ≤ gain_of c.first c.second
  pub ahead : EachTwo (Ahead c.first c.second) s.living
  pub logged : s'.log ≡ s.log ++ (record { first = c.first.num; second = c.second.num; gain = gain_of c.first c.second } ∷ [])
  pub falls : total s.living ≡ total s'.living + gain_of c.first c.second

pub each-merge : (s : State) (c : Pair) → choice s.living ≡ some c → Merge s (merge s c) c
unfolding entry
each-merge s c e =
    let v = chosen s.living c e in
    record { gains = omega (arith, v.0); ahead = v.1; logged = go; falls = merge-total s c e }
  where
    go : (merge s c).log ≡ s.log ++ (entry c ∷ [])
    go = unfold merge in refl

-- a chain of such merges, from s to s', and their pairs
pub data Chain : State → List Pair → State → Type 0 where
  stop : {s : State} → Chain s [] s
  next : {s s' : State} {c : Pair} {l : List Pair} → Merge s (merge s c) c → Chain (merge s c) l s' → Chain s (c ∷ l) s'

pub record Merges (s s' : State) : Type 0 where
  pub pairs : List Pair
  pub chain : Chain s pairs s'
  pub log_is : s'.log ≡ s.log ++ map entry pairs

-- the run is such a chain, and the log has its merges and no others
pub run-merges : (k : ℕ) (s : State) → Merges s (run k s)
unfolding run step follow
run-merges zero s = record { pairs = []; chain = stop; log_is = sym (append-nil s.log) }
run-merges (suc k) s = go (λ t. run-merges k t) (choice s.living) refl
  where
    logged : (c : Pair) → (merge s c).log ≡ s.log ++ (entry c ∷ [])
    logged c = unfold merge in refl

    go : ((t : State) → Merges t (run k t)) → (o : Option Pair) → choice s.living ≡ o → Merges s (run k (follow s o))
    go ih none e = ih s
    go ih (some c) e =
        let r = ih (merge s c) in
        record {
          pairs = c ∷ r.pairs;
          chain = next (each-merge s c e) r.chain;
          log_is = r.log_is ∙ ap (λ (l : List Entry). l ++ map entry r.pairs) (logged c) ∙ append_assoc s.log (entry c ∷ []) (map entry r.pairs);
        }

pub merged-merges : (xs : List Group) → Merges (start xs) (merged xs)
unfolding merged
merged-merges xs = run-merges (length xs) (start xs)

-- no groups, no merges and no pairs weighed
pub none-of-none : (k : ℕ) (xs : List Group) → length xs ≡ 0 → (length (run k (start xs)).log ≡ 0) × ((run k (start xs)).weighed ≡ 0)
none-of-none k xs e =
    let a = run-count k xs in
    let b = rw e at (weighed-is k xs) in
    (omega arith, omega arith)

-- (N-1)², of any number of groups
pub weighed-few : (k : ℕ) (xs : List Group) → (run k (start xs)).weighed ≤ (length xs - 1) * (length xs - 1)
weighed-few k xs = ⊎_elim
    (λ (e : length xs ≡ 0). let z = (none-of-none k xs e).1 in omega arith)
    (λ d. weighed-most k xs (length xs - 1) (omega arith))
    (same_or_not (length xs) 0)

-- the same of the whole run, and its log as words
pub merged-few : (xs : List Group) → (merged xs).weighed ≤ (length xs - 1) * (length xs - 1)
unfolding merged
merged-few xs = weighed-few (length xs) xs

pub merged-weighed : (xs : List Group) → (merged xs).weighed
    ≡ length xs * (length xs - 1) / 2 + length (merged xs).log * (length xs - 1) - length (merged xs).log * (length (merged xs).log + 1) / 2
unfolding merged
merged-weighed xs = weighed-is (length xs) xs

pub words-length : (l : List Entry) → length (words l) ≡ 3 * length l
unfolding words
words-length [] = refl
words-length (e ∷ l) = omega (arith, words-length l)
