-- What a program that merges leans on: the numbers ascend, a pair is known by its numbers, and the pair that is ahead of all others is the choice.
use mathlib.Core.Path.{◌≡◌, refl, sym, ap, subst, ◌∙◌}
use mathlib.Core.Logic.{◌≢◌, ◌⊎◌, inl, inr, ⊎_elim}
use mathlib.Core.Option.{Option, none, some}
use mathlib.Core.List.Memᴰ
use mathlib.Core.List.{List, [], ◌∷◌, map, Memᴰ}
use Prim.Native.Nat.{ℕ, zero, suc, ◌+◌, ◌≤◌, ◌<◌}
use lib.ListN.{length}
use native.Mathlib.Omega.{arith}
use native.Mathlib.Decide.{ℕ_discrete}
use Rattle.laws.specs.Every.{All, EachTwo}
use Rattle.laws.proofs.Cases.{same_or_not}
use Rattle.laws.proofs.EveryLaws.{all-imp, all_append, two-end}
use Rattle.shapes.specs.Group.{Group}
use Rattle.rule.specs.Model.{Living, Pair, Out, State, Ahead, gain_of, keep_out, outs, pair_with, keep_pair, pairs, choice, merge, follow, step, run, number, start, merged}
use Rattle.rule.proofs.PairLaws.{pairs-all, pairs-two, outs-all, each-pairs, chosen, not_chosen, chosen-has}
use Rattle.rule.proofs.Theorems.{run-keeps, ahead-unique, run-idle, stops}

-- ---- the numbers ascend, and stay below the next

abbrev pub Rising : List Living → Type 0
Rising = EachTwo (λ g h. g.num < h.num)

abbrev pub Numbered : State → Type 0
Numbered s = All (λ g. g.num < s.next) s.living × Rising s.living

merge-numbered : (s : State) (c : Pair) → choice s.living ≡ some c → Numbered s → Numbered (merge s c)
unfolding merge
merge-numbered s c e p =
    let b = chosen-has _ s.living c e (pairs-all _ s.living p.0) in
    let r = chosen-has _ s.living c e (pairs-two _ (λ _ _. Unit {0}) (λ _ _ _. tt) (λ _ _ _. tt) s.living p.1) in
    (all_append _ c.rest _ (all-imp (λ g h. omega arith) c.rest b.2) (omega arith, tt), two-end _ c.rest _ r.3 b.2)

number-from : (k : ℕ) (xs : List Group) → All (λ g. k ≤ g.num) (number k xs)
unfolding number
number-from k [] = tt
number-from k (x ∷ xs) = (omega arith, all-imp (λ g h. omega arith) (number (suc k) xs) (number-from (suc k) xs))

number-below : (k : ℕ) (xs : List Group) → All (λ g. g.num < k + length xs) (number k xs)
unfolding number
number-below k [] = tt
number-below k (x ∷ xs) = (omega arith, all-imp (λ g h. omega arith) (number (suc k) xs) (number-below (suc k) xs))

number-rising : (k : ℕ) (xs : List Group) → Rising (number k xs)
unfolding number
number-rising k [] = tt
number-rising k (x ∷ xs) = (number-from (suc k) xs, number-rising (suc k) xs)

pub run-numbered : (k : ℕ) (xs : List Group) → Numbered (run k (start xs))
unfolding start
run-numbered k xs =
    run-keeps Numbered merge-numbered k (start xs) (all-imp (λ g h. omega arith) (number 0 xs) (number-below 0 xs), number-rising 0 xs)

-- ---- from each two to any two, by number

pub has : {A : Type 0} (P : A → Type 0) (l : List A) → All P l → (g : A) → Memᴰ g l → P g
has P [] h g m = absurd (Memᴰ.not-nil m)
has P (x ∷ l) h g m = ⊎_elim (λ e. subst P (sym e) h.0) (λ m'. has P l h.1 g m') (Memᴰ.cases_cons m)

pub any-two : (R : Living → Living → Type 0) (l : List Living) → EachTwo R l → Rising l → (g h : Living) → Memᴰ g l → Memᴰ h l → g.num < h.num → R g h
any-two R [] e r g h m n lt = absurd (Memᴰ.not-nil m)
any-two R (x ∷ l) e r g h m n lt = go (λ a b. any-two R l e.1 r.1 g h a b lt) (Memᴰ.cases_cons m) (Memᴰ.cases_cons n)
  where
    go : (Memᴰ g l → Memᴰ h l → R g h) → (g ≡ x) ⊎ Memᴰ g l → (h ≡ x) ⊎ Memᴰ h l → R g h
    go ih (inl p) (inl q) = absurd (omega (arith, ap (λ (z : Living). z.num) p, ap (λ (z : Living). z.num) q))
    go ih (inl p) (inr n) = subst (λ z. R z h) (sym p) (has (R x) l e.0 h n)
    go ih (inr m) (inl q) = absurd (omega (arith, has _ l r.0 g m, ap (λ (z : Living). z.num) q))
    go ih (inr m) (inr n) = ih m n

-- ---- a pair of a rising list is known by its numbers

mem-map : {A B : Type 0} (f : A → B) (l : List A) (b : B) → Memᴰ b (map f l) → (a : A) × Memᴰ a l × (b ≡ f a)
mem-map f [] b m = absurd (Memᴰ.not-nil m)
mem-map f (x ∷ l) b m =
    ⊎_elim (λ e. (x, Memᴰ.head refl, e)) (λ m'. let r = mem-map f l b m' in (r.0, Memᴰ.tail r.1, r.2)) (Memᴰ.cases_cons m)

outs-unique : (l : List Living) → Rising l → (o p : Out) → Memᴰ o (outs l) → Memᴰ p (outs l) → o.one.num ≡ p.one.num → o ≡ p
unfolding outs keep_out
outs-unique [] r o p m n e = absurd (Memᴰ.not-nil m)
outs-unique (g ∷ l) r o p m n e = go (λ x y a b q. outs-unique l r.1 x y a b q) (Memᴰ.cases_cons m) (Memᴰ.cases_cons n)
  where
    now : Out
    now = record { one = g; rest = l }

    far : (x : Out) → Memᴰ x (map (keep_out g) (outs l)) → g.num < x.one.num
    far x a = let t = mem-map (keep_out g) (outs l) x a in subst (λ (z : Out). g.num < z.one.num) (sym t.2) (has _ (outs l) (outs-all (λ h. g.num < h.num) l r.0) t.0 t.1).0

    go : ((x y : Out) → Memᴰ x (outs l) → Memᴰ y (outs l) → x.one.num ≡ y.one.num → x ≡ y) → (o ≡ now) ⊎ Memᴰ o (map (keep_out g) (outs l)) → (p ≡ now) ⊎ Memᴰ p (map (keep_out g) (outs l)) → o ≡ p
    go ih (inl a) (inl b) = a ∙ sym b
    go ih (inl a) (inr b) = absurd (omega (arith, ap (λ (z : Out). z.one.num) a, far p b))
    go ih (inr a) (inl b) = absurd (omega (arith, ap (λ (z : Out). z.one.num) b, far o a))
    go ih (inr a) (inr b) =
        let t = mem-map (keep_out g) (outs l) o a in
        let u = mem-map (keep_out g) (outs l) p b in
        t.2 ∙ ap (keep_out g) (ih t.0 u.0 t.1 u.1 (sym (ap (λ (z : Out). z.one.num) t.2) ∙ e ∙ ap (λ (z : Out). z.one.num) u.2)) ∙ sym u.2

pub pairs-unique : (l : List Living) → Rising l → (c d : Pair) → Memᴰ c (pairs l) → Memᴰ d (pairs l) → c.first.num ≡ d.first.num → c.second.num ≡ d.second.num → c ≡ d
unfolding pairs keep_pair pair_with
pairs-unique [] r c d m n e e' = absurd (Memᴰ.not-nil m)
pairs-unique (g ∷ l) r c d m n e e' = go (λ x y a b q q'. pairs-unique l r.1 x y a b q q') (Memᴰ.append_cases (map (pair_with g) (outs l)) m) (Memᴰ.append_cases (map (pair_with g) (outs l)) n)
  where
    here : (x : Pair) → Memᴰ x (map (pair_with g) (outs l)) → x.first.num ≡ g.num
    here x a = let t = mem-map (pair_with g) (outs l) x a in ap (λ (z : Pair). z.first.num) t.2

    far : (x : Pair) → Memᴰ x (map (keep_pair g) (pairs l)) → g.num < x.first.num
    far x a = let t = mem-map (keep_pair g) (pairs l) x a in subst (λ (z : Pair). g.num < z.first.num) (sym t.2) (has _ (pairs l) (pairs-all (λ h. g.num < h.num) l r.0) t.0 t.1).0

    go : ((x y : Pair) → Memᴰ x (pairs l) → Memᴰ y (pairs l) → x.first.num ≡ y.first.num → x.second.num ≡ y.second.num → x ≡ y) → Memᴰ c (map (pair_with g) (outs l)) ⊎ Memᴰ c (map (keep_pair g) (pairs l)) → Memᴰ d (map (pair_with g) (outs l)) ⊎ Memᴰ d (map (keep_pair g) (pairs l)) → c ≡ d
    go ih (inl a) (inl b) =
        let t = mem-map (pair_with g) (outs l) c a in
        let u = mem-map (pair_with g) (outs l) d b in
        t.2 ∙ ap (pair_with g) (outs-unique l r.1 t.0 u.0 t.1 u.1 (sym (ap (λ (z : Pair). z.second.num) t.2) ∙ e' ∙ ap (λ (z : Pair). z.second.num) u.2)) ∙ sym u.2
    go ih (inl a) (inr b) = absurd (omega (arith, here c a, far d b))
    go ih (inr a) (inl b) = absurd (omega (arith, here d b, far c a))
    go ih (inr a) (inr b) =
        let t = mem-map (keep_pair g) (pairs l) c a in
        let u = mem-map (keep_pair g) (pairs l) d b in
        t.2 ∙ ap (keep_pair g) (ih t.0 u.0 t.1 u.1 (sym (ap (λ (z : Pair). z.first.num) t.2) ∙ e ∙ ap (λ (z : Pair). z.first.num) u.2) (sym (ap (λ (z : Pair). z.second.num) t.2) ∙ e' ∙ ap (λ (z : Pair). z.second.num) u.2)) ∙ sym u.2

-- ---- the choice is the pair that gains and is ahead of all: what a scan has to find

all-self : {A : Type 0} (l : List A) → All (λ a. Memᴰ a l) l
all-self [] = tt
all-self (x ∷ l) = (Memᴰ.head refl, all-imp (λ a m. Memᴰ.tail m) l (all-self l))

pub choice-is : (l : List Living) → Rising l → (c : Pair) → Memᴰ c (pairs l) → 0 < gain_of c.first c.second → EachTwo (Ahead c.first c.second) l → choice l ≡ some c
choice-is l r c m g a = go (choice l) refl
  where
    go : (o : Option Pair) → choice l ≡ o → choice l ≡ some c
    go none e = absurd (omega (arith, has _ (pairs l) (each-pairs (λ x y. gain_of x y ≡ 0) l (not_chosen l e)) c m))
    go (some d) e =
        let md = chosen-has (λ x. Memᴰ x (pairs l)) l d e (all-self (pairs l)) in
        let cd = has _ (pairs l) (each-pairs _ l a) d md in
        let dc = has _ (pairs l) (each-pairs _ l (chosen l d e).1) c m in
        let u = ahead-unique c.first c.second d.first d.second cd dc in
        e ∙ ap some (pairs-unique l r d c md m (sym u.1) (sym u.2))

-- ---- one step, said by numbers: both die, the joined group comes last

sift : {P : Type 0} → Dec P → Living → List Living → List Living
sift (yes p) g l = l
sift (no n) g l = g ∷ l

-- a list without the groups of one number
unfoldable pub without : ℕ → List Living → List Living
unfolding sift
without k [] = []
without k (g ∷ l) = sift (ℕ_discrete k g.num) g (without k l)

without-head : (k : ℕ) (g : Living) (l : List Living) → k ≡ g.num → without k (g ∷ l) ≡ without k l
unfolding without sift
without-head k g l e = go (ℕ_discrete k g.num)
  where
    go : (d : Dec (k ≡ g.num)) → sift d g (without k l) ≡ without k l
    go (yes p) = refl
    go (no n) = absurd (n e)

without-keep : (k : ℕ) (g : Living) (l : List Living) → (k ≡ g.num → ⊥) → without k (g ∷ l) ≡ g ∷ without k l
unfolding without sift
without-keep k g l x = go (ℕ_discrete k g.num)
  where
    go : (d : Dec (k ≡ g.num)) → sift d g (without k l) ≡ g ∷ without k l
    go (yes p) = absurd (x p)
    go (no n) = refl

without-none : (k : ℕ) (l : List Living) → All (λ g. k < g.num) l → without k l ≡ l
without-none k [] h = unfold without in refl
without-none k (g ∷ l) h = without-keep k g l (λ e. omega arith) ∙ ap {B = List Living} (λ r. g ∷ r) (without-none k l h.1)

mem-onto : {A B : Type 0} (f : A → B) (l : List A) (a : A) → Memᴰ a l → Memᴰ (f a) (map f l)
mem-onto f [] a m = absurd (Memᴰ.not-nil m)
mem-onto f (x ∷ l) a m = ⊎_elim (λ e. Memᴰ.head (ap f e)) (λ m'. Memᴰ.tail (mem-onto f l a m')) (Memᴰ.cases_cons m)

abbrev out_of : Living → List Living → Out
out_of g l = record { one = g; rest = without g.num l }

abbrev pub living_pair : Living → Living → List Living → Pair
living_pair g h l = record { first = g; second = h; rest = without h.num (without g.num l) }

outs-has : (l : List Living) → Rising l → (g : Living) → Memᴰ g l → Memᴰ (out_of g l) (outs l)
unfolding outs keep_out
outs-has [] r g m = absurd (Memᴰ.not-nil m)
outs-has (x ∷ l) r g m = ⊎_elim here (λ m'. there m' (outs-has l r.1 g m')) (Memᴰ.cases_cons m)
  where
    here : g ≡ x → Memᴰ (out_of g (x ∷ l)) (outs (x ∷ l))
    here e =
        Memᴰ.head (λ i. record {
          one = e i;
          rest = (ap (λ (z : Living). without z.num (x ∷ l)) e ∙ without-head x.num x l refl ∙ without-none x.num l r.0) i;
        })

    there : Memᴰ g l → Memᴰ (out_of g l) (outs l) → Memᴰ (out_of g (x ∷ l)) (outs (x ∷ l))
    there m' k =
        let lt : x.num < g.num = has _ l r.0 g m' in
        let e : without g.num (x ∷ l) ≡ x ∷ without g.num l = without-keep g.num x l (λ e. omega arith) in
        Memᴰ.tail (Memᴰ.cast (λ i. record { one = g; rest = e i }) (mem-onto (keep_out x) (outs l) (out_of g l) k))

pub pairs-has : (l : List Living) → Rising l → (g h : Living) → Memᴰ g l → Memᴰ h l → g.num < h.num → Memᴰ (living_pair g h l) (pairs l)
unfolding pairs keep_pair pair_with
pairs-has [] r g h m n lt = absurd (Memᴰ.not-nil m)
pairs-has (x ∷ l) r g h m n lt = go (λ a b. pairs-has l r.1 g h a b lt) (Memᴰ.cases_cons m) (Memᴰ.cases_cons n)
  where
    go : (Memᴰ g l → Memᴰ h l → Memᴰ (living_pair g h l) (pairs l)) → (g ≡ x) ⊎ Memᴰ g l → (h ≡ x) ⊎ Memᴰ h l → Memᴰ (living_pair g h (x ∷ l)) (pairs (x ∷ l))
    go ih (inl p) (inl q) = absurd (omega (arith, ap (λ (z : Living). z.num) p, ap (λ (z : Living). z.num) q))
    go ih (inr a) (inl q) = absurd (omega (arith, has _ l r.0 g a, ap (λ (z : Living). z.num) q))
    go ih (inl p) (inr b) =
        let e : without h.num (without g.num (x ∷ l)) ≡ without h.num l =
        ap (λ (z : Living). without h.num (without z.num (x ∷ l))) p ∙ ap (without h.num) (without-head x.num x l refl ∙ without-none x.num l r.0) in
        Memᴰ.append_left (map (keep_pair x) (pairs l))
        (Memᴰ.cast (λ i. record { first = p i; second = h; rest = e i }) (mem-onto (pair_with x) (outs l) (out_of h l) (outs-has l r.1 h b)))
    go ih (inr a) (inr b) =
        let xg : x.num < g.num = has _ l r.0 g a in
        let e : without h.num (without g.num (x ∷ l)) ≡ x ∷ without h.num (without g.num l) =
        ap (without h.num) (without-keep g.num x l (λ e. omega arith)) ∙ without-keep h.num x (without g.num l) (λ e. omega arith) in
        Memᴰ.append_right (map (pair_with x) (outs l))
        (Memᴰ.cast (λ i. record { first = g; second = h; rest = e i }) (mem-onto (keep_pair x) (pairs l) (living_pair g h l) (ih a b)))

-- who is left
pub without_all : (P : Living → Type 0) (k : ℕ) (l : List Living) → All P l → All (λ g. P g × (g.num ≢ k)) (without k l)
without_all P k [] h = unfold without in tt
without_all P k (g ∷ l) h = ⊎_elim
    (λ (e : k ≡ g.num). rw (without-head k g l e) (without_all P k l h.1))
    (λ d. rw (without-keep k g l d) ((h.0, λ e. d (sym e)), without_all P k l h.1))
    (same_or_not k g.num)

pub without-mem : (k : ℕ) (l : List Living) (g : Living) → Memᴰ g l → g.num ≢ k → Memᴰ g (without k l)
without-mem k [] g m n = absurd (Memᴰ.not-nil m)
without-mem k (x ∷ l) g m n = ⊎_elim
    (λ (e : k ≡ x.num).
    rw (without-head k x l e)
    (⊎_elim (λ (q : g ≡ x). absurd (n (ap (λ (z : Living). z.num) q ∙ sym e))) (λ m'. without-mem k l g m' n) (Memᴰ.cases_cons m)))
    (λ d.
    rw (without-keep k x l d)
    (⊎_elim (λ (q : g ≡ x). Memᴰ.head q) (λ m'. Memᴰ.tail (without-mem k l g m' n)) (Memᴰ.cases_cons m)))
    (same_or_not k x.num)

-- from any two, by number, to each two
pub two-intro : (R : Living → Living → Type 0) (l : List Living) → Rising l → ((g h : Living) → Memᴰ g l → Memᴰ h l → g.num < h.num → R g h) → EachTwo R l
two-intro R [] r f = tt
two-intro R (x ∷ l) r f = (first l r.0 (λ h m. Memᴰ.tail m), two-intro R l r.1 (λ g h m n. f g h (Memᴰ.tail m) (Memᴰ.tail n)))
  where
    first : (l' : List Living) → All (λ h. x.num < h.num) l' → ((h : Living) → Memᴰ h l' → Memᴰ h (x ∷ l)) → All (R x) l'
    first [] a i = tt
    first (y ∷ l') a i = (f x y (Memᴰ.head refl) (i y (Memᴰ.head refl)) a.0, first l' a.1 (λ h m. i h (Memᴰ.tail m)))

-- What a program shows at each turn: the two groups that it found gain, and are ahead of every two that live.
pub step_is : (s : State) → Rising s.living → (g h : Living) → Memᴰ g s.living → Memᴰ h s.living → g.num < h.num → 0 < gain_of g h → EachTwo (Ahead g h) s.living → step s ≡ merge s (living_pair g h s.living)
unfolding step follow
step_is s r g h m n lt p a = ap (follow s) (choice-is s.living r (living_pair g h s.living) (pairs-has s.living r g h m n lt) p a)

-- and where it stops: no two living groups gain
pub choice-none : (l : List Living) → EachTwo (λ g h. gain_of g h ≡ 0) l → choice l ≡ none
choice-none l z = go (choice l) refl
  where
    go : (o : Option Pair) → choice l ≡ o → choice l ≡ none
    go none e = e
    go (some c) e =
        let u = chosen-has _ l c e (each-pairs (λ g h. gain_of g h ≡ 0) l z) in
        let v = (chosen l c e).0 in
        absurd (omega arith)

-- a turn more, at the end of the run
pub run_step : (k : ℕ) (s : State) → run (suc k) s ≡ step (run k s)
unfolding run
run_step zero s = refl
run_step (suc k) s = run_step k (step s)

-- two runs that stop are one
pub run_end : (k m : ℕ) (s : State) → choice (run k s).living ≡ none → choice (run m s).living ≡ none → run k s ≡ run m s
unfolding run
run_end zero m s e f = sym (run-idle m s e)
run_end (suc k) zero s e f = run-idle (suc k) s f
run_end (suc k) (suc m) s e f = run_end k m (step s) e f

-- so a program that makes the steps until no two gain_of has made `merged`
pub merged-is : (k : ℕ) (xs : List Group) → EachTwo (λ g h. gain_of g h ≡ 0) (run k (start xs)).living → run k (start xs) ≡ merged xs
unfolding merged
merged-is k xs z = run_end k (length xs) (start xs) (choice-none _ z) (stops xs)
