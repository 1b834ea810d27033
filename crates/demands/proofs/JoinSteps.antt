-- The merges of the rule, one by one: the j-th entry of the log is the j-th merge, of the two living groups that the rule names. Assumes nothing.
use mathlib.Core.Path.{◌≡◌, refl, sym, ap, ◌∙◌}
use mathlib.Core.Option.{Option, none, some}
use mathlib.Core.List.{List, [], ◌∷◌, ◌++◌, map, append_assoc, Memᴰ}
use Prim.Native.Nat.{ℕ, zero, suc, ◌+◌, ◌-◌, ◌≤◌, ◌<◌}
use native.Mathlib.Omega.{arith}
use lib.ListN.{length, get_or, length-append}
use lib.Seq.{get_or-append_seam}
use Rattle.laws.proofs.EveryLaws.{members}
use Rattle.shapes.specs.Group.{Group}
use Rattle.rule.specs.Model.{Pair, Entry, State, gain_of, choice, entry, merge, follow, step, run, start, merged, total}
use Rattle.rule.proofs.PairLaws.{pairs-all, each-pairs, chosen-has}
use Rattle.rule.proofs.Theorems.{Merge, each-merge, run-merges, run-count, stops}
use Rattle.demands.specs.Demand3.{blank, Joins}
use Rattle.rule.proofs.Bridge.{run-numbered, run_step, run_end}

run-add : (a b : ℕ) (s : State) → run (a + b) s ≡ run b (run a s)
unfolding run
run-add zero b s = let e : 0 + b ≡ b = omega arith in ap (λ (n : ℕ). run n s) e
run-add (suc a) b s = let e : suc a + b ≡ suc (a + b) = omega arith in ap (λ (n : ℕ). run n s) e ∙ run-add a b (step s)

merge-log : (s : State) (c : Pair) → (merge s c).log ≡ s.log ++ (entry c ∷ [])
unfolding merge
merge-log s c = refl

step-some : (s : State) (c : Pair) → choice s.living ≡ some c → step s ≡ merge s c
unfolding step follow
step-some s c e = ap (follow s) e

module _ (xs : List Group) where
  record Chosen (j : ℕ) : Type 0 where
    one : Pair
    is : choice (run j (start xs)).living ≡ some one
    next-is : run (suc j) (start xs) ≡ merge (run j (start xs)) one

  -- no more merges than steps, and as long as there are merges to come a pair is chosen
  chosen-from : (j : ℕ) → length (run j (start xs)).log ≡ j → j < length (merged xs).log → Chosen j
  unfolding merged
  chosen-from j n h = go (choice (run j (start xs)).living) refl
    where
      go : (o : Option Pair) → choice (run j (start xs)).living ≡ o → Chosen j
      go none e =
          let same : run j (start xs) ≡ run (length xs) (start xs) = run_end j (length xs) (start xs) e (stops xs) in
          let long : length (run j (start xs)).log ≡ length (run (length xs) (start xs)).log = ap (λ (s : State). length s.log) same in
          absurd (omega arith)
      go (some c) e = record { one = c; is = e; next-is = run_step j (start xs) ∙ step-some (run j (start xs)) c e }

  log-long : (j : ℕ) → j ≤ length (merged xs).log → length (run j (start xs)).log ≡ j
  log-long zero h = unfold run in unfold start in refl
  log-long (suc j) h =
      let n = log-long j (omega arith) in
      let c = chosen-from j n (omega arith) in
      let e = ap (λ (s : State). length s.log) c.next-is ∙ ap length (merge-log (run j (start xs)) c.one) in
      e ∙ length-append (run j (start xs)).log (entry c.one ∷ []) ∙ omega arith

  module _ (j : ℕ) (h : j < length (merged xs).log) where
    abbrev long : length (run j (start xs)).log ≡ j
    long = log-long j (omega arith)

    c : Chosen j
    c = chosen-from j long h

    few : length (merged xs).log ≤ length xs
    unfolding merged
    few = omega (arith, run-count (length xs) xs)

    split : merged xs ≡ run (length xs - suc j) (run (suc j) (start xs))
    unfolding merged
    split =
        let e : length xs ≡ suc j + (length xs - suc j) = omega (arith, few) in
        ap (λ (n : ℕ). run n (start xs)) e ∙ run-add (suc j) (length xs - suc j) (start xs)

    entry_at : (l m : List Entry) (x : Entry) → length l ≡ j → get_or ((l ++ (x ∷ [])) ++ m) j blank ≡ x
    entry_at l m x e =
        ap (λ (i : ℕ). get_or ((l ++ (x ∷ [])) ++ m) i blank) (sym e)
        ∙ ap (λ (k : List Entry). get_or k (length l) blank) (append_assoc l (x ∷ []) m)
        ∙ get_or-append_seam l x m blank

    log-at : get_or (merged xs).log j blank ≡ entry c.one
    log-at =
        let more = run-merges (length xs - suc j) (run (suc j) (start xs)) in
        let whole : (merged xs).log ≡ ((run j (start xs)).log ++ (entry c.one ∷ [])) ++ map entry more.pairs =
        ap (λ (s : State). s.log) split ∙ more.log_is
        ∙ ap (λ (s : State). s.log ++ map entry more.pairs) c.next-is
        ∙ ap (λ (l : List Entry). l ++ map entry more.pairs) (merge-log (run j (start xs)) c.one) in
        ap (λ (l : List Entry). get_or l j blank) whole ∙ entry_at (run j (start xs)).log (map entry more.pairs) (entry c.one) long

    lives : Memᴰ c.one.first (run j (start xs)).living × Memᴰ c.one.second (run j (start xs)).living
    lives =
        let l = (run j (start xs)).living in
        let a = chosen-has _ l c.one c.is (pairs-all (λ g. Memᴰ g l) l (members l)) in
        (a.0, a.1)

    ordered : c.one.first.num < c.one.second.num
    ordered =
        let l = (run j (start xs)).living in
        chosen-has _ l c.one c.is (each-pairs (λ g h. g.num < h.num) l (run-numbered j xs).1)

    best : Merge (run j (start xs)) (merge (run j (start xs)) c.one) c.one
    best = each-merge (run j (start xs)) c.one c.is

    -- THE LAW
    pub joins : Joins xs j
    joins = record {
      pair = c.one;
      first-lives = lives.0;
      second-lives = lives.1;
      in_order = ordered;
      gains = let g = best.gains in omega arith;
      ahead = best.ahead;
      after = c.next-is;
      logged = log-at;
      falls = best.falls ∙ ap (λ (s : State). total s.living + gain_of c.one.first c.one.second) (sym c.next-is);
    }
