-- Laws of the map from ids to rows. Assumes nothing.
use mathlib.Core.Path.{◌≡◌, refl, sym, ap, ◌∙◌}
use mathlib.Core.List.{List, [], ◌∷◌, ◌++◌, append_assoc}
use Prim.Native.Nat.{ℕ, suc, ◌+◌, ◌-◌, ◌*◌, ◌≤◌, ◌<◌}
use native.Mathlib.Nat.{add-zero}
use native.Mathlib.Numerals.{add-one}
use native.Mathlib.Omega.{arith}
use lib.ListN.{length, get_or, set}
use Rattle.laws.specs.Bounded.{tabulate}
use Rattle.laws.specs.LentRange.{seg}
use Rattle.laws.specs.Joining.{join_all}
use Rattle.laws.proofs.BoundedLaws.{length-tabulate, map-tabulate}
use Rattle.laws.proofs.RangeLaws.{seg-cons, seg-none}
use Rattle.shapes.specs.Shape.{Shape}
use Rattle.rows.specs.Subtable.{run_count_for}
use Rattle.store.specs.Placing.{Final, runs_of, all_runs, in_run, id_words, stored}
use Rattle.rows.specs.Lent.{run_at}
use Rattle.store.specs.Lent.{Mapped}

pub stored-append : (l k : List (ℕ × ℕ)) (m : List ℕ) → stored (l ++ k) m ≡ stored k (stored l m)
unfolding stored
stored-append [] k m = refl
stored-append (e ∷ l) k m = stored-append l k (set m e.0 e.1)

-- ---- one run

module _ (outer : ℕ) (w : List ℕ) (ids items : ℕ) (inside : ids + items ≤ length w) where
  abbrev pub rows_from : ℕ → List (ℕ × ℕ)
  rows_from i = in_run outer i (seg (ids + i) (items - i) w)

  pub run_more : (old new : List ℕ) (i : ℕ) → stored (rows_from i) new ≡ old → i < items
      → stored (rows_from (i + 1)) (set new (get_or w (ids + i) 0) (outer * 65536 + i)) ≡ old
  unfolding stored in_run
  run_more old new i s h =
      let e : items - i ≡ suc (items - (i + 1)) = omega arith in
      let f : ids + i + 1 ≡ ids + (i + 1) = omega arith in
      let step : rows_from i ≡ (get_or w (ids + i) 0, outer * 65536 + i) ∷ rows_from (i + 1) = rw (e, seg-cons (ids + i) (items - (i + 1)) w (omega arith), f, add-one i) in
      rw step at s

  pub run-done : (old new : List ℕ) (i : ℕ) → stored (rows_from i) new ≡ old → items ≤ i → new ≡ old
  unfolding stored in_run
  run-done old new i s h =
      let e : items - i ≡ 0 = omega arith in
      let z : rows_from i ≡ [] = rw (e, seg-none (ids + i) w) in
      rw z at s

-- ---- the runs of one group

module _ (s : Shape) (xs : List ℕ) (first : ℕ) where
  abbrev pub runs_from : ℕ → List Final
  runs_from k = tabulate k (run_count_for (length xs) - k) (λ i. record { shape = s; ids = run_at xs i })

  pub runs-all : id_words (first + 0) (runs_from 0) ≡ id_words first (runs_of (record { shape = s; ids = xs }))
  unfolding runs_of
  runs-all =
      let e : run_count_for (length xs) - 0 ≡ run_count_for (length xs) = omega arith in
      rw (e, add-zero)

  pub runs-more : (old new next : List ℕ) (k : ℕ) → stored (id_words (first + k) (runs_from k)) new ≡ old → k < run_count_for (length xs)
      → next ≡ stored (in_run (first + k) 0 (run_at xs k)) new → stored (id_words (first + (k + 1)) (runs_from (k + 1))) next ≡ old
  unfolding id_words tabulate
  runs-more old new next k t h e =
      let m : run_count_for (length xs) - k ≡ suc (run_count_for (length xs) - (k + 1)) = omega arith in
      let f : suc (first + k) ≡ first + (k + 1) = omega arith in
      let step : id_words (first + k) (runs_from k) ≡ in_run (first + k) 0 (run_at xs k) ++ id_words (first + (k + 1)) (runs_from (k + 1)) = rw (m, f, add-one k) in
      rw e (sym (stored-append (in_run (first + k) 0 (run_at xs k)) (id_words (first + (k + 1)) (runs_from (k + 1))) new) ∙ (rw step at t))

  pub runs_done : (old new : List ℕ) (k r : ℕ) → stored (id_words (first + k) (runs_from k)) new ≡ stored (id_words first (runs_of (record { shape = s; ids = xs }))) old
      → run_count_for (length xs) ≤ k → r ≡ first + run_count_for (length xs) → Mapped first (runs_of (record { shape = s; ids = xs })) old new r
  unfolding stored id_words tabulate runs_of
  runs_done old new k r t h e =
      let m : run_count_for (length xs) - k ≡ 0 = omega arith in
      let z : id_words (first + k) (runs_from k) ≡ [] = rw m in
      record {
        is = rw z at t;
        next = e ∙ ap (λ (n : ℕ). first + n) (sym (length-tabulate 0 (run_count_for (length xs)) (λ i. record { shape = s; ids = run_at xs i })));
      }

-- ---- all groups

words_append : (o : ℕ) (a b : List Final) → id_words o (a ++ b) ≡ id_words o a ++ id_words (o + length a) b
unfolding id_words
words_append o [] b = rw add-zero
words_append o (r ∷ a) b =
    let e : suc o + length a ≡ o + suc (length a) = omega arith in
    rw (words_append (suc o) a b, e, append_assoc)

module _ (f : ℕ → Final) (n : ℕ) where
  abbrev pub groups_from : ℕ → List Final
  groups_from g = join_all (tabulate g (n - g) (λ i. runs_of (f i)))

  pub groups-all : id_words 0 (groups_from 0) ≡ id_words 0 (all_runs (tabulate 0 n f))
  unfolding all_runs
  groups-all =
      let e : n - 0 ≡ n = omega arith in
      ap (λ (k : ℕ). id_words 0 (join_all (tabulate 0 k (λ i. runs_of (f i))))) e
      ∙ ap (λ (l : List (List Final)). id_words 0 (join_all l)) (sym (map-tabulate runs_of 0 n f))

  pub groups-more : (old new next : List ℕ) (first g r : ℕ) → stored (id_words first (groups_from g)) new ≡ old → g < n
      → Mapped first (runs_of (f g)) new next r → stored (id_words r (groups_from (g + 1))) next ≡ old
  unfolding join_all tabulate
  groups-more old new next first g r t h m =
      let e : n - g ≡ suc (n - (g + 1)) = omega arith in
      let step : groups_from g ≡ runs_of (f g) ++ groups_from (g + 1) = rw (e, add-one g) in
      let words : id_words first (groups_from g) ≡ id_words first (runs_of (f g)) ++ id_words (first + length (runs_of (f g))) (groups_from (g + 1)) = ap (id_words first) step ∙ words_append first (runs_of (f g)) (groups_from (g + 1)) in
      rw (m.is, m.next)
      (sym (stored-append (id_words first (runs_of (f g))) (id_words (first + length (runs_of (f g))) (groups_from (g + 1))) new) ∙ (rw words at t))

  pub groups-done : (old new : List ℕ) (first g : ℕ) → stored (id_words first (groups_from g)) new ≡ old → n ≤ g → new ≡ old
  unfolding stored id_words join_all tabulate
  groups-done old new first g t h =
      let e : n - g ≡ 0 = omega arith in
      let z : id_words first (groups_from g) ≡ [] = rw e in
      rw z at t
