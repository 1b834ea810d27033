-- Mode 1 (RULES F5). Its group holds every id in order. Of at most 65,535 sets (one more is SETS_FULL) it is one
-- subtable, and id x is row x of it. Assumes nothing.
use mathlib.Core.Path.{◌≡◌, refl, ap, ◌∙◌}
use mathlib.Core.List.{List, [], ◌∷◌, append-nil}
use mathlib.Core.Logic.{⊎_elim}
use mathlib.Core.Option.{none}
use Prim.Native.Nat.{ℕ, zero, suc, ◌+◌, ◌*◌, ◌≤◌, ◌<◌}
use native.Mathlib.Omega.{arith}
use lib.ListN.{length}
use lib.Seq.{take_all}
use Rattle.laws.specs.Bytes.{bytes_of}
use Rattle.laws.specs.Bounded.{tabulate, up_to}
use Rattle.laws.specs.Joining.{join_all}
use Rattle.laws.proofs.UpLaws.{up-long}
use Rattle.laws.proofs.Cases.{lt-or-ge}
use Rattle.shapes.specs.Shape.{Shape}
use Rattle.shapes.specs.Group.{max_items}
use Rattle.rows.specs.Row.{Set}
use Rattle.rows.specs.Subtable.{run_count_for}
use Rattle.stores.specs.Stores.{offsets}
use Rattle.store.specs.Placing.{Final, runs_of, all_runs, in_run, id_words, slot_of, made_of}
use Rattle.rows.proofs.RunLaws.{run_none, run-some}

-- one group
abbrev pub one : Shape → List ℕ → List Final
one s xs = record { shape = s; ids = xs } ∷ []

-- the groups of mode 1: one, of n sets in order of adding
abbrev pub plain : Shape → ℕ → List Final
plain s n = one s (up_to n)

count-one : (n : ℕ) → n ≤ max_items → run_count_for n ≡ 1
count-one n h = ⊎_elim
    (λ (p : n < 1). omega (arith, run_none n (omega arith)))
    (λ (p : 1 ≤ n). omega (arith, run-some n (omega arith)))
    (lt-or-ge n 1)

-- F3: a group of at most 65,535 sets is one run
pub runs-one : (s : Shape) (xs : List ℕ) → length xs ≤ max_items → runs_of (record { shape = s; ids = xs }) ≡ one s xs
unfolding runs_of tabulate
runs-one s xs h = rw (count-one (length xs) h) (ap (one s) (take_all max_items xs h))

-- one subtable, where there are no sets too
pub plain-run : (s : Shape) (n : ℕ) → n ≤ max_items → all_runs (plain s n) ≡ plain s n
unfolding all_runs join_all
plain-run s n h = rw (runs-one s (up_to n) (omega (arith, up-long n)))

words_same : (a n : ℕ) → in_run 0 a (tabulate a n (λ k. k)) ≡ tabulate a n (λ x. (x, x))
unfolding in_run tabulate
words_same a zero = refl
words_same a (suc n) =
    let e : 0 * 65536 + a ≡ a = omega arith in
    rw (e, words_same (suc a) n)

-- id x is at outer 0 and inner x: its word is x
pub plain-words : (s : Shape) (n : ℕ) → n ≤ max_items → id_words 0 (all_runs (plain s n)) ≡ tabulate 0 n (λ x. (x, x))
unfolding id_words
plain-words s n h = rw (plain-run s n h) (append-nil (in_run 0 0 (up_to n)) ∙ words_same 0 n)

-- no sets: exactly one subtable, a null one
pub plain-none : (axes : ℕ) (coords : List (List ℕ)) (set : ℕ → Set) (s : Shape) → (made_of axes coords set (plain s 0)).tables ≡ none ∷ []
unfolding made_of slot_of tabulate
plain-none axes coords set s = rw (plain-run s 0 (omega arith))

-- whose offset is 0
pub none-offset : (at : ℕ) → offsets at (none ∷ []) ≡ bytes_of 4 0
unfolding offsets
none-offset at = append-nil (bytes_of 4 0)
