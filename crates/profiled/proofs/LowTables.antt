-- The subtables of final groups without a column of 32 bits and with few columns. Assumes nothing.
use mathlib.Core.Path.{◌≡◌, refl}
use mathlib.Core.List.{List, [], ◌∷◌}
use Prim.Native.Nat.{ℕ, zero, suc, ◌+◌, ◌*◌, ◌≤◌}
use native.Mathlib.Omega.{arith}
use lib.ListN.{length, take, drop, length-map, length-append}
use borrow.Author.Tests.{ne_eqb}
use Rattle.laws.specs.Every.{All}
use Rattle.laws.specs.Bounded.{tabulate}
use Rattle.laws.proofs.EveryLaws.{all-imp, all_map}
use Rattle.shapes.specs.Shape.{Shape}
use Rattle.shapes.specs.Group.{max_items}
use Rattle.rows.specs.Columns.{add_if, of_width, columns_of, word_count}
use Rattle.rows.specs.Row.{Set}
use Rattle.rows.specs.Subtable.{run_count_for}
use Rattle.store.specs.Placing.{Final, runs_of, all_runs, new_index, slot_of, made_of}
use Rattle.accepted.proofs.RunSound.{runs-all}
use Rattle.narrow.specs.Columns.{most_columns}
use Rattle.profiled.specs.Readable.{ReadableSlot}
use Rattle.profiled.proofs.LowShapes.{Low}

-- no column of 32 bits
no-fours : (r : ℕ) (s : Shape) → Low s → of_width 4 r s ≡ []
unfolding of_width add_if
no-fours r [] l = refl
no-fours r (v ∷ s) l =
    let m = l.most 0 in
    rw (ne_eqb v 4 (λ e. omega arith), no-fours (r + 1) s (record { most = λ k. l.most (suc k) }))

-- so the word count is at most the columns
word_low : (s : Shape) → Low s → word_count s ≤ length (columns_of s)
unfolding word_count columns_of
word_low s l = rw (no-fours 0 s l) (let a = length-append (of_width 2 0 s) (of_width 1 0 s) in omega arith)

-- a group that the panel's reader takes
pub record Narrow (g : Final) : Type 0 where
  pub low : Low g.shape
  pub few : length (columns_of g.shape) ≤ most_columns

tabulate-all : (P : Final → Type 0) (a n : ℕ) (f : ℕ → Final) → ((k : ℕ) → P (f k)) → All P (tabulate a n f)
unfolding tabulate
tabulate-all P a zero f h = tt
tabulate-all P a (suc n) f h = (h a, tabulate-all P (suc a) n f h)

-- so are its runs
cut-narrow : (g : Final) → Narrow g → All Narrow (runs_of g)
unfolding runs_of
cut-narrow g n = tabulate-all Narrow 0 (run_count_for (length g.ids)) (λ k. record { shape = g.shape; ids = take max_items (drop (max_items * k) g.ids) }) (λ k. record { low = n.low; few = n.few })

slot-readable : (number : ℕ → ℕ) (set : ℕ → Set) (s : Shape) (ids : List ℕ) → Low s → length (columns_of s) ≤ most_columns → ReadableSlot (slot_of number set s ids)
unfolding slot_of
slot-readable number set s [] l f = tt
slot-readable number set s (x ∷ xs) l f = record {
  no-long-rows = omega (arith, word_low s l);
  few-columns = omega (arith, length-map (columns_of s) number);
}

-- THE LAW
pub made-readable : (axes : ℕ) (coords : List (List ℕ)) (set : ℕ → Set) (gs : List Final) → All Narrow gs → All ReadableSlot (made_of axes coords set gs).tables
unfolding made_of
made-readable axes coords set gs h =
    all_map ReadableSlot (λ (r : Final). slot_of (new_index gs) set r.shape r.ids) (all_runs gs)
    (all-imp (λ (r : Final) n. slot-readable (new_index gs) set r.shape r.ids n.low n.few) (all_runs gs)
    (runs-all Narrow gs (all-imp cut-narrow gs h)))
