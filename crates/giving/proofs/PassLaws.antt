-- The cells of a row that are not zero, each compared with the word of its column's region: the loop over them, and one cell. Assumes nothing.
use mathlib.Core.Path.{◌≡◌, refl, sym, ap, ◌∙◌}
use mathlib.Core.Bool.{false}
use mathlib.Core.List.{List, [], ◌∷◌}
use mathlib.Core.Logic.{⊎_elim}
use Prim.Native.Nat.{ℕ, zero, suc, ◌+◌, ◌-◌, ◌*◌, ◌%◌, ◌^◌, ◌≤◌, ◌<◌}
use native.Mathlib.Omega.{arith}
use Rattle.laws.proofs.BytesLaws.{pow-top}
use lib.IntN.{pos, negsuc}
use lib.ListN.{length, get_or, set}
use lib.Seq.{get_or-set_same, get_or-set_other}
use borrow.Author.Tests.{lt-ltb, le-ltb}
use borrow.Author.Count.{below_more}
use Rattle.laws.specs.Bytes.{be}
use Rattle.laws.specs.LentRange.{Only}
use Rattle.laws.specs.Signed.{signed, value, word, zero_word}
use Rattle.laws.proofs.Cases.{lt-or-ge, true-false}
use Rattle.laws.proofs.RangeLaws.{only-trans, only_set}
use Rattle.laws.proofs.SignedLaws.{value-below, value-above, word_value}
use Rattle.reader.specs.Store.{words, column_start, column_width}
use Rattle.reader.proofs.StoreLaws.{words-length, words-at, ok-below, ok-once}
use Rattle.reader.proofs.ColumnLaws.{at-fits}
use Rattle.cells.specs.Lent.{Ahead, CellsFit, NextCell}
use Rattle.giving.specs.declared.entries.Aims.{Aims}
use Rattle.giving.specs.Lent.{column_of, cell_at, ColumnsFit, Nonzero, Passed}

-- as many numbers as k bytes have, by a shift
pub span_is : (k : ℕ) → k ≤ 4 → (1 * 2 ^ (8 * k)) % 2 ^ 64 ≡ 256 ^ k
span_is zero h = refl
span_is (suc zero) h = refl
span_is (suc (suc zero)) h = refl
span_is (suc (suc (suc zero))) h = refl
span_is (suc (suc (suc (suc zero)))) h = refl
span_is (suc (suc (suc (suc (suc k))))) h = absurd (omega arith)

pub span_low : (k : ℕ) → k ≤ 4 → (1 * 2 ^ (8 * k)) % 2 ^ 64 ≤ 4294967296
span_low k h = let p : 256 ^ k ≤ 256 ^ 4 = pow-top 4 {i = k} h in omega (arith, span_is k h)

-- ---- one cell

pub cell-low : (k x r : ℕ) → 2 * x < 256 ^ k → r ≡ zero_word + x → value r ≡ signed k x
unfolding signed
cell-low k x r h e =
    let d : r - zero_word ≡ x = omega arith in
    value-above r (omega arith) ∙ (rw (lt-ltb (2 * x) (256 ^ k) h) (ap pos d))

pub cell-high : (k x r : ℕ) → 256 ^ k ≤ 2 * x → x < 256 ^ k → r + 256 ^ k ≡ zero_word + x → value r ≡ signed k x
unfolding signed
cell-high k x r h l e =
    let d : zero_word - suc r ≡ 256 ^ k - suc x = omega arith in
    value-below r (omega arith) ∙ (rw (le-ltb (2 * x) (256 ^ k) h) (ap negsuc d))

-- of column j, where a and b are its place and its bytes
pub cell-of : (s : List ℕ) (row word j a b v : ℕ) → a ≡ column_start word j → b ≡ column_width word j → value v ≡ signed b (be b s (row + a)) → value v ≡ cell_at s row word j
cell-of s row word j a b v e f g = rw (← e, ← f) g

-- words of equal values are equal
pub value-once : (v w : ℕ) → value v ≡ value w → v ≡ w
value-once v w e = sym (word_value v) ∙ ap word e ∙ word_value w

-- ---- the columns

-- words behind what was written say what they said
pub ahead-kept : {s : List ℕ} {a n at : ℕ} {old new : List ℕ} → Only ((a, n) ∷ []) old new → a + n ≤ at → Ahead s at old → Ahead s at new
ahead-kept {s} {a} {n} {at} {old} {new} o h x = record {
  room = rw o.long x.room;
  says = λ p l. rw (o.kept (at + p) (record { apart = λ z. omega arith }, tt)) (x.says p l);
}

pub record Passing (s : List ℕ) (at row word n : ℕ) (t : Aims) (old new : List ℕ) (j : ℕ) : Type 0 where
  pub within : j ≤ n
  pub only : Only ((t.values, t.listed) ∷ []) old new
  pub same : (i : ℕ) → i < j → Nonzero s row word i → value (get_or old (t.values + column_of s at i) 0) ≡ cell_at s row word i
  pub crossed : (i : ℕ) → i < j → Nonzero s row word i → get_or new (t.values + column_of s at i) 0 ≡ zero_word
  pub rest : (q : ℕ) → q < t.listed → ((i : ℕ) → i < j → Nonzero s row word i → column_of s at i ≡ q → ⊥)
      → get_or new (t.values + q) 0 ≡ get_or old (t.values + q) 0

module _ (s : List ℕ) (at row word n : ℕ) (t : Aims) (old : List ℕ) (f : ColumnsFit s at row word n old t) where
  pub cell-in : (j : ℕ) → j < n → row + column_start word j + column_width word j ≤ length s
  cell-in j h = omega (arith, at-fits word j n h, f.cells_in)

  pub column-low : (j : ℕ) → j < n → column_of s at j < t.listed
  column-low j h = rw (← words-at s at n j h) (ok-below t.listed (words s at n) f.named j (omega (arith, words-length s at n)))

  pub column-once : (i j : ℕ) → i < j → j < n → column_of s at i ≡ column_of s at j → ⊥
  column-once i j l h e =
      ok-once t.listed (words s at n) f.named i j l (omega (arith, words-length s at n))
      (words-at s at n j h ∙ sym e ∙ sym (words-at s at n i (omega arith)))

  module _ (new : List ℕ) (j : ℕ) (g : Passing s at row word n t old new j) where
    pub cells_fit : CellsFit s new t.zeros row word n j
    cells_fit = record {
      ahead = ahead-kept g.only f.room f.ahead;
      word_low = f.word_low;
      columns-few = f.columns-few;
      inside = f.cells_in;
      from = g.within;
    }

    -- from column j on the first cell that is not zero is column i's, or there is none
    module _ (i : ℕ) (c : NextCell s row word n j i) where
      skipped : Passing s at row word n t old new i
      skipped = record {
        within = c.within;
        only = g.only;
        same = λ k l d. ⊎_elim (λ (m : k < j). g.same k m d) (λ (m : j ≤ k). absurd (d (c.zeros k m l))) (lt-or-ge k j);
        crossed = λ k l d. ⊎_elim (λ (m : k < j). g.crossed k m d) (λ (m : j ≤ k). absurd (d (c.zeros k m l))) (lt-or-ge k j);
        rest = λ q m d. g.rest q m (λ k l. d k (omega (arith, c.behind)));
      }

      module _ (h : i < n) (q : ℕ) (q-is : q ≡ column_of s at i) where
        pub column-room : t.values + q < length new
        column-room = omega (arith, q-is, column-low i h, f.room, f.ahead.room, g.only.long)

        fresh : get_or new (t.values + q) 0 ≡ get_or old (t.values + q) 0
        fresh = skipped.rest q (omega (arith, q-is, column-low i h)) (λ k l d e. column-once k i l h (e ∙ q-is))

        module _ (v : ℕ) (v-is : value v ≡ cell_at s row word i) where
          pub passing-bad : (get_or new (t.values + q) 0 ≡ v → ⊥) → Passed s at row word n t old new false
          passing-bad d = record {
            only = g.only;
            same = λ z. absurd (true-false z refl);
            crossed = λ z. absurd (true-false z refl);
            rest = λ z. absurd (true-false z refl);
            other = λ z. record {
              column = i;
              within = h;
              nonzero = c.there h;
              differs = λ e. d (fresh ∙ value-once (get_or old (t.values + q) 0) v (ap (λ (k : ℕ). value (get_or old (t.values + k) 0)) q-is ∙ e ∙ sym v-is));
            };
          }

          module _ (e : get_or new (t.values + q) 0 ≡ v) where
            other : (k : ℕ) → (k ≡ q → ⊥) → get_or (set new (t.values + q) zero_word) (t.values + k) 0 ≡ get_or new (t.values + k) 0
            other k d = get_or-set_other new (t.values + q) (t.values + k) zero_word 0 (λ z. d (omega arith))

            next : Passing s at row word n t old (set new (t.values + q) zero_word) (i + 1)
            next = record {
              within = omega arith;
              only = only-trans g.only (only_set ((t.values, t.listed) ∷ []) new (t.values + q) zero_word (λ o. omega (arith, q-is, column-low i h, o.0.apart (omega (arith, q-is, column-low i h)))));
              same = below_more _ _ skipped.same (λ d. ap (λ (k : ℕ). value (get_or old (t.values + k) 0)) (sym q-is) ∙ ap value (sym fresh ∙ e) ∙ v-is);
              crossed = below_more _ _
                  (λ k l d. other (column_of s at k) (λ z. column-once k i l h (z ∙ q-is)) ∙ skipped.crossed k l d)
                  (λ d. ap (λ (k : ℕ). get_or (set new (t.values + q) zero_word) (t.values + k) 0) (sym q-is) ∙ get_or-set_same new (t.values + q) zero_word 0 column-room);
              rest = λ p m d. other p (λ z. d i (omega arith) (c.there h) (sym q-is ∙ sym z)) ∙ skipped.rest p m (λ k l. d k (omega arith));
            }

            pub passing-more : (k : ℕ) → k ≡ i + 1 → Passing s at row word n t old (set new (t.values + q) zero_word) k
            passing-more k e = rw e next
