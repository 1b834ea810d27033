-- The numbers of a subtable that is left, and the bytes of all. Assumes nothing.
use mathlib.Core.Path.{◌≡◌, refl, sym, ap, ap₂, ◌∙◌}
use mathlib.Core.List.{List, [], ◌∷◌}
use Prim.Native.Nat.{ℕ, ◌+◌, ◌-◌, ◌*◌, ◌/◌, ◌≤◌, ◌<◌}
use native.Mathlib.Omega.{arith}
use lib.ListN.{length, get_or}
use Rattle.laws.specs.Bag.{sum}
use Rattle.laws.specs.Bytes.{be}
use Rattle.laws.specs.LentRange.{Only}
use Rattle.laws.proofs.BagLaws.{sum-next}
use Rattle.laws.proofs.Products.{product}
use Rattle.reader.specs.Store.{region_count, column_start, Word}
use Rattle.reader.proofs.StoreLaws.{SubtableFits, subtable-fits}
use Rattle.stores.proofs.PartLaws.{be-two}
use Rattle.cutting.specs.LentCut.{start_of, rows_of, table_of, TableFit, CutIs, cut_size}

module _ {s : List ℕ} {n : ℕ} {w : List ℕ} {g : ℕ} (f : TableFit s n w g) where
  abbrev at : ℕ
  at = table_of s n w g

  -- the subtable lies in the store
  pub fits : SubtableFits s (table_of s n w g)
  fits = subtable-fits s (table_of s n w g) (region_count s) f.good

  pub table_is : (j o r : ℕ) → j ≡ get_or w (2 * n + g) 0 → o ≡ get_or w j 0 → Word 4 s (8 + 4 * (o / 65536)) r → (r ≡ table_of s n w g) × (r < 4294967296)
  unfolding table_of
  table_is j o r a b h =
      let e : o ≡ get_or w (start_of n w g) 0 = b ∙ ap (λ (i : ℕ). get_or w i 0) a in
      (h.is ∙ ap (λ (x : ℕ). be 4 s (8 + 4 * (x / 65536))) e, h.below)

  pub first-in : (j : ℕ) → j ≡ get_or w (2 * n + g) 0 → j < length w
  first-in j a = omega (arith, f.up, f.top, f.starts)

  pub cut-is : ((k : ℕ) → get_or s k 0 < 256) → (r word columns from to : ℕ) → (r ≡ table_of s n w g) × (r < 4294967296) → Word 2 s (r + 2) word → Word 2 s (r + 4) columns
      → from ≡ get_or w (2 * n + g) 0 → to ≡ get_or w (2 * n + g + 1) 0 → CutIs s n w g r word columns from (to - from)
  cut-is bytes r word columns from to a b c d e =
      let z : 2 * n + g + 1 ≡ 2 * n + (g + 1) = omega arith in
      let y : to ≡ start_of n w (g + 1) = e ∙ ap (λ (i : ℕ). get_or w i 0) z in
      let rows : to - from ≡ rows_of n w g = ap₂ (λ (x y : ℕ). x - y) y d in
      record {
        at-is = a.0;
        word-is = b.is ∙ ap (λ (x : ℕ). be 2 s (x + 2)) a.0;
        columns-is = c.is ∙ ap (λ (x : ℕ). be 2 s (x + 4)) a.0;
        from_is = d;
        rows_is = rows;
        at_low = a.1;
        word_low = b.below;
        columns-low = c.below;
        rows-low = omega (arith, f.few, be-two s bytes (table_of s n w g));
      }

  pub head_in : (r : ℕ) → r ≡ table_of s n w g → r + 6 ≤ length s
  head_in r e = rw e fits.head

-- ---- sizes

pub size_low : (word columns rows long : ℕ) → columns < 65536 → rows < 65536 → long < 262144 → rows * long ≤ 65535 * 262143
size_low word columns rows long a b c = product 65535 262143 (omega arith) (omega arith)

pub size_is : (word columns rows long : ℕ) → columns < 65536 → rows < 65536 → long ≡ column_start word columns → long < 262144
    → (6 + 2 * columns + rows * long ≡ 6 + 2 * columns + rows * column_start word columns) × (6 + 2 * columns + rows * long < 34359738368)
size_is word columns rows long a b e l = (ap (λ (x : ℕ). 6 + 2 * columns + rows * x) e, omega (arith, size_low word columns rows long a b l))

pub size_of : (s : List ℕ) (n : ℕ) (w : List ℕ) (g at word columns from rows r : ℕ) → CutIs s n w g at word columns from rows → r ≡ 6 + 2 * columns + rows * column_start word columns → r ≡ cut_size s n w g
unfolding cut_size
size_of s n w g at word columns from rows r c e = e ∙ rw (← c.word-is, ← c.columns-is, ← c.rows_is)

-- the bytes of the first g
pub record SizeSo (s : List ℕ) (n : ℕ) (w : List ℕ) (t size g : ℕ) : Type 0 where
  pub within : g ≤ t
  pub is : size ≡ sum (cut_size s n w) g
  pub low : size ≤ g * 34359738368

module _ (s : List ℕ) (n : ℕ) (w : List ℕ) (t : ℕ) where
  pub size-start : SizeSo s n w t 0 0
  unfolding sum
  size-start = record { within = omega arith; is = refl; low = omega arith }

  pub size-more : (size g x : ℕ) → SizeSo s n w t size g → g < t → x ≡ cut_size s n w g → x < 34359738368 → SizeSo s n w t (size + x) (g + 1)
  size-more size g x h l e b = record {
    within = omega arith;
    is = sym (sum-next (cut_size s n w) g ∙ ap₂ (λ (a b : ℕ). a + b) (sym h.is) (sym e));
    low = omega (arith, h.low);
  }

-- ---- where other words of work change

pub front : (n : ℕ) {old new : List ℕ} {m : ℕ} → Only ((3 * n + 1, m) ∷ []) old new → (k : ℕ) → k < 3 * n + 1 → get_or new k 0 ≡ get_or old k 0
front n o k h = o.kept k (record { apart = λ x. absurd (omega arith) }, tt)

module _ {s : List ℕ} {n : ℕ} {old new : List ℕ} {m : ℕ} (o : Only ((3 * n + 1, m) ∷ []) old new) where
  module _ {g : ℕ} (g-most : g < n) (f : TableFit s n old g) where
    start₀ : start_of n new g ≡ start_of n old g
    start₀ = front n o (2 * n + g) (omega arith)

    start₁ : start_of n new (g + 1) ≡ start_of n old (g + 1)
    start₁ = front n o (2 * n + (g + 1)) (omega arith)

    word₀ : get_or new (start_of n new g) 0 ≡ get_or old (start_of n old g) 0
    word₀ = ap (λ (i : ℕ). get_or new i 0) start₀ ∙ front n o (start_of n old g) (omega (arith, f.up, f.top))

    pub table_kept : table_of s n new g ≡ table_of s n old g
    unfolding table_of
    table_kept = rw word₀

    pub fit-kept : TableFit s n new g
    fit-kept = record {
      starts = rw o.long f.starts;
      up = rw (start₀, start₁) f.up;
      top = rw start₁ f.top;
      offset-in = rw word₀ f.offset-in;
      good = rw table_kept f.good;
      few = rw (start₀, start₁, table_kept) f.few;
      inner = λ j p q.
          let a : start_of n old g ≤ j = omega (arith, start₀) in
          let b : j < start_of n old (g + 1) = omega (arith, start₁) in
          rw (front n o j (omega (arith, f.top)), table_kept) (f.inner j a b);
    }
