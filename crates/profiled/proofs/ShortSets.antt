-- Where the panel's reader takes every record, every value of every set is one of 16 bits. Assumes nothing.
use mathlib.Core.Path.{◌≡◌}
use mathlib.Core.Bool.{true}
use mathlib.Core.List.{List, [], ◌∷◌}
use Prim.Native.Nat.{ℕ, suc, ◌≤◌, ◌<◌}
use native.Mathlib.Nat.{le_refl}
use native.Mathlib.Omega.{arith}
use lib.Dec.{eqb}
use Rattle.laws.specs.Every.{All}
use Rattle.laws.specs.Signed.{fits, value, zero_word}
use Rattle.laws.proofs.Cases.{Which, which}
use Rattle.laws.proofs.Cases.Which.{holds, fails}
use Rattle.laws.proofs.EveryLaws.{all_append}
use Rattle.sets.specs.Set.{Set}
use Rattle.said.specs.Records.{record_at, record_count, kind, value_kind, value_as_word, region_number}
use Rattle.said.specs.Sets.{Region, first_like, with_value}
use Rattle.said.specs.Job.{Said, in_axes, regions_only, after_value, after_end, fine, records_from}
use Rattle.said.proofs.GoodLaws.{placed-all}
use Rattle.said.proofs.WalkLaws.{walk-keeps}
use Rattle.panel.specs.Taken.{has_short_value}
use Rattle.refusing.specs.OddRecords.{PanelTakes}

-- a word of 16 bits
abbrev pub ShortWord : ℕ → Type 0
ShortWord w = fits 2 (value w) ≡ true

abbrev pub ShortSet : Set → Type 0
ShortSet s = All (λ (e : ℕ × ℕ). fits 2 (value e.1) ≡ true) s

with-short : (k w : ℕ) (s : Set) → ShortWord w → ShortSet s → ShortSet (with_value k w s)
unfolding with_value
with-short k w s h a = go (which (eqb w zero_word))
  where
    go : Which (eqb w zero_word) → ShortSet (with_value k w s)
    go (holds e) = rw e a
    go (fails e) = rw e (placed-all (λ (e : ℕ × ℕ). fits 2 (value e.1) ≡ true) k w s h a)

taken-short : (job : List ℕ) (j : ℕ) → PanelTakes job j → kind (record_at job j) ≡ value_kind → ShortWord (value_as_word (record_at job j))
unfolding has_short_value
taken-short job j t k = go (which (has_short_value (record_at job j)))
  where
    go : Which (has_short_value (record_at job j)) → ShortWord (value_as_word (record_at job j))
    go (holds e) = e
    go (fails e) = absurd (t.not-long (record { is-value = k; long = e }))

module _ (axes mode : ℕ) (job : List ℕ) (takes : (j : ℕ) → j < record_count job → PanelTakes job j) where
  -- so far, within the job
  abbrev Short : ℕ → Said → Type 0
  Short i s = i ≤ record_count job → All ShortSet s.sets × ShortSet s.begun

  value-more : (i : ℕ) (s : Said) (q : ℕ) → kind (record_at job i) ≡ value_kind → Short i s → Short (suc i) (after_value s q (value_as_word (record_at job i)))
  unfolding after_value
  value-more i s q k p h =
      let a = p (omega arith) in
      (a.0, with-short _ (value_as_word (record_at job i)) s.begun (taken-short job i (takes i h) k) a.1)

  end_more : (i : ℕ) (s : Said) → Short i s → Short (suc i) (after_end s)
  unfolding after_end
  end_more i s p h = let a = p (omega arith) in (all_append ShortSet s.sets (s.begun ∷ []) a.0 (a.1, tt), tt)

  begin : (i : ℕ) (l : List Region) → Short i (regions_only l)
  unfolding regions_only
  begin i l h = (tt, tt)

  pub sets-short : (s : Said) → records_from axes mode job job (record_count job) 0 in_axes ≡ fine s → All ShortSet s.sets
  sets-short s e =
      ((walk-keeps axes mode job (λ i. Unit {0}) Short
      (λ i k z u. tt)
      (λ i z u. begin i _)
      (λ i s k z p. value-more i s (first_like s.regions (region_number (record_at job i))) k p)
      (λ i s k p. end_more i s p)
      (record_count job) s tt e).0 (le_refl (record_count job))).0
