-- The record that ends a set: how a walk finds it. Assumes nothing.
use mathlib.Core.Path.{◌≡◌, refl, sym, ap, ◌∙◌}
use mathlib.Core.Bool.{Bool, true}
use mathlib.Core.List.{List}
use Prim.Native.Nat.{ℕ, ◌+◌, ◌≤◌, ◌<◌}
use native.Mathlib.Omega.{arith}
use borrow.Author.Tests.{eq-eqb, ne_eqb, lt-ltb, le-ltb}
use Rattle.laws.specs.Bounded.{tabulate}
use Rattle.laws.specs.Sorting.{keep, rank}
use Rattle.laws.proofs.RankLaws.{rank-in, rank-out, rank_less, kept_at}
use Rattle.said.specs.Records.{record_bytes, record_start, record_at, record_count, kind, end_kind, is_end}
use Rattle.showing.specs.Parts.{no_span, ends_of, end_at, end_span}

module _ (job : List ℕ) where
  abbrev pub ends : ℕ → Bool
  ends i = is_end (record_at job i)

  -- the ends before record i are counted, and set j has not ended there
  pub record Counted (j n i before : ℕ) : Type 0 where
    pub upto : i ≤ n
    pub count-is : before ≡ rank ends i
    pub most : before ≤ j

  pub counted_none : (j n : ℕ) → Counted j n 0 0
  unfolding keep tabulate
  counted_none j n = record { upto = omega arith; count-is = refl; most = omega arith }

  module _ {j n i before : ℕ} (c : Counted j n i before) (below : i < n) where
    pub counted-end : kind (record_at job i) ≡ end_kind → (before ≡ j → ⊥) → (next : ℕ) → next ≡ before + 1 → Counted j n (i + 1) next
    counted-end e d next f = record {
      upto = omega arith;
      count-is = omega (arith, c.count-is, rank-in ends i (eq-eqb (kind (record_at job i)) end_kind e));
      most = omega (arith, c.most);
    }

    pub counted-other : (kind (record_at job i) ≡ end_kind → ⊥) → (next : ℕ) → next ≡ before → Counted j n (i + 1) next
    counted-other d next f = record {
      upto = omega arith;
      count-is = f ∙ c.count-is ∙ sym (rank-out ends i (ne_eqb (kind (record_at job i)) end_kind d));
      most = omega (arith, c.most);
    }

    pub end-here : n ≡ record_count job → kind (record_at job i) ≡ end_kind → before ≡ j → i ≡ end_at job j
    unfolding end_at ends_of
    end-here m e f =
        let t : ends i ≡ true = eq-eqb (kind (record_at job i)) end_kind e in
        let b : i < record_count job = omega arith in
        let r : j ≡ rank ends i = sym f ∙ c.count-is in
        rw (lt-ltb j (rank ends (record_count job)) (omega (arith, rank_less ends i (record_count job) t b)), r)
        (sym (kept_at ends (record_count job) i b t))

  pub end_none : {j n before : ℕ} (i : ℕ) → Counted j n i before → n ≤ i → n ≡ record_count job → n ≡ end_at job j
  unfolding end_at ends_of
  end_none {j} {n} {before} i c h m =
      let e : i ≡ record_count job = omega (arith, c.upto) in
      let f : before ≡ rank ends (record_count job) = c.count-is ∙ ap (rank ends) e in
      rw (le-ltb j (rank ends (record_count job)) (omega (arith, c.most))) m

  -- ---- where it lies

  module _ (j n i : ℕ) (m : n ≡ record_count job) (e : i ≡ end_at job j) where
    pub part-there : i < n → record { at = record_start i; long = record_bytes } ≡ end_span job j
    unfolding end_span
    part-there h = rw (← e, lt-ltb i (record_count job) (omega arith)) refl

    pub part_none : n ≤ i → no_span ≡ end_span job j
    unfolding end_span
    part_none h = rw (← e, le-ltb i (record_count job) (omega arith)) refl
