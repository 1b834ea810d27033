-- The list put in, sorted, each once, and grouped. Assumes nothing.
use Rattle.std.proofs.Common.{◌≡◌, ℕ, ◌+◌, ◌-◌, ◌*◌, ◌<◌, ◌≤◌, List, ◌++◌, length, get_or, drop, sym, ap, ◌∙◌, arith, IsPermutation}
use Rattle.std.specs.List.Sorted.{IsNonDecreasingBy}
use Rattle.std.proofs.lemmas.List.Sorted.{length_permutation, IsPermutation-sym, Contains-permutation}
use lib.ListN.{length-append, length-drop, get_or-append}
use lib.Seq.{get_or-append-add, get_or-drop, take_at}
use Rattle.std.proofs.lemmas.List.{get_or_default}
use Rattle.laws.proofs.RangeLaws.{only-trans, only-weaken}
use Rattle.choosing.proofs.AlikeLaws.{sorted-is}
use Rattle.choosing.specs.Lent.{TakenIn, Rising, Low, Within, Once, Grouped, ChosenAt}

-- ---- the list is put in, and sorted where it stands

module _ (rows old s : List ℕ) (room : length rows ≤ length old) (p : IsPermutation rows s) (up : IsNonDecreasingBy (λ x. x) s) where
  long : length s ≡ length rows
  long = length_permutation rows s p

  word : (a : ℕ) → a < length rows → get_or (s ++ drop (length rows) old) a 0 ≡ get_or s a 0
  word a h = get_or-append s (drop (length rows) old) 0 a (omega (arith, long))

  pub taken : TakenIn rows old (s ++ drop (length rows) old)
  taken = record {
    only = record {
      long = simp (length-append, length-drop) (omega (arith, long));
      kept = λ k o.
          let e : length s + (k - length s) ≡ k = omega (arith, long, o.0.apart) in
          rw e at (get_or-append-add s (drop (length rows) old) (k - length s) 0) ∙ get_or-drop (length rows) old (k - length s) 0
          ∙ ap (λ (i : ℕ). get_or old i 0) (omega (arith, long, o.0.apart));
    };
    is = take_at s (drop (length rows) old) (length rows) long ∙ sorted-is rows s p up;
    order = record { at_most = λ i j q r. omega (arith, word i (omega arith), word j r, up i j 0 (omega arith) (omega (arith, long))) };
    from = λ a h.
        let c = Contains-permutation s rows (get_or s a 0) (IsPermutation-sym rows s p) (a, omega (arith, long), get_or_default s a (get_or s a 0) 0 (omega (arith, long))) in
        (c.0, c.1, get_or_default rows c.0 0 (get_or s a 0) c.1 ∙ c.2 ∙ sym (word a h));
    into = λ j h.
        let c = Contains-permutation rows s (get_or rows j 0) p (j, h, get_or_default rows j (get_or rows j 0) 0 h) in
        (c.0, omega (arith, c.1, long), word c.0 (omega (arith, c.1, long)) ∙ get_or_default s c.0 0 (get_or rows j 0) c.1 ∙ c.2);
  }

-- ---- all steps

module _ {rows w₀ w₂ : List ℕ} (room : 3 * length rows + 1 ≤ length w₀) (low : Low (length rows) rows) (t : TakenIn rows w₀ w₂) where
  abbrev n : ℕ
  n = length rows

  module _ {w₃ : List ℕ} {k : ℕ} (o : Once n w₂ w₃ k) where
    long₃ : length w₃ ≡ length w₀
    long₃ = omega (arith, t.only.long, o.only.long)

    from₃ : (a : ℕ) → a < k → Within n rows (get_or w₃ a 0)
    from₃ a h =
        let q = o.from a h in
        let p = t.from q.0 q.1 in
        (p.0, p.1, p.2 ∙ q.2)

    pub group-ready : (k ≤ n) × (3 * n + 1 ≤ length w₃) × Rising k w₃ × Low k w₃
    group-ready = (
      o.most,
      omega (arith, long₃),
      o.rising,
      record { top = λ a h. let p = from₃ a h in omega (arith, low.top p.0 p.1, p.2) },
    )

    module _ {w₄ : List ℕ} {m : ℕ} (g : Grouped n k w₃ w₄ m) where
      -- grouping leaves the words
      stays : (i : ℕ) → i < n → get_or w₄ i 0 ≡ get_or w₃ i 0
      stays i l = g.only.kept i (record { apart = λ x. absurd (omega arith) }, tt)

      pub chosen : ChosenAt rows w₀ w₄ k m
      chosen = record {
        only = only-trans (only-weaken (λ i x. (record { apart = λ l. omega (arith, x.0.apart l) }, tt)) t.only)
            (only-trans (only-weaken (λ i x. (record { apart = λ l. omega (arith, x.0.apart l) }, tt)) o.only)
            (only-weaken (λ i x. (record { apart = λ l. omega (arith, x.0.apart (omega arith)) }, tt)) g.only));
        most = o.most;
        rising = record { up = λ i j p q. omega (arith, o.rising.up i j p q, stays i (omega (arith, o.most)), stays j (omega (arith, o.most))) };
        from = λ a h.
            let p = from₃ a h in
            (p.0, p.1, p.2 ∙ sym (stays a (omega (arith, o.most))));
        into = λ j h.
            let q = t.into j h in
            let p = o.into q.0 q.1 in
            (p.0, p.1, stays p.0 (omega (arith, p.1, o.most)) ∙ p.2 ∙ q.2);
        groups = g.groups;
      }
