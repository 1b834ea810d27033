-- The end of a set in work: its entries sorted, then its row. Assumes nothing.
use mathlib.Core.Path.{◌≡◌, sym, ap, ◌∙◌}
use mathlib.Core.List.{List, [], ◌∷◌}
use Prim.Native.Nat.{ℕ, ◌+◌, ◌*◌, ◌≤◌, ◌<◌}
use native.Mathlib.Omega.{arith}
use lib.ListN.{length, get_or, set, length-set, length-append, get_or-append}
use lib.Seq.{get_or-set_same, get_or-set_other, get_or_at}
use borrow.Author.Count.{below_more}
use Rattle.laws.specs.LentRange.{Only}
use Rattle.laws.proofs.RangeLaws.{only-trans, only_set, only-weaken}
use Rattle.sets.specs.Lent.{entries, entries_at, count_of, set_of}
use Rattle.entries.specs.Lent.{entries_in_order, SortedEntries}
use Rattle.entries.proofs.EntryLaws.{entries-kept}
use Rattle.entries.proofs.OrderLaws.{in-order-none, ordered-stays, ascending-ordered}
use Rattle.said.specs.Job.{Said, after_end}
use Rattle.said.proofs.GoodLaws.{good-end}
use Rattle.values.specs.declared.tables.SetTables.{SetTables}
use Rattle.values.specs.Lent.{Holds, EndedSet}
use Rattle.values.proofs.HoldLaws.{stamps-kept, stamps-next}

-- ---- its entries are sorted, behind the stamps are words for that

module _ {t : SetTables} {s : Said} {sets uses start count : ℕ} {w : List ℕ} (h : Holds w t s sets uses start count)
    (tail : start + 2 * count ≤ t.used) (used-in : t.used + uses ≤ t.slot) (slot-to : t.slot + t.regions ≤ t.stamp)
    (spare-to : t.stamp + t.regions + 2 * count ≤ t.first) {w₁ : List ℕ} (o : SortedEntries start count (t.stamp + t.regions) w w₁) where
  low : (j : ℕ) → j < start → get_or w₁ j 0 ≡ get_or w j 0
  low j l = o.only.kept j (record { apart = λ p. absurd (omega arith) }, (record { apart = λ p. absurd (omega arith) }, tt))

  middle : (j : ℕ) → start + 2 * count ≤ j → j < t.stamp + t.regions → get_or w₁ j 0 ≡ get_or w j 0
  middle j a l = o.only.kept j (record { apart = λ p. a }, (record { apart = λ p. absurd (omega arith) }, tt))

  high : (j : ℕ) → t.first ≤ j → get_or w₁ j 0 ≡ get_or w j 0
  high j l = o.only.kept j (record { apart = λ p. omega arith }, (record { apart = λ p. omega arith }, tt))

  exact₁ : entries start count w₁ ≡ s.begun
  exact₁ = o.is ∙ h.begun-is

  sorted-only : Only ((0, t.first) ∷ []) w w₁
  sorted-only = only-weaken (λ j r. let b = r.0.apart (omega arith) in (record { apart = λ p. omega arith }, (record { apart = λ p. omega arith }, tt))) o.only

  sorted-holds : Holds w₁ t s sets uses start count
  unfolding set_of
  sorted-holds =
      let start-same : (x : ℕ) → x < sets → entries_at t.rows x w₁ ≡ entries_at t.rows x w = λ x l. low (t.rows + 2 * x) (omega (arith, h.rows-low)) in
      let count_same : (x : ℕ) → x < sets → count_of t.rows x w₁ ≡ count_of t.rows x w = λ x l. low (t.rows + 2 * x + 1) (omega (arith, h.rows-low)) in
      record {
        regions-are = h.regions-are;
        firsts = λ r l. high (t.first + r) (omega arith) ∙ h.firsts r l;
        firsts-low = λ r l. rw (high (t.first + r) (omega arith)) (h.firsts-low r l);
        stamps = stamps-kept t.stamp t.regions (sets + 1) s.named w w₁ (λ j x y. middle j (omega arith) y) h.stamps;
        uses-are = record {
          slots = λ q l. middle (t.slot + q) (omega arith) (omega arith) ∙ h.uses-are.slots q l;
          table = λ k l. middle (t.used + k) (omega arith) (omega (arith, h.uses-count)) ∙ h.uses-are.table k l;
        };
        uses-count = h.uses-count;
        used_low = h.used_low;
        used-differ = h.used-differ;
        begun-is = ap entries_in_order exact₁ ∙ ordered-stays s.begun (ascending-ordered 0 s.begun h.good.rising);
        sets-count = h.sets-count;
        rows_are = λ x l. rw (start-same x l, count_same x l)
            (entries-kept (count_of t.rows x w) (entries_at t.rows x w) w w₁ (λ j a c. low j (omega (arith, h.bodies x l))) ∙ h.rows_are x l);
        bodies = λ x l. rw (start-same x l, count_same x l) (h.bodies x l);
        bodies-low = λ x l. rw (start-same x l) (h.bodies-low x l);
        rows-low = h.rows-low;
        start-low = h.start-low;
        good = h.good;
      }

-- ---- its row

module _ {t : SetTables} {s : Said} {sets uses start count : ℕ} {w : List ℕ} (h : Holds w t s sets uses start count)
    (row : t.rows + 2 * sets + 2 ≤ t.body) (tail : start + 2 * count ≤ t.used) (used-in : t.used + uses ≤ t.slot)
    (slot-to : t.slot + t.regions ≤ t.stamp) (stamp-to : t.stamp + t.regions ≤ t.first) (first_to : t.first + t.regions ≤ length w) (exact : entries start count w ≡ s.begun) where
  abbrev e₁ : List ℕ
  e₁ = set w (t.rows + 2 * sets) start

  abbrev e₂ : List ℕ
  e₂ = set e₁ (t.rows + 2 * sets + 1) count

  end-high : (j : ℕ) → t.body ≤ j → get_or e₂ j 0 ≡ get_or w j 0
  end-high j l = get_or-set_other e₁ (t.rows + 2 * sets + 1) j count 0 (omega arith) ∙ get_or-set_other w (t.rows + 2 * sets) j start 0 (omega arith)

  end_low : (j : ℕ) → j < t.rows + 2 * sets → get_or e₂ j 0 ≡ get_or w j 0
  end_low j l = get_or-set_other e₁ (t.rows + 2 * sets + 1) j count 0 (omega arith) ∙ get_or-set_other w (t.rows + 2 * sets) j start 0 (omega arith)

  end-start : entries_at t.rows sets e₂ ≡ start
  end-start =
      get_or-set_other e₁ (t.rows + 2 * sets + 1) (t.rows + 2 * sets) count 0 (omega arith)
      ∙ get_or-set_same w (t.rows + 2 * sets) start 0 (omega (arith, h.start-low))

  end-count : count_of t.rows sets e₂ ≡ count
  end-count = get_or-set_same e₁ (t.rows + 2 * sets + 1) count 0 (omega (arith, h.start-low, length-set w (t.rows + 2 * sets) start))

  body_same : (a m : ℕ) → t.body ≤ a → entries a m e₂ ≡ entries a m w
  body_same a m l = entries-kept m a w e₂ (λ j x y. end-high j (omega arith))

  start-same : (x : ℕ) → x < sets → entries_at t.rows x e₂ ≡ entries_at t.rows x w
  start-same x l = end_low (t.rows + 2 * x) (omega arith)

  count_same : (x : ℕ) → x < sets → count_of t.rows x e₂ ≡ count_of t.rows x w
  count_same x l = end_low (t.rows + 2 * x + 1) (omega arith)

  end-holds : EndedSet t s sets uses start count w e₂
  unfolding after_end set_of entries
  end-holds = record {
    now-holds = record {
      regions-are = h.regions-are;
      firsts = λ r l. end-high (t.first + r) (omega (arith, h.start-low)) ∙ h.firsts r l;
      firsts-low = λ r l. rw (end-high (t.first + r) (omega (arith, h.start-low))) (h.firsts-low r l);
      stamps = stamps-next t.stamp t.regions (sets + 1) s.named e₂
          (stamps-kept t.stamp t.regions (sets + 1) s.named w e₂ (λ j x y. end-high j (omega (arith, h.start-low))) h.stamps);
      uses-are = record {
        slots = λ q l. end-high (t.slot + q) (omega (arith, h.start-low)) ∙ h.uses-are.slots q l;
        table = λ k l. end-high (t.used + k) (omega (arith, h.start-low)) ∙ h.uses-are.table k l;
      };
      uses-count = h.uses-count;
      used_low = h.used_low;
      used-differ = h.used-differ;
      begun-is = in-order-none;
      sets-count = length-append s.sets (s.begun ∷ []) ∙ omega (arith, h.sets-count);
      rows_are = below_more _ _
          (λ x l. rw (start-same x l, count_same x l)
          (body_same (entries_at t.rows x w) (count_of t.rows x w) (h.bodies-low x l) ∙ h.rows_are x l
          ∙ sym (get_or-append s.sets (s.begun ∷ []) [] x (omega (arith, h.sets-count)))))
          (rw (end-start, end-count) (body_same start count h.start-low ∙ exact ∙ sym (get_or_at s.sets s.begun [] [] sets h.sets-count)));
      bodies = below_more _ _
          (λ x l. rw (start-same x l, count_same x l) (omega (arith, h.bodies x l)))
          (rw (end-start, end-count) (omega arith));
      bodies-low = below_more _ _ (λ x l. rw (start-same x l) (h.bodies-low x l)) (rw end-start h.start-low);
      rows-low = omega (arith, h.start-low);
      start-low = omega (arith, h.start-low);
      good = good-end s h.good;
    };
    only = only-trans
        (only_set ((0, t.first) ∷ []) w (t.rows + 2 * sets) start (λ o. omega (arith, h.start-low, o.0.apart (omega arith))))
        (only_set ((0, t.first) ∷ []) e₁ (t.rows + 2 * sets + 1) count (λ o. omega (arith, h.start-low, o.0.apart (omega arith))));
  }

-- ---- both

pub end-sorted : {t : SetTables} {s : Said} {sets uses start count : ℕ} {w : List ℕ} → Holds w t s sets uses start count
    → t.rows + 2 * sets + 2 ≤ t.body → start + 2 * count ≤ t.used → t.used + uses ≤ t.slot → t.slot + t.regions ≤ t.stamp
    → t.stamp + t.regions + 2 * count ≤ t.first → t.first + t.regions ≤ length w
    → {w₁ : List ℕ} → SortedEntries start count (t.stamp + t.regions) w w₁
    → EndedSet t s sets uses start count w (set (set w₁ (t.rows + 2 * sets) start) (t.rows + 2 * sets + 1) count)
end-sorted {t} h row tail used-in slot-to spare-to first_to o =
    let e = end-holds (sorted-holds h tail used-in slot-to spare-to o) row tail used-in slot-to (omega arith) (omega (arith, o.only.long))
    (exact₁ h tail used-in slot-to spare-to o) in
    record { now-holds = e.now-holds; only = only-trans (sorted-only h tail used-in slot-to spare-to o) e.only }
