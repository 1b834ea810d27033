-- One more value in work. Assumes nothing.
use mathlib.Core.Path.{◌≡◌, refl, sym, ap, ◌∙◌}
use mathlib.Core.Bool.{false}
use mathlib.Core.List.{List, [], ◌∷◌}
use mathlib.Core.Logic.{⊎_elim, ◌≢◌}
use Prim.Native.Nat.{ℕ, ◌+◌, ◌*◌, ◌≤◌, ◌<◌}
use native.Mathlib.Omega.{arith}
use lib.ListN.{length, get_or, set, length-set}
use lib.Seq.{get_or-set_same, get_or-set_other}
use lib.Dec.{eqb}
use borrow.Author.Tests.{eq-eqb, ne_eqb}
use Rattle.laws.specs.LentRange.{Only}
use Rattle.laws.specs.Signed.{zero_word}
use Rattle.laws.proofs.Cases.{same_or_not}
use Rattle.laws.proofs.RangeLaws.{only-refl, only-trans, only-weaken}
use Rattle.sets.specs.Lent.{entries, entries_at, count_of, set_of}
use Rattle.std.specs.Prelude.{Ok, Err}
use Rattle.refusals.specs.declared.Refusal.{Refusal}
use Rattle.refusals.specs.declared.Refusal.TheVariants.{UnknownRegion, RegionTwice}
use Rattle.refusals.specs.Refusals.{number}
use Rattle.values.specs.declared.tables.SetTables.{SetTables}
use Rattle.values.specs.declared.values.Took.{Took}
use Rattle.said.specs.Sets.{has, with_use, index_in, with_value, first_like}
use Rattle.said.specs.Job.{Said, after_value}
use Rattle.values.specs.Lent.{Stamps, Uses, UsedNow, PutEntry, Holds, ValueFits, PutValue, TookValue}
use Rattle.said.specs.Records.{region_number, value_as_word}
use Rattle.said.specs.Refusals.{value_no}
use Rattle.said.proofs.RecordLaws.{value-unknown, value-twice, value-passed}
use Rattle.entries.specs.Lent.{entries_in_order}
use Rattle.entries.proofs.EntryLaws.{entries-kept}
use Rattle.said.proofs.SaidLaws.{use-low}
use Rattle.values.proofs.BegunLaws.{in-order-entry, use-differ}
use Rattle.said.proofs.GoodLaws.{good-value}

-- ---- stamps

pub stamps-kept : (stamp regions mark : ℕ) (named old new : List ℕ) → ((k : ℕ) → stamp ≤ k → k < stamp + regions → get_or new k 0 ≡ get_or old k 0)
    → Stamps old stamp regions mark named → Stamps new stamp regions mark named
stamps-kept stamp regions mark named old new k s = record {
  old = λ q h. rw (k (stamp + q) (omega arith) (omega arith)) (s.old q h);
  here = λ q h. rw (k (stamp + q) (omega arith) (omega arith)) (s.here q h);
}

pub stamps-next : (stamp regions mark : ℕ) (named w : List ℕ) → Stamps w stamp regions mark named → Stamps w stamp regions (mark + 1) []
unfolding has
stamps-next stamp regions mark named w s = record {
  old = λ q h. omega (arith, s.old q h);
  here = λ q h. let o = s.old q h in ne_eqb (get_or w (stamp + q) 0) (mark + 1) (λ e. omega arith);
}

pub stamps-none : (stamp regions : ℕ) (w : List ℕ) → ((q : ℕ) → q < regions → get_or w (stamp + q) 0 ≡ 0) → Stamps w stamp regions 1 []
unfolding has
stamps-none stamp regions w z = record {
  old = λ q h. omega (arith, z q h);
  here = λ q h. let o = z q h in ne_eqb (get_or w (stamp + q) 0) 1 (λ e. omega arith);
}

stamps-put : (stamp regions mark q : ℕ) (named w : List ℕ) → q < regions → stamp + regions ≤ length w → Stamps w stamp regions mark named
    → Stamps (set w (stamp + q) mark) stamp regions mark (q ∷ named)
unfolding has
stamps-put stamp regions mark q named w b room s = record {
  old = λ p h. ⊎_elim
      (λ (e : p ≡ q). rw (e, get_or-set_same w (stamp + q) mark 0 (omega arith)) (omega arith))
      (λ (d : p ≢ q). rw (get_or-set_other w (stamp + q) (stamp + p) mark 0 (λ e. d (omega arith))) (s.old p h))
      (same_or_not p q);
  here = λ p h. ⊎_elim
      (λ (e : p ≡ q). rw (e, get_or-set_same w (stamp + q) mark 0 (omega arith), eq-eqb mark mark refl, eq-eqb q q refl))
      (λ (d : p ≢ q). rw (get_or-set_other w (stamp + q) (stamp + p) mark 0 (λ e. d (omega arith)), ne_eqb p q d) (s.here p h))
      (same_or_not p q);
}

-- ---- one more value

module _ {t : SetTables} {s : Said} {sets uses start count : ℕ} {w : List ℕ} (h : Holds w t s sets uses start count) (f : ValueFits w t uses start count)
    (q v : ℕ) (b : q < t.regions) (mark : ℕ) (m : mark ≡ sets + 1) where
  abbrev w₁ : List ℕ
  w₁ = set w (t.stamp + q) mark

  uses₁ : Uses w₁ t.slot t.used t.regions s.used
  uses₁ = record {
    slots = λ p l. get_or-set_other w (t.stamp + q) (t.slot + p) mark 0 (omega (arith, f.slot-to)) ∙ h.uses-are.slots p l;
    table = λ k l. get_or-set_other w (t.stamp + q) (t.used + k) mark 0 (omega (arith, f.slot-to, f.used-in, h.uses-count)) ∙ h.uses-are.table k l;
  }

  pub uses-marked : Uses w₁ t.slot t.used t.regions s.used
  uses-marked = uses₁

  module _ (w₂ : List ℕ) (k : ℕ) (u : UsedNow t.slot t.used t.regions uses q s.used w₁ w₂ k) (uses' : ℕ)
      (one : k ≡ uses → uses' ≡ uses + 1) (same : (k ≡ uses → ⊥) → uses' ≡ uses) where
    kept₂ : (j : ℕ) → j < t.used → get_or w₂ j 0 ≡ get_or w j 0
    kept₂ j l =
        u.only.kept j (record { apart = λ p. absurd (omega (arith, f.used-in)) }, (record { apart = λ p. absurd (omega arith) }, tt))
        ∙ get_or-set_other w (t.stamp + q) j mark 0 (omega (arith, f.used-in, f.slot-to))

    first₂ : (j : ℕ) → t.first ≤ j → get_or w₂ j 0 ≡ get_or w j 0
    first₂ j l =
        u.only.kept j (record { apart = λ p. omega (arith, f.slot-to, f.stamp-to) }, (record { apart = λ p. omega (arith, f.used-in, f.slot-to, f.stamp-to) }, tt))
        ∙ get_or-set_other w (t.stamp + q) j mark 0 (omega (arith, f.stamp-to))

    stamps₂ : Stamps w₂ t.stamp t.regions (sets + 1) (q ∷ s.named)
    stamps₂ = rw (← m) (stamps-kept t.stamp t.regions mark (q ∷ s.named) w₁ w₂
        (λ j x y. u.only.kept j (record { apart = λ p. omega (arith, f.slot-to) }, (record { apart = λ p. omega (arith, f.used-in, f.slot-to) }, tt)))
        (stamps-put t.stamp t.regions mark q s.named w b (omega (arith, f.stamp-to, f.first_to)) (rw m h.stamps)))

    begun₂ : entries_in_order (entries start count w₂) ≡ s.begun
    begun₂ = ap entries_in_order (entries-kept count start w w₂ (λ j x y. kept₂ j (omega (arith, f.body-in)))) ∙ h.begun-is

    long₂ : length w₂ ≡ length w
    long₂ = u.only.long ∙ length-set w (t.stamp + q) mark

    only₂ : Only ((0, t.first) ∷ []) w w₂
    only₂ = record { long = long₂; kept = λ j o. first₂ j (at_top j o.0.apart) }
      where
        at_top : (j : ℕ) → (0 < j + 1 → 0 + t.first ≤ j) → t.first ≤ j
        at_top j g = omega (arith, g (omega arith))

    uses-are' : length (with_use s.used q) ≡ uses'
    uses-are' = ⊎_elim (λ (e : k ≡ uses). u.grown e ∙ sym (one e)) (λ (d : k ≢ uses). u.same d ∙ sym (same d)) (same_or_not k uses)

    uses-low : uses' ≤ uses + 1
    uses-low = ⊎_elim (λ (e : k ≡ uses). omega (arith, one e)) (λ (d : k ≢ uses). omega (arith, same d)) (same_or_not k uses)

    -- the state after it, by what work holds then
    after : (w' : List ℕ) (count' : ℕ) → has q s.named ≡ false
        → ((j : ℕ) → j < start → get_or w' j 0 ≡ get_or w j 0) → ((j : ℕ) → t.first ≤ j → get_or w' j 0 ≡ get_or w j 0)
        → Stamps w' t.stamp t.regions (sets + 1) (q ∷ s.named) → Uses w' t.slot t.used t.regions (with_use s.used q)
        → entries_in_order (entries start count' w') ≡ with_value (index_in q (with_use s.used q)) v s.begun
        → Holds w' t (after_value s q v) sets uses' start count'
    unfolding after_value set_of
    after w' count' n low high stamps us begun =
        let start-same : (x : ℕ) → x < sets → entries_at t.rows x w' ≡ entries_at t.rows x w = λ x l. low (t.rows + 2 * x) (omega (arith, h.rows-low)) in
        let count_same : (x : ℕ) → x < sets → count_of t.rows x w' ≡ count_of t.rows x w = λ x l. low (t.rows + 2 * x + 1) (omega (arith, h.rows-low)) in
        record {
          regions-are = h.regions-are;
          firsts = λ r l. high (t.first + r) (omega arith) ∙ h.firsts r l;
          firsts-low = λ r l. rw (high (t.first + r) (omega arith)) (h.firsts-low r l);
          stamps = stamps;
          uses-are = us;
          uses-count = uses-are';
          used_low = use-low s.used q t.regions b h.used_low;
          used-differ = use-differ s.used q h.used-differ;
          begun-is = begun;
          sets-count = h.sets-count;
          rows_are = λ x l. rw (start-same x l, count_same x l)
              (entries-kept (count_of t.rows x w) (entries_at t.rows x w) w w' (λ j a c. low j (omega (arith, h.bodies x l))) ∙ h.rows_are x l);
          bodies = λ x l. rw (start-same x l, count_same x l) (h.bodies x l);
          bodies-low = λ x l. rw (start-same x l) (h.bodies-low x l);
          rows-low = h.rows-low;
          start-low = h.start-low;
          good = good-value s q v h.good n;
        }

    pub zero-put : v ≡ zero_word → PutValue q v t s sets uses start count w w₂ (record { uses = uses'; count = count })
    unfolding with_value
    zero-put z = record {
      now-holds = λ n. after w₂ count n (λ j l. kept₂ j (omega (arith, f.body-in))) first₂ stamps₂ u.uses (rw (eq-eqb v zero_word z) begun₂);
      only = only₂;
      uses-few = uses-low;
      count-few = omega arith;
    }

    module _ (w₃ : List ℕ) (p : PutEntry start count k v w₂ w₃) where
      kept₃ : (j : ℕ) → t.used ≤ j → get_or w₃ j 0 ≡ get_or w₂ j 0
      kept₃ j l = p.only.kept j (record { apart = λ x. omega (arith, f.body-in) }, tt)

      low₃ : (j : ℕ) → j < start → get_or w₃ j 0 ≡ get_or w j 0
      low₃ j l = p.only.kept j (record { apart = λ x. absurd (omega arith) }, tt) ∙ kept₂ j (omega (arith, f.body-in))

      high₃ : (j : ℕ) → t.first ≤ j → get_or w₃ j 0 ≡ get_or w j 0
      high₃ j l = kept₃ j (omega (arith, f.used-in, f.slot-to, f.stamp-to)) ∙ first₂ j l

      uses₃ : Uses w₃ t.slot t.used t.regions (with_use s.used q)
      uses₃ = record {
        slots = λ x l. kept₃ (t.slot + x) (omega (arith, f.used-in)) ∙ u.uses.slots x l;
        table = λ x l. kept₃ (t.used + x) (omega arith) ∙ u.uses.table x l;
      }

      pub value-put : (v ≡ zero_word → ⊥) → PutValue q v t s sets uses start count w w₃ (record { uses = uses'; count = count + 1 })
      unfolding with_value
      value-put z = record {
        now-holds = λ n. after w₃ (count + 1) n low₃ high₃
            (stamps-kept t.stamp t.regions (sets + 1) (q ∷ s.named) w₂ w₃ (λ j x y. kept₃ j (omega (arith, f.used-in, f.slot-to))) stamps₂)
            uses₃ (rw (ne_eqb v zero_word z) (ap entries_in_order p.is ∙ in-order-entry k v (entries start count w₂) ∙ rw (begun₂, u.index)));
        only = only-trans only₂ (only-weaken (λ j o. (record { apart = λ x. omega (arith, f.body-in, f.used-in, f.slot-to, f.stamp-to, o.0.apart (omega arith)) }, tt)) p.only);
        uses-few = uses-low;
        count-few = omega arith;
      }

-- ---- a value record

module _ {t : SetTables} {s : Said} {sets uses start count : ℕ} {w : List ℕ} (h : Holds w t s sets uses start count) (r : List ℕ) where
  stopped : (x : Refusal) → number x ≡ value_no r (length s.regions) (has (first_like s.regions (region_number r)) s.named)
      → TookValue r t s sets uses start count w w (Err x)
  stopped x e = record { number_is = e; now-holds = tt; only = only-refl ((0, t.first) ∷ []) w; uses-few = tt; count-few = tt }

  pub took-unknown : t.regions ≤ region_number r → TookValue r t s sets uses start count w w (Err UnknownRegion)
  took-unknown l = stopped UnknownRegion (value-unknown r (length s.regions) _ (omega (arith, h.regions-are)))

  module _ (l : region_number r < t.regions) (mark : ℕ) (m : mark ≡ sets + 1) (q : ℕ) (e : q ≡ get_or w (t.first + region_number r) 0) where
    named-is : eqb (get_or w (t.stamp + q) 0) mark ≡ has (first_like s.regions (region_number r)) s.named
    named-is = rw (m, e) (h.stamps.here (get_or w (t.first + region_number r) 0) (h.firsts-low (region_number r) l) ∙ rw (h.firsts (region_number r) l))

    pub took-twice : get_or w (t.stamp + q) 0 ≡ mark → TookValue r t s sets uses start count w w (Err RegionTwice)
    took-twice y = stopped RegionTwice (value-twice r (length s.regions) _ (omega (arith, h.regions-are)) (sym named-is ∙ eq-eqb (get_or w (t.stamp + q) 0) mark y))

    pub took-on : (get_or w (t.stamp + q) 0 ≡ mark → ⊥)
        → (v : ℕ) → v ≡ value_as_word r → (w' : List ℕ) (k : Took) → PutValue q v t s sets uses start count w w' k
        → TookValue r t s sets uses start count w w' (Ok k)
    took-on d v x w' k p =
        let f : q ≡ first_like s.regions (region_number r) = e ∙ h.firsts (region_number r) l in
        let n : has (first_like s.regions (region_number r)) s.named ≡ false = sym named-is ∙ ne_eqb (get_or w (t.stamp + q) 0) mark d in
        record {
          number_is = value-passed r (length s.regions) _ (omega (arith, h.regions-are)) n;
          now-holds = rw (← x, ← f) (p.now-holds (rw f n));
          only = p.only;
          uses-few = p.uses-few;
          count-few = p.count-few;
        }
