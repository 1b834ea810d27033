-- The end record that a taken call of `ivs_show` shows ends the first set that has the id (specs/PartShown.antt). Assumes nothing.
use mathlib.Core.Path.{◌≡◌, refl, sym, ap, subst, ◌∙◌}
use mathlib.Core.Bool.{Bool, true}
use mathlib.Core.List.{List, []}
use mathlib.Core.Logic.{⊎_elim}
use Prim.Native.Nat.{ℕ, zero, suc, ◌+◌, ◌-◌, ◌≤◌, ◌<◌}
use native.Mathlib.Omega.{arith}
use lib.ListN.{length, get_or, take, drop, length-append}
use borrow.Author.Tests.{eq-eqb, ne_eqb, eqb-true, lt-ltb}
use Rattle.laws.specs.Bounded.{tabulate, up_to}
use Rattle.laws.specs.Sorting.{keep, rank}
use Rattle.laws.proofs.Cases.{lt-or-ge, same_or_not}
use Rattle.laws.proofs.RankLaws.{rank-in, rank-out, rank-onto, kept_at}
use Rattle.sets.specs.Set.{Set}
use Rattle.sets.specs.Ids.{place, distinct_from, distinct, shared_ids}
use Rattle.sets.proofs.IdLaws.{place-first, first-id, first_count, again-count, distinct-all-of, id-at}
use Rattle.said.specs.Records.{record_bytes, record_start, record_at, record_count, kind, end_kind, is_end}
use Rattle.said.specs.Job.{Said}
use Rattle.encoder.specs.Packed.{Packed, shared}
use Rattle.call.specs.Lending.{Lending, Left}
use Rattle.call.specs.Build.{packed_of, after}
use Rattle.told.specs.Told.{count_kind, ends_before, ValueIn}
use Rattle.told.proofs.WordLaws.{count-here, count_past, count-grows}
use Rattle.told.proofs.Bytes.{told}
use Rattle.accepted.proofs.Accepted as accepted
use Rattle.accepted.proofs.PastLaws.{ids-long}
use Rattle.finding.specs.First.{first_at}
use Rattle.finding.proofs.FirstLaws.{first-is, first-least}
use Rattle.showing.specs.declared.ends.Span.{Span}
use Rattle.showing.specs.Answers.{Shown}
use Rattle.showing.specs.Parts.{ends_of, end_at, end_span, in_job, asked_part}
use Rattle.reporting.specs.Answers.{filled}
use Rattle.why_words.specs.ShownWords.{span_words, shown_words}
use Rattle.ivs.specs.Asked.{ShowAnswered}
use Rattle.why_calls.specs.PartShown.{start_told, long_told, Ends, FirstOf, EndShown}
use Rattle.why_calls.proofs.Taken.{Taken, shown-fine, said_in, packed-here, count-is}
use Rattle.why_calls.proofs.Reports.{filled-all}

-- ---- the end record of a set

module _ (job : List ℕ) where
  abbrev ends : ℕ → Bool
  ends i = is_end (record_at job i)

  -- ends are counted by their rank
  ends-rank : (i : ℕ) → ends_before job i ≡ rank (λ j. is_end (record_at job j)) i
  ends-rank zero = unfold count_kind keep tabulate in refl
  ends-rank (suc i) =
      let one : i + 1 ≡ suc i = omega arith in
      ⊎_elim
      (λ (e : kind (record_at job i) ≡ end_kind).
      omega (arith, count-here end_kind job i e, ends-rank i, rank-in ends i (eq-eqb (kind (record_at job i)) end_kind e), ap (rank ends) one))
      (λ d. omega (arith, count_past end_kind job i d, ends-rank i, rank-out ends i (ne_eqb (kind (record_at job i)) end_kind d), ap (rank ends) one))
      (same_or_not (kind (record_at job i)) end_kind)

  module _ (n : ℕ) (there : n < ends_before job (record_count job)) where
    in-rank : n < rank (λ j. is_end (record_at job j)) (record_count job)
    in-rank = omega (arith, ends-rank (record_count job))

    found : (k : ℕ) × (k < record_count job) × (is_end (record_at job k) ≡ true) × (rank (λ j. is_end (record_at job j)) k ≡ n)
    found = rank-onto ends (record_count job) n in-rank

    end_is : end_at job n ≡ found.0
    unfolding end_at ends_of
    end_is =
        let f = found in
        rw (lt-ltb n (rank ends (record_count job)) in-rank)
        (ap (λ (j : ℕ). get_or (keep ends (up_to (record_count job))) j 0) (sym f.3) ∙ kept_at ends (record_count job) f.0 f.1 f.2)

    before-is : ends_before job found.0 ≡ n
    before-is = ends-rank found.0 ∙ found.3

    is-end : kind (record_at job found.0) ≡ end_kind
    is-end = eqb-true (kind (record_at job found.0)) end_kind found.2

    -- of two records the later has no fewer end records before it
    grows : (i j : ℕ) → i ≤ j → ends_before job i ≤ ends_before job j
    grows i j h = let e : i + (j - i) ≡ j = omega arith in omega (arith, count-grows end_kind job (j - i) i, ap (ends_before job) e)

    its-values : (i : ℕ) → ValueIn job n i → i < found.0
    its-values i v = ⊎_elim
        (λ (h : i < found.0). h)
        (λ (h : found.0 ≤ i). ⊎_elim
        (λ (e : i ≡ found.0). absurd (omega (arith, sym v.is-value ∙ ap (λ (j : ℕ). kind (record_at job j)) e ∙ is-end)))
        (λ d. absurd (omega (arith, v.in-set, before-is, count-here end_kind job found.0 is-end, grows (suc found.0) i (omega arith))))
        (same_or_not i found.0))
        (lt-or-ge i found.0)

    later-values : (m i : ℕ) → n < m → ValueIn job m i → found.0 < i
    later-values m i l v = ⊎_elim
        (λ (h : found.0 < i). h)
        (λ (h : i ≤ found.0). absurd (omega (arith, v.in-set, before-is, grows i found.0 h)))
        (lt-or-ge found.0 i)

    pub end-ends : Ends job n (end_at job n)
    end-ends = subst (Ends job n) (sym end_is)
        (record { within = found.1; is-end = is-end; before = before-is; its-values = its-values; later-values = later-values })

    pub part-is : end_span job n ≡ record { at = record_start (end_at job n); long = record_bytes }
    unfolding end_span
    part-is = rw (lt-ltb (end_at job n) (record_count job) end-ends.within) refl

-- ---- each id is a set's

module _ (all : List Set) where
  some_to : (k x : ℕ) → k ≤ length all → x < length (distinct (take k all)) → (n : ℕ) × (n < k) × (place (get_or all n []) (distinct all) ≡ x)
  some_to zero x h b = unfold distinct_from in absurd (omega arith)
  some_to (suc k) x h b =
      let one : k + 1 ≡ suc k = omega arith in
      let c : x < length (distinct (take (k + 1) all)) = subst (λ (j : ℕ). x < length (distinct (take j all))) (sym one) b in
      ⊎_elim
      (λ (e : place (get_or all k []) all ≡ k). ⊎_elim
      (λ (l : x < length (distinct (take k all))). let r = some_to k x (omega arith) l in (r.0, omega (arith, r.1), r.2))
      (λ (l : length (distinct (take k all)) ≤ x). (k, omega arith, first-id all k (omega arith) e ∙ omega (arith, first_count all k (omega arith) e)))
      (lt-or-ge x (length (distinct (take k all)))))
      (λ d.
      let low : place (get_or all k []) all ≤ k = place-first (get_or all k []) all k (omega arith) refl in
      let r = some_to k x (omega arith) (omega (arith, again-count all k (omega arith) (omega arith))) in
      (r.0, omega (arith, r.1), r.2))
      (same_or_not (place (get_or all k []) all) k)

  pub id-of-some : (x : ℕ) → x < length (distinct all) → (n : ℕ) × (n < length all) × (get_or (shared_ids all) n 0 ≡ x)
  id-of-some x h =
      let r = some_to (length all) x (omega arith) (subst (λ (l : List Set). x < length l) (sym (distinct-all-of all (length all) (omega arith))) h) in
      (r.0, r.1, id-at all r.0 r.1 ∙ r.2)

shared-ids : (s : Said) (x : ℕ) → x < length (packed_of 0 s).sets → (n : ℕ) × (n < length s.sets) × (get_or (packed_of 0 s).ids n 0 ≡ x)
unfolding shared
shared-ids s x h = rw (accepted.shared-is s) (id-of-some s.sets x (rw (accepted.shared-is s) at h))

-- ---- of a call

module _ {c : Lending} {store : List ℕ} {id : ℕ} {l : Left} (t : Taken c store id id l) (m : c.mode ≡ 0) (ids-left : l.lent.ids ≡ (after c).lent.ids) where
  abbrev s : Said
  s = said_in t m

  abbrev a : accepted.Accepted c t.report
  a = accepted.accepted c t.report t.done

  abbrev ids : List ℕ
  ids = l.lent.ids

  sets-are : length (said_in t m).sets ≡ ends_before c.job (record_count c.job)
  sets-are = (told c.axes c.mode c.job (length c.work) (length c.pairs) s a.said-is).sets-are

  ids_at : (n : ℕ) → n < length (said_in t m).sets → get_or l.lent.ids n 0 ≡ get_or (packed_of 0 (said_in t m)).ids n 0
  ids_at n h =
      ap (λ (x : List ℕ). get_or x n 0) ids-left
      ∙ accepted.id-at c t.report a n (omega (arith, ids-long c.mode s))
      ∙ ap (λ (k : Packed). get_or k.ids n 0) (packed-here t m)

  -- an id for each set is left there
  left-long : length (said_in t m).sets ≤ length l.lent.ids
  left-long =
      let k = (accepted.packed_in c s).ids in
      omega (arith, ap length ids-left, ap length (accepted.ids-is c t.report a), length-append k (drop (0 + length k) c.lent.ids), ids-long c.mode s)

  pub first_of : FirstOf c.job l.lent.ids id (first_at id l.lent.ids)
  first_of =
      let f = shared-ids s id (omega (arith, count-is t m, t.first_below)) in
      let e : get_or ids f.0 0 ≡ id = ids_at f.0 f.1 ∙ f.2 in
      let b : first_at id ids ≤ f.0 = first-least id ids f.0 (omega (arith, f.1, left-long)) e in
      record {
        there = omega (arith, f.1, sets-are);
        has-id = first-is id ids (omega (arith, f.1, left-long));
        first = λ n h q. omega (arith, first-least id ids n (omega (arith, f.1, left-long)) q);
      }

  end-shown : (report : List ℕ) → report ≡ span_words (end_span c.job (first_at id l.lent.ids)).at (end_span c.job (first_at id l.lent.ids)).long → EndShown c id l report
  unfolding span_words
  end-shown report e =
      let n = first_at id ids in
      let p = part-is c.job n first_of.there in
      record {
        set = n;
        place = end_at c.job n;
        first_of = first_of;
        ends = end-ends c.job n first_of.there;
        start_is = ap start_told e ∙ ap (λ (x : Span). x.at) p;
        long-is = ap long_told e ∙ ap (λ (x : Span). x.long) p;
      }

asked-job : (job store ids map : List ℕ) (id what : ℕ) → what ≡ 0 → asked_part job store ids map id what ≡ in_job (end_span job (first_at id ids))
unfolding asked_part
asked-job job store ids map id what z = rw (eq-eqb what 0 z) refl

told-job : (job : List ℕ) (p : Span) → shown_words job (in_job p) ≡ span_words p.at p.long
unfolding shown_words
told-job job p = refl

pub span-long : (at long : ℕ) → length (span_words at long) ≡ 16
unfolding span_words
span-long at long = refl

-- THE LAW: a call of `ivs_show` in mode 0, with a report of sixteen words, that asks for the job's part and answers 0
pub show-end : (c : Lending) (store : List ℕ) (id what n : ℕ) (l : Left) (old report : List ℕ) → c.mode ≡ 0 → length old ≡ 16
    → ShowAnswered c store id what n l old report → n ≡ 0 → what ≡ 0 → EndShown c id l report
show-end c store id what n l old report m long w z job =
    let f = shown-fine c store id what l w.answer w.obeys.answer (sym w.number_is ∙ z) in
    let p = end_span c.job (first_at id l.lent.ids) in
    let e = f.1 ∙ asked-job c.job store l.lent.ids l.lent.map id what job in
    end-shown f.0 m (ap (λ (x : Left). x.lent.ids) w.obeys.left) report
    (w.report-is
    ∙ ap (λ (x : Shown). filled 0 (shown_words c.job x) old) e
    ∙ ap (λ (x : List ℕ). filled 0 x old) (told-job c.job p)
    ∙ filled-all (span_words p.at p.long) old (long ∙ sym (span-long p.at p.long)))
