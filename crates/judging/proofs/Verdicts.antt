-- A yes exactly when every set is right, a no by a set exactly at the first that is not, and a no by the store exactly where the store is at fault. Assumes
-- nothing.
use mathlib.Core.Path.{◌≡◌, refl, sym, ap, ◌∙◌}
use mathlib.Core.Bool.{true, false, ◌&&◌}
use mathlib.Core.List.{List, []}
use mathlib.Core.Logic.{◌↔◌, ⊎_elim}
use mathlib.Core.Option.{Option, none, some}
use Prim.Native.Nat.{ℕ, zero, suc, ◌/◌, ◌%◌, ◌≤◌, ◌<◌}
use native.Mathlib.Omega.{arith}
use lib.Dec.{eqb, ltb}
use lib.IntN.{ℤ}
use lib.ListN.{length, get_or}
use borrow.Author.Tests.{lt-ltb, ltb-true, eq-eqb, eqb-true}
use Rattle.laws.proofs.Cases.{lt-or-ge, and-true, true-false, Which, which}
use Rattle.laws.proofs.Cases.Which.{holds, fails}
use Rattle.said.specs.Records.{record_count}
use Rattle.said.specs.Job.{Said, Outcome, refused, fine, in_axes, records_from, outcome_from}
use Rattle.reader.specs.Store.{value_of}
use Rattle.stores.specs.Stores.{Parsed, parse}
use Rattle.stores.specs.Coordinates.{place_in, read_at, once, wanted, row_gives, Gives, Distinct}
use Rattle.stores.proofs.ByCoordinates.{place_found, place_at, at-lost, at-found, read_past, once-distinct, judged, judges}
use Rattle.stores.proofs.Reading.{read-parsed}
use Rattle.job.proofs.CheckLaws.{none-early}
use Rattle.judging.specs.Answers.{Judged}
use Rattle.judging.specs.Answers.{Refused, Right, WrongSet, WrongStore}
use Rattle.judging.specs.Judge.{named_in, set_given, first_failing, judged_in, judged_of, judge_refusal, judge_of}
use Rattle.judging.specs.Yes.{RowRight, SetRight, Sound}
use Rattle.judging.proofs.FailLaws.{all_right, first-wrong, right-given, wrong_first, never-store}
use Rattle.judging.proofs.SideFacts.{distinct-once}

-- ---- one set

module _ (store : List ℕ) (p : Parsed) (e : parse store ≡ some p) (d : Distinct p.regions) (s : Said) (words : List ℕ) (k : ℕ) where
  abbrev o : ℕ
  o = get_or words k 0 / 65536

  abbrev i : ℕ
  i = get_or words k 0 % 65536

  abbrev set : List (List ℕ × ℤ)
  set = named_in s (get_or s.sets k [])

  right-gives : RowRight store p s (get_or words k 0) k → Gives p o i set
  unfolding read_at
  right-gives r = record {
    there = r.there;
    values = λ c. ⊎_elim
        (λ (l : place_in p.regions c < length p.regions).
        ap value_of (sym (read-parsed store p e o i (place_in p.regions c)))
        ∙ r.reads (place_in p.regions c) l
        ∙ ap (wanted (named_in s (get_or s.sets k []))) (place_at p.regions c l))
        (λ (l : length p.regions ≤ place_in p.regions c).
        read_past p o i (place_in p.regions c) l
        ∙ sym (r.absent c (λ q b f. omega (arith, l, (place_found p.regions c q b f).0))))
        (lt-or-ge (place_in p.regions c) (length p.regions));
  }

  gives-right : Gives p o i set → RowRight store p s (get_or words k 0) k
  gives-right g = record {
    there = g.there;
    reads = λ q b.
        ap value_of (read-parsed store p e o i q)
        ∙ sym (at-found p d o i (get_or p.regions q []) q b refl)
        ∙ g.values (get_or p.regions q []);
    absent = λ c h. sym (g.values c) ∙ at-lost p o i c h;
  }

  pub given-right : set_given p s words k ≡ true → SetRight store words p s k
  unfolding set_given
  given-right h =
      let a = and-true (ltb k (length words)) (row_gives p o i (named_in s (get_or s.sets k []))) h in
      record { word-there = ltb-true k (length words) a.0; row = gives-right (judged p o i set a.1) }

  pub right-given-so : SetRight store words p s k → set_given p s words k ≡ true
  unfolding set_given
  right-given-so r = rw (lt-ltb k (length words) r.word-there) (judges p o i (named_in s (get_or s.sets k [])) d (right-gives r.row))

-- ---- the whole answer

module _ (axes : ℕ) (job store words : List ℕ) (work : ℕ) where
  module _ (s : Said) (p : Parsed) (a : Sound axes job store work s p) where
    answer-is : judge_of axes job store words work ≡ first_failing (set_given p s words) (length s.sets) 0
    unfolding judge_of judged_of judged_in
    answer-is =
        ap (judged_of axes store words) (none-early _ _ a.passed ∙ a.said-is)
        ∙ rw (a.parsed, eq-eqb p.axes axes a.axes-are, distinct-once p.regions a.distinct) refl

    -- every set is right: yes
    pub right-if : ((k : ℕ) → k < length s.sets → SetRight store words p s k) → judge_of axes job store words work ≡ Right
    right-if r =
        answer-is
        ∙ all_right (set_given p s words) (length s.sets) 0 (λ j b c. right-given-so store p a.parsed a.distinct s words j (r j (omega arith)))

    -- a yes: every set is right
    pub right-then : judge_of axes job store words work ≡ Right → (k : ℕ) → k < length s.sets → SetRight store words p s k
    right-then e k h =
        given-right store p a.parsed a.distinct s words k (right-given (set_given p s words) (length s.sets) (sym answer-is ∙ e) k h)

    -- a no by a set: it is the first that is not right
    pub record FirstWrong (k : ℕ) : Type 0 where
      pub within : k < length s.sets
      pub earlier : (j : ℕ) → j < k → SetRight store words p s j
      pub not_right : SetRight store words p s k → ⊥

    pub wrong-then : (k : ℕ) → judge_of axes job store words work ≡ WrongSet k → FirstWrong k
    wrong-then k e =
        let n = wrong_first (set_given p s words) (length s.sets) 0 k (sym answer-is ∙ e) in
        record {
          within = omega (arith, n.within);
          earlier = λ j l. given-right store p a.parsed a.distinct s words j (n.earlier j (omega arith) l);
          not_right = λ r. true-false (right-given-so store p a.parsed a.distinct s words k r) n.not-given;
        }

    pub wrong-if : (k : ℕ) → FirstWrong k → judge_of axes job store words work ≡ WrongSet k
    wrong-if k f =
        answer-is
        ∙ first-wrong (set_given p s words) (length s.sets) 0 k (omega arith) (omega (arith, f.within))
        (λ j b c. right-given-so store p a.parsed a.distinct s words j (f.earlier j c)) (not_so (which (set_given p s words k)))
      where
        not_so : Which (set_given p s words k) → set_given p s words k ≡ false
        not_so (holds h) = absurd (f.not_right (given-right store p a.parsed a.distinct s words k h))
        not_so (fails h) = h

    pub never-wrong-store : judge_of axes job store words work ≡ WrongStore → ⊥
    never-wrong-store e = never-store (set_given p s words) (length s.sets) 0 (sym answer-is ∙ e)

  -- ---- what an answer that is no refusal stands on

  -- a yes, or a no by a set: job and store are sound
  pub record Stands (s : Said) : Type 0 where
    pub parsed-to : Parsed
    pub sound : Sound axes job store work s parsed-to

  sound-from : (s : Said) (r : Judged) → judge_refusal axes job (length store) work ≡ 0 → records_from axes 0 job job (record_count job) 0 in_axes ≡ fine s
      → judged_in axes words s (parse store) ≡ r → (r ≡ WrongStore → ⊥) → Stands s
  unfolding judged_in
  sound-from s r z f e d = go (parse store) refl e
    where
      go : (o : Option Parsed) → parse store ≡ o → judged_in axes words s o ≡ r → Stands s
      go none g h = absurd (d (sym h))
      go (some p) g h = at (which (eqb p.axes axes && once p.regions))
        where
          at : Which (eqb p.axes axes && once p.regions) → Stands s
          at (holds t) =
              let a = and-true (eqb p.axes axes) (once p.regions) t in
              record {
                parsed-to = p;
                sound = record { passed = z; said-is = f; parsed = g; axes-are = eqb-true p.axes axes a.0; distinct = once-distinct p.regions a.1 };
              }
          at (fails t) = absurd (d (sym (rw t at h)))

  -- an answer that is no refusal: the checks of the job pass, and it is that of the store
  record Taken (r : Judged) : Type 0 where
    said : Said
    passed : judge_refusal axes job (length store) work ≡ 0
    said-is : records_from axes 0 job job (record_count job) 0 in_axes ≡ fine said
    answer : judged_in axes words said (parse store) ≡ r

  taken : (r : Judged) → ((n i : ℕ) → r ≡ Refused n i → ⊥) → judge_of axes job store words work ≡ r → Taken r
  unfolding judge_of judged_of outcome_from
  taken r d e = go (judge_refusal axes job (length store) work) refl e
    where
      records : (o : Outcome) → judge_refusal axes job (length store) work ≡ 0 → records_from axes 0 job job (record_count job) 0 in_axes ≡ o → judged_of axes store words o ≡ r → Taken r
      records (refused n i) z f h = absurd (d n i (sym h))
      records (fine s) z f h = record { said = s; passed = z; said-is = f; answer = h }

      go : (n : ℕ) → judge_refusal axes job (length store) work ≡ n
          → judged_of axes store words (outcome_from n (records_from axes 0 job job (record_count job) 0 in_axes)) ≡ r → Taken r
      go zero z h = records (records_from axes 0 job job (record_count job) 0 in_axes) z refl h
      go (suc n) z h = absurd (d (suc n) 0 (sym h))

  -- ---- THE LAWS

  pub record Yes : Type 0 where
    pub said : Said
    pub parsed-to : Parsed
    pub sound : Sound axes job store work said parsed-to
    pub all-sets : (k : ℕ) → k < length said.sets → SetRight store words parsed-to said k

  pub record NoBySet (k : ℕ) : Type 0 where
    pub said : Said
    pub parsed-to : Parsed
    pub sound : Sound axes job store work said parsed-to
    pub first : FirstWrong said parsed-to sound k

  -- the job is sound and the store is not
  pub record NoByStore : Type 0 where
    pub said : Said
    pub passed : judge_refusal axes job (length store) work ≡ 0
    pub said-is : records_from axes 0 job job (record_count job) 0 in_axes ≡ fine said
    pub at-fault : (p : Parsed) → Sound axes job store work said p → ⊥

  -- a yes exactly when
  pub yes-exactly : (judge_of axes job store words work ≡ Right) ↔ Yes
  yes-exactly = (
    (λ e.
        let t = taken Right (λ n i f. let z : ◌≡◌ {A = ℕ} 0 1 = cc in omega arith) e in
        let s = sound-from t.said Right t.passed t.said-is t.answer (λ f. let z : ◌≡◌ {A = ℕ} 0 1 = cc in omega arith) in
        record { said = t.said; parsed-to = s.parsed-to; sound = s.sound; all-sets = right-then t.said s.parsed-to s.sound e }),
    λ y. right-if y.said y.parsed-to y.sound y.all-sets,
  )

  -- a no by set k exactly when
  pub set-exactly : (k : ℕ) → (judge_of axes job store words work ≡ WrongSet k) ↔ NoBySet k
  set-exactly k = (
    (λ e.
        let t = taken (WrongSet k) (λ n i f. let z : ◌≡◌ {A = ℕ} 0 1 = cc in omega arith) e in
        let s = sound-from t.said (WrongSet k) t.passed t.said-is t.answer (λ f. let z : ◌≡◌ {A = ℕ} 0 1 = cc in omega arith) in
        record { said = t.said; parsed-to = s.parsed-to; sound = s.sound; first = wrong-then t.said s.parsed-to s.sound k e }),
    λ y. wrong-if y.said y.parsed-to y.sound k y.first,
  )

  -- a no by the store exactly when
  pub store-exactly : (judge_of axes job store words work ≡ WrongStore) ↔ NoByStore
  unfolding judge_of judged_of judged_in
  store-exactly = (
    (λ e.
        let t = taken WrongStore (λ n i f. let z : ◌≡◌ {A = ℕ} 0 1 = cc in omega arith) e in
        record { said = t.said; passed = t.passed; said-is = t.said-is; at-fault = λ p a. never-wrong-store t.said p a e }),
    λ y. ap (judged_of axes store words) (none-early _ _ y.passed ∙ y.said-is) ∙ go y (parse store) refl,
  )
    where
      go : (y : NoByStore) (o : Option Parsed) → parse store ≡ o → judged_in axes words y.said o ≡ WrongStore
      go y none g = refl
      go y (some p) g = at (which (eqb p.axes axes && once p.regions))
        where
          at : Which (eqb p.axes axes && once p.regions) → judged_in axes words y.said (some p) ≡ WrongStore
          at (holds t) =
              let a = and-true (eqb p.axes axes) (once p.regions) t in
              absurd (y.at-fault p
              (record { passed = y.passed; said-is = y.said-is; parsed = g; axes-are = eqb-true p.axes axes a.0; distinct = once-distinct p.regions a.1 }))
          at (fails t) = rw t refl
