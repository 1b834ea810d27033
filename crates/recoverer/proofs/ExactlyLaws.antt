-- Six tests in their order: which number is given, exactly when; and what a store is that is recovered. Assumes nothing.
use mathlib.Core.Path.{◌≡◌, refl, sym, ap, ◌∙◌}
use mathlib.Core.Bool.{Bool, true, false, ◌&&◌}
use mathlib.Core.List.{List}
use mathlib.Core.Logic.{⊎_elim}
use mathlib.Core.Option.{some}
use Prim.Native.Nat.{ℕ, ◌*◌, ◌≤◌, ◌<◌}
use native.Mathlib.Omega.{arith}
use lib.Dec.{ltb, leb}
use lib.ListN.{length, get_or}
use borrow.Author.Tests.{lt-ltb, le-leb, lt-leb, leb-true, ltb-true}
use Rattle.laws.specs.Pick.{pick}
use Rattle.laws.proofs.Cases.{lt-or-ge, and-true, true-false, Which, which}
use Rattle.laws.proofs.Cases.Which.{holds, fails}
use Rattle.limits.specs.Limits.{most_records, most_axes, max_regions}
use Rattle.said.specs.Records.{record_bytes}
use Rattle.said.specs.Refusals.{first_failed, job_work, pair_records}
use Rattle.said.specs.Job.{fine, outcome}
use Rattle.stores.specs.Stores.{Parsed, store_at, is_whole_ok, parse, parses}
use Rattle.stores.specs.Coordinates.{once, Distinct}
use Rattle.stores.proofs.WholeLaws.{whole_is, parse-done, parse-shaped}
use Rattle.stores.proofs.ByCoordinates.{once-distinct}
use Rattle.listed.proofs.OrderedLaws.{distinct-once}
use Rattle.recovering.specs.Recovering.{job_of, records_of, said_of, Says}
use Rattle.recovering.proofs.Sound.{Takes, job-sound}
use Rattle.recoverer.specs.Recover.{recover_no}
use Rattle.recoverer.specs.Exactly.{Bounded, Exactly}
use Rattle.recoverer.proofs.Steps.{whole_of}

-- ---- six tests

abbrev six : Bool → Bool → Bool → Bool → Bool → Bool → ℕ
six a b c d e f = pick a (pick b (pick c (pick d (pick e (pick f 0 53) 52) 51) 50) 20) 4

six-4 : (a b c d e f : Bool) → six a b c d e f ≡ 4 → a ≡ false
six-4 false b c d e f h = refl
six-4 true false c d e f h = absurd (omega arith)
six-4 true true false d e f h = absurd (omega arith)
six-4 true true true false e f h = absurd (omega arith)
six-4 true true true true false f h = absurd (omega arith)
six-4 true true true true true false h = absurd (omega arith)
six-4 true true true true true true h = absurd (omega arith)

six-20 : (a b c d e f : Bool) → six a b c d e f ≡ 20 → (a ≡ true) × (b ≡ false)
six-20 false b c d e f h = absurd (omega arith)
six-20 true false c d e f h = (refl, refl)
six-20 true true false d e f h = absurd (omega arith)
six-20 true true true false e f h = absurd (omega arith)
six-20 true true true true false f h = absurd (omega arith)
six-20 true true true true true false h = absurd (omega arith)
six-20 true true true true true true h = absurd (omega arith)

six-50 : (a b c d e f : Bool) → six a b c d e f ≡ 50 → (a ≡ true) × (b ≡ true) × (c ≡ false)
six-50 false b c d e f h = absurd (omega arith)
six-50 true false c d e f h = absurd (omega arith)
six-50 true true false d e f h = (refl, refl, refl)
six-50 true true true false e f h = absurd (omega arith)
six-50 true true true true false f h = absurd (omega arith)
six-50 true true true true true false h = absurd (omega arith)
six-50 true true true true true true h = absurd (omega arith)

six-51 : (a b c d e f : Bool) → six a b c d e f ≡ 51 → (a ≡ true) × (b ≡ true) × (c ≡ true) × (d ≡ false)
six-51 false b c d e f h = absurd (omega arith)
six-51 true false c d e f h = absurd (omega arith)
six-51 true true false d e f h = absurd (omega arith)
six-51 true true true false e f h = (refl, refl, refl, refl)
six-51 true true true true false f h = absurd (omega arith)
six-51 true true true true true false h = absurd (omega arith)
six-51 true true true true true true h = absurd (omega arith)

six-52 : (a b c d e f : Bool) → six a b c d e f ≡ 52 → (a ≡ true) × (b ≡ true) × (c ≡ true) × (d ≡ true) × (e ≡ false)
six-52 false b c d e f h = absurd (omega arith)
six-52 true false c d e f h = absurd (omega arith)
six-52 true true false d e f h = absurd (omega arith)
six-52 true true true false e f h = absurd (omega arith)
six-52 true true true true false f h = (refl, refl, refl, refl, refl)
six-52 true true true true true false h = absurd (omega arith)
six-52 true true true true true true h = absurd (omega arith)

six-53 : (a b c d e f : Bool) → six a b c d e f ≡ 53 → (a ≡ true) × (b ≡ true) × (c ≡ true) × (d ≡ true) × (e ≡ true) × (f ≡ false)
six-53 false b c d e f h = absurd (omega arith)
six-53 true false c d e f h = absurd (omega arith)
six-53 true true false d e f h = absurd (omega arith)
six-53 true true true false e f h = absurd (omega arith)
six-53 true true true true false f h = absurd (omega arith)
six-53 true true true true true false h = (refl, refl, refl, refl, refl, refl)
six-53 true true true true true true h = absurd (omega arith)

six-0 : (a b c d e f : Bool) → six a b c d e f ≡ 0 → (a ≡ true) × (b ≡ true) × (c ≡ true) × (d ≡ true) × (e ≡ true) × (f ≡ true)
six-0 false b c d e f h = absurd (omega arith)
six-0 true false c d e f h = absurd (omega arith)
six-0 true true false d e f h = absurd (omega arith)
six-0 true true true false e f h = absurd (omega arith)
six-0 true true true true false f h = absurd (omega arith)
six-0 true true true true true false h = absurd (omega arith)
six-0 true true true true true true h = (refl, refl, refl, refl, refl, refl)

-- ---- what each test says

fails-else : (b : Bool) → (b ≡ true → ⊥) → b ≡ false
fails-else b d = go (which b)
  where
    go : Which b → b ≡ false
    go (holds e) = absurd (d e)
    go (fails e) = e

lt-else : (m n : ℕ) → leb m n ≡ false → n < m
lt-else m n h = ⊎_elim (λ l. l) (λ (l : m ≤ n). absurd (true-false (le-leb m n l) h)) (lt-or-ge n m)

whole-parses : (s : List ℕ) → is_whole_ok s ≡ true → parses (parse s) ≡ true
unfolding parses
whole-parses s h = rw (parse-done s (whole_is s h))

bounded_of : (p : Parsed) → leb (length p.regions) max_regions && (ltb 0 p.axes && leb p.axes most_axes) ≡ true → Bounded p
bounded_of p h =
    let a = and-true (leb (length p.regions) max_regions) (ltb 0 p.axes && leb p.axes most_axes) h in
    let b = and-true (ltb 0 p.axes) (leb p.axes most_axes) a.1 in
    record { few-regions = leb-true (length p.regions) max_regions a.0; some-axes = ltb-true 0 p.axes b.0; few-axes = leb-true p.axes most_axes b.1 }

of-bounded : (p : Parsed) → Bounded p → leb (length p.regions) max_regions && (ltb 0 p.axes && leb p.axes most_axes) ≡ true
of-bounded p b = rw (le-leb (length p.regions) max_regions b.few-regions, lt-ltb 0 p.axes b.some-axes, le-leb p.axes most_axes b.few-axes)

module _ (s : List ℕ) (work out : ℕ) where
  abbrev t₁ : Bool
  t₁ = leb (length s) work

  abbrev t₂ : Bool
  t₂ = parses (parse s)

  abbrev t₃ : Bool
  t₃ = once (store_at s).regions

  abbrev t₄ : Bool
  t₄ = leb (length (store_at s).regions) max_regions && (ltb 0 (store_at s).axes && leb (store_at s).axes most_axes)

  abbrev t₅ : Bool
  t₅ = leb (records_of (store_at s)) most_records

  abbrev t₆ : Bool
  t₆ = leb (record_bytes * records_of (store_at s)) out

  number_is : recover_no s work out ≡ six t₁ t₂ t₃ t₄ t₅ t₆
  unfolding recover_no first_failed
  number_is = refl

  by : (a b c d e f : Bool) → t₁ ≡ a → t₂ ≡ b → t₃ ≡ c → t₄ ≡ d → t₅ ≡ e → t₆ ≡ f → recover_no s work out ≡ six a b c d e f
  by a b c d e f h₁ h₂ h₃ h₄ h₅ h₆ = number_is ∙ go
    where
      go : six t₁ t₂ t₃ t₄ t₅ t₆ ≡ six a b c d e f
      go = ap (λ (x : Bool). six x t₂ t₃ t₄ t₅ t₆) h₁ ∙ ap (λ (x : Bool). six a x t₃ t₄ t₅ t₆) h₂ ∙ ap (λ (x : Bool). six a b x t₄ t₅ t₆) h₃
          ∙ ap (λ (x : Bool). six a b c x t₅ t₆) h₄ ∙ ap (λ (x : Bool). six a b c d x t₆) h₅ ∙ ap (λ (x : Bool). six a b c d e x) h₆

  not-distinct : once (store_at s).regions ≡ false → Distinct (store_at s).regions → ⊥
  not-distinct h d = true-false (distinct-once (store_at s).regions d) h

  not-once : (Distinct (store_at s).regions → ⊥) → once (store_at s).regions ≡ false
  not-once d = fails-else (once (store_at s).regions) (λ h. d (once-distinct (store_at s).regions h))

  -- THE THEOREM
  pub exactly : Exactly s work out
  exactly = record {
    work-short = (λ h. lt-else (length s) work (six-4 t₁ t₂ t₃ t₄ t₅ t₆ (sym number_is ∙ h)), λ l. by false t₂ t₃ t₄ t₅ t₆ (lt-leb (length s) work l) refl refl refl refl refl);
    bad-store = (
      λ h. let x = six-20 t₁ t₂ t₃ t₄ t₅ t₆ (sym number_is ∙ h) in (leb-true (length s) work x.0, λ w. true-false (whole-parses s w) x.1),
      λ x. by true false t₃ t₄ t₅ t₆ (le-leb (length s) work x.0) (fails-else t₂ (λ h. x.1 (whole_of s h))) refl refl refl refl,
    );
    regions-equal = (
      λ h. let x = six-50 t₁ t₂ t₃ t₄ t₅ t₆ (sym number_is ∙ h) in (leb-true (length s) work x.0, whole_of s x.1, not-distinct x.2),
      λ x. by true true false t₄ t₅ t₆ (le-leb (length s) work x.0) (whole-parses s x.1) (not-once x.2) refl refl refl,
    );
    regions-or-axes = (
      λ h. let x = six-51 t₁ t₂ t₃ t₄ t₅ t₆ (sym number_is ∙ h) in
          (leb-true (length s) work x.0, whole_of s x.1, once-distinct (store_at s).regions x.2, λ b. true-false (of-bounded (store_at s) b) x.3),
      λ x. by true true true false t₅ t₆ (le-leb (length s) work x.0) (whole-parses s x.1) (distinct-once (store_at s).regions x.2) (fails-else t₄ (λ h. x.3 (bounded_of (store_at s) h))) refl refl,
    );
    job-too-long = (
      λ h. let x = six-52 t₁ t₂ t₃ t₄ t₅ t₆ (sym number_is ∙ h) in
          (leb-true (length s) work x.0, whole_of s x.1, once-distinct (store_at s).regions x.2, bounded_of (store_at s) x.3, lt-else (records_of (store_at s)) most_records x.4),
      λ x. by true true true true false t₆ (le-leb (length s) work x.0) (whole-parses s x.1) (distinct-once (store_at s).regions x.2) (of-bounded (store_at s) x.3) (lt-leb (records_of (store_at s)) most_records x.4) refl,
    );
    job-short = (
      λ h. let x = six-53 t₁ t₂ t₃ t₄ t₅ t₆ (sym number_is ∙ h) in
          (leb-true (length s) work x.0, whole_of s x.1, once-distinct (store_at s).regions x.2, bounded_of (store_at s) x.3, leb-true (records_of (store_at s)) most_records x.4, lt-else (record_bytes * records_of (store_at s)) out x.5),
      λ x. by true true true true true false (le-leb (length s) work x.0) (whole-parses s x.1) (distinct-once (store_at s).regions x.2) (of-bounded (store_at s) x.3) (le-leb (records_of (store_at s)) most_records x.4) (lt-leb (record_bytes * records_of (store_at s)) out x.5),
    );
    done = (
      λ h. let x = six-0 t₁ t₂ t₃ t₄ t₅ t₆ (sym number_is ∙ h) in
          (leb-true (length s) work x.0, whole_of s x.1, once-distinct (store_at s).regions x.2, bounded_of (store_at s) x.3, leb-true (records_of (store_at s)) most_records x.4, leb-true (record_bytes * records_of (store_at s)) out x.5),
      λ x. by true true true true true true (le-leb (length s) work x.0) (whole-parses s x.1) (distinct-once (store_at s).regions x.2) (of-bounded (store_at s) x.3) (le-leb (records_of (store_at s)) most_records x.4) (le-leb (record_bytes * records_of (store_at s)) out x.5),
    );
  }

  -- a store that is recovered is one whose job is sound
  module _ (bytes : (k : ℕ) → get_or s k 0 < 256) (h : recover_no s work out ≡ 0) where
    pub recovered-parsed : parse s ≡ some (store_at s)
    recovered-parsed = parse-done s (whole_is s (exactly.done.0 h).1)

    pub recovered-takes : Takes (store_at s)
    recovered-takes =
        let x = exactly.done.0 h in
        record {
          shaped = parse-shaped s bytes (store_at s) recovered-parsed;
          some-axes = x.3.some-axes;
          few-axes = x.3.few-axes;
          few-regions = x.3.few-regions;
          distinct = x.2;
          few-records = x.4;
        }

    pub recovered-sound : (lent pairs : ℕ) → job_work (store_at s).axes (job_of (store_at s)) ≤ lent → pair_records ≤ pairs
        → (outcome (store_at s).axes 0 (job_of (store_at s)) lent pairs ≡ fine (said_of (store_at s))) × Says (store_at s) (said_of (store_at s))
    recovered-sound lent pairs w q = job-sound (store_at s) recovered-takes lent pairs w q
