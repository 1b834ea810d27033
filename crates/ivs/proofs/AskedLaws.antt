-- What is told of a build that was asked: its numbers are small, its parts fit, and a look after it leaves all as it was. Assumes nothing.
use mathlib.Core.Path.{◌≡◌, refl, sym, ap, ap₂, subst, ◌∙◌}
use mathlib.Core.Bool.{Bool, true, false}
use mathlib.Core.List.{List}
use Prim.Native.Nat.{ℕ, ◌≤◌}
use native.Mathlib.Omega.{arith}
use lib.Dec.{eqb, ltb}
use lib.ListN.{length, get_or, take, replicate, length-replicate}
use borrow.Author.Tests.{eqb-false}
use Rattle.laws.specs.Pick.{pick}
use Rattle.laws.proofs.Cases.{Which, which}
use Rattle.laws.proofs.Cases.Which.{holds, fails}
use Rattle.said.specs.Refusals.{first_failed, early_refusal}
use Rattle.said.specs.Job.{outcome}
use Rattle.stores.specs.Coordinates.{are_same_bytes}
use Rattle.job.specs.Check.{work_left}
use Rattle.pairs.specs.declared.Pair.{Pair}
use Rattle.finding.specs.First.{first_at}
use Rattle.finding.specs.Asked.{asked_refusal}
use Rattle.finishing.specs.Buffers.{Buffers}
use Rattle.finishing.specs.Late.{report_of}
use Rattle.finishing.specs.declared.answers.Report.{Report}
use Rattle.finishing.specs.Answers.{Built}
use Rattle.finishing.specs.Answers as built
use Rattle.call.specs.Lending.{Lending, Left, lending, leaves, no_buffers, no_pair}
use Rattle.call.specs.Build.{pairs_left, outcome_of, answer_of, after}
use Rattle.packer.specs.Promised.{Obeys}
use Rattle.accepted.proofs.Accepted.{Accepted, accepted, bytes-are, packed_in}
use Rattle.reasons.specs.declared.reason.Reason.{Reason}
use Rattle.reasons.specs.declared.reason.Reason.TheVariants as reason
use Rattle.looking.specs.Look.{why_from}
use Rattle.why.specs.Promised.{Looks}
use Rattle.showing.specs.Answers.{Shown}
use Rattle.showing.specs.Answers as part
use Rattle.showing.specs.Parts.{end_span, row_span, in_job, in_store, asked_part, found_of}
use Rattle.showing.specs.LentParts.{Fits, Within}
use Rattle.showing.proofs.FoundLaws.{found_within}
use Rattle.why_words.specs.Answers.{Why}
use Rattle.why_words.specs.Answers as why
use Rattle.why_words.specs.Explained.{because, explained, OutFits}
use Rattle.why_words.specs.WhyWords.{why_number, why_report, why_few, why_at}
use Rattle.why_words.specs.ShownWords.{shown_number, shown_words, shown_few, shown_at}
use Rattle.reporting.specs.Answers.{filled}
use Rattle.ivs.specs.Asked.{WhyAnswered, ShowAnswered}
use Rattle.ivs.proofs.FewLaws.{answer-few, answer-within}

-- ---- what a done build left

ids-are : (c : Lending) (r : Report) (a : Accepted c r) → r.ids ≡ length (packed_in c a.said).sets
unfolding report_of
ids-are c r a = ap (λ (t : Report). t.ids) a.report-is

pub fits_both : (c : Lending) (b : Built) → b ≡ answer_of c → (out map : List ℕ) → length out ≡ length c.lent.out → length map ≡ length c.lent.map → Fits b out map
fits_both c (built.Refused n at) e out map o m = tt
fits_both c (built.Done r) e out map o m =
    let a = accepted c r (sym e) in
    (omega (arith, bytes-are c r a, a.room.out-fits), omega (arith, ids-are c r a, a.room.map-fits))

pub fits_out : (c : Lending) (b : Built) → b ≡ answer_of c → (out : List ℕ) → length out ≡ length c.lent.out → OutFits b out
fits_out c (built.Refused n at) e out o = tt
fits_out c (built.Done r) e out o = let a = accepted c r (sym e) in omega (arith, bytes-are c r a, a.room.out-fits)

-- ---- 62 or 63

abbrev by_tests : Bool → Bool → Bool → ℕ
by_tests p q s = pick p (pick q (pick s 0 63) 62) 62

tests-most : (p q s : Bool) → (by_tests p q s ≡ 0 → ⊥) → (62 ≤ by_tests p q s) × (by_tests p q s ≤ 63)
tests-most false q s d = (omega arith, omega arith)
tests-most true false s d = (omega arith, omega arith)
tests-most true true false d = (omega arith, omega arith)
tests-most true true true d = absurd (d refl)

asked-most : (ids bytes a b : ℕ) (store out : List ℕ) → (asked_refusal ids bytes a b store out ≡ 0 → ⊥) → (62 ≤ asked_refusal ids bytes a b store out) × (asked_refusal ids bytes a b store out ≤ 63)
unfolding asked_refusal first_failed
asked-most ids bytes a b store out = tests-most (ltb a ids) (ltb b ids) (are_same_bytes store (take bytes out))

-- ---- the answers' numbers

module _ (c : Lending) where
  because-few : (r : Reason) → why_few (because r)
  unfolding because
  because-few reason.None = omega arith
  because-few reason.Same = tt
  because-few reason.CutApart = tt
  because-few (reason.NeverJoined x y z) = tt

  because-at : (r : Reason) → why_at c.job (because r)
  unfolding because
  because-at reason.None = λ z. absurd (omega arith)
  because-at reason.Same = tt
  because-at reason.CutApart = tt
  because-at (reason.NeverJoined x y z) = tt

  pub why-few : (b : Built) → b ≡ answer_of c → (r : Reason) (store out : List ℕ) (x y : ℕ) → why_few (explained b r store out x y)
  unfolding explained
  why-few (built.Refused n at) e r store out x y = let h = answer-few c (built.Refused n at) e in omega arith
  why-few (built.Done d) e r store out x y = go (which (eqb (asked_refusal d.ids d.bytes x y store out) 0))
    where
      go : Which (eqb (asked_refusal d.ids d.bytes x y store out) 0) → why_few (pick (eqb (asked_refusal d.ids d.bytes x y store out) 0) (because r) (why.Refused (asked_refusal d.ids d.bytes x y store out) 0))
      go (holds t) = rw t (because-few r)
      go (fails t) = rw t (omega (arith, asked-most d.ids d.bytes x y store out (eqb-false (asked_refusal d.ids d.bytes x y store out) 0 t)))

  pub why-at : (b : Built) → b ≡ answer_of c → (r : Reason) (store out : List ℕ) (x y : ℕ) → why_at c.job (explained b r store out x y)
  unfolding explained
  why-at (built.Refused n at) e r store out x y = answer-within c (built.Refused n at) e
  why-at (built.Done d) e r store out x y = go (which (eqb (asked_refusal d.ids d.bytes x y store out) 0))
    where
      go : Which (eqb (asked_refusal d.ids d.bytes x y store out) 0) → why_at c.job (pick (eqb (asked_refusal d.ids d.bytes x y store out) 0) (because r) (why.Refused (asked_refusal d.ids d.bytes x y store out) 0))
      go (holds t) = rw t (because-at r)
      go (fails t) = rw t (λ z. absurd (omega (arith, z, asked-most d.ids d.bytes x y store out (eqb-false (asked_refusal d.ids d.bytes x y store out) 0 t))))

  part-few : (job store ids map : List ℕ) (x what : ℕ) → shown_few (asked_part job store ids map x what)
  unfolding asked_part
  part-few job store ids map x what = go (which (eqb what 0))
    where
      go : Which (eqb what 0) → shown_few (pick (eqb what 0) (in_job (end_span job (first_at x ids))) (in_store (row_span store (get_or map x 0))))
      go (holds t) = rw t tt
      go (fails t) = rw t tt

  part_at : (job store ids map : List ℕ) (x what : ℕ) → shown_at c.job (asked_part job store ids map x what)
  unfolding asked_part
  part_at job store ids map x what = go (which (eqb what 0))
    where
      go : Which (eqb what 0) → shown_at c.job (pick (eqb what 0) (in_job (end_span job (first_at x ids))) (in_store (row_span store (get_or map x 0))))
      go (holds t) = rw t tt
      go (fails t) = rw t tt

  pub shown-few : (b : Built) → b ≡ answer_of c → (job store out ids map : List ℕ) (x what : ℕ) → shown_few (found_of b job store out ids map x what)
  unfolding found_of
  shown-few (built.Refused n at) e job store out ids map x what = let h = answer-few c (built.Refused n at) e in omega arith
  shown-few (built.Done d) e job store out ids map x what = go (which (eqb (asked_refusal d.ids d.bytes x x store out) 0))
    where
      go : Which (eqb (asked_refusal d.ids d.bytes x x store out) 0)
          → shown_few (pick (eqb (asked_refusal d.ids d.bytes x x store out) 0) (asked_part job store ids map x what) (part.Refused (asked_refusal d.ids d.bytes x x store out) 0))
      go (holds t) = rw t (part-few job store ids map x what)
      go (fails t) = rw t (omega (arith, asked-most d.ids d.bytes x x store out (eqb-false (asked_refusal d.ids d.bytes x x store out) 0 t)))

  pub shown-at : (b : Built) → b ≡ answer_of c → (job store out ids map : List ℕ) (x what : ℕ) → shown_at c.job (found_of b job store out ids map x what)
  unfolding found_of
  shown-at (built.Refused n at) e job store out ids map x what = answer-within c (built.Refused n at) e
  shown-at (built.Done d) e job store out ids map x what = go (which (eqb (asked_refusal d.ids d.bytes x x store out) 0))
    where
      go : Which (eqb (asked_refusal d.ids d.bytes x x store out) 0)
          → shown_at c.job (pick (eqb (asked_refusal d.ids d.bytes x x store out) 0) (asked_part job store ids map x what) (part.Refused (asked_refusal d.ids d.bytes x x store out) 0))
      go (holds t) = rw t (part_at job store ids map x what)
      go (fails t) = rw t (λ z. absurd (omega (arith, z, asked-most d.ids d.bytes x x store out (eqb-false (asked_refusal d.ids d.bytes x x store out) 0 t))))

-- ---- a look after a build: it answers by lengths, and leaves what is left

module _ (axes : ℕ) (job : List ℕ) (pairs : ℕ) (w : List ℕ) where
  work-long : length (work_left axes 0 job pairs w) ≡ length w
  unfolding work_left
  work-long = go (which (eqb (early_refusal axes 0 job (length w) pairs) 0))
    where
      go : Which (eqb (early_refusal axes 0 job (length w) pairs) 0) → length (pick (eqb (early_refusal axes 0 job (length w) pairs) 0) (replicate (length w) 0) w) ≡ length w
      go (holds t) = rw t (length-replicate (length w) 0)
      go (fails t) = rw t refl

  work-again : (n : ℕ) (v : List ℕ) → n ≡ length w → length v ≡ n → v ≡ work_left axes 0 job pairs w → pick (eqb (early_refusal axes 0 job n pairs) 0) (replicate n 0) v ≡ work_left axes 0 job pairs w
  unfolding work_left
  work-again n v e l f = rw e (go (which (eqb (early_refusal axes 0 job (length w) pairs) 0)) f)
    where
      go : Which (eqb (early_refusal axes 0 job (length w) pairs) 0) → v ≡ pick (eqb (early_refusal axes 0 job (length w) pairs) 0) (replicate (length w) 0) w
          → pick (eqb (early_refusal axes 0 job (length w) pairs) 0) (replicate (length w) 0) v ≡ pick (eqb (early_refusal axes 0 job (length w) pairs) 0) (replicate (length w) 0) w
      go (holds t) h = rw t refl
      go (fails t) h = rw t (rw t at h)

module _ (axes : ℕ) (job : List ℕ) (work : ℕ) (ps : List Pair) where
  pairs-again : (n : ℕ) (v : List Pair) → n ≡ length ps → v ≡ pairs_left axes 0 job work ps → pick (eqb (early_refusal axes 0 job work n) 0) (replicate n no_pair) v ≡ pairs_left axes 0 job work ps
  unfolding pairs_left
  pairs-again n v e f = rw e (go (which (eqb (early_refusal axes 0 job work (length ps)) 0)) f)
    where
      go : Which (eqb (early_refusal axes 0 job work (length ps)) 0) → v ≡ pick (eqb (early_refusal axes 0 job work (length ps)) 0) (replicate (length ps) no_pair) ps
          → pick (eqb (early_refusal axes 0 job work (length ps)) 0) (replicate (length ps) no_pair) v ≡ pick (eqb (early_refusal axes 0 job work (length ps)) 0) (replicate (length ps) no_pair) ps
      go (holds t) h = rw t refl
      go (fails t) h = rw t (rw t at h)

-- so what a build promised still holds
module _ (axes : ℕ) (job work : List ℕ) (pairs : List Pair) (lent : Buffers) (b : Built) (left : Buffers) {work' : List ℕ} {pairs' : List Pair}
    (long : length work' ≡ length work) (pairs-long : length pairs' ≡ length pairs) (o : Obeys (lending axes 0 job work pairs lent) b (leaves work' pairs' left)) (x y : ℕ) {r : Reason} {work'' : List ℕ} {pairs'' : List Pair}
    (k : Looks (lending axes 0 job work' pairs' no_buffers) x y r work'' pairs'') where
  pub look-reason : r ≡ why_from (outcome_of (lending axes 0 job work pairs lent)) x y
  look-reason = k.answer ∙ ap₂ (λ (m n : ℕ). why_from (outcome axes 0 job m n) x y) long pairs-long

  work-is : work'' ≡ (after (lending axes 0 job work pairs lent)).work
  unfolding work_left
  work-is =
      k.work-is
      ∙ ap (λ (n : ℕ). pick (eqb (early_refusal axes 0 job (length work') n) 0) (replicate (length work') 0) work') pairs-long
      ∙ work-again axes job (length pairs) work (length work') work' long refl (ap (λ (l : Left). l.work) o.left)

  pairs_is : pairs'' ≡ (after (lending axes 0 job work pairs lent)).pairs
  unfolding pairs_left
  pairs_is =
      k.pairs_is
      ∙ ap (λ (n : ℕ). pick (eqb (early_refusal axes 0 job n (length pairs')) 0) (replicate (length pairs') no_pair) pairs') long
      ∙ pairs-again axes job (length work) pairs (length pairs') pairs' pairs-long (ap (λ (l : Left). l.pairs) o.left)

  pub look-obeys : Obeys (lending axes 0 job work pairs lent) b (leaves work'' pairs'' left)
  look-obeys = record { answer = o.answer; left = (λ i. record { work = work-is i; pairs = pairs_is i; lent = ap (λ (l : Left). l.lent) o.left i }) }

  pub why-answered : (store : List ℕ) (d : Why) → d ≡ explained b r store left.out x y → (n : ℕ) → n ≡ why_number d → (report report' : List ℕ) → report' ≡ filled 0 (why_report job d) report
      → WhyAnswered (lending axes 0 job work pairs lent) store x y n (leaves work'' pairs'' left) report report'
  why-answered store d e n f report report' g =
      let h = e ∙ ap (λ (q : Reason). explained b q store left.out x y) look-reason in
      record { answer = b; obeys = look-obeys; number_is = f ∙ ap why_number h; report-is = g ∙ ap (λ (q : Why). filled 0 (why_report job q) report) h }

pub few-why : (c : Lending) (b : Built) → b ≡ answer_of c → (d : Why) (r : Reason) (store out : List ℕ) (x y : ℕ) → d ≡ explained b r store out x y → why_few d × why_at c.job d
few-why c b e d r store out x y f = (subst why_few (sym f) (why-few c b e r store out x y), subst (why_at c.job) (sym f) (why-at c b e r store out x y))

pub few-shown : (c : Lending) (b : Built) → b ≡ answer_of c → (d : Shown) (job store out ids map : List ℕ) (x what : ℕ) → d ≡ found_of b job store out ids map x what → shown_few d × shown_at c.job d × Within job store d
few-shown c b e d job store out ids map x what f =
    (subst shown_few (sym f) (shown-few c b e job store out ids map x what), subst (shown_at c.job) (sym f) (shown-at c b e job store out ids map x what), subst (Within job store) (sym f) (found_within b job store out ids map x what))

pub show-answered : (c : Lending) (b : Built) (l : Left) → Obeys c b l → (store : List ℕ) (id what : ℕ) (d : Shown) → d ≡ found_of b c.job store l.lent.out l.lent.ids l.lent.map id what → (n : ℕ) → n ≡ shown_number d
    → (report report' : List ℕ) → report' ≡ filled 0 (shown_words c.job d) report → ShowAnswered c store id what n l report report'
show-answered c b l o store id what d e n f report report' g = record { answer = b; obeys = o; number_is = f ∙ ap shown_number e; report-is = g ∙ ap (λ (q : Shown). filled 0 (shown_words c.job q) report) e }
