-- A question that is taken: its build is done, the ids are there, and the store is what the build wrote (RULES Z1). Assumes nothing.
use mathlib.Core.Path.{◌≡◌, refl, sym, ap, subst, ◌∙◌}
use mathlib.Core.List.{List}
use Prim.Native.Nat.{ℕ, ◌≤◌, ◌<◌}
use native.Mathlib.Omega.{arith}
use lib.Dec.{eqb}
use lib.ListN.{length, take}
use borrow.Author.Tests.{eqb-true, eqb-false}
use Rattle.laws.specs.Pick.{pick}
use Rattle.laws.proofs.Cases.{Which, which}
use Rattle.laws.proofs.Cases.Which.{holds, fails}
use Rattle.limits.specs.Limits.{max_shapes}
use Rattle.said.specs.Job.{Said}
use Rattle.said.proofs.SoundLaws.{Bytes}
use Rattle.encoder.specs.Packed.{Packed}
use Rattle.finishing.specs.declared.answers.Report.{Report}
use Rattle.finishing.specs.Answers.{Built}
use Rattle.finishing.specs.Answers as built
use Rattle.call.specs.Lending.{Lending, Left}
use Rattle.call.specs.Build.{coords_in_use, packed_of, answer_of}
use Rattle.accepted.proofs.PackedLaws.{WellPacked, shared-good}
use Rattle.accepted.proofs.ReadBack.{Sized}
use Rattle.accepted.proofs.Accepted.{Accepted, accepted, accepted-sized, packed_in, packed-is, shared-is}
use Rattle.accepted.proofs.PastLaws.{count-ids}
use Rattle.demands.proofs.OutcomeRows.{numbers}
use Rattle.finding.specs.Asked.{asked_refusal}
use Rattle.finding.proofs.AskedLaws.{asked-none}
use Rattle.showing.specs.Answers as part
use Rattle.showing.specs.Parts.{asked_part, found_of}
use Rattle.reasons.specs.declared.reason.Reason.{Reason}
use Rattle.why_words.specs.Answers as why
use Rattle.why_words.specs.Explained.{because, explained}
use Rattle.why_words.specs.WhyWords.{why_number}
use Rattle.why_words.specs.ShownWords.{shown_number}

-- of two ids, or of one twice
pub record Taken (c : Lending) (store : List ℕ) (a b : ℕ) (l : Left) : Type 0 where
  pub report : Report
  pub done : answer_of c ≡ built.Done report
  pub first_below : a < report.ids
  pub second_below : b < report.ids
  pub store_is : store ≡ take report.bytes l.lent.out

module _ (c : Lending) (store : List ℕ) (a b : ℕ) (l : Left) where
  -- a build's refusals have numbers above 0
  refused-some : (n p : ℕ) → built.Refused n p ≡ answer_of c → n ≡ 0 → ⊥
  refused-some n p e z = let h = numbers c n p (sym e) in omega (arith, h.0)

  asked-fine : (d : Report) → built.Done d ≡ answer_of c → asked_refusal d.ids d.bytes a b store l.lent.out ≡ 0 → Taken c store a b l
  asked-fine d e z =
      let t = asked-none d.ids d.bytes a b store l.lent.out z in
      record { report = d; done = sym e; first_below = t.0; second_below = t.1; store_is = t.2 }

  pub why-fine : (r : Built) → r ≡ answer_of c → (q : Reason) → why_number (explained r q store l.lent.out a b) ≡ 0
      → (Taken c store a b l) × (explained r q store l.lent.out a b ≡ because q)
  unfolding explained why_number
  why-fine (built.Refused n p) e q z = absurd (refused-some n p e z)
  why-fine (built.Done d) e q z = go (which (eqb (asked_refusal d.ids d.bytes a b store l.lent.out) 0)) z
    where
      go : Which (eqb (asked_refusal d.ids d.bytes a b store l.lent.out) 0)
          → why_number (pick (eqb (asked_refusal d.ids d.bytes a b store l.lent.out) 0) (because q) (why.Refused (asked_refusal d.ids d.bytes a b store l.lent.out) 0)) ≡ 0
          → (Taken c store a b l)
          × (pick (eqb (asked_refusal d.ids d.bytes a b store l.lent.out) 0) (because q) (why.Refused (asked_refusal d.ids d.bytes a b store l.lent.out) 0) ≡ because q)
      go (holds t) y = (asked-fine d e (eqb-true (asked_refusal d.ids d.bytes a b store l.lent.out) 0 t), rw t refl)
      go (fails t) y = absurd (eqb-false (asked_refusal d.ids d.bytes a b store l.lent.out) 0 t (rw t at y))

-- the part that was asked for
pub shown-fine : (c : Lending) (store : List ℕ) (id what : ℕ) (l : Left) (r : Built) → r ≡ answer_of c
    → shown_number (found_of r c.job store l.lent.out l.lent.ids l.lent.map id what) ≡ 0
    → (Taken c store id id l) × (found_of r c.job store l.lent.out l.lent.ids l.lent.map id what ≡ asked_part c.job store l.lent.ids l.lent.map id what)
unfolding found_of shown_number
shown-fine c store id what l (built.Refused n p) e z = absurd (refused-some c store id id l n p e z)
shown-fine c store id what l (built.Done d) e z = go (which (eqb (asked_refusal d.ids d.bytes id id store l.lent.out) 0)) z
  where
    go : Which (eqb (asked_refusal d.ids d.bytes id id store l.lent.out) 0)
        → shown_number (pick (eqb (asked_refusal d.ids d.bytes id id store l.lent.out) 0) (asked_part c.job store l.lent.ids l.lent.map id what) (part.Refused (asked_refusal d.ids d.bytes id id store l.lent.out) 0)) ≡ 0
        → (Taken c store id id l)
        × (pick (eqb (asked_refusal d.ids d.bytes id id store l.lent.out) 0) (asked_part c.job store l.lent.ids l.lent.map id what) (part.Refused (asked_refusal d.ids d.bytes id id store l.lent.out) 0)
        ≡ asked_part c.job store l.lent.ids l.lent.map id what)
    go (holds t) y = (asked-fine c store id id l d e (eqb-true (asked_refusal d.ids d.bytes id id store l.lent.out) 0 t), rw t refl)
    go (fails t) y = absurd (eqb-false (asked_refusal d.ids d.bytes id id store l.lent.out) 0 t (rw t at y))

-- ---- what is packed, in mode 0

module _ {c : Lending} {store : List ℕ} {a b : ℕ} {l : Left} (t : Taken c store a b l) (shared-rows : c.mode ≡ 0) where
  pub done-is : Accepted c t.report
  done-is = accepted c t.report t.done

  abbrev pub said_in : Said
  said_in = (accepted c t.report t.done).said

  pub packed-here : packed_in c said_in ≡ packed_of 0 said_in
  packed-here = packed-is c said_in shared-rows

  pub shapes-few : (packed_of 0 said_in).groups ≤ max_shapes
  shapes-few = subst (λ (k : Packed). k.groups ≤ max_shapes) packed-here (accepted c t.report t.done).room.shapes-few

  pub count-is : t.report.ids ≡ length (packed_of 0 said_in).sets
  count-is = count-ids c t.report (accepted c t.report t.done) ∙ ap (λ (k : Packed). length k.sets) packed-here

  module _ (bytes : Bytes c.job) where
    pub sized-is : Sized c.axes (length said_in.used) (coords_in_use said_in) said_in.sets
    sized-is = accepted-sized c t.report (accepted c t.report t.done) bytes

    pub good-is : WellPacked (length said_in.used) (packed_of 0 said_in)
    good-is =
        subst (λ (k : Packed). WellPacked (length said_in.used) k) (sym (shared-is said_in))
        (shared-good (length said_in.used) said_in.sets sized-is.proper sized-is.words)
