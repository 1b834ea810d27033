-- A look, from where a build stands after merging to its reason. Assumes nothing.
use mathlib.Core.Path.{◌≡◌, refl, sym, ap, subst, ◌∙◌}
use mathlib.Core.List.{List}
use Prim.Native.Nat.{ℕ, ◌≤◌, ◌<◌}
use native.Mathlib.Omega.{arith}
use lib.ListN.{length, replicate}
use borrow.Author.Tests.{le-leb, lt-leb, lt-ltb, le-ltb}
use Rattle.groups.specs.Groups.{groups_of, max_shapes}
use Rattle.merging.specs.declared.optimizing.Merged.{Merged}
use Rattle.said.specs.Job.{Said, Outcome, refused, fine, in_axes, records_from, outcome}
use Rattle.said.specs.Records.{record_count}
use Rattle.said.specs.Refusals.{early_refusal}
use Rattle.panel.specs.declared.Profile.TheVariants.{Plain}
use Rattle.panel.specs.Panelled.{panelled}
use Rattle.panel.proofs.PanelledLaws.{panelled-plain}
use Rattle.std.specs.Prelude.{Result, Ok, Err, IfOk}
use Rattle.refusals.specs.declared.Refusal.{Refusal}
use Rattle.refusals.specs.declared.Refused.{Refused}
use Rattle.refusals.specs.Refusals.{number}
use Rattle.job.proofs.CheckLaws.{refused-early, left-early, left-zeros, outcome-walk}
use Rattle.encoder.specs.Packed.{Packed, shared}
use Rattle.encoder.specs.Lent.{PackedAt}
use Rattle.finishing.specs.declared.measuring.Packing.{Packing}
use Rattle.call.specs.Build.{packed_of}
use Rattle.opening.specs.declared.opening.Stage.{Stage}
use Rattle.opening.specs.LentOpened.{Read, OpenedBy}
use Rattle.arranging.specs.LentArranged.{JoinedOrRefused, JoinedBy, ArrangeFit, ArrangedAs}
use Rattle.arranging.proofs.StageLaws.{said-by}
use Rattle.reasons.specs.declared.reason.Reason.{Reason}
use Rattle.reasons.specs.declared.reason.Reason.TheVariants.{None}
use Rattle.reasons.specs.Why.{why_of}
use Rattle.looking.specs.Look.{why_packed, why_from}
use Rattle.looking.specs.LentLook.{LookFit, CloseLookFit, Looked}

-- ---- what is packed

module _ (k : Packed) (a b : ℕ) where
  pub packed-many : max_shapes < k.groups → None ≡ why_packed k a b
  unfolding why_packed
  packed-many h = rw (lt-leb k.groups max_shapes h) refl

  module _ (few : k.groups ≤ max_shapes) where
    pub packed-first : length k.sets ≤ a → None ≡ why_packed k a b
    unfolding why_packed
    packed-first h = rw (le-leb k.groups max_shapes few, le-ltb a (length k.sets) h) refl

    module _ (one : a < length k.sets) where
      pub packed-second : length k.sets ≤ b → None ≡ why_packed k a b
      unfolding why_packed
      packed-second h = rw (le-leb k.groups max_shapes few, lt-ltb a (length k.sets) one, le-ltb b (length k.sets) h) refl

      pub packed-both : b < length k.sets → why_of k.finals a b ≡ why_packed k a b
      unfolding why_packed
      packed-both h = rw (le-leb k.groups max_shapes few, lt-ltb a (length k.sets) one, lt-ltb b (length k.sets) h) refl

-- ---- where the records are refused, or there are too many shapes

many-groups : (x : Said) → max_shapes < length (groups_of (length x.used) x.sets) → max_shapes < (packed_of 0 x).groups
unfolding packed_of shared
many-groups x many = many

from-fine : (x : Said) (a b : ℕ) → why_packed (packed_of 0 x) a b ≡ why_from (fine x) a b
unfolding why_from
from-fine x a b = refl

from-refused : (n i a b : ℕ) → None ≡ why_from (refused n i) a b
unfolding why_from
from-refused n i a b = refl

pub look-refused : (axes : ℕ) (job : List ℕ) (o : Outcome) (r : Refused) (w : List ℕ) (a b : ℕ) → Read axes 0 job o (Err r) w → None ≡ why_from o a b
look-refused axes job (refused n i) r w a b e = from-refused n i a b
look-refused axes job (fine x) r w a b e = packed-many (packed_of 0 x) a b (many-groups x e.many) ∙ from-fine x a b

-- ---- from what is arranged

module _ {axes : ℕ} {job : List ℕ} {o : Outcome} {k : Packing} {w : List ℕ} (q : ArrangedAs axes 0 job o k w) (a b : ℕ) where
  few : (packed_of 0 q.said).groups ≤ max_shapes
  few = omega (arith, q.packed.groups-is, q.packed.groups-few)

  done : why_packed (packed_of 0 q.said) a b ≡ why_from o a b
  done = from-fine q.said a b ∙ ap (λ (x : Outcome). why_from x a b) (sym q.said-is)

  pub look-first : k.encoded.distinct ≤ a → None ≡ why_from o a b
  look-first h = packed-first (packed_of 0 q.said) a b few (omega (arith, q.packed.distinct-is)) ∙ done

  pub look-second : a < k.encoded.distinct → k.encoded.distinct ≤ b → None ≡ why_from o a b
  look-second h i = packed-second (packed_of 0 q.said) a b few (omega (arith, q.packed.distinct-is)) (omega (arith, q.packed.distinct-is)) ∙ done

  pub look-both : a < k.encoded.distinct → b < k.encoded.distinct → (r : Reason) → ((x : Packed) → PackedAt x k.places k.encoded w → r ≡ why_of x.finals a b) → r ≡ why_from o a b
  look-both h i r f =
      f (packed_of 0 q.said) q.packed ∙ packed-both (packed_of 0 q.said) a b few (omega (arith, q.packed.distinct-is)) (omega (arith, q.packed.distinct-is)) ∙ done

-- ---- what arranging asks

pub look-read : {s : Stage} {m : Merged} {w : List ℕ} (f : LookFit s m w) → Read f.fits.axes 0 f.job f.fits.outcome (Ok s) f.fits.mid
look-read {s} f = subst (λ (d : ℕ). Read f.fits.axes d f.job f.fits.outcome (Ok s) f.fits.mid) f.shared f.fits.read

pub look-arrange : {s : Stage} {m : Merged} {w : List ℕ} → LookFit s m w → ArrangeFit s m w
look-arrange {s} f = record {
  job = f.job;
  fits = f.fits;
  some = λ d. absurd (d ((said-by f.fits.axes f.fits.mode f.job f.fits.outcome s f.fits.mid f.fits.read).grouped.mode-is ∙ f.shared));
}

-- ---- the whole

module _ (axes : ℕ) (job work : List ℕ) (pairs a b : ℕ) where
  pub looked-early : (x : Refusal) → number x ≡ early_refusal axes 0 job (length work) pairs → Looked axes job work pairs a b None work
  looked-early x e = record {
    answer = from-refused (number x) 0 a b ∙ ap (λ (o : Outcome). why_from o a b) (sym (refused-early axes 0 job work pairs x e));
    work-is = left-early axes 0 job work pairs x e;
  }

  pub looked-late : 0 ≡ early_refusal axes 0 job (length work) pairs → (r : Reason) → r ≡ why_from (records_from axes 0 job job (record_count job) 0 in_axes) a b
      → (work' : List ℕ) → work' ≡ replicate (length work) 0 → Looked axes job work pairs a b r work'
  looked-late e r t work' z = record {
    answer = t ∙ ap (λ (o : Outcome). why_from o a b) (sym (outcome-walk axes 0 job work pairs e));
    work-is = left-zeros axes 0 job work pairs e work' z;
  }

-- ---- what was opened is closed

joined-long : (m : Merged) (mid w : List ℕ) (r : Result Stage Refused) → JoinedOrRefused r m mid w → length w ≡ length mid
joined-long m mid w (Ok s) j = j.only.long
joined-long m mid w (Err x) j = ap length j

pub look-settle : {w : List ℕ} {m : Merged} (o : Result (Result Stage Refused) Refused) (r : Result Stage Refused) → o ≡ Ok r → CloseLookFit o m w → IfOk r (λ s. LookFit s m w)
look-settle {w} {m} o (Ok s) e f =
    let p : OpenedBy Plain f.axes 0 f.job f.old f.pairs f.mid (Ok (Ok s)) = rw e at f.opened in
    let j : JoinedBy (Ok (Ok s)) m f.mid w = rw e at f.joined in
    record {
      job = f.job;
      fits = record { axes = f.axes; mode = 0; outcome = panelled Plain f.job (records_from f.axes 0 f.job f.job (record_count f.job) 0 in_axes); mid = f.mid; read = p.is.opened.is; joined = j };
      shared = refl;
    }
look-settle o (Err x) e f = tt

module _ {axes : ℕ} {job : List ℕ} {o : Result (Result Stage Refused) Refused} (w : List ℕ) (m : Merged) (old : List ℕ) (pairs : ℕ) (mid : List ℕ) (p : OpenedBy Plain axes 0 job old pairs mid o) (j : JoinedBy o m mid w) (a b : ℕ) where
  pub look-early : (x : Refused) → o ≡ Err x → Looked axes job old pairs a b None w
  look-early x e =
      let q : OpenedBy Plain axes 0 job old pairs mid (Err x) = rw e at p in
      let k : JoinedBy (Err x) m mid w = rw e at j in
      rw (k ∙ q.is.kept) (looked-early axes job old pairs a b x.refusal q.is.number_is)

  pub look-late : (r : Result Stage Refused) → o ≡ Ok r → (v : Reason) → ((o : Outcome) → Read axes 0 job o r mid → JoinedOrRefused r m mid w → v ≡ why_from o a b)
      → (w' : List ℕ) → w' ≡ replicate (length w) 0 → Looked axes job old pairs a b v w'
  look-late r e v f w' z =
      let q : OpenedBy Plain axes 0 job old pairs mid (Ok r) = rw e at p in
      let k : JoinedBy (Ok r) m mid w = rw e at j in
      looked-late axes job old pairs a b (sym q.is.not-early) v
      (f _ q.is.opened.is k ∙ ap (λ (x : Outcome). why_from x a b) (panelled-plain job (records_from axes 0 job job (record_count job) 0 in_axes)))
      w' (z ∙ ap (λ (n : ℕ). replicate n 0) (joined-long m mid w r k ∙ q.is.opened.long))
