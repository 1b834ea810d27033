-- The last part of a build: from where it stands after merging to its answer and everything lent. Assumes nothing.
use mathlib.Core.Path.{◌≡◌, refl, sym, ap, ap₂, subst, ◌∙◌}
use mathlib.Core.Bool.{true, false}
use mathlib.Core.List.{List, []}
use Prim.Native.Nat.{ℕ, ◌≤◌, ◌<◌}
use native.Mathlib.Omega.{arith}
use lib.ListN.{length, replicate}
use Rattle.merging.specs.declared.optimizing.Merged.{Merged}
use Rattle.said.specs.Job.{Said, Outcome, refused, fine, in_axes, records_from, outcome}
use Rattle.said.specs.Records.{record_count}
use Rattle.said.specs.Refusals.{shapes_full, wide_subtable, early_refusal}
use Rattle.panel.specs.declared.Profile.{Profile}
use Rattle.panel.specs.declared.Profile.TheVariants.{Plain}
use Rattle.panel.specs.Panelled.{panelled}
use Rattle.panel.proofs.PanelledLaws.{panelled-plain, panelled-early}
use Rattle.narrow.specs.Columns.{is_too_wide}
use Rattle.job.proofs.CheckLaws.{refused-early, left-early, left-zeros, outcome-walk}
use Rattle.groups.specs.Groups.{groups_of, max_shapes}
use borrow.Author.Tests.{eq-eqb}
use Rattle.encoder.specs.Packed.{Packed, shared, own}
use Rattle.encoder.specs.Lent.{PackedAt}
use Rattle.store.specs.Lent as store
use Rattle.finishing.specs.Answers.{Built}
use Rattle.finishing.specs.Answers.{Refused}
use Rattle.finishing.specs.declared.answers.Report.{Report}
use Rattle.finishing.specs.declared.measuring.Packing.{Packing}
use Rattle.finishing.specs.Late.{report_of, size_told}
use Rattle.opening.specs.declared.opening.Stage.{Stage}
use Rattle.call.specs.Foretold.{foretold_from}
use Rattle.call.specs.Build.{coords_in_use, packed_of, answer_from, left_from}
use Rattle.call.specs.Profiled.{is_wide, wide_of, answer_with, left_with}
use Rattle.closing.proofs.WideLaws.{full-narrow, none-narrow, packed-wide}
use Rattle.finishing.specs.Buffers.{Buffers}
use Rattle.finishing.specs.Lent.{FinishFit, Finished}
use Rattle.closing.specs.LentClosed.{RecordsBuilt, ForetellFit, CloseFit, ForeseeFit, Closed, Foreseen}
use Rattle.std.specs.Prelude.{Result, Ok, Err, IfOk}
use Rattle.refusals.specs.declared.Refusal.{Refusal}
use Rattle.refusals.specs.declared.Refused as refusals
use Rattle.refusals.specs.Refusals.{number}
use Rattle.opening.specs.LentOpened.{Read, RefusedAtOnce, OpenedAfter, OpenedBy}
use Rattle.arranging.specs.LentArranged.{Joined, JoinedOrRefused, JoinedBy, ArrangedAs, PackFit}
use Rattle.limits.specs.Limits.{most_axes}
use Rattle.call.proofs.AnswerLaws.{pack-full, told-refused, told-sized, told-full}
use Rattle.arranging.proofs.StageLaws.{SaidBy, said-by, none-packed}

-- ---- answers

pub records-refused : (h : Profile) (axes mode : ℕ) (o : Outcome) (n at : ℕ) (old : Buffers) → o ≡ refused n at → RecordsBuilt h axes mode o (Refused n at) old old
unfolding answer_with left_with wide_of answer_from left_from
records-refused h axes mode o n at old e = rw e (record { answer = refl; left = refl })

pub records-built : (h : Profile) (axes mode : ℕ) (o : Outcome) (s : Said) (r : Built) (old new : Buffers) → o ≡ fine s → is_wide h (packed_of mode s) ≡ false
    → Finished axes (coords_in_use s) (packed_of mode s) r old new → RecordsBuilt h axes mode o r old new
unfolding answer_with left_with wide_of answer_from left_from
records-built h axes mode o s r old new e n f = rw e (record { answer = rw n f.answer; left = rw n f.left })

pub records-wide : (h : Profile) (axes mode : ℕ) (o : Outcome) (s : Said) (old : Buffers) → o ≡ fine s → is_wide h (packed_of mode s) ≡ true
    → RecordsBuilt h axes mode o (Refused wide_subtable 0) old old
unfolding answer_with left_with wide_of
records-wide h axes mode o s old e w = rw e (record { answer = rw w refl; left = rw w refl })

-- ---- where the records are refused, or there are too many shapes

pub foretell-refused : (axes mode : ℕ) (job : List ℕ) (o : Outcome) (r : refusals.Refused) (w : List ℕ) → Read axes mode job o (Err r) w → Refused (number r.refusal) r.place ≡ foretold_from axes mode o
foretell-refused axes mode job (refused n i) r w e = told-refused axes mode (refused n i) (number r.refusal) r.place (ap₂ refused (sym e.0) (sym e.1))
foretell-refused axes mode job (fine x) r w e = ap₂ Refused e.number_is e.place-is ∙ told-full axes mode x e.shared e.many

many-groups : (mode : ℕ) (x : Said) → mode ≡ 0 → max_shapes < length (groups_of (length x.used) x.sets) → max_shapes < (packed_of mode x).groups
unfolding packed_of shared
many-groups mode x z many = rw (eq-eqb mode 0 z) many

pub settle-refused : (h : Profile) (axes mode : ℕ) (job : List ℕ) (o : Outcome) (r : refusals.Refused) (w : List ℕ) → Read axes mode job o (Err r) w → (old : Buffers)
    → RecordsBuilt h axes mode o (Refused (number r.refusal) r.place) old old
settle-refused h axes mode job (refused n i) r w e old = records-refused h axes mode (refused n i) (number r.refusal) r.place old (ap₂ refused (sym e.0) (sym e.1))
settle-refused h axes mode job (fine x) r w e old =
    subst (λ (b : Built). RecordsBuilt h axes mode (fine x) b old old) (ap₂ Refused (sym e.number_is) (sym e.place-is))
    (records-built h axes mode (fine x) x (Refused shapes_full 0) old old refl (full-narrow h (packed_of mode x) (many-groups mode x e.shared e.many)) (pack-full axes mode x e.shared e.many old))

-- ---- mode 1 without sets

module _ (axes mode : ℕ) (job : List ℕ) (s : Stage) {w : List ℕ} {m : Merged} (o : Outcome) (mid : List ℕ) (r : Read axes mode job o (Ok s) mid) (j : Joined s m mid w) where
  abbrev by : SaidBy axes mode job o s mid
  by = said-by axes mode job o s mid r

  module _ (v : s.mode ≡ 0 → ⊥) (n : s.places.sets ≡ 0) where
    empty : (packed_of mode (said-by axes mode job o s mid r).said ≡ own 0 []) × (coords_in_use (said-by axes mode job o s mid r).said ≡ [])
    empty = none-packed axes mode job s o mid r j v n

    pub none-built : (h : Profile) (b : Built) (old new : Buffers) → Finished s.axes [] (own 0 []) b old new → RecordsBuilt h axes mode o b old new
    none-built h b old new f =
        records-built h axes mode o by.said b old new by.is (subst (λ (x : Packed). is_wide h x ≡ false) (sym empty.0) (none-narrow h))
        (subst (λ (x : Packed). Finished axes (coords_in_use by.said) x b old new) (sym empty.0)
        (subst (λ (x : List (List ℕ)). Finished axes x (own 0 []) b old new) (sym empty.1)
        (subst (λ (x : ℕ). Finished x [] (own 0 []) b old new) (by.grouped.axes-is) f)))

    pub none_told : (d : Report) → d ≡ report_of s.axes [] (own 0 []) → {b : Built} → b ≡ size_told d → b ≡ foretold_from axes mode o
    unfolding own
    none_told d f t =
        let k = packed_of mode by.said in
        let few : k.groups ≤ max_shapes = subst (λ (x : Packed). x.groups ≤ max_shapes) (sym empty.0) (omega arith) in
        t
        ∙ ap size_told (f ∙ ap (λ (a : ℕ). report_of a [] (own 0 [])) (by.grouped.axes-is) ∙ ap₂ (report_of axes) (sym empty.1) (sym empty.0))
        ∙ told-sized axes mode o by.said by.is few

-- ---- from what is arranged

module _ {axes mode : ℕ} {job : List ℕ} {o : Outcome} {k : Packing} {w : List ℕ} (a : ArrangedAs axes mode job o k w) where
  pub arranged-built : (h : Profile) → false ≡ is_too_wide h (store.finals_at k.places.regions k.places.finals k.encoded.count w) → (b : Built) (old new : Buffers)
      → ((x : Packed) → PackedAt x k.places k.encoded w → Finished k.axes (store.coords_in job k.axes w k.starts k.places.regions) x b old new)
      → RecordsBuilt h axes mode o b old new
  arranged-built h n b old new f =
      let x = packed_of mode a.said in
      records-built h axes mode o a.said b old new a.said-is (packed-wide h a.packed false n)
      (subst (λ (n : ℕ). Finished n (coords_in_use a.said) x b old new) a.axes-is
      (subst (λ (l : List (List ℕ)). Finished k.axes l x b old new) a.coords-are (f x a.packed)))

  pub arranged-wide : (h : Profile) → true ≡ is_too_wide h (store.finals_at k.places.regions k.places.finals k.encoded.count w) → (old : Buffers)
      → RecordsBuilt h axes mode o (Refused wide_subtable 0) old old
  arranged-wide h n old = records-wide h axes mode o a.said old a.said-is (packed-wide h a.packed true n)

  pub arranged-few : k.axes ≤ most_axes
  arranged-few = a.fit.axes-few

  pub arranged-told : (d : Report)
      → ((job : List ℕ) (x : Packed) → FinishFit k.axes k.starts job k.places k.encoded w → PackedAt x k.places k.encoded w
      → d ≡ report_of k.axes (store.coords_in job k.axes w k.starts k.places.regions) x)
      → {b : Built} → b ≡ size_told d → b ≡ foretold_from axes mode o
  arranged-told d f t =
      let x = packed_of mode a.said in
      t
      ∙ ap size_told (f job x a.fit a.packed ∙ ap₂ (λ (n : ℕ) (l : List (List ℕ)). report_of n l x) a.axes-is a.coords-are)
      ∙ told-sized axes mode o a.said a.said-is (omega (arith, a.packed.groups-is, a.packed.groups-few))

-- ---- refused before the first record, or after it

module _ (axes mode : ℕ) (job work : List ℕ) (pairs : ℕ) where
  module _ (x : Refusal) (e : number x ≡ early_refusal axes mode job (length work) pairs) where
    pub closed-early : (h : Profile) (lent : Buffers) → Closed h axes mode job work pairs (Refused (number x) 0) lent lent work
    closed-early h lent = record {
      built = records-refused h axes mode (panelled h job (outcome axes mode job (length work) pairs)) (number x) 0 lent
          (panelled-early h job (outcome axes mode job (length work) pairs) (number x) 0 (refused-early axes mode job work pairs x e) refl);
      work-is = left-early axes mode job work pairs x e;
    }

    pub foreseen-early : Foreseen axes mode job work pairs (Refused (number x) 0) work
    foreseen-early = record {
      answer = told-refused axes mode (outcome axes mode job (length work) pairs) (number x) 0 (refused-early axes mode job work pairs x e);
      work-is = left-early axes mode job work pairs x e;
    }

  module _ (e : 0 ≡ early_refusal axes mode job (length work) pairs) (work' : List ℕ) (z : work' ≡ replicate (length work) 0) where
    pub closed-late : (h : Profile) (r : Built) (old new : Buffers)
        → RecordsBuilt h axes mode (panelled h job (records_from axes mode job job (record_count job) 0 in_axes)) r old new → Closed h axes mode job work pairs r old new work'
    closed-late h r old new b = record {
      built = subst (λ (o : Outcome). RecordsBuilt h axes mode (panelled h job o) r old new) (sym (outcome-walk axes mode job work pairs e)) b;
      work-is = left-zeros axes mode job work pairs e work' z;
    }

    pub foreseen-late : (r : Built) → r ≡ foretold_from axes mode (records_from axes mode job job (record_count job) 0 in_axes) → Foreseen axes mode job work pairs r work'
    foreseen-late r a = record {
      answer = a ∙ ap (foretold_from axes mode) (sym (outcome-walk axes mode job work pairs e));
      work-is = left-zeros axes mode job work pairs e work' z;
    }

-- ---- the whole, of every job: what was opened is closed

joined-long : (m : Merged) (mid w : List ℕ) (r : Result Stage refusals.Refused) → JoinedOrRefused r m mid w → length w ≡ length mid
joined-long m mid w (Ok s) j = j.only.long
joined-long m mid w (Err x) j = ap length j

-- what the last part asks of a stage that was read
pub close-settle : {job w : List ℕ} {m : Merged} (o : Result (Result Stage refusals.Refused) refusals.Refused) (r : Result Stage refusals.Refused) → o ≡ Ok r → CloseFit job o m w
    → IfOk r (λ s. PackFit job s m w)
close-settle {job} {w} {m} o (Ok s) e f =
    let p : OpenedBy f.profile f.axes f.mode job f.old f.pairs f.mid (Ok (Ok s)) = rw e at f.opened in
    let j : JoinedBy (Ok (Ok s)) m f.mid w = rw e at f.joined in
    record { axes = f.axes; mode = f.mode; outcome = panelled f.profile job (records_from f.axes f.mode job job (record_count job) 0 in_axes); mid = f.mid; read = p.is.opened.is; joined = j }
close-settle o (Err x) e f = tt

pub foresee-settle : {w : List ℕ} {m : Merged} (o : Result (Result Stage refusals.Refused) refusals.Refused) (r : Result Stage refusals.Refused) → o ≡ Ok r → ForeseeFit o m w
    → IfOk r (λ s. ForetellFit s m w)
foresee-settle o (Ok s) e f = record { job = f.job; fits = close-settle o (Ok s) e f.fits }
foresee-settle o (Err x) e f = tt

module _ {h : Profile} {axes mode : ℕ} {job : List ℕ} {o : Result (Result Stage refusals.Refused) refusals.Refused} (w : List ℕ) (m : Merged) (old : List ℕ) (pairs : ℕ) (mid : List ℕ)
    (p : OpenedBy h axes mode job old pairs mid o) (j : JoinedBy o m mid w) where
  module _ (x : refusals.Refused) (e : o ≡ Err x) where
    at_once : RefusedAtOnce axes mode job old pairs mid x
    at_once = (subst (λ (y : Result (Result Stage refusals.Refused) refusals.Refused). OpenedBy h axes mode job old pairs mid y) e p).is

    kept : w ≡ old
    kept = subst (λ (y : Result (Result Stage refusals.Refused) refusals.Refused). JoinedBy y m mid w) e j ∙ at_once.kept

    pub close-early : (lent : Buffers) → Closed h axes mode job old pairs (Refused (number x.refusal) x.place) lent lent w
    close-early lent = rw (kept, at_once.place-is) (closed-early axes mode job old pairs x.refusal at_once.number_is h lent)

    pub foresee-early : Foreseen axes mode job old pairs (Refused (number x.refusal) x.place) w
    foresee-early = rw (kept, at_once.place-is) (foreseen-early axes mode job old pairs x.refusal at_once.number_is)

  module _ (r : Result Stage refusals.Refused) (e : o ≡ Ok r) where
    after : OpenedAfter h axes mode job old pairs mid r
    after = (subst (λ (y : Result (Result Stage refusals.Refused) refusals.Refused). OpenedBy h axes mode job old pairs mid y) e p).is

    joined : JoinedOrRefused r m mid w
    joined = subst (λ (y : Result (Result Stage refusals.Refused) refusals.Refused). JoinedBy y m mid w) e j

    cleared : (w' : List ℕ) → w' ≡ replicate (length w) 0 → w' ≡ replicate (length old) 0
    cleared w' z = z ∙ ap (λ (n : ℕ). replicate n 0) (joined-long m mid w r joined ∙ after.opened.long)

    pub close-late : (b : Built) (was new : Buffers) → ((o : Outcome) → Read axes mode job o r mid → JoinedOrRefused r m mid w → RecordsBuilt h axes mode o b was new)
        → (w' : List ℕ) → w' ≡ replicate (length w) 0 → Closed h axes mode job old pairs b was new w'
    close-late b was new f w' z = closed-late axes mode job old pairs (sym after.not-early) w' (cleared w' z) h b was new (f _ after.opened.is joined)

module _ {axes mode : ℕ} {job : List ℕ} {o : Result (Result Stage refusals.Refused) refusals.Refused} (w : List ℕ) (m : Merged) (old : List ℕ) (pairs : ℕ) (mid : List ℕ)
    (p : OpenedBy Plain axes mode job old pairs mid o) (j : JoinedBy o m mid w) (r : Result Stage refusals.Refused) (e : o ≡ Ok r) where
  pub foresee-late : (b : Built) → ((o : Outcome) → Read axes mode job o r mid → JoinedOrRefused r m mid w → b ≡ foretold_from axes mode o)
      → (w' : List ℕ) → w' ≡ replicate (length w) 0 → Foreseen axes mode job old pairs b w'
  foresee-late b f w' z =
      let q = after w m old pairs mid p j r e in
      foreseen-late axes mode job old pairs (sym q.not-early) w' (cleared w m old pairs mid p j r e w' z) b
      (f _ q.opened.is (joined w m old pairs mid p j r e) ∙ ap (foretold_from axes mode) (panelled-plain job (records_from axes mode job job (record_count job) 0 in_axes)))
