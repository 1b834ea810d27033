-- What the panel's profile answers, way by way: R70 to R72 exactly where they are said to be given, every other refusal and every done build as without the
-- profile. Assumes nothing.
use mathlib.Core.Path.{◌≡◌, refl, sym, ap, ap₂, subst, ◌∙◌}
use mathlib.Core.Bool.{true, false}
use mathlib.Core.Logic.{⊎_elim}
use Prim.Native.Nat.{ℕ, ◌≤◌, ◌<◌}
use native.Mathlib.Omega.{arith}
use lib.Dec.{leb}
use lib.ListN.{length}
use borrow.Author.Tests.{leb-true, le-leb}
use Rattle.laws.proofs.Cases.{Which, which, and-true, same_or_not}
use Rattle.laws.proofs.Cases.Which.{holds, fails}
use Rattle.groups.specs.Groups.{max_shapes}
use Rattle.said.specs.Records.{record_at}
use Rattle.said.specs.Refusals.{long_value, bad_region, wide_subtable}
use Rattle.said.specs.Job.{Said, Outcome, refused, fine}
use Rattle.panel.specs.declared.Profile.TheVariants.{Panel}
use Rattle.panel.specs.Panelled.{panelled}
use Rattle.panel.proofs.PanelledLaws.{panelled-early}
use Rattle.narrow.specs.Columns.{is_some_wide, is_too_wide}
use Rattle.finishing.specs.declared.answers.Report.{Report}
use Rattle.finishing.specs.Answers.{Refused, Done}
use Rattle.finishing.specs.Buffers.{lengths}
use Rattle.call.specs.Lending.{Lending, Left}
use Rattle.call.specs.Build.{packed_of, answer_from, left_from, outcome_of, answer_of, after}
use Rattle.call.specs.Profiled.{is_wide, wide_of, answer_with, left_with, answer_by, after_by}
use Rattle.refusing.specs.Exactly.{Exactly}
use Rattle.refusing.specs.OddRecords.{LongValue, BadAxis, EarliestOdd}
use Rattle.demands.proofs.OutcomeRows.{early, walked, early-few, outcome-walked, outcome-by, answer-refused, numbers-most}
use Rattle.demands.proofs.Buffers as plain
use Rattle.refusing.proofs.OddRows as rows
use Rattle.profiled.specs.Panel.{Entered, Wide, PanelBuild}

module _ (c : Lending) where
  abbrev paneled : Outcome
  paneled = panelled Panel c.job (outcome_of c)

  -- ---- numbers of the answers without the profile

  outcome-few : (n i : ℕ) → outcome_of c ≡ refused n i → n < long_value
  outcome-few n i e = let h = numbers-most c n i (answer-refused c n i e) in omega arith

  -- ---- the ways of an answer

  pub data Ways : Type 0 where
    -- the records refuse
    at-record : (n i : ℕ) → panelled Panel c.job (outcome_of c) ≡ refused n i → answer_by Panel c ≡ Refused n i → (after_by Panel c).lent ≡ c.lent → Ways
    -- too wide
    too_wide : (s : Said) → panelled Panel c.job (outcome_of c) ≡ fine s → is_wide Panel (packed_of c.mode s) ≡ true → answer_by Panel c ≡ Refused wide_subtable 0 → (after_by Panel c).lent ≡ c.lent → Ways
    -- as without the profile
    plainly : (s : Said) → panelled Panel c.job (outcome_of c) ≡ fine s → is_wide Panel (packed_of c.mode s) ≡ false → answer_by Panel c ≡ answer_of c → after_by Panel c ≡ after c → Ways

  refused-way : (n i : ℕ) → paneled ≡ refused n i → Ways
  unfolding answer_by answer_with left_with wide_of answer_from left_from
  refused-way n i e = at-record n i e (rw e refl) (rw e refl)

  wide-way : (s : Said) → paneled ≡ fine s → is_wide Panel (packed_of c.mode s) ≡ true → Ways
  unfolding answer_by answer_with left_with wide_of
  wide-way s e w = too_wide s e w (rw (e, w) refl) (rw (e, w) refl)

  plain-way : (s : Said) → paneled ≡ fine s → is_wide Panel (packed_of c.mode s) ≡ false → Ways
  unfolding answer_by answer_with left_with wide_of answer_of
  plain-way s e w =
      let f : outcome_of c ≡ fine s = (rows.taken-alike c.job (outcome_of c) s e).0 in
      plainly s e w
      (rw (e, w) (ap (answer_from c.axes c.mode (lengths c.lent)) (sym f)))
      (λ k. record { work = (after c).work; pairs = (after c).pairs; lent = left f k })
    where
      left : outcome_of c ≡ fine s → left_with Panel c.axes c.mode c.lent paneled ≡ left_from c.axes c.mode c.lent (outcome_of c)
      left f = rw (e, w) (ap (left_from c.axes c.mode c.lent) (sym f))

  pub ways : Ways
  ways = go paneled refl
    where
      go : (o : Outcome) → paneled ≡ o → Ways
      go (refused n i) e = refused-way n i e
      go (fine s) e = by (which (is_wide Panel (packed_of c.mode s)))
        where
          by : Which (is_wide Panel (packed_of c.mode s)) → Ways
          by (holds w) = wide-way s e w
          by (fails w) = plain-way s e w

  -- ---- R70, R71

  odd-entered : (n i : ℕ) → 4 < n → paneled ≡ refused n i → Entered c × (outcome_of c ≡ walked c)
  odd-entered n i big e = ⊎_elim (λ z. (z, outcome-walked c z)) some (outcome-by c)
    where
      some : (0 < early c) × (outcome_of c ≡ refused (early c) 0) → Entered c × (outcome_of c ≡ walked c)
      some f =
          let g : refused (early c) 0 ≡ refused n i = sym (panelled-early Panel c.job (outcome_of c) (early c) 0 f.1 refl) ∙ e in
          let q : early c ≡ n = cc in
          let h = early-few c.axes c.mode c.job (length c.work) (length c.pairs) in
          absurd (omega arith)

  odd-row : (n i : ℕ) (Why : Type 0) → long_value ≤ n → (n ≡ wide_subtable → ⊥)
      → Exactly (panelled Panel c.job (walked c) ≡ refused n i) (EarliestOdd c.axes c.mode c.job i Why)
      → Exactly (answer_by Panel c ≡ Refused n i) (Entered c × EarliestOdd c.axes c.mode c.job i Why)
  odd-row n i Why big other x = record { given = given; only = λ e. go e ways }
    where
      given : Entered c × EarliestOdd c.axes c.mode c.job i Why → answer_by Panel c ≡ Refused n i
      given b = by ways
        where
          at : paneled ≡ refused n i
          at = ap (panelled Panel c.job) (outcome-walked c b.0) ∙ x.given b.1

          by : Ways → answer_by Panel c ≡ Refused n i
          by (at-record m j f a l) = let g : refused m j ≡ refused n i = sym f ∙ at in let p : m ≡ n = cc in let q : j ≡ i = cc in a ∙ ap₂ Refused p q
          by (too_wide s f w a l) = let g : fine s ≡ refused n i = sym f ∙ at in let z : ◌≡◌ {A = ℕ} 0 1 = cc in absurd (omega arith)
          by (plainly s f w a l) = let g : fine s ≡ refused n i = sym f ∙ at in let z : ◌≡◌ {A = ℕ} 0 1 = cc in absurd (omega arith)

      go : answer_by Panel c ≡ Refused n i → Ways → Entered c × EarliestOdd c.axes c.mode c.job i Why
      go e (at-record m j f a l) =
          let g : Refused m j ≡ Refused n i = sym a ∙ e in
          let p : m ≡ n = cc in
          let q : j ≡ i = cc in
          let h : paneled ≡ refused n i = f ∙ ap₂ refused p q in
          let b = odd-entered n i (omega arith) h in
          (b.0, x.only (ap (panelled Panel c.job) (sym b.1) ∙ h))
      go e (too_wide s f w a l) = let g : Refused wide_subtable 0 ≡ Refused n i = sym a ∙ e in let z : wide_subtable ≡ n = cc in absurd (other (sym z))
      go e (plainly s f w a l) = let h = numbers-most c n i (sym a ∙ e) in absurd (omega arith)

  pub long-value : (i : ℕ) → Exactly (answer_by Panel c ≡ Refused long_value i) (Entered c × EarliestOdd c.axes c.mode c.job i (LongValue (record_at c.job i)))
  long-value i = odd-row long_value i (LongValue (record_at c.job i)) (omega arith) (λ e. omega arith) (rows.long-value c.axes c.mode c.job i)

  pub bad-region : (i : ℕ) → Exactly (answer_by Panel c ≡ Refused bad_region i) (Entered c × EarliestOdd c.axes c.mode c.job i (BadAxis (record_at c.job i)))
  bad-region i = odd-row bad_region i (BadAxis (record_at c.job i)) (omega arith) (λ e. omega arith) (rows.bad-region c.axes c.mode c.job i)

  -- ---- R72

  wide-parts : (s : Said) → is_wide Panel (packed_of c.mode s) ≡ true → (is_some_wide (packed_of c.mode s).finals ≡ true) × ((packed_of c.mode s).groups ≤ max_shapes)
  unfolding is_wide is_too_wide
  wide-parts s w =
      let a = and-true (is_some_wide (packed_of c.mode s).finals) (leb (packed_of c.mode s).groups max_shapes) w in
      (a.0, leb-true (packed_of c.mode s).groups max_shapes a.1)

  parts-wide : (s : Said) → is_some_wide (packed_of c.mode s).finals ≡ true → (packed_of c.mode s).groups ≤ max_shapes → is_wide Panel (packed_of c.mode s) ≡ true
  unfolding is_wide is_too_wide
  parts-wide s w h = rw (w, le-leb (packed_of c.mode s).groups max_shapes h)

  pub wide-subtable : (p : ℕ) → Exactly (answer_by Panel c ≡ Refused wide_subtable p) ((p ≡ 0) × Wide c)
  wide-subtable p = record { given = given; only = λ e. go e ways }
    where
      given : (p ≡ 0) × Wide c → answer_by Panel c ≡ Refused wide_subtable p
      given b = by ways
        where
          w : Wide c
          w = b.1

          at : paneled ≡ fine w.said
          at = rows.taken-given c.job (outcome_of c) w.said w.sound w.all-taken

          by : Ways → answer_by Panel c ≡ Refused wide_subtable p
          by (at-record m j f a l) = let g : refused m j ≡ fine w.said = sym f ∙ at in let z : ◌≡◌ {A = ℕ} 0 1 = cc in absurd (omega arith)
          by (too_wide s f v a l) = a ∙ ap (Refused wide_subtable) (sym b.0)
          by (plainly s f v a l) =
              let g : fine s ≡ fine w.said = sym f ∙ at in
              let q : s ≡ w.said = cc in
              let t : is_wide Panel (packed_of c.mode s) ≡ true = subst (λ (x : Said). is_wide Panel (packed_of c.mode x) ≡ true) (sym q) (parts-wide w.said w.wide w.shapes-few) in
              let z : ◌≡◌ {A = ℕ} 0 1 = cc in
              absurd (omega arith)

      go : answer_by Panel c ≡ Refused wide_subtable p → Ways → (p ≡ 0) × Wide c
      go e (at-record m j f a l) =
          let g : Refused m j ≡ Refused wide_subtable p = sym a ∙ e in
          let q : m ≡ wide_subtable = cc in
          let h = outcome-few m j (rows.refused-alike c.job (outcome_of c) m j (λ y. omega arith) (λ y. omega arith) f) in
          absurd (omega arith)
      go e (too_wide s f v a l) =
          let g : Refused wide_subtable 0 ≡ Refused wide_subtable p = sym a ∙ e in
          let q : p ≡ 0 = cc in
          let t = rows.taken-alike c.job (outcome_of c) s f in
          let u = wide-parts s v in
          (q, record { said = s; sound = t.0; all-taken = t.1; shapes-few = u.1; wide = u.0 })
      go e (plainly s f v a l) = let h = numbers-most c wide_subtable p (sym a ∙ e) in absurd (omega arith)

  -- ---- all else is as without it

  pub refused-alike : (n p : ℕ) → (n ≡ long_value → ⊥) → (n ≡ bad_region → ⊥) → (n ≡ wide_subtable → ⊥) → answer_by Panel c ≡ Refused n p → answer_of c ≡ Refused n p
  refused-alike n p d d' d'' e = go ways
    where
      go : Ways → answer_of c ≡ Refused n p
      go (at-record m j f a l) =
          let g : Refused m j ≡ Refused n p = sym a ∙ e in
          let q : m ≡ n = cc in
          let t : j ≡ p = cc in
          answer-refused c n p (rows.refused-alike c.job (outcome_of c) n p d d' (f ∙ ap₂ refused q t))
      go (too_wide s f v a l) = let g : Refused wide_subtable 0 ≡ Refused n p = sym a ∙ e in let q : wide_subtable ≡ n = cc in absurd (d'' (sym q))
      go (plainly s f v a l) = sym a ∙ e

  pub built_alike : (r : Report) → answer_by Panel c ≡ Done r → (answer_of c ≡ Done r) × (after_by Panel c ≡ after c)
  built_alike r e = go ways
    where
      go : Ways → (answer_of c ≡ Done r) × (after_by Panel c ≡ after c)
      go (at-record m j f a l) = let g : Refused m j ≡ Done r = sym a ∙ e in let z : ◌≡◌ {A = ℕ} 0 1 = cc in absurd (omega arith)
      go (too_wide s f v a l) = let g : Refused wide_subtable 0 ≡ Done r = sym a ∙ e in let z : ◌≡◌ {A = ℕ} 0 1 = cc in absurd (omega arith)
      go (plainly s f v a l) = (sym a ∙ e, l)

  pub untouched : (n p : ℕ) → answer_by Panel c ≡ Refused n p → (after_by Panel c).lent ≡ c.lent
  untouched n p e = go ways
    where
      go : Ways → (after_by Panel c).lent ≡ c.lent
      go (at-record m j f a l) = l
      go (too_wide s f v a l) = l
      go (plainly s f v a l) = ap (λ (x : Left). x.lent) l ∙ plain.untouched c n p (sym a ∙ e)

  -- there are no larger numbers
  pub panel-few : (n p : ℕ) → answer_by Panel c ≡ Refused n p → n ≤ wide_subtable
  panel-few n p e = ⊎_elim (λ (z : n ≡ long_value). omega arith) (λ d. ⊎_elim (λ (z : n ≡ bad_region). omega arith) (λ d'. ⊎_elim (λ (z : n ≡ wide_subtable). omega arith) (other d d') (same_or_not n wide_subtable)) (same_or_not n bad_region)) (same_or_not n long_value)
    where
      other : (n ≡ long_value → ⊥) → (n ≡ bad_region → ⊥) → (n ≡ wide_subtable → ⊥) → n ≤ wide_subtable
      other d d' d'' = let h = numbers-most c n p (refused-alike n p d d' d'' e) in omega arith

  -- THE THEOREM
  pub panel-build : PanelBuild c
  panel-build = record {
    long-value = long-value;
    bad-region = bad-region;
    wide-subtable = wide-subtable;
    refused-alike = refused-alike;
    built_alike = built_alike;
    untouched = untouched;
  }
