-- What a host is told of a build by the panel's profile: one answer, and where it is done, or refused by a number that is not the profile's, the same as of
-- a build without it: number, report and all that is left. Assumes nothing.
use mathlib.Core.Path.{◌≡◌, refl, sym, ap, ◌∙◌}
use mathlib.Core.List.{List}
use Prim.Native.Nat.{ℕ}
use native.Mathlib.Omega.{arith}
use Rattle.said.specs.Refusals.{long_value, bad_region, wide_subtable}
use Rattle.panel.specs.declared.Profile.TheVariants.{Panel}
use Rattle.finishing.specs.Answers.{Built}
use Rattle.finishing.specs.Answers.{Refused, Done}
use Rattle.call.specs.Lending.{Lending, Left}
use Rattle.call.specs.Build.{answer_of, after}
use Rattle.call.specs.Profiled.{answer_by, after_by}
use Rattle.packer.proofs.Unique.{unique-by}
use Rattle.demands.proofs.Buffers as plain
use Rattle.profiled.proofs.Rows.{refused-alike, built_alike, untouched}
use Rattle.reporting.specs.Answers.{number_of, report_words, filled}
use Rattle.ivs.specs.Answered.{Answered, PanelAnswered}

pub panel-once : {c : Lending} {m n : ℕ} {a b : Left} {old x y : List ℕ} → PanelAnswered c m a old x → PanelAnswered c n b old y → (m ≡ n) × (a ≡ b) × (x ≡ y)
panel-once {c} {m} {n} {a} {b} {old} {x} {y} p q =
    let u = unique-by p.obeys q.obeys in
    (p.number_is ∙ ap number_of u.0 ∙ sym q.number_is, u.1, p.report-is ∙ ap (λ (r : Built). filled 0 (report_words c.job r) old) u.0 ∙ sym q.report-is)

-- one answer, and the same left, is told alike
module _ {c : Lending} {m n : ℕ} {a b : Left} {old x y : List ℕ} (p : PanelAnswered c m a old x) (q : Answered c n b old y) where
  alike : answer_by Panel c ≡ answer_of c → after_by Panel c ≡ after c → (m ≡ n) × (a ≡ b) × (x ≡ y)
  alike e l =
      let s : p.answer ≡ q.answer = p.obeys.answer ∙ e ∙ sym q.obeys.answer in
      (p.number_is ∙ ap number_of s ∙ sym q.number_is, p.obeys.left ∙ l ∙ sym q.obeys.left, p.report-is ∙ ap (λ (r : Built). filled 0 (report_words c.job r) old) s ∙ sym q.report-is)

  number : (d : Built) → answer_by Panel c ≡ d → m ≡ number_of d
  number d e = p.number_is ∙ ap number_of (p.obeys.answer ∙ e)

  refused-same : (k i : ℕ) → (k ≡ long_value → ⊥) → (k ≡ bad_region → ⊥) → (k ≡ wide_subtable → ⊥) → answer_by Panel c ≡ Refused k i → (m ≡ n) × (a ≡ b) × (x ≡ y)
  refused-same k i d d' d'' e =
      let f = refused-alike c k i d d' d'' e in
      let l = untouched c k i e ∙ sym (plain.untouched c k i f) in
      alike (e ∙ sym f) (λ j. record { work = (after c).work; pairs = (after c).pairs; lent = l j })

  -- done: as without the profile
  pub done-alike : m ≡ 0 → (m ≡ n) × (a ≡ b) × (x ≡ y)
  done-alike z = go (answer_by Panel c) refl
    where
      go : (d : Built) → answer_by Panel c ≡ d → (m ≡ n) × (a ≡ b) × (x ≡ y)
      go (Done r) e = let f = built_alike c r e in alike (e ∙ sym f.0) f.1
      go (Refused k i) e =
          let g : m ≡ k = unfold number_of in number (Refused k i) e in
          refused-same k i (λ y. omega arith) (λ y. omega arith) (λ y. omega arith) e

  -- refused by another number: as without the profile
  pub refused-told : (m ≡ long_value → ⊥) → (m ≡ bad_region → ⊥) → (m ≡ wide_subtable → ⊥) → (m ≡ n) × (a ≡ b) × (x ≡ y)
  refused-told d d' d'' = go (answer_by Panel c) refl
    where
      go : (k : Built) → answer_by Panel c ≡ k → (m ≡ n) × (a ≡ b) × (x ≡ y)
      go (Done r) e = let f = built_alike c r e in alike (e ∙ sym f.0) f.1
      go (Refused k i) e =
          let g : m ≡ k = unfold number_of in number (Refused k i) e in
          refused-same k i (λ y. d (g ∙ y)) (λ y. d' (g ∙ y)) (λ y. d'' (g ∙ y)) e
