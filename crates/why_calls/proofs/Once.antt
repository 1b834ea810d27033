-- Two results that a host is told of one question are equal: number, report and all that is left (RULES D4). Assumes nothing.
use mathlib.Core.Path.{◌≡◌, sym, ap₂, ◌∙◌}
use mathlib.Core.List.{List}
use Prim.Native.Nat.{ℕ}
use Rattle.finishing.specs.Answers.{Built}
use Rattle.call.specs.Lending.{Lending, Left}
use Rattle.packer.proofs.Unique.{unique}
use Rattle.showing.specs.Parts.{found_of}
use Rattle.reporting.specs.Answers.{filled}
use Rattle.why_words.specs.WhyWords.{why_number, why_report}
use Rattle.why_words.specs.ShownWords.{shown_number, shown_words}
use Rattle.ivs.specs.Asked.{why_asked, WhyAnswered, ShowAnswered}

module _ {c : Lending} {store : List ℕ} {x y m n : ℕ} {a b : Left} {old p q : List ℕ} where
  -- why two ids are where they are
  pub why-once : (u : WhyAnswered c store x y m a old p) (v : WhyAnswered c store x y n b old q) → (u.answer ≡ v.answer) × (m ≡ n) × (a ≡ b) × (p ≡ q)
  why-once u v =
      let e = unique u.obeys v.obeys in (
        e.0,
        u.number_is ∙ ap₂ (λ (r : Built) (l : Left). why_number (why_asked c r store x y l)) e.0 e.1 ∙ sym v.number_is,
        e.1,
        u.report-is ∙ ap₂ (λ (r : Built) (l : Left). filled 0 (why_report c.job (why_asked c r store x y l)) old) e.0 e.1 ∙ sym v.report-is,
      )

  -- the part that shows one: `x` is the id, `y` says of which
  pub show-once : (u : ShowAnswered c store x y m a old p) (v : ShowAnswered c store x y n b old q) → (u.answer ≡ v.answer) × (m ≡ n) × (a ≡ b) × (p ≡ q)
  show-once u v =
      let e = unique u.obeys v.obeys in (
        e.0,
        u.number_is
            ∙ ap₂ (λ (r : Built) (l : Left). shown_number (found_of r c.job store l.lent.out l.lent.ids l.lent.map x y)) e.0 e.1
            ∙ sym v.number_is,
        e.1,
        u.report-is
            ∙ ap₂ (λ (r : Built) (l : Left). filled 0 (shown_words c.job (found_of r c.job store l.lent.out l.lent.ids l.lent.map x y)) old) e.0 e.1
            ∙ sym v.report-is,
      )
