-- Two results that a host is told of one call are equal: number, report and all that is left; and so for a forecast. Assumes nothing.
use mathlib.Core.Path.{◌≡◌, sym, ap, ◌∙◌}
use mathlib.Core.List.{List}
use Prim.Native.Nat.{ℕ}
use Rattle.pairs.specs.declared.Pair.{Pair}
use Rattle.finishing.specs.Answers.{Built}
use Rattle.call.specs.Lending.{Lending, Left}
use Rattle.reporting.specs.Answers.{number_of, report_words, filled}
use Rattle.ivs.specs.Answered.{Answered, Forecasted}
use Rattle.packer.proofs.Unique.{unique, foretold-once}

pub told-once : {c : Lending} {m n : ℕ} {a b : Left} {old x y : List ℕ} → Answered c m a old x → Answered c n b old y → (m ≡ n) × (a ≡ b) × (x ≡ y)
told-once {c} {m} {n} {a} {b} {old} {x} {y} p q =
    let u = unique p.obeys q.obeys in
    (p.number_is ∙ ap number_of u.0 ∙ sym q.number_is, u.1, p.report-is ∙ ap (λ (r : Built). filled 0 (report_words c.job r) old) u.0 ∙ sym q.report-is)

pub forecast-once : {c : Lending} {m n : ℕ} {w v : List ℕ} {a b : List Pair} {old x y : List ℕ} → Forecasted c m w a old x → Forecasted c n v b old y
    → (m ≡ n) × (w ≡ v) × (a ≡ b) × (x ≡ y)
forecast-once {c = c} {old = old} p q =
    let u = foretold-once p.foretells q.foretells in
    (p.number_is ∙ ap number_of u.0 ∙ sym q.number_is, u.1, u.2, p.report-is ∙ ap (λ (r : Built). filled 0 (report_words c.job r) old) u.0 ∙ sym q.report-is)
