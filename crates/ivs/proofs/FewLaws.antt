-- The numbers of an answer are small, and the byte that it names is one of the job's: of a build and of a forecast. Assumes nothing.
use mathlib.Core.Path.{◌≡◌, refl, sym, ap, ◌∙◌}
use mathlib.Core.Logic.{⊎_elim}
use Prim.Native.Nat.{ℕ}
use native.Mathlib.Omega.{arith}
use Rattle.finishing.specs.Answers.{Built}
use Rattle.finishing.specs.Answers.{Refused, Done}
use Rattle.finishing.specs.Answers as built
use Rattle.laws.proofs.Cases.{same_or_not}
use Rattle.said.specs.Refusals.{store_too_big}
use Rattle.call.specs.Lending.{Lending}
use Rattle.call.specs.Build.{answer_of}
use Rattle.call.specs.Profiled.{answer_by}
use Rattle.panel.specs.declared.Profile.TheVariants.{Panel}
use Rattle.profiled.proofs.Rows.{panel-few, refused-alike}
use Rattle.reporting.specs.Answers.{number_few, byte_within}
use Rattle.demands.proofs.OutcomeRows.{numbers-most}
use Rattle.demands.proofs.RecordRows.{zero-within}
use Rattle.call.specs.Foretold.{foretold}
use Rattle.demands.specs.Foretold.{AsMuch}
use Rattle.demands.proofs.ForetoldLaws.{foretold-law}

-- ---- a build

pub answer-few : (c : Lending) (b : Built) → b ≡ answer_of c → number_few b
answer-few c (built.Refused n at) e = let h = numbers-most c n at (sym e) in omega arith
answer-few c (built.Done d) e = tt

pub answer-within : (c : Lending) (b : Built) → b ≡ answer_of c → byte_within c.job b
answer-within c (built.Refused n at) e = λ z. let h = zero-within c at (sym e ∙ ap (λ (k : ℕ). Refused k at) z) in omega arith
answer-within c (built.Done d) e = tt

-- ---- a build by the panel's profile

pub panel-answer-few : (c : Lending) (b : Built) → b ≡ answer_by Panel c → number_few b
panel-answer-few c (built.Refused n at) e = panel-few c n at (sym e)
panel-answer-few c (built.Done d) e = tt

pub panel-answer-within : (c : Lending) (b : Built) → b ≡ answer_by Panel c → byte_within c.job b
panel-answer-within c (built.Refused n at) e =
    λ z. answer-within c (Refused n at) (sym (refused-alike c n at (λ y. omega arith) (λ y. omega arith) (λ y. omega arith) (sym e))) z
panel-answer-within c (built.Done d) e = tt

-- ---- a forecast, whose numbers are a build's

pub foretold-few : (c : Lending) (b : Built) → b ≡ foretold c → number_few b
foretold-few c (built.Refused n at) e =
    let same : AsMuch c c.work c.pairs = record { work-long = refl; pairs-long = refl } in
    ⊎_elim (λ (s : n ≡ store_too_big). omega arith) (λ s. answer-few c (Refused n at) (sym ((foretold-law c).refuses n at s (sym e) c.work c.pairs c.lent same)))
    (same_or_not n store_too_big)
foretold-few c (built.Done d) e = tt

pub foretold-within : (c : Lending) (b : Built) → b ≡ foretold c → byte_within c.job b
foretold-within c (built.Refused n at) e =
    let same : AsMuch c c.work c.pairs = record { work-long = refl; pairs-long = refl } in
    λ z. answer-within c (Refused n at) (sym ((foretold-law c).refuses n at (λ s. omega arith) (sym e) c.work c.pairs c.lent same)) z
foretold-within c (built.Done d) e = tt
