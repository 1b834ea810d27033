-- Two results that obey the promise of a build call are equal: its answer and all that it leaves are fixed; and so for a forecast. Assumes nothing.
use mathlib.Core.Path.{◌≡◌, sym, ◌∙◌}
use mathlib.Core.List.{List}
use Prim.Native.Nat.{ℕ}
use Rattle.pairs.specs.declared.Pair.{Pair}
use Rattle.finishing.specs.Answers.{Built}
use Rattle.call.specs.Lending.{Lending, Left}
use Rattle.panel.specs.declared.Profile.{Profile}
use Rattle.packer.specs.Promised.{Obeys, ObeysBy, Foretells}

pub unique : {c : Lending} {r s : Built} {a b : Left} → Obeys c r a → Obeys c s b → (r ≡ s) × (a ≡ b)
unique p q = (p.answer ∙ sym q.answer, p.left ∙ sym q.left)

pub unique-by : {h : Profile} {c : Lending} {r s : Built} {a b : Left} → ObeysBy h c r a → ObeysBy h c s b → (r ≡ s) × (a ≡ b)
unique-by p q = (p.answer ∙ sym q.answer, p.left ∙ sym q.left)

pub foretold-once : {c : Lending} {r s : Built} {w v : List ℕ} {a b : List Pair} → Foretells c r w a → Foretells c s v b → (r ≡ s) × (w ≡ v) × (a ≡ b)
foretold-once p q = (p.answer ∙ sym q.answer, p.work-is ∙ sym q.work-is, p.pairs_is ∙ sym q.pairs_is)
