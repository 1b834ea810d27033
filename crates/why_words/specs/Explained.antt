-- Why two ids are where they are, as an answer: the build's refusals, then R62 and R63, then the reason (RULES Z1 to Z4).
use Rattle.std.specs.Prelude.{List, ℕ, ◌≤◌, eqb, length}
use Rattle.laws.specs.Pick.{pick}
use Rattle.finding.specs.Asked.{no_id, asked_refusal}
use Rattle.reasons.specs.declared.reason.Reason.{Reason}
use Rattle.reasons.specs.declared.reason.Reason.TheVariants as reason
use Rattle.finishing.specs.Answers.{Built}
use Rattle.finishing.specs.Answers as built
use Rattle.why_words.specs.Answers.{Why}
use Rattle.why_words.specs.Answers.{Refused, Same, CutApart, NeverJoined}

unfoldable pub because : Reason → Why
because reason.None = Refused no_id 0
because reason.Same = Same
because reason.CutApart = CutApart
because (reason.NeverJoined a b j) = NeverJoined a b j

-- of a build's answer, its output, and the reason that its final groups give
unfoldable pub explained : Built → Reason → (store out : List ℕ) → (first second : ℕ) → Why
explained (built.Refused n at) r store out a b = Refused n at
explained (built.Done d) r store out a b =
    pick (eqb (asked_refusal d.ids d.bytes a b store out) 0) (because r) (Refused (asked_refusal d.ids d.bytes a b store out) 0)

-- a done build's bytes are in what it was lent
abbrev pub OutFits : Built → (out : List ℕ) → Type 0
OutFits (built.Refused n at) out = Unit
OutFits (built.Done d) out = d.bytes ≤ length out
