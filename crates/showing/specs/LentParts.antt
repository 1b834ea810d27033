-- What is asked of lent memory where a part is looked for. Assumes nothing.
use Rattle.std.specs.Prelude.{List, ◌≡◌, ℕ, ◌+◌, ◌≤◌, length}
use Rattle.finishing.specs.Answers.{Built}
use Rattle.finishing.specs.Answers as built
use Rattle.showing.specs.Answers.{Shown}
use Rattle.showing.specs.Answers.{Refused, InJob, InStore}

-- a done build's bytes and its ids' words are in what it was lent
abbrev pub Fits : Built → (out map : List ℕ) → Type 0
Fits (built.Refused n at) out map = Unit
Fits (built.Done r) out map = (r.bytes ≤ length out) × (r.ids ≤ length map)

-- a part lies in the one that it is of
abbrev pub Within : (job store : List ℕ) → Shown → Type 0
Within job store (Refused n at) = Unit
Within job store (InJob at long) = at + long ≤ length job
Within job store (InStore at long) = at + long ≤ length store

-- an empty part starts at 0
abbrev pub EmptyFirst : Shown → Type 0
EmptyFirst (Refused n at) = Unit
EmptyFirst (InJob at long) = long ≡ 0 → at ≡ 0
EmptyFirst (InStore at long) = long ≡ 0 → at ≡ 0

-- where in memory the part starts, a block and an offset each: in that of the one that it is of, so far behind its start
abbrev pub start_shown : (job store : ℕ × ℕ) → Shown → ℕ × ℕ
start_shown job store (Refused n at) = job
start_shown job store (InJob at long) = (job.0, at + job.1)
start_shown job store (InStore at long) = (store.0, at + store.1)
