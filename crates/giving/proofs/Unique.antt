-- The set that is told is one. Assumes nothing.
use mathlib.Core.Path.{◌≡◌}
use mathlib.Core.List.{List}
use Prim.Native.Nat.{ℕ}
use native.Mathlib.Omega.{arith}
use Rattle.laws.proofs.Cases.{Tri, tri}
use Rattle.laws.proofs.Cases.Tri.{below, same, above}
use Rattle.giving.specs.declared.entries.Aims.{Aims}
use Rattle.giving.specs.Lent.{FirstFailing}

-- the words of the listed regions alone are left open
pub failing-once : {s words : List ℕ} {sets : ℕ} {t : Aims} {old u v : List ℕ} {r q : ℕ} → FirstFailing s words sets t old u r → FirstFailing s words sets t old v q → r ≡ q
failing-once {s} {words} {sets} {t} {old} {u} {v} {r} {q} f g = go (tri r q)
  where
    go : Tri r q → r ≡ q
    go (below l) = absurd (f.fails (omega (arith, g.within)) (g.before-it r l))
    go (same l) = l
    go (above l) = absurd (g.fails (omega (arith, f.within)) (f.before-it q l))
