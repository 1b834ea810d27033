-- An end of a build that is done: no refusal, and the report of what is packed. Assumes nothing.
use mathlib.Core.Path.{◌≡◌, sym, ap}
use mathlib.Core.List.{List}
use Prim.Native.Nat.{ℕ}
use native.Mathlib.Omega.{arith}
use lib.Dec.{eqb}
use borrow.Author.Tests.{eqb-true}
use Rattle.laws.specs.Pick.{pick}
use Rattle.laws.proofs.Cases.{Which, which}
use Rattle.laws.proofs.Cases.Which.{holds, fails}
use Rattle.encoder.specs.Packed.{Packed}
use Rattle.finishing.specs.declared.answers.Report.{Report}
use Rattle.finishing.specs.Answers.{Built}
use Rattle.finishing.specs.Answers.{Refused, Done}
use Rattle.finishing.specs.Buffers.{Lengths}
use Rattle.finishing.specs.Late.{late_no, report_of, late_answer}

abbrev reported : Report → Built → Report
reported d (Refused n i) = d
reported d (Done r) = r

pub late-done : (axes : ℕ) (coords : List (List ℕ)) (k : Packed) (l : Lengths) (r : Report) → late_answer axes coords k l ≡ Done r
    → (late_no axes coords k l ≡ 0) × (r ≡ report_of axes coords k)
unfolding late_answer
late-done axes coords k l r e = go (which (eqb (late_no axes coords k l) 0)) e
  where
    go : Which (eqb (late_no axes coords k l) 0) → pick (eqb (late_no axes coords k l) 0) (Done (report_of axes coords k)) (Refused (late_no axes coords k l) 0) ≡ Done r
        → (late_no axes coords k l ≡ 0) × (r ≡ report_of axes coords k)
    go (holds h) f =
        let g : Done (report_of axes coords k) ≡ Done r = rw h at f in
        (eqb-true (late_no axes coords k l) 0 h, sym (ap (reported r) g))
    go (fails h) f = let g = rw h at f in let z : ◌≡◌ {A = ℕ} 0 1 = cc in absurd (omega arith)
