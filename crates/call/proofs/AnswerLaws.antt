-- The answers of a call taken apart: a refusal leaves everything as it was, and what a forecast tells. Assumes nothing.
use mathlib.Core.Path.{◌≡◌, refl, sym, ap, ◌∙◌}
use mathlib.Core.Bool.{false}
use mathlib.Core.List.{List}
use Prim.Native.Nat.{ℕ, ◌≤◌, ◌<◌, suc}
use native.Mathlib.Omega.{arith}
use lib.ListN.{length}
use Rattle.said.specs.Job.{Said, Outcome, refused, fine}
use Rattle.said.specs.Refusals.{shapes_full, first_failed}
use Rattle.groups.specs.Groups.{groups_of, max_shapes}
use borrow.Author.Tests.{eq-eqb, le-leb, lt-leb, ne_eqb}
use Rattle.encoder.specs.Packed.{Packed, shared}
use Rattle.finishing.specs.Answers.{Refused}
use Rattle.finishing.specs.Late.{report_of, size_told, late_forecast, late_no, late_answer, buffers_left}
use Rattle.call.specs.Foretold.{foretold_from}
use Rattle.call.specs.Build.{coords_in_use, packed_of}
use Rattle.finishing.specs.Buffers.{Buffers, Lengths, lengths}
use Rattle.finishing.specs.Lent.{Finished}
use lib.Dec.{eqb}

-- ---- a refusal leaves everything as it was

pub refused-late : (axes : ℕ) (coords : List (List ℕ)) (k : Packed) (n : ℕ) (old : Buffers) → late_no axes coords k (lengths old) ≡ suc n
    → Finished axes coords k (Refused (suc n) 0) old old
unfolding late_answer buffers_left
refused-late axes coords k n old e =
    let z : eqb (late_no axes coords k (lengths old)) 0 ≡ false = ap (λ (x : ℕ). eqb x 0) e ∙ ne_eqb (suc n) 0 (λ x. omega arith) in
    record { answer = rw (z, e); left = rw z }

pub too_many : (axes : ℕ) (coords : List (List ℕ)) (k : Packed) (l : Lengths) → max_shapes < k.groups → late_no axes coords k l ≡ shapes_full
unfolding late_no first_failed
too_many axes coords k l h = rw (lt-leb k.groups max_shapes h)

pub pack-full : (axes mode : ℕ) (s : Said) → mode ≡ 0 → max_shapes < length (groups_of (length s.used) s.sets) → (old : Buffers)
    → Finished axes (coords_in_use s) (packed_of mode s) (Refused shapes_full 0) old old
unfolding packed_of shared
pack-full axes mode s z many old =
    refused-late axes (coords_in_use s) (packed_of mode s) 9 old
    (too_many axes (coords_in_use s) (packed_of mode s) (lengths old) (rw (eq-eqb mode 0 z) many))

-- ---- the answers of a forecast

pub told-refused : (axes mode : ℕ) (o : Outcome) (n i : ℕ) → o ≡ refused n i → Refused n i ≡ foretold_from axes mode o
unfolding foretold_from
told-refused axes mode o n i e = sym (ap (foretold_from axes mode) e)

pub told-sized : (axes mode : ℕ) (o : Outcome) (x : Said) → o ≡ fine x → (packed_of mode x).groups ≤ max_shapes → size_told (report_of axes (coords_in_use x) (packed_of mode x)) ≡ foretold_from axes mode o
unfolding foretold_from late_forecast
told-sized axes mode o x e few = rw (e, le-leb (packed_of mode x).groups max_shapes few) refl

pub told-full : (axes mode : ℕ) (x : Said) → mode ≡ 0 → max_shapes < length (groups_of (length x.used) x.sets) → Refused shapes_full 0 ≡ foretold_from axes mode (fine x)
unfolding foretold_from late_forecast packed_of shared
told-full axes mode x z many = rw (eq-eqb mode 0 z, lt-leb (length (groups_of (length x.used) x.sets)) max_shapes many) refl
