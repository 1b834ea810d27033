-- The pair records of a build: there are enough for merging, and what is left of them. Assumes nothing.
use mathlib.Core.Path.{◌≡◌, refl, sym, ap, ◌∙◌}
use mathlib.Core.List.{List, ◌++◌, append-nil}
use Prim.Native.Nat.{ℕ, ◌≤◌}
use native.Mathlib.Omega.{arith}
use lib.ListN.{length, replicate}
use lib.Seq.{drop-length}
use borrow.Author.Tests.{ne_eqb}
use Rattle.std.specs.Prelude.{Result, Ok, Err}
use Rattle.refusals.specs.declared.Refusal.{Refusal}
use Rattle.refusals.specs.declared.Refused.{Refused}
use Rattle.refusals.specs.Refusals.{number}
use Rattle.refusals.proofs.Numbers.{some_number}
use Rattle.pairs.specs.declared.Pair.{Pair}
use Rattle.pairs.specs.LentQueue.{none, cleared}
use Rattle.pairs.proofs.Zeros.{cleared-none}
use Rattle.slots.specs.declared.tables.MergeTables.{MergeTables}
use Rattle.waits.specs.LentWaits.{room}
use Rattle.waits.proofs.WaitLaws.{room_most}
use Rattle.said.specs.Refusals.{early_refusal}
use Rattle.said.specs.LentOpen.{Open}
use Rattle.merging.specs.LentOptimized.{Ready}
use Rattle.call.specs.Build.{pairs_left}
use Rattle.panel.specs.declared.Profile.{Profile}
use Rattle.opening.specs.declared.opening.Stage.{Stage}
use Rattle.opening.specs.LentOpened.{OpenedBy}
use Rattle.arranging.specs.LentArranged.{PairsUsed}

-- all of them cleared
cleared-all : (w : List Pair) → cleared (length w) w ≡ replicate (length w) none
unfolding cleared
cleared-all w = ap (λ (r : List Pair). replicate (length w) none ++ r) (drop-length w) ∙ append-nil (replicate (length w) none)

-- a refusal by the numbers leaves them; else they are zeros
module _ (axes mode : ℕ) (job : List ℕ) (work : ℕ) (pairs : List Pair) where
  pub pairs-early : (x : Refusal) → number x ≡ early_refusal axes mode job work (length pairs) → pairs ≡ pairs_left axes mode job work pairs
  unfolding pairs_left
  pairs-early x e = rw (← e, ne_eqb (number x) 0 (some_number x)) refl

  pub pairs-late : 0 ≡ early_refusal axes mode job work (length pairs) → (kept : List Pair) → length kept ≡ length pairs → (left : List Pair) → left ≡ cleared (length kept) kept
      → left ≡ pairs_left axes mode job work pairs
  unfolding pairs_left
  pairs-late z kept long left e = e ∙ cleared-all kept ∙ rw (← z, long) refl

-- Merging, which is not called after an early refusal, left `kept`; then so many were cleared.
pub pairs-left : {h : Profile} {axes mode : ℕ} {job old mid : List ℕ} {r : Result (Result Stage Refused) Refused} (n : ℕ) (pairs kept left : List Pair) → OpenedBy h axes mode job old (length pairs) mid r → PairsUsed r (length pairs) n
    → length kept ≡ length pairs → ((x : Refused) → r ≡ Err x → kept ≡ pairs) → left ≡ cleared n kept → left ≡ pairs_left axes mode job (length old) pairs
pairs-left {axes = axes} {mode = mode} {job = job} {old = old} {r = Ok s} n pairs kept left p u long same e =
    pairs-late axes mode job (length old) pairs (sym p.is.not-early) kept long left (e ∙ ap (λ (k : ℕ). cleared k kept) (u ∙ sym long))
pairs-left {axes = axes} {mode = mode} {job = job} {old = old} {r = Err x} n pairs kept left p u long same e =
    e ∙ ap (λ (k : ℕ). cleared k kept) u ∙ sym (cleared-none kept) ∙ same x refl ∙ pairs-early axes mode job (length old) pairs x.refusal p.is.number_is

-- merging has room for the pairs of so many groups
pub pairs-enough : {axes mode : ℕ} {job : List ℕ} {work pairs : ℕ} → Open axes mode job work pairs → (t : MergeTables) {w : List ℕ} → Ready t w → room t.groups ≤ pairs
pairs-enough o t r = let f = r.shaped.laid.groups-few in omega (arith, o.paired, room_most t.groups (omega arith))
