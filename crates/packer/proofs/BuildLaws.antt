-- A build and a forecast from their parts: with the pair records, the promise of the call. Assumes nothing.
use mathlib.Core.Path.{◌≡◌, sym, subst, ◌∙◌}
use mathlib.Core.List.{List}
use Prim.Native.Nat.{ℕ}
use lib.ListN.{length}
use Rattle.merging.specs.declared.optimizing.Merged.{Merged}
use Rattle.slots.specs.declared.tables.MergeTables.{MergeTables}
use Rattle.merging.specs.LentOptimized.{Ready, Optimized}
use Rattle.encoder.specs.LentArranged.{tables_of}
use Rattle.finishing.specs.Answers.{Built}
use Rattle.opening.specs.declared.opening.Stage.{Stage}
use Rattle.pairs.specs.declared.Pair.{Pair}
use Rattle.call.specs.Lending.{Lending, Left, lending, leaves, no_buffers}
use Rattle.call.specs.Foretold.{foretold}
use Rattle.packer.specs.Promised.{Foretells, ObeysBy, Obeys}
use Rattle.call.specs.Build.{pairs_left}
use Rattle.call.specs.Profiled.{answer_by}
use Rattle.call.proofs.PlainLaws.{answer-plain, after-plain}
use Rattle.panel.specs.declared.Profile.{Profile}
use Rattle.panel.specs.declared.Profile.TheVariants.{Plain}
use Rattle.finishing.specs.Buffers.{Buffers}
use Rattle.arranging.specs.LentArranged.{Joined}
use Rattle.closing.specs.LentClosed.{Closed, Foreseen}

-- ---- merging, by the tables that it was given

pub ready_at : (t : MergeTables) (s : Stage) {w : List ℕ} → t ≡ tables_of s.places s.groups → Ready (tables_of s.places s.groups) w → Ready t w
ready_at t s {w} e r = subst (λ (x : MergeTables). Ready x w) (sym e) r

pub joined_at : (t : MergeTables) (s : Stage) {m : Merged} {w w' : List ℕ} → t ≡ tables_of s.places s.groups → Optimized t m.merges m.weighed m.before m.after w w' → Joined s m w w'
joined_at t s {m} {w} {w'} e o = subst (λ (x : MergeTables). Optimized x m.merges m.weighed m.before m.after w w') e o

-- ---- the promise

pub obeys : (h : Profile) (axes mode : ℕ) (job work : List ℕ) (pairs : List Pair) (r : Built) (old new : Buffers) (work' : List ℕ) (pairs' : List Pair)
    → Closed h axes mode job work (length pairs) r old new work' → pairs' ≡ pairs_left axes mode job (length work) pairs
    → ObeysBy h (lending axes mode job work pairs old) r (leaves work' pairs' new)
unfolding answer_by
obeys h axes mode job work pairs r old new work' pairs' c e =
    record { answer = c.built.answer; left = (λ i. record { work = c.work-is i; pairs = e i; lent = c.built.left i }) }

-- the plain profile is none
pub plain-obeys : (c : Lending) (r : Built) (l : Left) → ObeysBy Plain c r l → Obeys c r l
plain-obeys c r l o = record { answer = o.answer ∙ answer-plain c; left = o.left ∙ after-plain c }

pub foretells : (axes mode : ℕ) (job work : List ℕ) (pairs : List Pair) (r : Built) (work' : List ℕ) (pairs' : List Pair)
    → Foreseen axes mode job work (length pairs) r work' → pairs' ≡ pairs_left axes mode job (length work) pairs
    → Foretells (lending axes mode job work pairs no_buffers) r work' pairs'
unfolding foretold
foretells axes mode job work pairs r work' pairs' c e = record { answer = c.answer; work-is = c.work-is; pairs_is = e }
