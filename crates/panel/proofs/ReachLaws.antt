-- No record past the last one is refused: how far a job's records are read. Assumes nothing.
use mathlib.Core.Path.{◌≡◌, subst}
use mathlib.Core.List.{List, [], ◌∷◌}
use Prim.Native.Nat.{ℕ, zero, suc, ◌+◌, ◌/◌, ◌%◌, ◌≤◌}
use native.Mathlib.Omega.{arith}
use lib.Dec.{eqb}
use Rattle.laws.specs.Pick.{pick}
use Rattle.laws.proofs.Cases.{Which, which}
use Rattle.laws.proofs.Cases.Which.{holds, fails}
use Rattle.said.specs.Records.{after_record}
use Rattle.said.specs.Sets.{region_list}
use Rattle.said.specs.Job.{Said, State, in_axes, in_sets, Step, stop, on, regions_only, step, Outcome, refused, fine, ended, ended_sets, follow, records_from}

-- a refusal's place is at most n
abbrev Within : ℕ → Outcome → Type 0
Within n (refused m i) = i ≤ n
Within n (fine s) = Unit {0}

sets-within : (n i : ℕ) (s : Said) (named : List ℕ) → i ≤ n → Within n (ended_sets i s named)
unfolding ended_sets
sets-within n i s [] h = tt
sets-within n i s (q ∷ named) h = h

ended-within : (axes : ℕ) (job : List ℕ) (n i : ℕ) (s : State) → i ≤ n → Within n (ended axes job i s)
unfolding ended
ended-within axes job n i in_axes h = go (which (eqb (i % axes) 0))
  where
    go : Which (eqb (i % axes) 0) → Within n (pick (eqb (i % axes) 0) (fine (regions_only (region_list axes (i / axes) job))) (refused 8 i))
    go (holds e) = rw e tt
    go (fails e) = rw e h
ended-within axes job n i (in_sets s) h = sets-within n i s s.named h

follow-within : (n i : ℕ) (t : Step) (go : State → Outcome) → i ≤ n → ((s : State) → Within n (go s)) → Within n (follow i t go)
unfolding follow
follow-within n i (stop m) go h f = h
follow-within n i (on s) go h f = f s

within : (axes mode : ℕ) (job rest : List ℕ) (left i n : ℕ) (s : State) → i + left ≡ n → Within n (records_from axes mode job rest left i s)
unfolding records_from
within axes mode job rest zero i n s e = ended-within axes job n i s (omega arith)
within axes mode job rest (suc left) i n s e =
    follow-within n i (step axes mode job rest i s) (λ s'. records_from axes mode job (after_record rest) left (i + 1) s') (omega arith)
    (λ s'. within axes mode job (after_record rest) left (i + 1) n s' (omega arith))

pub place-most : (axes mode : ℕ) (job : List ℕ) (records m i : ℕ) → records_from axes mode job job records 0 in_axes ≡ refused m i → i ≤ records
place-most axes mode job records m i e = subst (λ (o : Outcome). Within records o) e (within axes mode job job records 0 records in_axes (omega arith))
