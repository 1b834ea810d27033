-- The records before i pass, as the walk goes, exactly when each of them is fine by the job's bytes (specs/Fine.antt). Assumes nothing.
use mathlib.Core.Path.{◌≡◌, refl, subst}
use mathlib.Core.List.{List}
use mathlib.Core.Logic.{⊎_elim}
use Prim.Native.Nat.{ℕ, zero, suc, ◌≤◌, ◌<◌}
use native.Mathlib.Omega.{arith}
use Rattle.said.specs.Records.{record_at}
use Rattle.laws.proofs.Cases.{lt-or-ge}
use Rattle.said.specs.Job.{State, in_axes, Step, stop, on, step}
use Rattle.refusing.specs.Exactly.{Exactly}
use Rattle.refusing.specs.Counts.{RecordNo}
use Rattle.refusing.specs.Counts.RecordNo.{of-form, of-region, of-sets}
use Rattle.refusing.specs.Fine.{Fine, AllFine}
use Rattle.refusing.proofs.Passing.{Passed}
use Rattle.refusing.proofs.StepLaws.{stop-no}
use Rattle.refusing.proofs.StateLaws.{Means, means}
use Rattle.refusing.proofs.RecordStops.{stops-unknown-kind, stops-not-zero, stops-out-of-turn, stops-too-late, stops-unfinished, stops-six, stops-seven, stops-nine}
use Rattle.refusing.proofs.FiveLaws.{fine-none, stops-one}

module _ (axes mode : ℕ) (job : List ℕ) where
  -- record i, after those before it passed
  module _ (i : ℕ) (s : State) (p : Passed axes mode job i s) where
    abbrev now : Step
    now = step axes mode job (record_at job i) i s

    abbrev m : Means axes job i s
    m = means axes mode job i s p

    not-both : (t : State) (n : ℕ) → now ≡ on t → now ≡ stop n → ⊥
    not-both t n f g = let z : ◌≡◌ {A = ℕ} 0 1 = cc in omega arith

    pub on_fine : (t : State) → now ≡ on t → Fine axes mode job i
    on_fine t f = record {
      kind-known = λ b. not-both t 30 f ((stops-unknown-kind axes mode job i s m).given b);
      zeros-zero = λ k b. not-both t 31 f ((stops-not-zero axes mode job i s m k).given b).0;
      not-out-of-turn = λ b. not-both t 32 f ((stops-out-of-turn axes mode job i s m).given b);
      not_late = λ b. not-both t 33 f ((stops-too-late axes mode job i s m).given b);
      not-unfinished = λ b. not-both t 34 f ((stops-unfinished axes mode job i s m).given b);
      not-unknown = λ b. not-both t 6 f ((stops-six axes mode job i s m).given b);
      not-twice = λ b. not-both t 7 f ((stops-seven axes mode job i s m p).given b);
      not_full = λ b. not-both t 9 f ((stops-nine axes mode job i s m).given b);
    }

    -- one of the rows is true where it stops
    pub stop-not-fine : (n : ℕ) → now ≡ stop n → Fine axes mode job i → ⊥
    stop-not-fine n g f = by-no (stop-no axes mode job (record_at job i) i s n g)
      where
        at : (k : ℕ) → n ≡ k → now ≡ stop k
        at k e = subst (λ (x : ℕ). now ≡ stop x) e g

        by-no : RecordNo n → ⊥
        by-no (of-form l h) = fine-none axes mode job i f (stops-one axes mode job i s m n l h g)
        by-no (of-region e) =
            ⊎_elim (λ (e : n ≡ 6). f.not-unknown ((stops-six axes mode job i s m).only (at 6 e))) (λ (e : n ≡ 7). f.not-twice ((stops-seven axes mode job i s m p).only (at 7 e))) e
        by-no (of-sets e) = f.not_full ((stops-nine axes mode job i s m).only (at 9 e))

    pub fine-on : Fine axes mode job i → (t : State) × (now ≡ on t)
    fine-on f = go now refl
      where
        go : (x : Step) → now ≡ x → (t : State) × (now ≡ on t)
        go (stop n) e = absurd (stop-not-fine n e f)
        go (on t) e = (t, e)

  pub passed-fine : (i : ℕ) (s : State) → Passed axes mode job i s → AllFine axes mode job i
  unfolding Passed
  passed-fine zero s p j h = absurd (omega arith)
  passed-fine (suc i) s (t, p, f) j h = ⊎_elim
      (λ (l : j < i). passed-fine i t p j l)
      (λ (l : i ≤ j). let e : i ≡ j = omega arith in subst (λ (k : ℕ). Fine axes mode job k) e (on_fine i t p s f))
      (lt-or-ge j i)

  pub fine-passed : (i : ℕ) → AllFine axes mode job i → (s : State) × Passed axes mode job i s
  unfolding Passed
  fine-passed zero f = (in_axes, refl)
  fine-passed (suc i) f =
      let a = fine-passed i (λ j h. f j (omega arith)) in
      let b = fine-on i a.0 a.1 (f i (omega arith)) in
      (b.0, (a.0, a.1, b.1))

  -- THE LAW
  pub passing : (i : ℕ) → Exactly ((s : State) × Passed axes mode job i s) (AllFine axes mode job i)
  passing i = record { given = fine-passed i; only = λ a. passed-fine i a.0 a.1 }
