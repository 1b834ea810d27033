-- T2. A records_from along a job's records is refused at record i exactly when those before
-- it pass and it does not; else its end answers. Assumes nothing.
use mathlib.Core.Path.{◌≡◌, refl, sym, ap, subst, ◌∙◌}
use mathlib.Core.List.{List}
use Prim.Native.Nat.{ℕ, zero, suc, ◌+◌, ◌-◌, ◌≤◌}
use native.Mathlib.Nat.{sub-zero}
use native.Mathlib.Numerals.{add-one}
use native.Mathlib.Omega.{arith}
use lib.Seq.{drop-drop}
use Rattle.said.specs.Records.{record_at, record_bytes, record_start}
use Rattle.said.specs.Job.{State, in_axes, Step, stop, on, step, Outcome, refused, ended, follow, records_from}
use Rattle.refusing.proofs.Passing.{Passed, StopsAt, EndsAs}

module _ (axes mode : ℕ) (job : List ℕ) where
  -- one turn
  turn : (i left : ℕ) (s t : State) → step axes mode job (record_at job i) i t ≡ on s
      → records_from axes mode job (record_at job i) (suc left) i t ≡ records_from axes mode job (record_at job (suc i)) left (suc i) s
  unfolding records_from follow
  turn i left s t e =
      let k : record_start i + record_bytes ≡ record_start (suc i) = omega arith in
      rw (e, drop-drop record_bytes (record_start i) job, k, add-one i)

  halt : (i left n : ℕ) (t : State) → step axes mode job (record_at job i) i t ≡ stop n → records_from axes mode job (record_at job i) (suc left) i t ≡ refused n i
  unfolding records_from follow
  halt i left n t e = rw e

  -- what is left after i records that pass answers for the whole
  along : (records i : ℕ) (s : State) → i ≤ records → Passed axes mode job i s
      → records_from axes mode job (record_at job i) (records - i) i s ≡ records_from axes mode job job records 0 in_axes
  unfolding Passed
  along records zero s h p = rw (p, sub-zero records)
  along records (suc i) s h (t, p, e) =
      let n : records - i ≡ suc (records - suc i) = omega arith in
      sym (turn i (records - suc i) s t e) ∙ ap (λ (k : ℕ). records_from axes mode job (record_at job i) k i t) (sym n) ∙ along records i t (omega arith) p

  pub stops-given : (records n i : ℕ) → StopsAt axes mode job records n i → records_from axes mode job job records 0 in_axes ≡ refused n i
  stops-given records n i a =
      let l = a.within in
      let k : records - i ≡ suc (records - suc i) = omega arith in
      sym (along records i a.state (omega arith) a.before-pass) ∙ ap (λ (k : ℕ). records_from axes mode job (record_at job i) k i a.state) k
      ∙ halt i (records - suc i) n a.state a.stops

  no-left : (records : ℕ) (s : State) → records_from axes mode job (record_at job records) 0 records s ≡ ended axes job records s
  unfolding records_from
  no-left records s = refl

  pub ends-given : (records : ℕ) (o : Outcome) → EndsAs axes mode job records o → records_from axes mode job job records 0 in_axes ≡ o
  ends-given records o a =
      let k : records - records ≡ 0 = omega arith in
      sym (along records records a.state (omega arith) a.all_pass) ∙ ap (λ (k : ℕ). records_from axes mode job (record_at job records) k records a.state) k
      ∙ no-left records a.state ∙ a.ends

  -- and there is no other way to an answer
  pub data Way (records : ℕ) (o : Outcome) : Type 0 where
    stopped : (n i : ℕ) → o ≡ refused n i → StopsAt axes mode job records n i → Way records o
    came : EndsAs axes mode job records o → Way records o

  way-from : (records left i : ℕ) (s : State) → i + left ≡ records → Passed axes mode job i s → Way records (records_from axes mode job (record_at job i) left i s)
  unfolding records_from Passed
  way-from records zero i s e p =
      let q : i ≡ records = omega arith in
      came (record { state = s; all_pass = subst (λ (k : ℕ). Passed axes mode job k s) q p; ends = ap (λ (k : ℕ). ended axes job k s) (sym q) })
  way-from records (suc left) i s e p = go (λ t q. way-from records left (suc i) t (omega arith) q) (step axes mode job (record_at job i) i s) refl
    where
      go : ((t : State) → Passed axes mode job (suc i) t → Way records (records_from axes mode job (record_at job (suc i)) left (suc i) t))
          → (x : Step) → step axes mode job (record_at job i) i s ≡ x → Way records (records_from axes mode job (record_at job i) (suc left) i s)
      go rec (stop n) f = stopped n i (halt i left n s f) (record { state = s; within = omega arith; before-pass = p; stops = f })
      go rec (on t) f = subst (λ (o : Outcome). Way records o) (sym (turn i left t s f)) (rec t (s, p, f))

  pub way : (records : ℕ) → Way records (records_from axes mode job job records 0 in_axes)
  unfolding Passed
  way records = way-from records records 0 in_axes (omega arith) refl

  -- the records before i leave one state
  pub passed-one : (i : ℕ) (s t : State) → Passed axes mode job i s → Passed axes mode job i t → s ≡ t
  unfolding Passed
  passed-one zero s t p q = p ∙ sym q
  passed-one (suc i) s t (u, p, e) (v, q, f) = let x = passed-one i u v p q in let y : on s ≡ on t = sym e ∙ ap (λ (z : State). step axes mode job (record_at job i) i z) x ∙ f in cc
