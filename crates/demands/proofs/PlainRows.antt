-- Mode 1, by the job's bytes and the lent memory (specs/Plain.antt). Assumes nothing.
use mathlib.Core.Path.{◌≡◌, sym, subst, ◌∙◌}
use mathlib.Core.Bool.{true, not, ◌&&◌}
use mathlib.Core.List.{List, []}
use Prim.Native.Nat.{ℕ, zero, suc, ◌≤◌}
use native.Mathlib.Omega.{arith}
use lib.ListN.{length}
use lib.Dec.{eqb}
use borrow.Author.Tests.{eq-eqb}
use Rattle.said.specs.Records.{kind, record_at, record_count}
use Rattle.said.specs.Refusals.{end_refusal}
use Rattle.said.specs.Job.{State, said_at}
use Rattle.told.specs.Told.{count_kind, ends_before}
use Rattle.told.proofs.WordLaws.{count-here, count_past}
use Rattle.told.proofs.Bytes.{told}
use Rattle.finishing.specs.declared.answers.Report.{Report}
use Rattle.finishing.specs.Answers.{Done}
use Rattle.call.specs.Lending.{Lending}
use Rattle.call.specs.Build.{answer_of}
use Rattle.accepted.proofs.Accepted.{accepted}
use Rattle.accepted.proofs.PlainBack.{plain-count, plain-id, plain_map, plain-table}
use Rattle.refusing.proofs.Passing.{Passed}
use Rattle.demands.specs.Plain.{Plain}
use Rattle.refusing.proofs.FailedLaws.{other}
use Rattle.refusing.proofs.StepLaws.{not-stop, Looks, looks}
use Rattle.refusing.proofs.StepLaws.Looks.{bad, axis, value, set-end}
use Rattle.refusing.proofs.StateLaws.{end_on, Means, means}
use Rattle.demands.proofs.EndRow.{taken-passes}

-- an end record that passes is not the 65,536th
end-room : (n : ℕ) → end_refusal 1 n ≡ 0 → n ≡ 65535 → ⊥
unfolding end_refusal
end-room n e z =
    let t = not (eqb 1 1 && eqb n 65535) in
    let f : t ≡ true = other 9 [] 0 t (λ x. omega arith) e in
    let g = rw (eq-eqb n 65535 z) at f in
    let y : ◌≡◌ {A = ℕ} 0 1 = cc in
    omega arith

ends-few : (axes : ℕ) (job : List ℕ) (i : ℕ) (s : State) → Passed axes 1 job i s → ends_before job i ≤ 65535
unfolding Passed count_kind
ends-few axes job zero s p = omega arith
ends-few axes job (suc i) s (t, p, f) = go (means axes 1 job i t p) (ends-few axes job i t p) (looks axes 1 job (record_at job i) i t)
  where
    same : (kind (record_at job i) ≡ 3 → ⊥) → ends_before job i ≤ 65535 → ends_before job (suc i) ≤ 65535
    same d h = omega (arith, count_past 3 job i d)

    go : Means axes job i t → ends_before job i ≤ 65535 → Looks axes 1 job (record_at job i) i t → ends_before job (suc i) ≤ 65535
    go m h (bad n z l e) = absurd (not-stop s n (sym f ∙ e))
    go m h (axis z k e) = same (λ x. omega arith) h
    go m h (value z k e) = same (λ x. omega arith) h
    go m h (set-end z k e) =
        let u = end_on 1 (said_at axes job i t) s (sym e ∙ f) in
        let n = end-room (length (said_at axes job i t).sets) u.0 in
        let d : ends_before job i ≡ 65535 → ⊥ = λ z. n (m.sets-are ∙ z) in
        omega (arith, count-here 3 job i k)

-- THE LAW
pub plain : (c : Lending) (r : Report) → c.mode ≡ 1 → answer_of c ≡ Done r → Plain c r
plain c r m e =
    let a = accepted c r e in
    let t = told c.axes c.mode c.job (length c.work) (length c.pairs) a.said a.said-is in
    let p = taken-passes c a.said a.said-is in
    let few = ends-few c.axes c.job (record_count c.job) p.state (subst (λ (k : ℕ). Passed c.axes k c.job (record_count c.job) p.state) m p.all_pass) in
    record {
      sets-few = omega arith;
      ids-are = plain-count c r a m ∙ t.sets-are;
      id-is = λ n h. plain-id c r a m n (omega (arith, t.sets-are));
      word-is = λ x h. plain_map c r a m (omega (arith, t.sets-are)) x (omega (arith, t.sets-are));
      one-subtable = plain-table c r a m (omega (arith, t.sets-are));
    }
