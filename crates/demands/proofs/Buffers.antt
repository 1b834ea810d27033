-- What a call leaves in everything lent: buffers after a refusal (L1), work and pair records after every answer (L2). Assumes nothing.
use mathlib.Core.Path.{◌≡◌, sym, ◌∙◌}
use mathlib.Core.Logic.{⊎_elim}
use Prim.Native.Nat.{ℕ, ◌≤◌, ◌<◌}
use native.Mathlib.Omega.{arith}
use lib.ListN.{length, replicate}
use borrow.Author.Tests.{eq-eqb, ne_eqb}
use Rattle.said.specs.Records.{record_count}
use Rattle.said.specs.Job.{Said, refused, fine}
use Rattle.job.specs.Check.{work_left}
use Rattle.finishing.specs.declared.answers.Report.{Report}
use Rattle.finishing.specs.Answers.{Refused, Done}
use Rattle.finishing.specs.Late.{buffers_left}
use Rattle.call.specs.Lending.{Lending, no_pair}
use Rattle.call.specs.Build.{left_from, pairs_left, outcome_of, answer_of, after}
use Rattle.refusing.proofs.WalkEnds.{walk_no}
use Rattle.demands.proofs.OutcomeRows.{early, outcome-by, outcome-walked, early-few, walked-only, job_only, late, Answers, answers}
use Rattle.demands.proofs.OutcomeRows.Answers.{by-job, by-late, done}

-- ---- output, ids, map, log and origins

module _ (c : Lending) where
  job-kept : (n p : ℕ) → outcome_of c ≡ refused n p → (after c).lent ≡ c.lent
  unfolding left_from
  job-kept n p e = rw e

  late-kept : (s : Said) → outcome_of c ≡ fine s → (late c s ≡ 0 → ⊥) → (after c).lent ≡ c.lent
  unfolding left_from buffers_left
  late-kept s e d = rw (e, ne_eqb (late c s) 0 d)

  -- by every refusal
  pub untouched : (n p : ℕ) → answer_of c ≡ Refused n p → (after c).lent ≡ c.lent
  untouched n p e = go (answers c)
    where
      go : Answers c → (after c).lent ≡ c.lent
      go (by-job m q f g b) = job-kept m q f
      go (by-late s f b g) = late-kept s f (λ z. omega (arith, b.some))
      go (done s f b g) = let z : ◌≡◌ {A = ℕ} 0 1 = cc in absurd (omega arith)

-- ---- whether one of 1 to 4 was given

module _ (c : Lending) where
  some-early : (n p : ℕ) → n ≤ 4 → answer_of c ≡ Refused n p → early c ≡ 0 → ⊥
  some-early n p h e z =
      let f = job_only c n p (λ x. absurd (omega arith)) e in
      let g = walk_no c.axes c.mode c.job (record_count c.job) n p (sym (outcome-walked c z) ∙ f) in
      let l = g.low in
      omega arith

  none-early : (n p : ℕ) → 5 ≤ n → answer_of c ≡ Refused n p → early c ≡ 0
  none-early n p h e = ⊎_elim (λ z. z) some (outcome-by c)
    where
      some : (0 < early c) × (outcome_of c ≡ refused (early c) 0) → early c ≡ 0
      some f =
          let few = early-few c.axes c.mode c.job (length c.work) (length c.pairs) in
          absurd (go few (answers c))
        where
          go : early c ≤ 4 → Answers c → ⊥
          go few (by-job m q g k b) = let x = f.1 in let y : early c ≡ n = cc in omega arith
          go few (by-late s g b k) = let x = f.1 in let z : ◌≡◌ {A = ℕ} 0 1 = cc in omega arith
          go few (done s g b k) = let z : ◌≡◌ {A = ℕ} 0 1 = cc in omega arith

  done-early : (r : Report) → answer_of c ≡ Done r → early c ≡ 0
  done-early r e = go (answers c)
    where
      go : Answers c → early c ≡ 0
      go (by-job m q g k b) = let z : ◌≡◌ {A = ℕ} 0 1 = cc in absurd (omega arith)
      go (by-late s g b k) = let z : ◌≡◌ {A = ℕ} 0 1 = cc in absurd (omega arith)
      go (done s g b k) = (walked-only c (fine s) (λ m q x. let z : ◌≡◌ {A = ℕ} 0 1 = cc in absurd (omega arith)) g).0

-- ---- work, and the pair records

left-kept : (c : Lending) → (early c ≡ 0 → ⊥) → ((after c).work ≡ c.work) × ((after c).pairs ≡ c.pairs)
unfolding work_left pairs_left
left-kept c d = (rw (ne_eqb (early c) 0 d), rw (ne_eqb (early c) 0 d))

left-zeros : (c : Lending) → early c ≡ 0 → ((after c).work ≡ replicate (length c.work) 0) × ((after c).pairs ≡ replicate (length c.pairs) no_pair)
unfolding work_left pairs_left
left-zeros c e = (rw (eq-eqb (early c) 0 e), rw (eq-eqb (early c) 0 e))

module _ (c : Lending) where
  -- 1 to 4
  pub work-kept : (n p : ℕ) → n ≤ 4 → answer_of c ≡ Refused n p → (after c).work ≡ c.work
  work-kept n p h e = (left-kept c (some-early c n p h e)).0

  pub pairs-kept : (n p : ℕ) → n ≤ 4 → answer_of c ≡ Refused n p → (after c).pairs ≡ c.pairs
  pairs-kept n p h e = (left-kept c (some-early c n p h e)).1

  -- every other refusal
  pub work-cleared : (n p : ℕ) → 5 ≤ n → answer_of c ≡ Refused n p → (after c).work ≡ replicate (length c.work) 0
  work-cleared n p h e = (left-zeros c (none-early c n p h e)).0

  pub pairs-cleared : (n p : ℕ) → 5 ≤ n → answer_of c ≡ Refused n p → (after c).pairs ≡ replicate (length c.pairs) no_pair
  pairs-cleared n p h e = (left-zeros c (none-early c n p h e)).1

  -- done
  pub work-done : (r : Report) → answer_of c ≡ Done r → (after c).work ≡ replicate (length c.work) 0
  work-done r e = (left-zeros c (done-early c r e)).0

  pub pairs-done : (r : Report) → answer_of c ≡ Done r → (after c).pairs ≡ replicate (length c.pairs) no_pair
  pairs-done r e = (left-zeros c (done-early c r e)).1
