-- In mode 0 no store is too big (specs/Never.antt). Assumes nothing.
use mathlib.Core.Path.{◌≡◌, sym, subst, ◌∙◌}
use mathlib.Core.List.{[]}
use Prim.Native.Nat.{ℕ, ◌≤◌}
use native.Mathlib.Omega.{arith}
use lib.ListN.{length, get_or}
use Rattle.said.specs.Refusals.{most_bytes, shapes_full, store_too_big}
use Rattle.said.specs.Job.{Said, fine, outcome}
use Rattle.said.proofs.SoundLaws.{Bytes}
use Rattle.encoder.specs.Packed.{Packed, shared}
use Rattle.finishing.specs.Answers.{Refused, Done}
use Rattle.finishing.specs.Late.{store_for, report_of}
use Rattle.call.specs.Lending.{Lending}
use Rattle.call.specs.Build.{coords_in_use, packed_of, outcome_of}
use Rattle.call.specs.Foretold.{foretold}
use Rattle.accepted.proofs.Accepted.{packed-is, shared-is}
use Rattle.accepted.proofs.ForetoldLaws.{sizes}
use Rattle.small.proofs.Theorems.{store-small}
use Rattle.demands.specs.Rooms.{store_bytes}
use Rattle.demands.specs.Never.{NeverBig}
use Rattle.demands.proofs.OutcomeRows.{job-numbers}
use Rattle.demands.proofs.LateRows.{store-too-big}
use Rattle.demands.proofs.ForetoldLaws.{Tells, tells}
use Rattle.demands.proofs.ForetoldLaws.Tells.{by-records, by-shapes, by_size, by-sets}

module _ (c : Lending) (b : Bytes c.job) (m : c.mode ≡ 0) where
  store-few : (s : Said) → outcome_of c ≡ fine s → store_bytes c.axes c.mode s ≤ most_bytes
  unfolding store_for
  store-few s e =
      let k = shared (length s.used) s.sets in
      let z = sizes c s e b in
      let f : outcome c.axes 0 c.job (length c.work) (length c.pairs) ≡ fine s =
      subst (λ (n : ℕ). outcome c.axes n c.job (length c.work) (length c.pairs) ≡ fine s) m e in
      let h = store-small c.axes c.job (length c.work) (length c.pairs) s b f (coords_in_use s) (λ x. get_or k.sets x []) z.coords-are z.coords-whole in
      let w : length (store_for c.axes (coords_in_use s) k) ≤ most_bytes = omega arith in
      subst (λ (x : Packed). length (store_for c.axes (coords_in_use s) x) ≤ most_bytes) (sym (packed-is c s m ∙ shared-is s)) w

  -- THE LAW
  pub never-big : NeverBig c
  never-big = record {
    build = λ p e. let t = ((store-too-big c p).only e).1 in omega (arith, t.holds.1, store-few t.said t.sound);
    forecast = λ p e. go p e (tells c);
  }
    where
      go : (p : ℕ) → foretold c ≡ Refused store_too_big p → Tells c → ⊥
      go p e (by-records n q f g) =
          let r : Refused n q ≡ Refused store_too_big p = sym g ∙ e in
          let z : n ≡ store_too_big = cc in
          omega (arith, job-numbers c n q f)
      go p e (by-shapes s f h g) = let r : Refused shapes_full 0 ≡ Refused store_too_big p = sym g ∙ e in let z : ◌≡◌ {A = ℕ} shapes_full store_too_big = cc in omega arith
      go p e (by_size s f h y g) = omega (arith, store-few s f)
      go p e (by-sets s f h y g) =
          let r : Done (report_of c.axes (coords_in_use s) (packed_of c.mode s)) ≡ Refused store_too_big p = sym g ∙ e in let z : ◌≡◌ {A = ℕ} 0 1 = cc in omega arith
