-- A yes exactly where every set is read, by the bytes of job and store (specs/Bytes.antt). Assumes nothing.
use mathlib.Core.Path.{◌≡◌}
use mathlib.Core.List.{List}
use mathlib.Core.Logic.{◌↔◌}
use Prim.Native.Nat.{ℕ, ◌<◌}
use native.Mathlib.Omega.{arith}
use lib.ListN.{length}
use Rattle.said.proofs.SoundLaws.{Bytes}
use Rattle.judging.specs.Answers.{Right}
use Rattle.judging.specs.Judge.{judge_of}
use Rattle.judging.proofs.Verdicts.{yes-exactly}
use Rattle.judged_bytes.specs.Bytes.{YesTold}
use Rattle.judged_bytes.proofs.SetLaws.{job-told, right-told, told-right}

module _ (axes : ℕ) (job store words : List ℕ) (work : ℕ) (bytes : Bytes job) (octets : Bytes store) where
  -- THE LAW
  pub told-exactly : (judge_of axes job store words work ≡ Right) ↔ YesTold axes job store words work
  told-exactly = (
    (λ e.
        let y = (yes-exactly axes job store words work).0 e in
        let t = job-told axes job store words work y.said y.parsed-to y.sound bytes octets in
        record {
          said = y.said;
          parsed-to = y.parsed-to;
          sound = y.sound;
          sets-told = λ k h.
              let l : k < length y.said.sets = omega (arith, t.sets-are) in
              right-told axes job store words work y.said y.parsed-to y.sound bytes octets k l (y.all-sets k l);
        }),
    λ y.
        let t = job-told axes job store words work y.said y.parsed-to y.sound bytes octets in
        (yes-exactly axes job store words work).1
        (record {
          said = y.said;
          parsed-to = y.parsed-to;
          sound = y.sound;
          all-sets = λ k h. told-right axes job store words work y.said y.parsed-to y.sound bytes octets k h (y.sets-told k (omega (arith, t.sets-are)));
        }),
  )
