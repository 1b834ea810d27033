-- THE THEOREMS: every job that was accepted says the same now, every refusal but that for byte 3 is the same, and no job that uses the new byte was read.
-- Assumes nothing.
use mathlib.Core.Path.{◌≡◌, refl, sym, ap, subst, ◌∙◌}
use mathlib.Core.List.{List}
use mathlib.Core.Logic.{⊎_elim}
use Prim.Native.Nat.{ℕ, zero, suc, ◌+◌, ◌*◌, ◌≤◌, ◌<◌}
use native.Mathlib.Omega.{arith}
use lib.ListN.{get_or, drop}
use lib.Seq.{get_or-drop, drop-drop}
use Rattle.laws.proofs.Cases.{lt-or-ge}
use Rattle.said.specs.Records.{record_at, record_start, first_wrong_byte}
use Rattle.said.specs.Refusals.{not_zero}
use Rattle.said.specs.Job.{State, in_axes, Step, stop, on, step, Outcome, refused, follow, records_from}
use Rattle.one_byte.specs.OneByte.{one_wrong, one_step, one_records}
use Rattle.one_byte.specs.Together.{UsesByte, Together, NeverRead, now_read, then_read}
use Rattle.one_byte.specs.Together.Together.{same, for-byte}
use Rattle.one_byte.proofs.RecordLaws.{same_byte, step_same, step-uses}

next-record : (job : List ℕ) (i : ℕ) → drop 12 (record_at job i) ≡ record_at job (i + 1)
next-record job i = let e : 12 * i + 12 ≡ 12 * (i + 1) = omega arith in drop-drop 12 (12 * i) job ∙ ap (λ (k : ℕ). drop k job) e

module _ (axes mode : ℕ) (job : List ℕ) (bytes : (k : ℕ) → get_or job k 0 < 256) where
  low : (i : ℕ) → get_or (record_at job i) 1 0 < 256
  low i = rw (get_or-drop (record_start i) job 1 0) (bytes (record_start i + 1))

  -- one record: the same step, or that for byte 3
  module _ (left i : ℕ) (s : State) where
    abbrev rest : List ℕ
    rest = record_at job (i + 1)

    now-is : records_from axes mode job (record_at job i) (suc left) i s ≡ follow i (step axes mode job (record_at job i) i s) (λ t. records_from axes mode job rest left (i + 1) t)
    unfolding records_from
    now-is = ap (λ (l : List ℕ). follow i (step axes mode job (record_at job i) i s) (λ t. records_from axes mode job l left (i + 1) t)) (next-record job i)

    then_is : one_records axes mode job (record_at job i) (suc left) i s ≡ follow i (one_step axes mode job (record_at job i) i s) (λ t. one_records axes mode job rest left (i + 1) t)
    unfolding one_records
    then_is = ap (λ (l : List ℕ). follow i (one_step axes mode job (record_at job i) i s) (λ t. one_records axes mode job l left (i + 1) t)) (next-record job i)

    then-stops : UsesByte (record_at job i) → one_records axes mode job (record_at job i) (suc left) i s ≡ refused not_zero i
    unfolding follow
    then-stops u = then_is ∙ rw (step-uses axes mode job (record_at job i) i s u)

  follow-both : (i : ℕ) (x : Step) (now before : State → Outcome) → ((t : State) → Together job (now t) (before t)) → Together job (follow i x now) (follow i x before)
  unfolding follow
  follow-both i (stop n) now before h = same refl
  follow-both i (on t) now before h = h t

  both-sides : {a b c d : Outcome} → a ≡ c → b ≡ d → Together job c d → Together job a b
  both-sides e f t = rw (e, f) t

  along : (left i : ℕ) (s : State) → Together job (records_from axes mode job (record_at job i) left i s) (one_records axes mode job (record_at job i) left i s)
  along zero i s = same (unfold records_from one_records in refl)
  along (suc left) i s =
      ⊎_elim (λ (e : first_wrong_byte (record_at job i) ≡ one_wrong (record_at job i)).
      both-sides (now-is left i s ∙ ap (λ (x : Step). follow i x (λ t. records_from axes mode job (record_at job (i + 1)) left (i + 1) t)) (step_same axes mode job (record_at job i) i s (low i) e))
      (then_is left i s)
      (follow-both i (one_step axes mode job (record_at job i) i s) _ _ (λ t. along left (i + 1) t)))
      (λ (w : UsesByte (record_at job i) × (one_wrong (record_at job i) ≡ 3)). for-byte i (record { is = then-stops left i s w.0; uses = w.0; byte = omega (arith, w.1) }))
      (same_byte (record_at job i))

  -- THE THEOREM: what was read then is read the same now
  pub as_before : (n : ℕ) → Together job (now_read axes mode job n) (then_read axes mode job n)
  as_before n = along n 0 in_axes

  follow-never : (i j : ℕ) (x : Step) (go : State → Outcome) → i ≤ j → ((t : State) → NeverRead j (go t)) → NeverRead j (follow i x go)
  unfolding follow
  follow-never i j (stop n) go h more = record { number = n; place = i; is = refl; soon = omega arith }
  follow-never i j (on t) go h more = more t

  never : (left i j : ℕ) (s : State) → i ≤ j → j < i + left → UsesByte (record_at job j) → NeverRead j (one_records axes mode job (record_at job i) left i s)
  never zero i j s h l u = absurd (omega arith)
  never (suc left) i j s h l u =
      ⊎_elim (λ (d : i < j).
      subst (λ (o : Outcome). NeverRead j o) (sym (then_is left i s))
      (follow-never i j (one_step axes mode job (record_at job i) i s) _ h (λ t. never left (i + 1) j t (omega arith) (omega arith) u)))
      (λ (d : j ≤ i).
      let e : j ≡ i = omega arith in
      record { number = not_zero; place = i; is = then-stops left i s (subst (λ (k : ℕ). UsesByte (record_at job k)) e u); soon = omega arith })
      (lt-or-ge i j)

  -- THE THEOREM: a job that uses the new byte was refused, at the record that does or before it
  pub never-read : (n j : ℕ) → j < n → UsesByte (record_at job j) → NeverRead j (then_read axes mode job n)
  never-read n j h u = never n 0 j in_axes (omega arith) (omega arith) u
