-- D1 (specs/Demand1.antt), of every call. Assumes nothing.
use mathlib.Core.Logic.{inl, inr, ⊎_elim}
use Prim.Native.Nat.{◌≤◌}
use native.Mathlib.Omega.{arith}
use Rattle.call.specs.Lending.{Lending}
use Rattle.demands.specs.Demand1.{Table, Kept, Demand1}
use Rattle.packer.proofs.Unique.{unique}
use Rattle.demands.proofs.OutcomeRows.{numbers}
use Rattle.demands.proofs.EarlyRows.{bad-axes, bad-mode, bad-job-length, work-short}
use Rattle.demands.proofs.RecordRows.{earliest-bad, old-five, unknown-kind, not-zero, byte-elsewhere, axis-out-of-turn, axis-too-late, region-unfinished, unknown-region, region-twice, sets-full}
use Rattle.demands.proofs.EndRow.{unfinished, taken}
use Rattle.demands.proofs.LateRows.{shapes-full, ids-short, map-short, log-short, origins-short, store-too-big, out-short, is-done}
use Rattle.demands.proofs.Buffers.{untouched, work-kept, pairs-kept, work-cleared, pairs-cleared, work-done, pairs-done}
use Rattle.demands.proofs.PastBack.{past-kept}

module _ (c : Lending) where
  table : Table c
  table = record {
    bad-axes = bad-axes c;
    bad-mode = bad-mode c;
    bad-job-length = bad-job-length c;
    work-short = work-short c;
    unknown-kind = unknown-kind c;
    not-zero = not-zero c;
    axis-out-of-turn = axis-out-of-turn c;
    axis-too-late = axis-too-late c;
    region-unfinished = region-unfinished c;
    unknown-region = unknown-region c;
    region-twice = region-twice c;
    unfinished = unfinished c;
    sets-full = sets-full c;
    shapes-full = shapes-full c;
    ids-short = ids-short c;
    map-short = map-short c;
    log-short = log-short c;
    origins-short = origins-short c;
    store-too-big = store-too-big c;
    out-short = out-short c;
    is-done = is-done c;
    numbers = λ n p e. let h = numbers c n p e in (h.0, h.1, ⊎_elim (λ (l : n ≤ 14). inl (omega arith)) inr h.2);
    byte-elsewhere = λ n p. byte-elsewhere c p n;
    taken = taken c;
    earliest = earliest-bad c;
    old-five = old-five c;
  }

  kept : Kept c
  kept = record {
    untouched = untouched c;
    work-kept = work-kept c;
    pairs-kept = pairs-kept c;
    work-cleared = work-cleared c;
    pairs-cleared = pairs-cleared c;
    work-done = work-done c;
    pairs-done = pairs-done c;
    past-kept = past-kept c;
  }

  -- THE LAW
  pub demand1 : Demand1 c
  demand1 = record { table = table; kept = kept; unique = λ p q. unique p q }
