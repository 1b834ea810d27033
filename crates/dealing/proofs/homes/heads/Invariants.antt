use Rattle.std.proofs.Common.{◌≡◌, ℕ, ◌+◌, ◌*◌, ◌≤◌, ◌<◌, length, get_or}
use Rattle.dealing.proofs.homes.heads.Given as goal

abbrev pub invariant-loop-p : goal.invariant-loop-p
invariant-loop-p l = record {
  at : (q : ℕ) → q < l.p → get_or l.finals (3 * q) 0 ≡ l.slots + get_or l.order q 0 * l.regions;
  behind : (k : ℕ) → 3 * length l.order ≤ k → get_or l.finals k 0 ≡ get_or l.initial.finals k 0;
}
