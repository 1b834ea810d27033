-- The draft of a store, step by step: the marks cleared, the groups' regions marked, the numbers written behind them. Assumes nothing.
use mathlib.Core.Path.{◌≡◌, sym, ap, subst, ◌∙◌}
use mathlib.Core.List.{List, [], ◌∷◌}
use Prim.Native.Nat.{ℕ, ◌+◌, ◌*◌, ◌≤◌, ◌<◌}
use native.Mathlib.Omega.{arith}
use lib.ListN.{length, get_or, take}
use Rattle.laws.specs.LentRange.{Only, Zeroed, seg}
use Rattle.laws.proofs.RangeLaws.{length-seg, only-seg, only-trans, only-widen}
use Rattle.laws.proofs.ZeroLaws.{zeroed-part}
use Rattle.reader.proofs.StoreLaws.{zeros-at}
use Rattle.rows.proofs.InWork.{take-only}
use Rattle.store.specs.Lent.{Drafted, Handed, Marks, NumberedIn, Summed, finals_at, marked_in, sizes_at}
use Rattle.store.proofs.RegionLaws.{kept-most, marks-none}

module _ (regions groups scratch : ℕ) (old a : List ℕ) (room : scratch + regions + regions ≤ length old) (z : Zeroed scratch regions old a) where
  before_same : take scratch a ≡ take scratch old
  before_same = take-only z.only scratch (omega arith) (λ k l. (record { apart = λ q. omega arith }, tt))

  pub still-handed : (index g : ℕ) → Handed regions index (take scratch old) g → Handed regions index (take scratch a) g
  still-handed index g h = subst (λ (w : List ℕ). Handed regions index w g) (sym before_same) h

  pub none-marked : Marks (finals_at regions groups 0 (take scratch a)) (seg scratch regions a)
  none-marked =
      marks-none regions groups (take scratch a) (seg scratch regions a)
      (λ r. ap (λ (l : List ℕ). get_or l r 0) (zeroed-part z (omega arith)) ∙ zeros-at regions r)

  module _ (count kept : ℕ) (b c : List ℕ) (m : Marks (finals_at regions groups count (take scratch a)) (seg scratch regions b))
      (o : Only ((scratch, regions) ∷ []) a b) (n : NumberedIn scratch (scratch + regions) regions b c kept) where
    pub kept-few : kept ≤ regions
    kept-few = omega (arith, n.numbered.all, kept-most (marked_in (seg scratch regions b)) regions)

    pub only-tables : Only ((scratch, 2 * regions) ∷ []) old c
    only-tables =
        only-trans (only-widen scratch (2 * regions) (omega arith) (omega arith) z.only)
        (only-trans (only-widen scratch (2 * regions) (omega arith) (omega arith) o) (only-widen scratch (2 * regions) (omega arith) (omega arith) n.only))

    marks-same : seg scratch regions c ≡ seg scratch regions b
    marks-same = only-seg n.only scratch regions (omega (arith, o.long, z.only.long)) (λ k p q. (record { apart = λ r. omega arith }, tt))

    -- so many bytes, subtables and regions
    pub drafted : (axes bytes runs sum : ℕ) → Summed (sizes_at regions groups count (take scratch old)) sum runs → runs < 65536
        → bytes ≡ 8 + 4 * runs + (4 + 6 * axes * kept) + sum
        → Drafted axes (take scratch old) regions groups count (seg scratch regions c) (seg (scratch + regions) regions c) bytes runs kept
    drafted axes bytes runs sum s few e = record {
      marks-room = omega (arith, length-seg scratch regions c (omega (arith, only-tables.long)));
      numbers-room = omega (arith, length-seg (scratch + regions) regions c (omega (arith, only-tables.long)));
      marked = rw marks-same (subst (λ (w : List ℕ). Marks (finals_at regions groups count w) (seg scratch regions b)) before_same m);
      numbered = rw marks-same n.numbered;
      runs-is = s.runs-is;
      runs-few = few;
      bytes-is = e ∙ ap (λ (x : ℕ). 8 + 4 * runs + (4 + 6 * axes * kept) + x) s.bytes-is;
    }
