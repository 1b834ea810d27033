use mathlib.Core.Path.{sym, ◌∙◌}
use native.Mathlib.Omega.{arith}
use Rattle.comparing.proofs.WalkLaws.{walk-done, next-less, next_more, next-same}
use Rattle.comparing.proofs.along.Goals as goal

pub returns-then-s : goal.returns-then-s
returns-then-s c = sym (c.loop-m.invariant.same ∙ next-less c.next-s.ensures (omega arith))

pub returns-then-s-2 : goal.returns-then-s-2
returns-then-s-2 c = sym (c.loop-m.invariant.same ∙ next_more c.next-s.ensures (omega arith))

pub loop-m-preserved : goal.loop-m-preserved
loop-m-preserved c =
    record {
      left = omega arith;
      right = omega arith;
      same = c.loop-m.invariant.same ∙ next-same c.next-s.ensures (omega arith);
    }

pub returns : goal.returns
returns c = sym (c.loop-m.invariant.same ∙ walk-done _ _ _ _ _ (omega arith))
