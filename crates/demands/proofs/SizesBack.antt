-- D3's size after merging is that of the groups that are written (specs/Sized.antt): the rule's (Demand3) is that of
-- the sets (`sizes`). Assumes nothing.
use mathlib.Core.Path.{◌≡◌, refl, ap}
use native.Mathlib.Omega.{arith}
use lib.ListN.{length}
use Rattle.laws.specs.Bag.{weigh}
use Rattle.groups.specs.Groups.{groups_of}
use Rattle.rule.specs.Model.{merged, total}
use Rattle.said.specs.Job.{Said}
use Rattle.encoder.specs.Packed.{Packed, shared}
use Rattle.sizes.specs.Sizes.{cost_of}
use Rattle.sizes.proofs.Counted.{sizes}
use Rattle.finishing.specs.declared.answers.Report.{Report}
use Rattle.finishing.specs.Answers.{Done}
use Rattle.call.specs.Lending.{Lending}
use Rattle.call.specs.Build.{answer_of}
use Rattle.demands.specs.Sized.{Sized}
use Rattle.accepted.proofs.Accepted.{shared-is}
use Rattle.demands.proofs.Demand3.{demand3}

shared-after : (s : Said) → (shared (length s.used) s.sets).after ≡ total (merged (groups_of (length s.used) s.sets)).living
unfolding shared
shared-after s = refl

-- THE LAW
pub sized : (c : Lending) (r : Report) → c.mode ≡ 0 → answer_of c ≡ Done r → Sized c r
sized c r m e =
    let d = demand3 c r m e in
    let s = d.said in
    let z = sizes (length s.used) s.sets in
    record {
      said = s;
      said-is = d.said-is;
      counted = z;
      after_is = omega (arith, d.rule.after_is, shared-after s, z.after_is, ap (λ (p : Packed). weigh cost_of p.finals) (shared-is s));
    }
