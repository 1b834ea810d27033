use Rattle.planes.proofs.PutLaws.{flag-some, flag-none}
use native.Mathlib.Omega.{arith}
use Rattle.planes.proofs.putting.flag.Goals as goal

pub returns-then-cost-least : goal.returns-then-cost-least
returns-then-cost-least c = flag-none c.args.least c.args.cost c.args.place (omega arith)

pub returns : goal.returns
returns c = flag-some c.args.least c.args.cost c.args.place (omega arith) (omega arith)
