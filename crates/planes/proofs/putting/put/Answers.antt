use Rattle.planes.proofs.PutLaws.{put-done}
use native.Mathlib.Omega.{arith}
use Rattle.planes.proofs.putting.put.Goals as goal

pub returns : goal.returns
returns c = put-done c.args.work.now c.args.at c.args.words c.args.region c.args.cost (omega arith) (omega arith) c.requires.cost _ _ _ c.flag.ensures c.flag-2.ensures c.flag-3.ensures
