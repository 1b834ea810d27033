use mathlib.Core.Path.{◌≡◌}
use Prim.Native.Nat.{◌+◌}
use lib.ListN.{length}
use Rattle.widths.proofs.WriteLaws.{front-put}
use Rattle.widths.proofs.write.write_front.Goals as goal

pub returns : goal.returns
returns c =
    let e : c.copy.result ≡ 20 + length c.args.store.now = c.copy.ensures.end in
    front-put _ _ _ _ _ c.requires c.put_head.ensures (rw e at c.copy.ensures)
