use mathlib.Core.Path.{refl}
use Rattle.job.specs.Lent.{set_tables_at}
use Rattle.job.proofs.whole.tables_at.Goals as goal

pub returns : goal.returns
unfolding set_tables_at
returns c = refl
