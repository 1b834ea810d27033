-- The modelled size after merging, of a done build in mode 0: what the groups that are written cost, each by its own number of rows. Assumes nothing.
use Rattle.std.specs.Prelude.{◌≡◌, length}
use Rattle.laws.specs.Bag.{weigh}
use Rattle.said.specs.Job.{Said, fine}
use Rattle.sizes.specs.Sizes.{cost_of, Sizes}
use Rattle.finishing.specs.declared.answers.Report.{Report}
use Rattle.call.specs.Lending.{Lending}
use Rattle.call.specs.Build.{packed_of, outcome_of}

pub record Sized (c : Lending) (r : Report) : Type 0 where
  pub said : Said
  pub said-is : outcome_of c ≡ fine said
  -- the rule's groups count the job's sets, from the starting groups to the final ones
  pub counted : Sizes (length said.used) said.sets
  -- the answer's size after merging is what the final groups cost by their own ids
  pub after_is : r.after ≡ weigh cost_of (packed_of 0 said).finals
