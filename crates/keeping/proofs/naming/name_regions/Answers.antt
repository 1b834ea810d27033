use native.Mathlib.Omega.{arith}
use Rattle.reader.proofs.StoreLaws.{header-fits}
use Rattle.keeping.proofs.RegionLaws.{fit₁, zeros₁, regions-named}
use Rattle.keeping.proofs.naming.name_regions.Goals as goal

pub be-list-requires : goal.be-list-requires
be-list-requires c = record { k_bound = omega arith; k_in_bounds = omega (arith, header-fits _ c.requires.header) }

pub be-regions-requires : goal.be-regions-requires
be-regions-requires c = record { k_bound = omega arith; k_in_bounds = omega (arith, header-fits _ c.requires.header, c.be-list.ensures.is) }

pub mark_tables-requires : goal.mark_tables-requires
mark_tables-requires c = record { store_fit = fit₁ c.requires _ _ c.be-list.ensures.is c.be-regions.ensures.is c.zero_part.ensures; by_index = zeros₁ c.requires _ _ c.be-list.ensures.is c.be-regions.ensures.is c.zero_part.ensures }

pub returns : goal.returns
returns c = regions-named c.requires _ _ c.be-list.ensures.is c.be-regions.ensures.is c.zero_part.ensures c.mark_tables.ensures c.number.ensures
