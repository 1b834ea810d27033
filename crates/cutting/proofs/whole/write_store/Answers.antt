use Rattle.cutting.proofs.WholeLaws.{header-room, spots-room, list-fits, tables-fit, store-put}
use Rattle.cutting.proofs.whole.write_store.Goals as goal

pub write_header-p-requires : goal.write_header-p-requires
write_header-p-requires c = (header-room c.requires.store_fit.0 c.args.kept c.args.first c.args.out.now c.requires.kept_bound.1 c.requires.kept_bound.2 c.requires.kept_bound.3, c.requires.store_fit.0.few)

pub write_spots-q-requires : goal.write_spots-q-requires
write_spots-q-requires c = record { store_fit = c.requires.store_fit.0; t_in_bounds = spots-room c.requires.store_fit.0 c.args.kept c.args.first c.args.out.now c.requires.kept_bound.1 c.requires.kept_bound.2 c.requires.kept_bound.3 c.write_header-p.ensures }

pub write_list-r-requires : goal.write_list-r-requires
write_list-r-requires c = record { store_value = (c.requires.store_fit.0.header, c.requires.kept_bound.0, c.requires.store_fit.0.room); kept_in_bounds = list-fits c.requires.store_fit.0 c.args.kept c.args.first c.args.out.now c.requires.kept_bound.1 c.requires.kept_bound.2 c.requires.kept_bound.3 c.write_header-p.ensures c.write_spots-q.ensures }

pub write_tables-requires : goal.write_tables-requires
write_tables-requires c = record { store_fit = (c.requires.store_fit.0, c.requires.store_fit.1); t_in_bounds = tables-fit c.requires.store_fit.0 c.args.kept c.args.first c.args.out.now c.requires.kept_bound.1 c.requires.kept_bound.2 c.requires.kept_bound.3 c.write_header-p.ensures c.write_spots-q.ensures c.write_list-r.ensures }

pub returns : goal.returns
returns c = store-put c.requires.store_fit.0 c.args.kept c.args.first c.args.out.now c.requires.kept_bound.1 c.requires.kept_bound.2 c.requires.kept_bound.3 c.write_header-p.ensures c.write_spots-q.ensures c.write_list-r.ensures c.write_tables.ensures
