use native.Mathlib.Omega.{arith}
use mathlib.Core.Path.{sym, ◌∙◌}
use Rattle.reader.proofs.StoreLaws.{header-fits}
use Rattle.recoverer.proofs.Steps.{head_of, none-once, sort-room}
use Rattle.recoverer.proofs.all_once.Goals as goal

pub be-list-requires : goal.be-list-requires
be-list-requires c =
    let f = header-fits _ c.requires.0 in
    record { k_bound = omega arith; k_in_bounds = omega (arith, f.head) }

pub be-axes-requires : goal.be-axes-requires
be-axes-requires c =
    let f = header-fits _ c.requires.0 in
    record { k_bound = omega arith; k_in_bounds = omega (arith, f.list, c.be-list.ensures.is) }

pub be-n-requires : goal.be-n-requires
be-n-requires c =
    let f = header-fits _ c.requires.0 in
    record { k_bound = omega arith; k_in_bounds = omega (arith, f.list, c.be-list.ensures.is) }

pub returns-then-axes-eq0 : goal.returns-then-axes-eq0
returns-then-axes-eq0 c =
    let h = head_of _ _ _ _ c.be-list.ensures.is c.be-axes.ensures.is c.be-n.ensures.is in
    none-once _ (sym h.axes-is ∙ c.if-axes-eq0.true) _ h.count-is

pub list_order-requires : goal.list_order-requires
list_order-requires c =
    let h = head_of _ _ _ _ c.be-list.ensures.is c.be-axes.ensures.is c.be-n.ensures.is in
    record { store_value = c.requires.0; store_in_bounds = sort-room _ _ _ _ _ c.requires.0 h c.requires.1 c.if-axes-eq0.false }
