use Rattle.std.proofs.Common.{List, ◌≡◌, ◌++◌, sym, subst}
use Rattle.xdg_lexicon.specs.Denotes.{JoinsEach, no_first}
use Rattle.xdg_lexicon.specs.Partial.{Partial, IsPartial, ArePartial}
use Rattle.xdg_lexicon.proofs.Joining.{one_of, all_further}
use Rattle.xdg_lexicon.proofs.conjunction.join_lists.Goals as goal

pub loop-one-init : goal.loop-one-init
loop-one-init c = rw c.new-made.ensures.items (no_first c.args.second.now, tt)

pub join_each-requires-clause-one : goal.join_each-requires-clause-one
join_each-requires-clause-one c = subst (IsPartial c.args.dims.now) (sym c.as_slice.ensures) (one_of c.args.dims.now c.args.first.now c.loop-one.one-index c.one-item.result c.loop-one-test.true c.one-item.is c.requires.first)

pub loop-one-preserved : goal.loop-one-preserved
loop-one-preserved c =
    all_further c.args.dims.now c.args.first.now c.args.second.now c.loop-one.one-index c.loop-one.made.items c.one-item.result c.join_each.new.made.items c.loop-one-test.true c.one-item.is c.loop-one.invariant
    (subst (λ m. (js : List Partial) × ((c.join_each.new.made.items ≡ c.loop-one.made.items ++ js) × (JoinsEach c.args.dims.now m c.args.second.now js × ArePartial c.args.dims.now js))) c.as_slice.ensures c.in_ok-join_each.ensures)
