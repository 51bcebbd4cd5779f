use Rattle.std.proofs.Common.{◌≤◌, ◌∙◌, [], length, sym, subst}
use Rattle.xdg_classes.specs.Bodies.{body}
use Rattle.xdg_check.specs.Checked.{named_bodies}
use Rattle.xdg_check.specs.Counts.{combos}
use Rattle.xdg_lexicon.specs.Denotes.{IsRanked}
use Rattle.xdg_lexicon.proofs.Bounded.{few, entry_ranked}
use Rattle.xdg_lexicon.proofs.Once.{once, bodies_differ}
use Rattle.xdg_lexicon.proofs.Settled.{entry_right}
use Rattle.xdg_lexicon.proofs.denoting.members.Goals as goal

pub denote-requires-clause-ranked : goal.denote-requires-clause-ranked
denote-requires-clause-ranked c =
    let entry = c.requires.entry in
    subst (λ order. IsRanked c.args.checked.now (length order) (body c.args.expr.now.kind)) (sym c.order-order.ensures.same) (entry_ranked c.args.checked.now entry.0 c.args.expr.now c.order-order.ensures.keeps entry.1.0 entry.1.1)

pub returns-clause-few : goal.returns-clause-few
returns-clause-few c names agrees =
    subst (λ made. length made ≤ combos names (body c.args.expr.now.kind)) (sym c.from_vec.ensures) (few c.args.checked.now names agrees [] (body c.args.expr.now.kind) c.in_ok-made.made.items c.in_ok-made.ensures.denotes)

pub denote-requires-clause-right : goal.denote-requires-clause-right
denote-requires-clause-right c =
    let entry = c.requires.entry in
    entry_right c.args.checked.now entry.0 c.args.expr.now c.order-order.ensures.keeps entry.1.0 entry.1.1

pub returns-clause-once : goal.returns-clause-once
returns-clause-once c others d =
    let keeps = c.order-order.ensures.keeps in
    once c.args.checked.now.types.dims (named_bodies c.args.checked.now.classes) keeps.types.dims (bodies_differ c.args.checked.now.classes keeps.names)
    [] (body c.args.expr.now.kind) c.in_ok-made.made.items others c.in_ok-made.ensures.denotes d ∙ sym c.from_vec.ensures
