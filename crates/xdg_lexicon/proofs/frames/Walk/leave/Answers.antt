use Rattle.std.proofs.Common.{arith, ap, subst}
use Rattle.xdg_classes.specs.Bodies.{body}
use Rattle.xdg_lexicon.specs.Frames.{Leaves}
use Rattle.xdg_lexicon.specs.Weights.{heavy}
use Rattle.xdg_lexicon.proofs.Framed.{popped}
use Rattle.xdg_lexicon.proofs.frames.Walk.leave.Goals as goal
use Rattle.xdg_facts.proofs.Options.{if_ok}

pub list-requires : goal.list-requires
list-requires c =
    record { leaves = subst (λ fs. Leaves c.args.checked.now (body c.args.self.now.whole.now) fs c.args.self.now.scope c.args.made.items) (popped c.args.self.now.frames.items c.pop.new.self.items c.in-Some.frame _ c.in-Some.ensures.items c.in-Listing.is) c.requires.leaves }

pub join-requires : goal.join-requires
join-requires c =
    record { leaves = subst (λ fs. Leaves c.args.checked.now (body c.args.self.now.whole.now) fs c.args.self.now.scope c.args.made.items) (popped c.args.self.now.frames.items c.pop.new.self.items c.in-Some.frame _ c.in-Some.ensures.items c.in-Joining.is) c.requires.leaves }

pub returns-in-Listing-clause-less : goal.returns-in-Listing-clause-less
returns-in-Listing-clause-less c =
    let was = ap (λ fs. heavy c.args.checked.now fs c.args.self.now.scope.depth) (popped c.args.self.now.frames.items c.pop.new.self.items c.in-Some.frame _ c.in-Some.ensures.items c.in-Listing.is) in
    if_ok _ _ c.list.result (λ made less. omega (arith, less, was)) c.list.ensures.less

pub returns-in-Joining-clause-less : goal.returns-in-Joining-clause-less
returns-in-Joining-clause-less c =
    let was = ap (λ fs. heavy c.args.checked.now fs c.args.self.now.scope.depth) (popped c.args.self.now.frames.items c.pop.new.self.items c.in-Some.frame _ c.in-Some.ensures.items c.in-Joining.is) in
    if_ok _ _ c.join.result (λ made less. omega (arith, less, was)) c.join.ensures.less
