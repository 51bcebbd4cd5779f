use Rattle.std.proofs.Common.{◌≡◌, ◌<◌, ◌+◌, length, get_or, arith, ap}
use Rattle.std.proofs.lemmas.List.{get_or_default}
use Rattle.xdg_classes.specs.Bodies.{Expr, body}
use Rattle.xdg_lexicon.specs.declared.frames.Frame.TheVariants as frame
use Rattle.xdg_lexicon.specs.Frames.{open_in}
use Rattle.xdg_lexicon.specs.Weights.{heavy, sized}
use Rattle.xdg_lexicon.proofs.Framed.{opened, pushed, all_listed, next_listed}
use Rattle.xdg_lexicon.proofs.Weighed.{from_first}
use Rattle.xdg_lexicon.proofs.frames.Walk.list.Goals as goal
use Rattle.xdg_facts.proofs.Options.{if_ok}

pub overflow_add-next : goal.overflow_add-next
overflow_add-next c =
    let within = c.requires.leaves.around.0.open_at.within in
    let b = c.well_formed in
    omega (arith, within, b)

pub returns-then-next-members-clause-leaves : goal.returns-then-next-members-clause-leaves
returns-then-next-members-clause-leaves c =
    let l = c.requires.leaves in
    all_listed _ _ l.denotes l.partial l.around.0 l.around.1 c.in_ok-append.ensures.items (let past = c.if-next-members.true in omega (arith, past))

pub bounds-members-next : goal.bounds-members-next
bounds-members-next c =
    let within = c.requires.leaves.around.0.open_at.within in
    let past = c.if-next-members.false in
    omega (arith, within, past)

pub enter-requires : goal.enter-requires
enter-requires c =
    let l = c.requires.leaves in
    let whole = body c.args.self.now.whole.now in
    let walk = c.args.self.now in
    let items = c.args.members.now in
    let next = c.args.place + 1 in
    let inside : next < length items = (let within = l.around.0.open_at.within in let past = c.if-next-members.false in omega (arith, within, past)) in
    let e : Expr = get_or items next c.index-members-next.result in
    let at : e ≡ get_or items next e = get_or_default items next c.index-members-next.result e inside in
    let further = next_listed whole (open_in walk) l.denotes l.partial l.around.0 l.around.1 c.in_ok-append.ensures.items e inside at in
    record { enters = opened walk.frames.items (frame.Listing c.args.members next c.append.new.self) c.in_ok-add.ensures further.0 (further.1, l.around.1) }

pub returns-clause-less : goal.returns-clause-less
returns-clause-less c =
    let checked = c.args.checked.now in
    let walk = c.args.self.now in
    let items = c.args.members.now in
    let next = c.args.place + 1 in
    let inside : next < length items = (let within = c.requires.leaves.around.0.open_at.within in let past = c.if-next-members.false in omega (arith, within, past)) in
    let e : Expr = get_or items next c.index-members-next.result in
    let at : e ≡ get_or items next e = get_or_default items next c.index-members-next.result e inside in
    let goes = from_first (sized checked walk.scope.depth) items next e inside at in
    let opened = ap (λ fs. heavy checked fs walk.scope.depth) (pushed c.add.new.frames.items walk.frames.items (frame.Listing c.args.members next c.append.new.self) c.in_ok-add.ensures) in
    if_ok _ _ c.enter.result (λ made less. omega (arith, less, goes, opened)) c.enter.ensures.less
