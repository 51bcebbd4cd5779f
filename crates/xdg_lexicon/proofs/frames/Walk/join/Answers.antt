use Rattle.std.proofs.Common.{◌≡◌, ◌<◌, ◌+◌, ◌-◌, ◌∙◌, length, get_or, arith, ap, sym, subst}
use Rattle.std.proofs.lemmas.List.{get_or_default}
use Rattle.xdg_classes.specs.Bodies.{Expr, body}
use Rattle.xdg_lexicon.specs.declared.frames.Frame.TheVariants as frame
use Rattle.xdg_lexicon.specs.Frames.{open_in}
use Rattle.xdg_lexicon.specs.Partial.{ArePartial}
use Rattle.xdg_lexicon.specs.Weights.{heavy, sized}
use Rattle.xdg_lexicon.proofs.Framed.{opened, pushed, all_joined, next_joined}
use Rattle.xdg_lexicon.proofs.Weighed.{to_last}
use Rattle.xdg_lexicon.proofs.frames.Walk.join.Goals.{After-dims-dims}
use Rattle.xdg_lexicon.proofs.frames.Walk.join.Goals as goal
use Rattle.xdg_facts.proofs.Options.{if_ok}

-- the dimensions are those of the table
dims_are : (c : After-dims-dims) → c.dims-dims.result.now ≡ c.args.checked.now.types.dims
dims_are c = c.dims-dims.ensures.same ∙ ap (λ ty. ty.dims) c.types.ensures.same

pub join_all-requires-clause-first : goal.join_all-requires-clause-first
join_all-requires-clause-first c = subst (λ ds. ArePartial ds c.args.made.items) (sym (dims_are (goal.at.join_all-requires-clause-first c).After-dims-dims)) c.requires.leaves.partial

pub join_all-requires-clause-second : goal.join_all-requires-clause-second
join_all-requires-clause-second c = subst (λ ds. ArePartial ds c.args.joined.items) (sym (dims_are (goal.at.join_all-requires-clause-second c).After-dims-dims)) c.requires.leaves.around.0.so_far.1.1

pub returns-then-place-eq0-clause-leaves : goal.returns-then-place-eq0-clause-leaves
returns-then-place-eq0-clause-leaves c =
    let l = c.requires.leaves in
    let dims = dims_are (goal.at.returns-then-place-eq0-clause-leaves c).After-dims-dims in
    all_joined _ _ l.denotes l.around.0 l.around.1 (rw dims at c.in_ok-both.ensures.joins) (rw dims at c.in_ok-both.ensures.partial) (let past = c.if-place-eq0.true in omega (arith, past))

pub enter-requires : goal.enter-requires
enter-requires c =
    let l = c.requires.leaves in
    let whole = body c.args.self.now.whole.now in
    let walk = c.args.self.now in
    let items = c.args.members.now in
    let next = c.args.place - 1 in
    let before : next + 1 ≡ c.args.place = (let some = c.if-place-eq0.false in omega (arith, some)) in
    let inside : next < length items = (let within = l.around.0.open_at.within in omega (arith, within)) in
    let e : Expr = get_or items next c.index-members-next.result in
    let at : e ≡ get_or items next e = get_or_default items next c.index-members-next.result e inside in
    let dims = dims_are (goal.at.enter-requires c).After-dims-dims in
    let further = next_joined whole (open_in walk) l.denotes l.around.0 l.around.1 (rw dims at c.in_ok-both.ensures.joins) (rw dims at c.in_ok-both.ensures.partial) e next before at in
    record { enters = opened walk.frames.items (frame.Joining c.args.members next c.in_ok-both.both) c.in_ok-add.ensures further.0 (further.1, l.around.1) }

pub returns-clause-less : goal.returns-clause-less
returns-clause-less c =
    let checked = c.args.checked.now in
    let walk = c.args.self.now in
    let items = c.args.members.now in
    let next = c.args.place - 1 in
    let before : next + 1 ≡ c.args.place = (let some = c.if-place-eq0.false in omega (arith, some)) in
    let within = c.requires.leaves.around.0.open_at.within in
    let e : Expr = get_or items next c.index-members-next.result in
    let at : e ≡ get_or items next e = get_or_default items next c.index-members-next.result e (omega (arith, within)) in
    let goes = rw before at (to_last (sized checked walk.scope.depth) items next e (omega (arith, within)) at) in
    let opened = ap (λ fs. heavy checked fs walk.scope.depth) (pushed c.add.new.frames.items walk.frames.items (frame.Joining c.args.members next c.in_ok-both.both) c.in_ok-add.ensures) in
    if_ok _ _ c.enter.result (λ made less. omega (arith, less, goes, opened)) c.enter.ensures.less
