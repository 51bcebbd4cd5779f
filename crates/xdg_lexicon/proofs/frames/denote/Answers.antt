use Rattle.std.proofs.Common.{◌<◌, ◌∙◌, length, vec_len, arith, sym, subst}
use Rattle.xdg_classes.specs.Bodies.{body}
use Rattle.xdg_lexicon.specs.Frames.{open_in, Leaves}
use Rattle.xdg_lexicon.proofs.Framed.{begun, ended}
use Rattle.xdg_lexicon.proofs.Weighed.{some_weighs}
use Rattle.xdg_lexicon.proofs.frames.denote.Goals as goal
use Rattle.xdg_facts.proofs.Numbers.{is_none, is_some}

pub enter-requires : goal.enter-requires
enter-requires c = record { enters = begun c.args.checked.now (body c.args.whole.now) c.new.result.items (record { bindings = c.new-bindings.result; depth = c.args.depth }) c.new.ensures.items c.new-bindings.ensures c.requires.within c.requires.ranked c.requires.right }

pub leave-requires : goal.leave-requires
leave-requires c = record { leaves = subst (λ b. Leaves c.args.checked.now b (open_in c.walk.walk) c.walk.walk.scope c.walk.made.items) (sym c.walk.invariant.0) c.walk.invariant.1 }

pub walk-smaller : goal.walk-smaller
walk-smaller c =
    let less = c.in_ok-made-2.ensures.less in
    let some : 0 < length c.walk.walk.frames.items = (let n = is_some (vec_len c.walk.walk.frames) c.is_empty.result c.is_empty.ensures c.walk-test.true in let ok = c.walk.walk.frames.ok in omega (arith, n, ok)) in
    let weight = some_weighs c.args.checked.now c.walk.walk.frames.items c.walk.walk.scope.depth some in
    omega (arith, less, weight)

pub walk-preserved : goal.walk-preserved
walk-preserved c = (
  c.in_ok-made-2.ensures.same ∙ c.walk.invariant.0,
  subst (λ b. Leaves c.args.checked.now b (open_in c.leave.new.self) c.leave.new.self.scope c.in_ok-made-2.made.items) c.walk.invariant.0 c.in_ok-made-2.ensures.leaves,
)

pub returns-clause-denotes : goal.returns-clause-denotes
returns-clause-denotes c = (ended c.args.checked.now (body c.args.whole.now) c.walk.walk.frames.items c.walk.walk.scope c.walk.made.items (let n = is_none (vec_len c.walk.walk.frames) c.is_empty.result c.is_empty.ensures c.walk-test.false in let ok = c.walk.walk.frames.ok in omega (arith, n, ok)) c.walk.invariant.1).0

pub returns-clause-partial : goal.returns-clause-partial
returns-clause-partial c = (ended c.args.checked.now (body c.args.whole.now) c.walk.walk.frames.items c.walk.walk.scope c.walk.made.items (let n = is_none (vec_len c.walk.walk.frames) c.is_empty.result c.is_empty.ensures c.walk-test.false in let ok = c.walk.walk.frames.ok in omega (arith, n, ok)) c.walk.invariant.1).1
