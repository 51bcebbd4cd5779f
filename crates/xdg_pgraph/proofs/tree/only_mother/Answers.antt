use Rattle.std.proofs.Common.{◌≡◌, ◌∙◌, ℕ, ◌∷◌, List, ap, false, refl, sym, subst}
use Rattle.xdg_facts.specs.Rises.{has}
use Rattle.xdg_rules.specs.Rules.{OnlyMother, may_edges}
use Rattle.xdg_propcore.specs.Passes.{Clears}
use Rattle.xdg_pgraph.specs.Seeking.{Only}
use Rattle.xdg_facts.proofs.Rising.{head_in, tail_in}
use Rattle.xdg_pgraph.proofs.Ruled.{nodes_all}
use Rattle.xdg_pgraph.proofs.Single.{only_daughter, only_start, only_turn}
use Rattle.xdg_pgraph.proofs.tree.only_mother.Goals as goal

pub loop-daughter-init : goal.loop-daughter-init
loop-daughter-init c =
    let s0 = c.args.store.now in
    let single_is = c.into_iter-daughter-iterator.ensures.into_iter_gives ∙ c.iter-daughter-items.ensures.value in (
      tt,
      tt,
      (λ v h. h),
      (λ root there. only_start c.args.plane.now c.args.pass.now c.args.pass.now c.args.pass.now s0 s0 s0 root there c.into_iter-daughter-iterator.result (λ v out. c.requires.single v (ap (λ (s : List ℕ). has s v) (sym single_is) ∙ out))),
      refl,
      c.requires.known,
    )

pub force_entering-requires-clause-daughter : goal.force_entering-requires-clause-daughter
force_entering-requires-clause-daughter c =
    let v = c.in-Some.daughter.0 in
    let single_is = c.into_iter-daughter-iterator.ensures.into_iter_gives ∙ c.iter-daughter-items.ensures.value in
    c.requires.within v (ap (λ (s : List ℕ). has s v) (sym single_is) ∙ c.loop-daughter.invariant.2 v (head_in c.loop-daughter.daughter-iterator c.next.new.self v c.in-Some.ensures.steps))

pub loop-daughter-preserved : goal.loop-daughter-preserved
loop-daughter-preserved c =
    let s0 = c.args.store.now in
    let plane = c.args.plane.now in
    let v = c.in-Some.daughter.0 in
    let same = c.loop-daughter.invariant.4 in
    let first : c.loop-daughter.daughter-iterator ≡ v ∷ c.next.new.self = c.in-Some.ensures.steps in (
      tt,
      tt,
      (λ w h. c.loop-daughter.invariant.2 w (tail_in c.loop-daughter.daughter-iterator c.next.new.self v w first h)),
      (λ root there. only_turn plane c.args.pass.now c.loop-daughter.pass c.force_entering.new.pass s0 c.loop-daughter.store c.force_entering.new.store root there c.loop-daughter.daughter-iterator c.next.new.self v first c.requires.plane same c.loop-daughter.invariant.5
          (c.loop-daughter.invariant.3 root there)
          (subst (λ z. Clears (Only z (may_edges z c.loop-daughter.store.now plane.dim.0) v) c.loop-daughter.pass c.loop-daughter.store c.force_entering.new.pass c.force_entering.new.store) same c.force_entering.ensures.clears)),
      c.force_entering.ensures.clears.same ∙ same,
      c.force_entering.ensures.known,
    )

pub returns-clause-runs : goal.returns-clause-runs
returns-clause-runs c root there =
    nodes_all OnlyMother only_daughter c.args.plane.now.dim.0 c.args.pass.now c.loop-daughter.pass c.args.store.now c.loop-daughter.store (λ n. has c.loop-daughter.daughter-iterator n ≡ false) (λ group on d v rule. ap (λ (s : List ℕ). has s rule.place.daughter.0) c.in-None.ensures.steps.0) (c.loop-daughter.invariant.3 root there)
