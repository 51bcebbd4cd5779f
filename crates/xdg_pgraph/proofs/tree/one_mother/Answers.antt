use Rattle.std.proofs.Common.{◌≡◌, ◌∙◌, ℕ, ◌∷◌, List, ap, false, refl, subst}
use Rattle.xdg_facts.specs.Rises.{has}
use Rattle.xdg_rules.specs.Rules.{OneMother, must_edges}
use Rattle.xdg_propcore.specs.Passes.{Clears}
use Rattle.xdg_pgraph.specs.Seeking.{Aims, Finds, Into, ToNode}
use Rattle.xdg_pgraph.proofs.Beside.{its_daughter, one_mother_start, one_mother_turn}
use Rattle.xdg_pgraph.proofs.Ruled.{nodes_all}
use Rattle.xdg_facts.proofs.Rising.{tail_in}
use Rattle.xdg_pgraph.proofs.Skipped.{crowded_within, stays_both}
use Rattle.xdg_pgraph.proofs.tree.one_mother.Goals as goal

pub loop-daughter-init : goal.loop-daughter-init
loop-daughter-init c =
    let s0 = c.args.store.now in
    let crowded_is = c.into_iter-daughter-iterator.ensures.into_iter_gives ∙ c.iter-daughter-items.ensures.value in (
      tt,
      tt,
      (λ v h. h),
      one_mother_start c.args.plane.now.dim.0 c.args.pass.now s0 c.args.incoming.now.must c.args.incoming.now.may c.into_iter-daughter-iterator.result c.requires.incoming.must c.requires.incoming.may (λ n. ap (λ (s : List ℕ). has s n) crowded_is ∙ c.meet-crowded.ensures.members n),
      refl,
      c.requires.known,
      (λ z. (z, refl)),
    )

pub entering-musts-requires-clause-daughter : goal.entering-musts-requires-clause-daughter
entering-musts-requires-clause-daughter c = crowded_within c.args.store.now.parts c.args.store.now.now c.args.plane.now c.args.incoming.now.must c.args.incoming.now.may c.into_iter-daughter-iterator.result c.loop-daughter.daughter-iterator c.next.new.self c.in-Some.daughter.0 c.requires.plane c.requires.incoming.must
    (λ n. ap (λ (s : List ℕ). has s n) (c.into_iter-daughter-iterator.ensures.into_iter_gives ∙ c.iter-daughter-items.ensures.value) ∙ c.meet-crowded.ensures.members n) c.loop-daughter.invariant.2 c.in-Some.ensures.steps

pub forbid_entering-requires-clause-daughter : goal.forbid_entering-requires-clause-daughter
forbid_entering-requires-clause-daughter c = crowded_within c.args.store.now.parts c.args.store.now.now c.args.plane.now c.args.incoming.now.must c.args.incoming.now.may c.into_iter-daughter-iterator.result c.loop-daughter.daughter-iterator c.next.new.self c.in-Some.daughter.0 c.requires.plane c.requires.incoming.must
    (λ n. ap (λ (s : List ℕ). has s n) (c.into_iter-daughter-iterator.ensures.into_iter_gives ∙ c.iter-daughter-items.ensures.value) ∙ c.meet-crowded.ensures.members n) c.loop-daughter.invariant.2 c.in-Some.ensures.steps

pub loop-daughter-preserved : goal.loop-daughter-preserved
loop-daughter-preserved c =
    let s0 = c.args.store.now in
    let plane = c.args.plane.now in
    let v = c.in-Some.daughter.0 in
    let found = c.entering-musts.result in
    let same = c.loop-daughter.invariant.4 in
    let first : c.loop-daughter.daughter-iterator ≡ v ∷ c.next.new.self = c.in-Some.ensures.steps in (
      tt,
      tt,
      (λ w h. c.loop-daughter.invariant.2 w (tail_in c.loop-daughter.daughter-iterator c.next.new.self v w first h)),
      one_mother_turn plane.dim.0 c.args.pass.now c.loop-daughter.pass c.forbid_entering.new.pass s0 c.loop-daughter.store c.forbid_entering.new.store c.loop-daughter.daughter-iterator c.next.new.self v found first
          (subst (λ z. Finds (Into (must_edges z c.loop-daughter.store.now plane.dim.0) v) found) same c.entering-musts.ensures)
          c.loop-daughter.invariant.3
          (subst (λ z. Clears (Aims z plane.dim.0 found (ToNode v)) c.loop-daughter.pass c.loop-daughter.store c.forbid_entering.new.pass c.forbid_entering.new.store) same c.forbid_entering.ensures.clears),
      c.forbid_entering.ensures.clears.same ∙ same,
      c.forbid_entering.ensures.known,
      stays_both c.args.pass.now c.loop-daughter.pass c.forbid_entering.new.pass s0 c.loop-daughter.store c.forbid_entering.new.store c.loop-daughter.invariant.6 c.forbid_entering.ensures.clears.quiet,
    )

pub returns-clause-runs : goal.returns-clause-runs
returns-clause-runs c =
    nodes_all OneMother its_daughter c.args.plane.now.dim.0 c.args.pass.now c.loop-daughter.pass c.args.store.now c.loop-daughter.store (λ n. has c.loop-daughter.daughter-iterator n ≡ false) (λ group on d v rule. ap (λ (s : List ℕ). has s rule.place.daughter.0) c.in-None.ensures.steps.0) c.loop-daughter.invariant.3
