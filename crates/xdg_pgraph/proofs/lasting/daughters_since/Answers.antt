use Rattle.std.proofs.Common.{subst}
use Rattle.std.specs.Prelude.{All}
use Rattle.std.proofs.lemmas.Option.{IfSome_then}
use Rattle.std.proofs.lemmas.List.Elements.{All-weaker}
use Rattle.xdg_problem.specs.Arguments.{first_dim}
use Rattle.xdg_propcore.specs.Standing.{box_at}
use Rattle.xdg_pgraph.specs.Musts.{IsLost, IsMustOn}
use Rattle.xdg_pgraph.proofs.MustsStay.{musts_done, rests_but}
use Rattle.xdg_pgraph.proofs.lasting.daughters_since.Goals as goal

pub returns-in-Some : goal.returns-in-Some
returns-in-Some c =
    let s = c.args.store.now in
    let group = c.args.group.now in
    let held = c.requires.held c.in-Some.mark c.in-Some.is in
    let old = box_at s c.in-Some.mark in
    let removed = c.removed_since.result.now in
    let known = c.requires.known in
    IfSome_then c.lost_daughters.result c.lost_daughters.ensures (λ daughters told.
    let lost = subst (λ dim. All (IsLost s.parts s.now dim daughters) removed) c.requires.dim told in (
      musts_done s.parts known.problem group old s.now known.is_box held.inside removed c.removed_since.ensures.names held.calm
          (All-weaker (IsLost s.parts s.now (first_dim group) daughters) (λ d. IsMustOn s.parts s.now (first_dim group) d → ⊥) (λ d both. both.0) removed lost),
      λ takes settled. rests_but s.parts known.problem group old s.now known.is_box held.inside removed c.removed_since.ensures.names held.calm daughters lost settled takes,
    ))

pub removed_since-requires : goal.removed_since-requires
removed_since-requires c = (c.requires.held c.in-Some.mark c.in-Some.is).within
