use Rattle.std.proofs.Common.{◌≡◌, true, subst, sym, arith}
use Rattle.std.proofs.lemmas.Bool.{false≢true}
use Rattle.xdg_facts.specs.Rises.{has}
use Rattle.xdg_pgraph.proofs.Ends.{TellsEnds, between_told, label_known, none_behind}
use Rattle.xdg_pgraph.proofs.bundle.ends.Goals as goal

pub returns-then-bundle-plane : goal.returns-then-bundle-plane
returns-then-bundle-plane c other = (
  λ t. absurd (false≢true (subst (λ s. has s other ≡ true) c.empty.ensures.value t)),
  λ e. absurd (none_behind c.args.which c.args.bundle.way c.args.store.now.parts c.args.store.now.now c.args.plane.now c.args.bundle.node c.args.bundle.label other c.requires.plane (let t = c.if-bundle-plane.true in omega (arith, t)) e),
)

pub daughters_by-requires-clause-label : goal.daughters_by-requires-clause-label
daughters_by-requires-clause-label c = label_known c.args.store.now.parts c.args.plane.now c.args.bundle.node c.args.bundle.label c.requires.plane c.requires.node c.if-bundle-plane.false

pub returns-in-Out : goal.returns-in-Out
returns-in-Out c = subst (TellsEnds c.args.which c.args.store.now c.args.plane.now.dim.0 c.args.bundle.node c.args.bundle.label c.daughters_by.result) (sym c.in-Out.is)
    (λ other. between_told c.args.which c.args.store.now.parts c.args.store.now.now c.args.plane.now.dim.0 c.args.bundle.node c.args.bundle.label other (has c.daughters_by.result other) (c.daughters_by.ensures.exact other))

pub mothers_by-requires-clause-label : goal.mothers_by-requires-clause-label
mothers_by-requires-clause-label c = label_known c.args.store.now.parts c.args.plane.now c.args.bundle.node c.args.bundle.label c.requires.plane c.requires.node c.if-bundle-plane.false

pub returns-in-In : goal.returns-in-In
returns-in-In c = subst (TellsEnds c.args.which c.args.store.now c.args.plane.now.dim.0 c.args.bundle.node c.args.bundle.label c.mothers_by.result) (sym c.in-In.is)
    (λ other. between_told c.args.which c.args.store.now.parts c.args.store.now.now c.args.plane.now.dim.0 other c.args.bundle.label c.args.bundle.node (has c.mothers_by.result other) (c.mothers_by.ensures.exact other))
