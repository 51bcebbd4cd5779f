use Rattle.std.proofs.Common.{◌∙◌, sym}
use Rattle.std.proofs.lemmas.Bool.{false≢true}
use Rattle.xdg_pgraph.proofs.Taken.{edge_left, edge_taken}
use Rattle.xdg_pgraph.proofs.taking.forbid_other.Goals as goal

pub returns-then-not-has_other-clause-clears : goal.returns-then-not-has_other-clause-clears
returns-then-not-has_other-clause-clears c = edge_left c.args.store.now.parts c.args.edge c.args.others c.args.pass.now c.args.store.now (λ other. false≢true (sym c.if-not-has_other.true ∙ c.has_other.ensures.1 other))

pub returns-clause-clears : goal.returns-clause-clears
returns-clause-clears c =
    edge_taken c.args.store.now.parts c.args.edge c.args.others c.args.pass.now c.forbid.new.self c.args.store.now c.forbid.new.store c.requires.place (c.has_other.ensures.0 c.if-not-has_other.false) c.forbid.ensures.clears
