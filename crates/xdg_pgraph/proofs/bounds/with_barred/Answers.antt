use Rattle.std.proofs.Common.{◌∙◌, sym}
use Rattle.std.proofs.lemmas.Bool.{false≢true}
use Rattle.xdg_pgraph.proofs.Clearing.{none_outside}
use Rattle.xdg_pgraph.proofs.bounds.with_barred.Goals as goal

pub returns : goal.returns
returns c not = (c.if-barred.false, λ none. false≢true (sym not ∙ c.has_none_within.ensures.1 (none_outside c.args.numbers.now c.args.least c.args.most none)))
