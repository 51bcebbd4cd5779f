use Rattle.std.proofs.Common.{◌∙◌, sym}
use Rattle.std.proofs.lemmas.Bool.{false≢true}
use Rattle.xdg_plink.proofs.Daughters.{all_near, some_near}
use Rattle.xdg_plink.proofs.near.Near.daughters.Goals as goal

pub returns-then-contains : goal.returns-then-contains
returns-then-contains c = all_near c.args.self.now c.args.store.now.parts c.args.store.now.now c.args.dim.0 c.args.node.0 c.args.label.0 c.daughters_may-daughters.result c.requires.node c.requires.label c.daughters_may-daughters.ensures.exact

pub returns : goal.returns
returns c = some_near c.args.self.now c.args.store.now.parts c.args.store.now.now c.args.dim.0 c.args.node.0 c.args.label.0 c.daughters_may-daughters.result c.requires.node c.requires.label c.daughters_may-daughters.ensures.exact c.meet.result c.meet.ensures.members
    (λ there. false≢true (sym c.if-contains.false ∙ c.contains.ensures.value ∙ there))
