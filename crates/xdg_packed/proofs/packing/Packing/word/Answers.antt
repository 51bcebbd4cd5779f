use Rattle.std.proofs.Common.{◌<◌, [], length, sym, subst}
use Rattle.xdg_packed.specs.Lexicon.{Lexicon}
use Rattle.xdg_packed.proofs.Said.{has_dim}
use Rattle.xdg_packed.proofs.packing.Packing.word.Goals as goal

pub word-requires-clause-dim : goal.word-requires-clause-dim
word-requires-clause-dim c = has_dim _ c.self.inside.field _ (c.self.invariant.words c.args.number [] (subst (λ (l : Lexicon). c.args.number < length l.entries) (sym c.self.view_is) c.requires))
