use Rattle.std.proofs.Common.{sym, ap, length, ◌∙◌}
use Rattle.xdg_packed.specs.Lexicon.{Lexicon}
use Rattle.xdg_packed.proofs.Kept.{many}
use Rattle.xdg_packed.proofs.packing.Packing.len.Goals as goal

pub returns : goal.returns
returns c = sym (many c.self.inside.entries) ∙ ap (λ (l : Lexicon). length l.entries) c.self.view_is
