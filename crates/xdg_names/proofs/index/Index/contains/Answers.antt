use Rattle.std.proofs.Common.{◌∙◌}
use Rattle.std.specs.String.{string_bytes}
use Rattle.xdg_names.proofs.Texts.{text_found}
use Rattle.xdg_names.proofs.index.Index.contains.Goals as goal

pub returns : goal.returns
returns c = c.contains.ensures ∙ text_found string_bytes c.self.inside.texts.keys c.args.self.now c.args.text.now c.self.view_is
