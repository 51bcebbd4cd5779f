use Rattle.std.proofs.Common.{◌∙◌}
use Rattle.std.specs.String.{string_bytes}
use Rattle.xdg_names.proofs.Texts.{text_placed}
use Rattle.xdg_names.proofs.index.Index.find.Goals as goal

pub returns : goal.returns
returns c = c.get_index_of.ensures.index ∙ text_placed string_bytes c.self.inside.texts.keys c.args.self.now c.args.text.now c.self.view_is
