use Rattle.std.proofs.Common.{◌∙◌, ap, length, sym}
use Rattle.xdg_propcore.proofs.Flags.{cleared_off, length_flags}
use Rattle.xdg_propcore.proofs.awake.Awake.sleep_all.Goals as goal

pub returns-clause-none : goal.returns-clause-none
returns-clause-none c at h = cleared_off c.clear.new.words.items c.self.inside.count c.clear.ensures.zero at h

pub returns-clause-length : goal.returns-clause-length
returns-clause-length c = length_flags c.clear.new.words.items c.self.inside.count ∙ sym (length_flags c.self.inside.words.items c.self.inside.count) ∙ ap length c.self.view_is
