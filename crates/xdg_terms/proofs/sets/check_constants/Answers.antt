use Rattle.std.proofs.Common.{rules, ap, ◌∙◌}
use Rattle.xdg_names.specs.First.{first}
use Rattle.xdg_terms.proofs.Formed.{constants_right, constants_wrong}
use Rattle.xdg_terms.proofs.sets.check_constants.Goals as goal

pub returns-then-not-each_plain : goal.returns-then-not-each_plain
returns-then-not-each_plain c = c.wrong_kind-then-not-each_plain.ensures ∙ ap first (constants_wrong c.args.texts.now c.args.term.now c.as_slice-elems.result.now (cc) (search rules))

pub returns : goal.returns
returns c = c.check_each_plain.ensures ∙ ap first (constants_right c.args.texts.now c.args.term.now c.as_slice-elems.result.now (cc) (search rules))
