use Rattle.std.proofs.Common.{rules, ap, ◌∙◌}
use Rattle.xdg_names.specs.First.{first}
use Rattle.xdg_terms.proofs.Formed.{valency_told, valency_wrong}
use Rattle.xdg_terms.proofs.keys.check_valency.Goals as goal

pub returns-then-not-each_counted : goal.returns-then-not-each_counted
returns-then-not-each_counted c = c.wrong_kind-then-not-each_counted.ensures ∙ ap first (valency_wrong c.args.texts.now c.args.term.now c.as_slice-elems.result.now (cc) (search rules))

pub returns : goal.returns
returns c = valency_told c.args.texts.now c.args.term.now c.as_slice-elems.result.now (cc) (search rules) _ _ _ c.check_keys.ensures c.check_counts.ensures c.earlier.ensures
