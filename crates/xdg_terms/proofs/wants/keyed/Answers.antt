use Rattle.std.proofs.Common.{rules}
use Rattle.xdg_terms.specs.Forms.{all_of, pairs_of}
use Rattle.xdg_terms.proofs.Wanting.{all_keyed, not_keyed}
use Rattle.xdg_terms.proofs.wants.keyed.Goals as goal

pub returns-else-each_keyed : goal.returns-else-each_keyed
returns-else-each_keyed c = not_keyed c.args.term.now c.as_slice-elems.result.now (cc) (search rules)

pub returns-then-each_keyed : goal.returns-then-each_keyed
returns-then-each_keyed c = all_keyed c.args.term.now c.as_slice-elems.result.now (cc) (search rules)

pub returns-in_default : goal.returns-in_default
unfolding all_of pairs_of
returns-in_default c = search rules
