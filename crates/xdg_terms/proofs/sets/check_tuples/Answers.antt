use Rattle.std.proofs.Common.{rules, length, map, ap, sym, ◌∙◌}
use Rattle.xdg_domain.specs.Shapes.{shape, shapes_of}
use Rattle.xdg_names.specs.First.{first}
use Rattle.xdg_domain.proofs.Sizing.{length_sizes}
use Rattle.xdg_terms.proofs.Formed.{tuples_right, tuples_wrong, tuples_generated}
use Rattle.xdg_terms.proofs.sets.check_tuples.Goals as goal

pub returns-then-not-each_bracketed : goal.returns-then-not-each_bracketed
returns-then-not-each_bracketed c =
    c.wrong_kind.ensures ∙ ap first (tuples_wrong (shapes_of (map shape c.args.types.now)) (length c.args.types.now) c.args.term.now c.as_slice-elems.result.now (cc) (sym (length_sizes c.args.types.now)) (search rules))

pub returns-else-not-each_bracketed : goal.returns-else-not-each_bracketed
returns-else-not-each_bracketed c =
    c.check_each_bracket.ensures ∙ ap first (tuples_right (shapes_of (map shape c.args.types.now)) (length c.args.types.now) c.args.term.now c.as_slice-elems.result.now (cc) (sym (length_sizes c.args.types.now)) (search rules))

pub returns-in-Gen : goal.returns-in-Gen
returns-in-Gen c = c.check_generator.ensures ∙ ap first (tuples_generated (shapes_of (map shape c.args.types.now)) c.args.term.now c.in-Gen.written (cc))
