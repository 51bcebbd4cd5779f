use Rattle.std.proofs.Common.{arith, map, ap, ◌∙◌}
use Rattle.xdg_domain.specs.Shapes.{shape, shapes_of}
use Rattle.xdg_names.specs.First.{first}
use Rattle.xdg_domain.proofs.Sizing.{length_sizes}
use Rattle.xdg_terms.proofs.Formed.{tuple_right, tuple_wrong}
use Rattle.xdg_terms.proofs.members.check_tuple.Goals as goal

pub returns-then-names-types : goal.returns-then-names-types
returns-then-names-types c =
    c.wrong_kind.ensures ∙ ap first (tuple_wrong (shapes_of (map shape c.args.types.now)) c.args.term.now c.as_slice-names.result.now (cc) (λ e. omega (arith, length_sizes c.args.types.now)))

pub returns-else-names-types : goal.returns-else-names-types
returns-else-names-types c =
    c.check_in_turn.ensures ∙ ap first (tuple_right (shapes_of (map shape c.args.types.now)) c.args.term.now c.as_slice-names.result.now (cc) (omega (arith, length_sizes c.args.types.now)))
