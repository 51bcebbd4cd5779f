use Rattle.std.proofs.Common.{◌≡◌, List, map, ap, ◌∙◌}
use Rattle.xdg_base.specs.declared.faults.Cause.TheVariants as causes
use Rattle.xdg_ast.specs.declared.names.Name.{Name}
use Rattle.xdg_ast.specs.declared.terms.GenKind.TheVariants as g
use Rattle.xdg_domain.specs.Shapes as shapes
use Rattle.xdg_domain.specs.Shapes.{shape, shapes_of}
use Rattle.xdg_names.specs.First.{first}
use Rattle.xdg_terms.specs.Faults as spec
use Rattle.xdg_terms.specs.Offences.{gen_names}
use Rattle.xdg_terms.proofs.Loops.{names_of_and, names_of_or, members_turn}
use Rattle.xdg_terms.proofs.sets.+check_generator.Goals as goal

pub check_generator-returns-in-And : goal.check_generator-returns-in-And
check_generator-returns-in-And t c =
    let row = shapes.in_a_row (shapes.constants_of (shapes_of (map shape c.args.types.now))) in
    let names : gen_names (g.And c.as_slice.result.now) ≡ gen_names c.args.gen_kind.now = ap gen_names (cc) in
    c.check_generators.ensures ∙ ap (λ (ns : List Name). first (spec.all_missing causes.NotMember row ns)) (names_of_and c.as_slice.result.now ∙ names)

pub check_generator-returns-in-Or : goal.check_generator-returns-in-Or
check_generator-returns-in-Or t c =
    let row = shapes.in_a_row (shapes.constants_of (shapes_of (map shape c.args.types.now))) in
    let names : gen_names (g.Or c.as_slice-in-Or.result.now) ≡ gen_names c.args.gen_kind.now = ap gen_names (cc) in
    c.check_generators-in-Or.ensures ∙ ap (λ (ns : List Name). first (spec.all_missing causes.NotMember row ns)) (names_of_or c.as_slice-in-Or.result.now ∙ names)

pub check_generators-loop-member-preserved : goal.check_generators-loop-member-preserved
check_generators-loop-member-preserved t c =
    members_turn (spec.missing causes.NotMember (shapes.in_a_row (shapes.constants_of (shapes_of (map shape c.args.types.now))))) c.args.members.now c.loop-member.member-index c.member-item.result _ _ _ _ c.loop-member-test.true c.member-item.is c.check_generator.ensures c.earlier-found.ensures c.loop-member.invariant
