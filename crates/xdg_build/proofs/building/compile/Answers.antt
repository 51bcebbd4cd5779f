use Rattle.std.proofs.Common.{sym, ◌∙◌, ap, subst}
use Rattle.xdg_build.specs.Grammars.{grammar_of}
use Rattle.xdg_build.specs.Groups.{groups_of}
use Rattle.xdg_build.specs.Nodes.{candidates_in}
use Rattle.xdg_build.specs.Suits.{Suits}
use Rattle.xdg_build.proofs.Lawful.{known_entries, made_is_problem}
use Rattle.xdg_build.proofs.Stocked.{candidates_are, each_plan, made_compiled}
use Rattle.xdg_build.proofs.building.compile.Goals as goal

pub over_nodes-requires-clause-nodes : goal.over_nodes-requires-clause-nodes
over_nodes-requires-clause-nodes c = each_plan (grammar_of c.args.checked.now c.args.packed.now) c.as_slice.result.now c.as_slice-4.result.now (c.as_slice-4.ensures ∙ c.in_ok-nodes.ensures.nodes)

pub over_nodes-requires-clause-candidates : goal.over_nodes-requires-clause-candidates
over_nodes-requires-clause-candidates c =
    known_entries (grammar_of c.args.checked.now c.args.packed.now) c.args.words (candidates_in c.as_slice-4.result.now) (candidates_are (grammar_of c.args.checked.now c.args.packed.now) c.args.words c.as_slice.result.now c.as_slice-4.result.now c.as_slice.ensures (c.as_slice-4.ensures ∙ c.in_ok-nodes.ensures.nodes))

pub of-requires : goal.of-requires
of-requires c =
    made_is_problem (grammar_of c.args.checked.now c.args.packed.now) c.args.words c.in_ok-candidates.candidates c.in_ok-dims.dims c.in_ok-groups.groups c.principles.ensures.keeps.types c.requires.lexicon c.requires.place c.requires.admitted
    (c.in_ok-candidates.ensures ∙ candidates_are (grammar_of c.args.checked.now c.args.packed.now) c.args.words c.as_slice.result.now c.as_slice-2.result.now c.as_slice.ensures (c.as_slice-2.ensures ∙ c.in_ok-nodes.ensures.nodes))
    (c.in_ok-dims.ensures ∙ c.in_ok-nodes.ensures.stock.dims)
    (λ parts suits. c.in_ok-groups.ensures.groups parts (subst (λ numbers. Suits (grammar_of c.args.checked.now c.args.packed.now) numbers parts) (c.in_ok-candidates.ensures ∙ ap candidates_in (c.as_slice-2.ensures ∙ sym c.as_slice-4.ensures)) suits))

pub returns-clause-compiled : goal.returns-clause-compiled
returns-clause-compiled c =
    made_compiled (grammar_of c.args.checked.now c.args.packed.now) c.args.words c.of.result c.in_ok-candidates.candidates c.in_ok-dims.dims c.in_ok-groups.groups c.of.ensures
    (c.in_ok-candidates.ensures ∙ candidates_are (grammar_of c.args.checked.now c.args.packed.now) c.args.words c.as_slice.result.now c.as_slice-2.result.now c.as_slice.ensures (c.as_slice-2.ensures ∙ c.in_ok-nodes.ensures.nodes))
    (c.in_ok-dims.ensures ∙ c.in_ok-nodes.ensures.stock.dims)
    (c.in_ok-groups.ensures.compiled ∙ ap (groups_of (grammar_of c.args.checked.now c.args.packed.now)) (candidates_are (grammar_of c.args.checked.now c.args.packed.now) c.args.words c.as_slice.result.now c.as_slice-4.result.now c.as_slice.ensures (c.as_slice-4.ensures ∙ c.in_ok-nodes.ensures.nodes)))

pub returns-clause-keeps : goal.returns-clause-keeps
returns-clause-keeps c = c.principles.ensures.keeps
