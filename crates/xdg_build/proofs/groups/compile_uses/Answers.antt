use Rattle.std.proofs.Common.{get_or, sym, subst}
use Rattle.std.specs.Prelude.{All}
use Rattle.xdg_principles.specs.Typed.{IsTypedUse}
use Rattle.xdg_build.specs.Grammars.{grammar_of}
use Rattle.xdg_build.proofs.Right.{groups_right, if_made}
use Rattle.xdg_facts.proofs.In.{in_get}
use Rattle.xdg_build.proofs.groups.compile_uses.Goals as goal

pub compile_all-requires-clause-typed : goal.compile_all-requires-clause-typed
compile_all-requires-clause-typed c =
    subst (All (IsTypedUse c.args.checked.now.types)) (sym c.principles-uses.ensures.same)
    (λ k d within. c.principles-uses.ensures.keeps.principles (get_or c.args.checked.now.principles k d) (in_get c.args.checked.now.principles k d within))

pub returns-clause-groups : goal.returns-clause-groups
returns-clause-groups c =
    if_made (grammar_of c.args.checked.now c.args.packed.now) c.args.candidates.now c.principles-uses.result.now c.compile_all.result c.principles-uses.ensures.same c.compile_all.ensures.groups
    (λ parts suits. groups_right (grammar_of c.args.checked.now c.args.packed.now) c.args.candidates.now parts c.args.checked.now.principles c.principles-uses.ensures.keeps.principles c.requires.lexicon c.requires.candidates suits)
