use Rattle.std.proofs.Common.{◌≡◌, ◌∙◌, ◌≤◌, length, subst, sym}
use Rattle.xdg_inputs.specs.GrammarFiles.{grammar_limit}
use Rattle.xdg_searches.proofs.Drilled.{drill_read, drill_unread, stopped_wrote}
use Rattle.xdg_inputs.specs.declared.status.Status.TheVariants as statuses
use Rattle.xdg_searches.proofs.drilling.drill.Goals as goal

pub returns-in-Ok-read_tree-clause-leaves : goal.returns-in-Ok-read_tree-clause-leaves
returns-in-Ok-read_tree-clause-leaves g c =
    let same : c.as_bytes-bytes.result.now ≡ c.in-Ok.text = c.as_bytes-bytes.ensures.value ∙ c.as_str.ensures in
    drill_read c.args.number c.as_bytes-bytes.result.now (same ∙ c.in-Ok.ensures.text) (subst (λ z. length z ≤ grammar_limit) (sym same) c.in-Ok.ensures.short)
    c.in-Ok-read_tree.tree c.drill_tree.result _ _ c.in-Ok-read_tree.ensures.tells c.in-Ok-read_tree.ensures.only c.drill_tree.ensures.leaves

pub returns-clause-leaves : goal.returns-clause-leaves
returns-clause-leaves g c =
    let same : c.as_bytes-bytes.result.now ≡ c.in-Ok.text = c.as_bytes-bytes.ensures.value ∙ c.as_str.ensures in
    drill_unread c.args.number c.as_bytes-bytes.result.now (same ∙ c.in-Ok.ensures.text) (subst (λ z. length z ≤ grammar_limit) (sym same) c.in-Ok.ensures.short)
    c.in-Err.stop c.stopped_in.result c.refuse.result _ _ c.in-Err.ensures.tells c.in-Err.ensures.only c.stopped_in.ensures c.refuse.ensures.written

pub returns-clause-wrote : goal.returns-clause-wrote
returns-clause-wrote g c = stopped_wrote statuses.BadText c.refuse.result _ c.in-Err.stop c.stopped_in.result _ _ _ _ tt tt c.stopped_in.ensures c.refuse.ensures.written c.refuse.ensures.quiet
