use Rattle.std.proofs.Common.{◌≡◌, rules, ap, sym, ◌∙◌, subst}
use Rattle.std.specs.Prelude.{IfSome}
use Rattle.xdg_domain.specs.Shapes.{shape}
use Rattle.xdg_terms.specs.Answers.{IsRight}
use Rattle.xdg_terms.specs.Means.{written_for}
use Rattle.xdg_lexicon.specs.Partial.{written}
use Rattle.xdg_lexicon.proofs.Fields.{Reading, read_one, read_all}
use Rattle.xdg_terms.proofs.Saying.{type_at}
use Rattle.xdg_lexicon.proofs.Made.{more}
use Rattle.xdg_lexicon.proofs.records.read_record.Goals as goal
use Rattle.xdg_facts.proofs.In.{in_at}

pub value_of-requires-clause-typed : goal.value_of-requires-clause-typed
value_of-requires-clause-typed c = type_at c.args.fields.now c.loop-place.place c.index-fields-place.result c.loop-place-test.true c.index-fields-place.is c.requires.typed

pub value_of-requires-clause-right : goal.value_of-requires-clause-right
value_of-requires-clause-right c =
    let f = c.index-fields-place.result in
    subst (λ o. IfSome o (IsRight c.args.bindings.now (shape f.1))) (sym (c.term_for.ensures ∙ ap (written_for (written c.args.pairs.now)) c.as_str.ensures))
    (c.requires.right f (in_at c.args.fields.now c.loop-place.place f c.loop-place-test.true c.index-fields-place.is))

pub loop-place-preserved : goal.loop-place-preserved
loop-place-preserved c =
    let same : c.in-Ok.key ≡ c.loop-place.place = search (rules, c.in-Ok.ensures) in
    more (Reading c.args.bindings.now c.args.fields.now c.args.pairs.now) c.loop-place.place c.in-Ok.key c.loop-place.made _ c.in_ok-told.told same c.in_ok-add.ensures c.loop-place.invariant
    (read_one c.args.bindings.now c.args.fields.now c.args.pairs.now c.loop-place.place c.index-fields-place.result _ c.in_ok-told.told c.loop-place-test.true c.index-fields-place.is
    (c.term_for.ensures ∙ ap (written_for (written c.args.pairs.now)) c.as_str.ensures) c.in_ok-told.ensures)

pub returns : goal.returns
returns c = read_all c.args.bindings.now c.args.fields.now c.args.pairs.now c.loop-place.place c.loop-place.made c.loop-place-test.false c.loop-place.invariant
