use Rattle.std.proofs.Common.{◌≡◌, rules, ap, sym, ◌∙◌, subst}
use Rattle.std.specs.Prelude.{IfSome}
use Rattle.xdg_domain.specs.Shapes.{shape}
use Rattle.xdg_domain.specs.Valencies.{said_at}
use Rattle.xdg_domain.specs.Values.{IsValue}
use Rattle.xdg_lexicon.specs.Made.{IsMade}
use Rattle.xdg_lexicon.proofs.Fields.{Joining, said_value, joined_told, clash_told, joined_all}
use Rattle.xdg_lexicon.proofs.Made.{start, more}
use Rattle.xdg_lexicon.proofs.records.join_records.Goals as goal

pub join_said-requires-clause-one : goal.join_said-requires-clause-one
join_said-requires-clause-one c =
    let f = c.index-fields-place.result in
    let same : c.in-Ok.key ≡ c.loop-place.place = search (rules, c.in-Ok.ensures) in
    subst (λ o. IfSome o (IsValue (shape f.1))) (sym (c.said.ensures ∙ ap (said_at c.args.one.now) same)) (said_value c.args.fields.now c.args.one.now c.loop-place.place f c.loop-place-test.true c.index-fields-place.is c.requires.one)

pub join_said-requires-clause-other : goal.join_said-requires-clause-other
join_said-requires-clause-other c =
    let f = c.index-fields-place.result in
    let same : c.in-Ok.key ≡ c.loop-place.place = search (rules, c.in-Ok.ensures) in
    subst (λ o. IfSome o (IsValue (shape f.1))) (sym (c.said-in-loop-place.ensures ∙ ap (said_at c.args.other.now) same)) (said_value c.args.fields.now c.args.other.now c.loop-place.place f c.loop-place-test.true c.index-fields-place.is c.requires.other)

pub loop-place-init : goal.loop-place-init
loop-place-init c = subst (IsMade (Joining c.args.fields.now c.args.one.now c.args.other.now) 0 0) (sym c.new-made.ensures) (start (Joining c.args.fields.now c.args.one.now c.args.other.now) 0)

pub returns-in-None : goal.returns-in-None
returns-in-None c =
    let same : c.in-Ok.key ≡ c.loop-place.place = search (rules, c.in-Ok.ensures) in
    clash_told c.args.fields.now c.args.one.now c.args.other.now c.loop-place.place c.index-fields-place.result _ _ c.in_ok-join_said.field-0 c.loop-place-test.true c.index-fields-place.is
    (c.said.ensures ∙ ap (said_at c.args.one.now) same) (c.said-in-loop-place.ensures ∙ ap (said_at c.args.other.now) same) c.in-None.is c.in_ok-join_said.ensures.joins

pub loop-place-preserved : goal.loop-place-preserved
loop-place-preserved c =
    let same : c.in-Ok.key ≡ c.loop-place.place = search (rules, c.in-Ok.ensures) in
    more (Joining c.args.fields.now c.args.one.now c.args.other.now) c.loop-place.place c.in-Ok.key c.loop-place.made _ c.in-Some.both same c.in_ok-add-in-Some.ensures c.loop-place.invariant
    (joined_told c.args.fields.now c.args.one.now c.args.other.now c.loop-place.place c.index-fields-place.result _ _ c.in_ok-join_said.field-0 c.in-Some.both c.loop-place-test.true c.index-fields-place.is
    (c.said.ensures ∙ ap (said_at c.args.one.now) same) (c.said-in-loop-place.ensures ∙ ap (said_at c.args.other.now) same) c.in-Some.is c.in_ok-join_said.ensures.joins)

pub returns : goal.returns
returns c = joined_all c.args.fields.now c.args.one.now c.args.other.now c.loop-place.place c.loop-place.made c.requires.one c.requires.other c.loop-place-test.false c.loop-place.invariant
