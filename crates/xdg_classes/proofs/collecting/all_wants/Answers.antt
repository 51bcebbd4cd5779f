use Rattle.std.proofs.Common.{◌≡◌, ℕ, ◌<◌, get_or, length, slice_set, Some, arith, sym, ap, ◌∙◌, subst}
use Rattle.std.specs.Prelude.{slice_get, ◌↔◌, List}
use Rattle.std.specs.Option.{IfSome}
use Rattle.std.proofs.lemmas.List.{length-map}
use Rattle.xdg_classes.specs.Lent.{class_def}
use Rattle.std.proofs.lemmas.Option.{slice_get-get_or}
use Rattle.xdg_domain.specs.Shapes.{Shape}
use Rattle.xdg_classes.specs.Bodies.{body}
use Rattle.xdg_classes.specs.Definitions.{classes, param_names}
use Rattle.xdg_classes.specs.Given.{given, told}
use Rattle.xdg_classes.specs.Collected.{body_wants, feature_of}
use Rattle.xdg_names.specs.Leads.{number}
use Rattle.xdg_classes.specs.KnownWants.{AreRightUpTo}
use Rattle.xdg_classes.proofs.Settling.{settled_step, all_known}
use Rattle.xdg_classes.proofs.collecting.all_wants.Goals as goal
use Rattle.xdg_facts.specs.Membership.{In}
use Rattle.xdg_ast.specs.Texts.{texts}

pub loop-at-preserved : goal.loop-at-preserved
loop-at-preserved c statements table fits =
    let order = c.args.classes.now.order in
    let read = c.order-at-items.result.now in
    let i = c.loop-at.at-index in
    let known = c.loop-at.known.items in
    let made = c.in_ok-made.made in
    let within : i < length order = subst (λ o. i < length o) c.order-at-items.ensures c.loop-at-test.true in
    let here : slice_get c.definitions.result.now (number read i) ≡ Some c.in-Some.class.now =
    let at = number read i in
    let all = c.definitions.result.now in
    let same : c.in-Some.class.now ≡ get_or all at c.in-Some.class.now = subst (λ o. IfSome o (λ x. x.now ≡ get_or all at x.now)) c.in-Some.is c.get.ensures.lookup.1 in
    let many : length (classes statements) ≡ length all = sym (ap length fits.orders.definitions) ∙ length-map c.args.classes.now.definitions class_def ∙ sym (ap length c.definitions.ensures) in
    let there : at < length all = subst (λ n. at < n) many (subst (λ o. number o i < length (classes statements)) (sym c.order-at-items.ensures) (fits.orders.within i within)) in
    slice_get-get_or all at c.in-Some.class.now there ∙ ap Some (sym same) in
    let is : slice_get c.definitions.result.now (number order i) ≡ Some c.in-Some.class.now = subst (λ o. slice_get c.definitions.result.now (number o i) ≡ Some c.in-Some.class.now) c.order-at-items.ensures here in
    let change : (number order i < length known) × (c.put.new.known.items ≡ slice_set known (number order i) made) =
    subst (λ o. (number o i < length known) × (c.put.new.known.items ≡ slice_set known (number o i) made)) c.order-at-items.ensures c.in_ok-put.ensures in
    settled_step statements table c.args.features.now c.args.classes.now fits known i within (c.loop-at.invariant statements table fits) c.definitions.result.now c.in-Some.class.now c.definitions.ensures is made
    (subst (λ all. (param : List ℕ) (s : Shape) → In (given made param) s ↔ In (body_wants (feature_of c.args.features.now) (told c.args.classes.now.names all) (texts (param_names c.in-Some.class.now.params.now)) (body c.in-Some.class.now.body.now.kind)) (param, s)) c.as_slice.ensures.value c.in_ok-made.ensures)
    c.put.new.known.items change

pub returns : goal.returns
returns c statements table fits =
    let order = c.args.classes.now.order in
    let end : c.loop-at.at-index ≡ length order = omega (arith, c.loop-at-test.false, c.loop-at.auto.at-index-end, ap length c.order-at-items.ensures) in
    all_known statements table c.args.features.now c.args.classes.now fits c.loop-at.known.items (subst (AreRightUpTo statements table c.args.classes.now c.loop-at.known.items) end (c.loop-at.invariant statements table fits))
