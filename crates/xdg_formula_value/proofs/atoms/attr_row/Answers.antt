use Rattle.std.proofs.Common.{◌≡◌, ◌<◌, ◌∙◌, arith, sym, subst}
use Rattle.xdg_problem.specs.Boxes.{attr_decision}
use Rattle.xdg_problem.specs.Places.{nodes}
use Rattle.xdg_problem.specs.Truths.{HasTruth, stands}
use Rattle.xdg_rules.specs.Worths.{EachValue}
use Rattle.xdg_formula_value.specs.Rows.{AreFirst}
use Rattle.xdg_formula_value.proofs.Rowed.{first_later, gathered_more, gathered_row, gathered_start}
use Rattle.xdg_facts.proofs.Rising.{head_in}
use Rattle.xdg_formula_value.proofs.Told.{else_row, name_row}
use Rattle.xdg_formula_value.proofs.atoms.attr_row.Goals as goal

pub attr_told-requires : goal.attr_told-requires
attr_told-requires c = record { node_in = subst (λ k. k < nodes c.args.store.now.parts) (sym c.node_of.ensures) (c.requires.nodes c.args.node); dim_in = c.requires.dim; attr_in = c.requires.attr; value_in = c.requires.value }

pub returns-then-node-name : goal.returns-then-node-name
returns-then-node-name c = else_row c.args.care (stands c.args.binding.now) c.args.name c.args.node (λ v. EachValue c.args.store.now.now (attr_decision c.args.store.now.parts c.args.dim.0 v c.args.attr.0) (λ x. HasTruth c.args.truth (x ≡ c.args.value))) c.constant.result
    (nodes c.args.store.now.parts) c.attr_told.result c.node_of.result.0 c.attr_told.ensures.known.problem.most c.requires.care c.if-node-name.true c.node_of.ensures c.attr_told.ensures.exact c.constant.ensures

pub loop-one-init : goal.loop-one-init
loop-one-init c = (
  tt,
  tt,
  subst (AreFirst (nodes c.args.store.now.parts)) (sym (c.into_iter-one-iterator.ensures.into_iter_gives ∙ c.iter-one-items.ensures.value)) c.requires.care,
  gathered_start c.args.care c.into_iter-one-iterator.result (λ v. EachValue c.args.store.now.now (attr_decision c.args.store.now.parts c.args.dim.0 v c.args.attr.0) (λ x. HasTruth c.args.truth (x ≡ c.args.value))) c.empty-row.result (c.into_iter-one-iterator.ensures.into_iter_gives ∙ c.iter-one-items.ensures.value) c.empty-row.ensures.value,
)

pub attr_told-requires-in-loop-one : goal.attr_told-requires-in-loop-one
attr_told-requires-in-loop-one c = record { node_in = c.loop-one.invariant.2 c.in-Some.one.0 (head_in c.loop-one.one-iterator c.next.new.self c.in-Some.one.0 c.in-Some.ensures.steps); dim_in = c.requires.dim; attr_in = c.requires.attr; value_in = c.requires.value }

pub kept-row-requires : goal.kept-row-requires
kept-row-requires c = (let l = c.loop-one.invariant.2 c.in-Some.one.0 (head_in c.loop-one.one-iterator c.next.new.self c.in-Some.one.0 c.in-Some.ensures.steps) in let most = c.attr_told-in-loop-one.ensures.known.problem.most in omega (arith, l, most))

pub loop-one-preserved : goal.loop-one-preserved
loop-one-preserved c = (
  tt,
  tt,
  first_later (nodes c.args.store.now.parts) c.loop-one.one-iterator c.next.new.self c.in-Some.one.0 c.in-Some.ensures.steps c.loop-one.invariant.2,
  gathered_more c.args.care c.loop-one.one-iterator c.next.new.self (λ v. EachValue c.args.store.now.now (attr_decision c.args.store.now.parts c.args.dim.0 v c.args.attr.0) (λ x. HasTruth c.args.truth (x ≡ c.args.value))) c.in-Some.one.0 c.attr_told-in-loop-one.result c.loop-one.row c.kept-row.result c.in-Some.ensures.steps c.attr_told-in-loop-one.ensures.exact c.kept-row.ensures c.loop-one.invariant.3,
)

pub returns : goal.returns
returns c = name_row c.args.care (stands c.args.binding.now) c.args.name c.args.node (λ v. EachValue c.args.store.now.now (attr_decision c.args.store.now.parts c.args.dim.0 v c.args.attr.0) (λ x. HasTruth c.args.truth (x ≡ c.args.value))) c.loop-one.row c.if-node-name.false
    (gathered_row c.args.care c.loop-one.one-iterator (λ v. EachValue c.args.store.now.now (attr_decision c.args.store.now.parts c.args.dim.0 v c.args.attr.0) (λ x. HasTruth c.args.truth (x ≡ c.args.value))) c.loop-one.row c.in-None.ensures.steps.0 c.loop-one.invariant.3)
