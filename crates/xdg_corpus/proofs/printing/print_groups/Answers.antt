use Rattle.std.proofs.Common.{◌≡◌, ◌<◌, ◌+◌, length, refl, sym, ◌∙◌, subst, arith, rules}
use Rattle.std.specs.List.{AllZip}
use Rattle.std.proofs.lemmas.Bool.{eqb-true}
use Rattle.std.proofs.lemmas.Result.{IfOk-at_ok}
use Rattle.xdg_build.specs.Stocks.{IsStock}
use Rattle.xdg_corpus.specs.Groups.{TakesLines}
use Rattle.xdg_corpus.specs.Outcomes.{AreSearched}
use Rattle.xdg_inputs.specs.Answers.{grammar_in, meaning_of}
use Rattle.xdg_split.specs.Answers.{IsAnswer}
use Rattle.xdg_corpus.proofs.Parting.{memory_part}
use Rattle.xdg_corpus.proofs.Searching.{PrintedSoFar, numbers, printed_all, printed_front, printed_group, printed_none, printed_part, rest_within}
use Rattle.xdg_corpus.proofs.printing.print_groups.Goals as goal
use Rattle.xdg_facts.proofs.Options.{done_of, failed_of}

pub returns-in_default-clause-leaves : goal.returns-in_default-clause-leaves
returns-in_default-clause-leaves g c = memory_part (AreSearched c.args.options.now (meaning_of c.args.expanded.now) c.args.text.now) (g.K.Sink.held c.args.out.now)

pub loop-rest-init : goal.loop-rest-init
loop-rest-init g c =
    (c.utf8.text, search rules, printed_none (meaning_of c.args.expanded.now) c.args.options.now c.args.text.now (g.K.Sink.held c.args.out.now), refl, c.in-Ok.ensures.stock, omega arith, c.in-Ok.ensures.takes, c.in-Ok.ensures.some)

pub answer_and_take-answered-requires-clause-small : goal.answer_and_take-answered-requires-clause-small
answer_and_take-answered-requires-clause-small g c =
    let within = rest_within (meaning_of c.args.expanded.now) c.args.options.now c.args.text.now c.loop-rest.from.now c.loop-rest.number (g.K.Sink.held c.args.out.now) (g.K.Sink.held c.loop-rest.out) c.loop-rest.invariant.2 in
    let few = c.loop-rest.invariant.6.fewer in
    omega (arith, within, few, c.requires.small)

pub returns-in_default-answered-clause-leaves : goal.returns-in_default-answered-clause-leaves
returns-in_default-answered-clause-leaves g c = printed_part (meaning_of c.args.expanded.now) c.args.options.now c.args.text.now c.loop-rest.from.now c.loop-rest.number (g.K.Sink.held c.args.out.now) (g.K.Sink.held c.loop-rest.out) c.loop-rest.invariant.2

pub write_group-written-requires : goal.write_group-written-requires
write_group-written-requires g c =
    let few = numbers (meaning_of c.args.expanded.now) c.args.options.now c.args.text.now c.loop-rest.from.now c.loop-rest.rest.now c.loop-rest.number c.loop-rest.group c.as_slice-jobs.result.now c.as_slice.result.now c.as_slice-in-loop-rest.result.now c.loop-rest.invariant.6 c.as_slice-jobs.ensures.value c.as_slice.ensures.value (subst (AllZip IsAnswer c.as_slice-jobs.result.now) (sym c.as_slice-in-loop-rest.ensures) (IfOk-at_ok (AllZip IsAnswer c.as_slice-jobs.result.now) c.in-Ok-answered.is c.answer_and_take-answered.ensures.answers)) (g.K.Sink.held c.args.out.now) (g.K.Sink.held c.loop-rest.out) c.loop-rest.invariant.2 in
    omega (arith, few, c.requires.small)

pub returns-then-is_err-clause-leaves : goal.returns-then-is_err-clause-leaves
returns-then-is_err-clause-leaves g c =
    printed_front (meaning_of c.args.expanded.now) c.args.options.now c.args.text.now c.loop-rest.from.now c.loop-rest.rest.now c.loop-rest.number c.loop-rest.group c.as_slice-jobs.result.now c.as_slice.result.now c.as_slice-in-loop-rest.result.now c.loop-rest.invariant.6 c.as_slice-jobs.ensures.value c.as_slice.ensures.value (subst (AllZip IsAnswer c.as_slice-jobs.result.now) (sym c.as_slice-in-loop-rest.ensures) (IfOk-at_ok (AllZip IsAnswer c.as_slice-jobs.result.now) c.in-Ok-answered.is c.answer_and_take-answered.ensures.answers)) (g.K.Sink.held c.args.out.now) (g.K.Sink.held c.loop-rest.out) (g.K.Sink.held c.write_group-written.new.out) c.loop-rest.invariant.2
    (failed_of c.write_group-written.result _ (sym c.is_err.ensures.value ∙ c.if-is_err.true) c.write_group-written.ensures.front)

pub returns-in_default-taken-clause-leaves : goal.returns-in_default-taken-clause-leaves
returns-in_default-taken-clause-leaves g c =
    printed_part (meaning_of c.args.expanded.now) c.args.options.now c.args.text.now c.loop-rest.rest.now (c.loop-rest.number + length c.as_slice.result.now) (g.K.Sink.held c.args.out.now) (g.K.Sink.held c.write_group-written.new.out)
    (printed_group (meaning_of c.args.expanded.now) c.args.options.now c.args.text.now c.loop-rest.from.now c.loop-rest.rest.now c.loop-rest.number c.loop-rest.group c.as_slice-jobs.result.now c.as_slice.result.now c.as_slice-in-loop-rest.result.now c.loop-rest.invariant.6 c.as_slice-jobs.ensures.value c.as_slice.ensures.value (subst (AllZip IsAnswer c.as_slice-jobs.result.now) (sym c.as_slice-in-loop-rest.ensures) (IfOk-at_ok (AllZip IsAnswer c.as_slice-jobs.result.now) c.in-Ok-answered.is c.answer_and_take-answered.ensures.answers)) (g.K.Sink.held c.args.out.now) (g.K.Sink.held c.loop-rest.out) (g.K.Sink.held c.write_group-written.new.out) c.loop-rest.invariant.2 (done_of c.write_group-written.result _ (sym c.is_err.ensures.value ∙ c.if-is_err.false) c.write_group-written.ensures.all))

pub returns-in_default-taken-clause-out_quiet : goal.returns-in_default-taken-clause-out_quiet
returns-in_default-taken-clause-out_quiet g c = λ _. done_of c.write_group-written.result _ (sym c.is_err.ensures.value ∙ c.if-is_err.false) c.write_group-written.ensures.quiet ∙ c.loop-rest.invariant.3

pub loop-rest-preserved : goal.loop-rest-preserved
loop-rest-preserved g c = (
  c.loop-rest.invariant.1,
  search rules,
  subst (λ n. PrintedSoFar (meaning_of c.args.expanded.now) c.args.options.now c.args.text.now c.loop-rest.rest.now (c.loop-rest.number + n) (g.K.Sink.held c.args.out.now) (g.K.Sink.held c.write_group-written.new.out)) (let same : length c.as_slice.result.now ≡ c.len.result = search rules in same)
      (printed_group (meaning_of c.args.expanded.now) c.args.options.now c.args.text.now c.loop-rest.from.now c.loop-rest.rest.now c.loop-rest.number c.loop-rest.group c.as_slice-jobs.result.now c.as_slice.result.now c.as_slice-in-loop-rest.result.now c.loop-rest.invariant.6 c.as_slice-jobs.ensures.value c.as_slice.ensures.value (subst (AllZip IsAnswer c.as_slice-jobs.result.now) (sym c.as_slice-in-loop-rest.ensures) (IfOk-at_ok (AllZip IsAnswer c.as_slice-jobs.result.now) c.in-Ok-answered.is c.answer_and_take-answered.ensures.answers)) (g.K.Sink.held c.args.out.now) (g.K.Sink.held c.loop-rest.out) (g.K.Sink.held c.write_group-written.new.out) c.loop-rest.invariant.2 (done_of c.write_group-written.result _ (sym c.is_err.ensures.value ∙ c.if-is_err.false) c.write_group-written.ensures.all)),
  done_of c.write_group-written.result _ (sym c.is_err.ensures.value ∙ c.if-is_err.false) c.write_group-written.ensures.quiet ∙ c.loop-rest.invariant.3,
  IfOk-at_ok (λ made. IsStock (grammar_in c.args.expanded.now) made.2) c.in-Ok-taken.is c.answer_and_take-answered.ensures.stock,
  search rules,
  IfOk-at_ok (λ made. TakesLines (meaning_of c.args.expanded.now) c.args.options.now c.loop-rest.rest.now made.0 made.1.now) c.in-Ok-taken.is c.answer_and_take-answered.ensures.takes,
  IfOk-at_ok (λ made. 0 < length c.loop-rest.rest.now → length made.1.now < length c.loop-rest.rest.now) c.in-Ok-taken.is c.answer_and_take-answered.ensures.some,
)

pub returns-clause-leaves : goal.returns-clause-leaves
returns-clause-leaves g c = printed_all (meaning_of c.args.expanded.now) c.args.options.now c.args.text.now c.loop-rest.from.now c.loop-rest.number (g.K.Sink.held c.args.out.now) (g.K.Sink.held c.loop-rest.out) c.loop-rest.invariant.2 (eqb-true (length c.loop-rest.from.now) 0 (sym c.is_empty.ensures ∙ c.loop-rest-test.false))
