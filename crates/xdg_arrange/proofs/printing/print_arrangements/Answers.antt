use Rattle.std.proofs.Common.{◌∙◌, refl, sym, subst, arith}
use Rattle.std.specs.Prelude.{IsSome}
use Rattle.xdg_arrange.specs.Lists.{Listed}
use Rattle.xdg_arrange.specs.Texts.{AreArranged}
use Rattle.xdg_arrange.proofs.Closing.{fails_done, fails_spent, leaves_done, leaves_failed, leaves_going, leaves_reached, leaves_spent, spent_searched, whole_searched}
use Rattle.xdg_arrange.proofs.Fronting.{memory_front}
use Rattle.xdg_arrange.proofs.Going.{goes_first, goes_on, goes_whole}
use Rattle.xdg_arrange.proofs.Passing.{arranged_said}
use Rattle.xdg_inputs.specs.Answers.{grammar_in}
use Rattle.xdg_arrange.proofs.printing.print_arrangements.Goals as goal
use Rattle.xdg_facts.proofs.Options.{done_of, failed_of}

pub returns-in_default-clause-leaves : goal.returns-in_default-clause-leaves
returns-in_default-clause-leaves g c =
    let listed : Listed = record { grammar = grammar_in c.args.expanded.now; words = c.args.words.now } in
    memory_front (AreArranged c.args.budget listed) (g.K.Sink.held c.args.out.now) (arranged_said c.args.budget listed)

pub returns-in_default-of-clause-leaves : goal.returns-in_default-of-clause-leaves
returns-in_default-of-clause-leaves g c =
    let listed : Listed = record { grammar = grammar_in c.args.expanded.now; words = c.args.words.now } in
    memory_front (AreArranged c.args.budget listed) (g.K.Sink.held c.args.out.now) (arranged_said c.args.budget listed)

pub next-init : goal.next-init
next-init g c =
    let listed : Listed = record { grammar = grammar_in c.args.expanded.now; words = c.args.words.now } in
    record {
      goes = goes_first c.args.budget listed c.in-Ok-of.arrangements (g.K.Sink.held c.args.out.now) c.in-Ok-of.ensures.seen.0 c.in-Ok-of.ensures.passed;
      stock = c.in-Ok.ensures;
      quiet = refl;
    }

-- ---- no arrangement is left

pub returns-then-is_err-clause-leaves : goal.returns-then-is_err-clause-leaves
returns-then-is_err-clause-leaves g c =
    let listed : Listed = record { grammar = grammar_in c.args.expanded.now; words = c.args.words.now } in
    fails_done c.args.budget listed c.next.arrangements c.advance.new.self c.next.printed c.next._turn (g.K.Sink.held c.args.out.now) (g.K.Sink.held c.next.out) (g.K.Sink.held c.write_complete-written.new.sink) c.next.invariant.goes c.if-not-advance.ensures
    (failed_of c.write_complete-written.result _ (sym c.is_err.ensures.value ∙ c.if-is_err.true) c.write_complete-written.ensures.front)

pub returns-then-not-advance-clause-leaves : goal.returns-then-not-advance-clause-leaves
returns-then-not-advance-clause-leaves g c =
    let listed : Listed = record { grammar = grammar_in c.args.expanded.now; words = c.args.words.now } in
    leaves_done c.args.budget listed c.next.arrangements c.advance.new.self c.next.printed c.next._turn (g.K.Sink.held c.args.out.now) (g.K.Sink.held c.next.out) (g.K.Sink.held c.write_complete-written.new.sink) c.next.invariant.goes c.if-not-advance.ensures
    (done_of c.write_complete-written.result _ (sym c.is_err.ensures.value ∙ c.if-is_err.false) c.write_complete-written.ensures.all)

-- ---- an arrangement is reached

pub view-requires : goal.view-requires
view-requires g c = subst IsSome (sym (c.if-not-advance.ensures.next refl).1) refl

pub overflow_add-printed : goal.overflow_add-printed
overflow_add-printed g c = let few = c.next.invariant.goes.going.few in let more = c.next-test.true in omega (arith, few, more)

pub with_printed-printed-requires : goal.with_printed-printed-requires
with_printed-printed-requires g c = let few = c.next.invariant.goes.going.few in let more = c.next-test.true in omega (arith, few, more)

pub with_printed-requires : goal.with_printed-requires
with_printed-requires g c = let few = c.next.invariant.goes.going.few in let more = c.next-test.true in omega (arith, few, more)

-- the next one is looked for
pub next-preserved : goal.next-preserved
next-preserved g c =
    let listed : Listed = record { grammar = grammar_in c.args.expanded.now; words = c.args.words.now } in
    let old = g.K.Sink.held c.args.out.now in
    let now = g.K.Sink.held c.next.out in
    let reached = goes_on c.args.budget listed c.next.arrangements c.advance.new.self c.next.printed c.next._turn old now c.next.invariant.goes c.if-not-advance.ensures c.view.result.now c.view.ensures in
    let searched = whole_searched c.in-Whole.found in
    record {
      goes =
          goes_whole c.args.budget listed c.advance.new.self c.next.printed c.next._turn c.view.result.now old now reached c.in-Whole.found c.with_printed-printed.result (g.K.Sink.held c.print_ranks-searched.new.out) (c.in-Whole.ensures.keeps searched.0) (c.in-Whole.ensures.one searched.0)
          c.with_printed-printed.ensures c.in-Whole.ensures.written;
      stock = c.in-Whole.ensures.stock searched.0;
      quiet = c.in-Whole.ensures.quiet searched.1 ∙ c.next.invariant.quiet;
    }

-- ---- its search is spent

pub returns-then-is_err-2-clause-leaves : goal.returns-then-is_err-2-clause-leaves
returns-then-is_err-2-clause-leaves g c =
    let listed : Listed = record { grammar = grammar_in c.args.expanded.now; words = c.args.words.now } in
    let old = g.K.Sink.held c.args.out.now in
    let now = g.K.Sink.held c.next.out in
    let reached = goes_on c.args.budget listed c.next.arrangements c.advance.new.self c.next.printed c.next._turn old now c.next.invariant.goes c.if-not-advance.ensures c.view.result.now c.view.ensures in
    let searched = spent_searched c.in-Spent.found in
    fails_spent c.args.budget listed c.advance.new.self c.next.printed c.next._turn c.view.result.now old now reached c.in-Spent.found c.with_printed.result (g.K.Sink.held c.print_ranks-searched.new.out) (g.K.Sink.held c.write_spent-written.new.sink) (c.in-Spent.ensures.keeps searched.0)
    (c.in-Spent.ensures.one searched.0) c.with_printed.ensures c.in-Spent.ensures.written (failed_of c.write_spent-written.result _ (sym c.is_err-in-Spent.ensures.value ∙ c.if-is_err-2.true) c.write_spent-written.ensures.front)

pub returns-in-Spent-clause-leaves : goal.returns-in-Spent-clause-leaves
returns-in-Spent-clause-leaves g c =
    let listed : Listed = record { grammar = grammar_in c.args.expanded.now; words = c.args.words.now } in
    let old = g.K.Sink.held c.args.out.now in
    let now = g.K.Sink.held c.next.out in
    let reached = goes_on c.args.budget listed c.next.arrangements c.advance.new.self c.next.printed c.next._turn old now c.next.invariant.goes c.if-not-advance.ensures c.view.result.now c.view.ensures in
    let searched = spent_searched c.in-Spent.found in
    leaves_spent c.args.budget listed c.advance.new.self c.next.printed c.next._turn c.view.result.now old now reached c.in-Spent.found c.with_printed.result (g.K.Sink.held c.print_ranks-searched.new.out) (g.K.Sink.held c.write_spent-written.new.sink) (c.in-Spent.ensures.keeps searched.0)
    (c.in-Spent.ensures.one searched.0) c.with_printed.ensures c.in-Spent.ensures.written (done_of c.write_spent-written.result _ (sym c.is_err-in-Spent.ensures.value ∙ c.if-is_err-2.false) c.write_spent-written.ensures.all)

-- ---- the sink fails, or memory is wanting

pub returns-in-Failed-clause-leaves : goal.returns-in-Failed-clause-leaves
returns-in-Failed-clause-leaves g c =
    let listed : Listed = record { grammar = grammar_in c.args.expanded.now; words = c.args.words.now } in
    let old = g.K.Sink.held c.args.out.now in
    let now = g.K.Sink.held c.next.out in
    let reached = goes_on c.args.budget listed c.next.arrangements c.advance.new.self c.next.printed c.next._turn old now c.next.invariant.goes c.if-not-advance.ensures c.view.result.now c.view.ensures in
    leaves_failed c.args.budget listed c.advance.new.self c.next.printed c.next._turn c.view.result.now old now reached (g.K.Sink.held c.print_ranks-searched.new.out) c.in-Failed.ensures.written

pub returns-in-OutOfMemory-clause-leaves : goal.returns-in-OutOfMemory-clause-leaves
returns-in-OutOfMemory-clause-leaves g c =
    let listed : Listed = record { grammar = grammar_in c.args.expanded.now; words = c.args.words.now } in
    let old = g.K.Sink.held c.args.out.now in
    let now = g.K.Sink.held c.next.out in
    let reached = goes_on c.args.budget listed c.next.arrangements c.advance.new.self c.next.printed c.next._turn old now c.next.invariant.goes c.if-not-advance.ensures c.view.result.now c.view.ensures in
    leaves_reached c.args.budget listed c.advance.new.self c.next.printed c.next._turn c.view.result.now old now reached (g.K.Sink.held c.print_ranks-searched.new.out) c.in-OutOfMemory.ensures.written

pub returns-clause-leaves : goal.returns-clause-leaves
returns-clause-leaves g c =
    let listed : Listed = record { grammar = grammar_in c.args.expanded.now; words = c.args.words.now } in
    leaves_going c.args.budget listed c.next.arrangements c.next.printed c.next._turn (g.K.Sink.held c.args.out.now) (g.K.Sink.held c.next.out) c.next.invariant.goes
