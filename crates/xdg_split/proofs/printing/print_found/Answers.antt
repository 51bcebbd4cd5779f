use Rattle.std.proofs.Common.{◌+◌, ◌++◌, [], ◌∷◌, arith, length, length-append, ◌∙◌, subst, sym}
use Rattle.xdg_io.specs.Held.{AppendsFront}
use Rattle.xdg_facts.specs.declared.Ending.TheVariants as endings
use Rattle.xdg_text.specs.Blocks.{shown}
use Rattle.xdg_split.proofs.FoundSoFar.{analysis_is, first_answered, found_answered, found_more, written_more}
use Rattle.xdg_split.proofs.Ending.{block_failed, complete_written, ended_written, spent_written}
use Rattle.xdg_split.proofs.printing.print_found.Goals as goal
use Rattle.xdg_facts.proofs.Lists.{counted_more}
use Rattle.xdg_facts.proofs.Options.{is_wanted, not_wanted, done_of, failed_of}
use Rattle.xdg_facts.proofs.Wanted.{wanted_reached}

pub returns-then-is_err-clause-written : goal.returns-then-is_err-clause-written
returns-then-is_err-clause-written g c other text prints =
    let parts = c.args.problem.now in
    let f = c.draw.invariant.found in
    let step = c.in-Found.ensures.step in
    let new = c.advance.new.self in
    let is = analysis_is parts new.parts new.last c.entries.result.now c.attrs.result.now c.edges.result.now (step.given.0 ∙ f.problem) c.entries.ensures c.attrs.ensures c.edges.ensures in
    let n = f.count_is in
    let failed = failed_of c.write_parts-written.result _ (sym c.is_err.ensures.value ∙ c.if-is_err.true) c.write_parts-written.ensures.front in
    block_failed c.args.form _ c.args.first parts _ f.found new.last (c.draw.count + 1) _ _ _ c.requires.parts
    (found_answered f step)
    (omega (arith, n)) (wanted_reached c.args.first (length f.found) _ f.below (let l = length-append f.found (new.last ∷ []) in omega (arith, l))) f.written
    (subst (λ z. AppendsFront (g.K.Sink.held c.draw.sink) (g.K.Sink.held c.write_parts-written.new.sink) (shown c.args.form parts (c.draw.count + 1) z)) is failed)
    other text prints

pub draw-preserved : goal.draw-preserved
draw-preserved g c =
    let parts = c.args.problem.now in
    let f = c.draw.invariant.found in
    let step = c.in-Found.ensures.step in
    let new = c.advance.new.self in
    let is = analysis_is parts new.parts new.last c.entries.result.now c.attrs.result.now c.edges.result.now (step.given.0 ∙ f.problem) c.entries.ensures c.attrs.ensures c.edges.ensures in
    record {
      found = found_more f step _ is _ (done_of c.write_parts-written.result _ (sym c.is_err.ensures.value ∙ c.if-is_err.false) c.write_parts-written.ensures.all) (not_wanted c.args.first (c.draw.count + 1) (sym c.eq.ensures ∙ c.if-eq.false));
      quiet = done_of c.write_parts-written.result _ (sym c.is_err.ensures.value ∙ c.if-is_err.false) c.write_parts-written.ensures.quiet ∙ c.draw.invariant.quiet;
    }

pub returns-then-eq-clause-written : goal.returns-then-eq-clause-written
returns-then-eq-clause-written g c =
    let parts = c.args.problem.now in
    let f = c.draw.invariant.found in
    let step = c.in-Found.ensures.step in
    let new = c.advance.new.self in
    let is = analysis_is parts new.parts new.last c.entries.result.now c.attrs.result.now c.edges.result.now (step.given.0 ∙ f.problem) c.entries.ensures c.attrs.ensures c.edges.ensures in
    ended_written c.print_last.result endings.First c.args.form _ c.args.first parts _ (f.found ++ new.last ∷ []) _ _ _ _ c.requires.parts
    (first_answered f step (is_wanted c.args.first (c.draw.count + 1) (sym c.eq.ensures ∙ c.if-eq.true)))
    (written_more f step _ is _ (done_of c.write_parts-written.result _ (sym c.is_err.ensures.value ∙ c.if-is_err.false) c.write_parts-written.ensures.all))
    (counted_more f.found new.last c.draw.count f.count_is) c.print_last.ensures.written

pub returns-in-End-clause-written : goal.returns-in-End-clause-written
returns-in-End-clause-written g c = complete_written c.draw.invariant.found c.requires.parts c.print_last-in-End.result _ c.in-End.ensures.step c.print_last-in-End.ensures.written

pub returns-in-Spent-clause-written : goal.returns-in-Spent-clause-written
returns-in-Spent-clause-written g c = spent_written c.draw.invariant.found c.requires.parts c.print_last-in-Spent.result _ c.in-Spent.ensures.step c.print_last-in-Spent.ensures.written

pub returns-then-eq-clause-quiet : goal.returns-then-eq-clause-quiet
returns-then-eq-clause-quiet g c ended =
    c.print_last.ensures.quiet ended ∙ done_of c.write_parts-written.result _ (sym c.is_err.ensures.value ∙ c.if-is_err.false) c.write_parts-written.ensures.quiet ∙ c.draw.invariant.quiet
