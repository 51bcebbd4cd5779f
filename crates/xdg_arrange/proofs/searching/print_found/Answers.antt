use Rattle.std.proofs.Common.{◌∙◌, arith, map, refl, subst, sym}
use Rattle.std.specs.Prelude.{codes}
use Rattle.xdg_split.proofs.FoundSoFar.{analysis_is}
use Rattle.xdg_problem.specs.Analyses.{IsAnalysis}
use Rattle.xdg_text.specs.Lines.{line}
use Rattle.xdg_text.specs.Words.{word_text}
use Rattle.xdg_arrange.proofs.Laying.{adds_spent, adds_whole, block_failed, in_range, laid_more, laid_none}
use Rattle.xdg_stream.proofs.Streaming.{found_fits}
use Rattle.xdg_arrange.proofs.searching.print_found.Goals as goal
use Rattle.xdg_facts.proofs.Options.{done_of, failed_of}

pub draw-init : goal.draw-init
draw-init g c = record {
  laid =
      laid_none (line (codes "arrangement") (map word_text c.args.lead.now)) c.args.problem.now c.args.stream.now.budget c.args.stream.now (g.K.Sink.held c.args.out.now) c.requires.given c.requires.begun refl c.requires.fresh c.requires.charged;
  quiet = refl;
}

pub overflow_add-count : goal.overflow_add-count
overflow_add-count g c =
    let range = in_range (line (codes "arrangement") (map word_text c.args.lead.now)) c.args.problem.now c.args.stream.now.budget c.draw.stream c.advance.new.self c.draw.count _ _ c.draw.invariant.laid c.in-Found.ensures.step in
    let small = c.requires.small in
    omega (arith, range, small)

pub write_found-written-requires : goal.write_found-written-requires
write_found-written-requires g c =
    let f = c.draw.invariant.laid in
    let step = c.in-Found.ensures.step in
    let new = c.advance.new.self in
    let is = analysis_is c.args.problem.now new.parts new.last c.entries.result.now c.attrs.result.now c.edges.result.now (step.given.0 ∙ f.problem) c.entries.ensures c.attrs.ensures c.edges.ensures in
    subst (IsAnalysis c.args.problem.now) (sym is) (found_fits f.problem step)

pub returns-then-is_err-clause-written : goal.returns-then-is_err-clause-written
returns-then-is_err-clause-written g c =
    let f = c.draw.invariant.laid in
    let step = c.in-Found.ensures.step in
    let new = c.advance.new.self in
    let is = analysis_is c.args.problem.now new.parts new.last c.entries.result.now c.attrs.result.now c.edges.result.now (step.given.0 ∙ f.problem) c.entries.ensures c.attrs.ensures c.edges.ensures in
    block_failed (line (codes "arrangement") (map word_text c.args.lead.now)) c.args.problem.now c.args.stream.now.budget c.draw.stream new c.draw.count _ _ f step _ is _ c.requires.parts
    (failed_of c.write_found-written.result _ (sym c.is_err.ensures.value ∙ c.if-is_err.true) c.write_found-written.ensures.front)

pub draw-preserved : goal.draw-preserved
draw-preserved g c =
    let f = c.draw.invariant.laid in
    let step = c.in-Found.ensures.step in
    let new = c.advance.new.self in
    let is = analysis_is c.args.problem.now new.parts new.last c.entries.result.now c.attrs.result.now c.edges.result.now (step.given.0 ∙ f.problem) c.entries.ensures c.attrs.ensures c.edges.ensures in
    record {
      laid = laid_more (line (codes "arrangement") (map word_text c.args.lead.now)) c.args.problem.now c.args.stream.now.budget c.draw.stream new c.draw.count _ _ f step _ is _ (done_of c.write_found-written.result _ (sym c.is_err.ensures.value ∙ c.if-is_err.false) c.write_found-written.ensures.all);
      quiet = done_of c.write_found-written.result _ (sym c.is_err.ensures.value ∙ c.if-is_err.false) c.write_found-written.ensures.quiet ∙ c.draw.invariant.quiet;
    }

pub returns-in-End-clause-written : goal.returns-in-End-clause-written
returns-in-End-clause-written g c =
    adds_whole (line (codes "arrangement") (map word_text c.args.lead.now)) c.args.problem.now c.args.stream.now.budget c.draw.stream c.advance.new.self c.draw.count _ _ c.draw.invariant.laid c.requires.parts c.in-End.ensures.step

pub returns-in-Spent-clause-written : goal.returns-in-Spent-clause-written
returns-in-Spent-clause-written g c =
    adds_spent (line (codes "arrangement") (map word_text c.args.lead.now)) c.args.problem.now c.args.stream.now.budget c.draw.stream c.advance.new.self c.draw.count _ _ c.draw.invariant.laid c.requires.parts c.in-Spent.ensures.step
