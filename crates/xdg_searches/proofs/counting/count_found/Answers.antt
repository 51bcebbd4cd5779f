use Rattle.std.proofs.Common.{◌∙◌, arith, refl}
use Rattle.xdg_searches.proofs.Tallying.{complete_counts, in_range, spent_counts, tallied_more, tallied_none}
use Rattle.xdg_stream.proofs.Streaming.{found_fits}
use Rattle.xdg_searches.proofs.counting.count_found.Goals as goal

pub draw-init : goal.draw-init
draw-init g c = tallied_none c.args.problem.now c.args.stream.now.budget c.args.stream.now c.requires.given c.requires.begun refl c.requires.fresh c.requires.charged

pub is_last_broken-requires : goal.is_last_broken-requires
is_last_broken-requires g c = record {
  given = c.in-Found.ensures.step.given.0 ∙ c.draw.invariant.problem;
  fits = found_fits c.draw.invariant.problem c.in-Found.ensures.step;
}

pub overflow_add-analyses : goal.overflow_add-analyses
overflow_add-analyses g c =
    let range = in_range c.args.problem.now c.args.stream.now.budget c.draw.stream c.advance.new.self c.draw.analyses c.draw.broken c.draw.invariant c.in-Found.ensures.step in
    let small = c.requires.small in
    omega (arith, range.0, small)

pub counted-broken-requires : goal.counted-broken-requires
counted-broken-requires g c =
    let range = in_range c.args.problem.now c.args.stream.now.budget c.draw.stream c.advance.new.self c.draw.analyses c.draw.broken c.draw.invariant c.in-Found.ensures.step in
    let small = c.requires.small in
    omega (arith, range.1, small)

pub draw-preserved : goal.draw-preserved
draw-preserved g c =
    tallied_more c.args.problem.now c.args.stream.now.budget c.draw.stream c.advance.new.self c.draw.analyses c.draw.broken c.draw.invariant c.in-Found.ensures.step
    c.in_ok-is_broken-in-Found.is_broken c.in_ok-is_broken-in-Found.ensures _ c.counted-broken.ensures

pub returns-in-End : goal.returns-in-End
returns-in-End g c = complete_counts c.args.problem.now c.args.stream.now.budget c.draw.stream c.advance.new.self c.draw.analyses c.draw.broken c.draw.invariant c.requires.parts c.in-End.ensures.step

pub returns-in-Spent : goal.returns-in-Spent
returns-in-Spent g c = spent_counts c.args.problem.now c.args.stream.now.budget c.draw.stream c.advance.new.self c.draw.analyses c.draw.broken c.draw.invariant c.requires.parts c.in-Spent.ensures.step
