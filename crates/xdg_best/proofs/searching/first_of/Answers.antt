use Rattle.xdg_best.proofs.Searched.{found_round, end_round, spent_round}
use Rattle.xdg_best.proofs.searching.first_of.Goals as goal
use Rattle.std.proofs.Common.{subst, sym, ℕ}
use Rattle.xdg_best.specs.Rounds.{Finds}

pub returns-in_ok-analysis-in-Found : goal.returns-in_ok-analysis-in-Found
returns-in_ok-analysis-in-Found g c =
    subst (λ (k : ℕ). Finds c.args.stream.now.parts c.args.stream.now.start c.args.stream.now.budget c.in_ok-analysis-in-Found.analysis k) (sym c.charged.ensures)
    (found_round c.args.stream.now c.advance.new.self c.requires.parts c.requires.begun c.requires.charged c.in-Found.ensures.step c.in_ok-analysis-in-Found.analysis c.in_ok-analysis-in-Found.ensures)

pub returns-in-End : goal.returns-in-End
returns-in-End g c = end_round c.args.stream.now c.advance.new.self c.requires.parts c.requires.begun c.requires.charged c.in-End.ensures.step

pub returns-in-Spent : goal.returns-in-Spent
returns-in-Spent g c = spent_round c.args.stream.now c.advance.new.self c.requires.parts c.requires.begun c.requires.charged c.in-Spent.ensures.step
