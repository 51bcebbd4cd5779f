use Rattle.std.proofs.Common.{◌≡◌, true, sym, ◌∙◌}
use Rattle.std.proofs.lemmas.Bool.{false≢true}
use Rattle.xdg_problem.specs.Arguments.{truth_of}
use Rattle.xdg_rules.specs.Rules.{FailsTest}
use Rattle.xdg_propcore.proofs.Sweeping.{sweeps_start}
use Rattle.xdg_porder.proofs.Ending.{failed_all}
use Rattle.xdg_porder.proofs.sweep.take_failing.Goals as goal

pub returns-then-not-truth_of : goal.returns-then-not-truth_of
returns-then-not-truth_of c = sweeps_start c.args.group.now (λ box. truth_of c.args.group.now.truths 0 ≡ true → FailsTest c.args.store.now.parts c.args.group.now box → ⊥) c.args.pass.now c.args.store.now c.requires.0.known (λ along failing. false≢true (sym c.if-not-truth_of.true ∙ (c.truth_of.ensures ∙ along)))

pub returns-then-not-fails_test : goal.returns-then-not-fails_test
returns-then-not-fails_test c = sweeps_start c.args.group.now (λ box. truth_of c.args.group.now.truths 0 ≡ true → FailsTest c.args.store.now.parts c.args.group.now box → ⊥) c.args.pass.now c.args.store.now c.requires.0.known (λ along failing. false≢true (sym c.if-not-fails_test.true ∙ c.fails_test.ensures.1 failing))

pub returns : goal.returns
returns c = failed_all c.args.group.now (λ box. truth_of c.args.group.now.truths 0 ≡ true → FailsTest c.args.store.now.parts c.args.group.now box → ⊥) c.args.pass.now c.args.store.now c.fail.new.self c.requires.0 (c.fails_test.ensures.0 c.if-not-fails_test.false) c.fail.ensures.goes c.fail.ensures.dead
