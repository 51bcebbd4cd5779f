use Rattle.std.proofs.Common.{◌<◌, ◌≤◌, length, sym, subst, arith}
use Rattle.std.specs.List.{AllZip}
use Rattle.std.proofs.lemmas.List.{take_all}
use Rattle.xdg_build.specs.Grammars.{grammar_of}
use Rattle.xdg_build.specs.Known.{IsKnownFor}
use Rattle.xdg_build.proofs.Recorded.{zip_turn}
use Rattle.xdg_build.proofs.records.Records.new.Goals as goal

pub loop-preserved : goal.loop-preserved
loop-preserved c = λ lexicon.
    zip_turn (λ u known. IsKnownFor (grammar_of c.args.checked.now lexicon) u known.entries) c.args.checked.now.principles c.loop.kept.items c.push.new.self.items c.loop.counter c.new.result
    (λ u. subst (IsKnownFor (grammar_of c.args.checked.now lexicon) u) (sym c.new.ensures.empty) tt)
    (subst (λ uses. c.loop.counter < length uses) c.principles-uses.ensures.same c.loop-test.true) (c.loop.invariant lexicon) c.in_ok-push.ensures.items

pub returns : goal.returns
returns c = λ lexicon.
    subst (λ uses. AllZip (λ u known. IsKnownFor (grammar_of c.args.checked.now lexicon) u known.entries) uses c.loop.kept.items)
    (take_all c.loop.counter c.args.checked.now.principles (subst (λ uses. length uses ≤ c.loop.counter) c.principles-uses.ensures.same (omega (arith, c.loop-test.false)))) (c.loop.invariant lexicon)
