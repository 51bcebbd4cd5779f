use Rattle.std.proofs.Common.{◌≡◌, ◌++◌}
use Rattle.xdg_searches.specs.Generated.{numbered}
use Rattle.xdg_searches.proofs.generator.push_numbered.Given as goal

abbrev pub invariant-loop-number : goal.invariant-loop-number
invariant-loop-number l = l.text ≡ l.initial.text ++ numbered l.before l.after l.number
