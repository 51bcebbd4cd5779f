use Rattle.std.proofs.Common.{◌≡◌, take, map}
use Rattle.xdg_build.specs.Grammars.{grammar_of}
use Rattle.xdg_packed.specs.Lexicon.{Lexicon}
use Rattle.xdg_build.specs.Plans.{plan_at}
use Rattle.xdg_build.proofs.plans.plans_of.Given as goal

abbrev pub invariant-loop-place : goal.invariant-loop-place
invariant-loop-place l = (lexicon : Lexicon) → l.made ≡ map (plan_at (grammar_of l.checked lexicon) l.dims) (take l.place-index l.used)
