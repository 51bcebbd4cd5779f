use Rattle.std.proofs.Common.{◌≡◌, take}
use Rattle.xdg_lexicon.specs.Denotes.{closed_args}
use Rattle.xdg_lexicon.proofs.closing.close_args.Given as goal

abbrev pub invariant-loop-pair : goal.invariant-loop-pair
invariant-loop-pair l = l.made ≡ closed_args l.fn.bindings (take l.pair-index l.fn.args)
