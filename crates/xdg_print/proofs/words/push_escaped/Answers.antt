use Rattle.std.specs.Str.Iter.{chars_rest}
use Rattle.xdg_print.proofs.Escaping.{next_character, all_escaped}
use Rattle.xdg_print.proofs.words.push_escaped.Goals as goal

pub loop-c-preserved : goal.loop-c-preserved
loop-c-preserved c = next_character c.args.text.now _ _ c.args.characters.now _ _ c.in-Some.c c.in_ok-push_character.ensures c.loop-c.invariant c.in-Some.ensures.steps.0

pub returns : goal.returns
returns c = all_escaped c.args.text.now c.loop-c.text c.args.characters.now (chars_rest c.loop-c.c-iterator) c.loop-c.invariant c.in-None.ensures.steps.0.0
