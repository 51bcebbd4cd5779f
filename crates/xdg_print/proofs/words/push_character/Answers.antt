use Rattle.std.proofs.Common.{◌≡◌, ◌==◌, false, arith, ◌∙◌, sym}
use Rattle.std.specs.Char.{encode_utf8}
use Rattle.std.specs.List.{flat_map}
use Rattle.std.proofs.lemmas.Bool.{or_from}
use Rattle.xdg_base.specs.Spelling.{escaped}
use Rattle.xdg_print.proofs.Escaping.{character_kept}
use Rattle.xdg_print.proofs.words.push_character.Goals as goal

pub returns : goal.returns
returns c =
    let one : (c.args.c == 34) ≡ false = grind (arith, c.if-c-eq34.false) in
    let other : (c.args.c == 92) ≡ false = grind (arith, c.if-c-eq92.false) in
    let same : flat_map escaped (encode_utf8 c.args.c) ≡ c.encode_utf8.result.now = character_kept c.args.c (or_from (c.args.c == 34) (c.args.c == 92) one other) ∙ sym c.encode_utf8.ensures.value in
    rw same c.push_str-2.ensures.ok
