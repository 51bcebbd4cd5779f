use Rattle.std.proofs.Common.{◌∙◌}
use Rattle.xdg_print.proofs.Listed.{all_listed}
use Rattle.xdg_print.proofs.listing.lexicon_text.Goals as goal

pub returns : goal.returns
returns c =
    c.into_text.ensures
    ∙ all_listed c.args.types.now c.args.lexicon.now.entries c.place_of_words.result _ c.new-printer.result c.put_entries.new.printer c.put_entries_line.new.printer c.place_of_words.ensures.place c.len.ensures.len c.new-printer.ensures
    c.in_ok-put_entries.ensures c.in_ok-put_entries_line.ensures
