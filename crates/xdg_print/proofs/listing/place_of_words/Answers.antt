use Rattle.xdg_print.proofs.WordPlaced.{same_place}
use Rattle.xdg_print.proofs.Listed.{place_within}
use Rattle.xdg_print.proofs.listing.place_of_words.Goals as goal

pub returns-clause-place : goal.returns-clause-place
returns-clause-place c = same_place c.args.types.now c.dims.ensures.keeps c.word_place.result c.word_place.ensures

pub returns-clause-within : goal.returns-clause-within
returns-clause-within c = place_within c.args.types.now c.word_place.result c.word_place.ensures
