use Rattle.std.proofs.Common.{vec_len, sym, ◌∙◌}
use Rattle.xdg_facts.proofs.Lists.{any_default}
use Rattle.xdg_packed.proofs.WordLists.{place_inside, place_within, word_found, word_unknown}
use Rattle.xdg_packed.proofs.words.WordIndex.of.Goals as goal

pub index-requires : goal.index-requires
index-requires c = place_inside c.args.self.now.words c.args.word.now c.in-Some.place (vec_len c.args.self.now.numbers) (sym c.in-Some.ensures) (c.args.self.now.numbers.ok.0 ∙ c.requires)

pub returns-in-None : goal.returns-in-None
returns-in-None c said index = sym (word_unknown said c.args.self.now.words c.args.self.now.numbers.items c.args.word.now index (sym c.in-None.ensures))

pub returns-in-Some : goal.returns-in-Some
returns-in-Some c said index =
    c.as_slice.ensures ∙ c.index.ensures
    ∙ any_default c.args.self.now.numbers.items c.in-Some.place c.index.result.now _ (place_within said c.args.self.now.words c.args.self.now.numbers.items c.args.word.now c.in-Some.place index (sym c.in-Some.ensures))
    ∙ word_found said c.args.self.now.words c.args.self.now.numbers.items c.args.word.now c.in-Some.place index (sym c.in-Some.ensures)
