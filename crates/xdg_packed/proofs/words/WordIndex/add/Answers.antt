use Rattle.std.proofs.Common.{◌+◌, ◌++◌, [], ◌∷◌, length, vec_len, sym, ap, ◌∙◌}
use Rattle.std.proofs.lemmas.Result.{on_ok_weaker}
use Rattle.xdg_packed.proofs.WordLists.{place_inside, known_word, new_word, still_as_many}
use Rattle.xdg_packed.proofs.words.WordIndex.add.Goals as goal

pub index_mut-requires : goal.index_mut-requires
index_mut-requires c = place_inside c.args.self.now.words c.args.word.now c.in-Some.place (vec_len c.args.self.now.numbers) (sym c.in-Some.ensures) (c.args.self.now.numbers.ok.0 ∙ c.requires)

pub returns-in-Some-clause-index : goal.returns-in-Some-clause-index
returns-in-Some-clause-index c =
    on_ok_weaker c.push.result
    (λ e said is index. known_word said c.args.word.now c.args.self.now.words c.args.self.now.numbers.items c.in-Some.place c.args.number c.index_mut.result.now c.push.new.self c.index_mut.ensures.value (sym c.in-Some.ensures) e is index)
    c.push.ensures.ok

pub returns-in_ok-add-in-None-clause-as_many : goal.returns-in_ok-add-in-None-clause-as_many
returns-in_ok-add-in-None-clause-as_many c =
    still_as_many c.args.self.now.words c.add.new.self c.args.word.now c.in_ok-add-in-None.field-0 (length c.args.self.now.numbers.items) (length c.push-in-None-2.new.self.items) (sym c.in-None.ensures) c.in_ok-add-in-None.ensures.new c.in_ok-add-in-None.ensures.ok
    c.requires (sym c.push-in-None-2.new.self.ok.0 ∙ c.in_ok-push-in-None-2.ensures.len ∙ ap (λ n. n + 1) c.args.self.now.numbers.ok.0)

pub returns-in_ok-add-in-None-clause-index : goal.returns-in_ok-add-in-None-clause-index
returns-in_ok-add-in-None-clause-index c =
    λ said. new_word said c.args.word.now c.args.self.now.words c.add.new.self c.args.self.now.numbers.items c.push-in-None-2.new.self.items c.args.number c.in_ok-add-in-None.field-0 c.push-in-None.new.self (sym c.in-None.ensures)
    (c.in_ok-push-in-None.ensures.ok ∙ ap (λ l. l ++ c.args.number ∷ []) c.new-first.ensures) c.in_ok-push-in-None-2.ensures.items c.in_ok-add-in-None.ensures.new c.in_ok-add-in-None.ensures.ok
