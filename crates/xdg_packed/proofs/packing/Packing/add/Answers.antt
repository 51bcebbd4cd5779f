use Rattle.std.proofs.Common.{ap, ◌∙◌, arith}
use Rattle.xdg_packed.specs.Lexicon.{word_of}
use Rattle.xdg_packed.proofs.Said.{known_packing, number_fits, last_within, last_dim, new_packing, new_count}
use Rattle.xdg_packed.proofs.packing.Packing.add.Goals as goal

pub invariant_of-packing : goal.invariant_of-packing
invariant_of-packing c = known_packing c.self.view_is c.self.invariant c.args.entry c.requires.word c.in_ok-add.ensures.right (c.in_ok-add.ensures.known c.if-not-branch.true)

pub word-word-requires-clause-number : goal.word-word-requires-clause-number
word-word-requires-clause-number c = last_within c.self.view_is c.self.invariant c.args.entry c.requires.word c.in_ok-add.ensures.right (c.in_ok-add.ensures.new c.if-not-branch.false)

pub word-word-requires-clause-dim : goal.word-word-requires-clause-dim
word-word-requires-clause-dim c = last_dim c.self.view_is c.self.invariant c.args.entry c.requires.word c.in_ok-add.ensures.right (c.in_ok-add.ensures.new c.if-not-branch.false)

pub overflow_cast-number : goal.overflow_cast-number
overflow_cast-number c = omega (arith, number_fits c.self.view_is c.self.invariant c.args.entry c.requires.word c.in_ok-add.ensures.right (c.in_ok-add.ensures.new c.if-not-branch.false))

pub invariant_of-packing-2 : goal.invariant_of-packing-2
invariant_of-packing-2 c =
    new_packing c.self.view_is c.self.invariant c.args.entry c.requires.word c.in_ok-add.ensures.right (c.in_ok-add.ensures.new c.if-not-branch.false)
    c.word-word.result.now c.add-2.new.self c.word-word.ensures c.in_ok-add-2.ensures.index

pub returns-clause-count : goal.returns-clause-count
returns-clause-count c =
    new_count c.self.view_is c.self.invariant c.args.entry c.requires.word c.in_ok-add.ensures.right (c.in_ok-add.ensures.new c.if-not-branch.false)
    c.of-of_word.result.now c.word_at.result.now (c.word_at.ensures ∙ ap (word_of c.self.inside.dim c.self.inside.field) c.as_slice.ensures) (c.of-of_word.ensures _ c.self.invariant.indexed)
