use Rattle.std.proofs.Common.{sym}
use Rattle.xdg_linear.proofs.Held.{word_within, word_lent}
use Rattle.xdg_linear.proofs.arrangements.Arrangements.word.Goals as goal

pub bounds-as_slice-from : goal.bounds-as_slice-from
bounds-as_slice-from c = word_within c.args.self.now c.self.inside.words.now c.as_slice.result.now c.self.inside.begun c.self.inside.numbers.items c.as_slice-2.result.now c.args.place c.from.result (sym c.self.view_is) c.as_slice.ensures c.as_slice-2.ensures.value c.from.ensures c.self.invariant c.requires.within

pub returns : goal.returns
returns c = word_lent c.args.self.now c.self.inside.words.now c.as_slice.result.now c.self.inside.begun c.self.inside.numbers.items c.as_slice-2.result.now c.args.place c.from.result c.index-as_slice-from.result (sym c.self.view_is) c.as_slice.ensures c.as_slice-2.ensures.value c.from.ensures c.self.invariant c.requires.within c.requires.begun c.index-as_slice-from.is
