use Rattle.std.proofs.Common.{sym, ◌∙◌}
use Rattle.std.proofs.lemmas.List.{with_items_is}
use Rattle.xdg_linear.proofs.Held.{first_call, later_call}
use Rattle.xdg_linear.proofs.arrangements.Arrangements.advance.Goals as goal

pub returns-then-self : goal.returns-then-self
returns-then-self c = later_call c.args.self.now c.self.inside.words.now c.self.inside.begun c.self.inside.numbers.items c.as_mut_slice.result.now c.advance.new.numbers _ c.advance.result (sym c.self.view_is) c.if-self.true c.as_mut_slice.ensures.value
    (with_items_is c.self.inside.numbers c.advance.new.numbers (c.advance.auto.numbers ∙ c.as_mut_slice.ensures.len)) c.self.invariant c.advance.ensures.next c.advance.ensures.last

pub returns : goal.returns
returns c = first_call c.args.self.now c.self.inside.words.now c.self.inside.begun c.self.inside.numbers.items (sym c.self.view_is) c.if-self.false c.self.invariant
