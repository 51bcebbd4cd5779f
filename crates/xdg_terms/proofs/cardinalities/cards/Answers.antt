use Rattle.std.proofs.Common.{ap, ◌∙◌}
use Rattle.xdg_domain.specs.Cards.{cards, with_card}
use Rattle.xdg_facts.specs.Rises.{numbers_below}
use Rattle.xdg_terms.specs.Built.{card_numbers, some_or_all}
use Rattle.xdg_terms.proofs.Counting.{stands_in, of_form, some_numbers}
use Rattle.xdg_terms.proofs.cardinalities.cards.Goals as goal

pub returns-in-One : goal.returns-in-One
unfolding card_numbers numbers_below
returns-in-One c = of_form _ _ _ c.in-One.is c.one.ensures.value

pub returns-in-Maybe : goal.returns-in-Maybe
unfolding card_numbers numbers_below
returns-in-Maybe c = of_form _ _ _ c.in-Maybe.is (c.with.ensures.value ∙ ap (λ s. with_card s 1) c.one-in-Maybe.ensures.value)

pub returns-in-Any : goal.returns-in-Any
unfolding card_numbers numbers_below
returns-in-Any c = of_form _ _ _ c.in-Any.is c.all.ensures.value

pub returns-in-Some1 : goal.returns-in-Some1
returns-in-Some1 c = of_form _ _ _ c.in-Some1.is (c.between.ensures ∙ some_numbers)

pub returns-in-Numbers : goal.returns-in-Numbers
unfolding card_numbers
returns-in-Numbers c = of_form _ _ _ c.in-Numbers.is (c.among.ensures ∙ ap (λ ns. some_or_all (cards (stands_in ns))) c.as_slice.ensures)

pub returns-in-Interval : goal.returns-in-Interval
unfolding card_numbers
returns-in-Interval c = of_form _ _ _ c.in-Interval.is c.between-in-Interval.ensures
