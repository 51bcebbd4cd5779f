-- How many different elements stand in a list is one number, whichever list keeps them.
use Rattle.std.proofs.Common.{◌≡◌, ℕ, List, [], ◌∷◌, sym, ◌∙◌, arith}
use Rattle.xdg_packed.specs.Lexicon.{Record, CountsDifferent, CountsRows}
use Rattle.xdg_facts.proofs.Counted.{no_more}

module _ {A : Type 0} where
  one_count : (all : List A) (n m : ℕ) → CountsDifferent all n → CountsDifferent all m → n ≡ m
  one_count all n m (xs, a, e) (ys, b, f) =
      let there = no_more xs ys a.once (λ x h. b.each x (a.only x h)) in
      let back = no_more ys xs b.once (λ x h. a.each x (b.only x h)) in
      omega (arith, there, back, e, f)

pub one_sum : (tables : List (List Record)) (n m : ℕ) → CountsRows tables n → CountsRows tables m → n ≡ m
one_sum [] n m e f = e ∙ sym f
one_sum (all ∷ tables) n m (here, later, counts, rest, sum) (there, after, counted, more, total) =
    let first = one_count all here there counts counted in
    let others = one_sum tables later after rest more in
    omega (arith, first, others, sum, total)
