-- Rising lists with the same members are the same, and a list of the numbers that pass a test, made number by number.
use Rattle.std.proofs.Common.{◌≡◌, ℕ, List, [], refl, sym, ◌∙◌}
use Rattle.std.specs.Prelude.{Bool}
use Rattle.std.specs.List.Sorted.{IsStrictlyIncreasing}
use Rattle.xdg_domain.specs.Joined.{above}
use Rattle.xdg_terms.specs.Built.{as_set}
use Rattle.xdg_facts.specs.Rises.{has, numbers_below}
use Rattle.xdg_facts.proofs.Rising.{has_exact}
use Rattle.xdg_domain.proofs.Numbers.{has_beyond_above}
use Rattle.xdg_facts.proofs.Merging.{increasing_same, numbers_increase}

-- ---- rising lists

pub below_start : (p : ℕ → Bool) → [] ≡ numbers_below 0 p
unfolding numbers_below
below_start p = refl

-- ---- sets of a list

pub as_set_has : (ns : List ℕ) (n : ℕ) → has (as_set ns) n ≡ has ns n
unfolding as_set
as_set_has ns = has_exact (above ns) (has ns) (has_beyond_above ns)

pub as_set_rises : (ns : List ℕ) → IsStrictlyIncreasing (as_set ns)
unfolding as_set
as_set_rises ns = numbers_increase (above ns) (has ns)

-- a rising list with the members of this one
pub is_set : (made ns : List ℕ) → IsStrictlyIncreasing made → ((n : ℕ) → has made n ≡ has ns n) → made ≡ as_set ns
is_set made ns rises same = increasing_same made (as_set ns) rises (as_set_rises ns) (λ n. same n ∙ sym (as_set_has ns n))
