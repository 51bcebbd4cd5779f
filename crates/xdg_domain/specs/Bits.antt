-- The set that is made of the members of a set is that set: a law of the way in which code keeps sets.
use Rattle.std.specs.Prelude.{◌≡◌, ◌<◌, ◌^◌}
use Rattle.xdg_domain.specs.declared.cards.CardSet.TheInside.{Inside}
use Rattle.xdg_facts.specs.BitSets.{members, number}
use Rattle.xdg_facts.proofs.Weights.{same_number}

-- the members give the number back
pub same_bits : (s : Inside) → s.bits < 2 ^ 128 → record { bits = number (members s.bits) } ≡ s
same_bits s within = λ i. record { bits = same_number s.bits 128 within i }
