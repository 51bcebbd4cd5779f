-- Wake sets whose kinds the tests of a principle use name.
use Rattle.std.proofs.Common.{◌≡◌, ℕ, ◌^◌, inl, inr, ap, sym, subst, arith}
use Rattle.std.specs.Int.{bit_at}
use Rattle.std.proofs.lemmas.Bool.{cases_eq}
use Rattle.std.proofs.lemmas.Nat.Bits.{bit_at-pow_other, bit_at-zero}
use Rattle.xdg_problem.specs.declared.parts.Group.{Group}
use Rattle.xdg_problem.specs.declared.parts.Parts.{Parts}
use Rattle.xdg_propcore.specs.Kinds.{IsNamed, AreNamed}

-- the set of no kind
pub named_none : (parts : Parts) (group : Group) → AreNamed parts group 0
named_none parts group kind one = absurd (let z = bit_at-zero kind in omega (arith, z, one))

-- the set of one kind
pub named_one : (parts : Parts) (group : Group) (kind wakes : ℕ) → wakes ≡ 2 ^ kind → IsNamed parts group kind → AreNamed parts group wakes
named_one parts group kind wakes is named other one = elim (cases_eq other kind) [
  | inl q ↦ inr (subst (IsNamed parts group) (sym q) named)
  | inr n ↦ absurd (let z = bit_at-pow_other kind other n in let y = ap (λ m. bit_at m other) is in omega (arith, z, y, one))
]
