-- Propagators that stand for the principle uses in their order stand for all of them.
use Rattle.std.proofs.Common.{◌≡◌, ℕ, ◌<◌, List, [], ◌∷◌, length, get_or, arith}
use Rattle.std.specs.Prelude.{Contains}
use Rattle.std.proofs.lemmas.List.{get_or_default}
use Rattle.xdg_problem.specs.declared.parts.Parts.{Parts}
use Rattle.xdg_propcore.specs.Uses.{AllStandIn}
use Rattle.xdg_engine.specs.declared.any_prop.AnyProp.{AnyProp}
use Rattle.xdg_engine.specs.Standing.{AreInOrder, stands_for}

-- the propagator at a place
at_place : (parts : Parts) (props : List AnyProp) (number : ℕ) → number < length props → ((p : AnyProp) → stands_for (get_or props number p) parts number) → (p : AnyProp) × Contains props p × stands_for p parts number
at_place parts [] number l each = absurd (omega (arith, l))
at_place parts (first ∷ rest) number l each =
    let p : AnyProp = get_or (first ∷ rest) number first in
    (p, (number, l, get_or_default (first ∷ rest) number p first l), each first)

-- where there is one for each principle use
pub all_stand : (parts : Parts) (count : ℕ) (props : List AnyProp) → count ≡ length parts.groups → AreInOrder parts count props → AllStandIn stands_for props parts
all_stand parts count props all order = record {
  each = λ number p l. (let m = order.count_is in (number, (omega (arith, l, m, all), order.each number p (omega (arith, l, m)))));
  all = λ number l. at_place parts props number (let m = order.count_is in omega (arith, l, m, all)) (λ p. order.each number p (omega (arith, l, all)));
}
