-- One value less: what a step that removes it says of the box.
use Rattle.std.proofs.Common.{◌≡◌, ℕ, ◌^◌, inl, inr, Bool, List, refl, ap, sym, ◌∙◌, arith}
use Rattle.std.specs.Int.{bit_at}
use Rattle.std.proofs.lemmas.Bool.{cases_eq}
use Rattle.std.proofs.lemmas.Nat.Bits.{bit_at-pow_same, bit_at-pow_other}
use Rattle.xdg_problem.specs.declared.parts.Parts.{Parts}
use Rattle.xdg_problem.specs.Boxes.{Has, without}
use Rattle.xdg_problem.proofs.BoxWithout.{without_has, taken_gone}
use Rattle.xdg_propcore.specs.Kinds.{kind_of}
use Rattle.xdg_propcore.specs.Losses.{IsLost, Loses}

-- of a box that loses one value the wake set of its kind has exactly the kinds that are lost
pub loses_one : (parts : Parts) (wakes : ℕ) (box : List (List Bool)) (d v : ℕ) → wakes ≡ 2 ^ kind_of parts d → Has box d v → Loses parts wakes box (without box d v)
loses_one parts wakes box d v is has =
    let gone : IsLost box (without box d v) d v = (has, taken_gone box d v) in
    record {
      some = (kind_of parts d, record { decision = d; value = v; lost = gone; is = refl });
      each = λ e w lost. elim (cases_eq e d) [
        | inl q ↦ ap (bit_at wakes) (ap (kind_of parts) q) ∙ ap (λ n. bit_at n (kind_of parts d)) is ∙ bit_at-pow_same (kind_of parts d)
        | inr n ↦ absurd (lost.1 ((without_has box d v e w).1 (lost.0, λ q r. n q)))
      ];
      only = λ k one. elim (cases_eq k (kind_of parts d)) [
        | inl q ↦ record { decision = d; value = v; lost = gone; is = sym q }
        | inr n ↦ absurd (let z = bit_at-pow_other (kind_of parts d) k n in let y = ap (λ m. bit_at m k) is in omega (arith, z, y, one))
      ];
    }
