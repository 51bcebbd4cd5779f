-- How the constants of a tuple are read one after the other.
use Rattle.std.proofs.Common.{◌≡◌, ◌<◌, ◌++◌, ◌+◌, ◌-◌, ℕ, suc, List, [], ◌∷◌, sym, ap, ◌∙◌, arith, true, cond, Bool, Some, Option}
use Rattle.xdg_reading.specs.Pieces.{after, lead, leads, element_at, constants_at}
use Rattle.xdg_reading.proofs.Insides.{lead_is, leads_both}

-- one more constant, which another follows
pub more_constants : (end counter : ℕ) (texts : List (List ℕ)) (old new text : List ℕ) (made : List (List ℕ)) (more : Bool) (all : Option (List (List ℕ) × List ℕ)) → counter < end → leads texts (constants_at (end - counter) old) ≡ all → element_at old ≡ Some ((text, more), new) → more ≡ true → made ≡ texts ++ text ∷ [] → leads made (constants_at (end - (counter + 1)) new) ≡ all
more_constants end counter texts old new text made more all within invariant read follows is =
    let m : ℕ = end - (counter + 1) in
    let left : end - counter ≡ suc m = omega (arith, within) in
    let turn : constants_at (end - counter) old ≡ lead text (constants_at m new) =
    ap (λ k. constants_at k old) left ∙ ap (λ o. after o (λ element rest. cond element.1 (lead element.0 (constants_at m rest)) (Some (element.0 ∷ [], rest)))) read ∙ ap (λ t. cond t (lead text (constants_at m new)) (Some (text ∷ [], new))) follows in
    ap (λ z. leads z (constants_at m new)) is
    ∙ sym (leads_both texts (text ∷ []) (constants_at m new))
    ∙ ap (leads texts) (sym (lead_is text (constants_at m new)) ∙ sym turn)
    ∙ invariant
