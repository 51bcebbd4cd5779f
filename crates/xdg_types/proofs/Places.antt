-- Places of dimensions.
use Rattle.std.proofs.Common.{◌≡◌, ℕ, zero, suc, List, [], ◌∷◌, Some, refl, ap, subst}
use Rattle.std.specs.Prelude.{slice_get}
use Rattle.xdg_types.specs.Table.{ArePlaces}
use Rattle.xdg_facts.specs.Membership.{In}
use Rattle.xdg_facts.proofs.In.{in_got}

pub places_once : (bound : ℕ) (ks : List ℕ) (i j k : ℕ) → ArePlaces bound ks → slice_get ks i ≡ Some k → slice_get ks j ≡ Some k → i ≡ j
places_once bound [] i j k are one other = absurd (cc)
places_once bound (x ∷ ks) zero zero k are one other = refl
places_once bound (x ∷ ks) zero (suc j) k are one other = absurd (are.0.1 (let same : k ≡ x = cc in subst (In ks) same (in_got ks j k other)))
places_once bound (x ∷ ks) (suc i) zero k are one other = absurd (are.0.1 (let same : k ≡ x = cc in subst (In ks) same (in_got ks i k one)))
places_once bound (x ∷ ks) (suc i) (suc j) k are one other = ap suc (places_once bound ks i j k are.1 one other)
