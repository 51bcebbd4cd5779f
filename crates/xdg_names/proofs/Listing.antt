-- Lists in which exactly that stands of which something holds, put together part by part.
use Rattle.std.proofs.Common.{◌≡◌, ℕ, List, [], ◌∷◌}
use Rattle.std.specs.Prelude.{if◌then◌else◌}
use Rattle.xdg_base.specs.declared.faults.Fault.{Fault}
use Rattle.xdg_names.specs.Texts.{has_text}
use Rattle.xdg_names.proofs.Texts.{has_among, among_has, not_among, no_text}
use Rattle.xdg_names.specs.First.{Tells, first}
use Rattle.xdg_names.proofs.First.{tells_as, first-tells}
use Rattle.xdg_facts.specs.Membership.{In}
use Rattle.xdg_facts.proofs.Parts.{Lists, lists_as, lists_unless, lists_when}

-- a list of one, where a text is none of those that are known, and where it stands among those before
pub lists_unknown : {A : Type 0} (known : List (List ℕ)) (text : List ℕ) (y : A) → Lists (if has_text known text then [] else y ∷ []) (λ x. (In known text → ⊥) × (y ≡ x))
lists_unknown known text y = lists_as (lists_unless (has_text known text) y) (λ x. ((λ p. (not_among known text p.0, p.1)), (λ p. (no_text known text p.0, p.1))))

pub lists_known : {A : Type 0} (seen : List (List ℕ)) (text : List ℕ) (y : A) → Lists (if has_text seen text then y ∷ [] else []) (λ x. In seen text × (y ≡ x))
lists_known seen text y = lists_as (lists_when (has_text seen text) y) (λ x. ((λ p. (has_among seen text p.0, p.1)), (λ p. (among_has seen text p.0, p.1))))

-- the first of the list is the first fault of that kind
pub lists_tell : {P : Fault → Type 0} (xs : List Fault) → Lists xs P → Tells P (first xs)
lists_tell {P} xs h = tells_as (In xs) P h.sound h.complete (first xs) (first-tells xs)
