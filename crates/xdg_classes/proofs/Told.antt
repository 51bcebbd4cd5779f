-- What the parts of the pass tell together.
use Rattle.std.proofs.Common.{◌≡◌, ℕ, List, [], Option, Some, sym, ap, ap₂, ◌∙◌}
use Rattle.std.specs.List.{flat_map}
use Rattle.std.specs.Prelude.{option_map}
use Rattle.xdg_base.specs.declared.faults.Fault.{Fault}
use Rattle.xdg_names.specs.First.{first, earlier}
use Rattle.xdg_names.proofs.First.{first_append}
use Rattle.xdg_types.specs.NameFaults.{foreign, repeats, with_all, different}
use Rattle.xdg_classes.specs.Bodies.{Called}
use Rattle.xdg_classes.specs.Definitions.{ClassDef, class_named}
use Rattle.xdg_types.specs.Parts.{keys}
use Rattle.xdg_classes.specs.NameFaults.{Asked, asked_by, left_out, class_faults, call_faults}

-- of a use of a class that asks this
pub class_told : (o : Option Asked) (a : Asked) (call : Called) (given : List (List ℕ)) (unknown left found : Option Fault) → o ≡ Some a → given ≡ different (keys call.args)
    → unknown ≡ first (flat_map (foreign a.has) (keys call.args)) → left ≡ first (left_out given a.needs call.name.span.start) → found ≡ earlier unknown left → found ≡ first (class_faults o call)
class_told o a call given unknown left found is known no_such out sum =
    sum ∙ ap₂ earlier no_such (out ∙ ap (λ g. first (left_out g a.needs call.name.span.start)) known)
    ∙ sym (first_append (flat_map (foreign a.has) (keys call.args)) (left_out (different (keys call.args)) a.needs call.name.span.start))
    ∙ sym (ap (λ p. first (class_faults p call)) is)

-- of a use
pub call_told : (cs : List ClassDef) (call : Called) (seen given : List (List ℕ)) (o : Option Asked) (name : List ℕ) (again wrong found : Option Fault) → seen ≡ [] → again ≡ first (repeats seen (keys call.args)) → given ≡ with_all seen (keys call.args)
    → (given ≡ different (keys call.args) → wrong ≡ first (class_faults o call)) → o ≡ option_map asked_by (class_named cs name) → name ≡ call.name.text → found ≡ earlier again wrong → found ≡ first (call_faults cs call)
call_told cs call seen given o name again wrong found none twice all by is named sum =
    let same : given ≡ different (keys call.args) = all ∙ ap (λ s. with_all s (keys call.args)) none in
    let asks : o ≡ option_map asked_by (class_named cs call.name.text) = is ∙ ap (λ n. option_map asked_by (class_named cs n)) named in
    sum ∙ ap₂ earlier (twice ∙ ap (λ s. first (repeats s (keys call.args))) none) (by same ∙ ap (λ p. first (class_faults p call)) asks)
    ∙ sym (first_append (repeats [] (keys call.args)) (class_faults (option_map asked_by (class_named cs call.name.text)) call))
