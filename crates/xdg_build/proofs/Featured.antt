-- Values of features of entries, by their numbers and by their constants.
use Rattle.std.proofs.Common.{◌≡◌, ◌↔◌, ℕ, ◌<◌, true, List, sym, ap, ◌∙◌, subst}
use Rattle.std.specs.Prelude.{◌==◌, Some}
use Rattle.std.proofs.lemmas.Bool.{eqb-true, eq-eqb}
use Rattle.xdg_domain.specs.Shapes.{Shape, domain, tuple, set, iset, count, IsType, IsSmall}
use Rattle.xdg_domain.specs.Values.{IsIn, AllBelow}
use Rattle.xdg_domain.specs.declared.values.Value.{Value}
use Rattle.xdg_domain.specs.declared.values.Value.TheOpen.{Value-F}
use Rattle.xdg_build.specs.Readings.{value_texts}
use Rattle.xdg_build.proofs.FeatureRows.{Names, names_number, same_number}
use Rattle.xdg_formula.specs.Tables.{member_shape}
use Rattle.xdg_build.specs.Tables.{is_or_has}
use Rattle.xdg_build.specs.Truths.{IsOrHas}
use Rattle.xdg_facts.specs.Rises.{has}
use Rattle.xdg_facts.proofs.Rising.{contains_has, contains_of_has}
use Rattle.xdg_facts.proofs.Options.{some_same}

-- ---- sets

set_says : (s : Shape) (ns : List ℕ) (n : ℕ) (texts : List (List ℕ)) → IsSmall s → AllBelow (count s) ns → n < count s → value_texts s n ≡ texts → (has ns n ≡ true) ↔ Names s ns texts
set_says s ns n texts small below within said =
    let names = names_number s ns n small below within in (
      λ h. subst (Names s ns) said (names.1 (contains_of_has ns n h)),
      λ named. contains_has ns n (names.0 (subst (Names s ns) (sym said) named)),
    )

-- ---- single values

one_says : (s : Shape) (m n : ℕ) (texts : List (List ℕ)) → IsSmall s → m < count s → n < count s → value_texts s n ≡ texts → ((m == n) ≡ true) ↔ (value_texts s m ≡ texts)
one_says s m n texts small below within said = (
  λ h. ap (value_texts s) (eqb-true m n h) ∙ said,
  λ e. eq-eqb m n (same_number s m n small below within (e ∙ sym said)),
)

-- A value has the number of a value of the type of its members, or a member with it, exactly where it has its constants.
pub value_says : (s of : Shape) (v : Value-F Value) (n : ℕ) (texts : List (List ℕ)) → member_shape s ≡ Some of → IsType s → IsIn s v → n < count of → value_texts of n ≡ texts → (is_or_has v n ≡ true) ↔ IsOrHas s v texts
value_says (domain cs) of (Value-F.Const m) n texts h type is within said =
    let same : domain cs ≡ of = some_same (domain cs) of h in
    one_says (domain cs) m n texts type is (subst (λ t. n < count t) (sym same) within) (ap (λ t. value_texts t n) same ∙ said)
value_says (domain cs) of _ n texts h type is within said = absurd is
value_says (tuple ss) of (Value-F.Tuple m) n texts h type is within said =
    let same : tuple ss ≡ of = some_same (tuple ss) of h in
    one_says (tuple ss) m n texts type is (subst (λ t. n < count t) (sym same) within) (ap (λ t. value_texts t n) same ∙ said)
value_says (tuple ss) of _ n texts h type is within said = absurd is
value_says (set s) of (Value-F.Set ns) n texts h type is within said =
    let same : s ≡ of = some_same s of h in
    set_says s ns n texts type is.1 (subst (λ t. n < count t) (sym same) within) (ap (λ t. value_texts t n) same ∙ said)
value_says (set s) of _ n texts h type is within said = absurd is
value_says (iset s) of (Value-F.Set ns) n texts h type is within said =
    let same : s ≡ of = some_same s of h in
    set_says s ns n texts type is.1 (subst (λ t. n < count t) (sym same) within) (ap (λ t. value_texts t n) same ∙ said)
value_says (iset s) of _ n texts h type is within said = absurd is
value_says other of v n texts h type is within said = absurd (cc)
