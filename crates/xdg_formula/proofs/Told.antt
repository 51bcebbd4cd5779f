-- What is told as the first of a list of faults.
use Rattle.std.proofs.Common.{◌≡◌, ℕ, List, [], Option, Some, None, Ok, Err, refl, sym, ap, subst}
use Rattle.std.specs.Prelude.{Result}
use Rattle.xdg_base.specs.declared.faults.Fault.{Fault}
use Rattle.xdg_domain.specs.Shapes.{Shape}
use Rattle.xdg_names.specs.First.{Tells, first}
use Rattle.xdg_names.proofs.First.{first-tells}
use Rattle.xdg_names.proofs.One.{one_first, first_or_none}
use Rattle.xdg_terms.specs.Faults.{faults}
use Rattle.xdg_terms.specs.Forms.{Term, with_open}
use Rattle.xdg_terms.specs.Offences.{OpenOffends}
use Rattle.xdg_terms.proofs.Law.{law}
use Rattle.xdg_types.specs.Table.{Table}
use Rattle.xdg_formula.specs.Answers.{IsAnswer}
use Rattle.xdg_formula.specs.Formulas.{rules_faults}
use Rattle.xdg_formula.specs.declared.tree.Rule.{Rule}
use Rattle.xdg_facts.specs.Membership.{In}

-- one answer is told of a set of offences
one_told : (P : Fault → Type 0) (a b : Option Fault) → Tells P a → Tells P b → a ≡ b
one_told P None None h k = refl
one_told P None (Some y) h k = absurd (first_or_none P y k h)
one_told P (Some x) None h k = absurd (first_or_none P x h k)
one_told P (Some x) (Some y) h k = ap Some (one_first P x y h k)

pub value_told : (free : List (List ℕ)) (s : Shape) (t : Term) (found : Option Fault) → Tells (OpenOffends free s t) found → free ≡ [] → found ≡ first (faults (with_open []) s t)
value_told free s t found told none =
    one_told (OpenOffends [] s t) found (first (faults (with_open []) s t)) (subst (λ open_params. Tells (OpenOffends open_params s t) found) none told) (law (with_open []) s t (first (faults (with_open []) s t)) refl)

-- a first fault is told, and no other
pub first_told : (fs : List Fault) (found : Option Fault) → found ≡ first fs → Tells (In fs) found
first_told fs found is = subst (Tells (In fs)) (sym is) (first-tells fs)

only_told : (fs : List Fault) (found answer : Option Fault) → found ≡ first fs → Tells (In fs) answer → answer ≡ found
only_told fs found answer is told = one_told (In fs) answer found told (first_told fs found is)

-- a call that has found the first fault of rules, or none, gives the one answer
pub right_only : (table : Table) (rules : List Rule) → None ≡ first (rules_faults table rules) → (answer : Result (Unit {0}) Fault) → IsAnswer table rules answer → answer ≡ Ok tt
right_only table rules is (Ok done) told = refl
right_only table rules is (Err f) told = let e : Some f ≡ None = only_told (rules_faults table rules) None (Some f) is told in absurd (cc)

pub wrong_only : (table : Table) (rules : List Rule) (g : Fault) → Some g ≡ first (rules_faults table rules) → (answer : Result (Unit {0}) Fault) → IsAnswer table rules answer → answer ≡ Err g
wrong_only table rules g is (Ok done) told = let e : None ≡ Some g = only_told (rules_faults table rules) (Some g) None is told in absurd (cc)
wrong_only table rules g is (Err f) told = let e : Some f ≡ Some g = only_told (rules_faults table rules) (Some g) (Some f) is told in cc
