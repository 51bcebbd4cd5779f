-- What a box says of the attributes and the entries of nodes.
use Rattle.std.proofs.Common.{◌≡◌, ◌↔◌, ℕ, ◌<◌, ◌≤◌, IsTrue, Bool, true, false, List, refl, sym, ◌∙◌, subst}
use Rattle.std.specs.Prelude.{not}
use Rattle.std.proofs.lemmas.Bool.{both_ways, false≢true}
use Rattle.xdg_facts.specs.Rises as sets
use Rattle.xdg_problem.specs.Boxes.{Has, IsOnly}
use Rattle.xdg_problem.specs.Truths.{bound, HasTruth}
use Rattle.xdg_rules.specs.Worths.{EachValue}
use Rattle.xdg_problem.proofs.Bindings.{bound_else, bound_here}
use Rattle.xdg_formula_value.specs.Rows.{AreFirst, IsRowOn}
use Rattle.xdg_formula_value.proofs.Rowed.{row_constant, row_like}
use Rattle.xdg_facts.proofs.Truths.{differ}

-- each value that remains is the one
pub only_told : (box : List (List Bool)) (d value : ℕ) (truth result : Bool) → truth ≡ true → IsTrue result ↔ IsOnly box d value → IsTrue result ↔ EachValue box d (λ v. HasTruth truth (v ≡ value))
only_told box d value true result is told = told
only_told box d value false result is told = absurd (false≢true is)

-- none is
pub gone_told : (box : List (List Bool)) (d value : ℕ) (truth there : Bool) → truth ≡ false → IsTrue there ↔ Has box d value → IsTrue (not there) ↔ EachValue box d (λ v. HasTruth truth (v ≡ value))
gone_told box d value true there is told = absurd (false≢true (sym is))
gone_told box d value false true is told = (λ t. absurd (false≢true t), λ none. absurd (none value (told.0 refl) refl))
gone_told box d value false false is told = (λ t v has same. false≢true (told.1 (subst (Has box d) same has)), λ none. refl)

-- something has a truth, or the other one
pub has_truth : (truth says : Bool) → says ≡ truth → HasTruth truth (says ≡ true)
has_truth true says is = is
has_truth false says is = λ there. both_ways says is there

pub truth_is : (truth says : Bool) → HasTruth truth (says ≡ true) → says ≡ truth
truth_is true says has = has
truth_is false true has = absurd (has refl)
truth_is false false has = refl

-- ---- a name that is another than that of the row, and the name of the row

module _ (care : List ℕ) (b : ℕ → ℕ) (name node : ℕ) (P : ℕ → Type 0) (set : List ℕ) where
  pub else_row : (n : ℕ) (all : Bool) (at : ℕ) → n ≤ 128 → AreFirst n care → (node ≡ name → ⊥) → at ≡ b node → IsTrue all ↔ P at → ((v : ℕ) → v < 128 → sets.has set v ≡ all) → IsRowOn care (λ v. P (bound b name v node)) set
  else_row n all at few first differ at_is told same = row_constant n care all (λ v. P (bound b name v node)) set few first same (λ v.
      (let e : bound b name v node ≡ at = bound_else b name v node differ ∙ sym at_is in (λ h. subst P (sym e) (told.0 h), λ p. told.1 (subst P e p))))

  pub name_row : node ≡ name → IsRowOn care P set → IsRowOn care (λ v. P (bound b name v node)) set
  name_row same row = row_like care P (λ v. P (bound b name v node)) set (λ v. (λ p. subst P (sym (bound_here b name v node same)) p, λ p. subst P (bound_here b name v node same) p)) row
