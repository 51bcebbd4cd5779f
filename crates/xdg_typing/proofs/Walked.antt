-- What the walk over a type finds.
use Rattle.std.proofs.Common.{◌≡◌, ℕ, ◌<◌, ◌+◌, Bool, List, ◌++◌, length, drop, get_or, Option, sym, ap, ap₂, subst, ◌∙◌, flat_map, ◌∷◌}
use Rattle.std.specs.Prelude.{IfOk, Result}
use Rattle.std.proofs.lemmas.Grind.{flat_map-append}
use Rattle.xdg_base.specs.declared.faults.Fault.{Fault}
use Rattle.xdg_names.specs.First.{first, earlier}
use Rattle.xdg_names.proofs.First.{first_append, first_turn}
use Rattle.xdg_ast.specs.declared.names.Name.{Name}
use Rattle.xdg_ast.specs.declared.types.TypeKind.{TypeKind, out-TypeKind}
use Rattle.xdg_domain.specs.Shapes.{Shape, constants}
use Rattle.xdg_types.specs.Written.{tree, Tree}
use Rattle.xdg_types.specs.Meaning.{meaning, as_domain}
use Rattle.xdg_types.specs.Kinds.{Wanted, is_of_kind, has_no_field, Site}
use Rattle.xdg_typing.specs.KindFaults.{form_tree, fieldless_form, wrong_faults, kind_faults, big_faults, label_faults, wide_faults, attributes_faults, alone_faults, site_faults, faults_in}
use Rattle.xdg_typing.proofs.Layers.{tree_form, fieldless_is}
use Rattle.xdg_typing.proofs.Products.{texts_length}
use Rattle.xdg_ast.specs.Texts.{texts}

-- what two parts find
pub joined : (xs ys : List Fault) (a b both : Option Fault) → a ≡ first xs → b ≡ first ys → both ≡ earlier a b → both ≡ first (xs ++ ys)
joined xs ys a b both is_a is_b sum = sum ∙ ap₂ earlier is_a is_b ∙ sym (first_append xs ys)

-- and what stands in two of them
pub both_found : {A : Type 0} (g : A → List Fault) (xs ys : List A) (a b both : Option Fault) → a ≡ first (flat_map g xs) → b ≡ first (flat_map g ys)
    → both ≡ earlier a b → both ≡ first (flat_map g (xs ++ ys))
both_found g xs ys a b both is_a is_b sum = joined (flat_map g xs) (flat_map g ys) a b both is_a is_b sum ∙ ap first (sym (flat_map-append g xs ys))

-- and in the items of a list, one after the other
pub walk_turn : {A B : Type 0} (xs : List A) (i : ℕ) (x : A) (found next now total : Option Fault) (g : B → List Fault) (all : List A → List B) (here : List B) → ((ys : List A) → all (x ∷ ys) ≡ here ++ all ys)
    → i < length xs → x ≡ get_or xs i x → next ≡ first (flat_map g here) → now ≡ earlier found next → earlier found (first (flat_map g (all (drop i xs)))) ≡ total → earlier now (first (flat_map g (all (drop (i + 1) xs)))) ≡ total
walk_turn xs i x found next now total g all here each = first_turn (λ ys. flat_map g (all ys)) (flat_map g here) x (λ ys. ap (flat_map g) (each ys) ∙ flat_map-append g here (all ys)) xs i found next now total

-- what is found in a form of a type is found in the type
pub of_form : (of : Tree → List Fault) (kind : TypeKind) (form : Tree) (found : Option Fault) → tree kind ≡ form → found ≡ first (of form) → found ≡ first (of (tree kind))
of_form of kind form found is told = told ∙ ap (λ t. first (of t)) (sym is)

pub ok_of_form : {E : Type 0} (result : Result (Option Fault) E) (of : Tree → List Fault) (kind : TypeKind) (form : Tree) → tree kind ≡ form → IfOk result (λ found. found ≡ first (of form))
    → IfOk result (λ found. found ≡ first (of (tree kind)))
ok_of_form result of kind form is told = subst (λ t. IfOk result (λ found. found ≡ first (of t))) (sym is) told

module _ (names : List ℕ → Shape) where
  pub kind_found : (wanted : Wanted) (at : ℕ) (kind : TypeKind) (right fieldless : Bool) (found : Option Fault) → right ≡ is_of_kind wanted (meaning names (tree kind)) → fieldless ≡ fieldless_form (out-TypeKind kind)
      → found ≡ first (wrong_faults at right fieldless) → found ≡ first (kind_faults names wanted at (tree kind))
  kind_found wanted at kind right fieldless found is_right is_fieldless told =
      told ∙ ap₂ (λ a b. first (wrong_faults at a b)) is_right (is_fieldless ∙ fieldless_is (out-TypeKind kind) ∙ ap has_no_field (sym (tree_form kind)))

  -- all that is looked for in a type alone
  pub alone : (wanted : Wanted) (at : ℕ) (kind : TypeKind) (given : List Name) (count : ℕ) (a b c d e de cde bcde all : Option Fault) → a ≡ first (kind_faults names wanted at (tree kind)) → b ≡ first (big_faults at (form_tree (out-TypeKind kind)))
      → texts given ≡ constants (as_domain (meaning names (tree kind))) → count ≡ length given → c ≡ first (label_faults wanted at count) → d ≡ first (wide_faults names at (form_tree (out-TypeKind kind)))
      → e ≡ first (attributes_faults names wanted at (tree kind)) → de ≡ earlier d e → cde ≡ earlier c de → bcde ≡ earlier b cde → all ≡ earlier a bcde → all ≡ first (alone_faults names wanted at (tree kind))
  alone wanted at kind given count a b c d e de cde bcde all is_a is_b are counts is_c is_d is_e sum_de sum_cde sum_bcde sum =
      let form = sym (tree_form kind) in
      let n : count ≡ length (constants (as_domain (meaning names (tree kind)))) = counts ∙ sym (texts_length given) ∙ ap length are in
      let fa = kind_faults names wanted at (tree kind) in
      let fb = big_faults at (tree kind) in
      let fc = label_faults wanted at (length (constants (as_domain (meaning names (tree kind))))) in
      let fd = wide_faults names at (tree kind) in
      let fe = attributes_faults names wanted at (tree kind) in
      joined fa (fb ++ (fc ++ (fd ++ fe))) a bcde all is_a
      (joined fb (fc ++ (fd ++ fe)) b cde bcde (is_b ∙ ap (λ t. first (big_faults at t)) form)
      (joined fc (fd ++ fe) c de cde (is_c ∙ ap (λ m. first (label_faults wanted at m)) n)
      (joined fd fe d e de (is_d ∙ ap (λ t. first (wide_faults names at t)) form) is_e sum_de) sum_cde) sum_bcde) sum

  -- a type and others
  pub with_found : (site : Site) (more : List Site) (a b both : Option Fault) → a ≡ first (site_faults names site) → b ≡ first (faults_in names more) → both ≡ earlier a b → both ≡ first (faults_in names (site ∷ more))
  with_found site more a b both = joined (site_faults names site) (faults_in names more) a b both
