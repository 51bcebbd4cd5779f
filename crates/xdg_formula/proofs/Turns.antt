-- Turns of loops over the used dimensions, and over rules.
use Rattle.std.proofs.Common.{◌≡◌, ℕ, zero, suc, ◌+◌, ◌<◌, Bool, true, false, List, [], ◌∷◌, ◌++◌, length, drop, take, get_or, Option, Some, refl, sym, ap, ◌∙◌, add-one, drop-cons, arith}
use Rattle.std.specs.Prelude.{bytes_eq, if◌then◌else◌}
use Rattle.std.proofs.lemmas.List.{get_or_default, take_more, map-append}
use Rattle.xdg_base.specs.declared.faults.Fault.{Fault}
use Rattle.xdg_names.specs.First.{earlier, first}
use Rattle.xdg_names.proofs.First.{first_change}
use Rattle.xdg_terms.specs.Faults.{all_twice, twice}
use Rattle.xdg_types.specs.declared.table.DimType.{DimType}
use Rattle.xdg_types.specs.Table.{ArePlaces, dim_named}
use Rattle.xdg_formula.specs.declared.tree.Rule.{Rule}
use Rattle.xdg_formula.specs.Formulas.{names_of}
use Rattle.xdg_formula.specs.Tables.{dims_at, no_dim}

-- ---- dimensions

-- the places of used dimensions are places of dimensions
pub place_within : (bound : ℕ) (used : List ℕ) (i d : ℕ) → ArePlaces bound used → i < length used → get_or used i d < bound
place_within bound [] i d are l = absurd (omega (arith, l))
place_within bound (k ∷ used) zero d are l = are.0.0
place_within bound (k ∷ used) (suc i) d are l = place_within bound used i d are.1 (omega (arith, l))

module _ (dims : List DimType) (used : List ℕ) (name : List ℕ) (i : ℕ) (l : i < length used) (so_far : dim_named (dims_at dims (drop i used)) name ≡ dim_named (dims_at dims used) name) where
  abbrev here : DimType
  here = get_or dims (get_or used i 0) no_dim

  front : drop i used ≡ get_or used i 0 ∷ drop (i + 1) used
  front = rw (add-one) (drop-cons used i 0 l)

  pub dim_next : (if bytes_eq here.name name then Some here else dim_named (dims_at dims (drop (i + 1) used)) name) ≡ dim_named (dims_at dims used) name
  dim_next = ap (λ ks. dim_named (dims_at dims ks) name) (sym front) ∙ so_far

  module _ (dim : DimType) (within : get_or used i 0 < length dims) (there : dim ≡ get_or dims (get_or used i 0) dim) where
    same : dim ≡ here
    same = there ∙ get_or_default dims (get_or used i 0) dim no_dim within

    named : (b : Bool) → bytes_eq dim.name name ≡ b → bytes_eq here.name name ≡ b
    named b is = ap (λ (one : DimType). bytes_eq one.name name) (sym same) ∙ is

    pub dim_found : bytes_eq dim.name name ≡ true → Some dim ≡ dim_named (dims_at dims used) name
    dim_found is = ap Some same ∙ ap (λ b. if b then Some here else dim_named (dims_at dims (drop (i + 1) used)) name) (sym (named true is)) ∙ dim_next

    pub dim_passed : bytes_eq dim.name name ≡ false → dim_named (dims_at dims (drop (i + 1) used)) name ≡ dim_named (dims_at dims used) name
    dim_passed other = ap (λ b. if b then Some here else dim_named (dims_at dims (drop (i + 1) used)) name) (sym (named false other)) ∙ dim_next

-- ---- names of rules

names_more : (rules : List Rule) (i : ℕ) (rule : Rule) → i < length rules → rule ≡ get_or rules i rule → names_of (take (i + 1) rules) ≡ names_of (take i rules) ++ rule.name ∷ []
names_more rules i rule l is =
    ap names_of (take_more rules i rule l) ∙ map-append (λ (one : Rule). one.name) (take i rules) (get_or rules i rule ∷ []) ∙ ap (λ (one : Rule). names_of (take i rules) ++ one.name ∷ []) (sym is)

pub names_turn : (rules : List Rule) (i : ℕ) (rule : Rule) (found next now total : Option Fault) → i < length rules → rule ≡ get_or rules i rule → next ≡ first (twice (names_of (take i rules)) rule.name) → now ≡ earlier found next
    → earlier found (first (all_twice (names_of (take i rules)) (names_of (drop i rules)))) ≡ total → earlier now (first (all_twice (names_of (take (i + 1) rules)) (names_of (drop (i + 1) rules)))) ≡ total
names_turn rules i rule found next now total l is told sum so_far =
    ap (λ ns. earlier now (first (all_twice ns (names_of (drop (i + 1) rules))))) (names_more rules i rule l is)
    ∙ first_change (λ rs. all_twice (names_of (take i rules)) (names_of rs)) (λ rs. all_twice (names_of (take i rules) ++ rule.name ∷ []) (names_of rs)) (twice (names_of (take i rules)) rule.name) rule (λ rs. refl)
    rules i found next now total l is told sum so_far
