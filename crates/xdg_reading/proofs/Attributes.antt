-- The attributes of a problem in their order.
use Rattle.std.proofs.Common.{◌≡◌, ◌<◌, ◌≤◌, ◌+◌, ◌++◌, ℕ, zero, suc, List, [], ◌∷◌, length, map, get_or, refl, sym, ap, ap₂, ◌∙◌, subst, arith}
use Rattle.std.proofs.lemmas.List.{map-append}
use Rattle.std.proofs.lemmas.List.Elements.{recursion_from_All}
use Rattle.std.specs.List.{flat_map, AllByRecursion}
use Rattle.xdg_facts.specs.Fits.{Fits}
use Rattle.xdg_problem.specs.declared.parts.AttrPlan.{AttrPlan}
use Rattle.xdg_problem.specs.declared.parts.DimPlan.{DimPlan}
use Rattle.xdg_problem.specs.declared.parts.Parts.{Parts}
use Rattle.xdg_problem.specs.Places.{numbers_from, nodes}
use Rattle.xdg_problem.specs.Problems.{IsProblem, IsDim, IsAttr}
use Rattle.xdg_problem.specs.Vectors.{attr_sizes}
use Rattle.xdg_reading.specs.declared.texts.AttrLine.{AttrLine}
use Rattle.xdg_reading.specs.Fits.{SayValues}
use Rattle.xdg_reading.specs.Slots.{Asked, node_slots, dim_slots, slots}
use Rattle.xdg_reading.proofs.Told.{AllDiffer}

-- each attribute is one, of a node of the sentence
abbrev pub AreAttrs : ℕ → List Asked → Type 0
AreAttrs n [] = Unit {0}
AreAttrs n (asked ∷ more) = (IsAttr asked.attr × (asked.node < n)) × AreAttrs n more

attrs_both : (n : ℕ) (xs ys : List Asked) → AreAttrs n xs → AreAttrs n ys → AreAttrs n (xs ++ ys)
attrs_both n [] ys a b = b
attrs_both n (x ∷ xs) ys a b = (a.0, attrs_both n xs ys a.1 b)

of_node : (n : ℕ) (dim : List ℕ) (node : ℕ) (attrs : List AttrPlan) → node < n → AllByRecursion IsAttr attrs → AreAttrs n (map (λ attr. record { dim = dim; node = node; attr = attr }) attrs)
of_node n dim node [] small all = tt
of_node n dim node (attr ∷ attrs) small all = ((all.0, small), of_node n dim node attrs small all.1)

of_nodes : (n : ℕ) (plan : DimPlan) (first count : ℕ) → first + count ≤ n → AllByRecursion IsAttr plan.attrs → AreAttrs n (flat_map (node_slots plan) (numbers_from first count))
of_nodes n plan first zero few all = tt
of_nodes n plan first (suc count) few all =
    attrs_both n (node_slots plan first) (flat_map (node_slots plan) (numbers_from (suc first) count)) (of_node n plan.name first plan.attrs (omega (arith, few)) all) (of_nodes n plan (suc first) count (omega (arith, few)) all)

of_dims : (n : ℕ) (plans : List DimPlan) → AllByRecursion IsDim plans → AreAttrs n (slots n plans)
of_dims n [] all = tt
of_dims n (plan ∷ plans) all = attrs_both n (dim_slots n plan) (slots n plans) (of_nodes n plan 0 n (omega arith) (recursion_from_All IsAttr plan.attrs all.0.attrs)) (of_dims n plans all.1)

pub are_attrs : (parts : Parts) → IsProblem parts → AreAttrs (nodes parts) (slots (nodes parts) parts.dims)
are_attrs parts problem = of_dims (nodes parts) parts.dims (recursion_from_All IsDim parts.dims problem.dims)

pub all_differ : (n : ℕ) (asked : List Asked) → AreAttrs n asked → AllDiffer asked
all_differ n [] are = tt
all_differ n (a ∷ asked) are = (are.0.0.differ, all_differ n asked are.1)

pub few_values : {X : Type 0} (f : X → Asked) (n : ℕ) (xs : List X) (asked : List Asked) → map f xs ≡ asked → AreAttrs n asked → (k : ℕ) (d : X) → k < length xs → length (f (get_or xs k d)).attr.values ≤ 1024
few_values {X = X} f n xs asked same are = by xs (subst (AreAttrs n) (sym same) are) where
  by : (xs : List X) → AreAttrs n (map f xs) → (k : ℕ) (d : X) → k < length xs → length (f (get_or xs k d)).attr.values ≤ 1024
  by [] are k d within = absurd (omega (arith, within))
  by (x ∷ xs) are zero d within = are.0.0.most
  by (x ∷ xs) are (suc k) d within = by xs are.1 k d (omega (arith, within))

-- how many values each has
abbrev pub size : Asked → ℕ
size asked = length asked.attr.values

node_sizes : (dim : List ℕ) (node : ℕ) (attrs : List AttrPlan) → map size (map (λ attr. record { dim = dim; node = node; attr = attr }) attrs) ≡ map (λ attr. length attr.values) attrs
node_sizes dim node [] = refl
node_sizes dim node (attr ∷ attrs) = ap (λ z. length attr.values ∷ z) (node_sizes dim node attrs)

nodes_sizes : (plan : DimPlan) (first count : ℕ) → map size (flat_map (node_slots plan) (numbers_from first count)) ≡ flat_map (λ node. map (λ attr. length attr.values) plan.attrs) (numbers_from first count)
nodes_sizes plan first zero = refl
nodes_sizes plan first (suc count) = map-append size (node_slots plan first) (flat_map (node_slots plan) (numbers_from (suc first) count)) ∙ ap₂ (λ a b. a ++ b) (node_sizes plan.name first plan.attrs) (nodes_sizes plan (suc first) count)

pub sizes_are : (n : ℕ) (plans : List DimPlan) → map size (slots n plans) ≡ attr_sizes n plans
sizes_are n [] = refl
sizes_are n (plan ∷ plans) = map-append size (dim_slots n plan) (slots n plans) ∙ ap₂ (λ a b. a ++ b) (nodes_sizes plan 0 n) (sizes_are n plans)

values_fit : (asked : List Asked) (lines : List AttrLine) (values : List ℕ) → SayValues asked lines values → Fits (map size asked) values
values_fit [] [] [] say = tt
values_fit (a ∷ asked) (line ∷ lines) (v ∷ values) say = (say.0.within, values_fit asked lines values say.1)
values_fit asked lines values say = absurd say

values_count : (asked : List Asked) (lines : List AttrLine) (values : List ℕ) → SayValues asked lines values → length values ≡ length (map size asked)
values_count [] [] [] say = refl
values_count (a ∷ asked) (line ∷ lines) (v ∷ values) say = ap suc (values_count asked lines values say.1)
values_count asked lines values say = absurd say

pub fit_sizes : (n : ℕ) (plans : List DimPlan) (lines : List AttrLine) (values : List ℕ) → SayValues (slots n plans) lines values → Fits (attr_sizes n plans) values
fit_sizes n plans lines values say = subst (λ z. Fits z values) (sizes_are n plans) (values_fit (slots n plans) lines values say)

pub count_sizes : (n : ℕ) (plans : List DimPlan) (lines : List AttrLine) (values : List ℕ) → SayValues (slots n plans) lines values → length values ≡ length (attr_sizes n plans)
count_sizes n plans lines values say = values_count (slots n plans) lines values say ∙ ap length (sizes_are n plans)
