-- The labels that the argument of order lists.
use Rattle.std.proofs.Common.{◌≡◌, ℕ, ◌<◌, List, length, get_or, map, refl, sym, ap, ◌∙◌, subst, arith}
use Rattle.std.specs.Prelude.{All, AllPairs, ◌≢◌, flat_map}
use Rattle.std.proofs.lemmas.List.{append-nil, get_or-map, length-map}
use Rattle.std.proofs.lemmas.List.Elements.{All-map}
use Rattle.xdg_base.specs.declared.ids.LabelId.{LabelId}
use Rattle.xdg_domain.specs.Shapes.{Shape}
use Rattle.xdg_types.specs.Table.{Table, ArePlaces}
use Rattle.xdg_principles.specs.declared.building.PrincipleUse.{PrincipleUse}
use Rattle.xdg_problem.specs.declared.forms.Which.TheVariants as w
use Rattle.xdg_problem.specs.Forms.{form_of}
use Rattle.xdg_principles.specs.Typed.{labels_at}
use Rattle.xdg_problem.specs.declared.parts.Principle.{Principle}
use Rattle.xdg_problem.specs.declared.parts.Principle.TheVariants as principles
use Rattle.xdg_build.specs.Groups.{labels_in}
use Rattle.xdg_build.proofs.Planned.{places_once}
use Rattle.xdg_build.proofs.TypedArguments.{AllNamed, args_of, wanted_by}
use Rattle.xdg_formula.proofs.Turns.{place_within}
use Rattle.xdg_problem.specs.Principles.{IsOrderFor}

abbrev label : ℕ → LabelId
label n = record { 0 = n }

within_all : (n : ℕ) (ks : List ℕ) → ArePlaces n ks → All (λ l. l.0 < n) (map label ks)
within_all n ks h = All-map (λ (l : LabelId). l.0 < n) label ks (λ k d within. place_within n ks k d h within)

all_differ : (n : ℕ) (ks : List ℕ) → ArePlaces n ks → AllPairs (λ a b. a ≢ b) (map label ks)
all_differ n ks h i j d before within e =
    let inside : j < length ks = omega (arith, within, length-map ks label) in
    let earlier : i < length ks = omega (arith, before, inside) in
    let same : get_or ks i 0 ≡ get_or ks j 0 = ap (λ (l : LabelId). l.0) (sym (get_or-map label ks i 0 d earlier) ∙ e ∙ get_or-map label ks j 0 d inside) in
    omega (arith, before, places_once n ks i j h earlier inside same)

pub order_right : (p : Principle) (table : Table) (u : PrincipleUse) (shared : Shape) (xs : AllNamed table u shared (wanted_by (form_of p)))
    → IsOrderFor p (length (labels_at table u w.First)) (flat_map labels_in (args_of table u shared (wanted_by (form_of p)) xs))
order_right principles.Order table u shared xs =
    let n : ℕ = length (labels_at table u w.First) in
    subst (IsOrderFor principles.Order n) (sym (append-nil (map label xs.0.0))) (within_all n xs.0.0 xs.0.1, all_differ n xs.0.0 xs.0.1)
order_right p table u shared xs = refl
