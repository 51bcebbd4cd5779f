-- A grammar with its table has one list of uses of principles.
use Rattle.std.proofs.Common.{◌≡◌, ℕ, Bool, true, false, List, map, Option, None, Some, unwrap_or, refl, sym, ap, ◌∙◌}
use Rattle.std.specs.Prelude.{bytes_eq, codes}
use Rattle.xdg_ast.specs.declared.names.Name.{Name}
use Rattle.xdg_names.specs.Texts.{place_of}
use Rattle.xdg_terms.specs.Forms.{Term}
use Rattle.xdg_terms.specs.Means.{truth_text}
use Rattle.xdg_types.specs.declared.table.DimType.{DimType}
use Rattle.xdg_types.specs.Parts.{Statement}
use Rattle.xdg_types.specs.Table.{Table}
use Rattle.xdg_principles.specs.declared.building.Arg.{Arg}
use Rattle.xdg_principles.specs.declared.building.Arg.TheVariants as g
use Rattle.xdg_principles.specs.declared.building.PrincipleUse.{PrincipleUse}
use Rattle.xdg_problem.specs.declared.forms.Parameter.{Parameter}
use Rattle.xdg_problem.specs.declared.forms.Sort.{Sort}
use Rattle.xdg_problem.specs.declared.forms.Sort.TheVariants as s
use Rattle.xdg_problem.specs.declared.forms.Wanted.{Wanted}
use Rattle.xdg_problem.specs.declared.forms.Wanted.TheVariants as a
use Rattle.xdg_problem.specs.declared.forms.Which.{Which}
use Rattle.xdg_problem.specs.Forms.{dims_in, form_of, parameters}
use Rattle.xdg_principles.specs.Settings.{Setting, setting_of, dim_texts, dim_place, labels, term_in, constant_at, list_at, names_at}
use Rattle.xdg_principles.specs.Uses.{Use, principle_uses}
use Rattle.xdg_principles.specs.Made.{IsMember, IsLabelList, IsTruth, IsArg, IsUse, AreUses, ArePrincipleUses, place_called, member_number, label_number, truth_of, arg, args, places, built_with, built}
use Rattle.xdg_facts.proofs.Options.{number_is}
use Rattle.xdg_facts.proofs.Zips.{zip_once}

-- ---- one argument

one_member : (setting : Setting) (parameter : Parameter) (sort : Sort) (which : Which) (k : ℕ) → IsMember setting parameter sort which k → k ≡ member_number setting parameter sort which
one_member setting parameter sort which k h = number_is (ap (place_called setting sort which) h.1.0 ∙ h.1.1)

one_label_list : (known : List (List ℕ)) (o : Option Term) (ns : List ℕ) → IsLabelList known o ns → ns ≡ map (label_number known) (list_at o)
one_label_list known None ns h = absurd h
one_label_list known (Some term) ns h =
    zip_once (λ (name : Name) n. place_of known name.text ≡ Some n) (label_number known) h.0 ns (λ name n is. number_is is) h.1.1 ∙ sym (ap (λ (o : Option (List Name)). map (label_number known) (names_at o)) h.1.0)

truth_told : (b : Bool) → b ≡ bytes_eq (truth_text b) (codes "true")
truth_told true = refl
truth_told false = refl

one_truth : (b : Bool) (o : Option Term) → IsTruth b o → b ≡ truth_of (constant_at o)
one_truth b None h = h
one_truth b (Some term) h = truth_told b ∙ sym (ap (λ t. bytes_eq t (codes "true")) h.1.1) ∙ sym (ap truth_of h.1.0)

one_arg : (setting : Setting) (parameter : Parameter) (w : Wanted) (x : Arg) → IsArg setting parameter w x → x ≡ arg setting parameter w
one_arg setting parameter (a.Member s.Feature which typing) (g.Feature k) h = ap g.Feature (one_member setting parameter s.Feature which k h)
one_arg setting parameter (a.Member s.Attribute which typing) (g.Attr k) h = ap g.Attr (one_member setting parameter s.Attribute which k h)
one_arg setting parameter (a.Labels which) (g.Labels ns) h = ap g.Labels (one_label_list (labels setting which) (term_in setting parameter) ns h)
one_arg setting parameter a.Truth (g.Truth b) h = ap g.Truth (one_truth b (term_in setting parameter) h)
one_arg setting parameter _ _ h = absurd h

-- ---- one use

one_use : (dims : List DimType) (one : Use) (made : PrincipleUse) → IsUse dims one made → made ≡ built dims one
one_use dims one made h =
    let p = made.principle in
    let here : Setting = setting_of dims one p in
    let home : made.home ≡ unwrap_or (place_of (dim_texts dims) one.within.text) 0 = number_is h.home in
    let given : made.dims ≡ places here =
    zip_once (λ which k. dim_place here which ≡ Some k) (λ which. unwrap_or (dim_place here which) 0) (dims_in (form_of p).dims) made.dims (λ which k is. number_is is) h.dimensions in
    let filled : made.args ≡ args here (parameters (form_of p)) =
    zip_once (λ (x : Parameter) made. IsArg here x x.wanted made) (λ x. arg here x x.wanted) (parameters (form_of p)) made.args (λ x. one_arg here x x.wanted) h.arguments in
    let same : made ≡ built_with dims one (Some p) = λ i. record { principle = p; home = home i; dims = given i; args = filled i; at = h.at i } in
    same ∙ sym (ap (built_with dims one) h.known)

all_uses : (dims : List DimType) (uses : List Use) (made : List PrincipleUse) → AreUses dims uses made → made ≡ map (built dims) uses
all_uses dims uses made = zip_once (IsUse dims) (built dims) uses made (one_use dims)

-- whatever the uses of principles are, they are these
pub one_list : (statements : List Statement) (table : Table) (made others : List PrincipleUse) → ArePrincipleUses statements table made → ArePrincipleUses statements table others → made ≡ others
one_list statements table made others h k =
    all_uses table.dims (principle_uses statements) made h ∙ sym (all_uses table.dims (principle_uses statements) others k)
