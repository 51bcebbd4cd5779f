-- What is built is what is meant, where nothing is wrong.
use Rattle.xdg_facts.proofs.Options.{some_same, none_some}
use Rattle.std.proofs.Common.{◌≡◌, inl, inr, ℕ, true, false, List, [], ◌∷◌, map, Option, None, Some, unwrap_or, refl, sym, ap, ◌∙◌, subst}
use Rattle.std.specs.List.{flat_map}
use Rattle.std.specs.Prelude.{if◌then◌else◌, bytes_eq, codes}
use Rattle.std.proofs.lemmas.Bool.{true≢false, cases_Bool}
use Rattle.std.proofs.lemmas.Slice.Eq.{bytes_eq-Decides}
use Rattle.xdg_base.specs.Faults.{fault_at}
use Rattle.xdg_ast.specs.declared.names.Name.{Name}
use Rattle.xdg_ast.specs.declared.names.Pair.{Pair}
use Rattle.xdg_ast.specs.declared.grammar.DimPartKind.{DimPartKind}
use Rattle.xdg_ast.specs.declared.grammar.DimPartKind.TheVariants as v
use Rattle.xdg_base.specs.declared.faults.Cause.TheVariants as causes
use Rattle.xdg_base.specs.declared.faults.Fault.{Fault}
use Rattle.xdg_names.specs.Texts.{place_of}
use Rattle.xdg_names.proofs.Texts.{place_of-has_text, among_has}
use Rattle.xdg_terms.specs.Forms.{Term, constant_of}
use Rattle.xdg_terms.specs.Means.{truth_text}
use Rattle.xdg_types.specs.Answers.{None_of}
use Rattle.xdg_types.specs.Parts.{DimPart, Statement, Dimension, dimensions, dim_names, keys}
use Rattle.xdg_types.specs.Table.{Table, firsts}
use Rattle.xdg_types.proofs.Elements.{among_or_not, in_texts}
use Rattle.xdg_types.proofs.NamesKnown.{each_known}
use Rattle.xdg_problem.specs.declared.forms.Form.{Form}
use Rattle.xdg_problem.specs.declared.forms.Parameter.{Parameter}
use Rattle.xdg_problem.specs.declared.forms.Preset.{Preset}
use Rattle.xdg_problem.specs.declared.forms.Preset.TheVariants as p
use Rattle.xdg_problem.specs.declared.forms.Sort.{Sort}
use Rattle.xdg_problem.specs.declared.forms.Sort.TheVariants as s
use Rattle.xdg_problem.specs.declared.forms.Which.{Which}
use Rattle.xdg_problem.specs.declared.forms.Typing.{Typing}
use Rattle.xdg_problem.specs.declared.forms.Wanted.{Wanted}
use Rattle.xdg_problem.specs.declared.forms.Wanted.TheVariants as a
use Rattle.xdg_problem.specs.declared.parts.Principle.{Principle}
use Rattle.xdg_problem.specs.Forms.{dim_key, dims_in, form_of, key_text, parameters, preset_feature}
use Rattle.xdg_facts.specs.Onward.{optional as at_most_one}
use Rattle.xdg_problem.specs.Names.{named}
use Rattle.xdg_principles.specs.Names.{PrincipleNameOffends, given_dims, key_if_required, required_key}
use Rattle.xdg_principles.specs.Uses.{Use, use_in, uses_in, principle_uses, values, under}
use Rattle.xdg_principles.specs.Settings.{Setting, Called, setting_of, setting_if, setting, arguments_in, arguments, dim_texts, dim_place, place_named, labels, members, term_in, constant_in, constant_at, list_of, list_at, listed_in, called_in, called_or, called_at, called_by, names_at}
use Rattle.xdg_principles.specs.Arguments.{OneOffends, ArgumentOffends, has_form}
use Rattle.xdg_terms.specs.Faults.{truth_texts}
use Rattle.xdg_principles.specs.Made.{HasDims, IsMember, AreLabels, IsLabelList, IsTruth, IsArg, IsUse, ArePrincipleUses, place_called, member_number, label_number, truth_of, arg, args, built_with, built}
use Rattle.xdg_principles.proofs.Rows.{IsDefaulted, sound_parameter}
use Rattle.xdg_facts.specs.Membership.{In}
use Rattle.xdg_facts.proofs.In.{in_flat_map, flat_map_in, map_in}
use Rattle.xdg_ast.specs.Texts.{texts}
use Rattle.xdg_terms.proofs.Right.{told}
use Rattle.xdg_facts.proofs.Zips.{zip_map}

-- ---- lists

abbrev IsThere : Option ℕ → Type 0
IsThere o = o ≡ Some (unwrap_or o 0)

place_there : (known : List (List ℕ)) (t : List ℕ) → In known t → IsThere (place_of known t)
place_there known t h = let k = place_of-has_text known t (among_has known t h) in k.1 ∙ sym (ap (λ o. Some (unwrap_or o 0)) k.1)

-- ---- pairs

none_under : {A : Type 0} (pairs : List (Pair A)) (key : List ℕ) → under pairs key ≡ None → In (texts (keys pairs)) key → ⊥
none_under [] key e h = h
none_under (pair ∷ pairs) key e h = elim (bytes_eq pair.key.text key) as (λ b. bytes_eq pair.key.text key ≡ b → (if b then Some pair.value else under pairs key) ≡ None → ⊥) [
  | true ↦ λ q k. none_some pair.value (sym k)
  | false ↦ λ q k. elim h [ inl same ↦ true≢false (sym ((bytes_eq-Decides pair.key.text key).1 same) ∙ q) | inr i ↦ none_under pairs key k i ]
] refl e

pub value_under : (pairs : List (Pair Name)) (key : List ℕ) (name : Name) → under pairs key ≡ Some name → In (values pairs) name
value_under [] key name e = absurd cc
value_under (pair ∷ pairs) key name e = elim (bytes_eq pair.key.text key) as (λ b. (if b then Some pair.value else under pairs key) ≡ Some name → In (values (pair ∷ pairs)) name) [
  | true ↦ λ k. inl (some_same pair.value name k)
  | false ↦ λ k. inr (value_under pairs key name k)
] e

-- ---- where a use stands

within_part : (within : Name) (kind : DimPartKind) (one : Use) → In (use_in within kind) one → one.within ≡ within
within_part within (v.UsePrinciple name dims args) one h = elim h [ inl e ↦ sym (ap (λ (x : Use). x.within) e) | inr z ↦ absurd z ]
within_part within other one h = absurd h

within_dim : (statements : List Statement) (one : Use) → In (principle_uses statements) one → In (dim_names statements) one.within
within_dim statements one h =
    let k = in_flat_map uses_in (dimensions statements) one h in
    let q = in_flat_map (λ (part : DimPart). use_in k.0.0 part.kind) k.0.1 one k.1.1 in
    subst (In (dim_names statements)) (sym (within_part k.0.0 q.0.kind one q.1.1)) (map_in (λ (dim : Dimension). dim.0) (dimensions statements) k.0 k.1.0)

-- ---- one argument

-- a left-out feature is one by default
preset_called : (at : ℕ) (sort : Sort) (which : Which) (typing : Typing) (preset : Preset) → IsDefaulted (a.Member sort which typing) preset → (preset ≡ p.Required → ⊥) → (called : Called) × (called_at at (preset_feature preset) ≡ Some called)
preset_called at sort which typing p.Required h k = absurd (k refl)
preset_called at sort which typing p.False h k = absurd h
preset_called at sort which typing p.In h k = (record { text = codes "in"; at = at }, refl)
preset_called at sort which typing p.Out h k = (record { text = codes "out"; at = at }, refl)

labels_required : (which : Which) (preset : Preset) → IsDefaulted (a.Labels which) preset → preset ≡ p.Required
labels_required which p.Required h = refl
labels_required which other h = absurd h

truth_said : (t : List ℕ) → In truth_texts t → t ≡ truth_text (bytes_eq t (codes "true"))
truth_said t h = elim h [
  | inl e ↦ subst (λ u. u ≡ truth_text (bytes_eq u (codes "true"))) e refl
  | inr k ↦ elim k [ inl e ↦ subst (λ u. u ≡ truth_text (bytes_eq u (codes "true"))) e refl | inr z ↦ absurd z ]
]

labels_are : (known : List (List ℕ)) (names : List Name) → ((n : Name) → In names n → In known n.text) → AreLabels known names (map (label_number known) names)
labels_are known names h = zip_map (λ (name : Name) n. place_of known name.text ≡ Some n) (label_number known) names (λ n i. place_there known n.text (h n i))

module _ (setting : Setting) (parameter : Parameter) (right : (f : Fault) → OneOffends (record { setting = setting; parameter = parameter }) f → ⊥) (sound : IsDefaulted parameter.wanted parameter.preset) (given : parameter.preset ≡ p.Required → term_in setting parameter ≡ None → ⊥) where
  formed : (term : Term) → term_in setting parameter ≡ Some term → has_form parameter.wanted term ≡ true
  formed term e = elim (cases_Bool (has_form parameter.wanted term)) [
    | inl h ↦ h
    | inr h ↦ absurd (right (fault_at causes.WrongKind term.span.start) (inl (record { term = term; given = e; form = h; fault = refl })))
  ]

  module _ (sort : Sort) (which : Which) (typing : Typing) (wanted : parameter.wanted ≡ a.Member sort which typing) where
    called_by_term : (o : Option Term) → term_in setting parameter ≡ o → (called : Called) × (called_or (called_at setting.one.name.span.start (preset_feature parameter.preset)) o ≡ Some called)
    called_by_term None e = preset_called setting.one.name.span.start sort which typing parameter.preset (subst (λ w. IsDefaulted w parameter.preset) wanted sound) (λ q. given q e)
    called_by_term (Some term) e =
        let k = told (constant_of term) (subst (λ w. has_form w term ≡ true) wanted (formed term e)) in
        (record { text = k.0.text; at = k.0.span.start }, ap called_by k.1)

    there : (called : Called) → called_in setting parameter ≡ Some called → In (firsts (members setting sort which)) called.text
    there called e = elim (among_or_not (firsts (members setting sort which)) called.text) [
      | inl h ↦ h
      | inr h ↦ absurd (right (fault_at causes.UnknownName called.at)
          (inr (inl (record { sort = sort; which = which; typing = typing; wanted = wanted; called = called; given = e; missing = h; fault = refl }))))
    ]

    is_member : IsMember setting parameter sort which (member_number setting parameter sort which)
    is_member =
        let k = called_by_term (term_in setting parameter) refl in
        (k.0, (k.1, place_there (firsts (members setting sort which)) k.0.text (there k.0 k.1) ∙ sym (ap (λ (o : Option Called). Some (unwrap_or (place_called setting sort which o) 0)) k.1)))

  truth_is : parameter.wanted ≡ a.Truth → (o : Option Term) → term_in setting parameter ≡ o → IsTruth (truth_of (constant_at o)) o
  truth_is wanted None e = refl
  truth_is wanted (Some term) e =
      let k = told (constant_of term) (subst (λ w. has_form w term ≡ true) wanted (formed term e)) in
      let among : In (at_most_one (constant_in setting parameter)) k.0 = subst (λ (o : Option Name). In (at_most_one o) k.0) (sym (ap constant_at e ∙ k.1)) (inl refl) in
      let said = each_known truth_texts (at_most_one (constant_in setting parameter)) (λ f h. right f (inr (inr (inr (inl (record { wanted = wanted; unknown = h })))))) k.0 among in
      (k.0, (k.1, truth_said k.0.text said ∙ sym (ap (λ (o : Option Name). truth_text (truth_of o)) k.1)))

  list_is : (which : Which) → parameter.wanted ≡ a.Labels which → (o : Option Term) → term_in setting parameter ≡ o → IsLabelList (labels setting which) o (map (label_number (labels setting which)) (list_at o))
  list_is which wanted None e = given (labels_required which parameter.preset (subst (λ w. IsDefaulted w parameter.preset) wanted sound)) e
  list_is which wanted (Some term) e =
      let k = told (list_of term) (subst (λ w. has_form w term ≡ true) wanted (formed term e)) in
      let listed : listed_in setting parameter ≡ k.0 = ap list_at e ∙ ap names_at k.1 in (
        k.0,
        (
          k.1,
          subst (λ (o : Option (List Name)). AreLabels (labels setting which) k.0 (map (label_number (labels setting which)) (names_at o))) (sym k.1)
              (labels_are (labels setting which) k.0
              (λ n h. each_known (labels setting which) (listed_in setting parameter) (λ f m. right f (inr (inr (inr (inr (inl (record { which = which; wanted = wanted; unknown = m })))))))
              n (subst (λ (ns : List Name). In ns n) (sym listed) h))),
        ),
      )

  is_arg : (w : Wanted) → parameter.wanted ≡ w → IsArg setting parameter w (arg setting parameter w)
  is_arg (a.Member s.Feature which typing) e = is_member s.Feature which typing e
  is_arg (a.Member s.Attribute which typing) e = is_member s.Attribute which typing e
  is_arg (a.Labels which) e = list_is which e (term_in setting parameter) refl
  is_arg a.Truth e = truth_is e (term_in setting parameter) refl

-- ---- one use

required_in : (ps : List Parameter) (x : Parameter) → In ps x → x.preset ≡ p.Required → In (flat_map required_key ps) (key_text x.key)
required_in ps x h e = flat_map_in required_key ps x (key_text x.key) h (subst (λ (q : Preset). In (key_if_required (key_text x.key) q) (key_text x.key)) (sym e) (inl refl))

module _ (statements : List Statement) (table : Table) (has : HasDims statements table) (names_right : None_of (PrincipleNameOffends statements)) (right : None_of (ArgumentOffends statements table)) where
  module _ (one : Use) (stands : In (principle_uses statements) one) where
    known_dim : (name : Name) → In (dim_names statements) name → IsThere (place_of (dim_texts table.dims) name.text)
    known_dim name h = place_there (dim_texts table.dims) name.text (subst (λ ts. In ts name.text) (sym has) (in_texts (dim_names statements) name h))

    module _ (principle : Principle) (known : named one.name.text ≡ Some principle) where
      abbrev form : Form
      form = form_of principle

      abbrev here : Setting
      here = setting_of table.dims one principle

      pub stands_here : (x : Parameter) → In (parameters form) x → In (arguments statements table.dims) (record { setting = here; parameter = x })
      stands_here x h = flat_map_in arguments_in (flat_map (setting table.dims) (principle_uses statements)) here (record { setting = here; parameter = x })
          (flat_map_in (setting table.dims) (principle_uses statements) one here stands (subst (λ (o : Option Principle). In (setting_if table.dims one o) here) (sym known) (inl refl)))
          (map_in (λ (y : Parameter). record { setting = here; parameter = y }) (parameters form) x h)

      not_left_out : (x : Parameter) → In (parameters form) x → x.preset ≡ p.Required → term_in here x ≡ None → ⊥
      not_left_out x h e none = names_right (fault_at causes.MissingArg one.name.span.start)
          (inr (inr (inr (inr (inr (record {
            one = one;
            stands = stands;
            principle = principle;
            known = known;
            missing = inr (record { key = key_text x.key; asked = required_in (parameters form) x h e; missing = none_under one.args (key_text x.key) none; fault = refl });
          }))))))

      each_arg : (x : Parameter) → In (parameters form) x → IsArg here x x.wanted (arg here x x.wanted)
      each_arg x h = is_arg here x (λ f o. right f (record { setting = here; parameter = x }, (stands_here x h, o)))
          (sound_parameter principle x h) (not_left_out x h) x.wanted refl

      dim_there : (w : Which) → In (dims_in form.dims) w → (o : Option Name) → under one.dims (dim_key form.dims w) ≡ o → IsThere (place_named table.dims o)
      dim_there w h None e = absurd (names_right (fault_at causes.MissingArg one.name.span.start)
          (inr (inr (inr (inr (inr (record {
            one = one;
            stands = stands;
            principle = principle;
            known = known;
            missing = inl (record { key = dim_key form.dims w; asked = map_in (dim_key form.dims) (dims_in form.dims) w h; missing = none_under one.dims (dim_key form.dims w) e; fault = refl });
          })))))))
      dim_there w h (Some name) e = place_there (dim_texts table.dims) name.text (subst (λ ts. In ts name.text) (sym has)
          (each_known (texts (dim_names statements)) (given_dims statements) (λ f k. names_right f (inr (inl k))) name
          (flat_map_in (λ (x : Use). values x.dims) (principle_uses statements) one name stands (value_under one.dims (dim_key form.dims w) name e))))

      is_use : IsUse table.dims one (built_with table.dims one (Some principle))
      is_use = record {
        known = known;
        at = refl;
        home = known_dim one.within (within_dim statements one stands);
        dimensions = zip_map (λ which k. dim_place here which ≡ Some k) (λ which. unwrap_or (dim_place here which) 0) (dims_in form.dims) (λ w h. dim_there w h (under one.dims (dim_key form.dims w)) refl);
        arguments = zip_map (λ (x : Parameter) made. IsArg here x x.wanted made) (λ x. arg here x x.wanted) (parameters form) each_arg;
      }

    use_by : (o : Option Principle) → named one.name.text ≡ o → IsUse table.dims one (built_with table.dims one o)
    use_by None e = absurd (names_right (fault_at causes.UnknownPrinciple one.name.span.start) (inr (inr (inr (inl (record { one = one; stands = stands; missing = e; fault = refl }))))))
    use_by (Some principle) e = is_use principle e

  -- what is built is what is meant
  pub are_uses : ArePrincipleUses statements table (map (built table.dims) (principle_uses statements))
  are_uses = zip_map (IsUse table.dims) (built table.dims) (principle_uses statements) (λ one stands. use_by one stands (named one.name.text) refl)
