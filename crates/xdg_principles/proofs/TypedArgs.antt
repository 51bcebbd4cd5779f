-- Arguments have the wanted types where nothing is wrong with them.
use Rattle.std.proofs.Common.{◌≡◌, inl, inr, ℕ, Bool, true, false, List, [], length, Option, None, Some, refl, sym, ap, ◌∙◌, subst}
use Rattle.std.specs.Prelude.{slice_get, option_map, if◌then◌else◌}
use Rattle.std.proofs.lemmas.Bool.{true≢false, cases_Bool}
use Rattle.std.proofs.lemmas.Option.{slice_get-map}
use Rattle.xdg_base.specs.Faults.{fault_at}
use Rattle.xdg_ast.specs.declared.names.Name.{Name}
use Rattle.xdg_base.specs.declared.faults.Cause.TheVariants as causes
use Rattle.xdg_base.specs.declared.faults.Fault.{Fault}
use Rattle.xdg_domain.specs.Shapes.{Shape, domain, set, iset, valency, mapping, shape}
use Rattle.xdg_domain.specs.declared.types.Ty.{Ty}
use Rattle.xdg_terms.specs.Forms.{Term, constant_of}
use Rattle.xdg_types.specs.Kinds.{is_small}
use Rattle.xdg_types.specs.Table as types
use Rattle.xdg_types.specs.Table.{Table, typed}
use Rattle.xdg_types.proofs.NamesAgain.{again_differ}
use Rattle.xdg_principles.specs.declared.building.Arg.{Arg}
use Rattle.xdg_principles.specs.declared.building.Arg.TheVariants as g
use Rattle.xdg_principles.specs.declared.building.PrincipleUse.{PrincipleUse}
use Rattle.xdg_problem.specs.declared.forms.Element.{Element}
use Rattle.xdg_problem.specs.declared.forms.Element.TheVariants as el
use Rattle.xdg_problem.specs.declared.forms.Parameter.{Parameter}
use Rattle.xdg_problem.specs.declared.forms.Preset.{Preset}
use Rattle.xdg_problem.specs.declared.forms.Preset.TheVariants as p
use Rattle.xdg_problem.specs.declared.forms.Sort.{Sort}
use Rattle.xdg_problem.specs.declared.forms.Sort.TheVariants as s
use Rattle.xdg_problem.specs.declared.forms.Typing.{Typing}
use Rattle.xdg_problem.specs.declared.forms.Typing.TheVariants as ty
use Rattle.xdg_problem.specs.declared.forms.Wanted.{Wanted}
use Rattle.xdg_problem.specs.declared.forms.Wanted.TheVariants as a
use Rattle.xdg_problem.specs.declared.forms.Which.{Which}
use Rattle.xdg_problem.specs.Forms.{preset_feature}
use Rattle.xdg_principles.specs.Settings.{Setting, Called, dim, labels, labels_in, members, members_in, member_type, term_in, constant_at, constant_in, list_at, listed_in, names_at, called_in, called_or, called_at, called_by, if_small, type_called, fixed_by, fixed_in, shared}
use Rattle.xdg_principles.specs.Wanted.{IsSame, IsShared, IsElement, IsSetOf, IsMapTo, IsWanted, is_wanted}
use Rattle.xdg_principles.specs.Arguments.{OneOffends}
use Rattle.xdg_principles.specs.Made.{IsMember, IsLabelList, IsArg}
use Rattle.xdg_principles.specs.Typed.{labels_at, dim_at, IsElementOf, IsTypedAs, IsTypedMember, IsTypedArg}
use Rattle.xdg_principles.proofs.TypedPlaces.{label_places}
use Rattle.xdg_principles.proofs.TypedRows.{HasWhich, FixesShared, IsSoundElement, IsSoundTyping, IsSoundWanted}
use Rattle.xdg_principles.proofs.WantedLaw.{wanted_true, wanted_false}
use Rattle.xdg_principles.proofs.MemberPlaces.{member_there}
use Rattle.xdg_facts.proofs.Options.{none_some, some_same}
use Rattle.xdg_facts.specs.Membership.{Differ}
use Rattle.xdg_ast.specs.Texts.{texts}

-- ---- the type that arguments share

-- that type, and a domain where no argument fixes one
abbrev pub shared_or : Option Shape → Shape
shared_or None = domain []
shared_or (Some fixed) = fixed

small_if : (o : Option Ty) → is_small (shared_or (if_small o)) ≡ true
small_if None = refl
small_if (Some type) = by (is_small (shape type)) refl
  where
    by : (b : Bool) → is_small (shape type) ≡ b → is_small (shared_or (if b then Some (shape type) else None)) ≡ true
    by true h = h
    by false h = refl

small_called : (setting : Setting) (sort : Sort) (which : Which) (given : Option Name) → is_small (shared_or (type_called setting sort which given)) ≡ true
small_called setting sort which None = refl
small_called setting sort which (Some name) = small_if (member_type setting sort which name.text)

small_by : (setting : Setting) (parameter : Parameter) (wanted : Wanted) → is_small (shared_or (fixed_by setting parameter wanted)) ≡ true
small_by setting parameter (a.Member sort which (ty.One el.Shared)) = small_called setting sort which (constant_in setting parameter)
small_by setting parameter _ = refl

small_in : (setting : Setting) (first : Option Parameter) → is_small (shared_or (fixed_in setting first)) ≡ true
small_in setting None = refl
small_in setting (Some parameter) = small_by setting parameter parameter.wanted

pub small_shared : (setting : Setting) → is_small (shared_or (shared setting)) ≡ true
small_shared setting = small_in setting setting.form.first

same_shared : (o : Option Shape) (fixed : Shape) → o ≡ Some fixed → (type : Shape) → IsShared o type → IsSame (shared_or o) type
same_shared None fixed is type h = absurd (none_some fixed is)
same_shared (Some other) fixed is type h = h

-- ---- types of sets and maps

module _ (P Q : Shape → Type 0) (each : (type : Shape) → P type → Q type) where
  set_of : (type : Shape) → IsSetOf P type → IsSetOf Q type
  set_of (set type) h = each type h
  set_of (iset type) h = each type h
  set_of _ h = absurd h

  map_to : (known others : List (List ℕ)) → known ≡ others → (type : Shape) → IsMapTo P known type → IsMapTo Q others type
  map_to known others same (mapping key value) h = (h.0 ∙ ap domain same, set_of value h.1)
  map_to known others same _ h = absurd h

-- ---- one argument

-- a constant is given where an argument without default names something

constant_given : (at : ℕ) (preset : Preset) → preset ≡ p.Required → (given : Option Term) (called : Called) → called_or (called_at at (preset_feature preset)) given ≡ Some called
    → (name : Name) × ((constant_at given ≡ Some name) × (name.text ≡ called.text))
constant_given at preset required None called h = absurd (none_some called (sym (ap (λ q. called_at at (preset_feature q)) required) ∙ h))
constant_given at preset required (Some term) called h = by (constant_of term) refl
  where
    by : (o : Option Name) → constant_of term ≡ o → (name : Name) × ((constant_of term ≡ Some name) × (name.text ≡ called.text))
    by None e = absurd (none_some called (sym (ap called_by e) ∙ h))
    by (Some name) e = (name, (e, ap (λ (c : Called). c.text) (some_same (record { text = name.text; at = name.span.start }) called (sym (ap called_by e) ∙ h))))

-- it names a feature or an attribute
member_of : (setting : Setting) (parameter : Parameter) (sort : Sort) (which : Which) (typing : Typing) (x : Arg) → IsArg setting parameter (a.Member sort which typing) x → (k : ℕ) × IsMember setting parameter sort which k
member_of setting parameter s.Feature which typing (g.Feature k) h = (k, h)
member_of setting parameter s.Attribute which typing (g.Attr k) h = (k, h)
member_of setting parameter _ which typing _ h = absurd h

module _ (setting : Setting) (parameter : Parameter) (right : (f : Fault) → OneOffends (record { setting = setting; parameter = parameter }) f → ⊥) where
  module _ (sort : Sort) (which : Which) (typing : Typing) (wanted : parameter.wanted ≡ a.Member sort which typing) where
    -- its type is the wanted one
    right_type : (called : Called) → called_in setting parameter ≡ Some called → (type : Ty) → member_type setting sort which called.text ≡ Some type → IsWanted setting typing (shape type)
    right_type called given type has = elim (cases_Bool (is_wanted setting typing (shape type))) [
      | inl e ↦ wanted_true setting typing (shape type) e
      | inr e ↦ absurd (right (fault_at causes.WrongKind called.at)
          (inr (inr (inl (record { sort = sort; which = which; typing = typing; wanted = wanted; called = called; given = given; type = type; has = has; wrong = wanted_false setting typing (shape type) e; fault = refl })))))
    ]

  -- the first argument fixes the shared type
  pub fixes : (sort : Sort) (which : Which) → parameter.wanted ≡ a.Member sort which (ty.One el.Shared) → parameter.preset ≡ p.Required → setting.form.first ≡ Some parameter → (x : Arg) → IsArg setting parameter parameter.wanted x
      → (fixed : Shape) × (shared setting ≡ Some fixed)
  fixes sort which wanted required first x arg =
      let h = (member_of setting parameter sort which (ty.One el.Shared) x (subst (λ v. IsArg setting parameter v x) wanted arg)) in
      let m = member_there setting sort which h.1.0.text h.0 h.1.1.1 in
      let c = constant_given setting.one.name.span.start parameter.preset required (term_in setting parameter) h.1.0 h.1.1.0 in
      let type = shape m.0.1 in
      let found : shared setting ≡ (if is_small type then Some type else None) =
      ap (fixed_in setting) first ∙ ap (fixed_by setting parameter) wanted ∙ ap (type_called setting sort which) c.1.0
      ∙ ap (λ t. if_small (member_type setting sort which t)) c.1.1 ∙ ap if_small m.1.1
      in
      elim (cases_Bool (is_small type)) [
        | inl e ↦ (type, found ∙ ap (λ b. if b then Some type else None) e)
        | inr e ↦ absurd (true≢false (sym
            (subst (λ o. IsShared o type) (found ∙ ap (λ b. if b then Some type else None) e) (right_type sort which (ty.One el.Shared) wanted h.1.0 h.1.1.0 m.0.1 m.1.1)) ∙ e))
      ]

  module _ (table : Table) (u : PrincipleUse) (same : (which : Which) → HasWhich setting.form.dims which → dim_at table u which ≡ dim setting which)
      (fixed : FixesShared setting.form.first → (type : Shape) × (shared setting ≡ Some type)) where
    same_labels : (which : Which) → HasWhich setting.form.dims which → labels setting which ≡ labels_at table u which
    same_labels which has = ap labels_in (sym (same which has))

    as_element : (element : Element) → IsSoundElement setting.form element → (type : Shape) → IsElement setting element type → IsElementOf (labels_at table u) (shared_or (shared setting)) element type
    as_element (el.Labels which) sound type h = h ∙ ap domain (same_labels which sound)
    as_element el.Shared sound type h = let q = fixed sound in same_shared (shared setting) q.0 q.1 type h

    as_typing : (typing : Typing) → IsSoundTyping setting.form typing → (type : Shape) → IsWanted setting typing type → IsTypedAs (labels_at table u) (shared_or (shared setting)) typing type
    as_typing (ty.One element) sound type h = as_element element sound type h
    as_typing (ty.Set element) sound type h =
        set_of (IsElement setting element) (IsElementOf (labels_at table u) (shared_or (shared setting)) element) (as_element element sound) type h
    as_typing (ty.Valency which) sound type h = h ∙ ap (λ ls. valency (domain ls)) (same_labels which sound)
    as_typing (ty.Map which element) sound type h =
        map_to (IsElement setting element) (IsElementOf (labels_at table u) (shared_or (shared setting)) element) (as_element element sound.1)
        (labels setting which) (labels_at table u which) (same_labels which sound.0) type h

    typed_member : (sort : Sort) (which : Which) (typing : Typing) → parameter.wanted ≡ a.Member sort which typing → HasWhich setting.form.dims which → IsSoundTyping setting.form typing → (k : ℕ)
        → IsMember setting parameter sort which k → IsTypedMember table u (shared_or (shared setting)) sort which typing k
    typed_member sort which typing wanted has sound k h =
        let m = member_there setting sort which h.0.text k h.1.1 in
        record {
          name = m.0.0;
          type = shape m.0.1;
          stands = ap (λ o. slice_get (typed (members_in sort o)) k) (same which has)
              ∙ slice_get-map (λ (one : List ℕ × Ty). (one.0, shape one.1)) (members setting sort which) k ∙ ap (option_map (λ (one : List ℕ × Ty). (one.0, shape one.1))) m.1.0;
          wanted = as_typing typing sound (shape m.0.1) (right_type sort which typing wanted h.0 h.1.0 m.0.1 m.1.1);
        }

    typed_labels : (which : Which) → parameter.wanted ≡ a.Labels which → HasWhich setting.form.dims which → (ks : List ℕ) (given : Option Term) → term_in setting parameter ≡ given → IsLabelList (labels setting which) given ks
        → types.ArePlaces (length (labels_at table u which)) ks
    typed_labels which wanted has ks None e h = absurd h
    typed_labels which wanted has ks (Some term) e h =
        let listed : listed_in setting parameter ≡ h.0 = ap list_at e ∙ ap names_at h.1.0 in
        let apart = again_differ (listed_in setting parameter) (λ f t. right f (inr (inr (inr (inr (inr (record { which = which; wanted = wanted; again = t }))))))) in
        subst (λ ls. types.ArePlaces (length ls) ks) (same_labels which has) (label_places (labels setting which) h.0 ks h.1.1 (subst (λ ns. Differ (texts ns)) listed apart))

    -- the argument is of the wanted kind
    pub typed_arg : (wanted : Wanted) → parameter.wanted ≡ wanted → IsSoundWanted setting.form wanted → (x : Arg) → IsArg setting parameter wanted x → IsTypedArg table u (shared_or (shared setting)) wanted x
    typed_arg (a.Member s.Feature which typing) is sound (g.Feature k) h = typed_member s.Feature which typing is sound.0 sound.1 k h
    typed_arg (a.Member s.Attribute which typing) is sound (g.Attr k) h = typed_member s.Attribute which typing is sound.0 sound.1 k h
    typed_arg (a.Labels which) is sound (g.Labels ks) h = typed_labels which is sound ks (term_in setting parameter) refl h
    typed_arg a.Truth is sound (g.Truth b) h = tt
    typed_arg _ is sound _ h = absurd h
