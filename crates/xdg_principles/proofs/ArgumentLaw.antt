-- The offences of arguments that the pass lists are those of the rows.
use Rattle.std.proofs.Common.{◌≡◌, ◌⊎◌, ◌∙◌, inl, inr, false, ℕ, List, [], ◌++◌, Option, None, Some, refl, sym, subst}
use Rattle.std.specs.List.{flat_map}
use Rattle.std.proofs.lemmas.List.{append-nil}
use Rattle.std.proofs.lemmas.List.Folds.{flat_map-map}
use Rattle.std.specs.Prelude.{Result, Ok, Err, IfOk}
use Rattle.xdg_base.specs.Faults.{fault_at}
use Rattle.xdg_base.specs.declared.faults.Cause.TheVariants as causes
use Rattle.xdg_base.specs.declared.faults.Fault.{Fault}
use Rattle.xdg_ast.specs.declared.names.Name.{Name}
use Rattle.xdg_domain.specs.Shapes.{shape}
use Rattle.xdg_domain.specs.declared.types.Ty.{Ty}
use Rattle.xdg_names.specs.First.{Tells, first}
use Rattle.xdg_terms.specs.Forms.{Term}
use Rattle.xdg_types.specs.NameFaults.{repeats}
use Rattle.xdg_types.specs.Parts.{Statement}
use Rattle.xdg_types.specs.Table.{Table}
use Rattle.xdg_types.specs.declared.table.DimType.{DimType}
use Rattle.xdg_ast.specs.Misnamed.{IsUnknown, IsAgain}
use Rattle.xdg_names.proofs.Listing.{lists_tell}
use Rattle.xdg_types.proofs.Listings.{nested}
use Rattle.xdg_types.proofs.NamesAgain.{all_again}
use Rattle.xdg_types.proofs.NamesKnown.{all_unknown}
use Rattle.xdg_problem.specs.declared.forms.Parameter.{Parameter}
use Rattle.xdg_problem.specs.declared.forms.Sort.{Sort}
use Rattle.xdg_problem.specs.declared.forms.Which.{Which}
use Rattle.xdg_problem.specs.declared.forms.Typing.{Typing}
use Rattle.xdg_problem.specs.declared.forms.Wanted.{Wanted}
use Rattle.xdg_problem.specs.declared.forms.Wanted.TheVariants as a
use Rattle.xdg_problem.specs.declared.parts.Principle.{Principle}
use Rattle.xdg_problem.specs.Forms.{parameters}
use Rattle.xdg_facts.specs.Onward.{optional}
use Rattle.xdg_problem.specs.Names.{named}
use Rattle.xdg_principles.specs.Uses.{Use, principle_uses}
use Rattle.xdg_principles.specs.Settings.{Setting, Argument, Called, setting_of, setting_if, setting, arguments_in, labels, member_type, term_in, constant_in, listed_in, called_in}
use Rattle.xdg_principles.specs.Wanted.{is_wanted}
use Rattle.xdg_principles.specs.Arguments.{OneOffends, ArgumentOffends, has_form}
use Rattle.xdg_terms.specs.Faults.{truth_texts}
use Rattle.xdg_principles.specs.ArgumentFaults.{form_faults, type_faults, member_faults, outside, inner_faults, one_faults, known_faults, use_faults, argument_faults}
use Rattle.xdg_principles.proofs.WantedLaw.{wanted_false, true_wanted}
use Rattle.xdg_principles.proofs.MemberPlaces.{no_type, type_there}
use Rattle.xdg_facts.specs.Membership.{In}
use Rattle.xdg_facts.proofs.In.{in_append, in_left, in_right, in_unless, unless_in}
use Rattle.xdg_facts.proofs.Parts.{Lists, lists_both, lists_each}

module _ (x : Argument) where
  abbrev s : Setting
  s = x.setting

  abbrev p : Parameter
  p = x.parameter

  -- ---- from the list

  of_form : (given : Option Term) → term_in s p ≡ given → (f : Fault) → In (form_faults p.wanted given) f → OneOffends x f
  of_form None e f h = absurd h
  of_form (Some term) e f h =
      let k = in_unless (has_form p.wanted term) (fault_at causes.WrongKind term.span.start) f h in
      inl (record { term = term; given = e; form = k.0; fault = sym k.1 })

  module _ (sort : Sort) (which : Which) (typing : Typing) (wanted : p.wanted ≡ a.Member sort which typing) (called : Called) (given : called_in s p ≡ Some called) where
    of_type : (type : Option Ty) → member_type s sort which called.text ≡ type → (f : Fault) → In (type_faults s typing called.at type) f → OneOffends x f
    of_type None e f h = elim h [
      | inl q ↦ inr (inl (record { sort = sort; which = which; typing = typing; wanted = wanted; called = called; given = given; missing = no_type s sort which called.text e; fault = sym q }))
      | inr z ↦ absurd z
    ]
    of_type (Some type) e f h =
        let k = in_unless (is_wanted s typing (shape type)) (fault_at causes.WrongKind called.at) f h in
        inr (inr (inl (record { sort = sort; which = which; typing = typing; wanted = wanted; called = called; given = given; type = type; has = e; wrong = wanted_false s typing (shape type) k.0; fault = sym k.1 })))

  of_called : (sort : Sort) (which : Which) (typing : Typing) → p.wanted ≡ a.Member sort which typing → (called : Option Called) → called_in s p ≡ called → (f : Fault) → In (member_faults s sort which typing called) f → OneOffends x f
  of_called sort which typing wanted None e f h = absurd h
  of_called sort which typing wanted (Some called) e f h = of_type sort which typing wanted called e (member_type s sort which called.text) refl f h

  all_outside : (known : List (List ℕ)) (names : List Name) → Lists (flat_map (outside known) names) (IsUnknown causes.NotMember known names)
  all_outside known = all_unknown causes.NotMember known known (λ t. refl)

  all_labels : (which : Which)
      → Lists (flat_map (outside (labels s which)) (listed_in s p) ++ repeats [] (listed_in s p)) (λ f. IsUnknown causes.NotMember (labels s which) (listed_in s p) f ⊎ IsAgain (listed_in s p) f)
  all_labels which = lists_both (all_outside (labels s which) (listed_in s p)) (all_again (listed_in s p))

  of_inner : (wanted : Wanted) → p.wanted ≡ wanted → (f : Fault) → In (inner_faults s p wanted) f → OneOffends x f
  of_inner (a.Member sort which typing) e f h = of_called sort which typing e (called_in s p) refl f h
  of_inner (a.Labels which) e f h = elim ((all_labels which).sound f h) [
    | inl o ↦ inr (inr (inr (inr (inl (record { which = which; wanted = e; unknown = o })))))
    | inr r ↦ inr (inr (inr (inr (inr (record { which = which; wanted = e; again = r })))))
  ]
  of_inner a.Truth e f h = inr (inr (inr (inl (record { wanted = e; unknown = (all_outside truth_texts (optional (constant_in s p))).sound f h }))))

  of_one : (f : Fault) → In (one_faults s p) f → OneOffends x f
  of_one f h = elim (in_append (form_faults p.wanted (term_in s p)) (inner_faults s p p.wanted) f h) [
    | inl l ↦ of_form (term_in s p) refl f l
    | inr r ↦ of_inner p.wanted refl f r
  ]

  -- ---- into the list

  to_form : (given : Option Term) (term : Term) → given ≡ Some term → has_form p.wanted term ≡ false → (f : Fault) → fault_at causes.WrongKind term.span.start ≡ f → In (form_faults p.wanted given) f
  to_form given term e wrong f is = subst (λ (o : Option Term). In (form_faults p.wanted o) f) (sym e) (unless_in (has_form p.wanted term) (fault_at causes.WrongKind term.span.start) f wrong is)

  inner : (wanted : Wanted) → p.wanted ≡ wanted → (f : Fault) → In (inner_faults s p wanted) f → In (one_faults s p) f
  inner wanted e f h = in_right (form_faults p.wanted (term_in s p)) (inner_faults s p p.wanted) f (subst (λ w. In (inner_faults s p w) f) (sym e) h)

  to_type : (sort : Sort) (which : Which) (typing : Typing) → p.wanted ≡ a.Member sort which typing → (called : Called) → called_in s p ≡ Some called → (type : Option Ty) → member_type s sort which called.text ≡ type
      → (f : Fault) → In (type_faults s typing called.at type) f → In (one_faults s p) f
  to_type sort which typing wanted called given type has f h = inner (a.Member sort which typing) wanted f
      (subst (λ (o : Option Called). In (member_faults s sort which typing o) f) (sym given) (subst (λ (o : Option Ty). In (type_faults s typing called.at o) f) (sym has) h))

  to_one : (f : Fault) → OneOffends x f → In (one_faults s p) f
  to_one f h = elim h [
    | inl w ↦ in_left (form_faults p.wanted (term_in s p)) (inner_faults s p p.wanted) f (to_form (term_in s p) w.term w.given w.form f (sym w.fault))
    | inr (inl u) ↦ to_type u.sort u.which u.typing u.wanted u.called u.given None (type_there s u.sort u.which u.called.text u.missing) f (inl (sym u.fault))
    | inr (inr (inl w)) ↦ to_type w.sort w.which w.typing w.wanted w.called w.given (Some w.type) w.has f
        (unless_in (is_wanted s w.typing (shape w.type)) (fault_at causes.WrongKind w.called.at) f (true_wanted s w.typing (shape w.type) w.wrong) (sym w.fault))
    | inr (inr (inr (inl n))) ↦ inner a.Truth n.wanted f ((all_outside truth_texts (optional (constant_in s p))).complete f n.unknown)
    | inr (inr (inr (inr (inl n)))) ↦ inner (a.Labels n.which) n.wanted f ((all_labels n.which).complete f (inl n.unknown))
    | inr (inr (inr (inr (inr r)))) ↦ inner (a.Labels r.which) r.wanted f ((all_labels r.which).complete f (inr r.again))
  ]

  pub all_one : Lists (one_faults s p) (OneOffends x)
  all_one = record { sound = of_one; complete = to_one }

-- ---- all arguments

-- what is wrong with an argument
abbrev argument_wrong : Argument → List Fault
argument_wrong x = one_faults x.setting x.parameter

-- with all arguments of a use
abbrev setting_wrong : Setting → List Fault
setting_wrong s = flat_map argument_wrong (arguments_in s)

of_use : (dims : List DimType) (one : Use) (principle : Option Principle) → known_faults dims one principle ≡ flat_map setting_wrong (setting_if dims one principle)
of_use dims one None = refl
of_use dims one (Some principle) =
    let s : Setting = setting_of dims one principle in
    sym (append-nil (setting_wrong s) ∙ flat_map-map argument_wrong (λ (parameter : Parameter). record { setting = s; parameter = parameter }) (parameters s.form))

module _ (statements : List Statement) (table : Table) where
  abbrev dims : List DimType
  dims = table.dims

  abbrev settings : List Setting
  settings = flat_map (setting dims) (principle_uses statements)

  all_arguments : Lists (argument_faults statements dims) (ArgumentOffends statements table)
  all_arguments =
      nested setting_wrong (setting dims) (use_faults dims) (λ one. of_use dims one (named one.name.text)) (principle_uses statements)
      (nested argument_wrong arguments_in setting_wrong (λ s. refl) settings (lists_each argument_wrong OneOffends (flat_map arguments_in settings) (λ x stands. all_one x)))

  pub arguments_first : {E : Type 0} (result : Result (Option Fault) E) → IfOk result (λ found. found ≡ first (argument_faults statements dims)) → IfOk result (Tells (ArgumentOffends statements table))
  arguments_first (Ok found) is = subst (Tells (ArgumentOffends statements table)) (sym is) (lists_tell (argument_faults statements dims) all_arguments)
  arguments_first (Err error) is = tt
