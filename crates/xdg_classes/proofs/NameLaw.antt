-- The offences of names that the pass lists are those of the rules.
use Rattle.std.proofs.Common.{◌≡◌, ◌⊎◌, inl, inr, ℕ, true, false, List, [], ◌∷◌, map, Option, None, Some, refl, sym, ap, ◌∙◌, subst}
use Rattle.std.specs.List.{flat_map}
use Rattle.std.specs.Prelude.{option_map, if◌then◌else◌}
use Rattle.std.proofs.lemmas.Bool.{true≢false}
use Rattle.xdg_base.specs.Faults.{fault_at}
use Rattle.xdg_ast.specs.declared.names.Name.{Name}
use Rattle.xdg_ast.specs.declared.grammar.ClassParam.{ClassParam}
use Rattle.xdg_base.specs.declared.faults.Cause.TheVariants as causes
use Rattle.xdg_base.specs.declared.faults.Fault.{Fault}
use Rattle.xdg_names.specs.First.{Tells, first}
use Rattle.xdg_names.specs.Texts.{has_text}
use Rattle.xdg_names.proofs.Texts.{None-place_of, not_among, no_text}
use Rattle.xdg_ast.specs.Misnamed.{IsUnknown}
use Rattle.xdg_types.specs.NameFaults.{unknown, foreign, repeats, different}
use Rattle.xdg_types.specs.Parts.{Statement, keys}
use Rattle.xdg_types.specs.Table.{Table}
use Rattle.xdg_names.proofs.Listing.{lists_tell}
use Rattle.xdg_types.proofs.Listings.{joined_each, mapped, swapped}
use Rattle.xdg_types.proofs.Distinct.{same_known, of_different, to_different}
use Rattle.xdg_types.proofs.Elements.{in_texts}
use Rattle.xdg_types.proofs.NamesAgain.{all_twice, all_of_one, more_lists}
use Rattle.xdg_types.proofs.NamesKnown.{all_unknown}
use Rattle.xdg_classes.specs.Bodies.{Term, Called}
use Rattle.xdg_classes.specs.Definitions.{ClassDef, classes, class_names, class_named, param_names}
use Rattle.xdg_classes.specs.Names.{dim_texts, all_records, all_calls, said_dims, used_classes, IsUnknownParam, IsLeftOut, NameOffends}
use Rattle.xdg_classes.specs.NameFaults.{bare, bare_of, bare_names, asked_by, lacks, left_out, class_faults, name_faults}
use Rattle.xdg_classes.specs.Ordered.{class_at}
use Rattle.xdg_classes.proofs.Known.{named_some, class_placed}
use Rattle.xdg_facts.proofs.Options.{none_some}
use Rattle.xdg_facts.specs.Membership.{In}
use Rattle.xdg_facts.proofs.In.{in_flat_map, flat_map_in, in_map, map_in}
use Rattle.xdg_ast.specs.Texts.{texts}
use Rattle.xdg_facts.proofs.Parts.{Lists, lists_as, lists_both, lists_each, lists_when, lists_one, lists_option}

-- ---- parameters without default

bare_is : (name : Name) (o : Option Term) (n : Name) → In (bare_of name o) n → (o ≡ None) × (name ≡ n)
bare_is name None n h = elim h [ inl e ↦ (refl, e) | inr k ↦ absurd k ]
bare_is name (Some term) n h = absurd h

is_bare : (name : Name) (o : Option Term) → o ≡ None → In (bare_of name o) name
is_bare name o none = subst (λ p. In (bare_of name p) name) (sym none) (inl refl)

lacks_sound : (given needed : List (List ℕ)) → lacks given needed ≡ true → (t : List ℕ) × (In needed t × (has_text given t ≡ false))
lacks_sound given [] e = absurd (true≢false (sym e))
lacks_sound given (t ∷ needed) e = elim (has_text given t) as (λ b. has_text given t ≡ b → (if b then lacks given needed else true) ≡ true → (u : List ℕ) × (In (t ∷ needed) u × (has_text given u ≡ false))) [
  | true ↦ λ is k. (let r = lacks_sound given needed k in (r.0, (inr r.1.0, r.1.1)))
  | false ↦ λ is k. (t, (inl refl, is))
] refl e

lacks_complete : (given needed : List (List ℕ)) (t : List ℕ) → In needed t → has_text given t ≡ false → lacks given needed ≡ true
lacks_complete given [] t a e = absurd a
lacks_complete given (u ∷ needed) t a e = elim (has_text given u) as (λ b. has_text given u ≡ b → (if b then lacks given needed else true) ≡ true) [
  | true ↦ λ is. elim a [ inl same ↦ absurd (true≢false (sym is ∙ ap (has_text given) same ∙ e)) | inr later ↦ lacks_complete given needed t later e ]
  | false ↦ λ is. refl
] refl

-- ---- uses of classes

all_params : (c : ClassDef) (call : Called) → Lists (flat_map (foreign (asked_by c).has) (keys call.args)) (IsUnknown causes.WrongParams (texts (param_names c.params)) (keys call.args))
all_params c call = all_unknown causes.WrongParams (asked_by c).has (texts (param_names c.params)) (same_known (param_names c.params)) (keys call.args)

-- the use leaves out a parameter that has no default
abbrev LeavesOut : ClassDef → Called → Fault → Type 0
LeavesOut c call f = (p : ClassParam) × (In c.params p × ((p.preset ≡ None) × ((In (texts (keys call.args)) p.name.text → ⊥) × (f ≡ fault_at causes.WrongParams call.name.span.start))))

all_left : (c : ClassDef) (call : Called) → Lists (left_out (different (keys call.args)) (asked_by c).needs call.name.span.start) (LeavesOut c call)
all_left c call =
    let given = different (keys call.args) in
    let needs = (asked_by c).needs in
    lists_as (lists_when (lacks given needs) (fault_at causes.WrongParams call.name.span.start)) (λ f. (
      λ k.
          let r = lacks_sound given needs k.0 in
          let n = in_map (λ (m : Name). m.text) (bare_names c.params) r.0 (of_different (bare_names c.params) r.0 r.1.0) in
          let p = in_flat_map bare c.params n.0 n.1.0 in
          let b = bare_is p.0.name p.0.preset n.0 p.1.1 in
          let text : p.0.name.text ≡ r.0 = ap (λ (m : Name). m.text) b.1 ∙ n.1.1 in
          (p.0, (p.1.0, (b.0, (λ a. not_among given r.0 r.1.1 (to_different (keys call.args) r.0 (subst (In (texts (keys call.args))) text a)), sym k.1)))),
      λ u. (
        lacks_complete given needs u.0.name.text
            (to_different (bare_names c.params) u.0.name.text (in_texts (bare_names c.params) u.0.name (flat_map_in bare c.params u.0 u.0.name u.1.0 (is_bare u.0.name u.0.preset u.1.1.0))))
            (same_known (keys call.args) u.0.name.text ∙ no_text (texts (keys call.args)) u.0.name.text u.1.1.1.0),
        sym u.1.1.1.1,
      ),
    ))

-- ---- the pass

module _ (statements : List Statement) (table : Table) where
  abbrev cs : List ClassDef
  cs = classes statements

  abbrev params_of : ClassDef → List Name
  params_of c = param_names c.params

  abbrev keys_of : Called → List Name
  keys_of call = keys call.args

  -- what is wrong with a use by what its class asks
  abbrev by_class : Called → List Fault
  by_class call = class_faults (option_map asked_by (class_named cs call.name.text)) call

  abbrev OfClass : Called → ClassDef → Fault → Type 0
  OfClass call c f = IsUnknown causes.WrongParams (texts (params_of c)) (keys call.args) f ⊎ LeavesOut c call f

  abbrev ByClass : Called → Fault → Type 0
  ByClass call f = ((class_named cs call.name.text ≡ None) × (fault_at causes.UnknownName call.name.span.start ≡ f)) ⊎ ((c : ClassDef) × ((class_named cs call.name.text ≡ Some c) × OfClass call c f))

  of_call : (call : Called) → Lists (by_class call) (ByClass call)
  of_call call =
      lists_option (λ o. class_faults (option_map asked_by o) call) (λ f. fault_at causes.UnknownName call.name.span.start ≡ f) (OfClass call)
      (lists_one (fault_at causes.UnknownName call.name.span.start)) (λ c. lists_both (all_params c call) (all_left c call)) (class_named cs call.name.text)

  all_classes : Lists (flat_map by_class (all_calls statements)) (λ f. IsUnknown causes.UnknownName (texts (class_names cs)) (used_classes statements) f ⊎ (IsUnknownParam statements f ⊎ IsLeftOut statements f))
  all_classes = lists_as (lists_each by_class ByClass (all_calls statements) (λ call stands. of_call call)) (λ f. (
    λ k. elim k.1.1 [
      | inl n ↦ inl (record {
        name = k.0.name;
        used = map_in (λ (one : Called). one.name) (all_calls statements) k.0 k.1.0;
        missing = λ a. (let s = named_some cs k.0.name.text a in none_some s.0 (sym n.0 ∙ s.1));
        fault = sym n.1;
      })
      | inr s ↦ elim s.1.1 [
        | inl u ↦ inr (inl (record { call = k.0; stands = k.1.0; class = s.0; defined = s.1.0; unknown = u }))
        | inr l ↦ inr (inr (record { call = k.0; stands = k.1.0; class = s.0; defined = s.1.0; param = l.0; has = l.1.0; bare = l.1.1.0; missing = l.1.1.1.0; fault = l.1.1.1.1 }))
      ]
    ],
    λ h. elim h [
      | inl u ↦ (let k = in_map (λ (one : Called). one.name) (all_calls statements) u.name u.used in
          let out = no_text (texts (class_names cs)) k.0.name.text (λ a. u.missing (subst (λ (n : Name). In (texts (class_names cs)) n.text) k.1.1 a)) in
          let none = sym (class_placed cs k.0.name.text) ∙ ap (class_at cs) (None-place_of (texts (class_names cs)) k.0.name.text out) in
          (k.0, (k.1.0, inl (none, ap (λ (n : Name). fault_at causes.UnknownName n.span.start) k.1.1 ∙ sym u.fault))))
      | inr (inl u) ↦ (u.call, (u.stands, inr (u.class, (u.defined, inl u.unknown))))
      | inr (inr u) ↦ (u.call, (u.stands, inr (u.class, (u.defined, inr (u.param, (u.has, (u.bare, (u.missing, u.fault))))))))
    ],
  ))

  pub all_names : Lists (name_faults statements table) (NameOffends statements table)
  all_names =
      lists_both (mapped (unknown (dim_texts table)) (λ said. said.dim) (all_records statements) (all_unknown causes.UnknownName (dim_texts table) (dim_texts table) (λ t. refl) (said_dims statements)))
      (swapped (more_lists (all_of_one (class_names cs)) (more_lists (mapped (repeats []) params_of cs (all_twice (map params_of cs)))
      (joined_each (λ call. repeats [] (keys_of call)) by_class (all_calls statements) (mapped (repeats []) keys_of (all_calls statements) (all_twice (map keys_of (all_calls statements)))) all_classes))))

  -- the first of the list is the first offence
  pub names_tell : Tells (NameOffends statements table) (first (name_faults statements table))
  names_tell = lists_tell (name_faults statements table) all_names
