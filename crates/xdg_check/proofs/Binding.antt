-- Completed uses bind exactly the parameters of their classes.
use Rattle.std.proofs.Common.{◌≡◌, ◌⊎◌, inl, inr, ℕ, Bool, true, false, List, [], ◌∷◌, ◌++◌, map, Option, None, Some, refl, sym, ap, ◌∙◌, subst}
use Rattle.std.specs.Prelude.{if◌then◌else◌}
use Rattle.std.proofs.lemmas.Bool.{true≢false}
use Rattle.std.proofs.lemmas.List.{map-append}
use Rattle.xdg_base.specs.Faults.{fault_at}
use Rattle.xdg_ast.specs.declared.names.Name.{Name}
use Rattle.xdg_ast.specs.declared.names.Pair.{Pair}
use Rattle.xdg_ast.specs.declared.grammar.ClassParam.{ClassParam}
use Rattle.xdg_base.specs.declared.faults.Cause.TheVariants as causes
use Rattle.xdg_names.specs.Texts.{has_text}
use Rattle.xdg_types.specs.Answers.{None_of}
use Rattle.xdg_types.specs.Parts.{Statement, keys}
use Rattle.xdg_types.specs.Table.{Table}
use Rattle.xdg_types.proofs.Elements.{among_or_not, among_name, in_texts}
use Rattle.xdg_classes.specs.Bodies.{Term, Called}
use Rattle.xdg_classes.specs.Definitions.{ClassDef, classes, class_names, class_named, param_names}
use Rattle.xdg_classes.specs.Names.{NameOffends, all_calls, used_classes, once}
use Rattle.xdg_types.proofs.NamesAgain.{once_differ}
use Rattle.xdg_names.proofs.Texts.{not_among, no_text}
use Rattle.xdg_types.proofs.NamesKnown.{each_known}
use Rattle.xdg_check.specs.declared.checked.Class.{Class}
use Rattle.xdg_check.specs.Completed.{left_out, preset_pair, bound_by}
use Rattle.xdg_check.specs.Answers.{IsClassOf, AreClassesOf}
use Rattle.xdg_check.specs.Checked.{IsBound}
use Rattle.xdg_classes.proofs.Known.{named_in, named_some}
use Rattle.xdg_check.proofs.Sources.{completed_call}
use Rattle.xdg_facts.specs.Membership.{In, Differ}
use Rattle.xdg_facts.proofs.In.{in_append, in_left, in_right, in_map, map_in, differ_append}
use Rattle.xdg_ast.specs.Texts.{texts}
use Rattle.xdg_facts.proofs.Zips.{zip_first}

-- ---- pairs that are left out

pair_of_preset : (name : Name) (o : Option Term) (pair : Pair Term) → In (preset_pair name o) pair → (o ≡ Some pair.value) × (name ≡ pair.key)
pair_of_preset name None pair h = absurd h
pair_of_preset name (Some t) pair h = elim h [ inl e ↦ (ap (λ (p : Pair Term). Some p.value) e, ap (λ (p : Pair Term). p.key) e) | inr k ↦ absurd k ]

-- what stands there is a default of a parameter, which isn't given
left_from : (known : List (List ℕ)) (params : List ClassParam) (pair : Pair Term) → In (left_out known params) pair
    → (p : ClassParam) × (In params p × ((has_text known p.name.text ≡ false) × ((p.preset ≡ Some pair.value) × (p.name ≡ pair.key))))
left_from known [] pair h = absurd h
left_from known (p ∷ params) pair h = elim (in_append (if has_text known p.name.text then [] else preset_pair p.name p.preset) (left_out known params) pair h) [
  | inl a ↦ (p, (inl refl, by (has_text known p.name.text) refl a))
  | inr b ↦ (let r = left_from known params pair b in (r.0, (inr r.1.0, r.1.1)))
]
  where
    by : (b : Bool) → has_text known p.name.text ≡ b → In (if b then [] else preset_pair p.name p.preset) pair → (has_text known p.name.text ≡ false) × ((p.preset ≡ Some pair.value) × (p.name ≡ pair.key))
    by true e a = absurd a
    by false e a = (e, pair_of_preset p.name p.preset pair a)

pub left_pair : (known : List (List ℕ)) (params : List ClassParam) (pair : Pair Term) → In (left_out known params) pair → (p : ClassParam) × (In params p × ((p.preset ≡ Some pair.value) × (p.name ≡ pair.key)))
left_pair known params pair h = let r = left_from known params pair h in (r.0, (r.1.0, r.1.1.1))

-- ---- the parameters that are left out

abbrev left_texts : List (List ℕ) → List ClassParam → List (List ℕ)
left_texts known params = texts (keys (left_out known params))

-- what is left out is a parameter that isn't given
left_stands : (known : List (List ℕ)) (params : List ClassParam) (t : List ℕ) → In (left_texts known params) t → In (texts (param_names params)) t × (has_text known t ≡ false)
left_stands known params t h =
    let n = in_map (λ (m : Name). m.text) (keys (left_out known params)) t h in
    let q = in_map (λ (x : Pair Term). x.key) (left_out known params) n.0 n.1.0 in
    let p = left_from known params q.0 q.1.0 in
    let same : p.0.name.text ≡ t = ap (λ (m : Name). m.text) (p.1.1.1.1 ∙ q.1.1) ∙ n.1.1 in
    (subst (In (texts (param_names params))) same (in_texts (param_names params) p.0.name (map_in (λ (x : ClassParam). x.name) params p.0 p.1.0)), subst (λ x. has_text known x ≡ false) same p.1.1.0)

left_differ : (known : List (List ℕ)) (params : List ClassParam) → Differ (texts (param_names params)) → Differ (left_texts known params)
left_differ known [] apart = tt
left_differ known (p ∷ params) apart = by (has_text known p.name.text) p.preset (left_differ known params apart.1)
  where
    by : (b : Bool) (o : Option Term) → Differ (left_texts known params) → Differ (texts (keys ((if b then [] else preset_pair p.name o) ++ left_out known params)))
    by true o rest = rest
    by false None rest = rest
    by false (Some x) rest = (λ a. apart.0 (left_stands known params p.name.text a).0, rest)

-- a parameter that isn't given, and has a default, is left out
left_has : (known : List (List ℕ)) (params : List ClassParam) (p : ClassParam) → In params p → has_text known p.name.text ≡ false → (p.preset ≡ None → ⊥) → In (left_texts known params) p.name.text
left_has known [] p h absent some = absurd h
left_has known (x ∷ params) p h absent some = elim h [
  | inl e ↦ subst (λ (y : ClassParam). In (texts (keys ((if has_text known y.name.text then [] else preset_pair y.name y.preset) ++ left_out known params))) p.name.text) (sym e) (here (has_text known p.name.text) absent p.preset some)
  | inr k ↦ later (has_text known x.name.text) x.preset (left_has known params p k absent some)
]
  where
    here : (b : Bool) → b ≡ false → (o : Option Term) → (o ≡ None → ⊥) → In (texts (keys ((if b then [] else preset_pair p.name o) ++ left_out known params))) p.name.text
    here true e o some = absurd (true≢false e)
    here false e None some = absurd (some refl)
    here false e (Some t) some = inl refl

    later : (b : Bool) (o : Option Term) → In (left_texts known params) p.name.text → In (texts (keys ((if b then [] else preset_pair x.name o) ++ left_out known params))) p.name.text
    later true o i = i
    later false None i = i
    later false (Some t) i = inr i

-- ---- uses

module _ (statements : List Statement) (table : Table) (right : None_of (NameOffends statements table)) where
  pub differ : (names : List Name) → In (once statements) names → Differ (texts names)
  differ = once_differ (once statements) (λ f h. right f (inr (inr (inl h))))

  pub classes_differ : Differ (texts (class_names (classes statements)))
  classes_differ = differ (class_names (classes statements)) (inl refl)

  pub params_differ : (c : ClassDef) → In (classes statements) c → Differ (texts (param_names c.params))
  params_differ c h =
      differ (param_names c.params) (inr (in_left (map (λ (x : ClassDef). param_names x.params) (classes statements)) (map (λ (x : Called). keys x.args) (all_calls statements)) (param_names c.params)
      (map_in (λ (x : ClassDef). param_names x.params) (classes statements) c h)))

  keys_differ : (call : Called) → In (all_calls statements) call → Differ (texts (keys call.args))
  keys_differ call h =
      differ (keys call.args) (inr (in_right (map (λ (x : ClassDef). param_names x.params) (classes statements)) (map (λ (x : Called). keys x.args) (all_calls statements)) (keys call.args)
      (map_in (λ (x : Called). keys x.args) (all_calls statements) call h)))

  -- the class that a use names
  pub class_of : (call : Called) → In (all_calls statements) call → (c : ClassDef) × (class_named (classes statements) call.name.text ≡ Some c)
  class_of call h =
      named_some (classes statements) call.name.text (each_known (texts (class_names (classes statements))) (used_classes statements) (λ f u. right f (inr (inl u)))
      call.name (map_in (λ (one : Called). one.name) (all_calls statements) call h))

  key_known : (call : Called) (c : ClassDef) → In (all_calls statements) call → class_named (classes statements) call.name.text ≡ Some c → (key : Name) → In (keys call.args) key → In (texts (param_names c.params)) key.text
  key_known call c h named = each_known (texts (param_names c.params)) (keys call.args) (λ f u. right f (inr (inr (inr (inl (record { call = call; stands = h; class = c; defined = named; unknown = u }))))))

  given_or_not : (call : Called) (c : ClassDef) → In (all_calls statements) call → class_named (classes statements) call.name.text ≡ Some c → (p : ClassParam) → In c.params p
      → In (texts (keys call.args)) p.name.text ⊎ ((has_text (texts (keys call.args)) p.name.text ≡ false) × (p.preset ≡ None → ⊥))
  given_or_not call c h named p i = elim (among_or_not (texts (keys call.args)) p.name.text) [
    | inl a ↦ inl a
    | inr b ↦ inr (
      no_text (texts (keys call.args)) p.name.text b,
      λ bare. right (fault_at causes.WrongParams call.name.span.start) (inr (inr (inr (inr (record { call = call; stands = h; class = c; defined = named; param = p; has = i; bare = bare; missing = b; fault = refl }))))),
    )
  ]

  -- a completed use binds what it has to
  pub is_bound : (made : List Class) → AreClassesOf (classes statements) (classes statements) made → (call : Called) → In (all_calls statements) call → IsBound made (completed_call (classes statements) call)
  is_bound made are call h =
      let cs = classes statements in
      let c = class_of call h in
      let at = named_in cs call.name.text c.0 c.1 in
      let m = zip_first (IsClassOf cs) cs made are c.0 at.0 in
      let given = texts (keys call.args) in
      let left = left_out given c.0.params in
      let args : bound_by (class_named cs call.name.text) call.args ≡ call.args ++ left = ap (λ o. bound_by o call.args) c.1 in
      let names : texts (keys (bound_by (class_named cs call.name.text) call.args)) ≡ given ++ texts (keys left) =
      ap (λ ps. texts (keys ps)) args ∙ ap texts (map-append (λ (x : Pair Term). x.key) call.args left) ∙ map-append (λ (n : Name). n.text) (keys call.args) (keys left) in
      let own : m.0.params ≡ texts (param_names c.0.params) = m.1.1.params in
      record {
        class = m.0;
        stands = m.1.0;
        name = m.1.1.name ∙ at.1;
        once = subst Differ (sym names) (differ_append given (texts (keys left)) (keys_differ call h) (left_differ given c.0.params (params_differ c.0 at.0))
            (λ t a b. not_among given t (left_stands given c.0.params t b).1 a));
        known = λ param a. subst (λ ts. In ts param) (sym own) (elim (in_append given (texts (keys left)) param (subst (λ ts. In ts param) names a)) [
          | inl g ↦ (let n = among_name (keys call.args) param g in subst (In (texts (param_names c.0.params))) n.1.1 (key_known call c.0 h c.1 n.0 n.1.0))
          | inr l ↦ (left_stands given c.0.params param l).0
        ]);
        given = λ param a. subst (λ ts. In ts param) (sym names) (let p = param_named c.0.params param (subst (λ ts. In ts param) own a) in
            subst (In (given ++ texts (keys left))) p.1.1 (elim (given_or_not call c.0 h c.1 p.0 p.1.0) [
              | inl g ↦ in_left given (texts (keys left)) p.0.name.text g
              | inr l ↦ in_right given (texts (keys left)) p.0.name.text (left_has given c.0.params p.0 p.1.0 l.0 l.1)
            ]));
      }
    where
      param_named : (params : List ClassParam) (t : List ℕ) → In (texts (param_names params)) t → (p : ClassParam) × (In params p × (p.name.text ≡ t))
      param_named [] t h = absurd h
      param_named (p ∷ params) t h = elim h [ inl e ↦ (p, (inl refl, e)) | inr k ↦ (let r = param_named params t k in (r.0, (inr r.1.0, r.1.1))) ]
