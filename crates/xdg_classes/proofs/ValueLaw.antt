-- What is found part by part is what is wrong with the values in bodies.
use Rattle.std.proofs.Common.{◌≡◌, ◌⊎◌, inl, inr, ℕ, List, [], ◌++◌, map, Option, Some, None, refl, sym, ◌∙◌, subst}
use Rattle.std.specs.Prelude.{◌↔◌}
use Rattle.xdg_ast.specs.declared.names.Name.{Name}
use Rattle.xdg_ast.specs.declared.names.Pair.{Pair}
use Rattle.xdg_ast.specs.declared.grammar.ClassParam.{ClassParam}
use Rattle.xdg_ast.specs.declared.grammar.StatementKind.{StatementKind}
use Rattle.xdg_ast.specs.declared.grammar.StatementKind.TheVariants as s
use Rattle.xdg_base.specs.declared.faults.Fault.{Fault}
use Rattle.xdg_domain.specs.Shapes.{Shape}
use Rattle.xdg_names.specs.First.{Tells}
use Rattle.xdg_names.proofs.First.{tells_as}
use Rattle.xdg_types.specs.Parts.{Statement}
use Rattle.xdg_types.specs.Table.{Table}
use Rattle.xdg_classes.specs.Bodies.{Term, Expr, body, Said, Called, records, calls}
use Rattle.xdg_classes.specs.Definitions.{ClassDef, EntryDef, Scoped, class, classes, entry_at, scoped, bodies, param_names}
use Rattle.xdg_classes.specs.Wants.{feature_shape, named_bodies, Wants}
use Rattle.xdg_classes.specs.Wrong.{SomeOf, FeatureWrong, RecordWrong, CallWrong, BodyWrong, GivenWrong, PresetWrong, ClassWrong, ScopedWrong, StatementWrong}
use Rattle.xdg_classes.specs.Offences.{ValueOffends}
use Rattle.xdg_facts.specs.Membership.{In}
use Rattle.xdg_facts.proofs.In.{in_flat_map, flat_map_in}
use Rattle.xdg_ast.specs.Texts.{texts}

-- ---- statements

module _ (look : List ℕ → List ℕ → Option Shape) (tell : List ℕ → List ℕ → List Shape) where
  -- of a statement of that kind at a place
  abbrev KindWrong : ℕ → StatementKind → Fault → Type 0
  KindWrong at kind f =
      SomeOf (map (λ (c : ClassDef). record { params = texts (param_names c.params); body = body c.body.kind }) (class kind) ++ map (λ (e : EntryDef). record { params = []; body = body e.body.kind }) (entry_at at kind)) (ScopedWrong look tell) f
      ⊎ SomeOf (class kind) (ClassWrong tell) f

  pub class_wrong : (statement : Statement) (name : Name) (params : List ClassParam) (e : Expr) (found : Option Fault) → statement.kind ≡ s.DefClass name params e
      → Tells (λ f. BodyWrong look tell (texts (param_names params)) (body e.kind) f ⊎ SomeOf params (PresetWrong tell name.text) f) found → Tells (StatementWrong look tell statement) found
  class_wrong statement name params e found is h =
      let c : ClassDef = record { name = name; params = params; body = e } in
      let one : Scoped = record { params = texts (param_names params); body = body e.kind } in
      subst (λ k. Tells (KindWrong statement.span.start k) found) (sym is)
      (tells_as (λ f. BodyWrong look tell (texts (param_names params)) (body e.kind) f ⊎ SomeOf params (PresetWrong tell name.text) f) (KindWrong statement.span.start (s.DefClass name params e))
      (λ f w. elim w [ inl a ↦ inl (one, (inl refl, a)) | inr b ↦ inr (c, (inl refl, b)) ])
      (λ f w. elim w [
        | inl a ↦ elim a.1.0 [ inl q ↦ inl (subst (λ (z : Scoped). ScopedWrong look tell z f) (sym q) a.1.1) | inr k ↦ absurd k ]
        | inr b ↦ elim b.1.0 [ inl q ↦ inr (subst (λ (z : ClassDef). ClassWrong tell z f) (sym q) b.1.1) | inr k ↦ absurd k ]
      ])
      found h)

  pub entry_wrong : (statement : Statement) (e : Expr) (found : Option Fault) → statement.kind ≡ s.DefEntry e → Tells (BodyWrong look tell [] (body e.kind)) found → Tells (StatementWrong look tell statement) found
  entry_wrong statement e found is h =
      let one : Scoped = record { params = []; body = body e.kind } in
      subst (λ k. Tells (KindWrong statement.span.start k) found) (sym is)
      (tells_as (BodyWrong look tell [] (body e.kind)) (KindWrong statement.span.start (s.DefEntry e))
      (λ f w. inl (one, (inl refl, w)))
      (λ f w. elim w [ inl a ↦ elim a.1.0 [ inl q ↦ subst (λ (z : Scoped). ScopedWrong look tell z f) (sym q) a.1.1 | inr k ↦ absurd k ] | inr b ↦ absurd b.1.0 ])
      found h)

-- ---- the law

module _ (statements : List Statement) (table : Table) (look : List ℕ → List ℕ → Option Shape) (same : (dim name : List ℕ) → look dim name ≡ feature_shape table dim name) (tell : List ℕ → List ℕ → List Shape)
    (known : (name param : List ℕ) (s : Shape) → In (tell name param) s ↔ Wants table (named_bodies statements) name param s) (f : Fault) where
  of_feature : (sc : Scoped) → In (bodies statements) sc → (said : Said) → In (records sc.body) said → (pair : Pair Term) → In said.pairs pair → (o : Option Shape) → feature_shape table said.dim.text pair.key.text ≡ o
      → FeatureWrong o sc.params pair f → ValueOffends statements table f
  of_feature sc among said stands pair has None is h = inl (record { scoped = sc; among = among; said = said; stands = stands; pair = pair; has = has; missing = is; fault = h })
  of_feature sc among said stands pair has (Some t) is h = inr (inr (inl (record { scoped = sc; among = among; said = said; stands = stands; pair = pair; has = has; shape = t; feature = is; offends = h })))

  of_record : (sc : Scoped) → In (bodies statements) sc → (said : Said) → In (records sc.body) said → RecordWrong look sc.params said f → ValueOffends statements table f
  of_record sc among said stands h = elim h [
    | inl a ↦ inr (inl (record { scoped = sc; among = among; said = said; stands = stands; again = a }))
    | inr p ↦ elim p.1.1 [
      | inl w ↦ of_feature sc among said stands p.0 p.1.0 (feature_shape table said.dim.text p.0.key.text) refl (subst (λ o. FeatureWrong o sc.params p.0 f) (same said.dim.text p.0.key.text) w)
      | inr w ↦ inr (inr (inr (inr (inr (inl (record { scoped = sc; among = among; said = said; stands = stands; pair = p.0; has = p.1.0; offends = w }))))))
    ]
  ]

  of_call : (sc : Scoped) → In (bodies statements) sc → (call : Called) → In (calls sc.body) call → CallWrong tell sc.params call f → ValueOffends statements table f
  of_call sc among call stands p = elim p.1.1 [
    | inl w ↦ inr (inr (inr (inl (record { scoped = sc; among = among; call = call; stands = stands; pair = p.0; has = p.1.0; shape = w.0; wanted = (known call.name.text p.0.key.text w.0).0 w.1.0; offends = w.1.1 }))))
    | inr w ↦ inr (inr (inr (inr (inr (inr (inl (record { scoped = sc; among = among; call = call; stands = stands; pair = p.0; has = p.1.0; offends = w })))))))
  ]

  of_given : (c : ClassDef) → In (classes statements) c → (param : ClassParam) → In c.params param → (o : Option Term) → param.preset ≡ o → GivenWrong (tell c.name.text param.name.text) o f → ValueOffends statements table f
  of_given c among param has None is h = absurd h
  of_given c among param has (Some t) is h = elim h [
    | inl w ↦ inr (inr (inr (inr (inl (record { class = c; among = among; param = param; has = has; term = t; preset = is; shape = w.0; wanted = (known c.name.text param.name.text w.0).0 w.1.0; offends = w.1.1 })))))
    | inr w ↦ inr (inr (inr (inr (inr (inr (inr (record { class = c; among = among; param = param; has = has; term = t; preset = is; offends = w })))))))
  ]

  sound : SomeOf statements (StatementWrong look tell) f → ValueOffends statements table f
  sound w = elim w.1.1 [
    | inl a ↦ (
        let among : In (bodies statements) a.0 = flat_map_in scoped statements w.0 a.0 w.1.0 a.1.0 in
        elim a.1.1 [ inl r ↦ of_record a.0 among r.0 r.1.0 r.1.1 | inr k ↦ of_call a.0 among k.0 k.1.0 k.1.1 ])
    | inr b ↦ (
        let among : In (classes statements) b.0 = flat_map_in (λ (statement : Statement). class statement.kind) statements w.0 b.0 w.1.0 b.1.0 in
        of_given b.0 among b.1.1.0 b.1.1.1.0 b.1.1.0.preset refl b.1.1.1.1)
  ]

  -- a body
  from_body : (sc : Scoped) → In (bodies statements) sc → BodyWrong look tell sc.params sc.body f → SomeOf statements (StatementWrong look tell) f
  from_body sc among h = let r = in_flat_map scoped statements sc among in (r.0, (r.1.0, inl (sc, (r.1.1, h))))

  from_class : (c : ClassDef) → In (classes statements) c → ClassWrong tell c f → SomeOf statements (StatementWrong look tell) f
  from_class c among h = let r = in_flat_map (λ (statement : Statement). class statement.kind) statements c among in (r.0, (r.1.0, inr (c, (r.1.1, h))))

  complete : ValueOffends statements table f → SomeOf statements (StatementWrong look tell) f
  complete h = elim h [
    | inl r ↦ from_body r.scoped r.among (inl (r.said, (r.stands, inr (r.pair, (r.has, inl (subst (λ o. FeatureWrong o r.scoped.params r.pair f) (sym (same r.said.dim.text r.pair.key.text ∙ r.missing)) r.fault))))))
    | inr (inl r) ↦ from_body r.scoped r.among (inl (r.said, (r.stands, inl r.again)))
    | inr (inr (inl r)) ↦ from_body r.scoped r.among (inl (r.said, (r.stands, inr (r.pair, (r.has, inl (subst (λ o. FeatureWrong o r.scoped.params r.pair f) (sym (same r.said.dim.text r.pair.key.text ∙ r.feature)) r.offends))))))
    | inr (inr (inr (inl r))) ↦ from_body r.scoped r.among (inr (r.call, (r.stands, (r.pair, (r.has, inl (r.shape, ((known r.call.name.text r.pair.key.text r.shape).1 r.wanted, r.offends)))))))
    | inr (inr (inr (inr (inl r)))) ↦
        from_class r.class r.among (r.param, (r.has, subst (λ o. GivenWrong (tell r.class.name.text r.param.name.text) o f) (sym r.preset) (inl (r.shape, ((known r.class.name.text r.param.name.text r.shape).1 r.wanted, r.offends)))))
    | inr (inr (inr (inr (inr (inl r))))) ↦ from_body r.scoped r.among (inl (r.said, (r.stands, inr (r.pair, (r.has, inr r.offends)))))
    | inr (inr (inr (inr (inr (inr (inl r)))))) ↦ from_body r.scoped r.among (inr (r.call, (r.stands, (r.pair, (r.has, inr r.offends)))))
    | inr (inr (inr (inr (inr (inr (inr r)))))) ↦ from_class r.class r.among (r.param, (r.has, subst (λ o. GivenWrong (tell r.class.name.text r.param.name.text) o f) (sym r.preset) (inr r.offends)))
  ]

pub value_law : (statements : List Statement) (table : Table) (look : List ℕ → List ℕ → Option Shape) → ((dim name : List ℕ) → look dim name ≡ feature_shape table dim name) → (tell : List ℕ → List ℕ → List Shape)
    → ((name param : List ℕ) (s : Shape) → In (tell name param) s ↔ Wants table (named_bodies statements) name param s) → (found : Option Fault) → Tells (SomeOf statements (StatementWrong look tell)) found → Tells (ValueOffends statements table) found
value_law statements table look same tell known = tells_as (SomeOf statements (StatementWrong look tell)) (ValueOffends statements table) (sound statements table look same tell known) (complete statements table look same tell known)
