-- The order of the classes of the text is one of the completed classes.
use Rattle.std.proofs.Common.{◌≡◌, inl, ℕ, List, [], ◌∷◌, map, length, slice_index_or, Some, refl, sym, ap, ◌∙◌, subst, arith}
use Rattle.std.proofs.lemmas.List.{get_or-map}
use Rattle.std.proofs.lemmas.Option.{get_or_from_slice_get, slice_get_within}
use Rattle.xdg_names.specs.Leads.{uses_of}
use Rattle.xdg_names.specs.declared.graph.Use.{Use}
use Rattle.xdg_names.specs.Texts.{place_of}
use Rattle.xdg_names.proofs.Texts.{place_of-has_text, among_has}
use Rattle.xdg_types.specs.Answers.{None_of}
use Rattle.xdg_types.specs.Graph.{use_at, use_of}
use Rattle.xdg_types.specs.Parts.{Statement}
use Rattle.xdg_types.specs.Table.{Table}
use Rattle.xdg_types.proofs.Elements.{in_texts}
use Rattle.xdg_classes.specs.Bodies.{body, Called, calls}
use Rattle.xdg_classes.specs.Definitions.{ClassDef, classes, class_names, Scoped, bodies}
use Rattle.xdg_classes.specs.Graph.{class_uses, class_graph}
use Rattle.xdg_classes.specs.Names.{NameOffends, all_calls}
use Rattle.xdg_classes.specs.Ordered.{OrdersClasses}
use Rattle.xdg_classes.specs.declared.lookup.Classes.{Classes}
use Rattle.xdg_check.specs.declared.checked.Class.{Class}
use Rattle.xdg_check.specs.Answers.{IsClassOf, AreClassesOf}
use Rattle.xdg_check.specs.Counts.{bare}
use Rattle.xdg_check.specs.Checked.{IsOrder}
use Rattle.xdg_check.proofs.Binding.{class_of}
use Rattle.xdg_classes.proofs.Known.{named_in}
use Rattle.xdg_facts.proofs.Lists.{zip_length}
use Rattle.xdg_check.proofs.Sources.{completed_calls, completed_call, same_names, class_scoped, class_body}
use Rattle.xdg_facts.specs.Membership.{In}
use Rattle.xdg_facts.proofs.In.{flat_map_in, in_map as map_in, map_in as in_map, in_got}
use Rattle.xdg_ast.specs.Texts.{texts}
use Rattle.xdg_facts.proofs.Zips.{zip_place}

-- ---- classes by place

pub as_long : (cs sources : List ClassDef) (made : List Class) → AreClassesOf cs sources made → length made ≡ length sources
as_long cs sources made are = sym (zip_length (IsClassOf cs) sources made are)

-- counts change nothing else
pub bare_classes : (cs sources : List ClassDef) (old new : List Class) → map bare new ≡ map bare old → AreClassesOf cs sources old → AreClassesOf cs sources new
bare_classes cs [] [] [] same are = are
bare_classes cs [] [] (y ∷ new) same are = absurd (cc)
bare_classes cs (c ∷ sources) (x ∷ old) [] same are = absurd (cc)
bare_classes cs (c ∷ sources) (x ∷ old) (y ∷ new) same are =
    let one : bare y ≡ bare x = cc in
    let more : map bare new ≡ map bare old = cc in (
      record {
        name = ap (λ (z : Class). z.name) one ∙ are.0.name;
        params = ap (λ (z : Class). z.params) one ∙ are.0.params;
        body = ap (λ (z : Class). body z.body.kind) one ∙ are.0.body;
        span = ap (λ (z : Class). z.body.span) one ∙ are.0.span;
      },
      bare_classes cs sources old new more are.1,
    )
bare_classes cs _ _ new same are = absurd are

-- ---- the order

name_known : (cs : List ClassDef) (c : ClassDef) (name : List ℕ) → In cs c → c.name.text ≡ name → In (texts (class_names cs)) name
name_known cs c name h is = subst (In (texts (class_names cs))) is (in_texts (class_names cs) c.name (in_map (λ (x : ClassDef). x.name) cs c h))

module _ (statements : List Statement) (table : Table) (names : None_of (NameOffends statements table)) (ordering : Classes) (o : OrdersClasses statements ordering) (made : List Class)
    (are : AreClassesOf (classes statements) (classes statements) made) where
  pub is_order : IsOrder made ordering.order
  is_order =
      let cs = classes statements in
      let known = texts (class_names cs) in
      let long : length made ≡ length cs = as_long cs cs made are in
      record {
        count = o.count ∙ sym long;
        within = λ i inside. (let b = o.within i inside in omega (arith, b, long));
        placed = λ k inside. o.placed k (omega (arith, inside, long));
        after = λ i inside c at call stands.
            let a = slice_index_or ordering.order i 0 in
            let source = zip_place (IsClassOf cs) cs made are a c at in
            let old = map_in (completed_call cs) (calls (body source.0.body.kind)) call (subst (λ xs. In xs call) (ap calls source.1.1.body ∙ completed_calls cs (body source.0.body.kind)) stands) in
            let all : In (all_calls statements) old.0 = flat_map_in (λ (one : Scoped). calls one.body) (bodies statements) (class_scoped source.0) old.0 (class_body statements source.0 (in_got cs a source.0 source.1.0)) old.1.0 in
            let found = class_of statements table names old.0 all in
            let named = named_in cs old.0.name.text found.0 found.1 in
            let p = place_of-has_text known old.0.name.text (among_has known old.0.name.text (name_known cs found.0 old.0.name.text named.0 named.1)) in
            let used : Use = record { to = p.0; at = old.0.name.span.start } in
            let here : In (use_of known old.0.name) used = subst (λ x. In (use_at old.0.name x) used) (sym p.1) (inl refl) in
            let uses : In (class_uses known source.0) used = flat_map_in (λ (one : Called). use_of known one.name) (calls (body source.0.body.kind)) old.0 used old.1.0 here in
            let place : uses_of (class_graph statements) a ≡ class_uses known source.0 = get_or-map (class_uses known) cs a source.0 [] (slice_get_within cs a source.0 source.1.0) ∙ ap (class_uses known) (get_or_from_slice_get cs a source.0 source.0 source.1.0) in
            let e = o.earlier i inside used (subst (λ us. In us used) (sym place) uses) in
            let same : call.name.text ≡ old.0.name.text = ap (λ (x : Called). x.name.text) (sym old.1.1) in
            (e.0, (e.1.0, ap (λ ts. place_of ts call.name.text) (same_names cs cs made are) ∙ ap (place_of known) same ∙ p.1 ∙ ap Some (sym e.1.1)));
      }
