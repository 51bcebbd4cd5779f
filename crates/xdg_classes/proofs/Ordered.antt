-- The graph of the classes, and the order in which each class comes after those that it uses.
use Rattle.std.proofs.Common.{◌≡◌, inl, ℕ, ◌<◌, List, [], length, map, get_or, refl, sym, ap, ◌∙◌, subst, arith, Option}
use Rattle.std.proofs.lemmas.List.{get_or-map, length-map}
use Rattle.xdg_base.specs.declared.faults.Fault.{Fault}
use Rattle.xdg_names.specs.declared.graph.Use.{Use}
use Rattle.xdg_names.specs.Leads.{uses_of, IsGraph, AreComponents}
use Rattle.xdg_names.specs.Closing.{IsClosing}
use Rattle.xdg_names.proofs.Laws.{follows}
use Rattle.xdg_names.proofs.Numbered.{from_within}
use Rattle.xdg_names.specs.First.{Tells}
use Rattle.xdg_names.specs.Texts.{place_of}
use Rattle.xdg_names.proofs.Texts.{place_of-Some}
use Rattle.xdg_types.specs.Answers.{None_of}
use Rattle.xdg_types.specs.Graph.{use_of}
use Rattle.xdg_types.specs.NameFaults.{with_all}
use Rattle.xdg_types.specs.Parts.{Statement}
use Rattle.xdg_ast.specs.Misnamed.{IsTwice}
use Rattle.xdg_types.proofs.Distinct.{all_differ}
use Rattle.xdg_types.proofs.NamesAgain.{once_differ}
use Rattle.xdg_classes.specs.declared.definitions.ClassDef.{ClassDef as LentClass}
use Rattle.xdg_classes.specs.Bodies.{Called, body, calls}
use Rattle.xdg_classes.specs.Definitions.{ClassDef, classes, class_names}
use Rattle.xdg_classes.specs.Names as sites
use Rattle.xdg_classes.specs.Graph.{class_uses, class_graph}
use Rattle.xdg_classes.specs.Ordered.{OrdersClasses}
use Rattle.xdg_classes.specs.Lent.{class_def}
use Rattle.xdg_facts.specs.Membership.{In}
use Rattle.xdg_facts.proofs.Lists.{some_at}
use Rattle.xdg_facts.proofs.In.{in_flat_map}
use Rattle.xdg_types.proofs.InUse.{in_use}
use Rattle.xdg_ast.specs.Texts.{texts}

module _ (statements : List Statement) where
  abbrev cs : List ClassDef
  cs = classes statements

  abbrev known : List (List ℕ)
  known = texts (class_names cs)

  abbrev g : List (List Use)
  g = class_graph statements

  texts_long : (ds : List ClassDef) → length (texts (class_names ds)) ≡ length ds
  texts_long ds = length-map (class_names ds) (λ name. name.text) ∙ length-map ds (λ c. c.name)

  graph_long : length g ≡ length cs
  graph_long = length-map cs (class_uses known)

  uses_at : (a : ℕ) → a < length cs → (c : ClassDef) → uses_of g a ≡ class_uses known (get_or cs a c)
  uses_at a h c = get_or-map (class_uses known) cs a c [] h

  -- what is used is a class
  is_graph : IsGraph g
  is_graph a u h =
      let inside : a < length g = from_within g a u h in
      let some = (some_at cs a (omega (arith, inside, graph_long))).0 in
      let k = in_flat_map (λ (call : Called). use_of known call.name) (calls (body (get_or cs a some).body.kind)) u (subst (λ us. In us u) (uses_at a (omega (arith, inside, graph_long)) some) h) in
      let at = (place_of-Some known k.0.name.text u.to (in_use k.0.name (place_of known k.0.name.text) u k.1.1)).0 in
      let long : length known ≡ length cs = texts_long cs in
      omega (arith, at, long, graph_long)

  module _ (once : None_of (IsTwice (sites.once statements))) (lent : List LentClass) (are : map class_def lent ≡ cs) (seen names : List (List ℕ)) (empty : seen ≡ []) (all : names ≡ with_all seen (class_names (map class_def lent)))
      (graph : List (List Use)) (made : graph ≡ map (class_uses names) (map class_def lent)) where
    pub names_are : names ≡ known
    names_are = all ∙ ap (λ s. with_all s (class_names (map class_def lent))) empty ∙ ap (λ ds. with_all [] (class_names ds)) are ∙ all_differ (class_names cs) (once_differ (sites.once statements) once (class_names cs) (inl refl))

    pub graph_is : graph ≡ g
    graph_is = made ∙ ap (map (class_uses names)) are ∙ ap (λ ns. map (class_uses ns) cs) names_are

    pub graph_right : IsGraph graph
    graph_right = subst IsGraph (sym graph_is) is_graph

    pub closes : (found : Option Fault) → Tells (IsClosing graph) found → Tells (IsClosing g) found
    closes found = subst (λ gs. Tells (IsClosing gs) found) graph_is

    pub orders : (numbers order : List ℕ) → AreComponents graph numbers order → None_of (IsClosing graph) → OrdersClasses statements (record { names = names; definitions = lent; order = order })
    orders numbers order components none =
        let parts : AreComponents g numbers order = subst (λ gs. AreComponents gs numbers order) graph_is components in
        let acyclic : None_of (IsClosing g) = subst (λ gs. None_of (IsClosing gs)) graph_is none in
        record {
          acyclic = acyclic;
          definitions = are;
          names = names_are;
          placed = λ a h. parts.placed a (omega (arith, h, graph_long));
          count = parts.count ∙ graph_long;
          within = λ i h. (let w = parts.within i h in omega (arith, w, graph_long));
          earlier = follows g numbers order parts acyclic;
        }
