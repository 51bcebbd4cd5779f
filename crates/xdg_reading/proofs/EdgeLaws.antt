-- The edges that lines say.
use Rattle.std.proofs.Common.{◌≡◌, ◌<◌, ◌==◌, ◌&&◌, ℕ, List, [], ◌∷◌, length, get_or, refl, sym, ap, ap₂, ◌∙◌, subst, true, false, cond, not, Bool, Some, None, Option, Ok, Err, nat_lt, bytes_eq}
use Rattle.std.specs.Prelude.{Result}
use Rattle.std.proofs.lemmas.List.Quantifiers.{position-Some}
use Rattle.std.proofs.lemmas.Slice.Eq.{bytes_eq-Decides}
use Rattle.std.proofs.lemmas.Bool.{ltb-true, lt-ltb, and_parts, and_from, false_from_ne_true, both_ways, not-true, not_from_false, ne_eqb, eqb-false}
use Rattle.std.proofs.lemmas.Option.{slice_get-get_or}
use Rattle.xdg_problem.specs.declared.analysis.Edge.{Edge}
use Rattle.xdg_problem.specs.declared.parts.DimPlan.{DimPlan}
use Rattle.xdg_problem.specs.declared.parts.Parts.{Parts}
use Rattle.xdg_problem.specs.Analyses.{IsPlace}
use Rattle.xdg_problem.specs.Places.{nodes, edge}
use Rattle.xdg_problem.specs.Problems.{IsProblem, IsDim}
use Rattle.xdg_problem.proofs.PlacePlans.{dim_within, plan_read}
use Rattle.xdg_reading.specs.declared.texts.EdgeLine.{EdgeLine}
use Rattle.xdg_problem.specs.Arguments.{no_plan}
use Rattle.xdg_reading.specs.Fitted.{lead, or_at, may_join, follows, said_edge, said_edges}
use Rattle.xdg_reading.specs.Fits.{SaysEdge, Follows, NextEdge, SayEdges, EdgeOffends, this_edge, later_edge}
use Rattle.xdg_reading.specs.Names.{dim_number, label_number}
use Rattle.xdg_reading.proofs.Turns.{precedes_is, precedes_from}
use Rattle.xdg_facts.proofs.Options.{none_some, cond_found, some_same}
use Rattle.xdg_facts.specs.Onward.{onward}
use Rattle.xdg_facts.proofs.Lists.{position_of}

record Known {X Y : Type 0} (o : Option X) (f : X → Option Y) (y : Y) : Type 0 where
  pub value : X
  pub is : o ≡ Some value
  pub goes : f value ≡ Some y

known : {X Y : Type 0} (o : Option X) (f : X → Option Y) (y : Y) → onward o f ≡ Some y → Known o f y
known None f y e = cc
known (Some x) f y e = record { value = x; is = refl; goes = e }

-- what a line says of an edge that may stand
pub record Says (parts : Parts) (line : EdgeLine) (e : Edge) : Type 0 where
  pub says : SaysEdge parts.dims line e
  pub stands : IsPlace parts e

abbrev plan_at : Parts → ℕ → DimPlan
plan_at parts dim = get_or parts.dims dim no_plan

made_edge : (parts : Parts) (line : EdgeLine) (dim label : ℕ) → dim_number parts.dims line.dim ≡ Some dim → label_number (plan_at parts dim).labels line.label ≡ Some label → may_join parts (plan_at parts dim) line ≡ true → Says parts line (edge dim line.mother.0 label line.daughter.0)
made_edge parts line dim label is_dim is_label joins =
    let d = position-Some (λ plan. bytes_eq plan.name line.dim) parts.dims dim no_plan is_dim in
    let l = position-Some (λ name. bytes_eq name line.label) (plan_at parts dim).labels label [] is_label in
    let three = and_parts ((plan_at parts dim).graph && nat_lt line.mother.0 (nodes parts) && nat_lt line.daughter.0 (nodes parts)) (not (line.mother.0 == line.daughter.0)) joins in
    let two = and_parts ((plan_at parts dim).graph && nat_lt line.mother.0 (nodes parts)) (nat_lt line.daughter.0 (nodes parts)) three.0 in
    let one = and_parts (plan_at parts dim).graph (nat_lt line.mother.0 (nodes parts)) two.0 in
    record {
      says = record { dim = (bytes_eq-Decides (plan_at parts dim).name line.dim).0 d.1; mother = refl; label = (bytes_eq-Decides (get_or (plan_at parts dim).labels label []) line.label).0 l.1; daughter = refl };
      stands = record {
        plan = plan_at parts dim;
        plan_is = slice_get-get_or parts.dims dim no_plan d.0;
        graph = one.0;
        label = l.0;
        mother = ltb-true line.mother.0 (nodes parts) one.1;
        daughter = ltb-true line.daughter.0 (nodes parts) two.1;
        differ = eqb-false line.mother.0 line.daughter.0 (not-true (line.mother.0 == line.daughter.0) three.1);
      };
    }

pub edge_said : (parts : Parts) (line : EdgeLine) (e : Edge) → said_edge parts line ≡ Some e → Says parts line e
unfolding said_edge
edge_said parts line e said =
    let d = known (dim_number parts.dims line.dim) (λ dim. onward (label_number (plan_at parts dim).labels line.label) (λ label. cond (may_join parts (plan_at parts dim) line) (Some (edge dim line.mother.0 label line.daughter.0)) None)) e said in
    let l = known (label_number (plan_at parts d.value).labels line.label) (λ label. cond (may_join parts (plan_at parts d.value) line) (Some (edge d.value line.mother.0 label line.daughter.0)) None) e d.goes in
    let joins = cond_found (may_join parts (plan_at parts d.value) line) (edge d.value line.mother.0 l.value line.daughter.0) e l.goes in
    subst (Says parts line) joins.1 (made_edge parts line d.value l.value d.is l.is joins.0)

by_plan : (parts : Parts) (e : Edge) → (place : IsPlace parts e) → plan_at parts e.dim.0 ≡ place.plan
by_plan parts e place = plan_read parts e place no_plan

pub edge_told : (parts : Parts) (line : EdgeLine) (e : Edge) → IsProblem parts → Says parts line e → said_edge parts line ≡ Some e
unfolding said_edge
edge_told parts line e problem known_edge =
    let says = known_edge.says in
    let place = known_edge.stands in
    let plan = plan_at parts e.dim.0 in
    let same = by_plan parts e place in
    let dim_in = dim_within parts e place in
    let within : e.label.0 < length plan.labels = subst (λ p. e.label.0 < length p.labels) (sym same) place.label in
    let is_dim : IsDim plan = problem.dims e.dim.0 no_plan dim_in in
    let dim_is : dim_number parts.dims line.dim ≡ Some e.dim.0 = position_of (λ p. bytes_eq p.name line.dim) parts.dims e.dim.0 no_plan dim_in ((bytes_eq-Decides plan.name line.dim).1 says.dim)
    (λ j before. false_from_ne_true (bytes_eq (plan_at parts j).name line.dim) (λ h. problem.dims_differ j e.dim.0 no_plan before dim_in ((bytes_eq-Decides (plan_at parts j).name line.dim).0 h ∙ sym says.dim))) in
    let label_is : label_number plan.labels line.label ≡ Some e.label.0 = position_of (λ name. bytes_eq name line.label) plan.labels e.label.0 [] within ((bytes_eq-Decides (get_or plan.labels e.label.0 []) line.label).1 says.label)
    (λ j before. false_from_ne_true (bytes_eq (get_or plan.labels j []) line.label) (λ h. is_dim.labels_differ j e.label.0 [] before within ((bytes_eq-Decides (get_or plan.labels j []) line.label).0 h ∙ sym says.label))) in
    let mother : line.mother.0 < nodes parts = subst (λ m. m.0 < nodes parts) says.mother place.mother in
    let daughter : line.daughter.0 < nodes parts = subst (λ m. m.0 < nodes parts) says.daughter place.daughter in
    let differ : line.mother.0 ≡ line.daughter.0 → ⊥ = λ h. place.differ (ap (λ m. m.0) says.mother ∙ h ∙ ap (λ m. m.0) (sym says.daughter)) in
    let joins : may_join parts plan line ≡ true = and_from (plan.graph && nat_lt line.mother.0 (nodes parts) && nat_lt line.daughter.0 (nodes parts)) (not (line.mother.0 == line.daughter.0))
    (and_from (plan.graph && nat_lt line.mother.0 (nodes parts)) (nat_lt line.daughter.0 (nodes parts)) (and_from plan.graph (nat_lt line.mother.0 (nodes parts)) (ap (λ p. p.graph) same ∙ place.graph) (lt-ltb line.mother.0 (nodes parts) mother)) (lt-ltb line.daughter.0 (nodes parts) daughter))
    (not_from_false (line.mother.0 == line.daughter.0) (ne_eqb line.mother.0 line.daughter.0 differ)) in
    ap (λ o. onward o (λ dim. onward (label_number (plan_at parts dim).labels line.label) (λ label. cond (may_join parts (plan_at parts dim) line) (Some (edge dim line.mother.0 label line.daughter.0)) None))) dim_is
    ∙ ap (λ o. onward o (λ label. cond (may_join parts plan line) (Some (edge e.dim.0 line.mother.0 label line.daughter.0)) None)) label_is
    ∙ ap (λ t. cond t (Some (edge e.dim.0 line.mother.0 e.label.0 line.daughter.0)) None) joins
    ∙ ap₂ (λ m d. Some (edge e.dim.0 m.0 e.label.0 d.0)) (sym says.mother) (sym says.daughter)

follows_is : (before : Option Edge) (e : Edge) → follows before e ≡ true → Follows before e
follows_is None e h = tt
follows_is (Some b) e h = precedes_is b e h

follows_from : (before : Option Edge) (e : Edge) → Follows before e → follows before e ≡ true
follows_from None e h = refl
follows_from (Some b) e h = precedes_from b e h

next_of : (parts : Parts) (before : Option Edge) (line : EdgeLine) (e : Edge) → said_edge parts line ≡ Some e → follows before e ≡ true → NextEdge parts before line e
next_of parts before line e said test = let says = edge_said parts line e said in record { says = says.says; stands = says.stands; follows = follows_is before e test }

next_said : (parts : Parts) (before : Option Edge) (line : EdgeLine) (e : Edge) → IsProblem parts → NextEdge parts before line e → said_edge parts line ≡ Some e
next_said parts before line e problem next = edge_told parts line e problem (record { says = next.says; stands = next.stands })

abbrev pub EdgesTold : Parts → Option Edge → List EdgeLine → Result (List Edge) ℕ → Type 0
EdgesTold parts before lines (Ok edges) = SayEdges parts before lines edges
EdgesTold parts before lines (Err at) = EdgeOffends parts before lines at

edges_next : (parts : Parts) (before : Option Edge) (line : EdgeLine) (lines : List EdgeLine) (e : Edge) (r : Result (List Edge) ℕ) → NextEdge parts before line e → EdgesTold parts (Some e) lines r → EdgesTold parts before (line ∷ lines) (lead e r)
edges_next parts before line lines e (Ok edges) next more = (next, more)
edges_next parts before line lines e (Err at) next more = later_edge before line lines e at next more

edges_test : (parts : Parts) (before : Option Edge) (line : EdgeLine) (lines : List EdgeLine) (e : Edge) (t : Bool) → IsProblem parts → said_edge parts line ≡ Some e → follows before e ≡ t → EdgesTold parts (Some e) lines (said_edges parts (Some e) lines) → EdgesTold parts before (line ∷ lines) (cond t (lead e (said_edges parts (Some e) lines)) (Err line.at))
edges_test parts before line lines e true problem said test more = edges_next parts before line lines e (said_edges parts (Some e) lines) (next_of parts before line e said test) more
edges_test parts before line lines e false problem said test more = this_edge before line lines (λ other next.
    let same = some_same other e (sym (next_said parts before line other problem next) ∙ said) in
    both_ways (follows before other) (ap (follows before) same ∙ test) (follows_from before other next.follows))

edges_option : (parts : Parts) (before : Option Edge) (line : EdgeLine) (lines : List EdgeLine) (o : Option Edge) → IsProblem parts → said_edge parts line ≡ o → ((e : Edge) → EdgesTold parts (Some e) lines (said_edges parts (Some e) lines)) → EdgesTold parts before (line ∷ lines) (or_at o line.at (λ e. cond (follows before e) (lead e (said_edges parts (Some e) lines)) (Err line.at)))
edges_option parts before line lines None problem said more = this_edge before line lines (λ e next. none_some e (sym said ∙ next_said parts before line e problem next))
edges_option parts before line lines (Some e) problem said more = edges_test parts before line lines e (follows before e) problem said refl (more e)

pub edges_told : (parts : Parts) (before : Option Edge) (lines : List EdgeLine) → IsProblem parts → EdgesTold parts before lines (said_edges parts before lines)
edges_told parts before [] problem = tt
edges_told parts before (line ∷ lines) problem = edges_option parts before line lines (said_edge parts line) problem refl (λ e. edges_told parts (Some e) lines problem)

said_one : (parts : Parts) (before : Option Edge) (line : EdgeLine) (lines : List EdgeLine) (e : Edge) → IsProblem parts → NextEdge parts before line e → said_edges parts before (line ∷ lines) ≡ lead e (said_edges parts (Some e) lines)
said_one parts before line lines e problem next =
    ap (λ o. or_at o line.at (λ e. cond (follows before e) (lead e (said_edges parts (Some e) lines)) (Err line.at))) (next_said parts before line e problem next)
    ∙ ap (λ t. cond t (lead e (said_edges parts (Some e) lines)) (Err line.at)) (follows_from before e next.follows)

pub edges_said : (parts : Parts) (before : Option Edge) (lines : List EdgeLine) (edges : List Edge) → IsProblem parts → SayEdges parts before lines edges → said_edges parts before lines ≡ Ok edges
edges_said parts before [] [] problem say = refl
edges_said parts before (line ∷ lines) (e ∷ edges) problem say = said_one parts before line lines e problem say.0 ∙ ap (lead e) (edges_said parts (Some e) lines edges problem say.1)
edges_said parts before lines edges problem say = absurd say

wrong_edge : (parts : Parts) (before : Option Edge) (line : EdgeLine) (lines : List EdgeLine) (o : Option Edge) → said_edge parts line ≡ o → ((e : Edge) → NextEdge parts before line e → ⊥) → or_at o line.at (λ e. cond (follows before e) (lead e (said_edges parts (Some e) lines)) (Err line.at)) ≡ Err line.at
wrong_edge parts before line lines None said lacks = refl
wrong_edge parts before line lines (Some e) said lacks = ap (λ t. cond t (lead e (said_edges parts (Some e) lines)) (Err line.at)) (false_from_ne_true (follows before e) (λ test. lacks e (next_of parts before line e said test)))

pub edge_refused : (parts : Parts) (before : Option Edge) (lines : List EdgeLine) (at : ℕ) → IsProblem parts → EdgeOffends parts before lines at → said_edges parts before lines ≡ Err at
edge_refused parts before lines at problem (this_edge b line rest lacks) = wrong_edge parts b line rest (said_edge parts line) refl lacks
edge_refused parts before lines at problem (later_edge b line rest e place next later) = said_one parts b line rest e problem next ∙ ap (lead e) (edge_refused parts (Some e) rest place problem later)
