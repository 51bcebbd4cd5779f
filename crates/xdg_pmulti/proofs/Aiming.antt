-- What loops over nodes and labels take, and what the rules take by tables.
use Rattle.std.proofs.Common.{◌≡◌, ℕ, ◌<◌, ◌≤◌, ◌⊎◌, ◌↔◌, ◌&&◌, get_or, inl, inr, Bool, true, IsTrue, List, [], ◌∷◌, refl, sym, ◌∙◌, ap, subst, arith}
use Rattle.std.specs.Prelude.{not}
use Rattle.std.proofs.lemmas.Bool.{and_parts, and_from, not-true, not_from_false, both_ways, false_from_ne_true}
use Rattle.xdg_nodeset.specs.Tables.{InTable}
use Rattle.xdg_problem.proofs.Walks.{closed_above}
use Rattle.xdg_problem.specs.declared.analysis.Edge.{Edge}
use Rattle.xdg_problem.specs.declared.parts.Group.{Group}
use Rattle.xdg_problem.specs.declared.parts.Parts.{Parts}
use Rattle.xdg_problem.specs.Analyses.{IsPlace}
use Rattle.xdg_problem.specs.Arguments.{first_dim, second_dim}
use Rattle.xdg_problem.specs.Boxes.{Has, IsBox, edge_decision}
use Rattle.xdg_problem.specs.Paths.{Above, IsDaughterBy}
use Rattle.xdg_problem.specs.Places.{edge, nodes}
use Rattle.xdg_problem.specs.Vectors.{shape}
use Rattle.xdg_problem.proofs.Edges.{edge_equal}
use Rattle.xdg_facts.proofs.Contained.{any_of}
use Rattle.xdg_problem.proofs.PlaceOrder.{is_place}
use Rattle.xdg_rules.specs.Rules.{IsPlaceOn, ClimbingReach, BarriersReach, may_edges, must_edges}
use Rattle.xdg_rules.proofs.Shrinking.{may_exact, must_exact, barrier_within}
use Rattle.xdg_store.specs.States.{State, Known}
use Rattle.xdg_propcore.specs.Passes.{Progress, Clears}
use Rattle.xdg_propcore.proofs.Aimed.{ByOne, Passed, passed_member}
use Rattle.xdg_propcore.proofs.Passing.{clears_like, clears_more}
use Rattle.xdg_graph.specs.Edges.{edges_of, edge_labels}
use Rattle.xdg_graph.specs.declared.which.Which.TheVariants as whichs
use Rattle.xdg_graph.proofs.Edges.{stands_by}
use Rattle.xdg_graph.proofs.Labelled.{label_below}
use Rattle.xdg_pmulti.specs.Aims.{AreNodes, Beyond, Blocks, Forbids, From, IsStopped, Leaves, Out, StoppedBy, Stops}
use Rattle.xdg_pmulti.proofs.Forbidding.{forbids_all, forbids_like, forbids_same}
use Rattle.xdg_facts.specs.Rises.{has}

-- ---- the edges with a label out of a node

-- the edge to a daughter
abbrev pub To : ℕ → ℕ → ℕ → ℕ → Edge → Type 0
To dim u l v e = e ≡ edge dim u l v

-- the members of the set of daughters that a loop goes over
pub record IsBeyond (parts : Parts) (box : List (List Bool)) (dim u l : ℕ) (within first : List ℕ) : Type 0 where
  pub mask : List ℕ
  pub daughters : (x : ℕ) → IsTrue (has mask x) ↔ IsDaughterBy (may_edges parts box dim) u l x
  pub first_is : (x : ℕ) → has first x ≡ (has mask x && not (has within x))

module _ (parts : Parts) (box : List (List Bool)) (dim u l : ℕ) (within first : List ℕ) (box_is : IsBox (shape parts) box) (are : IsBeyond parts box dim u l within first) where
  pub beyond_place : (v : ℕ) → has first v ≡ true → IsPlace parts (edge dim u l v)
  beyond_place v h = ((stands_by whichs.May parts box dim u l v box_is).0 ((are.daughters v).0 ((and_parts (has are.mask v) (not (has within v)) (sym (are.first_is v) ∙ h)).0))).0

  beyond_outside : (v : ℕ) → has first v ≡ true → has within v ≡ true → ⊥
  beyond_outside v h inside = both_ways (has within v) (not-true (has within v) (and_parts (has are.mask v) (not (has within v)) (sym (are.first_is v) ∙ h)).1) inside

  beyond_first : (e : Edge) → IsPlaceOn parts dim e → Beyond u l within e → Has box (edge_decision parts e) 0 → has first e.daughter.0 ≡ true
  beyond_first e on b remains =
      let stands = (may_exact parts box dim e).1 (on, remains) in
      let there = (are.daughters e.daughter.0).1 (any_of (λ f. (f.mother.0 ≡ u) × (f.label.0 ≡ l) × (f.daughter.0 ≡ e.daughter.0)) (may_edges parts box dim) e stands (b.1.0, b.0, refl)) in
      are.first_is e.daughter.0 ∙ and_from (has are.mask e.daughter.0) (not (has within e.daughter.0)) there (not_from_false (has within e.daughter.0) (false_from_ne_true (has within e.daughter.0) b.1.1))

  edge_beyond : (e : Edge) (v : ℕ) → has first v ≡ true → e ≡ edge dim u l v → Beyond u l within e
  edge_beyond e v h same = subst (Beyond u l within) (sym same) (refl, (refl, beyond_outside v h))

-- the edges that the loop takes are those beyond the set
pub beyond_all : (dim u l : ℕ) (within first : List ℕ) (p q : Progress) (old new : State) → Known old → IsBeyond old.parts old.now dim u l within first
    → Clears (ByOne (λ x. has first x ≡ true) (λ x. Forbids old.parts dim (To dim u l x))) p old q new → Clears (Forbids old.parts dim (Beyond u l within)) p old q new
beyond_all dim u l within first p q old new known are = clears_more (ByOne (λ x. has first x ≡ true) (λ x. Forbids old.parts dim (To dim u l x))) (Forbids old.parts dim (Beyond u l within)) p q old new
    (λ d v t. forbids_like old.parts dim (To dim u l t.0) (Beyond u l within) (λ e on same. edge_beyond old.parts old.now dim u l within first known.is_box are e t.0 t.1 same) d v t.2)
    (λ d v f h. (
      f.place.daughter.0,
      beyond_first old.parts old.now dim u l within first known.is_box are f.place f.is f.goes (subst (λ k. Has old.now k 0) f.says.0 (subst (λ k. Has old.now d k) f.says.1 h)),
      record { place = f.place; is = f.is; goes = edge_equal f.place (edge dim u l f.place.daughter.0) f.is.1 f.goes.1.0 f.goes.0 refl; says = f.says },
    ))

-- the next edge is a place still
pub to_place : (dim u l : ℕ) (within set items first left rest : List ℕ) (v : ℕ) (p q : Progress) (old mid : State) → Known old → IsBeyond old.parts old.now dim u l within set → items ≡ set
    → first ≡ items → left ≡ v ∷ rest → Passed (λ parts x. Forbids parts dim (To dim u l x)) first left p old q mid → IsPlace mid.parts (edge dim u l v)
to_place dim u l within set items first left rest v p q old mid known are same at is a = subst (λ z. IsPlace z (edge dim u l v)) (sym a.clears.same)
    (beyond_place old.parts old.now dim u l within set known.is_box are v (passed_member (λ parts x. Forbids parts dim (To dim u l x)) set items first left rest v p q old mid same at is a))

-- ---- loops over mothers, labels and barriers

-- out of the members of a set
pub out_all : (parts : Parts) (dim l : ℕ) (mothers within : List ℕ) (p q : Progress) (old new : State)
    → Clears (ByOne (λ u. has mothers u ≡ true) (λ u. Forbids parts dim (Beyond u l within))) p old q new → Clears (Forbids parts dim (Out mothers l within)) p old q new
out_all parts dim l mothers within p q old new = forbids_all parts dim (λ u. has mothers u ≡ true) (λ u. Beyond u l within) (Out mothers l within) p q old new
    (λ u e on there g. (subst (λ x. has mothers x ≡ true) (sym g.1.0) there, g.0, g.1.1))
    (λ e on g. (e.mother.0, g.0, (g.1, (refl, g.2))))

-- with each label
pub from_all : (parts : Parts) (dim u k : ℕ) (within : List ℕ) (p q : Progress) (old new : State) → edge_labels parts dim ≤ k
    → Clears (ByOne (λ l. l < k) (λ l. Forbids parts dim (Beyond u l within))) p old q new → Clears (Forbids parts dim (From u within)) p old q new
from_all parts dim u k within p q old new all = forbids_all parts dim (λ l. l < k) (λ l. Beyond u l within) (From u within) p q old new
    (λ l e on less g. g.1)
    (λ e on g. (e.label.0, (let b = label_below parts e (is_place parts e on.0) in let same = ap (edge_labels parts) on.1 in omega (arith, b, same, all)), (refl, g)))

-- out of each node
pub leaves_all : (parts : Parts) (dim k : ℕ) (table : List (List ℕ)) (p q : Progress) (old new : State) → nodes parts ≤ k
    → Clears (ByOne (λ u. u < k) (λ u. Forbids parts dim (From u (get_or table u [])))) p old q new → Clears (Forbids parts dim (Leaves table)) p old q new
leaves_all parts dim k table p q old new all = forbids_all parts dim (λ u. u < k) (λ u. From u (get_or table u [])) (Leaves table) p q old new
    (λ u e on less g. subst (λ x. InTable table x e.daughter.0 → ⊥) (sym g.0) g.1)
    (λ e on g. (e.mother.0, (let m = (is_place parts e on.0).mother in omega (arith, m, all)), (refl, g)))

-- a node and those below it are nodes of the sentence
pub under_within : (parts mid : Parts) (over : List (List ℕ)) (barrier : ℕ) (mothers : List ℕ) → mid ≡ parts → AreNodes parts over → barrier < nodes mid → ((x : ℕ) → (has mothers x ≡ true) ↔ ((barrier ≡ x) ⊎ InTable over barrier x)) → (u : ℕ) → has mothers u ≡ true → u < nodes mid
under_within parts mid over barrier mothers same over_is within under u h = elim ((under u).0 h) [
  | inl here ↦ omega (arith, here, within)
  | inr there ↦ subst (λ z. u < nodes z) (sym same) (over_is barrier u there)
]

-- one barrier
abbrev pub ByBarrier : ℕ → List (List ℕ) → List (List ℕ) → ℕ → Edge → Type 0
ByBarrier l over near barrier e = (e.label.0 ≡ l) × Stops over near e barrier

pub barrier_out : (parts : Parts) (dim l barrier : ℕ) (over near : List (List ℕ)) (mothers within : List ℕ) (p q : Progress) (old new : State) → ((x : ℕ) → (has mothers x ≡ true) ↔ ((barrier ≡ x) ⊎ InTable over barrier x)) → within ≡ get_or near barrier [] → Clears (Forbids parts dim (Out mothers l within)) p old q new → Clears (Forbids parts dim (ByBarrier l over near barrier)) p old q new
barrier_out parts dim l barrier over near mothers within p q old new under within_is = forbids_same parts dim (Out mothers l within) (ByBarrier l over near barrier) p q old new
    (λ e on g. (g.1, ((under e.mother.0).0 g.0, λ i. g.2 (subst (λ s. has s e.daughter.0 ≡ true) (sym within_is) i))))
    (λ e on g. ((under e.mother.0).1 g.1.0, g.0, (λ i. g.1.1 (subst (λ s. has s e.daughter.0 ≡ true) within_is i))))

-- each of them
pub stopped_all : (parts : Parts) (dim l : ℕ) (barriers : List ℕ) (over near : List (List ℕ)) (p q : Progress) (old new : State)
    → Clears (ByOne (λ x. has barriers x ≡ true) (λ x. Forbids parts dim (ByBarrier l over near x))) p old q new → Clears (Forbids parts dim (StoppedBy barriers l over near)) p old q new
stopped_all parts dim l barriers over near p q old new = forbids_all parts dim (λ x. has barriers x ≡ true) (ByBarrier l over near) (StoppedBy barriers l over near) p q old new
    (λ x e on there g. (g.0, (x, there, g.1)))
    (λ e on g. (g.1.0, g.1.1, (g.0, g.1.2)))

-- at each label
pub blocked_all : (parts : Parts) (dim k : ℕ) (barred over near : List (List ℕ)) (p q : Progress) (old new : State) → edge_labels parts dim ≤ k
    → Clears (ByOne (λ l. l < k) (λ l. Forbids parts dim (StoppedBy (get_or barred l []) l over near))) p old q new → Clears (Forbids parts dim (IsStopped barred over near)) p old q new
blocked_all parts dim k barred over near p q old new all = forbids_all parts dim (λ l. l < k) (λ l. StoppedBy (get_or barred l []) l over near) (IsStopped barred over near) p q old new
    (λ l e on less g. (g.1.0, subst (λ x. InTable barred x g.1.0) (sym g.0) g.1.1, g.1.2))
    (λ e on g. (e.label.0, (let b = label_below parts e (is_place parts e on.0) in let same = ap (edge_labels parts) on.1 in omega (arith, b, same, all)), (refl, (g.0, g.1, g.2))))

-- ---- the rules

pub climbing_done : (group : Group) (one two : ℕ) (table : List (List ℕ)) (p q : Progress) (old new : State) → one ≡ first_dim group → two ≡ second_dim group → ((a b : ℕ) → InTable table a b ↔ Above (edges_of whichs.May old.parts old.now two) a b) → Clears (Forbids old.parts one (Leaves table)) p old q new → Clears (ClimbingReach old.parts group old.now) p old q new
climbing_done group one two table p q old new one_is two_is exact = clears_like (Forbids old.parts one (Leaves table)) (ClimbingReach old.parts group old.now) p q old new
    (λ d v f. record {
      place = f.place;
      is = (f.is.0, f.is.1 ∙ one_is);
      says = f.says;
      apart = λ above. f.goes ((exact f.place.mother.0 f.place.daughter.0).1 (subst (λ k. Above (may_edges old.parts old.now k) f.place.mother.0 f.place.daughter.0) (sym two_is) above));
    })
    (λ d v rule. record {
      place = rule.place;
      is = (rule.is.0, rule.is.1 ∙ sym one_is);
      goes = λ i. rule.apart (subst (λ k. Above (may_edges old.parts old.now k) rule.place.mother.0 rule.place.daughter.0) two_is ((exact rule.place.mother.0 rule.place.daughter.0).0 i));
      says = rule.says;
    })

-- nodes above others by edges that must be, and below them
pub below_within : (parts : Parts) (box : List (List Bool)) (dim : ℕ) (table : List (List ℕ)) → IsBox (shape parts) box → ((a b : ℕ) → InTable table a b ↔ Above (edges_of whichs.Must parts box dim) a b) → AreNodes parts table
below_within parts box dim table is exact a b i = closed_above (must_edges parts box dim) a b (λ x. x < nodes parts) (λ e stands from. (is_place parts e ((must_exact parts box dim e is).0 stands).0.0).daughter) ((exact a b).0 i)

-- the table has the nodes that block a label
abbrev pub AreBlocking : Parts → List (List Bool) → Group → ℕ → List (List ℕ) → Type 0
AreBlocking parts box group dim table = (label node : ℕ) → InTable table label node ↔ ((label < edge_labels parts dim) × (node < nodes parts) × Blocks group box node label)

pub barriers_done : (group : Group) (one two : ℕ) (barred over near : List (List ℕ)) (p q : Progress) (old new : State) → Known old → one ≡ first_dim group → two ≡ second_dim group → AreBlocking old.parts old.now group two barred → ((a b : ℕ) → InTable over a b ↔ Above (edges_of whichs.Must old.parts old.now two) a b) → ((a b : ℕ) → InTable near a b ↔ Above (edges_of whichs.May old.parts old.now one) a b) → Clears (Forbids old.parts two (IsStopped barred over near)) p old q new → Clears (BarriersReach old.parts group old.now) p old q new
barriers_done group one two barred over near p q old new known one_is two_is blocks above apart = clears_like (Forbids old.parts two (IsStopped barred over near)) (BarriersReach old.parts group old.now) p q old new
    (λ d v f. record {
      place = f.place;
      is = (f.is.0, f.is.1 ∙ two_is);
      says = f.says;
      barrier = f.goes.0;
      above = elim f.goes.2.0 [ inl here ↦ inl here | inr i ↦ inr (subst (λ k. Above (must_edges old.parts old.now k) f.goes.0 f.place.mother.0) two_is ((above f.goes.0 f.place.mother.0).0 i)) ];
      blocks = ((blocks f.place.label.0 f.goes.0).0 f.goes.1).2;
      apart = λ a. f.goes.2.1 ((apart f.goes.0 f.place.daughter.0).1 (subst (λ k. Above (may_edges old.parts old.now k) f.goes.0 f.place.daughter.0) (sym one_is) a));
    })
    (λ d v rule.
    let place = is_place old.parts rule.place rule.is.0 in
    record {
      place = rule.place;
      is = (rule.is.0, rule.is.1 ∙ sym two_is);
      goes = (
        rule.barrier,
        (blocks rule.place.label.0 rule.barrier).1 (
          (let b = label_below old.parts rule.place place in let same = ap (edge_labels old.parts) (rule.is.1 ∙ sym two_is) in omega (arith, b, same)),
          barrier_within old.parts old.now (second_dim group) rule.barrier rule.place.mother.0 place.mother rule.above,
          rule.blocks,
        ),
        (
          elim rule.above [ inl here ↦ inl here | inr a ↦ inr ((above rule.barrier rule.place.mother.0).1 (subst (λ k. Above (must_edges old.parts old.now k) rule.barrier rule.place.mother.0) (sym two_is) a)) ],
          λ i. rule.apart (subst (λ k. Above (may_edges old.parts old.now k) rule.barrier rule.place.daughter.0) one_is ((apart rule.barrier rule.place.daughter.0).0 i)),
        ),
      );
      says = rule.says;
    })
