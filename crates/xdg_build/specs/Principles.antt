-- What each principle asks of an analysis, in words of the grammar: the table of principles, line by line.
use Rattle.std.specs.Prelude.{◌≡◌, ℕ, ◌<◌, ◌≤◌, ◌⊎◌, true, Some, codes, List, [], ◌∷◌, ◌++◌, length, map, get_or, Contains, All, Any, AllPairs}
use Rattle.xdg_problem.specs.declared.analysis.Analysis.{Analysis}
use Rattle.xdg_problem.specs.declared.analysis.Edge.{Edge}
use Rattle.xdg_problem.specs.declared.parts.Principle.{Principle}
use Rattle.xdg_problem.specs.declared.parts.Principle.TheVariants as principles
use Rattle.xdg_problem.specs.declared.parts.SentenceWord.{SentenceWord}
use Rattle.xdg_problem.specs.Asking.{IsBetween}
use Rattle.xdg_problem.specs.Paths.{edges_into, edges_out_of, edges_joining, mothers, roots, IsDaughter, Above, Leads}
use Rattle.xdg_principles.specs.declared.building.Arg.TheVariants as arg
use Rattle.xdg_principles.specs.declared.building.PrincipleUse.{PrincipleUse}
use Rattle.xdg_build.specs.Grammars.{Grammar}
use Rattle.xdg_build.specs.Readings.{IsMember, IsMemberAt, IsAllowedAt, argument, feature_place, attribute_place, label_places, dimension, label_text, edges_in, OnFeature, value_of}

-- ---- paths

-- a path of one or more of the edges leads from u to v, and P holds of its first edge
pub record StartsBy (edges : List Edge) (u : ℕ) (P : Edge → Type 0) (v : ℕ) : Type 0 where
  pub first : Edge
  pub rest : List Edge
  pub holds : P first
  pub along : All (Contains edges) (first ∷ rest)
  pub leads : Leads u (first ∷ rest) v

-- a path of one or more of the edges leads from u to v, and P holds of its last edge
pub record EndsBy (edges : List Edge) (u : ℕ) (P : Edge → Type 0) (v : ℕ) : Type 0 where
  pub front : List Edge
  pub last : Edge
  pub holds : P last
  pub along : All (Contains edges) (front ++ last ∷ [])
  pub leads : Leads u (front ++ last ∷ []) v

module _ (g : Grammar) (words : List SentenceWord) (a : Analysis) (u : PrincipleUse) where
  -- ---- what the use names

  -- the dimensions D1, D2 and D3 of the use; where it has only one, D is D1
  abbrev pub D1 : ℕ
  D1 = get_or u.dims 0 0

  abbrev pub D2 : ℕ
  D2 = get_or u.dims 1 0

  abbrev pub D3 : ℕ
  D3 = get_or u.dims 2 0

  -- the truth value under a key is `true`
  abbrev pub Is : List ℕ → Type 0
  Is key = argument u key ≡ Some (arg.Truth true)

  -- the constants of v's value for the attribute under a key
  abbrev pub attribute : ℕ → List ℕ → ℕ → List (List ℕ)
  attribute k key v = value_of g (length words) a k v (attribute_place (argument u key))

  -- the value with these constants is in the set that v's entry has for the feature under a key
  abbrev pub InSet : ℕ → List ℕ → ℕ → List (List ℕ) → Type 0
  InSet k key v texts = OnFeature g a k v (feature_place (argument u key)) (λ s x. IsMember s x texts)

  -- it is in the set that this feature, a map, has at a label
  abbrev pub InMap : ℕ → List ℕ → ℕ → List ℕ → List (List ℕ) → Type 0
  InMap k key v l texts = OnFeature g a k v (feature_place (argument u key)) (λ s x. IsMemberAt s x l texts)

  -- the number is in the cardinality that this feature, a valency, has at a label
  abbrev pub Allows : ℕ → List ℕ → ℕ → List ℕ → ℕ → Type 0
  Allows k key v l number = OnFeature g a k v (feature_place (argument u key)) (λ s x. IsAllowedAt s x l number)

  -- the labels of the list `Order`
  abbrev pub order : List (List ℕ)
  order = map (label_text g D1) (label_places (argument u (codes "Order")))

  -- ---- nodes and edges

  -- the edges on a dimension
  abbrev pub edges : ℕ → List Edge
  edges k = edges_in g a k

  -- the label of an edge on a dimension
  abbrev pub label : ℕ → Edge → List ℕ
  label k e = label_text g k e.label.0

  -- what holds of each node, of the number of each label of D, and of each edge on a dimension
  abbrev pub Nodes : (ℕ → Type 0) → Type 0
  Nodes P = (v : ℕ) → v < length words → P v

  abbrev pub Labels : (ℕ → Type 0) → Type 0
  Labels P = (l : ℕ) → l < length (dimension g D1).labels → P l

  abbrev pub Edges : ℕ → (Edge → Type 0) → Type 0
  Edges k P = (e : Edge) → Contains (edges k) e → P e

  -- x -l-> v on D
  abbrev pub HasDaughter : ℕ → List ℕ → ℕ → Type 0
  HasDaughter x l v = Any (λ e. (e.mother.0 ≡ x) × (label D1 e ≡ l) × (e.daughter.0 ≡ v)) (edges D1)

  -- ---- conditions

  -- no v is above itself
  abbrev pub NoCycle : Type 0
  NoCycle = Nodes (λ v. Above (edges D1) v v → ⊥)

  -- exactly one node has no mother
  abbrev pub OneRoot : Type 0
  OneRoot = length (roots (length words) (edges D1)) ≡ 1

  -- at most one edge leads into v
  abbrev pub OneMother : Type 0
  OneMother = Nodes (λ v. mothers (edges D1) v ≤ 1)

  -- at most one label joins x to v
  abbrev pub OneLabel : Type 0
  OneLabel = Nodes (λ x. Nodes (λ v. edges_joining (edges D1) x v ≤ 1))

  -- for each v and l, the number of edges with label l into v is in v's `In` at l
  abbrev pub RightIn : Type 0
  RightIn = Nodes (λ v. Labels (λ l. Allows D1 (codes "In") v (label_text g D1 l) (edges_into (edges D1) v l)))

  -- for each v and l, the number of edges with label l out of v is in v's `Out` at l
  abbrev pub RightOut : Type 0
  RightOut = Nodes (λ v. Labels (λ l. Allows D1 (codes "Out") v (label_text g D1 l) (edges_out_of (edges D1) v l)))

  -- x stands in an item of w with label l: w itself under its `On`, each daughter under the label of its edge, and with `Yields` each
  -- node below that daughter
  abbrev pub InItem : ℕ → List ℕ → ℕ → Type 0
  InItem w l x =
      ((attribute D1 (codes "On") w ≡ l ∷ []) × (x ≡ w))
      ⊎ (HasDaughter w l x ⊎ (Is (codes "Yields") × ((v : ℕ) × HasDaughter w l v × Above (edges D1) v x)))

  -- where label l stands before label m in `Order`, each x in an item of w with l stands to the left of each y in one with m
  abbrev pub Ordered : Type 0
  Ordered = Nodes (λ w. Nodes (λ x. Nodes (λ y. AllPairs (λ l m. InItem w l x → InItem w m y → x < y) order)))

  -- where an edge leads from x to v and w stands strictly between them, x is above w
  abbrev pub Projective : Type 0
  Projective = Edges D1 (λ e. Nodes (λ w. IsBetween e.mother.0 e.daughter.0 w → Above (edges D1) e.mother.0 w))

  -- v's `Agr` is in v's `Agrs`
  abbrev pub Agrees : Type 0
  Agrees = Nodes (λ v. InSet D1 (codes "Agrs") v (attribute D1 (codes "Agr") v))

  -- where x -l-> v and l is in x's `Agree`, x's `Agr1` equals v's `Agr2`
  abbrev pub AgreesAlong : Type 0
  AgreesAlong =
      Edges D1 (λ e. InSet D1 (codes "Agree") e.mother.0 (label D1 e ∷ [])
      → attribute D1 (codes "Agr1") e.mother.0 ≡ attribute D1 (codes "Agr2") e.daughter.0)

  -- where x -l-> v and x's `Govern` at l isn't empty, v's `Agr` is in it
  abbrev pub Governs : Type 0
  Governs =
      Edges D1 (λ e. (some : List (List ℕ)) → InMap D1 (codes "Govern") e.mother.0 (label D1 e) some
      → InMap D1 (codes "Govern") e.mother.0 (label D1 e) (attribute D1 (codes "Agr") e.daughter.0))

  -- where x is above v on D1, x is above v on D2
  abbrev pub Climbs : Type 0
  Climbs = Nodes (λ x. Nodes (λ v. Above (edges D1) x v → Above (edges D2) x v))

  -- where a path on D2 leads from w to v whose last label is in w's `Blocks`, w is above v on D1
  abbrev pub Blocked : Type 0
  Blocked = Nodes (λ w. Nodes (λ v. EndsBy (edges D2) w (λ f. InSet D2 (codes "Blocks") w (label D2 f ∷ [])) v → Above (edges D1) w v))

  -- the label of the edge f on D2 is in x's `Link` at l, where e is x -l-> v on D1
  abbrev pub IsLink : Edge → Edge → Type 0
  IsLink e f = InMap D3 (codes "Link") e.mother.0 (label D1 e) (label D2 f ∷ [])

  -- for each x -l-> v on D1 where x's `Link` at l isn't empty
  abbrev pub Linked : (Edge → Type 0) → Type 0
  Linked P = Edges D1 (λ e. (some : List (List ℕ)) → InMap D3 (codes "Link") e.mother.0 (label D1 e) some → P e)

  -- an edge f with such a label leads from x to v on D2
  abbrev pub HasLink : Edge → ℕ → ℕ → Type 0
  HasLink e x v = Any (λ f. (f.mother.0 ≡ x) × (f.daughter.0 ≡ v) × IsLink e f) (edges D2)

  -- ---- the table

  abbrev pub Asks : Principle → Type 0
  Asks principles.Graph = Unit {0}
  Asks principles.Entries = Unit {0}
  Asks principles.Tree = NoCycle × OneRoot × OneMother
  Asks principles.Dag = NoCycle × (Is (codes "Connected") → OneRoot) × (Is (codes "DisjointDaughters") → OneLabel)
  Asks principles.Valency = RightIn × RightOut
  Asks principles.Order = Ordered
  Asks principles.Projectivity = Projective
  Asks principles.Agr = Agrees
  Asks principles.Agreement = AgreesAlong
  Asks principles.Government = Governs
  Asks principles.Climbing = Climbs
  Asks principles.Barriers = Blocked
  -- v has an incoming edge on D2 with such a label
  Asks principles.LinkingEnd = Linked (λ e. Any (λ f. (f.daughter.0 ≡ e.daughter.0) × IsLink e f) (edges D2))
  -- x -m-> v on D2
  Asks principles.LinkingDaughter = Linked (λ e. HasLink e e.mother.0 e.daughter.0)
  -- v -m-> x on D2
  Asks principles.LinkingMother = Linked (λ e. HasLink e e.daughter.0 e.mother.0)
  -- a path on D2 from x to v whose first label is one
  Asks principles.LinkingBelowStart = Linked (λ e. StartsBy (edges D2) e.mother.0 (IsLink e) e.daughter.0)
  -- a path on D2 from v to x whose first label is one
  Asks principles.LinkingAboveStart = Linked (λ e. StartsBy (edges D2) e.daughter.0 (IsLink e) e.mother.0)
  -- some node has x as a daughter on D2 and v as a daughter on D2 with such a label
  Asks principles.LinkingSisters = Linked (λ e. Any (λ h. (h.daughter.0 ≡ e.mother.0) × HasLink e h.mother.0 e.daughter.0) (edges D2))
  -- for each x -l-> v on D1 where l is in x's `Link`: no edge on D2 leads from x to v
  Asks principles.LinkingNotDaughter =
      Edges D1 (λ e. InSet D3 (codes "Link") e.mother.0 (label D1 e ∷ []) → IsDaughter (edges D2) e.mother.0 e.daughter.0 → ⊥)
  -- grammar texts use no others
  Asks (principles.Rule formula) = ⊥
  Asks (principles.Bound costs bound) = ⊥

-- the analysis satisfies the use: what its principle asks is so
abbrev pub Satisfies : Grammar → List SentenceWord → Analysis → PrincipleUse → Type 0
Satisfies g words a u = Asks g words a u u.principle
