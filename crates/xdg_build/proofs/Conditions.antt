-- The conditions of principles over tuples of numbers, and the same said of nodes and edges in other words.
use Rattle.std.proofs.Common.{◌≡◌, ℕ, ◌<◌, ◌↔◌, true, List, [], ◌∷◌, ◌++◌, length, get_or, map, refl, sym, ap, ◌∙◌, subst, arith}
use Rattle.std.specs.Prelude.{◌≤◌, All, Any, AllPairs, Contains, slice_index}
use Rattle.std.proofs.lemmas.List.Elements.{All-contains, Contains-push}
use Rattle.xdg_problem.specs.declared.analysis.Edge.{Edge}
use Rattle.xdg_problem.specs.declared.conditions.Condition.{Condition}
use Rattle.xdg_problem.specs.declared.conditions.Condition.TheVariants as conditions
use Rattle.xdg_problem.specs.declared.parts.Group.{Group}
use Rattle.xdg_problem.specs.declared.parts.Parts.{Parts}
use Rattle.xdg_problem.specs.declared.parts.Linking.TheVariants as linkings
use Rattle.xdg_problem.specs.declared.parts.Principle.{Principle}
use Rattle.xdg_problem.specs.Arguments.{first_dim, second_dim, label_count, order_of, truth_of, attr_of, attr_place}
use Rattle.xdg_problem.specs.Asking.{first, second, third, IsBetween, IsInItem, IsLinked, AsksLink, Asks}
use Rattle.xdg_problem.specs.Features.{in_row, out_row, set_row, map_row}
use Rattle.xdg_problem.specs.Paths.{edges_on, edges_into, edges_out_of, edges_joining, mothers, roots, IsDaughterBy, IsDaughterByAny, Above, AboveByFirst, AboveByLast}
use Rattle.xdg_problem.specs.Places.{nodes}
use Rattle.xdg_problem.specs.Relations.{IsKept}
use Rattle.xdg_facts.proofs.InOrder.{pairs_mapped}
use Rattle.xdg_problem.proofs.Tuples.{tuples_of, tuples}
use Rattle.xdg_build.specs.Principles.{StartsBy, EndsBy}

-- ---- what is said of edges

-- the nodes and the label of each of the edges are in range
pub record AreWithin (n labels : ℕ) (edges : List Edge) : Type 0 where
  pub mother : (e : Edge) → Contains edges e → e.mother.0 < n
  pub label : (e : Edge) → Contains edges e → e.label.0 < labels
  pub daughter : (e : Edge) → Contains edges e → e.daughter.0 < n

pub any_same : (P Q : Edge → Type 0) (edges : List Edge) → ((e : Edge) → Contains edges e → P e ↔ Q e) → Any P edges ↔ Any Q edges
any_same P Q edges same = (
  λ h. (h.0, h.1, h.2, h.3, (same h.1 (h.0, h.2, h.3)).0 h.4),
  λ h. (h.0, h.1, h.2, h.3, (same h.1 (h.0, h.2, h.3)).1 h.4),
)

along_edge : (C : ℕ → ℕ → ℕ → Type 0) (e : Edge) (u l v : ℕ) → e.mother.0 ≡ u → e.label.0 ≡ l → e.daughter.0 ≡ v → C e.mother.0 e.label.0 e.daughter.0 → C u l v
along_edge C e u l v p q r c = subst (λ x. C u l x) r (subst (λ x. C u x e.daughter.0) q (subst (λ x. C x e.label.0 e.daughter.0) p c))

-- what holds of each edge, and of each tuple that is one
pub each_edge : (n labels : ℕ) (edges : List Edge) (B : Edge → Type 0) (C : ℕ → ℕ → ℕ → Type 0) → AreWithin n labels edges → ((e : Edge) → Contains edges e → B e ↔ C e.mother.0 e.label.0 e.daughter.0)
    → ((e : Edge) → Contains edges e → B e) ↔ ((u : ℕ) → u < n → (l : ℕ) → l < labels → (v : ℕ) → v < n → IsDaughterBy edges u l v → C u l v)
each_edge n labels edges B C within same = (
  λ h u x l y v z d.
      let e : Edge = d.1 in
      let is : Contains edges e = (d.0, d.2, d.3) in
      along_edge C e u l v d.4.0 d.4.1 d.4.2 ((same e is).0 (h e is)),
  λ h e is. (same e is).1 (h e.mother.0 (within.mother e is) e.label.0 (within.label e is) e.daughter.0 (within.daughter e is) (is.0, e, is.1, is.2, (refl, refl, refl))),
)

-- ---- paths

pub starts_same : (edges : List Edge) (P : Edge → Type 0) (labels : List ℕ) (u v : ℕ) → ((f : Edge) → Contains edges f → P f ↔ Contains labels f.label.0) → StartsBy edges u P v ↔ AboveByFirst edges u labels v
starts_same edges P labels u v same = (
  λ h. record { first = h.first; rest = h.rest; label = (same h.first (h.along 0 h.first (omega arith))).0 h.holds; along = h.along; leads = h.leads },
  λ h. record { first = h.first; rest = h.rest; holds = (same h.first (h.along 0 h.first (omega arith))).1 h.label; along = h.along; leads = h.leads },
)

pub ends_same : (edges : List Edge) (P : Edge → Type 0) (labels : List ℕ) (u v : ℕ) → ((f : Edge) → Contains edges f → P f ↔ Contains labels f.label.0) → EndsBy edges u P v ↔ AboveByLast edges u labels v
ends_same edges P labels u v same = (
  λ h.
      let is : Contains edges h.last = All-contains (Contains edges) (h.front ++ h.last ∷ []) h.last h.along (Contains-push h.front h.last) in
      record { front = h.front; last = h.last; label = (same h.last is).0 h.holds; along = h.along; leads = h.leads },
  λ h.
      let is : Contains edges h.last = All-contains (Contains edges) (h.front ++ h.last ∷ []) h.last h.along (Contains-push h.front h.last) in
      record { front = h.front; last = h.last; holds = (same h.last is).1 h.label; along = h.along; leads = h.leads },
)

-- ---- orders

pub pairs_named : (name : ℕ → List ℕ) (ks : List ℕ) (labels : ℕ) (I : List ℕ → ℕ → Type 0) (J : ℕ → ℕ → Type 0) (x y : ℕ) → All (λ k. k < labels) ks → ((l : ℕ) → l < labels → (z : ℕ) → I (name l) z ↔ J l z)
    → AllPairs (λ l m. I l x → I m y → x < y) (map name ks) ↔ AllPairs (λ l m. J l x → J m y → x < y) ks
pairs_named name ks labels I J x y small same =
    let named = pairs_mapped (λ l m. I l x → I m y → x < y) name ks in (
      λ h i j d before within p q. named.0 h i j d before within ((same _ (small i d (omega (arith, before, within))) x).1 p) ((same _ (small j d within) y).1 q),
      λ h. named.1 (λ i j d before within p q. h i j d before within ((same _ (small i d (omega (arith, before, within))) x).0 p) ((same _ (small j d within) y).0 q)),
    )

-- ---- conditions

module _ (parts : Parts) (group : Group) (candidates attrs : List ℕ) (edges : List Edge) where
  abbrev n : ℕ
  n = nodes parts

  abbrev on_first : List Edge
  on_first = edges_on (first_dim group) edges

  abbrev on_second : List Edge
  on_second = edges_on (second_dim group) edges

  abbrev labels : ℕ
  labels = label_count parts (first_dim group)

  abbrev Asked : Condition → List ℕ → Type 0
  Asked condition = Asks condition parts group candidates attrs edges

  abbrev pub Kept : Condition → Type 0
  Kept condition = IsKept parts group candidates attrs edges condition

  -- the number of v's value for the attribute argument with that number
  abbrev pub value : ℕ → ℕ → ℕ
  value v argument = slice_index attrs (attr_place parts (first_dim group) v (attr_of group argument))

  abbrev pub candidate : ℕ → ℕ
  candidate v = slice_index candidates v

  pub agr_same : (Q : ℕ → Type 0) → ((v : ℕ) → v < n → Q v ↔ Contains (set_row group v (candidate v)) (value v 0)) → ((v : ℕ) → v < n → Q v) ↔ Kept conditions.Agr
  agr_same Q same = tuples (n ∷ []) (λ t. Q (first t)) (Asked conditions.Agr) same

  -- what is said of each condition, of the edges of both dimensions and of the number of labels
  abbrev Says : Type 1
  Says = List Edge → List Edge → ℕ → Type 0

  abbrev SaysIn : (ℕ → ℕ → ℕ → Type 0) → Says
  SaysIn Has E F b = ((v : ℕ) → v < n → (l : ℕ) → l < b → (k : ℕ) → Has v l k ↔ Contains (in_row group v (candidate v) l) k)
      → ((v : ℕ) → v < n → (l : ℕ) → l < b → Has v l (edges_into E v l)) ↔ Kept conditions.InCount

  abbrev SaysOut : (ℕ → ℕ → ℕ → Type 0) → Says
  SaysOut Has E F b = ((v : ℕ) → v < n → (l : ℕ) → l < b → (k : ℕ) → Has v l k ↔ Contains (out_row group v (candidate v) l) k)
      → ((v : ℕ) → v < n → (l : ℕ) → l < b → Has v l (edges_out_of E v l)) ↔ Kept conditions.OutCount

  abbrev InItem : List Edge → ℕ → ℕ → ℕ → Type 0
  InItem E w l x = IsInItem E (truth_of group.truths 0 ≡ true) (value w 0) w l x

  abbrev SaysOrder : (ℕ → ℕ → ℕ → Type 0) → Says
  SaysOrder Q E F b = ((w : ℕ) → w < n → (x : ℕ) → x < n → (y : ℕ) → y < n → Q w x y ↔ AllPairs (λ l k. InItem E w l x → InItem E w k y → x < y) (order_of group))
      → ((w : ℕ) → w < n → (x : ℕ) → x < n → (y : ℕ) → y < n → Q w x y) ↔ Kept conditions.Order

  -- of each edge
  abbrev SaysEdges : (Edge → Type 0) → (List Edge → ℕ → ℕ → ℕ → Type 0) → Condition → Says
  SaysEdges B C condition E F b = AreWithin n b E → ((e : Edge) → Contains E e → B e ↔ C F e.mother.0 e.label.0 e.daughter.0) → ((e : Edge) → Contains E e → B e) ↔ Kept condition

  abbrev AsksAgree : List Edge → ℕ → ℕ → ℕ → Type 0
  AsksAgree F u l v = Contains (set_row group u (candidate u)) l → value u 0 ≡ value v 1

  abbrev AsksGovern : List Edge → ℕ → ℕ → ℕ → Type 0
  AsksGovern F u l v = 0 < length (map_row group u (candidate u) l) → Contains (map_row group u (candidate u) l) (value v 0)

  abbrev SaysBetween : Says
  SaysBetween E F b = AreWithin n b E → ((e : Edge) → Contains E e → (w : ℕ) → w < n → IsBetween e.mother.0 e.daughter.0 w → Above E e.mother.0 w) ↔ Kept conditions.Between

  abbrev SaysBlocked : (ℕ → Edge → Type 0) → Says
  SaysBlocked P E F b = ((w : ℕ) → w < n → (f : Edge) → Contains F f → P w f ↔ Contains (set_row group w (candidate w)) f.label.0)
      → ((w : ℕ) → w < n → (v : ℕ) → v < n → EndsBy F w (P w) v → Above E w v) ↔ Kept conditions.Blocked

  -- with names for the edges and for the number of labels
  module _ (E1 E2 : List Edge) (L : ℕ) (one : on_first ≡ E1) (two : on_second ≡ E2) (many : labels ≡ L) where
    lend : (S : Says) → S on_first on_second labels → S E1 E2 L
    lend S said = subst (S E1 E2) many (subst (λ (F : List Edge). S E1 F labels) two (subst (λ (E : List Edge). S E on_second labels) one said))

    pub cycle_at : ((v : ℕ) → v < n → Above E1 v v → ⊥) ↔ Kept conditions.Cycle
    cycle_at = lend (λ E F b. ((v : ℕ) → v < n → Above E v v → ⊥) ↔ Kept conditions.Cycle)
        (tuples (n ∷ []) (λ t. Above on_first (first t) (first t) → ⊥) (Asked conditions.Cycle) (λ v l. (λ p. p, λ p. p)))

    pub roots_at : (length (roots n E1) ≡ 1) ↔ Kept conditions.Roots
    roots_at = lend (λ E F b. (length (roots n E) ≡ 1) ↔ Kept conditions.Roots) (λ one tuple is. ap (λ (t : List ℕ). get_or t 0 0) is ∙ one, λ kept. kept (length (roots n on_first) ∷ []) refl)

    pub mothers_at : ((v : ℕ) → v < n → mothers E1 v ≤ 1) ↔ Kept conditions.Mothers
    mothers_at = lend (λ E F b. ((v : ℕ) → v < n → mothers E v ≤ 1) ↔ Kept conditions.Mothers)
        (tuples (n ∷ []) (λ t. mothers on_first (first t) ≤ 1) (Asked conditions.Mothers) (λ v l. (λ p. p, λ p. p)))

    pub pair_at : ((x : ℕ) → x < n → (v : ℕ) → v < n → edges_joining E1 x v ≤ 1) ↔ Kept conditions.Pair
    pair_at = lend (λ E F b. ((x : ℕ) → x < n → (v : ℕ) → v < n → edges_joining E x v ≤ 1) ↔ Kept conditions.Pair)
        (tuples (n ∷ n ∷ []) (λ t. edges_joining on_first (first t) (second t) ≤ 1) (Asked conditions.Pair) (λ x l v m. (λ p. p, λ p. p)))

    pub in_at : (Has : ℕ → ℕ → ℕ → Type 0) → SaysIn Has E1 E2 L
    in_at Has = lend (SaysIn Has) (λ same. tuples (n ∷ labels ∷ []) (λ t. Has (first t) (second t) (edges_into on_first (first t) (second t))) (Asked conditions.InCount) (λ v x l y. same v x l y (edges_into on_first v l)))

    pub out_at : (Has : ℕ → ℕ → ℕ → Type 0) → SaysOut Has E1 E2 L
    out_at Has = lend (SaysOut Has) (λ same. tuples (n ∷ labels ∷ []) (λ t. Has (first t) (second t) (edges_out_of on_first (first t) (second t))) (Asked conditions.OutCount) (λ v x l y. same v x l y (edges_out_of on_first v l)))

    pub order_at : (Q : ℕ → ℕ → ℕ → Type 0) → SaysOrder Q E1 E2 L
    order_at Q = lend (SaysOrder Q) (tuples (n ∷ n ∷ n ∷ []) (λ t. Q (first t) (second t) (third t)) (Asked conditions.Order))

    pub between_at : SaysBetween E1 E2 L
    between_at = lend SaysBetween (λ within. (
      λ h. tuples_of (n ∷ n ∷ n ∷ []) (Asked conditions.Between) (λ u x v y w z d.
          let e : Edge = d.1 in
          subst (λ k. IsBetween u k w → Above on_first u w) d.4.1 (subst (λ k. IsBetween k e.daughter.0 w → Above on_first k w) d.4.0 (h e (d.0, d.2, d.3) w z))),
      λ kept e is w z. kept (e.mother.0 ∷ e.daughter.0 ∷ w ∷ []) (within.mother e is, (within.daughter e is, (z, tt))) (is.0, e, is.1, is.2, (refl, refl)),
    ))

    -- of each edge by its numbers
    edges_at : (B : Edge → Type 0) (C : List Edge → ℕ → ℕ → ℕ → Type 0) (condition : Condition)
        → ((u : ℕ) → u < n → (l : ℕ) → l < labels → (v : ℕ) → v < n → IsDaughterBy on_first u l v → C on_second u l v) ↔ Kept condition → SaysEdges B C condition E1 E2 L
    edges_at B C condition kept = lend (SaysEdges B C condition) (λ within same.
        let each = each_edge n labels on_first B (C on_second) within same in
        (λ h. kept.0 (each.0 h), λ k. each.1 (kept.1 k)))

    pub agree_at : (B : Edge → Type 0) → SaysEdges B AsksAgree conditions.Agree E1 E2 L
    agree_at B = edges_at B AsksAgree conditions.Agree
        (tuples (n ∷ labels ∷ n ∷ []) (λ t. IsDaughterBy on_first (first t) (second t) (third t) → AsksAgree on_second (first t) (second t) (third t)) (Asked conditions.Agree) (λ u x l y v z. (λ p. p, λ p. p)))

    pub govern_at : (B : Edge → Type 0) → SaysEdges B AsksGovern conditions.Govern E1 E2 L
    govern_at B = edges_at B AsksGovern conditions.Govern
        (tuples (n ∷ labels ∷ n ∷ []) (λ t. IsDaughterBy on_first (first t) (second t) (third t) → AsksGovern on_second (first t) (second t) (third t)) (Asked conditions.Govern) (λ u x l y v z. (λ p. p, λ p. p)))

    pub link_at : (q : Principle) (B : Edge → Type 0) → group.principle ≡ q → SaysEdges B (λ F u l v. AsksLink q group (candidate u) F u l v) conditions.Link E1 E2 L
    link_at q B is = edges_at B (λ F u l v. AsksLink q group (candidate u) F u l v) conditions.Link
        (tuples (n ∷ labels ∷ n ∷ []) (λ t. IsDaughterBy on_first (first t) (second t) (third t) → AsksLink q group (candidate (first t)) on_second (first t) (second t) (third t)) (Asked conditions.Link) (λ u x l y v z. (
          λ p d. subst (λ (r : Principle). AsksLink r group (candidate u) on_second u l v) (sym is) (p d),
          λ p d. subst (λ (r : Principle). AsksLink r group (candidate u) on_second u l v) is (p d),
        )))

    pub below_at : ((x : ℕ) → x < n → (v : ℕ) → v < n → Above E1 x v → Above E2 x v) ↔ Kept conditions.Below
    below_at = lend (λ E F b. ((x : ℕ) → x < n → (v : ℕ) → v < n → Above E x v → Above F x v) ↔ Kept conditions.Below)
        (tuples (n ∷ n ∷ []) (λ t. Above on_first (first t) (second t) → Above on_second (first t) (second t)) (Asked conditions.Below) (λ x l v m. (λ p. p, λ p. p)))

    pub blocked_at : (P : ℕ → Edge → Type 0) → SaysBlocked P E1 E2 L
    blocked_at P = lend (SaysBlocked P) (λ same.
        tuples (n ∷ n ∷ []) (λ t. EndsBy on_second (first t) (P (first t)) (second t) → Above on_first (first t) (second t)) (Asked conditions.Blocked) (λ w l v m.
        let ends = ends_same on_second (P w) (set_row group w (candidate w)) w v (same w l) in
        (λ p h. p (ends.1 h), λ p h. p (ends.0 h))))

-- ---- linking

-- what a map asks where its row isn't empty
pub where_some : (Some : Type 0) (row : List ℕ) (A B : Type 0) → (Some ↔ (0 < length row)) → A ↔ B → (Some → A) ↔ (0 < length row → B)
where_some Some row A B some same = (λ p l. same.0 (p (some.1 l)), λ p s. same.1 (p (some.0 s)))

module _ (edges : List Edge) (P : Edge → Type 0) (row : List ℕ) (same : (f : Edge) → Contains edges f → P f ↔ Contains row f.label.0) where
  pub by_daughter : (u v : ℕ) → Any (λ f. (f.mother.0 ≡ u) × (f.daughter.0 ≡ v) × P f) edges ↔ IsDaughterByAny edges u row v
  by_daughter u v = any_same (λ f. (f.mother.0 ≡ u) × (f.daughter.0 ≡ v) × P f) (λ f. (f.mother.0 ≡ u) × Contains row f.label.0 × (f.daughter.0 ≡ v)) edges (λ f is. (
    λ p. (p.0, (same f is).0 p.2, p.1),
    λ p. (p.0, p.2, (same f is).1 p.1),
  ))

  pub end_linked : (u v : ℕ) → Any (λ f. (f.daughter.0 ≡ v) × P f) edges ↔ IsLinked linkings.End edges u row v
  end_linked u v = any_same (λ f. (f.daughter.0 ≡ v) × P f) (λ f. Contains row f.label.0 × (f.daughter.0 ≡ v)) edges (λ f is. (
    λ p. ((same f is).0 p.1, p.0),
    λ p. (p.1, (same f is).1 p.0),
  ))

  pub sisters_linked : (u v : ℕ) → Any (λ h. (h.daughter.0 ≡ u) × Any (λ f. (f.mother.0 ≡ h.mother.0) × (f.daughter.0 ≡ v) × P f) edges) edges ↔ IsLinked linkings.Sisters edges u row v
  sisters_linked u v = any_same (λ h. (h.daughter.0 ≡ u) × Any (λ f. (f.mother.0 ≡ h.mother.0) × (f.daughter.0 ≡ v) × P f) edges) (λ h. (h.daughter.0 ≡ u) × IsDaughterByAny edges h.mother.0 row v) edges (λ h is. (
    λ p. (p.0, (by_daughter h.mother.0 v).0 p.1),
    λ p. (p.0, (by_daughter h.mother.0 v).1 p.1),
  ))
