-- What the atoms of a rule say, and the atoms of a formula that are made of them.
use Rattle.xdg_build.proofs.Planned.{attribute_right}
use Rattle.std.proofs.Common.{◌≡◌, ◌↔◌, ℕ, ◌<◌, List, [], length, get_or, sym, ap, ◌∙◌, subst, arith}
use Rattle.std.specs.Prelude.{Any, Contains, Some, option_map, slice_get, slice_index}
use Rattle.std.proofs.lemmas.Option.{slice_get-map}
use Rattle.xdg_ast.specs.declared.names.Name.{Name}
use Rattle.xdg_ast.specs.Grammar.{Term}
use Rattle.xdg_domain.specs.Shapes.{count, shape}
use Rattle.xdg_domain.specs.declared.types.Ty.{Ty}
use Rattle.xdg_packed.specs.Lexicon.{Lexicon}
use Rattle.xdg_problem.specs.declared.analysis.Analysis.{Analysis}
use Rattle.xdg_problem.specs.declared.analysis.Edge.{Edge}
use Rattle.xdg_problem.specs.declared.parts.Parts.{Parts}
use Rattle.xdg_problem.specs.Analyses.{IsAnalysis}
use Rattle.xdg_problem.specs.Arguments.{attr_place}
use Rattle.xdg_problem.specs.Claims.{Claim, IsBound, IsOf, joined, above, left, same, valued}
use Rattle.xdg_problem.specs.Paths.{edges_on, Above}
use Rattle.xdg_problem.specs.Places.{nodes}
use Rattle.xdg_problem.specs.Truths.{IsTrueIn}
use Rattle.xdg_terms.specs.Means.{IsAt}
use Rattle.xdg_types.specs.declared.table.DimType.{DimType}
use Rattle.xdg_types.specs.Table.{Table, IsTable, KeepsDim, typed, firsts}
use Rattle.xdg_build.specs.Grammars.{Grammar}
use Rattle.xdg_build.specs.Readings.{dimension, edges_in, label_text, value_of, value_number, value_texts}
use Rattle.xdg_build.proofs.Conditions.{any_same}
use Rattle.xdg_build.proofs.FeatureRows.{same_number}
use Rattle.xdg_formula.specs.Written as w
use Rattle.xdg_build.specs.Problems.{IsFor}
use Rattle.xdg_build.specs.Says.{Says}
use Rattle.xdg_build.specs.Truths.{Binding, IsCalled, IsTrue, constants_of}
use Rattle.xdg_build.proofs.Standing.{IsDimAt}
use Rattle.xdg_build.proofs.Used.{among_all, is_called, one_called, dims_long, labels_are, edges_same, edges_within, dim_kept}
use Rattle.xdg_build.proofs.Valued.{number_same, number_below, attr_inside, type_is, value_count_is}
use Rattle.xdg_facts.proofs.Facts.{both_steps, alike}
use Rattle.xdg_facts.proofs.In.{differ_once, one_place}
use Rattle.xdg_facts.specs.Membership.{Differ}

-- ---- what the table keeps

pub typed_at : (all : List (List ℕ × Ty)) (i : ℕ) (name : List ℕ) (type : Ty) → slice_get all i ≡ Some (name, type) → slice_get (typed all) i ≡ Some (name, shape type)
typed_at all i name type h = slice_get-map (λ (one : List ℕ × Ty). (one.0, shape one.1)) all i ∙ ap (option_map (λ (one : List ℕ × Ty). (one.0, shape one.1))) h

pub first_at : (all : List (List ℕ × Ty)) (i : ℕ) (name : List ℕ) (type : Ty) → slice_get all i ≡ Some (name, type) → slice_get (firsts all) i ≡ Some name
first_at all i name type h = slice_get-map (λ (one : List ℕ × Ty). one.0) all i ∙ ap (option_map (λ (one : List ℕ × Ty). one.0)) h

-- ---- atoms by what they say of two nodes

module _ (table : Table) (lexicon : Lexicon) (parts : Parts) (scope : List (List ℕ)) where
  -- a relation of the nodes that two names stand for is what the claim says, and what the atom says
  pub pair_says : (t : w.Tree) (c : Claim) (R : Analysis → ℕ → ℕ → Type 0) (one other : Name) (m n : ℕ) → IsAt scope m one.text → IsAt scope n other.text → IsOf parts c
      → ((numbers : List ℕ) → Contains numbers m → Contains numbers n → IsBound numbers c)
      → ((a : Analysis) (numbered : ℕ → ℕ) → IsTrueIn parts a c numbered ↔ R a (numbered m) (numbered n))
      → ((a : Analysis) → IsAnalysis parts a → (b : Binding) → b one.text < nodes parts → R a (b one.text) (b other.text) ↔ IsTrue table lexicon (nodes parts) a t b)
      → Says table lexicon parts scope t c
  pair_says t c R one other m n first second is_of bound claims says = record {
    is_of = is_of;
    bound = λ numbers each. bound numbers (each m first.0) (each n second.0);
    same = λ a fits b numbered agree.
        let e : numbered m ≡ b one.text = (agree m first.0).0 ∙ ap b first.1 in
        let f : numbered n ≡ b other.text = (agree n second.0).0 ∙ ap b second.1 in
        let here = says a fits b (subst (λ v. v < nodes parts) e (agree m first.0).1) in
        both_steps (claims a numbered)
        (subst (λ u. R a u (numbered n) ↔ IsTrue table lexicon (nodes parts) a t b) (sym e) (subst (λ v. R a (b one.text) v ↔ IsTrue table lexicon (nodes parts) a t b) (sym f) here));
  }

  pub says_left : (one other : Name) (m n : ℕ) → IsAt scope m one.text → IsAt scope n other.text → Says table lexicon parts scope (w.left one other) (left m n)
  says_left one other m n first second = pair_says (w.left one other) (left m n) (λ a u v. u < v) one other m n first second tt (λ numbers one two. (one, two)) (λ a numbered. alike) (λ a fits b below. alike)

  pub says_same : (one other : Name) (m n : ℕ) → IsAt scope m one.text → IsAt scope n other.text → Says table lexicon parts scope (w.same one other) (same m n)
  says_same one other m n first second = pair_says (w.same one other) (same m n) (λ a u v. u ≡ v) one other m n first second tt (λ numbers one two. (one, two)) (λ a numbered. alike) (λ a fits b below. alike)

module _ (table : Table) (lexicon : Lexicon) (parts : Parts) (is : IsTable table) (for_it : IsFor table lexicon parts) (scope : List (List ℕ)) where
  abbrev g : Grammar
  g = record { table = table; uses = []; lexicon = lexicon }

  module _ (dim : Name) (d : ℕ) (at : IsDimAt table dim.text d) where
    abbrev k : ℕ
    k = among_all table lexicon is d

    known : d < length parts.dims
    known = (let l = at.within in omega (arith, l, dims_long table lexicon parts is for_it))

    kept : KeepsDim (dimension g k)
    kept = dim_kept table lexicon is d at.within

    -- what holds of the dimension with the name, and of the attribute or the feature with a name
    dim_only : (a : Analysis) (P : ℕ → Type 0) → P k ↔ ((j : ℕ) × IsCalled table lexicon (nodes parts) a dim.text j × P j)
    dim_only a P = (
      λ p. (k, is_called table lexicon is (nodes parts) a dim.text d at, p),
      λ h. subst P (one_called table lexicon is (nodes parts) a dim.text d at h.0 h.1) h.2,
    )

    pub member_only : (a : Analysis) (all : DimType → List (List ℕ × Ty)) (i : ℕ) (name : List ℕ) (type : Ty) (P : ℕ → ℕ → Type 0) → Differ (firsts (all (dimension g k))) → slice_get (all (dimension g k)) i ≡ Some (name, type)
        → P k i ↔ ((j : ℕ) × (place : ℕ) × IsCalled table lexicon (nodes parts) a dim.text j × (slice_get (firsts (all (dimension g j))) place ≡ Some name) × P j place)
    member_only a all i name type P differ stands =
        let here = first_at (all (dimension g k)) i name type stands in (
          λ p. (k, i, is_called table lexicon is (nodes parts) a dim.text d at, here, p),
          λ h.
              let one : h.0 ≡ k = one_called table lexicon is (nodes parts) a dim.text d at h.0 h.2 in
              let there : slice_get (firsts (all (dimension g k))) h.1 ≡ Some name = subst (λ j. slice_get (firsts (all (dimension g j))) h.1 ≡ Some name) one h.3 in
              subst (P k) (differ_once (firsts (all (dimension g k))) h.1 i name differ there here) (subst (λ j. P j h.1) one h.4),
        )

    -- ---- paths

    pub says_above : (upper lower : Name) (m n : ℕ) → IsAt scope m upper.text → IsAt scope n lower.text → Says table lexicon parts scope (w.above dim upper lower) (above d m n)
    says_above upper lower m n first second =
        pair_says table lexicon parts scope (w.above dim upper lower) (above d m n) (λ a u v. Above (edges_on d a.edges) u v) upper lower m n first second known (λ numbers one two. (one, two)) (λ a numbered. alike) (λ a fits b below.
        let P : ℕ → Type 0 = λ j. Above (edges_in g a j) (b upper.text) (b lower.text) in
        subst (λ es. Above es (b upper.text) (b lower.text) ↔ IsTrue table lexicon (nodes parts) a (w.above dim upper lower) b) (sym (edges_same table lexicon parts is for_it a fits d at.within)) (dim_only a P))

    -- ---- edges

    -- an edge has the label's name exactly where it has its number
    label_says : (a : Analysis) → IsAnalysis parts a → (label : List ℕ) (l : ℕ) → IsAt (dimension g k).labels l label → (e : Edge) → Contains (edges_on d a.edges) e → (e.label.0 ≡ l) ↔ (label_text g k e.label.0 ≡ label)
    label_says a fits label l stands e there = (
      λ same_number. ap (λ i. get_or (dimension g k).labels i []) same_number ∙ stands.1,
      λ same_text. one_place (dimension g k).labels e.label.0 l kept.labels ((edges_within table lexicon parts is for_it a fits d at.within).label e there) stands.0 (same_text ∙ sym stands.1),
    )

    pub says_edge : (mother label daughter : Name) (m l n : ℕ) → IsAt scope m mother.text → IsAt (dimension g k).labels l label.text → IsAt scope n daughter.text
        → Says table lexicon parts scope (w.edge dim mother label daughter) (joined d m l n)
    says_edge mother label daughter m l n first stands second =
        pair_says table lexicon parts scope (w.edge dim mother label daughter) (joined d m l n) (λ a u v. Any (λ e. (e.mother.0 ≡ u) × (e.label.0 ≡ l) × (e.daughter.0 ≡ v)) (edges_on d a.edges)) mother daughter m n first second
        (known, (let within = stands.0 in omega (arith, within, labels_are table lexicon parts is for_it d at.within))) (λ numbers one two. (one, two)) (λ a numbered. alike) (λ a fits b below.
        let Q : ℕ → Edge → Type 0 = λ j e. (e.mother.0 ≡ b mother.text) × (label_text g j e.label.0 ≡ label.text) × (e.daughter.0 ≡ b daughter.text) in
        both_steps (any_same (λ e. (e.mother.0 ≡ b mother.text) × (e.label.0 ≡ l) × (e.daughter.0 ≡ b daughter.text)) (Q k) (edges_on d a.edges) (λ e there.
        let says = label_says a fits label.text l stands e there in (λ h. (h.0, says.0 h.1, h.2), λ h. (h.0, says.1 h.1, h.2))))
        (subst (λ es. Any (Q k) es ↔ IsTrue table lexicon (nodes parts) a (w.edge dim mother label daughter) b) (sym (edges_same table lexicon parts is for_it a fits d at.within)) (dim_only a (λ j. Any (Q j) (edges_in g a j)))))

    -- ---- attributes

    pub says_attr : (node attribute : Name) (value : Term) (m i n : ℕ) (type : Ty) → IsAt scope m node.text → slice_get (dimension g k).attrs i ≡ Some (attribute.text, type)
        → n < count (shape type) → value_texts (shape type) n ≡ constants_of value → Says table lexicon parts scope (w.attr node dim attribute value) (valued m d i n)
    says_attr node attribute value m i n type first stands within texts =
        let typed_so = typed_at (dimension g k).attrs i attribute.text type stands in
        let sizes = value_count_is table lexicon parts is for_it d at.within i attribute.text (shape type) typed_so in
        let types = type_is table lexicon parts is for_it d at.within i attribute.text (shape type) typed_so in
        pair_says table lexicon parts scope (w.attr node dim attribute value) (valued m d i n) (λ a v again. slice_index a.attrs (attr_place parts d v i) ≡ n) node node m m first first
        (known, attr_inside table lexicon parts is for_it d at.within i attribute.text (shape type) typed_so, (let l = within in omega (arith, l, sizes))) (λ numbers one two. one) (λ a numbered. alike) (λ a fits b below.
        let number : ℕ = value_number g (nodes parts) a k (b node.text) i in
        let read : slice_index a.attrs (attr_place parts d (b node.text) i) ≡ number = sym (number_same table lexicon parts is for_it d at.within a (b node.text) i) in
        let small : number < count (shape type) = number_below table lexicon parts is for_it d at.within i attribute.text (shape type) typed_so a fits (b node.text) below in
        both_steps {B = value_of g (nodes parts) a k (b node.text) (Some i) ≡ constants_of value} (
          λ h. ap (λ s. value_texts s number) types ∙ ap (value_texts (shape type)) (sym read ∙ h) ∙ texts,
          λ h. read ∙ same_number (shape type) number n (attribute_right (typed (dimension g k).attrs) i attribute.text (shape type) kept.attributes typed_so).0 small within (ap (λ s. value_texts s number) (sym types) ∙ h ∙ sym texts),
        ) (member_only a (λ one. one.attrs) i attribute.text type (λ j place. value_of g (nodes parts) a j (b node.text) (Some place) ≡ constants_of value) kept.attrs stands))
