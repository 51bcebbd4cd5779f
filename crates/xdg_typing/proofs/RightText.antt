-- What a text whose types are right tells of each type in it.
use Rattle.std.proofs.Common.{◌≡◌, inl, inr, ℕ, zero, suc, ◌<◌, List, map, ap, sym, ◌∙◌, refl, subst, arith}
use Rattle.std.specs.List.{flat_map}
use Rattle.xdg_ast.specs.declared.names.Name.{Name}
use Rattle.xdg_ast.specs.declared.grammar.DimPartKind.{DimPartKind}
use Rattle.xdg_ast.specs.declared.grammar.DimPartKind.TheVariants as p
use Rattle.xdg_domain.specs.Shapes.{IsType}
use Rattle.xdg_types.specs.Written.{tree, uses, lists}
use Rattle.xdg_types.specs.Parts.{TypeTerm, DimPart, Statement, Dimension, Definition, dimensions, definition, definitions_in, definitions, defined_names, type_in, in_parts, types}
use Rattle.xdg_types.specs.Kinds.{anything, part_sites}
use Rattle.xdg_types.specs.Names.{once, type_names}
use Rattle.xdg_typing.specs.Branches.{Naming}
use Rattle.xdg_typing.specs.Right.{AreRight}
use Rattle.xdg_types.proofs.NamesAgain.{once_differ}
use Rattle.xdg_types.proofs.NamesKnown.{each_known}
use Rattle.xdg_typing.proofs.RightTypes.{AreFine, HaveTypes, AllOnce, right_type}
use Rattle.xdg_facts.specs.Membership.{In, Differ}
use Rattle.xdg_facts.proofs.In.{in_flat_map, flat_map_in, in_map}
use Rattle.xdg_ast.specs.Texts.{texts}

-- a definition's part
pub definition_in : (kind : DimPartKind) (d : Definition) → In (definition kind) d → kind ≡ p.DefType d.name d.body
definition_in (p.DefType name type) d h = elim h [ inl e ↦ ap (λ (x : Definition). p.DefType x.name x.body) e | inr k ↦ absurd k ]
definition_in other d h = absurd h

-- the definition of a name
defined_by : (ds : List Definition) (t : List ℕ) → In (texts (map (λ d. d.name) ds)) t → (d : Definition) × (In ds d × (d.name.text ≡ t))
defined_by ds t h =
    let n = in_map (λ (x : Name). x.text) (map (λ (d : Definition). d.name) ds) t h in
    let d = in_map (λ (d : Definition). d.name) ds n.0 n.1.0 in
    (d.0, (d.1.0, ap (λ (x : Name). x.text) d.1.1 ∙ n.1.1))

module _ (statements : List Statement) (names : Naming) (right : AreRight statements names) where
  -- a part of a dimension that stands in the text
  pub record Stands (kind : DimPartKind) : Type 0 where
    pub dim : Dimension
    pub part : DimPart
    pub defined : In (dimensions statements) dim
    pub among : In dim.1 part
    pub is : part.kind ≡ kind

  -- its types are among the types of the text, and its sites are fine
  pub type_stands : (kind : DimPartKind) → Stands kind → (type : TypeTerm) → In (type_in kind) type → In (types statements) type
  type_stands kind s type h =
      flat_map_in (λ dim. in_parts type_in dim.1) (dimensions statements) s.dim type s.defined
      (flat_map_in (λ part. type_in part.kind) s.dim.1 s.part type s.among (subst (λ k. In (type_in k) type) (sym s.is) h))

  pub site_fine : (kind : DimPartKind) → Stands kind → AreFine names (part_sites kind)
  site_fine kind s site h f o =
      right.kinds f (inr (
        site,
        (
          flat_map_in (λ dim. flat_map (λ part. part_sites part.kind) dim.1) (dimensions statements) s.dim site s.defined
              (flat_map_in (λ part. part_sites part.kind) s.dim.1 s.part site s.among (subst (λ k. In (part_sites k) site) (sym s.is) h)),
          o,
        ),
      ))

  -- each list of names in which a name may stand once has different names
  pub differ_once : (ns : List Name) → In (once statements) ns → Differ (texts ns)
  differ_once = once_differ (once statements) (λ f h. right.once f (inr (inr (inl h))))

  pub lists_once : (type : TypeTerm) → In (types statements) type → AllOnce names (lists (tree type.kind))
  lists_once type h ns i = differ_once ns (inr (inr (inr (flat_map_in (λ (t : TypeTerm). lists (tree t.kind)) (types statements) type ns h i))))

  -- each name that stands in a type is defined
  pub is_defined : (type : TypeTerm) → In (types statements) type → (u : Name) → In (uses (tree type.kind)) u → In (texts (defined_names statements)) u.text
  is_defined type h u i = each_known (texts (defined_names statements)) (type_names statements) (λ f k. right.once f (inr (inl k))) u (flat_map_in (λ (t : TypeTerm). uses (tree t.kind)) (types statements) type u h i)

  -- where a definition stands
  definition_stands : (d : Definition) → In (definitions statements) d → Stands (p.DefType d.name d.body)
  definition_stands d h =
      let w = in_flat_map (λ dim. definitions_in dim.1) (dimensions statements) d h in
      let x = in_flat_map (λ part. definition part.kind) w.0.1 d w.1.1 in
      record { dim = w.0; part = x.0; defined = w.1.0; among = x.1.0; is = definition_in x.0.kind d x.1.1 }

  -- what is defined is right, by the rank of its name
  defined_right : (n : ℕ) (d : Definition) → In (definitions statements) d → right.rank d.name.text < n → IsType (names d.name.text)
  defined_right zero d h less = absurd (omega arith)
  defined_right (suc n) d h less =
      let s = definition_stands d h in
      let stands = type_stands (p.DefType d.name d.body) s d.body (inl refl) in
      let fine = site_fine (p.DefType d.name d.body) s in
      subst IsType (sym (right.resolves.defined d h))
      (right_type names anything d.body.span.start (tree d.body.kind) (fine _ (inl refl)) (λ site i. fine site (inr i)) (lists_once d.body stands)
      (λ u i.
      let a = is_defined d.body stands u i in
      let e = defined_by (definitions statements) u.text a in
      let lower = right.ranked d u h i a in
      subst (λ t. IsType (names t)) e.1.1 (defined_right n e.0 e.1.0 (omega (arith, less, lower, ap right.rank e.1.1)))))

  -- each name that stands in a type means a type
  pub uses_right : (type : TypeTerm) → In (types statements) type → HaveTypes names (uses (tree type.kind))
  uses_right type h u i =
      let e = defined_by (definitions statements) u.text (is_defined type h u i) in
      subst (λ t. IsType (names t)) e.1.1 (defined_right (suc (right.rank e.0.name.text)) e.0 e.1.0 (omega arith))
