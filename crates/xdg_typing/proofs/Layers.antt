-- The tree of a type, and what the form of a head tells, layer by layer.
use Rattle.std.proofs.Common.{◌≡◌, ℕ, ◌<◌, ◌+◌, Bool, false, ◌||◌, List, ◌∷◌, length, drop, get_or, refl, sym, ap, ◌∙◌, subst, arith, ap₂}
use Rattle.std.specs.Prelude.{not, ltb, ◌&&◌}
use Rattle.std.proofs.lemmas.Bool.{lt-ltb}
use Rattle.std.proofs.lemmas.List.{at_drop_more}
use Rattle.xdg_ast.specs.declared.names.Pair.{Pair}
use Rattle.xdg_ast.specs.declared.types.TypeKind.{TypeKind, out-TypeKind, map-TypeKind, fold_out-TypeKind}
use Rattle.xdg_ast.specs.declared.types.TypeKind.TheVariants as y
use Rattle.xdg_ast.specs.declared.types.TypeKind.TheOpen.{TypeKind-F}
use Rattle.xdg_ast.specs.declared.types.TypeKind.TheFolds.{fold-roll-TypeKind}
use Rattle.xdg_domain.specs.Shapes.{Shape}
use Rattle.xdg_types.specs.Written.{Tree, recorded, tupled, map_of, layer, tree}
use Rattle.xdg_types.specs.Parts.{TypeTerm}
use Rattle.xdg_types.specs.Meaning.{meaning, domains_meaning, as_domain, IsHead}
use Rattle.xdg_types.proofs.Treed as treed
use Rattle.xdg_typing.specs.Heads.{IsHeadOf}
use Rattle.xdg_types.specs.Kinds.{is_domain, is_small, is_empty_domain, are_domains, has_empty_domain, has_no_tuple, is_attribute, has_no_field}
use Rattle.xdg_typing.specs.KindFaults.{trees, members, form_tree, domain_form, small_form, empty_form, fieldless_form}

form_layer : (l : TypeKind-F TypeKind) → layer (map-TypeKind TypeKind Tree tree l) ≡ form_tree l
form_layer (TypeKind-F.Rec pairs) = sym (fold-roll-TypeKind Tree layer (TypeKind-F.Rec pairs)) ∙ ap tree (y.rolls-Rec pairs) ∙ treed.tree_rec pairs
form_layer (TypeKind-F.Tuple types) = sym (fold-roll-TypeKind Tree layer (TypeKind-F.Tuple types)) ∙ ap tree (y.rolls-Tuple types) ∙ treed.tree_tuple types
form_layer other = refl

-- a type's tree, by its first layer
pub tree_form : (kind : TypeKind) → tree kind ≡ form_tree (out-TypeKind kind)
tree_form kind = fold_out-TypeKind Tree layer kind ∙ form_layer (out-TypeKind kind)

-- the trees of the forms of types, where what stands in them was asked for
pub tree_rec : (kind : TypeKind) (fields given : List (Pair TypeTerm)) → kind ≡ y.Rec fields → given ≡ fields → tree kind ≡ recorded (members given)
tree_rec kind fields given is same = ap tree is ∙ treed.tree_rec fields ∙ ap (λ fs. recorded (members fs)) (sym same)

pub tree_tuple : (kind : TypeKind) (types given : List TypeTerm) → kind ≡ y.Tuple types → given ≡ types → tree kind ≡ tupled (trees given)
tree_tuple kind types given is same = ap tree is ∙ treed.tree_tuple types ∙ ap (λ ts. tupled (trees ts)) (sym same)

pub tree_map : (kind : TypeKind) (key value k v : TypeTerm) → kind ≡ y.Map key value → k ≡ key → v ≡ value → tree kind ≡ map_of k.span.start (tree k.kind) v.span.start (tree v.kind)
tree_map kind key value k v is same_k same_v =
    ap tree is ∙ treed.tree_map key value
    ∙ ap₂ (λ (a b : TypeTerm). map_of a.span.start (tree a.kind) b.span.start (tree b.kind)) (sym same_k) (sym same_v)

-- a list with something in it
some : {A : Type 0} (x : A) (xs : List A) → not (ltb 0 (length (x ∷ xs))) ≡ false
some x xs = let h : 0 < length (x ∷ xs) = omega arith in ap not (lt-ltb 0 (length (x ∷ xs)) h)

pub fieldless_is : (l : TypeKind-F TypeKind) → fieldless_form l ≡ has_no_field (form_tree l)
fieldless_is (TypeKind-F.Tuple (t ∷ ts)) = some t ts
fieldless_is other = refl

-- What a test of forms finds, a test of meanings finds.
abbrev Agrees : (List ℕ → Shape) → (TypeKind-F TypeKind → Bool) → (Shape → Bool) → Type 0
Agrees names form test = (l : TypeKind-F TypeKind) → IsHead names (form_tree l) → form l ≡ test (meaning names (form_tree l))

module _ (names : List ℕ → Shape) where
  domain_by : Agrees names domain_form (λ s. is_domain (as_domain s))
  domain_by (TypeKind-F.Rec (p ∷ ps)) h = some p ps
  domain_by (TypeKind-F.Named name) h = ap (λ s. is_domain (as_domain s)) (sym h)
  domain_by other h = refl

  small_by : Agrees names small_form (λ s. is_small (as_domain s))
  small_by (TypeKind-F.Rec (p ∷ ps)) h = some p ps
  small_by (TypeKind-F.Named name) h = ap (λ s. is_small (as_domain s)) (sym h)
  small_by other h = refl

  empty_by : Agrees names empty_form (λ s. is_empty_domain (as_domain s))
  empty_by (TypeKind-F.Domain (c ∷ cs)) h = some c cs
  empty_by (TypeKind-F.Rec (p ∷ ps)) h = some p ps
  empty_by (TypeKind-F.Named name) h = ap (λ s. is_empty_domain (as_domain s)) (sym h)
  empty_by other h = refl

  -- what is told of a type's head holds of the type
  told : (form : TypeKind-F TypeKind → Bool) (test : Shape → Bool) → Agrees names form test → (kind head : TypeKind) (found : Bool)
      → IsHeadOf names kind head → found ≡ form (out-TypeKind head) → found ≡ test (meaning names (tree kind))
  told form test agrees kind head found is_head is =
      is ∙ agrees (out-TypeKind head) (subst (IsHead names) (tree_form head) is_head.1)
      ∙ ap (λ t. test (meaning names t)) (sym (tree_form head)) ∙ ap test is_head.0

  pub domain_told : (kind head : TypeKind) (found : Bool) → IsHeadOf names kind head → found ≡ domain_form (out-TypeKind head) → found ≡ is_domain (as_domain (meaning names (tree kind)))
  domain_told = told domain_form (λ s. is_domain (as_domain s)) domain_by

  pub small_told : (kind head : TypeKind) (found : Bool) → IsHeadOf names kind head → found ≡ small_form (out-TypeKind head) → found ≡ is_small (as_domain (meaning names (tree kind)))
  small_told = told small_form (λ s. is_small (as_domain s)) small_by

  pub empty_told : (kind head : TypeKind) (found : Bool) → IsHeadOf names kind head → found ≡ empty_form (out-TypeKind head) → found ≡ is_empty_domain (as_domain (meaning names (tree kind)))
  empty_told = told empty_form (λ s. is_empty_domain (as_domain s)) empty_by

  -- a tuple type
  pub tuple_told : (head : TypeKind) (types given : List TypeTerm) (found : Bool) → head ≡ y.Tuple types → given ≡ types
      → found ≡ has_no_tuple (domains_meaning names (trees given)) → not found ≡ is_attribute (as_domain (meaning names (tree head)))
  tuple_told head types given found is same has = ap not has ∙ ap (λ t. is_attribute (as_domain (meaning names t))) (sym (tree_tuple head types given is same))

  -- the next of some types is no domain without constants
  pub not_empty_here : (types : List TypeTerm) (i : ℕ) (type : TypeTerm) → i < length types → type ≡ get_or types i type → is_empty_domain (as_domain (meaning names (tree type.kind))) ≡ false
      → has_empty_domain (domains_meaning names (trees (drop (i + 1) types))) ≡ has_empty_domain (domains_meaning names (trees (drop i types)))
  not_empty_here types i type within is none =
      let all = λ (ts : List TypeTerm). has_empty_domain (domains_meaning names (trees ts)) in
      sym (at_drop_more all types i type within ∙ ap (λ t. all (t ∷ drop (i + 1) types)) (sym is) ∙ ap (λ b. b || all (drop (i + 1) types)) none)

  -- the next of some types is a domain, or it is none
  pub domain_here : (types : List TypeTerm) (i : ℕ) (type : TypeTerm) (b : Bool) → i < length types → type ≡ get_or types i type → is_domain (as_domain (meaning names (tree type.kind))) ≡ b
      → b && are_domains (domains_meaning names (trees (drop (i + 1) types))) ≡ are_domains (domains_meaning names (trees (drop i types)))
  domain_here types i type b within is one =
      let all = λ (ts : List TypeTerm). are_domains (domains_meaning names (trees ts)) in
      sym (at_drop_more all types i type within ∙ ap (λ t. all (t ∷ drop (i + 1) types)) (sym is) ∙ ap (λ c. c && all (drop (i + 1) types)) one)
