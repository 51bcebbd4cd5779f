-- The parts of a type, and of those that stand in it.
use Rattle.std.proofs.lemmas.List.{get_or-map, length-map}
use Rattle.std.proofs.Common.{◌≡◌, ℕ, zero, suc, ◌+◌, ◌-◌, ◌<◌, ◌≤◌, List, [], ◌∷◌, length, get_or, flat_map, ap, sym, ◌∙◌, refl, subst, arith, Some}
use Rattle.std.specs.Prelude.{slice_get}
use Rattle.xdg_ast.specs.declared.names.Pair.{Pair}
use Rattle.xdg_ast.specs.declared.types.TypeKind.{TypeKind}
use Rattle.xdg_ast.specs.declared.types.TypeKind.TheVariants as y
use Rattle.xdg_ast.specs.declared.grammar.DimPartKind.{DimPartKind}
use Rattle.xdg_ast.specs.declared.grammar.DimPartKind.TheVariants as k
use Rattle.xdg_ast.specs.declared.grammar.StatementKind.TheVariants as v
use Rattle.xdg_ast.specs.declared.names.Name.{Name}
use Rattle.xdg_types.specs.Written.{tree}
use Rattle.xdg_types.specs.Parts.{TypeTerm, DimPart, Statement, in_parts, attrs_type, entry_type}
use Rattle.xdg_types.specs.Meaning.{meaning, domains_meaning, fields_meaning}
use Rattle.xdg_types.proofs.Treed.{trees, members, tree_tuple, tree_rec}
use Rattle.xdg_typing.specs.Heads.{Knows, IsHeadOf}
use Rattle.xdg_typing.specs.Weights.{parts, parts_of, parts_in}
use Rattle.xdg_typing.proofs.WeightLaws.{parts_as}
use Rattle.xdg_typing.specs.Branches.{Naming}
use Rattle.xdg_typing.specs.Room.{HasRoom, field_types}
use Rattle.xdg_typing.specs.Small.{given, given_in, given_by, given_types, all_parts}
use Rattle.xdg_typing.proofs.SmallTypes.{parts_append}

-- ---- what stands in a type

module _ (names : Naming) where
  parts_in_tuple : (ts : List TypeTerm) → parts_of (domains_meaning names (trees ts)) ≡ all_parts names ts
  parts_in_tuple [] = refl
  parts_in_tuple (t ∷ ts) = let e = parts_as (meaning names (tree t.kind)) in let f = parts_in_tuple ts in omega (arith, e, f)

  parts_in_record : (ps : List (Pair TypeTerm)) → parts_in (fields_meaning names (members ps)) ≡ all_parts names (field_types ps)
  parts_in_record [] = refl
  parts_in_record (p ∷ ps) = let f = parts_in_record ps in omega (arith, f)

  -- one of several
  one_of_all : (ts : List TypeTerm) (i : ℕ) (t : TypeTerm) → i < length ts → parts (meaning names (tree (get_or ts i t).kind)) ≤ all_parts names ts
  one_of_all [] i t h = absurd (omega (arith, h))
  one_of_all (u ∷ us) zero t h = omega arith
  one_of_all (u ∷ us) (suc i) t h = let e = one_of_all us i t (omega (arith, h)) in omega (arith, e)

-- ---- room for it

module _ (known : List (List ℕ)) (heads : List TypeTerm) where
  abbrev Has : (Naming → ℕ) → ℕ → Type 0
  Has count room = HasRoom known heads count room

  abbrev of_kind : TypeKind → Naming → ℕ
  of_kind kind names = parts (meaning names (tree kind))

  less : (count other : Naming → ℕ) (room left : ℕ) → (r : Has count room) → ((names : Naming) → Knows names known heads → count names ≤ room → other names ≤ left) → Has other left
  less count other room left r h = record { names = r.names; knows = r.knows; fits = h r.names r.knows r.fits }

  pub tuple_room : (kind : TypeKind) (types written : List TypeTerm) (room : ℕ) → kind ≡ y.Tuple types → written ≡ types → Has (of_kind kind) (room + 1) → Has (λ names. all_parts names written) room
  tuple_room kind types written room is same r =
      subst (λ ts. Has (λ names. all_parts names ts) room) (sym same)
      (less (of_kind kind) (λ names. all_parts names types) (room + 1) room r (λ names knows fits.
      (let e : parts (meaning names (tree kind)) ≡ 1 + parts_of (domains_meaning names (trees types)) = ap (λ t. parts (meaning names t)) (ap tree is ∙ tree_tuple types) in
      let f = parts_in_tuple names types in omega (arith, fits, e, f))))

  parts_of_record : (names : Naming) (kind : TypeKind) (all : List (Pair TypeTerm)) → kind ≡ y.Rec all → parts (meaning names (tree kind)) ≡ 1 + all_parts names (field_types all)
  parts_of_record names kind all is =
      let e : parts (meaning names (tree kind)) ≡ 1 + parts_in (fields_meaning names (members all)) = ap (λ t. parts (meaning names t)) (ap tree is ∙ tree_rec all) in
      e ∙ ap (λ n. 1 + n) (parts_in_record names all)

  pub record_room : (kind : TypeKind) (all written : List (Pair TypeTerm)) (room : ℕ) → kind ≡ y.Rec all → written ≡ all → Has (of_kind kind) (room + 1) → Has (λ names. all_parts names (field_types written)) room
  record_room kind all written room is same r =
      subst (λ ps. Has (λ names. all_parts names (field_types ps)) room) (sym same)
      (less (of_kind kind) (λ names. all_parts names (field_types all)) (room + 1) room r (λ names knows fits. (let e = parts_of_record names kind all is in omega (arith, fits, e))))

  -- ---- one after another

  pub each_room : (ts : List TypeTerm) (i : ℕ) (t : TypeTerm) (room : ℕ) → i < length ts → t ≡ get_or ts i t → Has (λ names. all_parts names ts) room → Has (of_kind t.kind) room
  each_room ts i t room within at r =
      less (λ names. all_parts names ts) (of_kind t.kind) room room r (λ names knows fits.
      (let e = one_of_all names ts i t within in let f = ap (λ (u : TypeTerm). parts (meaning names (tree u.kind))) at in omega (arith, fits, e, f)))

  pub field_room : (ps : List (Pair TypeTerm)) (i : ℕ) (p : Pair TypeTerm) (room : ℕ) → i < length ps → p ≡ get_or ps i p → Has (λ names. all_parts names (field_types ps)) room → Has (of_kind p.value.kind) room
  field_room ps i p room within at r =
      let value = λ (q : Pair TypeTerm). q.value in
      each_room (field_types ps) i p.value room (subst (λ n. i < n) (sym (length-map ps value)) within) (ap value at ∙ sym (get_or-map value ps i p p.value within)) r

-- ---- the types of dimensions

module _ (names : Naming) where
  -- those that one element gives, of those that all give
  given_by_one : {A : Type 0} (f : A → List TypeTerm) (xs : List A) (i : ℕ) (x : A) → i < length xs → all_parts names (f (get_or xs i x)) ≤ all_parts names (flat_map f xs)
  given_by_one f [] i x h = absurd (omega (arith, h))
  given_by_one f (z ∷ zs) zero x h = let e = parts_append names (f z) (flat_map f zs) in omega (arith, e)
  given_by_one f (z ∷ zs) (suc i) x h = let d = given_by_one f zs i x (omega (arith, h)) in let e = parts_append names (f z) (flat_map f zs) in omega (arith, d, e)

  -- the types of one kind among those that are given
  pub entry_less : (kind : DimPartKind) → all_parts names (entry_type kind) ≤ all_parts names (given kind)
  entry_less (k.EntryType type) = omega arith
  entry_less other = omega arith

  pub attrs_less : (kind : DimPartKind) → all_parts names (attrs_type kind) ≤ all_parts names (given kind)
  attrs_less (k.AttrsType type) = omega arith
  attrs_less other = omega arith

  all_less : (which : DimPartKind → List TypeTerm) → ((kind : DimPartKind) → all_parts names (which kind) ≤ all_parts names (given kind)) → (ps : List DimPart)
      → all_parts names (in_parts which ps) ≤ all_parts names (given_in ps)
  all_less which less [] = omega arith
  all_less which less (q ∷ qs) =
      let e = all_less which less qs in let f = parts_append names (which q.kind) (in_parts which qs) in let g = parts_append names (given q.kind) (given_in qs) in omega (arith, e, f, g, less q.kind)

  first_part : (ts : List TypeTerm) (t : TypeTerm) → Some t ≡ slice_get ts 0 → parts (meaning names (tree t.kind)) ≤ all_parts names ts
  first_part [] t h = absurd cc
  first_part (u ∷ us) t h = let e : u ≡ t = cc in let f = ap (λ (v : TypeTerm). parts (meaning names (tree v.kind))) e in omega (arith, f)

module _ (known : List (List ℕ)) (heads : List TypeTerm) where
  pub dim_room : (ss : List Statement) (i : ℕ) (s : Statement) (name : Name) (ps written : List DimPart) (room : ℕ) → i < length ss → s ≡ get_or ss i s → s.kind ≡ v.DefDim name ps → written ≡ ps
      → HasRoom known heads (λ names. all_parts names (given_types ss)) room → HasRoom known heads (λ names. all_parts names (given_in written)) room
  dim_room ss i s name ps written room within at is same r =
      less known heads (λ names. all_parts names (given_types ss)) (λ names. all_parts names (given_in written)) room room r (λ names knows fits.
      (let e = given_by_one names (λ (z : Statement). given_by z.kind) ss i s within in
      let f = ap (λ (z : Statement). all_parts names (given_by z.kind)) at in
      let g = ap (λ kind. all_parts names (given_by kind)) is in
      let h = ap (λ qs. all_parts names (given_in qs)) same in omega (arith, fits, e, f, g, h)))

  -- the fields of the type that is given for features or attributes
  pub given_room : (which : DimPartKind → List TypeTerm) → ((names : Naming) (kind : DimPartKind) → all_parts names (which kind) ≤ all_parts names (given kind))
      → (ps : List DimPart) (t : TypeTerm) (head : TypeKind) (all written : List (Pair TypeTerm)) (room : ℕ) → Some t ≡ slice_get (in_parts which ps) 0
      → ((names : Naming) → Knows names known heads → IsHeadOf names t.kind head) → head ≡ y.Rec all → written ≡ all
      → HasRoom known heads (λ names. all_parts names (given_in ps)) room → HasRoom known heads (λ names. all_parts names (field_types written)) room
  given_room which small ps t head all written room first leads is same r =
      less known heads (λ names. all_parts names (given_in ps)) (λ names. all_parts names (field_types written)) room room r (λ names knows fits.
      (let d = first_part names (in_parts which ps) t first in
      let e = all_less names which (small names) ps in
      let f = ap parts (leads names knows).0 in
      let g = parts_of_record known heads names head all is in
      let h = ap (λ qs. all_parts names (field_types qs)) same in omega (arith, fits, d, e, f, g, h)))
