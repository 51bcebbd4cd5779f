-- The parts of dimensions are read again, and each level of brackets is.
use Rattle.std.proofs.Common.{◌≡◌, ◌≤◌, ℕ, zero, suc, List, [], ◌∷◌, ◌++◌, map, flat_map, Option, Some, None, refl, sym, ap}
use Rattle.std.proofs.lemmas.List.{append-nil}
use Rattle.xdg_ast.specs.declared.token.Kind.TheVariants as k
use Rattle.xdg_ast.specs.declared.names.Name.{Name}
use Rattle.xdg_ast.specs.declared.names.Pair.{Pair}
use Rattle.xdg_ast.specs.declared.grammar.DimPartKind.{DimPartKind}
use Rattle.xdg_ast.specs.declared.grammar.DimPartKind.TheVariants as d
use Rattle.xdg_ast.specs.Grammar.{Params, Term, TypeTerm, DimPart, inside, under, keyed_name, keyed_names, principle_dims, principle_args, principle, type_term, part_kind, part, parts}
use Rattle.xdg_ast.specs.Words.{Word, mark}
use Rattle.xdg_ast.specs.Trees.{pair_words, in_braces as between_braces}
use Rattle.xdg_ast.specs.Canon.{principle_words, part_words}
use Rattle.xdg_ast.specs.Same.{bare_part, bare_type, bare_dim_part}
use Rattle.xdg_print.proofs.AgainNames.{Keeps, name_words, name_keeps, many_keeps, keyed_keeps}
use Rattle.xdg_print.proofs.AgainKept.{behind_keeps, either_keeps, made_keeps, pair_keeps, optional_keeps, with_words, at_place_keeps}
use Rattle.xdg_print.proofs.AgainLevels.{Said, said_words, bare_said, Levels, Below, Depth, braces_keep}
use Rattle.xdg_print.proofs.AgainTerms.{gen_gives}
use Rattle.xdg_print.proofs.AgainElems.{elems_keep, terms_keep}
use Rattle.xdg_print.proofs.AgainExprs.{braced_terms_keep, expr_gives}
use Rattle.xdg_print.proofs.AgainTypes.{one_words, type_keeps, two_keep, more_keep, braced_gives}

abbrev pairs_of_names : List (Pair Name) → List Word
pairs_of_names pairs = flat_map (pair_words name_words) pairs

module _ {params : Params} {m n : ℕ} (depth : Depth params m n) where
  principle_keeps : Keeps (principle (under params m)) (principle (under params n)) bare_said (said_words params)
  unfolding principle principle_dims principle_args keyed_names keyed_name inside
  principle_keeps = pair_keeps (behind_keeps k.Dims (refl, refl) refl (braces_keep (λ j. j.dims) depth (λ _ _ _ _. many_keeps (keyed_keeps name_keeps))))
      (optional_keeps (behind_keeps k.Args (refl, refl) refl (braced_terms_keep depth)))

-- ---- all levels

level_of : (params : Params) (m : ℕ) → Below params m → Levels params m
level_of params m below = record {
  gen_is = λ n le. gen_gives (at le);
  elems_is = λ n le. elems_keep (at le);
  terms_is = λ n le. terms_keep (at le);
  expr_is = λ n le. expr_gives (at le);
  type_is = λ n le. type_keeps (at le);
  two_is = λ n le. two_keep (at le);
  more_is = λ n le. more_keep (at le);
  braced_is = λ n le. braced_gives (at le);
  principle_is = λ n le. principle_keeps (at le);
}
  where
    at : {n : ℕ} → m ≤ n → Depth params m n
    at le = record { le = le; below = below }

below_of : (params : Params) (m : ℕ) → Below params m
below_of params zero = tt
below_of params (suc m) = level_of params m (below_of params m)

pub depth_of : (params : Params) (m n : ℕ) → m ≤ n → Depth params m n
depth_of params m n le = record { le = le; below = below_of params m }

-- ---- parts

principle_at : (dims : List (Pair Name)) (args : Option (List (Pair Term))) → principle_words dims args ≡ said_words [] (dims, args)
principle_at dims None = sym (append-nil (mark k.Dims ∷ between_braces (pairs_of_names dims)))
principle_at dims (Some args) = refl

abbrev pub PartSaid : Type 0
PartSaid = DimPartKind × List Word

-- a part without places, and its words
abbrev pub part_said : DimPartKind → PartSaid
part_said part = (bare_dim_part part, part_words part)

abbrev pub parts_words : List DimPart → List Word
parts_words parts = flat_map (λ part. part_words part.kind) parts

module _ (m n : ℕ) (le : m ≤ n) where
  depth : Depth [] m n
  depth = depth_of [] m n le

  type_part : Keeps (type_term (under [] m)) (type_term (under [] n)) (bare_part bare_type) one_words
  type_part = type_keeps depth

  part_kind_keeps : Keeps (part_kind (under [] m)) (part_kind (under [] n)) bare_dim_part part_words
  unfolding part_kind part_words bare_dim_part inside
  part_kind_keeps = either_keeps (made_keeps (λ (said : Name × TypeTerm). d.DefType said.0 said.1) (behind_keeps k.DefType (refl, refl) refl (pair_keeps name_keeps type_part)) (λ _. refl) (λ _. refl))
      (either_keeps (made_keeps d.LabelType (behind_keeps k.DefLabelType (refl, refl) refl type_part) (λ _. refl) (λ _. refl))
      (either_keeps (made_keeps d.AttrsType (behind_keeps k.DefAttrsType (refl, refl) refl type_part) (λ _. refl) (λ _. refl))
      (either_keeps (made_keeps d.EntryType (behind_keeps k.DefEntryType (refl, refl) refl type_part) (λ _. refl) (λ _. refl))
      (either_keeps (made_keeps (λ (said : Name × Said). d.UsePrinciple said.0 said.1.0 said.1.1)
      (behind_keeps k.UsePrinciple (refl, refl) refl (pair_keeps name_keeps (braces_keep (λ j. j.principle) depth (λ m' n' l levels. levels.principle_is n' l))))
      (λ _. refl) (λ said. ap (λ ws. mark k.UsePrinciple ∷ (name_words said.0 ++ between_braces ws)) (principle_at said.1.0 said.1.1)))
      (either_keeps (made_keeps d.Output (behind_keeps k.Output (refl, refl) refl name_keeps) (λ _. refl) (λ _. refl))
      (made_keeps d.UseOutput (behind_keeps k.UseOutput (refl, refl) refl name_keeps) (λ _. refl) (λ _. refl)))))))

  pub parts_keep : Keeps (parts (under [] m)) (parts (under [] n)) (map (λ x. part_said x.kind)) parts_words
  unfolding parts part
  parts_keep = many_keeps (at_place_keeps (with_words part_kind_keeps))
