-- The offences of names that the pass lists are those of the rules.
use Rattle.std.proofs.Common.{◌⊎◌, ℕ, List, [], refl}
use Rattle.std.specs.List.{flat_map}
use Rattle.xdg_base.specs.declared.faults.Cause.TheVariants as causes
use Rattle.xdg_base.specs.declared.faults.Fault.{Fault}
use Rattle.xdg_ast.specs.declared.names.Name.{Name}
use Rattle.xdg_ast.specs.Texts.{texts}
use Rattle.xdg_names.specs.First.{Tells, first}
use Rattle.xdg_types.specs.Written.{tree, uses, lists}
use Rattle.xdg_ast.specs.Misnamed.{IsUnknown, IsTwice}
use Rattle.xdg_types.specs.Parts.{TypeTerm, Statement, Dimension, dimensions, dim_names, used_names, defined_names, in_parts, type_in, types}
use Rattle.xdg_types.specs.Names.{NameOffends, IsPartTwice, type_names}
use Rattle.xdg_types.specs.NameFaults.{unknown, repeats, different}
use Rattle.xdg_names.proofs.Listing.{lists_tell}
use Rattle.xdg_types.proofs.Listings.{joined_each, nested, regrouped, swapped}
use Rattle.xdg_types.proofs.NamesAgain.{all_twice, all_of_one, more_lists}
use Rattle.xdg_types.proofs.NamesKnown.{unknown_names}
use Rattle.xdg_typing.specs.Listed.{in_type, none_stood, parts_again, in_dimension, name_faults}
use Rattle.xdg_typing.proofs.PartsAgain.{all_parts}
use Rattle.xdg_facts.proofs.Parts.{Lists, lists_both}

module _ (statements : List Statement) where
  -- the names that are defined, as the code has found them
  abbrev defs : List (List ℕ)
  defs = different (defined_names statements)

  abbrev Unknown : List Name → List Name → Fault → Type 0
  Unknown known = IsUnknown causes.UnknownName (texts known)

  abbrev uses_of : TypeTerm → List Name
  uses_of type = uses (tree type.kind)

  abbrev lists_of : TypeTerm → List (List Name)
  lists_of type = lists (tree type.kind)

  abbrev types_of : Dimension → List TypeTerm
  types_of dim = in_parts type_in dim.1

  in_types : Lists (flat_map (in_type defs) (types statements)) (λ f. Unknown (defined_names statements) (type_names statements) f ⊎ IsTwice (flat_map lists_of (types statements)) f)
  in_types =
      joined_each (λ type. flat_map (unknown defs) (uses_of type)) (λ type. flat_map (repeats []) (lists_of type)) (types statements)
      (nested (unknown defs) uses_of (λ type. flat_map (unknown defs) (uses_of type)) (λ type. refl) (types statements) (unknown_names (defined_names statements) (type_names statements)))
      (nested (repeats []) lists_of (λ type. flat_map (repeats []) (lists_of type)) (λ type. refl) (types statements) (all_twice (flat_map lists_of (types statements))))

  in_dims : Lists (flat_map (in_dimension defs) (dimensions statements))
      (λ f. (Unknown (defined_names statements) (type_names statements) f ⊎ IsTwice (flat_map lists_of (types statements)) f) ⊎ IsPartTwice statements f)
  in_dims =
      joined_each (λ dim. flat_map (in_type defs) (types_of dim)) (λ dim. parts_again none_stood dim.1) (dimensions statements)
      (nested (in_type defs) types_of (λ dim. flat_map (in_type defs) (types_of dim)) (λ dim. refl) (dimensions statements) in_types)
      (all_parts statements)

  pub all_names : Lists (name_faults statements) (NameOffends statements)
  all_names =
      lists_both (unknown_names (dim_names statements) (used_names statements)) (swapped
      (more_lists (all_of_one (dim_names statements)) (more_lists (all_of_one (used_names statements)) (more_lists (all_of_one (defined_names statements))
      (swapped (regrouped in_dims))))))

  -- the first of the list is the first offence
  pub names_tell : Tells (NameOffends statements) (first (name_faults statements))
  names_tell = lists_tell (name_faults statements) all_names
