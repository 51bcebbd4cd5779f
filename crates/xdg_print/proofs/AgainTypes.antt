-- Types are read again.
use Rattle.std.proofs.Common.{ℕ, List, [], ◌∷◌, ◌++◌, map, flat_map, refl, ap₂, inl, inr}
use Rattle.xdg_ast.specs.declared.token.Kind.TheVariants as k
use Rattle.xdg_ast.specs.declared.names.Name.{Name}
use Rattle.xdg_ast.specs.declared.names.Pair.{Pair}
use Rattle.xdg_ast.specs.declared.types.TypeKind.{TypeKind}
use Rattle.xdg_ast.specs.declared.types.TypeKind.TheVariants as y
use Rattle.xdg_ast.specs.Language.{is, token, both, behind}
use Rattle.xdg_ast.specs.Grammar.{Params, TypeTerm, in_braces, in_parentheses, inside, under, name, type_kind, type_term, keyed_type, keyed_types, braced_tail, braced, more_types, two_types}
use Rattle.xdg_ast.specs.Words.{Word, mark}
use Rattle.xdg_ast.specs.Trees.{name_word, pair_words, type_words, in_braces as between_braces, in_parentheses as parenthesized}
use Rattle.xdg_ast.specs.Same.{bare_part, bare_pair, bare_type}
use Rattle.xdg_print.proofs.AgainTrees.{type_words-Empty, type_words-Domain, type_words-Rec, type_words-Tuple, type_words-Set, type_words-ISet, type_words-Valency, type_words-Map, type_words-Card, type_words-Bool, type_words-Int, type_words-Str, type_words-Named, bare_type_of}
use Rattle.xdg_print.proofs.AgainWritten.{written_in, nothing_written, both_written, Gives, stronger, nothing_gives, both_gives, either_gives}
use Rattle.xdg_print.proofs.AgainNames.{Keeps, name_gives, name_written, name_keeps, names_keeps, many_keeps, keyed_keeps}
use Rattle.xdg_print.proofs.AgainKept.{kept_by, sign_keeps, behind_keeps, either_keeps, made_keeps, both_keeps, pair_keeps, spanned_keeps, named_like, GoodTail, tail_of}
use Rattle.xdg_print.proofs.AgainLevels.{types_words, two_words, bare_two, GoodBraced, Depth, nested_gives, nested_written, parentheses_keep}
use Rattle.xdg_ast.proofs.Bared.{bare_type_rec, bare_type_tuple, bare_type_set, bare_type_iset, bare_type_valency}

abbrev pub one_words : TypeTerm → List Word
one_words type = type_words type.kind

abbrev pairs_of_types : List (Pair TypeTerm) → List Word
pairs_of_types pairs = flat_map (pair_words one_words) pairs

abbrev bare_pairs : List (Pair TypeTerm) → List (Pair TypeTerm)
bare_pairs pairs = map (bare_pair (bare_part bare_type)) pairs

module _ {params : Params} {m n : ℕ} (depth : Depth params m n) where
  braced_type : Keeps (in_braces (under params m) (λ j. j.braced)) (in_braces (under params n) (λ j. j.braced)) bare_type type_words
  unfolding inside
  braced_type = record {
    all = nested_gives (is k.LeftBrace) (is k.RightBrace) (λ j. j.braced) depth (λ m' n' e l levels.
        stronger (levels.braced_is n' l)
        (λ type h. kept_by (nested_written k.LeftBrace k.RightBrace (λ j. j.braced) params n n' e (refl, refl) refl (refl, refl) refl h.read_again) h.words_are));
  }

  one_in_parentheses : Keeps (in_parentheses (under params m) (λ j. j.one_type)) (in_parentheses (under params n) (λ j. j.one_type)) (bare_part bare_type) (λ z. parenthesized (one_words z))
  unfolding inside
  one_in_parentheses = parentheses_keep (λ j. j.one_type) depth (λ m' n' l levels. levels.type_is n' l)

  type_kind_keeps : Keeps (type_kind (under params m)) (type_kind (under params n)) bare_type type_words
  unfolding type_kind inside
  type_kind_keeps = either_keeps braced_type
      (either_keeps (made_keeps y.Tuple (behind_keeps k.Tuple (refl, refl) refl (parentheses_keep (λ j. j.more_types) depth (λ m' n' l levels. levels.more_is n' l)))
      bare_type_tuple type_words-Tuple)
      (either_keeps (made_keeps y.Set (behind_keeps k.Set (refl, refl) refl one_in_parentheses) bare_type_set type_words-Set)
      (either_keeps (made_keeps y.ISet (behind_keeps k.ISet (refl, refl) refl one_in_parentheses) bare_type_iset type_words-ISet)
      (either_keeps (made_keeps y.Valency (behind_keeps k.Valency (refl, refl) refl one_in_parentheses) bare_type_valency type_words-Valency)
      (either_keeps (made_keeps (λ (said : TypeTerm × TypeTerm). y.Map said.0 said.1) (behind_keeps k.Map (refl, refl) refl (parentheses_keep (λ j. j.two_types) depth (λ m' n' l levels. levels.two_is n' l)))
      (λ said. bare_type_of _ (y.rolls-Map said.0 said.1)) (λ said. type_words-Map said.0 said.1))
      (either_keeps (sign_keeps k.Card (refl, refl) refl type_words-Card)
      (either_keeps (sign_keeps k.Bool (refl, refl) refl type_words-Bool)
      (either_keeps (sign_keeps k.Int (refl, refl) refl type_words-Int)
      (either_keeps (sign_keeps k.String (refl, refl) refl type_words-Str)
      (made_keeps y.Named name_keeps (λ part. bare_type_of _ (y.rolls-Named part)) type_words-Named))))))))))

  pub type_keeps : Keeps (type_term (under params m)) (type_term (under params n)) (bare_part bare_type) one_words
  unfolding type_term
  type_keeps = spanned_keeps type_kind_keeps

  pub two_keep : Keeps (two_types (under params m)) (two_types (under params n)) bare_two two_words
  unfolding two_types
  two_keep = pair_keeps type_keeps type_keeps

  pub more_keep : Keeps (more_types (under params m)) (more_types (under params n)) (map (bare_part bare_type)) types_words
  unfolding more_types
  more_keep = both_keeps (λ z zs. z ∷ zs) type_keeps (many_keeps type_keeps) (λ _ _. refl) (λ _ _. refl)

  -- ---- between braces

  abbrev GoodTypes : (Name → TypeKind) → Type 0
  GoodTypes = GoodTail (braced_tail (under params n)) bare_type type_words between_braces

  abbrev record_of : TypeTerm × List (Pair TypeTerm) → Name → TypeKind
  record_of said name = y.Rec (record { key = name; value = said.0 } ∷ said.1)

  -- what follows the first constant is read again
  record_tail : Gives (both {C = Name → TypeKind} (λ value others. record_of (value, others)) (behind (token (is k.Colon)) (type_term (under params m))) (keyed_types (under params m))) GoodTypes
  unfolding braced_tail keyed_types keyed_type
  record_tail = both_gives (behind_keeps k.Colon (refl, refl) refl type_keeps).all (many_keeps (keyed_keeps type_keeps)).all (λ x xs g h. record {
    tail = (mark k.Colon ∷ one_words x) ++ pairs_of_types xs;
    words_are = λ a. type_words-Rec (record { key = a; value = x } ∷ xs);
    read_again = written_in (both_written g h (λ z zs i j a c s. named_like {b' = λ said. (bare_part bare_type said.0, bare_pairs said.1)} {w' = λ said. (mark k.Colon ∷ one_words said.0) ++ pairs_of_types said.1}
        record_of record_of between_braces (λ said name. bare_type_rec (record { key = name; value = said.0 } ∷ said.1)) (λ said name. type_words-Rec (record { key = name; value = said.0 } ∷ said.1))
        (x, xs) (z, zs) a c (record { bare = ap₂ (λ p q. (p, q)) i.bare j.bare; words = ap₂ (λ p q. p ++ q) i.words j.words }) s)) (λ ts z i. inl i);
  })

  tail_gives : Gives (braced_tail (under params m)) GoodTypes
  unfolding braced_tail
  tail_gives = either_gives record_tail (tail_of (λ others name. y.Domain (name ∷ others)) names_keeps (λ xs a. bare_type_of _ (y.rolls-Domain (a ∷ xs))) (λ xs a. type_words-Domain (a ∷ xs)) (λ ts z i. inr i))

  pub braced_gives : Gives (braced (under params m)) (GoodBraced (braced (under params n)))
  unfolding braced
  braced_gives = either_gives
      (both_gives name_gives tail_gives (λ a make s good. record {
        inner = name_word a ∷ good.tail;
        words_are = good.words_are a;
        read_again = written_in (both_written (name_written a s) good.read_again (λ b other h i. i b a h)) (λ ts z h. inl h);
      }))
      (nothing_gives (record { inner = []; words_are = type_words-Empty; read_again = written_in (nothing_written (record { bare = refl; words = refl })) (λ ts z h. inr h) }))
