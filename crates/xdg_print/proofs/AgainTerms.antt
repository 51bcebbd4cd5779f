-- Cardinalities, generators, terms and elements are read again.
use Rattle.std.proofs.Common.{ℕ, List, [], ◌∷◌, refl, sym, ap, ◌∙◌, inl, inr, arith}
use Rattle.xdg_ast.specs.declared.token.Kind.TheVariants as k
use Rattle.xdg_ast.specs.declared.names.Num.{Num}
use Rattle.xdg_ast.specs.declared.terms.CardKind.TheVariants as c
use Rattle.xdg_ast.specs.declared.terms.GenKind.TheVariants as g
use Rattle.xdg_ast.specs.Language.{is, token}
use Rattle.xdg_ast.specs.Grammar.{Params, Gen, in_parentheses, inside, under, names, nums, interval, bracketed_names, hashed, card_kind, card, gprim, next_gprim, gprims, gconj, next_gconj, gconjs, gen, at_span}
use Rattle.xdg_ast.specs.Words.{Word, mark, number}
use Rattle.xdg_ast.specs.Trees.{names_words, card_words, gen_phrase, in_square_brackets as bracketed_words}
use Rattle.xdg_ast.specs.Same.{nowhere, bare_part, bare_name, bare_names, bare_num, bare_card, bare_gen}
use Rattle.xdg_print.proofs.AgainTrees.{gen_phrase-Const, bare_gen_of}
use Rattle.xdg_print.proofs.AgainWritten.{Written, written_in, behind_written, Gives, stronger, both_given, behind_gives, either_gives}
use Rattle.xdg_print.proofs.AgainNames.{Keeps, name_words, names_keeps, name_keeps, num_keeps, nums_keeps}
use Rattle.xdg_print.proofs.AgainKept.{sign_keeps, signed_keeps, unsigned_keeps, either_keeps, pair_keeps, spanned_keeps}
use Rattle.xdg_print.proofs.AgainPhrases.{Natural, GoodPrim, as_disj, disj_keeps, in_brackets, plain_gives, disj_gives}
use Rattle.xdg_print.proofs.AgainLevels.{gens, Depth, nested_gives, nested_written, braces_keep, square_brackets_keep}

interval_keeps : Keeps {B = Num × Num} interval interval (λ (i : Num × Num). (bare_num i.0, bare_num i.1)) (λ i. number i.0.value ∷ number i.1.value ∷ [])
unfolding interval
interval_keeps = pair_keeps num_keeps num_keeps

-- a member behind a sign
next_written : (params : Params) (n : ℕ) (ws : List Word) (P : Gen → Type 0) → Written (gprim (under params n)) ws P → Written (next_gprim (under params n)) (mark k.Ampersand ∷ ws) P
unfolding next_gprim
next_written params n ws P a = behind_written k.Ampersand (refl, refl) refl a

module _ {params : Params} {m n : ℕ} (depth : Depth params m n) where
  pub bracketed_keeps : Keeps (bracketed_names (under params m)) (bracketed_names (under params n)) bare_names (λ ns. bracketed_words (names_words ns))
  unfolding bracketed_names
  bracketed_keeps = square_brackets_keep (λ _. names) depth (λ _ _ _ _. names_keeps)

  -- ---- cardinalities

  card_kind_keeps : Keeps (card_kind (under params m)) (card_kind (under params n)) bare_card card_words
  unfolding card_kind hashed card_words bare_card
  card_kind_keeps = either_keeps (sign_keeps k.Exclamation (refl, refl) refl refl)
      (either_keeps (sign_keeps k.Question (refl, refl) refl refl)
      (either_keeps (sign_keeps k.Star (refl, refl) refl refl)
      (either_keeps (sign_keeps k.Plus (refl, refl) refl refl)
      (unsigned_keeps (token (is k.Hash))
      (signed_keeps k.Hash c.Numbers (refl, refl) refl (braces_keep (λ _. nums) depth (λ _ _ _ _. nums_keeps)) (λ _. refl) (λ _. refl)
      (λ ts y h. (h.0, h.1, h.2, h.3, h.4, h.5, inl h.6, h.7)))
      (signed_keeps k.Hash (λ i. c.Interval i.0 i.1) (refl, refl) refl (square_brackets_keep (λ _. interval) depth (λ _ _ _ _. interval_keeps)) (λ _. refl) (λ _. refl)
      (λ ts y h. (h.0, h.1, h.2, h.3, h.4, h.5, inr h.6, h.7)))))))

  pub card_keeps : Keeps (card (under params m)) (card (under params n)) (bare_part bare_card) (λ x. card_words x.kind)
  unfolding card
  card_keeps = spanned_keeps card_kind_keeps

  -- ---- generators

  abbrev Prim : Gen → Type 0
  Prim = GoodPrim gens (gprim (under params n)) (next_gprim (under params n))

  bracketed_gen : Gives (in_parentheses (under params m) (λ j. j.gen)) Prim
  unfolding inside gprim gen gconjs gconj gprims next_gconj
  bracketed_gen = nested_gives (is k.LeftParenthesis) (is k.RightParenthesis) (λ j. j.gen) depth (λ m' n' e l levels.
      stronger (both_given (levels.gen_is n (omega (arith, depth.le))) (levels.gen_is n' l))
      (λ x h. in_brackets gens (gprim (under params n)) (next_gprim (under params n)) (next_written params n) x h.0
      (written_in (nested_written k.LeftParenthesis k.RightParenthesis (λ j. j.gen) params n n' e (refl, refl) refl (refl, refl) refl
      (as_disj gens (gprim (under params n')) (next_gprim (under params n')) (next_written params n') x h.1)) (λ ts y i. inl i))))

  prim_gives : Gives (gprim (under params m)) Prim
  unfolding gprim
  prim_gives = either_gives bracketed_gen (plain_gives gens (gprim (under params n)) (next_gprim (under params n)) (next_written params n) g.Const bare_name name_words (λ s x. gen_phrase-Const x)
      (λ s s' x y h. ap (λ kind. at_span nowhere kind) (bare_gen_of _ (g.rolls-Const y) ∙ (ap g.Const h ∙ sym (bare_gen_of _ (g.rolls-Const x))))) name_keeps (λ ts y i. inr i))

  next_gives : Gives (next_gprim (under params m)) Prim
  unfolding next_gprim
  next_gives = behind_gives (token (is k.Ampersand)) prim_gives

  pub gen_gives : Gives (gen (under params m)) (Natural gens (gprim (under params n)) (next_gprim (under params n)))
  unfolding gen gconjs gconj gprims next_gconj
  gen_gives = disj_gives gens (gprim (under params n)) (next_gprim (under params n)) (next_written params n) (gprim (under params m)) (next_gprim (under params m)) prim_gives next_gives

  pub gen_keeps : Keeps (gen (under params m)) (gen (under params n)) (bare_part bare_gen) (λ x. (gen_phrase x.kind).words)
  unfolding gen gconjs gconj gprims next_gconj
  gen_keeps = disj_keeps gens (gprim (under params n)) (next_gprim (under params n)) (next_written params n) gen_gives
