-- What holds of a level of brackets, and what stands in brackets.
use Rattle.std.proofs.Common.{◌≡◌, ◌≤◌, ℕ, zero, suc, List, [], ◌∷◌, ◌++◌, map, flat_map, Option, true, refl, sym, ap, ◌∙◌, subst, arith}
use Rattle.xdg_ast.specs.declared.token.Kind.{Kind}
use Rattle.xdg_ast.specs.declared.token.Kind.TheVariants as k
use Rattle.xdg_ast.specs.declared.names.Name.{Name}
use Rattle.xdg_ast.specs.declared.names.Pair.{Pair}
use Rattle.xdg_ast.specs.declared.terms.GenKind.TheVariants as g
use Rattle.xdg_ast.specs.declared.expressions.ExprKind.TheVariants as ex
use Rattle.xdg_ast.specs.declared.types.TypeKind.{TypeKind}
use Rattle.xdg_ast.specs.Language.{Language, Kinds, is, nested}
use Rattle.xdg_ast.specs.Grammar.{Params, Term, Elem, Gen, Expr, TypeTerm, Inside, in_braces, in_parentheses, in_square_brackets, inside, under, conjunction, disjunction, gprim, next_gprim, gen, elems, terms, all_of, any_of, prim, next_prim, expr, type_term, two_types, more_types, braced, principle}
use Rattle.xdg_ast.specs.Words.{Word, mark, IsSpellable}
use Rattle.xdg_ast.specs.Trees.{in_braces as between_braces, in_parentheses as parenthesized, in_square_brackets as bracketed_words, gen_phrase, elem_words, term_words, terms_words, pair_words, expr_phrase, type_words}
use Rattle.xdg_ast.specs.Same.{nowhere, bare_part, bare_name, bare_pair, bare_option, bare_gen, bare_elem, bare_terms, bare_expr, bare_type}
use Rattle.xdg_print.proofs.AgainTrees.{gen_phrase-And, gen_phrase-Or, expr_phrase-And, expr_phrase-Or}
use Rattle.xdg_print.proofs.AgainWritten.{Written, weaker, room_written, Gives, stronger, room_gives}
use Rattle.xdg_print.proofs.AgainNames.{Like, Keeps, name_words}
use Rattle.xdg_print.proofs.AgainKept.{option_words}
use Rattle.xdg_print.proofs.AgainPhrases.{Joining, Natural}
use Rattle.xdg_ast.proofs.Bared.{bare_gen_or, bare_gen_and, bare_expr_and, bare_expr_or}

-- ---- generators and expressions as phrases

abbrev pub gens : Joining Gen Gen
gens = record {
  bare = bare_part bare_gen;
  phrase = λ gen. gen_phrase gen.kind;
  all = conjunction;
  any = disjunction;
  by_all = record {
    one = λ s x. refl;
    phrase_is = λ s x y xs. gen_phrase-And (x ∷ (y ∷ xs));
    bare_is = λ s s' x y x' y' xs xs' h. ap (λ kind. record { kind = kind; span = nowhere }) (bare_gen_and (x' ∷ (y' ∷ xs')) ∙ (ap g.And h ∙ sym (bare_gen_and (x ∷ (y ∷ xs)))));
  };
  by_any = record {
    one = λ s x. refl;
    phrase_is = λ s x y xs. gen_phrase-Or (x ∷ (y ∷ xs));
    bare_is = λ s s' x y x' y' xs xs' h. ap (λ kind. record { kind = kind; span = nowhere }) (bare_gen_or (x' ∷ (y' ∷ xs')) ∙ (ap g.Or h ∙ sym (bare_gen_or (x ∷ (y ∷ xs)))));
  };
}

abbrev pub exprs : Params → Joining Expr Expr
exprs params = record {
  bare = bare_part bare_expr;
  phrase = λ expr. expr_phrase params expr.kind;
  all = all_of;
  any = any_of;
  by_all = record {
    one = λ s x. refl;
    phrase_is = λ s x y xs. expr_phrase-And params (x ∷ (y ∷ xs));
    bare_is = λ s s' x y x' y' xs xs' h. ap (λ kind. record { kind = kind; span = nowhere }) (bare_expr_and (x' ∷ (y' ∷ xs')) ∙ (ap ex.And h ∙ sym (bare_expr_and (x ∷ (y ∷ xs)))));
  };
  by_any = record {
    one = λ s x. refl;
    phrase_is = λ s x y xs. expr_phrase-Or params (x ∷ (y ∷ xs));
    bare_is = λ s s' x y x' y' xs xs' h. ap (λ kind. record { kind = kind; span = nowhere }) (bare_expr_or (x' ∷ (y' ∷ xs')) ∙ (ap ex.Or h ∙ sym (bare_expr_or (x ∷ (y ∷ xs)))));
  };
}

-- ---- words and parts without places, of what stands in brackets

abbrev pub elems_words : Params → List Elem → List Word
elems_words params elems = flat_map (λ elem. elem_words params elem.kind) elems

abbrev pub pairs_words : Params → List (Pair Term) → List Word
pairs_words params pairs = flat_map (pair_words (λ term. term_words params term.kind)) pairs

abbrev pub types_words : List TypeTerm → List Word
types_words types = flat_map (λ type. type_words type.kind) types

abbrev pub two_words : TypeTerm × TypeTerm → List Word
two_words types = type_words types.0.kind ++ type_words types.1.kind

abbrev pub bare_two : TypeTerm × TypeTerm → TypeTerm × TypeTerm
bare_two types = (bare_part bare_type types.0, bare_part bare_type types.1)

abbrev pub Said : Type 0
Said = List (Pair Name) × Option (List (Pair Term))

abbrev pub said_words : Params → Said → List Word
said_words params said = (mark k.Dims ∷ between_braces (flat_map (pair_words name_words) said.0)) ++ option_words (λ args. mark k.Args ∷ terms_words params args) said.1

abbrev pub bare_said : Said → Said
bare_said said = (map (bare_pair bare_name) said.0, bare_option bare_terms said.1)

-- the words of a type in braces are read, where those between the braces are
pub record GoodBraced (l : Language TypeKind) (type : TypeKind) : Type 0 where
  pub inner : List Word
  pub words_are : type_words type ≡ between_braces inner
  pub read_again : Written l inner (λ y. Like bare_type type_words y type)

-- ---- one level, read at each level that is no deeper

pub record Levels (params : Params) (m : ℕ) : Type 0 where
  pub gen_is : (n : ℕ) → m ≤ n → Gives (gen (under params m)) (Natural gens (gprim (under params n)) (next_gprim (under params n)))
  pub elems_is : (n : ℕ) → m ≤ n → Keeps (elems params (under params m)) (elems params (under params n)) (map (bare_part bare_elem)) (elems_words params)
  pub terms_is : (n : ℕ) → m ≤ n → Keeps (terms params (under params m)) (terms params (under params n)) bare_terms (pairs_words params)
  pub expr_is : (n : ℕ) → m ≤ n → Gives (expr (under params m)) (Natural (exprs params) (prim (under params n)) (next_prim (under params n)))
  pub type_is : (n : ℕ) → m ≤ n → Keeps (type_term (under params m)) (type_term (under params n)) (bare_part bare_type) (λ type. type_words type.kind)
  pub two_is : (n : ℕ) → m ≤ n → Keeps (two_types (under params m)) (two_types (under params n)) bare_two two_words
  pub more_is : (n : ℕ) → m ≤ n → Keeps (more_types (under params m)) (more_types (under params n)) (map (bare_part bare_type)) types_words
  pub braced_is : (n : ℕ) → m ≤ n → Gives (braced (under params m)) (GoodBraced (braced (under params n)))
  pub principle_is : (n : ℕ) → m ≤ n → Keeps (principle (under params m)) (principle (under params n)) bare_said (said_words params)

abbrev pub Below : Params → ℕ → Type 0
Below params zero = Unit {0}
Below params (suc m) = Levels params m

-- one level and another that is no deeper, and what holds of those below
pub record Depth (params : Params) (m n : ℕ) : Type 0 where
  pub le : m ≤ n
  pub below : Below params m

-- ---- brackets

pub nested_gives : {A : Type 0} (op cl : Kinds) (body : Inside → Language A) {params : Params} {m n : ℕ} → Depth params m n → {K : A → Type 0}
    → ((m' n' : ℕ) → n ≡ suc n' → m' ≤ n' → Levels params m' → Gives (body (inside params (under params m'))) K) → Gives (nested op cl (under params m) body) K
unfolding under
nested_gives op cl body {params} {m = zero} d pick = record { by = λ ts x h s. absurd h }
nested_gives op cl body {params} {m = suc m} {n = zero} d pick = absurd (omega (arith, d.le))
nested_gives op cl body {params} {m = suc m} {n = suc n} d pick = room_gives op cl (inside params (under params m)) body _ (pick m n refl (omega (arith, d.le)) d.below)

pub nested_written : {A : Type 0} (op cl : Kind) (body : Inside → Language A) (params : Params) (n n' : ℕ) {ws : List Word} {P : A → Type 0} → n ≡ suc n'
    → IsSpellable (mark op) → is op op ≡ true → IsSpellable (mark cl) → is cl cl ≡ true → Written (body (inside params (under params n'))) ws P → Written (nested (is op) (is cl) (under params n) body) (mark op ∷ (ws ++ mark cl ∷ [])) P
unfolding under
nested_written op cl body params n n' {ws} {P} e so io sc ic a =
    subst (λ i. Written (nested (is op) (is cl) (under params i) body) (mark op ∷ (ws ++ mark cl ∷ [])) P) (sym e) (room_written op cl (inside params (under params n')) body so io sc ic a)

-- what stands in brackets is kept at each level below
abbrev KeptInside : {A B : Type 0} → (Inside → Language A) → Params → (A → B) → (A → List Word) → Type 0
KeptInside body params b w = (m' n' : ℕ) → m' ≤ n' → Levels params m' → Keeps (body (inside params (under params m'))) (body (inside params (under params n'))) b w

-- what is kept in brackets is kept with them
nested_keeps : {A B : Type 0} (op cl : Kind) (body : Inside → Language A) {params : Params} {m n : ℕ} {b : A → B} {w : A → List Word}
    → IsSpellable (mark op) → is op op ≡ true → IsSpellable (mark cl) → is cl cl ≡ true → Depth params m n → KeptInside body params b w
    → Keeps (nested (is op) (is cl) (under params m) body) (nested (is op) (is cl) (under params n) body) b (λ x. mark op ∷ (w x ++ mark cl ∷ []))
nested_keeps op cl body {params} {m} {n} {b} {w} so io sc ic d pick = record {
  all = nested_gives (is op) (is cl) body d (λ m' n' e l levels. stronger (pick m' n' l levels).all
      (λ x a. nested_written op cl body params n n' e so io sc ic (weaker a (λ y h. record { bare = h.bare; words = ap (λ ws. mark op ∷ (ws ++ mark cl ∷ [])) h.words }))));
}

pub braces_keep : {A B : Type 0} (body : Inside → Language A) {params : Params} {m n : ℕ} {b : A → B} {w : A → List Word} → Depth params m n → KeptInside body params b w
    → Keeps (in_braces (under params m) body) (in_braces (under params n) body) b (λ x. between_braces (w x))
braces_keep body d pick = nested_keeps k.LeftBrace k.RightBrace body (refl, refl) refl (refl, refl) refl d pick

pub parentheses_keep : {A B : Type 0} (body : Inside → Language A) {params : Params} {m n : ℕ} {b : A → B} {w : A → List Word} → Depth params m n → KeptInside body params b w
    → Keeps (in_parentheses (under params m) body) (in_parentheses (under params n) body) b (λ x. parenthesized (w x))
parentheses_keep body d pick = nested_keeps k.LeftParenthesis k.RightParenthesis body (refl, refl) refl (refl, refl) refl d pick

pub square_brackets_keep : {A B : Type 0} (body : Inside → Language A) {params : Params} {m n : ℕ} {b : A → B} {w : A → List Word} → Depth params m n → KeptInside body params b w
    → Keeps (in_square_brackets (under params m) body) (in_square_brackets (under params n) body) b (λ x. bracketed_words (w x))
square_brackets_keep body d pick = nested_keeps k.LeftBracket k.RightBracket body (refl, refl) refl (refl, refl) refl d pick
