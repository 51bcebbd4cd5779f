-- Terms, elements and pairs of a constant and a term are read again.
use Rattle.std.proofs.Common.{◌≡◌, ℕ, Bool, true, false, if◌then◌else◌, List, [], ◌∷◌, map, refl, sym, ap, ◌∙◌, subst, inl, inr}
use Rattle.xdg_ast.specs.declared.token.Kind.TheVariants as k
use Rattle.xdg_ast.specs.Lexemes.{Lexeme}
use Rattle.xdg_ast.specs.Contents.{content_of, value_of}
use Rattle.xdg_ast.specs.declared.names.Name.{Name}
use Rattle.xdg_ast.specs.declared.terms.TermKind.{TermKind}
use Rattle.xdg_ast.specs.declared.terms.TermKind.TheVariants as t
use Rattle.xdg_ast.specs.declared.terms.ElemKind.TheVariants as e
use Rattle.xdg_ast.specs.Language.{Language, is, token, made}
use Rattle.xdg_ast.specs.Grammar.{Params, is_constant, name_of, number_of, named, inside, under, card, term_kind, term, elem_tail, elem_kind, elem, elems, keyed_term, terms}
use Rattle.xdg_base.specs.Texts.{has_text}
use Rattle.xdg_base.specs.Spelling.{is_name}
use Rattle.xdg_ast.specs.Words.{Word, word_of, quoted, constant, IsShortText, IsSpellable}
use Rattle.xdg_ast.specs.Trees.{constant_in, term_words, elem_words}
use Rattle.xdg_ast.specs.Same.{nowhere, bare_part, bare_elem, bare_term, bare_terms}
use Rattle.xdg_print.proofs.AgainTrees.{term_words-Const, term_words-Param, term_words-Number, term_words-Card, term_words-Braces, term_words-Tuple, term_words-Gen, elem_words-Count, elem_words-Keyed, elem_words-Const, elem_words-Tuple, bare_elem_of, bare_term_of}
use Rattle.xdg_print.proofs.AgainWritten.{Written, token_written, both_written, made_written, Gives, token_gives, made_gives, both_gives, either_gives}
use Rattle.xdg_print.proofs.AgainNames.{Like, Kept, Keeps, constant_kind, constant_says, short_text, name_text, constant_spellable, name_gives, name_written, small_value, number_written, many_keeps, keyed_keeps}
use Rattle.xdg_print.proofs.AgainKept.{kept_by, behind_keeps, either_keeps, made_keeps, spanned_keeps, GoodTail, tail_of, no_tail}
use Rattle.xdg_print.proofs.AgainLevels.{elems_words, pairs_words, Depth, braces_keep}
use Rattle.xdg_print.proofs.AgainTerms.{bracketed_keeps, card_keeps, gen_keeps}
use Rattle.xdg_facts.proofs.Truths.{and_false, choose}
use Rattle.xdg_ast.proofs.Bared.{bare_term_braces}

-- ---- constants and parameters

-- a text that is no parameter is a constant
as_constant : (params : Params) (u : Lexeme) → has_text params (content_of u.kind u.text) ≡ false → named params u ≡ t.Const (name_of u)
as_constant params u h = rw (h, and_false (is k.Name u.kind)) refl

-- so is a quoted text
as_quoted : (params : Params) (u : Lexeme) → is k.Name u.kind ≡ false → named params u ≡ t.Const (name_of u)
as_quoted params u h = rw h refl

-- a name of a parameter is the parameter
as_param : (params : Params) (u : Lexeme) → is k.Name u.kind ≡ true → has_text params (content_of u.kind u.text) ≡ true → named params u ≡ t.Param (name_of u)
as_param params u h i = rw (h, i) refl

quoted_says : (text : List ℕ) (u : Lexeme) → word_of u ≡ quoted text → (is k.Name u.kind ≡ false) × (content_of u.kind u.text ≡ text)
quoted_says text u h =
    let e : is_constant u.kind ≡ true = ap (λ (v : Word). is_constant v.kind) h in
    (ap (λ (v : Word). is k.Name v.kind) h, sym (choose (is_constant u.kind) (content_of u.kind u.text) [] e) ∙ ap (λ (v : Word). v.content) h)

module _ (params : Params) where
  const_like : (a b : Name) → a.text ≡ b.text → Like bare_term (term_words params) (t.Const a) (t.Const b)
  const_like a b h = record {
    bare = bare_term_of _ (t.rolls-Const a) ∙ (ap (λ text. t.Const (record { text = text; span = nowhere })) h ∙ sym (bare_term_of _ (t.rolls-Const b)));
    words = term_words-Const params a ∙ (ap (λ text. constant_in params text ∷ []) h ∙ sym (term_words-Const params b));
  }

  param_like : (a b : Name) → a.text ≡ b.text → Like bare_term (term_words params) (t.Param a) (t.Param b)
  param_like a b h = record {
    bare = bare_term_of _ (t.rolls-Param a) ∙ (ap (λ text. t.Param (record { text = text; span = nowhere })) h ∙ sym (bare_term_of _ (t.rolls-Param b)));
    words = term_words-Param params a ∙ (ap (λ text. constant text ∷ []) h ∙ sym (term_words-Param params b));
  }

  abbrev words_of_named : Language TermKind
  words_of_named = made (named params) (token is_constant)

  const_words : (a : Name) (v : Bool) → has_text params a.text ≡ v → term_words params (t.Const a) ≡ (if v then quoted a.text else constant a.text) ∷ []
  const_words a v h = term_words-Const params a ∙ ap (λ w. (if w then quoted a.text else constant a.text) ∷ []) h

  abbrev LikeTerm : TermKind → TermKind → Type 0
  LikeTerm = Like bare_term (term_words params)

  const_written : (a : Name) (v : Bool) → has_text params a.text ≡ v → IsShortText a.text → Written words_of_named ((if v then quoted a.text else constant a.text) ∷ []) (λ y. LikeTerm y (t.Const a))
  const_written a true h s = made_written (token_written is_constant (quoted a.text) (s, refl) refl)
      (λ u i. let says = quoted_says a.text u i in subst (λ y. LikeTerm y (t.Const a)) (sym (as_quoted params u says.0)) (const_like (name_of u) a says.1))
  const_written a false h s = made_written (token_written is_constant (constant a.text) (constant_spellable a.text s) (constant_kind (is_name a.text)))
      (λ u i. let says = constant_says a.text u i in subst (λ y. LikeTerm y (t.Const a)) (sym (as_constant params u (ap (has_text params) says.1 ∙ h))) (const_like (name_of u) a says.1))

  param_written : (a : Name) → has_text params a.text ≡ true → is_name a.text ≡ true → IsShortText a.text → Written words_of_named (constant a.text ∷ []) (λ y. LikeTerm y (t.Param a))
  param_written a h n s = made_written (token_written is_constant (constant a.text) (constant_spellable a.text s) (constant_kind (is_name a.text)))
      (λ u i.
      let says = constant_says a.text u i in
      let e : is k.Name u.kind ≡ true = ap (λ (v : Word). is k.Name v.kind) i ∙ ap (λ b. is k.Name (if b then k.Name else k.Quoted)) n in
      subst (λ y. LikeTerm y (t.Param a)) (sym (as_param params u e (ap (has_text params) says.1 ∙ h))) (param_like (name_of u) a says.1))

  abbrev NamedKept : TermKind → Type 0
  NamedKept = Kept words_of_named bare_term (term_words params)

  const_kept : (u : Lexeme) (v : Bool) → has_text params (content_of u.kind u.text) ≡ v → IsShortText (content_of u.kind u.text) → named params u ≡ t.Const (name_of u) → NamedKept (named params u)
  const_kept u v h s e = subst NamedKept (sym e) (kept_by (const_written (name_of u) v h s) (const_words (name_of u) v h))

  named_kept : (u : Lexeme) (v w : Bool) → has_text params (content_of u.kind u.text) ≡ v → is k.Name u.kind ≡ w → is_constant u.kind ≡ true → IsSpellable (word_of u) → NamedKept (named params u)
  named_kept u false w h i c s = const_kept u false h (short_text u c s) (as_constant params u h)
  named_kept u true false h i c s = const_kept u true h (short_text u c s) (as_quoted params u i)
  named_kept u true true h i c s =
      subst NamedKept (sym (as_param params u i h)) (kept_by (param_written (name_of u) h (name_text u i s) (short_text u c s)) (term_words-Param params (name_of u)))

  named_keeps : Keeps words_of_named words_of_named bare_term (term_words params)
  named_keeps = record {
    all = made_gives {G = λ u. (is_constant u.kind ≡ true) × IsSpellable (word_of u)} (token_gives (λ u c s. (c, s)))
        (λ u g. named_kept u (has_text params (content_of u.kind u.text)) (is k.Name u.kind) refl refl g.0 g.1);
  }

-- ---- terms

module _ {params : Params} {m n : ℕ} (depth : Depth params m n) where
  number_keeps : Keeps (made (λ u. t.Number (number_of u)) (token (is k.Number))) (made (λ u. t.Number (number_of u)) (token (is k.Number))) bare_term (term_words params)
  number_keeps = record {
    all = made_gives (token_gives small_value) (λ u s. kept_by (made_written (number_written (value_of u.text) s)
        (λ v h. record { bare = ap (λ x. bare_term (t.Number x)) h; words = ap (λ x. term_words params (t.Number x)) h })) (term_words-Number params (value_of u.text)));
  }

  term_kind_keeps : Keeps (term_kind params (under params m)) (term_kind params (under params n)) bare_term (term_words params)
  unfolding term_kind inside
  term_kind_keeps = either_keeps number_keeps
      (either_keeps (made_keeps t.Braces (braces_keep (λ j. j.elems) depth (λ m' n' l levels. levels.elems_is n' l)) bare_term_braces (term_words-Braces params))
      (either_keeps (made_keeps t.Tuple (bracketed_keeps depth) (λ part. bare_term_of _ (t.rolls-Tuple part)) (term_words-Tuple params))
      (either_keeps (made_keeps t.Gen (behind_keeps k.Dollar (refl, refl) refl (gen_keeps depth)) (λ part. bare_term_of _ (t.rolls-Gen part)) (term_words-Gen params))
      (either_keeps (named_keeps params)
      (made_keeps t.Card (card_keeps depth) (λ part. bare_term_of _ (t.rolls-Card part)) (term_words-Card params))))))

  pub term_keeps : Keeps (term params (under params m)) (term params (under params n)) (bare_part bare_term) (λ x. term_words params x.kind)
  unfolding term
  term_keeps = spanned_keeps term_kind_keeps

  pub terms_keep : Keeps (terms params (under params m)) (terms params (under params n)) bare_terms (pairs_words params)
  unfolding terms keyed_term
  terms_keep = many_keeps (keyed_keeps term_keeps)

  -- ---- elements

  -- what follows the constant of an element is read again
  tail_gives : Gives (elem_tail params (under params m)) (GoodTail (elem_tail params (under params n)) bare_elem (elem_words params) (λ ws. ws))
  unfolding elem_tail
  tail_gives = either_gives (tail_of (λ term name. e.Keyed name term) (behind_keeps k.Colon (refl, refl) refl term_keeps) (λ x a. bare_elem_of _ (e.rolls-Keyed a x)) (λ x a. elem_words-Keyed params a x) (λ ts y i. inl i))
      (either_gives (tail_of (λ card name. e.Count name card) (card_keeps depth) (λ x a. bare_elem_of _ (e.rolls-Count a x)) (λ x a. elem_words-Count params a x) (λ ts y i. inr (inl i)))
      (no_tail e.Const (λ a. bare_elem_of _ (e.rolls-Const a)) (elem_words-Const params) (λ ts y i. inr (inr i))))

  elem_kind_keeps : Keeps (elem_kind params (under params m)) (elem_kind params (under params n)) bare_elem (elem_words params)
  unfolding elem_kind
  elem_kind_keeps = either_keeps (made_keeps e.Tuple (bracketed_keeps depth) (λ part. bare_elem_of _ (e.rolls-Tuple part)) (elem_words-Tuple params)) (record {
    all = both_gives name_gives tail_gives (λ a make s good. kept_by (both_written (name_written a s) good.read_again (λ b other h i. i b a h)) (good.words_are a));
  })

  pub elems_keep : Keeps (elems params (under params m)) (elems params (under params n)) (map (bare_part bare_elem)) (elems_words params)
  unfolding elems elem
  elems_keep = many_keeps (spanned_keeps elem_kind_keeps)
