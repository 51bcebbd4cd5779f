-- Tokens of which some are seen as tokens of other kinds: each kind that a rule takes is that of a token.
use Rattle.std.proofs.Common.{◌≡◌, ℕ, Bool, true, false, if◌then◌else◌, List, [], ◌∷◌, ◌++◌, codes, Option, Some, None, refl, ap, ◌∙◌}
use Rattle.xdg_ast.specs.declared.token.Kind.{Kind}
use Rattle.xdg_ast.specs.declared.token.Kind.TheVariants as k
use Rattle.xdg_ast.specs.Lexemes.{Lexeme}
use Rattle.xdg_ast.specs.Language.{Kinds, is, ◌or◌}
use Rattle.xdg_ast.specs.Brackets.{is_opening, is_closing, past, then_walk, walk}
use Rattle.xdg_ast.specs.Derives.{place_of}
use Rattle.xdg_parse.proofs.Laws.{one}
use Rattle.xdg_parse.proofs.EachKind.{kinds, each_of, each_kind, within}
use Rattle.xdg_formula.specs.Words.{rule_word, all_word, some_word, edge_word, above_word, left_word, same_word, attr_word, feat_word, is_rule_constant, word_of, kind_in_rules, seen, seen_all}
use Rattle.xdg_facts.proofs.Truths.{if_says}

-- ---- the kinds that rules take

abbrev pub is_taken : Kinds
is_taken = is_rule_constant or is k.LeftParenthesis or is k.RightParenthesis or is k.LeftBracket or is k.RightBracket or is k.Colon or is k.Ampersand or is k.Bar or is k.Exclamation

pub taken_by : (p : Kinds) → each_of (within p is_taken) kinds ≡ true → (kind : Kind) → p kind ≡ true → is_taken kind ≡ true
taken_by p h kind g = if_says (p kind) (is_taken kind) (each_kind (within p is_taken) h kind) g

-- ---- a token for each of them

-- a token that is seen with the kind
abbrev kind_before : Kind → Kind
kind_before k.DefEntry = k.Name
kind_before k.Set = k.Name
kind_before k.ISet = k.Name
kind_before k.Dim = k.Name
kind_before k.UseDim = k.Name
kind_before k.Tuple = k.Name
kind_before k.Map = k.Name
kind_before k.DefAttrsType = k.Name
kind_before k.DefEntryType = k.Name
kind_before kind = kind

abbrev text_before : Kind → List ℕ → List ℕ
text_before k.DefEntry text = codes "rule"
text_before k.Set text = codes "all"
text_before k.ISet text = codes "some"
text_before k.Dim text = codes "edge"
text_before k.UseDim text = codes "above"
text_before k.Tuple text = codes "left"
text_before k.Map text = codes "same"
text_before k.DefAttrsType text = codes "attr"
text_before k.DefEntryType text = codes "feat"
text_before k.Name text = codes "x"
text_before kind text = text

abbrev pub before : Lexeme → Lexeme
before t = record { kind = kind_before t.kind; text = text_before t.kind t.text; span = t.span }

pub seen-before : (kind : Kind) (text : List ℕ) → is_taken kind ≡ true → kind_in_rules (kind_before kind) (text_before kind text) ≡ kind
unfolding kind_in_rules word_of
seen-before k.Name text h = refl
seen-before other text h = cc

-- ---- lists of tokens

-- what is seen of two lists that make a third
pub seen-split : (ts a b : List Lexeme) → seen_all ts ≡ a ++ b → (x : List Lexeme) × (y : List Lexeme) × (ts ≡ x ++ y) × (seen_all x ≡ a) × (seen_all y ≡ b)
seen-split ts [] b h = ([], ts, refl, refl, h)
seen-split [] (u ∷ a) b h = absurd (cc)
seen-split (t ∷ ts) (u ∷ a) b h =
    let e : seen t ≡ u = cc in
    let g : seen_all ts ≡ a ++ b = cc in
    let r = seen-split ts a b g in
    (t ∷ r.0, r.1, ap (λ us. t ∷ us) r.2, ap (λ v. v ∷ seen_all r.0) e ∙ ap (λ us. u ∷ us) r.3, r.4)

pub seen-place : (end : ℕ) (ts : List Lexeme) → place_of end (seen_all ts) ≡ place_of end ts
seen-place end [] = refl
seen-place end (t ∷ ts) = refl

-- a chain of tests gives what each of its ends has
if-both : (b : Bool) (x y : Kind) (p : Kinds) → p x ≡ false → p y ≡ false → p (if b then x else y) ≡ false
if-both true x y p h g = h
if-both false x y p h g = g

word-by : (p : Kinds) (text : List ℕ) → p k.Name ≡ false → p rule_word ≡ false → p all_word ≡ false → p some_word ≡ false → p edge_word ≡ false → p above_word ≡ false → p left_word ≡ false → p same_word ≡ false → p attr_word ≡ false → p feat_word ≡ false → p (word_of text) ≡ false
unfolding word_of
word-by p text h a0 a1 a2 a3 a4 a5 a6 a7 a8 = if-both _ _ _ p a0 (if-both _ _ _ p a1 (if-both _ _ _ p a2 (if-both _ _ _ p a3 (if-both _ _ _ p a4 (if-both _ _ _ p a5 (if-both _ _ _ p a6 (if-both _ _ _ p a7 (if-both _ _ _ p a8 h))))))))

word-opens : (text : List ℕ) → is_opening (word_of text) ≡ false
word-opens text = word-by is_opening text refl refl refl refl refl refl refl refl refl refl

word-closes : (text : List ℕ) → is_closing (word_of text) ≡ false
word-closes text = word-by is_closing text refl refl refl refl refl refl refl refl refl refl

-- brackets are seen as brackets, and nothing else is
opening-seen : (kind : Kind) (text : List ℕ) → is_opening (kind_in_rules kind text) ≡ is_opening kind
unfolding kind_in_rules
opening-seen k.Name text = word-opens text
opening-seen other text = refl

closing-seen : (kind : Kind) (text : List ℕ) → is_closing (kind_in_rules kind text) ≡ is_closing kind
unfolding kind_in_rules
closing-seen k.Name text = word-closes text
closing-seen other text = refl

pub seen-opens : (t : Lexeme) → is_opening (seen t).kind ≡ is_opening t.kind
seen-opens t = opening-seen t.kind t.text

past-seen : (n : ℕ) (t : Lexeme) → past is_opening is_closing n (seen t) ≡ past is_opening is_closing n t
unfolding one
past-seen n t = ap (λ a. one a (is_closing (seen t).kind) n) (opening-seen t.kind t.text) ∙ ap (λ b. one (is_opening t.kind) b n) (closing-seen t.kind t.text)

walk-by : (o : Option ℕ) (f g : ℕ → Option ℕ) → ((m : ℕ) → f m ≡ g m) → then_walk o f ≡ then_walk o g
walk-by None f g h = refl
walk-by (Some m) f g h = h m

pub seen-walk : (ts : List Lexeme) (n : ℕ) → walk n (seen_all ts) ≡ walk n ts
unfolding walk
seen-walk [] n = refl
seen-walk (t ∷ ts) n = ap (λ o. then_walk o (λ m. walk m (seen_all ts))) (past-seen n t) ∙ walk-by (past is_opening is_closing n t) (λ m. walk m (seen_all ts)) (λ m. walk m ts) (seen-walk ts)
