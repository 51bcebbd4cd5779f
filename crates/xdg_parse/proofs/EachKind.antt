-- What holds of each kind, by computing.
use Rattle.std.proofs.Common.{◌≡◌, ℕ, zero, suc, Bool, true, false, not, if◌then◌else◌, List, [], ◌∷◌, refl, subst}
use Rattle.xdg_ast.specs.declared.token.Kind.{Kind}
use Rattle.xdg_ast.specs.declared.token.Kind.TheVariants as k
use Rattle.xdg_ast.specs.Lexemes.{Lexeme}
use Rattle.xdg_ast.specs.Language.{Kinds, number, is, token}
use Rattle.xdg_ast.specs.Brackets.{is_opening, is_closing}
use Rattle.xdg_parse.specs.Laws.{Alive}
use Rattle.xdg_parse.proofs.Combinators.{Apart, Plain}
use Rattle.xdg_facts.proofs.Truths.{if_says, if-true, not_both-says}

abbrev pub kinds : List Kind
kinds =
    k.Name ∷ k.Quoted ∷ k.Number ∷ k.DefDim ∷ k.DefType ∷ k.DefLabelType ∷ k.DefAttrsType ∷ k.DefEntryType ∷
    k.UsePrinciple ∷ k.Dims ∷ k.Args ∷ k.Output ∷ k.UseOutput ∷ k.DefClass ∷ k.DefEntry ∷ k.Dim ∷
    k.UseDim ∷ k.Tuple ∷ k.Set ∷ k.ISet ∷ k.Valency ∷ k.Map ∷ k.Card ∷ k.Bool ∷
    k.Int ∷ k.String ∷ k.LeftBrace ∷ k.RightBrace ∷ k.LeftParenthesis ∷ k.RightParenthesis ∷ k.LeftBracket ∷ k.RightBracket ∷
    k.Colon ∷ k.Ampersand ∷ k.Bar ∷ k.Dollar ∷ k.Hash ∷ k.Exclamation ∷ k.Question ∷ k.Star ∷
    k.Plus ∷ []

abbrev pub each_of : Kinds → List Kind → Bool
each_of p [] = true
each_of p (k ∷ ks) = if p k then each_of p ks else false

abbrev kind_at : List Kind → ℕ → Kind
kind_at [] i = k.Name
kind_at (k ∷ ks) zero = k
kind_at (k ∷ ks) (suc i) = kind_at ks i

at_number : (k : Kind) → kind_at kinds (number k) ≡ k
at_number k.Name = refl
at_number other = refl

all-at : (p : Kinds) → p k.Name ≡ true → (ks : List Kind) (i : ℕ) → each_of p ks ≡ true → p (kind_at ks i) ≡ true
all-at p c [] i h = c
all-at p c (k ∷ ks) zero h = (if-true (p k) (each_of p ks) h).0
all-at p c (k ∷ ks) (suc i) h = all-at p c ks i (if-true (p k) (each_of p ks) h).1

pub each_kind : (p : Kinds) → each_of p kinds ≡ true → (x : Kind) → p x ≡ true
each_kind p h x = subst (λ y. p y ≡ true) (at_number x) (all-at p (if-true (p k.Name) _ h).0 kinds (number x) h)

abbrev pub not_both : Kinds → Kinds → Kinds
not_both p q = λ k. if q k then not (p k) else true

pub apart_by : (p q : Kinds) → each_of (not_both p q) kinds ≡ true → Apart p q
apart_by p q h = λ k g. not_both-says (p k) (q k) (each_kind (not_both p q) h k) g

pub plain_by : (p : Kinds) → each_of (not_both is_opening p) kinds ≡ true → each_of (not_both is_closing p) kinds ≡ true → Plain p
plain_by p a b = λ k g. (apart_by is_opening p a k g, apart_by is_closing p b k g)

abbrev pub within : Kinds → Kinds → Kinds
within p q = λ k. if p k then q k else true

pub opens_by : (p : Kinds) → each_of (within p is_opening) kinds ≡ true → (k : Kind) → p k ≡ true → is_opening k ≡ true
opens_by p h = λ k g. if_says (p k) (is_opening k) (each_kind (within p is_opening) h k) g

pub closes_by : (p : Kinds) → each_of (not_both is_opening p) kinds ≡ true → each_of (within p is_closing) kinds ≡ true → (k : Kind) → p k ≡ true → (is_opening k ≡ false) × (is_closing k ≡ true)
closes_by p a b = λ k g. (apart_by is_opening p a k g, if_says (p k) (is_closing k) (each_kind (within p is_closing) b k) g)

-- some token of a kind
abbrev pub some : Kind → Lexeme
some kind = record { kind = kind; text = []; span = record { start = 0; end = 0 } }

pub is_self : (k : Kind) → is k k ≡ true
is_self k.Name = refl
is_self other = refl

pub token_alive : (k : Kind) → Alive ((token (is k)).means)
token_alive k = record { tokens = some k ∷ []; value = some k; means = (refl, is_self k) }
