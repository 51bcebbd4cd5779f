-- Languages of tokens. Each has a relation, which says what a list of tokens stands for, and a reading function, which goes
-- over the tokens from the left and looks at one of them ahead.
use Rattle.std.specs.Prelude.{◌≡◌, ℕ, zero, suc, Bool, true, false, ◌||◌, ◌&&◌, ◌⊎◌, if◌then◌else◌, ◌==◌, List, [], ◌∷◌, ◌++◌, length, Option, Some, None, Result, Ok, Err}
use Rattle.xdg_base.specs.declared.places.Span.{Span}
use Rattle.xdg_ast.specs.declared.token.Kind.{Kind}
use Rattle.xdg_ast.specs.declared.token.Kind.TheVariants as k
use Rattle.xdg_ast.specs.Lexemes.{Lexeme}

-- ---- kinds of tokens

abbrev pub number : Kind → ℕ
number k.Name = 0
number k.Quoted = 1
number k.Number = 2
number k.DefDim = 3
number k.DefType = 4
number k.DefLabelType = 5
number k.DefAttrsType = 6
number k.DefEntryType = 7
number k.UsePrinciple = 8
number k.Dims = 9
number k.Args = 10
number k.Output = 11
number k.UseOutput = 12
number k.DefClass = 13
number k.DefEntry = 14
number k.Dim = 15
number k.UseDim = 16
number k.Tuple = 17
number k.Set = 18
number k.ISet = 19
number k.Valency = 20
number k.Map = 21
number k.Card = 22
number k.Bool = 23
number k.Int = 24
number k.String = 25
number k.LeftBrace = 26
number k.RightBrace = 27
number k.LeftParenthesis = 28
number k.RightParenthesis = 29
number k.LeftBracket = 30
number k.RightBracket = 31
number k.Colon = 32
number k.Ampersand = 33
number k.Bar = 34
number k.Dollar = 35
number k.Hash = 36
number k.Exclamation = 37
number k.Question = 38
number k.Star = 39
number k.Plus = 40

abbrev pub Kinds : Type 0
Kinds = Kind → Bool

abbrev pub is : Kind → Kinds
is a b = number a == number b

infixl 5 ◌or◌
abbrev pub ◌or◌ : Kinds → Kinds → Kinds
p or q = λ k. p k || q k

abbrev pub none : Kinds
none = λ _. false

-- the kind of the next token
unfoldable pub kind_of : List Lexeme → Option Kind
kind_of [] = None
kind_of (t ∷ ts) = Some t.kind

abbrev pub holds : Kinds → Option Kind → Bool
holds p None = false
holds p (Some k) = p k

abbrev pub sees : Kinds → List Lexeme → Bool
sees p ts = holds p (kind_of ts)

-- where the first token starts, and where the last one ends, if there is one
unfoldable pub start_of : List Lexeme → ℕ
start_of [] = 0
start_of (t ∷ ts) = t.span.start

unfoldable pub ended_by : ℕ → List Lexeme → ℕ
ended_by e [] = e
ended_by e (t ∷ ts) = ended_by t.span.end ts

abbrev pub span_of : List Lexeme → Span
span_of ts = record { start = start_of ts; end = ended_by 0 ts }

-- ---- reading

-- where the last token that was read ends, and the tokens that are left
pub record State : Type 0 where
  pub ended : ℕ
  pub left : List Lexeme

-- why reading stops at the first token that is left
pub data Halt : Type 0 where
  Unexpected : Halt
  TooDeep : Halt

abbrev pub Outcome : Type 0 → Type 0
Outcome A = Result (A × State) (Halt × List Lexeme)

infixl 10 ◌>>=◌
abbrev pub ◌>>=◌ : {A B : Type 0} → Outcome A → (A × State → Outcome B) → Outcome B
(Ok x) >>= f = f x
(Err e) >>= f = Err e

-- ---- languages

pub record Language (A : Type 0) : Type 1 where
  -- what a list of tokens stands for
  pub means : List Lexeme → A → Type 0
  -- the longest reading of the tokens that are left
  pub read : State → Outcome A
  -- the kinds of the first tokens, whether no tokens are in it, and the kinds with which a list of it may go on
  pub first : Kinds
  pub empty : Bool
  pub last : Kinds

unfoldable pub skip : State → State
skip s = elim s.left as (λ _. State) [ [] ↦ s | t ∷ ts ↦ record { ended = t.span.end; left = ts } ]

-- the next token, which is there
unfoldable pub next : State → Outcome Lexeme
next s = elim s.left as (λ _. Outcome Lexeme) [ [] ↦ Err (Unexpected, []) | t ∷ ts ↦ Ok (t, skip s) ]

abbrev pub halt : {A : Type 0} → Halt → State → Outcome A
halt why s = Err (why, s.left)

unfoldable pub read_token : Kinds → State → Outcome Lexeme
read_token p s = if sees p s.left then next s else halt Unexpected s

abbrev pub token : Kinds → Language Lexeme
token p = record {
  means = λ ts x. (ts ≡ x ∷ []) × (p x.kind ≡ true);
  read = read_token p;
  first = p;
  empty = false;
  last = none;
}

abbrev pub nothing : {A : Type 0} → A → Language A
nothing a = record {
  means = λ ts x. (ts ≡ []) × (x ≡ a);
  read = λ s. Ok (a, s);
  first = none;
  empty = true;
  last = none;
}

-- one and then the other, which may go by what the one stands for; it begins and ends as the example does
abbrev pub bind : {A B C : Type 0} → (A → B → C) → Language A → (A → Language B) → Language B → Language C
bind {A} {B} f l m example = record {
  means = λ ts x. (us : List Lexeme) × (vs : List Lexeme) × (a : A) × (b : B) × (ts ≡ us ++ vs) × l.means us a × (m a).means vs b × (x ≡ f a b);
  read = λ s. l.read s >>= λ a. (m a.0).read a.1 >>= λ b. Ok (f a.0 b.0, b.1);
  first = if l.empty then (l.first or example.first) else l.first;
  empty = l.empty && example.empty;
  last = if example.empty then (example.last or (example.first or l.last)) else example.last;
}

-- one and then the other
abbrev pub both : {A B C : Type 0} → (A → B → C) → Language A → Language B → Language C
both f l m = bind f l (λ _. m) m

-- one or the other, by the next token
abbrev pub either : {A : Type 0} → Language A → Language A → Language A
either l m = record {
  means = λ ts x. l.means ts x ⊎ m.means ts x;
  read = λ s. if sees l.first s.left then l.read s else m.read s;
  first = l.first or m.first;
  empty = l.empty || m.empty;
  last = if m.empty then (l.first or (l.last or m.last)) else (l.last or m.last);
}

abbrev pub each : {A : Type 0} → (List Lexeme → A → Type 0) → List Lexeme → List A → Type 0
each means ts [] = ts ≡ []
each means ts (x ∷ xs) = (us : List Lexeme) × (vs : List Lexeme) × (ts ≡ us ++ vs) × means us x × each means vs xs

-- as many as come, and no more than the number says
unfoldable pub items : {A : Type 0} → Kinds → (State → Outcome A) → ℕ → State → Outcome (List A)
items first read zero s = Ok ([], s)
items first read (suc n) s =
    if sees first s.left then (read s >>= λ x. items first read n x.1 >>= λ xs. Ok (x.0 ∷ xs.0, xs.1)) else Ok ([], s)

abbrev pub many : {A : Type 0} → Language A → Language (List A)
many l = record {
  means = each l.means;
  read = λ s. items l.first l.read (length s.left) s;
  first = l.first;
  empty = true;
  last = l.first or l.last;
}

-- What may stand in brackets, or no more brackets.
pub data Within (L : Type 1) : Type 1 where
  full : Within L
  room : L → Within L

abbrev pub in_brackets : {A : Type 0} → Kinds → Kinds → (List Lexeme → A → Type 0) → List Lexeme → A → Type 0
in_brackets opening closing means ts x =
    (o : Lexeme) × (us : List Lexeme) × (c : Lexeme) × (ts ≡ o ∷ (us ++ c ∷ [])) × (opening o.kind ≡ true) × (closing c.kind ≡ true) × means us x

abbrev pub read_nested : {A : Type 0} → Kinds → (State → Outcome A) → State → Outcome A
read_nested closing read s = read (skip s) >>= λ x. read_token closing x.1 >>= λ c. Ok (x.0, c.1)

abbrev pub nested : {A : Type 0} {L : Type 1} → Kinds → Kinds → Within L → (L → Language A) → Language A
nested {A} opening closing w body = record {
  means = λ ts x. elim w as (λ _. Type 0) [ full ↦ ⊥ | room j ↦ in_brackets opening closing ((body j).means) ts x ];
  read =
      λ s. if sees opening s.left then (elim w as (λ _. Outcome A) [ full ↦ halt TooDeep s | room j ↦ read_nested closing ((body j).read) s ])
      else halt Unexpected s;
  first = opening;
  empty = false;
  last = none;
}

-- with the span from its first token to its last
abbrev pub spanned : {A B : Type 0} → (Span → A → B) → Language A → Language B
spanned {A} f l = record {
  means = λ ts x. (s : Span) × (a : A) × (s ≡ span_of ts) × l.means ts a × (x ≡ f s a);
  read = λ s. l.read s >>= λ a. Ok (f (record { start = start_of s.left; end = a.1.ended }) a.0, a.1);
  first = l.first;
  empty = l.empty;
  last = l.last;
}

-- ---- said by those

abbrev pub made : {A B : Type 0} → (A → B) → Language A → Language B
made f l = both {B = Unit {0}} (λ a _. f a) l (nothing tt)

abbrev pub behind : {A B : Type 0} → Language A → Language B → Language B
behind l m = both (λ _ b. b) l m

abbrev pub pair : {A B : Type 0} → Language A → Language B → Language (A × B)
pair l m = both (λ a b. (a, b)) l m

abbrev pub optional : {A : Type 0} → Language A → Language (Option A)
optional l = either (made Some l) (nothing None)

-- one, and then as many of the others as come
abbrev pub chain : {A : Type 0} → Language A → Language A → Language (List A)
chain l m = both (λ x xs. x ∷ xs) l (many m)
