-- A rule of a grammar is read as it is meant, means something, and doesn't go back, if its parts are and do.
use Rattle.std.proofs.Common.{◌≡◌, ℕ, suc, ◌<◌, false, List, [], ◌∷◌, ◌++◌, ◌⊎◌, Some, None, refl, inl, inr, ◌∙◌}
use Rattle.xdg_base.specs.declared.places.Span.{Span}
use Rattle.xdg_ast.specs.declared.token.Kind.{Kind}
use Rattle.xdg_ast.specs.declared.token.Kind.TheVariants as k
use Rattle.xdg_ast.specs.Lexemes.{Lexeme}
use Rattle.xdg_ast.specs.Language.{Language, Kinds, is, none, each, span_of, token, nothing, both, either, many, spanned, made, behind, pair, optional, chain}
use Rattle.xdg_ast.specs.Grammar.{is_constant}
use Rattle.xdg_parse.specs.Steadiness.{Steady}
use Rattle.xdg_parse.specs.Laws.{Alive, Law}
use Rattle.xdg_parse.proofs.Combinators.{Apart, Plain, nothing_law, token_law, both_law}
use Rattle.xdg_parse.proofs.More.{either_law, many_law, spanned_law}
use Rattle.xdg_parse.proofs.SteadyParts.{shortens_of, token_steady, nothing_steady, both_steady, either_steady, many_steady, spanned_steady}
use Rattle.xdg_parse.proofs.Items.{Item}
use Rattle.xdg_parse.proofs.EachKind.{some, token_alive}

-- ---- something is meant

pub nothing_alive : {A : Type 0} (a : A) → Alive ((nothing a).means)
nothing_alive a = record { tokens = []; value = a; means = (refl, refl) }

-- the relations are enough here
abbrev Relation : Type 0 → Type 1
Relation A = List Lexeme → A → Type 0

abbrev joint : {A B C : Type 0} → (A → B → C) → Relation A → (A → Relation B) → Relation C
joint {A} {B} f l m = λ ts x. (us : List Lexeme) × (vs : List Lexeme) × (a : A) × (b : B) × (ts ≡ us ++ vs) × l us a × m a vs b × (x ≡ f a b)

pub bind_alive : {A B C : Type 0} (f : A → B → C) (l : Relation A) (m : A → Relation B) → Alive l → ((x : A) → Alive (m x)) → Alive (joint f l m)
bind_alive f l m a b =
    let more = b a.value in
    record { tokens = a.tokens ++ more.tokens; value = f a.value more.value; means = (a.tokens, more.tokens, a.value, more.value, refl, a.means, more.means, refl) }

pub both_alive : {A B C : Type 0} (f : A → B → C) (l : Relation A) (m : Relation B) → Alive l → Alive m → Alive (joint f l (λ _. m))
both_alive f l m a b = bind_alive f l (λ _. m) a (λ _. b)

pub made_alive : {A B : Type 0} (f : A → B) (l : Relation A) → Alive l → Alive (joint {B = Unit {0}} (λ x _. f x) l (λ _ vs b. (vs ≡ []) × (b ≡ tt)))
made_alive f l a = both_alive (λ x _. f x) l ((nothing tt).means) a (nothing_alive tt)

pub left_alive : {A : Type 0} (l m : Relation A) → Alive l → Alive (λ ts x. l ts x ⊎ m ts x)
left_alive l m a = record { tokens = a.tokens; value = a.value; means = inl a.means }

pub right_alive : {A : Type 0} (l m : Relation A) → Alive m → Alive (λ ts x. l ts x ⊎ m ts x)
right_alive l m a = record { tokens = a.tokens; value = a.value; means = inr a.means }

pub many_alive : {A : Type 0} (l : Relation A) → Alive (each l)
many_alive l = record { tokens = []; value = []; means = refl }

pub spanned_alive : {A B : Type 0} (f : Span → A → B) (l : Relation A) → Alive l → Alive (λ ts x. (s : Span) × (a : A) × (s ≡ span_of ts) × l ts a × (x ≡ f s a))
spanned_alive f l a = record { tokens = a.tokens; value = f (span_of a.tokens) a.value; means = (_, a.value, refl, a.means, refl) }

pub chain_alive : {A : Type 0} (l m : Relation A) → Alive l → Alive (joint (λ x xs. x ∷ xs) l (λ _. each m))
chain_alive l m a = both_alive (λ x xs. x ∷ xs) l (each m) a (many_alive m)

pub constant_alive : Alive ((token is_constant).means)
constant_alive = record { tokens = some k.Name ∷ []; value = some k.Name; means = (refl, refl) }

-- ---- the combinators

-- a language is read as it is meant, something is meant, and reading never goes back
pub record Rule {A : Type 0} (d n : ℕ) (read meant : Language A) : Type 0 where
  pub law : Law d n read meant
  pub alive : suc d < n → Alive (meant.means)
  pub steady : Steady read
  pub meant_steady : Steady meant

pub none-apart : (p : Kinds) → Apart p none
none-apart p = λ k g. absurd (cc)

-- a token of some kinds
pub kinds_rule : (p : Kinds) → Plain p → Alive ((token p).means) → (d n : ℕ) → Rule d n (token p) (token p)
kinds_rule p plain alive d n = record { law = token_law p plain alive d n; alive = λ lt. alive; steady = token_steady p; meant_steady = token_steady p }

pub word_rule : (x : Kind) → Plain (is x) → (d n : ℕ) → Rule d n (token (is x)) (token (is x))
word_rule x plain d n = kinds_rule (is x) plain (token_alive x) d n

pub nothing_rule : {A : Type 0} (v : A) (d n : ℕ) → Rule d n (nothing v) (nothing v)
nothing_rule v d n = record { law = nothing_law v d n; alive = λ lt. nothing_alive v; steady = nothing_steady v; meant_steady = nothing_steady v }

pub both_rule : {A B C : Type 0} (f : A → B → C) {l m : Language A} {l' m' : Language B} {d n : ℕ} → Rule d n l m → Rule d n l' m' → Apart l.last l'.first → Rule d n (both f l l') (both f m m')
both_rule f {l} {m} {l'} {m'} {d} {n} a b apart = record {
  law = both_law f l m l' m' d n a.law b.law b.alive apart;
  alive = λ lt. both_alive f m.means m'.means (a.alive lt) (b.alive lt);
  steady = both_steady f l l' a.steady b.steady;
  meant_steady = both_steady f m m' a.meant_steady b.meant_steady;
}

pub either_rule : {A : Type 0} {l m l' m' : Language A} {d n : ℕ} → Rule d n l m → Rule d n l' m' → l.empty ≡ false → Apart l.first l'.first → Rule d n (either l l') (either m m')
either_rule {A} {l} {m} {l'} {m'} {d} {n} a b some apart = record {
  law = either_law l m l' m' d n a.law b.law some apart;
  alive = λ lt. left_alive m.means m'.means (a.alive lt);
  steady = either_steady l l' a.steady b.steady;
  meant_steady = either_steady m m' a.meant_steady b.meant_steady;
}

pub many_rule : {A : Type 0} {l m : Language A} {d n : ℕ} → Rule d n l m → l.empty ≡ false → Apart l.last l.first → Rule d n (many l) (many m)
many_rule {A} {l} {m} {d} {n} a some apart = record {
  law = many_law l m d n a.law some a.steady a.meant_steady apart;
  alive = λ lt. many_alive m.means;
  steady = many_steady l a.steady;
  meant_steady = many_steady m a.meant_steady;
}

pub spanned_rule : {A B : Type 0} (f : Span → A → B) {l m : Language A} {d n : ℕ} → Rule d n l m → l.empty ≡ false → Rule d n (spanned f l) (spanned f m)
spanned_rule f {l} {m} {d} {n} a some = record {
  law = spanned_law f l m d n a.law some;
  alive = λ lt. spanned_alive f m.means (a.alive lt);
  steady = spanned_steady f l a.steady some;
  meant_steady = spanned_steady f m a.meant_steady (a.law.same_empty ∙ some);
}

pub item : {A : Type 0} {l m : Language A} {d n : ℕ} → Rule d n l m → l.empty ≡ false → Item l.first l
item {A} {l} a some = record { begins = refl; short = shortens_of l a.steady some }

-- ---- said by those

pub made_rule : {A B : Type 0} (f : A → B) {l m : Language A} {d n : ℕ} → Rule d n l m → Rule d n (made f l) (made f m)
made_rule f {l} {m} {d} {n} a = both_rule (λ x _. f x) a (nothing_rule tt d n) (none-apart l.last)

pub behind_rule : {A B : Type 0} {l m : Language A} {l' m' : Language B} {d n : ℕ} → Rule d n l m → Rule d n l' m' → Apart l.last l'.first → Rule d n (behind l l') (behind m m')
behind_rule a b apart = both_rule (λ _ y. y) a b apart

pub pair_rule : {A B : Type 0} {l m : Language A} {l' m' : Language B} {d n : ℕ} → Rule d n l m → Rule d n l' m' → Apart l.last l'.first → Rule d n (pair l l') (pair m m')
pair_rule a b apart = both_rule (λ x y. (x, y)) a b apart

pub optional_rule : {A : Type 0} {l m : Language A} {d n : ℕ} → Rule d n l m → l.empty ≡ false → Rule d n (optional l) (optional m)
optional_rule {A} {l} {m} {d} {n} a some = either_rule (made_rule Some a) (nothing_rule None d n) (rw some refl) (λ k g. absurd (cc))

pub chain_rule : {A : Type 0} {l m l' m' : Language A} {d n : ℕ} → Rule d n l m → Rule d n l' m' → l'.empty ≡ false → Apart l'.last l'.first → Apart l.last l'.first → Rule d n (chain l l') (chain m m')
chain_rule a b some again apart = both_rule (λ x xs. x ∷ xs) a (many_rule b some again) apart
