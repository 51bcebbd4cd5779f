-- A rule is read as it is meant, and what tokens stand for in it, tokens of the same kinds stand for too, with other names.
use Rattle.std.proofs.Common.{◌≡◌, ℕ, zero, suc, ◌<◌, true, false, ◌∷◌, refl}
use Rattle.xdg_base.specs.declared.places.Span.{Span}
use Rattle.xdg_ast.specs.declared.token.Kind.{Kind}
use Rattle.xdg_ast.specs.declared.token.Kind.TheVariants as k
use Rattle.xdg_ast.specs.Language.{Language, Kinds, is, Within, token, both, either, many, nested, spanned, made, behind, pair, chain}
use Rattle.xdg_parse.specs.Laws.{Alive}
use Rattle.xdg_parse.proofs.Combinators.{Apart, Plain}
use Rattle.xdg_parse.proofs.EachKind.{token_alive}
use Rattle.xdg_parse.proofs.Leveling as leveling
use Rattle.xdg_parse.proofs.Leveling.{Matching, group_rule}
use Rattle.xdg_parse.proofs.RuleParts as parts
use Rattle.xdg_parse.proofs.RuleParts.{none-apart}
use Rattle.xdg_formula.specs.Rules.{Inside, valued, formula, inside, under}
use Rattle.xdg_formula.proofs.Bearing.{Bears, token_bears, nothing_bears, both_bears, either_bears, many_bears, full_bears, room_bears, spanned_bears}
use Rattle.xdg_formula.proofs.Tokens.{is_taken, taken_by}
use Rattle.xdg_facts.proofs.Levels.{Below}

pub record Rule {A : Type 0} (d n : ℕ) (read meant : Language A) : Type 0 where
  pub rule : parts.Rule d n read meant
  pub bears : Bears meant

-- ---- the combinators

-- kinds that rules take
abbrev pub Taken : Kinds → Type 0
Taken p = (kind : Kind) → p kind ≡ true → is_taken kind ≡ true

pub kinds_rule : (p : Kinds) → Plain p → Taken p → Alive ((token p).means) → (d n : ℕ) → Rule d n (token p) (token p)
kinds_rule p plain taken alive d n = record { rule = parts.kinds_rule p plain alive d n; bears = token_bears p taken }

pub word_rule : (x : Kind) → Plain (is x) → Taken (is x) → (d n : ℕ) → Rule d n (token (is x)) (token (is x))
word_rule x plain taken d n = kinds_rule (is x) plain taken (token_alive x) d n

pub both_rule : {A B C : Type 0} (f : A → B → C) {l m : Language A} {l' m' : Language B} {d n : ℕ} → Rule d n l m → Rule d n l' m' → Apart l.last l'.first → Rule d n (both f l l') (both f m m')
both_rule f a b apart = record { rule = parts.both_rule f a.rule b.rule apart; bears = both_bears f _ _ a.bears b.bears }

pub either_rule : {A : Type 0} {l m l' m' : Language A} {d n : ℕ} → Rule d n l m → Rule d n l' m' → l.empty ≡ false → Apart l.first l'.first → Rule d n (either l l') (either m m')
either_rule a b some apart = record { rule = parts.either_rule a.rule b.rule some apart; bears = either_bears _ _ a.bears b.bears }

pub many_rule : {A : Type 0} {l m : Language A} {d n : ℕ} → Rule d n l m → l.empty ≡ false → Apart l.last l.first → Rule d n (many l) (many m)
many_rule a some apart = record { rule = parts.many_rule a.rule some apart; bears = many_bears _ a.bears }

pub spanned_rule : {A B : Type 0} (f : Span → A → B) {l m : Language A} {d n : ℕ} → Rule d n l m → l.empty ≡ false → Rule d n (spanned f l) (spanned f m)
spanned_rule f a some = record { rule = parts.spanned_rule f a.rule some; bears = spanned_bears f _ a.bears }

-- ---- said by those

pub made_rule : {A B : Type 0} (f : A → B) {l m : Language A} {d n : ℕ} → Rule d n l m → Rule d n (made f l) (made f m)
made_rule f {l} {m} {d} {n} a = both_rule (λ x _. f x) a (record { rule = parts.nothing_rule tt d n; bears = nothing_bears tt }) (none-apart l.last)

pub behind_rule : {A B : Type 0} {l m : Language A} {l' m' : Language B} {d n : ℕ} → Rule d n l m → Rule d n l' m' → Apart l.last l'.first → Rule d n (behind l l') (behind m m')
behind_rule a b apart = both_rule (λ _ y. y) a b apart

pub pair_rule : {A B : Type 0} {l m : Language A} {l' m' : Language B} {d n : ℕ} → Rule d n l m → Rule d n l' m' → Apart l.last l'.first → Rule d n (pair l l') (pair m m')
pair_rule a b apart = both_rule (λ x y. (x, y)) a b apart

pub chain_rule : {A : Type 0} {l m l' m' : Language A} {d n : ℕ} → Rule d n l m → Rule d n l' m' → l'.empty ≡ false → Apart l'.last l'.first → Apart l.last l'.first → Rule d n (chain l l') (chain m m')
chain_rule a b some again apart = both_rule (λ x xs. x ∷ xs) a (many_rule b some again) apart

-- ---- what is in brackets

-- the rule, where so many brackets may be opened
abbrev pub RuleAt : {A : Type 0} → ℕ → ℕ → (Within Inside → Language A) → Type 0
RuleAt d n rule = Rule d n (rule (under d)) (rule (under n))

pub record Levels (d n : ℕ) : Type 0 where
  pub formula_is : RuleAt d n formula
  pub valued_is : RuleAt d n valued

pub record Brackets (op cl : Kind) : Type 0 where
  pub match : Matching op cl
  pub op_taken : Taken (is op)
  pub cl_taken : Taken (is cl)

pub parentheses : Brackets k.LeftParenthesis k.RightParenthesis
parentheses = record { match = leveling.parentheses; op_taken = taken_by _ refl; cl_taken = taken_by _ refl }

pub squares : Brackets k.LeftBracket k.RightBracket
squares = record { match = leveling.squares; op_taken = taken_by _ refl; cl_taken = taken_by _ refl }

module _ {A : Type 0} {op cl : Kind} (by : Brackets op cl) (body : Inside → Language A) (alive : (n : ℕ) → 0 < n → Alive ((body (inside (under n))).means))
    (apart : (w : Within Inside) → Apart (body (inside w)).last (is cl)) (pick : (d n : ℕ) → Levels d n → Rule d n (body (inside (under d))) (body (inside (under n)))) where
  group-bears : (d n : ℕ) → Below Levels d n → Bears (nested (is op) (is cl) (under n) body)
  unfolding under
  group-bears d zero b = full_bears (is op) (is cl) by.op_taken by.cl_taken body
  group-bears zero (suc n) b = room_bears (is op) (is cl) by.op_taken by.cl_taken body (inside (under n)) (pick zero n b).bears
  group-bears (suc d) (suc n) b = room_bears (is op) (is cl) by.op_taken by.cl_taken body (inside (under n)) (pick d n b).bears

  pub nested_rule : (d n : ℕ) → Below Levels d n → RuleAt d n (λ w. nested (is op) (is cl) w body)
  unfolding under
  nested_rule d n b = record { rule = group_rule under inside Levels (λ P p. p) (λ n P p. p) by.match body alive apart (λ e m c. (pick e m c).rule) d n b; bears = group-bears d n b }
