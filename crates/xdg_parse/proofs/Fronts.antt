-- Two fronts of a text, and where a text that goes on as no other does ends.
use Rattle.std.proofs.Common.{◌≡◌, ℕ, true, List, [], ◌∷◌, ◌++◌, Some, None, refl, sym, ◌∙◌, ap, append_assoc}
use Rattle.std.proofs.lemmas.List.{append-nil}
use Rattle.xdg_ast.specs.Lexemes.{Lexeme}
use Rattle.xdg_ast.specs.Brackets.{is_opening, walk}
use Rattle.xdg_ast.specs.Derives.{most_brackets, place_of}
use Rattle.xdg_parse.proofs.Laws.{walk-append}

-- one of two fronts of a text is a front of the other
data Fronts (a r b q : List Lexeme) : Type 0 where
  shorter : (w : List Lexeme) → b ≡ a ++ w → r ≡ w ++ q → Fronts a r b q
  longer : (t : Lexeme) (w : List Lexeme) → a ≡ b ++ t ∷ w → q ≡ t ∷ (w ++ r) → Fronts a r b q

fronts-more : (t : Lexeme) (a r b q : List Lexeme) → Fronts a r b q → Fronts (t ∷ a) r (t ∷ b) q
fronts-more t a r b q (shorter w e g) = shorter w (ap (λ us. t ∷ us) e) g
fronts-more t a r b q (longer u w e g) = longer u w (ap (λ us. t ∷ us) e) g

fronts : (a r b q : List Lexeme) → a ++ r ≡ b ++ q → Fronts a r b q
fronts [] r b q h = shorter b refl h
fronts (t ∷ a) r [] q h = longer t a refl (sym h)
fronts (t ∷ a) r (u ∷ b) q h = let e : t ≡ u = cc in let g : a ++ r ≡ b ++ q = cc in rw e (fronts-more u a r b q (fronts a r b q g))

-- ---- one bracket too many

walk-none : (n : ℕ) (a w : List Lexeme) → walk n a ≡ None → walk n (a ++ w) ≡ None
walk-none n a w h = walk-append a w n ∙ rw h refl

past-none : (t : Lexeme) → is_opening t.kind ≡ true → walk 0 (t ∷ []) ≡ None
unfolding walk
past-none t h = rw h refl

pub deep-none : (b : List Lexeme) (t : Lexeme) (w : List Lexeme) → walk most_brackets b ≡ Some 0 → is_opening t.kind ≡ true → walk most_brackets (b ++ t ∷ w) ≡ None
deep-none b t w h g =
    let i : walk most_brackets (b ++ t ∷ []) ≡ None = walk-append b (t ∷ []) most_brackets ∙ rw h (past-none t g) in
    rw (sym (append_assoc b (t ∷ []) w)) (walk-none most_brackets (b ++ t ∷ []) w i)

deep-by : (a : List Lexeme) (t : Lexeme) (r b : List Lexeme) (u : Lexeme) (q : List Lexeme) → Fronts a (t ∷ r) b (u ∷ q) → walk most_brackets a ≡ Some 0 → is_opening t.kind ≡ true → walk most_brackets b ≡ Some 0 → is_opening u.kind ≡ true → t ≡ u
deep-by a t r b u q (shorter [] e g) h k i j = cc
deep-by a t r b u q (shorter (v ∷ w) e g) h k i j = let s : t ≡ v = cc in let n = deep-none a v w h (rw (sym s) k) in absurd (cc)
deep-by a t r b u q (longer v w e g) h k i j = let s : u ≡ v = cc in let n = deep-none b v w i (rw (sym s) j) in absurd (cc)

-- at most one bracket is the first that is one too many
pub deep-same : (a : List Lexeme) (t : Lexeme) (r b : List Lexeme) (u : Lexeme) (q : List Lexeme) → a ++ t ∷ r ≡ b ++ u ∷ q → walk most_brackets a ≡ Some 0 → is_opening t.kind ≡ true → walk most_brackets b ≡ Some 0 → is_opening u.kind ≡ true → t ≡ u
deep-same a t r b u q e = deep-by a t r b u q (fronts a (t ∷ r) b (u ∷ q) e)

-- ---- how texts go on

-- some tokens after these make a text
abbrev Starts : {A : Type 0} → (List Lexeme → A → Type 0) → List Lexeme → Type 0
Starts {A} derives ts = (more : List Lexeme) × (x : A) × derives (ts ++ more) x

module _ {A : Type 0} (derives : List Lexeme → A → Type 0) (Ends : List Lexeme → List Lexeme → Type 0) (at_end : (us : List Lexeme) → Ends us [] → (x : A) → derives us x → ⊥)
    (at_token : (us : List Lexeme) (t : Lexeme) (ts : List Lexeme) → Ends us (t ∷ ts) → Starts derives (us ++ t ∷ []) → ⊥) where
  starts-front : (a : List Lexeme) (t : Lexeme) (w : List Lexeme) → Starts derives (a ++ t ∷ w) → Starts derives (a ++ t ∷ [])
  starts-front a t w s = (w ++ s.0, s.1, rw (append_assoc a (t ∷ []) (w ++ s.0)) (rw (append_assoc a (t ∷ w) s.0) at s.2))

  derives-starts : (a : List Lexeme) (t : Lexeme) (r : List Lexeme) (x : A) → derives (a ++ t ∷ r) x → Starts derives (a ++ t ∷ [])
  derives-starts a t r x d = (r, x, rw (append_assoc a (t ∷ []) r) d)

  -- a text is not one that ends unexpectedly
  pub ends-not : (a r : List Lexeme) (x : A) → Ends a r → derives (a ++ r) x → ⊥
  ends-not a [] x h d = at_end a h x (rw (append-nil a) at d)
  ends-not a (t ∷ r) x h d = at_token a t r h (derives-starts a t r x d)

  ends-by : (end : ℕ) (a r b q : List Lexeme) → Fronts a r b q → Ends a r → Ends b q → Starts derives a → Starts derives b → place_of end r ≡ place_of end q
  ends-by end a r b q (shorter [] e g) h k s u = rw g refl
  ends-by end a r b q (shorter (t ∷ w) e g) h k s u = absurd (at_token a t (w ++ q) (rw g at h) (starts-front a t w (rw e at u)))
  ends-by end a r b q (longer t w e g) h k s u = absurd (at_token b t (w ++ r) (rw g at k) (starts-front b t w (rw e at s)))

  pub ends-same : (end : ℕ) (a r b q : List Lexeme) → a ++ r ≡ b ++ q → Ends a r → Ends b q → Starts derives a → Starts derives b → place_of end r ≡ place_of end q
  ends-same end a r b q e = ends-by end a r b q (fronts a r b q e)

  -- nor one that opens too many brackets
  none-deep : (a r b : List Lexeme) (u : Lexeme) (q : List Lexeme) → Fronts a r b (u ∷ q) → Ends a r → (n : ℕ) → walk most_brackets a ≡ Some n → walk most_brackets b ≡ Some 0 → is_opening u.kind ≡ true → Starts derives (b ++ u ∷ []) → ⊥
  none-deep a r b u q (shorter [] e g) h n w i j s = at_token a u q (rw g at h) (let same : b ≡ a = e ∙ append-nil a in rw same at s)
  none-deep a r b u q (shorter (v ∷ w') e g) h n w i j s = at_token a v (w' ++ u ∷ q) (rw g at h) (starts-front a v (w' ++ u ∷ []) (rw (e, append_assoc a (v ∷ w') (u ∷ [])) at s))
  none-deep a r b u q (longer v w' e g) h n w i j s = let x : u ≡ v = cc in let y = deep-none b v w' i (rw (sym x) j) in absurd (cc)

  pub ends-not-deep : (a r b : List Lexeme) (u : Lexeme) (q : List Lexeme) → a ++ r ≡ b ++ u ∷ q → Ends a r → (n : ℕ) → walk most_brackets a ≡ Some n → walk most_brackets b ≡ Some 0 → is_opening u.kind ≡ true → Starts derives (b ++ u ∷ []) → ⊥
  ends-not-deep a r b u q e = none-deep a r b u q (fronts a r b (u ∷ q) e)
