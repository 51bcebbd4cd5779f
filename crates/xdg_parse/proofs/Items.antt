-- Reading one item after the other, as a loop does.
use Rattle.std.proofs.Common.{◌≡◌, ℕ, zero, suc, ◌≤◌, ◌<◌, Bool, true, false, List, [], ◌∷◌, length, Ok, Err, refl, ap, ◌∙◌, arith}
use Rattle.xdg_ast.specs.Lexemes.{Lexeme}
use Rattle.xdg_ast.specs.Language.{Language, State, Outcome, Kinds, ◌>>=◌, items, sees, kind_of}

-- each item takes a token
pub record Shortens {A : Type 0} (read : State → Outcome A) : Type 0 where
  pub shorter : (s : State) (x : A) (s' : State) → read s ≡ Ok (x, s') → length s'.left < length s.left

-- an item begins with a token of these kinds, and takes one
pub record Item {A : Type 0} (first : Kinds) (l : Language A) : Type 0 where
  pub begins : l.first ≡ first
  pub short : Shortens l.read

module _ {A : Type 0} (first : Kinds) (read : State → Outcome A) (short : Shortens read) where
  -- two numbers give the same after an item, if they do from all that is left then
  after : (n m : ℕ) → ((e : ℕ) (ts : List Lexeme) → length ts ≤ n → length ts ≤ m → items first read n (record { ended = e; left = ts }) ≡ items first read m (record { ended = e; left = ts }))
      → (s : State) → length s.left ≤ suc n → length s.left ≤ suc m → (r : Outcome A) → read s ≡ r
      → (r >>= λ x. items first read n x.1 >>= λ xs. Ok (x.0 ∷ xs.0, xs.1)) ≡ (r >>= λ x. items first read m x.1 >>= λ xs. Ok (x.0 ∷ xs.0, xs.1))
  after n m ih s a b (Ok x) h =
      let l : length x.1.left < length s.left = short.shorter s x.0 x.1 h in
      ap (λ (o : Outcome (List A)). o >>= λ xs. Ok (x.0 ∷ xs.0, xs.1)) (ih x.1.ended x.1.left (omega arith) (omega arith))
  after n m ih s a b (Err e) h = refl

  at_test : (v : Bool) (n m : ℕ) → ((e : ℕ) (ts : List Lexeme) → length ts ≤ n → length ts ≤ m → items first read n (record { ended = e; left = ts }) ≡ items first read m (record { ended = e; left = ts }))
      → (s : State) → length s.left ≤ suc n → length s.left ≤ suc m → sees first s.left ≡ v → items first read (suc n) s ≡ items first read (suc m) s
  unfolding items
  at_test false n m ih s a b h = rw h refl
  at_test true n m ih s a b h = rw h (after n m ih s a b (read s) refl)

  -- any number does that is at least how many tokens are left
  pub enough : (n m e : ℕ) (ts : List Lexeme) → length ts ≤ n → length ts ≤ m → items first read n (record { ended = e; left = ts }) ≡ items first read m (record { ended = e; left = ts })
  unfolding items kind_of
  enough zero zero e ts a b = refl
  enough zero (suc m) e [] a b = refl
  enough zero (suc m) e (t ∷ ts) a b = absurd (omega arith)
  enough (suc n) zero e [] a b = refl
  enough (suc n) zero e (t ∷ ts) a b = absurd (omega arith)
  enough (suc n) (suc m) e ts a b = at_test (sees first ts) n m (enough n m) (record { ended = e; left = ts }) a b refl

  turn-step : (e : ℕ) (ts : List Lexeme) → sees first ts ≡ true
      → items first read (length ts) (record { ended = e; left = ts }) ≡ items first read (suc (length ts)) (record { ended = e; left = ts })
  turn-step e ts h = enough (length ts) (suc (length ts)) e ts (omega arith) (omega arith)

  turn-by : (s : State) → sees first s.left ≡ true → (r : Outcome A) → read s ≡ r
      → items first read (length s.left) s ≡ (r >>= λ x. items first read (length x.1.left) x.1 >>= λ xs. Ok (x.0 ∷ xs.0, xs.1))
  unfolding items
  turn-by s h (Ok x) e =
      let l : length x.1.left < length s.left = short.shorter s x.0 x.1 e in
      let more : items first read (length s.left) s ≡ items first read (suc (length s.left)) s = turn-step s.ended s.left h in
      let rest : items first read (length s.left) x.1 ≡ items first read (length x.1.left) x.1 = enough (length s.left) (length x.1.left) x.1.ended x.1.left (omega arith) (omega arith) in
      more ∙ rw (h, e) (ap (λ (o : Outcome (List A)). o >>= λ xs. Ok (x.0 ∷ xs.0, xs.1)) rest)
  turn-by s h (Err f) e = turn-step s.ended s.left h ∙ rw (h, e) refl

  turn-at : (e : ℕ) (ts : List Lexeme) → sees first ts ≡ true
      → items first read (length ts) (record { ended = e; left = ts }) ≡ (read (record { ended = e; left = ts }) >>= λ x. items first read (length x.1.left) x.1 >>= λ xs. Ok (x.0 ∷ xs.0, xs.1))
  turn-at e ts h = turn-by (record { ended = e; left = ts }) h (read (record { ended = e; left = ts })) refl

  pub turn : (s : State) → sees first s.left ≡ true → items first read (length s.left) s ≡ (read s >>= λ x. items first read (length x.1.left) x.1 >>= λ xs. Ok (x.0 ∷ xs.0, xs.1))
  turn s h = turn-at s.ended s.left h

  pub none_at : (e : ℕ) (ts : List Lexeme) → sees first ts ≡ false → items first read (length ts) (record { ended = e; left = ts }) ≡ Ok ([], record { ended = e; left = ts })
  unfolding items
  none_at e [] h = refl
  none_at e (t ∷ ts) h = rw h refl
