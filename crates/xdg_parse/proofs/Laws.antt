use Rattle.std.proofs.Common.{◌≡◌, ℕ, zero, suc, ◌+◌, Bool, true, false, if◌then◌else◌, List, [], ◌∷◌, ◌++◌, Option, Some, None, Ok, Err, refl, sym, ◌∙◌, ap, append_assoc, arith}
use Rattle.xdg_ast.specs.Lexemes.{Lexeme}
use Rattle.xdg_ast.specs.Language.{Language, kind_of, State, Unexpected, TooDeep, Outcome, ◌>>=◌, bind}
use Rattle.xdg_ast.specs.Brackets.{is_opening, is_closing, less, then_walk, past, walk}
use Rattle.xdg_parse.specs.Steadiness.{at}
use Rattle.xdg_parse.proofs.Ended.{ended-append}
use Rattle.xdg_parse.specs.Laws.{WasRead, Says, Alive}

-- ---- lists of tokens

pub kind-append : (u r r' : List Lexeme) → kind_of r ≡ kind_of r' → kind_of (u ++ r) ≡ kind_of (u ++ r')
unfolding kind_of
kind-append [] r r' e = e
kind-append (t ∷ u) r r' e = refl

walk-append-by : (o : Option ℕ) (u v : List Lexeme) → ((m : ℕ) → walk m (u ++ v) ≡ then_walk (walk m u) (λ k. walk k v))
    → then_walk o (λ m. walk m (u ++ v)) ≡ then_walk (then_walk o (λ m. walk m u)) (λ k. walk k v)
walk-append-by None u v h = refl
walk-append-by (Some m) u v h = h m

pub walk-append : (u v : List Lexeme) (n : ℕ) → walk n (u ++ v) ≡ then_walk (walk n u) (λ k. walk k v)
unfolding walk
walk-append [] v n = refl
walk-append (t ∷ u) v n = walk-append-by (past is_opening is_closing n t) u v (walk-append u v)

-- the tokens of both
pub walk-both : (d m : ℕ) (u v : List Lexeme) (o : Option ℕ) → walk d u ≡ Some m → walk m v ≡ o → walk d (u ++ v) ≡ o
walk-both d m u v o a b = walk-append u v d ∙ rw a b

pub some-from : (o : Option ℕ) (f : ℕ → Option ℕ) (n : ℕ) → then_walk o f ≡ Some n → (m : ℕ) × (o ≡ Some m) × (f m ≡ Some n)
some-from None f n h = absurd (cc)
some-from (Some m) f n h = (m, refl, h)

pub walk-split : (d n : ℕ) (u v : List Lexeme) → walk d (u ++ v) ≡ Some n → (m : ℕ) × (walk d u ≡ Some m) × (walk m v ≡ Some n)
walk-split d n u v h = some-from (walk d u) (λ k. walk k v) n (sym (walk-append u v d) ∙ h)

unfoldable pub one : Bool → Bool → ℕ → Option ℕ
one a b n = if a then less n else (if b then Some (suc n) else Some n)

pub some-same : (m n : ℕ) → ◌≡◌ {A = Option ℕ} (Some m) (Some n) → m ≡ n
some-same m n h = cc

one-shift : (a b : Bool) (m m' d d' : ℕ) → one a b m ≡ Some m' → one a b d ≡ Some d' → m' + d ≡ d' + m
unfolding one
one-shift true b zero m' d d' h g = absurd (cc)
one-shift true b (suc m) m' zero d' h g = absurd (cc)
one-shift true b (suc m) m' (suc d) d' h g = let i = some-same m m' h in let j = some-same d d' g in omega arith
one-shift false true m m' d d' h g = let i = some-same (suc m) m' h in let j = some-same (suc d) d' g in omega arith
one-shift false false m m' d d' h g = let i = some-same m m' h in let j = some-same d d' g in omega arith

shift : (u : List Lexeme) (m m' d d' : ℕ) → walk m u ≡ Some m' → walk d u ≡ Some d' → m' + d ≡ d' + m
unfolding walk one
shift [] m m' d d' h g = let i = some-same m m' h in let j = some-same d d' g in omega arith
shift (t ∷ u) m m' d d' h g =
    let a = some-from (past is_opening is_closing m t) (λ n. walk n u) m' h in
    let b = some-from (past is_opening is_closing d t) (λ n. walk n u) d' g in
    let i = one-shift (is_opening t.kind) (is_closing t.kind) m a.0 d b.0 a.1 b.1 in
    let j = shift u a.0 m' b.0 d' a.2 b.2 in
    omega arith

-- what is balanced at one number is at another
pub balanced : (u : List Lexeme) (m d d' : ℕ) → walk m u ≡ Some m → walk d u ≡ Some d' → d' ≡ d
balanced u m d d' h g = let i = shift u m m d d' h g in omega arith

-- ---- outcomes

-- the same outcome of a language that means as much and reads the same
pub says_as : {A : Type 0} (l l' : Language A) (d : ℕ) (s : State) (o : Outcome A) → Says d l s o
    → ((u : List Lexeme) (x : A) → l.means u x → l'.means u x)
    → ((r : List Lexeme) → kind_of s.left ≡ kind_of r → l'.read (at s.ended r) ≡ l.read (at s.ended r))
    → Says d l' s o
says_as l l' d s (Ok (x, s')) h means reads = record {
  used = h.used;
  split = h.split;
  ended = h.ended;
  means = means h.used x h.means;
  walked = h.walked;
  again = λ r e. reads (h.used ++ r) (ap kind_of h.split ∙ kind-append h.used s'.left r e) ∙ h.again r e;
}
says_as l l' d s (Err (Unexpected, r)) h means reads = record {
  used = h.used;
  split = h.split;
  tail = h.tail;
  value = h.value;
  means = means (h.used ++ h.tail) h.value h.means;
  reached = h.reached;
  walked = h.walked;
  again = λ r' e. reads (h.used ++ r') (ap kind_of h.split ∙ kind-append h.used r r' e) ∙ h.again r' e;
}
says_as l l' d s (Err (TooDeep, r)) h means reads = record {
  used = h.used;
  bracket = h.bracket;
  others = h.others;
  split = h.split;
  next = h.next;
  opens = h.opens;
  tail = h.tail;
  value = h.value;
  means = means (h.used ++ h.bracket ∷ h.tail) h.value h.means;
  walked = h.walked;
}

module _ {A B C : Type 0} (f : A → B → C) (l : Language A) (l' : A → Language B) (example : Language B) (alive : (x : A) → Alive ((l' x).means)) (d : ℕ) where
  then_says : (s : State) (x : A) (s1 : State) → WasRead d l s x s1 → (o : Outcome B) → Says d (l' x) s1 o → Says d (bind f l l' example) s (o >>= λ b. Ok (f x b.0, b.1))
  then_says s x s1 g (Ok (y, s2)) h = record {
    used = g.used ++ h.used;
    split = g.split ∙ rw h.split (sym (append_assoc g.used h.used s2.left));
    ended = h.ended ∙ rw g.ended (sym (ended-append s.ended g.used h.used));
    means = (g.used, h.used, x, y, refl, g.means, h.means, refl);
    walked = walk-both d d g.used h.used (Some d) g.walked h.walked;
    again = λ r e. rw (append_assoc g.used h.used r, g.again (h.used ++ r) (ap kind_of h.split ∙ kind-append h.used s2.left r e), h.again r e) refl;
  }
  then_says s x s1 g (Err (Unexpected, r)) h = record {
    used = g.used ++ h.used;
    split = g.split ∙ rw h.split (sym (append_assoc g.used h.used r));
    tail = h.tail;
    value = f x h.value;
    means = (g.used, h.used ++ h.tail, x, h.value, append_assoc g.used h.used h.tail, g.means, h.means, refl);
    reached = h.reached;
    walked = walk-both d d g.used h.used (Some h.reached) g.walked h.walked;
    again = λ r' e. rw (append_assoc g.used h.used r', g.again (h.used ++ r') (ap kind_of h.split ∙ kind-append h.used r r' e), h.again r' e) refl;
  }
  then_says s x s1 g (Err (TooDeep, r)) h = record {
    used = g.used ++ h.used;
    bracket = h.bracket;
    others = h.others;
    split = g.split ∙ rw h.split (sym (append_assoc g.used h.used r));
    next = h.next;
    opens = h.opens;
    tail = h.tail;
    value = f x h.value;
    means = (g.used, h.used ++ h.bracket ∷ h.tail, x, h.value, append_assoc g.used h.used (h.bracket ∷ h.tail), g.means, h.means, refl);
    walked = walk-both d d g.used h.used (Some 0) g.walked h.walked;
  }

  pub bind_says : (s : State) (o : Outcome A) → Says d l s o → (k : A → State → Outcome B) → ((x : A) (s1 : State) → o ≡ Ok (x, s1) → Says d (l' x) s1 (k x s1))
      → Says d (bind f l l' example) s (o >>= λ a. k a.0 a.1 >>= λ b. Ok (f a.0 b.0, b.1))
  bind_says s (Ok (x, s1)) g k h = then_says s x s1 g (k x s1) (h x s1 refl)
  bind_says s (Err (Unexpected, r)) g k h =
      let more = alive g.value in
      record {
        used = g.used;
        split = g.split;
        tail = g.tail ++ more.tokens;
        value = f g.value more.value;
        means = (g.used ++ g.tail, more.tokens, g.value, more.value, sym (append_assoc g.used g.tail more.tokens), g.means, more.means, refl);
        reached = g.reached;
        walked = g.walked;
        again = λ r' e. rw (g.again r' e) refl;
      }
  bind_says s (Err (TooDeep, r)) g k h =
      let more = alive g.value in
      record {
        used = g.used;
        bracket = g.bracket;
        others = g.others;
        split = g.split;
        next = g.next;
        opens = g.opens;
        tail = g.tail ++ more.tokens;
        value = f g.value more.value;
        means = (g.used ++ g.bracket ∷ g.tail, more.tokens, g.value, more.value, sym (append_assoc g.used (g.bracket ∷ g.tail) more.tokens), g.means, more.means, refl);
        walked = g.walked;
      }
