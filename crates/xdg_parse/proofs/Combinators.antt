use Rattle.std.proofs.Common.{◌≡◌, ℕ, suc, ◌<◌, Bool, true, false, if◌then◌else◌, List, [], ◌∷◌, ◌++◌, Option, Some, None, Ok, Err, refl, sym, ◌∙◌, ap, append_assoc}
use Rattle.xdg_ast.specs.declared.token.Kind.{Kind}
use Rattle.xdg_ast.specs.Lexemes.{Lexeme}
use Rattle.xdg_ast.specs.Language.{Language, Kinds, ◌or◌, kind_of, holds, sees, ended_by, Unexpected, skip, next, read_token, token, nothing, bind, both}
use Rattle.xdg_ast.specs.Brackets.{is_opening, is_closing, walk}
use Rattle.xdg_parse.specs.Steadiness.{at}
use Rattle.xdg_parse.specs.Laws.{Says, Alive, Law}
use Rattle.xdg_parse.proofs.Ended.{ended-append}
use Rattle.xdg_parse.proofs.SteadyParts.{empty-both}
use Rattle.xdg_parse.proofs.Laws.{walk-both, walk-split, balanced, bind_says}
use Rattle.xdg_facts.proofs.Lists.{head_of}
use Rattle.xdg_facts.proofs.Truths.{none_or, or_here, either_true}

-- ---- tests

pub holds-left : (p q : Kinds) (o : Option Kind) → holds (p or q) o ≡ false → holds p o ≡ false
holds-left p q None h = refl
holds-left p q (Some k) h = (none_or (p k) (q k) h).0

pub holds-right : (p q : Kinds) (o : Option Kind) → holds (p or q) o ≡ false → holds q o ≡ false
holds-right p q None h = refl
holds-right p q (Some k) h = (none_or (p k) (q k) h).1

pub holds-same : (p q : Kinds) → ((k : Kind) → p k ≡ q k) → (o : Option Kind) → holds p o ≡ holds q o
holds-same p q e None = refl
holds-same p q e (Some k) = e k

-- kinds of which the one or the other does not hold
abbrev pub Apart : Kinds → Kinds → Type 0
Apart p q = (k : Kind) → q k ≡ true → p k ≡ false

-- ---- the laws

-- a list that is not empty
pub not-empty : {A : Type 0} (l m : Language A) (d n : ℕ) → Law d n l m → l.empty ≡ false → (x : A) → m.means [] x → ⊥
not-empty l m d n a e x h = let i = a.empty x h in absurd (cc)

pub first-holds : {A : Type 0} (l m : Language A) (d n : ℕ) → Law d n l m → l.empty ≡ false → (u r : List Lexeme) (x : A) → m.means u x → sees l.first (u ++ r) ≡ true
unfolding kind_of
first-holds l m d n a e [] r x h = absurd (not-empty l m d n a e x h)
first-holds l m d n a e (t ∷ u) r x h = a.first t u x h

pub nothing_law : {A : Type 0} (v : A) (d n : ℕ) → Law d n (nothing v) (nothing v)
unfolding walk ended_by
nothing_law v d n = record {
  same = λ k. refl;
  same_empty = refl;
  fits = λ u x h. rw h.0 refl;
  first = λ t u x h. absurd (let i = h.0 in cc);
  empty = λ x h. refl;
  complete = λ u x e r h w last. rw (h.0, h.1) refl;
  says = λ lt s. record { used = []; split = refl; ended = refl; means = (refl, refl); walked = refl; again = λ r e. refl };
}

-- kinds of no bracket
abbrev pub Plain : Kinds → Type 0
Plain p = (k : Kind) → p k ≡ true → (is_opening k ≡ false) × (is_closing k ≡ false)

pub walk-plain : (t : Lexeme) (n : ℕ) → is_opening t.kind ≡ false → is_closing t.kind ≡ false → walk n (t ∷ []) ≡ Some n
unfolding walk
walk-plain t n a b = rw (a, b) refl

pub token-stops : (p : Kinds) (e : ℕ) (r : List Lexeme) → sees p r ≡ false → read_token p (at e r) ≡ Err (Unexpected, r)
unfolding read_token
token-stops p e r h = rw h refl

pub token-reads : (p : Kinds) (e : ℕ) (t : Lexeme) (r : List Lexeme) → p t.kind ≡ true → read_token p (at e (t ∷ r)) ≡ Ok (t, at t.span.end r)
unfolding read_token kind_of next skip
token-reads p e t r h = rw h refl

token-says-at : (p : Kinds) → Plain p → Alive ((token p).means) → (d e : ℕ) (ts : List Lexeme) (v : Bool) → sees p ts ≡ v → Says d (token p) (at e ts) (read_token p (at e ts))
unfolding kind_of walk ended_by
token-says-at p plain alive d e ts false h = rw (token-stops p e ts h) (record {
  used = [];
  split = refl;
  tail = alive.tokens;
  value = alive.value;
  means = alive.means;
  reached = d;
  walked = refl;
  again = λ r k. token-stops p e r (ap (holds p) (sym k) ∙ h);
})
token-says-at p plain alive d e [] true h = absurd (cc)
token-says-at p plain alive d e (t ∷ ts) true h = rw (token-reads p e t ts h) (record {
  used = t ∷ [];
  split = refl;
  ended = refl;
  means = (refl, h);
  walked = walk-plain t d (plain t.kind h).0 (plain t.kind h).1;
  again = λ r k. token-reads p e t r h;
})

token-complete : (p : Kinds) (u : List Lexeme) (x : Lexeme) (e : ℕ) (r : List Lexeme) → u ≡ x ∷ [] → p x.kind ≡ true → read_token p (at e (u ++ r)) ≡ Ok (x, at (ended_by e u) r)
unfolding ended_by
token-complete p u x e r h g = rw h (token-reads p e x r g)

pub token_law : (p : Kinds) → Plain p → Alive ((token p).means) → (d n : ℕ) → Law d n (token p) (token p)
token_law p plain alive d n = record {
  same = λ k. refl;
  same_empty = refl;
  fits = λ u x h. rw h.0 (walk-plain x n (plain x.kind h.1).0 (plain x.kind h.1).1);
  first = λ t u x h. rw (head_of t x u [] h.0) h.1;
  empty = λ x h. absurd (let i = h.0 in cc);
  complete = λ u x e r h w last. token-complete p u x e r h.0 h.1;
  says = λ lt s. token-says-at p plain alive d s.ended s.left (sees p s.left) refl;
}

-- ---- one and then the other

module _ {A B C : Type 0} (f : A → B → C) (l m : Language A) (l' m' : A → Language B) (ex ex' : Language B) (d n : ℕ) (a : Law d n l m) (b : (x : A) → Law d n (l' x) (m' x))
    (ex-first : (k : Kind) → ex'.first k ≡ ex.first k) (ex-empty : ex'.empty ≡ ex.empty)
    (as-first : (x : A) (k : Kind) → (l' x).first k ≡ ex.first k) (as-empty : (x : A) → (l' x).empty ≡ ex.empty) (as-last : (x : A) (k : Kind) → (l' x).last k ≡ ex.last k)
    (alive : suc d < n → (x : A) → Alive ((m' x).means)) (apart : Apart l.last ex.first) where
  bind-same : (v v' : Bool) → v' ≡ v → (k : Kind) → ((if v' then (m.first or ex'.first) else m.first) k) ≡ ((if v then (l.first or ex.first) else l.first) k)
  bind-same true v' e k = rw (e, a.same k, ex-first k) refl
  bind-same false v' e k = rw (e, a.same k) refl

  first-in : (v : Bool) (k : Kind) → l.first k ≡ true → ((if v then (l.first or ex.first) else l.first) k) ≡ true
  first-in true k h = or_here (l.first k) (ex.first k) h
  first-in false k h = h

  second-first : (t : Lexeme) (vs : List Lexeme) (x : A) (y : B) → (m' x).means (t ∷ vs) y → ex.first t.kind ≡ true
  second-first t vs x y h = sym (as-first x t.kind) ∙ (b x).first t vs y h

  second-empty : (x : A) (y : B) → (m' x).means [] y → ex.empty ≡ true
  second-empty x y h = sym (as-empty x) ∙ (b x).empty y h

  bind-first : (t : Lexeme) (u us vs : List Lexeme) (x : A) (y : B) → t ∷ u ≡ us ++ vs → m.means us x → (m' x).means vs y → (bind f l l' ex).first t.kind ≡ true
  bind-first t u [] [] x y e g h = absurd (cc)
  bind-first t u [] (t' ∷ vs) x y e g h = rw (a.empty x g, head_of t t' u vs e) (either_true (l.first t'.kind) (ex.first t'.kind) (second-first t' vs x y h))
  bind-first t u (t' ∷ us) vs x y e g h = rw (head_of t t' u (us ++ vs) e) (first-in l.empty t'.kind (a.first t' us x g))

  last-right : (v : Bool) (o : Option Kind) → holds (if v then (ex.last or (ex.first or l.last)) else ex.last) o ≡ false → holds ex.last o ≡ false
  last-right true o h = holds-left ex.last (ex.first or l.last) o h
  last-right false o h = h

  last-left : (vs : List Lexeme) (x : A) (y : B) (r : List Lexeme) → (m' x).means vs y → holds (bind f l l' ex).last (kind_of r) ≡ false → holds l.last (kind_of (vs ++ r)) ≡ false
  unfolding kind_of
  last-left [] x y r h last = holds-right ex.first l.last (kind_of r) (holds-right ex.last (ex.first or l.last) (kind_of r) (rw (second-empty x y h) at last))
  last-left (t ∷ vs) x y r h last = apart t.kind (second-first t vs x y h)

  bind-complete : (us vs : List Lexeme) (x : A) (y : B) (e : ℕ) (r : List Lexeme) → m.means us x → (m' x).means vs y → walk d (us ++ vs) ≡ Some d → holds (bind f l l' ex).last (kind_of r) ≡ false
      → (bind f l l' ex).read (at e ((us ++ vs) ++ r)) ≡ Ok (f x y, at (ended_by e (us ++ vs)) r)
  bind-complete us vs x y e r g h w last =
      let sp = walk-split d d us vs w in
      let k : sp.0 ≡ d = balanced us n d sp.0 (a.fits us x g) sp.1 in
      let w1 : walk d us ≡ Some d = sp.1 ∙ ap Some k in
      let w2 : walk d vs ≡ Some d = ap (λ i. walk i vs) (sym k) ∙ sp.2 in
      let last2 : holds (l' x).last (kind_of r) ≡ false = holds-same (l' x).last ex.last (as-last x) (kind_of r) ∙ last-right ex.empty (kind_of r) last in
      rw (append_assoc us vs r, a.complete us x e (vs ++ r) g w1 (last-left vs x y r h last), (b x).complete vs y (ended_by e us) r h w2 last2, ended-append e us vs) refl

  pub bind_law : Law d n (bind f l l' ex) (bind f m m' ex')
  bind_law = record {
    same = bind-same l.empty m.empty a.same_empty;
    same_empty = rw (a.same_empty, ex-empty) refl;
    fits = λ u x h. rw h.4 (walk-both n n h.0 h.1 (Some n) (a.fits h.0 h.2 h.5) ((b h.2).fits h.1 h.3 h.6));
    first = λ t u x h. bind-first t u h.0 h.1 h.2 h.3 h.4 h.5 h.6;
    empty = λ z h. empty-both (λ u. m.means u h.2) (λ u. (m' h.2).means u h.3) l.empty ex.empty (a.empty h.2) (second-empty h.2 h.3) h.0 h.1 h.4 h.5 h.6;
    complete = λ u x e r h w last. rw (h.4, h.7) (bind-complete h.0 h.1 h.2 h.3 e r h.5 h.6 (rw h.4 at w) last);
    says = λ lt s. bind_says f m m' ex' (alive lt) d s (l.read s) (a.says lt s) (λ x. (l' x).read) (λ x s1 e. (b x).says lt s1);
  }

module _ {A B C : Type 0} (f : A → B → C) (l m : Language A) (l' m' : Language B) (d n : ℕ) (a : Law d n l m) (b : Law d n l' m') (alive : suc d < n → Alive (m'.means)) (apart : Apart l.last l'.first) where
  pub both_law : Law d n (both f l l') (both f m m')
  both_law = bind_law f l m (λ _. l') (λ _. m') l' m' d n a (λ _. b) b.same b.same_empty (λ x k. refl) (λ x. refl) (λ x k. refl) (λ lt x. alive lt) apart
