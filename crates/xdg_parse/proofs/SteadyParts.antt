-- Each combinator reads what it means, if its parts do so.
use Rattle.std.proofs.Common.{◌≡◌, ℕ, zero, suc, ◌<◌, Bool, true, false, ◌&&◌, if◌then◌else◌, List, [], ◌∷◌, ◌++◌, length, Ok, Err, refl, sym, ◌∙◌, ap, inl, inr, subst, append_assoc, length-append, arith}
use Rattle.xdg_base.specs.declared.places.Span.{Span}
use Rattle.xdg_ast.specs.Lexemes.{Lexeme}
use Rattle.xdg_ast.specs.Language.{Language, Kinds, kind_of, sees, start_of, ended_by, span_of, State, Outcome, ◌>>=◌, skip, next, read_token, token, nothing, bind, both, either, items, many, full, room, nested, spanned}
use Rattle.xdg_parse.specs.Steadiness.{at, Taken, Steady}
use Rattle.xdg_parse.proofs.Ended.{ended-append}
use Rattle.xdg_parse.proofs.Items.{Shortens}
use Rattle.xdg_facts.proofs.Truths.{either-of}

-- ---- outcomes

bind_ok : {A B : Type 0} (o : Outcome A) (f : A × State → Outcome B) (y : B × State) → (o >>= f) ≡ Ok y → (x : A × State) × (o ≡ Ok x) × (f x ≡ Ok y)
bind_ok (Ok x) f y h = (x, refl, h)
bind_ok (Err e) f y h = absurd (cc)

parts-of : {A : Type 0} → A × State → Outcome A → A × State
parts-of x (Ok y) = y
parts-of x (Err e) = x

ok-parts : {A : Type 0} (x y : A) (s t : State) → ◌≡◌ {A = Outcome A} (Ok (x, s)) (Ok (y, t)) → (x ≡ y) × (s ≡ t)
unfolding parts-of
ok-parts {A = A} x y s t h = (ap (λ o. (parts-of (x, s) o).0) h, ap (λ o. (parts-of (x, s) o).1) h)

-- ---- no tokens

-- nothing is said of no tokens by two together but where each says it of none
pub empty-both : (P Q : List Lexeme → Type 0) (v w : Bool) → (P [] → v ≡ true) → (Q [] → w ≡ true) → (us vs : List Lexeme) → [] ≡ us ++ vs → P us → Q vs → (v && w) ≡ true
empty-both P Q v w p q [] [] e a b = rw (p a, q b) refl
empty-both P Q v w p q [] (t ∷ vs) e a b = absurd (cc)
empty-both P Q v w p q (t ∷ us) vs e a b = absurd (cc)

-- what lacks the empty list takes a token
pub shortens_of : {A : Type 0} (l : Language A) → Steady l → l.empty ≡ false → Shortens l.read
shortens_of {A = A} l a e = record {
  shorter = λ s x s' r. let p = a.sound s x s' r in omega (arith, ap length p.split, length-append p.used s'.left, some x p.used p.means);
} where
  some : (x : A) (used : List Lexeme) → l.means used x → 0 < length used
  some x [] h = let i = a.empty x h in absurd (cc)
  some x (t ∷ used) h = omega arith

-- ---- tokens

token-taken : (p : Kinds) (e : ℕ) (ts : List Lexeme) (v : Bool) → sees p ts ≡ v → (x : Lexeme) (s' : State) → read_token p (at e ts) ≡ Ok (x, s') → Taken (token p) (at e ts) x s'
unfolding read_token kind_of next skip ended_by
token-taken p e ts false h x s' r = absurd (let i = rw h at r in cc)
token-taken p e [] true h x s' r = absurd (cc)
token-taken p e (t ∷ ts) true h x s' r =
    let i = ok-parts t x (at t.span.end ts) s' (rw h at r) in
    record {
      used = t ∷ [];
      split = ap (λ (s : State). t ∷ s.left) i.1;
      ended = sym (ap (λ (s : State). s.ended) i.1);
      means = (ap (λ (y : Lexeme). y ∷ []) i.0, rw (sym i.0) h);
    }

pub token_steady : (p : Kinds) → Steady (token p)
token_steady p = record { empty = λ x h. absurd (let i = h.0 in cc); sound = λ s x s' r. token-taken p s.ended s.left (sees p s.left) refl x s' r }

pub nothing_steady : {A : Type 0} (a : A) → Steady (nothing a)
unfolding ended_by
nothing_steady a = record {
  empty = λ x h. refl;
  sound = λ s x s' r.
      let i = ok-parts a x s s' r in
      record { used = []; split = ap (λ (u : State). u.left) i.1; ended = sym (ap (λ (u : State). u.ended) i.1); means = (refl, sym i.0) };
}

-- ---- over the states and the values of readings

moved : {A : Type 0} (l : Language A) (s : State) (x y : A) (s1 s2 : State) → x ≡ y → s1 ≡ s2 → Taken l s x s1 → Taken l s y s2
moved l s x y s1 s2 e i p = record {
  used = p.used;
  split = p.split ∙ ap (λ (u : State). p.used ++ u.left) i;
  ended = sym (ap (λ (u : State). u.ended) i) ∙ p.ended;
  means = subst (λ z. l.means p.used z) e p.means;
}

joined : {A B C : Type 0} (f : A → B → C) (l : Language A) (m : A → Language B) (example : Language B) (s : State) (x : A) (s1 : State) (y : B) (s2 : State) → Taken l s x s1 → Taken (m x) s1 y s2 → Taken (bind f l m example) s (f x y) s2
joined f l m example s x s1 y s2 p q = record {
  used = p.used ++ q.used;
  split = p.split ∙ rw q.split (sym (append_assoc p.used q.used s2.left));
  ended = q.ended ∙ rw p.ended (sym (ended-append s.ended p.used q.used));
  means = (p.used, q.used, x, y, refl, p.means, q.means, refl);
}

one-more : {A : Type 0} (l : Language A) (s : State) (x : A) (s1 : State) (xs : List A) (s2 : State) → Taken l s x s1 → Taken (many l) s1 xs s2 → Taken (many l) s (x ∷ xs) s2
one-more l s x s1 xs s2 p q = record {
  used = p.used ++ q.used;
  split = p.split ∙ rw q.split (sym (append_assoc p.used q.used s2.left));
  ended = q.ended ∙ rw p.ended (sym (ended-append s.ended p.used q.used));
  means = (p.used, q.used, refl, p.means, q.means);
}

closed : {A : Type 0} {L : Type 1} (op cl : Kinds) (j : L) (body : L → Language A) (e : ℕ) (o : Lexeme) (ts : List Lexeme) (x : A) (s1 : State) (c : Lexeme) (s2 : State) → op o.kind ≡ true
    → Taken (body j) (at o.span.end ts) x s1 → Taken (token cl) s1 c s2 → Taken (nested op cl (room j) body) (at e (o ∷ ts)) x s2
unfolding ended_by
closed op cl j body e o ts x s1 c s2 h p q =
    let closes : q.used ≡ c ∷ [] = q.means.0 in
    let left : s1.left ≡ (c ∷ []) ++ s2.left = q.split ∙ ap (λ us. us ++ s2.left) closes in
    let over : s2.ended ≡ ended_by s1.ended (c ∷ []) = q.ended ∙ ap (ended_by s1.ended) closes in
    record {
      used = o ∷ (p.used ++ c ∷ []);
      split = ap (λ us. o ∷ us) (p.split ∙ ap (λ us. p.used ++ us) left ∙ sym (append_assoc p.used (c ∷ []) s2.left));
      ended = over ∙ ap (λ n. ended_by n (c ∷ [])) p.ended ∙ sym (ended-append o.span.end p.used (c ∷ []));
      means = (o, p.used, c, refl, h, q.means.1, p.means);
    }

same-span : (used : List Lexeme) (e : ℕ) (r : List Lexeme) → length r < length (used ++ r) → (start_of (used ++ r) ≡ start_of used) × (ended_by e used ≡ ended_by 0 used)
unfolding start_of ended_by
same-span [] e r lt = absurd (omega arith)
same-span (t ∷ used) e r lt = (refl, refl)

span-of : (s : State) (used : List Lexeme) (s1 : State) → s.left ≡ used ++ s1.left → s1.ended ≡ ended_by s.ended used → length s1.left < length s.left
    → ◌≡◌ {A = Span} (record { start = start_of s.left; end = s1.ended }) (span_of used)
span-of s used s1 e i lt =
    let same = same-span used s.ended s1.left (rw e at lt) in
    rw (e, i, same.0, same.1) refl

with-span : {A B : Type 0} (f : Span → A → B) (l : Language A) (s : State) (x : A) (s1 : State) → Taken l s x s1 → length s1.left < length s.left
    → Taken (spanned f l) s (f (record { start = start_of s.left; end = s1.ended }) x) s1
with-span f l s x s1 p lt = record {
  used = p.used;
  split = p.split;
  ended = p.ended;
  means = (span_of p.used, x, refl, p.means, ap (λ i. f i x) (span-of s p.used s1 p.split p.ended lt));
}

-- ---- the combinators

pub bind_steady : {A B C : Type 0} (f : A → B → C) (l : Language A) (m : A → Language B) (example : Language B) → Steady l → ((x : A) → Steady (m x)) → ((x : A) → (m x).empty ≡ example.empty) → Steady (bind f l m example)
bind_steady f l m example a b e = record {
  empty = λ z h. empty-both (λ u. l.means u h.2) (λ u. (m h.2).means u h.3) l.empty example.empty (a.empty h.2) (λ g. sym (e h.2) ∙ (b h.2).empty h.3 g) h.0 h.1 h.4 h.5 h.6;
  sound = λ s z s' r.
      let g = bind_ok (l.read s) (λ x. (m x.0).read x.1 >>= λ y. Ok (f x.0 y.0, y.1)) (z, s') r in
      let h = bind_ok ((m g.0.0).read g.0.1) (λ y. Ok (f g.0.0 y.0, y.1)) (z, s') g.2 in
      let i = ok-parts (f g.0.0 h.0.0) z h.0.1 s' h.2 in
      moved (bind f l m example) s (f g.0.0 h.0.0) z h.0.1 s' i.0 i.1 (joined f l m example s g.0.0 g.0.1 h.0.0 h.0.1 (a.sound s g.0.0 g.0.1 g.1) ((b g.0.0).sound g.0.1 h.0.0 h.0.1 h.1));
}

pub both_steady : {A B C : Type 0} (f : A → B → C) (l : Language A) (m : Language B) → Steady l → Steady m → Steady (both f l m)
both_steady f l m a b = bind_steady f l (λ _. m) m a (λ _. b) (λ _. refl)

either-taken : {A : Type 0} (l m : Language A) → Steady l → Steady m → (v : Bool) (s : State) (x : A) (s' : State) → (if v then l.read s else m.read s) ≡ Ok (x, s') → Taken (either l m) s x s'
either-taken l m a b true s x s' r = let p = a.sound s x s' r in record { used = p.used; split = p.split; ended = p.ended; means = inl p.means }
either-taken l m a b false s x s' r = let p = b.sound s x s' r in record { used = p.used; split = p.split; ended = p.ended; means = inr p.means }

pub either_steady : {A : Type 0} (l m : Language A) → Steady l → Steady m → Steady (either l m)
either_steady l m a b = record { empty = λ x h. either-of l.empty m.empty (a.empty x) (b.empty x) h; sound = λ s x s' r. either-taken l m a b (sees l.first s.left) s x s' r }

none-taken : {A : Type 0} (l : Language A) (s : State) (xs : List A) (s' : State) → ◌≡◌ {A = Outcome (List A)} (Ok ([], s)) (Ok (xs, s')) → Taken (many l) s xs s'
unfolding ended_by
none-taken l s xs s' r =
    let i = ok-parts [] xs s s' r in
    record { used = []; split = ap (λ (u : State). u.left) i.1; ended = sym (ap (λ (u : State). u.ended) i.1); means = rw (sym i.0) refl }

items-taken : {A : Type 0} (l : Language A) → Steady l → (n : ℕ) (s : State) (v : Bool) → sees l.first s.left ≡ v → (xs : List A) (s' : State) → items l.first l.read n s ≡ Ok (xs, s') → Taken (many l) s xs s'
unfolding items
items-taken l a zero s v h xs s' r = none-taken l s xs s' r
items-taken l a (suc n) s false h xs s' r = none-taken l s xs s' (rw h at r)
items-taken l a (suc n) s true h xs s' r =
    let g = bind_ok (l.read s) (λ x. items l.first l.read n x.1 >>= λ ys. Ok (x.0 ∷ ys.0, ys.1)) (xs, s') (rw h at r) in
    let k = bind_ok (items l.first l.read n g.0.1) (λ ys. Ok (g.0.0 ∷ ys.0, ys.1)) (xs, s') g.2 in
    let i = ok-parts (g.0.0 ∷ k.0.0) xs k.0.1 s' k.2 in
    moved (many l) s (g.0.0 ∷ k.0.0) xs k.0.1 s' i.0 i.1 (one-more l s g.0.0 g.0.1 k.0.0 k.0.1 (a.sound s g.0.0 g.0.1 g.1) (items-taken l a n g.0.1 (sees l.first g.0.1.left) refl k.0.0 k.0.1 k.1))

pub many_steady : {A : Type 0} (l : Language A) → Steady l → Steady (many l)
many_steady l a = record { empty = λ xs h. refl; sound = λ s xs s' r. items-taken l a (length s.left) s (sees l.first s.left) refl xs s' r }

module _ {A : Type 0} {L : Type 1} (op cl : Kinds) (body : L → Language A) where
  full-taken : (s : State) (v : Bool) → sees op s.left ≡ v → (x : A) (s' : State) → (nested op cl full body).read s ≡ Ok (x, s') → Taken (nested op cl full body) s x s'
  full-taken s false h x s' r = absurd (let i = rw h at r in cc)
  full-taken s true h x s' r = absurd (let i = rw h at r in cc)

  pub full_steady : Steady (nested op cl full body)
  full_steady = record { empty = λ x h. absurd h; sound = λ s x s' r. full-taken s (sees op s.left) refl x s' r }

  room-taken : (j : L) → Steady (body j) → (e : ℕ) (ts : List Lexeme) (v : Bool) → sees op ts ≡ v → (x : A) (s' : State) → (nested op cl (room j) body).read (at e ts) ≡ Ok (x, s') → Taken (nested op cl (room j) body) (at e ts) x s'
  unfolding kind_of skip ended_by
  room-taken j a e ts false h x s' r = absurd (let i = rw h at r in cc)
  room-taken j a e [] true h x s' r = absurd (cc)
  room-taken j a e (o ∷ ts) true h x s' r =
      let g = bind_ok ((body j).read (at o.span.end ts)) (λ y. read_token cl y.1 >>= λ c. Ok (y.0, c.1)) (x, s') (rw h at r) in
      let k = bind_ok (read_token cl g.0.1) (λ c. Ok (g.0.0, c.1)) (x, s') g.2 in
      let i = ok-parts g.0.0 x k.0.1 s' k.2 in
      moved (nested op cl (room j) body) (at e (o ∷ ts)) g.0.0 x k.0.1 s' i.0 i.1 (closed op cl j body e o ts g.0.0 g.0.1 k.0.0 k.0.1 h (a.sound (at o.span.end ts) g.0.0 g.0.1 g.1) ((token_steady cl).sound g.0.1 k.0.0 k.0.1 k.1))

  pub room_steady : (j : L) → Steady (body j) → Steady (nested op cl (room j) body)
  room_steady j a = record { empty = λ x h. absurd (let i = h.3 in cc); sound = λ s x s' r. room-taken j a s.ended s.left (sees op s.left) refl x s' r }

module _ {A B : Type 0} (f : Span → A → B) (l : Language A) (a : Steady l) (some : l.empty ≡ false) where
  pub spanned_steady : Steady (spanned f l)
  spanned_steady = record {
    empty = λ x h. a.empty h.1 h.3;
    sound = λ s z s' r.
        let g = bind_ok (l.read s) (λ x. Ok (f (record { start = start_of s.left; end = x.1.ended }) x.0, x.1)) (z, s') r in
        let i = ok-parts (f (record { start = start_of s.left; end = g.0.1.ended }) g.0.0) z g.0.1 s' g.2 in
        moved (spanned f l) s (f (record { start = start_of s.left; end = g.0.1.ended }) g.0.0) z g.0.1 s' i.0 i.1 (with-span f l s g.0.0 g.0.1 (a.sound s g.0.0 g.0.1 g.1) ((shortens_of l a some).shorter s g.0.0 g.0.1 g.1));
  }
