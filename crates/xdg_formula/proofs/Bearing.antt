-- What a list of tokens stands for, another one stands for too, with other names, if its tokens are of the same kinds.
use Rattle.std.proofs.Common.{◌≡◌, true, ◌⊎◌, List, [], ◌∷◌, ◌++◌, refl, ◌∙◌, ap, subst, inl, inr}
use Rattle.xdg_base.specs.declared.places.Span.{Span}
use Rattle.xdg_ast.specs.declared.token.Kind.{Kind}
use Rattle.xdg_ast.specs.Lexemes.{Lexeme}
use Rattle.xdg_ast.specs.Language.{Language, Kinds, span_of, each, token, nothing, both, either, many, full, room, nested, spanned}
use Rattle.xdg_formula.proofs.Tokens.{is_taken}

-- the second list has the kinds of the first, as far as rules take them
abbrev pub Alike : List Lexeme → List Lexeme → Type 0
Alike [] [] = Unit {0}
Alike (t ∷ ts) (u ∷ us) = (is_taken t.kind ≡ true → u.kind ≡ t.kind) × Alike ts us
Alike _ _ = ⊥

pub alike-self : (ts : List Lexeme) → Alike ts ts
alike-self [] = tt
alike-self (t ∷ ts) = ((λ h. refl), alike-self ts)

pub alike-both : (a b c d : List Lexeme) → Alike a b → Alike c d → Alike (a ++ c) (b ++ d)
alike-both [] [] c d h g = g
alike-both [] (u ∷ b) c d h g = absurd h
alike-both (t ∷ a) [] c d h g = absurd h
alike-both (t ∷ a) (u ∷ b) c d h g = (h.0, alike-both a b c d h.1 g)

-- what is alike to two lists, one behind the other
pub record Parted (a b w : List Lexeme) : Type 0 where
  pub left : List Lexeme
  pub right : List Lexeme
  pub split : w ≡ left ++ right
  pub first : Alike a left
  pub second : Alike b right

-- what is alike to a list with a first token
pub record Fronted (t : Lexeme) (ts w : List Lexeme) : Type 0 where
  pub head : Lexeme
  pub rest : List Lexeme
  pub split : w ≡ head ∷ rest
  pub same : is_taken t.kind ≡ true → head.kind ≡ t.kind
  pub behind_it : Alike ts rest

pub fronted : (t : Lexeme) (ts w : List Lexeme) → Alike (t ∷ ts) w → Fronted t ts w
fronted t ts [] h = absurd h
fronted t ts (u ∷ us) h = record { head = u; rest = us; split = refl; same = h.0; behind_it = h.1 }

pub emptied : (w : List Lexeme) → Alike [] w → w ≡ []
emptied [] h = refl
emptied (u ∷ w) h = absurd h

pub parted : (a b w : List Lexeme) → Alike (a ++ b) w → Parted a b w
parted [] b w h = record { left = []; right = w; split = refl; first = tt; second = h }
parted (t ∷ a) b w h =
    let f = fronted t (a ++ b) w h in
    let p = parted a b f.rest f.behind_it in
    record { left = f.head ∷ p.left; right = p.right; split = f.split ∙ ap (λ us. f.head ∷ us) p.split; first = (f.same, p.first); second = p.second }

-- ---- languages

-- tokens that are alike stand for something too
pub record Bears {A : Type 0} (l : Language A) : Type 0 where
  pub by : (ts us : List Lexeme) (x : A) → Alike ts us → l.means ts x → (y : A) × l.means us y

token-bears : (p : Kinds) → ((kind : Kind) → p kind ≡ true → is_taken kind ≡ true) → (ts us : List Lexeme) (x : Lexeme) → Alike ts us → ts ≡ x ∷ [] → p x.kind ≡ true → (y : Lexeme) × ((us ≡ y ∷ []) × (p y.kind ≡ true))
token-bears p taken ts us x h e g =
    let f = fronted x [] us (subst (λ z. Alike z us) e h) in
    (f.head, (f.split ∙ ap (λ vs. f.head ∷ vs) (emptied f.rest f.behind_it), ap p (f.same (taken x.kind g)) ∙ g))

pub token_bears : (p : Kinds) → ((kind : Kind) → p kind ≡ true → is_taken kind ≡ true) → Bears (token p)
token_bears p taken = record { by = λ ts us x h m. token-bears p taken ts us x h m.0 m.1 }

pub nothing_bears : {A : Type 0} (a : A) → Bears (nothing a)
nothing_bears a = record { by = λ ts us x h m. (a, (emptied us (subst (λ z. Alike z us) m.0 h), refl)) }

pub both_bears : {A B C : Type 0} (f : A → B → C) (l : Language A) (m : Language B) → Bears l → Bears m → Bears (both f l m)
both_bears f l m a b = record {
  by = λ ts ws x h g.
      let p = parted g.0 g.1 ws (subst (λ z. Alike z ws) g.4 h) in
      let c = a.by g.0 p.left g.2 p.first g.5 in
      let d = b.by g.1 p.right g.3 p.second g.6 in
      (f c.0 d.0, (p.left, p.right, c.0, d.0, p.split, c.1, d.1, refl));
}

either-bears : {A : Type 0} (l m : Language A) → Bears l → Bears m → (ts us : List Lexeme) (x : A) → Alike ts us → (l.means ts x ⊎ m.means ts x) → (y : A) × (l.means us y ⊎ m.means us y)
either-bears l m a b ts us x h (inl g) = let c = a.by ts us x h g in (c.0, inl c.1)
either-bears l m a b ts us x h (inr g) = let c = b.by ts us x h g in (c.0, inr c.1)

pub either_bears : {A : Type 0} (l m : Language A) → Bears l → Bears m → Bears (either l m)
either_bears l m a b = record { by = either-bears l m a b }

each-bears : {A : Type 0} (l : Language A) → Bears l → (xs : List A) (ts us : List Lexeme) → Alike ts us → each l.means ts xs → (ys : List A) × each l.means us ys
each-bears l a [] ts us h g = ([], emptied us (subst (λ z. Alike z us) g h))
each-bears l a (x ∷ xs) ts us h g =
    let p = parted g.0 g.1 us (subst (λ z. Alike z us) g.2 h) in
    let c = a.by g.0 p.left x p.first g.3 in
    let d = each-bears l a xs g.1 p.right p.second g.4 in
    (c.0 ∷ d.0, (p.left, p.right, p.split, c.1, d.1))

pub many_bears : {A : Type 0} (l : Language A) → Bears l → Bears (many l)
many_bears l a = record { by = λ ts us xs h g. each-bears l a xs ts us h g }

module _ {A : Type 0} {L : Type 1} (op cl : Kinds) (op-taken : (kind : Kind) → op kind ≡ true → is_taken kind ≡ true) (cl-taken : (kind : Kind) → cl kind ≡ true → is_taken kind ≡ true) (body : L → Language A) where
  pub full_bears : Bears (nested op cl full body)
  full_bears = record { by = λ ts us x h g. absurd g }

  pub room_bears : (j : L) → Bears (body j) → Bears (nested op cl (room j) body)
  room_bears j a = record {
    by = λ ts ws x h g.
        let f = fronted g.0 (g.1 ++ g.2 ∷ []) ws (subst (λ z. Alike z ws) g.3 h) in
        let p = parted g.1 (g.2 ∷ []) f.rest f.behind_it in
        let e = fronted g.2 [] p.right p.second in
        let c = a.by g.1 p.left x p.first g.6 in
        let closes : p.right ≡ e.head ∷ [] = e.split ∙ ap (λ us. e.head ∷ us) (emptied e.rest e.behind_it) in
        let all : ws ≡ f.head ∷ (p.left ++ e.head ∷ []) = f.split ∙ ap (λ us. f.head ∷ us) (p.split ∙ ap (λ us. p.left ++ us) closes) in
        (c.0, (f.head, p.left, e.head, all, ap op (f.same (op-taken g.0.kind g.4)) ∙ g.4, ap cl (e.same (cl-taken g.2.kind g.5)) ∙ g.5, c.1));
  }

pub spanned_bears : {A B : Type 0} (f : Span → A → B) (l : Language A) → Bears l → Bears (spanned f l)
spanned_bears f l a = record {
  by = λ ts us x h g.
      let c = a.by ts us g.1 h g.3 in
      (f (span_of us) c.0, (span_of us, c.0, refl, c.1, refl));
}
