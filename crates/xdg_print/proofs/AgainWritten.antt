-- Words of which a language reads all token lists, and what is read of spellable tokens, a combinator at a time.
use Rattle.std.proofs.Common.{◌≡◌, true, List, [], ◌∷◌, ◌++◌, map, flat_map, refl, sym, ap, ◌∙◌, subst, inl, inr}
use Rattle.std.specs.List.{AllByRecursion, AllZip}
use Rattle.std.proofs.lemmas.List.{append-nil, map-append}
use Rattle.xdg_base.specs.declared.places.Span.{Span}
use Rattle.xdg_ast.specs.declared.token.Kind.{Kind}
use Rattle.xdg_ast.specs.Lexemes.{Lexeme}
use Rattle.xdg_ast.specs.Language.{Language, Kinds, is, span_of, room, token, nothing, bind, both, either, each, many, nested, spanned, made, behind}
use Rattle.xdg_ast.specs.Words.{Word, word_of, mark, IsSpellable, AreSpellable}

-- ---- lists of words

pub spellable-both : (ws vs : List Word) → AreSpellable ws → AreSpellable vs → AreSpellable (ws ++ vs)
spellable-both [] vs a b = b
spellable-both (w ∷ ws) vs a b = (a.0, spellable-both ws vs a.1 b)

pub spellable-split : (ws vs : List Word) → AreSpellable (ws ++ vs) → AreSpellable ws × AreSpellable vs
spellable-split [] vs a = (tt, a)
spellable-split (w ∷ ws) vs a = let h = spellable-split ws vs a.1 in ((a.0, h.0), h.1)

spellable-parts : (ts us vs : List Lexeme) → ts ≡ us ++ vs → AreSpellable (map word_of ts) → AreSpellable (map word_of us) × AreSpellable (map word_of vs)
spellable-parts ts us vs e a = spellable-split (map word_of us) (map word_of vs) (subst AreSpellable (ap (map word_of) e ∙ map-append word_of us vs) a)

-- tokens of two lists of words are tokens of the one and tokens of the other
pub record Split (us : List Lexeme) (ws vs : List Word) : Type 0 where
  pub front : List Lexeme
  pub back : List Lexeme
  pub split : us ≡ front ++ back
  pub front_is : map word_of front ≡ ws
  pub back_is : map word_of back ≡ vs

pub split_words : (us : List Lexeme) (ws vs : List Word) → map word_of us ≡ ws ++ vs → Split us ws vs
split_words us [] vs h = record { front = []; back = us; split = refl; front_is = refl; back_is = h }
split_words [] (w ∷ ws) vs h = absurd (cc)
split_words (u ∷ us) (w ∷ ws) vs h =
    let e : word_of u ≡ w = cc in
    let i : map word_of us ≡ ws ++ vs = cc in
    let s = split_words us ws vs i in
    record { front = u ∷ s.front; back = s.back; split = ap (λ ts. u ∷ ts) s.split; front_is = ap (λ v. v ∷ map word_of s.front) e ∙ ap (λ vs. w ∷ vs) s.front_is; back_is = s.back_is }

pub no_tokens : (us : List Lexeme) → map word_of us ≡ [] → us ≡ []
no_tokens [] h = refl
no_tokens (u ∷ us) h = absurd (cc)

pub one_token : (us : List Lexeme) (w : Word) → map word_of us ≡ w ∷ [] → (u : Lexeme) × (us ≡ u ∷ []) × (word_of u ≡ w)
one_token [] w h = absurd (cc)
one_token (u ∷ []) w h = (u, refl, (cc))
one_token (u ∷ (v ∷ us)) w h = absurd (let i : word_of v ∷ map word_of us ≡ [] = cc in cc)

-- ---- words of which a language reads all token lists

pub record Written {A : Type 0} (l : Language A) (words : List Word) (P : A → Type 0) : Type 0 where
  pub spellable : AreSpellable words
  pub again : (us : List Lexeme) → map word_of us ≡ words → (x : A) × l.means us x × P x

pub weaker : {A : Type 0} {l : Language A} {ws : List Word} {P Q : A → Type 0} → Written l ws P → ((x : A) → P x → Q x) → Written l ws Q
weaker a f = record { spellable = a.spellable; again = λ us h. let i = a.again us h in (i.0, i.1, f i.0 i.2) }

pub at_words : {A : Type 0} {l : Language A} {ws vs : List Word} {P : A → Type 0} → ws ≡ vs → Written l ws P → Written l vs P
at_words {A} {l} {ws} {vs} {P} e a = subst (λ us. Written l us P) e a

pub token_written : (p : Kinds) (w : Word) → IsSpellable w → p w.kind ≡ true → Written (token p) (w ∷ []) (λ t. word_of t ≡ w)
token_written p w s h = record {
  spellable = (s, tt);
  again = λ us i. let o = one_token us w i in (o.0, (o.1, ap (λ (v : Word). p v.kind) o.2 ∙ h), o.2);
}

pub nothing_written : {A : Type 0} {a : A} {P : A → Type 0} → P a → Written (nothing a) [] P
nothing_written {A} {a} p = record { spellable = tt; again = λ us i. (a, (no_tokens us i, refl), p) }

pub bind_written : {A B C : Type 0} {f : A → B → C} {l : Language A} {m : A → Language B} (example : Language B) (ws vs : List Word) {P : A → Type 0} {Q : B → Type 0} {R : C → Type 0}
    → Written l ws P → AreSpellable vs → ((a : A) → P a → Written (m a) vs Q) → ((a : A) (b : B) → P a → Q b → R (f a b)) → Written (bind f l m example) (ws ++ vs) R
bind_written {A} {B} {C} {f} example ws vs a sp b r = record {
  spellable = spellable-both ws vs a.spellable sp;
  again = λ us i.
      let s = split_words us ws vs i in
      let x = a.again s.front s.front_is in
      let y = (b x.0 x.2).again s.back s.back_is in
      (f x.0 y.0, (s.front, s.back, x.0, y.0, s.split, x.1, y.1, refl), r x.0 y.0 x.2 y.2);
}

pub both_written : {A B C : Type 0} {f : A → B → C} {l : Language A} {m : Language B} {ws vs : List Word} {P : A → Type 0} {Q : B → Type 0} {R : C → Type 0}
    → Written l ws P → Written m vs Q → ((a : A) (b : B) → P a → Q b → R (f a b)) → Written (both f l m) (ws ++ vs) R
both_written {A} {B} {C} {f} {l} {m} {ws} {vs} a b r = bind_written {m = λ _. m} m ws vs a b.spellable (λ _ _. b) r

pub made_written : {A B : Type 0} {f : A → B} {l : Language A} {ws : List Word} {P : A → Type 0} {Q : B → Type 0} → Written l ws P → ((a : A) → P a → Q (f a)) → Written (made f l) ws Q
made_written {A} {B} {f} a q = record {
  spellable = a.spellable;
  again = λ us i. let x = a.again us i in (f x.0, (us, [], x.0, tt, sym (append-nil us), x.1, (refl, refl), refl), q x.0 x.2);
}

-- a token that is not kept, and then the other
pub behind_written : {A : Type 0} {l : Language A} {ws : List Word} {P : A → Type 0} (kind : Kind) → IsSpellable (mark kind) → is kind kind ≡ true → Written l ws P → Written (behind (token (is kind)) l) (mark kind ∷ ws) P
behind_written kind s h a = both_written (token_written (is kind) (mark kind) s h) a (λ _ _ _ p. p)

pub spanned_written : {A B : Type 0} {f : Span → A → B} {l : Language A} {ws : List Word} {P : A → Type 0} {Q : B → Type 0} → Written l ws P → ((s : Span) (a : A) → P a → Q (f s a)) → Written (spanned f l) ws Q
spanned_written {A} {B} {f} a q = record {
  spellable = a.spellable;
  again = λ us i. let x = a.again us i in (f (span_of us) x.0, (span_of us, x.0, refl, x.1, refl), q (span_of us) x.0 x.2);
}

pub many_written : {A : Type 0} (l : Language A) (R : A → A → Type 0) (w : A → List Word) (xs : List A) → AllByRecursion (λ x. Written l (w x) (λ y. R y x)) xs → Written (many l) (flat_map w xs) (λ ys. AllZip R ys xs)
many_written l R w [] e = record { spellable = tt; again = λ us i. ([], no_tokens us i, tt) }
many_written l R w (x ∷ xs) e =
    let b = many_written l R w xs e.1 in
    record {
      spellable = spellable-both (w x) (flat_map w xs) e.0.spellable b.spellable;
      again = λ us i.
          let s = split_words us (w x) (flat_map w xs) i in
          let y = e.0.again s.front s.front_is in
          let ys = b.again s.back s.back_is in
          (y.0 ∷ ys.0, (s.front, s.back, s.split, y.1, ys.1), (y.2, ys.2));
    }

pub room_written : {A : Type 0} {L : Type 1} (op cl : Kind) (j : L) (body : L → Language A) {ws : List Word} {P : A → Type 0}
    → IsSpellable (mark op) → is op op ≡ true → IsSpellable (mark cl) → is cl cl ≡ true → Written (body j) ws P → Written (nested (is op) (is cl) (room j) body) (mark op ∷ (ws ++ mark cl ∷ [])) P
room_written op cl j body {ws} so io sc ic a = record {
  spellable = (so, spellable-both ws (mark cl ∷ []) a.spellable (sc, tt));
  again = λ us i.
      let s = split_words us (mark op ∷ []) (ws ++ mark cl ∷ []) i in
      let r = split_words s.back ws (mark cl ∷ []) s.back_is in
      let o = one_token s.front (mark op) s.front_is in
      let c = one_token r.back (mark cl) r.back_is in
      let x = a.again r.front r.front_is in
      let e : us ≡ o.0 ∷ (r.front ++ c.0 ∷ []) = s.split ∙ (ap (λ ts. ts ++ s.back) o.1 ∙ ap (λ ts. o.0 ∷ ts) (r.split ∙ ap (λ ts. r.front ++ ts) c.1)) in
      (x.0, (o.0, r.front, c.0, e, ap (λ (v : Word). is op v.kind) o.2 ∙ io, ap (λ (v : Word). is cl v.kind) c.2 ∙ ic, x.1), x.2);
}

-- ---- what is read of spellable tokens

pub record Gives {A : Type 0} (l : Language A) (G : A → Type 0) : Type 0 where
  pub by : (ts : List Lexeme) (x : A) → l.means ts x → AreSpellable (map word_of ts) → G x

pub token_gives : {p : Kinds} {G : Lexeme → Type 0} → ((t : Lexeme) → p t.kind ≡ true → IsSpellable (word_of t) → G t) → Gives (token p) G
token_gives g = record { by = λ ts x h s. let i : AreSpellable (word_of x ∷ []) = subst (λ us. AreSpellable (map word_of us)) h.0 s in g x h.1 i.0 }

pub nothing_gives : {A : Type 0} {a : A} {G : A → Type 0} → G a → Gives (nothing a) G
nothing_gives {A} {a} {G} g = record { by = λ ts x h s. subst G (sym h.1) g }

pub bind_gives : {A B C : Type 0} {f : A → B → C} {l : Language A} {m : A → Language B} (example : Language B) {G : A → Type 0} {H : A → B → Type 0} {K : C → Type 0}
    → Gives l G → ((a : A) → Gives (m a) (H a)) → ((a : A) (b : B) → G a → H a b → K (f a b)) → Gives (bind f l m example) K
bind_gives {A} {B} {C} {f} {l} {m} example {G} {H} {K} a b k = record {
  by = λ ts x h s.
      let i = spellable-parts ts h.0 h.1 h.4 s in
      subst K (sym h.7) (k h.2 h.3 (a.by h.0 h.2 h.5 i.0) ((b h.2).by h.1 h.3 h.6 i.1));
}

pub both_gives : {A B C : Type 0} {f : A → B → C} {l : Language A} {m : Language B} {G : A → Type 0} {H : B → Type 0} {K : C → Type 0}
    → Gives l G → Gives m H → ((a : A) (b : B) → G a → H b → K (f a b)) → Gives (both f l m) K
both_gives {A} {B} {C} {f} {l} {m} {G} {H} {K} a b k = bind_gives {m = λ _. m} m {H = λ _. H} a (λ _. b) k

pub made_gives : {A B : Type 0} {f : A → B} {l : Language A} {G : A → Type 0} {K : B → Type 0} → Gives l G → ((a : A) → G a → K (f a)) → Gives (made f l) K
made_gives a k = both_gives {H = λ _. Unit {0}} a (nothing_gives tt) (λ x _ g _. k x g)

pub behind_gives : {A B : Type 0} (l : Language A) {m : Language B} {G : B → Type 0} → Gives m G → Gives (behind l m) G
behind_gives l b = both_gives {G = λ _. Unit {0}} (record { by = λ ts x h s. tt }) b (λ _ _ _ g. g)

pub either_gives : {A : Type 0} {l m : Language A} {G : A → Type 0} → Gives l G → Gives m G → Gives (either l m) G
either_gives {A} {l} {m} {G} a b = record { by = λ ts x h s. elim h as (λ _. G x) [ inl i ↦ a.by ts x i s | inr i ↦ b.by ts x i s ] }

each_gives : {A : Type 0} {l : Language A} {G : A → Type 0} → Gives l G → (xs : List A) (ts : List Lexeme) → each l.means ts xs → AreSpellable (map word_of ts) → AllByRecursion G xs
each_gives a [] ts h s = tt
each_gives a (x ∷ xs) ts h s =
    let i = spellable-parts ts h.0 h.1 h.2 s in
    (a.by h.0 x h.3 i.0, each_gives a xs h.1 h.4 i.1)

pub many_gives : {A : Type 0} {l : Language A} {G : A → Type 0} → Gives l G → Gives (many l) (AllByRecursion G)
many_gives a = record { by = λ ts xs h s. each_gives a xs ts h s }

pub spanned_gives : {A B : Type 0} {f : Span → A → B} {l : Language A} {G : A → Type 0} {K : B → Type 0} → Gives l G → ((s : Span) (a : A) → G a → K (f s a)) → Gives (spanned f l) K
spanned_gives {A} {B} {f} {l} {G} {K} a k = record { by = λ ts x h s. subst K (sym h.4) (k h.0 h.1 (a.by ts h.1 h.3 s)) }

pub room_gives : {A : Type 0} {L : Type 1} (op cl : Kinds) (j : L) (body : L → Language A) (G : A → Type 0) → Gives (body j) G → Gives (nested op cl (room j) body) G
room_gives op cl j body G a = record {
  by = λ ts x h s.
      let i : AreSpellable (word_of h.0 ∷ map word_of (h.1 ++ h.2 ∷ [])) = subst (λ us. AreSpellable (map word_of us)) h.3 s in
      let k = spellable-parts (h.1 ++ h.2 ∷ []) h.1 (h.2 ∷ []) refl i.1 in
      a.by h.1 x h.6 k.0;
}

pub stronger : {A : Type 0} {l : Language A} {G K : A → Type 0} → Gives l G → ((x : A) → G x → K x) → Gives l K
stronger a f = record { by = λ ts x h s. f x (a.by ts x h s) }

pub both_given : {A : Type 0} {l : Language A} {G K : A → Type 0} → Gives l G → Gives l K → Gives l (λ x. G x × K x)
both_given a b = record { by = λ ts x h s. (a.by ts x h s, b.by ts x h s) }

-- what the one language means, the other does too
pub written_in : {A : Type 0} {l m : Language A} {ws : List Word} {P : A → Type 0} → Written l ws P → ((ts : List Lexeme) (x : A) → l.means ts x → m.means ts x) → Written m ws P
written_in a f = record { spellable = a.spellable; again = λ us i. let x = a.again us i in (x.0, f us x.0 x.1, x.2) }
