-- Conjunctions and disjunctions are read again, with the brackets that they need.
use Rattle.std.proofs.Common.{◌≡◌, List, [], ◌∷◌, ◌++◌, map, flat_map, refl, sym, ap, ◌∙◌, subst}
use Rattle.std.specs.List.{AllByRecursion, AllZip}
use Rattle.std.proofs.lemmas.List.{append-nil}
use Rattle.xdg_base.specs.declared.places.Span.{Span}
use Rattle.xdg_ast.specs.declared.token.Kind.{Kind}
use Rattle.xdg_ast.specs.declared.token.Kind.TheVariants as k
use Rattle.xdg_ast.specs.Lexemes.{Lexeme}
use Rattle.xdg_ast.specs.declared.names.Spanned.{Spanned}
use Rattle.xdg_ast.specs.Language.{Language, is, token, many, spanned, made, behind, chain}
use Rattle.xdg_ast.specs.Grammar.{at_span}
use Rattle.xdg_ast.specs.Words.{Word, mark}
use Rattle.xdg_ast.specs.Trees.{in_parentheses, Form, single, conjunction, disjunction, Phrase, in_conjunction, in_disjunction, each_behind, separated, conjoined, disjoined, plainly}
use Rattle.xdg_print.proofs.AgainWritten.{Written, weaker, stronger, at_words, both_written, behind_written, spanned_written, made_written, written_in, many_written, no_tokens, Gives, both_gives, behind_gives, many_gives, spanned_gives, made_gives}
use Rattle.xdg_facts.proofs.Each.{each_weaker}
use Rattle.xdg_facts.proofs.Lists.{fused}
use Rattle.xdg_print.proofs.AgainNames.{Like, Kept, Keeps, likes}

-- how members are joined: by one way alone a member stays as it is, and more are a phrase of theirs
pub record Joins {A B : Type 0} (bare : A → B) (phrase : A → Phrase) (join : Span → List A → A) (glue : List Phrase → Phrase) : Type 0 where
  pub one : (s : Span) (x : A) → join s (x ∷ []) ≡ x
  pub phrase_is : (s : Span) (x y : A) (xs : List A) → phrase (join s (x ∷ (y ∷ xs))) ≡ glue (map phrase (x ∷ (y ∷ xs)))
  pub bare_is : (s s' : Span) (x y x' y' : A) (xs xs' : List A) → map bare (x' ∷ (y' ∷ xs')) ≡ map bare (x ∷ (y ∷ xs)) → bare (join s' (x' ∷ (y' ∷ xs'))) ≡ bare (join s (x ∷ (y ∷ xs)))

pub record Joining (A B : Type 0) : Type 0 where
  pub bare : A → B
  pub phrase : A → Phrase
  pub all : Span → List A → A
  pub any : Span → List A → A
  pub by_all : Joins bare phrase all conjoined
  pub by_any : Joins bare phrase any disjoined

abbrev pub conj_of : {A B : Type 0} → Joining A B → Language A → Language A → Language A
conj_of j p np = spanned j.all (chain p np)

abbrev pub next_of : {A B : Type 0} → Joining A B → Language A → Language A → Language A
next_of j p np = behind (token (is k.Bar)) (conj_of j p np)

abbrev pub disj_of : {A B : Type 0} → Joining A B → Language A → Language A → Language A
disj_of j p np = spanned j.any (chain (conj_of j p np) (next_of j p np))

abbrev pub Alike : {A B : Type 0} → Joining A B → A → A → Type 0
Alike j y x = Like j.bare j.phrase y x

-- the words of a phrase, without brackets around it, are read by the rule of its form
abbrev pub natural : {A : Type 0} → Language A → Language A → Language A → Form → List Word → (A → Type 0) → Type 0
natural p c d single ws P = Written p ws P
natural p c d conjunction ws P = Written c ws P
natural p c d disjunction ws P = Written d ws P

abbrev pub Natural : {A B : Type 0} → Joining A B → Language A → Language A → A → Type 0
Natural j p np x = natural p (conj_of j p np) (disj_of j p np) (j.phrase x).form (j.phrase x).words (λ y. Alike j y x)

-- and it is read as a member of a conjunction
pub record GoodPrim {A B : Type 0} (j : Joining A B) (p np : Language A) (x : A) : Type 0 where
  pub bare_words : Natural j p np x
  pub as_member : Written p (in_conjunction (j.phrase x)) (λ y. Alike j y x)

-- and as a member of a disjunction
pub record GoodConj {A B : Type 0} (j : Joining A B) (p np : Language A) (x : A) : Type 0 where
  pub bare_words : Natural j p np x
  pub as_member : Written (conj_of j p np) (in_disjunction (j.phrase x)) (λ y. Alike j y x)

-- ---- chains

flat_behind : {A : Type 0} (sign : Kind) (f : A → List Word) (xs : List A) → flat_map (λ x. mark sign ∷ f x) xs ≡ each_behind sign (map f xs)
flat_behind sign f [] = refl
flat_behind sign f (x ∷ xs) = ap (λ ws. mark sign ∷ (f x ++ ws)) (flat_behind sign f xs)

-- members with a sign between two of them
chain_written : {A : Type 0} {l m : Language A} (sign : Kind) (f : A → List Word) (R : A → A → Type 0) → ((ws : List Word) (P : A → Type 0) → Written l ws P → Written m (mark sign ∷ ws) P)
    → (x : A) (xs : List A) → AllByRecursion (λ y. Written l (f y) (λ z. R z y)) (x ∷ xs) → Written (chain l m) (separated sign (map f (x ∷ xs))) (λ ys. AllZip R ys (x ∷ xs))
chain_written {A} {l} {m} sign f R next x xs e = at_words (ap (λ ws. f x ++ ws) (flat_behind sign f xs))
    (both_written e.0 (many_written m R (λ y. mark sign ∷ f y) xs (each_weaker (λ y. Written l (f y) (λ z. R z y)) _ xs (λ y. next (f y) (λ z. R z y)) e.1)) (λ y ys h i. (h, i)))

-- a chain of one member
one_written : {A : Type 0} {l : Language A} (m : Language A) (f : Span → List A → A) → ((s : Span) (x : A) → f s (x ∷ []) ≡ x) → {ws : List Word} {P : A → Type 0} → Written l ws P → Written (spanned f (chain l m)) ws P
one_written {A} {l} m f one {ws} {P} a =
    let none : Written (many m) [] (λ ys. ys ≡ []) = record { spellable = tt; again = λ us i. ([], no_tokens us i, refl) } in
    let alone : Written (chain l m) (ws ++ []) (λ xs. (x : A) × (xs ≡ x ∷ []) × P x) = both_written a none (λ y ys h i. (y, ap (λ zs. y ∷ zs) i, h)) in
    spanned_written (at_words (append-nil ws) alone) (λ s xs h. subst P (sym (ap (f s) h.1 ∙ one s h.0)) h.2)

-- ---- one level

module _ {A B : Type 0} (j : Joining A B) (p np : Language A) (next : (ws : List Word) (P : A → Type 0) → Written p ws P → Written np (mark k.Ampersand ∷ ws) P) where
  prim_as_conj : {ws : List Word} {P : A → Type 0} → Written p ws P → Written (conj_of j p np) ws P
  prim_as_conj a = one_written np j.all j.by_all.one a

  conj_as_disj : {ws : List Word} {P : A → Type 0} → Written (conj_of j p np) ws P → Written (disj_of j p np) ws P
  conj_as_disj a = one_written (next_of j p np) j.any j.by_any.one a

  -- the words of any phrase are read as a disjunction
  as_disj_at : (form : Form) (ws : List Word) (P : A → Type 0) → natural p (conj_of j p np) (disj_of j p np) form ws P → Written (disj_of j p np) ws P
  as_disj_at single ws P a = conj_as_disj (prim_as_conj a)
  as_disj_at conjunction ws P a = conj_as_disj a
  as_disj_at disjunction ws P a = a

  pub as_disj : (x : A) → Natural j p np x → Written (disj_of j p np) (j.phrase x).words (λ y. Alike j y x)
  as_disj x a = as_disj_at (j.phrase x).form (j.phrase x).words (λ y. Alike j y x) a

  in_brackets_at : (form : Form) (ws : List Word) (P : A → Type 0) → natural p (conj_of j p np) (disj_of j p np) form ws P → Written p (in_parentheses ws) P → Written p (in_conjunction (record { form = form; words = ws })) P
  in_brackets_at single ws P a b = a
  in_brackets_at conjunction ws P a b = b
  in_brackets_at disjunction ws P a b = b

  -- a phrase that stood in brackets
  pub in_brackets : (x : A) → Natural j p np x → Written p (in_parentheses (j.phrase x).words) (λ y. Alike j y x) → GoodPrim j p np x
  in_brackets x a b = record { bare_words = a; as_member = in_brackets_at (j.phrase x).form (j.phrase x).words (λ y. Alike j y x) a b }

  -- a phrase of one part
  pub plain_good : (x : A) (ws : List Word) → j.phrase x ≡ plainly ws → Written p ws (λ y. Alike j y x) → GoodPrim j p np x
  plain_good x ws e a =
      let read : Phrase → Type 0 = λ ph. natural p (conj_of j p np) (disj_of j p np) ph.form ph.words (λ y. Alike j y x) × Written p (in_conjunction ph) (λ y. Alike j y x) in
      let h = subst read (sym e) (a, a) in
      record { bare_words = h.0; as_member = h.1 }

  one_conj_at : (form : Form) (ws : List Word) (P : A → Type 0) → natural p (conj_of j p np) (disj_of j p np) form ws P → Written p (in_conjunction (record { form = form; words = ws })) P
      → Written (conj_of j p np) (in_disjunction (record { form = form; words = ws })) P
  one_conj_at single ws P a b = prim_as_conj a
  one_conj_at conjunction ws P a b = a
  one_conj_at disjunction ws P a b = prim_as_conj b

  one_conj : (x : A) → GoodPrim j p np x → GoodConj j p np x
  one_conj x a = record { bare_words = a.bare_words; as_member = one_conj_at (j.phrase x).form (j.phrase x).words (λ y. Alike j y x) a.bare_words a.as_member }

  -- what is alike in turn makes what is alike
  joined : (join : Span → List A → A) (glue : List Phrase → Phrase) → Joins j.bare j.phrase join glue → (s s' : Span) (x y : A) (xs zs : List A) → AllZip (Alike j) zs (x ∷ (y ∷ xs)) → Alike j (join s' zs) (join s (x ∷ (y ∷ xs)))
  joined join glue way s s' x y xs (x' ∷ (y' ∷ xs')) h =
      let same = likes j.bare j.phrase (x' ∷ (y' ∷ xs')) (x ∷ (y ∷ xs)) h in
      record { bare = way.bare_is s s' x y x' y' xs xs' same.bare; words = way.phrase_is s' x' y' xs' ∙ (ap glue same.words ∙ sym (way.phrase_is s x y xs)) }
  joined join glue way s s' x y xs [] h = absurd h
  joined join glue way s s' x y xs (x' ∷ []) h = absurd h.1

  several : {l m : Language A} (sign : Kind) (bracketed : Phrase → List Word) (join : Span → List A → A) (glue : List Phrase → Phrase) → Joins j.bare j.phrase join glue
      → ((ps : List Phrase) → separated sign (map bracketed ps) ≡ (glue ps).words)
      → ((ws : List Word) (P : A → Type 0) → Written l ws P → Written m (mark sign ∷ ws) P) → (s : Span) (x y : A) (xs : List A) → AllByRecursion (λ x. Written l (bracketed (j.phrase x)) (λ y. Alike j y x)) (x ∷ (y ∷ xs))
      → Written (spanned join (chain l m)) (glue (map j.phrase (x ∷ (y ∷ xs)))).words (λ z. Alike j z (join s (x ∷ (y ∷ xs))))
  several sign bracketed join glue way glued behind s x y xs e =
      spanned_written (at_words (ap (separated sign) (sym (fused bracketed j.phrase (x ∷ (y ∷ xs)))) ∙ glued (map j.phrase (x ∷ (y ∷ xs)))) (chain_written sign (λ x. bracketed (j.phrase x)) (Alike j) behind x (y ∷ xs) e))
      (λ s' zs h. joined join glue way s s' x y xs zs h)

  abbrev Several : (A → Type 0) → List A → Type 0
  Several G [] = ⊥
  Several G (x ∷ xs) = AllByRecursion G (x ∷ xs)

  all_good : (s : Span) (xs : List A) → Several (GoodPrim j p np) xs → GoodConj j p np (j.all s xs)
  all_good s [] e = absurd e
  all_good s (x ∷ []) e = subst (GoodConj j p np) (sym (j.by_all.one s x)) (one_conj x e.0)
  all_good s (x ∷ (y ∷ xs)) e =
      let all = j.all s (x ∷ (y ∷ xs)) in
      let written = several k.Ampersand in_conjunction j.all conjoined j.by_all (λ _. refl) next s x y xs (each_weaker (GoodPrim j p np) (λ x. Written p (in_conjunction (j.phrase x)) (λ y. Alike j y x)) (x ∷ (y ∷ xs)) (λ _ g. g.as_member) e) in
      let both = subst (λ (q : Phrase). natural p (conj_of j p np) (disj_of j p np) q.form q.words (λ z. Alike j z all) × Written (conj_of j p np) (in_disjunction q) (λ z. Alike j z all)) (sym (j.by_all.phrase_is s x y xs)) (written, written) in
      record { bare_words = both.0; as_member = both.1 }

  any_good : (s : Span) (xs : List A) → Several (GoodConj j p np) xs → Natural j p np (j.any s xs)
  any_good s [] e = absurd e
  any_good s (x ∷ []) e = subst (Natural j p np) (sym (j.by_any.one s x)) e.0.bare_words
  any_good s (x ∷ (y ∷ xs)) e =
      subst (λ (q : Phrase). natural p (conj_of j p np) (disj_of j p np) q.form q.words (λ z. Alike j z (j.any s (x ∷ (y ∷ xs))))) (sym (j.by_any.phrase_is s x y xs))
      (several k.Bar in_disjunction j.any disjoined j.by_any (λ _. refl) (λ ws P a. behind_written k.Bar (refl, refl) refl a) s x y xs
      (each_weaker (GoodConj j p np) (λ x. Written (conj_of j p np) (in_disjunction (j.phrase x)) (λ y. Alike j y x)) (x ∷ (y ∷ xs)) (λ _ g. g.as_member) e))

  -- what the rules read, where a member was read
  conj_gives : (q nq : Language A) → Gives q (GoodPrim j p np) → Gives nq (GoodPrim j p np) → Gives (conj_of j q nq) (GoodConj j p np)
  conj_gives q nq a b = spanned_gives {G = Several (GoodPrim j p np)} (both_gives a (many_gives b) (λ x xs g h. (g, h))) all_good

  pub disj_gives : (q nq : Language A) → Gives q (GoodPrim j p np) → Gives nq (GoodPrim j p np) → Gives (disj_of j q nq) (Natural j p np)
  disj_gives q nq a b =
      let c = conj_gives q nq a b in
      spanned_gives {G = Several (GoodConj j p np)} (both_gives c (many_gives (behind_gives (token (is k.Bar)) c)) (λ x xs g h. (g, h))) any_good

  -- what is read of the whole is kept, whatever stands around it
  pub disj_keeps : {l : Language A} → Gives l (Natural j p np) → Keeps l (disj_of j p np) j.bare (λ x. (j.phrase x).words)
  disj_keeps a = record { all = stronger a (λ x h. weaker (as_disj x h) (λ y i. record { bare = i.bare; words = ap (λ (ph : Phrase). ph.words) i.words })) }

-- ---- members of one part

-- a value of a form, and what is known of that which it is made of
abbrev Made : {A K : Type 0} → (A → K) → (A → Type 0) → K → Type 0
Made {A} f P v = (y : A) × (v ≡ f y) × P y

module _ {K B A' B' : Type 0} (j : Joining (Spanned K) B) (p np : Language (Spanned K)) (next : (ws : List Word) (P : Spanned K → Type 0) → Written p ws P → Written np (mark k.Ampersand ∷ ws) P)
    (f : A' → K) (b : A' → B') (w : A' → List Word) (phrase_is : (s : Span) (x : A') → j.phrase (at_span s (f x)) ≡ plainly (w x))
    (bare_is : (s s' : Span) (x y : A') → b y ≡ b x → j.bare (at_span s' (f y)) ≡ j.bare (at_span s (f x))) where
  made_alike : (s s' : Span) (x y : A') → Like b w y x → Alike j (at_span s' (f y)) (at_span s (f x))
  made_alike s s' x y h = record { bare = bare_is s s' x y h.bare; words = phrase_is s' y ∙ (ap plainly h.words ∙ sym (phrase_is s x)) }

  made_good : (l : Language A') → ((ts : List Lexeme) (y : Spanned K) → (spanned at_span (made f l)).means ts y → p.means ts y) → (s : Span) (x : A') → Kept l b w x → GoodPrim j p np (at_span s (f x))
  made_good l incl s x h = plain_good j p np next (at_span s (f x)) (w x) (phrase_is s x) (written_in (spanned_written {P = Made f (λ y. Like b w y x)} (made_written h (λ y i. (y, refl, i)))
      (λ s' v i. subst (λ z. Alike j (at_span s' z) (at_span s (f x))) (sym i.1) (made_alike s s' x i.0 i.2))) incl)

  pub plain_gives : {l l' : Language A'} → Keeps l l' b w → ((ts : List Lexeme) (y : Spanned K) → (spanned at_span (made f l')).means ts y → p.means ts y) → Gives (spanned at_span (made f l)) (GoodPrim j p np)
  plain_gives {l} {l'} a incl = spanned_gives {G = Made f (Kept l' b w)} (made_gives a.all (λ x h. (x, refl, h)))
      (λ s kind h. subst (λ v. GoodPrim j p np (at_span s v)) (sym h.1) (made_good l' incl s h.0 h.2))
