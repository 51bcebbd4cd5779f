-- What the combinators keep, where their parts are kept.
use Rattle.std.proofs.Common.{◌≡◌, true, List, [], ◌∷◌, ◌++◌, Option, Some, None, refl, sym, ap, ap₂, ◌∙◌, inl, inr}
use Rattle.xdg_ast.specs.declared.token.Kind.{Kind}
use Rattle.xdg_ast.specs.Lexemes.{Lexeme}
use Rattle.xdg_ast.specs.declared.names.Name.{Name}
use Rattle.xdg_ast.specs.Language.{Language, is, token, nothing, both, either, spanned, made, behind, pair, optional}
use Rattle.xdg_ast.specs.Grammar.{at_span}
use Rattle.xdg_ast.specs.Words.{Word, mark, constant, IsSpellable}
use Rattle.xdg_ast.specs.Trees.{name_word}
use Rattle.xdg_ast.specs.Same.{bare_part, bare_option, bare_name}
use Rattle.xdg_print.proofs.AgainWritten.{Written, weaker, at_words, written_in, token_written, nothing_written, made_written, both_written, behind_written, spanned_written, Gives, stronger, token_gives, nothing_gives, made_gives, both_gives, behind_gives, either_gives, spanned_gives}
use Rattle.xdg_print.proofs.AgainNames.{Like, Kept, Keeps, same_text}

-- a value whose words are read again
pub kept_by : {A B : Type 0} {l : Language A} {b : A → B} {w : A → List Word} {x : A} {ws : List Word} → Written l ws (λ y. Like b w y x) → w x ≡ ws → Kept l b w x
kept_by a e = at_words (sym e) a

-- a sign that stands for one value
pub sign_keeps : {A B : Type 0} {b : A → B} {w : A → List Word} {v : A} (kind : Kind) → IsSpellable (mark kind) → is kind kind ≡ true → w v ≡ mark kind ∷ []
    → Keeps (made {A = Lexeme} (λ _. v) (token (is kind))) (made {A = Lexeme} (λ _. v) (token (is kind))) b w
sign_keeps kind s h e = record {
  all = made_gives {G = λ _. Unit {0}} (token_gives (λ _ _ _. tt)) (λ _ _. kept_by (made_written (token_written (is kind) (mark kind) s h) (λ _ _. record { bare = refl; words = refl })) e);
}

pub behind_keeps : {A B : Type 0} {l m : Language A} {b : A → B} {w : A → List Word} (kind : Kind) → IsSpellable (mark kind) → is kind kind ≡ true → Keeps l m b w
    → Keeps (behind (token (is kind)) l) (behind (token (is kind)) m) b (λ x. mark kind ∷ w x)
behind_keeps kind s h a = record {
  all = both_gives {G = λ _. Unit {0}} (token_gives (λ _ _ _. tt)) a.all
      (λ _ x _ g. weaker (behind_written kind s h g) (λ y i. record { bare = i.bare; words = ap (λ ws. mark kind ∷ ws) i.words }));
}

pub either_keeps : {A B : Type 0} {l l' m m' : Language A} {b : A → B} {w : A → List Word} → Keeps l l' b w → Keeps m m' b w → Keeps (either l m) (either l' m') b w
either_keeps p q = record { all = either_gives (stronger p.all (λ x h. written_in h (λ ts y i. inl i))) (stronger q.all (λ x h. written_in h (λ ts y i. inr i))) }

-- a form of values
pub made_keeps : {A A' B B' : Type 0} {f : A' → A} {l l' : Language A'} {b' : A' → B'} {w' : A' → List Word} {b : A → B} {w : A → List Word} (g : B' → B)
    → Keeps l l' b' w' → ((a : A') → b (f a) ≡ g (b' a)) → ((a : A') → w (f a) ≡ w' a) → Keeps (made f l) (made f l') b w
made_keeps g a eb ew = record {
  all = made_gives a.all (λ x h. kept_by (made_written h (λ y i. record { bare = eb y ∙ (ap g i.bare ∙ sym (eb x)); words = ew y ∙ (i.words ∙ sym (ew x)) })) (ew x));
}

pub both_keeps : {A B C A' B' C' : Type 0} {f : A → B → C} {l l' : Language A} {m m' : Language B} {b : A → A'} {w : A → List Word} {c : B → B'} {v : B → List Word} {d : C → C'} {u : C → List Word} (g : A' → B' → C')
    → Keeps l l' b w → Keeps m m' c v → ((x : A) (y : B) → d (f x y) ≡ g (b x) (c y)) → ((x : A) (y : B) → u (f x y) ≡ w x ++ v y) → Keeps (both f l m) (both f l' m') d u
both_keeps g p q ed eu = record {
  all = both_gives p.all q.all (λ x y h i. kept_by (both_written h i (λ x' y' j k. record {
    bare = ed x' y' ∙ (ap₂ g j.bare k.bare ∙ sym (ed x y));
    words = eu x' y' ∙ (ap₂ (λ ws vs. ws ++ vs) j.words k.words ∙ sym (eu x y));
  })) (eu x y));
}

pub pair_keeps : {A B A' B' : Type 0} {l l' : Language A} {m m' : Language B} {b : A → A'} {w : A → List Word} {c : B → B'} {v : B → List Word}
    → Keeps l l' b w → Keeps m m' c v → Keeps {B = A' × B'} (pair l m) (pair l' m') (λ z. (b z.0, c z.1)) (λ z. w z.0 ++ v z.1)
pair_keeps p q = both_keeps (λ x y. (x, y)) p q (λ _ _. refl) (λ _ _. refl)

pub spanned_keeps : {A : Type 0} {l m : Language A} {b : A → A} {w : A → List Word} → Keeps l m b w → Keeps (spanned at_span l) (spanned at_span m) (bare_part b) (λ x. w x.kind)
spanned_keeps a = record {
  all = spanned_gives a.all (λ s x h. spanned_written h (λ s' y i. record { bare = ap (λ kind. at_span (record { start = 0; end = 0 }) kind) i.bare; words = i.words }));
}

-- what is said of a part, whatever its place
pub at_place_keeps : {A B : Type 0} {l m : Language A} {b : A → B} {w : A → List Word} → Keeps l m b w → Keeps (spanned at_span l) (spanned at_span m) (λ x. b x.kind) (λ x. w x.kind)
at_place_keeps a = record { all = spanned_gives a.all (λ s x h. spanned_written h (λ s' y i. record { bare = i.bare; words = i.words })) }

abbrev pub option_words : {A : Type 0} → (A → List Word) → Option A → List Word
option_words w None = []
option_words w (Some x) = w x

pub optional_keeps : {A : Type 0} {l m : Language A} {b : A → A} {w : A → List Word} → Keeps l m b w → Keeps (optional l) (optional m) (bare_option b) (option_words w)
optional_keeps a = either_keeps (made_keeps Some a (λ _. refl) (λ _. refl))
    (record { all = nothing_gives (kept_by (nothing_written (record { bare = refl; words = refl })) refl) })

-- the words are kept, too
pub with_words : {A B : Type 0} {l m : Language A} {b : A → B} {w : A → List Word} → Keeps l m b w → Keeps {B = B × List Word} l m (λ x. (b x, w x)) w
with_words {A} {B} {l} {m} {b} {w} a = record {
  all = stronger a.all (λ x h. weaker h (λ y i. record { bare = ap (λ c. (c, w y)) i.bare ∙ ap (λ ws. (b x, ws)) i.words; words = i.words }));
}

-- a form of values behind a sign, where the sign was read before
pub signed_keeps : {A A' B B' : Type 0} {f : A' → A} {l l' : Language A'} {m : Language A} {b' : A' → B'} {w' : A' → List Word} {b : A → B} {w : A → List Word} (kind : Kind) (g : B' → B) → IsSpellable (mark kind) → is kind kind ≡ true
    → Keeps l l' b' w' → ((a : A') → b (f a) ≡ g (b' a)) → ((a : A') → w (f a) ≡ mark kind ∷ w' a) → ((ts : List Lexeme) (y : A) → (behind (token (is kind)) (made f l')).means ts y → m.means ts y) → Keeps (made f l) m b w
signed_keeps kind g s k a eb ew incl = record {
  all = made_gives a.all (λ x h. written_in (kept_by (behind_written kind s k (made_written h
      (λ y i. record { bare = eb y ∙ (ap g i.bare ∙ sym (eb x)); words = ew y ∙ (ap (λ ws. mark kind ∷ ws) i.words ∙ sym (ew x)) }))) (ew x)) incl);
}

-- a sign that is read, and written by each of two forms behind it
pub unsigned_keeps : {A B C : Type 0} {l l' n : Language A} (m : Language C) {b : A → B} {w : A → List Word} → Keeps l n b w → Keeps l' n b w → Keeps (behind m (either l l')) n b w
unsigned_keeps m p q = record { all = behind_gives m (either_gives p.all q.all) }

-- ---- what is made of a name

-- of names with one text and of values that are alike what is alike is made
pub named_like : {A A' K B : Type 0} {b' : A → A'} {w' : A → List Word} {b : K → B} {w : K → List Word} (f : A → Name → K) (g : A' → Name → B) (frame : List Word → List Word) → ((x : A) (a : Name) → b (f x a) ≡ g (b' x) (bare_name a))
    → ((x : A) (a : Name) → w (f x a) ≡ frame (name_word a ∷ w' x)) → (x y : A) (a c : Name) → Like b' w' y x → a.text ≡ c.text → Like b w (f y a) (f x c)
named_like f g frame eb ew x y a c i s = record {
  bare = eb y a ∙ (ap₂ g i.bare (same_text a c s).bare ∙ sym (eb x c));
  words = ew y a ∙ (ap₂ (λ ws text. frame (constant text ∷ ws)) i.words s ∙ sym (ew x c));
}

-- what a tail makes of a name is written as the name and these words, in a frame; they are read as a tail that makes the same of names with one text
pub record GoodTail {K B : Type 0} (m : Language (Name → K)) (b : K → B) (w : K → List Word) (frame : List Word → List Word) (make : Name → K) : Type 0 where
  pub tail : List Word
  pub words_are : (a : Name) → w (make a) ≡ frame (name_word a ∷ tail)
  pub read_again : Written m tail (λ other. (a c : Name) → a.text ≡ c.text → Like b w (other a) (make c))

module _ {K B : Type 0} {m : Language (Name → K)} {b : K → B} {w : K → List Word} {frame : List Word → List Word} where
  pub tail_of : {A A' : Type 0} {l n : Language A} {b' : A → A'} {w' : A → List Word} {f : A → Name → K} (g : A' → Name → B) → Keeps l n b' w' → ((x : A) (a : Name) → b (f x a) ≡ g (b' x) (bare_name a))
      → ((x : A) (a : Name) → w (f x a) ≡ frame (name_word a ∷ w' x)) → ((ts : List Lexeme) (y : Name → K) → (made f n).means ts y → m.means ts y) → Gives (made f l) (GoodTail m b w frame)
  tail_of {w' = w'} {f = f} g k eb ew incl =
      made_gives k.all (λ x h. record { tail = w' x; words_are = ew x; read_again = written_in (made_written h (λ y i a c s. named_like f g frame eb ew x y a c i s)) incl })

  pub no_tail : {f : Name → K} (g : Name → B) → ((a : Name) → b (f a) ≡ g (bare_name a)) → ((a : Name) → w (f a) ≡ frame (name_word a ∷ [])) → ((ts : List Lexeme) (y : Name → K) → (nothing f).means ts y → m.means ts y)
      → Gives (nothing f) (GoodTail m b w frame)
  no_tail {f} g eb ew incl =
      let none : Like {A = Unit {0}} {B = Unit {0}} {W = List Word} (λ z. z) (λ _. []) tt tt = record { bare = refl; words = refl } in
      nothing_gives (record { tail = []; words_are = ew; read_again = written_in (nothing_written (λ a c s. named_like (λ _ name. f name) (λ _ name. g name) frame (λ _. eb) (λ _. ew) tt tt a c none s)) incl })
