-- The numbers of bodies are told by the classes.
use Rattle.std.proofs.Common.{◌≡◌, ℕ, List, refl, sym, ◌∙◌, subst}
use Rattle.xdg_classes.specs.Bodies.{Body, Called, calls}
use Rattle.xdg_classes.specs.Wants.{NamedBody}
use Rattle.xdg_check.specs.declared.checked.Class.{Class}
use Rattle.xdg_check.specs.Checked.{named_body, named_bodies}
use Rattle.xdg_check.specs.Counts.{Counting, Agrees, AreCounted}
use Rattle.xdg_facts.specs.Capped.{capped}
use Rattle.xdg_lexicon.specs.Sources.{AreNumbers, HasNumber}
use Rattle.xdg_facts.specs.Membership.{In}
use Rattle.xdg_facts.proofs.In.{in_map, map_in}
use Rattle.xdg_facts.proofs.Lists.{fused}

-- ---- classes and named bodies

module _ (count : Counting → Body → ℕ) (cs : List Class) (names : Counting) where
  agrees_of : AreNumbers count (named_bodies cs) names → Agrees count cs names
  agrees_of are = record {
    defined = λ c stands. are.defined (named_body c) (map_in named_body cs c stands);
    undefined = λ name missing. are.undefined name (λ among. missing (subst (λ l. In l name) (fused (λ (c : NamedBody). c.name) named_body cs) among));
  }

  numbers_of : Agrees count cs names → AreNumbers count (named_bodies cs) names
  numbers_of agrees = record {
    defined = λ n stands.
        let found = in_map named_body cs n stands in
        let P : NamedBody → Type 0 = λ m. names m.name ≡ count names m.body in
        subst P found.1.1 (agrees.defined found.0 found.1.0);
    undefined = λ name missing. agrees.undefined name (λ among. missing (subst (λ l. In l name) (sym (fused (λ (c : NamedBody). c.name) named_body cs)) among));
  }

-- ---- one number

module _ (count : Counting → Body → ℕ) (same : (p q : Counting) (b : Body) → ((call : Called) → In (calls b) call → p call.name.text ≡ q call.name.text) → count p b ≡ count q b) (kept : Class → ℕ) (cs : List Class)
    (counted : AreCounted count kept cs) where
  told : (b : Body) (n : ℕ) → HasNumber count (named_bodies cs) b n → n ≡ count counted.names b
  told b n has = has.1.1 ∙ same has.0 counted.names b (λ call stands. counted.only has.0 (agrees_of count cs has.0 has.1.0) call.name.text)

  pub number_once : (b : Body) (n m : ℕ) → HasNumber count (named_bodies cs) b n → HasNumber count (named_bodies cs) b m → n ≡ m
  number_once b n m one other = told b n one ∙ sym (told b m other)

  -- what is told of a number that is capped like that of a body is told of the body's number
  pub number_told : {P : ℕ → Type 0} (b : Body) (here : ℕ) → ((names : Counting) → Agrees count cs names → here ≡ capped (count names b)) → ((n : ℕ) → here ≡ capped n → P n) → (n : ℕ) × (HasNumber count (named_bodies cs) b n × P n)
  number_told b here is tells =
      (count counted.names b, ((counted.names, (numbers_of count cs counted.names counted.agrees, refl)), tells (count counted.names b) (is counted.names counted.agrees)))
