-- A sign begins a piece of its own, and is never a name.
use Rattle.std.proofs.Common.{◌≡◌, ℕ, ◌==◌, true, Option, Some, None, Ok, List, refl, sym, subst}
use Rattle.std.proofs.lemmas.Bool.{cond_both, eqb-true}
use Rattle.xdg_ast.specs.declared.token.Kind.{Kind}
use Rattle.xdg_ast.specs.Kinds.{sign_of, refined}
use Rattle.xdg_lex.specs.declared.pieces.Mode.TheVariants as in_
use Rattle.xdg_lex.specs.Pieces.{begins}

-- what holds of a character that is a sign
abbrev SignIs : ℕ → Option Kind → Type 0
SignIs c None = Unit {0}
SignIs c (Some kind) = ((text : List ℕ) → refined kind text ≡ kind) × ((at : ℕ) → begins at c ≡ Ok (in_.Sign kind))

seen : (c d : ℕ) (kind : Kind) → SignIs d (Some kind) → (c == d) ≡ true → SignIs c (Some kind)
seen c d kind is same = subst (λ n. SignIs n (Some kind)) (sym (eqb-true c d same)) is

sign_is : (c : ℕ) → SignIs c (sign_of c)
unfolding begins sign_of
sign_is c =
    cond_both (c == 123) _ _ (SignIs c) (seen c 123 _ ((λ _. refl), (λ _. refl)))
    (λ _. cond_both (c == 125) _ _ (SignIs c) (seen c 125 _ ((λ _. refl), (λ _. refl)))
    (λ _. cond_both (c == 40) _ _ (SignIs c) (seen c 40 _ ((λ _. refl), (λ _. refl)))
    (λ _. cond_both (c == 41) _ _ (SignIs c) (seen c 41 _ ((λ _. refl), (λ _. refl)))
    (λ _. cond_both (c == 91) _ _ (SignIs c) (seen c 91 _ ((λ _. refl), (λ _. refl)))
    (λ _. cond_both (c == 93) _ _ (SignIs c) (seen c 93 _ ((λ _. refl), (λ _. refl)))
    (λ _. cond_both (c == 58) _ _ (SignIs c) (seen c 58 _ ((λ _. refl), (λ _. refl)))
    (λ _. cond_both (c == 38) _ _ (SignIs c) (seen c 38 _ ((λ _. refl), (λ _. refl)))
    (λ _. cond_both (c == 124) _ _ (SignIs c) (seen c 124 _ ((λ _. refl), (λ _. refl)))
    (λ _. cond_both (c == 36) _ _ (SignIs c) (seen c 36 _ ((λ _. refl), (λ _. refl)))
    (λ _. cond_both (c == 35) _ _ (SignIs c) (seen c 35 _ ((λ _. refl), (λ _. refl)))
    (λ _. cond_both (c == 33) _ _ (SignIs c) (seen c 33 _ ((λ _. refl), (λ _. refl)))
    (λ _. cond_both (c == 63) _ _ (SignIs c) (seen c 63 _ ((λ _. refl), (λ _. refl)))
    (λ _. cond_both (c == 42) _ _ (SignIs c) (seen c 42 _ ((λ _. refl), (λ _. refl)))
    (λ _. cond_both (c == 43) _ _ (SignIs c) (seen c 43 _ ((λ _. refl), (λ _. refl)))
    (λ _. tt)))))))))))))))

pub sign_refined : (c : ℕ) (kind : Kind) (text : List ℕ) → sign_of c ≡ Some kind → refined kind text ≡ kind
sign_refined c kind text is = (subst (SignIs c) is (sign_is c)).0 text

pub begins_sign : (at c : ℕ) (kind : Kind) → sign_of c ≡ Some kind → begins at c ≡ Ok (in_.Sign kind)
begins_sign at c kind is = (subst (SignIs c) is (sign_is c)).1 at
