-- The arguments of a principle, one by one.
use Rattle.std.proofs.Common.{◌≡◌, ℕ, Bool, ◌||◌, List, [], ◌∷◌, ◌++◌, map, Option, None, Some, sym, ap, ◌∙◌}
use Rattle.std.specs.List.{flat_map}
use Rattle.std.specs.Prelude.{if◌then◌else◌}
use Rattle.std.proofs.lemmas.Grind.{flat_map-append}
use Rattle.std.proofs.lemmas.List.{map-append, append-nil}
use Rattle.xdg_base.specs.Faults.{fault_at}
use Rattle.xdg_base.specs.declared.faults.Cause.TheVariants as causes
use Rattle.xdg_base.specs.declared.faults.Fault.{Fault}
use Rattle.xdg_ast.specs.declared.names.Name.{Name}
use Rattle.xdg_types.specs.NameFaults.{foreign}
use Rattle.xdg_names.specs.First.{first, earlier}
use Rattle.xdg_names.proofs.First.{first_append, earlier-none}
use Rattle.xdg_names.specs.Texts.{has_text}
use Rattle.xdg_problem.specs.declared.forms.Parameter.{Parameter}
use Rattle.xdg_principles.specs.declared.building.Arg.{Arg}
use Rattle.xdg_principles.specs.Made.{arg, args}
use Rattle.xdg_principles.specs.Settings.{Setting}
use Rattle.xdg_problem.specs.Forms.{key_text}
use Rattle.xdg_facts.specs.Onward.{optional}
use Rattle.xdg_principles.specs.Names.{required_key}
use Rattle.xdg_names.proofs.Texts.{has_text-append}

-- a key that is judged by whether it is known
pub foreign_told : (known : List (List ℕ)) (key : Name) (text : List ℕ) (is_known : Bool) (found : Option Fault) → found ≡ first (if is_known then [] else fault_at causes.WrongParams key.span.start ∷ [])
    → is_known ≡ has_text known text → text ≡ key.text → found ≡ first (foreign known key)
foreign_told known key text is_known found is told same = is ∙ ap (λ b. first (if b then [] else fault_at causes.WrongParams key.span.start ∷ [])) (told ∙ ap (has_text known) same)

pub nothing_more : (found : Option Fault) → earlier found None ≡ found
nothing_more found = earlier-none found

abbrev names : List Parameter → List (List ℕ)
names ps = map (λ one. key_text one.key) ps

pub has_args : (a b c : Option Parameter) (t : List ℕ)
    → has_text (map (λ one. key_text one.key) (optional a ++ (optional b ++ optional c))) t
    ≡ (has_text (map (λ one. key_text one.key) (optional a)) t || (has_text (map (λ one. key_text one.key) (optional b)) t || has_text (map (λ one. key_text one.key) (optional c)) t))
has_args a b c t =
    ap (λ ks. has_text ks t) (map-append (λ (one : Parameter). key_text one.key) (optional a) (optional b ++ optional c))
    ∙ has_text-append (names (optional a)) (names (optional b ++ optional c)) t
    ∙ ap (λ s. has_text (names (optional a)) t || s)
    (ap (λ ks. has_text ks t) (map-append (λ (one : Parameter). key_text one.key) (optional b) (optional c)) ∙ has_text-append (names (optional b)) (names (optional c)) t)

-- what is found of two lists in a row
split : {A : Type 0} (g : A → List Fault) (xs ys : List A) → first (flat_map g (xs ++ ys)) ≡ earlier (first (flat_map g xs)) (first (flat_map g ys))
split g xs ys = ap first (flat_map-append g xs ys) ∙ first_append (flat_map g xs) (flat_map g ys)

pub each_of : {A : Type 0} (g : A → List Fault) (a b c : List A) → first (flat_map g (a ++ (b ++ c))) ≡ earlier (first (flat_map g a)) (earlier (first (flat_map g b)) (first (flat_map g c)))
each_of g a b c = split g a (b ++ c) ∙ ap (earlier (first (flat_map g a))) (split g b c)

pub lacking_each : (g : List ℕ → List Fault) (a b c : Option Parameter)
    → first (flat_map g (flat_map required_key (optional a ++ (optional b ++ optional c))))
    ≡ earlier (first (flat_map g (flat_map required_key (optional a)))) (earlier (first (flat_map g (flat_map required_key (optional b)))) (first (flat_map g (flat_map required_key (optional c)))))
lacking_each g a b c =
    ap (λ ks. first (flat_map g ks))
    (flat_map-append required_key (optional a) (optional b ++ optional c) ∙ ap (λ ks. flat_map required_key (optional a) ++ ks) (flat_map-append required_key (optional b) (optional c)))
    ∙ each_of g (flat_map required_key (optional a)) (flat_map required_key (optional b)) (flat_map required_key (optional c))

-- of one that may be there
pub one_told : (g : Parameter → List Fault) (one : Parameter) → first (flat_map g (optional (Some one))) ≡ first (g one)
one_told g one = ap first (append-nil (g one))

pub all_args : (setting : Setting) (a b c : Option Parameter) → args setting (optional a ++ (optional b ++ optional c)) ≡ args setting (optional a) ++ (args setting (optional b) ++ args setting (optional c))
all_args setting a b c =
    let f : Parameter → Arg = λ parameter. arg setting parameter parameter.wanted in
    map-append f (optional a) (optional b ++ optional c) ∙ ap (λ xs. map f (optional a) ++ xs) (map-append f (optional b) (optional c))

pub no_arg : (xs : List Arg) → xs ≡ xs ++ []
no_arg xs = sym (append-nil xs)
