-- Words that are written one after the other.
use Rattle.std.proofs.Common.{◌≡◌, ◌<◌, ◌++◌, ℕ, List, Bool, true, false, [], ◌∷◌, length, drop, get_or, refl, sym, ap, ◌∙◌, ◌+◌, ◌≤◌, map, Some, None, Result, Ok, Err, OnOk, append_assoc, append-nil}
use Rattle.std.proofs.lemmas.List.{drop_all}
use Rattle.std.specs.List.{flat_map}
use Rattle.std.specs.declared.alloc.AllocError.{AllocError}
use Rattle.xdg_ast.specs.declared.token.Kind.{Kind}
use Rattle.xdg_ast.specs.declared.token.Kind.TheVariants as k
use Rattle.xdg_ast.specs.Words.{Word, mark}
use Rattle.xdg_ast.specs.Trees.{Form, single, Phrase, each_behind, separated, in_conjunction, in_disjunction}
use Rattle.xdg_ast.specs.Canon.{Line, line_text, gap, spelling, joined}
use Rattle.xdg_print.specs.declared.printer.Printer.{Printer}
use Rattle.xdg_print.specs.Printed.{put, put_one, put_lines, begun, ended, opening, closing, is_joined, is_disjoined}
use Rattle.xdg_facts.proofs.Lists.{from_place}

-- nothing is written yet
abbrev pub start : Printer
start = record { text = []; last = None }

pub put_append : (a b : List Word) (p : Printer) → put (a ++ b) p ≡ put b (put a p)
put_append [] b p = refl
put_append (word ∷ a) b p = put_append a b (put_one word p)

pub put_lines_append : (a b : List Line) (p : Printer) → put_lines (a ++ b) p ≡ put_lines b (put_lines a p)
put_lines_append [] b p = refl
put_lines_append (line ∷ a) b p = put_lines_append a b _

-- what the element at a place adds was added, where a list adds what its first element does and then what the others do
pub next_by : {X : Type 0} {q end : Printer} (adds : List X → Printer → Printer) (one : X → Printer → Printer) → ((x : X) (xs : List X) (p : Printer) → adds (x ∷ xs) p ≡ adds xs (one x p))
    → (p : Printer) (xs : List X) (i : ℕ) (x : X) → i < length xs → x ≡ get_or xs i x → adds (drop i xs) p ≡ end → q ≡ one x p → adds (drop (i + 1) xs) q ≡ end
next_by adds one first p xs i x within is left added =
    ap (adds (drop (i + 1) xs)) added ∙ sym (first x (drop (i + 1) xs) p) ∙ ap (λ z. adds z p) (sym (from_place xs i x within is)) ∙ left

-- its words, its word, its line or its lines
pub next_of : {X : Type 0} {q end : Printer} (p : Printer) (f : X → List Word) (xs : List X) (i : ℕ) (x : X) → i < length xs → x ≡ get_or xs i x → put (flat_map f (drop i xs)) p ≡ end → q ≡ put (f x) p → put (flat_map f (drop (i + 1) xs)) q ≡ end
next_of p f = next_by (λ xs. put (flat_map f xs)) (λ x. put (f x)) (λ x xs. put_append (f x) (flat_map f xs)) p

pub next_word : {X : Type 0} {q end : Printer} (p : Printer) (f : X → Word) (xs : List X) (i : ℕ) (x : X) → i < length xs → x ≡ get_or xs i x → put (map f (drop i xs)) p ≡ end → q ≡ put (f x ∷ []) p → put (map f (drop (i + 1) xs)) q ≡ end
next_word p f = next_by (λ xs. put (map f xs)) (λ x. put (f x ∷ [])) (λ _ _ _. refl) p

pub next_line : {X : Type 0} {q end : Printer} (p : Printer) (f : X → Line) (xs : List X) (i : ℕ) (x : X) → i < length xs → x ≡ get_or xs i x → put_lines (map f (drop i xs)) p ≡ end → q ≡ put_lines (f x ∷ []) p → put_lines (map f (drop (i + 1) xs)) q ≡ end
next_line p f = next_by (λ xs. put_lines (map f xs)) (λ x. put_lines (f x ∷ [])) (λ _ _ _. refl) p

pub next_lines : {X : Type 0} {q end : Printer} (p : Printer) (f : X → List Line) (xs : List X) (i : ℕ) (x : X) → i < length xs → x ≡ get_or xs i x → put_lines (flat_map f (drop i xs)) p ≡ end → q ≡ put_lines (f x) p → put_lines (flat_map f (drop (i + 1) xs)) q ≡ end
next_lines p f = next_by (λ xs. put_lines (flat_map f xs)) (λ x. put_lines (f x)) (λ x xs. put_lines_append (f x) (flat_map f xs)) p

-- where no element is left, all were added
pub all_by : {X : Type 0} {end : Printer} (adds : List X → Printer → Printer) → ((p : Printer) → adds [] p ≡ p) → (p : Printer) (xs : List X) (i : ℕ) → length xs ≤ i → adds (drop i xs) p ≡ end → p ≡ end
all_by adds none p xs i beyond left = sym (none p) ∙ ap (λ z. adds z p) (sym (drop_all i xs beyond)) ∙ left

pub all_of : {X : Type 0} {end : Printer} (p : Printer) (f : X → List Word) (xs : List X) (i : ℕ) → length xs ≤ i → put (flat_map f (drop i xs)) p ≡ end → p ≡ end
all_of p f = all_by (λ xs. put (flat_map f xs)) (λ _. refl) p

pub all_lines : {X : Type 0} {end : Printer} (p : Printer) (f : X → Line) (xs : List X) (i : ℕ) → length xs ≤ i → put_lines (map f (drop i xs)) p ≡ end → p ≡ end
all_lines p f = all_by (λ xs. put_lines (map f xs)) (λ _. refl) p

pub all_of_lines : {X : Type 0} {end : Printer} (p : Printer) (f : X → List Line) (xs : List X) (i : ℕ) → length xs ≤ i → put_lines (flat_map f (drop i xs)) p ≡ end → p ≡ end
all_of_lines p f = all_by (λ xs. put_lines (flat_map f xs)) (λ _. refl) p

-- what is known of the last piece
pub finish : {a b : Printer} (r : Result (Unit {0}) AllocError) (new : Printer) → a ≡ b → OnOk r (new ≡ a) → OnOk r (new ≡ b)
finish (Ok x) new same last = last ∙ same
finish (Err e) new same last = tt

-- ---- members of conjunctions and disjunctions

-- what is left of them, the first of them or a later one next
abbrev pub members : Kind → Bool → List (List Word) → List Word
members sign true words = separated sign words
members sign false words = each_behind sign words

-- a member in brackets or not
abbrev pub bracketed : Bool → List Word → List Word
bracketed true words = mark k.LeftParenthesis ∷ (words ++ mark k.RightParenthesis ∷ [])
bracketed false words = words

pub put_member : (sign : Kind) (first brackets : Bool) (words : List Word) (more : List (List Word)) (p : Printer) → put (members sign first (bracketed brackets words ∷ more)) p ≡ put (each_behind sign more) (put (closing brackets) (put words (put (opening sign first brackets) p)))
put_member sign true true words more p = put_append (words ++ mark k.RightParenthesis ∷ []) (each_behind sign more) _ ∙ ap (put (each_behind sign more)) (put_append words (mark k.RightParenthesis ∷ []) _)
put_member sign true false words more p = put_append words (each_behind sign more) p
put_member sign false true words more p = put_append (words ++ mark k.RightParenthesis ∷ []) (each_behind sign more) _ ∙ ap (put (each_behind sign more)) (put_append words (mark k.RightParenthesis ∷ []) _)
put_member sign false false words more p = put_append words (each_behind sign more) _

pub next_member : {X : Type 0} {q r s end : Printer} (p : Printer) (sign : Kind) (first brackets : Bool) (f : X → List Word) (words : List Word) (xs : List X) (i : ℕ) (x : X) → i < length xs → x ≡ get_or xs i x → f x ≡ bracketed brackets words
    → put (members sign first (map f (drop i xs))) p ≡ end → q ≡ put (opening sign first brackets) p → r ≡ put words q → s ≡ put (closing brackets) r → put (members sign false (map f (drop (i + 1) xs))) s ≡ end
next_member {X} {q} {r} {s} {end} p sign first brackets f words xs i x within is same left opened added closed =
    let more = map f (drop (i + 1) xs) in
    ap (put (each_behind sign more)) (closed ∙ ap (put (closing brackets)) (added ∙ ap (put words) opened))
    ∙ sym (put_member sign first brackets words more p)
    ∙ ap (λ z. put (members sign first (z ∷ more)) p) (sym same)
    ∙ ap (λ z. put (members sign first (map f z)) p) (sym (from_place xs i x within is)) ∙ left

pub all_members : {X : Type 0} {end : Printer} (p : Printer) (sign : Kind) (first : Bool) (f : X → List Word) (xs : List X) (i : ℕ) → length xs ≤ i → put (members sign first (map f (drop i xs))) p ≡ end → p ≡ end
all_members p sign true f xs i beyond left = ap (λ z. put (members sign true (map f z)) p) (sym (drop_all i xs beyond)) ∙ left
all_members p sign false f xs i beyond left = ap (λ z. put (members sign false (map f z)) p) (sym (drop_all i xs beyond)) ∙ left

joined_by_form : (form : Form) (words : List Word) → in_conjunction (record { form = form; words = words }) ≡ bracketed (is_joined (record { form = form; words = words })) words
joined_by_form single words = refl
joined_by_form _ words = refl

disjoined_by_form : (form : Form) (words : List Word) → in_disjunction (record { form = form; words = words }) ≡ bracketed (is_disjoined (record { form = form; words = words })) words
disjoined_by_form single words = refl
disjoined_by_form _ words = refl

pub by_joined : (phrase : Phrase) (brackets : Bool) → brackets ≡ is_joined phrase → in_conjunction phrase ≡ bracketed brackets phrase.words
by_joined phrase brackets is = joined_by_form phrase.form phrase.words ∙ ap (λ b. bracketed b phrase.words) (sym is)

pub by_disjoined : (phrase : Phrase) (brackets : Bool) → brackets ≡ is_disjoined phrase → in_disjunction phrase ≡ bracketed brackets phrase.words
by_disjoined phrase brackets is = disjoined_by_form phrase.form phrase.words ∙ ap (λ b. bracketed b phrase.words) (sym is)

-- ---- the text

pub text_of_put : (words : List Word) (p : Printer) → (put words p).text ≡ p.text ++ joined p.last words
unfolding joined put_one
text_of_put [] p = sym (append-nil p.text)
text_of_put (word ∷ words) p = text_of_put words (put_one word p) ∙ append_assoc p.text (gap p.last word.kind ++ spelling word) (joined (Some word.kind) words) ∙ ap (λ z. p.text ++ z) (append_assoc (gap p.last word.kind) (spelling word) (joined (Some word.kind) words))

line_appended : (text indent words more : List ℕ) → (((text ++ indent) ++ words) ++ 10 ∷ []) ++ more ≡ text ++ ((indent ++ (words ++ 10 ∷ [])) ++ more)
line_appended text indent words more =
    append_assoc ((text ++ indent) ++ words) (10 ∷ []) more
    ∙ append_assoc (text ++ indent) words (10 ∷ more)
    ∙ append_assoc text indent (words ++ 10 ∷ more)
    ∙ ap (λ z. text ++ z) (sym (append_assoc indent (words ++ 10 ∷ []) more ∙ ap (λ z. indent ++ z) (append_assoc words (10 ∷ []) more)))

pub text_of_lines : (lines : List Line) (p : Printer) → (put_lines lines p).text ≡ p.text ++ flat_map line_text lines
unfolding begun ended
text_of_lines [] p = sym (append-nil p.text)
text_of_lines (line ∷ lines) p =
    text_of_lines lines (ended (put line.words (begun line.indent p)))
    ∙ ap (λ z. (z ++ 10 ∷ []) ++ flat_map line_text lines) (text_of_put line.words (begun line.indent p))
    ∙ line_appended p.text line.indent (joined None line.words) (flat_map line_text lines)
