-- What nodes have by their words, as a stock keeps it.
use Rattle.std.proofs.Common.{◌≡◌, ℕ, ◌<◌, Bool, not, List, [], ◌∷◌, ◌++◌, length, get_or, map, refl, sym, ap, ◌∙◌, subst, if◌then◌else◌}
use Rattle.std.specs.Prelude.{All, None, Some}
use Rattle.std.proofs.lemmas.List.{length-map, get_or-map, map-append}
use Rattle.std.proofs.lemmas.List.Elements.{All-map}
use Rattle.xdg_base.specs.declared.ids.EntryNo.{EntryNo}
use Rattle.xdg_names.specs.Texts.{has_text, place_of}
use Rattle.xdg_names.proofs.Texts.{place_of-None, place_of-Some}
use Rattle.xdg_packed.specs.Lexicon.{word_of, words_of, numbers_of}
use Rattle.xdg_problem.specs.declared.parts.DimPlan.{DimPlan}
use Rattle.xdg_problem.specs.declared.parts.Group.{Group}
use Rattle.xdg_problem.specs.declared.parts.Parts.{Parts}
use Rattle.xdg_problem.specs.declared.parts.SentenceWord.{SentenceWord}
use Rattle.xdg_build.specs.declared.nodes.NodePlan.{NodePlan}
use Rattle.xdg_build.specs.Grammars.{Grammar}
use Rattle.xdg_build.specs.Groups.{groups_of}
use Rattle.xdg_build.specs.Nodes.{IsNodePlan, candidates_in}
use Rattle.xdg_build.specs.Compiled.{candidates_of, compiled}
use Rattle.xdg_build.specs.Plans.{plans}
use Rattle.xdg_build.specs.Stocks.{word_plan}
use Rattle.xdg_build.proofs.Numbered.{each_below}

-- ---- the nodes of a sentence

mapped : (g : Grammar) (words : List SentenceWord) → candidates_in (map (λ word. word_plan g word.text) words) ≡ candidates_of g words
mapped g [] = refl
mapped g (word ∷ words) = λ i. numbers_of (words_of g.lexicon) word.text ∷ mapped g words i

pub candidates_are : (g : Grammar) (words again : List SentenceWord) (nodes : List NodePlan) → again ≡ words → nodes ≡ map (λ word. word_plan g word.text) again → candidates_in nodes ≡ candidates_of g words
candidates_are g words again nodes same are = ap candidates_in are ∙ mapped g again ∙ ap (candidates_of g) same

pub each_plan : (g : Grammar) (words : List SentenceWord) (nodes : List NodePlan) → nodes ≡ map (λ word. word_plan g word.text) words → All (IsNodePlan g) nodes
each_plan g words nodes are = subst (All (IsNodePlan g)) (sym are) (All-map (IsNodePlan g) (λ word. word_plan g word.text) words (λ k d within. refl))

-- the problem that is made of the parts is the compiled one
pub made_compiled : (g : Grammar) (words : List SentenceWord) (made : Parts) (candidates : List (List EntryNo)) (dims : List DimPlan) (groups : List Group) → made ≡ record { words = words; candidates = candidates; dims = dims; groups = groups }
    → candidates ≡ candidates_of g words → dims ≡ plans g → groups ≡ groups_of g (candidates_of g words) → made ≡ compiled g words
made_compiled g words made candidates dims groups is e f h = is ∙ (λ i. record { words = words; candidates = e i; dims = f i; groups = h i })

-- ---- one word

-- its entries are entries of the lexicon
pub word_entries : (g : Grammar) (word : List ℕ) (numbers : List EntryNo) → numbers ≡ numbers_of (words_of g.lexicon) word → All (λ (entry : EntryNo). entry.0 < length g.lexicon.entries) numbers
word_entries g word numbers are =
    subst (All (λ (entry : EntryNo). entry.0 < length g.lexicon.entries)) (sym are)
    (subst (λ n. All (λ (entry : EntryNo). entry.0 < n) (numbers_of (words_of g.lexicon) word)) (length-map g.lexicon.entries (word_of g.lexicon.dim g.lexicon.field)) (each_below (words_of g.lexicon) word))

-- a word that stands in the stock has a node there
pub found_within : (g : Grammar) (texts : List (List ℕ)) (nodes : List NodePlan) (word : List ℕ) (place : ℕ) → nodes ≡ map (word_plan g) texts → Some place ≡ place_of texts word → place < length nodes
found_within g texts nodes word place are found = subst (λ n. place < n) (sym (ap length are ∙ length-map texts (word_plan g))) (place_of-Some texts word place (sym found)).0

pub found_plan : (g : Grammar) (texts : List (List ℕ)) (nodes : List NodePlan) (word : List ℕ) (place : ℕ) (node : NodePlan) → nodes ≡ map (word_plan g) texts → Some place ≡ place_of texts word → node ≡ get_or nodes place node → node ≡ word_plan g word
found_plan g texts nodes word place node are found is =
    let there = place_of-Some texts word place (sym found) in
    is ∙ ap (λ ns. get_or ns place node) are ∙ get_or-map (word_plan g) texts place [] node there.0 ∙ ap (word_plan g) there.1

-- a new word comes behind the others, with its node
pub grown : (g : Grammar) (texts after : List (List ℕ)) (nodes more : List NodePlan) (word : List ℕ) (node : NodePlan) (added : Bool) → nodes ≡ map (word_plan g) texts → place_of texts word ≡ None → node ≡ word_plan g word → more ≡ nodes ++ node ∷ []
    → added ≡ not (has_text texts word) → after ≡ (if added then texts ++ word ∷ [] else texts) → more ≡ map (word_plan g) after
grown g texts after nodes more word node added are unknown is pushed new told =
    let behind : after ≡ texts ++ word ∷ [] = told ∙ ap (λ b. if b then texts ++ word ∷ [] else texts) (new ∙ ap not (place_of-None texts word unknown)) in
    pushed ∙ ap (λ ns. ns ++ node ∷ []) are ∙ ap (λ n. map (word_plan g) texts ++ n ∷ []) is ∙ sym (map-append (word_plan g) texts (word ∷ [])) ∙ ap (map (word_plan g)) (sym behind)
