-- Some constants, values, lines and a block, worked out by hand.
use Rattle.std.specs.Prelude.{◌≡◌, List, [], ◌∷◌, ◌++◌, true, false, codes, refl}
use Rattle.std.specs.Fmt.{digits}
use Rattle.xdg_base.specs.declared.faults.Cause.TheVariants as causes
use Rattle.xdg_problem.specs.declared.parts.AttrPlan.{AttrPlan}
use Rattle.xdg_problem.specs.declared.parts.DimPlan.{DimPlan}
use Rattle.xdg_problem.specs.declared.parts.Parts.{Parts}
use Rattle.xdg_problem.specs.declared.parts.SentenceWord.{SentenceWord}
use Rattle.xdg_problem.specs.declared.parts.Shown.TheVariants as shown
use Rattle.xdg_problem.specs.declared.analysis.Analysis.{Analysis}
use Rattle.xdg_problem.specs.Places.{edge}
use Rattle.xdg_text.specs.Blocks.{block}
use Rattle.xdg_base.specs.Spelling.{is_keyword}
use Rattle.xdg_text.specs.Constants.{constant}
use Rattle.xdg_text.specs.Lines.{attr_line, fault_text, complete_line}
use Rattle.xdg_text.specs.Values.{value_text}

a_name : constant (codes "p.x_2") ≡ codes "p.x_2"
unfolding is_keyword
a_name = refl

two_words : constant (codes "b c") ≡ codes "\"b c\""
two_words = refl

a_keyword : constant (codes "dim") ≡ codes "\"dim\""
unfolding is_keyword
a_keyword = refl

no_characters : constant [] ≡ codes "\"\""
no_characters = refl

escaped_characters : constant (codes "a\"b\\c") ≡ codes "\"a\\\"b\\\\c\""
escaped_characters = refl

tuple_line : attr_line (codes "id") 8 (codes "agr") (value_text (shown.Many (codes "m" ∷ codes "nom" ∷ []))) ≡ codes "attr id 9 agr [m nom]\n"
unfolding is_keyword digits
tuple_line = refl

abbrev pub sentence : List SentenceWord
sentence = record { text = codes "the"; at = 0 } ∷ record { text = codes "dog"; at = 4 } ∷ record { text = codes "barks"; at = 8 } ∷ []

abbrev pub plain : Parts
plain = record {
  words = sentence;
  candidates = [];
  dims =
      record { name = codes "id"; labels = codes "det" ∷ codes "subj" ∷ []; attrs = []; graph = true }
      ∷ record { name = codes "lex"; labels = []; attrs = []; graph = false } ∷ [];
  groups = [];
}

the_dog_barks : block plain 1
    (record { entries = record { 0 = 0 } ∷ record { 0 = 1 } ∷ record { 0 = 2 } ∷ []; attrs = []; edges = edge 0 1 0 0 ∷ edge 0 2 1 1 ∷ [] })
    ≡ codes "analysis 1\nword 1 \"the\" 1\nword 2 \"dog\" 2\nword 3 \"barks\" 3\nedge id 2 det 1\nedge id 3 subj 2\nend\n"
unfolding is_keyword digits
the_dog_barks = refl

abbrev pub agr : AttrPlan
agr = record { name = codes "agr"; values = shown.Many (codes "m" ∷ codes "nom" ∷ []) ∷ shown.Many (codes "f" ∷ codes "gen" ∷ []) ∷ [] }

abbrev pub on : AttrPlan
on = record { name = codes "on"; values = shown.One (codes "n") ∷ shown.One (codes "v f") ∷ [] }

abbrev pub id : DimPlan
id = record { name = codes "id"; labels = []; attrs = agr ∷ []; graph = true }

abbrev pub lp : DimPlan
lp = record { name = codes "lp"; labels = codes "detf" ∷ []; attrs = on ∷ agr ∷ []; graph = true }

abbrev pub german : Parts
german = record {
  words = record { text = codes "der"; at = 0 } ∷ record { text = codes "Frau"; at = 4 } ∷ [];
  candidates = (record { 0 = 9 } ∷ []) ∷ (record { 0 = 3 } ∷ []) ∷ [];
  dims = id ∷ lp ∷ [];
  groups = [];
}

abbrev pub reading : Analysis
reading = record { entries = record { 0 = 9 } ∷ record { 0 = 3 } ∷ []; attrs = 0 ∷ 1 ∷ 1 ∷ 0 ∷ 0 ∷ 1 ∷ []; edges = edge 1 1 0 0 ∷ [] }

by_dimension_node_and_attribute : block german 12 reading
    ≡ codes "analysis 12\nword 1 \"der\" 10\nword 2 \"Frau\" 4\nattr id 1 agr [m nom]\nattr id 2 agr [f gen]\n"
    ++ codes "attr lp 1 on \"v f\"\nattr lp 1 agr [m nom]\nattr lp 2 on n\nattr lp 2 agr [f gen]\nedge lp 2 detf 1\nend\n"
unfolding is_keyword digits
by_dimension_node_and_attribute = refl

not_a_member : fault_text (record { cause = causes.NotMember; at = 30; reached = 0 }) (record { line = 3; column = 9 })
    ≡ codes "fault 34 NotMember line 3 column 9\n"
unfolding digits
not_a_member = refl

too_many_words : fault_text (record { cause = causes.TooManyWords; at = 256; reached = 129 }) (record { line = 1; column = 257 })
    ≡ codes "fault 51 TooManyWords line 1 column 257 reached 129\n"
unfolding digits
too_many_words = refl

all_printed : complete_line 0 ≡ codes "complete 0\n"
unfolding digits
all_printed = refl
