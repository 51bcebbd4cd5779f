-- Parameters where no class has them.
use Rattle.std.specs.Prelude.{ℕ, List, [], ◌∷◌, flat_map, if◌then◌else◌}
use Rattle.xdg_base.specs.Faults.{fault_at}
use Rattle.xdg_base.specs.declared.faults.Cause.TheVariants as causes
use Rattle.xdg_base.specs.declared.faults.Fault.{Fault}
use Rattle.xdg_base.specs.Texts.{has_text}
use Rattle.xdg_ast.specs.declared.names.Name.{Name}
use Rattle.xdg_ast.specs.declared.terms.TermKind.{TermKind}
use Rattle.xdg_ast.specs.declared.terms.ElemKind.{ElemKind}
use Rattle.xdg_ast.specs.declared.terms.ElemKind.TheOpen.{TermKind-F, ElemKind-F}
use Rattle.xdg_ast.specs.declared.terms.ElemKind.TheFolds.{fold-TermKind, fold-ElemKind}
use Rattle.xdg_terms.specs.Forms.{Term}
use Rattle.xdg_ast.specs.Misnamed.{IsUnknown}

-- ---- all parameters in a term

abbrev pub term_step : TermKind-F (List Name) (List Name) → List Name
term_step (TermKind-F.Param name) = name ∷ []
term_step (TermKind-F.Braces elems) = flat_map (λ elem. elem.kind) elems
term_step _ = []

abbrev pub elem_step : ElemKind-F (List Name) (List Name) → List Name
elem_step (ElemKind-F.Keyed name t) = t.kind
elem_step _ = []

-- the parameters in a term, in the order of the text
abbrev pub tokens : TermKind → List Name
tokens = fold-TermKind (List Name) (List Name) elem_step term_step

abbrev pub elem_tokens : ElemKind → List Name
elem_tokens = fold-ElemKind (List Name) (List Name) elem_step term_step

-- A parameter stands in the term, anywhere, that is none of these.
abbrev pub IsStrayParam : List (List ℕ) → Term → Fault → Type 0
IsStrayParam free t f = IsUnknown causes.WrongKind free (tokens t.kind) f

-- ---- the same as a list

unfoldable pub stray : List (List ℕ) → Name → List Fault
stray free name = if has_text free name.text then [] else fault_at causes.WrongKind name.span.start ∷ []

abbrev pub all_stray : List (List ℕ) → TermKind → List Fault
all_stray free kind = flat_map (stray free) (tokens kind)
