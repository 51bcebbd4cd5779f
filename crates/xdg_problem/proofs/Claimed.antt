-- What formulas claim, form by form.
use Rattle.std.proofs.Common.{◌≡◌, ℕ, Bool, List, map, sym, ◌∙◌, ap}
use Rattle.xdg_base.specs.declared.ids.AttrId.{AttrId}
use Rattle.xdg_base.specs.declared.ids.DimId.{DimId}
use Rattle.xdg_base.specs.declared.ids.LabelId.{LabelId}
use Rattle.xdg_problem.specs.declared.formula.Formula.{Formula}
use Rattle.xdg_problem.specs.declared.formula.Formula.TheVariants as y
use Rattle.xdg_problem.specs.declared.formula.Formula.TheOpen.{Formula-F}
use Rattle.xdg_problem.specs.declared.formula.Formula.TheFolds.{fold-roll-Formula}
use Rattle.xdg_problem.specs.Claims.{Claim, negation, conjunction, disjunction, every, some, joined, above, left, same, valued, fitting, claims_of, layer, claim}

pub claim_not : (f : Formula) → claim (y.Not f) ≡ negation (claim f)
claim_not f = ap claim (sym (y.rolls-Not f)) ∙ fold-roll-Formula Claim layer (Formula-F.Not f)

pub claim_and : (fs : List Formula) → claim (y.And fs) ≡ conjunction (claims_of (map claim fs))
claim_and fs = ap claim (sym (y.rolls-And fs)) ∙ fold-roll-Formula Claim layer (Formula-F.And fs)

pub claim_or : (fs : List Formula) → claim (y.Or fs) ≡ disjunction (claims_of (map claim fs))
claim_or fs = ap claim (sym (y.rolls-Or fs)) ∙ fold-roll-Formula Claim layer (Formula-F.Or fs)

pub claim_every : (name : ℕ) (f : Formula) → claim (y.Every name f) ≡ every name (claim f)
claim_every name f = ap claim (sym (y.rolls-Every name f)) ∙ fold-roll-Formula Claim layer (Formula-F.Every name f)

pub claim_any : (name : ℕ) (f : Formula) → claim (y.Any name f) ≡ some name (claim f)
claim_any name f = ap claim (sym (y.rolls-Any name f)) ∙ fold-roll-Formula Claim layer (Formula-F.Any name f)

pub claim_edge : (dim : DimId) (mother : ℕ) (label : LabelId) (daughter : ℕ) → claim (y.Edge dim mother label daughter) ≡ joined dim.0 mother label.0 daughter
claim_edge dim mother label daughter = ap claim (sym (y.rolls-Edge dim mother label daughter)) ∙ fold-roll-Formula Claim layer (Formula-F.Edge dim mother label daughter)

pub claim_above : (dim : DimId) (upper lower : ℕ) → claim (y.Above dim upper lower) ≡ above dim.0 upper lower
claim_above dim upper lower = ap claim (sym (y.rolls-Above dim upper lower)) ∙ fold-roll-Formula Claim layer (Formula-F.Above dim upper lower)

pub claim_left : (first second : ℕ) → claim (y.Left first second) ≡ left first second
claim_left first second = ap claim (sym (y.rolls-Left first second)) ∙ fold-roll-Formula Claim layer (Formula-F.Left first second)

pub claim_same : (first second : ℕ) → claim (y.Same first second) ≡ same first second
claim_same first second = ap claim (sym (y.rolls-Same first second)) ∙ fold-roll-Formula Claim layer (Formula-F.Same first second)

pub claim_attr : (name : ℕ) (dim : DimId) (attr : AttrId) (value : ℕ) → claim (y.Attr name dim attr value) ≡ valued name dim.0 attr.0 value
claim_attr name dim attr value = ap claim (sym (y.rolls-Attr name dim attr value)) ∙ fold-roll-Formula Claim layer (Formula-F.Attr name dim attr value)

pub claim_feat : (name : ℕ) (table : List (List Bool)) → claim (y.Feat name table) ≡ fitting name table
claim_feat name table = ap claim (sym (y.rolls-Feat name table)) ∙ fold-roll-Formula Claim layer (Formula-F.Feat name table)
