-- The rows of features, read at places that they may not have.
use Rattle.std.proofs.Common.{◌≡◌, ℕ, List, [], sym, ap, Some, None}
use Rattle.std.specs.Prelude.{slice_get, slice_index_or}
use Rattle.xdg_problem.specs.declared.parts.Feat.{Feat}
use Rattle.xdg_problem.specs.declared.parts.Group.{Group}
use Rattle.xdg_problem.specs.Features.{row}
use Rattle.xdg_facts.proofs.Lookups.{read_some, read_none}

abbrev pub in_feature : Feat → ℕ → List ℕ
in_feature feature label = slice_index_or feature.rows label []

abbrev pub in_features : List Feat → ℕ → ℕ → List ℕ
in_features features argument label = in_feature (slice_index_or features argument (record { rows = [] })) label

abbrev pub in_candidates : List (List Feat) → ℕ → ℕ → ℕ → List ℕ
in_candidates candidates candidate argument label = in_features (slice_index_or candidates candidate []) argument label

pub row_no_node : (group : Group) (node candidate argument label : ℕ) → None ≡ slice_get group.feats node → [] ≡ row group node candidate argument label
row_no_node group node candidate argument label h = sym (ap (λ candidates. in_candidates candidates candidate argument label) (read_none group.feats node [] h))

pub row_node : (group : Group) (node candidate argument label : ℕ) (candidates : List (List Feat)) → Some candidates ≡ slice_get group.feats node → row group node candidate argument label ≡ in_candidates candidates candidate argument label
row_node group node candidate argument label candidates h = ap (λ candidates. in_candidates candidates candidate argument label) (read_some group.feats node candidates [] h)

pub row_no_candidate : (candidates : List (List Feat)) (candidate argument label : ℕ) → None ≡ slice_get candidates candidate → in_candidates candidates candidate argument label ≡ []
row_no_candidate candidates candidate argument label h = ap (λ features. in_features features argument label) (read_none candidates candidate [] h)

pub row_candidate : (candidates : List (List Feat)) (candidate argument label : ℕ) (features : List Feat) → Some features ≡ slice_get candidates candidate → in_candidates candidates candidate argument label ≡ in_features features argument label
row_candidate candidates candidate argument label features h = ap (λ features. in_features features argument label) (read_some candidates candidate features [] h)

pub row_no_feature : (features : List Feat) (argument label : ℕ) → None ≡ slice_get features argument → in_features features argument label ≡ []
row_no_feature features argument label h = ap (λ feature. in_feature feature label) (read_none features argument (record { rows = [] }) h)

pub row_feature : (features : List Feat) (argument label : ℕ) (feature : Feat) → Some feature ≡ slice_get features argument → in_features features argument label ≡ in_feature feature label
row_feature features argument label feature h = ap (λ feature. in_feature feature label) (read_some features argument feature (record { rows = [] }) h)
