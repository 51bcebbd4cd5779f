-- How much is still to be visited where a body is denoted.
use Rattle.std.specs.Prelude.{ℕ, zero, suc, ◌+◌, List, [], ◌∷◌, take, drop}
use Rattle.xdg_classes.specs.Bodies.{Body, either, both, saying, calling, Bodies, no_body, body_then, body}
use Rattle.xdg_classes.proofs.Bodied.{trees}
use Rattle.xdg_check.specs.declared.checked.Class.{Class}
use Rattle.xdg_check.specs.Checked.{Parts}
use Rattle.xdg_check.specs.Counts.{Counting, class_texts, looked_up}
use Rattle.xdg_lexicon.specs.declared.frames.Frame.{Frame}
use Rattle.xdg_lexicon.specs.declared.frames.Frame.TheVariants as frame

-- The weight of a body, where the body of each class has that weight: more than its parts weigh together.
abbrev mutual
  pub weigh : Counting → Body → ℕ
  weigh names (either bs) = 2 + weigh_in names bs
  weigh names (both bs) = 2 + weigh_in names bs
  weigh names (saying dim pairs) = 1
  weigh names (calling name args) = 2 + names name.text

  pub weigh_in : Counting → Bodies → ℕ
  weigh_in names no_body = 0
  weigh_in names (body_then b bs) = weigh names b + weigh_in names bs

-- the weights of the bodies of classes, where uses of classes go so deep
abbrev pub sized : Parts → ℕ → List ℕ → ℕ
sized checked zero name = 0
sized checked (suc depth) name =
    looked_up (λ (c : Class). weigh (sized checked depth) (body c.body.kind)) (class_texts checked.classes) checked.classes name

-- the weight of what is still to be visited of what is open, from the inmost, where uses of classes go so deep
abbrev pub heavy : Parts → List Frame → ℕ → ℕ
heavy checked [] depth = 0
heavy checked (frame.Listing members place listed ∷ fs) depth =
    1 + weigh_in (sized checked depth) (trees (drop (place + 1) members.now)) + heavy checked fs depth
heavy checked (frame.Joining members place joined ∷ fs) depth = 1 + weigh_in (sized checked depth) (trees (take place members.now)) + heavy checked fs depth
heavy checked (frame.Using outside ∷ fs) depth = 1 + heavy checked fs outside.depth
