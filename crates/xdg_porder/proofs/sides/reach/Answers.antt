use Rattle.xdg_porder.proofs.sides.reach.Goals as goal

pub returns-in-Left-clause-sound : goal.returns-in-Left-clause-sound
returns-in-Left-clause-sound c v there = rw c.in-Left.is ((c.left_of.ensures v).0 there)

pub returns-in-Left-clause-whole : goal.returns-in-Left-clause-whole
returns-in-Left-clause-whole c v w small end far = (c.left_of.ensures v).1 (w, end, rw c.in-Left.is at far)

pub returns-in-Right-clause-sound : goal.returns-in-Right-clause-sound
returns-in-Right-clause-sound c v there = (let (w, end, far) = (c.right_of.ensures v).0 there in rw c.in-Right.is (w, end, far.0))

pub returns-in-Right-clause-whole : goal.returns-in-Right-clause-whole
returns-in-Right-clause-whole c v w small end far = (c.right_of.ensures v).1 (w, end, (rw c.in-Right.is at far, small))
