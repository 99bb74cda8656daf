-- What a run means, without an order of work: the tree of its operands and operators in which each operator has the
-- operands that its strength and its side give it. (The Definition, 2.6.)
use Rattle.std.specs.Prelude.{ℕ, ◌≡◌, ◌+◌, ◌≤◌, ◌<◌, Bool, true, false, not, List, [], ◌∷◌, ◌++◌}
use Rattle.sml_trees.specs.declared.name.Name.{Name}
use Rattle.bare_forms.specs.declared.run.Infix.{Infix}
use Rattle.bare_forms.specs.Runs.{After}

-- a tree of operands and operators
pub data RunTree (A : Type 0) : Type 0 where
  Operand : A → RunTree A
  Joined : RunTree A → Infix → RunTree A → RunTree A

-- what a tree makes
abbrev pub value : {A : Type 0} → (Name → A → A → A) → RunTree A → A
value joined (RunTree.Operand x) = x
value joined (RunTree.Joined l op r) = joined op.name (value joined l) (value joined r)

-- its operands and operators from left to right
abbrev pub first_of : {A : Type 0} → RunTree A → A
first_of (RunTree.Operand x) = x
first_of (RunTree.Joined l op r) = first_of l

abbrev pub after_of : {A : Type 0} → RunTree A → List (Infix × A)
after_of (RunTree.Operand x) = []
after_of (RunTree.Joined l op r) = after_of l ++ (op, first_of r) ∷ after_of r

-- the same run by its first operand
abbrev pub as_after : {A : Type 0} → List (A × Infix) → A → After A
as_after [] last = record { first = last; after = [] }
as_after (p ∷ before) last =
    let run = as_after before last in record { first = p.0; after = (p.1, run.first) ∷ run.after }

-- how strongly an operator binds: by its strength, and of one strength those from the right more than those from the
-- left, which stand beside one another in no source
abbrev pub side : Bool → ℕ
side true = 1
side false = 0

abbrev pub rank : Infix → ℕ
rank op = op.fixity.strength + op.fixity.strength + side op.fixity.right

-- each operator of a tree binds so strongly or more, and so does each within an operand of another: more strongly than
-- that one, or as strongly, on the left of one that binds from the left and on the right of one from the right
abbrev pub Binds : {A : Type 0} → ℕ → RunTree A → Type 0
Binds least (RunTree.Operand x) = Unit {0}
Binds least (RunTree.Joined l op r) =
    (least ≤ rank op) × (Binds (rank op + side op.fixity.right) l × Binds (rank op + side (not op.fixity.right)) r)

-- a tree of a run whose operators have their operands so
pub record IsTreeOf {A : Type 0} (before : List (A × Infix)) (last : A) (tree : RunTree A) : Type 0 where
  pub binds : Binds 0 tree
  pub first : first_of tree ≡ (as_after before last).first
  pub after : after_of tree ≡ (as_after before last).after

-- operators have strengths below 10
abbrev pub AreStrengths : {A : Type 0} → List (A × Infix) → Type 0
AreStrengths [] = Unit {0}
AreStrengths (p ∷ before) = (p.1.fixity.strength < 10) × AreStrengths before

-- the run has one tree, whose value this is
pub record IsMadeByOneTree {A : Type 0} (joined : Name → A → A → A) (before : List (A × Infix)) (last made : A) : Type 0 where
  pub tree : RunTree A
  pub is : IsTreeOf before last tree
  pub only : (other : RunTree A) → IsTreeOf before last other → other ≡ tree
  pub makes : made ≡ value joined tree
