-- How the directives of a list of lines nest. As far as lines fit together they are a tree: items, `#error`s, and
-- blocks from an `#if` to its `#endif`. `lines_of` says which lines a tree stands for.
use Rattle.std.specs.Prelude.{◌≡◌, ℕ, List, [], ◌∷◌, ◌++◌}
use Rattle.cm_base.specs.declared.diag.Place.{Place}
use Rattle.cm_conditions.specs.declared.cond.Cond.{Cond}
use Rattle.cm_conditions.specs.declared.line.Line.{Line}
use Rattle.cm_conditions.specs.declared.line.LineBody.{LineBody}
use Rattle.cm_conditions.specs.declared.line.LineBody.TheVariants as l

mutual
  -- lines in which each `#if` has its `#endif`, and each branch its `#if`
  pub data Part : Type 0 where
    -- no line
    end : Part
    -- an item, and the lines behind it
    item : Place → ℕ → Part → Part
    -- an `#error`, and the lines behind it
    error : Place → List ℕ → Part → Part
    -- an `#if` with the lines of its first branch, what closes that, and the lines behind its `#endif`
    block : Place → Cond → Part → Branches → Part → Part

  -- what closes a branch: the `#endif`, or another branch and what closes that one
  pub data Branches : Type 0 where
    endif : Place → Branches
    elif : Place → Cond → Part → Branches → Branches
    otherwise : Place → Part → Branches → Branches

abbrev pub line : Place → LineBody → Line
line at body = record { at = at; body = body }

abbrev mutual
  -- the lines of a tree
  pub lines_of : Part → List Line
  lines_of Part.end = []
  lines_of (Part.item at number behind) = line at (l.Item number) ∷ lines_of behind
  lines_of (Part.error at text behind) = line at (l.Error text) ∷ lines_of behind
  lines_of (Part.block at cond part branches behind) =
      line at (l.If cond) ∷ (lines_of part ++ (branch_lines branches ++ lines_of behind))

  pub branch_lines : Branches → List Line
  branch_lines (Branches.endif at) = line at l.Endif ∷ []
  branch_lines (Branches.elif at cond part branches) =
      line at (l.Elif cond) ∷ (lines_of part ++ branch_lines branches)
  branch_lines (Branches.otherwise at part branches) = line at l.Else ∷ (lines_of part ++ branch_lines branches)

-- an `#if` before these lines is closed by them: a tree stands there, and then branches up to an `#endif`
pub record IsClosed (lines : List Line) : Type 0 where
  pub part : Part
  pub branches : Branches
  pub rest : List Line
  pub spelled : lines ≡ lines_of part ++ (branch_lines branches ++ rest)

-- a directive that no tree before these lines has, where no block is open before it: an `#if` that they don't close,
-- and each of the others
abbrev pub IsMisplaced : LineBody → List Line → Type 0
IsMisplaced (l.If cond) behind = IsClosed behind → ⊥
IsMisplaced (l.Elif cond) behind = Unit {0}
IsMisplaced l.Else behind = Unit {0}
IsMisplaced l.Endif behind = Unit {0}
IsMisplaced (l.Error text) behind = ⊥
IsMisplaced (l.Item number) behind = ⊥

-- no line, or a misplaced directive and any lines behind it
abbrev pub Ends : List Line → Type 0
Ends [] = Unit {0}
Ends (line ∷ behind) = IsMisplaced line.body behind

-- the lines are those of this tree, and then these, of which the first fits into no tree
pub record IsNested (lines : List Line) (part : Part) (rest : List Line) : Type 0 where
  pub spelled : lines ≡ lines_of part ++ rest
  pub ends : Ends rest

-- each list of lines nests ..
abbrev pub EachNests : Type 0
EachNests = (lines : List Line) → (part : Part) × (rest : List Line) × IsNested lines part rest

-- .. and in one way
abbrev pub NestsInOneWay : Type 0
NestsInOneWay = (lines : List Line) (part other : Part) (rest more : List Line) → IsNested lines part rest
    → IsNested lines other more → (part ≡ other) × (rest ≡ more)
