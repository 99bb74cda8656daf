-- The items that the conditions of a list choose, or its first refusal, by recursion on the tree of its directives.
use Rattle.std.specs.Prelude.{ℕ, Bool, true, false, not, ◌&&◌, Option, None, Some, Result, Ok, Err, List, [], ◌∷◌, ◌++◌, if◌then◌else◌, ℤ}
use Rattle.cm_base.specs.Calls.{Gives}
use Rattle.cm_base.specs.Diags.{◌>>=◌}
use Rattle.cm_base.specs.declared.diag.Diag.{Diag}
use Rattle.cm_base.specs.declared.diag.Place.{Place}
use Rattle.cm_base.specs.declared.fault.Fault.{Fault}
use Rattle.cm_base.specs.declared.record.Def.{Def}
use Rattle.cm_base.specs.declared.record.ModName.{ModName}
use Rattle.cm_conditions.specs.Nesting.{Part, Branches, IsNested}
use Rattle.cm_conditions.specs.Values.{condition_value, holds, bad_condition}
use Rattle.cm_conditions.specs.declared.cond.Cond.{Cond}
use Rattle.cm_conditions.specs.declared.line.Line.{Line}

-- the refusal of an `#error`
abbrev pub error_line : Place → List ℕ → Diag
error_line at text = record { number = 4; at = at; names = text ∷ [] }

-- whether a branch is chosen: its condition is looked at only where it may be
abbrev pub is_taken : Bool → Place → Option ℤ → Result Bool Diag
is_taken false at value = Ok false
is_taken true at None = Err (bad_condition at)
is_taken true at (Some x) = Ok (holds x)

abbrev mutual
  -- The items that are chosen in a part, where conditions have these values; the part itself is chosen, or isn't. A
  -- refusal counts before those of lines behind it.
  pub chosen : (Cond → Option ℤ) → Bool → Part → Result (List ℕ) Diag
  chosen value live Part.end = Ok []
  chosen value live (Part.item at number behind) = do
    more ← chosen value live behind
    Ok (if live then number ∷ more else more)
  chosen value live (Part.error at text behind) =
      if live then Err (error_line at text) else chosen value live behind
  chosen value live (Part.block at cond part branches behind) = do
    first ← is_taken live at (value cond)
    items ← chosen value first part
    others ← branches_chosen value (live && not first) false branches
    more ← chosen value live behind
    Ok (items ++ (others ++ more))

  -- .. and in the branches behind, where one of them may still be chosen, or the last one was before
  pub branches_chosen : (Cond → Option ℤ) → Bool → Bool → Branches → Result (List ℕ) Diag
  branches_chosen value waits last (Branches.endif at) = Ok []
  branches_chosen value waits last (Branches.elif at cond part branches) = if last then Err (bad_condition at) else (do
    this ← is_taken waits at (value cond)
    items ← chosen value this part
    others ← branches_chosen value (waits && not this) false branches
    Ok (items ++ others))
  branches_chosen value waits last (Branches.otherwise at part branches) = if last then Err (bad_condition at) else (do
    items ← chosen value waits part
    others ← branches_chosen value false true branches
    Ok (items ++ others))

-- what is chosen of the lines of a tree and of those behind it, of which the first is misplaced
abbrev pub selected : (Cond → Option ℤ) → Part → List Line → Result (List ℕ) Diag
selected value part [] = chosen value true part
selected value part (line ∷ behind) = chosen value true part >>= (λ items. Err (bad_condition line.at))

-- The lines nest so, and the call answers what is chosen of them. There is one way to nest for each list of lines.
abbrev pub Selects : List Def → List ModName → List Line → Result (List ℕ) Fault → Type 0
Selects defs exports lines result =
    (part : Part) × (rest : List Line) × IsNested lines part rest
    × Gives result (selected (condition_value defs exports) part rest)
