-- The heads that a clause may have (The Definition of Standard ML, figure 17 and the rules below figure 21): a name and
-- its arguments, where a name that is infix has `op` before it; an infix name between two patterns; and the same in
-- parentheses, behind which further arguments may stand. All clauses of a function have one name and one number of
-- arguments.
use Rattle.std.specs.Prelude.{◌≡◌, ◌⊎◌, ◌<◌, ℕ, List, map, length, All, Bool, true, false, is_some}
use Rattle.sml_trees.specs.declared.full_exp.FullClause.{FullClause, out-FullClause}
use Rattle.sml_trees.specs.declared.full_exp.FullFunBind.{FullFunBind, out-FullFunBind}
use Rattle.sml_trees.specs.declared.full_exp.FullHead.{FullHead}
use Rattle.sml_trees.specs.declared.full_exp.FullHead.TheVariants as h
use Rattle.infix_names.specs.Fixities.{Fixities, fixity_of}
use Rattle.clause_heads.specs.Heads.{wanted_by}
use Rattle.clause_heads.specs.declared.heads.Wanted.{Wanted}
use Rattle.clause_heads.specs.declared.heads.Wanted.TheVariants as wanted

-- whether a name is infix
abbrev pub is_infix : Fixities → List ℕ → Bool
is_infix fs text = is_some (fixity_of fs text)

-- a head of one of the three forms
abbrev pub IsHead : Fixities → FullHead → Type 0
IsHead fs (h.Prefix called args) = (called.op ≡ true) ⊎ (is_infix fs called.name.text ≡ false)
IsHead fs (h.Infix left called right) = is_infix fs called.text ≡ true
IsHead fs (h.ParenInfix left called right args) = is_infix fs called.text ≡ true

-- it has an argument
abbrev pub HasArgument : FullHead → Type 0
HasArgument (h.Prefix called args) = 0 < length args
HasArgument (h.Infix left called right) = Unit {0}
HasArgument (h.ParenInfix left called right args) = Unit {0}

-- one that the clauses before ask for: of the first anything with an argument, and of the others its name and number
abbrev pub IsWanted : Wanted → FullHead → Type 0
IsWanted wanted.Any head = HasArgument head
IsWanted (wanted.Same name args) head = wanted_by head ≡ wanted.Same name args

-- the heads of a function
abbrev pub head_of : FullClause → FullHead
head_of clause = (out-FullClause clause).head

abbrev pub heads_of : FullFunBind → List FullHead
heads_of function = map head_of (out-FullFunBind function).clauses

-- one that has this name and number of arguments
abbrev pub IsClauseHead : Fixities → Wanted → FullHead → Type 0
IsClauseHead fs wanted head = IsHead fs head × (wanted_by head ≡ wanted)

-- there are clauses, and a name and a number of arguments that all of their heads have
pub record IsFunction (fs : Fixities) (function : FullFunBind) : Type 0 where
  pub wanted : Wanted
  pub some : 0 < length (heads_of function)
  pub each : All (IsClauseHead fs wanted) (heads_of function)
