-- The phrases that stand in each other, as one record: those that nest at most so deep. The productions of expressions
-- and declarations take the phrases of one level less; `Levels` ties the knot.
use Rattle.sml_lexer.specs.declared.lexeme.Lexeme.{Lexeme}
use Rattle.sml_trees.specs.declared.full_exp.FullDec.{FullDec}
use Rattle.sml_trees.specs.declared.full_exp.FullExp.{FullExp}
use Rattle.sml_trees.specs.declared.full_pat.FullPat.{FullPat}
use Rattle.sml_trees.specs.declared.full_ty.FullTy.{FullTy}
use Rattle.infix_names.specs.Fixities.{Fixities}
use Rattle.phrase_reading.specs.Words.{g}
use Rattle.phrase_reading.specs.declared.tall.Tall.{Tall}
use Rattle.core_bindings.specs.Decs.{Decs}

-- the phrases that nest at most so deep
pub record Level : Type 1 where
  -- a type
  pub ty : g (Tall FullTy)
  -- a pattern, behind its first lexeme
  pub pat_after : Fixities → Lexeme → g (Tall FullPat)
  -- an expression
  pub exp : Fixities → g (Tall FullExp)
  -- what stands on a side of `orelse`
  pub conjunction : Fixities → g (Tall FullExp)
  -- what stands on a side of `andalso`
  pub operand : Fixities → g (Tall FullExp)
  -- an atomic expression, behind its first lexeme
  pub atexp : Fixities → Lexeme → g (Tall FullExp)
  -- the right side of a `rec` binding
  pub fn_exp : Fixities → g (Tall FullExp)
  -- declarations and semicolons, none or more
  pub decs : Fixities → g (Decs FullDec)
  -- one declaration, behind its first lexeme
  pub dec : Fixities → Lexeme → g (Decs FullDec)
