-- The knot of expressions and declarations: the phrases that nest at most so many levels, over those of one level less.
use Rattle.std.specs.Prelude.{ℕ, zero, suc}
use Rattle.grammars.specs.Grammar.{◌>>=◌}
use Rattle.grammars.specs.Grammar.Grammar.{refuse}
use Rattle.sml_trees.specs.declared.full_exp.FullDec.{FullDec}
use Rattle.sml_trees.specs.declared.full_exp.FullExp.{FullExp}
use Rattle.core_expressions.specs.Expressions.{exp_of, conjunction_of, operand_of, atexp_of}
use Rattle.phrase_reading.specs.Names.{beginning}
use Rattle.core_expressions.specs.Declarations.{decs_of, dec_of}
use Rattle.expression_parts.specs.ExpStarts.{starts_dec}
use Rattle.infix_names.specs.Fixities.{Fixities}
use Rattle.core_bindings.specs.Decs.{Decs}
use Rattle.core_expressions.specs.Level.{Level}
use Rattle.core_patterns.specs.Patterns.{pat_behind}
use Rattle.core_expressions.specs.Values.{fn_exp_of}
use Rattle.core_types.specs.Types.{ty}
use Rattle.phrase_reading.specs.Words.{g}
use Rattle.phrase_reading.specs.declared.tall.Tall.{Tall}

-- all phrases with so many levels left
abbrev pub level_of : ℕ → Level → Level
level_of n parts = record {
  ty = ty n;
  pat_after = λ fs x. pat_behind fs n x;
  exp = exp_of n parts;
  conjunction = conjunction_of n parts;
  operand = operand_of n parts;
  atexp = atexp_of n parts;
  fn_exp = fn_exp_of n parts;
  decs = decs_of n parts;
  dec = dec_of n parts;
}

-- Nothing is read where no level is left: the lexeme before it opens one too many.
abbrev pub no_level : Level
no_level = record {
  ty = refuse;
  pat_after = λ fs x. refuse;
  exp = λ fs. refuse;
  conjunction = λ fs. refuse;
  operand = λ fs. refuse;
  atexp = λ fs x. refuse;
  fn_exp = λ fs. refuse;
  decs = λ fs. refuse;
  dec = λ fs x. refuse;
}

-- the phrases of one level less than so many
unfoldable pub below : ℕ → Level
below zero = no_level
below (suc n) = level_of n (below n)

-- the phrases that nest at most so many levels
abbrev pub level : ℕ → Level
level n = level_of n (below n)

-- ---- the phrases that are read at a cursor

-- an expression
abbrev pub exp : ℕ → Fixities → g (Tall FullExp)
exp n fs = (level n).exp fs

-- one declaration, with the infix status behind it
unfoldable pub dec : ℕ → Fixities → g (Decs FullDec)
dec n fs = do
  x ← beginning starts_dec
  (level n).dec fs x
