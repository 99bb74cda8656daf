-- The knot of structures and their declarations: the phrases that nest at most so many levels, over those of one level
-- less.
use Rattle.std.specs.Prelude.{ℕ, zero, suc}
use Rattle.grammars.specs.Grammar.Grammar.{refuse}
use Rattle.module_parser.specs.Structures.{StrLevel, str_behind, str_decs_of, str_decs_behind}

abbrev pub str_level_of : ℕ → StrLevel → StrLevel
str_level_of n parts = record {
  str_after = str_behind n parts;
  decs = str_decs_of n parts;
  decs_behind = str_decs_behind n parts;
}

-- Nothing is read where no level is left: the lexeme before it opens one too many.
abbrev pub no_str_level : StrLevel
no_str_level = record {
  str_after = λ fs x. refuse;
  decs = λ fs. refuse;
  decs_behind = λ fs x. refuse;
}

-- the phrases of one level less than so many
unfoldable pub str_below : ℕ → StrLevel
str_below zero = no_str_level
str_below (suc n) = str_level_of n (str_below n)

-- the phrases that nest at most so many levels
abbrev pub str_level : ℕ → StrLevel
str_level n = str_level_of n (str_below n)
