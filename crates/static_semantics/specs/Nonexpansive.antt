-- Nonexpansive expressions. The Definition, section 4.7, with one narrowing: a constructor or an exception is a name as
-- it is, without a constraint around it.
use Rattle.std.specs.Prelude.{ℕ, List, [], ◌∷◌, Bool, true, false, ◌&&◌, not, codes}
use Rattle.semantic_objects.specs.Symbols.{same_text}
use Rattle.semantic_objects.specs.Environments.{Env, values}
use Rattle.bare_phrases.specs.Phrases.{ExpPhrase, ExpFields}
use Rattle.static_semantics.specs.Inferring.{found_at, stands_for_con}

-- whether the last part of a long name is `ref`
abbrev pub ends_in_ref : List (List ℕ) → Bool
ends_in_ref [] = false
ends_in_ref (name ∷ []) = same_text name (codes "ref")
ends_in_ref (name ∷ next ∷ rest) = ends_in_ref (next ∷ rest)

-- a constructor or an exception of the environment, other than one named `ref`
abbrev pub constructs : Env → ExpPhrase → Bool
constructs env (ExpPhrase.Int value at) = false
constructs env (ExpPhrase.Str value at) = false
constructs env (ExpPhrase.Char value at) = false
constructs env (ExpPhrase.Long long at) = stands_for_con (found_at values long.parts env) && not
    (ends_in_ref long.parts)
constructs env (ExpPhrase.Record fields at) = false
constructs env (ExpPhrase.Let dec body at) = false
constructs env (ExpPhrase.App function argument at) = false
constructs env (ExpPhrase.Typed exp ty at) = false
constructs env (ExpPhrase.Handle exp rules at) = false
constructs env (ExpPhrase.Raise exp at) = false
constructs env (ExpPhrase.Fn rules at) = false

abbrev mutual
  pub is_nonexpansive : Env → ExpPhrase → Bool
  is_nonexpansive env (ExpPhrase.Int value at) = true
  is_nonexpansive env (ExpPhrase.Str value at) = true
  is_nonexpansive env (ExpPhrase.Char value at) = true
  is_nonexpansive env (ExpPhrase.Long long at) = true
  is_nonexpansive env (ExpPhrase.Record fields at) = are_nonexpansive env fields
  is_nonexpansive env (ExpPhrase.Let dec body at) = false
  is_nonexpansive env (ExpPhrase.App function argument at) = constructs env function && is_nonexpansive env argument
  is_nonexpansive env (ExpPhrase.Typed exp ty at) = is_nonexpansive env exp
  is_nonexpansive env (ExpPhrase.Handle exp rules at) = false
  is_nonexpansive env (ExpPhrase.Raise exp at) = false
  is_nonexpansive env (ExpPhrase.Fn rules at) = true

  pub are_nonexpansive : Env → ExpFields → Bool
  are_nonexpansive env ExpFields.EndOfFields = true
  are_nonexpansive env (ExpFields.Field label exp rest) = is_nonexpansive env exp && are_nonexpansive env rest
