-- The bare trees as data: the same phrases with the same parts in the same order, written so that a definition has a
-- clause for each form of phrase. `PhraseOf` says which phrase a bare tree is.
use Rattle.std.specs.Prelude.{ℕ, ℤ, List, Option}
use Rattle.sml_trees.specs.declared.name.At.{At}
use Rattle.sml_trees.specs.declared.name.Name.{Name}
use Rattle.sml_trees.specs.declared.name.LongName.{LongName}
use Rattle.sml_trees.specs.declared.sig_exp.SigExp.{SigExp}

-- ---- types

mutual
  pub data TyPhrase : Type 0 where
    Var : Name → At → TyPhrase
    Record : TyFields → At → TyPhrase
    Named : TyPhrases → LongName → At → TyPhrase
    Arrow : TyPhrase → TyPhrase → At → TyPhrase

  pub data TyFields : Type 0 where
    EndOfFields : TyFields
    Field : Name → TyPhrase → TyFields → TyFields

  pub data TyPhrases : Type 0 where
    EndOfArgs : TyPhrases
    Arg : TyPhrase → TyPhrases → TyPhrases

-- ---- bindings of names and types

-- `tyvars name = ty`
pub record TypPhrase : Type 0 where
  pub tyvars : List Name
  pub name : Name
  pub ty : TyPhrase

-- a constructor, with the type of its argument where it takes one
pub record ConPhrase : Type 0 where
  pub name : Name
  pub arg : Option TyPhrase

-- `tyvars name = con | ..`
pub record DatPhrase : Type 0 where
  pub tyvars : List Name
  pub name : Name
  pub cons : List ConPhrase

pub data ExBodyPhrase : Type 0 where
  Plain : ExBodyPhrase
  Of : TyPhrase → ExBodyPhrase
  Copy : LongName → ExBodyPhrase

pub record ExPhrase : Type 0 where
  pub name : Name
  pub body : ExBodyPhrase

-- ---- patterns

mutual
  pub data PatPhrase : Type 0 where
    Wild : At → PatPhrase
    Int : ℤ → At → PatPhrase
    Str : List ℕ → At → PatPhrase
    Char : ℕ → At → PatPhrase
    Long : LongName → At → PatPhrase
    Record : PatFields → At → PatPhrase
    Con : LongName → PatPhrase → At → PatPhrase
    Typed : PatPhrase → TyPhrase → At → PatPhrase
    As : Name → Option TyPhrase → PatPhrase → At → PatPhrase

  pub data PatFields : Type 0 where
    EndOfFields : PatFields
    Field : Name → PatPhrase → PatFields → PatFields

-- ---- expressions, declarations and structure expressions

mutual
  pub data ExpPhrase : Type 0 where
    Int : ℤ → At → ExpPhrase
    Str : List ℕ → At → ExpPhrase
    Char : ℕ → At → ExpPhrase
    Long : LongName → At → ExpPhrase
    Record : ExpFields → At → ExpPhrase
    Let : DecPhrase → ExpPhrase → At → ExpPhrase
    App : ExpPhrase → ExpPhrase → At → ExpPhrase
    Typed : ExpPhrase → TyPhrase → At → ExpPhrase
    Handle : ExpPhrase → Rules → At → ExpPhrase
    Raise : ExpPhrase → At → ExpPhrase
    Fn : Rules → At → ExpPhrase

  pub data ExpFields : Type 0 where
    EndOfFields : ExpFields
    Field : Name → ExpPhrase → ExpFields → ExpFields

  -- the rules of a match, or the bindings of a `val`
  pub data Rules : Type 0 where
    EndOfRules : Rules
    Rule : PatPhrase → ExpPhrase → Rules → Rules

  pub data DecPhrase : Type 0 where
    -- the type variables, the bindings, and those after `rec`
    Val : List Name → Rules → Rules → At → DecPhrase
    Types : List TypPhrase → At → DecPhrase
    Datatypes : List DatPhrase → At → DecPhrase
    Replication : Name → LongName → At → DecPhrase
    Exceptions : List ExPhrase → At → DecPhrase
    Local : DecPhrase → DecPhrase → At → DecPhrase
    Open : List LongName → At → DecPhrase
    Sequence : DecPhrases → At → DecPhrase
    Structures : StrBinds → At → DecPhrase

  pub data DecPhrases : Type 0 where
    EndOfDecs : DecPhrases
    Dec : DecPhrase → DecPhrases → DecPhrases

  pub data StrPhrase : Type 0 where
    Struct : DecPhrase → At → StrPhrase
    Named : LongName → At → StrPhrase
    Transparent : StrPhrase → SigExp → At → StrPhrase
    Opaque : StrPhrase → SigExp → At → StrPhrase
    Functor : Name → StrPhrase → At → StrPhrase
    Within : DecPhrase → StrPhrase → At → StrPhrase

  pub data StrBinds : Type 0 where
    EndOfBinds : StrBinds
    Bind : Name → StrPhrase → StrBinds → StrBinds
