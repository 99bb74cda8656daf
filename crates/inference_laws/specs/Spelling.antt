-- Names and labels that a phrase has where it may bind them, or where a record has them: each is such as one asks for,
-- as of 1 to 255 bytes from 33 to 126.
use Rattle.std.specs.Prelude.{ℕ, List, Option, Some, None, Bool}
use Rattle.bare_phrases.specs.Phrases.{TyPhrase, TyFields, TyPhrases, TypPhrase, ConPhrase, DatPhrase, ExBodyPhrase, ExPhrase, PatPhrase, PatFields, ExpPhrase, ExpFields, Rules, DecPhrase, DecPhrases}
use Rattle.static_semantics.specs.Holding.{AllItems}
use Rattle.inference_laws.specs.Nodes.{IsGood}

abbrev mutual
  pub TySpelt : (List ℕ → Bool) → TyPhrase → Type 0
  TySpelt good (TyPhrase.Var name at) = Unit {0}
  TySpelt good (TyPhrase.Record fields at) = TyFieldsSpelt good fields
  TySpelt good (TyPhrase.Named args long at) = TysSpelt good args
  TySpelt good (TyPhrase.Arrow from to at) = TySpelt good from × TySpelt good to

  pub TyFieldsSpelt : (List ℕ → Bool) → TyFields → Type 0
  TyFieldsSpelt good TyFields.EndOfFields = Unit {0}
  TyFieldsSpelt good (TyFields.Field label ty rest) =
      IsGood good label.text × TySpelt good ty × TyFieldsSpelt good rest

  pub TysSpelt : (List ℕ → Bool) → TyPhrases → Type 0
  TysSpelt good TyPhrases.EndOfArgs = Unit {0}
  TysSpelt good (TyPhrases.Arg ty rest) = TySpelt good ty × TysSpelt good rest

abbrev pub OptionalSpelt : (List ℕ → Bool) → Option TyPhrase → Type 0
OptionalSpelt good None = Unit {0}
OptionalSpelt good (Some ty) = TySpelt good ty

abbrev pub TypSpelt : (List ℕ → Bool) → TypPhrase → Type 0
TypSpelt good bind = IsGood good bind.name.text × TySpelt good bind.ty

abbrev pub ConSpelt : (List ℕ → Bool) → ConPhrase → Type 0
ConSpelt good con = IsGood good con.name.text × OptionalSpelt good con.arg

abbrev pub DatSpelt : (List ℕ → Bool) → DatPhrase → Type 0
DatSpelt good bind = IsGood good bind.name.text × AllItems (ConSpelt good) bind.cons

abbrev pub ExBodySpelt : (List ℕ → Bool) → ExBodyPhrase → Type 0
ExBodySpelt good ExBodyPhrase.Plain = Unit {0}
ExBodySpelt good (ExBodyPhrase.Of ty) = TySpelt good ty
ExBodySpelt good (ExBodyPhrase.Copy long) = Unit {0}

abbrev pub ExSpelt : (List ℕ → Bool) → ExPhrase → Type 0
ExSpelt good bind = IsGood good bind.name.text × ExBodySpelt good bind.body

abbrev mutual
  pub PatSpelt : (List ℕ → Bool) → PatPhrase → Type 0
  PatSpelt good (PatPhrase.Wild at) = Unit {0}
  PatSpelt good (PatPhrase.Int value at) = Unit {0}
  PatSpelt good (PatPhrase.Str value at) = Unit {0}
  PatSpelt good (PatPhrase.Char value at) = Unit {0}
  PatSpelt good (PatPhrase.Long long at) = AllItems (IsGood good) long.parts
  PatSpelt good (PatPhrase.Record fields at) = PatFieldsSpelt good fields
  PatSpelt good (PatPhrase.Con long arg at) = PatSpelt good arg
  PatSpelt good (PatPhrase.Typed pat ty at) = PatSpelt good pat × TySpelt good ty
  PatSpelt good (PatPhrase.As name ty pat at) =
      IsGood good name.text × OptionalSpelt good ty × PatSpelt good pat

  pub PatFieldsSpelt : (List ℕ → Bool) → PatFields → Type 0
  PatFieldsSpelt good PatFields.EndOfFields = Unit {0}
  PatFieldsSpelt good (PatFields.Field label pat rest) =
      IsGood good label.text × PatSpelt good pat × PatFieldsSpelt good rest

abbrev mutual
  pub ExpSpelt : (List ℕ → Bool) → ExpPhrase → Type 0
  ExpSpelt good (ExpPhrase.Int value at) = Unit {0}
  ExpSpelt good (ExpPhrase.Str value at) = Unit {0}
  ExpSpelt good (ExpPhrase.Char value at) = Unit {0}
  ExpSpelt good (ExpPhrase.Long long at) = Unit {0}
  ExpSpelt good (ExpPhrase.Record fields at) = ExpFieldsSpelt good fields
  ExpSpelt good (ExpPhrase.Let dec body at) = DecSpelt good dec × ExpSpelt good body
  ExpSpelt good (ExpPhrase.App function argument at) = ExpSpelt good function × ExpSpelt good argument
  ExpSpelt good (ExpPhrase.Typed exp ty at) = ExpSpelt good exp × TySpelt good ty
  ExpSpelt good (ExpPhrase.Handle exp rules at) = ExpSpelt good exp × RulesSpelt good rules
  ExpSpelt good (ExpPhrase.Raise exp at) = ExpSpelt good exp
  ExpSpelt good (ExpPhrase.Fn rules at) = RulesSpelt good rules

  pub ExpFieldsSpelt : (List ℕ → Bool) → ExpFields → Type 0
  ExpFieldsSpelt good ExpFields.EndOfFields = Unit {0}
  ExpFieldsSpelt good (ExpFields.Field label exp rest) =
      IsGood good label.text × ExpSpelt good exp × ExpFieldsSpelt good rest

  pub RulesSpelt : (List ℕ → Bool) → Rules → Type 0
  RulesSpelt good Rules.EndOfRules = Unit {0}
  RulesSpelt good (Rules.Rule pat exp rest) = PatSpelt good pat × ExpSpelt good exp × RulesSpelt good rest

  pub DecSpelt : (List ℕ → Bool) → DecPhrase → Type 0
  DecSpelt good (DecPhrase.Val tyvars rules recs at) = RulesSpelt good rules × RulesSpelt good recs
  DecSpelt good (DecPhrase.Types binds at) = AllItems (TypSpelt good) binds
  DecSpelt good (DecPhrase.Datatypes binds at) = AllItems (DatSpelt good) binds
  DecSpelt good (DecPhrase.Replication name long at) = IsGood good name.text
  DecSpelt good (DecPhrase.Exceptions binds at) = AllItems (ExSpelt good) binds
  DecSpelt good (DecPhrase.Local hidden shown at) = DecSpelt good hidden × DecSpelt good shown
  DecSpelt good (DecPhrase.Open longs at) = Unit {0}
  DecSpelt good (DecPhrase.Sequence decs at) = DecsSpelt good decs
  DecSpelt good (DecPhrase.Structures binds at) = Unit {0}

  pub DecsSpelt : (List ℕ → Bool) → DecPhrases → Type 0
  DecsSpelt good DecPhrases.EndOfDecs = Unit {0}
  DecsSpelt good (DecPhrases.Dec dec rest) = DecSpelt good dec × DecsSpelt good rest
