-- What holds of every declaration in a phrase, those inside others included. Of a sequence and of `local` nothing is
-- asked but of the declarations in them, and nothing of a structure declaration.
use Rattle.bare_phrases.specs.Phrases.{ExpPhrase, ExpFields, Rules, DecPhrase, DecPhrases}

abbrev mutual
  pub ExpHas : (DecPhrase → Type 0) → ExpPhrase → Type 0
  ExpHas P (ExpPhrase.Int value at) = Unit {0}
  ExpHas P (ExpPhrase.Str value at) = Unit {0}
  ExpHas P (ExpPhrase.Char value at) = Unit {0}
  ExpHas P (ExpPhrase.Long long at) = Unit {0}
  ExpHas P (ExpPhrase.Record fields at) = ExpFieldsHave P fields
  ExpHas P (ExpPhrase.Let dec body at) = DecHas P dec × ExpHas P body
  ExpHas P (ExpPhrase.App function argument at) = ExpHas P function × ExpHas P argument
  ExpHas P (ExpPhrase.Typed exp ty at) = ExpHas P exp
  ExpHas P (ExpPhrase.Handle exp rules at) = ExpHas P exp × RulesHave P rules
  ExpHas P (ExpPhrase.Raise exp at) = ExpHas P exp
  ExpHas P (ExpPhrase.Fn rules at) = RulesHave P rules

  pub ExpFieldsHave : (DecPhrase → Type 0) → ExpFields → Type 0
  ExpFieldsHave P ExpFields.EndOfFields = Unit {0}
  ExpFieldsHave P (ExpFields.Field label exp rest) = ExpHas P exp × ExpFieldsHave P rest

  pub RulesHave : (DecPhrase → Type 0) → Rules → Type 0
  RulesHave P Rules.EndOfRules = Unit {0}
  RulesHave P (Rules.Rule pat exp rest) = ExpHas P exp × RulesHave P rest

  pub DecHas : (DecPhrase → Type 0) → DecPhrase → Type 0
  DecHas P (DecPhrase.Val tyvars rules recs at) =
      P (DecPhrase.Val tyvars rules recs at) × RulesHave P rules × RulesHave P recs
  DecHas P (DecPhrase.Types binds at) = P (DecPhrase.Types binds at)
  DecHas P (DecPhrase.Datatypes binds at) = P (DecPhrase.Datatypes binds at)
  DecHas P (DecPhrase.Replication name long at) = P (DecPhrase.Replication name long at)
  DecHas P (DecPhrase.Exceptions binds at) = P (DecPhrase.Exceptions binds at)
  DecHas P (DecPhrase.Local hidden shown at) = DecHas P hidden × DecHas P shown
  DecHas P (DecPhrase.Open longs at) = P (DecPhrase.Open longs at)
  DecHas P (DecPhrase.Sequence decs at) = DecsHave P decs
  DecHas P (DecPhrase.Structures binds at) = Unit {0}

  pub DecsHave : (DecPhrase → Type 0) → DecPhrases → Type 0
  DecsHave P DecPhrases.EndOfDecs = Unit {0}
  DecsHave P (DecPhrases.Dec dec rest) = DecHas P dec × DecsHave P rest

-- an expression that is nonexpansive in every environment
abbrev mutual
  pub IsValue : ExpPhrase → Type 0
  IsValue (ExpPhrase.Int value at) = Unit {0}
  IsValue (ExpPhrase.Str value at) = Unit {0}
  IsValue (ExpPhrase.Char value at) = Unit {0}
  IsValue (ExpPhrase.Long long at) = Unit {0}
  IsValue (ExpPhrase.Record fields at) = FieldsAreValues fields
  IsValue (ExpPhrase.Let dec body at) = ⊥
  IsValue (ExpPhrase.App function argument at) = ⊥
  IsValue (ExpPhrase.Typed exp ty at) = IsValue exp
  IsValue (ExpPhrase.Handle exp rules at) = ⊥
  IsValue (ExpPhrase.Raise exp at) = ⊥
  IsValue (ExpPhrase.Fn rules at) = Unit {0}

  pub FieldsAreValues : ExpFields → Type 0
  FieldsAreValues ExpFields.EndOfFields = Unit {0}
  FieldsAreValues (ExpFields.Field label exp rest) = IsValue exp × FieldsAreValues rest

-- right sides that are such expressions, as all those of `rec` bindings are: functions
abbrev pub AreValues : Rules → Type 0
AreValues Rules.EndOfRules = Unit {0}
AreValues (Rules.Rule pat exp rest) = IsValue exp × AreValues rest

-- a declaration; the `rec` bindings of a `val` have such right sides alone, as they have in every source
abbrev pub BindsValues : DecPhrase → Type 0
BindsValues (DecPhrase.Val tyvars rules recs at) = AreValues recs
BindsValues (DecPhrase.Types binds at) = Unit {0}
BindsValues (DecPhrase.Datatypes binds at) = Unit {0}
BindsValues (DecPhrase.Replication name long at) = Unit {0}
BindsValues (DecPhrase.Exceptions binds at) = Unit {0}
BindsValues (DecPhrase.Local hidden shown at) = Unit {0}
BindsValues (DecPhrase.Open longs at) = Unit {0}
BindsValues (DecPhrase.Sequence decs at) = Unit {0}
BindsValues (DecPhrase.Structures binds at) = Unit {0}
