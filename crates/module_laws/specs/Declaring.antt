-- What holds of every declaration of the core in a structure expression or a declaration, those inside others included.
use Rattle.bare_phrases.specs.Phrases.{DecPhrase}
use Rattle.unit_semantics.specs.UnitPhrases.{ModulePhrase, ModuleDec, ModuleDecs, ModuleBinds}
use Rattle.elaboration_laws.specs.Declaring.{DecHas}

abbrev mutual
  pub ModuleHas : (DecPhrase → Type 0) → ModulePhrase → Type 0
  ModuleHas P (ModulePhrase.Struct dec at) = ModuleDecHas P dec
  ModuleHas P (ModulePhrase.Named long at) = Unit {0}
  ModuleHas P (ModulePhrase.Transparent str sig at) = ModuleHas P str
  ModuleHas P (ModulePhrase.Opaque str sig at) = ModuleHas P str
  ModuleHas P (ModulePhrase.Functor name argument at) = ModuleHas P argument
  ModuleHas P (ModulePhrase.Within dec body at) = ModuleDecHas P dec × ModuleHas P body

  pub ModuleDecHas : (DecPhrase → Type 0) → ModuleDec → Type 0
  ModuleDecHas P (ModuleDec.Core dec) = DecHas P dec
  ModuleDecHas P (ModuleDec.Local hidden shown at) = ModuleDecHas P hidden × ModuleDecHas P shown
  ModuleDecHas P (ModuleDec.Sequence decs at) = ModuleDecsHave P decs
  ModuleDecHas P (ModuleDec.Structures binds at) = ModuleBindsHave P binds

  pub ModuleDecsHave : (DecPhrase → Type 0) → ModuleDecs → Type 0
  ModuleDecsHave P ModuleDecs.EndOfDecs = Unit {0}
  ModuleDecsHave P (ModuleDecs.Dec dec rest) = ModuleDecHas P dec × ModuleDecsHave P rest

  pub ModuleBindsHave : (DecPhrase → Type 0) → ModuleBinds → Type 0
  ModuleBindsHave P ModuleBinds.EndOfBinds = Unit {0}
  ModuleBindsHave P (ModuleBinds.Bind name str rest) = ModuleHas P str × ModuleBindsHave P rest
