-- What holds of every declaration of the core in a unit.
use Rattle.bare_phrases.specs.Phrases.{DecPhrase}
use Rattle.static_semantics.specs.Holding.{AllItems}
use Rattle.unit_semantics.specs.UnitPhrases.{FunPhrase, TopPhrase}
use Rattle.module_laws.specs.Declaring.{ModuleHas, ModuleBindsHave}

abbrev pub FunHas : (DecPhrase → Type 0) → FunPhrase → Type 0
FunHas P bind = ModuleHas P bind.body

abbrev pub TopHas : (DecPhrase → Type 0) → TopPhrase → Type 0
TopHas P (TopPhrase.Structures binds at) = ModuleBindsHave P binds
TopHas P (TopPhrase.Signatures binds at) = Unit {0}
TopHas P (TopPhrase.Functors binds at) = AllItems (FunHas P) binds
TopHas P (TopPhrase.Funsigs binds at) = Unit {0}
