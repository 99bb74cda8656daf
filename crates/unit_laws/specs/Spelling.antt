-- Names and labels that signatures, structures and units have where they may bind them, or where a record has them.
use Rattle.std.specs.Prelude.{ℕ, List, Bool}
use Rattle.inference_laws.specs.Spelling.{TySpelt, ConSpelt, DatSpelt, DecSpelt}
use Rattle.static_semantics.specs.Holding.{AllItems}
use Rattle.module_semantics.specs.SigPhrases.{ValPhrase, SigPhrase, SpecPhrase, SigBinds, SpecPhrases}
use Rattle.unit_semantics.specs.UnitPhrases.{ModulePhrase, ModuleDec, ModuleDecs, ModuleBinds, FunPhrase, FunsigPhrase, TopPhrase}

abbrev pub ValSpelt : (List ℕ → Bool) → ValPhrase → Type 0
ValSpelt good desc = TySpelt good desc.ty

abbrev mutual
  pub SigSpelt : (List ℕ → Bool) → SigPhrase → Type 0
  SigSpelt good (SigPhrase.Sig spec at) = SpecSpelt good spec
  SigSpelt good (SigPhrase.Named name at) = Unit {0}
  SigSpelt good (SigPhrase.Where sig tyvars long ty at) = SigSpelt good sig × TySpelt good ty

  pub SpecSpelt : (List ℕ → Bool) → SpecPhrase → Type 0
  SpecSpelt good (SpecPhrase.Vals descs at) = AllItems (ValSpelt good) descs
  SpecSpelt good (SpecPhrase.Types descs at) = Unit {0}
  SpecSpelt good (SpecPhrase.Eqtypes descs at) = Unit {0}
  SpecSpelt good (SpecPhrase.Datatypes binds at) = AllItems (DatSpelt good) binds
  SpecSpelt good (SpecPhrase.Replication name long at) = Unit {0}
  SpecSpelt good (SpecPhrase.Exceptions cons at) = AllItems (ConSpelt good) cons
  SpecSpelt good (SpecPhrase.Structures binds at) = SigBindsSpelt good binds
  SpecSpelt good (SpecPhrase.Include sig at) = SigSpelt good sig
  SpecSpelt good (SpecPhrase.Sequence specs at) = SpecsSpelt good specs

  pub SigBindsSpelt : (List ℕ → Bool) → SigBinds → Type 0
  SigBindsSpelt good SigBinds.EndOfBinds = Unit {0}
  SigBindsSpelt good (SigBinds.Bind name sig rest) = SigSpelt good sig × SigBindsSpelt good rest

  pub SpecsSpelt : (List ℕ → Bool) → SpecPhrases → Type 0
  SpecsSpelt good SpecPhrases.EndOfSpecs = Unit {0}
  SpecsSpelt good (SpecPhrases.Next spec rest) = SpecSpelt good spec × SpecsSpelt good rest

abbrev mutual
  pub ModuleSpelt : (List ℕ → Bool) → ModulePhrase → Type 0
  ModuleSpelt good (ModulePhrase.Struct dec at) = ModuleDecSpelt good dec
  ModuleSpelt good (ModulePhrase.Named long at) = Unit {0}
  ModuleSpelt good (ModulePhrase.Transparent str sig at) = ModuleSpelt good str × SigSpelt good sig
  ModuleSpelt good (ModulePhrase.Opaque str sig at) = ModuleSpelt good str × SigSpelt good sig
  ModuleSpelt good (ModulePhrase.Functor name argument at) = ModuleSpelt good argument
  ModuleSpelt good (ModulePhrase.Within dec body at) = ModuleDecSpelt good dec × ModuleSpelt good body

  pub ModuleDecSpelt : (List ℕ → Bool) → ModuleDec → Type 0
  ModuleDecSpelt good (ModuleDec.Core dec) = DecSpelt good dec
  ModuleDecSpelt good (ModuleDec.Local hidden shown at) = ModuleDecSpelt good hidden × ModuleDecSpelt good shown
  ModuleDecSpelt good (ModuleDec.Sequence decs at) = ModuleDecsSpelt good decs
  ModuleDecSpelt good (ModuleDec.Structures binds at) = ModuleBindsSpelt good binds

  pub ModuleDecsSpelt : (List ℕ → Bool) → ModuleDecs → Type 0
  ModuleDecsSpelt good ModuleDecs.EndOfDecs = Unit {0}
  ModuleDecsSpelt good (ModuleDecs.Dec dec rest) = ModuleDecSpelt good dec × ModuleDecsSpelt good rest

  pub ModuleBindsSpelt : (List ℕ → Bool) → ModuleBinds → Type 0
  ModuleBindsSpelt good ModuleBinds.EndOfBinds = Unit {0}
  ModuleBindsSpelt good (ModuleBinds.Bind name str rest) = ModuleSpelt good str × ModuleBindsSpelt good rest

abbrev pub FunSpelt : (List ℕ → Bool) → FunPhrase → Type 0
FunSpelt good bind = SigSpelt good bind.param_sig × ModuleSpelt good bind.body

abbrev pub FunsigSpelt : (List ℕ → Bool) → FunsigPhrase → Type 0
FunsigSpelt good bind = SigSpelt good bind.param_sig × SigSpelt good bind.result_sig

abbrev pub TopSpelt : (List ℕ → Bool) → TopPhrase → Type 0
TopSpelt good (TopPhrase.Structures binds at) = ModuleBindsSpelt good binds
TopSpelt good (TopPhrase.Signatures binds at) = SigBindsSpelt good binds
TopSpelt good (TopPhrase.Functors binds at) = AllItems (FunSpelt good) binds
TopSpelt good (TopPhrase.Funsigs binds at) = AllItems (FunsigSpelt good) binds
