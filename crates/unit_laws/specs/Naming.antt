-- Names that signatures, structures and units bind, and what has good names alone.
use Rattle.std.specs.Prelude.{ℕ, List, Bool}
use Rattle.semantic_objects.specs.Environments.{Signature, Functor, Top}
use Rattle.static_semantics.specs.Holding.{AllItems}
use Rattle.inference_laws.specs.Nodes.{IsGood}
use Rattle.inference_laws.specs.Naming.{RowsWith, NamedEnv}
use Rattle.inference_laws.specs.Spelling.{ConSpelt, DatSpelt, DecSpelt}
use Rattle.module_semantics.specs.SigPhrases.{ValPhrase, TypeDescPhrase, SigPhrase, SpecPhrase, SigBinds, SpecPhrases}
use Rattle.unit_semantics.specs.UnitPhrases.{ModulePhrase, ModuleDec, ModuleDecs, ModuleBinds, FunPhrase, FunsigPhrase, TopPhrase}

-- ---- phrases

abbrev pub ValNamed : (List ℕ → Bool) → ValPhrase → Type 0
ValNamed good desc = IsGood good desc.name.text

abbrev pub TypeNamed : (List ℕ → Bool) → TypeDescPhrase → Type 0
TypeNamed good desc = IsGood good desc.name.text

abbrev mutual
  pub SigNamed : (List ℕ → Bool) → SigPhrase → Type 0
  SigNamed good (SigPhrase.Sig spec at) = SpecNamed good spec
  SigNamed good (SigPhrase.Named name at) = Unit {0}
  SigNamed good (SigPhrase.Where sig tyvars long ty at) = SigNamed good sig

  pub SpecNamed : (List ℕ → Bool) → SpecPhrase → Type 0
  SpecNamed good (SpecPhrase.Vals descs at) = AllItems (ValNamed good) descs
  SpecNamed good (SpecPhrase.Types descs at) = AllItems (TypeNamed good) descs
  SpecNamed good (SpecPhrase.Eqtypes descs at) = AllItems (TypeNamed good) descs
  SpecNamed good (SpecPhrase.Datatypes binds at) = AllItems (DatSpelt good) binds
  SpecNamed good (SpecPhrase.Replication name long at) = IsGood good name.text
  SpecNamed good (SpecPhrase.Exceptions cons at) = AllItems (ConSpelt good) cons
  SpecNamed good (SpecPhrase.Structures binds at) = SigBindsNamed good binds
  SpecNamed good (SpecPhrase.Include sig at) = SigNamed good sig
  SpecNamed good (SpecPhrase.Sequence specs at) = SpecsNamed good specs

  pub SigBindsNamed : (List ℕ → Bool) → SigBinds → Type 0
  SigBindsNamed good SigBinds.EndOfBinds = Unit {0}
  SigBindsNamed good (SigBinds.Bind name sig rest) =
      IsGood good name.text × SigNamed good sig × SigBindsNamed good rest

  pub SpecsNamed : (List ℕ → Bool) → SpecPhrases → Type 0
  SpecsNamed good SpecPhrases.EndOfSpecs = Unit {0}
  SpecsNamed good (SpecPhrases.Next spec rest) = SpecNamed good spec × SpecsNamed good rest

abbrev mutual
  pub ModuleNamed : (List ℕ → Bool) → ModulePhrase → Type 0
  ModuleNamed good (ModulePhrase.Struct dec at) = ModuleDecNamed good dec
  ModuleNamed good (ModulePhrase.Named long at) = Unit {0}
  ModuleNamed good (ModulePhrase.Transparent str sig at) = ModuleNamed good str × SigNamed good sig
  ModuleNamed good (ModulePhrase.Opaque str sig at) = ModuleNamed good str × SigNamed good sig
  ModuleNamed good (ModulePhrase.Functor name argument at) = ModuleNamed good argument
  ModuleNamed good (ModulePhrase.Within dec body at) = ModuleDecNamed good dec × ModuleNamed good body

  pub ModuleDecNamed : (List ℕ → Bool) → ModuleDec → Type 0
  ModuleDecNamed good (ModuleDec.Core dec) = DecSpelt good dec
  ModuleDecNamed good (ModuleDec.Local hidden shown at) = ModuleDecNamed good hidden × ModuleDecNamed good shown
  ModuleDecNamed good (ModuleDec.Sequence decs at) = ModuleDecsNamed good decs
  ModuleDecNamed good (ModuleDec.Structures binds at) = ModuleBindsNamed good binds

  pub ModuleDecsNamed : (List ℕ → Bool) → ModuleDecs → Type 0
  ModuleDecsNamed good ModuleDecs.EndOfDecs = Unit {0}
  ModuleDecsNamed good (ModuleDecs.Dec dec rest) = ModuleDecNamed good dec × ModuleDecsNamed good rest

  pub ModuleBindsNamed : (List ℕ → Bool) → ModuleBinds → Type 0
  ModuleBindsNamed good ModuleBinds.EndOfBinds = Unit {0}
  ModuleBindsNamed good (ModuleBinds.Bind name str rest) =
      IsGood good name.text × ModuleNamed good str × ModuleBindsNamed good rest

pub record FunNamed (good : List ℕ → Bool) (bind : FunPhrase) : Type 0 where
  pub name : IsGood good bind.name.text
  pub param : IsGood good bind.param.text
  pub param_sig : SigNamed good bind.param_sig
  pub body : ModuleNamed good bind.body

pub record FunsigNamed (good : List ℕ → Bool) (bind : FunsigPhrase) : Type 0 where
  pub name : IsGood good bind.name.text
  pub param : IsGood good bind.param.text
  pub param_sig : SigNamed good bind.param_sig
  pub result_sig : SigNamed good bind.result_sig

abbrev pub TopNamed : (List ℕ → Bool) → TopPhrase → Type 0
TopNamed good (TopPhrase.Structures binds at) = ModuleBindsNamed good binds
TopNamed good (TopPhrase.Signatures binds at) = SigBindsNamed good binds
TopNamed good (TopPhrase.Functors binds at) = AllItems (FunNamed good) binds
TopNamed good (TopPhrase.Funsigs binds at) = AllItems (FunsigNamed good) binds

-- ---- what has good names

abbrev pub NamedSignature : (List ℕ → Bool) → Signature → Type 0
NamedSignature good sig = NamedEnv good sig.env

abbrev pub NamedFunctor : (List ℕ → Bool) → Functor → Type 0
NamedFunctor good fun = NamedEnv good fun.param × NamedEnv good fun.result

pub record NamedTop (good : List ℕ → Bool) (top : Top) : Type 0 where
  pub env : NamedEnv good top.env
  pub signatures : RowsWith (IsGood good) (NamedSignature good) top.signatures
  pub functors : RowsWith (IsGood good) (NamedFunctor good) top.functors
  pub funsigs : RowsWith (IsGood good) (NamedFunctor good) top.funsigs
