-- Structure expressions, the declarations in them and those of a unit's top level as data, with a clause for each form;
-- and which of them a bare tree is. Signature expressions in them are phrases too, and a declaration of the core is one
-- part.
use Rattle.std.specs.Prelude.{List, map, Bool, true, false}
use Rattle.sml_trees.specs.declared.name.At.{At}
use Rattle.sml_trees.specs.declared.name.Name.{Name}
use Rattle.sml_trees.specs.declared.name.LongName.{LongName}
use Rattle.sml_trees.specs.declared.sig_exp.SigBind.{SigBind}
use Rattle.sml_trees.specs.declared.unit.BareUnit.{BareUnit}
use Rattle.sml_trees.specs.declared.unit.FunBind.{FunBind}
use Rattle.sml_trees.specs.declared.unit.FunsigBind.{FunsigBind}
use Rattle.sml_trees.specs.declared.unit.TopDec.{TopDec}
use Rattle.sml_trees.specs.declared.unit.TopDec.TheVariants as top
use Rattle.bare_phrases.specs.Phrases.{DecPhrase, DecPhrases, StrPhrase, StrBinds}
use Rattle.bare_phrases.specs.PhraseOf.{str_phrase, str_bind_phrase, str_binds}
use Rattle.module_semantics.specs.SigPhrases.{SigPhrase, SigBinds, sig_phrase, sig_binds}

mutual
  pub data ModulePhrase : Type 0 where
    Struct : ModuleDec → At → ModulePhrase
    Named : LongName → At → ModulePhrase
    Transparent : ModulePhrase → SigPhrase → At → ModulePhrase
    Opaque : ModulePhrase → SigPhrase → At → ModulePhrase
    -- a functor with its argument
    Functor : Name → ModulePhrase → At → ModulePhrase
    -- `let dec in str end`
    Within : ModuleDec → ModulePhrase → At → ModulePhrase

  pub data ModuleDec : Type 0 where
    -- any declaration but those that follow
    Core : DecPhrase → ModuleDec
    Local : ModuleDec → ModuleDec → At → ModuleDec
    Sequence : ModuleDecs → At → ModuleDec
    Structures : ModuleBinds → At → ModuleDec

  pub data ModuleDecs : Type 0 where
    EndOfDecs : ModuleDecs
    Dec : ModuleDec → ModuleDecs → ModuleDecs

  pub data ModuleBinds : Type 0 where
    EndOfBinds : ModuleBinds
    Bind : Name → ModulePhrase → ModuleBinds → ModuleBinds

-- `name ( param : param_sig ) = body`
pub record FunPhrase : Type 0 where
  pub name : Name
  pub param : Name
  pub param_sig : SigPhrase
  pub body : ModulePhrase

-- `name ( param : param_sig ) = result_sig`
pub record FunsigPhrase : Type 0 where
  pub name : Name
  pub param : Name
  pub param_sig : SigPhrase
  pub result_sig : SigPhrase

pub data TopPhrase : Type 0 where
  Structures : ModuleBinds → At → TopPhrase
  Signatures : SigBinds → At → TopPhrase
  Functors : List FunPhrase → At → TopPhrase
  Funsigs : List FunsigPhrase → At → TopPhrase

-- ---- which phrase a bare tree is

abbrev mutual
  pub module_phrase : StrPhrase → ModulePhrase
  module_phrase (StrPhrase.Struct dec at) = ModulePhrase.Struct (module_dec dec) at
  module_phrase (StrPhrase.Named long at) = ModulePhrase.Named long at
  module_phrase (StrPhrase.Transparent str sig at) = ModulePhrase.Transparent (module_phrase str) (sig_phrase sig) at
  module_phrase (StrPhrase.Opaque str sig at) = ModulePhrase.Opaque (module_phrase str) (sig_phrase sig) at
  module_phrase (StrPhrase.Functor name argument at) = ModulePhrase.Functor name (module_phrase argument) at
  module_phrase (StrPhrase.Within dec body at) = ModulePhrase.Within (module_dec dec) (module_phrase body) at

  pub module_dec : DecPhrase → ModuleDec
  module_dec (DecPhrase.Val tyvars rules recs at) = ModuleDec.Core (DecPhrase.Val tyvars rules recs at)
  module_dec (DecPhrase.Types binds at) = ModuleDec.Core (DecPhrase.Types binds at)
  module_dec (DecPhrase.Datatypes binds at) = ModuleDec.Core (DecPhrase.Datatypes binds at)
  module_dec (DecPhrase.Replication name long at) = ModuleDec.Core (DecPhrase.Replication name long at)
  module_dec (DecPhrase.Exceptions binds at) = ModuleDec.Core (DecPhrase.Exceptions binds at)
  module_dec (DecPhrase.Local hidden shown at) = ModuleDec.Local (module_dec hidden) (module_dec shown) at
  module_dec (DecPhrase.Open longs at) = ModuleDec.Core (DecPhrase.Open longs at)
  module_dec (DecPhrase.Sequence decs at) = ModuleDec.Sequence (module_decs decs) at
  module_dec (DecPhrase.Structures binds at) = ModuleDec.Structures (module_binds binds) at

  pub module_decs : DecPhrases → ModuleDecs
  module_decs DecPhrases.EndOfDecs = ModuleDecs.EndOfDecs
  module_decs (DecPhrases.Dec dec rest) = ModuleDecs.Dec (module_dec dec) (module_decs rest)

  pub module_binds : StrBinds → ModuleBinds
  module_binds StrBinds.EndOfBinds = ModuleBinds.EndOfBinds
  module_binds (StrBinds.Bind name str rest) = ModuleBinds.Bind name (module_phrase str) (module_binds rest)

abbrev pub sig_bind_phrase : SigBind → Name × SigPhrase
sig_bind_phrase bind = (bind.name, sig_phrase bind.sig)

abbrev pub fun_phrase : FunBind → FunPhrase
fun_phrase bind = record {
  name = bind.name;
  param = bind.param;
  param_sig = sig_phrase bind.param_sig;
  body = module_phrase (str_phrase bind.body);
}

abbrev pub funsig_phrase : FunsigBind → FunsigPhrase
funsig_phrase bind = record {
  name = bind.name;
  param = bind.param;
  param_sig = sig_phrase bind.param_sig;
  result_sig = sig_phrase bind.result_sig;
}

abbrev pub top_phrase : TopDec → TopPhrase
top_phrase (top.Structures binds at) = TopPhrase.Structures (module_binds (str_binds (map str_bind_phrase binds))) at
top_phrase (top.Signatures binds at) = TopPhrase.Signatures (sig_binds (map sig_bind_phrase binds)) at
top_phrase (top.Functors binds at) = TopPhrase.Functors (map fun_phrase binds) at
top_phrase (top.Funsigs binds at) = TopPhrase.Funsigs (map funsig_phrase binds) at

abbrev pub unit_phrases : BareUnit → List TopPhrase
unit_phrases unit = map top_phrase unit.topdecs

-- ---- the option that seals

-- where it is given, a `:` that is outermost on the right side of a binding is read as `:>`
abbrev pub read_module : Bool → ModulePhrase → ModulePhrase
read_module sealing (ModulePhrase.Struct dec at) = ModulePhrase.Struct dec at
read_module sealing (ModulePhrase.Named long at) = ModulePhrase.Named long at
read_module false (ModulePhrase.Transparent str sig at) = ModulePhrase.Transparent str sig at
read_module true (ModulePhrase.Transparent str sig at) = ModulePhrase.Opaque str sig at
read_module sealing (ModulePhrase.Opaque str sig at) = ModulePhrase.Opaque str sig at
read_module sealing (ModulePhrase.Functor name argument at) = ModulePhrase.Functor name argument at
read_module sealing (ModulePhrase.Within dec body at) = ModulePhrase.Within dec body at

abbrev pub read_binds : Bool → ModuleBinds → ModuleBinds
read_binds sealing ModuleBinds.EndOfBinds = ModuleBinds.EndOfBinds
read_binds sealing (ModuleBinds.Bind name str rest) =
    ModuleBinds.Bind name (read_module sealing str) (read_binds sealing rest)

-- of the top level, structure bindings alone
abbrev pub read_top : Bool → TopPhrase → TopPhrase
read_top sealing (TopPhrase.Structures binds at) = TopPhrase.Structures (read_binds sealing binds) at
read_top sealing (TopPhrase.Signatures binds at) = TopPhrase.Signatures binds at
read_top sealing (TopPhrase.Functors binds at) = TopPhrase.Functors binds at
read_top sealing (TopPhrase.Funsigs binds at) = TopPhrase.Funsigs binds at

abbrev pub read_unit : Bool → List TopPhrase → List TopPhrase
read_unit sealing tops = map (read_top sealing) tops
