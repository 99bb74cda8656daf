-- Where every name is good, each phrase is spelt so.
use Rattle.std.proofs.Common.{ℕ, List, [], ◌∷◌, Option, Some, None, refl}
use Rattle.bare_phrases.specs.Phrases.{TyPhrase, TyFields, TyPhrases, TypPhrase, ConPhrase, DatPhrase, ExBodyPhrase, ExPhrase, PatPhrase, PatFields, ExpPhrase, ExpFields, Rules, DecPhrase, DecPhrases}
use Rattle.static_semantics.specs.Holding.{AllItems}
use Rattle.inference_laws.specs.Nodes.{IsGood}
use Rattle.inference_laws.specs.Spelling.{TySpelt, TyFieldsSpelt, TysSpelt, OptionalSpelt, TypSpelt, ConSpelt, DatSpelt, ExBodySpelt, ExSpelt, PatSpelt, PatFieldsSpelt, ExpSpelt, ExpFieldsSpelt, RulesSpelt, DecSpelt, DecsSpelt}
use Rattle.module_semantics.specs.SigPhrases.{ValPhrase, SigPhrase, SpecPhrase, SigBinds, SpecPhrases}
use Rattle.unit_semantics.specs.UnitPhrases.{ModulePhrase, ModuleDec, ModuleDecs, ModuleBinds, FunPhrase, FunsigPhrase, TopPhrase}
use Rattle.unit_laws.specs.Spelling.{ValSpelt, SigSpelt, SpecSpelt, SigBindsSpelt, SpecsSpelt, ModuleSpelt, ModuleDecSpelt, ModuleDecsSpelt, ModuleBindsSpelt, FunSpelt, FunsigSpelt, TopSpelt}
use Rattle.unit_derivations.specs.Promises.{every}

pub every_item : {A : Type 0} (P : A → Type 0) → ((x : A) → P x) → (xs : List A) → AllItems P xs
every_item P is [] = tt
every_item P is (x ∷ xs) = (is x, every_item P is xs)

good_name : (name : List ℕ) → IsGood every name
good_name name = refl

mutual
  ty_spelt : (ty : TyPhrase) → TySpelt every ty
  ty_spelt (TyPhrase.Var name at) = tt
  ty_spelt (TyPhrase.Record fields at) = fields_spelt fields
  ty_spelt (TyPhrase.Named args long at) = tys_spelt args
  ty_spelt (TyPhrase.Arrow from to at) = (ty_spelt from, ty_spelt to)

  fields_spelt : (fields : TyFields) → TyFieldsSpelt every fields
  fields_spelt TyFields.EndOfFields = tt
  fields_spelt (TyFields.Field label ty rest) = (refl, ty_spelt ty, fields_spelt rest)

  tys_spelt : (tys : TyPhrases) → TysSpelt every tys
  tys_spelt TyPhrases.EndOfArgs = tt
  tys_spelt (TyPhrases.Arg ty rest) = (ty_spelt ty, tys_spelt rest)

optional_spelt : (o : Option TyPhrase) → OptionalSpelt every o
optional_spelt None = tt
optional_spelt (Some ty) = ty_spelt ty

typ_spelt : (bind : TypPhrase) → TypSpelt every bind
typ_spelt bind = (refl, ty_spelt bind.ty)

con_spelt : (con : ConPhrase) → ConSpelt every con
con_spelt con = (refl, optional_spelt con.arg)

dat_spelt : (bind : DatPhrase) → DatSpelt every bind
dat_spelt bind = (refl, every_item (ConSpelt every) con_spelt bind.cons)

ex_body_spelt : (body : ExBodyPhrase) → ExBodySpelt every body
ex_body_spelt ExBodyPhrase.Plain = tt
ex_body_spelt (ExBodyPhrase.Of ty) = ty_spelt ty
ex_body_spelt (ExBodyPhrase.Copy long) = tt

ex_spelt : (bind : ExPhrase) → ExSpelt every bind
ex_spelt bind = (refl, ex_body_spelt bind.body)

mutual
  pat_spelt : (pat : PatPhrase) → PatSpelt every pat
  pat_spelt (PatPhrase.Wild at) = tt
  pat_spelt (PatPhrase.Int value at) = tt
  pat_spelt (PatPhrase.Str value at) = tt
  pat_spelt (PatPhrase.Char value at) = tt
  pat_spelt (PatPhrase.Long long at) = every_item (IsGood every) good_name long.parts
  pat_spelt (PatPhrase.Record fields at) = pat_fields_spelt fields
  pat_spelt (PatPhrase.Con long arg at) = pat_spelt arg
  pat_spelt (PatPhrase.Typed pat ty at) = (pat_spelt pat, ty_spelt ty)
  pat_spelt (PatPhrase.As name ty pat at) = (refl, optional_spelt ty, pat_spelt pat)

  pat_fields_spelt : (fields : PatFields) → PatFieldsSpelt every fields
  pat_fields_spelt PatFields.EndOfFields = tt
  pat_fields_spelt (PatFields.Field label pat rest) = (refl, pat_spelt pat, pat_fields_spelt rest)

mutual
  exp_spelt : (exp : ExpPhrase) → ExpSpelt every exp
  exp_spelt (ExpPhrase.Int value at) = tt
  exp_spelt (ExpPhrase.Str value at) = tt
  exp_spelt (ExpPhrase.Char value at) = tt
  exp_spelt (ExpPhrase.Long long at) = tt
  exp_spelt (ExpPhrase.Record fields at) = exp_fields_spelt fields
  exp_spelt (ExpPhrase.Let dec body at) = (dec_spelt dec, exp_spelt body)
  exp_spelt (ExpPhrase.App function argument at) = (exp_spelt function, exp_spelt argument)
  exp_spelt (ExpPhrase.Typed exp ty at) = (exp_spelt exp, ty_spelt ty)
  exp_spelt (ExpPhrase.Handle exp rules at) = (exp_spelt exp, rules_spelt rules)
  exp_spelt (ExpPhrase.Raise exp at) = exp_spelt exp
  exp_spelt (ExpPhrase.Fn rules at) = rules_spelt rules

  exp_fields_spelt : (fields : ExpFields) → ExpFieldsSpelt every fields
  exp_fields_spelt ExpFields.EndOfFields = tt
  exp_fields_spelt (ExpFields.Field label exp rest) = (refl, exp_spelt exp, exp_fields_spelt rest)

  rules_spelt : (rules : Rules) → RulesSpelt every rules
  rules_spelt Rules.EndOfRules = tt
  rules_spelt (Rules.Rule pat exp rest) = (pat_spelt pat, exp_spelt exp, rules_spelt rest)

  dec_spelt : (dec : DecPhrase) → DecSpelt every dec
  dec_spelt (DecPhrase.Val tyvars rules recs at) = (rules_spelt rules, rules_spelt recs)
  dec_spelt (DecPhrase.Types binds at) = every_item (TypSpelt every) typ_spelt binds
  dec_spelt (DecPhrase.Datatypes binds at) = every_item (DatSpelt every) dat_spelt binds
  dec_spelt (DecPhrase.Replication name long at) = refl
  dec_spelt (DecPhrase.Exceptions binds at) = every_item (ExSpelt every) ex_spelt binds
  dec_spelt (DecPhrase.Local hidden shown at) = (dec_spelt hidden, dec_spelt shown)
  dec_spelt (DecPhrase.Open longs at) = tt
  dec_spelt (DecPhrase.Sequence decs at) = decs_spelt decs
  dec_spelt (DecPhrase.Structures binds at) = tt

  decs_spelt : (decs : DecPhrases) → DecsSpelt every decs
  decs_spelt DecPhrases.EndOfDecs = tt
  decs_spelt (DecPhrases.Dec dec rest) = (dec_spelt dec, decs_spelt rest)

val_spelt : (desc : ValPhrase) → ValSpelt every desc
val_spelt desc = ty_spelt desc.ty

mutual
  sig_spelt : (sig : SigPhrase) → SigSpelt every sig
  sig_spelt (SigPhrase.Sig spec at) = spec_spelt spec
  sig_spelt (SigPhrase.Named name at) = tt
  sig_spelt (SigPhrase.Where sig tyvars long ty at) = (sig_spelt sig, ty_spelt ty)

  spec_spelt : (spec : SpecPhrase) → SpecSpelt every spec
  spec_spelt (SpecPhrase.Vals descs at) = every_item (ValSpelt every) val_spelt descs
  spec_spelt (SpecPhrase.Types descs at) = tt
  spec_spelt (SpecPhrase.Eqtypes descs at) = tt
  spec_spelt (SpecPhrase.Datatypes binds at) = every_item (DatSpelt every) dat_spelt binds
  spec_spelt (SpecPhrase.Replication name long at) = tt
  spec_spelt (SpecPhrase.Exceptions cons at) = every_item (ConSpelt every) con_spelt cons
  spec_spelt (SpecPhrase.Structures binds at) = sig_binds_spelt binds
  spec_spelt (SpecPhrase.Include sig at) = sig_spelt sig
  spec_spelt (SpecPhrase.Sequence specs at) = specs_spelt specs

  sig_binds_spelt : (binds : SigBinds) → SigBindsSpelt every binds
  sig_binds_spelt SigBinds.EndOfBinds = tt
  sig_binds_spelt (SigBinds.Bind name sig rest) = (sig_spelt sig, sig_binds_spelt rest)

  specs_spelt : (specs : SpecPhrases) → SpecsSpelt every specs
  specs_spelt SpecPhrases.EndOfSpecs = tt
  specs_spelt (SpecPhrases.Next spec rest) = (spec_spelt spec, specs_spelt rest)

mutual
  module_spelt : (str : ModulePhrase) → ModuleSpelt every str
  module_spelt (ModulePhrase.Struct dec at) = module_dec_spelt dec
  module_spelt (ModulePhrase.Named long at) = tt
  module_spelt (ModulePhrase.Transparent str sig at) = (module_spelt str, sig_spelt sig)
  module_spelt (ModulePhrase.Opaque str sig at) = (module_spelt str, sig_spelt sig)
  module_spelt (ModulePhrase.Functor name argument at) = module_spelt argument
  module_spelt (ModulePhrase.Within dec body at) = (module_dec_spelt dec, module_spelt body)

  module_dec_spelt : (dec : ModuleDec) → ModuleDecSpelt every dec
  module_dec_spelt (ModuleDec.Core dec) = dec_spelt dec
  module_dec_spelt (ModuleDec.Local hidden shown at) = (module_dec_spelt hidden, module_dec_spelt shown)
  module_dec_spelt (ModuleDec.Sequence decs at) = module_decs_spelt decs
  module_dec_spelt (ModuleDec.Structures binds at) = module_binds_spelt binds

  module_decs_spelt : (decs : ModuleDecs) → ModuleDecsSpelt every decs
  module_decs_spelt ModuleDecs.EndOfDecs = tt
  module_decs_spelt (ModuleDecs.Dec dec rest) = (module_dec_spelt dec, module_decs_spelt rest)

  module_binds_spelt : (binds : ModuleBinds) → ModuleBindsSpelt every binds
  module_binds_spelt ModuleBinds.EndOfBinds = tt
  module_binds_spelt (ModuleBinds.Bind name str rest) = (module_spelt str, module_binds_spelt rest)

fun_spelt : (bind : FunPhrase) → FunSpelt every bind
fun_spelt bind = (sig_spelt bind.param_sig, module_spelt bind.body)

funsig_spelt : (bind : FunsigPhrase) → FunsigSpelt every bind
funsig_spelt bind = (sig_spelt bind.param_sig, sig_spelt bind.result_sig)

pub top_spelt : (top : TopPhrase) → TopSpelt every top
top_spelt (TopPhrase.Structures binds at) = module_binds_spelt binds
top_spelt (TopPhrase.Signatures binds at) = sig_binds_spelt binds
top_spelt (TopPhrase.Functors binds at) = every_item (FunSpelt every) fun_spelt binds
top_spelt (TopPhrase.Funsigs binds at) = every_item (FunsigSpelt every) funsig_spelt binds
