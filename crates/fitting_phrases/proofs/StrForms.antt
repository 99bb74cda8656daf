-- What a structure, a functor or a unit becomes has names that fit, if its names and what its parts become have.
use Rattle.std.proofs.Common.{◌≡◌, Bool, true, false, List, [], ◌∷◌, Option, Some, None, if◌then◌else◌, refl, sym, subst, map, flat_map}
use Rattle.sml_trees.specs.declared.name.At.{At}
use Rattle.sml_trees.specs.declared.name.Name.{Name}
use Rattle.sml_trees.specs.declared.name.LongName.{LongName}
use Rattle.sml_trees.specs.declared.full_exp.FullDec.{FullDec}
use Rattle.sml_trees.specs.declared.full_sig.FullSeal.{FullSeal}
use Rattle.sml_trees.specs.declared.full_sig.FullSigExp.{FullSigExp}
use Rattle.sml_trees.specs.declared.full_sig.FullSigBind.{FullSigBind}
use Rattle.sml_trees.specs.declared.full_str.FullStrBind.{FullStrBind, roll-FullStrBind}
use Rattle.sml_trees.specs.declared.full_str.FullStrDec.{FullStrDec}
use Rattle.sml_trees.specs.declared.full_str.FullStrDec.TheFolds.{fold-roll-FullStrBind}
use Rattle.sml_trees.specs.declared.full_str.FullStrDec.TheVariants as d
use Rattle.sml_trees.specs.declared.full_str.FullStrExp.{FullStrExp}
use Rattle.sml_trees.specs.declared.full_str.FullStrExp.TheVariants as t
use Rattle.sml_trees.specs.declared.full_unit.FullFunctorBind.{FullFunctorBind}
use Rattle.sml_trees.specs.declared.full_unit.FullFunsigBind.{FullFunsigBind}
use Rattle.sml_trees.specs.declared.full_unit.FullParam.{FullParam}
use Rattle.sml_trees.specs.declared.full_unit.FullParam.TheVariants as param
use Rattle.sml_trees.specs.declared.full_unit.FullTopDec.{FullTopDec}
use Rattle.sml_trees.specs.declared.full_unit.FullTopDec.TheVariants as top
use Rattle.sml_trees.specs.declared.full_unit.FullUnit.{FullUnit}
use Rattle.sml_trees.specs.declared.exp.Dec.TheVariants as dec
use Rattle.sml_trees.specs.declared.exp.StrBind.{StrBind}
use Rattle.sml_trees.specs.declared.exp.StrExp.{StrExp}
use Rattle.sml_trees.specs.declared.exp.StrExp.TheVariants as str
use Rattle.bare_forms.specs.declared.placed.PlacedStr.{PlacedStr}
use Rattle.bare_forms.specs.Patterns.{long_at}
use Rattle.bare_forms.specs.Signatures.{bare_sig, bare_spec, bare_sig_bind}
use Rattle.bare_forms.specs.Expressions.{PlacedDec, sequence_dec}
use Rattle.bare_forms.specs.Structures.{sealed, str_dec_level, str_level, str_bind_level, bare_str_dec, bare_str, bare_str_bind}
use Rattle.bare_forms.specs.Units.{param_text, spec_sig, opening, functor_of, bare_functor, bare_funsig, bare_topdec, bare_of}
use Rattle.bare_forms.proofs.StrLevels.{bare_str_dec-Core, bare_str_dec-Structures, bare_str_dec-Local, bare_str-Struct, bare_str-Named, bare_str-Transparent, bare_str-Opaque, bare_str-Functor, bare_str-FunctorOfDecs, bare_str-Within}
use Rattle.body_laws.proofs.Signatures.{Each, each-map, each-flat, each-all, both-true}
use Rattle.fitting_names.specs.Names.{name_fits, names_sig, names_str, names_str_bind, names_sig_bind, names_fun_bind, names_funsig_bind, names_topdec, HasFitNames}
use Rattle.fitting_names.proofs.Nodes as node
use Rattle.fitting_names.proofs.Nodes.{FitName, FitLong}
use Rattle.fitting_names.proofs.PatForms.{alone_fits}
use Rattle.fitting_names.proofs.SigForms.{FitSpec, SigIs, SpecIs, SigBindIs, body_fits}
use Rattle.std.specs.List.{list_all}
use Rattle.std.proofs.lemmas.Bool.{and_parts}
use Rattle.bare_forms.specs.declared.placed.PlacedExp.{PlacedExp}
use Rattle.bare_forms.specs.Runs.{Part}
use Rattle.fitting_phrases.specs.Promises.{part_fits, RunNamesFit}
use Rattle.fitting_phrases.proofs.Derived.{FitDec, FitPart, good-run}
use Rattle.fitting_phrases.proofs.ExpForms.{DecIs, sequence-is}

-- ---- structures

abbrev pub FitStr : PlacedStr → Type 0
FitStr s = names_str s.str ≡ true

abbrev pub StrIs : FullStrExp → Type 0
StrIs full = FitStr (bare_str full)

abbrev pub StrDecIs : FullStrDec → Type 0
StrDecIs full = Each FitDec (bare_str_dec full).decs

abbrev pub BindIs : FullStrBind → Type 0
BindIs full = names_str_bind (bare_str_bind full) ≡ true

str_by : {one made : PlacedStr} → one ≡ made → FitStr made → FitStr one
str_by same is = subst FitStr (sym same) is

dec_by : {one made : PlacedDec} → one ≡ made → Each FitDec made.decs → Each FitDec one.decs
dec_by same all = subst (λ (found : PlacedDec). Each FitDec found.decs) (sym same) all

pub str-Struct : (decs : List FullStrDec) (at : At) → Each StrDecIs decs → StrIs (t.Struct decs at)
str-Struct decs at all =
    str_by (bare_str-Struct decs at)
    (node.str-Struct (sequence_dec at (map bare_str_dec decs)) at (sequence-is bare_str_dec decs at all))

pub str-Named : (long : LongName) (at : At) → FitLong long → StrIs (t.Named long at)
str-Named long at is = str_by (bare_str-Named long at) (node.str-Named long at is)

pub str-Transparent : (inner : FullStrExp) (sig : FullSigExp) (at : At) → StrIs inner → SigIs sig
    → StrIs (t.Transparent inner sig at)
str-Transparent inner sig at first second =
    str_by (bare_str-Transparent inner sig at)
    (node.str-Transparent (bare_str inner).str (bare_sig sig) at first second)

pub str-Opaque : (inner : FullStrExp) (sig : FullSigExp) (at : At) → StrIs inner → SigIs sig
    → StrIs (t.Opaque inner sig at)
str-Opaque inner sig at first second =
    str_by (bare_str-Opaque inner sig at) (node.str-Opaque (bare_str inner).str (bare_sig sig) at first second)

pub str-Functor : (called : Name) (arg : FullStrExp) (at : At) → FitName called → StrIs arg
    → StrIs (t.Functor called arg at)
str-Functor called arg at first second =
    str_by (bare_str-Functor called arg at) (node.str-Functor called (bare_str arg).str at first second)

pub str-FunctorOfDecs : (called : Name) (decs : List FullStrDec) (begin at : At) → FitName called → Each StrDecIs decs
    → StrIs (t.FunctorOfDecs called decs begin at)
str-FunctorOfDecs called decs begin at is all =
    let inner = sequence_dec begin (map bare_str_dec decs) in
    str_by (bare_str-FunctorOfDecs called decs begin at)
    (node.str-Functor called (str.Struct inner begin) at is
    (node.str-Struct inner begin (sequence-is bare_str_dec decs begin all)))

pub str-Within : (decs : List FullStrDec) (inner : FullStrExp) (at : At) → Each StrDecIs decs → StrIs inner
    → StrIs (t.Within decs inner at)
str-Within decs inner at all is =
    str_by (bare_str-Within decs inner at)
    (node.str-Within (sequence_dec at (map bare_str_dec decs)) (bare_str inner).str at
    (sequence-is bare_str_dec decs at all) is)

-- the signature that a structure is given, which may be absent
abbrev pub IfSeal : Option FullSeal → Type 0
IfSeal None = Unit {0}
IfSeal (Some seal) = SigIs seal.sig

sealed_if : (b : Bool) (sig : FullSigExp) (body : PlacedStr) → SigIs sig → FitStr body
    → names_str (if b then str.Opaque body.str (bare_sig sig) body.at else str.Transparent body.str (bare_sig sig) body.at)
    ≡ true
sealed_if true sig body first second = node.str-Opaque body.str (bare_sig sig) body.at second first
sealed_if false sig body first second = node.str-Transparent body.str (bare_sig sig) body.at second first

sealed_fits : (seal : Option FullSeal) (body : PlacedStr) → IfSeal seal → FitStr body
    → names_str (sealed seal body) ≡ true
sealed_fits None body first second = second
sealed_fits (Some seal) body first second = sealed_if seal.opaque seal.sig body first second

pub str_bind-is : (called : Name) (given : Option FullSeal) (inner : FullStrExp) → FitName called → IfSeal given
    → StrIs inner → BindIs (roll-FullStrBind (record { name = called; seal = given; body = inner }))
unfolding bare_str_dec bare_str bare_str_bind
str_bind-is called given inner first second third =
    subst (λ (bind : StrBind). names_str_bind bind ≡ true)
    (sym (fold-roll-FullStrBind _ _ _ str_dec_level str_level str_bind_level
    (record { name = called; seal = given; body = inner })))
    (node.good-str_bind called (sealed given (bare_str inner)) first (sealed_fits given (bare_str inner) second third))

pub str_dec-Core : (each : FullDec) → DecIs each → StrDecIs (d.Core each)
str_dec-Core each is = dec_by (bare_str_dec-Core each) is

pub str_dec-Structures : (binds : List FullStrBind) (at : At) → Each BindIs binds → StrDecIs (d.Structures binds at)
str_dec-Structures binds at all =
    dec_by (bare_str_dec-Structures binds at) (
      node.dec-Structures (map bare_str_bind binds) at
          (each-map (λ bind. names_str_bind bind ≡ true) bare_str_bind binds all),
      tt,
    )

pub str_dec-Local : (hidden decs : List FullStrDec) (at : At) → Each StrDecIs hidden → Each StrDecIs decs
    → StrDecIs (d.Local hidden decs at)
str_dec-Local hidden decs at first second =
    dec_by (bare_str_dec-Local hidden decs at) (
      node.dec-Local (sequence_dec at (map bare_str_dec hidden)) (sequence_dec at (map bare_str_dec decs)) at
          (sequence-is bare_str_dec hidden at first) (sequence-is bare_str_dec decs at second),
      tt,
    )

-- ---- declarations of the top level, and units

abbrev pub ParamIs : FullParam → Type 0
ParamIs (param.Named name sig) = FitName name × SigIs sig
ParamIs (param.Spec specs at) = Each SpecIs specs

pub record FunctorIs (bind : FullFunctorBind) : Type 0 where
  pub name : FitName bind.name
  pub param : ParamIs bind.param
  pub seal : IfSeal bind.seal
  pub body : StrIs bind.body

opening_fits : (at : At) (body : StrExp) → names_str body ≡ true → names_str (opening at body) ≡ true
opening_fits at body is =
    let opened = dec.Open (long_at at param_text ∷ []) at in
    node.str-Within (dec.Sequence (opened ∷ []) at) body at
    (node.dec-Sequence (opened ∷ []) at
    (node.dec-Open (long_at at param_text ∷ []) at (alone_fits param_text refl at.line at.col, tt), tt)) is

functor_of-is : (bind : FullFunctorBind) (p : FullParam) → FunctorIs bind → ParamIs p
    → names_fun_bind (functor_of bind p) ≡ true
functor_of-is bind (param.Named name sig) is so =
    both-true (name_fits bind.name) _ is.name (both-true (name_fits name) _ so.0
    (both-true (names_sig (bare_sig sig)) _ so.1 (sealed_fits bind.seal (bare_str bind.body) is.seal is.body)))
functor_of-is bind (param.Spec specs at) is so =
    both-true (name_fits bind.name) _ is.name
    (both-true (names_sig (spec_sig at specs)) _
    (body_fits (flat_map bare_spec specs) at (each-flat FitSpec bare_spec specs so))
    (opening_fits (bare_str bind.body).at (sealed bind.seal (bare_str bind.body))
    (sealed_fits bind.seal (bare_str bind.body) is.seal is.body)))

functors_are : (binds : List FullFunctorBind) → Each FunctorIs binds
    → Each (λ bind. names_fun_bind bind ≡ true) (map bare_functor binds)
functors_are [] all = tt
functors_are (bind ∷ binds) all = (functor_of-is bind bind.param all.0 all.0.param, functors_are binds all.1)

pub record FunsigIs (bind : FullFunsigBind) : Type 0 where
  pub name : FitName bind.name
  pub param : FitName bind.param
  pub param_sig : SigIs bind.param_sig
  pub result_sig : SigIs bind.result_sig

funsigs_are : (binds : List FullFunsigBind) → Each FunsigIs binds
    → Each (λ bind. names_funsig_bind bind ≡ true) (map bare_funsig binds)
funsigs_are [] all = tt
funsigs_are (bind ∷ binds) all = (
  both-true (name_fits bind.name) _ all.0.name (both-true (name_fits bind.param) _ all.0.param
      (both-true (names_sig (bare_sig bind.param_sig)) _ all.0.param_sig all.0.result_sig)),
  funsigs_are binds all.1,
)

abbrev pub TopIs : FullTopDec → Type 0
TopIs topdec = names_topdec (bare_topdec topdec) ≡ true

pub top-Structures : (binds : List FullStrBind) (at : At) → Each BindIs binds → TopIs (top.Structures binds at)
top-Structures binds at all =
    each-all names_str_bind (map bare_str_bind binds)
    (each-map (λ bind. names_str_bind bind ≡ true) bare_str_bind binds all)

pub top-Signatures : (binds : List FullSigBind) (at : At) → Each SigBindIs binds → TopIs (top.Signatures binds at)
top-Signatures binds at all =
    each-all names_sig_bind (map bare_sig_bind binds)
    (each-map (λ bind. names_sig_bind bind ≡ true) bare_sig_bind binds all)

pub top-Functors : (binds : List FullFunctorBind) (at : At) → Each FunctorIs binds → TopIs (top.Functors binds at)
top-Functors binds at all = each-all names_fun_bind (map bare_functor binds) (functors_are binds all)

pub top-Funsigs : (binds : List FullFunsigBind) (at : At) → Each FunsigIs binds → TopIs (top.Funsigs binds at)
top-Funsigs binds at all = each-all names_funsig_bind (map bare_funsig binds) (funsigs_are binds all)

pub unit-is : (unit : FullUnit) → Each TopIs unit.topdecs → HasFitNames (bare_of unit)
unit-is unit all =
    each-all names_topdec (map bare_topdec unit.topdecs)
    (each-map (λ topdec. names_topdec topdec ≡ true) bare_topdec unit.topdecs all)

-- ---- the law of runs

part_is : (part : Part PlacedExp) → part_fits part ≡ true → FitPart part
part_is (Part.Atom e) is = is
part_is (Part.Operator op) is = is

parts_are : (parts : List (Part PlacedExp)) → list_all part_fits parts ≡ true → Each FitPart parts
parts_are [] all = tt
parts_are (part ∷ parts) all =
    let both = and_parts (part_fits part) (list_all part_fits parts) all in
    (part_is part both.0, parts_are parts both.1)

pub run_names : RunNamesFit
run_names at parts all = good-run at parts (parts_are parts all)
