-- What a structure, a functor or a unit becomes has constants that fit, if what its parts become has.
use Rattle.std.proofs.Common.{◌≡◌, Bool, true, false, List, [], ◌∷◌, Option, Some, None, if◌then◌else◌, refl, sym, ◌∙◌, subst, map}
use Rattle.sml_trees.specs.declared.name.At.{At}
use Rattle.sml_trees.specs.declared.name.Name.{Name}
use Rattle.sml_trees.specs.declared.name.LongName.{LongName}
use Rattle.sml_trees.specs.declared.full_exp.FullDec.{FullDec}
use Rattle.sml_trees.specs.declared.full_sig.FullSeal.{FullSeal}
use Rattle.sml_trees.specs.declared.full_sig.FullSigExp.{FullSigExp}
use Rattle.sml_trees.specs.declared.full_sig.FullSigBind.{FullSigBind}
use Rattle.sml_trees.specs.declared.full_str.FullStrBind.{FullStrBind, roll-FullStrBind}
use Rattle.sml_trees.specs.declared.full_str.FullStrDec.{FullStrDec}
use Rattle.sml_trees.specs.declared.full_str.FullStrDec.TheFolds.{fold-roll-FullStrBind}
use Rattle.sml_trees.specs.declared.full_str.FullStrDec.TheVariants as d
use Rattle.sml_trees.specs.declared.full_str.FullStrExp.{FullStrExp}
use Rattle.sml_trees.specs.declared.full_str.FullStrExp.TheVariants as t
use Rattle.sml_trees.specs.declared.full_unit.FullFunctorBind.{FullFunctorBind}
use Rattle.sml_trees.specs.declared.full_unit.FullFunsigBind.{FullFunsigBind}
use Rattle.sml_trees.specs.declared.full_unit.FullParam.{FullParam}
use Rattle.sml_trees.specs.declared.full_unit.FullParam.TheVariants as param
use Rattle.sml_trees.specs.declared.full_unit.FullTopDec.{FullTopDec}
use Rattle.sml_trees.specs.declared.full_unit.FullTopDec.TheVariants as top
use Rattle.sml_trees.specs.declared.full_unit.FullUnit.{FullUnit}
use Rattle.sml_trees.specs.declared.exp.Dec.TheFolds.{fold-roll-StrBind}
use Rattle.sml_trees.specs.declared.exp.Dec.TheVariants as dec
use Rattle.sml_trees.specs.declared.exp.StrBind.{StrBind}
use Rattle.sml_trees.specs.declared.exp.StrExp.{StrExp}
use Rattle.sml_trees.specs.declared.exp.StrExp.TheVariants as str
use Rattle.bare_forms.specs.declared.placed.PlacedStr.{PlacedStr}
use Rattle.bare_forms.specs.Patterns.{long_at}
use Rattle.bare_forms.specs.Signatures.{bare_sig}
use Rattle.bare_forms.specs.Expressions.{PlacedDec, sequence_dec}
use Rattle.bare_forms.specs.Structures.{sealed, str_dec_level, str_level, str_bind_level, bare_str_dec, bare_str, bare_str_bind}
use Rattle.bare_forms.specs.Units.{param_text, opening, functor_of, bare_functor, bare_topdec, bare_of}
use Rattle.bare_forms.proofs.StrLevels.{bare_str_dec-Core, bare_str_dec-Structures, bare_str_dec-Local, bare_str-Struct, bare_str-Named, bare_str-Transparent, bare_str-Opaque, bare_str-Functor, bare_str-FunctorOfDecs, bare_str-Within}
use Rattle.code_laws.specs.Constants.{exp_fit, exp_field_fit, rule_fit, dec_fit, str_fit, str_bind_fit, fit_str, fit_str_bind, fit_fun_bind, fit_topdec, HasFitConstants}
use Rattle.body_laws.proofs.Signatures.{Each, each-map, each-all}
use Rattle.fitting_forms.proofs.ExpNodes.{FitDec, good-dec_Open, good-dec_Local, good-dec_Structures, good-dec_Sequence, good-str_Struct, good-str_Named, good-str_Transparent, good-str_Opaque, good-str_Functor, good-str_Within}
use Rattle.fitting_forms.proofs.ExpForms.{DecIs, sequence-is}

-- ---- structures

abbrev pub FitStr : PlacedStr → Type 0
FitStr s = fit_str s.str ≡ true

abbrev pub StrIs : FullStrExp → Type 0
StrIs full = FitStr (bare_str full)

abbrev pub StrDecIs : FullStrDec → Type 0
StrDecIs full = Each FitDec (bare_str_dec full).decs

abbrev pub BindIs : FullStrBind → Type 0
BindIs full = fit_str_bind (bare_str_bind full) ≡ true

str_by : {one made : PlacedStr} → one ≡ made → FitStr made → FitStr one
str_by same is = subst FitStr (sym same) is

dec_by : {one made : PlacedDec} → one ≡ made → Each FitDec made.decs → Each FitDec one.decs
dec_by same all = subst (λ (found : PlacedDec). Each FitDec found.decs) (sym same) all

pub str-Struct : (decs : List FullStrDec) (at : At) → Each StrDecIs decs → StrIs (t.Struct decs at)
str-Struct decs at all =
    str_by (bare_str-Struct decs at)
    (good-str_Struct (sequence_dec at (map bare_str_dec decs)) at (sequence-is bare_str_dec decs at all))

pub str-Named : (long : LongName) (at : At) → StrIs (t.Named long at)
str-Named long at = str_by (bare_str-Named long at) (good-str_Named long at)

pub str-Transparent : (inner : FullStrExp) (sig : FullSigExp) (at : At) → StrIs inner
    → StrIs (t.Transparent inner sig at)
str-Transparent inner sig at is =
    str_by (bare_str-Transparent inner sig at) (good-str_Transparent (bare_str inner).str (bare_sig sig) at is)

pub str-Opaque : (inner : FullStrExp) (sig : FullSigExp) (at : At) → StrIs inner → StrIs (t.Opaque inner sig at)
str-Opaque inner sig at is =
    str_by (bare_str-Opaque inner sig at) (good-str_Opaque (bare_str inner).str (bare_sig sig) at is)

pub str-Functor : (called : Name) (arg : FullStrExp) (at : At) → StrIs arg → StrIs (t.Functor called arg at)
str-Functor called arg at is = str_by (bare_str-Functor called arg at) (good-str_Functor called (bare_str arg).str at is)

pub str-FunctorOfDecs : (called : Name) (decs : List FullStrDec) (begin at : At) → Each StrDecIs decs
    → StrIs (t.FunctorOfDecs called decs begin at)
str-FunctorOfDecs called decs begin at all =
    let inner = sequence_dec begin (map bare_str_dec decs) in
    str_by (bare_str-FunctorOfDecs called decs begin at)
    (good-str_Functor called (str.Struct inner begin) at
    (good-str_Struct inner begin (sequence-is bare_str_dec decs begin all)))

pub str-Within : (decs : List FullStrDec) (inner : FullStrExp) (at : At) → Each StrDecIs decs → StrIs inner
    → StrIs (t.Within decs inner at)
str-Within decs inner at all is =
    str_by (bare_str-Within decs inner at)
    (good-str_Within (sequence_dec at (map bare_str_dec decs)) (bare_str inner).str at
    (sequence-is bare_str_dec decs at all) is)

good-sealed-if : (b : Bool) (sig : FullSigExp) (body : PlacedStr) → FitStr body
    → fit_str (if b then str.Opaque body.str (bare_sig sig) body.at else str.Transparent body.str (bare_sig sig) body.at)
    ≡ true
good-sealed-if true sig body is = good-str_Opaque body.str (bare_sig sig) body.at is
good-sealed-if false sig body is = good-str_Transparent body.str (bare_sig sig) body.at is

good-sealed : (seal : Option FullSeal) (body : PlacedStr) → FitStr body → fit_str (sealed seal body) ≡ true
good-sealed None body is = is
good-sealed (Some seal) body is = good-sealed-if seal.opaque seal.sig body is

pub str_bind-is : (called : Name) (given : Option FullSeal) (inner : FullStrExp) → StrIs inner
    → BindIs (roll-FullStrBind (record { name = called; seal = given; body = inner }))
unfolding bare_str_dec bare_str bare_str_bind
str_bind-is called given inner is =
    subst (λ (bind : StrBind). fit_str_bind bind ≡ true)
    (sym (fold-roll-FullStrBind _ _ _ str_dec_level str_level str_bind_level
    (record { name = called; seal = given; body = inner })))
    (fold-roll-StrBind _ _ _ _ _ _ dec_fit exp_fit str_fit exp_field_fit rule_fit str_bind_fit
    (record { name = called; body = sealed given (bare_str inner) })
    ∙ good-sealed given (bare_str inner) is)

pub str_dec-Core : (each : FullDec) → DecIs each → StrDecIs (d.Core each)
str_dec-Core each is = dec_by (bare_str_dec-Core each) is

pub str_dec-Structures : (binds : List FullStrBind) (at : At) → Each BindIs binds → StrDecIs (d.Structures binds at)
str_dec-Structures binds at all =
    dec_by (bare_str_dec-Structures binds at) (
      good-dec_Structures (map bare_str_bind binds) at
          (each-map (λ bind. fit_str_bind bind ≡ true) bare_str_bind binds all),
      tt,
    )

pub str_dec-Local : (hidden decs : List FullStrDec) (at : At) → Each StrDecIs hidden → Each StrDecIs decs
    → StrDecIs (d.Local hidden decs at)
str_dec-Local hidden decs at first second =
    dec_by (bare_str_dec-Local hidden decs at) (
      good-dec_Local (sequence_dec at (map bare_str_dec hidden)) (sequence_dec at (map bare_str_dec decs)) at
          (sequence-is bare_str_dec hidden at first) (sequence-is bare_str_dec decs at second),
      tt,
    )

-- ---- declarations of the top level, and units

abbrev pub FunctorIs : FullFunctorBind → Type 0
FunctorIs bind = fit_fun_bind (bare_functor bind) ≡ true

good-opening : (at : At) (body : StrExp) → fit_str body ≡ true → fit_str (opening at body) ≡ true
good-opening at body is =
    let opened = dec.Open (long_at at param_text ∷ []) at in
    good-str_Within (dec.Sequence (opened ∷ []) at) body at
    (good-dec_Sequence (opened ∷ []) at (good-dec_Open (long_at at param_text ∷ []) at, tt)) is

functor_of-is : (bind : FullFunctorBind) (p : FullParam) → StrIs bind.body → fit_fun_bind (functor_of bind p) ≡ true
functor_of-is bind (param.Named name sig) is = good-sealed bind.seal (bare_str bind.body) is
functor_of-is bind (param.Spec specs at) is =
    good-opening (bare_str bind.body).at (sealed bind.seal (bare_str bind.body))
    (good-sealed bind.seal (bare_str bind.body) is)

pub functor-is : (bind : FullFunctorBind) → StrIs bind.body → FunctorIs bind
functor-is bind is = functor_of-is bind bind.param is

abbrev pub TopIs : FullTopDec → Type 0
TopIs topdec = fit_topdec (bare_topdec topdec) ≡ true

pub top-Structures : (binds : List FullStrBind) (at : At) → Each BindIs binds → TopIs (top.Structures binds at)
top-Structures binds at all =
    each-all fit_str_bind (map bare_str_bind binds)
    (each-map (λ bind. fit_str_bind bind ≡ true) bare_str_bind binds all)

pub top-Signatures : (binds : List FullSigBind) (at : At) → TopIs (top.Signatures binds at)
top-Signatures binds at = refl

pub top-Functors : (binds : List FullFunctorBind) (at : At) → Each FunctorIs binds → TopIs (top.Functors binds at)
top-Functors binds at all =
    each-all fit_fun_bind (map bare_functor binds)
    (each-map (λ bind. fit_fun_bind bind ≡ true) bare_functor binds all)

pub top-Funsigs : (binds : List FullFunsigBind) (at : At) → TopIs (top.Funsigs binds at)
top-Funsigs binds at = refl

pub unit-is : (unit : FullUnit) → Each TopIs unit.topdecs → HasFitConstants (bare_of unit)
unit-is unit all =
    each-all fit_topdec (map bare_topdec unit.topdecs)
    (each-map (λ topdec. fit_topdec topdec ≡ true) bare_topdec unit.topdecs all)
