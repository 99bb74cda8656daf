-- The phrase of each form of a bare tree, by the phrases of its parts.
use Rattle.std.proofs.Common.{◌≡◌, ℕ, List, Option, sym, ap, ◌∙◌, map}
use Rattle.std.specs.Prelude.{ℤ}
use Rattle.std.specs.Option.{option_map}
use Rattle.sml_trees.specs.declared.name.At.{At}
use Rattle.sml_trees.specs.declared.name.Name.{Name}
use Rattle.sml_trees.specs.declared.name.LongName.{LongName}
use Rattle.sml_trees.specs.declared.sig_exp.SigExp.{SigExp}
use Rattle.sml_trees.specs.declared.ty.Ty.{Ty}
use Rattle.sml_trees.specs.declared.ty.Ty.TheOpen.{Ty-F}
use Rattle.sml_trees.specs.declared.ty.Ty.TheFolds.{fold-roll-Ty, fold-roll-TyField}
use Rattle.sml_trees.specs.declared.ty.Ty.TheVariants as ty
use Rattle.sml_trees.specs.declared.ty.TyField.{TyField, out-TyField, roll-out-TyField}
use Rattle.sml_trees.specs.declared.ty.TypBind.{TypBind}
use Rattle.sml_trees.specs.declared.ty.DatBind.{DatBind}
use Rattle.sml_trees.specs.declared.ty.ExBind.{ExBind}
use Rattle.sml_trees.specs.declared.pat.Pat.{Pat}
use Rattle.sml_trees.specs.declared.pat.Pat.TheOpen.{Pat-F}
use Rattle.sml_trees.specs.declared.pat.Pat.TheFolds.{fold-roll-Pat, fold-roll-PatField}
use Rattle.sml_trees.specs.declared.pat.Pat.TheVariants as pat
use Rattle.sml_trees.specs.declared.pat.PatField.{PatField, out-PatField, roll-out-PatField}
use Rattle.sml_trees.specs.declared.exp.Dec.{Dec}
use Rattle.sml_trees.specs.declared.exp.Dec.TheOpen.{Dec-F, Exp-F, StrExp-F}
use Rattle.sml_trees.specs.declared.exp.Dec.TheFolds.{fold-roll-Dec, fold-roll-Exp, fold-roll-StrExp, fold-roll-ExpField, fold-roll-Rule, fold-roll-StrBind}
use Rattle.sml_trees.specs.declared.exp.Dec.TheVariants as dec
use Rattle.sml_trees.specs.declared.exp.Exp.{Exp}
use Rattle.sml_trees.specs.declared.exp.Exp.TheVariants as exp
use Rattle.sml_trees.specs.declared.exp.ExpField.{ExpField, out-ExpField, roll-out-ExpField}
use Rattle.sml_trees.specs.declared.exp.Rule.{Rule, out-Rule, roll-out-Rule}
use Rattle.sml_trees.specs.declared.exp.StrBind.{StrBind, out-StrBind, roll-out-StrBind}
use Rattle.sml_trees.specs.declared.exp.StrExp.{StrExp}
use Rattle.sml_trees.specs.declared.exp.StrExp.TheVariants as str
use Rattle.bare_phrases.specs.Phrases.{TyPhrase, PatPhrase, ExpPhrase, DecPhrase, StrPhrase}
use Rattle.bare_phrases.specs.PhraseOf.{ty_level, ty_field_level, ty_fields, ty_phrases, ty_phrase, ty_field_phrase, typ_phrase, dat_phrase, ex_phrase, pat_level, pat_field_level, pat_fields, pat_phrase, pat_field_phrase, exp_level, exp_field_level, exp_fields, rule_level, rules_of, dec_level, dec_phrases, str_level, str_bind_level, str_binds, exp_phrase, exp_field_phrase, rule_phrase, dec_phrase, str_phrase, str_bind_phrase}

-- ---- types

pub ty_phrase-Var : (name : Name) (at : At)
    → ty_phrase (ty.Var name at) ≡ TyPhrase.Var name at
unfolding ty_phrase ty_field_phrase
ty_phrase-Var name at =
    ap ty_phrase (sym (ty.rolls-Var name at))
    ∙ fold-roll-Ty _ _ ty_level ty_field_level (Ty-F.Var name at)

pub ty_phrase-Record : (fields : List TyField) (at : At)
    → ty_phrase (ty.Record fields at) ≡ TyPhrase.Record (ty_fields (map ty_field_phrase fields)) at
unfolding ty_phrase ty_field_phrase
ty_phrase-Record fields at =
    ap ty_phrase (sym (ty.rolls-Record fields at))
    ∙ fold-roll-Ty _ _ ty_level ty_field_level (Ty-F.Record fields at)

pub ty_phrase-Named : (args : List Ty) (long : LongName) (at : At)
    → ty_phrase (ty.Named args long at) ≡ TyPhrase.Named (ty_phrases (map ty_phrase args)) long at
unfolding ty_phrase ty_field_phrase
ty_phrase-Named args long at =
    ap ty_phrase (sym (ty.rolls-Named args long at))
    ∙ fold-roll-Ty _ _ ty_level ty_field_level (Ty-F.Named args long at)

pub ty_phrase-Arrow : (from : Ty) (to : Ty) (at : At)
    → ty_phrase (ty.Arrow from to at) ≡ TyPhrase.Arrow (ty_phrase from) (ty_phrase to) at
unfolding ty_phrase ty_field_phrase
ty_phrase-Arrow from to at =
    ap ty_phrase (sym (ty.rolls-Arrow from to at))
    ∙ fold-roll-Ty _ _ ty_level ty_field_level (Ty-F.Arrow from to at)

pub ty_field_phrase-kept : (field : TyField) → ty_field_phrase field ≡ (
  (out-TyField field).label,
  ty_phrase
      (out-TyField field).ty,
)
unfolding ty_phrase ty_field_phrase
ty_field_phrase-kept field =
    ap ty_field_phrase (sym (roll-out-TyField field))
    ∙ fold-roll-TyField _ _ ty_level ty_field_level (out-TyField field)

pub ruleset ty_forms = (
  ty_phrase-Var,
  ty_phrase-Record,
  ty_phrase-Named,
  ty_phrase-Arrow,
  ty_field_phrase-kept,
)

-- ---- patterns

pub pat_phrase-Wild : (at : At)
    → pat_phrase (pat.Wild at) ≡ PatPhrase.Wild at
unfolding pat_phrase pat_field_phrase
pat_phrase-Wild at =
    ap pat_phrase (sym (pat.rolls-Wild at))
    ∙ fold-roll-Pat _ _ pat_level pat_field_level (Pat-F.Wild at)

pub pat_phrase-Int : (value : ℤ) (at : At)
    → pat_phrase (pat.Int value at) ≡ PatPhrase.Int value at
unfolding pat_phrase pat_field_phrase
pat_phrase-Int value at =
    ap pat_phrase (sym (pat.rolls-Int value at))
    ∙ fold-roll-Pat _ _ pat_level pat_field_level (Pat-F.Int value at)

pub pat_phrase-Str : (value : List ℕ) (at : At)
    → pat_phrase (pat.Str value at) ≡ PatPhrase.Str value at
unfolding pat_phrase pat_field_phrase
pat_phrase-Str value at =
    ap pat_phrase (sym (pat.rolls-Str value at))
    ∙ fold-roll-Pat _ _ pat_level pat_field_level (Pat-F.Str value at)

pub pat_phrase-Char : (value : ℕ) (at : At)
    → pat_phrase (pat.Char value at) ≡ PatPhrase.Char value at
unfolding pat_phrase pat_field_phrase
pat_phrase-Char value at =
    ap pat_phrase (sym (pat.rolls-Char value at))
    ∙ fold-roll-Pat _ _ pat_level pat_field_level (Pat-F.Char value at)

pub pat_phrase-Long : (long : LongName) (at : At)
    → pat_phrase (pat.Long long at) ≡ PatPhrase.Long long at
unfolding pat_phrase pat_field_phrase
pat_phrase-Long long at =
    ap pat_phrase (sym (pat.rolls-Long long at))
    ∙ fold-roll-Pat _ _ pat_level pat_field_level (Pat-F.Long long at)

pub pat_phrase-Record : (fields : List PatField) (at : At)
    → pat_phrase (pat.Record fields at) ≡ PatPhrase.Record (pat_fields (map pat_field_phrase fields)) at
unfolding pat_phrase pat_field_phrase
pat_phrase-Record fields at =
    ap pat_phrase (sym (pat.rolls-Record fields at))
    ∙ fold-roll-Pat _ _ pat_level pat_field_level (Pat-F.Record fields at)

pub pat_phrase-Con : (long : LongName) (arg : Pat) (at : At)
    → pat_phrase (pat.Con long arg at) ≡ PatPhrase.Con long (pat_phrase arg) at
unfolding pat_phrase pat_field_phrase
pat_phrase-Con long arg at =
    ap pat_phrase (sym (pat.rolls-Con long arg at))
    ∙ fold-roll-Pat _ _ pat_level pat_field_level (Pat-F.Con long arg at)

pub pat_phrase-Typed : (inner : Pat) (of : Ty) (at : At)
    → pat_phrase (pat.Typed inner of at) ≡ PatPhrase.Typed (pat_phrase inner) (ty_phrase of) at
unfolding pat_phrase pat_field_phrase
pat_phrase-Typed inner of at =
    ap pat_phrase (sym (pat.rolls-Typed inner of at))
    ∙ fold-roll-Pat _ _ pat_level pat_field_level (Pat-F.Typed inner of at)

pub pat_phrase-As : (name : Name) (of : Option Ty) (inner : Pat) (at : At)
    → pat_phrase (pat.As name of inner at) ≡ PatPhrase.As name (option_map ty_phrase of) (pat_phrase inner) at
unfolding pat_phrase pat_field_phrase
pat_phrase-As name of inner at =
    ap pat_phrase (sym (pat.rolls-As name of inner at))
    ∙ fold-roll-Pat _ _ pat_level pat_field_level (Pat-F.As name of inner at)

pub pat_field_phrase-kept : (field : PatField) → pat_field_phrase field ≡ (
  (out-PatField field).label,
  pat_phrase
      (out-PatField field).pat,
)
unfolding pat_phrase pat_field_phrase
pat_field_phrase-kept field =
    ap pat_field_phrase (sym (roll-out-PatField field))
    ∙ fold-roll-PatField _ _ pat_level pat_field_level (out-PatField field)

pub ruleset pat_forms = (
  pat_phrase-Wild,
  pat_phrase-Int,
  pat_phrase-Str,
  pat_phrase-Char,
  pat_phrase-Long,
  pat_phrase-Record,
  pat_phrase-Con,
  pat_phrase-Typed,
  pat_phrase-As,
  pat_field_phrase-kept,
)

-- ---- expressions

pub exp_phrase-Int : (value : ℤ) (at : At)
    → exp_phrase (exp.Int value at) ≡ ExpPhrase.Int value at
unfolding exp_phrase exp_field_phrase rule_phrase dec_phrase str_phrase str_bind_phrase
exp_phrase-Int value at =
    ap exp_phrase (sym (exp.rolls-Int value at))
    ∙ fold-roll-Exp _ _ _ _ _ _ dec_level exp_level str_level exp_field_level rule_level str_bind_level
    (Exp-F.Int value at)

pub exp_phrase-Str : (value : List ℕ) (at : At)
    → exp_phrase (exp.Str value at) ≡ ExpPhrase.Str value at
unfolding exp_phrase exp_field_phrase rule_phrase dec_phrase str_phrase str_bind_phrase
exp_phrase-Str value at =
    ap exp_phrase (sym (exp.rolls-Str value at))
    ∙ fold-roll-Exp _ _ _ _ _ _ dec_level exp_level str_level exp_field_level rule_level str_bind_level
    (Exp-F.Str value at)

pub exp_phrase-Char : (value : ℕ) (at : At)
    → exp_phrase (exp.Char value at) ≡ ExpPhrase.Char value at
unfolding exp_phrase exp_field_phrase rule_phrase dec_phrase str_phrase str_bind_phrase
exp_phrase-Char value at =
    ap exp_phrase (sym (exp.rolls-Char value at))
    ∙ fold-roll-Exp _ _ _ _ _ _ dec_level exp_level str_level exp_field_level rule_level str_bind_level
    (Exp-F.Char value at)

pub exp_phrase-Long : (long : LongName) (at : At)
    → exp_phrase (exp.Long long at) ≡ ExpPhrase.Long long at
unfolding exp_phrase exp_field_phrase rule_phrase dec_phrase str_phrase str_bind_phrase
exp_phrase-Long long at =
    ap exp_phrase (sym (exp.rolls-Long long at))
    ∙ fold-roll-Exp _ _ _ _ _ _ dec_level exp_level str_level exp_field_level rule_level str_bind_level
    (Exp-F.Long long at)

pub exp_phrase-Record : (fields : List ExpField) (at : At)
    → exp_phrase (exp.Record fields at) ≡ ExpPhrase.Record (exp_fields (map exp_field_phrase fields)) at
unfolding exp_phrase exp_field_phrase rule_phrase dec_phrase str_phrase str_bind_phrase
exp_phrase-Record fields at =
    ap exp_phrase (sym (exp.rolls-Record fields at))
    ∙ fold-roll-Exp _ _ _ _ _ _ dec_level exp_level str_level exp_field_level rule_level str_bind_level
    (Exp-F.Record fields at)

pub exp_phrase-Let : (inner : Dec) (body : Exp) (at : At)
    → exp_phrase (exp.Let inner body at) ≡ ExpPhrase.Let (dec_phrase inner) (exp_phrase body) at
unfolding exp_phrase exp_field_phrase rule_phrase dec_phrase str_phrase str_bind_phrase
exp_phrase-Let inner body at =
    ap exp_phrase (sym (exp.rolls-Let inner body at))
    ∙ fold-roll-Exp _ _ _ _ _ _ dec_level exp_level str_level exp_field_level rule_level str_bind_level
    (Exp-F.Let inner body at)

pub exp_phrase-App : (function : Exp) (argument : Exp) (at : At)
    → exp_phrase (exp.App function argument at) ≡ ExpPhrase.App (exp_phrase function) (exp_phrase argument) at
unfolding exp_phrase exp_field_phrase rule_phrase dec_phrase str_phrase str_bind_phrase
exp_phrase-App function argument at =
    ap exp_phrase (sym (exp.rolls-App function argument at))
    ∙ fold-roll-Exp _ _ _ _ _ _ dec_level exp_level str_level exp_field_level rule_level str_bind_level
    (Exp-F.App function argument at)

pub exp_phrase-Typed : (inner : Exp) (of : Ty) (at : At)
    → exp_phrase (exp.Typed inner of at) ≡ ExpPhrase.Typed (exp_phrase inner) (ty_phrase of) at
unfolding exp_phrase exp_field_phrase rule_phrase dec_phrase str_phrase str_bind_phrase
exp_phrase-Typed inner of at =
    ap exp_phrase (sym (exp.rolls-Typed inner of at))
    ∙ fold-roll-Exp _ _ _ _ _ _ dec_level exp_level str_level exp_field_level rule_level str_bind_level
    (Exp-F.Typed inner of at)

pub exp_phrase-Handle : (inner : Exp) (rules : List Rule) (at : At)
    → exp_phrase (exp.Handle inner rules at) ≡ ExpPhrase.Handle (exp_phrase inner) (rules_of (map rule_phrase rules)) at
unfolding exp_phrase exp_field_phrase rule_phrase dec_phrase str_phrase str_bind_phrase
exp_phrase-Handle inner rules at =
    ap exp_phrase (sym (exp.rolls-Handle inner rules at))
    ∙ fold-roll-Exp _ _ _ _ _ _ dec_level exp_level str_level exp_field_level rule_level str_bind_level
    (Exp-F.Handle inner rules at)

pub exp_phrase-Raise : (inner : Exp) (at : At)
    → exp_phrase (exp.Raise inner at) ≡ ExpPhrase.Raise (exp_phrase inner) at
unfolding exp_phrase exp_field_phrase rule_phrase dec_phrase str_phrase str_bind_phrase
exp_phrase-Raise inner at =
    ap exp_phrase (sym (exp.rolls-Raise inner at))
    ∙ fold-roll-Exp _ _ _ _ _ _ dec_level exp_level str_level exp_field_level rule_level str_bind_level
    (Exp-F.Raise inner at)

pub exp_phrase-Fn : (rules : List Rule) (at : At)
    → exp_phrase (exp.Fn rules at) ≡ ExpPhrase.Fn (rules_of (map rule_phrase rules)) at
unfolding exp_phrase exp_field_phrase rule_phrase dec_phrase str_phrase str_bind_phrase
exp_phrase-Fn rules at =
    ap exp_phrase (sym (exp.rolls-Fn rules at))
    ∙ fold-roll-Exp _ _ _ _ _ _ dec_level exp_level str_level exp_field_level rule_level str_bind_level
    (Exp-F.Fn rules at)

pub exp_field_phrase-kept : (field : ExpField) → exp_field_phrase field ≡ (
  (out-ExpField field).label,
  exp_phrase
      (out-ExpField field).exp,
)
unfolding exp_phrase exp_field_phrase rule_phrase dec_phrase str_phrase str_bind_phrase
exp_field_phrase-kept field =
    ap exp_field_phrase (sym (roll-out-ExpField field))
    ∙ fold-roll-ExpField _ _ _ _ _ _ dec_level exp_level str_level exp_field_level rule_level str_bind_level
    (out-ExpField field)

pub rule_phrase-kept : (rule : Rule) → rule_phrase rule ≡ (
  pat_phrase (out-Rule rule).pat,
  exp_phrase
      (out-Rule rule).exp,
)
unfolding exp_phrase exp_field_phrase rule_phrase dec_phrase str_phrase str_bind_phrase
rule_phrase-kept rule =
    ap rule_phrase (sym (roll-out-Rule rule))
    ∙ fold-roll-Rule _ _ _ _ _ _ dec_level exp_level str_level exp_field_level rule_level str_bind_level (out-Rule rule)

pub ruleset exp_forms = (
  exp_phrase-Int,
  exp_phrase-Str,
  exp_phrase-Char,
  exp_phrase-Long,
  exp_phrase-Record,
  exp_phrase-Let,
  exp_phrase-App,
  exp_phrase-Typed,
  exp_phrase-Handle,
  exp_phrase-Raise,
  exp_phrase-Fn,
  exp_field_phrase-kept,
  rule_phrase-kept,
)

-- ---- declarations

pub dec_phrase-Val : (tyvars : List Name) (rules : List Rule) (recs : List Rule) (at : At)
    → dec_phrase (dec.Val tyvars rules recs at) ≡ DecPhrase.Val tyvars (rules_of (map rule_phrase rules)) (rules_of
    (map rule_phrase recs)) at
unfolding exp_phrase exp_field_phrase rule_phrase dec_phrase str_phrase str_bind_phrase
dec_phrase-Val tyvars rules recs at =
    ap dec_phrase (sym (dec.rolls-Val tyvars rules recs at))
    ∙ fold-roll-Dec _ _ _ _ _ _ dec_level exp_level str_level exp_field_level rule_level str_bind_level
    (Dec-F.Val tyvars rules recs at)

pub dec_phrase-Types : (binds : List TypBind) (at : At)
    → dec_phrase (dec.Types binds at) ≡ DecPhrase.Types (map typ_phrase binds) at
unfolding exp_phrase exp_field_phrase rule_phrase dec_phrase str_phrase str_bind_phrase
dec_phrase-Types binds at =
    ap dec_phrase (sym (dec.rolls-Types binds at))
    ∙ fold-roll-Dec _ _ _ _ _ _ dec_level exp_level str_level exp_field_level rule_level str_bind_level
    (Dec-F.Types binds at)

pub dec_phrase-Datatypes : (binds : List DatBind) (at : At)
    → dec_phrase (dec.Datatypes binds at) ≡ DecPhrase.Datatypes (map dat_phrase binds) at
unfolding exp_phrase exp_field_phrase rule_phrase dec_phrase str_phrase str_bind_phrase
dec_phrase-Datatypes binds at =
    ap dec_phrase (sym (dec.rolls-Datatypes binds at))
    ∙ fold-roll-Dec _ _ _ _ _ _ dec_level exp_level str_level exp_field_level rule_level str_bind_level
    (Dec-F.Datatypes binds at)

pub dec_phrase-Replication : (name : Name) (long : LongName) (at : At)
    → dec_phrase (dec.Replication name long at) ≡ DecPhrase.Replication name long at
unfolding exp_phrase exp_field_phrase rule_phrase dec_phrase str_phrase str_bind_phrase
dec_phrase-Replication name long at =
    ap dec_phrase (sym (dec.rolls-Replication name long at))
    ∙ fold-roll-Dec _ _ _ _ _ _ dec_level exp_level str_level exp_field_level rule_level str_bind_level
    (Dec-F.Replication name long at)

pub dec_phrase-Exceptions : (binds : List ExBind) (at : At)
    → dec_phrase (dec.Exceptions binds at) ≡ DecPhrase.Exceptions (map ex_phrase binds) at
unfolding exp_phrase exp_field_phrase rule_phrase dec_phrase str_phrase str_bind_phrase
dec_phrase-Exceptions binds at =
    ap dec_phrase (sym (dec.rolls-Exceptions binds at))
    ∙ fold-roll-Dec _ _ _ _ _ _ dec_level exp_level str_level exp_field_level rule_level str_bind_level
    (Dec-F.Exceptions binds at)

pub dec_phrase-Local : (hidden : Dec) (shown : Dec) (at : At)
    → dec_phrase (dec.Local hidden shown at) ≡ DecPhrase.Local (dec_phrase hidden) (dec_phrase shown) at
unfolding exp_phrase exp_field_phrase rule_phrase dec_phrase str_phrase str_bind_phrase
dec_phrase-Local hidden shown at =
    ap dec_phrase (sym (dec.rolls-Local hidden shown at))
    ∙ fold-roll-Dec _ _ _ _ _ _ dec_level exp_level str_level exp_field_level rule_level str_bind_level
    (Dec-F.Local hidden shown at)

pub dec_phrase-Open : (longs : List LongName) (at : At)
    → dec_phrase (dec.Open longs at) ≡ DecPhrase.Open longs at
unfolding exp_phrase exp_field_phrase rule_phrase dec_phrase str_phrase str_bind_phrase
dec_phrase-Open longs at =
    ap dec_phrase (sym (dec.rolls-Open longs at))
    ∙ fold-roll-Dec _ _ _ _ _ _ dec_level exp_level str_level exp_field_level rule_level str_bind_level
    (Dec-F.Open longs at)

pub dec_phrase-Sequence : (decs : List Dec) (at : At)
    → dec_phrase (dec.Sequence decs at) ≡ DecPhrase.Sequence (dec_phrases (map dec_phrase decs)) at
unfolding exp_phrase exp_field_phrase rule_phrase dec_phrase str_phrase str_bind_phrase
dec_phrase-Sequence decs at =
    ap dec_phrase (sym (dec.rolls-Sequence decs at))
    ∙ fold-roll-Dec _ _ _ _ _ _ dec_level exp_level str_level exp_field_level rule_level str_bind_level
    (Dec-F.Sequence decs at)

pub dec_phrase-Structures : (binds : List StrBind) (at : At)
    → dec_phrase (dec.Structures binds at) ≡ DecPhrase.Structures (str_binds (map str_bind_phrase binds)) at
unfolding exp_phrase exp_field_phrase rule_phrase dec_phrase str_phrase str_bind_phrase
dec_phrase-Structures binds at =
    ap dec_phrase (sym (dec.rolls-Structures binds at))
    ∙ fold-roll-Dec _ _ _ _ _ _ dec_level exp_level str_level exp_field_level rule_level str_bind_level
    (Dec-F.Structures binds at)

pub ruleset dec_forms = (
  dec_phrase-Val,
  dec_phrase-Types,
  dec_phrase-Datatypes,
  dec_phrase-Replication,
  dec_phrase-Exceptions,
  dec_phrase-Local,
  dec_phrase-Open,
  dec_phrase-Sequence,
  dec_phrase-Structures,
)

-- ---- structure expressions

pub str_phrase-Struct : (inner : Dec) (at : At)
    → str_phrase (str.Struct inner at) ≡ StrPhrase.Struct (dec_phrase inner) at
unfolding exp_phrase exp_field_phrase rule_phrase dec_phrase str_phrase str_bind_phrase
str_phrase-Struct inner at =
    ap str_phrase (sym (str.rolls-Struct inner at))
    ∙ fold-roll-StrExp _ _ _ _ _ _ dec_level exp_level str_level exp_field_level rule_level str_bind_level
    (StrExp-F.Struct inner at)

pub str_phrase-Named : (long : LongName) (at : At)
    → str_phrase (str.Named long at) ≡ StrPhrase.Named long at
unfolding exp_phrase exp_field_phrase rule_phrase dec_phrase str_phrase str_bind_phrase
str_phrase-Named long at =
    ap str_phrase (sym (str.rolls-Named long at))
    ∙ fold-roll-StrExp _ _ _ _ _ _ dec_level exp_level str_level exp_field_level rule_level str_bind_level
    (StrExp-F.Named long at)

pub str_phrase-Transparent : (inner : StrExp) (sig : SigExp) (at : At)
    → str_phrase (str.Transparent inner sig at) ≡ StrPhrase.Transparent (str_phrase inner) sig at
unfolding exp_phrase exp_field_phrase rule_phrase dec_phrase str_phrase str_bind_phrase
str_phrase-Transparent inner sig at =
    ap str_phrase (sym (str.rolls-Transparent inner sig at))
    ∙ fold-roll-StrExp _ _ _ _ _ _ dec_level exp_level str_level exp_field_level rule_level str_bind_level
    (StrExp-F.Transparent inner sig at)

pub str_phrase-Opaque : (inner : StrExp) (sig : SigExp) (at : At)
    → str_phrase (str.Opaque inner sig at) ≡ StrPhrase.Opaque (str_phrase inner) sig at
unfolding exp_phrase exp_field_phrase rule_phrase dec_phrase str_phrase str_bind_phrase
str_phrase-Opaque inner sig at =
    ap str_phrase (sym (str.rolls-Opaque inner sig at))
    ∙ fold-roll-StrExp _ _ _ _ _ _ dec_level exp_level str_level exp_field_level rule_level str_bind_level
    (StrExp-F.Opaque inner sig at)

pub str_phrase-Functor : (name : Name) (argument : StrExp) (at : At)
    → str_phrase (str.Functor name argument at) ≡ StrPhrase.Functor name (str_phrase argument) at
unfolding exp_phrase exp_field_phrase rule_phrase dec_phrase str_phrase str_bind_phrase
str_phrase-Functor name argument at =
    ap str_phrase (sym (str.rolls-Functor name argument at))
    ∙ fold-roll-StrExp _ _ _ _ _ _ dec_level exp_level str_level exp_field_level rule_level str_bind_level
    (StrExp-F.Functor name argument at)

pub str_phrase-Within : (inner : Dec) (body : StrExp) (at : At)
    → str_phrase (str.Within inner body at) ≡ StrPhrase.Within (dec_phrase inner) (str_phrase body) at
unfolding exp_phrase exp_field_phrase rule_phrase dec_phrase str_phrase str_bind_phrase
str_phrase-Within inner body at =
    ap str_phrase (sym (str.rolls-Within inner body at))
    ∙ fold-roll-StrExp _ _ _ _ _ _ dec_level exp_level str_level exp_field_level rule_level str_bind_level
    (StrExp-F.Within inner body at)

pub str_bind_phrase-kept : (bind : StrBind) → str_bind_phrase bind ≡ (
  (out-StrBind bind).name,
  str_phrase
      (out-StrBind bind).body,
)
unfolding exp_phrase exp_field_phrase rule_phrase dec_phrase str_phrase str_bind_phrase
str_bind_phrase-kept bind =
    ap str_bind_phrase (sym (roll-out-StrBind bind))
    ∙ fold-roll-StrBind _ _ _ _ _ _ dec_level exp_level str_level exp_field_level rule_level str_bind_level
    (out-StrBind bind)

pub ruleset str_forms = (
  str_phrase-Struct,
  str_phrase-Named,
  str_phrase-Transparent,
  str_phrase-Opaque,
  str_phrase-Functor,
  str_phrase-Within,
  str_bind_phrase-kept,
)
