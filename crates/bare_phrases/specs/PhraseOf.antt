-- The phrase that a bare tree is: each node becomes the form of its name, with the phrases of its parts in their order.
use Rattle.std.specs.Prelude.{List, [], ◌∷◌, map}
use Rattle.std.specs.Option.{option_map}
use Rattle.sml_trees.specs.declared.name.Name.{Name}
use Rattle.sml_trees.specs.declared.ty.Ty.{Ty}
use Rattle.sml_trees.specs.declared.ty.Ty.TheOpen.{Ty-F, TyField-F}
use Rattle.sml_trees.specs.declared.ty.Ty.TheFolds.{fold-Ty, fold-TyField}
use Rattle.sml_trees.specs.declared.ty.TyField.{TyField}
use Rattle.sml_trees.specs.declared.ty.TypBind.{TypBind}
use Rattle.sml_trees.specs.declared.ty.ConBind.{ConBind}
use Rattle.sml_trees.specs.declared.ty.DatBind.{DatBind}
use Rattle.sml_trees.specs.declared.ty.ExBind.{ExBind}
use Rattle.sml_trees.specs.declared.ty.ExBody.{ExBody}
use Rattle.sml_trees.specs.declared.ty.ExBody.TheVariants as exn
use Rattle.sml_trees.specs.declared.pat.Pat.{Pat}
use Rattle.sml_trees.specs.declared.pat.Pat.TheOpen.{Pat-F, PatField-F}
use Rattle.sml_trees.specs.declared.pat.Pat.TheFolds.{fold-Pat, fold-PatField}
use Rattle.sml_trees.specs.declared.pat.PatField.{PatField}
use Rattle.sml_trees.specs.declared.exp.Dec.{Dec}
use Rattle.sml_trees.specs.declared.exp.Dec.TheOpen.{Dec-F, Exp-F, StrExp-F, ExpField-F, Rule-F, StrBind-F}
use Rattle.sml_trees.specs.declared.exp.Dec.TheFolds.{fold-Dec, fold-Exp, fold-StrExp, fold-ExpField, fold-Rule, fold-StrBind}
use Rattle.sml_trees.specs.declared.exp.Exp.{Exp}
use Rattle.sml_trees.specs.declared.exp.ExpField.{ExpField}
use Rattle.sml_trees.specs.declared.exp.Rule.{Rule}
use Rattle.sml_trees.specs.declared.exp.StrBind.{StrBind}
use Rattle.sml_trees.specs.declared.exp.StrExp.{StrExp}
use Rattle.bare_phrases.specs.Phrases.{TyPhrase, TyFields, TyPhrases, TypPhrase, ConPhrase, DatPhrase, ExBodyPhrase, ExPhrase, PatPhrase, PatFields, ExpPhrase, ExpFields, Rules, DecPhrase, DecPhrases, StrPhrase, StrBinds}

-- ---- types

abbrev pub ty_fields : List (Name × TyPhrase) → TyFields
ty_fields [] = TyFields.EndOfFields
ty_fields (field ∷ fields) = TyFields.Field field.0 field.1 (ty_fields fields)

abbrev pub ty_phrases : List TyPhrase → TyPhrases
ty_phrases [] = TyPhrases.EndOfArgs
ty_phrases (ty ∷ tys) = TyPhrases.Arg ty (ty_phrases tys)

abbrev pub ty_level : Ty-F TyPhrase (Name × TyPhrase) → TyPhrase
ty_level (Ty-F.Var name at) = TyPhrase.Var name at
ty_level (Ty-F.Record fields at) = TyPhrase.Record (ty_fields fields) at
ty_level (Ty-F.Named args long at) = TyPhrase.Named (ty_phrases args) long at
ty_level (Ty-F.Arrow from to at) = TyPhrase.Arrow from to at

abbrev pub ty_field_level : TyField-F TyPhrase (Name × TyPhrase) → Name × TyPhrase
ty_field_level field = (field.label, field.ty)

unfoldable pub ty_phrase : Ty → TyPhrase
ty_phrase = fold-Ty TyPhrase (Name × TyPhrase) ty_level ty_field_level

unfoldable pub ty_field_phrase : TyField → Name × TyPhrase
ty_field_phrase = fold-TyField TyPhrase (Name × TyPhrase) ty_level ty_field_level

-- ---- bindings of names and types

abbrev pub typ_phrase : TypBind → TypPhrase
typ_phrase bind = record { tyvars = bind.tyvars; name = bind.name; ty = ty_phrase bind.ty }

abbrev pub con_phrase : ConBind → ConPhrase
con_phrase con = record { name = con.name; arg = option_map ty_phrase con.arg }

abbrev pub dat_phrase : DatBind → DatPhrase
dat_phrase bind = record { tyvars = bind.tyvars; name = bind.name; cons = map con_phrase bind.cons }

abbrev pub ex_body_phrase : ExBody → ExBodyPhrase
ex_body_phrase exn.Plain = ExBodyPhrase.Plain
ex_body_phrase (exn.Of ty) = ExBodyPhrase.Of (ty_phrase ty)
ex_body_phrase (exn.Copy long) = ExBodyPhrase.Copy long

abbrev pub ex_phrase : ExBind → ExPhrase
ex_phrase bind = record { name = bind.name; body = ex_body_phrase bind.body }

-- ---- patterns

abbrev pub pat_fields : List (Name × PatPhrase) → PatFields
pat_fields [] = PatFields.EndOfFields
pat_fields (field ∷ fields) = PatFields.Field field.0 field.1 (pat_fields fields)

abbrev pub pat_level : Pat-F PatPhrase (Name × PatPhrase) → PatPhrase
pat_level (Pat-F.Wild at) = PatPhrase.Wild at
pat_level (Pat-F.Int value at) = PatPhrase.Int value at
pat_level (Pat-F.Str value at) = PatPhrase.Str value at
pat_level (Pat-F.Char value at) = PatPhrase.Char value at
pat_level (Pat-F.Long long at) = PatPhrase.Long long at
pat_level (Pat-F.Record fields at) = PatPhrase.Record (pat_fields fields) at
pat_level (Pat-F.Con long arg at) = PatPhrase.Con long arg at
pat_level (Pat-F.Typed pat ty at) = PatPhrase.Typed pat (ty_phrase ty) at
pat_level (Pat-F.As name ty pat at) = PatPhrase.As name (option_map ty_phrase ty) pat at

abbrev pub pat_field_level : PatField-F PatPhrase (Name × PatPhrase) → Name × PatPhrase
pat_field_level field = (field.label, field.pat)

unfoldable pub pat_phrase : Pat → PatPhrase
pat_phrase = fold-Pat PatPhrase (Name × PatPhrase) pat_level pat_field_level

unfoldable pub pat_field_phrase : PatField → Name × PatPhrase
pat_field_phrase = fold-PatField PatPhrase (Name × PatPhrase) pat_level pat_field_level

-- ---- expressions, declarations and structure expressions

abbrev pub exp_fields : List (Name × ExpPhrase) → ExpFields
exp_fields [] = ExpFields.EndOfFields
exp_fields (field ∷ fields) = ExpFields.Field field.0 field.1 (exp_fields fields)

abbrev pub rules_of : List (PatPhrase × ExpPhrase) → Rules
rules_of [] = Rules.EndOfRules
rules_of (rule ∷ rules) = Rules.Rule rule.0 rule.1 (rules_of rules)

abbrev pub dec_phrases : List DecPhrase → DecPhrases
dec_phrases [] = DecPhrases.EndOfDecs
dec_phrases (dec ∷ decs) = DecPhrases.Dec dec (dec_phrases decs)

abbrev pub str_binds : List (Name × StrPhrase) → StrBinds
str_binds [] = StrBinds.EndOfBinds
str_binds (bind ∷ binds) = StrBinds.Bind bind.0 bind.1 (str_binds binds)

abbrev pub exp_field_level :
    ExpField-F DecPhrase ExpPhrase StrPhrase (Name × ExpPhrase) (PatPhrase × ExpPhrase) (Name × StrPhrase)
    → Name × ExpPhrase
exp_field_level field = (field.label, field.exp)

abbrev pub rule_level :
    Rule-F DecPhrase ExpPhrase StrPhrase (Name × ExpPhrase) (PatPhrase × ExpPhrase) (Name × StrPhrase)
    → PatPhrase × ExpPhrase
rule_level rule = (pat_phrase rule.pat, rule.exp)

abbrev pub str_bind_level :
    StrBind-F DecPhrase ExpPhrase StrPhrase (Name × ExpPhrase) (PatPhrase × ExpPhrase) (Name × StrPhrase)
    → Name × StrPhrase
str_bind_level bind = (bind.name, bind.body)

abbrev pub exp_level :
    Exp-F DecPhrase ExpPhrase StrPhrase (Name × ExpPhrase) (PatPhrase × ExpPhrase) (Name × StrPhrase)
    → ExpPhrase
exp_level (Exp-F.Int value at) = ExpPhrase.Int value at
exp_level (Exp-F.Str value at) = ExpPhrase.Str value at
exp_level (Exp-F.Char value at) = ExpPhrase.Char value at
exp_level (Exp-F.Long long at) = ExpPhrase.Long long at
exp_level (Exp-F.Record fields at) = ExpPhrase.Record (exp_fields fields) at
exp_level (Exp-F.Let dec body at) = ExpPhrase.Let dec body at
exp_level (Exp-F.App function argument at) = ExpPhrase.App function argument at
exp_level (Exp-F.Typed exp ty at) = ExpPhrase.Typed exp (ty_phrase ty) at
exp_level (Exp-F.Handle exp rules at) = ExpPhrase.Handle exp (rules_of rules) at
exp_level (Exp-F.Raise exp at) = ExpPhrase.Raise exp at
exp_level (Exp-F.Fn rules at) = ExpPhrase.Fn (rules_of rules) at

abbrev pub dec_level :
    Dec-F DecPhrase ExpPhrase StrPhrase (Name × ExpPhrase) (PatPhrase × ExpPhrase) (Name × StrPhrase)
    → DecPhrase
dec_level (Dec-F.Val tyvars rules recs at) = DecPhrase.Val tyvars (rules_of rules) (rules_of recs) at
dec_level (Dec-F.Types binds at) = DecPhrase.Types (map typ_phrase binds) at
dec_level (Dec-F.Datatypes binds at) = DecPhrase.Datatypes (map dat_phrase binds) at
dec_level (Dec-F.Replication name long at) = DecPhrase.Replication name long at
dec_level (Dec-F.Exceptions binds at) = DecPhrase.Exceptions (map ex_phrase binds) at
dec_level (Dec-F.Local hidden shown at) = DecPhrase.Local hidden shown at
dec_level (Dec-F.Open longs at) = DecPhrase.Open longs at
dec_level (Dec-F.Sequence decs at) = DecPhrase.Sequence (dec_phrases decs) at
dec_level (Dec-F.Structures binds at) = DecPhrase.Structures (str_binds binds) at

abbrev pub str_level :
    StrExp-F DecPhrase ExpPhrase StrPhrase (Name × ExpPhrase) (PatPhrase × ExpPhrase) (Name × StrPhrase)
    → StrPhrase
str_level (StrExp-F.Struct dec at) = StrPhrase.Struct dec at
str_level (StrExp-F.Named long at) = StrPhrase.Named long at
str_level (StrExp-F.Transparent str sig at) = StrPhrase.Transparent str sig at
str_level (StrExp-F.Opaque str sig at) = StrPhrase.Opaque str sig at
str_level (StrExp-F.Functor name argument at) = StrPhrase.Functor name argument at
str_level (StrExp-F.Within dec body at) = StrPhrase.Within dec body at

unfoldable pub exp_phrase : Exp → ExpPhrase
exp_phrase = fold-Exp
    DecPhrase ExpPhrase StrPhrase (Name × ExpPhrase) (PatPhrase × ExpPhrase) (Name × StrPhrase)
    dec_level exp_level str_level exp_field_level rule_level str_bind_level

unfoldable pub exp_field_phrase : ExpField → Name × ExpPhrase
exp_field_phrase = fold-ExpField
    DecPhrase ExpPhrase StrPhrase (Name × ExpPhrase) (PatPhrase × ExpPhrase) (Name × StrPhrase)
    dec_level exp_level str_level exp_field_level rule_level str_bind_level

unfoldable pub rule_phrase : Rule → PatPhrase × ExpPhrase
rule_phrase = fold-Rule
    DecPhrase ExpPhrase StrPhrase (Name × ExpPhrase) (PatPhrase × ExpPhrase) (Name × StrPhrase)
    dec_level exp_level str_level exp_field_level rule_level str_bind_level

unfoldable pub dec_phrase : Dec → DecPhrase
dec_phrase = fold-Dec
    DecPhrase ExpPhrase StrPhrase (Name × ExpPhrase) (PatPhrase × ExpPhrase) (Name × StrPhrase)
    dec_level exp_level str_level exp_field_level rule_level str_bind_level

unfoldable pub str_phrase : StrExp → StrPhrase
str_phrase = fold-StrExp
    DecPhrase ExpPhrase StrPhrase (Name × ExpPhrase) (PatPhrase × ExpPhrase) (Name × StrPhrase)
    dec_level exp_level str_level exp_field_level rule_level str_bind_level

unfoldable pub str_bind_phrase : StrBind → Name × StrPhrase
str_bind_phrase = fold-StrBind
    DecPhrase ExpPhrase StrPhrase (Name × ExpPhrase) (PatPhrase × ExpPhrase) (Name × StrPhrase)
    dec_level exp_level str_level exp_field_level rule_level str_bind_level
