-- What holds of a bare node, by what holds of its parts: in its phrase each `rec` binds functions.
use Rattle.std.proofs.Common.{◌≡◌, ℕ, ℤ, List, [], ◌∷◌, ◌++◌, map, flat_map, sym, subst}
use Rattle.sml_trees.specs.declared.name.At.{At}
use Rattle.sml_trees.specs.declared.name.Name.{Name}
use Rattle.sml_trees.specs.declared.name.LongName.{LongName}
use Rattle.sml_trees.specs.declared.sig_exp.SigExp.{SigExp}
use Rattle.sml_trees.specs.declared.ty.Ty.{Ty}
use Rattle.sml_trees.specs.declared.ty.TypBind.{TypBind}
use Rattle.sml_trees.specs.declared.ty.DatBind.{DatBind}
use Rattle.sml_trees.specs.declared.ty.ExBind.{ExBind}
use Rattle.sml_trees.specs.declared.pat.Pat.{Pat}
use Rattle.sml_trees.specs.declared.exp.Dec.{Dec}
use Rattle.sml_trees.specs.declared.exp.Dec.TheFolds.{fold-roll-ExpField, fold-roll-Rule, fold-roll-StrBind}
use Rattle.sml_trees.specs.declared.exp.Dec.TheVariants as dec
use Rattle.sml_trees.specs.declared.exp.Exp.{Exp}
use Rattle.sml_trees.specs.declared.exp.Exp.TheVariants as exp
use Rattle.sml_trees.specs.declared.exp.ExpField.{ExpField}
use Rattle.sml_trees.specs.declared.exp.Rule.{Rule}
use Rattle.sml_trees.specs.declared.exp.StrBind.{StrBind, roll-StrBind}
use Rattle.sml_trees.specs.declared.exp.StrExp.{StrExp}
use Rattle.sml_trees.specs.declared.exp.StrExp.TheVariants as str
use Rattle.bare_phrases.specs.Phrases.{ExpPhrase, DecPhrase, StrPhrase}
use Rattle.bare_phrases.specs.PhraseOf.{pat_phrase, exp_fields, rules_of, dec_phrases, str_binds, exp_field_level, rule_level, str_bind_level, exp_level, dec_level, str_level, exp_phrase, exp_field_phrase, rule_phrase, dec_phrase, str_phrase, str_bind_phrase}
use Rattle.bare_phrases.proofs.Forms.{exp_phrase-Int, exp_phrase-Str, exp_phrase-Char, exp_phrase-Long, exp_phrase-Record, exp_phrase-Let, exp_phrase-App, exp_phrase-Typed, exp_phrase-Handle, exp_phrase-Raise, exp_phrase-Fn, dec_phrase-Val, dec_phrase-Types, dec_phrase-Datatypes, dec_phrase-Replication, dec_phrase-Exceptions, dec_phrase-Local, dec_phrase-Open, dec_phrase-Sequence, dec_phrase-Structures, str_phrase-Struct, str_phrase-Named, str_phrase-Transparent, str_phrase-Opaque, str_phrase-Functor, str_phrase-Within}
use Rattle.bare_forms.specs.Nodes.{rule, field}
use Rattle.static_semantics.specs.Holding.{AllItems}
use Rattle.unit_semantics.specs.UnitPhrases.{module_phrase, module_dec, module_decs, module_binds}
use Rattle.elaboration_laws.specs.Declaring.{BindsValues, ExpHas, ExpFieldsHave, RulesHave, DecHas, DecsHave, IsValue, AreValues}
use Rattle.module_laws.specs.Declaring.{ModuleHas, ModuleDecHas, ModuleDecsHave, ModuleBindsHave}

-- ---- lists

pub items_map : {A B : Type 0} (P : B → Type 0) (f : A → B) (xs : List A) → AllItems (λ x. P (f x)) xs
    → AllItems P (map f xs)
items_map P f [] all = tt
items_map P f (x ∷ xs) all = (all.0, items_map P f xs all.1)

pub items_append : {A : Type 0} (P : A → Type 0) (xs ys : List A) → AllItems P xs → AllItems P ys
    → AllItems P (xs ++ ys)
items_append P [] ys first second = second
items_append P (x ∷ xs) ys first second = (first.0, items_append P xs ys first.1 second)

pub items_flat : {A B : Type 0} (P : B → Type 0) (f : A → List B) (xs : List A) → AllItems (λ x. AllItems P (f x)) xs
    → AllItems P (flat_map f xs)
items_flat P f [] all = tt
items_flat P f (x ∷ xs) all = items_append P (f x) (flat_map f xs) all.0 (items_flat P f xs all.1)

-- ---- what holds

abbrev pub HasE : Exp → Type 0
HasE e = ExpHas BindsValues (exp_phrase e)

abbrev pub HasF : ExpField → Type 0
HasF f = ExpHas BindsValues (exp_field_phrase f).1

abbrev pub HasR : Rule → Type 0
HasR r = ExpHas BindsValues (rule_phrase r).1

-- a value
abbrev pub ValueE : Exp → Type 0
ValueE e = IsValue (exp_phrase e)

abbrev pub ValueR : Rule → Type 0
ValueR r = IsValue (rule_phrase r).1

-- a declaration, by itself and as one in a structure
pub record HasD (d : Dec) : Type 0 where
  pub core : DecHas BindsValues (dec_phrase d)
  pub inside : ModuleDecHas BindsValues (module_dec (dec_phrase d))

abbrev pub HasM : Dec → Type 0
HasM d = ModuleDecHas BindsValues (module_dec (dec_phrase d))

abbrev pub HasS : StrExp → Type 0
HasS s = ModuleHas BindsValues (module_phrase (str_phrase s))

abbrev pub HasB : StrBind → Type 0
HasB b = ModuleHas BindsValues (module_phrase (str_bind_phrase b).1)

-- ---- fields, rules and bindings

fields_have : (fields : List ExpField) → AllItems HasF fields
    → ExpFieldsHave BindsValues (exp_fields (map exp_field_phrase fields))
fields_have [] all = tt
fields_have (f ∷ fs) all = (all.0, fields_have fs all.1)

rules_have : (rules : List Rule) → AllItems HasR rules → RulesHave BindsValues (rules_of (map rule_phrase rules))
rules_have [] all = tt
rules_have (r ∷ rs) all = (all.0, rules_have rs all.1)

rules_values : (rules : List Rule) → AllItems ValueR rules → AreValues (rules_of (map rule_phrase rules))
rules_values [] all = tt
rules_values (r ∷ rs) all = (all.0, rules_values rs all.1)

field_phrase : (label : Name) (e : Exp) → exp_field_phrase (field label e) ≡ (label, exp_phrase e)
unfolding exp_phrase exp_field_phrase rule_phrase dec_phrase str_phrase str_bind_phrase
field_phrase label e = fold-roll-ExpField _ _ _ _ _ _
    dec_level exp_level str_level exp_field_level rule_level str_bind_level (record { label = label; exp = e })

rule_is : (p : Pat) (e : Exp) → rule_phrase (rule p e) ≡ (pat_phrase p, exp_phrase e)
unfolding exp_phrase exp_field_phrase rule_phrase dec_phrase str_phrase str_bind_phrase
rule_is p e = fold-roll-Rule _ _ _ _ _ _
    dec_level exp_level str_level exp_field_level rule_level str_bind_level (record { pat = p; exp = e })

bind_is : (name : Name) (s : StrExp) → str_bind_phrase (roll-StrBind (record { name = name; body = s })) ≡ (name, str_phrase s)
unfolding exp_phrase exp_field_phrase rule_phrase dec_phrase str_phrase str_bind_phrase
bind_is name s = fold-roll-StrBind _ _ _ _ _ _
    dec_level exp_level str_level exp_field_level rule_level str_bind_level (record { name = name; body = s })

pub has-field : (label : Name) (e : Exp) → HasE e → HasF (field label e)
has-field label e h = subst (λ (x : Name × ExpPhrase). ExpHas BindsValues x.1) (sym (field_phrase label e)) h

pub has-rule : (p : Pat) (e : Exp) → HasE e → HasR (rule p e)
has-rule p e h = subst (λ (x : Rattle.bare_phrases.specs.Phrases.PatPhrase × ExpPhrase). ExpHas BindsValues x.1) (sym (rule_is p e)) h

pub value-rule : (p : Pat) (e : Exp) → ValueE e → ValueR (rule p e)
value-rule p e h = subst (λ (x : Rattle.bare_phrases.specs.Phrases.PatPhrase × ExpPhrase). IsValue x.1) (sym (rule_is p e)) h

pub has-bind : (name : Name) (s : StrExp) → HasS s → HasB (roll-StrBind (record { name = name; body = s }))
has-bind name s h = subst (λ (x : Name × StrPhrase). ModuleHas BindsValues (module_phrase x.1)) (sym (bind_is name s)) h

-- ---- expressions

exp_by : (e : Exp) (p : ExpPhrase) → exp_phrase e ≡ p → ExpHas BindsValues p → HasE e
exp_by e p is h = subst (ExpHas BindsValues) (sym is) h

value_by : (e : Exp) (p : ExpPhrase) → exp_phrase e ≡ p → IsValue p → ValueE e
value_by e p is h = subst IsValue (sym is) h

pub has-Int : (n : ℤ) (at : At) → HasE (exp.Int n at)
has-Int n at = exp_by _ _ (exp_phrase-Int n at) tt

pub has-Str : (text : List ℕ) (at : At) → HasE (exp.Str text at)
has-Str text at = exp_by _ _ (exp_phrase-Str text at) tt

pub has-Char : (byte : ℕ) (at : At) → HasE (exp.Char byte at)
has-Char byte at = exp_by _ _ (exp_phrase-Char byte at) tt

pub has-Long : (long : LongName) (at : At) → HasE (exp.Long long at)
has-Long long at = exp_by _ _ (exp_phrase-Long long at) tt

pub has-Record : (fields : List ExpField) (at : At) → AllItems HasF fields → HasE (exp.Record fields at)
has-Record fields at all = exp_by _ _ (exp_phrase-Record fields at) (fields_have fields all)

pub has-Let : (d : Dec) (e : Exp) (at : At) → HasD d → HasE e → HasE (exp.Let d e at)
has-Let d e at first second = exp_by _ _ (exp_phrase-Let d e at) (first.core, second)

pub has-App : (f e : Exp) (at : At) → HasE f → HasE e → HasE (exp.App f e at)
has-App f e at first second = exp_by _ _ (exp_phrase-App f e at) (first, second)

pub has-Typed : (e : Exp) (t : Ty) (at : At) → HasE e → HasE (exp.Typed e t at)
has-Typed e t at h = exp_by _ _ (exp_phrase-Typed e t at) h

pub value-Typed : (e : Exp) (t : Ty) (at : At) → ValueE e → ValueE (exp.Typed e t at)
value-Typed e t at h = value_by _ _ (exp_phrase-Typed e t at) h

pub has-Handle : (e : Exp) (rules : List Rule) (at : At) → HasE e → AllItems HasR rules → HasE (exp.Handle e rules at)
has-Handle e rules at first second = exp_by _ _ (exp_phrase-Handle e rules at) (first, rules_have rules second)

pub has-Raise : (e : Exp) (at : At) → HasE e → HasE (exp.Raise e at)
has-Raise e at h = exp_by _ _ (exp_phrase-Raise e at) h

pub has-Fn : (rules : List Rule) (at : At) → AllItems HasR rules → HasE (exp.Fn rules at)
has-Fn rules at all = exp_by _ _ (exp_phrase-Fn rules at) (rules_have rules all)

pub value-Fn : (rules : List Rule) (at : At) → ValueE (exp.Fn rules at)
value-Fn rules at = value_by _ _ (exp_phrase-Fn rules at) tt

-- ---- declarations

dec_by : (d : Dec) (p : DecPhrase) → dec_phrase d ≡ p → DecHas BindsValues p
    → ModuleDecHas BindsValues (module_dec p) → HasD d
dec_by d p is core inside = record {
  core = subst (DecHas BindsValues) (sym is) core;
  inside = subst (λ x. ModuleDecHas BindsValues (module_dec x)) (sym is) inside;
}

pub has-Val : (tyvars : List Name) (rules recs : List Rule) (at : At) → AllItems HasR rules → AllItems HasR recs
    → AllItems ValueR recs → HasD (dec.Val tyvars rules recs at)
has-Val tyvars rules recs at first second third =
    dec_by _ _ (dec_phrase-Val tyvars rules recs at)
    (rules_values recs third, rules_have rules first, rules_have recs second)
    (rules_values recs third, rules_have rules first, rules_have recs second)

pub has-Types : (binds : List TypBind) (at : At) → HasD (dec.Types binds at)
has-Types binds at = dec_by _ _ (dec_phrase-Types binds at) tt tt

pub has-Datatypes : (binds : List DatBind) (at : At) → HasD (dec.Datatypes binds at)
has-Datatypes binds at = dec_by _ _ (dec_phrase-Datatypes binds at) tt tt

pub has-Replication : (name : Name) (long : LongName) (at : At) → HasD (dec.Replication name long at)
has-Replication name long at = dec_by _ _ (dec_phrase-Replication name long at) tt tt

pub has-Exceptions : (binds : List ExBind) (at : At) → HasD (dec.Exceptions binds at)
has-Exceptions binds at = dec_by _ _ (dec_phrase-Exceptions binds at) tt tt

pub has-Open : (longs : List LongName) (at : At) → HasD (dec.Open longs at)
has-Open longs at = dec_by _ _ (dec_phrase-Open longs at) tt tt

pub has-Local : (a b : Dec) (at : At) → HasD a → HasD b → HasD (dec.Local a b at)
has-Local a b at first second =
    dec_by _ _ (dec_phrase-Local a b at) (first.core, second.core) (first.inside, second.inside)

decs_have : (decs : List Dec) → AllItems HasD decs → DecsHave BindsValues (dec_phrases (map dec_phrase decs))
decs_have [] all = tt
decs_have (d ∷ ds) all = (all.0.core, decs_have ds all.1)

modules_have : (decs : List Dec) → AllItems HasM decs
    → ModuleDecsHave BindsValues (module_decs (dec_phrases (map dec_phrase decs)))
modules_have [] all = tt
modules_have (d ∷ ds) all = (all.0, modules_have ds all.1)

pub as_modules : (decs : List Dec) → AllItems HasD decs → AllItems HasM decs
as_modules [] all = tt
as_modules (d ∷ ds) all = (all.0.inside, as_modules ds all.1)

pub has-Sequence : (decs : List Dec) (at : At) → AllItems HasD decs → HasD (dec.Sequence decs at)
has-Sequence decs at all =
    dec_by _ _ (dec_phrase-Sequence decs at) (decs_have decs all) (modules_have decs (as_modules decs all))

-- ---- declarations in structures, and structures

module_by : (d : Dec) (p : DecPhrase) → dec_phrase d ≡ p → ModuleDecHas BindsValues (module_dec p) → HasM d
module_by d p is h = subst (λ x. ModuleDecHas BindsValues (module_dec x)) (sym is) h

pub module-Sequence : (decs : List Dec) (at : At) → AllItems HasM decs → HasM (dec.Sequence decs at)
module-Sequence decs at all = module_by _ _ (dec_phrase-Sequence decs at) (modules_have decs all)

pub module-Local : (a b : Dec) (at : At) → HasM a → HasM b → HasM (dec.Local a b at)
module-Local a b at first second = module_by _ _ (dec_phrase-Local a b at) (first, second)

pub binds_have : (binds : List StrBind) → AllItems HasB binds
    → ModuleBindsHave BindsValues (module_binds (str_binds (map str_bind_phrase binds)))
binds_have [] all = tt
binds_have (b ∷ bs) all = (all.0, binds_have bs all.1)

pub module-Structures : (binds : List StrBind) (at : At) → AllItems HasB binds → HasM (dec.Structures binds at)
module-Structures binds at all = module_by _ _ (dec_phrase-Structures binds at) (binds_have binds all)

str_by : (s : StrExp) (p : StrPhrase) → str_phrase s ≡ p → ModuleHas BindsValues (module_phrase p) → HasS s
str_by s p is h = subst (λ x. ModuleHas BindsValues (module_phrase x)) (sym is) h

pub has-Struct : (d : Dec) (at : At) → HasM d → HasS (str.Struct d at)
has-Struct d at h = str_by _ _ (str_phrase-Struct d at) h

pub has-Named : (long : LongName) (at : At) → HasS (str.Named long at)
has-Named long at = str_by _ _ (str_phrase-Named long at) tt

pub has-Transparent : (s : StrExp) (g : SigExp) (at : At) → HasS s → HasS (str.Transparent s g at)
has-Transparent s g at h = str_by _ _ (str_phrase-Transparent s g at) h

pub has-Opaque : (s : StrExp) (g : SigExp) (at : At) → HasS s → HasS (str.Opaque s g at)
has-Opaque s g at h = str_by _ _ (str_phrase-Opaque s g at) h

pub has-Functor : (name : Name) (s : StrExp) (at : At) → HasS s → HasS (str.Functor name s at)
has-Functor name s at h = str_by _ _ (str_phrase-Functor name s at) h

pub has-Within : (d : Dec) (s : StrExp) (at : At) → HasM d → HasS s → HasS (str.Within d s at)
has-Within d s at first second = str_by _ _ (str_phrase-Within d s at) (first, second)
