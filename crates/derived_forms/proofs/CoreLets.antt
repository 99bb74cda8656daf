-- What is written holds no structure in an expression, and so the bare unit that it becomes holds none either.
use Rattle.std.proofs.Common.{◌≡◌, ℕ, ℤ, zero, suc, Bool, true, false, List, [], ◌∷◌, ◌++◌, Option, Some, None, if◌then◌else◌, ◌==◌, ◌&&◌, refl, sym, ap, ap₂, ◌∙◌, subst, map, flat_map, length}
use Rattle.std.specs.Prelude.{codes}
use Rattle.std.specs.List.{list_all}
use Rattle.sml_trees.specs.declared.name.At.{At}
use Rattle.sml_trees.specs.declared.name.Name.{Name}
use Rattle.sml_trees.specs.declared.name.LongName.{LongName}
use Rattle.sml_trees.specs.declared.full_ty.FullTy.{FullTy}
use Rattle.sml_trees.specs.declared.full_pat.Constant.{Constant}
use Rattle.sml_trees.specs.declared.full_pat.Constant.TheVariants as constant
use Rattle.sml_trees.specs.declared.full_sig.FullSigExp.{FullSigExp}
use Rattle.sml_trees.specs.declared.full_sig.FullSeal.{FullSeal}
use Rattle.sml_trees.specs.declared.full_exp.FullHead.{FullHead}
use Rattle.sml_trees.specs.declared.full_exp.FullDec.{FullDec, roll-FullDec}
use Rattle.sml_trees.specs.declared.full_exp.FullExp.{FullExp, roll-FullExp}
use Rattle.sml_trees.specs.declared.full_exp.FullExpItem.{FullExpItem, roll-FullExpItem}
use Rattle.sml_trees.specs.declared.full_exp.FullClause.{FullClause, roll-FullClause}
use Rattle.sml_trees.specs.declared.full_exp.FullExpField.{FullExpField, roll-FullExpField}
use Rattle.sml_trees.specs.declared.full_exp.FullFunBind.{FullFunBind, roll-FullFunBind}
use Rattle.sml_trees.specs.declared.full_exp.FullRule.{FullRule, roll-FullRule}
use Rattle.sml_trees.specs.declared.full_exp.FullValBind.{FullValBind, roll-FullValBind}
use Rattle.sml_trees.specs.declared.full_exp.FullDec.TheOpen.{FullDec-F, FullExp-F, FullExpItem-F, FullClause-F, FullExpField-F, FullFunBind-F, FullRule-F, FullValBind-F}
use Rattle.sml_trees.specs.declared.full_exp.FullDec.TheFolds.{map-FullDec, map-FullExp, map-FullExpItem, map-FullClause, map-FullExpField, map-FullFunBind, map-FullRule, map-FullValBind, fold-roll-FullDec, fold-roll-FullExp, fold-roll-FullExpItem, fold-roll-FullClause, fold-roll-FullExpField, fold-roll-FullFunBind, fold-roll-FullRule, fold-roll-FullValBind, ind-FullDec, ind-FullExp}
use Rattle.sml_trees.specs.declared.full_str.FullStrDec.{FullStrDec, roll-FullStrDec}
use Rattle.sml_trees.specs.declared.full_str.FullStrExp.{FullStrExp, roll-FullStrExp}
use Rattle.sml_trees.specs.declared.full_str.FullStrBind.{FullStrBind, roll-FullStrBind}
use Rattle.sml_trees.specs.declared.full_str.FullStrDec.TheOpen.{FullStrDec-F, FullStrExp-F, FullStrBind-F}
use Rattle.sml_trees.specs.declared.full_str.FullStrDec.TheFolds.{map-FullStrDec, map-FullStrExp, map-FullStrBind, fold-roll-FullStrDec, fold-roll-FullStrExp, fold-roll-FullStrBind, ind-FullStrExp, ind-FullStrBind}
use Rattle.sml_trees.specs.declared.full_unit.FullUnit.{FullUnit}
use Rattle.sml_trees.specs.declared.full_unit.FullTopDec.{FullTopDec}
use Rattle.sml_trees.specs.declared.full_unit.FullTopDec.TheVariants as full
use Rattle.sml_trees.specs.declared.full_unit.FullParam.{FullParam}
use Rattle.sml_trees.specs.declared.full_unit.FullParam.TheVariants as param
use Rattle.sml_trees.specs.declared.full_unit.FullFunctorBind.{FullFunctorBind}
use Rattle.sml_trees.specs.declared.pat.Pat.{Pat}
use Rattle.sml_trees.specs.declared.pat.Pat.TheVariants as pat
use Rattle.sml_trees.specs.declared.ty.Ty.{Ty}
use Rattle.sml_trees.specs.declared.ty.TypBind.{TypBind}
use Rattle.sml_trees.specs.declared.ty.DatBind.{DatBind}
use Rattle.sml_trees.specs.declared.ty.ExBind.{ExBind}
use Rattle.sml_trees.specs.declared.sig_exp.SigExp.{SigExp}
use Rattle.sml_trees.specs.declared.exp.Dec.{Dec}
use Rattle.sml_trees.specs.declared.exp.Dec.TheOpen.{Dec-F, Exp-F, StrExp-F, ExpField-F, Rule-F, StrBind-F}
use Rattle.sml_trees.specs.declared.exp.Dec.TheFolds.{fold-ExpField, fold-Rule, fold-roll-Dec, fold-roll-Exp, fold-roll-StrExp, fold-roll-ExpField, fold-roll-Rule, fold-roll-StrBind}
use Rattle.sml_trees.specs.declared.exp.Dec.TheVariants as dec
use Rattle.sml_trees.specs.declared.exp.Exp.{Exp}
use Rattle.sml_trees.specs.declared.exp.Exp.TheVariants as exp
use Rattle.sml_trees.specs.declared.exp.ExpField.{ExpField}
use Rattle.sml_trees.specs.declared.exp.Rule.{Rule}
use Rattle.sml_trees.specs.declared.exp.StrBind.{StrBind}
use Rattle.sml_trees.specs.declared.exp.StrExp.{StrExp}
use Rattle.sml_trees.specs.declared.exp.StrExp.TheVariants as str
use Rattle.sml_trees.specs.CoreLets.{DecCore, either_core, whole_of, lets_of, all_true, rule_core, exp_field_core, exp_core, dec_core, str_core, str_bind_core, core_of_dec, core_of_exp, core_of_str, core_of_str_bind, core_of_fun_bind, core_of_topdec, HasCoreLets}
use Rattle.bare_forms.specs.declared.placed.PlacedPat.{PlacedPat}
use Rattle.bare_forms.specs.declared.placed.PlacedExp.{PlacedExp}
use Rattle.bare_forms.specs.declared.placed.PlacedStr.{PlacedStr}
use Rattle.bare_forms.specs.declared.placed.BareClause.{BareClause}
use Rattle.bare_forms.specs.declared.placed.CountedRule.{CountedRule}
use Rattle.bare_forms.specs.Types.{bare_ty, bare_typ_bind, bare_dat_bind, bare_ex_bind, label_of}
use Rattle.bare_forms.specs.Patterns.{bare_pat, at_name, long_name, long_at}
use Rattle.bare_forms.specs.Signatures.{bare_sig, bare_sig_bind}
use Rattle.bare_forms.specs.Runs.{Part, run_of}
use Rattle.bare_forms.specs.RunValues.{part_value}
use Rattle.bare_forms.specs.Nodes.{rule, field, constant_exp, long_pat, long_exp, unit_exp, pair_exp, exp_fields_from, case_exp, if_exp, or_else, and_also, then_exp, while_call, while_body, while_dec, while_exp, cons_exp, rest_exp, items_exp, list_exp, sequence_from, sequence_exp, body_exp, joined_exp, applied_exp, missing_exp, arg_text, subject_fields, subject_exp, args_pat, clause_rule, arg_fn, curried, fun_of, fun_rule}
use Rattle.bare_forms.specs.Expressions.{PlacedDec, result_exp, plain_rules, rec_binds, rec_rules, rule_of, decs_of, sequence_dec, dec_level, exp_level, exp_item_level, clause_level, exp_field_level, fun_bind_level, rule_level, val_bind_level, bare_dec, bare_exp, bare_item, bare_clause, bare_field, bare_fun_bind, bare_rule, bare_val_bind}
use Rattle.bare_forms.specs.Structures.{sealed, str_dec_level, str_level, str_bind_level, bare_str_dec, bare_str, bare_str_bind}
use Rattle.bare_forms.specs.Units.{param_text, opening, functor_of, bare_functor, bare_topdec, bare_of}
use Rattle.bare_forms.proofs.RunFusion.{run-value}

-- ---- what holds of each item of a list

abbrev Each : {A : Type 0} → (A → Type 0) → List A → Type 0
Each P [] = Unit {0}
Each P (x ∷ xs) = P x × Each P xs

each-map : {A B : Type 0} (P : B → Type 0) (f : A → B) (xs : List A) → Each (λ x. P (f x)) xs → Each P (map f xs)
each-map P f [] all = tt
each-map P f (x ∷ xs) all = (all.0, each-map P f xs all.1)

each-held : {A : Type 0} (P : A → Type 0) (held : List ((x : A) × P x)) → Each P (map (λ h. h.0) held)
each-held P [] = tt
each-held P (h ∷ held) = (h.1, each-held P held)

each-append : {A : Type 0} (P : A → Type 0) (xs ys : List A) → Each P xs → Each P ys → Each P (xs ++ ys)
each-append P [] ys first second = second
each-append P (x ∷ xs) ys first second = (first.0, each-append P xs ys first.1 second)

each-flat : {A B : Type 0} (P : B → Type 0) (f : A → List B) (xs : List A) → Each (λ x. Each P (f x)) xs
    → Each P (flat_map f xs)
each-flat P f [] all = tt
each-flat P f (x ∷ xs) all = each-append P (f x) (flat_map f xs) all.0 (each-flat P f xs all.1)

both-true : (a b : Bool) → a ≡ true → b ≡ true → a && b ≡ true
both-true a b first second = ap₂ (λ x y. x && y) first second

each-true : {A : Type 0} (f : A → Bool) (xs : List A) → Each (λ x. f x ≡ true) xs → all_true (map f xs) ≡ true
each-true f [] all = refl
each-true f (x ∷ xs) all = both-true (f x) (all_true (map f xs)) all.0 (each-true f xs all.1)

each-all : {A : Type 0} (f : A → Bool) (xs : List A) → Each (λ x. f x ≡ true) xs → list_all f xs ≡ true
each-all f [] all = refl
each-all f (x ∷ xs) all = both-true (f x) (list_all f xs) all.0 (each-all f xs all.1)

-- ---- nodes

abbrev core_of_field : ExpField → Bool
core_of_field = fold-ExpField DecCore Bool Bool Bool Bool Bool dec_core exp_core str_core exp_field_core rule_core str_bind_core

abbrev core_of_rule : Rule → Bool
core_of_rule = fold-Rule DecCore Bool Bool Bool Bool Bool dec_core exp_core str_core exp_field_core rule_core str_bind_core

abbrev CoreE : Exp → Type 0
CoreE e = core_of_exp e ≡ true

abbrev CoreP : PlacedExp → Type 0
CoreP p = core_of_exp p.exp ≡ true

abbrev CoreR : Rule → Type 0
CoreR r = core_of_rule r ≡ true

abbrev CoreF : ExpField → Type 0
CoreF f = core_of_field f ≡ true

-- a declaration that declares no structure, in it or in an expression of it
abbrev CoreD : Dec → Type 0
CoreD d = core_of_dec d ≡ either_core true

core-field : (label : Name) (e : Exp) → CoreE e → CoreF (field label e)
core-field label e is =
    fold-roll-ExpField _ _ _ _ _ _ dec_core exp_core str_core exp_field_core rule_core str_bind_core (record { label = label; exp = e }) ∙ is

core-rule : (p : Pat) (e : Exp) → CoreE e → CoreR (rule p e)
core-rule p e is =
    fold-roll-Rule _ _ _ _ _ _ dec_core exp_core str_core exp_field_core rule_core str_bind_core (record { pat = p; exp = e }) ∙ is

core-Int : (n : ℤ) (at : At) → CoreE (exp.Int n at)
core-Int n at =
    ap core_of_exp (sym (exp.rolls-Int n at))
    ∙ fold-roll-Exp _ _ _ _ _ _ dec_core exp_core str_core exp_field_core rule_core str_bind_core (Exp-F.Int n at)

core-Str : (text : List ℕ) (at : At) → CoreE (exp.Str text at)
core-Str text at =
    ap core_of_exp (sym (exp.rolls-Str text at))
    ∙ fold-roll-Exp _ _ _ _ _ _ dec_core exp_core str_core exp_field_core rule_core str_bind_core (Exp-F.Str text at)

core-Char : (byte : ℕ) (at : At) → CoreE (exp.Char byte at)
core-Char byte at =
    ap core_of_exp (sym (exp.rolls-Char byte at))
    ∙ fold-roll-Exp _ _ _ _ _ _ dec_core exp_core str_core exp_field_core rule_core str_bind_core (Exp-F.Char byte at)

core-Long : (long : LongName) (at : At) → CoreE (exp.Long long at)
core-Long long at =
    ap core_of_exp (sym (exp.rolls-Long long at))
    ∙ fold-roll-Exp _ _ _ _ _ _ dec_core exp_core str_core exp_field_core rule_core str_bind_core (Exp-F.Long long at)

core-Record : (fields : List ExpField) (at : At) → Each CoreF fields → CoreE (exp.Record fields at)
core-Record fields at p0 =
    ap core_of_exp (sym (exp.rolls-Record fields at))
    ∙ fold-roll-Exp _ _ _ _ _ _ dec_core exp_core str_core exp_field_core rule_core str_bind_core (Exp-F.Record fields at) ∙ each-true core_of_field fields p0

core-Let : (d : Dec) (e : Exp) (at : At) → whole_of (core_of_dec d) ≡ true → CoreE e → CoreE (exp.Let d e at)
core-Let d e at p0 p1 =
    ap core_of_exp (sym (exp.rolls-Let d e at))
    ∙ fold-roll-Exp _ _ _ _ _ _ dec_core exp_core str_core exp_field_core rule_core str_bind_core (Exp-F.Let d e at) ∙ both-true (whole_of (core_of_dec d)) (core_of_exp e) p0 p1

core-App : (f : Exp) (e : Exp) (at : At) → CoreE f → CoreE e → CoreE (exp.App f e at)
core-App f e at p0 p1 =
    ap core_of_exp (sym (exp.rolls-App f e at))
    ∙ fold-roll-Exp _ _ _ _ _ _ dec_core exp_core str_core exp_field_core rule_core str_bind_core (Exp-F.App f e at) ∙ both-true (core_of_exp f) (core_of_exp e) p0 p1

core-Typed : (e : Exp) (t : Ty) (at : At) → CoreE e → CoreE (exp.Typed e t at)
core-Typed e t at p0 =
    ap core_of_exp (sym (exp.rolls-Typed e t at))
    ∙ fold-roll-Exp _ _ _ _ _ _ dec_core exp_core str_core exp_field_core rule_core str_bind_core (Exp-F.Typed e t at) ∙ p0

core-Handle : (e : Exp) (rules : List Rule) (at : At) → CoreE e → Each CoreR rules → CoreE (exp.Handle e rules at)
core-Handle e rules at p0 p1 =
    ap core_of_exp (sym (exp.rolls-Handle e rules at))
    ∙ fold-roll-Exp _ _ _ _ _ _ dec_core exp_core str_core exp_field_core rule_core str_bind_core (Exp-F.Handle e rules at) ∙ both-true (core_of_exp e) (all_true (map core_of_rule rules)) p0 (each-true core_of_rule rules p1)

core-Raise : (e : Exp) (at : At) → CoreE e → CoreE (exp.Raise e at)
core-Raise e at p0 =
    ap core_of_exp (sym (exp.rolls-Raise e at))
    ∙ fold-roll-Exp _ _ _ _ _ _ dec_core exp_core str_core exp_field_core rule_core str_bind_core (Exp-F.Raise e at) ∙ p0

core-Fn : (rules : List Rule) (at : At) → Each CoreR rules → CoreE (exp.Fn rules at)
core-Fn rules at p0 =
    ap core_of_exp (sym (exp.rolls-Fn rules at))
    ∙ fold-roll-Exp _ _ _ _ _ _ dec_core exp_core str_core exp_field_core rule_core str_bind_core (Exp-F.Fn rules at) ∙ each-true core_of_rule rules p0

core-dec_Val : (tyvars : List Name) (rules : List Rule) (recs : List Rule) (at : At) → Each CoreR rules → Each CoreR recs → CoreD (dec.Val tyvars rules recs at)
core-dec_Val tyvars rules recs at p0 p1 =
    ap core_of_dec (sym (dec.rolls-Val tyvars rules recs at))
    ∙ fold-roll-Dec _ _ _ _ _ _ dec_core exp_core str_core exp_field_core rule_core str_bind_core (Dec-F.Val tyvars rules recs at) ∙ ap either_core (both-true (all_true (map core_of_rule rules)) (all_true (map core_of_rule recs)) (each-true core_of_rule rules p0) (each-true core_of_rule recs p1))

core-dec_Types : (binds : List TypBind) (at : At) → CoreD (dec.Types binds at)
core-dec_Types binds at =
    ap core_of_dec (sym (dec.rolls-Types binds at))
    ∙ fold-roll-Dec _ _ _ _ _ _ dec_core exp_core str_core exp_field_core rule_core str_bind_core (Dec-F.Types binds at)

core-dec_Datatypes : (binds : List DatBind) (at : At) → CoreD (dec.Datatypes binds at)
core-dec_Datatypes binds at =
    ap core_of_dec (sym (dec.rolls-Datatypes binds at))
    ∙ fold-roll-Dec _ _ _ _ _ _ dec_core exp_core str_core exp_field_core rule_core str_bind_core (Dec-F.Datatypes binds at)

core-dec_Replication : (name : Name) (long : LongName) (at : At) → CoreD (dec.Replication name long at)
core-dec_Replication name long at =
    ap core_of_dec (sym (dec.rolls-Replication name long at))
    ∙ fold-roll-Dec _ _ _ _ _ _ dec_core exp_core str_core exp_field_core rule_core str_bind_core (Dec-F.Replication name long at)

core-dec_Exceptions : (binds : List ExBind) (at : At) → CoreD (dec.Exceptions binds at)
core-dec_Exceptions binds at =
    ap core_of_dec (sym (dec.rolls-Exceptions binds at))
    ∙ fold-roll-Dec _ _ _ _ _ _ dec_core exp_core str_core exp_field_core rule_core str_bind_core (Dec-F.Exceptions binds at)

core-dec_Open : (longs : List LongName) (at : At) → CoreD (dec.Open longs at)
core-dec_Open longs at =
    ap core_of_dec (sym (dec.rolls-Open longs at))
    ∙ fold-roll-Dec _ _ _ _ _ _ dec_core exp_core str_core exp_field_core rule_core str_bind_core (Dec-F.Open longs at)

-- what is made of both facts of a declaration
abbrev made_core : Bool → Bool → DecCore
made_core whole lets = record { whole = whole; lets = lets }

core-dec_Local : (a b : Dec) (at : At) → CoreD a → CoreD b → CoreD (dec.Local a b at)
core-dec_Local a b at first second =
    ap core_of_dec (sym (dec.rolls-Local a b at))
    ∙ fold-roll-Dec _ _ _ _ _ _ dec_core exp_core str_core exp_field_core rule_core str_bind_core (Dec-F.Local a b at)
    ∙ ap₂ made_core
    (both-true (core_of_dec a).whole (core_of_dec b).whole (ap whole_of first) (ap whole_of second))
    (both-true (core_of_dec a).lets (core_of_dec b).lets (ap lets_of first) (ap lets_of second))

-- the parts of each declaration
wholes : (decs : List Dec) → Each CoreD decs → list_all whole_of (map core_of_dec decs) ≡ true
wholes [] all = refl
wholes (d ∷ decs) all = both-true (core_of_dec d).whole (list_all whole_of (map core_of_dec decs)) (ap whole_of all.0) (wholes decs all.1)

abbrev LetsD : Dec → Type 0
LetsD d = lets_of (core_of_dec d) ≡ true

letses : (decs : List Dec) → Each LetsD decs → list_all lets_of (map core_of_dec decs) ≡ true
letses [] all = refl
letses (d ∷ decs) all = both-true (core_of_dec d).lets (list_all lets_of (map core_of_dec decs)) all.0 (letses decs all.1)

core_lets : (decs : List Dec) → Each CoreD decs → Each LetsD decs
core_lets [] all = tt
core_lets (d ∷ decs) all = (ap lets_of all.0, core_lets decs all.1)

sequence_is : (decs : List Dec) (at : At)
    → core_of_dec (dec.Sequence decs at)
    ≡ made_core (list_all whole_of (map core_of_dec decs)) (list_all lets_of (map core_of_dec decs))
sequence_is decs at =
    ap core_of_dec (sym (dec.rolls-Sequence decs at))
    ∙ fold-roll-Dec _ _ _ _ _ _ dec_core exp_core str_core exp_field_core rule_core str_bind_core (Dec-F.Sequence decs at)

core-dec_Sequence : (decs : List Dec) (at : At) → Each CoreD decs → CoreD (dec.Sequence decs at)
core-dec_Sequence decs at all =
    sequence_is decs at ∙ ap₂ made_core (wholes decs all) (letses decs (core_lets decs all))

-- ---- what derived forms are made of

core-constant : (c : Constant) (at : At) → CoreE (constant_exp c at)
core-constant (constant.Int n) at = core-Int n at
core-constant (constant.Str text) at = core-Str text at
core-constant (constant.Char byte) at = core-Char byte at

core-unit : (at : At) → CoreE (unit_exp at)
core-unit at = core-Record [] at tt

core-pair : (at : At) (a b : Exp) → CoreE a → CoreE b → CoreE (pair_exp at a b)
core-pair at a b first second =
    core-Record (field (label_of at 1) a ∷ field (label_of at 2) b ∷ []) at
    (core-field (label_of at 1) a first, (core-field (label_of at 2) b second, tt))

core-tuple : (at : At) (n : ℕ) (parts : List PlacedExp) → Each CoreP parts → Each CoreF (exp_fields_from at n parts)
core-tuple at n [] all = tt
core-tuple at n (part ∷ parts) all =
    (core-field (label_of at n) part.exp all.0, core-tuple at (suc n) parts all.1)

core-case : (at : At) (subject : Exp) (rules : List Rule) → CoreE subject → Each CoreR rules
    → CoreE (case_exp at subject rules)
core-case at subject rules first second =
    core-App (exp.Fn rules at) subject at (core-Fn rules at second) first

core-if : (at : At) (a b c : Exp) → CoreE a → CoreE b → CoreE c → CoreE (if_exp at a b c)
core-if at a b c first second third =
    core-case at a (rule (long_pat at (codes "true")) b ∷ rule (long_pat at (codes "false")) c ∷ []) first
    (core-rule (long_pat at (codes "true")) b second, (core-rule (long_pat at (codes "false")) c third, tt))

core-then : (at : At) (a b : Exp) → CoreE a → CoreE b → CoreE (then_exp at a b)
core-then at a b first second =
    core-case at a (rule (pat.Wild at) b ∷ []) first (core-rule (pat.Wild at) b second, tt)

core-call : (at : At) → CoreE (while_call at)
core-call at =
    core-App (long_exp at (codes "%0")) (unit_exp at) at (core-Long (long_at at (codes "%0")) at) (core-unit at)

core-while : (at : At) (a b : Exp) → CoreE a → CoreE b → CoreE (while_exp at a b)
core-while at a b first second =
    let again = then_exp at b (while_call at) in
    let step = if_exp at a again (unit_exp at) in
    let function = exp.Fn (rule (pat.Record [] at) step ∷ []) at in
    let bound = rule (long_pat at (codes "%0")) function in
    core-Let (dec.Sequence (while_dec at a b ∷ []) at) (while_call at) at
    (ap whole_of (core-dec_Sequence (while_dec at a b ∷ []) at (
      core-dec_Val [] [] (bound ∷ []) at tt (
        core-rule (long_pat at (codes "%0")) function
            (core-Fn (rule (pat.Record [] at) step ∷ []) at (
              core-rule (pat.Record [] at) step
                  (core-if at a again (unit_exp at) first (core-then at b (while_call at) second (core-call at)) (core-unit at)),
              tt,
            )),
        tt,
      ),
      tt,
    )))
    (core-call at)

core-cons : (at : At) (a b : Exp) → CoreE a → CoreE b → CoreE (cons_exp at a b)
core-cons at a b first second =
    core-App (long_exp at (codes "::")) (pair_exp at a b) at (core-Long (long_at at (codes "::")) at)
    (core-pair at a b first second)

core-rest : (ps : List PlacedExp) (rest : Exp) → Each CoreP ps → CoreE rest → CoreE (rest_exp cons_exp ps rest)
core-rest [] rest all is = is
core-rest (p ∷ ps) rest all is = core-cons p.at p.exp (rest_exp cons_exp ps rest) all.0 (core-rest ps rest all.1 is)

core-list : (at : At) (ps : List PlacedExp) → Each CoreP ps → CoreE (list_exp at ps)
core-list at [] all = core-Long (long_at at (codes "nil")) at
core-list at (p ∷ ps) all =
    let nil = long_exp at (codes "nil") in
    core-cons at p.exp (rest_exp cons_exp ps nil) all.0 (core-rest ps nil all.1 (core-Long (long_at at (codes "nil")) at))

core-from : (at : At) (p : PlacedExp) (ps : List PlacedExp) → CoreP p → Each CoreP ps → CoreE (sequence_from at p ps)
core-from at p [] is all = is
core-from at p (q ∷ qs) is all =
    core-then at p.exp (sequence_from q.at q qs) is (core-from q.at q qs all.0 all.1)

core-sequence : (at : At) (ps : List PlacedExp) → Each CoreP ps → CoreE (sequence_exp at ps)
core-sequence at [] all = core-unit at
core-sequence at (p ∷ ps) all = core-from at p ps all.0 all.1

core-body : (at : At) (ps : List PlacedExp) → Each CoreP ps → CoreE (body_exp at ps)
core-body at [] all = core-unit at
core-body at (p ∷ ps) all = core-from p.at p ps all.0 all.1

-- ---- runs: what is made of operands with their proofs has its proof

abbrev HeldP : Type 0
HeldP = (p : PlacedExp) × CoreP p

abbrev placed_of : HeldP → PlacedExp
placed_of h = h.0

abbrev joined_held : Name → HeldP → HeldP → HeldP
joined_held op a b = (
  joined_exp op a.0 b.0,
  core-App (exp.Long (long_name op) (at_name op)) (pair_exp a.0.at a.0.exp b.0.exp) a.0.at
      (core-Long (long_name op) (at_name op)) (core-pair a.0.at a.0.exp b.0.exp a.1 b.1),
)

abbrev applied_held : HeldP → HeldP → HeldP
applied_held f x = (applied_exp f.0 x.0, core-App f.0.exp x.0.exp f.0.at f.1 x.1)

abbrev missing_held : At → HeldP
missing_held at = (missing_exp at, core-unit at)

abbrev CorePart : Part PlacedExp → Type 0
CorePart (Part.Atom p) = CoreP p
CorePart (Part.Operator op) = Unit {0}

abbrev held_part : (part : Part PlacedExp) → CorePart part → Part HeldP
held_part (Part.Atom p) is = Part.Atom (p, is)
held_part (Part.Operator op) is = Part.Operator op

held_part-is : (part : Part PlacedExp) (is : CorePart part) → part_value placed_of (held_part part is) ≡ part
held_part-is (Part.Atom p) is = refl
held_part-is (Part.Operator op) is = refl

abbrev held_parts : (parts : List (Part PlacedExp)) → Each CorePart parts → List (Part HeldP)
held_parts [] all = []
held_parts (part ∷ parts) all = held_part part all.0 ∷ held_parts parts all.1

held_parts-are : (parts : List (Part PlacedExp)) (all : Each CorePart parts)
    → map (part_value placed_of) (held_parts parts all) ≡ parts
held_parts-are [] all = refl
held_parts-are (part ∷ parts) all = ap₂ (λ p ps. p ∷ ps) (held_part-is part all.0) (held_parts-are parts all.1)

core-run : (at : At) (parts : List (Part PlacedExp)) → Each CorePart parts
    → CoreP (run_of joined_exp applied_exp (missing_exp at) parts)
core-run at parts all =
    let run = run_of joined_held applied_held (missing_held at) (held_parts parts all) in
    subst CoreP
    (run-value placed_of joined_held joined_exp (λ op a b. refl) applied_held applied_exp (λ a b. refl)
    (missing_held at) (missing_exp at) refl (held_parts parts all)
    ∙ ap (run_of joined_exp applied_exp (missing_exp at)) (held_parts-are parts all))
    run.1

-- ---- functions

core-curried : (at : At) (n count : ℕ) (body : Exp) → CoreE body → CoreE (curried at n count body)
core-curried at n zero body is = is
core-curried at n (suc count) body is =
    let inner = curried at (suc n) count body in
    core-Fn (rule (long_pat at (arg_text n)) inner ∷ []) at
    (core-rule (long_pat at (arg_text n)) inner (core-curried at (suc n) count body is), tt)

core-subjects : (at : At) (n : ℕ) (ps : List PlacedPat) → Each CoreF (subject_fields at n ps)
core-subjects at n [] = tt
core-subjects at n (p ∷ ps) = (
  core-field (label_of at n) (long_exp at (arg_text n)) (core-Long (long_at at (arg_text n)) at),
  core-subjects at (suc n) ps,
)

core-subject : (at : At) (ps : List PlacedPat) → CoreE (subject_exp at ps)
core-subject at [] = core-unit at
core-subject at (p ∷ []) = core-Long (long_at at (arg_text 1)) at
core-subject at (p ∷ q ∷ ps) = core-Record (subject_fields at 1 (p ∷ q ∷ ps)) at (core-subjects at 1 (p ∷ q ∷ ps))

abbrev CoreC : BareClause → Type 0
CoreC clause = CoreE clause.body

core-clauses : (clauses : List BareClause) → Each CoreC clauses → Each CoreR (map clause_rule clauses)
core-clauses [] all = tt
core-clauses (c ∷ cs) all = (core-rule (args_pat c.at c.args) c.body all.0, core-clauses cs all.1)

core-fun : (at : At) (clauses : List BareClause) → Each CoreC clauses → CoreR (fun_rule at clauses)
core-fun at [] all = core-rule (pat.Wild at) (exp.Fn [] at) (core-Fn [] at tt)
core-fun at (c ∷ cs) all =
    let rules = map clause_rule (c ∷ cs) in
    let chosen = case_exp at (subject_exp at c.args) rules in
    core-rule (pat.Long (long_name c.name) (at_name c.name)) (curried at 1 (length c.args) chosen)
    (core-curried at 1 (length c.args) chosen
    (core-case at (subject_exp at c.args) rules (core-subject at c.args) (core-clauses (c ∷ cs) all)))

core-result : (t : Option FullTy) (body : PlacedExp) → CoreP body → CoreE (result_exp t body)
core-result None body is = is
core-result (Some t) body is = core-Typed body.exp (bare_ty t) body.at is

-- ---- bindings of `val`

abbrev CoreB : CountedRule → Type 0
CoreB bind = CoreR bind.rule

core-plain-if : (b : Bool) (bind : CountedRule) (rules : List Rule) → CoreB bind → Each CoreR rules
    → Each CoreR (if b then (bind.rule ∷ rules) else [])
core-plain-if true bind rules is all = (is, all)
core-plain-if false bind rules is all = tt

core-plain : (binds : List CountedRule) → Each CoreB binds → Each CoreR (plain_rules binds)
core-plain [] all = tt
core-plain (bind ∷ binds) all =
    core-plain-if (bind.recs == 0) bind (plain_rules binds) all.0 (core-plain binds all.1)

core-recs-if : (b : Bool) (bind : CountedRule) (binds recs : List CountedRule) → Each CoreB (bind ∷ binds)
    → Each CoreB recs → Each CoreB (if b then recs else (bind ∷ binds))
core-recs-if true bind binds recs all rest = rest
core-recs-if false bind binds recs all rest = all

core-recs : (binds : List CountedRule) → Each CoreB binds → Each CoreB (rec_binds binds)
core-recs [] all = tt
core-recs (bind ∷ binds) all =
    core-recs-if (bind.recs == 0) bind binds (rec_binds binds) all (core-recs binds all.1)

-- ---- each phrase of the core

abbrev DecIs : FullDec → Type 0
DecIs d = Each CoreD (bare_dec d).decs

abbrev ExpIs : FullExp → Type 0
ExpIs e = CoreP (bare_exp e)

abbrev ItemIs : FullExpItem → Type 0
ItemIs item = CorePart (bare_item item)

abbrev ClauseIs : FullClause → Type 0
ClauseIs clause = CoreC (bare_clause clause)

abbrev FieldIs : FullExpField → Type 0
FieldIs f = CoreF (bare_field f)

abbrev FunIs : FullFunBind → Type 0
FunIs bind = CoreR (bare_fun_bind bind)

abbrev RuleIs : FullRule → Type 0
RuleIs r = CoreR (bare_rule r)

abbrev ValIs : FullValBind → Type 0
ValIs bind = CoreB (bare_val_bind bind)

abbrev HeldFullDec : Type 0
HeldFullDec = (x : FullDec) × DecIs x

abbrev HeldFullExp : Type 0
HeldFullExp = (x : FullExp) × ExpIs x

abbrev HeldFullExpItem : Type 0
HeldFullExpItem = (x : FullExpItem) × ItemIs x

abbrev HeldFullClause : Type 0
HeldFullClause = (x : FullClause) × ClauseIs x

abbrev HeldFullExpField : Type 0
HeldFullExpField = (x : FullExpField) × FieldIs x

abbrev HeldFullFunBind : Type 0
HeldFullFunBind = (x : FullFunBind) × FunIs x

abbrev HeldFullRule : Type 0
HeldFullRule = (x : FullRule) × RuleIs x

abbrev HeldFullValBind : Type 0
HeldFullValBind = (x : FullValBind) × ValIs x

exp_parts : (y : FullExp-F HeldFullDec HeldFullExp HeldFullExpItem HeldFullClause HeldFullExpField HeldFullFunBind HeldFullRule HeldFullValBind) → CoreP (exp_level (map-FullExp _ _ _ _ _ _ _ _ _ _ _ _ _ _ _ _ bare_dec bare_exp bare_item bare_clause bare_field bare_fun_bind bare_rule bare_val_bind (map-FullExp _ _ _ _ _ _ _ _ _ _ _ _ _ _ _ _ (λ h. h.0) (λ h. h.0) (λ h. h.0) (λ h. h.0) (λ h. h.0) (λ h. h.0) (λ h. h.0) (λ h. h.0) y)))
unfolding bare_dec bare_exp bare_item bare_clause bare_field bare_fun_bind bare_rule bare_val_bind
exp_parts (FullExp-F.Constant c at) = core-constant c at
exp_parts (FullExp-F.Long long at) = core-Long long.long at
exp_parts (FullExp-F.Record fields at) = core-Record (map bare_field (map (λ h. h.0) fields)) at (each-map CoreF bare_field (map (λ h. h.0) fields) (each-held (λ x. CoreF (bare_field x)) fields))
exp_parts (FullExp-F.Unit at) = core-unit at
exp_parts (FullExp-F.Tuple parts at) =
    core-Record (exp_fields_from at 1 (map bare_exp (map (λ h. h.0) parts))) at (core-tuple at 1 (map bare_exp (map (λ h. h.0) parts)) (each-map CoreP bare_exp (map (λ h. h.0) parts) (each-held (λ x. CoreP (bare_exp x)) parts)))
exp_parts (FullExp-F.Sequence exps at) = core-sequence at (map bare_exp (map (λ h. h.0) exps)) (each-map CoreP bare_exp (map (λ h. h.0) exps) (each-held (λ x. CoreP (bare_exp x)) exps))
exp_parts (FullExp-F.Paren inner at) = inner.1
exp_parts (FullExp-F.List items at) = core-list at (map bare_exp (map (λ h. h.0) items)) (each-map CoreP bare_exp (map (λ h. h.0) items) (each-held (λ x. CoreP (bare_exp x)) items))
exp_parts (FullExp-F.Let decs exps at) =
    core-Let (sequence_dec at (map bare_dec (map (λ h. h.0) decs))) (body_exp at (map bare_exp (map (λ h. h.0) exps))) at
    (ap whole_of (core-dec_Sequence (flat_map decs_of (map bare_dec (map (λ h. h.0) decs))) at (each-flat CoreD decs_of (map bare_dec (map (λ h. h.0) decs)) (each-map (λ d. Each CoreD (decs_of d)) bare_dec (map (λ h. h.0) decs) (each-held (λ x. DecIs x) decs)))))
    (core-body at (map bare_exp (map (λ h. h.0) exps)) (each-map CoreP bare_exp (map (λ h. h.0) exps) (each-held (λ x. CoreP (bare_exp x)) exps)))
exp_parts (FullExp-F.Run parts at) = core-run at (map bare_item (map (λ h. h.0) parts)) (each-map CorePart bare_item (map (λ h. h.0) parts) (each-held (λ x. CorePart (bare_item x)) parts))
exp_parts (FullExp-F.Typed inner t at) = core-Typed (bare_exp inner.0).exp (bare_ty t) at inner.1
exp_parts (FullExp-F.AndAlso a b at) =
    core-if at (bare_exp a.0).exp (bare_exp b.0).exp (long_exp at (codes "false")) a.1 b.1 (core-Long (long_at at (codes "false")) at)
exp_parts (FullExp-F.OrElse a b at) =
    core-if at (bare_exp a.0).exp (long_exp at (codes "true")) (bare_exp b.0).exp a.1 (core-Long (long_at at (codes "true")) at) b.1
exp_parts (FullExp-F.Handle inner rules at) = core-Handle (bare_exp inner.0).exp (map bare_rule (map (λ h. h.0) rules)) at inner.1 (each-map CoreR bare_rule (map (λ h. h.0) rules) (each-held (λ x. CoreR (bare_rule x)) rules))
exp_parts (FullExp-F.Raise inner at) = core-Raise (bare_exp inner.0).exp at inner.1
exp_parts (FullExp-F.If a b c at) = core-if at (bare_exp a.0).exp (bare_exp b.0).exp (bare_exp c.0).exp a.1 b.1 c.1
exp_parts (FullExp-F.While a b at) = core-while at (bare_exp a.0).exp (bare_exp b.0).exp a.1 b.1
exp_parts (FullExp-F.Case subject rules at) = core-case at (bare_exp subject.0).exp (map bare_rule (map (λ h. h.0) rules)) subject.1 (each-map CoreR bare_rule (map (λ h. h.0) rules) (each-held (λ x. CoreR (bare_rule x)) rules))
exp_parts (FullExp-F.Fn rules at) = core-Fn (map bare_rule (map (λ h. h.0) rules)) at (each-map CoreR bare_rule (map (λ h. h.0) rules) (each-held (λ x. CoreR (bare_rule x)) rules))

dec_parts : (y : FullDec-F HeldFullDec HeldFullExp HeldFullExpItem HeldFullClause HeldFullExpField HeldFullFunBind HeldFullRule HeldFullValBind) → Each CoreD (dec_level (map-FullDec _ _ _ _ _ _ _ _ _ _ _ _ _ _ _ _ bare_dec bare_exp bare_item bare_clause bare_field bare_fun_bind bare_rule bare_val_bind (map-FullDec _ _ _ _ _ _ _ _ _ _ _ _ _ _ _ _ (λ h. h.0) (λ h. h.0) (λ h. h.0) (λ h. h.0) (λ h. h.0) (λ h. h.0) (λ h. h.0) (λ h. h.0) y))).decs
unfolding bare_dec bare_exp bare_item bare_clause bare_field bare_fun_bind bare_rule bare_val_bind
dec_parts (FullDec-F.Val tyvars binds at) =
    let all = each-map CoreB bare_val_bind (map (λ h. h.0) binds) (each-held (λ x. CoreB (bare_val_bind x)) binds) in (
      core-dec_Val tyvars (plain_rules (map bare_val_bind (map (λ h. h.0) binds))) (rec_rules (map bare_val_bind (map (λ h. h.0) binds))) at
          (core-plain (map bare_val_bind (map (λ h. h.0) binds)) all)
          (each-map CoreR rule_of (rec_binds (map bare_val_bind (map (λ h. h.0) binds))) (core-recs (map bare_val_bind (map (λ h. h.0) binds)) all)),
      tt,
    )
dec_parts (FullDec-F.Fun tyvars binds at) =
    (core-dec_Val tyvars [] (map bare_fun_bind (map (λ h. h.0) binds)) at tt (each-map CoreR bare_fun_bind (map (λ h. h.0) binds) (each-held (λ x. CoreR (bare_fun_bind x)) binds)), tt)
dec_parts (FullDec-F.Types binds at) = (core-dec_Types (map bare_typ_bind binds) at, tt)
dec_parts (FullDec-F.Datatypes binds at) = (core-dec_Datatypes (map bare_dat_bind binds) at, tt)
dec_parts (FullDec-F.Replication name long at) = (core-dec_Replication name long at, tt)
dec_parts (FullDec-F.Exceptions binds at) = (core-dec_Exceptions (map bare_ex_bind binds) at, tt)
dec_parts (FullDec-F.Local hidden decs at) = (
  core-dec_Local (sequence_dec at (map bare_dec (map (λ h. h.0) hidden))) (sequence_dec at (map bare_dec (map (λ h. h.0) decs))) at
      (core-dec_Sequence (flat_map decs_of (map bare_dec (map (λ h. h.0) hidden))) at (each-flat CoreD decs_of (map bare_dec (map (λ h. h.0) hidden)) (each-map (λ d. Each CoreD (decs_of d)) bare_dec (map (λ h. h.0) hidden) (each-held (λ x. DecIs x) hidden))))
      (core-dec_Sequence (flat_map decs_of (map bare_dec (map (λ h. h.0) decs))) at (each-flat CoreD decs_of (map bare_dec (map (λ h. h.0) decs)) (each-map (λ d. Each CoreD (decs_of d)) bare_dec (map (λ h. h.0) decs) (each-held (λ x. DecIs x) decs)))),
  tt,
)
dec_parts (FullDec-F.Open longs at) = (core-dec_Open longs at, tt)
dec_parts (FullDec-F.Infix strength names at) = tt
dec_parts (FullDec-F.Infixr strength names at) = tt
dec_parts (FullDec-F.Nonfix names at) = tt

item_parts : (y : FullExpItem-F HeldFullDec HeldFullExp HeldFullExpItem HeldFullClause HeldFullExpField HeldFullFunBind HeldFullRule HeldFullValBind) → CorePart (exp_item_level (map-FullExpItem _ _ _ _ _ _ _ _ _ _ _ _ _ _ _ _ bare_dec bare_exp bare_item bare_clause bare_field bare_fun_bind bare_rule bare_val_bind (map-FullExpItem _ _ _ _ _ _ _ _ _ _ _ _ _ _ _ _ (λ h. h.0) (λ h. h.0) (λ h. h.0) (λ h. h.0) (λ h. h.0) (λ h. h.0) (λ h. h.0) (λ h. h.0) y)))
unfolding bare_dec bare_exp bare_item bare_clause bare_field bare_fun_bind bare_rule bare_val_bind
item_parts (FullExpItem-F.Atom e) = e.1
item_parts (FullExpItem-F.Operator name fixity) = tt

clause_parts : (y : FullClause-F HeldFullDec HeldFullExp HeldFullExpItem HeldFullClause HeldFullExpField HeldFullFunBind HeldFullRule HeldFullValBind) → CoreC (clause_level (map-FullClause _ _ _ _ _ _ _ _ _ _ _ _ _ _ _ _ bare_dec bare_exp bare_item bare_clause bare_field bare_fun_bind bare_rule bare_val_bind (map-FullClause _ _ _ _ _ _ _ _ _ _ _ _ _ _ _ _ (λ h. h.0) (λ h. h.0) (λ h. h.0) (λ h. h.0) (λ h. h.0) (λ h. h.0) (λ h. h.0) (λ h. h.0) y)))
unfolding bare_dec bare_exp bare_item bare_clause bare_field bare_fun_bind bare_rule bare_val_bind
clause_parts y = core-result y.ty (bare_exp y.body.0) y.body.1

field_parts : (y : FullExpField-F HeldFullDec HeldFullExp HeldFullExpItem HeldFullClause HeldFullExpField HeldFullFunBind HeldFullRule HeldFullValBind) → CoreF (exp_field_level (map-FullExpField _ _ _ _ _ _ _ _ _ _ _ _ _ _ _ _ bare_dec bare_exp bare_item bare_clause bare_field bare_fun_bind bare_rule bare_val_bind (map-FullExpField _ _ _ _ _ _ _ _ _ _ _ _ _ _ _ _ (λ h. h.0) (λ h. h.0) (λ h. h.0) (λ h. h.0) (λ h. h.0) (λ h. h.0) (λ h. h.0) (λ h. h.0) y)))
unfolding bare_dec bare_exp bare_item bare_clause bare_field bare_fun_bind bare_rule bare_val_bind
field_parts y = core-field y.label (bare_exp y.exp.0).exp y.exp.1

fun_parts : (y : FullFunBind-F HeldFullDec HeldFullExp HeldFullExpItem HeldFullClause HeldFullExpField HeldFullFunBind HeldFullRule HeldFullValBind) → CoreR (fun_bind_level (map-FullFunBind _ _ _ _ _ _ _ _ _ _ _ _ _ _ _ _ bare_dec bare_exp bare_item bare_clause bare_field bare_fun_bind bare_rule bare_val_bind (map-FullFunBind _ _ _ _ _ _ _ _ _ _ _ _ _ _ _ _ (λ h. h.0) (λ h. h.0) (λ h. h.0) (λ h. h.0) (λ h. h.0) (λ h. h.0) (λ h. h.0) (λ h. h.0) y)))
unfolding bare_dec bare_exp bare_item bare_clause bare_field bare_fun_bind bare_rule bare_val_bind
fun_parts y = core-fun y.at (map bare_clause (map (λ h. h.0) y.clauses)) (each-map CoreC bare_clause (map (λ h. h.0) y.clauses) (each-held (λ x. CoreC (bare_clause x)) y.clauses))

rule_parts : (y : FullRule-F HeldFullDec HeldFullExp HeldFullExpItem HeldFullClause HeldFullExpField HeldFullFunBind HeldFullRule HeldFullValBind) → CoreR (rule_level (map-FullRule _ _ _ _ _ _ _ _ _ _ _ _ _ _ _ _ bare_dec bare_exp bare_item bare_clause bare_field bare_fun_bind bare_rule bare_val_bind (map-FullRule _ _ _ _ _ _ _ _ _ _ _ _ _ _ _ _ (λ h. h.0) (λ h. h.0) (λ h. h.0) (λ h. h.0) (λ h. h.0) (λ h. h.0) (λ h. h.0) (λ h. h.0) y)))
unfolding bare_dec bare_exp bare_item bare_clause bare_field bare_fun_bind bare_rule bare_val_bind
rule_parts y = core-rule (bare_pat y.pat).pat (bare_exp y.exp.0).exp y.exp.1

val_parts : (y : FullValBind-F HeldFullDec HeldFullExp HeldFullExpItem HeldFullClause HeldFullExpField HeldFullFunBind HeldFullRule HeldFullValBind) → CoreB (val_bind_level (map-FullValBind _ _ _ _ _ _ _ _ _ _ _ _ _ _ _ _ bare_dec bare_exp bare_item bare_clause bare_field bare_fun_bind bare_rule bare_val_bind (map-FullValBind _ _ _ _ _ _ _ _ _ _ _ _ _ _ _ _ (λ h. h.0) (λ h. h.0) (λ h. h.0) (λ h. h.0) (λ h. h.0) (λ h. h.0) (λ h. h.0) (λ h. h.0) y)))
unfolding bare_dec bare_exp bare_item bare_clause bare_field bare_fun_bind bare_rule bare_val_bind
val_parts y = core-rule (bare_pat y.pat).pat (bare_exp y.exp.0).exp y.exp.1

dec_step : (x : FullDec-F FullDec FullExp FullExpItem FullClause FullExpField FullFunBind FullRule FullValBind) (y : FullDec-F HeldFullDec HeldFullExp HeldFullExpItem HeldFullClause HeldFullExpField HeldFullFunBind HeldFullRule HeldFullValBind) → map-FullDec _ _ _ _ _ _ _ _ _ _ _ _ _ _ _ _ (λ h. h.0) (λ h. h.0) (λ h. h.0) (λ h. h.0) (λ h. h.0) (λ h. h.0) (λ h. h.0) (λ h. h.0) y ≡ x → DecIs (roll-FullDec x)
unfolding bare_dec bare_exp bare_item bare_clause bare_field bare_fun_bind bare_rule bare_val_bind
dec_step x y is = subst (λ (z : FullDec-F FullDec FullExp FullExpItem FullClause FullExpField FullFunBind FullRule FullValBind). DecIs (roll-FullDec z)) is
    (subst (λ (d : PlacedDec). Each CoreD d.decs) (sym (fold-roll-FullDec _ _ _ _ _ _ _ _ dec_level exp_level exp_item_level clause_level exp_field_level fun_bind_level rule_level val_bind_level (map-FullDec _ _ _ _ _ _ _ _ _ _ _ _ _ _ _ _ (λ h. h.0) (λ h. h.0) (λ h. h.0) (λ h. h.0) (λ h. h.0) (λ h. h.0) (λ h. h.0) (λ h. h.0) y))) (dec_parts y))

exp_step : (x : FullExp-F FullDec FullExp FullExpItem FullClause FullExpField FullFunBind FullRule FullValBind) (y : FullExp-F HeldFullDec HeldFullExp HeldFullExpItem HeldFullClause HeldFullExpField HeldFullFunBind HeldFullRule HeldFullValBind) → map-FullExp _ _ _ _ _ _ _ _ _ _ _ _ _ _ _ _ (λ h. h.0) (λ h. h.0) (λ h. h.0) (λ h. h.0) (λ h. h.0) (λ h. h.0) (λ h. h.0) (λ h. h.0) y ≡ x → ExpIs (roll-FullExp x)
unfolding bare_dec bare_exp bare_item bare_clause bare_field bare_fun_bind bare_rule bare_val_bind
exp_step x y is = subst (λ (z : FullExp-F FullDec FullExp FullExpItem FullClause FullExpField FullFunBind FullRule FullValBind). ExpIs (roll-FullExp z)) is
    (subst (λ (p : PlacedExp). CoreP p) (sym (fold-roll-FullExp _ _ _ _ _ _ _ _ dec_level exp_level exp_item_level clause_level exp_field_level fun_bind_level rule_level val_bind_level (map-FullExp _ _ _ _ _ _ _ _ _ _ _ _ _ _ _ _ (λ h. h.0) (λ h. h.0) (λ h. h.0) (λ h. h.0) (λ h. h.0) (λ h. h.0) (λ h. h.0) (λ h. h.0) y))) (exp_parts y))

item_step : (x : FullExpItem-F FullDec FullExp FullExpItem FullClause FullExpField FullFunBind FullRule FullValBind) (y : FullExpItem-F HeldFullDec HeldFullExp HeldFullExpItem HeldFullClause HeldFullExpField HeldFullFunBind HeldFullRule HeldFullValBind) → map-FullExpItem _ _ _ _ _ _ _ _ _ _ _ _ _ _ _ _ (λ h. h.0) (λ h. h.0) (λ h. h.0) (λ h. h.0) (λ h. h.0) (λ h. h.0) (λ h. h.0) (λ h. h.0) y ≡ x → ItemIs (roll-FullExpItem x)
unfolding bare_dec bare_exp bare_item bare_clause bare_field bare_fun_bind bare_rule bare_val_bind
item_step x y is = subst (λ (z : FullExpItem-F FullDec FullExp FullExpItem FullClause FullExpField FullFunBind FullRule FullValBind). ItemIs (roll-FullExpItem z)) is
    (subst (λ (p : Part PlacedExp). CorePart p) (sym (fold-roll-FullExpItem _ _ _ _ _ _ _ _ dec_level exp_level exp_item_level clause_level exp_field_level fun_bind_level rule_level val_bind_level (map-FullExpItem _ _ _ _ _ _ _ _ _ _ _ _ _ _ _ _ (λ h. h.0) (λ h. h.0) (λ h. h.0) (λ h. h.0) (λ h. h.0) (λ h. h.0) (λ h. h.0) (λ h. h.0) y))) (item_parts y))

clause_step : (x : FullClause-F FullDec FullExp FullExpItem FullClause FullExpField FullFunBind FullRule FullValBind) (y : FullClause-F HeldFullDec HeldFullExp HeldFullExpItem HeldFullClause HeldFullExpField HeldFullFunBind HeldFullRule HeldFullValBind) → map-FullClause _ _ _ _ _ _ _ _ _ _ _ _ _ _ _ _ (λ h. h.0) (λ h. h.0) (λ h. h.0) (λ h. h.0) (λ h. h.0) (λ h. h.0) (λ h. h.0) (λ h. h.0) y ≡ x → ClauseIs (roll-FullClause x)
unfolding bare_dec bare_exp bare_item bare_clause bare_field bare_fun_bind bare_rule bare_val_bind
clause_step x y is = subst (λ (z : FullClause-F FullDec FullExp FullExpItem FullClause FullExpField FullFunBind FullRule FullValBind). ClauseIs (roll-FullClause z)) is
    (subst (λ (c : BareClause). CoreC c) (sym (fold-roll-FullClause _ _ _ _ _ _ _ _ dec_level exp_level exp_item_level clause_level exp_field_level fun_bind_level rule_level val_bind_level (map-FullClause _ _ _ _ _ _ _ _ _ _ _ _ _ _ _ _ (λ h. h.0) (λ h. h.0) (λ h. h.0) (λ h. h.0) (λ h. h.0) (λ h. h.0) (λ h. h.0) (λ h. h.0) y))) (clause_parts y))

field_step : (x : FullExpField-F FullDec FullExp FullExpItem FullClause FullExpField FullFunBind FullRule FullValBind) (y : FullExpField-F HeldFullDec HeldFullExp HeldFullExpItem HeldFullClause HeldFullExpField HeldFullFunBind HeldFullRule HeldFullValBind) → map-FullExpField _ _ _ _ _ _ _ _ _ _ _ _ _ _ _ _ (λ h. h.0) (λ h. h.0) (λ h. h.0) (λ h. h.0) (λ h. h.0) (λ h. h.0) (λ h. h.0) (λ h. h.0) y ≡ x → FieldIs (roll-FullExpField x)
unfolding bare_dec bare_exp bare_item bare_clause bare_field bare_fun_bind bare_rule bare_val_bind
field_step x y is = subst (λ (z : FullExpField-F FullDec FullExp FullExpItem FullClause FullExpField FullFunBind FullRule FullValBind). FieldIs (roll-FullExpField z)) is
    (subst (λ (f : ExpField). CoreF f) (sym (fold-roll-FullExpField _ _ _ _ _ _ _ _ dec_level exp_level exp_item_level clause_level exp_field_level fun_bind_level rule_level val_bind_level (map-FullExpField _ _ _ _ _ _ _ _ _ _ _ _ _ _ _ _ (λ h. h.0) (λ h. h.0) (λ h. h.0) (λ h. h.0) (λ h. h.0) (λ h. h.0) (λ h. h.0) (λ h. h.0) y))) (field_parts y))

fun_step : (x : FullFunBind-F FullDec FullExp FullExpItem FullClause FullExpField FullFunBind FullRule FullValBind) (y : FullFunBind-F HeldFullDec HeldFullExp HeldFullExpItem HeldFullClause HeldFullExpField HeldFullFunBind HeldFullRule HeldFullValBind) → map-FullFunBind _ _ _ _ _ _ _ _ _ _ _ _ _ _ _ _ (λ h. h.0) (λ h. h.0) (λ h. h.0) (λ h. h.0) (λ h. h.0) (λ h. h.0) (λ h. h.0) (λ h. h.0) y ≡ x → FunIs (roll-FullFunBind x)
unfolding bare_dec bare_exp bare_item bare_clause bare_field bare_fun_bind bare_rule bare_val_bind
fun_step x y is = subst (λ (z : FullFunBind-F FullDec FullExp FullExpItem FullClause FullExpField FullFunBind FullRule FullValBind). FunIs (roll-FullFunBind z)) is
    (subst (λ (r : Rule). CoreR r) (sym (fold-roll-FullFunBind _ _ _ _ _ _ _ _ dec_level exp_level exp_item_level clause_level exp_field_level fun_bind_level rule_level val_bind_level (map-FullFunBind _ _ _ _ _ _ _ _ _ _ _ _ _ _ _ _ (λ h. h.0) (λ h. h.0) (λ h. h.0) (λ h. h.0) (λ h. h.0) (λ h. h.0) (λ h. h.0) (λ h. h.0) y))) (fun_parts y))

rule_step : (x : FullRule-F FullDec FullExp FullExpItem FullClause FullExpField FullFunBind FullRule FullValBind) (y : FullRule-F HeldFullDec HeldFullExp HeldFullExpItem HeldFullClause HeldFullExpField HeldFullFunBind HeldFullRule HeldFullValBind) → map-FullRule _ _ _ _ _ _ _ _ _ _ _ _ _ _ _ _ (λ h. h.0) (λ h. h.0) (λ h. h.0) (λ h. h.0) (λ h. h.0) (λ h. h.0) (λ h. h.0) (λ h. h.0) y ≡ x → RuleIs (roll-FullRule x)
unfolding bare_dec bare_exp bare_item bare_clause bare_field bare_fun_bind bare_rule bare_val_bind
rule_step x y is = subst (λ (z : FullRule-F FullDec FullExp FullExpItem FullClause FullExpField FullFunBind FullRule FullValBind). RuleIs (roll-FullRule z)) is
    (subst (λ (r : Rule). CoreR r) (sym (fold-roll-FullRule _ _ _ _ _ _ _ _ dec_level exp_level exp_item_level clause_level exp_field_level fun_bind_level rule_level val_bind_level (map-FullRule _ _ _ _ _ _ _ _ _ _ _ _ _ _ _ _ (λ h. h.0) (λ h. h.0) (λ h. h.0) (λ h. h.0) (λ h. h.0) (λ h. h.0) (λ h. h.0) (λ h. h.0) y))) (rule_parts y))

val_step : (x : FullValBind-F FullDec FullExp FullExpItem FullClause FullExpField FullFunBind FullRule FullValBind) (y : FullValBind-F HeldFullDec HeldFullExp HeldFullExpItem HeldFullClause HeldFullExpField HeldFullFunBind HeldFullRule HeldFullValBind) → map-FullValBind _ _ _ _ _ _ _ _ _ _ _ _ _ _ _ _ (λ h. h.0) (λ h. h.0) (λ h. h.0) (λ h. h.0) (λ h. h.0) (λ h. h.0) (λ h. h.0) (λ h. h.0) y ≡ x → ValIs (roll-FullValBind x)
unfolding bare_dec bare_exp bare_item bare_clause bare_field bare_fun_bind bare_rule bare_val_bind
val_step x y is = subst (λ (z : FullValBind-F FullDec FullExp FullExpItem FullClause FullExpField FullFunBind FullRule FullValBind). ValIs (roll-FullValBind z)) is
    (subst (λ (b : CountedRule). CoreB b) (sym (fold-roll-FullValBind _ _ _ _ _ _ _ _ dec_level exp_level exp_item_level clause_level exp_field_level fun_bind_level rule_level val_bind_level (map-FullValBind _ _ _ _ _ _ _ _ _ _ _ _ _ _ _ _ (λ h. h.0) (λ h. h.0) (λ h. h.0) (λ h. h.0) (λ h. h.0) (λ h. h.0) (λ h. h.0) (λ h. h.0) y))) (val_parts y))

dec_is : (d : FullDec) → DecIs d
dec_is = ind-FullDec DecIs ExpIs ItemIs ClauseIs FieldIs FunIs RuleIs ValIs dec_step exp_step item_step clause_step field_step fun_step rule_step val_step

-- ---- structures

abbrev CoreS : PlacedStr → Type 0
CoreS s = core_of_str s.str ≡ true

abbrev StrDecIs : FullStrDec → Type 0
StrDecIs d = Each LetsD (bare_str_dec d).decs

abbrev StrIs : FullStrExp → Type 0
StrIs s = CoreS (bare_str s)

abbrev BindIs : FullStrBind → Type 0
BindIs bind = core_of_str_bind (bare_str_bind bind) ≡ true

abbrev HeldFullStrDec : Type 0
HeldFullStrDec = (x : FullStrDec) × StrDecIs x

abbrev HeldFullStrExp : Type 0
HeldFullStrExp = (x : FullStrExp) × StrIs x

abbrev HeldFullStrBind : Type 0
HeldFullStrBind = (x : FullStrBind) × BindIs x

core-str_Struct : (d : Dec) (at : At) → LetsD d → core_of_str (str.Struct d at) ≡ true
core-str_Struct d at p0 =
    ap core_of_str (sym (str.rolls-Struct d at))
    ∙ fold-roll-StrExp _ _ _ _ _ _ dec_core exp_core str_core exp_field_core rule_core str_bind_core (StrExp-F.Struct d at) ∙ p0

core-str_Named : (long : LongName) (at : At) → core_of_str (str.Named long at) ≡ true
core-str_Named long at =
    ap core_of_str (sym (str.rolls-Named long at))
    ∙ fold-roll-StrExp _ _ _ _ _ _ dec_core exp_core str_core exp_field_core rule_core str_bind_core (StrExp-F.Named long at)

core-str_Transparent : (s : StrExp) (g : SigExp) (at : At) → core_of_str s ≡ true → core_of_str (str.Transparent s g at) ≡ true
core-str_Transparent s g at p0 =
    ap core_of_str (sym (str.rolls-Transparent s g at))
    ∙ fold-roll-StrExp _ _ _ _ _ _ dec_core exp_core str_core exp_field_core rule_core str_bind_core (StrExp-F.Transparent s g at) ∙ p0

core-str_Opaque : (s : StrExp) (g : SigExp) (at : At) → core_of_str s ≡ true → core_of_str (str.Opaque s g at) ≡ true
core-str_Opaque s g at p0 =
    ap core_of_str (sym (str.rolls-Opaque s g at))
    ∙ fold-roll-StrExp _ _ _ _ _ _ dec_core exp_core str_core exp_field_core rule_core str_bind_core (StrExp-F.Opaque s g at) ∙ p0

core-str_Functor : (name : Name) (s : StrExp) (at : At) → core_of_str s ≡ true → core_of_str (str.Functor name s at) ≡ true
core-str_Functor name s at p0 =
    ap core_of_str (sym (str.rolls-Functor name s at))
    ∙ fold-roll-StrExp _ _ _ _ _ _ dec_core exp_core str_core exp_field_core rule_core str_bind_core (StrExp-F.Functor name s at) ∙ p0

core-str_Within : (d : Dec) (s : StrExp) (at : At) → LetsD d → core_of_str s ≡ true → core_of_str (str.Within d s at) ≡ true
core-str_Within d s at p0 p1 =
    ap core_of_str (sym (str.rolls-Within d s at))
    ∙ fold-roll-StrExp _ _ _ _ _ _ dec_core exp_core str_core exp_field_core rule_core str_bind_core (StrExp-F.Within d s at) ∙ both-true (lets_of (core_of_dec d)) (core_of_str s) p0 p1

lets-Structures : (binds : List StrBind) (at : At) → Each (λ b. core_of_str_bind b ≡ true) binds
    → LetsD (dec.Structures binds at)
lets-Structures binds at all =
    ap (λ d. lets_of (core_of_dec d)) (sym (dec.rolls-Structures binds at))
    ∙ ap lets_of (fold-roll-Dec _ _ _ _ _ _ dec_core exp_core str_core exp_field_core rule_core str_bind_core (Dec-F.Structures binds at))
    ∙ each-true core_of_str_bind binds all

lets-Sequence : (decs : List Dec) (at : At) → Each LetsD decs → LetsD (dec.Sequence decs at)
lets-Sequence decs at all = ap lets_of (sequence_is decs at) ∙ letses decs all

lets-Local : (a b : Dec) (at : At) → LetsD a → LetsD b → LetsD (dec.Local a b at)
lets-Local a b at first second =
    ap (λ d. lets_of (core_of_dec d)) (sym (dec.rolls-Local a b at))
    ∙ ap lets_of (fold-roll-Dec _ _ _ _ _ _ dec_core exp_core str_core exp_field_core rule_core str_bind_core (Dec-F.Local a b at))
    ∙ both-true (lets_of (core_of_dec a)) (lets_of (core_of_dec b)) first second

core-sealed-if : (b : Bool) (g : FullSigExp) (body : PlacedStr) → CoreS body
    → core_of_str (if b then str.Opaque body.str (bare_sig g) body.at else str.Transparent body.str (bare_sig g) body.at) ≡ true
core-sealed-if true g body is = core-str_Opaque body.str (bare_sig g) body.at is
core-sealed-if false g body is = core-str_Transparent body.str (bare_sig g) body.at is

core-sealed : (seal : Option FullSeal) (body : PlacedStr) → CoreS body → core_of_str (sealed seal body) ≡ true
core-sealed None body is = is
core-sealed (Some seal) body is = core-sealed-if seal.opaque seal.sig body is

str_parts : (y : FullStrExp-F HeldFullStrDec HeldFullStrExp HeldFullStrBind) → CoreS (str_level (map-FullStrExp _ _ _ _ _ _ bare_str_dec bare_str bare_str_bind (map-FullStrExp _ _ _ _ _ _ (λ h. h.0) (λ h. h.0) (λ h. h.0) y)))
unfolding bare_str_dec bare_str bare_str_bind
str_parts (FullStrExp-F.Struct decs at) = core-str_Struct (sequence_dec at (map bare_str_dec (map (λ h. h.0) decs))) at (lets-Sequence (flat_map decs_of (map bare_str_dec (map (λ h. h.0) decs))) at (each-flat LetsD decs_of (map bare_str_dec (map (λ h. h.0) decs)) (each-map (λ d. Each LetsD (decs_of d)) bare_str_dec (map (λ h. h.0) decs) (each-held (λ x. StrDecIs x) decs))))
str_parts (FullStrExp-F.Named long at) = core-str_Named long at
str_parts (FullStrExp-F.Transparent inner g at) = core-str_Transparent (bare_str inner.0).str (bare_sig g) at inner.1
str_parts (FullStrExp-F.Opaque inner g at) = core-str_Opaque (bare_str inner.0).str (bare_sig g) at inner.1
str_parts (FullStrExp-F.Functor name arg at) = core-str_Functor name (bare_str arg.0).str at arg.1
str_parts (FullStrExp-F.FunctorOfDecs name decs begin at) =
    core-str_Functor name (str.Struct (sequence_dec begin (map bare_str_dec (map (λ h. h.0) decs))) begin) at
    (core-str_Struct (sequence_dec begin (map bare_str_dec (map (λ h. h.0) decs))) begin (lets-Sequence (flat_map decs_of (map bare_str_dec (map (λ h. h.0) decs))) begin (each-flat LetsD decs_of (map bare_str_dec (map (λ h. h.0) decs)) (each-map (λ d. Each LetsD (decs_of d)) bare_str_dec (map (λ h. h.0) decs) (each-held (λ x. StrDecIs x) decs)))))
str_parts (FullStrExp-F.Within decs inner at) =
    core-str_Within (sequence_dec at (map bare_str_dec (map (λ h. h.0) decs))) (bare_str inner.0).str at (lets-Sequence (flat_map decs_of (map bare_str_dec (map (λ h. h.0) decs))) at (each-flat LetsD decs_of (map bare_str_dec (map (λ h. h.0) decs)) (each-map (λ d. Each LetsD (decs_of d)) bare_str_dec (map (λ h. h.0) decs) (each-held (λ x. StrDecIs x) decs)))) inner.1

str_dec_parts : (y : FullStrDec-F HeldFullStrDec HeldFullStrExp HeldFullStrBind) → Each LetsD (str_dec_level (map-FullStrDec _ _ _ _ _ _ bare_str_dec bare_str bare_str_bind (map-FullStrDec _ _ _ _ _ _ (λ h. h.0) (λ h. h.0) (λ h. h.0) y))).decs
unfolding bare_str_dec bare_str bare_str_bind
str_dec_parts (FullStrDec-F.Core each) = core_lets (bare_dec each).decs (dec_is each)
str_dec_parts (FullStrDec-F.Structures binds at) = (
  lets-Structures (map bare_str_bind (map (λ h. h.0) binds)) at
      (each-map (λ b. core_of_str_bind b ≡ true) bare_str_bind (map (λ h. h.0) binds) (each-held (λ x. BindIs x) binds)),
  tt,
)
str_dec_parts (FullStrDec-F.Local hidden decs at) =
    (lets-Local (sequence_dec at (map bare_str_dec (map (λ h. h.0) hidden))) (sequence_dec at (map bare_str_dec (map (λ h. h.0) decs))) at (lets-Sequence (flat_map decs_of (map bare_str_dec (map (λ h. h.0) hidden))) at (each-flat LetsD decs_of (map bare_str_dec (map (λ h. h.0) hidden)) (each-map (λ d. Each LetsD (decs_of d)) bare_str_dec (map (λ h. h.0) hidden) (each-held (λ x. StrDecIs x) hidden)))) (lets-Sequence (flat_map decs_of (map bare_str_dec (map (λ h. h.0) decs))) at (each-flat LetsD decs_of (map bare_str_dec (map (λ h. h.0) decs)) (each-map (λ d. Each LetsD (decs_of d)) bare_str_dec (map (λ h. h.0) decs) (each-held (λ x. StrDecIs x) decs)))), tt)

bind_parts : (y : FullStrBind-F HeldFullStrDec HeldFullStrExp HeldFullStrBind) → core_of_str_bind (str_bind_level (map-FullStrBind _ _ _ _ _ _ bare_str_dec bare_str bare_str_bind (map-FullStrBind _ _ _ _ _ _ (λ h. h.0) (λ h. h.0) (λ h. h.0) y))) ≡ true
unfolding bare_str_dec bare_str bare_str_bind
bind_parts y =
    fold-roll-StrBind _ _ _ _ _ _ dec_core exp_core str_core exp_field_core rule_core str_bind_core
    (record { name = y.name; body = sealed y.seal (bare_str y.body.0) })
    ∙ core-sealed y.seal (bare_str y.body.0) y.body.1

str_dec_step : (x : FullStrDec-F FullStrDec FullStrExp FullStrBind) (y : FullStrDec-F HeldFullStrDec HeldFullStrExp HeldFullStrBind) → map-FullStrDec _ _ _ _ _ _ (λ h. h.0) (λ h. h.0) (λ h. h.0) y ≡ x → StrDecIs (roll-FullStrDec x)
unfolding bare_str_dec bare_str bare_str_bind
str_dec_step x y is = subst (λ (z : FullStrDec-F FullStrDec FullStrExp FullStrBind). StrDecIs (roll-FullStrDec z)) is
    (subst (λ (d : PlacedDec). Each LetsD d.decs) (sym (fold-roll-FullStrDec _ _ _ str_dec_level str_level str_bind_level (map-FullStrDec _ _ _ _ _ _ (λ h. h.0) (λ h. h.0) (λ h. h.0) y))) (str_dec_parts y))

str_step : (x : FullStrExp-F FullStrDec FullStrExp FullStrBind) (y : FullStrExp-F HeldFullStrDec HeldFullStrExp HeldFullStrBind) → map-FullStrExp _ _ _ _ _ _ (λ h. h.0) (λ h. h.0) (λ h. h.0) y ≡ x → StrIs (roll-FullStrExp x)
unfolding bare_str_dec bare_str bare_str_bind
str_step x y is = subst (λ (z : FullStrExp-F FullStrDec FullStrExp FullStrBind). StrIs (roll-FullStrExp z)) is
    (subst (λ (s : PlacedStr). CoreS s) (sym (fold-roll-FullStrExp _ _ _ str_dec_level str_level str_bind_level (map-FullStrExp _ _ _ _ _ _ (λ h. h.0) (λ h. h.0) (λ h. h.0) y))) (str_parts y))

bind_step : (x : FullStrBind-F FullStrDec FullStrExp FullStrBind) (y : FullStrBind-F HeldFullStrDec HeldFullStrExp HeldFullStrBind) → map-FullStrBind _ _ _ _ _ _ (λ h. h.0) (λ h. h.0) (λ h. h.0) y ≡ x → BindIs (roll-FullStrBind x)
unfolding bare_str_dec bare_str bare_str_bind
bind_step x y is = subst (λ (z : FullStrBind-F FullStrDec FullStrExp FullStrBind). BindIs (roll-FullStrBind z)) is
    (subst (λ (b : StrBind). core_of_str_bind b ≡ true) (sym (fold-roll-FullStrBind _ _ _ str_dec_level str_level str_bind_level (map-FullStrBind _ _ _ _ _ _ (λ h. h.0) (λ h. h.0) (λ h. h.0) y))) (bind_parts y))

str_is : (s : FullStrExp) → StrIs s
str_is = ind-FullStrExp StrDecIs StrIs BindIs str_dec_step str_step bind_step

bind_is : (bind : FullStrBind) → BindIs bind
bind_is = ind-FullStrBind StrDecIs StrIs BindIs str_dec_step str_step bind_step

-- ---- units

core-opening : (at : At) (body : StrExp) → core_of_str body ≡ true → core_of_str (opening at body) ≡ true
core-opening at body is =
    let opened = dec.Open (long_at at param_text ∷ []) at in
    core-str_Within (dec.Sequence (opened ∷ []) at) body at
    (lets-Sequence (opened ∷ []) at (ap lets_of (core-dec_Open (long_at at param_text ∷ []) at), tt)) is

core-functor-of : (bind : FullFunctorBind) (p : FullParam) → core_of_fun_bind (functor_of bind p) ≡ true
core-functor-of bind (param.Named name sig) = core-sealed bind.seal (bare_str bind.body) (str_is bind.body)
core-functor-of bind (param.Spec specs at) =
    core-opening (bare_str bind.body).at (sealed bind.seal (bare_str bind.body))
    (core-sealed bind.seal (bare_str bind.body) (str_is bind.body))

every : {A : Type 0} (P : A → Type 0) → ((x : A) → P x) → (xs : List A) → Each P xs
every P is [] = tt
every P is (x ∷ xs) = (is x, every P is xs)

core-topdec : (topdec : FullTopDec) → core_of_topdec (bare_topdec topdec) ≡ true
core-topdec (full.Structures binds at) =
    each-all core_of_str_bind (map bare_str_bind binds)
    (each-map (λ b. core_of_str_bind b ≡ true) bare_str_bind binds (every BindIs bind_is binds))
core-topdec (full.Signatures binds at) = refl
core-topdec (full.Functors binds at) =
    each-all core_of_fun_bind (map bare_functor binds)
    (each-map (λ b. core_of_fun_bind b ≡ true) bare_functor binds
    (every (λ b. core_of_fun_bind (bare_functor b) ≡ true) (λ b. core-functor-of b b.param) binds))
core-topdec (full.Funsigs binds at) = refl

-- no structure is declared in an expression of a unit's bare unit
pub core_of_bare : (unit : FullUnit) → HasCoreLets (bare_of unit)
core_of_bare unit =
    each-all core_of_topdec (map bare_topdec unit.topdecs)
    (each-map (λ t. core_of_topdec t ≡ true) bare_topdec unit.topdecs
    (every (λ t. core_of_topdec (bare_topdec t) ≡ true) core-topdec unit.topdecs))

pub ruleset core_steps = (core_of_bare)
