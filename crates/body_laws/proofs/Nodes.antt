-- Nodes whose parts are good are good: each body in them is a sequence.
use Rattle.std.proofs.Common.{if◌then◌else◌, ◌≡◌, ℕ, ℤ, zero, suc, Bool, true, false, List, [], ◌∷◌, Option, Some, None, ◌==◌, refl, sym, ap, ap₂, ◌∙◌, subst, map, length}
use Rattle.std.specs.Prelude.{codes}
use Rattle.std.specs.List.{list_all}
use Rattle.sml_trees.specs.declared.name.At.{At}
use Rattle.sml_trees.specs.declared.name.Name.{Name}
use Rattle.sml_trees.specs.declared.name.LongName.{LongName}
use Rattle.sml_trees.specs.declared.full_ty.FullTy.{FullTy}
use Rattle.sml_trees.specs.declared.full_pat.Constant.{Constant}
use Rattle.sml_trees.specs.declared.full_pat.Constant.TheVariants as constant
use Rattle.sml_trees.specs.declared.pat.Pat.{Pat}
use Rattle.sml_trees.specs.declared.pat.Pat.TheVariants as pat
use Rattle.sml_trees.specs.declared.ty.Ty.{Ty}
use Rattle.sml_trees.specs.declared.ty.TypBind.{TypBind}
use Rattle.sml_trees.specs.declared.ty.DatBind.{DatBind}
use Rattle.sml_trees.specs.declared.ty.ExBind.{ExBind}
use Rattle.sml_trees.specs.declared.sig_exp.SigExp.{SigExp}
use Rattle.sml_trees.specs.declared.exp.Dec.{Dec}
use Rattle.sml_trees.specs.declared.exp.Dec.TheOpen.{Dec-F, Exp-F, StrExp-F}
use Rattle.sml_trees.specs.declared.exp.Dec.TheFolds.{fold-roll-Dec, fold-roll-Exp, fold-roll-StrExp, fold-roll-ExpField, fold-roll-Rule}
use Rattle.sml_trees.specs.declared.exp.Dec.TheVariants as dec
use Rattle.sml_trees.specs.declared.exp.Exp.{Exp}
use Rattle.sml_trees.specs.declared.exp.Exp.TheVariants as exp
use Rattle.sml_trees.specs.declared.exp.ExpField.{ExpField}
use Rattle.sml_trees.specs.declared.exp.Rule.{Rule}
use Rattle.sml_trees.specs.declared.exp.StrBind.{StrBind}
use Rattle.sml_trees.specs.declared.exp.StrExp.{StrExp}
use Rattle.sml_trees.specs.declared.exp.StrExp.TheVariants as str
use Rattle.bare_forms.specs.declared.placed.PlacedPat.{PlacedPat}
use Rattle.bare_forms.specs.declared.placed.PlacedExp.{PlacedExp}
use Rattle.bare_forms.specs.declared.placed.BareClause.{BareClause}
use Rattle.bare_forms.specs.declared.placed.CountedRule.{CountedRule}
use Rattle.bare_forms.specs.Types.{bare_ty, label_of}
use Rattle.bare_forms.specs.Patterns.{at_name, long_name, long_at}
use Rattle.bare_forms.specs.Runs.{Part, run_of}
use Rattle.bare_forms.specs.RunValues.{part_value}
use Rattle.bare_forms.specs.Nodes.{rule, field, constant_exp, long_pat, long_exp, unit_exp, pair_exp, exp_fields_from, case_exp, if_exp, then_exp, while_call, while_dec, while_exp, cons_exp, rest_exp, list_exp, sequence_from, sequence_exp, body_exp, joined_exp, applied_exp, missing_exp, arg_text, subject_fields, subject_exp, args_pat, clause_rule, curried, fun_rule}
use Rattle.bare_forms.specs.Expressions.{result_exp, plain_rules, rec_binds}
use Rattle.bare_forms.proofs.RunFusion.{run-value}
use Rattle.sml_trees.specs.CoreLets.{all_true}
use Rattle.code_laws.specs.Plain.{plain_of, body_of, exp_plain, exp_field_plain, rule_plain, dec_plain, str_plain, str_bind_plain, plain_exp, plain_exp_field, plain_rule, plain_dec, plain_str, plain_str_bind, plain_sig}
use Rattle.body_laws.proofs.Signatures.{Each, both-true, each-true, plains}

-- ---- nodes

abbrev pub PlainExp : Exp → Type 0
PlainExp e = plain_exp e ≡ true

abbrev pub PlainPlaced : PlacedExp → Type 0
PlainPlaced p = plain_exp p.exp ≡ true

abbrev pub PlainRule : Rule → Type 0
PlainRule r = plain_rule r ≡ true

abbrev pub PlainField : ExpField → Type 0
PlainField f = plain_exp_field f ≡ true

abbrev pub PlainDec : Dec → Type 0
PlainDec d = plain_of (plain_dec d) ≡ true

-- a sequence
abbrev pub PlainBody : Dec → Type 0
PlainBody d = body_of (plain_dec d) ≡ true

pub good-field : (label : Name) (e : Exp) → PlainExp e → PlainField (field label e)
good-field label e is =
    fold-roll-ExpField _ _ _ _ _ _ dec_plain exp_plain str_plain exp_field_plain rule_plain str_bind_plain (record { label = label; exp = e }) ∙ is

pub good-rule : (p : Pat) (e : Exp) → PlainExp e → PlainRule (rule p e)
good-rule p e is =
    fold-roll-Rule _ _ _ _ _ _ dec_plain exp_plain str_plain exp_field_plain rule_plain str_bind_plain (record { pat = p; exp = e }) ∙ is

pub good-Int : (n : ℤ) (at : At) → PlainExp (exp.Int n at)
good-Int n at =
    ap plain_exp (sym (exp.rolls-Int n at))
    ∙ fold-roll-Exp _ _ _ _ _ _ dec_plain exp_plain str_plain exp_field_plain rule_plain str_bind_plain (Exp-F.Int n at)

pub good-Str : (text : List ℕ) (at : At) → PlainExp (exp.Str text at)
good-Str text at =
    ap plain_exp (sym (exp.rolls-Str text at))
    ∙ fold-roll-Exp _ _ _ _ _ _ dec_plain exp_plain str_plain exp_field_plain rule_plain str_bind_plain (Exp-F.Str text at)

pub good-Char : (byte : ℕ) (at : At) → PlainExp (exp.Char byte at)
good-Char byte at =
    ap plain_exp (sym (exp.rolls-Char byte at))
    ∙ fold-roll-Exp _ _ _ _ _ _ dec_plain exp_plain str_plain exp_field_plain rule_plain str_bind_plain (Exp-F.Char byte at)

pub good-Long : (long : LongName) (at : At) → PlainExp (exp.Long long at)
good-Long long at =
    ap plain_exp (sym (exp.rolls-Long long at))
    ∙ fold-roll-Exp _ _ _ _ _ _ dec_plain exp_plain str_plain exp_field_plain rule_plain str_bind_plain (Exp-F.Long long at)

pub good-Record : (fields : List ExpField) (at : At) → Each PlainField fields → PlainExp (exp.Record fields at)
good-Record fields at p0 =
    ap plain_exp (sym (exp.rolls-Record fields at))
    ∙ fold-roll-Exp _ _ _ _ _ _ dec_plain exp_plain str_plain exp_field_plain rule_plain str_bind_plain (Exp-F.Record fields at)
    ∙ each-true plain_exp_field fields p0

pub good-Let : (d : Dec) (e : Exp) (at : At) → PlainBody d → PlainExp e → PlainExp (exp.Let d e at)
good-Let d e at p0 p1 =
    ap plain_exp (sym (exp.rolls-Let d e at))
    ∙ fold-roll-Exp _ _ _ _ _ _ dec_plain exp_plain str_plain exp_field_plain rule_plain str_bind_plain (Exp-F.Let d e at)
    ∙ both-true (body_of (plain_dec d)) (plain_exp e) p0 p1

pub good-App : (f : Exp) (e : Exp) (at : At) → PlainExp f → PlainExp e → PlainExp (exp.App f e at)
good-App f e at p0 p1 =
    ap plain_exp (sym (exp.rolls-App f e at))
    ∙ fold-roll-Exp _ _ _ _ _ _ dec_plain exp_plain str_plain exp_field_plain rule_plain str_bind_plain (Exp-F.App f e at)
    ∙ both-true (plain_exp f) (plain_exp e) p0 p1

pub good-Typed : (e : Exp) (t : Ty) (at : At) → PlainExp e → PlainExp (exp.Typed e t at)
good-Typed e t at p0 =
    ap plain_exp (sym (exp.rolls-Typed e t at))
    ∙ fold-roll-Exp _ _ _ _ _ _ dec_plain exp_plain str_plain exp_field_plain rule_plain str_bind_plain (Exp-F.Typed e t at)
    ∙ p0

pub good-Handle : (e : Exp) (rules : List Rule) (at : At) → PlainExp e → Each PlainRule rules → PlainExp (exp.Handle e rules at)
good-Handle e rules at p0 p1 =
    ap plain_exp (sym (exp.rolls-Handle e rules at))
    ∙ fold-roll-Exp _ _ _ _ _ _ dec_plain exp_plain str_plain exp_field_plain rule_plain str_bind_plain (Exp-F.Handle e rules at)
    ∙ both-true (plain_exp e) (all_true (map plain_rule rules)) p0 (each-true plain_rule rules p1)

pub good-Raise : (e : Exp) (at : At) → PlainExp e → PlainExp (exp.Raise e at)
good-Raise e at p0 =
    ap plain_exp (sym (exp.rolls-Raise e at))
    ∙ fold-roll-Exp _ _ _ _ _ _ dec_plain exp_plain str_plain exp_field_plain rule_plain str_bind_plain (Exp-F.Raise e at)
    ∙ p0

pub good-Fn : (rules : List Rule) (at : At) → Each PlainRule rules → PlainExp (exp.Fn rules at)
good-Fn rules at p0 =
    ap plain_exp (sym (exp.rolls-Fn rules at))
    ∙ fold-roll-Exp _ _ _ _ _ _ dec_plain exp_plain str_plain exp_field_plain rule_plain str_bind_plain (Exp-F.Fn rules at)
    ∙ each-true plain_rule rules p0

pub good-dec_Val : (tyvars : List Name) (rules : List Rule) (recs : List Rule) (at : At) → Each PlainRule rules → Each PlainRule recs → PlainDec (dec.Val tyvars rules recs at)
good-dec_Val tyvars rules recs at p0 p1 =
    ap (λ d. plain_of (plain_dec d)) (sym (dec.rolls-Val tyvars rules recs at))
    ∙ ap plain_of (fold-roll-Dec _ _ _ _ _ _ dec_plain exp_plain str_plain exp_field_plain rule_plain str_bind_plain (Dec-F.Val tyvars rules recs at))
    ∙ both-true (all_true (map plain_rule rules)) (all_true (map plain_rule recs)) (each-true plain_rule rules p0) (each-true plain_rule recs p1)

pub good-dec_Types : (binds : List TypBind) (at : At) → PlainDec (dec.Types binds at)
good-dec_Types binds at =
    ap (λ d. plain_of (plain_dec d)) (sym (dec.rolls-Types binds at))
    ∙ ap plain_of (fold-roll-Dec _ _ _ _ _ _ dec_plain exp_plain str_plain exp_field_plain rule_plain str_bind_plain (Dec-F.Types binds at))

pub good-dec_Datatypes : (binds : List DatBind) (at : At) → PlainDec (dec.Datatypes binds at)
good-dec_Datatypes binds at =
    ap (λ d. plain_of (plain_dec d)) (sym (dec.rolls-Datatypes binds at))
    ∙ ap plain_of (fold-roll-Dec _ _ _ _ _ _ dec_plain exp_plain str_plain exp_field_plain rule_plain str_bind_plain (Dec-F.Datatypes binds at))

pub good-dec_Replication : (name : Name) (long : LongName) (at : At) → PlainDec (dec.Replication name long at)
good-dec_Replication name long at =
    ap (λ d. plain_of (plain_dec d)) (sym (dec.rolls-Replication name long at))
    ∙ ap plain_of (fold-roll-Dec _ _ _ _ _ _ dec_plain exp_plain str_plain exp_field_plain rule_plain str_bind_plain (Dec-F.Replication name long at))

pub good-dec_Exceptions : (binds : List ExBind) (at : At) → PlainDec (dec.Exceptions binds at)
good-dec_Exceptions binds at =
    ap (λ d. plain_of (plain_dec d)) (sym (dec.rolls-Exceptions binds at))
    ∙ ap plain_of (fold-roll-Dec _ _ _ _ _ _ dec_plain exp_plain str_plain exp_field_plain rule_plain str_bind_plain (Dec-F.Exceptions binds at))

pub good-dec_Open : (longs : List LongName) (at : At) → PlainDec (dec.Open longs at)
good-dec_Open longs at =
    ap (λ d. plain_of (plain_dec d)) (sym (dec.rolls-Open longs at))
    ∙ ap plain_of (fold-roll-Dec _ _ _ _ _ _ dec_plain exp_plain str_plain exp_field_plain rule_plain str_bind_plain (Dec-F.Open longs at))

pub good-dec_Local : (a : Dec) (b : Dec) (at : At) → PlainBody a → PlainBody b → PlainDec (dec.Local a b at)
good-dec_Local a b at p0 p1 =
    ap (λ d. plain_of (plain_dec d)) (sym (dec.rolls-Local a b at))
    ∙ ap plain_of (fold-roll-Dec _ _ _ _ _ _ dec_plain exp_plain str_plain exp_field_plain rule_plain str_bind_plain (Dec-F.Local a b at))
    ∙ both-true (body_of (plain_dec a)) (body_of (plain_dec b)) p0 p1

pub good-dec_Structures : (binds : List StrBind) (at : At) → Each (λ b. plain_str_bind b ≡ true) binds → PlainDec (dec.Structures binds at)
good-dec_Structures binds at p0 =
    ap (λ d. plain_of (plain_dec d)) (sym (dec.rolls-Structures binds at))
    ∙ ap plain_of (fold-roll-Dec _ _ _ _ _ _ dec_plain exp_plain str_plain exp_field_plain rule_plain str_bind_plain (Dec-F.Structures binds at))
    ∙ each-true plain_str_bind binds p0

pub good-dec_Sequence : (decs : List Dec) (at : At) → Each PlainDec decs → PlainBody (dec.Sequence decs at)
good-dec_Sequence decs at all =
    ap (λ d. body_of (plain_dec d)) (sym (dec.rolls-Sequence decs at))
    ∙ ap body_of (fold-roll-Dec _ _ _ _ _ _ dec_plain exp_plain str_plain exp_field_plain rule_plain str_bind_plain (Dec-F.Sequence decs at))
    ∙ both-true (list_all plain_of (map plain_dec decs)) true (plains plain_dec decs all) refl

pub good-str_Struct : (d : Dec) (at : At) → PlainBody d → plain_str (str.Struct d at) ≡ true
good-str_Struct d at p0 =
    ap plain_str (sym (str.rolls-Struct d at))
    ∙ fold-roll-StrExp _ _ _ _ _ _ dec_plain exp_plain str_plain exp_field_plain rule_plain str_bind_plain (StrExp-F.Struct d at)
    ∙ p0

pub good-str_Named : (long : LongName) (at : At) → plain_str (str.Named long at) ≡ true
good-str_Named long at =
    ap plain_str (sym (str.rolls-Named long at))
    ∙ fold-roll-StrExp _ _ _ _ _ _ dec_plain exp_plain str_plain exp_field_plain rule_plain str_bind_plain (StrExp-F.Named long at)

pub good-str_Transparent : (s : StrExp) (g : SigExp) (at : At) → plain_str s ≡ true → plain_sig g ≡ true → plain_str (str.Transparent s g at) ≡ true
good-str_Transparent s g at p0 p1 =
    ap plain_str (sym (str.rolls-Transparent s g at))
    ∙ fold-roll-StrExp _ _ _ _ _ _ dec_plain exp_plain str_plain exp_field_plain rule_plain str_bind_plain (StrExp-F.Transparent s g at)
    ∙ both-true (plain_str s) (plain_sig g) p0 p1

pub good-str_Opaque : (s : StrExp) (g : SigExp) (at : At) → plain_str s ≡ true → plain_sig g ≡ true → plain_str (str.Opaque s g at) ≡ true
good-str_Opaque s g at p0 p1 =
    ap plain_str (sym (str.rolls-Opaque s g at))
    ∙ fold-roll-StrExp _ _ _ _ _ _ dec_plain exp_plain str_plain exp_field_plain rule_plain str_bind_plain (StrExp-F.Opaque s g at)
    ∙ both-true (plain_str s) (plain_sig g) p0 p1

pub good-str_Functor : (name : Name) (s : StrExp) (at : At) → plain_str s ≡ true → plain_str (str.Functor name s at) ≡ true
good-str_Functor name s at p0 =
    ap plain_str (sym (str.rolls-Functor name s at))
    ∙ fold-roll-StrExp _ _ _ _ _ _ dec_plain exp_plain str_plain exp_field_plain rule_plain str_bind_plain (StrExp-F.Functor name s at)
    ∙ p0

pub good-str_Within : (d : Dec) (s : StrExp) (at : At) → PlainBody d → plain_str s ≡ true → plain_str (str.Within d s at) ≡ true
good-str_Within d s at p0 p1 =
    ap plain_str (sym (str.rolls-Within d s at))
    ∙ fold-roll-StrExp _ _ _ _ _ _ dec_plain exp_plain str_plain exp_field_plain rule_plain str_bind_plain (StrExp-F.Within d s at)
    ∙ both-true (body_of (plain_dec d)) (plain_str s) p0 p1

-- ---- what derived forms are made of

pub good-constant : (c : Constant) (at : At) → PlainExp (constant_exp c at)
good-constant (constant.Int n) at = good-Int n at
good-constant (constant.Str text) at = good-Str text at
good-constant (constant.Char byte) at = good-Char byte at

pub good-unit : (at : At) → PlainExp (unit_exp at)
good-unit at = good-Record [] at tt

pub good-pair : (at : At) (a b : Exp) → PlainExp a → PlainExp b → PlainExp (pair_exp at a b)
good-pair at a b first second =
    good-Record (field (label_of at 1) a ∷ field (label_of at 2) b ∷ []) at
    (good-field (label_of at 1) a first, (good-field (label_of at 2) b second, tt))

pub good-tuple : (at : At) (n : ℕ) (parts : List PlacedExp) → Each PlainPlaced parts → Each PlainField (exp_fields_from at n parts)
good-tuple at n [] all = tt
good-tuple at n (part ∷ parts) all =
    (good-field (label_of at n) part.exp all.0, good-tuple at (suc n) parts all.1)

pub good-case : (at : At) (subject : Exp) (rules : List Rule) → PlainExp subject → Each PlainRule rules
    → PlainExp (case_exp at subject rules)
good-case at subject rules first second =
    good-App (exp.Fn rules at) subject at (good-Fn rules at second) first

pub good-if : (at : At) (a b c : Exp) → PlainExp a → PlainExp b → PlainExp c → PlainExp (if_exp at a b c)
good-if at a b c first second third =
    good-case at a (rule (long_pat at (codes "true")) b ∷ rule (long_pat at (codes "false")) c ∷ []) first
    (good-rule (long_pat at (codes "true")) b second, (good-rule (long_pat at (codes "false")) c third, tt))

pub good-then : (at : At) (a b : Exp) → PlainExp a → PlainExp b → PlainExp (then_exp at a b)
good-then at a b first second =
    good-case at a (rule (pat.Wild at) b ∷ []) first (good-rule (pat.Wild at) b second, tt)

pub good-call : (at : At) → PlainExp (while_call at)
good-call at =
    good-App (long_exp at (codes "%0")) (unit_exp at) at (good-Long (long_at at (codes "%0")) at) (good-unit at)

pub good-while : (at : At) (a b : Exp) → PlainExp a → PlainExp b → PlainExp (while_exp at a b)
good-while at a b first second =
    let again = then_exp at b (while_call at) in
    let step = if_exp at a again (unit_exp at) in
    let function = exp.Fn (rule (pat.Record [] at) step ∷ []) at in
    let bound = rule (long_pat at (codes "%0")) function in
    good-Let (dec.Sequence (while_dec at a b ∷ []) at) (while_call at) at
    ((good-dec_Sequence (while_dec at a b ∷ []) at (
      good-dec_Val [] [] (bound ∷ []) at tt (
        good-rule (long_pat at (codes "%0")) function
            (good-Fn (rule (pat.Record [] at) step ∷ []) at (
              good-rule (pat.Record [] at) step
                  (good-if at a again (unit_exp at) first (good-then at b (while_call at) second (good-call at)) (good-unit at)),
              tt,
            )),
        tt,
      ),
      tt,
    )))
    (good-call at)

pub good-cons : (at : At) (a b : Exp) → PlainExp a → PlainExp b → PlainExp (cons_exp at a b)
good-cons at a b first second =
    good-App (long_exp at (codes "::")) (pair_exp at a b) at (good-Long (long_at at (codes "::")) at)
    (good-pair at a b first second)

pub good-rest : (ps : List PlacedExp) (rest : Exp) → Each PlainPlaced ps → PlainExp rest → PlainExp (rest_exp cons_exp ps rest)
good-rest [] rest all is = is
good-rest (p ∷ ps) rest all is = good-cons p.at p.exp (rest_exp cons_exp ps rest) all.0 (good-rest ps rest all.1 is)

pub good-list : (at : At) (ps : List PlacedExp) → Each PlainPlaced ps → PlainExp (list_exp at ps)
good-list at [] all = good-Long (long_at at (codes "nil")) at
good-list at (p ∷ ps) all =
    let nil = long_exp at (codes "nil") in
    good-cons at p.exp (rest_exp cons_exp ps nil) all.0 (good-rest ps nil all.1 (good-Long (long_at at (codes "nil")) at))

pub good-from : (at : At) (p : PlacedExp) (ps : List PlacedExp) → PlainPlaced p → Each PlainPlaced ps → PlainExp (sequence_from at p ps)
good-from at p [] is all = is
good-from at p (q ∷ qs) is all =
    good-then at p.exp (sequence_from q.at q qs) is (good-from q.at q qs all.0 all.1)

pub good-sequence : (at : At) (ps : List PlacedExp) → Each PlainPlaced ps → PlainExp (sequence_exp at ps)
good-sequence at [] all = good-unit at
good-sequence at (p ∷ ps) all = good-from at p ps all.0 all.1

pub good-body : (at : At) (ps : List PlacedExp) → Each PlainPlaced ps → PlainExp (body_exp at ps)
good-body at [] all = good-unit at
good-body at (p ∷ ps) all = good-from p.at p ps all.0 all.1

-- ---- runs: what is made of operands with their proofs has its proof

abbrev HeldP : Type 0
HeldP = (p : PlacedExp) × PlainPlaced p

abbrev placed_of : HeldP → PlacedExp
placed_of h = h.0

abbrev joined_held : Name → HeldP → HeldP → HeldP
joined_held op a b = (
  joined_exp op a.0 b.0,
  good-App (exp.Long (long_name op) (at_name op)) (pair_exp a.0.at a.0.exp b.0.exp) a.0.at
      (good-Long (long_name op) (at_name op)) (good-pair a.0.at a.0.exp b.0.exp a.1 b.1),
)

abbrev applied_held : HeldP → HeldP → HeldP
applied_held f x = (applied_exp f.0 x.0, good-App f.0.exp x.0.exp f.0.at f.1 x.1)

abbrev missing_held : At → HeldP
missing_held at = (missing_exp at, good-unit at)

abbrev pub PlainPart : Part PlacedExp → Type 0
PlainPart (Part.Atom p) = PlainPlaced p
PlainPart (Part.Operator op) = Unit {0}

abbrev held_part : (part : Part PlacedExp) → PlainPart part → Part HeldP
held_part (Part.Atom p) is = Part.Atom (p, is)
held_part (Part.Operator op) is = Part.Operator op

held_part-is : (part : Part PlacedExp) (is : PlainPart part) → part_value placed_of (held_part part is) ≡ part
held_part-is (Part.Atom p) is = refl
held_part-is (Part.Operator op) is = refl

abbrev held_parts : (parts : List (Part PlacedExp)) → Each PlainPart parts → List (Part HeldP)
held_parts [] all = []
held_parts (part ∷ parts) all = held_part part all.0 ∷ held_parts parts all.1

held_parts-are : (parts : List (Part PlacedExp)) (all : Each PlainPart parts)
    → map (part_value placed_of) (held_parts parts all) ≡ parts
held_parts-are [] all = refl
held_parts-are (part ∷ parts) all = ap₂ (λ p ps. p ∷ ps) (held_part-is part all.0) (held_parts-are parts all.1)

pub good-run : (at : At) (parts : List (Part PlacedExp)) → Each PlainPart parts
    → PlainPlaced (run_of joined_exp applied_exp (missing_exp at) parts)
good-run at parts all =
    let run = run_of joined_held applied_held (missing_held at) (held_parts parts all) in
    subst PlainPlaced
    (run-value placed_of joined_held joined_exp (λ op a b. refl) applied_held applied_exp (λ a b. refl)
    (missing_held at) (missing_exp at) refl (held_parts parts all)
    ∙ ap (run_of joined_exp applied_exp (missing_exp at)) (held_parts-are parts all))
    run.1

-- ---- functions

pub good-curried : (at : At) (n count : ℕ) (body : Exp) → PlainExp body → PlainExp (curried at n count body)
good-curried at n zero body is = is
good-curried at n (suc count) body is =
    let inner = curried at (suc n) count body in
    good-Fn (rule (long_pat at (arg_text n)) inner ∷ []) at
    (good-rule (long_pat at (arg_text n)) inner (good-curried at (suc n) count body is), tt)

pub good-subjects : (at : At) (n : ℕ) (ps : List PlacedPat) → Each PlainField (subject_fields at n ps)
good-subjects at n [] = tt
good-subjects at n (p ∷ ps) = (
  good-field (label_of at n) (long_exp at (arg_text n)) (good-Long (long_at at (arg_text n)) at),
  good-subjects at (suc n) ps,
)

pub good-subject : (at : At) (ps : List PlacedPat) → PlainExp (subject_exp at ps)
good-subject at [] = good-unit at
good-subject at (p ∷ []) = good-Long (long_at at (arg_text 1)) at
good-subject at (p ∷ q ∷ ps) = good-Record (subject_fields at 1 (p ∷ q ∷ ps)) at (good-subjects at 1 (p ∷ q ∷ ps))

abbrev pub PlainClause : BareClause → Type 0
PlainClause clause = PlainExp clause.body

pub good-clauses : (clauses : List BareClause) → Each PlainClause clauses → Each PlainRule (map clause_rule clauses)
good-clauses [] all = tt
good-clauses (c ∷ cs) all = (good-rule (args_pat c.at c.args) c.body all.0, good-clauses cs all.1)

pub good-fun : (at : At) (clauses : List BareClause) → Each PlainClause clauses → PlainRule (fun_rule at clauses)
good-fun at [] all = good-rule (pat.Wild at) (exp.Fn [] at) (good-Fn [] at tt)
good-fun at (c ∷ cs) all =
    let rules = map clause_rule (c ∷ cs) in
    let chosen = case_exp at (subject_exp at c.args) rules in
    good-rule (pat.Long (long_name c.name) (at_name c.name)) (curried at 1 (length c.args) chosen)
    (good-curried at 1 (length c.args) chosen
    (good-case at (subject_exp at c.args) rules (good-subject at c.args) (good-clauses (c ∷ cs) all)))

pub good-result : (t : Option FullTy) (body : PlacedExp) → PlainPlaced body → PlainExp (result_exp t body)
good-result None body is = is
good-result (Some t) body is = good-Typed body.exp (bare_ty t) body.at is

-- ---- bindings of `val`

abbrev pub PlainCounted : CountedRule → Type 0
PlainCounted bind = PlainRule bind.rule

good-firsts-if : (b : Bool) (bind : CountedRule) (rules : List Rule) → PlainCounted bind → Each PlainRule rules
    → Each PlainRule (if b then (bind.rule ∷ rules) else [])
good-firsts-if true bind rules is all = (is, all)
good-firsts-if false bind rules is all = tt

pub good-firsts : (binds : List CountedRule) → Each PlainCounted binds → Each PlainRule (plain_rules binds)
good-firsts [] all = tt
good-firsts (bind ∷ binds) all =
    good-firsts-if (bind.recs == 0) bind (plain_rules binds) all.0 (good-firsts binds all.1)

good-recs-if : (b : Bool) (bind : CountedRule) (binds recs : List CountedRule) → Each PlainCounted (bind ∷ binds)
    → Each PlainCounted recs → Each PlainCounted (if b then recs else (bind ∷ binds))
good-recs-if true bind binds recs all rest = rest
good-recs-if false bind binds recs all rest = all

pub good-recs : (binds : List CountedRule) → Each PlainCounted binds → Each PlainCounted (rec_binds binds)
good-recs [] all = tt
good-recs (bind ∷ binds) all =
    good-recs-if (bind.recs == 0) bind binds (rec_binds binds) all (good-recs binds all.1)
