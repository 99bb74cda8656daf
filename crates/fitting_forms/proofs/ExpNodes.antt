-- Expressions, declarations and structures whose parts have constants that fit have them too.
use Rattle.std.proofs.Common.{if◌then◌else◌, ◌≡◌, ℕ, ℤ, zero, suc, Bool, true, false, List, [], ◌∷◌, Option, Some, None, ◌==◌, refl, sym, ap, ap₂, ◌∙◌, subst, map, length}
use Rattle.std.specs.Prelude.{codes}
use Rattle.sml_trees.specs.declared.name.At.{At}
use Rattle.sml_trees.specs.declared.name.Name.{Name}
use Rattle.sml_trees.specs.declared.name.LongName.{LongName}
use Rattle.sml_trees.specs.declared.full_ty.FullTy.{FullTy}
use Rattle.sml_trees.specs.declared.full_pat.Constant.{Constant}
use Rattle.sml_trees.specs.declared.full_pat.Constant.TheVariants as constant
use Rattle.sml_trees.specs.declared.pat.Pat.{Pat}
use Rattle.sml_trees.specs.declared.pat.Pat.TheVariants as pat
use Rattle.sml_trees.specs.declared.ty.Ty.{Ty}
use Rattle.sml_trees.specs.declared.ty.TypBind.{TypBind}
use Rattle.sml_trees.specs.declared.ty.DatBind.{DatBind}
use Rattle.sml_trees.specs.declared.ty.ExBind.{ExBind}
use Rattle.sml_trees.specs.declared.sig_exp.SigExp.{SigExp}
use Rattle.sml_trees.specs.declared.exp.Dec.{Dec}
use Rattle.sml_trees.specs.declared.exp.Dec.TheOpen.{Dec-F, Exp-F, StrExp-F}
use Rattle.sml_trees.specs.declared.exp.Dec.TheFolds.{fold-roll-Dec, fold-roll-Exp, fold-roll-StrExp, fold-roll-ExpField, fold-roll-Rule}
use Rattle.sml_trees.specs.declared.exp.Dec.TheVariants as dec
use Rattle.sml_trees.specs.declared.exp.Exp.{Exp}
use Rattle.sml_trees.specs.declared.exp.Exp.TheVariants as exp
use Rattle.sml_trees.specs.declared.exp.ExpField.{ExpField}
use Rattle.sml_trees.specs.declared.exp.Rule.{Rule}
use Rattle.sml_trees.specs.declared.exp.StrBind.{StrBind}
use Rattle.sml_trees.specs.declared.exp.StrExp.{StrExp}
use Rattle.sml_trees.specs.declared.exp.StrExp.TheVariants as str
use Rattle.bare_forms.specs.declared.placed.PlacedPat.{PlacedPat}
use Rattle.bare_forms.specs.declared.placed.PlacedExp.{PlacedExp}
use Rattle.bare_forms.specs.declared.placed.BareClause.{BareClause}
use Rattle.bare_forms.specs.declared.placed.CountedRule.{CountedRule}
use Rattle.bare_forms.specs.Types.{bare_ty, label_of}
use Rattle.bare_forms.specs.Patterns.{at_name, long_name, long_at, pat_fields_from}
use Rattle.bare_forms.specs.Runs.{Part, run_of}
use Rattle.bare_forms.specs.RunValues.{part_value}
use Rattle.bare_forms.specs.Nodes.{rule, field, constant_exp, long_pat, long_exp, unit_exp, pair_exp, exp_fields_from, case_exp, if_exp, then_exp, while_call, while_dec, while_exp, cons_exp, rest_exp, list_exp, sequence_from, sequence_exp, body_exp, joined_exp, applied_exp, missing_exp, arg_text, subject_fields, subject_exp, args_pat, clause_rule, curried, fun_rule}
use Rattle.bare_forms.specs.Expressions.{result_exp, plain_rules, rec_binds}
use Rattle.bare_forms.proofs.RunFusion.{run-value}
use Rattle.sml_trees.specs.CoreLets.{all_true}
use Rattle.code_laws.specs.Constants.{fits_int, fits_byte, fit_pat, exp_fit, exp_field_fit, rule_fit, dec_fit, str_fit, str_bind_fit, fit_exp, fit_exp_field, fit_rule, fit_dec, fit_str, fit_str_bind}
use Rattle.body_laws.proofs.Signatures.{Each, both-true, each-true}
use Rattle.fitting_forms.proofs.PatForms.{FitPat, FitConstant}
use Rattle.fitting_forms.proofs.PatForms as pats

-- ---- nodes

abbrev pub FitExp : Exp → Type 0
FitExp e = fit_exp e ≡ true

abbrev pub FitPlaced : PlacedExp → Type 0
FitPlaced p = fit_exp p.exp ≡ true

abbrev pub FitRule : Rule → Type 0
FitRule r = fit_rule r ≡ true

abbrev pub FitField : ExpField → Type 0
FitField f = fit_exp_field f ≡ true

abbrev pub FitDec : Dec → Type 0
FitDec d = fit_dec d ≡ true

pub good-field : (label : Name) (e : Exp) → FitExp e → FitField (field label e)
good-field label e is =
    fold-roll-ExpField _ _ _ _ _ _ dec_fit exp_fit str_fit exp_field_fit rule_fit str_bind_fit (record { label = label; exp = e }) ∙ is

pub good-rule : (p : Pat) (e : Exp) → FitPat p → FitExp e → FitRule (rule p e)
good-rule p e so is =
    fold-roll-Rule _ _ _ _ _ _ dec_fit exp_fit str_fit exp_field_fit rule_fit str_bind_fit (record { pat = p; exp = e })
    ∙ both-true (fit_pat p) (fit_exp e) so is

pub good-Int : (n : ℤ) (at : At) → fits_int n ≡ true → FitExp (exp.Int n at)
good-Int n at is =
    ap fit_exp (sym (exp.rolls-Int n at))
    ∙ fold-roll-Exp _ _ _ _ _ _ dec_fit exp_fit str_fit exp_field_fit rule_fit str_bind_fit (Exp-F.Int n at) ∙ is

pub good-Str : (text : List ℕ) (at : At) → FitExp (exp.Str text at)
good-Str text at =
    ap fit_exp (sym (exp.rolls-Str text at))
    ∙ fold-roll-Exp _ _ _ _ _ _ dec_fit exp_fit str_fit exp_field_fit rule_fit str_bind_fit (Exp-F.Str text at)

pub good-Char : (byte : ℕ) (at : At) → fits_byte byte ≡ true → FitExp (exp.Char byte at)
good-Char byte at is =
    ap fit_exp (sym (exp.rolls-Char byte at))
    ∙ fold-roll-Exp _ _ _ _ _ _ dec_fit exp_fit str_fit exp_field_fit rule_fit str_bind_fit (Exp-F.Char byte at) ∙ is

pub good-Long : (long : LongName) (at : At) → FitExp (exp.Long long at)
good-Long long at =
    ap fit_exp (sym (exp.rolls-Long long at))
    ∙ fold-roll-Exp _ _ _ _ _ _ dec_fit exp_fit str_fit exp_field_fit rule_fit str_bind_fit (Exp-F.Long long at)

pub good-Record : (fields : List ExpField) (at : At) → Each FitField fields → FitExp (exp.Record fields at)
good-Record fields at p0 =
    ap fit_exp (sym (exp.rolls-Record fields at))
    ∙ fold-roll-Exp _ _ _ _ _ _ dec_fit exp_fit str_fit exp_field_fit rule_fit str_bind_fit (Exp-F.Record fields at)
    ∙ each-true fit_exp_field fields p0

pub good-Let : (d : Dec) (e : Exp) (at : At) → FitDec d → FitExp e → FitExp (exp.Let d e at)
good-Let d e at p0 p1 =
    ap fit_exp (sym (exp.rolls-Let d e at))
    ∙ fold-roll-Exp _ _ _ _ _ _ dec_fit exp_fit str_fit exp_field_fit rule_fit str_bind_fit (Exp-F.Let d e at)
    ∙ both-true (fit_dec d) (fit_exp e) p0 p1

pub good-App : (f : Exp) (e : Exp) (at : At) → FitExp f → FitExp e → FitExp (exp.App f e at)
good-App f e at p0 p1 =
    ap fit_exp (sym (exp.rolls-App f e at))
    ∙ fold-roll-Exp _ _ _ _ _ _ dec_fit exp_fit str_fit exp_field_fit rule_fit str_bind_fit (Exp-F.App f e at)
    ∙ both-true (fit_exp f) (fit_exp e) p0 p1

pub good-Typed : (e : Exp) (t : Ty) (at : At) → FitExp e → FitExp (exp.Typed e t at)
good-Typed e t at p0 =
    ap fit_exp (sym (exp.rolls-Typed e t at))
    ∙ fold-roll-Exp _ _ _ _ _ _ dec_fit exp_fit str_fit exp_field_fit rule_fit str_bind_fit (Exp-F.Typed e t at)
    ∙ p0

pub good-Handle : (e : Exp) (rules : List Rule) (at : At) → FitExp e → Each FitRule rules → FitExp (exp.Handle e rules at)
good-Handle e rules at p0 p1 =
    ap fit_exp (sym (exp.rolls-Handle e rules at))
    ∙ fold-roll-Exp _ _ _ _ _ _ dec_fit exp_fit str_fit exp_field_fit rule_fit str_bind_fit (Exp-F.Handle e rules at)
    ∙ both-true (fit_exp e) (all_true (map fit_rule rules)) p0 (each-true fit_rule rules p1)

pub good-Raise : (e : Exp) (at : At) → FitExp e → FitExp (exp.Raise e at)
good-Raise e at p0 =
    ap fit_exp (sym (exp.rolls-Raise e at))
    ∙ fold-roll-Exp _ _ _ _ _ _ dec_fit exp_fit str_fit exp_field_fit rule_fit str_bind_fit (Exp-F.Raise e at)
    ∙ p0

pub good-Fn : (rules : List Rule) (at : At) → Each FitRule rules → FitExp (exp.Fn rules at)
good-Fn rules at p0 =
    ap fit_exp (sym (exp.rolls-Fn rules at))
    ∙ fold-roll-Exp _ _ _ _ _ _ dec_fit exp_fit str_fit exp_field_fit rule_fit str_bind_fit (Exp-F.Fn rules at)
    ∙ each-true fit_rule rules p0

pub good-dec_Val : (tyvars : List Name) (rules : List Rule) (recs : List Rule) (at : At) → Each FitRule rules → Each FitRule recs → FitDec (dec.Val tyvars rules recs at)
good-dec_Val tyvars rules recs at p0 p1 =
    ap fit_dec (sym (dec.rolls-Val tyvars rules recs at))
    ∙ (fold-roll-Dec _ _ _ _ _ _ dec_fit exp_fit str_fit exp_field_fit rule_fit str_bind_fit (Dec-F.Val tyvars rules recs at))
    ∙ both-true (all_true (map fit_rule rules)) (all_true (map fit_rule recs)) (each-true fit_rule rules p0) (each-true fit_rule recs p1)

pub good-dec_Types : (binds : List TypBind) (at : At) → FitDec (dec.Types binds at)
good-dec_Types binds at =
    ap fit_dec (sym (dec.rolls-Types binds at))
    ∙ (fold-roll-Dec _ _ _ _ _ _ dec_fit exp_fit str_fit exp_field_fit rule_fit str_bind_fit (Dec-F.Types binds at))

pub good-dec_Datatypes : (binds : List DatBind) (at : At) → FitDec (dec.Datatypes binds at)
good-dec_Datatypes binds at =
    ap fit_dec (sym (dec.rolls-Datatypes binds at))
    ∙ (fold-roll-Dec _ _ _ _ _ _ dec_fit exp_fit str_fit exp_field_fit rule_fit str_bind_fit (Dec-F.Datatypes binds at))

pub good-dec_Replication : (name : Name) (long : LongName) (at : At) → FitDec (dec.Replication name long at)
good-dec_Replication name long at =
    ap fit_dec (sym (dec.rolls-Replication name long at))
    ∙ (fold-roll-Dec _ _ _ _ _ _ dec_fit exp_fit str_fit exp_field_fit rule_fit str_bind_fit (Dec-F.Replication name long at))

pub good-dec_Exceptions : (binds : List ExBind) (at : At) → FitDec (dec.Exceptions binds at)
good-dec_Exceptions binds at =
    ap fit_dec (sym (dec.rolls-Exceptions binds at))
    ∙ (fold-roll-Dec _ _ _ _ _ _ dec_fit exp_fit str_fit exp_field_fit rule_fit str_bind_fit (Dec-F.Exceptions binds at))

pub good-dec_Open : (longs : List LongName) (at : At) → FitDec (dec.Open longs at)
good-dec_Open longs at =
    ap fit_dec (sym (dec.rolls-Open longs at))
    ∙ (fold-roll-Dec _ _ _ _ _ _ dec_fit exp_fit str_fit exp_field_fit rule_fit str_bind_fit (Dec-F.Open longs at))

pub good-dec_Local : (a : Dec) (b : Dec) (at : At) → FitDec a → FitDec b → FitDec (dec.Local a b at)
good-dec_Local a b at p0 p1 =
    ap fit_dec (sym (dec.rolls-Local a b at))
    ∙ (fold-roll-Dec _ _ _ _ _ _ dec_fit exp_fit str_fit exp_field_fit rule_fit str_bind_fit (Dec-F.Local a b at))
    ∙ both-true (fit_dec a) (fit_dec b) p0 p1

pub good-dec_Structures : (binds : List StrBind) (at : At) → Each (λ b. fit_str_bind b ≡ true) binds → FitDec (dec.Structures binds at)
good-dec_Structures binds at p0 =
    ap fit_dec (sym (dec.rolls-Structures binds at))
    ∙ (fold-roll-Dec _ _ _ _ _ _ dec_fit exp_fit str_fit exp_field_fit rule_fit str_bind_fit (Dec-F.Structures binds at))
    ∙ each-true fit_str_bind binds p0

pub good-dec_Sequence : (decs : List Dec) (at : At) → Each FitDec decs → FitDec (dec.Sequence decs at)
good-dec_Sequence decs at all =
    ap fit_dec (sym (dec.rolls-Sequence decs at))
    ∙ (fold-roll-Dec _ _ _ _ _ _ dec_fit exp_fit str_fit exp_field_fit rule_fit str_bind_fit (Dec-F.Sequence decs at))
    ∙ each-true fit_dec decs all

pub good-str_Struct : (d : Dec) (at : At) → FitDec d → fit_str (str.Struct d at) ≡ true
good-str_Struct d at p0 =
    ap fit_str (sym (str.rolls-Struct d at))
    ∙ fold-roll-StrExp _ _ _ _ _ _ dec_fit exp_fit str_fit exp_field_fit rule_fit str_bind_fit (StrExp-F.Struct d at)
    ∙ p0

pub good-str_Named : (long : LongName) (at : At) → fit_str (str.Named long at) ≡ true
good-str_Named long at =
    ap fit_str (sym (str.rolls-Named long at))
    ∙ fold-roll-StrExp _ _ _ _ _ _ dec_fit exp_fit str_fit exp_field_fit rule_fit str_bind_fit (StrExp-F.Named long at)

pub good-str_Transparent : (s : StrExp) (g : SigExp) (at : At) → fit_str s ≡ true → fit_str (str.Transparent s g at) ≡ true
good-str_Transparent s g at p0 =
    ap fit_str (sym (str.rolls-Transparent s g at))
    ∙ fold-roll-StrExp _ _ _ _ _ _ dec_fit exp_fit str_fit exp_field_fit rule_fit str_bind_fit (StrExp-F.Transparent s g at)
    ∙ p0

pub good-str_Opaque : (s : StrExp) (g : SigExp) (at : At) → fit_str s ≡ true → fit_str (str.Opaque s g at) ≡ true
good-str_Opaque s g at p0 =
    ap fit_str (sym (str.rolls-Opaque s g at))
    ∙ fold-roll-StrExp _ _ _ _ _ _ dec_fit exp_fit str_fit exp_field_fit rule_fit str_bind_fit (StrExp-F.Opaque s g at)
    ∙ p0

pub good-str_Functor : (name : Name) (s : StrExp) (at : At) → fit_str s ≡ true → fit_str (str.Functor name s at) ≡ true
good-str_Functor name s at p0 =
    ap fit_str (sym (str.rolls-Functor name s at))
    ∙ fold-roll-StrExp _ _ _ _ _ _ dec_fit exp_fit str_fit exp_field_fit rule_fit str_bind_fit (StrExp-F.Functor name s at)
    ∙ p0

pub good-str_Within : (d : Dec) (s : StrExp) (at : At) → FitDec d → fit_str s ≡ true → fit_str (str.Within d s at) ≡ true
good-str_Within d s at p0 p1 =
    ap fit_str (sym (str.rolls-Within d s at))
    ∙ fold-roll-StrExp _ _ _ _ _ _ dec_fit exp_fit str_fit exp_field_fit rule_fit str_bind_fit (StrExp-F.Within d s at)
    ∙ both-true (fit_dec d) (fit_str s) p0 p1

-- ---- what derived forms are made of

pub good-constant : (c : Constant) (at : At) → FitConstant c → FitExp (constant_exp c at)
good-constant (constant.Int n) at is = good-Int n at is
good-constant (constant.Str text) at is = good-Str text at
good-constant (constant.Char byte) at is = good-Char byte at is

-- a name as a pattern
name_fits : (at : At) (text : List ℕ) → FitPat (long_pat at text)
name_fits at text = pats.good-Long (long_at at text) at

pub good-unit : (at : At) → FitExp (unit_exp at)
good-unit at = good-Record [] at tt

pub good-pair : (at : At) (a b : Exp) → FitExp a → FitExp b → FitExp (pair_exp at a b)
good-pair at a b first second =
    good-Record (field (label_of at 1) a ∷ field (label_of at 2) b ∷ []) at
    (good-field (label_of at 1) a first, (good-field (label_of at 2) b second, tt))

pub good-tuple : (at : At) (n : ℕ) (parts : List PlacedExp) → Each FitPlaced parts → Each FitField (exp_fields_from at n parts)
good-tuple at n [] all = tt
good-tuple at n (part ∷ parts) all =
    (good-field (label_of at n) part.exp all.0, good-tuple at (suc n) parts all.1)

pub good-case : (at : At) (subject : Exp) (rules : List Rule) → FitExp subject → Each FitRule rules
    → FitExp (case_exp at subject rules)
good-case at subject rules first second =
    good-App (exp.Fn rules at) subject at (good-Fn rules at second) first

pub good-if : (at : At) (a b c : Exp) → FitExp a → FitExp b → FitExp c → FitExp (if_exp at a b c)
good-if at a b c first second third =
    good-case at a (rule (long_pat at (codes "true")) b ∷ rule (long_pat at (codes "false")) c ∷ []) first (
      good-rule (long_pat at (codes "true")) b (name_fits at (codes "true")) second,
      (good-rule (long_pat at (codes "false")) c (name_fits at (codes "false")) third, tt),
    )

pub good-then : (at : At) (a b : Exp) → FitExp a → FitExp b → FitExp (then_exp at a b)
good-then at a b first second =
    good-case at a (rule (pat.Wild at) b ∷ []) first (good-rule (pat.Wild at) b (pats.good-Wild at) second, tt)

pub good-call : (at : At) → FitExp (while_call at)
good-call at =
    good-App (long_exp at (codes "%0")) (unit_exp at) at (good-Long (long_at at (codes "%0")) at) (good-unit at)

pub good-while : (at : At) (a b : Exp) → FitExp a → FitExp b → FitExp (while_exp at a b)
good-while at a b first second =
    let again = then_exp at b (while_call at) in
    let step = if_exp at a again (unit_exp at) in
    let function = exp.Fn (rule (pat.Record [] at) step ∷ []) at in
    let bound = rule (long_pat at (codes "%0")) function in
    good-Let (dec.Sequence (while_dec at a b ∷ []) at) (while_call at) at
    ((good-dec_Sequence (while_dec at a b ∷ []) at (
      good-dec_Val [] [] (bound ∷ []) at tt (
        good-rule (long_pat at (codes "%0")) function (name_fits at (codes "%0"))
            (good-Fn (rule (pat.Record [] at) step ∷ []) at (
              good-rule (pat.Record [] at) step (pats.good-Record [] at tt)
                  (good-if at a again (unit_exp at) first (good-then at b (while_call at) second (good-call at)) (good-unit at)),
              tt,
            )),
        tt,
      ),
      tt,
    )))
    (good-call at)

pub good-cons : (at : At) (a b : Exp) → FitExp a → FitExp b → FitExp (cons_exp at a b)
good-cons at a b first second =
    good-App (long_exp at (codes "::")) (pair_exp at a b) at (good-Long (long_at at (codes "::")) at)
    (good-pair at a b first second)

pub good-rest : (ps : List PlacedExp) (rest : Exp) → Each FitPlaced ps → FitExp rest → FitExp (rest_exp cons_exp ps rest)
good-rest [] rest all is = is
good-rest (p ∷ ps) rest all is = good-cons p.at p.exp (rest_exp cons_exp ps rest) all.0 (good-rest ps rest all.1 is)

pub good-list : (at : At) (ps : List PlacedExp) → Each FitPlaced ps → FitExp (list_exp at ps)
good-list at [] all = good-Long (long_at at (codes "nil")) at
good-list at (p ∷ ps) all =
    let nil = long_exp at (codes "nil") in
    good-cons at p.exp (rest_exp cons_exp ps nil) all.0 (good-rest ps nil all.1 (good-Long (long_at at (codes "nil")) at))

pub good-from : (at : At) (p : PlacedExp) (ps : List PlacedExp) → FitPlaced p → Each FitPlaced ps → FitExp (sequence_from at p ps)
good-from at p [] is all = is
good-from at p (q ∷ qs) is all =
    good-then at p.exp (sequence_from q.at q qs) is (good-from q.at q qs all.0 all.1)

pub good-sequence : (at : At) (ps : List PlacedExp) → Each FitPlaced ps → FitExp (sequence_exp at ps)
good-sequence at [] all = good-unit at
good-sequence at (p ∷ ps) all = good-from at p ps all.0 all.1

pub good-body : (at : At) (ps : List PlacedExp) → Each FitPlaced ps → FitExp (body_exp at ps)
good-body at [] all = good-unit at
good-body at (p ∷ ps) all = good-from p.at p ps all.0 all.1

-- ---- runs: what is made of operands with their proofs has its proof

abbrev HeldP : Type 0
HeldP = (p : PlacedExp) × FitPlaced p

abbrev placed_of : HeldP → PlacedExp
placed_of h = h.0

abbrev joined_held : Name → HeldP → HeldP → HeldP
joined_held op a b = (
  joined_exp op a.0 b.0,
  good-App (exp.Long (long_name op) (at_name op)) (pair_exp a.0.at a.0.exp b.0.exp) a.0.at
      (good-Long (long_name op) (at_name op)) (good-pair a.0.at a.0.exp b.0.exp a.1 b.1),
)

abbrev applied_held : HeldP → HeldP → HeldP
applied_held f x = (applied_exp f.0 x.0, good-App f.0.exp x.0.exp f.0.at f.1 x.1)

abbrev missing_held : At → HeldP
missing_held at = (missing_exp at, good-unit at)

abbrev pub FitPart : Part PlacedExp → Type 0
FitPart (Part.Atom p) = FitPlaced p
FitPart (Part.Operator op) = Unit {0}

abbrev held_part : (part : Part PlacedExp) → FitPart part → Part HeldP
held_part (Part.Atom p) is = Part.Atom (p, is)
held_part (Part.Operator op) is = Part.Operator op

held_part-is : (part : Part PlacedExp) (is : FitPart part) → part_value placed_of (held_part part is) ≡ part
held_part-is (Part.Atom p) is = refl
held_part-is (Part.Operator op) is = refl

abbrev held_parts : (parts : List (Part PlacedExp)) → Each FitPart parts → List (Part HeldP)
held_parts [] all = []
held_parts (part ∷ parts) all = held_part part all.0 ∷ held_parts parts all.1

held_parts-are : (parts : List (Part PlacedExp)) (all : Each FitPart parts)
    → map (part_value placed_of) (held_parts parts all) ≡ parts
held_parts-are [] all = refl
held_parts-are (part ∷ parts) all = ap₂ (λ p ps. p ∷ ps) (held_part-is part all.0) (held_parts-are parts all.1)

pub good-run : (at : At) (parts : List (Part PlacedExp)) → Each FitPart parts
    → FitPlaced (run_of joined_exp applied_exp (missing_exp at) parts)
good-run at parts all =
    let run = run_of joined_held applied_held (missing_held at) (held_parts parts all) in
    subst FitPlaced
    (run-value placed_of joined_held joined_exp (λ op a b. refl) applied_held applied_exp (λ a b. refl)
    (missing_held at) (missing_exp at) refl (held_parts parts all)
    ∙ ap (run_of joined_exp applied_exp (missing_exp at)) (held_parts-are parts all))
    run.1

-- ---- functions

pub good-curried : (at : At) (n count : ℕ) (body : Exp) → FitExp body → FitExp (curried at n count body)
good-curried at n zero body is = is
good-curried at n (suc count) body is =
    let inner = curried at (suc n) count body in
    good-Fn (rule (long_pat at (arg_text n)) inner ∷ []) at
    (good-rule (long_pat at (arg_text n)) inner (name_fits at (arg_text n)) (good-curried at (suc n) count body is), tt)

pub good-subjects : (at : At) (n : ℕ) (ps : List PlacedPat) → Each FitField (subject_fields at n ps)
good-subjects at n [] = tt
good-subjects at n (p ∷ ps) = (
  good-field (label_of at n) (long_exp at (arg_text n)) (good-Long (long_at at (arg_text n)) at),
  good-subjects at (suc n) ps,
)

pub good-subject : (at : At) (ps : List PlacedPat) → FitExp (subject_exp at ps)
good-subject at [] = good-unit at
good-subject at (p ∷ []) = good-Long (long_at at (arg_text 1)) at
good-subject at (p ∷ q ∷ ps) = good-Record (subject_fields at 1 (p ∷ q ∷ ps)) at (good-subjects at 1 (p ∷ q ∷ ps))

pub record FitClause (clause : BareClause) : Type 0 where
  pub args : Each pats.FitPlaced clause.args
  pub body : FitExp clause.body

args_fit : (at : At) (args : List PlacedPat) → Each pats.FitPlaced args → FitPat (args_pat at args)
args_fit at [] all = pats.good-Record [] at tt
args_fit at (p ∷ []) all = all.0
args_fit at (p ∷ q ∷ ps) all =
    pats.good-Record (pat_fields_from p.at 1 (p ∷ q ∷ ps)) p.at (pats.good-tuple p.at 1 (p ∷ q ∷ ps) all)

pub good-clauses : (clauses : List BareClause) → Each FitClause clauses → Each FitRule (map clause_rule clauses)
good-clauses [] all = tt
good-clauses (c ∷ cs) all = (good-rule (args_pat c.at c.args) c.body (args_fit c.at c.args all.0.args) all.0.body, good-clauses cs all.1)

pub good-fun : (at : At) (clauses : List BareClause) → Each FitClause clauses → FitRule (fun_rule at clauses)
good-fun at [] all = good-rule (pat.Wild at) (exp.Fn [] at) (pats.good-Wild at) (good-Fn [] at tt)
good-fun at (c ∷ cs) all =
    let rules = map clause_rule (c ∷ cs) in
    let chosen = case_exp at (subject_exp at c.args) rules in
    good-rule (pat.Long (long_name c.name) (at_name c.name)) (curried at 1 (length c.args) chosen)
    (pats.good-Long (long_name c.name) (at_name c.name))
    (good-curried at 1 (length c.args) chosen
    (good-case at (subject_exp at c.args) rules (good-subject at c.args) (good-clauses (c ∷ cs) all)))

pub good-result : (t : Option FullTy) (body : PlacedExp) → FitPlaced body → FitExp (result_exp t body)
good-result None body is = is
good-result (Some t) body is = good-Typed body.exp (bare_ty t) body.at is

-- ---- bindings of `val`

abbrev pub FitCounted : CountedRule → Type 0
FitCounted bind = FitRule bind.rule

good-firsts-if : (b : Bool) (bind : CountedRule) (rules : List Rule) → FitCounted bind → Each FitRule rules
    → Each FitRule (if b then (bind.rule ∷ rules) else [])
good-firsts-if true bind rules is all = (is, all)
good-firsts-if false bind rules is all = tt

pub good-firsts : (binds : List CountedRule) → Each FitCounted binds → Each FitRule (plain_rules binds)
good-firsts [] all = tt
good-firsts (bind ∷ binds) all =
    good-firsts-if (bind.recs == 0) bind (plain_rules binds) all.0 (good-firsts binds all.1)

good-recs-if : (b : Bool) (bind : CountedRule) (binds recs : List CountedRule) → Each FitCounted (bind ∷ binds)
    → Each FitCounted recs → Each FitCounted (if b then recs else (bind ∷ binds))
good-recs-if true bind binds recs all rest = rest
good-recs-if false bind binds recs all rest = all

pub good-recs : (binds : List CountedRule) → Each FitCounted binds → Each FitCounted (rec_binds binds)
good-recs [] all = tt
good-recs (bind ∷ binds) all =
    good-recs-if (bind.recs == 0) bind binds (rec_binds binds) all (good-recs binds all.1)
