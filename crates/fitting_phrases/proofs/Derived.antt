-- Expressions that derived forms are made of have names that fit, if their names and parts have.
use Rattle.std.proofs.Common.{◌≡◌, ℕ, zero, suc, ◌+◌, ◌≤◌, ◌^◌, Bool, true, false, List, [], ◌∷◌, Option, Some, None, ◌==◌, if◌then◌else◌, length, refl, map, arith}
use Rattle.std.specs.Prelude.{codes}
use Rattle.sml_trees.specs.declared.name.At.{At}
use Rattle.sml_trees.specs.declared.name.Name.{Name}
use Rattle.sml_trees.specs.declared.full_ty.FullTy.{FullTy}
use Rattle.sml_trees.specs.declared.full_pat.Constant.{Constant}
use Rattle.sml_trees.specs.declared.full_pat.Constant.TheVariants as constant
use Rattle.sml_trees.specs.declared.pat.Pat.TheVariants as pat
use Rattle.sml_trees.specs.declared.exp.Dec.{Dec}
use Rattle.sml_trees.specs.declared.exp.Dec.TheVariants as dec
use Rattle.sml_trees.specs.declared.exp.Exp.{Exp}
use Rattle.sml_trees.specs.declared.exp.Exp.TheVariants as exp
use Rattle.sml_trees.specs.declared.exp.ExpField.{ExpField}
use Rattle.sml_trees.specs.declared.exp.Rule.{Rule}
use Rattle.bare_forms.specs.declared.placed.PlacedPat.{PlacedPat}
use Rattle.bare_forms.specs.declared.placed.PlacedExp.{PlacedExp}
use Rattle.bare_forms.specs.declared.placed.BareClause.{BareClause}
use Rattle.bare_forms.specs.declared.placed.CountedRule.{CountedRule}
use Rattle.bare_forms.specs.Types.{bare_ty, label_of}
use Rattle.bare_forms.specs.Patterns.{at_name, long_name, long_at, pat_fields_from}
use Rattle.bare_forms.specs.Runs.{Part, run_of}
use Rattle.bare_forms.specs.Nodes.{rule, field, constant_exp, long_pat, long_exp, unit_exp, pair_exp, exp_fields_from, case_exp, if_exp, then_exp, while_call, while_dec, while_exp, cons_exp, rest_exp, list_exp, sequence_from, sequence_exp, body_exp, joined_exp, applied_exp, missing_exp, arg_text, subject_fields, subject_exp, args_pat, clause_rule, curried, fun_rule}
use Rattle.bare_forms.specs.Expressions.{result_exp, plain_rules, rec_binds}
use Rattle.body_laws.proofs.Signatures.{Each}
use Rattle.fitting_names.specs.Names.{names_exp, names_exp_field, names_rule, names_dec}
use Rattle.fitting_names.proofs.Texts.{FitText, arg_fits}
use Rattle.fitting_names.proofs.Runs.{GoodPart, run_good}
use Rattle.fitting_names.proofs.Nodes.{FitName, pat-Wild, pat-Long, pat-Record, exp-Int, exp-Str, exp-Char, exp-Long, exp-Record, exp-Let, exp-App, exp-Typed, exp-Fn, good-exp_field, good-rule, dec-Val, dec-Sequence}
use Rattle.fitting_names.proofs.TyForms.{IfTy, label_fits}
use Rattle.fitting_names.proofs.PatForms.{FitPat, alone_fits, long_name_fits}
use Rattle.fitting_names.proofs.PatForms as pats

abbrev pub FitExp : Exp → Type 0
FitExp e = names_exp e ≡ true

abbrev pub FitPlaced : PlacedExp → Type 0
FitPlaced p = names_exp p.exp ≡ true

abbrev pub FitRule : Rule → Type 0
FitRule r = names_rule r ≡ true

abbrev pub FitField : ExpField → Type 0
FitField f = names_exp_field f ≡ true

abbrev pub FitDec : Dec → Type 0
FitDec d = names_dec d ≡ true

pub good-constant : (c : Constant) (at : At) → FitExp (constant_exp c at)
good-constant (constant.Int n) at = exp-Int n at
good-constant (constant.Str text) at = exp-Str text at
good-constant (constant.Char byte) at = exp-Char byte at

-- a name as a pattern and as an expression
name_fits : (at : At) (text : List ℕ) → FitText text → FitPat (long_pat at text)
name_fits at text is = pat-Long (long_at at text) at (alone_fits text is at.line at.col)

pub value_fits : (at : At) (text : List ℕ) → FitText text → FitExp (long_exp at text)
value_fits at text is = exp-Long (long_at at text) at (alone_fits text is at.line at.col)

pub good-unit : (at : At) → FitExp (unit_exp at)
good-unit at = exp-Record [] at tt

pub good-pair : (at : At) (a b : Exp) → FitExp a → FitExp b → FitExp (pair_exp at a b)
good-pair at a b first second =
    exp-Record (field (label_of at 1) a ∷ field (label_of at 2) b ∷ []) at (
      good-exp_field (label_of at 1) a (label_fits at 1 (omega arith)) first,
      (good-exp_field (label_of at 2) b (label_fits at 2 (omega arith)) second, tt),
    )

pub good-tuple : (at : At) (n : ℕ) (parts : List PlacedExp) → n + length parts ≤ 2 ^ 64 → Each FitPlaced parts
    → Each FitField (exp_fields_from at n parts)
good-tuple at n [] low all = tt
good-tuple at n (part ∷ parts) low all = (
  good-exp_field (label_of at n) part.exp (label_fits at n (omega (arith, low))) all.0,
  good-tuple at (suc n) parts (omega (arith, low)) all.1,
)

pub good-case : (at : At) (subject : Exp) (rules : List Rule) → FitExp subject → Each FitRule rules
    → FitExp (case_exp at subject rules)
good-case at subject rules first second = exp-App (exp.Fn rules at) subject at (exp-Fn rules at second) first

pub good-if : (at : At) (a b c : Exp) → FitExp a → FitExp b → FitExp c → FitExp (if_exp at a b c)
good-if at a b c first second third =
    good-case at a (rule (long_pat at (codes "true")) b ∷ rule (long_pat at (codes "false")) c ∷ []) first (
      good-rule (long_pat at (codes "true")) b (name_fits at (codes "true") refl) second,
      (good-rule (long_pat at (codes "false")) c (name_fits at (codes "false") refl) third, tt),
    )

pub good-then : (at : At) (a b : Exp) → FitExp a → FitExp b → FitExp (then_exp at a b)
good-then at a b first second =
    good-case at a (rule (pat.Wild at) b ∷ []) first (good-rule (pat.Wild at) b (pat-Wild at) second, tt)

good-call : (at : At) → FitExp (while_call at)
good-call at =
    exp-App (long_exp at (codes "%0")) (unit_exp at) at (value_fits at (codes "%0") refl) (good-unit at)

pub good-while : (at : At) (a b : Exp) → FitExp a → FitExp b → FitExp (while_exp at a b)
good-while at a b first second =
    let again = then_exp at b (while_call at) in
    let step = if_exp at a again (unit_exp at) in
    let function = exp.Fn (rule (pat.Record [] at) step ∷ []) at in
    let bound = rule (long_pat at (codes "%0")) function in
    exp-Let (dec.Sequence (while_dec at a b ∷ []) at) (while_call at) at
    ((dec-Sequence (while_dec at a b ∷ []) at (
      dec-Val [] [] (bound ∷ []) at tt tt (
        good-rule (long_pat at (codes "%0")) function (name_fits at (codes "%0") refl)
            (exp-Fn (rule (pat.Record [] at) step ∷ []) at (
              good-rule (pat.Record [] at) step (pat-Record [] at tt)
                  (good-if at a again (unit_exp at) first (good-then at b (while_call at) second (good-call at))
                  (good-unit at)),
              tt,
            )),
        tt,
      ),
      tt,
    )))
    (good-call at)

pub good-cons : (at : At) (a b : Exp) → FitExp a → FitExp b → FitExp (cons_exp at a b)
good-cons at a b first second =
    exp-App (long_exp at (codes "::")) (pair_exp at a b) at (value_fits at (codes "::") refl)
    (good-pair at a b first second)

good-rest : (ps : List PlacedExp) (rest : Exp) → Each FitPlaced ps → FitExp rest → FitExp (rest_exp cons_exp ps rest)
good-rest [] rest all is = is
good-rest (p ∷ ps) rest all is = good-cons p.at p.exp (rest_exp cons_exp ps rest) all.0 (good-rest ps rest all.1 is)

pub good-list : (at : At) (ps : List PlacedExp) → Each FitPlaced ps → FitExp (list_exp at ps)
good-list at [] all = value_fits at (codes "nil") refl
good-list at (p ∷ ps) all =
    let nil = long_exp at (codes "nil") in
    good-cons at p.exp (rest_exp cons_exp ps nil) all.0 (good-rest ps nil all.1 (value_fits at (codes "nil") refl))

good-from : (at : At) (p : PlacedExp) (ps : List PlacedExp) → FitPlaced p → Each FitPlaced ps
    → FitExp (sequence_from at p ps)
good-from at p [] is all = is
good-from at p (q ∷ qs) is all =
    good-then at p.exp (sequence_from q.at q qs) is (good-from q.at q qs all.0 all.1)

pub good-sequence : (at : At) (ps : List PlacedExp) → Each FitPlaced ps → FitExp (sequence_exp at ps)
good-sequence at [] all = good-unit at
good-sequence at (p ∷ ps) all = good-from at p ps all.0 all.1

pub good-body : (at : At) (ps : List PlacedExp) → Each FitPlaced ps → FitExp (body_exp at ps)
good-body at [] all = good-unit at
good-body at (p ∷ ps) all = good-from p.at p ps all.0 all.1

-- ---- runs

joined_fits : (op : Name) (a b : PlacedExp) → FitName op → FitPlaced a → FitPlaced b → FitPlaced (joined_exp op a b)
joined_fits op a b called first second =
    exp-App (exp.Long (long_name op) (at_name op)) (pair_exp a.at a.exp b.exp) a.at
    (exp-Long (long_name op) (at_name op) (long_name_fits op called)) (good-pair a.at a.exp b.exp first second)

applied_fits : (f x : PlacedExp) → FitPlaced f → FitPlaced x → FitPlaced (applied_exp f x)
applied_fits f x first second = exp-App f.exp x.exp f.at first second

abbrev pub FitPart : Part PlacedExp → Type 0
FitPart (Part.Atom p) = FitPlaced p
FitPart (Part.Operator op) = FitName op.name

run_part : (part : Part PlacedExp) → FitPart part → GoodPart FitPlaced FitName joined_exp joined_fits part
run_part (Part.Atom p) is = is
run_part (Part.Operator op) is = is

run_parts : (parts : List (Part PlacedExp)) → Each FitPart parts
    → Each (GoodPart FitPlaced FitName joined_exp joined_fits) parts
run_parts [] all = tt
run_parts (part ∷ parts) all = (run_part part all.0, run_parts parts all.1)

pub good-run : (at : At) (parts : List (Part PlacedExp)) → Each FitPart parts
    → FitPlaced (run_of joined_exp applied_exp (missing_exp at) parts)
good-run at parts all =
    run_good FitPlaced FitName joined_exp joined_fits applied_exp applied_fits (missing_exp at) (good-unit at) parts
    (run_parts parts all)

-- ---- functions

pub good-curried : (at : At) (n count : ℕ) (body : Exp) → n + count ≤ 2 ^ 64 → FitExp body
    → FitExp (curried at n count body)
good-curried at n zero body low is = is
good-curried at n (suc count) body low is =
    let inner = curried at (suc n) count body in
    exp-Fn (rule (long_pat at (arg_text n)) inner ∷ []) at (
      good-rule (long_pat at (arg_text n)) inner (name_fits at (arg_text n) (arg_fits n (omega (arith, low))))
          (good-curried at (suc n) count body (omega (arith, low)) is),
      tt,
    )

good-subjects : (at : At) (n : ℕ) (ps : List PlacedPat) → n + length ps ≤ 2 ^ 64
    → Each FitField (subject_fields at n ps)
good-subjects at n [] low = tt
good-subjects at n (p ∷ ps) low = (
  good-exp_field (label_of at n) (long_exp at (arg_text n)) (label_fits at n (omega (arith, low)))
      (value_fits at (arg_text n) (arg_fits n (omega (arith, low)))),
  good-subjects at (suc n) ps (omega (arith, low)),
)

good-subject : (at : At) (ps : List PlacedPat) → 1 + length ps ≤ 2 ^ 64 → FitExp (subject_exp at ps)
good-subject at [] low = good-unit at
good-subject at (p ∷ []) low = value_fits at (arg_text 1) (arg_fits 1 (omega arith))
good-subject at (p ∷ q ∷ ps) low =
    exp-Record (subject_fields at 1 (p ∷ q ∷ ps)) at (good-subjects at 1 (p ∷ q ∷ ps) low)

pub record FitClause (clause : BareClause) : Type 0 where
  pub name : FitName clause.name
  pub args : Each pats.FitPlaced clause.args
  pub few : 1 + length clause.args ≤ 2 ^ 64
  pub body : FitExp clause.body

args_fit : (at : At) (args : List PlacedPat) → 1 + length args ≤ 2 ^ 64 → Each pats.FitPlaced args
    → FitPat (args_pat at args)
args_fit at [] low all = pat-Record [] at tt
args_fit at (p ∷ []) low all = all.0
args_fit at (p ∷ q ∷ ps) low all =
    pat-Record (pat_fields_from p.at 1 (p ∷ q ∷ ps)) p.at (pats.fields_fit p.at 1 (p ∷ q ∷ ps) low all)

good-clauses : (clauses : List BareClause) → Each FitClause clauses → Each FitRule (map clause_rule clauses)
good-clauses [] all = tt
good-clauses (c ∷ cs) all = (
  good-rule (args_pat c.at c.args) c.body (args_fit c.at c.args all.0.few all.0.args) all.0.body,
  good-clauses cs all.1,
)

pub good-fun : (at : At) (clauses : List BareClause) → Each FitClause clauses → FitRule (fun_rule at clauses)
good-fun at [] all = good-rule (pat.Wild at) (exp.Fn [] at) (pat-Wild at) (exp-Fn [] at tt)
good-fun at (c ∷ cs) all =
    let rules = map clause_rule (c ∷ cs) in
    let chosen = case_exp at (subject_exp at c.args) rules in
    good-rule (pat.Long (long_name c.name) (at_name c.name)) (curried at 1 (length c.args) chosen)
    (pat-Long (long_name c.name) (at_name c.name) (long_name_fits c.name all.0.name))
    (good-curried at 1 (length c.args) chosen all.0.few
    (good-case at (subject_exp at c.args) rules (good-subject at c.args all.0.few) (good-clauses (c ∷ cs) all)))

pub good-result : (given : Option FullTy) (body : PlacedExp) → IfTy given → FitPlaced body
    → FitExp (result_exp given body)
good-result None body so is = is
good-result (Some t) body so is = exp-Typed body.exp (bare_ty t) body.at is so

-- ---- bindings of `val`

abbrev pub FitCounted : CountedRule → Type 0
FitCounted bind = FitRule bind.rule

good-firsts-if : (b : Bool) (bind : CountedRule) (rules : List Rule) → FitCounted bind → Each FitRule rules
    → Each FitRule (if b then (bind.rule ∷ rules) else [])
good-firsts-if true bind rules is all = (is, all)
good-firsts-if false bind rules is all = tt

pub good-firsts : (binds : List CountedRule) → Each FitCounted binds → Each FitRule (plain_rules binds)
good-firsts [] all = tt
good-firsts (bind ∷ binds) all =
    good-firsts-if (bind.recs == 0) bind (plain_rules binds) all.0 (good-firsts binds all.1)

good-recs-if : (b : Bool) (bind : CountedRule) (binds recs : List CountedRule) → Each FitCounted (bind ∷ binds)
    → Each FitCounted recs → Each FitCounted (if b then recs else (bind ∷ binds))
good-recs-if true bind binds recs all rest = rest
good-recs-if false bind binds recs all rest = all

pub good-recs : (binds : List CountedRule) → Each FitCounted binds → Each FitCounted (rec_binds binds)
good-recs [] all = tt
good-recs (bind ∷ binds) all =
    good-recs-if (bind.recs == 0) bind binds (rec_binds binds) all (good-recs binds all.1)
