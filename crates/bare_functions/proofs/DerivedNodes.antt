-- What holds of what derived forms are made of.
use Rattle.std.proofs.Common.{◌≡◌, ℕ, zero, suc, List, [], ◌∷◌, map, length, Option, Some, None, Bool, true, false, refl, ap, ap₂, ◌∙◌, subst}
use Rattle.std.specs.Prelude.{codes}
use Rattle.sml_trees.specs.declared.name.At.{At}
use Rattle.sml_trees.specs.declared.name.Name.{Name}
use Rattle.sml_trees.specs.declared.full_ty.FullTy.{FullTy}
use Rattle.sml_trees.specs.declared.full_pat.Constant.{Constant}
use Rattle.sml_trees.specs.declared.full_pat.Constant.TheVariants as constant
use Rattle.sml_trees.specs.declared.pat.Pat.TheVariants as pat
use Rattle.sml_trees.specs.declared.exp.Dec.TheVariants as dec
use Rattle.sml_trees.specs.declared.exp.Exp.{Exp}
use Rattle.sml_trees.specs.declared.exp.Exp.TheVariants as exp
use Rattle.sml_trees.specs.declared.exp.Rule.{Rule}
use Rattle.bare_forms.specs.declared.placed.PlacedPat.{PlacedPat}
use Rattle.bare_forms.specs.declared.placed.PlacedExp.{PlacedExp}
use Rattle.bare_forms.specs.declared.placed.BareClause.{BareClause}
use Rattle.bare_forms.specs.Types.{bare_ty, label_of}
use Rattle.bare_forms.specs.Patterns.{at_name, long_name, long_at}
use Rattle.bare_forms.specs.Runs.{Part, run_of}
use Rattle.bare_forms.specs.RunValues.{part_value}
use Rattle.bare_forms.specs.Nodes.{rule, field, constant_exp, long_pat, long_exp, unit_exp, pair_exp, exp_fields_from, case_exp, if_exp, then_exp, while_call, while_dec, while_exp, cons_exp, rest_exp, list_exp, sequence_from, sequence_exp, body_exp, joined_exp, applied_exp, missing_exp, arg_text, subject_fields, subject_exp, args_pat, clause_rule, curried, fun_rule}
use Rattle.bare_forms.specs.Expressions.{result_exp}
use Rattle.bare_forms.proofs.RunFusion.{run-value}
use Rattle.static_semantics.specs.Holding.{AllItems}
use Rattle.recursion_laws.specs.Functions.{has_some}
use Rattle.bare_functions.proofs.Nodes.{HasE, HasF, HasR, ValueE, ValueR, has-field, has-rule, value-rule, has-Int, has-Str, has-Char, has-Long, has-Record, has-Let, has-App, has-Typed, has-Fn, value-Fn, has-Val, has-Sequence}

abbrev pub HasP : PlacedExp → Type 0
HasP p = HasE p.exp

-- ---- expressions

pub has-constant : (c : Constant) (at : At) → HasE (constant_exp c at)
has-constant (constant.Int n) at = has-Int n at
has-constant (constant.Str text) at = has-Str text at
has-constant (constant.Char byte) at = has-Char byte at

pub has-unit : (at : At) → HasE (unit_exp at)
has-unit at = has-Record [] at tt

has-pair : (at : At) (a b : Exp) → HasE a → HasE b → HasE (pair_exp at a b)
has-pair at a b first second =
    has-Record (field (label_of at 1) a ∷ field (label_of at 2) b ∷ []) at
    (has-field (label_of at 1) a first, (has-field (label_of at 2) b second, tt))

pub has-tuple : (at : At) (n : ℕ) (parts : List PlacedExp) → AllItems HasP parts
    → AllItems HasF (exp_fields_from at n parts)
has-tuple at n [] all = tt
has-tuple at n (part ∷ parts) all = (has-field (label_of at n) part.exp all.0, has-tuple at (suc n) parts all.1)

pub has-case : (at : At) (subject : Exp) (rules : List Rule) → HasE subject → AllItems HasR rules
    → HasE (case_exp at subject rules)
has-case at subject rules first second =
    has-App (exp.Fn rules at) subject at (has-Fn rules at second) first

pub has-if : (at : At) (a b c : Exp) → HasE a → HasE b → HasE c → HasE (if_exp at a b c)
has-if at a b c first second third =
    has-case at a (rule (long_pat at (codes "true")) b ∷ rule (long_pat at (codes "false")) c ∷ []) first
    (has-rule (long_pat at (codes "true")) b second, (has-rule (long_pat at (codes "false")) c third, tt))

has-then : (at : At) (a b : Exp) → HasE a → HasE b → HasE (then_exp at a b)
has-then at a b first second =
    has-case at a (rule (pat.Wild at) b ∷ []) first (has-rule (pat.Wild at) b second, tt)

has-call : (at : At) → HasE (while_call at)
has-call at =
    has-App (long_exp at (codes "%0")) (unit_exp at) at (has-Long (long_at at (codes "%0")) at) (has-unit at)

pub has-while : (at : At) (a b : Exp) → HasE a → HasE b → HasE (while_exp at a b)
has-while at a b first second =
    let again = then_exp at b (while_call at) in
    let step = if_exp at a again (unit_exp at) in
    let steps = rule (pat.Record [] at) step ∷ [] in
    let function = exp.Fn steps at in
    let bound = rule (long_pat at (codes "%0")) function in
    has-Let (dec.Sequence (while_dec at a b ∷ []) at) (while_call at) at
    (has-Sequence (while_dec at a b ∷ []) at (
      has-Val [] [] (bound ∷ []) at tt (
        has-rule (long_pat at (codes "%0")) function (has-Fn steps at (
          has-rule (pat.Record [] at) step
              (has-if at a again (unit_exp at) first (has-then at b (while_call at) second (has-call at)) (has-unit at)),
          tt,
        )),
        tt,
      )
          (value-rule (long_pat at (codes "%0")) function (value-Fn steps at), tt),
      tt,
    ))
    (has-call at)

has-cons : (at : At) (a b : Exp) → HasE a → HasE b → HasE (cons_exp at a b)
has-cons at a b first second =
    has-App (long_exp at (codes "::")) (pair_exp at a b) at (has-Long (long_at at (codes "::")) at)
    (has-pair at a b first second)

has-rest : (ps : List PlacedExp) (rest : Exp) → AllItems HasP ps → HasE rest → HasE (rest_exp cons_exp ps rest)
has-rest [] rest all is = is
has-rest (p ∷ ps) rest all is = has-cons p.at p.exp (rest_exp cons_exp ps rest) all.0 (has-rest ps rest all.1 is)

pub has-list : (at : At) (ps : List PlacedExp) → AllItems HasP ps → HasE (list_exp at ps)
has-list at [] all = has-Long (long_at at (codes "nil")) at
has-list at (p ∷ ps) all =
    let nil = long_exp at (codes "nil") in
    has-cons at p.exp (rest_exp cons_exp ps nil) all.0 (has-rest ps nil all.1 (has-Long (long_at at (codes "nil")) at))

has-from : (at : At) (p : PlacedExp) (ps : List PlacedExp) → HasP p → AllItems HasP ps → HasE (sequence_from at p ps)
has-from at p [] is all = is
has-from at p (q ∷ qs) is all = has-then at p.exp (sequence_from q.at q qs) is (has-from q.at q qs all.0 all.1)

pub has-sequence : (at : At) (ps : List PlacedExp) → AllItems HasP ps → HasE (sequence_exp at ps)
has-sequence at [] all = has-unit at
has-sequence at (p ∷ ps) all = has-from at p ps all.0 all.1

pub has-body : (at : At) (ps : List PlacedExp) → AllItems HasP ps → HasE (body_exp at ps)
has-body at [] all = has-unit at
has-body at (p ∷ ps) all = has-from p.at p ps all.0 all.1

pub has-result : (t : Option FullTy) (body : PlacedExp) → HasP body → HasE (result_exp t body)
has-result None body is = is
has-result (Some t) body is = has-Typed body.exp (bare_ty t) body.at is

-- ---- runs: what is made of operands with their proofs has its proof

abbrev Held : Type 0
Held = (p : PlacedExp) × HasP p

abbrev placed_of : Held → PlacedExp
placed_of h = h.0

abbrev joined_held : Name → Held → Held → Held
joined_held op a b = (
  joined_exp op a.0 b.0,
  has-App (exp.Long (long_name op) (at_name op)) (pair_exp a.0.at a.0.exp b.0.exp) a.0.at
      (has-Long (long_name op) (at_name op)) (has-pair a.0.at a.0.exp b.0.exp a.1 b.1),
)

abbrev applied_held : Held → Held → Held
applied_held f x = (applied_exp f.0 x.0, has-App f.0.exp x.0.exp f.0.at f.1 x.1)

abbrev missing_held : At → Held
missing_held at = (missing_exp at, has-unit at)

abbrev pub HasPart : Part PlacedExp → Type 0
HasPart (Part.Atom p) = HasP p
HasPart (Part.Operator op) = Unit {0}

abbrev held_part : (part : Part PlacedExp) → HasPart part → Part Held
held_part (Part.Atom p) is = Part.Atom (p, is)
held_part (Part.Operator op) is = Part.Operator op

held_part-is : (part : Part PlacedExp) (is : HasPart part) → part_value placed_of (held_part part is) ≡ part
held_part-is (Part.Atom p) is = refl
held_part-is (Part.Operator op) is = refl

abbrev held_parts : (parts : List (Part PlacedExp)) → AllItems HasPart parts → List (Part Held)
held_parts [] all = []
held_parts (part ∷ parts) all = held_part part all.0 ∷ held_parts parts all.1

held_parts-are : (parts : List (Part PlacedExp)) (all : AllItems HasPart parts)
    → map (part_value placed_of) (held_parts parts all) ≡ parts
held_parts-are [] all = refl
held_parts-are (part ∷ parts) all = ap₂ (λ p ps. p ∷ ps) (held_part-is part all.0) (held_parts-are parts all.1)

pub has-run : (at : At) (parts : List (Part PlacedExp)) → AllItems HasPart parts
    → HasP (run_of joined_exp applied_exp (missing_exp at) parts)
has-run at parts all =
    let run = run_of joined_held applied_held (missing_held at) (held_parts parts all) in
    subst HasP
    (run-value placed_of joined_held joined_exp (λ op a b. refl) applied_held applied_exp (λ a b. refl)
    (missing_held at) (missing_exp at) refl (held_parts parts all)
    ∙ ap (run_of joined_exp applied_exp (missing_exp at)) (held_parts-are parts all))
    run.1

-- ---- functions

has-curried : (at : At) (n count : ℕ) (body : Exp) → HasE body → HasE (curried at n count body)
has-curried at n zero body is = is
has-curried at n (suc count) body is =
    let inner = curried at (suc n) count body in
    has-Fn (rule (long_pat at (arg_text n)) inner ∷ []) at
    (has-rule (long_pat at (arg_text n)) inner (has-curried at (suc n) count body is), tt)

has-subjects : (at : At) (n : ℕ) (ps : List PlacedPat) → AllItems HasF (subject_fields at n ps)
has-subjects at n [] = tt
has-subjects at n (p ∷ ps) = (
  has-field (label_of at n) (long_exp at (arg_text n)) (has-Long (long_at at (arg_text n)) at),
  has-subjects at (suc n) ps,
)

has-subject : (at : At) (ps : List PlacedPat) → HasE (subject_exp at ps)
has-subject at [] = has-unit at
has-subject at (p ∷ []) = has-Long (long_at at (arg_text 1)) at
has-subject at (p ∷ q ∷ ps) = has-Record (subject_fields at 1 (p ∷ q ∷ ps)) at (has-subjects at 1 (p ∷ q ∷ ps))

abbrev pub HasC : BareClause → Type 0
HasC clause = HasE clause.body

has-clauses : (clauses : List BareClause) → AllItems HasC clauses → AllItems HasR (map clause_rule clauses)
has-clauses [] all = tt
has-clauses (c ∷ cs) all = (has-rule (args_pat c.at c.args) c.body all.0, has-clauses cs all.1)

pub has-fun : (at : At) (clauses : List BareClause) → AllItems HasC clauses → HasR (fun_rule at clauses)
has-fun at [] all = has-rule (pat.Wild at) (exp.Fn [] at) (has-Fn [] at tt)
has-fun at (c ∷ cs) all =
    let rules = map clause_rule (c ∷ cs) in
    let chosen = case_exp at (subject_exp at c.args) rules in
    has-rule (pat.Long (long_name c.name) (at_name c.name)) (curried at 1 (length c.args) chosen)
    (has-curried at 1 (length c.args) chosen
    (has-case at (subject_exp at c.args) rules (has-subject at c.args) (has-clauses (c ∷ cs) all)))

-- a function of one argument or more is a value
value-curried : (at : At) (args : List PlacedPat) (body : Exp) → has_some args ≡ true
    → ValueE (curried at 1 (length args) body)
value-curried at [] body some = absurd (cc)
value-curried at (p ∷ ps) body some = value-Fn (rule (long_pat at (arg_text 1)) (curried at 2 (length ps) body) ∷ []) at

-- the first of these clauses has an argument
abbrev pub first_has : List BareClause → Bool
first_has [] = false
first_has (c ∷ cs) = has_some c.args

pub value-fun : (at : At) (clauses : List BareClause) → first_has clauses ≡ true → ValueR (fun_rule at clauses)
value-fun at [] some = absurd (cc)
value-fun at (c ∷ cs) some =
    let chosen = case_exp at (subject_exp at c.args) (map clause_rule (c ∷ cs)) in
    value-rule (pat.Long (long_name c.name) (at_name c.name)) (curried at 1 (length c.args) chosen)
    (value-curried at c.args chosen some)
