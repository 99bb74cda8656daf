-- The height of one form of an expression, a declaration or a structure as it is written, by those of its parts.
use Rattle.std.proofs.Common.{◌≡◌, ℕ, suc, max, Bool, true, false, List, [], ◌∷◌, ◌++◌, Option, Some, None, if◌then◌else◌, ◌==◌, refl, sym, ap, ap₂, ◌∙◌, map, flat_map, length}
use Rattle.std.specs.Option.{option_map}
use Rattle.sml_trees.specs.declared.name.At.{At}
use Rattle.sml_trees.specs.declared.name.Name.{Name}
use Rattle.sml_trees.specs.declared.name.LongName.{LongName}
use Rattle.sml_trees.specs.declared.full_ty.FullTy.{FullTy}
use Rattle.sml_trees.specs.declared.full_ty.OpLong.{OpLong}
use Rattle.sml_trees.specs.declared.full_ty.FullTypBind.{FullTypBind}
use Rattle.sml_trees.specs.declared.full_ty.FullDatBind.{FullDatBind}
use Rattle.sml_trees.specs.declared.full_ty.FullExBind.{FullExBind}
use Rattle.sml_trees.specs.declared.full_pat.Constant.{Constant}
use Rattle.sml_trees.specs.declared.full_pat.Fixity.{Fixity}
use Rattle.sml_trees.specs.declared.full_pat.FullPat.{FullPat}
use Rattle.sml_trees.specs.declared.full_exp.FullHead.{FullHead}
use Rattle.sml_trees.specs.declared.full_exp.FullHead.TheVariants as head
use Rattle.sml_trees.specs.declared.full_exp.FullDec.{FullDec}
use Rattle.sml_trees.specs.declared.full_exp.FullDec.TheVariants as wdec
use Rattle.sml_trees.specs.declared.full_exp.FullExp.{FullExp}
use Rattle.sml_trees.specs.declared.full_exp.FullExp.TheVariants as wexp
use Rattle.sml_trees.specs.declared.full_exp.FullExpItem.{FullExpItem}
use Rattle.sml_trees.specs.declared.full_exp.FullExpItem.TheVariants as item
use Rattle.sml_trees.specs.declared.full_exp.FullClause.{FullClause, out-FullClause}
use Rattle.sml_trees.specs.declared.full_exp.FullExpField.{FullExpField, out-FullExpField}
use Rattle.sml_trees.specs.declared.full_exp.FullFunBind.{FullFunBind, out-FullFunBind}
use Rattle.sml_trees.specs.declared.full_exp.FullRule.{FullRule, out-FullRule}
use Rattle.sml_trees.specs.declared.full_exp.FullValBind.{FullValBind, out-FullValBind}
use Rattle.sml_trees.specs.declared.pat.Pat.TheVariants as pat
use Rattle.sml_trees.specs.declared.exp.Dec.{Dec}
use Rattle.sml_trees.specs.declared.exp.Dec.TheVariants as dec
use Rattle.sml_trees.specs.declared.exp.Exp.TheVariants as exp
use Rattle.sml_trees.specs.declared.exp.Rule.{Rule}
use Rattle.bare_forms.specs.declared.placed.PlacedPat.{PlacedPat}
use Rattle.bare_forms.specs.declared.placed.PlacedExp.{PlacedExp}
use Rattle.bare_forms.specs.declared.placed.BareClause.{BareClause}
use Rattle.bare_forms.specs.declared.placed.CountedRule.{CountedRule}
use Rattle.tree_heights.specs.declared.height_node.RunHeight.{RunHeight}
use Rattle.bare_forms.specs.Types.{bare_ty, bare_typ_bind, bare_dat_bind, bare_ex_bind}
use Rattle.bare_forms.specs.Patterns.{bare_pat, at_name, long_name}
use Rattle.bare_forms.specs.Runs.{Part, run_of}
use Rattle.bare_forms.specs.RunValues.{part_value}
use Rattle.bare_forms.specs.Nodes.{placed_exp, rule, constant_exp, unit_exp, case_exp, if_exp, or_else, and_also, while_exp, list_exp, sequence_exp, body_exp, exp_fields_from, joined_exp, applied_exp, missing_exp, subject_exp, args_pat, curried, clause_rule, fun_of, fun_rule}
use Rattle.bare_forms.specs.Expressions.{PlacedDec, placed_dec, head_name, head_args, infix_pat, result_exp, rule_of, plain_rules, rec_binds, rec_rules, decs_of, sequence_dec, bare_dec, bare_exp, bare_item, bare_clause, bare_field, bare_fun_bind, bare_rule, bare_val_bind}
use Rattle.tree_heights.specs.Heights.{highest_with, highest, ty_height, typ_bind_height, dat_height, ex_height, exp_height, dec_height, exp_field_height, rule_height}
use Rattle.tree_heights.specs.NodeHeights.{case_height, if_height, while_height, exps_height, sequence_height, run_height, joined_exp_height, applied_exp_height, missing_exp_height, curried_height, subject_height}
use Rattle.tree_heights.specs.FullHeights as pats
use Rattle.tree_heights.specs.FullHeights.{full_ty, full_pat, full_typ_bind, full_dat, full_ex, height_of_pat}
use Rattle.tree_heights.specs.FullExpHeights as spec
use Rattle.tree_heights.specs.FullExpHeights.{placed_height, exp_value, full_exp, full_item, full_field, full_rule, infix_height, head_heights, args_height, result_height, full_clause, fun_of_height, fun_height, full_fun_bind, full_val_bind, full_dec}
use Rattle.bare_forms.proofs.ExpLevels.{bare_exp-Constant, bare_exp-Long, bare_exp-Unit, bare_exp-Paren, bare_exp-Typed, bare_exp-AndAlso, bare_exp-OrElse, bare_exp-Raise, bare_exp-If, bare_exp-While, bare_dec-Types, bare_dec-Datatypes, bare_dec-Replication, bare_dec-Exceptions, bare_dec-Open, bare_dec-Infix, bare_dec-Infixr, bare_dec-Nonfix, bare_exp-Record, bare_exp-Tuple, bare_exp-Sequence, bare_exp-List, bare_exp-Let, bare_exp-Run, bare_exp-Handle, bare_exp-Case, bare_exp-Fn, bare_dec-Val, bare_dec-Fun, bare_dec-Local, bare_field-kept, bare_rule-kept, bare_val_bind-kept, bare_clause-kept, bare_fun_bind-kept, bare_item-Atom, bare_item-Operator}
use Rattle.std.proofs.Math.Nat.{zero-max}
use Rattle.tree_heights.proofs.PatHeights.{pat_height-Wild, pat_height-Long, pair-height as pair_pat-height}
use Rattle.tree_heights.proofs.Highest.{alone, map-map, grouped, highest_with-is, highest_with-append}
use Rattle.bare_forms.proofs.RunFusion.{run-value}
use Rattle.bare_forms.proofs.Bound.{run_from-Atom, run_from-Operator, run_from-end}
use Rattle.tree_heights.proofs.NodeForms as node

-- ---- expressions as they are written

-- the height of what is made so
made : (e : FullExp) (p : PlacedExp) (height : ℕ) → bare_exp e ≡ p → exp_height p.exp ≡ height → full_exp e ≡ height
unfolding full_exp
made e p height is deep = ap (λ (q : PlacedExp). exp_height q.exp) is ∙ deep

decs-height : (at : At) (decs : List FullDec)
    → dec_height (sequence_dec at (map bare_dec decs)) ≡ spec.decs_height decs
unfolding full_dec
decs-height at decs =
    node.dec_height-Sequence (flat_map decs_of (map bare_dec decs)) at
    ∙ ap suc (grouped dec_height decs_of (map bare_dec decs) 0
    ∙ ap highest (map-map (λ d. highest (map dec_height (decs_of d))) bare_dec decs))

run_height_is : (at : At) (items : List FullExpItem)
    → exp_value (run_of joined_exp applied_exp (missing_exp at) (map bare_item items))
    ≡ run_of joined_exp_height applied_exp_height missing_exp_height (map full_item items)
unfolding full_item
run_height_is at items =
    run-value exp_value joined_exp joined_exp_height node.joined-value applied_exp applied_exp_height
    node.applied-value (missing_exp at) missing_exp_height (ap run_height (node.unit-height at))
    (map bare_item items)
    ∙ ap (run_of joined_exp_height applied_exp_height missing_exp_height)
    (map-map (part_value exp_value) bare_item items)

pub full_exp-Constant : (c : Constant) (at : At)
    → full_exp (wexp.Constant c at) ≡ 1
full_exp-Constant c at =
    made _ _ _ (bare_exp-Constant c at) (node.constant-height c at)

pub full_exp-Long : (long : OpLong) (at : At)
    → full_exp (wexp.Long long at) ≡ 1
full_exp-Long long at =
    made _ _ _ (bare_exp-Long long at) (node.exp_height-Long long.long at)

pub full_exp-Record : (fields : List FullExpField) (at : At)
    → full_exp (wexp.Record fields at) ≡ suc (highest (map full_field fields))
unfolding full_field
full_exp-Record fields at =
    made _ _ _ (bare_exp-Record fields at) (node.exp_height-Record (map bare_field fields) at ∙ ap (λ hs. suc (highest hs)) (map-map exp_field_height bare_field fields))

pub full_exp-Unit : (at : At)
    → full_exp (wexp.Unit at) ≡ 1
full_exp-Unit at =
    made _ _ _ (bare_exp-Unit at) (node.unit-height at)

pub full_exp-Tuple : (parts : List FullExp) (at : At)
    → full_exp (wexp.Tuple parts at) ≡ suc (highest (map full_exp parts))
unfolding full_exp
full_exp-Tuple parts at =
    made _ _ _ (bare_exp-Tuple parts at) (node.exp_height-Record (exp_fields_from at 1 (map bare_exp parts)) at
    ∙ ap (λ hs. suc (highest hs)) (node.tuple-height at 1 (map bare_exp parts) ∙ map-map placed_height bare_exp parts))

pub full_exp-Sequence : (exps : List FullExp) (at : At)
    → full_exp (wexp.Sequence exps at) ≡ sequence_height (map full_exp exps)
unfolding full_exp
full_exp-Sequence exps at =
    made _ _ _ (bare_exp-Sequence exps at) (node.sequence-height at (map bare_exp exps) ∙ ap sequence_height (map-map placed_height bare_exp exps))

pub full_exp-Paren : (inner : FullExp) (at : At)
    → full_exp (wexp.Paren inner at) ≡ full_exp inner
unfolding full_exp
full_exp-Paren inner at =
    made _ _ _ (bare_exp-Paren inner at) (refl)

pub full_exp-List : (items : List FullExp) (at : At)
    → full_exp (wexp.List items at) ≡ exps_height (map full_exp items)
unfolding full_exp
full_exp-List items at =
    made _ _ _ (bare_exp-List items at) (node.list-height at (map bare_exp items) ∙ ap exps_height (map-map placed_height bare_exp items))

pub full_exp-Let : (decs : List FullDec) (exps : List FullExp) (at : At)
    → full_exp (wexp.Let decs exps at) ≡ suc (max (spec.decs_height decs) (sequence_height (map full_exp exps)))
unfolding full_exp
full_exp-Let decs exps at =
    made _ _ _ (bare_exp-Let decs exps at) (node.exp_height-Let (sequence_dec at (map bare_dec decs)) (body_exp at (map bare_exp exps)) at
    ∙ ap₂ (λ d e. suc (max d e)) (decs-height at decs)
    (node.body-height at (map bare_exp exps) ∙ ap sequence_height (map-map placed_height bare_exp exps)))

pub full_exp-Run : (items : List FullExpItem) (at : At)
    → full_exp (wexp.Run items at) ≡ (run_of joined_exp_height applied_exp_height missing_exp_height (map full_item items)).height
full_exp-Run items at =
    made _ _ _ (bare_exp-Run items at) (ap (λ (r : RunHeight). r.height) (run_height_is at items))

pub full_exp-Typed : (inner : FullExp) (t : FullTy) (at : At)
    → full_exp (wexp.Typed inner t at) ≡ suc (max (full_exp inner) (full_ty t))
unfolding full_exp full_ty
full_exp-Typed inner t at =
    made _ _ _ (bare_exp-Typed inner t at) (node.exp_height-Typed (bare_exp inner).exp (bare_ty t) at)

pub full_exp-AndAlso : (a b : FullExp) (at : At)
    → full_exp (wexp.AndAlso a b at) ≡ if_height (full_exp a) (full_exp b) 1
unfolding full_exp
full_exp-AndAlso a b at =
    made _ _ _ (bare_exp-AndAlso a b at) (node.and-height at (bare_exp a).exp (bare_exp b).exp)

pub full_exp-OrElse : (a b : FullExp) (at : At)
    → full_exp (wexp.OrElse a b at) ≡ if_height (full_exp a) 1 (full_exp b)
unfolding full_exp
full_exp-OrElse a b at =
    made _ _ _ (bare_exp-OrElse a b at) (node.or-height at (bare_exp a).exp (bare_exp b).exp)

pub full_exp-Handle : (inner : FullExp) (rules : List FullRule) (at : At)
    → full_exp (wexp.Handle inner rules at) ≡ suc (max (full_exp inner) (highest (map full_rule rules)))
unfolding full_exp full_rule
full_exp-Handle inner rules at =
    made _ _ _ (bare_exp-Handle inner rules at) (node.exp_height-Handle (bare_exp inner).exp (map bare_rule rules) at
    ∙ ap (λ h. suc (max (exp_height (bare_exp inner).exp) (highest h))) (map-map rule_height bare_rule rules))

pub full_exp-Raise : (inner : FullExp) (at : At)
    → full_exp (wexp.Raise inner at) ≡ suc (full_exp inner)
unfolding full_exp
full_exp-Raise inner at =
    made _ _ _ (bare_exp-Raise inner at) (node.exp_height-Raise (bare_exp inner).exp at)

pub full_exp-If : (a b c : FullExp) (at : At)
    → full_exp (wexp.If a b c at) ≡ if_height (full_exp a) (full_exp b) (full_exp c)
unfolding full_exp
full_exp-If a b c at =
    made _ _ _ (bare_exp-If a b c at) (node.if-height at (bare_exp a).exp (bare_exp b).exp (bare_exp c).exp)

pub full_exp-While : (a b : FullExp) (at : At)
    → full_exp (wexp.While a b at) ≡ while_height (full_exp a) (full_exp b)
unfolding full_exp
full_exp-While a b at =
    made _ _ _ (bare_exp-While a b at) (node.while-height at (bare_exp a).exp (bare_exp b).exp)

pub full_exp-Case : (subject : FullExp) (rules : List FullRule) (at : At)
    → full_exp (wexp.Case subject rules at) ≡ case_height (full_exp subject) (highest (map full_rule rules))
unfolding full_exp full_rule
full_exp-Case subject rules at =
    made _ _ _ (bare_exp-Case subject rules at) (node.case-height at (bare_exp subject).exp (map bare_rule rules)
    ∙ ap (λ h. case_height (exp_height (bare_exp subject).exp) (highest h)) (map-map rule_height bare_rule rules))

pub full_exp-Fn : (rules : List FullRule) (at : At)
    → full_exp (wexp.Fn rules at) ≡ suc (highest (map full_rule rules))
unfolding full_rule
full_exp-Fn rules at =
    made _ _ _ (bare_exp-Fn rules at) (node.exp_height-Fn (map bare_rule rules) at ∙ ap (λ hs. suc (highest hs)) (map-map rule_height bare_rule rules))

pub ruleset exp_forms = (
  full_exp-Constant,
  full_exp-Long,
  full_exp-Record,
  full_exp-Unit,
  full_exp-Tuple,
  full_exp-Sequence,
  full_exp-Paren,
  full_exp-List,
  full_exp-Let,
  full_exp-Run,
  full_exp-Typed,
  full_exp-AndAlso,
  full_exp-OrElse,
  full_exp-Handle,
  full_exp-Raise,
  full_exp-If,
  full_exp-While,
  full_exp-Case,
  full_exp-Fn,
)

-- ---- parts of expressions

pub full_field-kept : (part : FullExpField) → full_field part ≡ full_exp (out-FullExpField part).exp
unfolding full_exp full_field
full_field-kept part =
    ap exp_field_height (bare_field-kept part)
    ∙ node.field-height (out-FullExpField part).label (bare_exp (out-FullExpField part).exp).exp

pub full_rule_kept : (each : FullRule)
    → full_rule each ≡ max (full_pat (out-FullRule each).pat).height (full_exp (out-FullRule each).exp)
unfolding full_exp full_pat full_rule
full_rule_kept each =
    ap rule_height (bare_rule-kept each)
    ∙ node.rule-height (bare_pat (out-FullRule each).pat).pat (bare_exp (out-FullRule each).exp).exp

pub ruleset rule_form = (full_rule_kept)

pub full_item-Atom : (e : FullExp) → full_item (item.Atom e) ≡ Part.Atom (spec.run_exp e)
unfolding full_exp full_item
full_item-Atom e = ap (part_value exp_value) (bare_item-Atom e)

pub full_item-Operator : (name : Name) (fixity : Fixity)
    → full_item (item.Operator name fixity) ≡ Part.Operator (record { name = name; fixity = fixity })
unfolding full_item
full_item-Operator name fixity = ap (part_value exp_value) (bare_item-Operator name fixity)

pub ruleset exp_runs = (
  full_item-Atom,
  full_item-Operator,
  run_from-Atom,
  run_from-Operator,
  run_from-end,
)

-- ---- functions

infix-height : (left right : FullPat)
    → pats.placed_height (infix_pat (bare_pat left) (bare_pat right))
    ≡ infix_height (height_of_pat left) (height_of_pat right)
unfolding full_pat
infix-height left right = pair_pat-height (bare_pat left).at (bare_pat left).pat (bare_pat right).pat

head-height : (h : FullHead) → map pats.placed_height (head_args h) ≡ head_heights h
unfolding full_pat
head-height (head.Prefix name args) = map-map pats.placed_height bare_pat args
head-height (head.Infix left name right) = ap (λ p. p ∷ []) (infix-height left right)
head-height (head.ParenInfix left name right args) =
    ap₂ (λ p ps. p ∷ ps) (infix-height left right) (map-map pats.placed_height bare_pat args)

length-same : {A B : Type 0} (f : A → B) (xs : List A) → length (map f xs) ≡ length xs
length-same f [] = refl
length-same f (x ∷ xs) = ap suc (length-same f xs)

head-count : (h : FullHead) → length (head_args h) ≡ length (head_heights h)
head-count h = sym (length-same pats.placed_height (head_args h)) ∙ ap length (head-height h)

result-height : (t : Option FullTy) (body : FullExp)
    → exp_height (result_exp t (bare_exp body)) ≡ result_height t (full_exp body)
unfolding full_exp full_ty
result-height None body = refl
result-height (Some t) body = node.exp_height-Typed (bare_exp body).exp (bare_ty t) (bare_exp body).at

clause-height : (clause : BareClause)
    → rule_height (clause_rule clause)
    ≡ max (args_height (map pats.placed_height clause.args)) (exp_height clause.body)
clause-height clause =
    node.rule-height (args_pat clause.at clause.args) clause.body
    ∙ ap (λ h. max h (exp_height clause.body)) (node.args-height clause.at clause.args)

pub full_clause_kept : (clause : FullClause)
    → full_clause clause
    ≡ max (args_height (head_heights (out-FullClause clause).head))
    (result_height (out-FullClause clause).ty (full_exp (out-FullClause clause).body))
unfolding full_clause
full_clause_kept clause =
    let c = out-FullClause clause in
    ap (λ b. rule_height (clause_rule b)) (bare_clause-kept clause)
    ∙ clause-height (record { name = head_name c.head; args = head_args c.head; body = result_exp c.ty (bare_exp c.body); at = c.at })
    ∙ ap₂ (λ args body. max (args_height args) body) (head-height c.head) (result-height c.ty c.body)

pub ruleset clause_form = (full_clause_kept)

fun_of-height : (at : At) (name : Name) (args : List PlacedPat) (rules : List Rule)
    → rule_height (fun_of at name args rules) ≡ fun_of_height (length args) (highest (map rule_height rules))
fun_of-height at name args rules =
    let body = case_exp at (subject_exp at args) rules in
    node.rule-height (pat.Long (long_name name) (at_name name)) (curried at 1 (length args) body)
    ∙ ap₂ max (pat_height-Long (long_name name) (at_name name))
    (node.curried-height at 1 (length args) body
    ∙ ap (curried_height (length args)) (node.case-height at (subject_exp at args) rules
    ∙ ap (λ s. case_height s (highest (map rule_height rules))) (node.subject-height at args)))

fun-height : (at : At) (clauses : List FullClause)
    → rule_height (fun_rule at (map bare_clause clauses)) ≡ fun_height clauses
unfolding full_clause
fun-height at [] =
    node.rule-height (pat.Wild at) (exp.Fn [] at) ∙ ap₂ max (pat_height-Wild at) (node.exp_height-Fn [] at)
fun-height at (clause ∷ clauses) =
    let h = (out-FullClause clause).head in
    let b = bare_clause clause in
    let all = highest (map full_clause (clause ∷ clauses)) in
    fun_of-height at b.name b.args (map clause_rule (map bare_clause (clause ∷ clauses)))
    ∙ ap (λ hs. fun_of_height (length b.args) (highest hs))
    (map-map rule_height clause_rule (map bare_clause (clause ∷ clauses))
    ∙ map-map (λ c. rule_height (clause_rule c)) bare_clause (clause ∷ clauses))
    ∙ ap (λ (c : BareClause). fun_of_height (length c.args) all) (bare_clause-kept clause)
    ∙ ap (λ n. fun_of_height n all) (head-count h)

pub full_fun_bind_kept : (bind : FullFunBind) → full_fun_bind bind ≡ fun_height (out-FullFunBind bind).clauses
unfolding full_fun_bind
full_fun_bind_kept bind =
    ap rule_height (bare_fun_bind-kept bind) ∙ fun-height (out-FullFunBind bind).at (out-FullFunBind bind).clauses

pub ruleset fun_bind_form = (full_fun_bind_kept)

-- ---- declarations

pub full_val_bind_kept : (bind : FullValBind)
    → full_val_bind bind
    ≡ max (full_pat (out-FullValBind bind).pat).height (full_exp (out-FullValBind bind).exp)
unfolding full_exp full_pat full_val_bind
full_val_bind_kept bind =
    ap (λ (b : CountedRule). rule_height b.rule) (bare_val_bind-kept bind)
    ∙ node.rule-height (bare_pat (out-FullValBind bind).pat).pat (bare_exp (out-FullValBind bind).exp).exp

-- the bindings before the first `rec` and those from it on are all of them
abbrev counted : CountedRule → ℕ
counted bind = rule_height bind.rule

val-cases : (b : Bool) (bind : CountedRule) (binds : List CountedRule)
    → map rule_height (plain_rules binds) ++ map rule_height (map rule_of (rec_binds binds)) ≡ map counted binds
    → map rule_height (if b then (bind.rule ∷ plain_rules binds) else [])
    ++ map rule_height (map rule_of (if b then rec_binds binds else (bind ∷ binds)))
    ≡ counted bind ∷ map counted binds
val-cases true bind binds rest = ap (λ hs. counted bind ∷ hs) rest
val-cases false bind binds rest = map-map rule_height rule_of (bind ∷ binds)

val-all : (binds : List CountedRule)
    → map rule_height (plain_rules binds) ++ map rule_height (map rule_of (rec_binds binds)) ≡ map counted binds
val-all [] = refl
val-all (bind ∷ binds) = val-cases (bind.recs == 0) bind binds (val-all binds)

val-height : (binds : List CountedRule)
    → max (highest (map rule_height (plain_rules binds))) (highest (map rule_height (rec_rules binds)))
    ≡ highest (map counted binds)
val-height binds =
    sym (highest_with-is (highest (map rule_height (plain_rules binds))) (map rule_height (rec_rules binds)))
    ∙ sym (highest_with-append 0 (map rule_height (plain_rules binds)) (map rule_height (rec_rules binds)))
    ∙ ap highest (val-all binds)

-- the height of the one declaration that it becomes
made_dec : (d : FullDec) (at : At) (only : Dec) (height : ℕ) → bare_dec d ≡ placed_dec at (only ∷ [])
    → dec_height only ≡ height → full_dec d ≡ height
unfolding full_dec
made_dec d at only height is deep =
    ap (λ (p : PlacedDec). highest (map dec_height p.decs)) is ∙ alone (dec_height only) ∙ deep

made_none : (d : FullDec) (at : At) → bare_dec d ≡ placed_dec at [] → full_dec d ≡ 0
unfolding full_dec
made_none d at is = ap (λ (p : PlacedDec). highest (map dec_height p.decs)) is

pub full_dec-Val : (tyvars : List Name) (binds : List FullValBind) (at : At)
    → full_dec (wdec.Val tyvars binds at) ≡ suc (highest (map full_val_bind binds))
unfolding full_val_bind
full_dec-Val tyvars binds at =
    made_dec _ at _ _ (bare_dec-Val tyvars binds at) (node.dec_height-Val tyvars (plain_rules (map bare_val_bind binds)) (rec_rules (map bare_val_bind binds)) at
    ∙ ap suc (val-height (map bare_val_bind binds) ∙ ap highest (map-map counted bare_val_bind binds)))

pub full_dec-Fun : (tyvars : List Name) (binds : List FullFunBind) (at : At)
    → full_dec (wdec.Fun tyvars binds at) ≡ suc (highest (map full_fun_bind binds))
unfolding full_fun_bind
full_dec-Fun tyvars binds at =
    made_dec _ at _ _ (bare_dec-Fun tyvars binds at) (node.dec_height-Val tyvars [] (map bare_fun_bind binds) at
    ∙ ap suc (zero-max (highest (map rule_height (map bare_fun_bind binds)))
    ∙ ap highest (map-map rule_height bare_fun_bind binds)))

pub full_dec-Types : (binds : List FullTypBind) (at : At)
    → full_dec (wdec.Types binds at) ≡ suc (highest (map full_typ_bind binds))
unfolding full_typ_bind
full_dec-Types binds at =
    made_dec _ at _ _ (bare_dec-Types binds at) (node.dec_height-Types (map bare_typ_bind binds) at ∙ ap (λ hs. suc (highest hs)) (map-map typ_bind_height bare_typ_bind binds))

pub full_dec-Datatypes : (binds : List FullDatBind) (at : At)
    → full_dec (wdec.Datatypes binds at) ≡ suc (highest (map full_dat binds))
unfolding full_dat
full_dec-Datatypes binds at =
    made_dec _ at _ _ (bare_dec-Datatypes binds at) (node.dec_height-Datatypes (map bare_dat_bind binds) at ∙ ap (λ hs. suc (highest hs)) (map-map dat_height bare_dat_bind binds))

pub full_dec-Exceptions : (binds : List FullExBind) (at : At)
    → full_dec (wdec.Exceptions binds at) ≡ suc (highest (map full_ex binds))
unfolding full_ex
full_dec-Exceptions binds at =
    made_dec _ at _ _ (bare_dec-Exceptions binds at) (node.dec_height-Exceptions (map bare_ex_bind binds) at ∙ ap (λ hs. suc (highest hs)) (map-map ex_height bare_ex_bind binds))

pub full_dec-Replication : (name : Name) (long : LongName) (at : At)
    → full_dec (wdec.Replication name long at) ≡ 1
full_dec-Replication name long at =
    made_dec _ at _ _ (bare_dec-Replication name long at) (node.dec_height-Replication name long at)

pub full_dec-Local : (hidden decs : List FullDec) (at : At)
    → full_dec (wdec.Local hidden decs at) ≡ suc (max (spec.decs_height hidden) (spec.decs_height decs))
full_dec-Local hidden decs at =
    made_dec _ at _ _ (bare_dec-Local hidden decs at) (node.dec_height-Local (sequence_dec at (map bare_dec hidden)) (sequence_dec at (map bare_dec decs)) at
    ∙ ap₂ (λ a b. suc (max a b)) (decs-height at hidden) (decs-height at decs))

pub full_dec-Open : (longs : List LongName) (at : At)
    → full_dec (wdec.Open longs at) ≡ 1
full_dec-Open longs at =
    made_dec _ at _ _ (bare_dec-Open longs at) (node.dec_height-Open longs at)

pub full_dec-Infix : (strength : Option ℕ) (names : List Name) (at : At) → full_dec (wdec.Infix strength names at) ≡ 0
full_dec-Infix strength names at = made_none _ at (bare_dec-Infix strength names at)

pub full_dec-Infixr : (strength : Option ℕ) (names : List Name) (at : At) → full_dec (wdec.Infixr strength names at) ≡ 0
full_dec-Infixr strength names at = made_none _ at (bare_dec-Infixr strength names at)

pub full_dec-Nonfix : (names : List Name) (at : At) → full_dec (wdec.Nonfix names at) ≡ 0
full_dec-Nonfix names at = made_none _ at (bare_dec-Nonfix names at)

pub ruleset val_bind_form = (full_val_bind_kept)

pub ruleset dec_forms = (
  full_dec-Val,
  full_dec-Fun,
  full_dec-Types,
  full_dec-Datatypes,
  full_dec-Replication,
  full_dec-Exceptions,
  full_dec-Local,
  full_dec-Open,
  full_dec-Infix,
  full_dec-Infixr,
  full_dec-Nonfix,
)
