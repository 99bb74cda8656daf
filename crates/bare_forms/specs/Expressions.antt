-- Expressions and declarations of the core without their derived forms. Each expression is made with the place where it
-- is written, since what stands around it may begin there.
use Rattle.std.specs.Prelude.{ℕ, Bool, List, [], ◌∷◌, ◌++◌, map, Option, Some, None, if◌then◌else◌, ◌==◌}
use Rattle.std.specs.List.{flat_map}
use Rattle.std.specs.Option.{option_map}
use Rattle.sml_trees.specs.declared.name.At.{At}
use Rattle.sml_trees.specs.declared.name.Name.{Name}
use Rattle.sml_trees.specs.declared.full_ty.FullTy.{FullTy}
use Rattle.sml_trees.specs.declared.full_pat.FullPat.{FullPat}
use Rattle.sml_trees.specs.declared.full_exp.FullHead.{FullHead}
use Rattle.sml_trees.specs.declared.full_exp.FullHead.TheVariants as head
use Rattle.sml_trees.specs.declared.full_exp.FullDec.{FullDec}
use Rattle.sml_trees.specs.declared.full_exp.FullDec.TheOpen.{FullDec-F, FullExp-F, FullExpItem-F, FullClause-F, FullExpField-F, FullFunBind-F, FullRule-F, FullValBind-F}
use Rattle.sml_trees.specs.declared.full_exp.FullDec.TheFolds.{fold-FullDec, fold-FullExp, fold-FullExpItem, fold-FullClause, fold-FullExpField, fold-FullFunBind, fold-FullRule, fold-FullValBind}
use Rattle.sml_trees.specs.declared.full_exp.FullExp.{FullExp}
use Rattle.sml_trees.specs.declared.full_exp.FullExpItem.{FullExpItem}
use Rattle.sml_trees.specs.declared.full_exp.FullClause.{FullClause}
use Rattle.sml_trees.specs.declared.full_exp.FullExpField.{FullExpField}
use Rattle.sml_trees.specs.declared.full_exp.FullFunBind.{FullFunBind}
use Rattle.sml_trees.specs.declared.full_exp.FullRule.{FullRule}
use Rattle.sml_trees.specs.declared.full_exp.FullValBind.{FullValBind}
use Rattle.sml_trees.specs.declared.exp.Dec.{Dec}
use Rattle.sml_trees.specs.declared.exp.Dec.TheVariants as dec
use Rattle.sml_trees.specs.declared.exp.Exp.{Exp}
use Rattle.sml_trees.specs.declared.exp.Exp.TheVariants as exp
use Rattle.sml_trees.specs.declared.exp.ExpField.{ExpField}
use Rattle.sml_trees.specs.declared.exp.Rule.{Rule}
use Rattle.bare_forms.specs.declared.placed.PlacedPat.{PlacedPat}
use Rattle.bare_forms.specs.declared.placed.PlacedExp.{PlacedExp}
use Rattle.bare_forms.specs.declared.placed.CountedRule.{CountedRule}
use Rattle.bare_forms.specs.Types.{bare_ty, bare_typ_bind, bare_dat_bind, bare_ex_bind}
use Rattle.bare_forms.specs.Patterns.{placed, bare_pat, pair_pat}
use Rattle.bare_forms.specs.Runs.{Part, run_of}
use Rattle.bare_forms.specs.declared.placed.BareClause.{BareClause}
use Rattle.bare_forms.specs.Nodes.{placed_exp, rule, field, constant_exp, unit_exp, tuple_exp, case_exp, if_exp, or_else, and_also, while_exp, list_exp, sequence_exp, body_exp, joined_exp, applied_exp, missing_exp, fun_rule}

-- what a declaration becomes, none or one, and where it is written
pub record PlacedDec : Type 0 where
  pub at : At
  pub decs : List Dec

-- ---- parts of expressions

abbrev pub exp_field_level :
    FullExpField-F PlacedDec PlacedExp (Part PlacedExp) BareClause ExpField Rule Rule CountedRule
    → ExpField
exp_field_level part = field part.label part.exp.exp

abbrev pub exp_item_level :
    FullExpItem-F PlacedDec PlacedExp (Part PlacedExp) BareClause ExpField Rule Rule CountedRule
    → Part PlacedExp
exp_item_level (FullExpItem-F.Atom e) = Part.Atom e
exp_item_level (FullExpItem-F.Operator name fixity) = Part.Operator (record { name = name; fixity = fixity })

abbrev pub rule_level :
    FullRule-F PlacedDec PlacedExp (Part PlacedExp) BareClause ExpField Rule Rule CountedRule
    → Rule
rule_level each = rule (bare_pat each.pat).pat each.exp.exp

-- ---- clauses of `fun`

abbrev pub head_name : FullHead → Name
head_name (head.Prefix name args) = name.name
head_name (head.Infix left name right) = name
head_name (head.ParenInfix left name right args) = name

-- the two arguments of an infix name, as one pattern that begins at the first: The Definition, figure 20,
-- `(atpat1 vid atpat2) atpat3 ..` is `op vid (atpat1, atpat2) atpat3 ..`
abbrev pub infix_pat : PlacedPat → PlacedPat → PlacedPat
infix_pat left right = placed left.at (pair_pat left.at left.pat right.pat)

abbrev pub head_args : FullHead → List PlacedPat
head_args (head.Prefix name args) = map bare_pat args
head_args (head.Infix left name right) = infix_pat (bare_pat left) (bare_pat right) ∷ []
head_args (head.ParenInfix left name right args) =
    infix_pat (bare_pat left) (bare_pat right) ∷ map bare_pat args

-- `exp : ty`, which begins at `exp`
abbrev pub result_exp : Option FullTy → PlacedExp → Exp
result_exp None body = body.exp
result_exp (Some ty) body = exp.Typed body.exp (bare_ty ty) body.at

-- a clause by its head, the type of its result, its place and its body
abbrev pub clause_of : FullHead → Option FullTy → At → PlacedExp → BareClause
clause_of head ty at body = record {
  name = head_name head;
  args = head_args head;
  body = result_exp ty body;
  at = at;
}

abbrev pub clause_level :
    FullClause-F PlacedDec PlacedExp (Part PlacedExp) BareClause ExpField Rule Rule CountedRule
    → BareClause
clause_level clause = clause_of clause.head clause.ty clause.at clause.body

abbrev pub fun_bind_level :
    FullFunBind-F PlacedDec PlacedExp (Part PlacedExp) BareClause ExpField Rule Rule CountedRule
    → Rule
fun_bind_level bind = fun_rule bind.at bind.clauses

-- ---- bindings

abbrev pub val_bind_level :
    FullValBind-F PlacedDec PlacedExp (Part PlacedExp) BareClause ExpField Rule Rule CountedRule
    → CountedRule
val_bind_level bind = record { recs = bind.recs; rule = rule (bare_pat bind.pat).pat bind.exp.exp }

-- the bindings before the first `rec`, and those from it on
abbrev pub plain_rules : List CountedRule → List Rule
plain_rules [] = []
plain_rules (bind ∷ binds) = if bind.recs == 0 then (bind.rule ∷ plain_rules binds) else []

abbrev pub rec_binds : List CountedRule → List CountedRule
rec_binds [] = []
rec_binds (bind ∷ binds) = if bind.recs == 0 then rec_binds binds else (bind ∷ binds)

abbrev pub rule_of : CountedRule → Rule
rule_of bind = bind.rule

abbrev pub rec_rules : List CountedRule → List Rule
rec_rules binds = map rule_of (rec_binds binds)

-- ---- declarations

-- declarations one after another; the node stands where the phrase around them stands
abbrev pub decs_of : PlacedDec → List Dec
decs_of each = each.decs

abbrev pub sequence_dec : At → List PlacedDec → Dec
sequence_dec at decs = dec.Sequence (flat_map decs_of decs) at

abbrev pub placed_dec : At → List Dec → PlacedDec
placed_dec at decs = record { at = at; decs = decs }

-- The Definition, Appendix A, declarations: `fun tyvarseq fvalbind` is `val tyvarseq rec ..`. What only says how
-- operators bind becomes nothing.
abbrev pub dec_level :
    FullDec-F PlacedDec PlacedExp (Part PlacedExp) BareClause ExpField Rule Rule CountedRule
    → PlacedDec
dec_level (FullDec-F.Val tyvars binds at) =
    placed_dec at (dec.Val tyvars (plain_rules binds) (rec_rules binds) at ∷ [])
dec_level (FullDec-F.Fun tyvars binds at) = placed_dec at (dec.Val tyvars [] binds at ∷ [])
dec_level (FullDec-F.Types binds at) = placed_dec at (dec.Types (map bare_typ_bind binds) at ∷ [])
dec_level (FullDec-F.Datatypes binds at) = placed_dec at (dec.Datatypes (map bare_dat_bind binds) at ∷ [])
dec_level (FullDec-F.Replication name long at) = placed_dec at (dec.Replication name long at ∷ [])
dec_level (FullDec-F.Exceptions binds at) = placed_dec at (dec.Exceptions (map bare_ex_bind binds) at ∷ [])
dec_level (FullDec-F.Local hidden decs at) =
    placed_dec at (dec.Local (sequence_dec at hidden) (sequence_dec at decs) at ∷ [])
dec_level (FullDec-F.Open longs at) = placed_dec at (dec.Open longs at ∷ [])
dec_level (FullDec-F.Infix strength names at) = placed_dec at []
dec_level (FullDec-F.Infixr strength names at) = placed_dec at []
dec_level (FullDec-F.Nonfix names at) = placed_dec at []

-- ---- expressions

-- The Definition, Appendix A, expressions: `()` is `{ }`, and `(exp1, .., expn)` is `{1 = exp1, .., n = expn}`.
-- Parentheses and `op` vanish.
abbrev pub exp_level :
    FullExp-F PlacedDec PlacedExp (Part PlacedExp) BareClause ExpField Rule Rule CountedRule
    → PlacedExp
exp_level (FullExp-F.Constant c at) = placed_exp at (constant_exp c at)
exp_level (FullExp-F.Long long at) = placed_exp at (exp.Long long.long at)
exp_level (FullExp-F.Record fields at) = placed_exp at (exp.Record fields at)
exp_level (FullExp-F.Unit at) = placed_exp at (unit_exp at)
exp_level (FullExp-F.Tuple parts at) = placed_exp at (tuple_exp at parts)
exp_level (FullExp-F.Sequence exps at) = placed_exp at (sequence_exp at exps)
exp_level (FullExp-F.Paren inner at) = placed_exp at inner.exp
exp_level (FullExp-F.List items at) = placed_exp at (list_exp at items)
exp_level (FullExp-F.Let decs exps at) = placed_exp at (exp.Let (sequence_dec at decs) (body_exp at exps) at)
exp_level (FullExp-F.Run parts at) = placed_exp at (run_of joined_exp applied_exp (missing_exp at) parts).exp
exp_level (FullExp-F.Typed inner ty at) = placed_exp at (exp.Typed inner.exp (bare_ty ty) at)
exp_level (FullExp-F.AndAlso a b at) = placed_exp at (and_also at a.exp b.exp)
exp_level (FullExp-F.OrElse a b at) = placed_exp at (or_else at a.exp b.exp)
exp_level (FullExp-F.Handle inner rules at) = placed_exp at (exp.Handle inner.exp rules at)
exp_level (FullExp-F.Raise inner at) = placed_exp at (exp.Raise inner.exp at)
exp_level (FullExp-F.If a b c at) = placed_exp at (if_exp at a.exp b.exp c.exp)
exp_level (FullExp-F.While a b at) = placed_exp at (while_exp at a.exp b.exp)
exp_level (FullExp-F.Case subject rules at) = placed_exp at (case_exp at subject.exp rules)
exp_level (FullExp-F.Fn rules at) = placed_exp at (exp.Fn rules at)

-- ---- what each becomes; `proofs/ExpLevels.antt` has an equation for each form

-- a declaration
unfoldable pub bare_dec : FullDec → PlacedDec
bare_dec = fold-FullDec PlacedDec PlacedExp (Part PlacedExp) BareClause ExpField Rule Rule CountedRule
    dec_level exp_level exp_item_level clause_level exp_field_level fun_bind_level rule_level val_bind_level

-- an expression
unfoldable pub bare_exp : FullExp → PlacedExp
bare_exp = fold-FullExp PlacedDec PlacedExp (Part PlacedExp) BareClause ExpField Rule Rule CountedRule
    dec_level exp_level exp_item_level clause_level exp_field_level fun_bind_level rule_level val_bind_level

-- a part of a run
unfoldable pub bare_item : FullExpItem → Part PlacedExp
bare_item = fold-FullExpItem PlacedDec PlacedExp (Part PlacedExp) BareClause ExpField Rule Rule CountedRule
    dec_level exp_level exp_item_level clause_level exp_field_level fun_bind_level rule_level val_bind_level

-- a clause
unfoldable pub bare_clause : FullClause → BareClause
bare_clause = fold-FullClause PlacedDec PlacedExp (Part PlacedExp) BareClause ExpField Rule Rule CountedRule
    dec_level exp_level exp_item_level clause_level exp_field_level fun_bind_level rule_level val_bind_level

-- a field of a record
unfoldable pub bare_field : FullExpField → ExpField
bare_field = fold-FullExpField PlacedDec PlacedExp (Part PlacedExp) BareClause ExpField Rule Rule CountedRule
    dec_level exp_level exp_item_level clause_level exp_field_level fun_bind_level rule_level val_bind_level

-- a function of a `fun`
unfoldable pub bare_fun_bind : FullFunBind → Rule
bare_fun_bind = fold-FullFunBind PlacedDec PlacedExp (Part PlacedExp) BareClause ExpField Rule Rule CountedRule
    dec_level exp_level exp_item_level clause_level exp_field_level fun_bind_level rule_level val_bind_level

-- a rule
unfoldable pub bare_rule : FullRule → Rule
bare_rule = fold-FullRule PlacedDec PlacedExp (Part PlacedExp) BareClause ExpField Rule Rule CountedRule
    dec_level exp_level exp_item_level clause_level exp_field_level fun_bind_level rule_level val_bind_level

-- a binding of a `val`
unfoldable pub bare_val_bind : FullValBind → CountedRule
bare_val_bind = fold-FullValBind PlacedDec PlacedExp (Part PlacedExp) BareClause ExpField Rule Rule CountedRule
    dec_level exp_level exp_item_level clause_level exp_field_level fun_bind_level rule_level val_bind_level
