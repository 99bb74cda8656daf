-- The lists of expressions and declarations of the core in which no name may stand twice. What `val` and `fun`
-- bind twice is refused later, by the rules of types.
use Rattle.std.specs.Prelude.{List, [], ◌∷◌, ◌++◌, map, Option, Some, None}
use Rattle.sml_trees.specs.declared.name.At.{At}
use Rattle.sml_trees.specs.declared.full_pat.FullPat.{FullPat}
use Rattle.sml_trees.specs.declared.full_exp.FullHead.{FullHead}
use Rattle.sml_trees.specs.declared.full_exp.FullHead.TheVariants as head
use Rattle.sml_trees.specs.declared.full_exp.FullDec.{FullDec}
use Rattle.sml_trees.specs.declared.full_exp.FullDec.TheOpen.{FullDec-F, FullExp-F, FullExpItem-F, FullClause-F, FullExpField-F, FullFunBind-F, FullRule-F, FullValBind-F}
use Rattle.sml_trees.specs.declared.full_exp.FullDec.TheFolds.{fold-FullDec, fold-FullExp, fold-FullExpItem, fold-FullClause, fold-FullExpField, fold-FullFunBind, fold-FullRule, fold-FullValBind}
use Rattle.sml_trees.specs.declared.full_exp.FullExp.{FullExp}
use Rattle.sml_trees.specs.declared.full_exp.FullExpItem.{FullExpItem}
use Rattle.sml_trees.specs.declared.full_exp.FullClause.{FullClause}
use Rattle.sml_trees.specs.declared.full_exp.FullExpField.{FullExpField}
use Rattle.sml_trees.specs.declared.full_exp.FullFunBind.{FullFunBind}
use Rattle.sml_trees.specs.declared.full_exp.FullRule.{FullRule}
use Rattle.sml_trees.specs.declared.full_exp.FullValBind.{FullValBind}
use Rattle.repeated_names.specs.Repeats.{Member, member, repeats_in, all_repeats}
use Rattle.repeated_names.specs.RepeatedTypes.{ty_repeats, optional_ty, tyvar_repeats, typ_bind_member, dat_repeats, ex_member, pat_repeats}

-- ---- expressions

abbrev pub exp_level : FullExp-F (List At) (List At) (List At) (List At) Member (List At) (List At) (List At) → List At
exp_level (FullExp-F.Constant c at) = []
exp_level (FullExp-F.Long long at) = []
exp_level (FullExp-F.Record fields at) = repeats_in fields
exp_level (FullExp-F.Unit at) = []
exp_level (FullExp-F.Tuple parts at) = all_repeats parts
exp_level (FullExp-F.Sequence exps at) = all_repeats exps
exp_level (FullExp-F.Paren inner at) = inner
exp_level (FullExp-F.List items at) = all_repeats items
exp_level (FullExp-F.Let decs exps at) = all_repeats decs ++ all_repeats exps
exp_level (FullExp-F.Run parts at) = all_repeats parts
exp_level (FullExp-F.Typed inner ty at) = inner ++ ty_repeats ty
exp_level (FullExp-F.AndAlso a b at) = a ++ b
exp_level (FullExp-F.OrElse a b at) = a ++ b
exp_level (FullExp-F.Handle inner rules at) = inner ++ all_repeats rules
exp_level (FullExp-F.Raise inner at) = inner
exp_level (FullExp-F.If a b c at) = a ++ (b ++ c)
exp_level (FullExp-F.While a b at) = a ++ b
exp_level (FullExp-F.Case subject rules at) = subject ++ all_repeats rules
exp_level (FullExp-F.Fn rules at) = all_repeats rules

abbrev pub exp_item_level : FullExpItem-F (List At) (List At) (List At) (List At) Member (List At) (List At) (List At) → List At
exp_item_level (FullExpItem-F.Atom e) = e
exp_item_level (FullExpItem-F.Operator name fixity) = []

abbrev pub exp_field_level : FullExpField-F (List At) (List At) (List At) (List At) Member (List At) (List At) (List At) → Member
exp_field_level field = member field.label field.exp

abbrev pub rule_level : FullRule-F (List At) (List At) (List At) (List At) Member (List At) (List At) (List At) → List At
rule_level rule = pat_repeats rule.pat ++ rule.exp

-- ---- bindings

abbrev pub head_repeats : FullHead → List At
head_repeats (head.Prefix name args) = all_repeats (map pat_repeats args)
head_repeats (head.Infix left name right) = pat_repeats left ++ pat_repeats right
head_repeats (head.ParenInfix left name right args) =
    pat_repeats left ++ (pat_repeats right ++ all_repeats (map pat_repeats args))

abbrev pub clause_level : FullClause-F (List At) (List At) (List At) (List At) Member (List At) (List At) (List At) → List At
clause_level clause = head_repeats clause.head ++ (optional_ty clause.ty ++ clause.body)

abbrev pub fun_bind_level : FullFunBind-F (List At) (List At) (List At) (List At) Member (List At) (List At) (List At) → List At
fun_bind_level bind = all_repeats bind.clauses

abbrev pub val_bind_level : FullValBind-F (List At) (List At) (List At) (List At) Member (List At) (List At) (List At) → List At
val_bind_level bind = pat_repeats bind.pat ++ bind.exp

-- ---- declarations

abbrev pub dec_level : FullDec-F (List At) (List At) (List At) (List At) Member (List At) (List At) (List At) → List At
dec_level (FullDec-F.Val tyvars binds at) = tyvar_repeats tyvars ++ all_repeats binds
dec_level (FullDec-F.Fun tyvars binds at) = tyvar_repeats tyvars ++ all_repeats binds
dec_level (FullDec-F.Types binds at) = repeats_in (map typ_bind_member binds)
dec_level (FullDec-F.Datatypes binds at) = dat_repeats binds
dec_level (FullDec-F.Replication name long at) = []
dec_level (FullDec-F.Exceptions binds at) = repeats_in (map ex_member binds)
dec_level (FullDec-F.Local hidden decs at) = all_repeats hidden ++ all_repeats decs
dec_level (FullDec-F.Open longs at) = []
dec_level (FullDec-F.Infix strength names at) = []
dec_level (FullDec-F.Infixr strength names at) = []
dec_level (FullDec-F.Nonfix names at) = []

-- ---- each phrase

abbrev pub dec_repeats : FullDec → List At
dec_repeats = fold-FullDec (List At) (List At) (List At) (List At) Member (List At) (List At) (List At)
    dec_level exp_level exp_item_level clause_level exp_field_level fun_bind_level rule_level val_bind_level

abbrev pub exp_repeats : FullExp → List At
exp_repeats = fold-FullExp (List At) (List At) (List At) (List At) Member (List At) (List At) (List At)
    dec_level exp_level exp_item_level clause_level exp_field_level fun_bind_level rule_level val_bind_level

abbrev pub exp_item_repeats : FullExpItem → List At
exp_item_repeats = fold-FullExpItem (List At) (List At) (List At) (List At) Member (List At) (List At) (List At)
    dec_level exp_level exp_item_level clause_level exp_field_level fun_bind_level rule_level val_bind_level

abbrev pub clause_repeats : FullClause → List At
clause_repeats = fold-FullClause (List At) (List At) (List At) (List At) Member (List At) (List At) (List At)
    dec_level exp_level exp_item_level clause_level exp_field_level fun_bind_level rule_level val_bind_level

abbrev pub exp_field_member : FullExpField → Member
exp_field_member = fold-FullExpField (List At) (List At) (List At) (List At) Member (List At) (List At) (List At)
    dec_level exp_level exp_item_level clause_level exp_field_level fun_bind_level rule_level val_bind_level

abbrev pub fun_bind_repeats : FullFunBind → List At
fun_bind_repeats = fold-FullFunBind (List At) (List At) (List At) (List At) Member (List At) (List At) (List At)
    dec_level exp_level exp_item_level clause_level exp_field_level fun_bind_level rule_level val_bind_level

abbrev pub rule_repeats : FullRule → List At
rule_repeats = fold-FullRule (List At) (List At) (List At) (List At) Member (List At) (List At) (List At)
    dec_level exp_level exp_item_level clause_level exp_field_level fun_bind_level rule_level val_bind_level

abbrev pub val_bind_repeats : FullValBind → List At
val_bind_repeats = fold-FullValBind (List At) (List At) (List At) (List At) Member (List At) (List At) (List At)
    dec_level exp_level exp_item_level clause_level exp_field_level fun_bind_level rule_level val_bind_level
