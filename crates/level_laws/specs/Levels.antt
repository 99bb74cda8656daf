-- How many levels a tree nests, as it is written: each type, pattern, expression, declaration, signature expression,
-- specification, structure expression and declaration of the top level is one level more than the highest of those in
-- it. Names, fields, rules, bindings, heads of clauses and parts of a run are none; parentheses and a run are one each.
use Rattle.std.specs.Prelude.{ℕ, suc, max, List, map, Option, Some, None}
use Rattle.sml_trees.specs.declared.full_pat.FullPat.{FullPat}
use Rattle.sml_trees.specs.declared.full_pat.FullPat.TheOpen.{FullPat-F, FullPatItem-F, FullPatField-F}
use Rattle.sml_trees.specs.declared.full_pat.FullPat.TheFolds.{fold-FullPat, fold-FullPatItem, fold-FullPatField}
use Rattle.sml_trees.specs.declared.full_pat.FullPatItem.{FullPatItem}
use Rattle.sml_trees.specs.declared.full_pat.FullPatField.{FullPatField}
use Rattle.sml_trees.specs.declared.full_ty.FullTy.{FullTy}
use Rattle.sml_trees.specs.declared.full_ty.FullTy.TheOpen.{FullTy-F, FullTyField-F}
use Rattle.sml_trees.specs.declared.full_ty.FullTy.TheFolds.{fold-FullTy, fold-FullTyField}
use Rattle.sml_trees.specs.declared.full_ty.FullTyField.{FullTyField}
use Rattle.sml_trees.specs.declared.full_ty.FullTypBind.{FullTypBind}
use Rattle.sml_trees.specs.declared.full_ty.FullConBind.{FullConBind}
use Rattle.sml_trees.specs.declared.full_ty.FullDatBind.{FullDatBind}
use Rattle.sml_trees.specs.declared.full_ty.FullExBind.{FullExBind}
use Rattle.sml_trees.specs.declared.full_ty.FullExBody.{FullExBody}
use Rattle.sml_trees.specs.declared.full_ty.FullExBody.TheVariants as body
use Rattle.sml_trees.specs.declared.full_exp.FullHead.{FullHead}
use Rattle.sml_trees.specs.declared.full_exp.FullHead.TheVariants as head
use Rattle.sml_trees.specs.declared.full_exp.FullDec.{FullDec}
use Rattle.sml_trees.specs.declared.full_exp.FullDec.TheOpen.{FullDec-F, FullExp-F, FullExpItem-F, FullClause-F, FullExpField-F, FullFunBind-F, FullRule-F, FullValBind-F}
use Rattle.sml_trees.specs.declared.full_exp.FullDec.TheFolds.{fold-FullDec, fold-FullExp, fold-FullExpItem, fold-FullClause, fold-FullExpField, fold-FullFunBind, fold-FullRule, fold-FullValBind}
use Rattle.sml_trees.specs.declared.full_exp.FullExp.{FullExp}
use Rattle.sml_trees.specs.declared.full_exp.FullExpItem.{FullExpItem}
use Rattle.sml_trees.specs.declared.full_exp.FullClause.{FullClause}
use Rattle.sml_trees.specs.declared.full_exp.FullExpField.{FullExpField}
use Rattle.sml_trees.specs.declared.full_exp.FullFunBind.{FullFunBind}
use Rattle.sml_trees.specs.declared.full_exp.FullRule.{FullRule}
use Rattle.sml_trees.specs.declared.full_exp.FullValBind.{FullValBind}
use Rattle.sml_trees.specs.declared.full_ty.FullTypDesc.{FullTypDesc}
use Rattle.sml_trees.specs.declared.full_ty.FullValDesc.{FullValDesc}
use Rattle.sml_trees.specs.declared.full_sig.FullSeal.{FullSeal}
use Rattle.sml_trees.specs.declared.full_sig.FullSigBind.{FullSigBind}
use Rattle.sml_trees.specs.declared.full_sig.FullSigExp.{FullSigExp}
use Rattle.sml_trees.specs.declared.full_sig.FullSigExp.TheOpen.{FullSigExp-F, FullSpec-F, FullSigBind-F}
use Rattle.sml_trees.specs.declared.full_sig.FullSigExp.TheFolds.{fold-FullSigExp, fold-FullSpec, fold-FullSigBind}
use Rattle.sml_trees.specs.declared.full_sig.FullSpec.{FullSpec}
use Rattle.sml_trees.specs.declared.full_sig.FullWhere.{FullWhere}
use Rattle.sml_trees.specs.declared.full_str.FullStrBind.{FullStrBind}
use Rattle.sml_trees.specs.declared.full_str.FullStrDec.{FullStrDec}
use Rattle.sml_trees.specs.declared.full_str.FullStrDec.TheOpen.{FullStrDec-F, FullStrExp-F, FullStrBind-F}
use Rattle.sml_trees.specs.declared.full_str.FullStrDec.TheFolds.{fold-FullStrDec, fold-FullStrExp, fold-FullStrBind}
use Rattle.sml_trees.specs.declared.full_str.FullStrExp.{FullStrExp}
use Rattle.sml_trees.specs.declared.full_unit.FullFunctorBind.{FullFunctorBind}
use Rattle.sml_trees.specs.declared.full_unit.FullFunsigBind.{FullFunsigBind}
use Rattle.sml_trees.specs.declared.full_unit.FullParam.{FullParam}
use Rattle.sml_trees.specs.declared.full_unit.FullParam.TheVariants as param
use Rattle.sml_trees.specs.declared.full_unit.FullTopDec.{FullTopDec}
use Rattle.sml_trees.specs.declared.full_unit.FullTopDec.TheVariants as top
use Rattle.sml_trees.specs.declared.full_unit.FullUnit.{FullUnit}
use Rattle.tree_heights.specs.Heights.{highest}

-- the levels of the highest of several trees
abbrev pub all_levels : {A : Type 0} → (A → ℕ) → List A → ℕ
all_levels levels trees = highest (map levels trees)

-- the levels of what may be absent
abbrev pub if_levels : {A : Type 0} → (A → ℕ) → Option A → ℕ
if_levels levels None = 0
if_levels levels (Some tree) = levels tree

-- ---- types

abbrev pub ty_step : FullTy-F ℕ ℕ → ℕ
ty_step (FullTy-F.Var name at) = 1
ty_step (FullTy-F.Record fields at) = suc (highest fields)
ty_step (FullTy-F.Con long at) = 1
ty_step (FullTy-F.Applied arg long at) = suc arg
ty_step (FullTy-F.AppliedAll args long at) = suc (highest args)
ty_step (FullTy-F.Tuple parts at) = suc (highest parts)
ty_step (FullTy-F.Arrow from to at) = suc (max from to)
ty_step (FullTy-F.Paren inner at) = suc inner

abbrev pub ty_field_step : FullTyField-F ℕ ℕ → ℕ
ty_field_step field = field.ty

-- how many levels a type nests
unfoldable pub ty_levels : FullTy → ℕ
ty_levels = fold-FullTy ℕ ℕ ty_step ty_field_step

-- .. a field of a record type
unfoldable pub ty_field_levels : FullTyField → ℕ
ty_field_levels = fold-FullTyField ℕ ℕ ty_step ty_field_step

-- ---- patterns

abbrev pub pat_step : FullPat-F ℕ ℕ ℕ → ℕ
pat_step (FullPat-F.Wild at) = 1
pat_step (FullPat-F.Constant value at) = 1
pat_step (FullPat-F.Long id at) = 1
pat_step (FullPat-F.Record fields at) = suc (highest fields)
pat_step (FullPat-F.Unit at) = 1
pat_step (FullPat-F.Tuple parts at) = suc (highest parts)
pat_step (FullPat-F.Paren inner at) = suc inner
pat_step (FullPat-F.List items at) = suc (highest items)
pat_step (FullPat-F.Run items at) = suc (highest items)
pat_step (FullPat-F.Typed inner ty at) = suc (max inner (ty_levels ty))
pat_step (FullPat-F.As called ty inner at) = suc (max (if_levels ty_levels ty) inner)

-- a run is one level above its operands
abbrev pub pat_item_step : FullPatItem-F ℕ ℕ ℕ → ℕ
pat_item_step (FullPatItem-F.Atom pat) = pat
pat_item_step (FullPatItem-F.Operator called fixity) = 0

abbrev pub pat_field_step : FullPatField-F ℕ ℕ ℕ → ℕ
pat_field_step (FullPatField-F.Labelled label pat) = pat
pat_field_step (FullPatField-F.Named called ty pat) = max (if_levels ty_levels ty) (if_levels (λ levels. levels) pat)

-- how many levels a pattern nests
unfoldable pub pat_levels : FullPat → ℕ
pat_levels = fold-FullPat ℕ ℕ ℕ pat_step pat_field_step pat_item_step

-- .. a part of a run
unfoldable pub pat_item_levels : FullPatItem → ℕ
pat_item_levels = fold-FullPatItem ℕ ℕ ℕ pat_step pat_field_step pat_item_step

-- .. a field of a record pattern
unfoldable pub pat_field_levels : FullPatField → ℕ
pat_field_levels = fold-FullPatField ℕ ℕ ℕ pat_step pat_field_step pat_item_step

-- ---- bindings of names and types

abbrev pub typ_bind_levels : FullTypBind → ℕ
typ_bind_levels bind = ty_levels bind.ty

abbrev pub con_bind_levels : FullConBind → ℕ
con_bind_levels con = if_levels ty_levels con.arg

abbrev pub dat_bind_levels : FullDatBind → ℕ
dat_bind_levels bind = all_levels con_bind_levels bind.cons

abbrev pub ex_body_levels : FullExBody → ℕ
ex_body_levels body.Plain = 0
ex_body_levels (body.Of ty) = ty_levels ty
ex_body_levels (body.Copy long) = 0

abbrev pub ex_bind_levels : FullExBind → ℕ
ex_bind_levels bind = ex_body_levels bind.body

-- ---- expressions and declarations

-- the head of a clause is no level above its patterns
abbrev pub head_levels : FullHead → ℕ
head_levels (head.Prefix called args) = all_levels pat_levels args
head_levels (head.Infix left called right) = max (pat_levels left) (pat_levels right)
head_levels (head.ParenInfix left called right args) =
    max (max (pat_levels left) (pat_levels right)) (all_levels pat_levels args)

abbrev pub dec_step : FullDec-F ℕ ℕ ℕ ℕ ℕ ℕ ℕ ℕ → ℕ
dec_step (FullDec-F.Val tyvars binds at) = suc (highest binds)
dec_step (FullDec-F.Fun tyvars binds at) = suc (highest binds)
dec_step (FullDec-F.Types binds at) = suc (all_levels typ_bind_levels binds)
dec_step (FullDec-F.Datatypes binds at) = suc (all_levels dat_bind_levels binds)
dec_step (FullDec-F.Replication name long at) = 1
dec_step (FullDec-F.Exceptions binds at) = suc (all_levels ex_bind_levels binds)
dec_step (FullDec-F.Local hidden decs at) = suc (max (highest hidden) (highest decs))
dec_step (FullDec-F.Open longs at) = 1
dec_step (FullDec-F.Infix strength names at) = 1
dec_step (FullDec-F.Infixr strength names at) = 1
dec_step (FullDec-F.Nonfix names at) = 1

abbrev pub exp_step : FullExp-F ℕ ℕ ℕ ℕ ℕ ℕ ℕ ℕ → ℕ
exp_step (FullExp-F.Constant value at) = 1
exp_step (FullExp-F.Long id at) = 1
exp_step (FullExp-F.Record fields at) = suc (highest fields)
exp_step (FullExp-F.Unit at) = 1
exp_step (FullExp-F.Tuple parts at) = suc (highest parts)
exp_step (FullExp-F.Sequence exps at) = suc (highest exps)
exp_step (FullExp-F.Paren inner at) = suc inner
exp_step (FullExp-F.List items at) = suc (highest items)
exp_step (FullExp-F.Let decs exps at) = suc (max (highest decs) (highest exps))
exp_step (FullExp-F.Run items at) = suc (highest items)
exp_step (FullExp-F.Typed inner ty at) = suc (max inner (ty_levels ty))
exp_step (FullExp-F.AndAlso left right at) = suc (max left right)
exp_step (FullExp-F.OrElse left right at) = suc (max left right)
exp_step (FullExp-F.Handle inner rules at) = suc (max inner (highest rules))
exp_step (FullExp-F.Raise inner at) = suc inner
exp_step (FullExp-F.If test right wrong at) = suc (max (max test right) wrong)
exp_step (FullExp-F.While test body at) = suc (max test body)
exp_step (FullExp-F.Case subject rules at) = suc (max subject (highest rules))
exp_step (FullExp-F.Fn rules at) = suc (highest rules)

abbrev pub exp_item_step : FullExpItem-F ℕ ℕ ℕ ℕ ℕ ℕ ℕ ℕ → ℕ
exp_item_step (FullExpItem-F.Atom exp) = exp
exp_item_step (FullExpItem-F.Operator called fixity) = 0

abbrev pub clause_step : FullClause-F ℕ ℕ ℕ ℕ ℕ ℕ ℕ ℕ → ℕ
clause_step clause = max (max (head_levels clause.head) (if_levels ty_levels clause.ty)) clause.body

abbrev pub exp_field_step : FullExpField-F ℕ ℕ ℕ ℕ ℕ ℕ ℕ ℕ → ℕ
exp_field_step field = field.exp

abbrev pub fun_bind_step : FullFunBind-F ℕ ℕ ℕ ℕ ℕ ℕ ℕ ℕ → ℕ
fun_bind_step bind = highest bind.clauses

abbrev pub rule_step : FullRule-F ℕ ℕ ℕ ℕ ℕ ℕ ℕ ℕ → ℕ
rule_step rule = max (pat_levels rule.pat) rule.exp

abbrev pub val_bind_step : FullValBind-F ℕ ℕ ℕ ℕ ℕ ℕ ℕ ℕ → ℕ
val_bind_step bind = max (pat_levels bind.pat) bind.exp

-- how many levels a declaration of the core nests
unfoldable pub dec_levels : FullDec → ℕ
dec_levels = fold-FullDec ℕ ℕ ℕ ℕ ℕ ℕ ℕ ℕ
    dec_step exp_step exp_item_step clause_step exp_field_step fun_bind_step rule_step val_bind_step

-- .. an expression
unfoldable pub exp_levels : FullExp → ℕ
exp_levels = fold-FullExp ℕ ℕ ℕ ℕ ℕ ℕ ℕ ℕ
    dec_step exp_step exp_item_step clause_step exp_field_step fun_bind_step rule_step val_bind_step

-- .. a part of a run
unfoldable pub exp_item_levels : FullExpItem → ℕ
exp_item_levels = fold-FullExpItem ℕ ℕ ℕ ℕ ℕ ℕ ℕ ℕ
    dec_step exp_step exp_item_step clause_step exp_field_step fun_bind_step rule_step val_bind_step

-- .. a clause
unfoldable pub clause_levels : FullClause → ℕ
clause_levels = fold-FullClause ℕ ℕ ℕ ℕ ℕ ℕ ℕ ℕ
    dec_step exp_step exp_item_step clause_step exp_field_step fun_bind_step rule_step val_bind_step

-- .. a field of a record
unfoldable pub exp_field_levels : FullExpField → ℕ
exp_field_levels = fold-FullExpField ℕ ℕ ℕ ℕ ℕ ℕ ℕ ℕ
    dec_step exp_step exp_item_step clause_step exp_field_step fun_bind_step rule_step val_bind_step

-- .. a function
unfoldable pub fun_bind_levels : FullFunBind → ℕ
fun_bind_levels = fold-FullFunBind ℕ ℕ ℕ ℕ ℕ ℕ ℕ ℕ
    dec_step exp_step exp_item_step clause_step exp_field_step fun_bind_step rule_step val_bind_step

-- .. a rule
unfoldable pub rule_levels : FullRule → ℕ
rule_levels = fold-FullRule ℕ ℕ ℕ ℕ ℕ ℕ ℕ ℕ
    dec_step exp_step exp_item_step clause_step exp_field_step fun_bind_step rule_step val_bind_step

-- .. a binding of a `val`
unfoldable pub val_bind_levels : FullValBind → ℕ
val_bind_levels = fold-FullValBind ℕ ℕ ℕ ℕ ℕ ℕ ℕ ℕ
    dec_step exp_step exp_item_step clause_step exp_field_step fun_bind_step rule_step val_bind_step

-- ---- signatures and specifications

abbrev pub where_levels : FullWhere → ℕ
where_levels found = ty_levels found.ty

abbrev pub val_desc_levels : FullValDesc → ℕ
val_desc_levels desc = ty_levels desc.ty

abbrev pub typ_desc_levels : FullTypDesc → ℕ
typ_desc_levels desc = if_levels ty_levels desc.ty

abbrev pub sig_step : FullSigExp-F ℕ ℕ ℕ → ℕ
sig_step (FullSigExp-F.Sig specs at) = suc (highest specs)
sig_step (FullSigExp-F.Named name at) = 1
sig_step (FullSigExp-F.Where sig types at) = suc (max sig (all_levels where_levels types))

abbrev pub spec_step : FullSpec-F ℕ ℕ ℕ → ℕ
spec_step (FullSpec-F.Vals descs at) = suc (all_levels val_desc_levels descs)
spec_step (FullSpec-F.Types descs at) = suc (all_levels typ_desc_levels descs)
spec_step (FullSpec-F.Eqtypes descs at) = 1
spec_step (FullSpec-F.Datatypes descs at) = suc (all_levels dat_bind_levels descs)
spec_step (FullSpec-F.Replication name long at) = 1
spec_step (FullSpec-F.Exceptions descs at) = suc (all_levels con_bind_levels descs)
spec_step (FullSpec-F.Structures binds at) = suc (highest binds)
spec_step (FullSpec-F.IncludeNames names at) = 1
spec_step (FullSpec-F.Include sig at) = suc sig

abbrev pub sig_bind_step : FullSigBind-F ℕ ℕ ℕ → ℕ
sig_bind_step bind = bind.sig

-- how many levels a signature expression nests
unfoldable pub sig_levels : FullSigExp → ℕ
sig_levels = fold-FullSigExp ℕ ℕ ℕ sig_step spec_step sig_bind_step

-- .. a specification
unfoldable pub spec_levels : FullSpec → ℕ
spec_levels = fold-FullSpec ℕ ℕ ℕ sig_step spec_step sig_bind_step

-- .. a name with its signature
unfoldable pub sig_bind_levels : FullSigBind → ℕ
sig_bind_levels = fold-FullSigBind ℕ ℕ ℕ sig_step spec_step sig_bind_step

-- ---- structures

abbrev pub seal_levels : FullSeal → ℕ
seal_levels seal = sig_levels seal.sig

abbrev pub str_dec_step : FullStrDec-F ℕ ℕ ℕ → ℕ
str_dec_step (FullStrDec-F.Core dec) = dec_levels dec
str_dec_step (FullStrDec-F.Structures binds at) = suc (highest binds)
str_dec_step (FullStrDec-F.Local hidden decs at) = suc (max (highest hidden) (highest decs))

abbrev pub str_step : FullStrExp-F ℕ ℕ ℕ → ℕ
str_step (FullStrExp-F.Struct decs at) = suc (highest decs)
str_step (FullStrExp-F.Named long at) = 1
str_step (FullStrExp-F.Transparent inner sig at) = suc (max inner (sig_levels sig))
str_step (FullStrExp-F.Opaque inner sig at) = suc (max inner (sig_levels sig))
str_step (FullStrExp-F.Functor name arg at) = suc arg
str_step (FullStrExp-F.FunctorOfDecs name decs begin at) = suc (highest decs)
str_step (FullStrExp-F.Within decs inner at) = suc (max (highest decs) inner)

abbrev pub str_bind_step : FullStrBind-F ℕ ℕ ℕ → ℕ
str_bind_step bind = max (if_levels seal_levels bind.seal) bind.body

-- how many levels a declaration in a structure nests
unfoldable pub str_dec_levels : FullStrDec → ℕ
str_dec_levels = fold-FullStrDec ℕ ℕ ℕ str_dec_step str_step str_bind_step

-- .. a structure expression
unfoldable pub str_levels : FullStrExp → ℕ
str_levels = fold-FullStrExp ℕ ℕ ℕ str_dec_step str_step str_bind_step

-- .. a structure that is bound
unfoldable pub str_bind_levels : FullStrBind → ℕ
str_bind_levels = fold-FullStrBind ℕ ℕ ℕ str_dec_step str_step str_bind_step

-- ---- units

abbrev pub param_levels : FullParam → ℕ
param_levels (param.Named name sig) = sig_levels sig
param_levels (param.Spec specs at) = all_levels spec_levels specs

abbrev pub functor_levels : FullFunctorBind → ℕ
functor_levels bind = max (max (param_levels bind.param) (if_levels seal_levels bind.seal)) (str_levels bind.body)

abbrev pub funsig_levels : FullFunsigBind → ℕ
funsig_levels bind = max (sig_levels bind.param_sig) (sig_levels bind.result_sig)

abbrev pub topdec_levels : FullTopDec → ℕ
topdec_levels (top.Structures binds at) = suc (all_levels str_bind_levels binds)
topdec_levels (top.Signatures binds at) = suc (all_levels sig_bind_levels binds)
topdec_levels (top.Functors binds at) = suc (all_levels functor_levels binds)
topdec_levels (top.Funsigs binds at) = suc (all_levels funsig_levels binds)

-- how many levels a unit nests
abbrev pub unit_levels : FullUnit → ℕ
unit_levels unit = all_levels topdec_levels unit.topdecs
