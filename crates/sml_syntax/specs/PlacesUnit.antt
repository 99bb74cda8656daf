-- Units without their places: each line and column is 0, and no file is named.
use Rattle.std.specs.Prelude.{List, [], map}
use Rattle.sml_syntax.specs.Reading.{nowhere}
use Rattle.sml_syntax.specs.Places.{unplaced_name, unplaced_long, unplaced_ty, unplaced_typ_bind, unplaced_dat_bind, unplaced_ex_bind, unplaced_pat, unplaced_sig, unplaced_sig_bind}
use Rattle.sml_trees.specs.declared.exp.Dec.{Dec, roll-Dec}
use Rattle.sml_trees.specs.declared.exp.Exp.{Exp, roll-Exp}
use Rattle.sml_trees.specs.declared.exp.StrExp.{StrExp, roll-StrExp}
use Rattle.sml_trees.specs.declared.exp.ExpField.{ExpField, roll-ExpField}
use Rattle.sml_trees.specs.declared.exp.Rule.{Rule, roll-Rule}
use Rattle.sml_trees.specs.declared.exp.StrBind.{StrBind, roll-StrBind}
use Rattle.sml_trees.specs.declared.exp.Dec.TheOpen.{Dec-F, Exp-F, StrExp-F, ExpField-F, Rule-F, StrBind-F}
use Rattle.sml_trees.specs.declared.exp.Dec.TheFolds.{fold-Dec, fold-Exp, fold-StrExp, fold-ExpField, fold-Rule, fold-StrBind}
use Rattle.sml_trees.specs.declared.unit.FunBind.{FunBind}
use Rattle.sml_trees.specs.declared.unit.FunsigBind.{FunsigBind}
use Rattle.sml_trees.specs.declared.unit.TopDec.{TopDec}
use Rattle.sml_trees.specs.declared.unit.TopDec.TheVariants as top
use Rattle.sml_trees.specs.declared.unit.BareUnit.{BareUnit}

abbrev pub dec_unplaced : {A B C D E F : Type 0} → Dec-F A B C D E F → Dec-F A B C D E F
dec_unplaced (Dec-F.Val a b c at) = Dec-F.Val (map unplaced_name a) b c nowhere
dec_unplaced (Dec-F.Types a at) = Dec-F.Types (map unplaced_typ_bind a) nowhere
dec_unplaced (Dec-F.Datatypes a at) = Dec-F.Datatypes (map unplaced_dat_bind a) nowhere
dec_unplaced (Dec-F.Replication a b at) = Dec-F.Replication (unplaced_name a) (unplaced_long b) nowhere
dec_unplaced (Dec-F.Exceptions a at) = Dec-F.Exceptions (map unplaced_ex_bind a) nowhere
dec_unplaced (Dec-F.Local a b at) = Dec-F.Local a b nowhere
dec_unplaced (Dec-F.Open a at) = Dec-F.Open (map unplaced_long a) nowhere
dec_unplaced (Dec-F.Sequence a at) = Dec-F.Sequence a nowhere
dec_unplaced (Dec-F.Structures a at) = Dec-F.Structures a nowhere

abbrev pub exp_unplaced : {A B C D E F : Type 0} → Exp-F A B C D E F → Exp-F A B C D E F
exp_unplaced (Exp-F.Int a at) = Exp-F.Int a nowhere
exp_unplaced (Exp-F.Str a at) = Exp-F.Str a nowhere
exp_unplaced (Exp-F.Char a at) = Exp-F.Char a nowhere
exp_unplaced (Exp-F.Long a at) = Exp-F.Long (unplaced_long a) nowhere
exp_unplaced (Exp-F.Record a at) = Exp-F.Record a nowhere
exp_unplaced (Exp-F.Let a b at) = Exp-F.Let a b nowhere
exp_unplaced (Exp-F.App a b at) = Exp-F.App a b nowhere
exp_unplaced (Exp-F.Typed a b at) = Exp-F.Typed a (unplaced_ty b) nowhere
exp_unplaced (Exp-F.Handle a b at) = Exp-F.Handle a b nowhere
exp_unplaced (Exp-F.Raise a at) = Exp-F.Raise a nowhere
exp_unplaced (Exp-F.Fn a at) = Exp-F.Fn a nowhere

abbrev pub str_unplaced : {A B C D E F : Type 0} → StrExp-F A B C D E F → StrExp-F A B C D E F
str_unplaced (StrExp-F.Struct a at) = StrExp-F.Struct a nowhere
str_unplaced (StrExp-F.Named a at) = StrExp-F.Named (unplaced_long a) nowhere
str_unplaced (StrExp-F.Transparent a b at) = StrExp-F.Transparent a (unplaced_sig b) nowhere
str_unplaced (StrExp-F.Opaque a b at) = StrExp-F.Opaque a (unplaced_sig b) nowhere
str_unplaced (StrExp-F.Functor a b at) = StrExp-F.Functor (unplaced_name a) b nowhere
str_unplaced (StrExp-F.Within a b at) = StrExp-F.Within a b nowhere

abbrev pub exp_field_unplaced : {A B C D E F : Type 0} → ExpField-F A B C D E F → ExpField-F A B C D E F
exp_field_unplaced x = record { label = unplaced_name x.label; exp = x.exp }

abbrev pub rule_unplaced : {A B C D E F : Type 0} → Rule-F A B C D E F → Rule-F A B C D E F
rule_unplaced x = record { pat = unplaced_pat x.pat; exp = x.exp }

abbrev pub str_bind_unplaced : {A B C D E F : Type 0} → StrBind-F A B C D E F → StrBind-F A B C D E F
str_bind_unplaced x = record { name = unplaced_name x.name; body = x.body }

abbrev pub unplaced_dec : Dec → Dec
unplaced_dec = fold-Dec Dec Exp StrExp ExpField Rule StrBind
    (λ x. roll-Dec (dec_unplaced x))
    (λ x. roll-Exp (exp_unplaced x))
    (λ x. roll-StrExp (str_unplaced x))
    (λ x. roll-ExpField (exp_field_unplaced x))
    (λ x. roll-Rule (rule_unplaced x))
    (λ x. roll-StrBind (str_bind_unplaced x))

abbrev pub unplaced_exp : Exp → Exp
unplaced_exp = fold-Exp Dec Exp StrExp ExpField Rule StrBind
    (λ x. roll-Dec (dec_unplaced x))
    (λ x. roll-Exp (exp_unplaced x))
    (λ x. roll-StrExp (str_unplaced x))
    (λ x. roll-ExpField (exp_field_unplaced x))
    (λ x. roll-Rule (rule_unplaced x))
    (λ x. roll-StrBind (str_bind_unplaced x))

abbrev pub unplaced_str : StrExp → StrExp
unplaced_str = fold-StrExp Dec Exp StrExp ExpField Rule StrBind
    (λ x. roll-Dec (dec_unplaced x))
    (λ x. roll-Exp (exp_unplaced x))
    (λ x. roll-StrExp (str_unplaced x))
    (λ x. roll-ExpField (exp_field_unplaced x))
    (λ x. roll-Rule (rule_unplaced x))
    (λ x. roll-StrBind (str_bind_unplaced x))

abbrev pub unplaced_exp_field : ExpField → ExpField
unplaced_exp_field = fold-ExpField Dec Exp StrExp ExpField Rule StrBind
    (λ x. roll-Dec (dec_unplaced x))
    (λ x. roll-Exp (exp_unplaced x))
    (λ x. roll-StrExp (str_unplaced x))
    (λ x. roll-ExpField (exp_field_unplaced x))
    (λ x. roll-Rule (rule_unplaced x))
    (λ x. roll-StrBind (str_bind_unplaced x))

abbrev pub unplaced_rule : Rule → Rule
unplaced_rule = fold-Rule Dec Exp StrExp ExpField Rule StrBind
    (λ x. roll-Dec (dec_unplaced x))
    (λ x. roll-Exp (exp_unplaced x))
    (λ x. roll-StrExp (str_unplaced x))
    (λ x. roll-ExpField (exp_field_unplaced x))
    (λ x. roll-Rule (rule_unplaced x))
    (λ x. roll-StrBind (str_bind_unplaced x))

abbrev pub unplaced_str_bind : StrBind → StrBind
unplaced_str_bind = fold-StrBind Dec Exp StrExp ExpField Rule StrBind
    (λ x. roll-Dec (dec_unplaced x))
    (λ x. roll-Exp (exp_unplaced x))
    (λ x. roll-StrExp (str_unplaced x))
    (λ x. roll-ExpField (exp_field_unplaced x))
    (λ x. roll-Rule (rule_unplaced x))
    (λ x. roll-StrBind (str_bind_unplaced x))

-- ---- the top level

abbrev pub unplaced_fun_bind : FunBind → FunBind
unplaced_fun_bind x = record { name = unplaced_name x.name; param = unplaced_name x.param; param_sig = unplaced_sig x.param_sig; body = unplaced_str x.body }

abbrev pub unplaced_funsig_bind : FunsigBind → FunsigBind
unplaced_funsig_bind x = record { name = unplaced_name x.name; param = unplaced_name x.param; param_sig = unplaced_sig x.param_sig; result_sig = unplaced_sig x.result_sig }

abbrev pub unplaced_topdec : TopDec → TopDec
unplaced_topdec (top.Structures binds at) = top.Structures (map unplaced_str_bind binds) nowhere
unplaced_topdec (top.Signatures binds at) = top.Signatures (map unplaced_sig_bind binds) nowhere
unplaced_topdec (top.Functors binds at) = top.Functors (map unplaced_fun_bind binds) nowhere
unplaced_topdec (top.Funsigs binds at) = top.Funsigs (map unplaced_funsig_bind binds) nowhere

abbrev pub unplaced : BareUnit → BareUnit
unplaced unit = record { file = []; topdecs = map unplaced_topdec unit.topdecs }
