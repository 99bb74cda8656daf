-- The height of the nodes of expressions, declarations and structures, and of the forms that are made of them.
use Rattle.std.proofs.Common.{◌≡◌, ℕ, ℤ, zero, suc, max, List, [], ◌∷◌, refl, sym, ap, ap₂, ◌∙◌, map, length}
use Rattle.std.specs.Prelude.{codes}
use Rattle.sml_trees.specs.declared.name.At.{At}
use Rattle.sml_trees.specs.declared.name.Name.{Name}
use Rattle.sml_trees.specs.declared.name.LongName.{LongName}
use Rattle.sml_trees.specs.declared.full_pat.Constant.{Constant}
use Rattle.sml_trees.specs.declared.full_pat.Constant.TheVariants as constant
use Rattle.sml_trees.specs.declared.ty.Ty.{Ty}
use Rattle.sml_trees.specs.declared.ty.TypBind.{TypBind}
use Rattle.sml_trees.specs.declared.ty.DatBind.{DatBind}
use Rattle.sml_trees.specs.declared.ty.ExBind.{ExBind}
use Rattle.sml_trees.specs.declared.pat.Pat.{Pat}
use Rattle.sml_trees.specs.declared.pat.Pat.TheVariants as pat
use Rattle.sml_trees.specs.declared.sig_exp.SigExp.{SigExp}
use Rattle.sml_trees.specs.declared.exp.Dec.{Dec}
use Rattle.sml_trees.specs.declared.exp.Dec.TheOpen.{Dec-F, Exp-F, StrExp-F, ExpField-F, Rule-F, StrBind-F}
use Rattle.sml_trees.specs.declared.exp.Dec.TheFolds.{fold-roll-Dec, fold-roll-Exp, fold-roll-StrExp, fold-roll-ExpField, fold-roll-Rule, fold-roll-StrBind}
use Rattle.sml_trees.specs.declared.exp.Dec.TheVariants as dec
use Rattle.sml_trees.specs.declared.exp.Exp.{Exp}
use Rattle.sml_trees.specs.declared.exp.Exp.TheVariants as exp
use Rattle.sml_trees.specs.declared.exp.ExpField.{ExpField}
use Rattle.sml_trees.specs.declared.exp.Rule.{Rule}
use Rattle.sml_trees.specs.declared.exp.StrBind.{StrBind, roll-StrBind}
use Rattle.sml_trees.specs.declared.exp.StrExp.{StrExp}
use Rattle.sml_trees.specs.declared.exp.StrExp.TheVariants as str
use Rattle.bare_forms.specs.declared.placed.PlacedPat.{PlacedPat}
use Rattle.bare_forms.specs.declared.placed.PlacedExp.{PlacedExp}
use Rattle.bare_forms.specs.Types.{label_of}
use Rattle.bare_forms.specs.Patterns.{at_name, long_at, long_name, pat_fields_from}
use Rattle.bare_forms.specs.Nodes.{placed_exp, rule, field, constant_exp, long_pat, long_exp, unit_exp, pair_exp, exp_fields_from, case_exp, if_exp, or_else, and_also, then_exp, while_call, while_body, while_dec, while_exp, cons_exp, rest_exp, items_exp, list_exp, sequence_exp, body_exp, joined_exp, applied_exp, arg_text, subject_fields, subject_exp, args_pat, arg_fn, curried}
use Rattle.bare_forms.specs.Nodes.{sequence_from as sequence_exp_from}
use Rattle.tree_heights.specs.Heights.{highest_with, highest, ty_height, typ_bind_height, dat_height, ex_height, pat_height, pat_field_height, sig_height, exp_height, dec_height, str_height, exp_field_height, rule_height, str_bind_height, dec_step, exp_step, str_step, exp_field_step, rule_step, str_bind_step}
use Rattle.tree_heights.specs.NodeHeights.{pair_height, case_height, if_height, then_height, loop_height, while_height, in_turn, exps_height, sequence_from, sequence_height, run_height, joined_exp_height, applied_exp_height, curried_height, subject_height}
use Rattle.tree_heights.specs.FullHeights as pats
use Rattle.tree_heights.specs.FullExpHeights.{placed_height, exp_value, args_height}
use Rattle.tree_heights.proofs.Highest.{alone, two}
use Rattle.std.proofs.Math.Nat.{zero-max}
use Rattle.tree_heights.proofs.PatHeights.{pat_height-Wild, pat_height-Long, pat_height-Record, fields_height}

-- ---- each node

pub exp_height-Int : (n : ℤ) (at : At) → exp_height (exp.Int n at) ≡ 1
exp_height-Int n at =
    ap exp_height (sym (exp.rolls-Int n at))
    ∙ fold-roll-Exp _ _ _ _ _ _ dec_step exp_step str_step exp_field_step rule_step str_bind_step (Exp-F.Int n at)

pub exp_height-Str : (text : List ℕ) (at : At) → exp_height (exp.Str text at) ≡ 1
exp_height-Str text at =
    ap exp_height (sym (exp.rolls-Str text at))
    ∙ fold-roll-Exp _ _ _ _ _ _ dec_step exp_step str_step exp_field_step rule_step str_bind_step (Exp-F.Str text at)

pub exp_height-Char : (byte : ℕ) (at : At) → exp_height (exp.Char byte at) ≡ 1
exp_height-Char byte at =
    ap exp_height (sym (exp.rolls-Char byte at))
    ∙ fold-roll-Exp _ _ _ _ _ _ dec_step exp_step str_step exp_field_step rule_step str_bind_step (Exp-F.Char byte at)

pub exp_height-Long : (long : LongName) (at : At) → exp_height (exp.Long long at) ≡ 1
exp_height-Long long at =
    ap exp_height (sym (exp.rolls-Long long at))
    ∙ fold-roll-Exp _ _ _ _ _ _ dec_step exp_step str_step exp_field_step rule_step str_bind_step (Exp-F.Long long at)

pub exp_height-Record : (fields : List ExpField) (at : At) → exp_height (exp.Record fields at) ≡ suc (highest (map exp_field_height fields))
exp_height-Record fields at =
    ap exp_height (sym (exp.rolls-Record fields at))
    ∙ fold-roll-Exp _ _ _ _ _ _ dec_step exp_step str_step exp_field_step rule_step str_bind_step (Exp-F.Record fields at)

pub exp_height-Let : (d : Dec) (e : Exp) (at : At) → exp_height (exp.Let d e at) ≡ suc (max (dec_height d) (exp_height e))
exp_height-Let d e at =
    ap exp_height (sym (exp.rolls-Let d e at))
    ∙ fold-roll-Exp _ _ _ _ _ _ dec_step exp_step str_step exp_field_step rule_step str_bind_step (Exp-F.Let d e at)

pub exp_height-App : (f x : Exp) (at : At) → exp_height (exp.App f x at) ≡ suc (max (exp_height f) (exp_height x))
exp_height-App f x at =
    ap exp_height (sym (exp.rolls-App f x at))
    ∙ fold-roll-Exp _ _ _ _ _ _ dec_step exp_step str_step exp_field_step rule_step str_bind_step (Exp-F.App f x at)

pub exp_height-Typed : (e : Exp) (t : Ty) (at : At) → exp_height (exp.Typed e t at) ≡ suc (max (exp_height e) (ty_height t))
exp_height-Typed e t at =
    ap exp_height (sym (exp.rolls-Typed e t at))
    ∙ fold-roll-Exp _ _ _ _ _ _ dec_step exp_step str_step exp_field_step rule_step str_bind_step (Exp-F.Typed e t at)

pub exp_height-Handle : (e : Exp) (rules : List Rule) (at : At) → exp_height (exp.Handle e rules at) ≡ suc (max (exp_height e) (highest (map rule_height rules)))
exp_height-Handle e rules at =
    ap exp_height (sym (exp.rolls-Handle e rules at))
    ∙ fold-roll-Exp _ _ _ _ _ _ dec_step exp_step str_step exp_field_step rule_step str_bind_step (Exp-F.Handle e rules at)

pub exp_height-Raise : (e : Exp) (at : At) → exp_height (exp.Raise e at) ≡ suc (exp_height e)
exp_height-Raise e at =
    ap exp_height (sym (exp.rolls-Raise e at))
    ∙ fold-roll-Exp _ _ _ _ _ _ dec_step exp_step str_step exp_field_step rule_step str_bind_step (Exp-F.Raise e at)

pub exp_height-Fn : (rules : List Rule) (at : At) → exp_height (exp.Fn rules at) ≡ suc (highest (map rule_height rules))
exp_height-Fn rules at =
    ap exp_height (sym (exp.rolls-Fn rules at))
    ∙ fold-roll-Exp _ _ _ _ _ _ dec_step exp_step str_step exp_field_step rule_step str_bind_step (Exp-F.Fn rules at)

pub dec_height-Val : (tyvars : List Name) (rules recs : List Rule) (at : At) → dec_height (dec.Val tyvars rules recs at) ≡ suc (max (highest (map rule_height rules)) (highest (map rule_height recs)))
dec_height-Val tyvars rules recs at =
    ap dec_height (sym (dec.rolls-Val tyvars rules recs at))
    ∙ fold-roll-Dec _ _ _ _ _ _ dec_step exp_step str_step exp_field_step rule_step str_bind_step (Dec-F.Val tyvars rules recs at)

pub dec_height-Types : (binds : List TypBind) (at : At) → dec_height (dec.Types binds at) ≡ suc (highest (map typ_bind_height binds))
dec_height-Types binds at =
    ap dec_height (sym (dec.rolls-Types binds at))
    ∙ fold-roll-Dec _ _ _ _ _ _ dec_step exp_step str_step exp_field_step rule_step str_bind_step (Dec-F.Types binds at)

pub dec_height-Datatypes : (binds : List DatBind) (at : At) → dec_height (dec.Datatypes binds at) ≡ suc (highest (map dat_height binds))
dec_height-Datatypes binds at =
    ap dec_height (sym (dec.rolls-Datatypes binds at))
    ∙ fold-roll-Dec _ _ _ _ _ _ dec_step exp_step str_step exp_field_step rule_step str_bind_step (Dec-F.Datatypes binds at)

pub dec_height-Replication : (name : Name) (long : LongName) (at : At) → dec_height (dec.Replication name long at) ≡ 1
dec_height-Replication name long at =
    ap dec_height (sym (dec.rolls-Replication name long at))
    ∙ fold-roll-Dec _ _ _ _ _ _ dec_step exp_step str_step exp_field_step rule_step str_bind_step (Dec-F.Replication name long at)

pub dec_height-Exceptions : (binds : List ExBind) (at : At) → dec_height (dec.Exceptions binds at) ≡ suc (highest (map ex_height binds))
dec_height-Exceptions binds at =
    ap dec_height (sym (dec.rolls-Exceptions binds at))
    ∙ fold-roll-Dec _ _ _ _ _ _ dec_step exp_step str_step exp_field_step rule_step str_bind_step (Dec-F.Exceptions binds at)

pub dec_height-Local : (a b : Dec) (at : At) → dec_height (dec.Local a b at) ≡ suc (max (dec_height a) (dec_height b))
dec_height-Local a b at =
    ap dec_height (sym (dec.rolls-Local a b at))
    ∙ fold-roll-Dec _ _ _ _ _ _ dec_step exp_step str_step exp_field_step rule_step str_bind_step (Dec-F.Local a b at)

pub dec_height-Open : (longs : List LongName) (at : At) → dec_height (dec.Open longs at) ≡ 1
dec_height-Open longs at =
    ap dec_height (sym (dec.rolls-Open longs at))
    ∙ fold-roll-Dec _ _ _ _ _ _ dec_step exp_step str_step exp_field_step rule_step str_bind_step (Dec-F.Open longs at)

pub dec_height-Sequence : (decs : List Dec) (at : At) → dec_height (dec.Sequence decs at) ≡ suc (highest (map dec_height decs))
dec_height-Sequence decs at =
    ap dec_height (sym (dec.rolls-Sequence decs at))
    ∙ fold-roll-Dec _ _ _ _ _ _ dec_step exp_step str_step exp_field_step rule_step str_bind_step (Dec-F.Sequence decs at)

pub dec_height-Structures : (binds : List StrBind) (at : At) → dec_height (dec.Structures binds at) ≡ suc (highest (map str_bind_height binds))
dec_height-Structures binds at =
    ap dec_height (sym (dec.rolls-Structures binds at))
    ∙ fold-roll-Dec _ _ _ _ _ _ dec_step exp_step str_step exp_field_step rule_step str_bind_step (Dec-F.Structures binds at)

pub str_height-Struct : (d : Dec) (at : At) → str_height (str.Struct d at) ≡ suc (dec_height d)
str_height-Struct d at =
    ap str_height (sym (str.rolls-Struct d at))
    ∙ fold-roll-StrExp _ _ _ _ _ _ dec_step exp_step str_step exp_field_step rule_step str_bind_step (StrExp-F.Struct d at)

pub str_height-Named : (long : LongName) (at : At) → str_height (str.Named long at) ≡ 1
str_height-Named long at =
    ap str_height (sym (str.rolls-Named long at))
    ∙ fold-roll-StrExp _ _ _ _ _ _ dec_step exp_step str_step exp_field_step rule_step str_bind_step (StrExp-F.Named long at)

pub str_height-Transparent : (s : StrExp) (g : SigExp) (at : At) → str_height (str.Transparent s g at) ≡ suc (max (str_height s) (sig_height g))
str_height-Transparent s g at =
    ap str_height (sym (str.rolls-Transparent s g at))
    ∙ fold-roll-StrExp _ _ _ _ _ _ dec_step exp_step str_step exp_field_step rule_step str_bind_step (StrExp-F.Transparent s g at)

pub str_height-Opaque : (s : StrExp) (g : SigExp) (at : At) → str_height (str.Opaque s g at) ≡ suc (max (str_height s) (sig_height g))
str_height-Opaque s g at =
    ap str_height (sym (str.rolls-Opaque s g at))
    ∙ fold-roll-StrExp _ _ _ _ _ _ dec_step exp_step str_step exp_field_step rule_step str_bind_step (StrExp-F.Opaque s g at)

pub str_height-Functor : (name : Name) (s : StrExp) (at : At) → str_height (str.Functor name s at) ≡ suc (str_height s)
str_height-Functor name s at =
    ap str_height (sym (str.rolls-Functor name s at))
    ∙ fold-roll-StrExp _ _ _ _ _ _ dec_step exp_step str_step exp_field_step rule_step str_bind_step (StrExp-F.Functor name s at)

pub str_height-Within : (d : Dec) (s : StrExp) (at : At) → str_height (str.Within d s at) ≡ suc (max (dec_height d) (str_height s))
str_height-Within d s at =
    ap str_height (sym (str.rolls-Within d s at))
    ∙ fold-roll-StrExp _ _ _ _ _ _ dec_step exp_step str_step exp_field_step rule_step str_bind_step (StrExp-F.Within d s at)

pub field-height : (label : Name) (e : Exp) → exp_field_height (field label e) ≡ exp_height e
field-height label e = fold-roll-ExpField _ _ _ _ _ _ dec_step exp_step str_step exp_field_step rule_step str_bind_step (record { label = label; exp = e })

pub rule-height : (p : Pat) (e : Exp) → rule_height (rule p e) ≡ max (pat_height p) (exp_height e)
rule-height p e = fold-roll-Rule _ _ _ _ _ _ dec_step exp_step str_step exp_field_step rule_step str_bind_step (record { pat = p; exp = e })

pub str_bind-height : (name : Name) (s : StrExp) → str_bind_height (roll-StrBind (record { name = name; body = s })) ≡ str_height s
str_bind-height name s = fold-roll-StrBind _ _ _ _ _ _ dec_step exp_step str_step exp_field_step rule_step str_bind_step (record { name = name; body = s })

-- ---- forms of one place

pub constant-height : (c : Constant) (at : At) → exp_height (constant_exp c at) ≡ 1
constant-height (constant.Int n) at = exp_height-Int n at
constant-height (constant.Str text) at = exp_height-Str text at
constant-height (constant.Char byte) at = exp_height-Char byte at

pub unit-height : (at : At) → exp_height (unit_exp at) ≡ 1
unit-height at = exp_height-Record [] at

pair-height : (at : At) (a b : Exp) → exp_height (pair_exp at a b) ≡ suc (max (exp_height a) (exp_height b))
pair-height at a b =
    exp_height-Record (field (label_of at 1) a ∷ field (label_of at 2) b ∷ []) at ∙ ap suc (two _ _)
    ∙ ap₂ (λ x y. suc (max x y)) (field-height (label_of at 1) a) (field-height (label_of at 2) b)

pub tuple-height : (at : At) (n : ℕ) (parts : List PlacedExp)
    → map exp_field_height (exp_fields_from at n parts) ≡ map placed_height parts
tuple-height at n [] = refl
tuple-height at n (part ∷ parts) =
    ap₂ (λ x xs. x ∷ xs) (field-height (label_of at n) part.exp) (tuple-height at (suc n) parts)

pub case-height : (at : At) (subject : Exp) (rules : List Rule)
    → exp_height (case_exp at subject rules) ≡ case_height (exp_height subject) (highest (map rule_height rules))
case-height at subject rules =
    exp_height-App (exp.Fn rules at) subject at
    ∙ ap (λ f. suc (max f (exp_height subject))) (exp_height-Fn rules at)

long-rule : (at : At) (text : List ℕ) (e : Exp) → rule_height (rule (long_pat at text) e) ≡ max 1 (exp_height e)
long-rule at text e =
    rule-height (long_pat at text) e ∙ ap (λ p. max p (exp_height e)) (pat_height-Long (long_at at text) at)

pub if-height : (at : At) (test first second : Exp)
    → exp_height (if_exp at test first second) ≡ if_height (exp_height test) (exp_height first) (exp_height second)
if-height at test first second =
    case-height at test (rule (long_pat at (codes "true")) first ∷ rule (long_pat at (codes "false")) second ∷ [])
    ∙ ap (case_height (exp_height test)) (two _ _
    ∙ ap₂ max (long-rule at (codes "true") first) (long-rule at (codes "false") second))

pub or-height : (at : At) (a b : Exp) → exp_height (or_else at a b) ≡ if_height (exp_height a) 1 (exp_height b)
or-height at a b =
    if-height at a (long_exp at (codes "true")) b
    ∙ ap (λ x. if_height (exp_height a) x (exp_height b)) (exp_height-Long (long_at at (codes "true")) at)

pub and-height : (at : At) (a b : Exp) → exp_height (and_also at a b) ≡ if_height (exp_height a) (exp_height b) 1
and-height at a b =
    if-height at a b (long_exp at (codes "false"))
    ∙ ap (if_height (exp_height a) (exp_height b)) (exp_height-Long (long_at at (codes "false")) at)

then-height : (at : At) (a b : Exp) → exp_height (then_exp at a b) ≡ then_height (exp_height a) (exp_height b)
then-height at a b =
    case-height at a (rule (pat.Wild at) b ∷ [])
    ∙ ap (case_height (exp_height a)) (alone (rule_height (rule (pat.Wild at) b))
    ∙ rule-height (pat.Wild at) b ∙ ap (λ p. max p (exp_height b)) (pat_height-Wild at))

call-height : (at : At) → exp_height (while_call at) ≡ 2
call-height at =
    exp_height-App (long_exp at (codes "%0")) (unit_exp at) at
    ∙ ap₂ (λ f x. suc (max f x)) (exp_height-Long (long_at at (codes "%0")) at) (unit-height at)

loop-height : (at : At) (test body : Exp)
    → exp_height (while_body at test body) ≡ loop_height (exp_height test) (exp_height body)
loop-height at test body =
    let step = if_exp at test (then_exp at body (while_call at)) (unit_exp at) in
    exp_height-Fn (rule (pat.Record [] at) step ∷ []) at
    ∙ ap suc (alone (rule_height (rule (pat.Record [] at) step)) ∙ rule-height (pat.Record [] at) step
    ∙ ap₂ max (pat_height-Record [] at)
    (if-height at test (then_exp at body (while_call at)) (unit_exp at)
    ∙ ap₂ (if_height (exp_height test))
    (then-height at body (while_call at) ∙ ap (then_height (exp_height body)) (call-height at))
    (unit-height at)))

pub while-height : (at : At) (test body : Exp)
    → exp_height (while_exp at test body) ≡ while_height (exp_height test) (exp_height body)
while-height at test body =
    let recs = rule (long_pat at (codes "%0")) (while_body at test body) ∷ [] in
    let loop = rule_height (rule (long_pat at (codes "%0")) (while_body at test body)) in
    exp_height-Let (dec.Sequence (while_dec at test body ∷ []) at) (while_call at) at
    ∙ ap₂ (λ d e. suc (max d e))
    (dec_height-Sequence (while_dec at test body ∷ []) at
    ∙ ap suc (alone (dec_height (while_dec at test body)) ∙ dec_height-Val [] [] recs at
    ∙ ap suc (zero-max (highest (loop ∷ [])) ∙ alone loop ∙ long-rule at (codes "%0") (while_body at test body)
    ∙ ap (max 1) (loop-height at test body))))
    (call-height at)

-- ---- items one after another

cons-height : (at : At) (a b : Exp) → exp_height (cons_exp at a b) ≡ pair_height (exp_height a) (exp_height b)
cons-height at a b =
    exp_height-App (long_exp at (codes "::")) (pair_exp at a b) at
    ∙ ap₂ (λ f x. suc (max f x)) (exp_height-Long (long_at at (codes "::")) at) (pair-height at a b)

-- a node whose height is made so of those of its parts
abbrev IsNode : (At → Exp → Exp → Exp) → (ℕ → ℕ → ℕ) → Type 0
IsNode node height = (at : At) (a b : Exp) → exp_height (node at a b) ≡ height (exp_height a) (exp_height b)

rest-height : (node : At → Exp → Exp → Exp) (height : ℕ → ℕ → ℕ) → IsNode node height
    → (ps : List PlacedExp) (rest : Exp)
    → exp_height (rest_exp node ps rest) ≡ in_turn height (map placed_height ps) (exp_height rest)
rest-height node height is [] rest = refl
rest-height node height is (p ∷ ps) rest =
    is p.at p.exp (rest_exp node ps rest) ∙ ap (height (exp_height p.exp)) (rest-height node height is ps rest)

items-height : (node : At → Exp → Exp → Exp) (height : ℕ → ℕ → ℕ) → IsNode node height
    → (at : At) (ps : List PlacedExp) (rest : Exp)
    → exp_height (items_exp node at ps rest) ≡ in_turn height (map placed_height ps) (exp_height rest)
items-height node height is at [] rest = refl
items-height node height is at (p ∷ ps) rest =
    is at p.exp (rest_exp node ps rest) ∙ ap (height (exp_height p.exp)) (rest-height node height is ps rest)

pub list-height : (at : At) (ps : List PlacedExp) → exp_height (list_exp at ps) ≡ exps_height (map placed_height ps)
list-height at ps =
    items-height cons_exp pair_height cons-height at ps (long_exp at (codes "nil"))
    ∙ ap (in_turn pair_height (map placed_height ps)) (exp_height-Long (long_at at (codes "nil")) at)

from-height : (at : At) (p : PlacedExp) (ps : List PlacedExp)
    → exp_height (sequence_exp_from at p ps) ≡ sequence_from (exp_height p.exp) (map placed_height ps)
from-height at p [] = refl
from-height at p (q ∷ qs) =
    then-height at p.exp (sequence_exp_from q.at q qs) ∙ ap (then_height (exp_height p.exp)) (from-height q.at q qs)

pub sequence-height : (at : At) (ps : List PlacedExp)
    → exp_height (sequence_exp at ps) ≡ sequence_height (map placed_height ps)
sequence-height at [] = unit-height at
sequence-height at (p ∷ ps) = from-height at p ps

pub body-height : (at : At) (ps : List PlacedExp) → exp_height (body_exp at ps) ≡ sequence_height (map placed_height ps)
body-height at [] = unit-height at
body-height at (p ∷ ps) = from-height p.at p ps

-- ---- runs

pub joined-value : (op : Name) (left right : PlacedExp)
    → exp_value (joined_exp op left right) ≡ joined_exp_height op (exp_value left) (exp_value right)
joined-value op left right =
    ap run_height
    (exp_height-App (exp.Long (long_name op) (at_name op)) (pair_exp left.at left.exp right.exp) left.at
    ∙ ap₂ (λ f x. suc (max f x)) (exp_height-Long (long_name op) (at_name op))
    (pair-height left.at left.exp right.exp))

pub applied-value : (function arg : PlacedExp)
    → exp_value (applied_exp function arg) ≡ applied_exp_height (exp_value function) (exp_value arg)
applied-value function arg = ap run_height (exp_height-App function.exp arg.exp function.at)

-- ---- functions

pub curried-height : (at : At) (number count : ℕ) (body : Exp)
    → exp_height (curried at number count body) ≡ curried_height count (exp_height body)
curried-height at number zero body = refl
curried-height at number (suc more) body =
    let function = rule (long_pat at (arg_text number)) (curried at (suc number) more body) in
    exp_height-Fn (function ∷ []) at
    ∙ ap suc (alone (rule_height function) ∙ long-rule at (arg_text number) (curried at (suc number) more body)
    ∙ ap (max 1) (curried-height at (suc number) more body))

subjects-height : (at : At) (number : ℕ) (ps : List PlacedPat)
    → highest_with 1 (map exp_field_height (subject_fields at number ps)) ≡ 1
subjects-height at number [] = refl
subjects-height at number (p ∷ ps) =
    ap (λ h. highest_with (max 1 h) (map exp_field_height (subject_fields at (suc number) ps)))
    (field-height (label_of at number) (long_exp at (arg_text number)) ∙ exp_height-Long (long_at at (arg_text number)) at)
    ∙ subjects-height at (suc number) ps

pub subject-height : (at : At) (args : List PlacedPat) → exp_height (subject_exp at args) ≡ subject_height (length args)
subject-height at [] = unit-height at
subject-height at (p ∷ []) = exp_height-Long (long_at at (arg_text 1)) at
subject-height at (p ∷ q ∷ ps) =
    exp_height-Record (subject_fields at 1 (p ∷ q ∷ ps)) at
    ∙ ap (λ h. suc (highest_with (max 0 h) (map exp_field_height (subject_fields at 2 (q ∷ ps)))))
    (field-height (label_of at 1) (long_exp at (arg_text 1)) ∙ exp_height-Long (long_at at (arg_text 1)) at)
    ∙ ap suc (subjects-height at 2 (q ∷ ps))

pub args-height : (at : At) (args : List PlacedPat) → pat_height (args_pat at args) ≡ args_height (map pats.placed_height args)
args-height at [] = pat_height-Record [] at
args-height at (p ∷ []) = refl
args-height at (p ∷ q ∷ ps) =
    pat_height-Record (pat_fields_from p.at 1 (p ∷ q ∷ ps)) p.at
    ∙ ap (λ hs. suc (highest hs)) (fields_height p.at 1 (p ∷ q ∷ ps))
