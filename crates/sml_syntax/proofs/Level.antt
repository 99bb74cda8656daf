-- What one level of a tree is spelled as: the tag and its parts, with the spellings of the children.
use Rattle.std.proofs.Common.{◌≡◌, ℕ, List, [], ◌∷◌, ◌++◌, refl, suc, sym, ap, ap₂, ◌∙◌, append_assoc, map, length}
use Rattle.std.specs.List.{flat_map}
use Rattle.cm_bytes.specs.Fields.{u32_of, list_of}
use Rattle.sml_syntax.specs.Code.{parts, name_of, long_of, ty_of, ty_field_of, ty_level, ty_field_level, pat_of, pat_field_of, pat_level, pat_field_level, spec_of, sig_bind_of, sig_level, spec_level, sig_bind_level, exp_of, exp_field_of, rule_of, dec_of, str_bind_of, exp_level, exp_field_level, rule_level, dec_level, str_level, str_bind_level}
use Rattle.sml_trees.specs.declared.name.At.{At}
use Rattle.sml_trees.specs.declared.name.LongName.{LongName}
use Rattle.sml_trees.specs.declared.ty.Ty.{Ty}
use Rattle.sml_trees.specs.declared.ty.Ty.TheOpen.{Ty-F}
use Rattle.sml_trees.specs.declared.ty.Ty.TheFolds.{fold-roll-Ty}
use Rattle.sml_trees.specs.declared.ty.Ty.TheVariants as ty
use Rattle.sml_trees.specs.declared.ty.TyField.{TyField}
use Rattle.sml_trees.specs.declared.name.Name.{Name}
use Rattle.sml_trees.specs.declared.pat.Pat.TheOpen.{Pat-F}
use Rattle.sml_trees.specs.declared.pat.Pat.TheFolds.{fold-roll-Pat}
use Rattle.sml_trees.specs.declared.pat.Pat.TheVariants as pat
use Rattle.sml_trees.specs.declared.pat.PatField.{PatField}
use Rattle.sml_trees.specs.declared.sig_exp.SigExp.TheOpen.{Spec-F}
use Rattle.sml_trees.specs.declared.sig_exp.SigExp.TheFolds.{fold-roll-Spec}
use Rattle.sml_trees.specs.declared.sig_exp.Spec.{Spec}
use Rattle.sml_trees.specs.declared.sig_exp.Spec.TheVariants as spec
use Rattle.sml_trees.specs.declared.sig_exp.SigBind.{SigBind}
use Rattle.sml_trees.specs.declared.exp.Dec.{Dec}
use Rattle.sml_trees.specs.declared.exp.Dec.TheOpen.{Dec-F, Exp-F}
use Rattle.sml_trees.specs.declared.exp.Dec.TheFolds.{fold-roll-Dec, fold-roll-Exp}
use Rattle.sml_trees.specs.declared.exp.Dec.TheVariants as dec
use Rattle.sml_trees.specs.declared.exp.Exp.{Exp}
use Rattle.sml_trees.specs.declared.exp.Exp.TheVariants as exp
use Rattle.sml_trees.specs.declared.exp.ExpField.{ExpField}
use Rattle.sml_trees.specs.declared.exp.Rule.{Rule}
use Rattle.sml_trees.specs.declared.exp.StrBind.{StrBind}

-- parts that are the spellings of the items of a list are the list's spelling
pub parts_map : {A : Type 0} (item_of : A → List ℕ) (xs : List A) → parts (map item_of xs) ≡ list_of item_of xs
unfolding parts list_of
parts_map item_of xs = ap₂ (λ n bytes. u32_of n ++ bytes) (count item_of xs) (joined item_of xs)
  where
    count : {A : Type 0} (item_of : A → List ℕ) (xs : List A) → length (map item_of xs) ≡ length xs
    count item_of [] = refl
    count item_of (x ∷ xs) = ap suc (count item_of xs)

    joined : {A : Type 0} (item_of : A → List ℕ) (xs : List A)
        → flat_map (λ item. item) (map item_of xs) ≡ flat_map item_of xs
    joined item_of [] = refl
    joined item_of (x ∷ xs) = ap (λ bytes. item_of x ++ bytes) (joined item_of xs)

pub ty_of-Record : (fields : List TyField) (at : At) → ty_of (ty.Record fields at) ≡ 49 ∷ list_of ty_field_of fields
ty_of-Record fields at =
    ap ty_of (sym (ty.rolls-Record fields at))
    ∙ fold-roll-Ty _ _ ty_level ty_field_level (Ty-F.Record fields at)
    ∙ ap (λ bytes. 49 ∷ bytes) (parts_map ty_field_of fields)

pub ty_of-Named : (args : List Ty) (long : LongName) (at : At)
    → ty_of (ty.Named args long at) ≡ 50 ∷ (list_of ty_of args ++ long_of long)
ty_of-Named args long at =
    ap ty_of (sym (ty.rolls-Named args long at))
    ∙ fold-roll-Ty _ _ ty_level ty_field_level (Ty-F.Named args long at)
    ∙ ap (λ bytes. 50 ∷ (bytes ++ long_of long)) (parts_map ty_of args)

pub ty_of-Var : (name : Name) (at : At) → ty_of (ty.Var name at) ≡ 48 ∷ name_of name
ty_of-Var name at =
    ap ty_of (sym (ty.rolls-Var name at)) ∙ fold-roll-Ty _ _ ty_level ty_field_level (Ty-F.Var name at)

pub ty_of-Arrow : (from to : Ty) (at : At) → ty_of (ty.Arrow from to at) ≡ 51 ∷ (ty_of from ++ ty_of to)
ty_of-Arrow from to at =
    ap ty_of (sym (ty.rolls-Arrow from to at))
    ∙ fold-roll-Ty _ _ ty_level ty_field_level (Ty-F.Arrow from to at)

pub ruleset ty_spelled = (ty_of-Record, ty_of-Named, append_assoc)

pub pat_of-Record : (fields : List PatField) (at : At)
    → pat_of (pat.Record fields at) ≡ 37 ∷ list_of pat_field_of fields
pat_of-Record fields at =
    ap pat_of (sym (pat.rolls-Record fields at))
    ∙ fold-roll-Pat _ _ pat_level pat_field_level (Pat-F.Record fields at)
    ∙ ap (λ bytes. 37 ∷ bytes) (parts_map pat_field_of fields)

pub ruleset pat_spelled = (pat_of-Record, append_assoc)

pub spec_of-Structures : (descs : List SigBind) (at : At)
    → spec_of (spec.Structures descs at) ≡ 118 ∷ list_of sig_bind_of descs
spec_of-Structures descs at =
    ap spec_of (sym (spec.rolls-Structures descs at))
    ∙ fold-roll-Spec _ _ _ sig_level spec_level sig_bind_level (Spec-F.Structures descs at)
    ∙ ap (λ bytes. 118 ∷ bytes) (parts_map sig_bind_of descs)

pub spec_of-Sequence : (specs : List Spec) (at : At)
    → spec_of (spec.Sequence specs at) ≡ 120 ∷ list_of spec_of specs
spec_of-Sequence specs at =
    ap spec_of (sym (spec.rolls-Sequence specs at))
    ∙ fold-roll-Spec _ _ _ sig_level spec_level sig_bind_level (Spec-F.Sequence specs at)
    ∙ ap (λ bytes. 120 ∷ bytes) (parts_map spec_of specs)

pub ruleset sig_spelled = (spec_of-Structures, spec_of-Sequence, append_assoc)

pub exp_of-Record : (fields : List ExpField) (at : At)
    → exp_of (exp.Record fields at) ≡ 20 ∷ list_of exp_field_of fields
exp_of-Record fields at =
    ap exp_of (sym (exp.rolls-Record fields at))
    ∙ fold-roll-Exp _ _ _ _ _ _ dec_level exp_level str_level exp_field_level rule_level str_bind_level (Exp-F.Record fields at)
    ∙ ap (λ bytes. 20 ∷ bytes) (parts_map exp_field_of fields)

pub exp_of-Handle : (e : Exp) (rules : List Rule) (at : At)
    → exp_of (exp.Handle e rules at) ≡ 24 ∷ (exp_of e ++ list_of rule_of rules)
exp_of-Handle e rules at =
    ap exp_of (sym (exp.rolls-Handle e rules at))
    ∙ fold-roll-Exp _ _ _ _ _ _ dec_level exp_level str_level exp_field_level rule_level str_bind_level (Exp-F.Handle e rules at)
    ∙ ap (λ bytes. 24 ∷ (exp_of e ++ bytes)) (parts_map rule_of rules)

pub exp_of-Fn : (rules : List Rule) (at : At) → exp_of (exp.Fn rules at) ≡ 26 ∷ list_of rule_of rules
exp_of-Fn rules at =
    ap exp_of (sym (exp.rolls-Fn rules at))
    ∙ fold-roll-Exp _ _ _ _ _ _ dec_level exp_level str_level exp_field_level rule_level str_bind_level (Exp-F.Fn rules at)
    ∙ ap (λ bytes. 26 ∷ bytes) (parts_map rule_of rules)

pub dec_of-Val : (tyvars : List Name) (binds recs : List Rule) (at : At)
    → dec_of (dec.Val tyvars binds recs at)
    ≡ 64 ∷ (list_of name_of tyvars ++ (list_of rule_of binds ++ list_of rule_of recs))
dec_of-Val tyvars binds recs at =
    ap dec_of (sym (dec.rolls-Val tyvars binds recs at))
    ∙ fold-roll-Dec _ _ _ _ _ _ dec_level exp_level str_level exp_field_level rule_level str_bind_level (Dec-F.Val tyvars binds recs at)
    ∙ ap₂ (λ a b. 64 ∷ (list_of name_of tyvars ++ (a ++ b))) (parts_map rule_of binds) (parts_map rule_of recs)

pub dec_of-Sequence : (decs : List Dec) (at : At) → dec_of (dec.Sequence decs at) ≡ 71 ∷ list_of dec_of decs
dec_of-Sequence decs at =
    ap dec_of (sym (dec.rolls-Sequence decs at))
    ∙ fold-roll-Dec _ _ _ _ _ _ dec_level exp_level str_level exp_field_level rule_level str_bind_level (Dec-F.Sequence decs at)
    ∙ ap (λ bytes. 71 ∷ bytes) (parts_map dec_of decs)

pub dec_of-Structures : (binds : List StrBind) (at : At)
    → dec_of (dec.Structures binds at) ≡ 72 ∷ list_of str_bind_of binds
dec_of-Structures binds at =
    ap dec_of (sym (dec.rolls-Structures binds at))
    ∙ fold-roll-Dec _ _ _ _ _ _ dec_level exp_level str_level exp_field_level rule_level str_bind_level (Dec-F.Structures binds at)
    ∙ ap (λ bytes. 72 ∷ bytes) (parts_map str_bind_of binds)

pub ruleset exp_spelled = (
  exp_of-Record,
  exp_of-Handle,
  exp_of-Fn,
  dec_of-Val,
  dec_of-Sequence,
  dec_of-Structures,
  append_assoc,
)
