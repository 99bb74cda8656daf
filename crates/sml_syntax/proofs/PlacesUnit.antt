-- The places of expressions, of declarations and of units don't show in their bytes.
use Rattle.std.proofs.Common.{◌≡◌, ℕ, List, [], ◌∷◌, ◌++◌, Option, map, refl, sym, ap, ap₂, ◌∙◌, subst}
use Rattle.cm_bytes.specs.Fields.{list_of}
use Rattle.sml_syntax.specs.Code.{parts, name_of, long_of, ty_of, typ_bind_of, dat_bind_of, ex_bind_of, pat_of, sig_of, sig_bind_of, exp_of, exp_field_of, rule_of, dec_of, str_of, str_bind_of, exp_level, exp_field_level, rule_level, dec_level, str_level, str_bind_level, fun_bind_of, funsig_bind_of, topdec_of, code_of}
use Rattle.sml_syntax.specs.Places.{unplaced_name, unplaced_ty, unplaced_typ_bind, unplaced_dat_bind, unplaced_ex_bind, unplaced_pat, unplaced_sig, unplaced_sig_bind}
use Rattle.sml_syntax.specs.PlacesUnit.{exp_unplaced, exp_field_unplaced, rule_unplaced, dec_unplaced, str_unplaced, str_bind_unplaced, unplaced_exp, unplaced_exp_field, unplaced_rule, unplaced_dec, unplaced_str, unplaced_str_bind, unplaced_fun_bind, unplaced_funsig_bind, unplaced_topdec, unplaced}
use Rattle.sml_syntax.proofs.Places.{ap₃, list_same, held_same, names_same, longs_same, ty_same, typ_bind_same, dat_bind_same, ex_bind_same}
use Rattle.sml_syntax.proofs.PlacesSig.{pat_same, sig_same, sig_bind_same}
use Rattle.sml_trees.specs.declared.exp.Dec.{Dec, roll-Dec}
use Rattle.sml_trees.specs.declared.exp.Exp.{Exp, roll-Exp}
use Rattle.sml_trees.specs.declared.exp.StrExp.{StrExp, roll-StrExp}
use Rattle.sml_trees.specs.declared.exp.ExpField.{ExpField, roll-ExpField}
use Rattle.sml_trees.specs.declared.exp.Rule.{Rule, roll-Rule}
use Rattle.sml_trees.specs.declared.exp.StrBind.{StrBind, roll-StrBind}
use Rattle.sml_trees.specs.declared.exp.Dec.TheOpen.{Dec-F, Exp-F, StrExp-F, ExpField-F, Rule-F, StrBind-F}
use Rattle.sml_trees.specs.declared.exp.Dec.TheFolds.{map-Dec, map-Exp, map-StrExp, map-ExpField, map-Rule, map-StrBind, fold-roll-Dec, fold-roll-Exp, fold-roll-StrExp, fold-roll-ExpField, fold-roll-Rule, fold-roll-StrBind, ind-Dec, ind-Exp, ind-StrExp, ind-ExpField, ind-Rule, ind-StrBind}
use Rattle.sml_trees.specs.declared.unit.FunBind.{FunBind}
use Rattle.sml_trees.specs.declared.unit.FunsigBind.{FunsigBind}
use Rattle.sml_trees.specs.declared.unit.TopDec.{TopDec}
use Rattle.sml_trees.specs.declared.unit.TopDec.TheVariants as top
use Rattle.sml_trees.specs.declared.unit.BareUnit.{BareUnit}

abbrev SameDec : Dec → Type 0
SameDec x = dec_of (unplaced_dec x) ≡ dec_of x

abbrev HeldDec : Type 0
HeldDec = (x : Dec) × SameDec x

abbrev SameExp : Exp → Type 0
SameExp x = exp_of (unplaced_exp x) ≡ exp_of x

abbrev HeldExp : Type 0
HeldExp = (x : Exp) × SameExp x

abbrev SameStrExp : StrExp → Type 0
SameStrExp x = str_of (unplaced_str x) ≡ str_of x

abbrev HeldStrExp : Type 0
HeldStrExp = (x : StrExp) × SameStrExp x

abbrev SameExpField : ExpField → Type 0
SameExpField x = exp_field_of (unplaced_exp_field x) ≡ exp_field_of x

abbrev HeldExpField : Type 0
HeldExpField = (x : ExpField) × SameExpField x

abbrev SameRule : Rule → Type 0
SameRule x = rule_of (unplaced_rule x) ≡ rule_of x

abbrev HeldRule : Type 0
HeldRule = (x : Rule) × SameRule x

abbrev SameStrBind : StrBind → Type 0
SameStrBind x = str_bind_of (unplaced_str_bind x) ≡ str_bind_of x

abbrev HeldStrBind : Type 0
HeldStrBind = (x : StrBind) × SameStrBind x

dec_parts_same : (y : Dec-F HeldDec HeldExp HeldStrExp HeldExpField HeldRule HeldStrBind)
    → dec_level (map-Dec _ _ _ _ _ _ _ _ _ _ _ _ dec_of exp_of str_of exp_field_of rule_of str_bind_of (dec_unplaced (map-Dec _ _ _ _ _ _ _ _ _ _ _ _ unplaced_dec unplaced_exp unplaced_str unplaced_exp_field unplaced_rule unplaced_str_bind (map-Dec _ _ _ _ _ _ _ _ _ _ _ _ (λ e. e.0) (λ e. e.0) (λ e. e.0) (λ e. e.0) (λ e. e.0) (λ e. e.0) y))))
    ≡ dec_level (map-Dec _ _ _ _ _ _ _ _ _ _ _ _ dec_of exp_of str_of exp_field_of rule_of str_bind_of (map-Dec _ _ _ _ _ _ _ _ _ _ _ _ (λ e. e.0) (λ e. e.0) (λ e. e.0) (λ e. e.0) (λ e. e.0) (λ e. e.0) y))
dec_parts_same (Dec-F.Val a b c at) = ap₃ (λ s t u. 64 ∷ (s ++ (parts t ++ parts u))) (names_same a) (held_same rule_of unplaced_rule b) (held_same rule_of unplaced_rule c)
dec_parts_same (Dec-F.Types a at) = ap (λ s. 65 ∷ s) (list_same typ_bind_of unplaced_typ_bind typ_bind_same a)
dec_parts_same (Dec-F.Datatypes a at) = ap (λ s. 66 ∷ s) (list_same dat_bind_of unplaced_dat_bind dat_bind_same a)
dec_parts_same (Dec-F.Replication a b at) = refl
dec_parts_same (Dec-F.Exceptions a at) = ap (λ s. 68 ∷ s) (list_same ex_bind_of unplaced_ex_bind ex_bind_same a)
dec_parts_same (Dec-F.Local a b at) = ap₂ (λ s t. 69 ∷ (s ++ t)) (a.1) (b.1)
dec_parts_same (Dec-F.Open a at) = ap (λ s. 70 ∷ s) (longs_same a)
dec_parts_same (Dec-F.Sequence a at) = ap (λ s. 71 ∷ parts s) (held_same dec_of unplaced_dec a)
dec_parts_same (Dec-F.Structures a at) = ap (λ s. 72 ∷ parts s) (held_same str_bind_of unplaced_str_bind a)

dec_step : (x : Dec-F Dec Exp StrExp ExpField Rule StrBind) (y : Dec-F HeldDec HeldExp HeldStrExp HeldExpField HeldRule HeldStrBind) → map-Dec _ _ _ _ _ _ _ _ _ _ _ _ (λ e. e.0) (λ e. e.0) (λ e. e.0) (λ e. e.0) (λ e. e.0) (λ e. e.0) y ≡ x → SameDec (roll-Dec x)
dec_step x y is = subst (λ (z : Dec-F Dec Exp StrExp ExpField Rule StrBind). SameDec (roll-Dec z)) is (
    ap dec_of (fold-roll-Dec _ _ _ _ _ _ (λ x. roll-Dec (dec_unplaced x)) (λ x. roll-Exp (exp_unplaced x)) (λ x. roll-StrExp (str_unplaced x)) (λ x. roll-ExpField (exp_field_unplaced x)) (λ x. roll-Rule (rule_unplaced x)) (λ x. roll-StrBind (str_bind_unplaced x)) z)
    ∙ fold-roll-Dec _ _ _ _ _ _ dec_level exp_level str_level exp_field_level rule_level str_bind_level (dec_unplaced (map-Dec _ _ _ _ _ _ _ _ _ _ _ _ unplaced_dec unplaced_exp unplaced_str unplaced_exp_field unplaced_rule unplaced_str_bind z))
    ∙ dec_parts_same y
    ∙ sym (fold-roll-Dec _ _ _ _ _ _ dec_level exp_level str_level exp_field_level rule_level str_bind_level z))
  where
    z : Dec-F Dec Exp StrExp ExpField Rule StrBind
    z = map-Dec _ _ _ _ _ _ _ _ _ _ _ _ (λ e. e.0) (λ e. e.0) (λ e. e.0) (λ e. e.0) (λ e. e.0) (λ e. e.0) y

exp_parts_same : (y : Exp-F HeldDec HeldExp HeldStrExp HeldExpField HeldRule HeldStrBind)
    → exp_level (map-Exp _ _ _ _ _ _ _ _ _ _ _ _ dec_of exp_of str_of exp_field_of rule_of str_bind_of (exp_unplaced (map-Exp _ _ _ _ _ _ _ _ _ _ _ _ unplaced_dec unplaced_exp unplaced_str unplaced_exp_field unplaced_rule unplaced_str_bind (map-Exp _ _ _ _ _ _ _ _ _ _ _ _ (λ e. e.0) (λ e. e.0) (λ e. e.0) (λ e. e.0) (λ e. e.0) (λ e. e.0) y))))
    ≡ exp_level (map-Exp _ _ _ _ _ _ _ _ _ _ _ _ dec_of exp_of str_of exp_field_of rule_of str_bind_of (map-Exp _ _ _ _ _ _ _ _ _ _ _ _ (λ e. e.0) (λ e. e.0) (λ e. e.0) (λ e. e.0) (λ e. e.0) (λ e. e.0) y))
exp_parts_same (Exp-F.Int a at) = refl
exp_parts_same (Exp-F.Str a at) = refl
exp_parts_same (Exp-F.Char a at) = refl
exp_parts_same (Exp-F.Long a at) = refl
exp_parts_same (Exp-F.Record a at) = ap (λ s. 20 ∷ parts s) (held_same exp_field_of unplaced_exp_field a)
exp_parts_same (Exp-F.Let a b at) = ap₂ (λ s t. 21 ∷ (s ++ t)) (a.1) (b.1)
exp_parts_same (Exp-F.App a b at) = ap₂ (λ s t. 22 ∷ (s ++ t)) (a.1) (b.1)
exp_parts_same (Exp-F.Typed a b at) = ap₂ (λ s t. 23 ∷ (s ++ t)) (a.1) (ty_same b)
exp_parts_same (Exp-F.Handle a b at) = ap₂ (λ s t. 24 ∷ (s ++ parts t)) (a.1) (held_same rule_of unplaced_rule b)
exp_parts_same (Exp-F.Raise a at) = ap (λ s. 25 ∷ s) (a.1)
exp_parts_same (Exp-F.Fn a at) = ap (λ s. 26 ∷ parts s) (held_same rule_of unplaced_rule a)

exp_step : (x : Exp-F Dec Exp StrExp ExpField Rule StrBind) (y : Exp-F HeldDec HeldExp HeldStrExp HeldExpField HeldRule HeldStrBind) → map-Exp _ _ _ _ _ _ _ _ _ _ _ _ (λ e. e.0) (λ e. e.0) (λ e. e.0) (λ e. e.0) (λ e. e.0) (λ e. e.0) y ≡ x → SameExp (roll-Exp x)
exp_step x y is = subst (λ (z : Exp-F Dec Exp StrExp ExpField Rule StrBind). SameExp (roll-Exp z)) is (
    ap exp_of (fold-roll-Exp _ _ _ _ _ _ (λ x. roll-Dec (dec_unplaced x)) (λ x. roll-Exp (exp_unplaced x)) (λ x. roll-StrExp (str_unplaced x)) (λ x. roll-ExpField (exp_field_unplaced x)) (λ x. roll-Rule (rule_unplaced x)) (λ x. roll-StrBind (str_bind_unplaced x)) z)
    ∙ fold-roll-Exp _ _ _ _ _ _ dec_level exp_level str_level exp_field_level rule_level str_bind_level (exp_unplaced (map-Exp _ _ _ _ _ _ _ _ _ _ _ _ unplaced_dec unplaced_exp unplaced_str unplaced_exp_field unplaced_rule unplaced_str_bind z))
    ∙ exp_parts_same y
    ∙ sym (fold-roll-Exp _ _ _ _ _ _ dec_level exp_level str_level exp_field_level rule_level str_bind_level z))
  where
    z : Exp-F Dec Exp StrExp ExpField Rule StrBind
    z = map-Exp _ _ _ _ _ _ _ _ _ _ _ _ (λ e. e.0) (λ e. e.0) (λ e. e.0) (λ e. e.0) (λ e. e.0) (λ e. e.0) y

str_parts_same : (y : StrExp-F HeldDec HeldExp HeldStrExp HeldExpField HeldRule HeldStrBind)
    → str_level (map-StrExp _ _ _ _ _ _ _ _ _ _ _ _ dec_of exp_of str_of exp_field_of rule_of str_bind_of (str_unplaced (map-StrExp _ _ _ _ _ _ _ _ _ _ _ _ unplaced_dec unplaced_exp unplaced_str unplaced_exp_field unplaced_rule unplaced_str_bind (map-StrExp _ _ _ _ _ _ _ _ _ _ _ _ (λ e. e.0) (λ e. e.0) (λ e. e.0) (λ e. e.0) (λ e. e.0) (λ e. e.0) y))))
    ≡ str_level (map-StrExp _ _ _ _ _ _ _ _ _ _ _ _ dec_of exp_of str_of exp_field_of rule_of str_bind_of (map-StrExp _ _ _ _ _ _ _ _ _ _ _ _ (λ e. e.0) (λ e. e.0) (λ e. e.0) (λ e. e.0) (λ e. e.0) (λ e. e.0) y))
str_parts_same (StrExp-F.Struct a at) = ap (λ s. 80 ∷ s) (a.1)
str_parts_same (StrExp-F.Named a at) = refl
str_parts_same (StrExp-F.Transparent a b at) = ap₂ (λ s t. 82 ∷ (s ++ t)) (a.1) (sig_same b)
str_parts_same (StrExp-F.Opaque a b at) = ap₂ (λ s t. 83 ∷ (s ++ t)) (a.1) (sig_same b)
str_parts_same (StrExp-F.Functor a b at) = ap (λ s. 84 ∷ (name_of a ++ s)) (b.1)
str_parts_same (StrExp-F.Within a b at) = ap₂ (λ s t. 85 ∷ (s ++ t)) (a.1) (b.1)

str_step : (x : StrExp-F Dec Exp StrExp ExpField Rule StrBind) (y : StrExp-F HeldDec HeldExp HeldStrExp HeldExpField HeldRule HeldStrBind) → map-StrExp _ _ _ _ _ _ _ _ _ _ _ _ (λ e. e.0) (λ e. e.0) (λ e. e.0) (λ e. e.0) (λ e. e.0) (λ e. e.0) y ≡ x → SameStrExp (roll-StrExp x)
str_step x y is = subst (λ (z : StrExp-F Dec Exp StrExp ExpField Rule StrBind). SameStrExp (roll-StrExp z)) is (
    ap str_of (fold-roll-StrExp _ _ _ _ _ _ (λ x. roll-Dec (dec_unplaced x)) (λ x. roll-Exp (exp_unplaced x)) (λ x. roll-StrExp (str_unplaced x)) (λ x. roll-ExpField (exp_field_unplaced x)) (λ x. roll-Rule (rule_unplaced x)) (λ x. roll-StrBind (str_bind_unplaced x)) z)
    ∙ fold-roll-StrExp _ _ _ _ _ _ dec_level exp_level str_level exp_field_level rule_level str_bind_level (str_unplaced (map-StrExp _ _ _ _ _ _ _ _ _ _ _ _ unplaced_dec unplaced_exp unplaced_str unplaced_exp_field unplaced_rule unplaced_str_bind z))
    ∙ str_parts_same y
    ∙ sym (fold-roll-StrExp _ _ _ _ _ _ dec_level exp_level str_level exp_field_level rule_level str_bind_level z))
  where
    z : StrExp-F Dec Exp StrExp ExpField Rule StrBind
    z = map-StrExp _ _ _ _ _ _ _ _ _ _ _ _ (λ e. e.0) (λ e. e.0) (λ e. e.0) (λ e. e.0) (λ e. e.0) (λ e. e.0) y

exp_field_parts_same : (y : ExpField-F HeldDec HeldExp HeldStrExp HeldExpField HeldRule HeldStrBind)
    → exp_field_level (map-ExpField _ _ _ _ _ _ _ _ _ _ _ _ dec_of exp_of str_of exp_field_of rule_of str_bind_of (exp_field_unplaced (map-ExpField _ _ _ _ _ _ _ _ _ _ _ _ unplaced_dec unplaced_exp unplaced_str unplaced_exp_field unplaced_rule unplaced_str_bind (map-ExpField _ _ _ _ _ _ _ _ _ _ _ _ (λ e. e.0) (λ e. e.0) (λ e. e.0) (λ e. e.0) (λ e. e.0) (λ e. e.0) y))))
    ≡ exp_field_level (map-ExpField _ _ _ _ _ _ _ _ _ _ _ _ dec_of exp_of str_of exp_field_of rule_of str_bind_of (map-ExpField _ _ _ _ _ _ _ _ _ _ _ _ (λ e. e.0) (λ e. e.0) (λ e. e.0) (λ e. e.0) (λ e. e.0) (λ e. e.0) y))
exp_field_parts_same y = ap (λ s. (name_of y.label ++ s)) (y.exp.1)

exp_field_step : (x : ExpField-F Dec Exp StrExp ExpField Rule StrBind) (y : ExpField-F HeldDec HeldExp HeldStrExp HeldExpField HeldRule HeldStrBind) → map-ExpField _ _ _ _ _ _ _ _ _ _ _ _ (λ e. e.0) (λ e. e.0) (λ e. e.0) (λ e. e.0) (λ e. e.0) (λ e. e.0) y ≡ x → SameExpField (roll-ExpField x)
exp_field_step x y is = subst (λ (z : ExpField-F Dec Exp StrExp ExpField Rule StrBind). SameExpField (roll-ExpField z)) is (
    ap exp_field_of (fold-roll-ExpField _ _ _ _ _ _ (λ x. roll-Dec (dec_unplaced x)) (λ x. roll-Exp (exp_unplaced x)) (λ x. roll-StrExp (str_unplaced x)) (λ x. roll-ExpField (exp_field_unplaced x)) (λ x. roll-Rule (rule_unplaced x)) (λ x. roll-StrBind (str_bind_unplaced x)) z)
    ∙ fold-roll-ExpField _ _ _ _ _ _ dec_level exp_level str_level exp_field_level rule_level str_bind_level (exp_field_unplaced (map-ExpField _ _ _ _ _ _ _ _ _ _ _ _ unplaced_dec unplaced_exp unplaced_str unplaced_exp_field unplaced_rule unplaced_str_bind z))
    ∙ exp_field_parts_same y
    ∙ sym (fold-roll-ExpField _ _ _ _ _ _ dec_level exp_level str_level exp_field_level rule_level str_bind_level z))
  where
    z : ExpField-F Dec Exp StrExp ExpField Rule StrBind
    z = map-ExpField _ _ _ _ _ _ _ _ _ _ _ _ (λ e. e.0) (λ e. e.0) (λ e. e.0) (λ e. e.0) (λ e. e.0) (λ e. e.0) y

rule_parts_same : (y : Rule-F HeldDec HeldExp HeldStrExp HeldExpField HeldRule HeldStrBind)
    → rule_level (map-Rule _ _ _ _ _ _ _ _ _ _ _ _ dec_of exp_of str_of exp_field_of rule_of str_bind_of (rule_unplaced (map-Rule _ _ _ _ _ _ _ _ _ _ _ _ unplaced_dec unplaced_exp unplaced_str unplaced_exp_field unplaced_rule unplaced_str_bind (map-Rule _ _ _ _ _ _ _ _ _ _ _ _ (λ e. e.0) (λ e. e.0) (λ e. e.0) (λ e. e.0) (λ e. e.0) (λ e. e.0) y))))
    ≡ rule_level (map-Rule _ _ _ _ _ _ _ _ _ _ _ _ dec_of exp_of str_of exp_field_of rule_of str_bind_of (map-Rule _ _ _ _ _ _ _ _ _ _ _ _ (λ e. e.0) (λ e. e.0) (λ e. e.0) (λ e. e.0) (λ e. e.0) (λ e. e.0) y))
rule_parts_same y = ap₂ (λ s t. (s ++ t)) (pat_same y.pat) (y.exp.1)

rule_step : (x : Rule-F Dec Exp StrExp ExpField Rule StrBind) (y : Rule-F HeldDec HeldExp HeldStrExp HeldExpField HeldRule HeldStrBind) → map-Rule _ _ _ _ _ _ _ _ _ _ _ _ (λ e. e.0) (λ e. e.0) (λ e. e.0) (λ e. e.0) (λ e. e.0) (λ e. e.0) y ≡ x → SameRule (roll-Rule x)
rule_step x y is = subst (λ (z : Rule-F Dec Exp StrExp ExpField Rule StrBind). SameRule (roll-Rule z)) is (
    ap rule_of (fold-roll-Rule _ _ _ _ _ _ (λ x. roll-Dec (dec_unplaced x)) (λ x. roll-Exp (exp_unplaced x)) (λ x. roll-StrExp (str_unplaced x)) (λ x. roll-ExpField (exp_field_unplaced x)) (λ x. roll-Rule (rule_unplaced x)) (λ x. roll-StrBind (str_bind_unplaced x)) z)
    ∙ fold-roll-Rule _ _ _ _ _ _ dec_level exp_level str_level exp_field_level rule_level str_bind_level (rule_unplaced (map-Rule _ _ _ _ _ _ _ _ _ _ _ _ unplaced_dec unplaced_exp unplaced_str unplaced_exp_field unplaced_rule unplaced_str_bind z))
    ∙ rule_parts_same y
    ∙ sym (fold-roll-Rule _ _ _ _ _ _ dec_level exp_level str_level exp_field_level rule_level str_bind_level z))
  where
    z : Rule-F Dec Exp StrExp ExpField Rule StrBind
    z = map-Rule _ _ _ _ _ _ _ _ _ _ _ _ (λ e. e.0) (λ e. e.0) (λ e. e.0) (λ e. e.0) (λ e. e.0) (λ e. e.0) y

str_bind_parts_same : (y : StrBind-F HeldDec HeldExp HeldStrExp HeldExpField HeldRule HeldStrBind)
    → str_bind_level (map-StrBind _ _ _ _ _ _ _ _ _ _ _ _ dec_of exp_of str_of exp_field_of rule_of str_bind_of (str_bind_unplaced (map-StrBind _ _ _ _ _ _ _ _ _ _ _ _ unplaced_dec unplaced_exp unplaced_str unplaced_exp_field unplaced_rule unplaced_str_bind (map-StrBind _ _ _ _ _ _ _ _ _ _ _ _ (λ e. e.0) (λ e. e.0) (λ e. e.0) (λ e. e.0) (λ e. e.0) (λ e. e.0) y))))
    ≡ str_bind_level (map-StrBind _ _ _ _ _ _ _ _ _ _ _ _ dec_of exp_of str_of exp_field_of rule_of str_bind_of (map-StrBind _ _ _ _ _ _ _ _ _ _ _ _ (λ e. e.0) (λ e. e.0) (λ e. e.0) (λ e. e.0) (λ e. e.0) (λ e. e.0) y))
str_bind_parts_same y = ap (λ s. (name_of y.name ++ s)) (y.body.1)

str_bind_step : (x : StrBind-F Dec Exp StrExp ExpField Rule StrBind) (y : StrBind-F HeldDec HeldExp HeldStrExp HeldExpField HeldRule HeldStrBind) → map-StrBind _ _ _ _ _ _ _ _ _ _ _ _ (λ e. e.0) (λ e. e.0) (λ e. e.0) (λ e. e.0) (λ e. e.0) (λ e. e.0) y ≡ x → SameStrBind (roll-StrBind x)
str_bind_step x y is = subst (λ (z : StrBind-F Dec Exp StrExp ExpField Rule StrBind). SameStrBind (roll-StrBind z)) is (
    ap str_bind_of (fold-roll-StrBind _ _ _ _ _ _ (λ x. roll-Dec (dec_unplaced x)) (λ x. roll-Exp (exp_unplaced x)) (λ x. roll-StrExp (str_unplaced x)) (λ x. roll-ExpField (exp_field_unplaced x)) (λ x. roll-Rule (rule_unplaced x)) (λ x. roll-StrBind (str_bind_unplaced x)) z)
    ∙ fold-roll-StrBind _ _ _ _ _ _ dec_level exp_level str_level exp_field_level rule_level str_bind_level (str_bind_unplaced (map-StrBind _ _ _ _ _ _ _ _ _ _ _ _ unplaced_dec unplaced_exp unplaced_str unplaced_exp_field unplaced_rule unplaced_str_bind z))
    ∙ str_bind_parts_same y
    ∙ sym (fold-roll-StrBind _ _ _ _ _ _ dec_level exp_level str_level exp_field_level rule_level str_bind_level z))
  where
    z : StrBind-F Dec Exp StrExp ExpField Rule StrBind
    z = map-StrBind _ _ _ _ _ _ _ _ _ _ _ _ (λ e. e.0) (λ e. e.0) (λ e. e.0) (λ e. e.0) (λ e. e.0) (λ e. e.0) y

pub dec_same : (x : Dec) → SameDec x
dec_same = ind-Dec SameDec SameExp SameStrExp SameExpField SameRule SameStrBind dec_step exp_step str_step exp_field_step rule_step str_bind_step

pub exp_same : (x : Exp) → SameExp x
exp_same = ind-Exp SameDec SameExp SameStrExp SameExpField SameRule SameStrBind dec_step exp_step str_step exp_field_step rule_step str_bind_step

pub str_same : (x : StrExp) → SameStrExp x
str_same = ind-StrExp SameDec SameExp SameStrExp SameExpField SameRule SameStrBind dec_step exp_step str_step exp_field_step rule_step str_bind_step

pub exp_field_same : (x : ExpField) → SameExpField x
exp_field_same = ind-ExpField SameDec SameExp SameStrExp SameExpField SameRule SameStrBind dec_step exp_step str_step exp_field_step rule_step str_bind_step

pub rule_same : (x : Rule) → SameRule x
rule_same = ind-Rule SameDec SameExp SameStrExp SameExpField SameRule SameStrBind dec_step exp_step str_step exp_field_step rule_step str_bind_step

pub str_bind_same : (x : StrBind) → SameStrBind x
str_bind_same = ind-StrBind SameDec SameExp SameStrExp SameExpField SameRule SameStrBind dec_step exp_step str_step exp_field_step rule_step str_bind_step

-- ---- the top level

pub fun_bind_same : (x : FunBind) → fun_bind_of (unplaced_fun_bind x) ≡ fun_bind_of x
fun_bind_same x = ap₂ (λ s t. (name_of x.name ++ (name_of x.param ++ (s ++ t)))) (sig_same x.param_sig) (str_same x.body)

pub funsig_bind_same : (x : FunsigBind) → funsig_bind_of (unplaced_funsig_bind x) ≡ funsig_bind_of x
funsig_bind_same x = ap₂ (λ s t. (name_of x.name ++ (name_of x.param ++ (s ++ t)))) (sig_same x.param_sig) (sig_same x.result_sig)

topdec_same : (x : TopDec) → topdec_of (unplaced_topdec x) ≡ topdec_of x
topdec_same (top.Structures binds at) = ap (λ s. 128 ∷ s) (list_same str_bind_of unplaced_str_bind str_bind_same binds)
topdec_same (top.Signatures binds at) = ap (λ s. 129 ∷ s) (list_same sig_bind_of unplaced_sig_bind sig_bind_same binds)
topdec_same (top.Functors binds at) = ap (λ s. 130 ∷ s) (list_same fun_bind_of unplaced_fun_bind fun_bind_same binds)
topdec_same (top.Funsigs binds at) = ap (λ s. 131 ∷ s) (list_same funsig_bind_of unplaced_funsig_bind funsig_bind_same binds)

pub code_same : (unit : BareUnit) → code_of (unplaced unit) ≡ code_of unit
unfolding code_of
code_same unit = ap (λ s. 67 ∷ 77 ∷ 67 ∷ 49 ∷ s) (list_same topdec_of unplaced_topdec topdec_same unit.topdecs)

pub code_alike : (a b : BareUnit) → unplaced a ≡ unplaced b → code_of a ≡ code_of b
code_alike a b e = sym (code_same a) ∙ ap code_of e ∙ code_same b
