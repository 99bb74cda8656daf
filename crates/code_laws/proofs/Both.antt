-- A plain tree whose constants fit passes both tests at once.
use Rattle.std.proofs.Common.{◌≡◌, Bool, true, ◌&&◌, List, [], ◌∷◌, map, refl, sym, ap, ap₂, subst, ◌∙◌}
use Rattle.std.specs.List.{list_all}
use Rattle.sml_trees.specs.CoreLets.{all_true}
use Rattle.sml_trees.specs.declared.exp.Dec.{Dec, roll-Dec}
use Rattle.sml_trees.specs.declared.exp.Dec.TheOpen.{Dec-F, Exp-F, StrExp-F, ExpField-F, Rule-F, StrBind-F}
use Rattle.sml_trees.specs.declared.exp.Dec.TheFolds.{map-Dec, map-Exp, map-StrExp, map-ExpField, map-Rule, map-StrBind, fold-roll-Dec, fold-roll-Exp, fold-roll-StrExp, fold-roll-ExpField, fold-roll-Rule, fold-roll-StrBind, ind-StrExp, ind-StrBind}
use Rattle.sml_trees.specs.declared.exp.Exp.{Exp, roll-Exp}
use Rattle.sml_trees.specs.declared.exp.ExpField.{ExpField, roll-ExpField}
use Rattle.sml_trees.specs.declared.exp.Rule.{Rule, roll-Rule}
use Rattle.sml_trees.specs.declared.exp.StrBind.{StrBind, roll-StrBind}
use Rattle.sml_trees.specs.declared.exp.StrExp.{StrExp, roll-StrExp}
use Rattle.sml_trees.specs.declared.unit.BareUnit.{BareUnit}
use Rattle.sml_trees.specs.declared.unit.FunBind.{FunBind}
use Rattle.sml_trees.specs.declared.unit.TopDec.{TopDec}
use Rattle.sml_trees.specs.declared.unit.TopDec.TheVariants as top
use Rattle.code_laws.specs.Constants.{HasFitConstants, fit_pat, exp_fit, exp_field_fit, rule_fit, dec_fit, str_fit, str_bind_fit, fit_exp, fit_exp_field, fit_rule, fit_dec, fit_str, fit_str_bind, fit_fun_bind, fit_topdec}
use Rattle.code_laws.specs.Plain.{Body, IsPlain, plain_of, body_of, plain_sig}
use Rattle.code_laws.specs.Plain as seq
use Rattle.code_laws.proofs.Fitting as all
use Rattle.code_laws.proofs.Lists.{and_one, and_two}

both_true : (a b : Bool) → a ≡ true → b ≡ true → a && b ≡ true
both_true a b first second = ap₂ (λ x y. x && y) first second

-- ---- each phrase

record DecIs (x : Dec) : Type 0 where
  passes : plain_of (seq.plain_dec x) ≡ true → fit_dec x ≡ true → plain_of (all.plain_dec x) ≡ true
  same : (seq.plain_dec x).sequence ≡ (all.plain_dec x).sequence

abbrev ExpIs : Exp → Type 0
ExpIs x = seq.plain_exp x ≡ true → fit_exp x ≡ true → all.plain_exp x ≡ true

abbrev StrExpIs : StrExp → Type 0
StrExpIs x = seq.plain_str x ≡ true → fit_str x ≡ true → all.plain_str x ≡ true

abbrev ExpFieldIs : ExpField → Type 0
ExpFieldIs x = seq.plain_exp_field x ≡ true → fit_exp_field x ≡ true → all.plain_exp_field x ≡ true

abbrev RuleIs : Rule → Type 0
RuleIs x = seq.plain_rule x ≡ true → fit_rule x ≡ true → all.plain_rule x ≡ true

abbrev StrBindIs : StrBind → Type 0
StrBindIs x = seq.plain_str_bind x ≡ true → fit_str_bind x ≡ true → all.plain_str_bind x ≡ true

abbrev HeldDec : Type 0
HeldDec = (x : Dec) × DecIs x

abbrev HeldExp : Type 0
HeldExp = (x : Exp) × ExpIs x

abbrev HeldStrExp : Type 0
HeldStrExp = (x : StrExp) × StrExpIs x

abbrev HeldExpField : Type 0
HeldExpField = (x : ExpField) × ExpFieldIs x

abbrev HeldRule : Type 0
HeldRule = (x : Rule) × RuleIs x

abbrev HeldStrBind : Type 0
HeldStrBind = (x : StrBind) × StrBindIs x

body_passes : (x : Dec) → DecIs x → body_of (seq.plain_dec x) ≡ true → fit_dec x ≡ true → body_of (all.plain_dec x) ≡ true
body_passes x is plain fits =
    let first = and_one (plain_of (seq.plain_dec x)) (seq.plain_dec x).sequence plain in
    let second = and_two (plain_of (seq.plain_dec x)) (seq.plain_dec x).sequence plain in
    both_true (plain_of (all.plain_dec x)) (all.plain_dec x).sequence (is.passes first fits) (sym is.same ∙ second)

-- lists of which each item is so
each_passes : {A : Type 0} (f g h : A → Bool) (xs : List ((x : A) × (f x ≡ true → g x ≡ true → h x ≡ true)))
    → all_true (map f (map (λ e. e.0) xs)) ≡ true → all_true (map g (map (λ e. e.0) xs)) ≡ true
    → all_true (map h (map (λ e. e.0) xs)) ≡ true
each_passes f g h [] plain fits = refl
each_passes f g h (x ∷ xs) plain fits =
    let others = map (λ e. e.0) xs in
    both_true (h x.0) (all_true (map h others))
    (x.1 (and_one (f x.0) (all_true (map f others)) plain) (and_one (g x.0) (all_true (map g others)) fits))
    (each_passes f g h xs (and_two (f x.0) (all_true (map f others)) plain) (and_two (g x.0) (all_true (map g others)) fits))

decs_pass : (xs : List HeldDec) → list_all plain_of (map seq.plain_dec (map (λ e. e.0) xs)) ≡ true
    → all_true (map fit_dec (map (λ e. e.0) xs)) ≡ true → list_all plain_of (map all.plain_dec (map (λ e. e.0) xs)) ≡ true
decs_pass [] plain fits = refl
decs_pass (x ∷ xs) plain fits =
    let others = map (λ e. e.0) xs in
    let tests = list_all plain_of (map seq.plain_dec others) in
    both_true (plain_of (all.plain_dec x.0)) (list_all plain_of (map all.plain_dec others))
    (x.1.passes (and_one (plain_of (seq.plain_dec x.0)) tests plain) (and_one (fit_dec x.0) (all_true (map fit_dec others)) fits))
    (decs_pass xs (and_two (plain_of (seq.plain_dec x.0)) tests plain) (and_two (fit_dec x.0) (all_true (map fit_dec others)) fits))

abbrev dec_held : Dec-F HeldDec HeldExp HeldStrExp HeldExpField HeldRule HeldStrBind → Dec-F Dec Exp StrExp ExpField Rule StrBind
dec_held = map-Dec _ _ _ _ _ _ _ _ _ _ _ _ (λ e. e.0) (λ e. e.0) (λ e. e.0) (λ e. e.0) (λ e. e.0) (λ e. e.0)

abbrev dec_seq : Dec-F Dec Exp StrExp ExpField Rule StrBind → Dec-F Body Bool Bool Bool Bool Bool
dec_seq = map-Dec _ _ _ _ _ _ _ _ _ _ _ _ seq.plain_dec seq.plain_exp seq.plain_str seq.plain_exp_field seq.plain_rule seq.plain_str_bind

abbrev dec_fits : Dec-F Dec Exp StrExp ExpField Rule StrBind → Dec-F Bool Bool Bool Bool Bool Bool
dec_fits = map-Dec _ _ _ _ _ _ _ _ _ _ _ _ fit_dec fit_exp fit_str fit_exp_field fit_rule fit_str_bind

abbrev dec_both : Dec-F Dec Exp StrExp ExpField Rule StrBind → Dec-F Body Bool Bool Bool Bool Bool
dec_both = map-Dec _ _ _ _ _ _ _ _ _ _ _ _ all.plain_dec all.plain_exp all.plain_str all.plain_exp_field all.plain_rule all.plain_str_bind

abbrev exp_held : Exp-F HeldDec HeldExp HeldStrExp HeldExpField HeldRule HeldStrBind → Exp-F Dec Exp StrExp ExpField Rule StrBind
exp_held = map-Exp _ _ _ _ _ _ _ _ _ _ _ _ (λ e. e.0) (λ e. e.0) (λ e. e.0) (λ e. e.0) (λ e. e.0) (λ e. e.0)

abbrev exp_seq : Exp-F Dec Exp StrExp ExpField Rule StrBind → Exp-F Body Bool Bool Bool Bool Bool
exp_seq = map-Exp _ _ _ _ _ _ _ _ _ _ _ _ seq.plain_dec seq.plain_exp seq.plain_str seq.plain_exp_field seq.plain_rule seq.plain_str_bind

abbrev exp_fits : Exp-F Dec Exp StrExp ExpField Rule StrBind → Exp-F Bool Bool Bool Bool Bool Bool
exp_fits = map-Exp _ _ _ _ _ _ _ _ _ _ _ _ fit_dec fit_exp fit_str fit_exp_field fit_rule fit_str_bind

abbrev exp_both : Exp-F Dec Exp StrExp ExpField Rule StrBind → Exp-F Body Bool Bool Bool Bool Bool
exp_both = map-Exp _ _ _ _ _ _ _ _ _ _ _ _ all.plain_dec all.plain_exp all.plain_str all.plain_exp_field all.plain_rule all.plain_str_bind

abbrev str_held : StrExp-F HeldDec HeldExp HeldStrExp HeldExpField HeldRule HeldStrBind → StrExp-F Dec Exp StrExp ExpField Rule StrBind
str_held = map-StrExp _ _ _ _ _ _ _ _ _ _ _ _ (λ e. e.0) (λ e. e.0) (λ e. e.0) (λ e. e.0) (λ e. e.0) (λ e. e.0)

abbrev str_seq : StrExp-F Dec Exp StrExp ExpField Rule StrBind → StrExp-F Body Bool Bool Bool Bool Bool
str_seq = map-StrExp _ _ _ _ _ _ _ _ _ _ _ _ seq.plain_dec seq.plain_exp seq.plain_str seq.plain_exp_field seq.plain_rule seq.plain_str_bind

abbrev str_fits : StrExp-F Dec Exp StrExp ExpField Rule StrBind → StrExp-F Bool Bool Bool Bool Bool Bool
str_fits = map-StrExp _ _ _ _ _ _ _ _ _ _ _ _ fit_dec fit_exp fit_str fit_exp_field fit_rule fit_str_bind

abbrev str_both : StrExp-F Dec Exp StrExp ExpField Rule StrBind → StrExp-F Body Bool Bool Bool Bool Bool
str_both = map-StrExp _ _ _ _ _ _ _ _ _ _ _ _ all.plain_dec all.plain_exp all.plain_str all.plain_exp_field all.plain_rule all.plain_str_bind

abbrev exp_field_held : ExpField-F HeldDec HeldExp HeldStrExp HeldExpField HeldRule HeldStrBind → ExpField-F Dec Exp StrExp ExpField Rule StrBind
exp_field_held = map-ExpField _ _ _ _ _ _ _ _ _ _ _ _ (λ e. e.0) (λ e. e.0) (λ e. e.0) (λ e. e.0) (λ e. e.0) (λ e. e.0)

abbrev exp_field_seq : ExpField-F Dec Exp StrExp ExpField Rule StrBind → ExpField-F Body Bool Bool Bool Bool Bool
exp_field_seq = map-ExpField _ _ _ _ _ _ _ _ _ _ _ _ seq.plain_dec seq.plain_exp seq.plain_str seq.plain_exp_field seq.plain_rule seq.plain_str_bind

abbrev exp_field_fits : ExpField-F Dec Exp StrExp ExpField Rule StrBind → ExpField-F Bool Bool Bool Bool Bool Bool
exp_field_fits = map-ExpField _ _ _ _ _ _ _ _ _ _ _ _ fit_dec fit_exp fit_str fit_exp_field fit_rule fit_str_bind

abbrev exp_field_both : ExpField-F Dec Exp StrExp ExpField Rule StrBind → ExpField-F Body Bool Bool Bool Bool Bool
exp_field_both = map-ExpField _ _ _ _ _ _ _ _ _ _ _ _ all.plain_dec all.plain_exp all.plain_str all.plain_exp_field all.plain_rule all.plain_str_bind

abbrev rule_held : Rule-F HeldDec HeldExp HeldStrExp HeldExpField HeldRule HeldStrBind → Rule-F Dec Exp StrExp ExpField Rule StrBind
rule_held = map-Rule _ _ _ _ _ _ _ _ _ _ _ _ (λ e. e.0) (λ e. e.0) (λ e. e.0) (λ e. e.0) (λ e. e.0) (λ e. e.0)

abbrev rule_seq : Rule-F Dec Exp StrExp ExpField Rule StrBind → Rule-F Body Bool Bool Bool Bool Bool
rule_seq = map-Rule _ _ _ _ _ _ _ _ _ _ _ _ seq.plain_dec seq.plain_exp seq.plain_str seq.plain_exp_field seq.plain_rule seq.plain_str_bind

abbrev rule_fits : Rule-F Dec Exp StrExp ExpField Rule StrBind → Rule-F Bool Bool Bool Bool Bool Bool
rule_fits = map-Rule _ _ _ _ _ _ _ _ _ _ _ _ fit_dec fit_exp fit_str fit_exp_field fit_rule fit_str_bind

abbrev rule_both : Rule-F Dec Exp StrExp ExpField Rule StrBind → Rule-F Body Bool Bool Bool Bool Bool
rule_both = map-Rule _ _ _ _ _ _ _ _ _ _ _ _ all.plain_dec all.plain_exp all.plain_str all.plain_exp_field all.plain_rule all.plain_str_bind

abbrev str_bind_held : StrBind-F HeldDec HeldExp HeldStrExp HeldExpField HeldRule HeldStrBind → StrBind-F Dec Exp StrExp ExpField Rule StrBind
str_bind_held = map-StrBind _ _ _ _ _ _ _ _ _ _ _ _ (λ e. e.0) (λ e. e.0) (λ e. e.0) (λ e. e.0) (λ e. e.0) (λ e. e.0)

abbrev str_bind_seq : StrBind-F Dec Exp StrExp ExpField Rule StrBind → StrBind-F Body Bool Bool Bool Bool Bool
str_bind_seq = map-StrBind _ _ _ _ _ _ _ _ _ _ _ _ seq.plain_dec seq.plain_exp seq.plain_str seq.plain_exp_field seq.plain_rule seq.plain_str_bind

abbrev str_bind_fits : StrBind-F Dec Exp StrExp ExpField Rule StrBind → StrBind-F Bool Bool Bool Bool Bool Bool
str_bind_fits = map-StrBind _ _ _ _ _ _ _ _ _ _ _ _ fit_dec fit_exp fit_str fit_exp_field fit_rule fit_str_bind

abbrev str_bind_both : StrBind-F Dec Exp StrExp ExpField Rule StrBind → StrBind-F Body Bool Bool Bool Bool Bool
str_bind_both = map-StrBind _ _ _ _ _ _ _ _ _ _ _ _ all.plain_dec all.plain_exp all.plain_str all.plain_exp_field all.plain_rule all.plain_str_bind

exp_parts : (y : Exp-F HeldDec HeldExp HeldStrExp HeldExpField HeldRule HeldStrBind) → seq.exp_plain (exp_seq (exp_held y)) ≡ true → exp_fit (exp_fits (exp_held y)) ≡ true
    → all.exp_plain (exp_both (exp_held y)) ≡ true
exp_parts (Exp-F.Int n at) plain fits = fits
exp_parts (Exp-F.Str text at) plain fits = refl
exp_parts (Exp-F.Char byte at) plain fits = fits
exp_parts (Exp-F.Long long at) plain fits = refl
exp_parts (Exp-F.Record fields at) plain fits = each_passes seq.plain_exp_field fit_exp_field all.plain_exp_field fields plain fits
exp_parts (Exp-F.Let dec exp at) plain fits =
    both_true (body_of (all.plain_dec dec.0)) (all.plain_exp exp.0) (body_passes dec.0 dec.1 (and_one (body_of (seq.plain_dec dec.0)) (seq.plain_exp exp.0) plain) (and_one (fit_dec dec.0) (fit_exp exp.0) fits)) (exp.1 (and_two (body_of (seq.plain_dec dec.0)) (seq.plain_exp exp.0) plain) (and_two (fit_dec dec.0) (fit_exp exp.0) fits))
exp_parts (Exp-F.App function arg at) plain fits =
    both_true (all.plain_exp function.0) (all.plain_exp arg.0) (function.1 (and_one (seq.plain_exp function.0) (seq.plain_exp arg.0) plain) (and_one (fit_exp function.0) (fit_exp arg.0) fits)) (arg.1 (and_two (seq.plain_exp function.0) (seq.plain_exp arg.0) plain) (and_two (fit_exp function.0) (fit_exp arg.0) fits))
exp_parts (Exp-F.Typed exp ty at) plain fits = exp.1 plain fits
exp_parts (Exp-F.Handle exp rules at) plain fits =
    both_true (all.plain_exp exp.0) (all_true (map all.plain_rule (map (λ e. e.0) rules))) (exp.1 (and_one (seq.plain_exp exp.0) (all_true (map seq.plain_rule (map (λ e. e.0) rules))) plain) (and_one (fit_exp exp.0) (all_true (map fit_rule (map (λ e. e.0) rules))) fits)) (each_passes seq.plain_rule fit_rule all.plain_rule rules (and_two (seq.plain_exp exp.0) (all_true (map seq.plain_rule (map (λ e. e.0) rules))) plain) (and_two (fit_exp exp.0) (all_true (map fit_rule (map (λ e. e.0) rules))) fits))
exp_parts (Exp-F.Raise exp at) plain fits = exp.1 plain fits
exp_parts (Exp-F.Fn rules at) plain fits = each_passes seq.plain_rule fit_rule all.plain_rule rules plain fits

dec_parts : (y : Dec-F HeldDec HeldExp HeldStrExp HeldExpField HeldRule HeldStrBind) → plain_of (seq.dec_plain (dec_seq (dec_held y))) ≡ true
    → dec_fit (dec_fits (dec_held y)) ≡ true → plain_of (all.dec_plain (dec_both (dec_held y))) ≡ true
dec_parts (Dec-F.Val tyvars rules recs at) plain fits =
    both_true (all_true (map all.plain_rule (map (λ e. e.0) rules))) (all_true (map all.plain_rule (map (λ e. e.0) recs))) (each_passes seq.plain_rule fit_rule all.plain_rule rules (and_one (all_true (map seq.plain_rule (map (λ e. e.0) rules))) (all_true (map seq.plain_rule (map (λ e. e.0) recs))) plain) (and_one (all_true (map fit_rule (map (λ e. e.0) rules))) (all_true (map fit_rule (map (λ e. e.0) recs))) fits)) (each_passes seq.plain_rule fit_rule all.plain_rule recs (and_two (all_true (map seq.plain_rule (map (λ e. e.0) rules))) (all_true (map seq.plain_rule (map (λ e. e.0) recs))) plain) (and_two (all_true (map fit_rule (map (λ e. e.0) rules))) (all_true (map fit_rule (map (λ e. e.0) recs))) fits))
dec_parts (Dec-F.Types binds at) plain fits = refl
dec_parts (Dec-F.Datatypes binds at) plain fits = refl
dec_parts (Dec-F.Replication name long at) plain fits = refl
dec_parts (Dec-F.Exceptions binds at) plain fits = refl
dec_parts (Dec-F.Local hidden dec at) plain fits =
    both_true (body_of (all.plain_dec hidden.0)) (body_of (all.plain_dec dec.0)) (body_passes hidden.0 hidden.1 (and_one (body_of (seq.plain_dec hidden.0)) (body_of (seq.plain_dec dec.0)) plain) (and_one (fit_dec hidden.0) (fit_dec dec.0) fits)) (body_passes dec.0 dec.1 (and_two (body_of (seq.plain_dec hidden.0)) (body_of (seq.plain_dec dec.0)) plain) (and_two (fit_dec hidden.0) (fit_dec dec.0) fits))
dec_parts (Dec-F.Open longs at) plain fits = refl
dec_parts (Dec-F.Sequence decs at) plain fits = decs_pass decs plain fits
dec_parts (Dec-F.Structures binds at) plain fits = each_passes seq.plain_str_bind fit_str_bind all.plain_str_bind binds plain fits

sequence-same : (l : Dec-F Dec Exp StrExp ExpField Rule StrBind) → (seq.dec_plain (dec_seq l)).sequence ≡ (all.dec_plain (dec_both l)).sequence
sequence-same (Dec-F.Val tyvars rules recs at) = refl
sequence-same (Dec-F.Types binds at) = refl
sequence-same (Dec-F.Datatypes binds at) = refl
sequence-same (Dec-F.Replication name long at) = refl
sequence-same (Dec-F.Exceptions binds at) = refl
sequence-same (Dec-F.Local hidden dec at) = refl
sequence-same (Dec-F.Open longs at) = refl
sequence-same (Dec-F.Sequence decs at) = refl
sequence-same (Dec-F.Structures binds at) = refl

str_parts : (y : StrExp-F HeldDec HeldExp HeldStrExp HeldExpField HeldRule HeldStrBind) → seq.str_plain (str_seq (str_held y)) ≡ true → str_fit (str_fits (str_held y)) ≡ true
    → all.str_plain (str_both (str_held y)) ≡ true
str_parts (StrExp-F.Struct dec at) plain fits = body_passes dec.0 dec.1 plain fits
str_parts (StrExp-F.Named long at) plain fits = refl
str_parts (StrExp-F.Transparent str sig at) plain fits =
    both_true (all.plain_str str.0) (plain_sig sig) (str.1 (and_one (seq.plain_str str.0) (plain_sig sig) plain) fits)
    (and_two (seq.plain_str str.0) (plain_sig sig) plain)
str_parts (StrExp-F.Opaque str sig at) plain fits =
    both_true (all.plain_str str.0) (plain_sig sig) (str.1 (and_one (seq.plain_str str.0) (plain_sig sig) plain) fits)
    (and_two (seq.plain_str str.0) (plain_sig sig) plain)
str_parts (StrExp-F.Functor name str at) plain fits = str.1 plain fits
str_parts (StrExp-F.Within dec str at) plain fits =
    both_true (body_of (all.plain_dec dec.0)) (all.plain_str str.0) (body_passes dec.0 dec.1 (and_one (body_of (seq.plain_dec dec.0)) (seq.plain_str str.0) plain) (and_one (fit_dec dec.0) (fit_str str.0) fits)) (str.1 (and_two (body_of (seq.plain_dec dec.0)) (seq.plain_str str.0) plain) (and_two (fit_dec dec.0) (fit_str str.0) fits))

exp_field_parts : (y : ExpField-F HeldDec HeldExp HeldStrExp HeldExpField HeldRule HeldStrBind) → seq.exp_field_plain (exp_field_seq (exp_field_held y)) ≡ true
    → exp_field_fit (exp_field_fits (exp_field_held y)) ≡ true → all.exp_field_plain (exp_field_both (exp_field_held y)) ≡ true
exp_field_parts y plain fits = y.exp.1 plain fits

rule_parts : (y : Rule-F HeldDec HeldExp HeldStrExp HeldExpField HeldRule HeldStrBind) → seq.rule_plain (rule_seq (rule_held y)) ≡ true
    → rule_fit (rule_fits (rule_held y)) ≡ true → all.rule_plain (rule_both (rule_held y)) ≡ true
rule_parts y plain fits =
    both_true (fit_pat y.pat) (all.plain_exp y.exp.0) (and_one (fit_pat y.pat) (fit_exp y.exp.0) fits)
    (y.exp.1 plain (and_two (fit_pat y.pat) (fit_exp y.exp.0) fits))

str_bind_parts : (y : StrBind-F HeldDec HeldExp HeldStrExp HeldExpField HeldRule HeldStrBind) → seq.str_bind_plain (str_bind_seq (str_bind_held y)) ≡ true
    → str_bind_fit (str_bind_fits (str_bind_held y)) ≡ true → all.str_bind_plain (str_bind_both (str_bind_held y)) ≡ true
str_bind_parts y plain fits = y.body.1 plain fits

dec_step : (x : Dec-F Dec Exp StrExp ExpField Rule StrBind) (y : Dec-F HeldDec HeldExp HeldStrExp HeldExpField HeldRule HeldStrBind) → dec_held y ≡ x → DecIs (roll-Dec x)
dec_step x y is = subst (λ (z : Dec-F Dec Exp StrExp ExpField Rule StrBind). DecIs (roll-Dec z)) is (record {
  passes = λ plain fits.
      ap plain_of (fold-roll-Dec _ _ _ _ _ _ all.dec_plain all.exp_plain all.str_plain all.exp_field_plain all.rule_plain all.str_bind_plain (dec_held y))
      ∙ dec_parts y (sym (ap plain_of (fold-roll-Dec _ _ _ _ _ _ seq.dec_plain seq.exp_plain seq.str_plain seq.exp_field_plain seq.rule_plain seq.str_bind_plain (dec_held y))) ∙ plain)
      (sym (fold-roll-Dec _ _ _ _ _ _ dec_fit exp_fit str_fit exp_field_fit rule_fit str_bind_fit (dec_held y)) ∙ fits);
  same =
      ap (λ (b : Body). b.sequence) (fold-roll-Dec _ _ _ _ _ _ seq.dec_plain seq.exp_plain seq.str_plain seq.exp_field_plain seq.rule_plain seq.str_bind_plain (dec_held y))
      ∙ sequence-same (dec_held y)
      ∙ sym (ap (λ (b : Body). b.sequence) (fold-roll-Dec _ _ _ _ _ _ all.dec_plain all.exp_plain all.str_plain all.exp_field_plain all.rule_plain all.str_bind_plain (dec_held y)));
})

exp_step : (x : Exp-F Dec Exp StrExp ExpField Rule StrBind) (y : Exp-F HeldDec HeldExp HeldStrExp HeldExpField HeldRule HeldStrBind) → exp_held y ≡ x → ExpIs (roll-Exp x)
exp_step x y is = subst (λ (z : Exp-F Dec Exp StrExp ExpField Rule StrBind). ExpIs (roll-Exp z)) is (λ plain fits.
    fold-roll-Exp _ _ _ _ _ _ all.dec_plain all.exp_plain all.str_plain all.exp_field_plain all.rule_plain all.str_bind_plain (exp_held y)
    ∙ exp_parts y (sym (fold-roll-Exp _ _ _ _ _ _ seq.dec_plain seq.exp_plain seq.str_plain seq.exp_field_plain seq.rule_plain seq.str_bind_plain (exp_held y)) ∙ plain)
    (sym (fold-roll-Exp _ _ _ _ _ _ dec_fit exp_fit str_fit exp_field_fit rule_fit str_bind_fit (exp_held y)) ∙ fits))

str_step : (x : StrExp-F Dec Exp StrExp ExpField Rule StrBind) (y : StrExp-F HeldDec HeldExp HeldStrExp HeldExpField HeldRule HeldStrBind) → str_held y ≡ x → StrExpIs (roll-StrExp x)
str_step x y is = subst (λ (z : StrExp-F Dec Exp StrExp ExpField Rule StrBind). StrExpIs (roll-StrExp z)) is (λ plain fits.
    fold-roll-StrExp _ _ _ _ _ _ all.dec_plain all.exp_plain all.str_plain all.exp_field_plain all.rule_plain all.str_bind_plain (str_held y)
    ∙ str_parts y (sym (fold-roll-StrExp _ _ _ _ _ _ seq.dec_plain seq.exp_plain seq.str_plain seq.exp_field_plain seq.rule_plain seq.str_bind_plain (str_held y)) ∙ plain)
    (sym (fold-roll-StrExp _ _ _ _ _ _ dec_fit exp_fit str_fit exp_field_fit rule_fit str_bind_fit (str_held y)) ∙ fits))

exp_field_step : (x : ExpField-F Dec Exp StrExp ExpField Rule StrBind) (y : ExpField-F HeldDec HeldExp HeldStrExp HeldExpField HeldRule HeldStrBind) → exp_field_held y ≡ x → ExpFieldIs (roll-ExpField x)
exp_field_step x y is = subst (λ (z : ExpField-F Dec Exp StrExp ExpField Rule StrBind). ExpFieldIs (roll-ExpField z)) is (λ plain fits.
    fold-roll-ExpField _ _ _ _ _ _ all.dec_plain all.exp_plain all.str_plain all.exp_field_plain all.rule_plain all.str_bind_plain (exp_field_held y)
    ∙ exp_field_parts y (sym (fold-roll-ExpField _ _ _ _ _ _ seq.dec_plain seq.exp_plain seq.str_plain seq.exp_field_plain seq.rule_plain seq.str_bind_plain (exp_field_held y)) ∙ plain)
    (sym (fold-roll-ExpField _ _ _ _ _ _ dec_fit exp_fit str_fit exp_field_fit rule_fit str_bind_fit (exp_field_held y)) ∙ fits))

rule_step : (x : Rule-F Dec Exp StrExp ExpField Rule StrBind) (y : Rule-F HeldDec HeldExp HeldStrExp HeldExpField HeldRule HeldStrBind) → rule_held y ≡ x → RuleIs (roll-Rule x)
rule_step x y is = subst (λ (z : Rule-F Dec Exp StrExp ExpField Rule StrBind). RuleIs (roll-Rule z)) is (λ plain fits.
    fold-roll-Rule _ _ _ _ _ _ all.dec_plain all.exp_plain all.str_plain all.exp_field_plain all.rule_plain all.str_bind_plain (rule_held y)
    ∙ rule_parts y (sym (fold-roll-Rule _ _ _ _ _ _ seq.dec_plain seq.exp_plain seq.str_plain seq.exp_field_plain seq.rule_plain seq.str_bind_plain (rule_held y)) ∙ plain)
    (sym (fold-roll-Rule _ _ _ _ _ _ dec_fit exp_fit str_fit exp_field_fit rule_fit str_bind_fit (rule_held y)) ∙ fits))

str_bind_step : (x : StrBind-F Dec Exp StrExp ExpField Rule StrBind) (y : StrBind-F HeldDec HeldExp HeldStrExp HeldExpField HeldRule HeldStrBind) → str_bind_held y ≡ x → StrBindIs (roll-StrBind x)
str_bind_step x y is = subst (λ (z : StrBind-F Dec Exp StrExp ExpField Rule StrBind). StrBindIs (roll-StrBind z)) is (λ plain fits.
    fold-roll-StrBind _ _ _ _ _ _ all.dec_plain all.exp_plain all.str_plain all.exp_field_plain all.rule_plain all.str_bind_plain (str_bind_held y)
    ∙ str_bind_parts y (sym (fold-roll-StrBind _ _ _ _ _ _ seq.dec_plain seq.exp_plain seq.str_plain seq.exp_field_plain seq.rule_plain seq.str_bind_plain (str_bind_held y)) ∙ plain)
    (sym (fold-roll-StrBind _ _ _ _ _ _ dec_fit exp_fit str_fit exp_field_fit rule_fit str_bind_fit (str_bind_held y)) ∙ fits))

str_is : (x : StrExp) → StrExpIs x
str_is = ind-StrExp DecIs ExpIs StrExpIs ExpFieldIs RuleIs StrBindIs dec_step exp_step str_step exp_field_step rule_step str_bind_step

str_bind_is : (x : StrBind) → StrBindIs x
str_bind_is = ind-StrBind DecIs ExpIs StrExpIs ExpFieldIs RuleIs StrBindIs dec_step exp_step str_step exp_field_step rule_step str_bind_step

-- ---- units

all_pass : {A : Type 0} (f g h : A → Bool) → ((x : A) → f x ≡ true → g x ≡ true → h x ≡ true) → (xs : List A)
    → list_all f xs ≡ true → list_all g xs ≡ true → list_all h xs ≡ true
all_pass f g h each [] plain fits = refl
all_pass f g h each (x ∷ xs) plain fits =
    both_true (h x) (list_all h xs) (each x (and_one (f x) (list_all f xs) plain) (and_one (g x) (list_all g xs) fits))
    (all_pass f g h each xs (and_two (f x) (list_all f xs) plain) (and_two (g x) (list_all g xs) fits))

fun_bind_is : (x : FunBind) → seq.plain_fun_bind x ≡ true → fit_fun_bind x ≡ true → all.plain_fun_bind x ≡ true
fun_bind_is x plain fits =
    both_true (plain_sig x.param_sig) (all.plain_str x.body) (and_one (plain_sig x.param_sig) (seq.plain_str x.body) plain)
    (str_is x.body (and_two (plain_sig x.param_sig) (seq.plain_str x.body) plain) fits)

topdec_is : (x : TopDec) → seq.plain_topdec x ≡ true → fit_topdec x ≡ true → all.plain_topdec x ≡ true
topdec_is (top.Structures binds at) plain fits =
    all_pass seq.plain_str_bind fit_str_bind all.plain_str_bind str_bind_is binds plain fits
topdec_is (top.Signatures binds at) plain fits = plain
topdec_is (top.Functors binds at) plain fits =
    all_pass seq.plain_fun_bind fit_fun_bind all.plain_fun_bind fun_bind_is binds plain fits
topdec_is (top.Funsigs binds at) plain fits = plain

pub topdecs_are : (unit : BareUnit) → IsPlain unit → HasFitConstants unit → list_all all.plain_topdec unit.topdecs ≡ true
topdecs_are unit plain fits = all_pass seq.plain_topdec fit_topdec all.plain_topdec topdec_is unit.topdecs plain fits
