-- What is bound in a tree, by its parts; lists of which something holds of each item.
use Rattle.std.proofs.Common.{◌≡◌, List, [], ◌∷◌, ◌++◌, map, Bool, true, false, ◌&&◌, refl, sym, ap, ap₂, ◌∙◌}
use Rattle.std.specs.List.{list_all}
use Rattle.sml_trees.specs.declared.full_exp.FullDec.{FullDec, roll-FullDec}
use Rattle.sml_trees.specs.declared.full_exp.FullExp.{FullExp, roll-FullExp}
use Rattle.sml_trees.specs.declared.full_exp.FullExpItem.{FullExpItem, roll-FullExpItem}
use Rattle.sml_trees.specs.declared.full_exp.FullClause.{FullClause, roll-FullClause}
use Rattle.sml_trees.specs.declared.full_exp.FullExpField.{FullExpField, roll-FullExpField}
use Rattle.sml_trees.specs.declared.full_exp.FullFunBind.{FullFunBind, roll-FullFunBind}
use Rattle.sml_trees.specs.declared.full_exp.FullRule.{FullRule, roll-FullRule}
use Rattle.sml_trees.specs.declared.full_exp.FullValBind.{FullValBind, roll-FullValBind}
use Rattle.sml_trees.specs.declared.full_exp.FullDec.TheOpen.{FullDec-F, FullExp-F, FullExpItem-F, FullClause-F, FullExpField-F, FullFunBind-F, FullRule-F, FullValBind-F}
use Rattle.sml_trees.specs.declared.full_exp.FullDec.TheFolds.{map-FullDec, map-FullExp, map-FullExpItem, map-FullClause, map-FullExpField, map-FullFunBind, map-FullRule, map-FullValBind, fold-roll-FullDec, fold-roll-FullExp, fold-roll-FullExpItem, fold-roll-FullClause, fold-roll-FullExpField, fold-roll-FullFunBind, fold-roll-FullRule, fold-roll-FullValBind}
use Rattle.sml_trees.specs.declared.full_str.FullStrBind.{FullStrBind, roll-FullStrBind}
use Rattle.sml_trees.specs.declared.full_str.FullStrDec.{FullStrDec, roll-FullStrDec}
use Rattle.sml_trees.specs.declared.full_str.FullStrExp.{FullStrExp, roll-FullStrExp}
use Rattle.sml_trees.specs.declared.full_str.FullStrDec.TheOpen.{FullStrDec-F, FullStrExp-F, FullStrBind-F}
use Rattle.sml_trees.specs.declared.full_str.FullStrDec.TheFolds.{map-FullStrDec, map-FullStrExp, map-FullStrBind, fold-roll-FullStrDec, fold-roll-FullStrExp, fold-roll-FullStrBind}
use Rattle.recursion_laws.specs.Functions.{dec_step, exp_step, item_step, clause_step, field_step, fun_step, rule_step, val_step, str_dec_step, str_step, str_bind_step, dec_binds, exp_binds, item_binds, clause_binds, field_binds, fun_binds, rule_binds, val_binds, str_dec_binds, str_binds, str_bind_binds}

-- ---- each form

pub dec_form : (x : FullDec-F FullDec FullExp FullExpItem FullClause FullExpField FullFunBind FullRule FullValBind) (tree : FullDec)
    → roll-FullDec x ≡ tree → dec_binds tree ≡ dec_step (map-FullDec _ _ _ _ _ _ _ _ _ _ _ _ _ _ _ _ dec_binds exp_binds item_binds clause_binds field_binds fun_binds rule_binds val_binds x)
unfolding dec_binds exp_binds item_binds clause_binds field_binds fun_binds rule_binds val_binds
dec_form x tree e = ap dec_binds (sym e) ∙ fold-roll-FullDec _ _ _ _ _ _ _ _ dec_step exp_step item_step clause_step field_step fun_step rule_step val_step x

pub exp_form : (x : FullExp-F FullDec FullExp FullExpItem FullClause FullExpField FullFunBind FullRule FullValBind) (tree : FullExp)
    → roll-FullExp x ≡ tree → exp_binds tree ≡ exp_step (map-FullExp _ _ _ _ _ _ _ _ _ _ _ _ _ _ _ _ dec_binds exp_binds item_binds clause_binds field_binds fun_binds rule_binds val_binds x)
unfolding dec_binds exp_binds item_binds clause_binds field_binds fun_binds rule_binds val_binds
exp_form x tree e = ap exp_binds (sym e) ∙ fold-roll-FullExp _ _ _ _ _ _ _ _ dec_step exp_step item_step clause_step field_step fun_step rule_step val_step x

pub item_form : (x : FullExpItem-F FullDec FullExp FullExpItem FullClause FullExpField FullFunBind FullRule FullValBind) (tree : FullExpItem)
    → roll-FullExpItem x ≡ tree → item_binds tree ≡ item_step (map-FullExpItem _ _ _ _ _ _ _ _ _ _ _ _ _ _ _ _ dec_binds exp_binds item_binds clause_binds field_binds fun_binds rule_binds val_binds x)
unfolding dec_binds exp_binds item_binds clause_binds field_binds fun_binds rule_binds val_binds
item_form x tree e = ap item_binds (sym e) ∙ fold-roll-FullExpItem _ _ _ _ _ _ _ _ dec_step exp_step item_step clause_step field_step fun_step rule_step val_step x

pub clause_form : (x : FullClause-F FullDec FullExp FullExpItem FullClause FullExpField FullFunBind FullRule FullValBind)
    → clause_binds (roll-FullClause x) ≡ clause_step (map-FullClause _ _ _ _ _ _ _ _ _ _ _ _ _ _ _ _ dec_binds exp_binds item_binds clause_binds field_binds fun_binds rule_binds val_binds x)
unfolding dec_binds exp_binds item_binds clause_binds field_binds fun_binds rule_binds val_binds
clause_form x = fold-roll-FullClause _ _ _ _ _ _ _ _ dec_step exp_step item_step clause_step field_step fun_step rule_step val_step x

pub field_form : (x : FullExpField-F FullDec FullExp FullExpItem FullClause FullExpField FullFunBind FullRule FullValBind)
    → field_binds (roll-FullExpField x) ≡ field_step (map-FullExpField _ _ _ _ _ _ _ _ _ _ _ _ _ _ _ _ dec_binds exp_binds item_binds clause_binds field_binds fun_binds rule_binds val_binds x)
unfolding dec_binds exp_binds item_binds clause_binds field_binds fun_binds rule_binds val_binds
field_form x = fold-roll-FullExpField _ _ _ _ _ _ _ _ dec_step exp_step item_step clause_step field_step fun_step rule_step val_step x

pub fun_form : (x : FullFunBind-F FullDec FullExp FullExpItem FullClause FullExpField FullFunBind FullRule FullValBind)
    → fun_binds (roll-FullFunBind x) ≡ fun_step (map-FullFunBind _ _ _ _ _ _ _ _ _ _ _ _ _ _ _ _ dec_binds exp_binds item_binds clause_binds field_binds fun_binds rule_binds val_binds x)
unfolding dec_binds exp_binds item_binds clause_binds field_binds fun_binds rule_binds val_binds
fun_form x = fold-roll-FullFunBind _ _ _ _ _ _ _ _ dec_step exp_step item_step clause_step field_step fun_step rule_step val_step x

pub rule_form : (x : FullRule-F FullDec FullExp FullExpItem FullClause FullExpField FullFunBind FullRule FullValBind)
    → rule_binds (roll-FullRule x) ≡ rule_step (map-FullRule _ _ _ _ _ _ _ _ _ _ _ _ _ _ _ _ dec_binds exp_binds item_binds clause_binds field_binds fun_binds rule_binds val_binds x)
unfolding dec_binds exp_binds item_binds clause_binds field_binds fun_binds rule_binds val_binds
rule_form x = fold-roll-FullRule _ _ _ _ _ _ _ _ dec_step exp_step item_step clause_step field_step fun_step rule_step val_step x

pub val_form : (x : FullValBind-F FullDec FullExp FullExpItem FullClause FullExpField FullFunBind FullRule FullValBind)
    → val_binds (roll-FullValBind x) ≡ val_step (map-FullValBind _ _ _ _ _ _ _ _ _ _ _ _ _ _ _ _ dec_binds exp_binds item_binds clause_binds field_binds fun_binds rule_binds val_binds x)
unfolding dec_binds exp_binds item_binds clause_binds field_binds fun_binds rule_binds val_binds
val_form x = fold-roll-FullValBind _ _ _ _ _ _ _ _ dec_step exp_step item_step clause_step field_step fun_step rule_step val_step x

pub str_dec_form : (x : FullStrDec-F FullStrDec FullStrExp FullStrBind) (tree : FullStrDec) → roll-FullStrDec x ≡ tree
    → str_dec_binds tree ≡ str_dec_step (map-FullStrDec _ _ _ _ _ _ str_dec_binds str_binds str_bind_binds x)
unfolding str_dec_binds str_binds str_bind_binds
str_dec_form x tree e = ap str_dec_binds (sym e) ∙ fold-roll-FullStrDec _ _ _ str_dec_step str_step str_bind_step x

pub str_form : (x : FullStrExp-F FullStrDec FullStrExp FullStrBind) (tree : FullStrExp) → roll-FullStrExp x ≡ tree
    → str_binds tree ≡ str_step (map-FullStrExp _ _ _ _ _ _ str_dec_binds str_binds str_bind_binds x)
unfolding str_dec_binds str_binds str_bind_binds
str_form x tree e = ap str_binds (sym e) ∙ fold-roll-FullStrExp _ _ _ str_dec_step str_step str_bind_step x

pub str_bind_form : (x : FullStrBind-F FullStrDec FullStrExp FullStrBind)
    → str_bind_binds (roll-FullStrBind x) ≡ str_bind_step (map-FullStrBind _ _ _ _ _ _ str_dec_binds str_binds str_bind_binds x)
unfolding str_dec_binds str_binds str_bind_binds
str_bind_form x = fold-roll-FullStrBind _ _ _ str_dec_step str_step str_bind_step x

-- ---- lists

pub both_true : (a b : Bool) → a ≡ true → b ≡ true → (a && b) ≡ true
both_true a b first second = ap₂ (λ x y. x && y) first second

pub first_true : (a b : Bool) → (a && b) ≡ true → a ≡ true
first_true true b h = refl
first_true false b h = absurd (cc)

pub second_true : (a b : Bool) → (a && b) ≡ true → b ≡ true
second_true true b h = h
second_true false b h = absurd (cc)

-- all of these pass a test by what is known of them
abbrev pub AllPass : {A B : Type 0} → (B → Bool) → (A → B) → List A → Type 0
AllPass test facts trees = list_all test (map facts trees) ≡ true

pub one_passes : {A B : Type 0} (test : B → Bool) (facts : A → B) (tree : A) → test (facts tree) ≡ true
    → AllPass test facts (tree ∷ [])
one_passes test facts tree is = both_true (test (facts tree)) true is refl

pub more_pass : {A B : Type 0} (test : B → Bool) (facts : A → B) (trees more : List A) → AllPass test facts trees
    → AllPass test facts more → AllPass test facts (trees ++ more)
more_pass test facts [] more are too = too
more_pass test facts (tree ∷ trees) more are too =
    both_true (test (facts tree)) (list_all test (map facts (trees ++ more)))
    (first_true (test (facts tree)) (list_all test (map facts trees)) are)
    (more_pass test facts trees more (second_true (test (facts tree)) (list_all test (map facts trees)) are) too)
