-- Low plain expressions, declarations and structure expressions have a code where their bytes are few enough.
use Rattle.std.proofs.Common.{◌≡◌, ℕ, zero, suc, ◌≤◌, max, Bool, true, ◌&&◌, List, [], ◌∷◌, ◌++◌, map, refl, sym, ap, subst, ◌∙◌, arith}
use Rattle.std.specs.List.{list_all}
use Rattle.cm_bytes.specs.Fields.{text_of, list_of}
use Rattle.sml_trees.specs.CoreLets.{all_true}
use Rattle.sml_trees.specs.declared.exp.Dec.{Dec, out-Dec, roll-Dec, roll-out-Dec, out-roll-Dec}
use Rattle.sml_trees.specs.declared.exp.Dec.TheOpen.{Dec-F, Exp-F, StrExp-F, ExpField-F, Rule-F, StrBind-F}
use Rattle.sml_trees.specs.declared.exp.Dec.TheFolds.{map-Dec, map-Exp, map-StrExp, map-ExpField, map-Rule, map-StrBind, fold-roll-Dec, fold-roll-Exp, fold-roll-StrExp, fold-roll-ExpField, fold-roll-Rule, fold-roll-StrBind}
use Rattle.sml_trees.specs.declared.exp.Dec.TheVariants as decv
use Rattle.sml_trees.specs.declared.exp.Exp.{Exp, out-Exp, roll-Exp, roll-out-Exp, out-roll-Exp}
use Rattle.sml_trees.specs.declared.exp.StrExp.{StrExp, out-StrExp, roll-StrExp, roll-out-StrExp, out-roll-StrExp}
use Rattle.sml_trees.specs.declared.exp.ExpField.{ExpField, out-ExpField, roll-ExpField, roll-out-ExpField, out-roll-ExpField}
use Rattle.sml_trees.specs.declared.exp.Rule.{Rule, out-Rule, roll-Rule, roll-out-Rule, out-roll-Rule}
use Rattle.sml_trees.specs.declared.exp.StrBind.{StrBind, out-StrBind, roll-StrBind, roll-out-StrBind, out-roll-StrBind}
use Rattle.sml_syntax.specs.Code.{parts, name_of, long_of, ty_of, typ_bind_of, dat_bind_of, ex_bind_of, pat_of, sig_of, exp_of, exp_field_of, rule_of, dec_of, str_of, str_bind_of, exp_level, exp_field_level, rule_level, dec_level, str_level, str_bind_level}
use Rattle.sml_syntax.specs.Places.{unplaced_typ_bind, unplaced_ex_bind}
use Rattle.sml_syntax.specs.PlacesUnit.{exp_unplaced, exp_field_unplaced, rule_unplaced, dec_unplaced, str_unplaced, str_bind_unplaced, unplaced_exp, unplaced_exp_field, unplaced_rule, unplaced_dec, unplaced_str, unplaced_str_bind}
use Rattle.sml_syntax.specs.Reading.{nowhere, IsName, AreAll}
use Rattle.sml_syntax.specs.ReadingBinds.{IsTypBind, IsExBind}
use Rattle.sml_syntax.specs.ReadingPat.{pat_is}
use Rattle.sml_syntax.specs.ReadingExp.{IsExpField, IsRule, IsStrBind, exp_level_is, dec_level_is, str_level_is, exp_is}
use Rattle.tree_heights.specs.Heights.{highest, typ_bind_height, ex_height, pat_height, exp_step, exp_field_step, rule_step, dec_step, str_step, str_bind_step, exp_height, exp_field_height, rule_height, dec_height, str_height, str_bind_height}
use Rattle.code_laws.specs.Plain.{Body, plain_of, body_of, plain_sig}
use Rattle.code_laws.specs.Constants.{fit_pat}
use Rattle.code_laws.proofs.Fitting.{exp_plain, exp_field_plain, rule_plain, dec_plain, str_plain, str_bind_plain, plain_exp, plain_exp_field, plain_rule, plain_dec, plain_str, plain_str_bind}
use Rattle.code_laws.proofs.Lists.{Small, Full, small_left, small_right, small_tail, full_left, text_full, Each, each_both, each_low, each_true, and_one, and_two, Reads, list_reads, parts_read, text_reads, name_reads, names_read, long_reads, longs_read}
use Rattle.code_laws.proofs.Types.{ty_reads, typ_bind_reads, typ_bind_full, dat_binds_read, ex_bind_reads, ex_bind_full}
use Rattle.code_laws.proofs.Patterns.{int_reads, byte_reads, pat_full, pat_reads}
use Rattle.code_laws.proofs.Signatures.{no_body, sig_reads}

abbrev LowExp : ℕ → Exp → Type 0
LowExp n x = (exp_height x ≤ n) × (plain_exp x ≡ true)

abbrev LowDec : ℕ → Dec → Type 0
LowDec n x = (dec_height x ≤ n) × (plain_of (plain_dec x) ≡ true)

-- a sequence
abbrev LowBody : ℕ → Dec → Type 0
LowBody n x = (dec_height x ≤ n) × (body_of (plain_dec x) ≡ true)

abbrev LowStrExp : ℕ → StrExp → Type 0
LowStrExp n x = (str_height x ≤ n) × (plain_str x ≡ true)

abbrev LowExpField : ℕ → ExpField → Type 0
LowExpField n x = (exp_field_height x ≤ n) × (plain_exp_field x ≡ true)

abbrev LowRule : ℕ → Rule → Type 0
LowRule n x = (rule_height x ≤ n) × (plain_rule x ≡ true)

abbrev LowStrBind : ℕ → StrBind → Type 0
LowStrBind n x = (str_bind_height x ≤ n) × (plain_str_bind x ≡ true)

pub record ExpRead (n : ℕ) : Type 0 where
  pub exp : Reads exp_of unplaced_exp (LowExp n) (exp_is n).exp
  pub dec : Reads dec_of unplaced_dec (LowDec n) (exp_is n).dec
  pub str : Reads str_of unplaced_str (LowStrExp n) (exp_is n).str
  pub body : Reads dec_of unplaced_dec (LowBody n) (exp_is n).dec_body

-- ---- levels, with what is made of their parts

abbrev exp_heights : Exp-F Dec Exp StrExp ExpField Rule StrBind → Exp-F ℕ ℕ ℕ ℕ ℕ ℕ
exp_heights = map-Exp _ _ _ _ _ _ _ _ _ _ _ _ dec_height exp_height str_height exp_field_height rule_height str_bind_height

abbrev exp_bytes : Exp-F Dec Exp StrExp ExpField Rule StrBind → Exp-F (List ℕ) (List ℕ) (List ℕ) (List ℕ) (List ℕ) (List ℕ)
exp_bytes = map-Exp _ _ _ _ _ _ _ _ _ _ _ _ dec_of exp_of str_of exp_field_of rule_of str_bind_of

abbrev exp_tests : Exp-F Dec Exp StrExp ExpField Rule StrBind → Exp-F Body Bool Bool Bool Bool Bool
exp_tests = map-Exp _ _ _ _ _ _ _ _ _ _ _ _ plain_dec plain_exp plain_str plain_exp_field plain_rule plain_str_bind

abbrev exp_bare : Exp-F Dec Exp StrExp ExpField Rule StrBind → Exp-F Dec Exp StrExp ExpField Rule StrBind
exp_bare = map-Exp _ _ _ _ _ _ _ _ _ _ _ _ unplaced_dec unplaced_exp unplaced_str unplaced_exp_field unplaced_rule unplaced_str_bind

exp_bytes-is : (x : Exp) → exp_of x ≡ exp_level (exp_bytes (out-Exp x))
exp_bytes-is x =
    ap exp_of (sym (roll-out-Exp x)) ∙ fold-roll-Exp _ _ _ _ _ _ dec_level exp_level str_level exp_field_level rule_level str_bind_level (out-Exp x)

exp_height-is : (x : Exp) → exp_height x ≡ exp_step (exp_heights (out-Exp x))
exp_height-is x =
    ap exp_height (sym (roll-out-Exp x)) ∙ fold-roll-Exp _ _ _ _ _ _ dec_step exp_step str_step exp_field_step rule_step str_bind_step (out-Exp x)

exp_plain-is : (x : Exp) → plain_exp x ≡ exp_plain (exp_tests (out-Exp x))
exp_plain-is x =
    ap plain_exp (sym (roll-out-Exp x)) ∙ fold-roll-Exp _ _ _ _ _ _ dec_plain exp_plain str_plain exp_field_plain rule_plain str_bind_plain (out-Exp x)

exp_made : (x : Exp) → unplaced_exp x ≡ roll-Exp (exp_unplaced (exp_bare (out-Exp x)))
exp_made x =
    ap unplaced_exp (sym (roll-out-Exp x))
    ∙ fold-roll-Exp _ _ _ _ _ _ (λ y. roll-Dec (dec_unplaced y)) (λ y. roll-Exp (exp_unplaced y)) (λ y. roll-StrExp (str_unplaced y)) (λ y. roll-ExpField (exp_field_unplaced y)) (λ y. roll-Rule (rule_unplaced y)) (λ y. roll-StrBind (str_bind_unplaced y)) (out-Exp x)

exp_parts : (x : Exp) → out-Exp (unplaced_exp x) ≡ exp_unplaced (exp_bare (out-Exp x))
exp_parts x = ap out-Exp (exp_made x) ∙ out-roll-Exp (exp_unplaced (exp_bare (out-Exp x)))

abbrev dec_heights : Dec-F Dec Exp StrExp ExpField Rule StrBind → Dec-F ℕ ℕ ℕ ℕ ℕ ℕ
dec_heights = map-Dec _ _ _ _ _ _ _ _ _ _ _ _ dec_height exp_height str_height exp_field_height rule_height str_bind_height

abbrev dec_bytes : Dec-F Dec Exp StrExp ExpField Rule StrBind → Dec-F (List ℕ) (List ℕ) (List ℕ) (List ℕ) (List ℕ) (List ℕ)
dec_bytes = map-Dec _ _ _ _ _ _ _ _ _ _ _ _ dec_of exp_of str_of exp_field_of rule_of str_bind_of

abbrev dec_tests : Dec-F Dec Exp StrExp ExpField Rule StrBind → Dec-F Body Bool Bool Bool Bool Bool
dec_tests = map-Dec _ _ _ _ _ _ _ _ _ _ _ _ plain_dec plain_exp plain_str plain_exp_field plain_rule plain_str_bind

abbrev dec_bare : Dec-F Dec Exp StrExp ExpField Rule StrBind → Dec-F Dec Exp StrExp ExpField Rule StrBind
dec_bare = map-Dec _ _ _ _ _ _ _ _ _ _ _ _ unplaced_dec unplaced_exp unplaced_str unplaced_exp_field unplaced_rule unplaced_str_bind

dec_bytes-is : (x : Dec) → dec_of x ≡ dec_level (dec_bytes (out-Dec x))
dec_bytes-is x =
    ap dec_of (sym (roll-out-Dec x)) ∙ fold-roll-Dec _ _ _ _ _ _ dec_level exp_level str_level exp_field_level rule_level str_bind_level (out-Dec x)

dec_height-is : (x : Dec) → dec_height x ≡ dec_step (dec_heights (out-Dec x))
dec_height-is x =
    ap dec_height (sym (roll-out-Dec x)) ∙ fold-roll-Dec _ _ _ _ _ _ dec_step exp_step str_step exp_field_step rule_step str_bind_step (out-Dec x)

dec_plain-is : (x : Dec) → plain_dec x ≡ dec_plain (dec_tests (out-Dec x))
dec_plain-is x =
    ap plain_dec (sym (roll-out-Dec x)) ∙ fold-roll-Dec _ _ _ _ _ _ dec_plain exp_plain str_plain exp_field_plain rule_plain str_bind_plain (out-Dec x)

dec_made : (x : Dec) → unplaced_dec x ≡ roll-Dec (dec_unplaced (dec_bare (out-Dec x)))
dec_made x =
    ap unplaced_dec (sym (roll-out-Dec x))
    ∙ fold-roll-Dec _ _ _ _ _ _ (λ y. roll-Dec (dec_unplaced y)) (λ y. roll-Exp (exp_unplaced y)) (λ y. roll-StrExp (str_unplaced y)) (λ y. roll-ExpField (exp_field_unplaced y)) (λ y. roll-Rule (rule_unplaced y)) (λ y. roll-StrBind (str_bind_unplaced y)) (out-Dec x)

dec_parts : (x : Dec) → out-Dec (unplaced_dec x) ≡ dec_unplaced (dec_bare (out-Dec x))
dec_parts x = ap out-Dec (dec_made x) ∙ out-roll-Dec (dec_unplaced (dec_bare (out-Dec x)))

abbrev str_heights : StrExp-F Dec Exp StrExp ExpField Rule StrBind → StrExp-F ℕ ℕ ℕ ℕ ℕ ℕ
str_heights = map-StrExp _ _ _ _ _ _ _ _ _ _ _ _ dec_height exp_height str_height exp_field_height rule_height str_bind_height

abbrev str_bytes : StrExp-F Dec Exp StrExp ExpField Rule StrBind → StrExp-F (List ℕ) (List ℕ) (List ℕ) (List ℕ) (List ℕ) (List ℕ)
str_bytes = map-StrExp _ _ _ _ _ _ _ _ _ _ _ _ dec_of exp_of str_of exp_field_of rule_of str_bind_of

abbrev str_tests : StrExp-F Dec Exp StrExp ExpField Rule StrBind → StrExp-F Body Bool Bool Bool Bool Bool
str_tests = map-StrExp _ _ _ _ _ _ _ _ _ _ _ _ plain_dec plain_exp plain_str plain_exp_field plain_rule plain_str_bind

abbrev str_bare : StrExp-F Dec Exp StrExp ExpField Rule StrBind → StrExp-F Dec Exp StrExp ExpField Rule StrBind
str_bare = map-StrExp _ _ _ _ _ _ _ _ _ _ _ _ unplaced_dec unplaced_exp unplaced_str unplaced_exp_field unplaced_rule unplaced_str_bind

str_bytes-is : (x : StrExp) → str_of x ≡ str_level (str_bytes (out-StrExp x))
str_bytes-is x =
    ap str_of (sym (roll-out-StrExp x)) ∙ fold-roll-StrExp _ _ _ _ _ _ dec_level exp_level str_level exp_field_level rule_level str_bind_level (out-StrExp x)

str_height-is : (x : StrExp) → str_height x ≡ str_step (str_heights (out-StrExp x))
str_height-is x =
    ap str_height (sym (roll-out-StrExp x)) ∙ fold-roll-StrExp _ _ _ _ _ _ dec_step exp_step str_step exp_field_step rule_step str_bind_step (out-StrExp x)

str_plain-is : (x : StrExp) → plain_str x ≡ str_plain (str_tests (out-StrExp x))
str_plain-is x =
    ap plain_str (sym (roll-out-StrExp x)) ∙ fold-roll-StrExp _ _ _ _ _ _ dec_plain exp_plain str_plain exp_field_plain rule_plain str_bind_plain (out-StrExp x)

str_made : (x : StrExp) → unplaced_str x ≡ roll-StrExp (str_unplaced (str_bare (out-StrExp x)))
str_made x =
    ap unplaced_str (sym (roll-out-StrExp x))
    ∙ fold-roll-StrExp _ _ _ _ _ _ (λ y. roll-Dec (dec_unplaced y)) (λ y. roll-Exp (exp_unplaced y)) (λ y. roll-StrExp (str_unplaced y)) (λ y. roll-ExpField (exp_field_unplaced y)) (λ y. roll-Rule (rule_unplaced y)) (λ y. roll-StrBind (str_bind_unplaced y)) (out-StrExp x)

str_parts : (x : StrExp) → out-StrExp (unplaced_str x) ≡ str_unplaced (str_bare (out-StrExp x))
str_parts x = ap out-StrExp (str_made x) ∙ out-roll-StrExp (str_unplaced (str_bare (out-StrExp x)))

abbrev exp_field_heights : ExpField-F Dec Exp StrExp ExpField Rule StrBind → ExpField-F ℕ ℕ ℕ ℕ ℕ ℕ
exp_field_heights = map-ExpField _ _ _ _ _ _ _ _ _ _ _ _ dec_height exp_height str_height exp_field_height rule_height str_bind_height

abbrev exp_field_bytes : ExpField-F Dec Exp StrExp ExpField Rule StrBind → ExpField-F (List ℕ) (List ℕ) (List ℕ) (List ℕ) (List ℕ) (List ℕ)
exp_field_bytes = map-ExpField _ _ _ _ _ _ _ _ _ _ _ _ dec_of exp_of str_of exp_field_of rule_of str_bind_of

abbrev exp_field_tests : ExpField-F Dec Exp StrExp ExpField Rule StrBind → ExpField-F Body Bool Bool Bool Bool Bool
exp_field_tests = map-ExpField _ _ _ _ _ _ _ _ _ _ _ _ plain_dec plain_exp plain_str plain_exp_field plain_rule plain_str_bind

abbrev exp_field_bare : ExpField-F Dec Exp StrExp ExpField Rule StrBind → ExpField-F Dec Exp StrExp ExpField Rule StrBind
exp_field_bare = map-ExpField _ _ _ _ _ _ _ _ _ _ _ _ unplaced_dec unplaced_exp unplaced_str unplaced_exp_field unplaced_rule unplaced_str_bind

exp_field_bytes-is : (x : ExpField) → exp_field_of x ≡ exp_field_level (exp_field_bytes (out-ExpField x))
exp_field_bytes-is x =
    ap exp_field_of (sym (roll-out-ExpField x)) ∙ fold-roll-ExpField _ _ _ _ _ _ dec_level exp_level str_level exp_field_level rule_level str_bind_level (out-ExpField x)

exp_field_height-is : (x : ExpField) → exp_field_height x ≡ exp_field_step (exp_field_heights (out-ExpField x))
exp_field_height-is x =
    ap exp_field_height (sym (roll-out-ExpField x)) ∙ fold-roll-ExpField _ _ _ _ _ _ dec_step exp_step str_step exp_field_step rule_step str_bind_step (out-ExpField x)

exp_field_plain-is : (x : ExpField) → plain_exp_field x ≡ exp_field_plain (exp_field_tests (out-ExpField x))
exp_field_plain-is x =
    ap plain_exp_field (sym (roll-out-ExpField x)) ∙ fold-roll-ExpField _ _ _ _ _ _ dec_plain exp_plain str_plain exp_field_plain rule_plain str_bind_plain (out-ExpField x)

exp_field_made : (x : ExpField) → unplaced_exp_field x ≡ roll-ExpField (exp_field_unplaced (exp_field_bare (out-ExpField x)))
exp_field_made x =
    ap unplaced_exp_field (sym (roll-out-ExpField x))
    ∙ fold-roll-ExpField _ _ _ _ _ _ (λ y. roll-Dec (dec_unplaced y)) (λ y. roll-Exp (exp_unplaced y)) (λ y. roll-StrExp (str_unplaced y)) (λ y. roll-ExpField (exp_field_unplaced y)) (λ y. roll-Rule (rule_unplaced y)) (λ y. roll-StrBind (str_bind_unplaced y)) (out-ExpField x)

exp_field_parts : (x : ExpField) → out-ExpField (unplaced_exp_field x) ≡ exp_field_unplaced (exp_field_bare (out-ExpField x))
exp_field_parts x = ap out-ExpField (exp_field_made x) ∙ out-roll-ExpField (exp_field_unplaced (exp_field_bare (out-ExpField x)))

abbrev rule_heights : Rule-F Dec Exp StrExp ExpField Rule StrBind → Rule-F ℕ ℕ ℕ ℕ ℕ ℕ
rule_heights = map-Rule _ _ _ _ _ _ _ _ _ _ _ _ dec_height exp_height str_height exp_field_height rule_height str_bind_height

abbrev rule_bytes : Rule-F Dec Exp StrExp ExpField Rule StrBind → Rule-F (List ℕ) (List ℕ) (List ℕ) (List ℕ) (List ℕ) (List ℕ)
rule_bytes = map-Rule _ _ _ _ _ _ _ _ _ _ _ _ dec_of exp_of str_of exp_field_of rule_of str_bind_of

abbrev rule_tests : Rule-F Dec Exp StrExp ExpField Rule StrBind → Rule-F Body Bool Bool Bool Bool Bool
rule_tests = map-Rule _ _ _ _ _ _ _ _ _ _ _ _ plain_dec plain_exp plain_str plain_exp_field plain_rule plain_str_bind

abbrev rule_bare : Rule-F Dec Exp StrExp ExpField Rule StrBind → Rule-F Dec Exp StrExp ExpField Rule StrBind
rule_bare = map-Rule _ _ _ _ _ _ _ _ _ _ _ _ unplaced_dec unplaced_exp unplaced_str unplaced_exp_field unplaced_rule unplaced_str_bind

rule_bytes-is : (x : Rule) → rule_of x ≡ rule_level (rule_bytes (out-Rule x))
rule_bytes-is x =
    ap rule_of (sym (roll-out-Rule x)) ∙ fold-roll-Rule _ _ _ _ _ _ dec_level exp_level str_level exp_field_level rule_level str_bind_level (out-Rule x)

rule_height-is : (x : Rule) → rule_height x ≡ rule_step (rule_heights (out-Rule x))
rule_height-is x =
    ap rule_height (sym (roll-out-Rule x)) ∙ fold-roll-Rule _ _ _ _ _ _ dec_step exp_step str_step exp_field_step rule_step str_bind_step (out-Rule x)

rule_plain-is : (x : Rule) → plain_rule x ≡ rule_plain (rule_tests (out-Rule x))
rule_plain-is x =
    ap plain_rule (sym (roll-out-Rule x)) ∙ fold-roll-Rule _ _ _ _ _ _ dec_plain exp_plain str_plain exp_field_plain rule_plain str_bind_plain (out-Rule x)

rule_made : (x : Rule) → unplaced_rule x ≡ roll-Rule (rule_unplaced (rule_bare (out-Rule x)))
rule_made x =
    ap unplaced_rule (sym (roll-out-Rule x))
    ∙ fold-roll-Rule _ _ _ _ _ _ (λ y. roll-Dec (dec_unplaced y)) (λ y. roll-Exp (exp_unplaced y)) (λ y. roll-StrExp (str_unplaced y)) (λ y. roll-ExpField (exp_field_unplaced y)) (λ y. roll-Rule (rule_unplaced y)) (λ y. roll-StrBind (str_bind_unplaced y)) (out-Rule x)

rule_parts : (x : Rule) → out-Rule (unplaced_rule x) ≡ rule_unplaced (rule_bare (out-Rule x))
rule_parts x = ap out-Rule (rule_made x) ∙ out-roll-Rule (rule_unplaced (rule_bare (out-Rule x)))

abbrev str_bind_heights : StrBind-F Dec Exp StrExp ExpField Rule StrBind → StrBind-F ℕ ℕ ℕ ℕ ℕ ℕ
str_bind_heights = map-StrBind _ _ _ _ _ _ _ _ _ _ _ _ dec_height exp_height str_height exp_field_height rule_height str_bind_height

abbrev str_bind_bytes : StrBind-F Dec Exp StrExp ExpField Rule StrBind → StrBind-F (List ℕ) (List ℕ) (List ℕ) (List ℕ) (List ℕ) (List ℕ)
str_bind_bytes = map-StrBind _ _ _ _ _ _ _ _ _ _ _ _ dec_of exp_of str_of exp_field_of rule_of str_bind_of

abbrev str_bind_tests : StrBind-F Dec Exp StrExp ExpField Rule StrBind → StrBind-F Body Bool Bool Bool Bool Bool
str_bind_tests = map-StrBind _ _ _ _ _ _ _ _ _ _ _ _ plain_dec plain_exp plain_str plain_exp_field plain_rule plain_str_bind

abbrev str_bind_bare : StrBind-F Dec Exp StrExp ExpField Rule StrBind → StrBind-F Dec Exp StrExp ExpField Rule StrBind
str_bind_bare = map-StrBind _ _ _ _ _ _ _ _ _ _ _ _ unplaced_dec unplaced_exp unplaced_str unplaced_exp_field unplaced_rule unplaced_str_bind

str_bind_bytes-is : (x : StrBind) → str_bind_of x ≡ str_bind_level (str_bind_bytes (out-StrBind x))
str_bind_bytes-is x =
    ap str_bind_of (sym (roll-out-StrBind x)) ∙ fold-roll-StrBind _ _ _ _ _ _ dec_level exp_level str_level exp_field_level rule_level str_bind_level (out-StrBind x)

str_bind_height-is : (x : StrBind) → str_bind_height x ≡ str_bind_step (str_bind_heights (out-StrBind x))
str_bind_height-is x =
    ap str_bind_height (sym (roll-out-StrBind x)) ∙ fold-roll-StrBind _ _ _ _ _ _ dec_step exp_step str_step exp_field_step rule_step str_bind_step (out-StrBind x)

str_bind_plain-is : (x : StrBind) → plain_str_bind x ≡ str_bind_plain (str_bind_tests (out-StrBind x))
str_bind_plain-is x =
    ap plain_str_bind (sym (roll-out-StrBind x)) ∙ fold-roll-StrBind _ _ _ _ _ _ dec_plain exp_plain str_plain exp_field_plain rule_plain str_bind_plain (out-StrBind x)

str_bind_made : (x : StrBind) → unplaced_str_bind x ≡ roll-StrBind (str_bind_unplaced (str_bind_bare (out-StrBind x)))
str_bind_made x =
    ap unplaced_str_bind (sym (roll-out-StrBind x))
    ∙ fold-roll-StrBind _ _ _ _ _ _ (λ y. roll-Dec (dec_unplaced y)) (λ y. roll-Exp (exp_unplaced y)) (λ y. roll-StrExp (str_unplaced y)) (λ y. roll-ExpField (exp_field_unplaced y)) (λ y. roll-Rule (rule_unplaced y)) (λ y. roll-StrBind (str_bind_unplaced y)) (out-StrBind x)

str_bind_parts : (x : StrBind) → out-StrBind (unplaced_str_bind x) ≡ str_bind_unplaced (str_bind_bare (out-StrBind x))
str_bind_parts x = ap out-StrBind (str_bind_made x) ∙ out-roll-StrBind (str_bind_unplaced (str_bind_bare (out-StrBind x)))

dec_full-level : (l : Dec-F Dec Exp StrExp ExpField Rule StrBind) → Full (dec_level (dec_bytes l))
dec_full-level (Dec-F.Val vars rules recs at) = omega arith
dec_full-level (Dec-F.Types binds at) = omega arith
dec_full-level (Dec-F.Datatypes binds at) = omega arith
dec_full-level (Dec-F.Replication name long at) = omega arith
dec_full-level (Dec-F.Exceptions binds at) = omega arith
dec_full-level (Dec-F.Local hidden dec at) = omega arith
dec_full-level (Dec-F.Open longs at) = omega arith
dec_full-level (Dec-F.Sequence decs at) = omega arith
dec_full-level (Dec-F.Structures binds at) = omega arith

dec_full : (x : Dec) → Full (dec_of x)
dec_full x = subst Full (sym (dec_bytes-is x)) (dec_full-level (out-Dec x))

exp_field_full : (x : ExpField) → Full (exp_field_of x)
exp_field_full x =
    subst Full (sym (exp_field_bytes-is x))
    (full_left (name_of (out-ExpField x).label) _ (text_full (out-ExpField x).label.text))

rule_full : (x : Rule) → Full (rule_of x)
rule_full x = subst Full (sym (rule_bytes-is x)) (full_left (pat_of (out-Rule x).pat) _ (pat_full (out-Rule x).pat))

pub str_bind_full : (x : StrBind) → Full (str_bind_of x)
str_bind_full x =
    subst Full (sym (str_bind_bytes-is x))
    (full_left (name_of (out-StrBind x).name) _ (text_full (out-StrBind x).name.text))

each_tested : (decs : List Dec) → list_all plain_of (map plain_dec decs) ≡ true
    → Each (λ x. plain_of (plain_dec x) ≡ true) decs
each_tested [] is = tt
each_tested (x ∷ xs) is =
    let here = plain_of (plain_dec x) in
    let rest = list_all plain_of (map plain_dec xs) in
    (and_one here rest is, each_tested xs (and_two here rest is))

-- over what has one level less
module _ (n : ℕ) (below : ExpRead n) where
  exp_field_reads : Reads exp_field_of unplaced_exp_field (LowExpField n) (IsExpField n (exp_is n))
  exp_field_reads x (low, plain) small =
      let l = out-ExpField x in
      let few : Small (name_of l.label ++ exp_of l.exp) = subst Small (exp_field_bytes-is x) small in
      subst (λ (f : ExpField-F Dec Exp StrExp ExpField Rule StrBind). IsName f.label × (exp_is n).exp f.exp) (sym (exp_field_parts x)) (
        name_reads l.label (small_left (name_of l.label) (exp_of l.exp) few),
        below.exp l.exp (subst (λ (h : ℕ). h ≤ n) (exp_field_height-is x) low, sym (exp_field_plain-is x) ∙ plain)
            (small_right (name_of l.label) (exp_of l.exp) few),
      )

  rule_reads : Reads rule_of unplaced_rule (LowRule n) (IsRule n (exp_is n))
  rule_reads x (low, plain) small =
      let l = out-Rule x in
      let few : Small (pat_of l.pat ++ exp_of l.exp) = subst Small (rule_bytes-is x) small in
      let under : max (pat_height l.pat) (exp_height l.exp) ≤ n = subst (λ (h : ℕ). h ≤ n) (rule_height-is x) low in
      let test : fit_pat l.pat && plain_exp l.exp ≡ true = sym (rule_plain-is x) ∙ plain in
      subst (λ (f : Rule-F Dec Exp StrExp ExpField Rule StrBind). (pat_is n).pat f.pat × (exp_is n).exp f.exp) (sym (rule_parts x)) (
        pat_reads n l.pat (omega arith, and_one (fit_pat l.pat) (plain_exp l.exp) test)
            (small_left (pat_of l.pat) (exp_of l.exp) few),
        below.exp l.exp (omega arith, and_two (fit_pat l.pat) (plain_exp l.exp) test)
            (small_right (pat_of l.pat) (exp_of l.exp) few),
      )

  pub str_bind_reads : Reads str_bind_of unplaced_str_bind (LowStrBind n) (IsStrBind n (exp_is n))
  str_bind_reads x (low, plain) small =
      let l = out-StrBind x in
      let few : Small (name_of l.name ++ str_of l.body) = subst Small (str_bind_bytes-is x) small in
      subst (λ (f : StrBind-F Dec Exp StrExp ExpField Rule StrBind). IsName f.name × (exp_is n).str f.body) (sym (str_bind_parts x)) (
        name_reads l.name (small_left (name_of l.name) (str_of l.body) few),
        below.str l.body (subst (λ (h : ℕ). h ≤ n) (str_bind_height-is x) low, sym (str_bind_plain-is x) ∙ plain)
            (small_right (name_of l.name) (str_of l.body) few),
      )

  fields_read : (fields : List ExpField) → highest (map exp_field_height fields) ≤ n
      → all_true (map plain_exp_field fields) ≡ true → Small (parts (map exp_field_of fields))
      → AreAll (IsExpField n (exp_is n)) (map unplaced_exp_field fields)
  fields_read fields low plain small =
      parts_read exp_field_of unplaced_exp_field (LowExpField n) (IsExpField n (exp_is n)) exp_field_full exp_field_reads
      fields (each_both (λ x. exp_field_height x ≤ n) (λ x. plain_exp_field x ≡ true) fields
      (each_low exp_field_height n fields low) (each_true plain_exp_field fields plain)) small

  rules_read : (rules : List Rule) → highest (map rule_height rules) ≤ n → all_true (map plain_rule rules) ≡ true
      → Small (parts (map rule_of rules)) → AreAll (IsRule n (exp_is n)) (map unplaced_rule rules)
  rules_read rules low plain small =
      parts_read rule_of unplaced_rule (LowRule n) (IsRule n (exp_is n)) rule_full rule_reads rules
      (each_both (λ x. rule_height x ≤ n) (λ x. plain_rule x ≡ true) rules
      (each_low rule_height n rules low) (each_true plain_rule rules plain)) small

  str_binds_read : (binds : List StrBind) → highest (map str_bind_height binds) ≤ n
      → all_true (map plain_str_bind binds) ≡ true → Small (parts (map str_bind_of binds))
      → AreAll (IsStrBind n (exp_is n)) (map unplaced_str_bind binds)
  str_binds_read binds low plain small =
      parts_read str_bind_of unplaced_str_bind (LowStrBind n) (IsStrBind n (exp_is n)) str_bind_full str_bind_reads binds
      (each_both (λ x. str_bind_height x ≤ n) (λ x. plain_str_bind x ≡ true) binds
      (each_low str_bind_height n binds low) (each_true plain_str_bind binds plain)) small

  decs_read : (decs : List Dec) → highest (map dec_height decs) ≤ n → list_all plain_of (map plain_dec decs) ≡ true
      → Small (parts (map dec_of decs)) → AreAll (exp_is n).dec (map unplaced_dec decs)
  decs_read decs low plain small =
      parts_read dec_of unplaced_dec (LowDec n) (exp_is n).dec dec_full below.dec decs
      (each_both (λ x. dec_height x ≤ n) (λ x. plain_of (plain_dec x) ≡ true) decs
      (each_low dec_height n decs low) (each_tested decs plain)) small

  exp_level_reads : (l : Exp-F Dec Exp StrExp ExpField Rule StrBind) → exp_step (exp_heights l) ≤ suc n
      → exp_plain (exp_tests l) ≡ true → Small (exp_level (exp_bytes l))
      → exp_level_is n (exp_is n) (exp_unplaced (exp_bare l))
  exp_level_reads (Exp-F.Int k at) low plain small = (int_reads k plain, refl)
  exp_level_reads (Exp-F.Str text at) low plain small = (text_reads text (small_tail 17 (text_of text) small), refl)
  exp_level_reads (Exp-F.Char byte at) low plain small = (byte_reads byte plain, refl)
  exp_level_reads (Exp-F.Long long at) low plain small = (long_reads long (small_tail 19 (long_of long) small), refl)
  exp_level_reads (Exp-F.Record fields at) low plain small =
      (fields_read fields (omega arith) plain (small_tail 20 (parts (map exp_field_of fields)) small), refl)
  exp_level_reads (Exp-F.Let dec exp at) low plain small =
      let few = small_tail 21 (dec_of dec ++ exp_of exp) small in (
        (
          below.body dec (omega arith, and_one (body_of (plain_dec dec)) (plain_exp exp) plain)
              (small_left (dec_of dec) (exp_of exp) few),
          below.exp exp (omega arith, and_two (body_of (plain_dec dec)) (plain_exp exp) plain)
              (small_right (dec_of dec) (exp_of exp) few),
        ),
        refl,
      )
  exp_level_reads (Exp-F.App function arg at) low plain small =
      let few = small_tail 22 (exp_of function ++ exp_of arg) small in (
        (
          below.exp function (omega arith, and_one (plain_exp function) (plain_exp arg) plain)
              (small_left (exp_of function) (exp_of arg) few),
          below.exp arg (omega arith, and_two (plain_exp function) (plain_exp arg) plain)
              (small_right (exp_of function) (exp_of arg) few),
        ),
        refl,
      )
  exp_level_reads (Exp-F.Typed exp ty at) low plain small =
      let few = small_tail 23 (exp_of exp ++ ty_of ty) small in (
        (
          below.exp exp (omega arith, plain) (small_left (exp_of exp) (ty_of ty) few),
          ty_reads n ty (omega arith) (small_right (exp_of exp) (ty_of ty) few),
        ),
        refl,
      )
  exp_level_reads (Exp-F.Handle exp rules at) low plain small =
      let few = small_tail 24 (exp_of exp ++ parts (map rule_of rules)) small in (
        (
          below.exp exp (omega arith, and_one (plain_exp exp) (all_true (map plain_rule rules)) plain)
              (small_left (exp_of exp) (parts (map rule_of rules)) few),
          rules_read rules (omega arith) (and_two (plain_exp exp) (all_true (map plain_rule rules)) plain)
              (small_right (exp_of exp) (parts (map rule_of rules)) few),
        ),
        refl,
      )
  exp_level_reads (Exp-F.Raise exp at) low plain small =
      (below.exp exp (omega arith, plain) (small_tail 25 (exp_of exp) small), refl)
  exp_level_reads (Exp-F.Fn rules at) low plain small =
      (rules_read rules (omega arith) plain (small_tail 26 (parts (map rule_of rules)) small), refl)

  dec_level_reads : (l : Dec-F Dec Exp StrExp ExpField Rule StrBind) → dec_step (dec_heights l) ≤ suc n
      → plain_of (dec_plain (dec_tests l)) ≡ true → Small (dec_level (dec_bytes l))
      → dec_level_is n (exp_is n) (dec_unplaced (dec_bare l))
  dec_level_reads (Dec-F.Val vars rules recs at) low plain small =
      let first = parts (map rule_of rules) in
      let second = parts (map rule_of recs) in
      let few = small_tail 64 (list_of name_of vars ++ (first ++ second)) small in
      let rest = small_right (list_of name_of vars) (first ++ second) few in
      let one = all_true (map plain_rule rules) in
      let two = all_true (map plain_rule recs) in (
        (
          names_read vars (small_left (list_of name_of vars) (first ++ second) few),
          (
            rules_read rules (omega arith) (and_one one two plain) (small_left first second rest),
            rules_read recs (omega arith) (and_two one two plain) (small_right first second rest),
          ),
        ),
        refl,
      )
  dec_level_reads (Dec-F.Types binds at) low plain small = (
    list_reads typ_bind_of unplaced_typ_bind (λ x. typ_bind_height x ≤ n) (IsTypBind n) typ_bind_full (typ_bind_reads n)
        binds (each_low typ_bind_height n binds (omega arith)) (small_tail 65 (list_of typ_bind_of binds) small),
    refl,
  )
  dec_level_reads (Dec-F.Datatypes binds at) low plain small =
      (dat_binds_read n binds (omega arith) (small_tail 66 (list_of dat_bind_of binds) small), refl)
  dec_level_reads (Dec-F.Replication name long at) low plain small =
      let few = small_tail 67 (name_of name ++ long_of long) small in (
        (
          name_reads name (small_left (name_of name) (long_of long) few),
          long_reads long (small_right (name_of name) (long_of long) few),
        ),
        refl,
      )
  dec_level_reads (Dec-F.Exceptions binds at) low plain small = (
    list_reads ex_bind_of unplaced_ex_bind (λ x. ex_height x ≤ n) (IsExBind n) ex_bind_full (ex_bind_reads n)
        binds (each_low ex_height n binds (omega arith)) (small_tail 68 (list_of ex_bind_of binds) small),
    refl,
  )
  dec_level_reads (Dec-F.Local hidden dec at) low plain small =
      let few = small_tail 69 (dec_of hidden ++ dec_of dec) small in (
        (
          below.body hidden (omega arith, and_one (body_of (plain_dec hidden)) (body_of (plain_dec dec)) plain)
              (small_left (dec_of hidden) (dec_of dec) few),
          below.body dec (omega arith, and_two (body_of (plain_dec hidden)) (body_of (plain_dec dec)) plain)
              (small_right (dec_of hidden) (dec_of dec) few),
        ),
        refl,
      )
  dec_level_reads (Dec-F.Open longs at) low plain small =
      (longs_read longs (small_tail 70 (list_of long_of longs) small), refl)
  dec_level_reads (Dec-F.Sequence decs at) low plain small =
      (decs_read decs (omega arith) plain (small_tail 71 (parts (map dec_of decs)) small), refl)
  dec_level_reads (Dec-F.Structures binds at) low plain small =
      (str_binds_read binds (omega arith) plain (small_tail 72 (parts (map str_bind_of binds)) small), refl)

  body_level : (l : Dec-F Dec Exp StrExp ExpField Rule StrBind) → dec_step (dec_heights l) ≤ suc n
      → body_of (dec_plain (dec_tests l)) ≡ true → Small (dec_level (dec_bytes l))
      → (exp_is (suc n)).dec_body (roll-Dec (dec_unplaced (dec_bare l)))
  body_level (Dec-F.Val vars rules recs at) low plain small =
      absurd (no_body (all_true (map plain_rule rules) && all_true (map plain_rule recs)) plain)
  body_level (Dec-F.Types binds at) low plain small = absurd (no_body true plain)
  body_level (Dec-F.Datatypes binds at) low plain small = absurd (no_body true plain)
  body_level (Dec-F.Replication name long at) low plain small = absurd (no_body true plain)
  body_level (Dec-F.Exceptions binds at) low plain small = absurd (no_body true plain)
  body_level (Dec-F.Local hidden dec at) low plain small =
      absurd (no_body (body_of (plain_dec hidden) && body_of (plain_dec dec)) plain)
  body_level (Dec-F.Open longs at) low plain small = absurd (no_body true plain)
  body_level (Dec-F.Sequence decs at) low plain small = (
    map unplaced_dec decs,
    decv.rolls-Sequence (map unplaced_dec decs) nowhere,
    decs_read decs (omega arith) (and_one (list_all plain_of (map plain_dec decs)) true plain)
        (small_tail 71 (parts (map dec_of decs)) small),
  )
  body_level (Dec-F.Structures binds at) low plain small = absurd (no_body (all_true (map plain_str_bind binds)) plain)

  str_level_reads : (l : StrExp-F Dec Exp StrExp ExpField Rule StrBind) → str_step (str_heights l) ≤ suc n
      → str_plain (str_tests l) ≡ true → Small (str_level (str_bytes l))
      → str_level_is n (exp_is n) (str_unplaced (str_bare l))
  str_level_reads (StrExp-F.Struct dec at) low plain small =
      (below.body dec (omega arith, plain) (small_tail 80 (dec_of dec) small), refl)
  str_level_reads (StrExp-F.Named long at) low plain small = (long_reads long (small_tail 81 (long_of long) small), refl)
  str_level_reads (StrExp-F.Transparent str sig at) low plain small =
      let few = small_tail 82 (str_of str ++ sig_of sig) small in (
        (
          below.str str (omega arith, and_one (plain_str str) (plain_sig sig) plain) (small_left (str_of str) (sig_of sig) few),
          (sig_reads n).sig sig (omega arith, and_two (plain_str str) (plain_sig sig) plain)
              (small_right (str_of str) (sig_of sig) few),
        ),
        refl,
      )
  str_level_reads (StrExp-F.Opaque str sig at) low plain small =
      let few = small_tail 83 (str_of str ++ sig_of sig) small in (
        (
          below.str str (omega arith, and_one (plain_str str) (plain_sig sig) plain) (small_left (str_of str) (sig_of sig) few),
          (sig_reads n).sig sig (omega arith, and_two (plain_str str) (plain_sig sig) plain)
              (small_right (str_of str) (sig_of sig) few),
        ),
        refl,
      )
  str_level_reads (StrExp-F.Functor name str at) low plain small =
      let few = small_tail 84 (name_of name ++ str_of str) small in (
        (
          name_reads name (small_left (name_of name) (str_of str) few),
          below.str str (omega arith, plain) (small_right (name_of name) (str_of str) few),
        ),
        refl,
      )
  str_level_reads (StrExp-F.Within dec str at) low plain small =
      let few = small_tail 85 (dec_of dec ++ str_of str) small in (
        (
          below.body dec (omega arith, and_one (body_of (plain_dec dec)) (plain_str str) plain)
              (small_left (dec_of dec) (str_of str) few),
          below.str str (omega arith, and_two (body_of (plain_dec dec)) (plain_str str) plain)
              (small_right (dec_of dec) (str_of str) few),
        ),
        refl,
      )

  deeper : ExpRead (suc n)
  deeper = record {
    exp = λ x has small.
        subst (exp_level_is n (exp_is n)) (sym (exp_parts x))
        (exp_level_reads (out-Exp x) (subst (λ (h : ℕ). h ≤ suc n) (exp_height-is x) has.0) (sym (exp_plain-is x) ∙ has.1)
        (subst Small (exp_bytes-is x) small));
    dec = λ x has small.
        subst (dec_level_is n (exp_is n)) (sym (dec_parts x))
        (dec_level_reads (out-Dec x) (subst (λ (h : ℕ). h ≤ suc n) (dec_height-is x) has.0)
        (sym (ap plain_of (dec_plain-is x)) ∙ has.1) (subst Small (dec_bytes-is x) small));
    str = λ x has small.
        subst (str_level_is n (exp_is n)) (sym (str_parts x))
        (str_level_reads (out-StrExp x) (subst (λ (h : ℕ). h ≤ suc n) (str_height-is x) has.0) (sym (str_plain-is x) ∙ has.1)
        (subst Small (str_bytes-is x) small));
    body = λ x has small.
        subst (exp_is (suc n)).dec_body (sym (dec_made x))
        (body_level (out-Dec x) (subst (λ (h : ℕ). h ≤ suc n) (dec_height-is x) has.0)
        (sym (ap body_of (dec_plain-is x)) ∙ has.1) (subst Small (dec_bytes-is x) small));
  }

exp_tall : (l : Exp-F Dec Exp StrExp ExpField Rule StrBind) → exp_step (exp_heights l) ≤ 0 → ⊥
exp_tall (Exp-F.Int k at) low = omega arith
exp_tall (Exp-F.Str text at) low = omega arith
exp_tall (Exp-F.Char byte at) low = omega arith
exp_tall (Exp-F.Long long at) low = omega arith
exp_tall (Exp-F.Record fields at) low = omega arith
exp_tall (Exp-F.Let dec exp at) low = omega arith
exp_tall (Exp-F.App function arg at) low = omega arith
exp_tall (Exp-F.Typed exp ty at) low = omega arith
exp_tall (Exp-F.Handle exp rules at) low = omega arith
exp_tall (Exp-F.Raise exp at) low = omega arith
exp_tall (Exp-F.Fn rules at) low = omega arith

no_exp : (x : Exp) → exp_height x ≤ 0 → ⊥
no_exp x low = exp_tall (out-Exp x) (subst (λ (h : ℕ). h ≤ 0) (exp_height-is x) low)

dec_tall : (l : Dec-F Dec Exp StrExp ExpField Rule StrBind) → dec_step (dec_heights l) ≤ 0 → ⊥
dec_tall (Dec-F.Val vars rules recs at) low = omega arith
dec_tall (Dec-F.Types binds at) low = omega arith
dec_tall (Dec-F.Datatypes binds at) low = omega arith
dec_tall (Dec-F.Replication name long at) low = omega arith
dec_tall (Dec-F.Exceptions binds at) low = omega arith
dec_tall (Dec-F.Local hidden dec at) low = omega arith
dec_tall (Dec-F.Open longs at) low = omega arith
dec_tall (Dec-F.Sequence decs at) low = omega arith
dec_tall (Dec-F.Structures binds at) low = omega arith

no_dec : (x : Dec) → dec_height x ≤ 0 → ⊥
no_dec x low = dec_tall (out-Dec x) (subst (λ (h : ℕ). h ≤ 0) (dec_height-is x) low)

str_tall : (l : StrExp-F Dec Exp StrExp ExpField Rule StrBind) → str_step (str_heights l) ≤ 0 → ⊥
str_tall (StrExp-F.Struct dec at) low = omega arith
str_tall (StrExp-F.Named long at) low = omega arith
str_tall (StrExp-F.Transparent str sig at) low = omega arith
str_tall (StrExp-F.Opaque str sig at) low = omega arith
str_tall (StrExp-F.Functor name str at) low = omega arith
str_tall (StrExp-F.Within dec str at) low = omega arith

no_str : (x : StrExp) → str_height x ≤ 0 → ⊥
no_str x low = str_tall (out-StrExp x) (subst (λ (h : ℕ). h ≤ 0) (str_height-is x) low)

pub exp_reads : (n : ℕ) → ExpRead n
exp_reads zero = record {
  exp = λ x has small. absurd (no_exp x has.0);
  dec = λ x has small. absurd (no_dec x has.0);
  str = λ x has small. absurd (no_str x has.0);
  body = λ x has small. absurd (no_dec x has.0);
}
exp_reads (suc n) = deeper n (exp_reads n)
