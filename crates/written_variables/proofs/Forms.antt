-- The phrase of each form of tree, and lists that are put together.
use Rattle.std.proofs.Common.{◌≡◌, ◌∙◌, sym, ap, ℕ, ◌+◌, ◌<◌, List, ◌∷◌, ◌++◌, map, length, get_or, drop, append_assoc, append-nil}
use Rattle.std.proofs.lemmas.List.{drop_more}
use Rattle.sml_trees.specs.declared.name.Name.{Name}
use Rattle.sml_trees.specs.declared.ty.TyField.{TyField, out-TyField}
use Rattle.sml_trees.specs.declared.pat.PatField.{PatField, out-PatField}
use Rattle.sml_trees.specs.declared.exp.ExpField.{ExpField, out-ExpField}
use Rattle.sml_trees.specs.declared.exp.Rule.{Rule, out-Rule}
use Rattle.bare_phrases.specs.PhraseOf.{ty_phrase, ty_field_phrase, ty_fields, pat_phrase, pat_field_phrase, pat_fields, exp_phrase, exp_field_phrase, exp_fields, rule_phrase, rules_of}
use Rattle.static_semantics.specs.WrittenVariables.{tyvars_of_ty, tyvars_of_ty_fields, tyvars_of_pat, tyvars_of_pat_fields, tyvars_of_exp, tyvars_of_exp_fields, tyvars_of_rules}
use Rattle.bare_phrases.proofs.Forms.{ty_phrase-Var, ty_phrase-Record, ty_phrase-Named, ty_phrase-Arrow, ty_field_phrase-kept, pat_phrase-Wild, pat_phrase-Int, pat_phrase-Str, pat_phrase-Char, pat_phrase-Long, pat_phrase-Record, pat_phrase-Con, pat_phrase-Typed, pat_phrase-As, pat_field_phrase-kept, exp_phrase-Int, exp_phrase-Str, exp_phrase-Char, exp_phrase-Long, exp_phrase-Record, exp_phrase-Let, exp_phrase-App, exp_phrase-Typed, exp_phrase-Handle, exp_phrase-Raise, exp_phrase-Fn, exp_field_phrase-kept, rule_phrase-kept, dec_phrase-Val, dec_phrase-Types, dec_phrase-Datatypes, dec_phrase-Replication, dec_phrase-Exceptions, dec_phrase-Local, dec_phrase-Open, dec_phrase-Sequence, dec_phrase-Structures}

pub ruleset append_forms = (append_assoc, append-nil)

pub ruleset forms =
    (append_assoc, append-nil, ty_phrase-Var, ty_phrase-Record, ty_phrase-Named, ty_phrase-Arrow, ty_field_phrase-kept, pat_phrase-Wild, pat_phrase-Int, pat_phrase-Str, pat_phrase-Char, pat_phrase-Long, pat_phrase-Record, pat_phrase-Con, pat_phrase-Typed, pat_phrase-As, pat_field_phrase-kept, exp_phrase-Int, exp_phrase-Str, exp_phrase-Char, exp_phrase-Long, exp_phrase-Record, exp_phrase-Let, exp_phrase-App, exp_phrase-Typed, exp_phrase-Handle, exp_phrase-Raise, exp_phrase-Fn, exp_field_phrase-kept, rule_phrase-kept, dec_phrase-Val, dec_phrase-Types, dec_phrase-Datatypes, dec_phrase-Replication, dec_phrase-Exceptions, dec_phrase-Local, dec_phrase-Open, dec_phrase-Sequence, dec_phrase-Structures)

-- a list of which one further item was met
moved : {A : Type 0} (all : List A → List Name) (one : A → List Name)
    → ((x : A) (xs : List A) → all (x ∷ xs) ≡ one x ++ all xs)
    → (xs : List A) (i : ℕ) (x : A) (old new total : List Name) → i < length xs → x ≡ get_or xs i x
    → new ≡ old ++ one x → old ++ all (drop i xs) ≡ total → new ++ all (drop (i + 1) xs) ≡ total
moved all one more xs i x old new total less is then before =
    ap (λ l. l ++ all (drop (i + 1) xs)) then
    ∙ append_assoc old (one x) (all (drop (i + 1) xs))
    ∙ ap (λ l. old ++ l) (sym (more x (drop (i + 1) xs)))
    ∙ ap (λ l. old ++ all l) (sym (drop_more xs i x less ∙ ap (λ y. y ∷ drop (i + 1) xs) (sym is)))
    ∙ before

abbrev pub of_ty_fields : List TyField → List Name
of_ty_fields fields = tyvars_of_ty_fields (ty_fields (map ty_field_phrase fields))

pub ty_field_moved : (xs : List TyField) (i : ℕ) (x : TyField) (old new total : List Name) → i < length xs
    → x ≡ get_or xs i x → new ≡ old ++ tyvars_of_ty (ty_phrase (out-TyField x).ty)
    → old ++ of_ty_fields (drop i xs) ≡ total → new ++ of_ty_fields (drop (i + 1) xs) ≡ total
ty_field_moved = moved of_ty_fields (λ x. tyvars_of_ty (ty_phrase (out-TyField x).ty))
    (λ x xs. ap (λ p. tyvars_of_ty p.1 ++ of_ty_fields xs) (ty_field_phrase-kept x))

abbrev pub of_pat_fields : List PatField → List Name
of_pat_fields fields = tyvars_of_pat_fields (pat_fields (map pat_field_phrase fields))

pub pat_field_moved : (xs : List PatField) (i : ℕ) (x : PatField) (old new total : List Name) → i < length xs
    → x ≡ get_or xs i x → new ≡ old ++ tyvars_of_pat (pat_phrase (out-PatField x).pat)
    → old ++ of_pat_fields (drop i xs) ≡ total → new ++ of_pat_fields (drop (i + 1) xs) ≡ total
pat_field_moved = moved of_pat_fields (λ x. tyvars_of_pat (pat_phrase (out-PatField x).pat))
    (λ x xs. ap (λ p. tyvars_of_pat p.1 ++ of_pat_fields xs) (pat_field_phrase-kept x))

abbrev pub of_exp_fields : List ExpField → List Name
of_exp_fields fields = tyvars_of_exp_fields (exp_fields (map exp_field_phrase fields))

pub exp_field_moved : (xs : List ExpField) (i : ℕ) (x : ExpField) (old new total : List Name) → i < length xs
    → x ≡ get_or xs i x → new ≡ old ++ tyvars_of_exp (exp_phrase (out-ExpField x).exp)
    → old ++ of_exp_fields (drop i xs) ≡ total → new ++ of_exp_fields (drop (i + 1) xs) ≡ total
exp_field_moved = moved of_exp_fields (λ x. tyvars_of_exp (exp_phrase (out-ExpField x).exp))
    (λ x xs. ap (λ p. tyvars_of_exp p.1 ++ of_exp_fields xs) (exp_field_phrase-kept x))

abbrev pub of_rules : List Rule → List Name
of_rules rules = tyvars_of_rules (rules_of (map rule_phrase rules))

abbrev of_rule : Rule → List Name
of_rule rule = tyvars_of_pat (pat_phrase (out-Rule rule).pat) ++ tyvars_of_exp (exp_phrase (out-Rule rule).exp)

pub rule_moved : (xs : List Rule) (i : ℕ) (x : Rule) (old mid new total : List Name) → i < length xs
    → x ≡ get_or xs i x → mid ≡ old ++ tyvars_of_pat (pat_phrase (out-Rule x).pat)
    → new ≡ mid ++ tyvars_of_exp (exp_phrase (out-Rule x).exp)
    → old ++ of_rules (drop i xs) ≡ total → new ++ of_rules (drop (i + 1) xs) ≡ total
rule_moved xs i x old mid new total less is one two before = moved of_rules of_rule
    (λ y ys. ap (λ p. tyvars_of_pat p.0 ++ (tyvars_of_exp p.1 ++ of_rules ys)) (rule_phrase-kept y)
    ∙ sym (append_assoc (tyvars_of_pat (pat_phrase (out-Rule y).pat)) (tyvars_of_exp (exp_phrase (out-Rule y).exp))
    (of_rules ys)))
    xs i x old new total less is
    (two ∙ ap (λ l. l ++ tyvars_of_exp (exp_phrase (out-Rule x).exp)) one
    ∙ append_assoc old (tyvars_of_pat (pat_phrase (out-Rule x).pat)) (tyvars_of_exp (exp_phrase (out-Rule x).exp)))
    before
