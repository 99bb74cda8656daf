-- The operators of a run that are open say which others may not follow it.
use Rattle.std.proofs.Common.{◌≡◌, ℕ, ◌++◌, ◌&&◌, ◌||◌, ◌==◌, ◌⊎◌, inl, inr, List, [], ◌∷◌, Bool, true, false, refl, ap, sym, ◌∙◌, nat_lt}
use Rattle.std.specs.List.{list_all, filter}
use Rattle.std.proofs.lemmas.List.Folds.{list_any-append}
use Rattle.std.proofs.lemmas.Map.Views.{any-filter_same}
use Rattle.std.proofs.lemmas.Bool.{and_parts, and_from, or_cases, eqb-true}
use Rattle.std.proofs.Math.Bool.{or-false, and-true, or-true}
use Rattle.sml_trees.specs.declared.full_pat.Fixity.{Fixity}
use Rattle.infix_names.specs.Fixities.{open_after, clash, clashes, differ}
use Rattle.infix_names.specs.Operators.{MayNotFollow, open_behind, ClashesByRule}

abbrev stronger : Fixity → List Fixity → Bool
stronger f ops = list_all (λ o. nat_lt f.strength o.strength) ops

-- whether one of these clashes with only stronger ones behind it
abbrev behind : Fixity → List Fixity → Bool
behind f [] = false
behind f (op ∷ ops) = (clashes f op && stronger f ops) || behind f ops

-- of what clashes with f, all or none binds less strongly than another operator
equal_pass : (f g op : Fixity) → clashes f op ≡ true → nat_lt op.strength g.strength ≡ nat_lt f.strength g.strength
equal_pass f g op h = ap (λ (n : ℕ). nat_lt n g.strength) (eqb-true op.strength f.strength ((and_parts (op.strength == f.strength) (differ op.right f.right) h).0))

algebra : (b a c s t : Bool) → (((b && a) || c) && s || t) ≡ (a && (b && s) || ((c && s) || t))
algebra true true true true t = refl
algebra true true true false t = refl
algebra true true false true t = refl
algebra true true false false t = refl
algebra true false true true t = refl
algebra true false true false t = refl
algebra true false false true t = refl
algebra true false false false t = refl
algebra false true true true t = refl
algebra false true true false t = refl
algebra false true false true t = refl
algebra false true false false t = refl
algebra false false true true t = refl
algebra false false true false t = refl
algebra false false false true t = refl
algebra false false false false t = refl

-- what clashes among the operators that stay open under another, and that one
after_one : (f : Fixity) (held : List Fixity) (op : Fixity)
    → clash f (open_after held op) ≡ ((nat_lt f.strength op.strength && clash f held) || clashes f op)
unfolding clash
after_one f held op =
    list_any-append (clashes f) (filter (λ o. nat_lt o.strength op.strength) held) (op ∷ [])
    ∙ ap (λ (b : Bool). b || (clashes f op || false))
    (any-filter_same (clashes f) (λ o. nat_lt o.strength op.strength) (nat_lt f.strength op.strength) (equal_pass f op) held)
    ∙ ap (λ (b : Bool). (nat_lt f.strength op.strength && clash f held) || b) (or-false (clashes f op))

open_says : (f : Fixity) (held ops : List Fixity)
    → clash f (open_behind held ops) ≡ ((clash f held && stronger f ops) || behind f ops)
open_says f held [] = sym (or-false (clash f held && true) ∙ and-true (clash f held))
open_says f held (op ∷ ops) =
    open_says f (open_after held op) ops
    ∙ ap (λ (b : Bool). (b && stronger f ops) || behind f ops) (after_one f held op)
    ∙ algebra (nat_lt f.strength op.strength) (clash f held) (clashes f op) (stronger f ops) (behind f ops)

none_open : (f : Fixity) → clash f [] ≡ false
unfolding clash
none_open f = refl

-- ---- what the test says

further : (f op : Fixity) (ops : List Fixity) → MayNotFollow ops f → MayNotFollow (op ∷ ops) f
further f op ops (before, one, between, text, clashing, strong) =
    (op ∷ before, one, between, ap (λ (xs : List Fixity). op ∷ xs) text, clashing, strong)

here_or_further : (f op : Fixity) (ops : List Fixity) → (behind f ops ≡ true → MayNotFollow ops f)
    → ((clashes f op && stronger f ops) ≡ true) ⊎ (behind f ops ≡ true) → MayNotFollow (op ∷ ops) f
here_or_further f op ops rest (inl h) =
    let parts : (clashes f op ≡ true) × (stronger f ops ≡ true) = and_parts (clashes f op) (stronger f ops) h in
    ([], op, ops, refl, parts.0, parts.1)
here_or_further f op ops rest (inr h) = further f op ops (rest h)

behind_rule : (f : Fixity) (ops : List Fixity) → behind f ops ≡ true → MayNotFollow ops f
behind_rule f [] h = absurd (cc)
behind_rule f (op ∷ ops) h =
    here_or_further f op ops (behind_rule f ops) (or_cases (clashes f op && stronger f ops) (behind f ops) h)

rule_behind : (f op : Fixity) (before between : List Fixity) → clashes f op ≡ true → stronger f between ≡ true
    → behind f (before ++ op ∷ between) ≡ true
rule_behind f op [] between clashing strong =
    ap (λ (b : Bool). b || behind f between) (and_from (clashes f op) (stronger f between) clashing strong)
rule_behind f op (o ∷ before) between clashing strong =
    ap (λ (b : Bool). (clashes f o && stronger f (before ++ op ∷ between)) || b) (rule_behind f op before between clashing strong)
    ∙ or-true (clashes f o && stronger f (before ++ op ∷ between))

open_is_behind : (f : Fixity) (ops : List Fixity) → clash f (open_behind [] ops) ≡ behind f ops
open_is_behind f ops = open_says f [] ops ∙ ap (λ (b : Bool). (b && stronger f ops) || behind f ops) (none_open f)

follows : (f : Fixity) (ops : List Fixity) → MayNotFollow ops f → clash f (open_behind [] ops) ≡ true
follows f ops (before, op, between, text, clashing, strong) =
    open_is_behind f ops ∙ ap (behind f) text ∙ rule_behind f op before between clashing strong

pub clashes_by_rule : ClashesByRule
clashes_by_rule ops f = (λ h. behind_rule f ops (sym (open_is_behind f ops) ∙ h), follows f ops)
