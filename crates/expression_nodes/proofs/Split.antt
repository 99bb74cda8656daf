-- The bindings of a `val`, those before the first `rec` and those from it on.
use Rattle.std.proofs.Common.{◌≡◌, Bool, true, false, List, [], ◌∷◌, map, refl, ap, append_assoc, if◌then◌else◌}
use Rattle.std.proofs.lemmas.Bool.{ne_eqb}
use Rattle.std.proofs.lemmas.List.{reverse-append, reverse-reverse}
use Rattle.sml_trees.specs.declared.exp.Rule.{Rule}
use Rattle.bare_forms.specs.declared.placed.CountedRule.{CountedRule}
use Rattle.bare_forms.specs.Expressions.{plain_rules, rule_of, rec_binds, rec_rules}

-- the rules that are left, once a `rec` has stood or not
abbrev pub plain_left : Bool → List CountedRule → List Rule
plain_left true binds = []
plain_left false binds = plain_rules binds

abbrev pub rec_left : Bool → List CountedRule → List Rule
rec_left true binds = map rule_of binds
rec_left false binds = rec_rules binds

pub plain-before : (bind : CountedRule) (binds : List CountedRule) → bind.recs ≡ 0
    → plain_rules (bind ∷ binds) ≡ bind.rule ∷ plain_rules binds
plain-before bind binds is = rw is refl

pub rec-before : (bind : CountedRule) (binds : List CountedRule) → bind.recs ≡ 0
    → rec_rules (bind ∷ binds) ≡ rec_rules binds
rec-before bind binds is = rw is refl

pub plain-rec : (bind : CountedRule) (binds : List CountedRule) → (bind.recs ≡ 0 → ⊥)
    → plain_rules (bind ∷ binds) ≡ []
plain-rec bind binds more =
    ap (λ b. if b then (bind.rule ∷ plain_rules binds) else []) (ne_eqb bind.recs 0 more)

pub rec-rec : (bind : CountedRule) (binds : List CountedRule) → (bind.recs ≡ 0 → ⊥)
    → rec_rules (bind ∷ binds) ≡ bind.rule ∷ map rule_of binds
rec-rec bind binds more =
    ap (λ b. map rule_of (if b then rec_binds binds else (bind ∷ binds))) (ne_eqb bind.recs 0 more)

-- the same by the flag
pub plain_left-begun : (begun : Bool) (binds : List CountedRule) → begun ≡ true → plain_left begun binds ≡ []
plain_left-begun begun binds is = ap (λ b. plain_left b binds) is

pub plain_left-none : (begun : Bool) (binds : List CountedRule) → begun ≡ false
    → plain_left begun binds ≡ plain_rules binds
plain_left-none begun binds is = ap (λ b. plain_left b binds) is

pub rec_left-begun : (begun : Bool) (binds : List CountedRule) → begun ≡ true
    → rec_left begun binds ≡ map rule_of binds
rec_left-begun begun binds is = ap (λ b. rec_left b binds) is

pub rec_left-none : (begun : Bool) (binds : List CountedRule) → begun ≡ false
    → rec_left begun binds ≡ rec_rules binds
rec_left-none begun binds is = ap (λ b. rec_left b binds) is

pub ruleset split_steps = (
  plain-before,
  rec-before,
  plain-rec,
  rec-rec,
  plain_left-begun,
  plain_left-none,
  rec_left-begun,
  rec_left-none,
  reverse-append,
  reverse-reverse,
  append_assoc,
)
