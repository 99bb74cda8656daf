-- A head that begins with a parenthesis: an infix head whose first pattern stands in parentheses is read as that
-- pattern and what stands behind it.
use Rattle.std.proofs.Common.{◌≡◌, ℕ, suc, ◌+◌, ◌-◌, ◌≤◌, ◌<◌, max, List, [], ◌∷◌, Option, None, Some, is_some, Bool, true, false, ◌||◌, ◌&&◌, ◌⊎◌, inl, inr, nat_lt, refl, sym, ap, ap₂, subst, ◌∙◌, arith}
use Rattle.std.proofs.lemmas.Bool.{lt-ltb, ltb-true}
use Rattle.grammars.specs.Grammar.{Grammar, Phrase, head_or, begins}
use Rattle.sml_lexer.specs.declared.lexeme.Lexeme.{Lexeme}
use Rattle.sml_trees.specs.declared.full_exp.FullHead.{FullHead}
use Rattle.sml_trees.specs.declared.full_exp.FullHead.TheVariants as form
use Rattle.sml_trees.specs.declared.full_pat.Fixity.{Fixity}
use Rattle.sml_trees.specs.declared.full_pat.FullPat.{FullPat}
use Rattle.sml_trees.specs.declared.full_pat.FullPat.TheVariants as p
use Rattle.sml_trees.specs.declared.name.At.{At}
use Rattle.sml_trees.specs.declared.name.Name.{Name}
use Rattle.core_types.specs.Types.{ty}
use Rattle.core_patterns.specs.Patterns.{starts_atpat, plain, operand_height, tuple_of, behind_first, inside_parens, start, with_operand, operator, goes_on, operand_joined, operand_behind, by_operator, run_step, run_on, whole_run, typed, constrained, alone, run_rest, run_from, behind_operand, pat_after, pat_level, pat}
use Rattle.core_patterns.specs.declared.operand.Operand.{Operand}
use Rattle.core_patterns.specs.declared.operand.Run.{Run}
use Rattle.infix_names.specs.Fixities.{Fixities, fixity_of, joining}
use Rattle.phrase_reading.specs.Names.{either}
use Rattle.phrase_reading.specs.Sized.{over}
use Rattle.sml_lexer.specs.Words.{same_word}
use Rattle.phrase_reading.specs.Words.{g, is, word, name_of, or_empty, at, named}
use Rattle.phrase_reading.specs.declared.tall.Tall.{Tall}
use Rattle.sml_lexer.specs.declared.words.Word.TheVariants as w
use Rattle.clause_heads.specs.Heads.{may_be_bare, operator_in, bare_operator, infix_head, infix_from, too_high, closed_head, pair_run, pair_arguments, pair_left, pair_head, behind_run, pair_pattern, pair_behind, pair_from, left_from, pair_of, parens_pattern, is_named, parens_behind, parens_from, parens_some}
use Rattle.clause_heads.specs.declared.heads.Wanted.{Wanted}
use Rattle.clause_heads.specs.declared.paren_head.Left.{Left}
use Rattle.clause_heads.specs.declared.paren_head.Pair.{Pair}
use Rattle.head_laws.proofs.Passing.{Keeps, keep_pure, keep_refuse, keep_then, keep_on, keep_none, Passes, pass_same, pass_bind, pass_known, pass_on}
use Rattle.head_laws.proofs.PatPassing.{LowOperand, plain_height, levels_pass}
use Rattle.head_laws.proofs.Limits.{operand_low}
use Rattle.head_laws.proofs.Algebra.{Took, Began, Same, same_itself, same_sym, same_trans, same_equal, same_bind, same_on, same_within, same_pure, same_three, same_choice, same_limit, same_refused, same_many, on_yes, same_yes, same_no, same_low, same_begun, same_token, if_taken_in, if_taken_of, if_taken_or, taken_in, taken_of, if_mark_in, if_mark_of, if_mark_or, either_in, either_of, never_refused, within_in, no_parts}
use Rattle.head_laws.proofs.Lexemes.{word_is, is_by, starts_by, operator_is, joins, word_joins, or_true}

-- ---- trees of infix heads

abbrev pub IsInfixTree : FullHead → Type 0
IsInfixTree (form.Infix left called right) = Unit {0}
IsInfixTree (form.Prefix called args) = ⊥
IsInfixTree (form.ParenInfix left called right args) = ⊥

abbrev pub Inf : Tall FullHead → Type 0
Inf made = IsInfixTree made.tree

-- .. of those in parentheses
abbrev pub IsParenTree : FullHead → Type 0
IsParenTree (form.Infix left called right) = ⊥
IsParenTree (form.Prefix called args) = ⊥
IsParenTree (form.ParenInfix left called right args) = Unit {0}

-- ---- a mark that closes

close_is : (c : Lexeme) → is w.Close c ≡ true → word c ≡ Some w.Close
close_is c closes = word_is w.Close c closes

close_comma : (c : Lexeme) → is w.Close c ≡ true → is w.Comma c ≡ false
unfolding same_word
close_comma c closes = is_by w.Comma c (Some w.Close) (close_is c closes)

close_colon : (c : Lexeme) → is w.Close c ≡ true → is w.Colon c ≡ false
unfolding same_word
close_colon c closes = is_by w.Colon c (Some w.Close) (close_is c closes)

no_and : (b : Bool) → ((b && false) || false) ≡ false
no_and true = refl
no_and false = refl

close_goes : (fs : Fixities) (run : Run) (c : Lexeme) → is w.Close c ≡ true → goes_on fs run c ≡ false
close_goes fs run c closes =
    ap₂ (λ (starts : Bool) (found : Option Fixity). (run.takes && starts) || is_some found)
    (starts_by fs c w.Close (close_is c closes)) (word_joins fs c w.Close run.ops (close_is c closes))
    ∙ no_and run.takes

operator_goes : (fs : Fixities) (place : At) (operand : Operand) (x : Lexeme) (text : List ℕ) (f : Fixity)
    → name_of x ≡ Some text → fixity_of fs text ≡ Some f → goes_on fs (start place operand) x ≡ true
operator_goes fs place operand x text f name here =
    ap (λ (found : Option Fixity). ((start place operand).takes && starts_atpat fs x) || is_some found)
    (joins fs x text f name here) ∙ or_true ((start place operand).takes && starts_atpat fs x)

-- ---- what the parts of a head are

-- behind the first pattern in parentheses: the rest, and the rest of an infix head
abbrev pub closed : ℕ → Fixities → Wanted → At → Tall FullPat → g (Tall FullHead)
closed k fs wanted place inner =
    Grammar.bind (behind_first (pat fs k) place inner) (λ left. infix_from (suc k) fs wanted left)

closed_is : (k : ℕ) (fs : Fixities) (wanted : Wanted) (place : At) (inner : Tall FullPat)
    → closed_head (suc k) fs wanted place inner ≡ closed k fs wanted place inner
unfolding closed_head
closed_is k fs wanted place inner = let same : suc k - 1 ≡ k = omega arith in rw same refl

module _ (n : ℕ) (fs : Fixities) (wanted : Wanted) where
  pub infix_tree : (left : Tall FullPat) (called : Name) → Keeps (infix_head n fs left called) Inf
  unfolding infix_head
  infix_tree left called = keep_then (λ right. keep_pure _ tt)

  pub from_tree : (left : Tall FullPat) → Keeps (infix_from n fs wanted left) Inf
  unfolding infix_from
  from_tree left = keep_then (λ called. infix_tree left called)

  pub closed_tree : (place : At) (inner : Tall FullPat) → Keeps (closed_head n fs wanted place inner) Inf
  unfolding closed_head
  closed_tree place inner = keep_then (λ left. from_tree left)

  arguments_tree : (pair : Pair) → Keeps (pair_arguments n fs wanted pair) (λ made. IsParenTree made.tree)
  unfolding pair_arguments
  arguments_tree pair = keep_then (λ args. keep_pure _ tt)

pub high_none : {A : Type 0} (fs : Fixities) (run : Run) (named : Bool) → Keeps (too_high {A = A} fs run named) (λ _. ⊥)
unfolding too_high
high_none fs run named = keep_on (λ _. keep_none) keep_refuse

not_both : {A : Type 0} (tree : FullHead) → IsInfixTree tree → IsParenTree tree → A
not_both (form.Infix left called right) inf paren = absurd paren
not_both (form.Prefix called args) inf paren = absurd inf
not_both (form.ParenInfix left called right args) inf paren = absurd inf

-- an operand that a part begins with
pub left_same : {A : Type 0} (n : ℕ) (fs : Fixities) (go : Left → g A)
    → Same (Grammar.bind (left_from n fs) go)
    (Grammar.on (starts_atpat fs) (λ y. Grammar.bind ((pat_level fs n).atpat y) (λ operand.
    go (record { first = at y; operand = operand }))) Grammar.refuse)
unfolding left_from
left_same n fs go =
    same_trans (same_three _ _ _) (same_trans (same_begun (starts_atpat fs) _)
    (same_on (λ y. same_trans (same_three _ _ _) (same_bind same_itself (λ operand. same_pure _ _))) same_itself))

-- two operands with a name between them
abbrev pub pair_with : Left → Name → Fixity → At → Operand → Pair
pair_with left called f place operand = record {
  first = left.first;
  left = left.operand;
  called = called;
  fixity = f;
  second = place;
  right = operand;
}

pub pair_same : (n : ℕ) (fs : Fixities) (wanted : Wanted) (place : At) (left : Left) (called : Name) (f : Fixity)
    → Same (pair_of n fs wanted place left called (Some f))
    (Grammar.on (starts_atpat fs) (λ y. Grammar.bind ((pat_level fs n).atpat y) (λ operand.
    pair_from n fs wanted place (pair_with left called f (at y) operand))) Grammar.refuse)
unfolding pair_of
pair_same n fs wanted place left called f = left_same n fs _

-- behind the first pattern: a comma, or the closing parenthesis and an infix name
closed_same : (k : ℕ) (fs : Fixities) (wanted : Wanted) (place : At) (inner : Tall FullPat)
    → Same (closed k fs wanted place inner)
    (Grammar.on (is w.Comma) (λ _. Grammar.bind (tuple_of (pat fs k) place inner) (λ left. infix_from
    (suc k) fs wanted left))
    (Grammar.on (is w.Close) (λ _. infix_from (suc k) fs wanted (over
    (λ pat. p.Paren pat place) inner)) Grammar.refuse))
unfolding behind_first
closed_same k fs wanted place inner =
    same_trans (same_choice _ _ _ _) (same_on (λ _. same_itself)
    (same_trans (same_three _ _ _) (same_trans (same_token w.Close _) (same_on (λ _. same_pure _ _) same_itself))))

-- something stands there
closed_some : {A : Type 0} (k : ℕ) (fs : Fixities) (wanted : Wanted) (place : At) (inner : Tall FullPat)
    (next : Option Lexeme) (made : Tall FullHead) → Phrase (closed k fs wanted place inner) [] next made → A
closed_some k fs wanted place inner next made h =
    let found = (closed_same k fs wanted place inner).to [] next made h in never_refused [] next made found.1.1

-- .. behind any part
part_some : {A B : Type 0} (first : g A) (k : ℕ) (fs : Fixities) (wanted : Wanted) (place : At) (wrap : A
    → Tall FullPat)
    (next : Option Lexeme) (made : Tall FullHead)
    → Phrase (Grammar.bind first (λ a. closed k fs wanted place (wrap a))) [] next made → B
part_some first k fs wanted place wrap next made (inl (a, ys, zs, split, q, r)) =
    closed_some k fs wanted place (wrap a) next made
    (subst (λ (l : List Lexeme). Phrase (closed k fs wanted place (wrap a)) l next made) (no_parts ys zs split) r)
part_some first k fs wanted place wrap next made (inr h) = absurd h

closing : (k : ℕ) (fs : Fixities) (wanted : Wanted) (place : At) (inner : Tall FullPat) (c : Lexeme) (xs : List Lexeme)
    (next : Option Lexeme) (made : Tall FullHead) → is w.Close c ≡ true
    → Phrase (infix_from (suc k) fs wanted (over (λ pat. p.Paren pat place) inner)) xs next made
    → Phrase (closed k fs wanted place inner) (c ∷ xs) next made
closing k fs wanted place inner c xs next made closes h =
    (closed_same k fs wanted place inner).back (c ∷ xs) next made (inr (close_comma c closes, inl (closes, h)))

closing_in : (k : ℕ) (fs : Fixities) (wanted : Wanted) (place : At) (inner : Tall FullPat) (c : Lexeme)
    (xs : List Lexeme)
    (next : Option Lexeme) (made : Tall FullHead) → is w.Close c ≡ true
    → Phrase (closed k fs wanted place inner) (c ∷ xs) next made
    → Phrase (infix_from (suc k) fs wanted (over (λ pat. p.Paren pat place) inner)) xs next made
closing_in k fs wanted place inner c xs next made closes h =
    on_yes (is w.Close) (λ _. infix_from (suc k) fs wanted (over
    (λ pat. p.Paren pat place) inner)) Grammar.refuse c xs next made
    closes (same_no (closed_same k fs wanted place inner) (c ∷ xs) next made (close_comma c closes) h)

module _ (j : ℕ) (fs : Fixities) where
  -- the rest of a run, with its constraints
  abbrev pub rest : At → Run → g (Tall FullPat)
  rest place run = run_rest fs (suc j) (ty j) (pat_level fs j) place run

  abbrev constraints : At → Run → g (Tall FullPat)
  constraints place run = typed (suc j) (ty j) place (whole_run place run)

  abbrev go_from : At → Run → Lexeme → g (Tall FullPat)
  go_from place run x = run_from fs (suc j) (ty j) (pat_level fs j) place run x

  rest_same : (place : At) (run : Run)
      → Same (rest place run) (Grammar.on (goes_on fs run) (go_from place run) (constraints place run))
  unfolding run_rest run_on
  rest_same place run =
      same_trans (same_bind (same_many (goes_on fs) (run_step fs (suc j) (pat_level fs j)) run) (λ all. same_itself))
      (same_trans (same_choice _ _ _ _) (same_on (λ x. same_three _ _ _) (same_pure _ _)))

  behind_is : (place : At) (run : Run)
      → behind_run fs (suc j) place run ≡ Grammar.on (goes_on fs run) (go_from place run) (constraints place run)
  unfolding behind_run
  behind_is place run = let same : suc j - 1 ≡ j = omega arith in rw same refl

  pub behind_same : (place : At) (run : Run) → Same (behind_run fs (suc j) place run) (rest place run)
  behind_same place run = same_trans (same_equal (behind_is place run)) (same_sym (rest_same place run))

  constraints_same : (place : At) (run : Run)
      → Same (constraints place run)
      (Grammar.on (is w.Colon) (λ x. Grammar.bind (constrained (suc j) (ty j) place (whole_run place run))
      (λ left. typed (suc j) (ty j) place left)) (Grammar.pure (whole_run place run)))
  unfolding typed
  constraints_same place run = same_many _ _ _

  -- a run that ends at the closing parenthesis
  module _ {A : Type 0} (place : At) (run : Run) (go : Tall FullPat → g A) (c : Lexeme) (xs : List Lexeme)
      (next : Option Lexeme) (a : A) (closes : is w.Close c ≡ true) where
    pub run_ends : Phrase (Grammar.bind (rest place run) go) (c ∷ xs) next a
        → Phrase (go (whole_run place run)) (c ∷ xs) next a
    run_ends h =
        let behind = same_no (same_trans (same_bind (rest_same place run) (λ all. same_itself {grammar = go all}))
        (same_choice (goes_on fs run) (go_from place run) (constraints place run) go)) (c ∷ xs) next a
        (close_goes fs run c closes) h in
        let ends = same_no (same_trans (same_bind (constraints_same place run) (λ all. same_itself {grammar = go all}))
        (same_choice (is w.Colon) _ _ go)) (c ∷ xs) next a (close_colon c closes) behind in
        (same_pure (whole_run place run) go).to (c ∷ xs) next a ends

    pub run_ended : Phrase (go (whole_run place run)) (c ∷ xs) next a
        → Phrase (Grammar.bind (rest place run) go) (c ∷ xs) next a
    run_ended h =
        (same_trans (same_bind (rest_same place run) (λ all. same_itself {grammar = go all}))
        (same_choice (goes_on fs run) (go_from place run) (constraints place run) go)).back (c ∷ xs) next a
        (inr (
          close_goes fs run c closes,
          (same_trans (same_bind (constraints_same place run) (λ all. same_itself {grammar = go all}))
              (same_choice (is w.Colon) _ _ go)).back (c ∷ xs) next a
              (inr (close_colon c closes, (same_pure (whole_run place run) go).back (c ∷ xs) next a h)),
        ))

  -- a run of one operand that goes on with an infix name
  module _ (place : At) (operand : Operand) (z : Lexeme) (text : List ℕ) (f : Fixity) (name : name_of z ≡ Some text)
      (here : fixity_of fs text ≡ Some f) where
    step_is : by_operator fs (pat_level fs j) (start place operand) z (joining (operator fs z) [])
        ≡ operand_behind fs (pat_level fs j) (start place operand) (named z text) f
    step_is =
        ap (λ (found : Option Fixity). by_operator fs (pat_level fs j) (start place operand) z found)
        (joins fs z text f name here)
        ∙ ap (λ (name : Option (List ℕ)). operand_behind fs (pat_level fs j) (start place operand) (named z
        (or_empty name)) f)
        name

    pub run_same : {A : Type 0} (go : Tall FullPat → g A)
        → Same (Grammar.bind (go_from place (start place operand) z) go)
        (Grammar.within (nat_lt (plain place operand).height (suc j))
        (Grammar.on (starts_atpat fs) (λ y. Grammar.bind ((pat_level fs j).atpat y) (λ right.
        Grammar.bind (rest place (with_operand (start place operand) (named z text) f
        (at y) right)) go)) Grammar.refuse))
    unfolding operand_behind operand_joined
    run_same go =
        same_trans (same_three _ _ _) (same_trans (same_limit _ _ _) (same_within
        (same_trans (same_bind (same_equal step_is) (λ run. same_itself))
        (same_trans (same_choice _ _ _ _)
        (same_on (λ y. same_trans (same_three _ _ _) (same_bind same_itself (λ right. same_pure _ _)))
        (same_refused _))))))

-- ---- two patterns with an infix name between them, in parentheses

-- behind the closing parenthesis: an infix name, before which all that is a pattern, or further arguments
abbrev pub PairClosed : ℕ → Fixities → Wanted → At → Pair → Option Lexeme → Tall FullHead → List Lexeme → Type 0
PairClosed n fs wanted place pair next made rest =
    Took (bare_operator fs wanted) rest (λ x text rest. (nat_lt ((pair_run pair).height + 1) n ≡ true)
    × Phrase (infix_head n fs (over (λ pat. p.Paren pat place) (whole_run pair.first (pair_run pair)))
    (named x text)) rest
    next made)
    ⊎ Phrase (pair_arguments n fs wanted pair) rest next made

-- .. or more of a pattern
abbrev pub PairGoesOn : ℕ → Fixities → Wanted → At → Pair → Option Lexeme → Tall FullHead → List Lexeme → Type 0
PairGoesOn n fs wanted place pair next made xs =
    (nat_lt ((pair_run pair).height + 1) n ≡ true) × Phrase (pair_pattern n fs wanted place pair) xs next made

pub pair_cases : (n : ℕ) (fs : Fixities) (wanted : Wanted) (place : At) (pair : Pair) (xs : List Lexeme)
    (next : Option Lexeme) (made : Tall FullHead) → Phrase (pair_from n fs wanted place pair) xs next made
    → Began (is w.Close) xs (λ _ rest. PairClosed n fs wanted place pair next made rest)
    ⊎ PairGoesOn n fs wanted place pair next made xs
unfolding pair_from pair_head pair_left pair_behind
pair_cases n fs wanted place pair xs next made h =
    elim (if_mark_in w.Close (pair_head n fs wanted place pair)
    (either (may_be_bare fs wanted) (pair_behind n fs wanted place pair) Grammar.refuse) xs next made h) [
      | inl c ↦ inl (record {
        first = c.first;
        rest = c.rest;
        written = c.written;
        is = c.is;
        then_so = elim (if_taken_in (bare_operator fs wanted) named (pair_left n fs place pair)
            (pair_arguments n fs wanted pair) c.rest next made c.then_so) [
              | inl t ↦ inl (record {
                first = t.first;
                found = t.found;
                rest = t.rest;
                written = t.written;
                is = t.is;
                then_so = within_in (nat_lt ((pair_run pair).height + 1) n)
                    (infix_head n fs (over (λ pat. p.Paren pat place) (whole_run pair.first (pair_run pair)))
                    (named t.first t.found)) t.rest next made t.then_so;
              })
              | inr o ↦ inr o.1
            ];
      })
      | inr o ↦ elim (either_in (may_be_bare fs wanted)
          (pair_behind n fs wanted place pair) Grammar.refuse xs next made o.1) [
            | inl b ↦ elim (either_in (nat_lt ((pair_run pair).height + 1) n) (pair_pattern n fs wanted place pair)
                (too_high fs (pair_run pair) false) xs next made b.1) [
                  | inl r ↦ inr r
                  | inr r ↦ absurd ((high_none fs (pair_run pair) false).gives xs next made r.1)
                ]
            | inr r ↦ never_refused xs next made r.1
          ]
    ]

pub pair_room : (n : ℕ) (fs : Fixities) (wanted : Wanted) (place : At) (pair : Pair) (xs : List Lexeme)
    (next : Option Lexeme) (made : Tall FullHead) → Inf made → Phrase (pair_from n fs wanted place pair) xs next made
    → nat_lt ((pair_run pair).height + 1) n ≡ true
pair_room n fs wanted place pair xs next made inf h =
    elim (pair_cases n fs wanted place pair xs next made h) [
      | inl c ↦ elim c.then_so [
        | inl t ↦ t.then_so.0
        | inr o ↦ not_both made.tree inf ((arguments_tree n fs wanted pair).gives c.rest next made o)
      ]
      | inr o ↦ o.0
    ]

-- an infix head behind its first pattern
pub from_of : (n : ℕ) (fs : Fixities) (wanted : Wanted) (left : Tall FullPat) (x : Lexeme) (text : List ℕ)
    (xs : List Lexeme) (next : Option Lexeme) (made : Tall FullHead) → bare_operator fs wanted x ≡ Some text
    → Phrase (infix_head n fs left (named x text)) xs next made
    → Phrase (infix_from n fs wanted left) (x ∷ xs) next made
unfolding infix_from
from_of n fs wanted left x text xs next made is h =
    taken_of (bare_operator fs wanted) named (infix_head n fs left) Grammar.refuse x text xs next made is h

pub from_in : (n : ℕ) (fs : Fixities) (wanted : Wanted) (left : Tall FullPat) (xs : List Lexeme) (next : Option Lexeme)
    (made : Tall FullHead) → Phrase (infix_from n fs wanted left) xs next made
    → Took (bare_operator fs wanted) xs (λ x text rest. Phrase (infix_head n fs left (named x text)) rest next made)
unfolding infix_from
from_in n fs wanted left xs next made h =
    taken_in (bare_operator fs wanted) named (infix_head n fs left) Grammar.refuse xs next made h

module _ (j : ℕ) (fs : Fixities) (wanted : Wanted) (place : At) where
  pattern_is : (pair : Pair)
      → pair_pattern (suc (suc j)) fs wanted place pair
      ≡ Grammar.bind (behind_run fs (suc j) pair.first (pair_run pair)) (λ inner. closed (suc j) fs wanted place inner)
  unfolding pair_pattern closed_head
  pattern_is pair = let same : suc (suc j) - 1 ≡ suc j = omega arith in rw same refl

  pattern_same : (pair : Pair)
      → Same (pair_pattern (suc (suc j)) fs wanted place pair)
      (Grammar.bind (rest j fs pair.first (pair_run pair)) (λ inner. closed (suc j) fs wanted place inner))
  pattern_same pair =
      same_trans (same_equal (pattern_is pair)) (same_bind (behind_same j fs pair.first (pair_run pair))
      (λ inner. same_itself))

  -- such a beginning is that of a run
  pub pair_in : (pair : Pair)
      → Passes (pair_from (suc (suc j)) fs wanted place pair)
      (Grammar.bind (rest j fs pair.first (pair_run pair)) (λ inner. closed (suc j) fs wanted place inner)) Inf
  pair_in pair = record {
    pass = λ xs next made inf h. elim (pair_cases (suc (suc j)) fs wanted place pair xs next made h) [
      | inl c ↦ elim c.then_so [
        | inl t ↦ subst (λ (l : List Lexeme). Phrase (Grammar.bind (rest j fs pair.first (pair_run pair))
            (λ inner. closed (suc j) fs wanted place inner)) l next made) (sym c.written)
            (run_ended j fs pair.first (pair_run pair) (λ inner. closed
            (suc j) fs wanted place inner) c.first c.rest next
            made c.is
            (closing (suc j) fs wanted place (whole_run pair.first (pair_run pair)) c.first c.rest next made c.is
            (subst (λ (l : List Lexeme). Phrase (infix_from (suc (suc j)) fs wanted
            (over (λ pat. p.Paren pat place) (whole_run pair.first (pair_run pair)))) l next made) (sym t.written)
            (from_of (suc (suc j)) fs wanted _ t.first t.found t.rest next made t.is t.then_so.1))))
        | inr o ↦ not_both made.tree inf ((arguments_tree (suc (suc j)) fs wanted pair).gives c.rest next made o)
      ]
      | inr o ↦ (pattern_same pair).to xs next made o.1
    ];
  }

  -- .. and the other way round
  pub pair_of_run : (pair : Pair) → may_be_bare fs wanted ≡ true → nat_lt ((pair_run pair).height + 1) (suc
      (suc j)) ≡ true
      → Passes (Grammar.bind (rest j fs pair.first (pair_run pair)) (λ inner. closed (suc j) fs wanted place inner))
      (pair_from (suc (suc j)) fs wanted place pair) (λ _. Unit {0})
  unfolding pair_from pair_head pair_left pair_behind
  pair_of_run pair bare room = record {
    pass = λ xs next made _ h. by_mark xs next made (begins (is w.Close)
        (head_or xs next)) refl h;
  }
    where
      by_mark : (xs : List Lexeme) (next : Option Lexeme) (made : Tall FullHead) (b : Bool)
          → begins (is w.Close) (head_or xs next) ≡ b
          → Phrase (Grammar.bind (rest j fs pair.first (pair_run pair)) (λ inner. closed
          (suc j) fs wanted place inner)) xs next made
          → Phrase (pair_from (suc (suc j)) fs wanted place pair) xs next made
      by_mark xs next made false stop h =
          if_mark_or w.Close (pair_head (suc (suc j)) fs wanted place pair)
          (either (may_be_bare fs wanted) (pair_behind (suc
          (suc j)) fs wanted place pair) Grammar.refuse) xs next made stop
          (either_of (may_be_bare fs wanted) (pair_behind (suc
          (suc j)) fs wanted place pair) Grammar.refuse xs next made bare
          (either_of (nat_lt ((pair_run pair).height + 1) (suc (suc j))) (pair_pattern (suc
          (suc j)) fs wanted place pair)
          (too_high fs (pair_run pair) false) xs next made room ((pattern_same pair).back xs next made h)))
      by_mark [] next made true closes h =
          part_some (rest j fs pair.first (pair_run pair)) (suc j) fs wanted place (λ inner. inner) next made h
      by_mark (c ∷ xs) next made true closes h =
          let behind = closing_in (suc j) fs wanted place (whole_run pair.first (pair_run pair)) c xs next made closes
          (run_ends j fs pair.first (pair_run pair) (λ inner. closed
          (suc j) fs wanted place inner) c xs next made closes h) in
          let t = from_in (suc (suc j)) fs wanted (over (λ pat. p.Paren pat place) (whole_run pair.first
          (pair_run pair)))
          xs next made behind in
          if_mark_of w.Close (pair_head (suc (suc j)) fs wanted place pair)
          (either (may_be_bare fs wanted) (pair_behind (suc
          (suc j)) fs wanted place pair) Grammar.refuse) c xs next made closes
          (subst (λ (l : List Lexeme). Phrase (pair_head (suc (suc j)) fs wanted place pair) l next made)
          (sym t.written)
          (if_taken_of (bare_operator fs wanted) named (pair_left (suc (suc j)) fs place pair)
          (pair_arguments (suc (suc j)) fs wanted pair) t.first t.found t.rest next made t.is (inl (room, t.then_so))))

-- ---- a pattern in parentheses

-- behind the first operand: an infix name of which the clause may be, and another operand
abbrev pub Paired : ℕ → Fixities → Wanted → At → Left → Option Lexeme → Tall FullHead → List Lexeme → Type 0
Paired n fs wanted place left next made xs =
    Took (operator_in fs wanted) xs (λ x text rest. (f : Fixity) × (name_of x ≡ Some text) ×
    (fixity_of fs text ≡ Some f)
    × Phrase (Grammar.on (starts_atpat fs) (λ y. Grammar.bind ((pat_level fs n).atpat y) (λ operand.
    pair_from n fs wanted place (pair_with left (named x text) f (at y) operand))) Grammar.refuse) rest next made)

-- .. or more of a pattern
abbrev pub ParensGoOn : ℕ → Fixities → Wanted → At → Left → Option Lexeme → Tall FullHead → List Lexeme → Type 0
ParensGoOn n fs wanted place left next made xs =
    (nat_lt (max (operand_height left.operand) 1) n ≡ true) × Phrase
    (parens_pattern n fs wanted place left) xs next made

pub parens_cases : (n : ℕ) (fs : Fixities) (wanted : Wanted) (place : At) (left : Left) (xs : List Lexeme)
    (next : Option Lexeme) (made : Tall FullHead) → Phrase (parens_from n fs wanted place left) xs next made
    → Paired n fs wanted place left next made xs ⊎ ParensGoOn n fs wanted place left next made xs
unfolding parens_from parens_behind
parens_cases n fs wanted place left xs next made h =
    elim (if_taken_in (operator_in fs wanted) named
    (λ called. pair_of n fs wanted place left called (fixity_of fs called.text))
    (either (may_be_bare fs wanted) (parens_behind n fs wanted place left) Grammar.refuse) xs next made h) [
      | inl t ↦ (
          let it = operator_is fs wanted t.first t.found t.is in
          inl (record {
            first = t.first;
            found = t.found;
            rest = t.rest;
            written = t.written;
            is = t.is;
            then_so = (
              it.fixity,
              it.name,
              it.is,
              (pair_same n fs wanted place left (named t.first t.found) it.fixity).to t.rest next made
                  (subst (λ (found : Option Fixity). Phrase (pair_of n fs wanted place left
                  (named t.first t.found) found)
                  t.rest next made) it.is t.then_so),
            );
          })
          )
      | inr o ↦ elim (either_in (may_be_bare fs wanted)
          (parens_behind n fs wanted place left) Grammar.refuse xs next made o.1) [
            | inl b ↦ elim (either_in (nat_lt (max (operand_height left.operand) 1) n)
                (parens_pattern n fs wanted place left)
                (too_high fs (start left.first left.operand) (is_named left.operand)) xs next made b.1) [
                  | inl r ↦ inr r
                  | inr r ↦ absurd ((high_none fs (start left.first left.operand)
                      (is_named left.operand)).gives xs next made r.1)
                ]
            | inr r ↦ never_refused xs next made r.1
          ]
    ]

-- the levels of the first of two operands, and of the second
left_low : (n : ℕ) (left : Left) (called : Name) (f : Fixity) (place : At) (operand : Operand)
    → nat_lt ((pair_run (pair_with left called f place operand)).height + 1) (suc n) ≡ true
    → (operand_height left.operand < n) × (operand_height operand < n)
left_low n left called f place operand room =
    let low = ltb-true ((pair_run (pair_with left called f place operand)).height + 1) (suc n) room in
    let one = plain_height left.first left.operand in
    let other = plain_height place operand in
    ((omega arith), (omega arith))

-- an operand before an infix name of a whole infix head has levels left
paired_low : (n : ℕ) (fs : Fixities) (wanted : Wanted) (place : At) (left : Left) (called : Name) (f : Fixity)
    → Keeps (Grammar.on (starts_atpat fs) (λ y. Grammar.bind ((pat_level fs (suc n)).atpat y) (λ operand.
    pair_from (suc n) fs wanted place (pair_with left called f (at y) operand))) Grammar.refuse)
    (λ made. Inf made → operand_height left.operand < n)
paired_low n fs wanted place left called f =
    keep_on (λ y. keep_then (λ operand. record {
      gives = λ xs next made h inf. (left_low n left called f (at y) operand
          (pair_room (suc n) fs wanted place (pair_with left called f (at y) operand) xs next made inf h)).0;
    })) keep_refuse

pub parens_low : (n : ℕ) (fs : Fixities) (wanted : Wanted) (place : At) (left : Left)
    → Keeps (parens_from (suc n) fs wanted place left) (λ made. Inf made → (operand_height left.operand ≤ n) × (1 ≤ n))
parens_low n fs wanted place left = record {
  gives = λ xs next made h inf. elim (parens_cases (suc n) fs wanted place left xs next made h) [
    | inl t ↦ (
        let low : operand_height left.operand < n =
        (paired_low n fs wanted place left
        (named t.first t.found) t.then_so.0).gives t.rest next made t.then_so.3 inf in
        ((omega arith), (omega arith))
        )
    | inr o ↦ (
        let low = ltb-true (max (operand_height left.operand) 1) (suc n) o.0 in ((omega arith), (omega arith))
        )
  ];
}

module _ (j : ℕ) (fs : Fixities) (wanted : Wanted) (place : At) where
  -- behind the first operand of a pattern in parentheses: the rest of the pattern, and of an infix head
  abbrev pub opened : At → Operand → g (Tall FullHead)
  opened first operand =
      Grammar.bind (behind_operand fs (suc j) (ty j) (pat_level fs j) first operand)
      (λ inner. closed (suc j) fs wanted place inner)

  parens_pattern_is : (left : Left)
      → parens_pattern (suc (suc j)) fs wanted place left ≡ opened left.first left.operand
  unfolding parens_pattern closed_head
  parens_pattern_is left =
      let same : suc (suc j) - 1 ≡ suc j = omega arith in
      let below : suc j - 1 ≡ j = omega arith in
      rw same (rw below refl)

  opened_same : (first : At) (operand : Operand)
      → Same (opened first operand)
      (Grammar.on (goes_on fs (start first operand))
      (λ x. Grammar.bind (go_from j fs first (start first operand) x) (λ inner. closed (suc j) fs wanted place inner))
      (Grammar.bind (alone (suc j) (ty j) (pat_level fs j) first operand) (λ inner. closed
      (suc j) fs wanted place inner)))
  unfolding behind_operand
  opened_same first operand = same_choice _ _ _ _

  -- the second operand of a run that begins with two
  abbrev second_in : Left → Name → Fixity → g (Tall FullHead)
  second_in left called f =
      Grammar.on (starts_atpat fs) (λ y. Grammar.bind ((pat_level fs j).atpat y) (λ operand.
      Grammar.bind (rest j fs left.first (pair_run (pair_with left called f (at y) operand)))
      (λ inner. closed (suc j) fs wanted place inner))) Grammar.refuse

  abbrev second_of : Left → Name → Fixity → g (Tall FullHead)
  second_of left called f =
      Grammar.on (starts_atpat fs) (λ y. Grammar.bind ((pat_level fs (suc (suc j))).atpat y) (λ operand.
      pair_from (suc (suc j)) fs wanted place (pair_with left called f (at y) operand))) Grammar.refuse

  second_passes : (left : Left) (called : Name) (f : Fixity) → Passes (second_of left called f)
      (second_in left called f) Inf
  second_passes left called f =
      pass_on (λ y. pass_bind ((levels_pass fs (suc (suc j)) j).atpat y)
      (λ operand. pair_in j fs wanted place (pair_with left called f (at y) operand))
      (λ operand. record {
        gives = λ xs next made h inf. low operand (at y)
            (pair_room (suc (suc j)) fs wanted place (pair_with left called f (at y) operand) xs next made inf h);
      })) pass_same
    where
      low : (operand : Operand) (second : At)
          → nat_lt ((pair_run (pair_with left called f second operand)).height + 1) (suc (suc j)) ≡ true
          → LowOperand (suc (suc j)) j operand
      low operand second room =
          let below = (left_low (suc j) left called f second operand room).1 in inr (omega arith)

  second_passes_back : (left : Left) (called : Name) (f : Fixity) → may_be_bare fs wanted ≡ true
      → operand_height left.operand ≤ j → Passes (second_in left called f) (second_of left called f) (λ _. Unit {0})
  second_passes_back left called f bare high =
      pass_on (λ y. pass_known (operand_low fs j y) ((levels_pass fs j (suc (suc j))).atpat y)
      (λ operand low. pair_of_run j fs wanted place (pair_with left called f (at y) operand) bare (room operand
      (at y) low))
      (λ operand low. record { gives = λ xs next made h _. inl (omega arith) })) pass_same
    where
      room : (operand : Operand) (second : At) → operand_height operand ≤ j
          → nat_lt ((pair_run (pair_with left called f second operand)).height + 1) (suc (suc j)) ≡ true
      room operand second low =
          let one = plain_height left.first left.operand in
          let other = plain_height second operand in
          lt-ltb ((pair_run (pair_with left called f second operand)).height + 1) (suc (suc j)) (omega arith)

  pub opened_in : (left : Left)
      → Passes (parens_from (suc (suc j)) fs wanted place left) (opened left.first left.operand) Inf
  opened_in left = record {
    pass = λ xs next made inf h. elim (parens_cases (suc (suc j)) fs wanted place left xs next made h) [
      | inl t ↦ subst (λ (l : List Lexeme). Phrase (opened left.first left.operand) l next made) (sym t.written)
          ((opened_same left.first left.operand).back (t.first ∷ t.rest) next made
          (inl (
            operator_goes fs left.first left.operand t.first t.found t.then_so.0 t.then_so.1 t.then_so.2,
            (run_same j fs left.first left.operand t.first t.found t.then_so.0 t.then_so.1 t.then_so.2
                (λ inner. closed (suc j) fs wanted place inner)).back t.rest next made
                (inl (
                  left_room t.first t.found t.then_so.0 t.rest next made inf t.then_so.3,
                  (second_passes left (named t.first t.found) t.then_so.0).pass t.rest next made inf t.then_so.3,
                )),
          )))
      | inr o ↦ (same_equal (parens_pattern_is left)).to xs next made o.1
    ];
  }
    where
      left_room : (x : Lexeme) (text : List ℕ) (f : Fixity) (xs : List Lexeme) (next : Option Lexeme)
          (made : Tall FullHead)
          → Inf made → Phrase (second_of left (named x text) f) xs next made
          → nat_lt (plain left.first left.operand).height (suc j) ≡ true
      left_room x text f xs next made inf h =
          let low = (paired_low (suc j) fs wanted place left (named x text) f).gives xs next made h inf in
          let same = plain_height left.first left.operand in
          lt-ltb (plain left.first left.operand).height (suc j) (omega arith)

  pub opened_of : (left : Left) → may_be_bare fs wanted ≡ true → operand_height left.operand ≤ suc j
      → Passes (opened left.first left.operand) (parens_from (suc (suc j)) fs wanted place left) (λ _. Unit {0})
  unfolding parens_from parens_behind pair_of
  opened_of left bare high = record {
    pass = λ xs next made _ h. by_name xs next made (begins (λ x. is_some (operator_in fs wanted x))
        (head_or xs next)) refl h;
  }
    where
      room : nat_lt (max (operand_height left.operand) 1) (suc (suc j)) ≡ true
      room = lt-ltb (max (operand_height left.operand) 1) (suc (suc j)) (omega arith)

      paired : (z : Lexeme) (xs : List Lexeme) (next : Option Lexeme) (made : Tall FullHead) (found : Option (List ℕ))
          → operator_in fs wanted z ≡ found → is_some found ≡ true → Phrase (opened left.first left.operand)
          (z ∷ xs) next made
          → Phrase (parens_from (suc (suc j)) fs wanted place left) (z ∷ xs) next made
      paired z xs next made None is some h = absurd (cc)
      paired z xs next made (Some text) is some h =
          let it = operator_is fs wanted z text is in
          let goes = operator_goes fs left.first left.operand z text it.fixity it.name it.is in
          let parts = same_low (run_same j fs left.first left.operand z text it.fixity it.name it.is
          (λ inner. closed (suc j) fs wanted place inner)) xs next made
          (same_yes (opened_same left.first left.operand) z xs next made goes h) in
          if_taken_of (operator_in fs wanted) named
          (λ called. pair_of (suc (suc j)) fs wanted place left called (fixity_of fs called.text))
          (either (may_be_bare fs wanted) (parens_behind (suc
          (suc j)) fs wanted place left) Grammar.refuse) z text xs next made is
          (subst (λ (found : Option Fixity). Phrase (pair_of (suc (suc j)) fs wanted place left
          (named z text) found) xs next made)
          (sym it.is)
          ((pair_same (suc (suc j)) fs wanted place left (named z text) it.fixity).back xs next made
          ((second_passes_back left (named z text) it.fixity bare (below parts.0)).pass xs next made tt parts.1)))
        where
          below : nat_lt (plain left.first left.operand).height (suc j) ≡ true → operand_height left.operand ≤ j
          below h =
              let low = ltb-true (plain left.first left.operand).height (suc j) h in
              let same = plain_height left.first left.operand in omega arith

      by_name : (xs : List Lexeme) (next : Option Lexeme) (made : Tall FullHead) (b : Bool)
          → begins (λ x. is_some (operator_in fs wanted x)) (head_or xs next) ≡ b
          → Phrase (opened left.first left.operand) xs next made
          → Phrase (parens_from (suc (suc j)) fs wanted place left) xs next made
      by_name xs next made false stop h =
          if_taken_or (operator_in fs wanted) named
          (λ called. pair_of (suc (suc j)) fs wanted place left called (fixity_of fs called.text))
          (either (may_be_bare fs wanted) (parens_behind (suc
          (suc j)) fs wanted place left) Grammar.refuse) xs next made stop
          (either_of (may_be_bare fs wanted) (parens_behind (suc
          (suc j)) fs wanted place left) Grammar.refuse xs next made bare
          (either_of (nat_lt (max (operand_height left.operand) 1) (suc (suc j)))
          (parens_pattern (suc (suc j)) fs wanted place left)
          (too_high fs (start left.first left.operand) (is_named left.operand)) xs next made room
          ((same_equal (parens_pattern_is left)).back xs next made h)))
      by_name [] next made true is h =
          part_some (behind_operand fs (suc j) (ty j) (pat_level fs j) left.first left.operand) (suc j) fs wanted place
          (λ inner. inner) next made h
      by_name (z ∷ xs) next made true is h = paired z xs next made (operator_in fs wanted z) refl is h

  -- the whole pattern, from its first operand on
  abbrev inside : g (Tall FullHead)
  inside = Grammar.bind (inside_parens (pat fs (suc j)) place) (λ left. infix_from (suc (suc j)) fs wanted left)

  abbrev some_in : g (Tall FullHead)
  some_in =
      Grammar.on (starts_atpat fs) (λ y. Grammar.bind ((pat_level fs (suc j)).atpat y) (λ operand. opened
      (at y) operand))
      Grammar.refuse

  inside_same : Same inside some_in
  unfolding inside_parens pat_level pat_after
  inside_same =
      same_trans (same_three _ _ _) (same_trans (same_choice _ _ _ _)
      (same_on (λ y. same_three _ _ _) (same_refused _)))

  some_same : Same (parens_some (suc (suc j)) fs wanted place)
      (Grammar.on (starts_atpat fs) (λ y. Grammar.bind ((pat_level fs (suc (suc j))).atpat y) (λ operand.
      parens_from (suc (suc j)) fs wanted place (record { first = at y; operand = operand }))) Grammar.refuse)
  unfolding parens_some
  some_same = left_same (suc (suc j)) fs _

  pub inside_in : Passes (parens_some (suc (suc j)) fs wanted place) inside Inf
  inside_in = record {
    pass = λ xs next made inf h. inside_same.back xs next made (some_passes.pass xs next made inf
        (some_same.to xs next made h));
  }
    where
      some_passes : Passes (Grammar.on (starts_atpat fs) (λ y. Grammar.bind ((pat_level fs (suc (suc j))).atpat y)
          (λ operand.
          parens_from (suc (suc j)) fs wanted place
          (record { first = at y; operand = operand }))) Grammar.refuse) some_in Inf
      some_passes =
          pass_on (λ y. pass_bind ((levels_pass fs (suc (suc j)) (suc j)).atpat y)
          (λ operand. opened_in (record { first = at y; operand = operand }))
          (λ operand. record {
            gives = λ xs next made h inf.
                inr (((parens_low (suc j) fs wanted place
                (record { first = at y; operand = operand })).gives xs next made h inf).0);
          })) pass_same

  pub inside_of : may_be_bare fs wanted ≡ true → Passes inside (parens_some (suc (suc j)) fs wanted place)
      (λ _. Unit {0})
  inside_of bare = record {
    pass = λ xs next made _ h. some_same.back xs next made (some_passes.pass xs next made tt
        (inside_same.to xs next made h));
  }
    where
      some_passes : Passes some_in (Grammar.on (starts_atpat fs) (λ y. Grammar.bind ((pat_level fs (suc
          (suc j))).atpat y) (λ operand.
          parens_from (suc (suc j)) fs wanted place (record { first = at y; operand = operand }))) Grammar.refuse)
          (λ _. Unit {0})
      some_passes =
          pass_on (λ y. pass_known (operand_low fs (suc j) y) ((levels_pass fs (suc j) (suc (suc j))).atpat y)
          (λ operand low. opened_of (record { first = at y; operand = operand }) bare low)
          (λ operand low. record { gives = λ xs next made h _. inl (omega arith) })) pass_same
