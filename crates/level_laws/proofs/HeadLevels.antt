-- The height of each head of a clause is that of its patterns, and within the limit.
use Rattle.std.proofs.Common.{◌≡◌, ℕ, zero, suc, ◌+◌, ◌-◌, ◌<◌, ◌≤◌, max, length, List, Option, None, Some, Bool, true, false, nat_lt, refl, sym, ap, ap₂, ◌∙◌, arith, rules, add-one}
use Rattle.sml_lexer.specs.declared.lexeme.Lexeme.{Lexeme}
use Rattle.sml_lexer.specs.declared.lexeme.LexemeKind.{LexemeKind}
use Rattle.sml_lexer.specs.declared.lexeme.LexemeKind.TheVariants as k
use Rattle.sml_trees.specs.declared.full_exp.FullHead.{FullHead}
use Rattle.sml_trees.specs.declared.full_pat.Fixity.{Fixity}
use Rattle.sml_trees.specs.declared.full_pat.FullPat.{FullPat}
use Rattle.sml_trees.specs.declared.full_pat.FullPat.TheVariants as p
use Rattle.sml_trees.specs.declared.full_ty.OpName.{OpName}
use Rattle.sml_trees.specs.declared.name.At.{At}
use Rattle.sml_trees.specs.declared.name.LongName.{LongName}
use Rattle.sml_trees.specs.declared.name.Name.{Name}
use Rattle.core_patterns.specs.Patterns.{operand_height, start, whole_run, behind_operand, pat_level, pat}
use Rattle.core_patterns.specs.declared.operand.Operand.{Operand}
use Rattle.core_patterns.specs.declared.operand.Operand.TheVariants as o
use Rattle.core_patterns.specs.declared.operand.Run.{Run}
use Rattle.core_types.specs.Types.{ty}
use Rattle.infix_names.specs.Fixities.{Fixities, fixity_of}
use Rattle.phrase_reading.specs.Sized.{over}
use Rattle.phrase_reading.specs.Words.{at, named, long_named}
use Rattle.sml_lexer.specs.Words.{word_of}
use Rattle.phrase_reading.specs.declared.tall.Tall.{Tall}
use Rattle.sml_lexer.specs.declared.words.Word.{Word}
use Rattle.sml_lexer.specs.declared.words.Word.TheVariants as w
use Rattle.clause_heads.specs.Heads.{may_end, may_be_bare, prefix_name, atom, argument, infix_head, infix_from, atom_head, arguments_from, arguments, prefix_head, long_pat, long_head, short_head, named_head_by, op_head, too_high, closed_head, pair_run, pair_arguments, pair_left, pair_head, behind_run, pair_pattern, pair_behind, pair_from, left_from, pair_of, parens_pattern, is_named, parens_behind, parens_from, parens_some, unit_head, parens_head, head_word, head_kind, head_after}
use Rattle.clause_heads.specs.declared.heads.Wanted.{Wanted}
use Rattle.clause_heads.specs.declared.paren_head.Left.{Left}
use Rattle.clause_heads.specs.declared.paren_head.Pair.{Pair}
use Rattle.level_laws.specs.Levels.{all_levels, pat_levels, head_levels}
use Rattle.level_laws.specs.Promises.{IsMeasured}
use Rattle.level_laws.proofs.Keeping.{Keeps, keep_pure, keep_refuse, keep_bind, keep_then, keep_on, keep_within, keep_many, keep_none, keep_if_taken, keep_if_mark, keep_either, more_is, none_is, two_is}
use Rattle.level_laws.proofs.PatForms.{pat-Long, pat-Unit, pat-Paren, pat-Run}
use Rattle.level_laws.proofs.TyLevels.{ty_keeps}
use Rattle.level_laws.proofs.PatLevels.{Pat, IsOperand, IsRun, start_is, operand_is, whole_is, raised_run, step_keeps, rest_keeps, typed_keeps, behind_keeps, first_keeps, levels_keep, pat_keeps, operand_keeps}

-- a head of at most so many levels
abbrev pub Head : ℕ → Tall FullHead → Type 0
Head most = IsMeasured head_levels most

-- several patterns
abbrev Pats : ℕ → Tall (List FullPat) → Type 0
Pats most = IsMeasured (all_levels pat_levels) most

some_level : {n : ℕ} → nat_lt 0 n ≡ true → 1 ≤ n
some_level {n} room = let low : 0 < n = search rules in omega arith

-- an operand is as high wherever it stands
lower_operand : {n : ℕ} (m : ℕ) (operand : Operand) → IsOperand n operand → operand_height operand ≤ m
    → IsOperand m operand
lower_operand m (o.Id id) is low = λ place. record { exact = (is place).exact; low = low }
lower_operand m (o.Other pat) is low = λ place. record { exact = (is place).exact; low = low }

module _ (n : ℕ) (fs : Fixities) (wanted : Wanted) where
  atom_keeps : (x : Lexeme) → Keeps (atom n fs x) (Pat n)
  unfolding atom
  atom_keeps x = keep_bind (operand_keeps fs n x) (λ operand is. keep_pure _ (is (at x)))

  infix_keeps : (left : Tall FullPat) (called : Name) → Pat n left → Keeps (infix_head n fs left called) (Head n)
  unfolding infix_head argument
  infix_keeps left called is =
      keep_bind (keep_then (λ x. atom_keeps x)) (λ right so. keep_pure _ (two_is refl is so))

  from_keeps : (left : Tall FullPat) → Pat n left → Keeps (infix_from n fs wanted left) (Head n)
  unfolding infix_from
  from_keeps left is = keep_then (λ called. infix_keeps left called is)

  atom_head_keeps : (x : Lexeme) → Keeps (atom_head n fs wanted x) (Head n)
  unfolding atom_head
  atom_head_keeps x = keep_bind (atom_keeps x) (λ left is. from_keeps left is)

  arguments_keep : (before : ℕ) → Keeps (arguments n fs wanted before) (Pats n)
  unfolding arguments arguments_from
  arguments_keep before =
      keep_bind (keep_many (λ found x are. keep_bind (atom_keeps x) (λ next is. keep_pure _ (more_is are is))) _ none_is)
      (λ found are. keep_either (may_end wanted (before + length found.tree)) (λ _. keep_pure found are) keep_refuse)

  prefix_keeps : (called : OpName) → Keeps (prefix_head n fs wanted called) (Head n)
  unfolding prefix_head
  prefix_keeps called =
      keep_bind (arguments_keep 0) (λ args are. keep_pure _ (record { exact = are.exact; low = are.low }))

  long_is : (op : Bool) (start : At) (long : LongName) → nat_lt 0 n ≡ true → Pat n (long_pat op start long)
  long_is op start long room = record {
    exact = sym (pat-Long (record { op = op; long = long }) start);
    low = some_level room;
  }

  named_keeps : (op : Bool) (start : At) (long : LongName) (found : Option (List ℕ))
      → Keeps (named_head_by n fs wanted op start long found) (Head n)
  unfolding long_head short_head
  named_keeps op start long None = keep_within (λ room. from_keeps _ (long_is op start long room))
  named_keeps op start long (Some text) =
      keep_if_taken _ _ (λ called. keep_within (λ room. infix_keeps _ called (long_is op start long room)))
      (prefix_keeps _)

  op_keeps : (start : At) → Keeps (op_head n fs wanted start) (Head n)
  unfolding op_head
  op_keeps start = keep_then (λ long. named_keeps true start long (prefix_name fs wanted true long.parts))

  high_keeps : {A : Type 0} {P : A → Type 0} (run : Run) (named : Bool) → Keeps (too_high fs run named) P
  unfolding too_high
  high_keeps run named = keep_on (λ _. keep_none) keep_refuse

-- a pattern that begins with a run, behind that
behind_run_keeps : (m : ℕ) (fs : Fixities) (place : At) (run : Run) → IsRun m run
    → Keeps (behind_run fs (suc m) place run) (Pat (suc m))
unfolding behind_run
behind_run_keeps m fs place run is =
    let same : suc m - 1 ≡ m = omega arith in
    let below = levels_keep fs m in
    rw same (keep_on
    (λ x. keep_bind (step_keeps m (ty m) (ty_keeps m) (pat_level fs m).pat below.pat fs (pat_level fs m).atpat below.atpat
    run x (raised_run run is))
    (λ run so. rest_keeps m (ty m) (ty_keeps m) (pat_level fs m).pat below.pat fs (pat_level fs m).atpat below.atpat
    place run so))
    (typed_keeps m (ty m) (ty_keeps m) (pat_level fs m).pat below.pat place (whole_run place run) (whole_is place run is)))

-- .. that begins with an operand
behind_operand_keeps : (m : ℕ) (fs : Fixities) (place : At) (operand : Operand) → IsOperand (suc m) operand
    → Keeps (behind_operand fs (suc m) (ty m) (pat_level fs m) place operand) (Pat (suc m))
behind_operand_keeps m fs place operand is =
    let below = levels_keep fs m in
    behind_keeps m (ty m) (ty_keeps m) (pat_level fs m).pat below.pat fs (pat_level fs m).atpat below.atpat place operand is

closed_keeps : (m : ℕ) (fs : Fixities) (wanted : Wanted) (place : At) (inner : Tall FullPat) → Pat m inner
    → Keeps (closed_head (suc m) fs wanted place inner) (Head (suc m))
unfolding closed_head
closed_keeps m fs wanted place inner is =
    let same : suc m - 1 ≡ m = omega arith in
    rw same (keep_bind (first_keeps m (ty m) (ty_keeps m) (pat fs m) (pat_keeps fs m) place inner is)
    (λ left so. from_keeps (suc m) fs wanted left so))

-- the two patterns of an infix head in parentheses
record IsPair (most : ℕ) (pair : Pair) : Type 0 where
  left : IsOperand most pair.left
  right : IsOperand most pair.right

pair_is : {most : ℕ} (pair : Pair) → IsPair most pair → IsRun most (pair_run pair)
pair_is pair is =
    operand_is (start pair.first pair.left) pair.called pair.fixity pair.second pair.right
    (start_is pair.first pair.left is.left) is.right

pattern_keeps : (n : ℕ) (fs : Fixities) (wanted : Wanted) (place : At) (pair : Pair) → IsPair n pair
    → (pair_run pair).height + 1 < n → Keeps (pair_pattern n fs wanted place pair) (Head n)
unfolding pair_pattern
pattern_keeps zero fs wanted place pair is room = absurd (omega (arith, room))
pattern_keeps (suc zero) fs wanted place pair is room = absurd (omega (arith, room))
pattern_keeps (suc (suc m)) fs wanted place pair is room =
    let same : suc (suc m) - 1 ≡ suc m = omega arith in
    rw same (keep_bind (behind_run_keeps m fs pair.first (pair_run pair)
    (record { exact = (pair_is pair is).exact; low = omega (arith, room) }))
    (λ inner so. closed_keeps (suc m) fs wanted place inner so))

parens_pattern_keeps : (n : ℕ) (fs : Fixities) (wanted : Wanted) (place : At) (left : Left) → IsOperand n left.operand
    → max (operand_height left.operand) 1 < n → Keeps (parens_pattern n fs wanted place left) (Head n)
unfolding parens_pattern
parens_pattern_keeps zero fs wanted place left is room = absurd (omega (arith, room))
parens_pattern_keeps (suc zero) fs wanted place left is room = absurd (omega (arith, room))
parens_pattern_keeps (suc (suc m)) fs wanted place left is room =
    let same : suc (suc m) - 1 ≡ suc m = omega arith in
    let below : suc m - 1 ≡ m = omega arith in
    rw same (rw below (keep_bind (behind_operand_keeps m fs left.first left.operand
    (lower_operand (suc m) left.operand is (omega (arith, room))))
    (λ inner so. closed_keeps (suc m) fs wanted place inner so)))

module _ (n : ℕ) (fs : Fixities) (wanted : Wanted) where
  pair_left_keeps : (place : At) (pair : Pair) (second : Name) → IsPair n pair
      → Keeps (pair_left n fs place pair second) (Head n)
  unfolding pair_left
  pair_left_keeps place pair second is =
      keep_within (λ room. infix_keeps n fs wanted _ second (above room))
    where
      above : nat_lt ((pair_run pair).height + 1) n ≡ true
          → Pat n (over (λ pat. p.Paren pat place) (whole_run pair.first (pair_run pair)))
      above room =
          let low : (pair_run pair).height + 1 < n = search rules in
          let run = pair_run pair in
          record {
            exact = add-one (run.height + 1)
                ∙ ap suc (add-one run.height ∙ ap suc (pair_is pair is).exact ∙ sym (pat-Run run.items pair.first))
                ∙ sym (pat-Paren (p.Run run.items pair.first) place);
            low = omega (arith, low);
          }

  pair_arguments_keep : (pair : Pair) → IsPair n pair → Keeps (pair_arguments n fs wanted pair) (Head n)
  unfolding pair_arguments
  pair_arguments_keep pair is =
      keep_bind (arguments_keep n fs wanted 1) (λ args are. keep_pure _ (record {
        exact = ap₂ max (ap₂ max (is.left pair.first).exact (is.right pair.second).exact) are.exact;
        low = let low = (pair_is pair is).low in let lower = are.low in omega arith;
      }))

  pair_from_keeps : (place : At) (pair : Pair) → IsPair n pair → Keeps (pair_from n fs wanted place pair) (Head n)
  unfolding pair_from pair_head pair_behind
  pair_from_keeps place pair is =
      keep_if_mark _ (keep_if_taken _ _ (λ second. pair_left_keeps place pair second is) (pair_arguments_keep pair is))
      (keep_either (may_be_bare fs wanted) (λ _. keep_either (nat_lt ((pair_run pair).height + 1) n)
      (λ room. pattern_keeps n fs wanted place pair is (search rules))
      (high_keeps n fs wanted (pair_run pair) false)) keep_refuse)

  left_keeps : Keeps (left_from n fs) (λ left. IsOperand n left.operand)
  unfolding left_from
  left_keeps = keep_then (λ x. keep_bind (operand_keeps fs n x) (λ operand is. keep_pure _ is))

  pair_of_keeps : (place : At) (left : Left) (called : Name) (found : Option Fixity) → IsOperand n left.operand
      → Keeps (pair_of n fs wanted place left called found) (Head n)
  unfolding pair_of
  pair_of_keeps place left called None is = keep_refuse
  pair_of_keeps place left called (Some f) is =
      keep_bind left_keeps (λ right so. pair_from_keeps place _ (record { left = is; right = so }))

  parens_from_keeps : (place : At) (left : Left) → IsOperand n left.operand
      → Keeps (parens_from n fs wanted place left) (Head n)
  unfolding parens_from parens_behind
  parens_from_keeps place left is =
      keep_if_taken _ _ (λ called. pair_of_keeps place left called (fixity_of fs called.text) is)
      (keep_either (may_be_bare fs wanted) (λ _. keep_either (nat_lt (max (operand_height left.operand) 1) n)
      (λ room. parens_pattern_keeps n fs wanted place left is (search rules))
      (high_keeps n fs wanted (start left.first left.operand) (is_named left.operand))) keep_refuse)

  some_keeps : (place : At) → Keeps (parens_some n fs wanted place) (Head n)
  unfolding parens_some
  some_keeps place = keep_bind left_keeps (λ left is. parens_from_keeps place left is)

  unit_keeps : (place : At) → Keeps (unit_head n fs wanted place) (Head n)
  unfolding unit_head
  unit_keeps place =
      keep_within (λ room. from_keeps n fs wanted _ (record { exact = sym (pat-Unit place); low = some_level room }))

  pub parens_head_keeps : (place : At) → Keeps (parens_head n fs wanted place) (Head n)
  unfolding parens_head
  parens_head_keeps place =
      keep_either (may_be_bare fs wanted) (λ _. keep_if_mark _ (unit_keeps place) (some_keeps place)) (some_keeps place)

  head_word_keeps : (x : Lexeme) (found : Option Word) → Keeps (head_word n fs wanted x found) (Head n)
  head_word_keeps x (Some w.Op) = op_keeps n fs wanted (at x)
  head_word_keeps x (Some w.Open) = parens_head_keeps (at x)
  head_word_keeps x _ = atom_head_keeps n fs wanted x

  head_kind_keeps : (x : Lexeme) (kind : LexemeKind) → Keeps (head_kind n fs wanted x kind) (Head n)
  head_kind_keeps x (k.Reserved text) = head_word_keeps x (word_of text)
  head_kind_keeps x (k.Name parts) =
      named_keeps n fs wanted false (at x) (long_named x parts) (prefix_name fs wanted false parts)
  head_kind_keeps x (k.TyVar text) = keep_refuse
  head_kind_keeps x (k.Int value label) = atom_head_keeps n fs wanted x
  head_kind_keeps x (k.Str text) = atom_head_keeps n fs wanted x
  head_kind_keeps x (k.Char byte) = atom_head_keeps n fs wanted x

  pub head_keeps : (x : Lexeme) → Keeps (head_after n fs wanted x) (Head n)
  head_keeps x = head_kind_keeps x x.kind
