-- The names of each head of a clause that is read fit.
use Rattle.std.proofs.Common.{◌≡◌, ℕ, ◌+◌, ◌-◌, max, length, List, [], ◌∷◌, Option, None, Some, Bool, true, false, not, ◌&&◌, ◌||◌, nat_lt, nat_le, is_some, if◌then◌else◌, arith}
use Rattle.std.specs.List.{list_all}
use Rattle.std.proofs.lemmas.Bool.{and_parts}
use Rattle.fitting_names.specs.Names.{text_fits}
use Rattle.sml_lexer.specs.declared.lexeme.Lexeme.{Lexeme}
use Rattle.sml_lexer.specs.declared.lexeme.LexemeKind.{LexemeKind}
use Rattle.sml_lexer.specs.declared.lexeme.LexemeKind.TheVariants as k
use Rattle.sml_trees.specs.declared.full_pat.Fixity.{Fixity}
use Rattle.sml_trees.specs.declared.full_pat.FullPat.{FullPat}
use Rattle.sml_trees.specs.declared.full_pat.FullPat.TheVariants as p
use Rattle.sml_trees.specs.declared.full_ty.OpName.{OpName}
use Rattle.sml_trees.specs.declared.name.At.{At}
use Rattle.sml_trees.specs.declared.name.LongName.{LongName}
use Rattle.sml_trees.specs.declared.name.Name.{Name}
use Rattle.core_patterns.specs.Patterns.{plain, operand_height, start, whole_run, pat_level, pat}
use Rattle.core_patterns.specs.declared.operand.Run.{Run}
use Rattle.core_types.specs.Types.{ty}
use Rattle.infix_names.specs.Fixities.{Fixities, fixity_of}
use Rattle.phrase_reading.specs.Sized.{over}
use Rattle.phrase_reading.specs.Words.{at, named, long_named, only, name_of, long_of}
use Rattle.sml_lexer.specs.Words.{word_of}
use Rattle.phrase_reading.specs.declared.tall.Tall.{Tall}
use Rattle.sml_lexer.specs.declared.words.Word.{Word}
use Rattle.sml_lexer.specs.declared.words.Word.TheVariants as w
use Rattle.clause_heads.specs.Heads.{may_be, if_infix, operator_in, bare_operator, bare, if_prefix, if_head, behind_op, takes_more, may_end, may_be_bare, prefix_name, atom, argument, infix_head, infix_from, atom_head, arguments_from, arguments, prefix_head, long_pat, long_head, short_head, named_head_by, op_head, too_high, closed_head, pair_run, pair_arguments, pair_left, pair_head, behind_run, pair_pattern, pair_behind, pair_from, left_from, pair_of, parens_pattern, is_named, parens_behind, parens_from, parens_some, unit_head, parens_head, head_word, head_kind, head_after}
use Rattle.clause_heads.specs.declared.heads.Wanted.{Wanted}
use Rattle.clause_heads.specs.declared.paren_head.Left.{Left}
use Rattle.clause_heads.specs.declared.paren_head.Pair.{Pair}
use Rattle.lexeme_laws.specs.Limits.{IsWithinLimits}
use Rattle.fitting_names.proofs.Texts.{FitText, parts_fit}
use Rattle.fitting_names.proofs.Nodes.{FitName, FitLong}
use Rattle.fitting_names.proofs.PatForms.{PatIs, full-Long, full-Unit, full-Paren, full-Run}
use Rattle.fitting_phrases.proofs.ExpForms.{HeadIs, head-Prefix, head-Infix, head-ParenInfix}
use Rattle.core_names.proofs.Keeping.{Good, Keeps, keep_pure, keep_refuse, keep_bind, keep_on, keep_on_good, keep_within, keep_many, keep_beginning, IfAny, keep_taken_by, keep_if_taken_by, keep_if_mark, keep_either, Holds, HoldsFew, leaf_is, more_is, none_is, many_few_keeps}
use Rattle.core_names.proofs.Named.{FitParts, long_is, as_name, as_long, then_fits, if_fits, name_of_fits, long_of_fits}
use Rattle.core_names.proofs.Tys.{ty_keeps}
use Rattle.core_names.proofs.Pats.{IsOperand, IsRun, plain_is, start_is, operand_is, whole_is, step_keeps, rest_keeps, typed_keeps, behind_keeps, first_keeps, levels_keep, operand_keeps}

module _ (n : ℕ) (fs : Fixities) (wanted : Wanted) where
  atom_keeps : (x : Lexeme) → Good x → Keeps (atom n fs x) (Holds PatIs)
  unfolding atom
  atom_keeps x good = keep_bind (operand_keeps fs n x good) (λ operand is. keep_pure _ (plain_is (at x) operand is))

  infix_keeps : (left : Tall FullPat) (called : Name) → Holds PatIs left → FitName called
      → Keeps (infix_head n fs left called) (Holds HeadIs)
  unfolding infix_head argument
  infix_keeps left called is fits =
      keep_bind (keep_bind (keep_beginning _) (λ x good. atom_keeps x good)) (λ right so.
      keep_pure _ (record { tree = head-Infix left.tree called right.tree fits is.tree so.tree }))

  infix_fits : (x : Lexeme) → Good x → IfAny FitText (operator_in fs wanted x)
  infix_fits x good =
      then_fits (if_infix fs wanted)
      (λ text is. if_fits FitText (is_some (fixity_of fs text) && may_be wanted text) text is) (name_of x)
      (name_of_fits x good)

  bare_if : (b : Bool) (found : Option (List ℕ)) → IfAny FitText found → IfAny FitText (if b then found else None)
  bare_if true found is = is
  bare_if false found is = tt

  bare_fits : (x : Lexeme) → Good x → IfAny FitText (bare_operator fs wanted x)
  bare_fits x good = bare_if (may_be_bare fs wanted) (operator_in fs wanted x) (infix_fits x good)

  bare_keeps : Keeps (bare fs wanted) FitName
  bare_keeps =
      keep_taken_by (bare_operator fs wanted) named (λ x good. as_name x (bare_operator fs wanted x) (bare_fits x good))

  from_keeps : (left : Tall FullPat) → Holds PatIs left → Keeps (infix_from n fs wanted left) (Holds HeadIs)
  unfolding infix_from
  from_keeps left is = keep_bind bare_keeps (λ called fits. infix_keeps left called is fits)

  atom_head_keeps : (x : Lexeme) → Good x → Keeps (atom_head n fs wanted x) (Holds HeadIs)
  unfolding atom_head
  atom_head_keeps x good = keep_bind (atom_keeps x good) (λ left is. from_keeps left is)

  arguments_keep : (before : ℕ) → Keeps (arguments n fs wanted before) (HoldsFew PatIs)
  unfolding arguments arguments_from
  arguments_keep before =
      keep_bind (many_few_keeps (λ found x. takes_more fs wanted (before + length found.tree) x) (λ x. atom n fs x)
      (record { tree = []; height = 0 }) (omega arith)
      (keep_many (λ found x good are. keep_bind (atom_keeps x good) (λ next is.
      keep_pure _ (more_is are is))) _ none_is))
      (λ found are. keep_either (may_end wanted (before + length found.tree)) (keep_pure found are) keep_refuse)

  prefix_keeps : (called : OpName) → FitName called.name → Keeps (prefix_head n fs wanted called) (Holds HeadIs)
  unfolding prefix_head
  prefix_keeps called fits =
      keep_bind (arguments_keep 0) (λ args are.
      keep_pure _ (record { tree = head-Prefix called args.tree fits are.few are.all }))

  pattern_is : (op : Bool) (start : At) (long : LongName) → FitLong long → Holds PatIs (long_pat op start long)
  pattern_is op start long is = record { tree = full-Long (record { op = op; long = long }) start is }

  named_keeps : (op : Bool) (start : At) (long : LongName) (found : Option (List ℕ)) → FitLong long
      → IfAny FitText found → Keeps (named_head_by n fs wanted op start long found) (Holds HeadIs)
  unfolding long_head short_head
  named_keeps op start long None is so = keep_within (from_keeps _ (pattern_is op start long is))
  named_keeps op start long (Some text) is so =
      keep_if_taken_by (bare_operator fs wanted) named FitName
      (λ x good. as_name x (bare_operator fs wanted x) (bare_fits x good))
      (λ called fits. keep_within (infix_keeps _ called (pattern_is op start long is) fits)) (prefix_keeps _ so)

  only_part : (parts : List (List ℕ)) → list_all text_fits parts ≡ true → IfAny FitText (only parts)
  only_part [] is = tt
  only_part (part ∷ []) is = (and_parts (text_fits part) true is).0
  only_part (part ∷ second ∷ parts) is = tt

  prefix_fits : (op : Bool) (parts : List (List ℕ)) → list_all text_fits parts ≡ true
      → IfAny FitText (prefix_name fs wanted op parts)
  prefix_fits op parts is =
      then_fits (if_prefix fs wanted op)
      (λ text so. if_fits FitText ((op || not (is_some (fixity_of fs text))) && may_be wanted text) text so)
      (only parts)
      (only_part parts is)

  long_parts : (long : LongName) → FitLong long → list_all text_fits long.parts ≡ true
  long_parts long is = (and_parts (nat_le 1 (length long.parts)) (list_all text_fits long.parts) is).1

  behind_fits : (x : Lexeme) → Good x → IfAny FitParts (behind_op fs wanted x)
  behind_fits x good =
      then_fits (if_head fs wanted)
      (λ parts is. if_fits FitParts (may_be_bare fs wanted || is_some (prefix_name fs wanted true parts)) parts is)
      (long_of x)
      (long_of_fits x good)

  op_keeps : (start : At) → Keeps (op_head n fs wanted start) (Holds HeadIs)
  unfolding op_head
  op_keeps start =
      keep_bind (keep_taken_by (behind_op fs wanted) long_named {P = FitLong}
      (λ x good. as_long x (behind_op fs wanted x) (behind_fits x good)))
      (λ long is. named_keeps true start long (prefix_name fs wanted true long.parts) is
      (prefix_fits true long.parts (long_parts long is)))

  high_keeps : {A : Type 0} {P : A → Type 0} (run : Run) (named : Bool) → Keeps (too_high fs run named) P
  unfolding too_high
  high_keeps run named = keep_on (λ _. keep_within keep_refuse) keep_refuse

  -- a pattern that begins with a run, behind that
  behind_run_keeps : (place : At) (run : Run) → IsRun run → Keeps (behind_run fs n place run) (Holds PatIs)
  unfolding behind_run
  behind_run_keeps place run is =
      let m = n - 1 in
      let below = levels_keep fs m in
      keep_on_good
      (λ x good. keep_bind
      (step_keeps (ty m) (ty_keeps m) (pat_level fs m).pat below.pat fs (pat_level fs m).atpat below.atpat
      n run x good is)
      (λ run so. rest_keeps (ty m) (ty_keeps m) (pat_level fs m).pat below.pat fs
      (pat_level fs m).atpat below.atpat n place run so))
      (typed_keeps (ty m) (ty_keeps m) (pat_level fs m).pat below.pat n place (whole_run place run)
      (whole_is place run is))

  closed_keeps : (place : At) (inner : Tall FullPat) → Holds PatIs inner
      → Keeps (closed_head n fs wanted place inner) (Holds HeadIs)
  unfolding closed_head
  closed_keeps place inner is =
      keep_bind (first_keeps (ty (n - 1)) (ty_keeps (n - 1)) (pat fs (n - 1))
      (levels_keep fs (n - 1)).pat place inner is)
      (λ left so. from_keeps left so)

-- the two patterns of an infix head in parentheses
record IsPair (pair : Pair) : Type 0 where
  left : IsOperand pair.left
  called : FitName pair.called
  right : IsOperand pair.right

pair_is : (pair : Pair) → IsPair pair → IsRun (pair_run pair)
pair_is pair is =
    operand_is (start pair.first pair.left) pair.called pair.fixity pair.second pair.right is.called
    (start_is pair.first pair.left is.left) is.right

module _ (n : ℕ) (fs : Fixities) (wanted : Wanted) where
  pattern_keeps : (place : At) (pair : Pair) → IsPair pair → Keeps (pair_pattern n fs wanted place pair) (Holds HeadIs)
  unfolding pair_pattern
  pattern_keeps place pair is =
      keep_bind (behind_run_keeps (n - 1) fs wanted pair.first (pair_run pair) (pair_is pair is))
      (λ inner so. closed_keeps n fs wanted place inner so)

  parens_pattern_keeps : (place : At) (left : Left) → IsOperand left.operand
      → Keeps (parens_pattern n fs wanted place left) (Holds HeadIs)
  unfolding parens_pattern
  parens_pattern_keeps place left is =
      let m = n - 1 - 1 in
      let below = levels_keep fs m in
      keep_bind (behind_keeps (ty m) (ty_keeps m) (pat_level fs m).pat below.pat fs (pat_level fs m).atpat below.atpat
      (n - 1)
      left.first left.operand is)
      (λ inner so. closed_keeps n fs wanted place inner so)

  pair_left_keeps : (place : At) (pair : Pair) (second : Name) → IsPair pair → FitName second
      → Keeps (pair_left n fs place pair second) (Holds HeadIs)
  unfolding pair_left
  pair_left_keeps place pair second is fits = keep_within (infix_keeps n fs wanted _ second above fits)
    where
      above : Holds PatIs (over (λ pat. p.Paren pat place) (whole_run pair.first (pair_run pair)))
      above = record {
        tree = full-Paren (p.Run (pair_run pair).items pair.first) place
            (full-Run (pair_run pair).items pair.first (pair_is pair is).items);
      }

  pair_arguments_keep : (pair : Pair) → IsPair pair → Keeps (pair_arguments n fs wanted pair) (Holds HeadIs)
  unfolding pair_arguments
  pair_arguments_keep pair is =
      keep_bind (arguments_keep n fs wanted 1) (λ args are. keep_pure _ (record {
        tree =
            head-ParenInfix (plain pair.first pair.left).tree pair.called (plain pair.second pair.right).tree args.tree
            is.called (plain_is pair.first pair.left is.left).tree
            (plain_is pair.second pair.right is.right).tree are.few
            are.all;
      }))

  pair_from_keeps : (place : At) (pair : Pair) → IsPair pair → Keeps (pair_from n fs wanted place pair) (Holds HeadIs)
  unfolding pair_from pair_head pair_behind
  pair_from_keeps place pair is =
      keep_if_mark _ (keep_if_taken_by (bare_operator fs wanted) named FitName
      (λ x good. as_name x (bare_operator fs wanted x) (bare_fits n fs wanted x good))
      (λ second fits. pair_left_keeps place pair second is fits) (pair_arguments_keep pair is))
      (keep_either (may_be_bare fs wanted) (keep_either (nat_lt ((pair_run pair).height + 1) n)
      (pattern_keeps place pair is) (high_keeps n fs wanted (pair_run pair) false)) keep_refuse)

  left_keeps : Keeps (left_from n fs) (λ left. IsOperand left.operand)
  unfolding left_from
  left_keeps =
      keep_bind (keep_beginning _) (λ x good. keep_bind (operand_keeps fs n x good) (λ operand is. keep_pure _ is))

  pair_of_keeps : (place : At) (left : Left) (called : Name) (found : Option Fixity) → IsOperand left.operand
      → FitName called → Keeps (pair_of n fs wanted place left called found) (Holds HeadIs)
  unfolding pair_of
  pair_of_keeps place left called None is fits = keep_refuse
  pair_of_keeps place left called (Some f) is fits =
      keep_bind left_keeps (λ right so. pair_from_keeps place _ (record { left = is; called = fits; right = so }))

  parens_from_keeps : (place : At) (left : Left) → IsOperand left.operand
      → Keeps (parens_from n fs wanted place left) (Holds HeadIs)
  unfolding parens_from parens_behind
  parens_from_keeps place left is =
      keep_if_taken_by (operator_in fs wanted) named FitName
      (λ x good. as_name x (operator_in fs wanted x) (infix_fits n fs wanted x good))
      (λ called fits. pair_of_keeps place left called (fixity_of fs called.text) is fits)
      (keep_either (may_be_bare fs wanted) (keep_either (nat_lt (max (operand_height left.operand) 1) n)
      (parens_pattern_keeps place left is)
      (high_keeps n fs wanted (start left.first left.operand) (is_named left.operand))) keep_refuse)

  some_keeps : (place : At) → Keeps (parens_some n fs wanted place) (Holds HeadIs)
  unfolding parens_some
  some_keeps place = keep_bind left_keeps (λ left is. parens_from_keeps place left is)

  unit_keeps : (place : At) → Keeps (unit_head n fs wanted place) (Holds HeadIs)
  unfolding unit_head
  unit_keeps place = keep_within (from_keeps n fs wanted _ (leaf_is (p.Unit place) (full-Unit place)))

  pub parens_head_keeps : (place : At) → Keeps (parens_head n fs wanted place) (Holds HeadIs)
  unfolding parens_head
  parens_head_keeps place =
      keep_either (may_be_bare fs wanted) (keep_if_mark _ (unit_keeps place) (some_keeps place)) (some_keeps place)

  head_word_keeps : (x : Lexeme) (found : Option Word) → Good x → Keeps (head_word n fs wanted x found) (Holds HeadIs)
  head_word_keeps x (Some w.Op) good = op_keeps n fs wanted (at x)
  head_word_keeps x (Some w.Open) good = parens_head_keeps (at x)
  head_word_keeps x _ good = atom_head_keeps n fs wanted x good

  head_kind_keeps : (x : Lexeme) (kind : LexemeKind) → IsWithinLimits kind → Good x
      → Keeps (head_kind n fs wanted x kind) (Holds HeadIs)
  head_kind_keeps x (k.Reserved text) fits good = head_word_keeps x (word_of text) good
  head_kind_keeps x (k.Name parts) fits good =
      named_keeps n fs wanted false (at x) (long_named x parts) (prefix_name fs wanted false parts)
      (long_is parts x.line x.col (record { some = fits.0; each = parts_fit parts fits.1 }))
      (prefix_fits n fs wanted false parts (parts_fit parts fits.1))
  head_kind_keeps x (k.TyVar text) fits good = keep_refuse
  head_kind_keeps x (k.Int value label) fits good = atom_head_keeps n fs wanted x good
  head_kind_keeps x (k.Str text) fits good = atom_head_keeps n fs wanted x good
  head_kind_keeps x (k.Char byte) fits good = atom_head_keeps n fs wanted x good

  pub head_keeps : (x : Lexeme) → Good x → Keeps (head_after n fs wanted x) (Holds HeadIs)
  head_keeps x good = head_kind_keeps x x.kind good good
