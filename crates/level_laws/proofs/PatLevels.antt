-- The height of each phrase of the grammar of patterns is that of its tree, and within the limit.
use Rattle.std.proofs.Common.{◌≡◌, ℕ, zero, suc, ◌-◌, ◌≤◌, max, List, [], ◌∷◌, ◌++◌, Option, None, Some, Bool, true, false, nat_lt, refl, sym, ap, ap₂, ◌∙◌, arith, add-one}
use Rattle.sml_lexer.specs.declared.lexeme.Lexeme.{Lexeme}
use Rattle.sml_lexer.specs.declared.lexeme.LexemeKind.{LexemeKind}
use Rattle.sml_lexer.specs.declared.lexeme.LexemeKind.TheVariants as k
use Rattle.sml_trees.specs.declared.name.At.{At}
use Rattle.sml_trees.specs.declared.name.Name.{Name}
use Rattle.sml_trees.specs.declared.full_ty.FullTy.{FullTy}
use Rattle.sml_trees.specs.declared.full_ty.OpLong.{OpLong}
use Rattle.sml_trees.specs.declared.full_ty.OpName.{OpName}
use Rattle.sml_trees.specs.declared.full_pat.Constant.TheVariants as c
use Rattle.sml_trees.specs.declared.full_pat.Fixity.{Fixity}
use Rattle.sml_trees.specs.declared.full_pat.FullPat.{FullPat}
use Rattle.sml_trees.specs.declared.full_pat.FullPat.TheVariants as p
use Rattle.sml_trees.specs.declared.full_pat.FullPatItem.{FullPatItem}
use Rattle.sml_trees.specs.declared.full_pat.FullPatItem.TheVariants as i
use Rattle.infix_names.specs.Fixities.{Fixities, joining}
use Rattle.core_types.specs.Types.{ty}
use Rattle.core_patterns.specs.Patterns.{PatLevel, plain, items_of, in_brackets, tuple_of, behind_first, inside_parens, in_parens, labelled, named_field, if_name, field_behind, field, fields_of, record_of, other, behind_op, atpat_word, atpat_kind, start, with_argument, with_operand, operator, operand_joined, operand_behind, argument, by_operator, run_step, run_on, whole_run, constrained, typed, layered, layer, some_type, no_type, id_under, behind_typed, typed_id, behind_name, behind_id, alone, run_rest, behind_operand, pat_after, pat_level, pat, pat_behind, atpat}
use Rattle.core_patterns.specs.declared.operand.Operand.{Operand}
use Rattle.core_patterns.specs.declared.operand.Operand.TheVariants as o
use Rattle.core_patterns.specs.declared.operand.Run.{Run}
use Rattle.phrase_reading.specs.Sized.{more}
use Rattle.phrase_reading.specs.Words.{g, is, at, given}
use Rattle.sml_lexer.specs.Words.{word_of}
use Rattle.phrase_reading.specs.declared.tall.Tall.{Tall}
use Rattle.sml_lexer.specs.declared.words.Word.{Word}
use Rattle.sml_lexer.specs.declared.words.Word.TheVariants as w
use Rattle.level_laws.specs.Levels.{all_levels, if_levels, ty_levels, pat_levels, pat_item_levels, pat_field_levels}
use Rattle.level_laws.specs.Promises.{IsMeasured, PatternsHaveTheirLevels}
use Rattle.level_laws.proofs.Keeping.{Keeps, keep_pure, keep_refuse, keep_bind, keep_then, keep_on, keep_within, keep_many, keep_none, leaf_is, over_is, over_two_is, part_is, lowered, below_limit, one_is, more_is, all-one, all-more, further_keeps, maybe_keeps, two_is}
use Rattle.level_laws.proofs.PatForms.{pat-Wild, pat-Constant, pat-Long, pat-Record, pat-Unit, pat-Tuple, pat-Paren, pat-List, pat-Run, pat-Typed, pat-As, item-Atom, item-Operator, field-Labelled, field-Named}
use Rattle.level_laws.proofs.TyLevels.{Ty, ty_keeps}

-- a pattern of at most so many levels
abbrev pub Pat : ℕ → Tall FullPat → Type 0
Pat most = IsMeasured pat_levels most

-- an operand of at most so many levels, wherever it stands
abbrev pub IsOperand : ℕ → Operand → Type 0
IsOperand most operand = (place : At) → Pat most (plain place operand)

-- the parts of a run, of at most so many levels
pub record IsRun (most : ℕ) (run : Run) : Type 0 where
  pub exact : run.height ≡ all_levels pat_item_levels run.items
  pub low : run.height ≤ most

id_is : (n : ℕ) (id : OpLong) → IsOperand (suc n) (o.Id id)
id_is n id place = leaf_is (p.Long id place) (pat-Long id place)

-- one more operand
with_atom : {most : ℕ} (items : List FullPatItem) (height : ℕ) (next : Tall FullPat)
    → height ≡ all_levels pat_item_levels items → Pat most next
    → max height next.height ≡ all_levels pat_item_levels (items ++ i.Atom next.tree ∷ [])
with_atom items height next so is =
    ap₂ max so (is.exact ∙ sym (item-Atom next.tree)) ∙ sym (all-more pat_item_levels items (i.Atom next.tree))

pub start_is : {most : ℕ} (place : At) (operand : Operand) → IsOperand most operand → IsRun most (start place operand)
start_is place operand is = record {
  exact = (is place).exact ∙ sym (item-Atom (plain place operand).tree)
      ∙ sym (all-one pat_item_levels (i.Atom (plain place operand).tree));
  low = (is place).low;
}

argument_is : {most : ℕ} (run : Run) (place : At) (operand : Operand) → IsRun most run → IsOperand most operand
    → IsRun most (with_argument run place operand)
argument_is run place operand so is = record {
  exact = with_atom run.items run.height (plain place operand) so.exact (is place);
  low = let low = so.low in let lower = (is place).low in omega arith;
}

operator_same : (items : List FullPatItem) (called : Name) (f : Fixity)
    → all_levels pat_item_levels items ≡ all_levels pat_item_levels (items ++ i.Operator called f ∷ [])
operator_same items called f =
    let none = item-Operator called f in
    let more = all-more pat_item_levels items (i.Operator called f) in
    sym (more ∙ ap (max (all_levels pat_item_levels items)) none ∙ max-none (all_levels pat_item_levels items))
  where
    max-none : (n : ℕ) → max n 0 ≡ n
    max-none n = omega arith

pub operand_is : {most : ℕ} (run : Run) (called : Name) (f : Fixity) (place : At) (operand : Operand) → IsRun most run
    → IsOperand most operand → IsRun most (with_operand run called f place operand)
operand_is run called f place operand so is = record {
  exact = with_atom (run.items ++ i.Operator called f ∷ []) run.height (plain place operand)
      (so.exact ∙ operator_same run.items called f) (is place);
  low = let low = so.low in let lower = (is place).low in omega arith;
}

-- a run is one level above its parts
pub whole_is : {most : ℕ} (place : At) (all : Run) → IsRun most all → Pat (suc most) (whole_run place all)
whole_is place all so = record {
  exact = add-one all.height ∙ ap suc so.exact ∙ sym (pat-Run all.items place);
  low = let low = so.low in omega arith;
}

pub raised_run : {most : ℕ} (run : Run) → IsRun most run → IsRun (suc most) run
raised_run run is = record { exact = is.exact; low = let low = is.low in omega arith }

-- over patterns and types of one level less
module _ (n : ℕ) (tys : g (Tall FullTy)) (it : Keeps tys (Ty n)) (below : g (Tall FullPat)) (pats : Keeps below (Pat n)) where
  brackets_keep : (place : At) → Keeps (in_brackets below place) (Pat (suc n))
  unfolding in_brackets items_of
  brackets_keep place =
      keep_on (λ _. keep_pure _ (leaf_is (p.List [] place) (pat-List [] place)))
      (keep_bind pats (λ first is. keep_bind (further_keeps _ pats (one_is is))
      (λ items are. keep_then (λ _. keep_pure _ (over_is _ (λ items. pat-List items place) are)))))

  pub first_keeps : (place : At) (first : Tall FullPat) → Pat n first
      → Keeps (behind_first below place first) (Pat (suc n))
  unfolding behind_first tuple_of
  first_keeps place first is =
      keep_on
      (λ _. keep_bind pats (λ second so. keep_bind (further_keeps _ pats (more_is (one_is is) so))
      (λ parts are. keep_then (λ _. keep_pure _ (over_is _ (λ parts. pat-Tuple parts place) are)))))
      (keep_then (λ _. keep_pure _ (over_is _ (λ inner. pat-Paren inner place) is)))

  parens_keep : (place : At) → Keeps (in_parens below place) (Pat (suc n))
  unfolding in_parens inside_parens
  parens_keep place =
      keep_on (λ _. keep_pure _ (leaf_is (p.Unit place) (pat-Unit place)))
      (keep_bind pats (λ first is. first_keeps place first is))

  field_keeps : Keeps (field tys below) (IsMeasured pat_field_levels n)
  unfolding field field_behind labelled named_field
  field_keeps =
      keep_then (λ label. keep_on
      (λ _. keep_bind pats (λ inner is. keep_pure _ (part_is _ (field-Labelled label.name) is)))
      (by_name label.is_name label.name))
    where
      by_name : (so : Bool) (called : Name)
          → Keeps (if_name so (named_field tys below called)) (IsMeasured pat_field_levels n)
      by_name true called =
          keep_bind (maybe_keeps _ it) (λ ty is. keep_bind (maybe_keeps _ pats) (λ inner so.
          keep_pure _ (two_is (field-Named called ty.tree inner.tree) is so)))
      by_name false called = keep_refuse

  record_keeps : (place : At) → Keeps (record_of tys below place) (Pat (suc n))
  unfolding record_of fields_of
  record_keeps place =
      keep_on (λ _. keep_pure _ (leaf_is (p.Record [] place) (pat-Record [] place)))
      (keep_bind field_keeps (λ first is. keep_bind (further_keeps _ field_keeps (one_is is))
      (λ fields are. keep_then (λ _. keep_pure _ (over_is _ (λ fields. pat-Record fields place) are)))))

  other_keeps : (grammar : g (Tall FullPat)) → Keeps grammar (Pat (suc n)) → Keeps (other grammar) (IsOperand (suc n))
  unfolding other
  other_keeps grammar each = keep_bind each (λ found is. keep_pure _ (λ place. is))

  atpat_word_keeps : (place : At) (found : Option Word) → Keeps (atpat_word tys below place found) (IsOperand (suc n))
  unfolding behind_op
  atpat_word_keeps place (Some w.Wild) = keep_pure _ (λ _. leaf_is (p.Wild place) (pat-Wild place))
  atpat_word_keeps place (Some w.Op) = keep_then (λ called. keep_pure _ (id_is n _))
  atpat_word_keeps place (Some w.Open) = other_keeps _ (parens_keep place)
  atpat_word_keeps place (Some w.OpenBrace) = other_keeps _ (record_keeps place)
  atpat_word_keeps place (Some w.OpenBracket) = other_keeps _ (brackets_keep place)
  atpat_word_keeps place _ = keep_refuse

  atpat_keeps : (x : Lexeme) (kind : LexemeKind) → Keeps (atpat_kind tys below x kind) (IsOperand (suc n))
  atpat_keeps x (k.Reserved text) = atpat_word_keeps (at x) (word_of text)
  atpat_keeps x (k.Name parts) = keep_pure _ (id_is n _)
  atpat_keeps x (k.TyVar text) = keep_refuse
  atpat_keeps x (k.Int value ok) = keep_pure _ (λ _. leaf_is (p.Constant (c.Int value) (at x)) (pat-Constant _ _))
  atpat_keeps x (k.Str text) = keep_pure _ (λ _. leaf_is (p.Constant (c.Str text) (at x)) (pat-Constant _ _))
  atpat_keeps x (k.Char byte) = keep_pure _ (λ _. leaf_is (p.Constant (c.Char byte) (at x)) (pat-Constant _ _))

  pub typed_keeps : (place : At) (left : Tall FullPat) → Pat (suc n) left
      → Keeps (typed (suc n) tys place left) (Pat (suc n))
  unfolding typed constrained
  typed_keeps place left is =
      keep_many (λ left x so. keep_within (λ room. keep_bind it (λ ty too.
      keep_pure _ (over_two_is _ (λ inner ty. pat-Typed inner ty place) (lowered so room) too)))) left is

  layer_keeps : (place : At) (called : OpName) (ty : Tall (Option FullTy)) → IsMeasured (if_levels ty_levels) n ty
      → Keeps (layer below place called ty) (Pat (suc n))
  unfolding layer
  layer_keeps place called ty is =
      keep_bind pats (λ inner so. keep_pure _ (over_two_is _ (λ ty inner. pat-As called ty inner place) is so))

  layered_keeps : (place : At) (called : Option OpName) (ty : Tall (Option FullTy))
      → IsMeasured (if_levels ty_levels) n ty
      → Keeps (given (λ called. layer below place called ty) called) (Pat (suc n))
  layered_keeps place None ty is = keep_refuse
  layered_keeps place (Some called) ty is = layer_keeps place called ty is

  no_type_is : IsMeasured (if_levels ty_levels) n no_type
  no_type_is = record { exact = refl; low = omega arith }

  id_under_is : (place : At) (id : OpLong) (ty : Tall FullTy) → 1 ≤ n → Ty n ty → Pat (suc n) (id_under place id ty)
  id_under_is place id ty room is =
      over_two_is _ (λ inner ty. pat-Typed inner ty place)
      (record { exact = sym (pat-Long id place); low = room }) is

  name_keeps : (fs : Fixities) (atoms : Lexeme → g Operand) (place : At) (id : OpLong)
      → Keeps (behind_id (suc n) tys (record { pat = below; atpat = atoms }) place id) (Pat (suc n))
  unfolding behind_id behind_name typed_id behind_typed
  name_keeps fs atoms place id =
      keep_on (λ x. layered_keeps place (layered id x) no_type no_type_is)
      (keep_on (λ _. keep_within (λ room. keep_bind it (λ ty is. keep_on
      (λ x. layered_keeps place (layered id x) (some_type ty) (record { exact = is.exact; low = is.low }))
      (typed_keeps place (id_under place id ty) (id_under_is place id ty (one_below room) is)))))
      (keep_pure _ (id_is n id place)))
    where
      one_below : nat_lt 1 (suc n) ≡ true → 1 ≤ n
      one_below room = below_limit room

  -- atomic patterns of one level less, too
  module _ (fs : Fixities) (atoms : Lexeme → g Operand) (each : (x : Lexeme) → Keeps (atoms x) (IsOperand n)) where
    abbrev parts : PatLevel
    parts = record { pat = below; atpat = atoms }

    pub step_keeps : (run : Run) (x : Lexeme) → IsRun (suc n) run → Keeps (run_step fs (suc n) parts run x) (IsRun n)
    unfolding argument operand_behind operand_joined
    step_keeps run x is =
        keep_within (λ room. by_name (joining (operator fs x) run.ops)
        (record { exact = is.exact; low = below_limit room }))
      where
        by_name : (found : Option Fixity) → IsRun n run → Keeps (by_operator fs parts run x found) (IsRun n)
        by_name None so = keep_bind (each x) (λ operand it. keep_pure _ (argument_is run (at x) operand so it))
        by_name (Some f) so =
            keep_on (λ y. keep_bind (each y) (λ operand it. keep_pure _ (operand_is run _ f (at y) operand so it)))
            keep_refuse

    pub rest_keeps : (place : At) (run : Run) → IsRun n run
        → Keeps (run_rest fs (suc n) tys parts place run) (Pat (suc n))
    unfolding run_rest run_on
    rest_keeps place run is =
        keep_bind (keep_many (λ run x so. step_keeps run x (raised_run run so)) run is)
        (λ all so. typed_keeps place (whole_run place all) (whole_is place all so))

    alone_keeps : (place : At) (operand : Operand) → IsOperand (suc n) operand
        → Keeps (alone (suc n) tys parts place operand) (Pat (suc n))
    alone_keeps place (o.Id id) is = name_keeps fs atoms place id
    alone_keeps place (o.Other pat) is = typed_keeps place pat (is place)

    pub behind_keeps : (place : At) (operand : Operand) → IsOperand (suc n) operand
        → Keeps (behind_operand fs (suc n) tys parts place operand) (Pat (suc n))
    unfolding behind_operand
    behind_keeps place operand is =
        keep_on (λ x. keep_bind (step_keeps (start place operand) x (start_is place operand is))
        (λ run so. rest_keeps place run so))
        (alone_keeps place operand is)

    pat_after_keeps : (x : Lexeme) → Keeps (pat_after fs (suc n) tys parts x) (Pat (suc n))
    unfolding pat_after
    pat_after_keeps x = keep_bind (atpat_keeps x x.kind) (λ operand is. behind_keeps (at x) operand is)

-- all phrases of so many levels
pub record PatLevelIs (most : ℕ) (level : PatLevel) : Type 0 where
  pub pat : Keeps level.pat (Pat most)
  pub atpat : (x : Lexeme) → Keeps (level.atpat x) (IsOperand most)

pub levels_keep : (fs : Fixities) (n : ℕ) → PatLevelIs n (pat_level fs n)
unfolding pat_level
levels_keep fs zero = record { pat = keep_on (λ _. keep_none) keep_refuse; atpat = λ _. keep_none }
levels_keep fs (suc n) =
    let below = levels_keep fs n in
    record {
      pat = keep_on (λ x. pat_after_keeps n (ty n) (ty_keeps n) (pat_level fs n).pat below.pat fs (pat_level fs n).atpat
          below.atpat x) keep_refuse;
      atpat = λ x. atpat_keeps n (ty n) (ty_keeps n) (pat_level fs n).pat below.pat x x.kind;
    }

pub pat_keeps : (fs : Fixities) (n : ℕ) → Keeps (pat fs n) (Pat n)
pat_keeps fs n = (levels_keep fs n).pat

pub operand_keeps : (fs : Fixities) (n : ℕ) (x : Lexeme) → Keeps ((pat_level fs n).atpat x) (IsOperand n)
operand_keeps fs n x = (levels_keep fs n).atpat x

-- .. behind its first lexeme
pub pat_behind_keeps : (fs : Fixities) (n : ℕ) (x : Lexeme) → Keeps (pat_behind fs n x) (Pat n)
unfolding pat_behind
pat_behind_keeps fs zero x = keep_within (λ h. absurd (cc))
pat_behind_keeps fs (suc n) x =
    keep_within (λ _. let same : suc n - 1 ≡ n = omega arith in
    let below = levels_keep fs n in
    rw same (pat_after_keeps n (ty n) (ty_keeps n) (pat_level fs n).pat below.pat fs (pat_level fs n).atpat below.atpat x))

pub atomic_keeps : (fs : Fixities) (n : ℕ) → Keeps (atpat fs n) (Pat n)
unfolding atpat
atomic_keeps fs n =
    keep_on (λ x. keep_bind (operand_keeps fs n x) (λ operand is. keep_pure _ (is (at x)))) keep_refuse

pub patterns_have_levels : PatternsHaveTheirLevels
patterns_have_levels fs n = (pat_keeps fs n).gives
