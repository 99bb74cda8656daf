-- The constants of each pattern that is read fit.
use Rattle.std.proofs.Common.{◌≡◌, ℕ, zero, suc, ◌-◌, ◌<◌, ◌^◌, List, [], ◌∷◌, ◌++◌, Option, None, Some, Bool, true, false, arith}
use Rattle.std.specs.Prelude.{ℤ, pos, negsuc, FitsSigned}
use Rattle.std.specs.Int.{w64}
use Rattle.std.proofs.lemmas.Bool.Decides.{nat_tests}
use Rattle.sml_lexer.specs.declared.lexeme.Lexeme.{Lexeme}
use Rattle.sml_lexer.specs.declared.lexeme.LexemeKind.{LexemeKind}
use Rattle.sml_lexer.specs.declared.lexeme.LexemeKind.TheVariants as k
use Rattle.sml_trees.specs.declared.name.At.{At}
use Rattle.sml_trees.specs.declared.name.Name.{Name}
use Rattle.sml_trees.specs.declared.full_ty.FullTy.{FullTy}
use Rattle.sml_trees.specs.declared.full_ty.OpLong.{OpLong}
use Rattle.sml_trees.specs.declared.full_ty.OpName.{OpName}
use Rattle.sml_trees.specs.declared.full_pat.Constant.TheVariants as c
use Rattle.sml_trees.specs.declared.full_pat.Fixity.{Fixity}
use Rattle.sml_trees.specs.declared.full_pat.FullPat.{FullPat}
use Rattle.sml_trees.specs.declared.full_pat.FullPat.TheVariants as p
use Rattle.sml_trees.specs.declared.full_pat.FullPatItem.TheVariants as i
use Rattle.infix_names.specs.Fixities.{Fixities, joining}
use Rattle.core_types.specs.Types.{ty}
use Rattle.core_patterns.specs.Patterns.{PatLevel, plain, items_of, in_brackets, tuple_of, behind_first, inside_parens, in_parens, labelled, named_field, if_name, field_behind, field, fields_of, record_of, other, behind_op, atpat_word, atpat_kind, start, with_argument, with_operand, operator, operand_joined, operand_behind, argument, by_operator, run_step, run_on, whole_run, constrained, typed, layered, layer, some_type, no_type, id_under, behind_typed, typed_id, behind_name, behind_id, alone, run_rest, behind_operand, pat_after, pat_level, pat, pat_behind, atpat}
use Rattle.core_patterns.specs.declared.operand.Operand.{Operand}
use Rattle.core_patterns.specs.declared.operand.Operand.TheVariants as o
use Rattle.core_patterns.specs.declared.operand.Run.{Run}
use Rattle.phrase_reading.specs.Words.{g, is, at, given}
use Rattle.sml_lexer.specs.Words.{word_of}
use Rattle.phrase_reading.specs.declared.tall.Tall.{Tall}
use Rattle.sml_lexer.specs.declared.words.Word.{Word}
use Rattle.sml_lexer.specs.declared.words.Word.TheVariants as w
use Rattle.lexeme_laws.specs.Limits.{IsWithinLimits}
use Rattle.code_laws.specs.Constants.{fits_int}
use Rattle.body_laws.proofs.Signatures.{Each}
use Rattle.constant_laws.proofs.Keeping.{Good, Keeps, keep_pure, keep_refuse, keep_bind, keep_then, keep_on, keep_on_good, keep_within, keep_many, Holds, leaf_is, over_is, part_is, one_is, more_is, further_keeps, maybe_keeps, each-append}
use Rattle.fitting_forms.proofs.PatForms.{PatIs, FieldIs, ItemIs, pat-Wild, pat-Constant, pat-Long, pat-Record, pat-Unit, pat-Tuple, pat-Paren, pat-List, pat-Run, pat-Typed, pat-As, item-Atom, item-Operator, field-Labelled, field-Named}

pub int_fits : (n : ℤ) → FitsSigned w64 n → fits_int n ≡ true
int_fits (pos n) is = let low : n < 2 ^ 63 = is.sfits in grind (arith, nat_tests)
int_fits (negsuc n) is = let low : n < 2 ^ 63 = is.sfits in grind (arith, nat_tests)

-- an operand whose constants fit, wherever it stands
abbrev pub IsOperand : Operand → Type 0
IsOperand operand = (place : At) → Holds PatIs (plain place operand)

-- the parts of such a run
pub record IsRun (run : Run) : Type 0 where
  pub items : Each ItemIs run.items

id_is : (id : OpLong) → IsOperand (o.Id id)
id_is id place = leaf_is (p.Long id place) (pat-Long id place)

pub start_is : (place : At) (operand : Operand) → IsOperand operand → IsRun (start place operand)
start_is place operand is = record { items = (item-Atom (plain place operand).tree (is place).tree, tt) }

argument_is : (run : Run) (place : At) (operand : Operand) → IsRun run → IsOperand operand
    → IsRun (with_argument run place operand)
argument_is run place operand so is = record {
  items = each-append ItemIs run.items (i.Atom (plain place operand).tree ∷ []) so.items
      (item-Atom (plain place operand).tree (is place).tree, tt);
}

pub operand_is : (run : Run) (called : Name) (f : Fixity) (place : At) (operand : Operand) → IsRun run
    → IsOperand operand → IsRun (with_operand run called f place operand)
operand_is run called f place operand so is = record {
  items = each-append ItemIs (run.items ++ i.Operator called f ∷ []) (i.Atom (plain place operand).tree ∷ [])
      (each-append ItemIs run.items (i.Operator called f ∷ []) so.items (item-Operator called f, tt))
      (item-Atom (plain place operand).tree (is place).tree, tt);
}

pub whole_is : (place : At) (all : Run) → IsRun all → Holds PatIs (whole_run place all)
whole_is place all so = record { tree = pat-Run all.items place so.items }

-- over types, and patterns of one level less
module _ (tys : g (Tall FullTy)) (below : g (Tall FullPat)) (pats : Keeps below (Holds PatIs)) where
  brackets_keep : (place : At) → Keeps (in_brackets below place) (Holds PatIs)
  unfolding in_brackets items_of
  brackets_keep place =
      keep_on (λ _. keep_pure _ (leaf_is (p.List [] place) (pat-List [] place tt)))
      (keep_bind pats (λ first is. keep_bind (further_keeps _ pats (one_is is))
      (λ items are. keep_then (λ _. keep_pure _ (over_is _ (λ items. pat-List items place) are)))))

  pub first_keeps : (place : At) (first : Tall FullPat) → Holds PatIs first
      → Keeps (behind_first below place first) (Holds PatIs)
  unfolding behind_first tuple_of
  first_keeps place first is =
      keep_on
      (λ _. keep_bind pats (λ second so. keep_bind (further_keeps _ pats (more_is (one_is is) so))
      (λ parts are. keep_then (λ _. keep_pure _ (over_is _ (λ parts. pat-Tuple parts place) are)))))
      (keep_then (λ _. keep_pure _ (over_is _ (λ inner. pat-Paren inner place) is)))

  parens_keep : (place : At) → Keeps (in_parens below place) (Holds PatIs)
  unfolding in_parens inside_parens
  parens_keep place =
      keep_on (λ _. keep_pure _ (leaf_is (p.Unit place) (pat-Unit place)))
      (keep_bind pats (λ first is. first_keeps place first is))

  field_keeps : Keeps (field tys below) (Holds FieldIs)
  unfolding field field_behind labelled named_field
  field_keeps =
      keep_then (λ label. keep_on
      (λ _. keep_bind pats (λ inner is. keep_pure _ (part_is _ (field-Labelled label.name) is)))
      (by_name label.is_name label.name))
    where
      by_name : (so : Bool) (called : Name) → Keeps (if_name so (named_field tys below called)) (Holds FieldIs)
      by_name true called =
          keep_then (λ ty. keep_bind (maybe_keeps _ pats) (λ inner so.
          keep_pure _ (record { tree = field-Named called ty.tree inner.tree so.tree })))
      by_name false called = keep_refuse

  record_keeps : (place : At) → Keeps (record_of tys below place) (Holds PatIs)
  unfolding record_of fields_of
  record_keeps place =
      keep_on (λ _. keep_pure _ (leaf_is (p.Record [] place) (pat-Record [] place tt)))
      (keep_bind field_keeps (λ first is. keep_bind (further_keeps _ field_keeps (one_is is))
      (λ fields are. keep_then (λ _. keep_pure _ (over_is _ (λ fields. pat-Record fields place) are)))))

  other_keeps : (grammar : g (Tall FullPat)) → Keeps grammar (Holds PatIs) → Keeps (other grammar) IsOperand
  unfolding other
  other_keeps grammar each = keep_bind each (λ found is. keep_pure _ (λ place. is))

  atpat_word_keeps : (place : At) (found : Option Word) → Keeps (atpat_word tys below place found) IsOperand
  unfolding behind_op
  atpat_word_keeps place (Some w.Wild) = keep_pure _ (λ _. leaf_is (p.Wild place) (pat-Wild place))
  atpat_word_keeps place (Some w.Op) = keep_then (λ called. keep_pure _ (id_is _))
  atpat_word_keeps place (Some w.Open) = other_keeps _ (parens_keep place)
  atpat_word_keeps place (Some w.OpenBrace) = other_keeps _ (record_keeps place)
  atpat_word_keeps place (Some w.OpenBracket) = other_keeps _ (brackets_keep place)
  atpat_word_keeps place _ = keep_refuse

  atpat_keeps : (x : Lexeme) (kind : LexemeKind) → IsWithinLimits kind → Keeps (atpat_kind tys below x kind) IsOperand
  atpat_keeps x (k.Reserved text) good = atpat_word_keeps (at x) (word_of text)
  atpat_keeps x (k.Name parts) good = keep_pure _ (id_is _)
  atpat_keeps x (k.TyVar text) good = keep_refuse
  atpat_keeps x (k.Int value ok) good =
      keep_pure _ (λ _. leaf_is (p.Constant (c.Int value) (at x)) (pat-Constant (c.Int value) (at x) (int_fits value good)))
  atpat_keeps x (k.Str text) good =
      keep_pure _ (λ _. leaf_is (p.Constant (c.Str text) (at x)) (pat-Constant (c.Str text) (at x) tt))
  atpat_keeps x (k.Char byte) good =
      keep_pure _ (λ _. leaf_is (p.Constant (c.Char byte) (at x)) (pat-Constant (c.Char byte) (at x) good))

  pub typed_keeps : (n : ℕ) (place : At) (left : Tall FullPat) → Holds PatIs left
      → Keeps (typed n tys place left) (Holds PatIs)
  unfolding typed constrained
  typed_keeps n place left is =
      keep_many (λ left x _ so. keep_within (keep_then (λ ty.
      keep_pure _ (record { tree = pat-Typed left.tree ty.tree place so.tree })))) left is

  layer_keeps : (place : At) (called : OpName) (ty : Tall (Option FullTy))
      → Keeps (layer below place called ty) (Holds PatIs)
  unfolding layer
  layer_keeps place called ty =
      keep_bind pats (λ inner so. keep_pure _ (record { tree = pat-As called ty.tree inner.tree place so.tree }))

  layered_keeps : (place : At) (called : Option OpName) (ty : Tall (Option FullTy))
      → Keeps (given (λ called. layer below place called ty) called) (Holds PatIs)
  layered_keeps place None ty = keep_refuse
  layered_keeps place (Some called) ty = layer_keeps place called ty

  name_keeps : (n : ℕ) (atoms : Lexeme → g Operand) (place : At) (id : OpLong)
      → Keeps (behind_id n tys (record { pat = below; atpat = atoms }) place id) (Holds PatIs)
  unfolding behind_id behind_name typed_id behind_typed
  name_keeps n atoms place id =
      keep_on (λ x. layered_keeps place (layered id x) no_type)
      (keep_on (λ _. keep_within (keep_then (λ ty. keep_on
      (λ x. layered_keeps place (layered id x) (some_type ty))
      (typed_keeps n place (id_under place id ty)
      (record { tree = pat-Typed (p.Long id place) ty.tree place (pat-Long id place) })))))
      (keep_pure _ (id_is id place)))

  -- atomic patterns of one level less, too
  module _ (fs : Fixities) (atoms : Lexeme → g Operand) (each : (x : Lexeme) → Good x → Keeps (atoms x) IsOperand) where
    abbrev parts : PatLevel
    parts = record { pat = below; atpat = atoms }

    pub step_keeps : (n : ℕ) (run : Run) (x : Lexeme) → Good x → IsRun run → Keeps (run_step fs n parts run x) IsRun
    unfolding argument operand_behind operand_joined
    step_keeps n run x good is = keep_within (by_name (joining (operator fs x) run.ops))
      where
        by_name : (found : Option Fixity) → Keeps (by_operator fs parts run x found) IsRun
        by_name None = keep_bind (each x good) (λ operand it. keep_pure _ (argument_is run (at x) operand is it))
        by_name (Some f) =
            keep_on_good (λ y fits. keep_bind (each y fits) (λ operand it.
            keep_pure _ (operand_is run _ f (at y) operand is it))) keep_refuse

    pub rest_keeps : (n : ℕ) (place : At) (run : Run) → IsRun run
        → Keeps (run_rest fs n tys parts place run) (Holds PatIs)
    unfolding run_rest run_on
    rest_keeps n place run is =
        keep_bind (keep_many (λ run x good so. step_keeps n run x good so) run is)
        (λ all so. typed_keeps n place (whole_run place all) (whole_is place all so))

    alone_keeps : (n : ℕ) (place : At) (operand : Operand) → IsOperand operand
        → Keeps (alone n tys parts place operand) (Holds PatIs)
    alone_keeps n place (o.Id id) is = name_keeps n atoms place id
    alone_keeps n place (o.Other pat) is = typed_keeps n place pat (is place)

    pub behind_keeps : (n : ℕ) (place : At) (operand : Operand) → IsOperand operand
        → Keeps (behind_operand fs n tys parts place operand) (Holds PatIs)
    unfolding behind_operand
    behind_keeps n place operand is =
        keep_on_good (λ x good. keep_bind (step_keeps n (start place operand) x good (start_is place operand is))
        (λ run so. rest_keeps n place run so))
        (alone_keeps n place operand is)

    pat_after_keeps : (n : ℕ) (x : Lexeme) → Good x → Keeps (pat_after fs n tys parts x) (Holds PatIs)
    unfolding pat_after
    pat_after_keeps n x good =
        keep_bind (atpat_keeps x x.kind good) (λ operand is. behind_keeps n (at x) operand is)

-- all phrases of so many levels
pub record PatLevelIs (level : PatLevel) : Type 0 where
  pub pat : Keeps level.pat (Holds PatIs)
  pub atpat : (x : Lexeme) → Good x → Keeps (level.atpat x) IsOperand

pub levels_keep : (fs : Fixities) (n : ℕ) → PatLevelIs (pat_level fs n)
unfolding pat_level
levels_keep fs zero =
    record { pat = keep_on (λ _. keep_within keep_refuse) keep_refuse; atpat = λ _ _. keep_within keep_refuse }
levels_keep fs (suc n) =
    let below = levels_keep fs n in
    record {
      pat = keep_on_good (λ x good. pat_after_keeps (ty n) (pat_level fs n).pat below.pat fs (pat_level fs n).atpat
          below.atpat (suc n) x good) keep_refuse;
      atpat = λ x good. atpat_keeps (ty n) (pat_level fs n).pat below.pat x x.kind good;
    }

pub operand_keeps : (fs : Fixities) (n : ℕ) (x : Lexeme) → Good x → Keeps ((pat_level fs n).atpat x) IsOperand
operand_keeps fs n x good = (levels_keep fs n).atpat x good

-- a pattern behind its first lexeme
pub pat_behind_keeps : (fs : Fixities) (n : ℕ) (x : Lexeme) → Good x → Keeps (pat_behind fs n x) (Holds PatIs)
unfolding pat_behind
pat_behind_keeps fs n x good =
    let below = levels_keep fs (n - 1) in
    keep_within (pat_after_keeps (ty (n - 1)) (pat_level fs (n - 1)).pat below.pat fs (pat_level fs (n - 1)).atpat
    below.atpat n x good)
