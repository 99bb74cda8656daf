-- The names of each pattern that is read fit.
use Rattle.std.proofs.Common.{◌≡◌, ℕ, zero, suc, ◌-◌, nat_le, List, [], ◌∷◌, ◌++◌, length, Option, None, Some, Bool, true, false, arith}
use Rattle.std.specs.List.{list_all}
use Rattle.std.proofs.lemmas.Bool.{and_parts}
use Rattle.sml_lexer.specs.declared.lexeme.Lexeme.{Lexeme}
use Rattle.sml_lexer.specs.declared.lexeme.LexemeKind.{LexemeKind}
use Rattle.sml_lexer.specs.declared.lexeme.LexemeKind.TheVariants as k
use Rattle.sml_trees.specs.declared.name.At.{At}
use Rattle.sml_trees.specs.declared.name.Name.{Name}
use Rattle.sml_trees.specs.declared.full_ty.FullTy.{FullTy}
use Rattle.sml_trees.specs.declared.full_ty.OpLong.{OpLong}
use Rattle.sml_trees.specs.declared.full_ty.OpName.{OpName}
use Rattle.sml_trees.specs.declared.full_pat.Constant.TheVariants as c
use Rattle.sml_trees.specs.declared.full_pat.Fixity.{Fixity}
use Rattle.sml_trees.specs.declared.full_pat.FullPat.{FullPat}
use Rattle.sml_trees.specs.declared.full_pat.FullPat.TheVariants as p
use Rattle.sml_trees.specs.declared.full_pat.FullPatItem.TheVariants as i
use Rattle.infix_names.specs.Fixities.{if_name as if_name_of, Fixities, fixity_of, joining}
use Rattle.core_types.specs.Types.{ty}
use Rattle.core_patterns.specs.Patterns.{PatLevel, plain, items_of, in_brackets, tuple_of, behind_first, inside_parens, in_parens, labelled, named_field, if_name, field_behind, field, fields_of, record_of, other, behind_op, atpat_word, atpat_kind, start, with_argument, with_operand, operator, operand_joined, operand_behind, argument, by_operator, run_step, run_on, whole_run, constrained, typed, if_only, simple, if_as, layered, layer, some_type, no_type, id_under, behind_typed, typed_id, behind_name, behind_id, alone, run_rest, behind_operand, pat_after, pat_level, pat, pat_behind}
use Rattle.core_patterns.specs.declared.operand.Operand.{Operand}
use Rattle.core_patterns.specs.declared.operand.Operand.TheVariants as o
use Rattle.core_patterns.specs.declared.operand.Run.{Run}
use Rattle.phrase_reading.specs.Words.{g, is, at, given, only, name_of, or_empty}
use Rattle.sml_lexer.specs.Words.{word_of}
use Rattle.phrase_reading.specs.declared.tall.Tall.{Tall}
use Rattle.sml_lexer.specs.declared.words.Word.{Word}
use Rattle.sml_lexer.specs.declared.words.Word.TheVariants as w
use Rattle.lexeme_laws.specs.Limits.{IsWithinLimits}
use Rattle.body_laws.proofs.Signatures.{Each}
use Rattle.fitting_names.specs.Names.{text_fits}
use Rattle.fitting_names.proofs.Texts.{FitText, parts_fit}
use Rattle.fitting_names.proofs.Nodes.{FitName, FitLong}
use Rattle.fitting_names.proofs.TyForms.{TyIs, IfTy}
use Rattle.fitting_names.proofs.PatForms.{PatIs, FieldIs, ItemIs, IfPatIs, full-Wild, full-Constant, full-Long, full-Record, full-Unit, full-Tuple, full-Paren, full-List, full-Run, full-Typed, full-As, item-Atom, item-Operator, field-Labelled, field-Named}
use Rattle.core_names.proofs.Keeping.{Good, Keeps, keep_pure, keep_refuse, keep_bind, keep_then, keep_on, keep_on_good, keep_within, keep_many, IfAny, Holds, leaf_is, over_is, one_is, more_is, further_keeps, further_few_keeps, maybe_keeps, each-append}
use Rattle.core_names.proofs.Named.{OpNameFits, long_is, name_of_fits, long_keeps, field_label_keeps}
use Rattle.core_names.proofs.Tys.{ty_keeps}

-- an operand whose names fit, and its pattern wherever it stands
abbrev pub IsOperand : Operand → Type 0
IsOperand (o.Id id) = FitLong id.long
IsOperand (o.Other pat) = Holds PatIs pat

pub plain_is : (place : At) (operand : Operand) → IsOperand operand → Holds PatIs (plain place operand)
plain_is place (o.Id id) is = leaf_is (p.Long id place) (full-Long id place is)
plain_is place (o.Other pat) is = is

-- the parts of such a run
pub record IsRun (run : Run) : Type 0 where
  pub items : Each ItemIs run.items

pub start_is : (place : At) (operand : Operand) → IsOperand operand → IsRun (start place operand)
start_is place operand is =
    record { items = (item-Atom (plain place operand).tree (plain_is place operand is).tree, tt) }

argument_is : (run : Run) (place : At) (operand : Operand) → IsRun run → IsOperand operand
    → IsRun (with_argument run place operand)
argument_is run place operand so is = record {
  items = each-append ItemIs run.items (i.Atom (plain place operand).tree ∷ []) so.items
      (item-Atom (plain place operand).tree (plain_is place operand is).tree, tt);
}

pub operand_is : (run : Run) (called : Name) (f : Fixity) (place : At) (operand : Operand) → FitName called
    → IsRun run → IsOperand operand → IsRun (with_operand run called f place operand)
operand_is run called f place operand fits so is = record {
  items = each-append ItemIs (run.items ++ i.Operator called f ∷ []) (i.Atom (plain place operand).tree ∷ [])
      (each-append ItemIs run.items (i.Operator called f ∷ []) so.items (item-Operator called f fits, tt))
      (item-Atom (plain place operand).tree (plain_is place operand is).tree, tt);
}

pub whole_is : (place : At) (all : Run) → IsRun all → Holds PatIs (whole_run place all)
whole_is place all so = record { tree = full-Run all.items place so.items }

-- what stands under a name, by what may be absent
pub if_ty : (given : Option FullTy) → IfAny TyIs given → IfTy given
if_ty None is = tt
if_ty (Some ty) is = is

if_pat : (given : Option FullPat) → IfAny PatIs given → IfPatIs given
if_pat None is = tt
if_pat (Some pat) is = is

-- the name that a pattern is layered under
only_part : (id : OpLong) (parts : List (List ℕ)) → list_all text_fits parts ≡ true
    → IfAny OpNameFits (if_only id (only parts))
only_part id [] is = tt
only_part id (part ∷ []) is = (and_parts (text_fits part) true is).0
only_part id (part ∷ second ∷ parts) is = tt

if_as_fits : (b : Bool) (found : Option OpName) → IfAny OpNameFits found
    → IfAny OpNameFits (if_as b found)
if_as_fits true found fits = fits
if_as_fits false found fits = tt

layered_fits : (id : OpLong) (x : Lexeme) → FitLong id.long → IfAny OpNameFits (layered id x)
layered_fits id x fits =
    if_as_fits (is w.As x) (simple id)
    (only_part id id.long.parts (and_parts (nat_le 1 (length id.long.parts)) (list_all text_fits id.long.parts) fits).1)

-- the name of an operator
joined_fits : (fs : Fixities) (x : Lexeme) (o : Option (List ℕ)) (ops : List Fixity) → IfAny FitText o
    → IfAny (λ _. FitText (or_empty o)) (joining (if_name_of fs o) ops)
joined_fits fs x None ops fits = tt
joined_fits fs x (Some text) ops fits = any_fits (joining (fixity_of fs text) ops)
  where
    any_fits : (found : Option Fixity) → IfAny (λ _. FitText text) found
    any_fits None = tt
    any_fits (Some f) = fits

-- over types, and patterns of one level less
module _ (tys : g (Tall FullTy)) (types : Keeps tys (Holds TyIs)) (below : g (Tall FullPat))
    (pats : Keeps below (Holds PatIs)) where
  brackets_keep : (place : At) → Keeps (in_brackets below place) (Holds PatIs)
  unfolding in_brackets items_of
  brackets_keep place =
      keep_on (λ _. keep_pure _ (leaf_is (p.List [] place) (full-List [] place tt)))
      (keep_bind pats (λ first is. keep_bind (further_keeps _ pats (one_is is))
      (λ items are. keep_then (λ _. keep_pure _ (over_is _ (λ items. full-List items place) are)))))

  pub first_keeps : (place : At) (first : Tall FullPat) → Holds PatIs first
      → Keeps (behind_first below place first) (Holds PatIs)
  unfolding behind_first tuple_of
  first_keeps place first is =
      keep_on
      (λ _. keep_bind pats (λ second so.
      keep_bind (further_few_keeps _ (omega arith) pats (more_is (one_is is) so)) (λ parts are. keep_then (λ _.
      keep_pure _ (record { tree = full-Tuple parts.tree place are.few are.all })))))
      (keep_then (λ _. keep_pure _ (over_is _ (λ inner. full-Paren inner place) is)))

  parens_keep : (place : At) → Keeps (in_parens below place) (Holds PatIs)
  unfolding in_parens inside_parens
  parens_keep place =
      keep_on (λ _. keep_pure _ (leaf_is (p.Unit place) (full-Unit place)))
      (keep_bind pats (λ first is. first_keeps place first is))

  field_keeps : Keeps (field tys below) (Holds FieldIs)
  unfolding field field_behind labelled named_field
  field_keeps =
      keep_bind field_label_keeps (λ label fits. keep_on
      (λ _. keep_bind pats (λ inner is.
      keep_pure _ (record { tree = field-Labelled label.name inner.tree fits is.tree })))
      (by_name label.is_name label.name fits))
    where
      by_name : (so : Bool) (called : Name) → FitName called
          → Keeps (if_name so (named_field tys below called)) (Holds FieldIs)
      by_name true called fits =
          keep_bind (maybe_keeps _ types) (λ ty is. keep_bind (maybe_keeps _ pats) (λ inner so.
          keep_pure _ (record {
            tree = field-Named called ty.tree inner.tree fits (if_ty ty.tree is.tree) (if_pat inner.tree so.tree);
          })))
      by_name false called fits = keep_refuse

  record_keeps : (place : At) → Keeps (record_of tys below place) (Holds PatIs)
  unfolding record_of fields_of
  record_keeps place =
      keep_on (λ _. keep_pure _ (leaf_is (p.Record [] place) (full-Record [] place tt)))
      (keep_bind field_keeps (λ first is. keep_bind (further_keeps _ field_keeps (one_is is))
      (λ fields are. keep_then (λ _. keep_pure _ (over_is _ (λ fields. full-Record fields place) are)))))

  other_keeps : (grammar : g (Tall FullPat)) → Keeps grammar (Holds PatIs) → Keeps (other grammar) IsOperand
  unfolding other
  other_keeps grammar each = keep_bind each (λ found is. keep_pure _ is)

  atpat_word_keeps : (place : At) (found : Option Word) → Keeps (atpat_word tys below place found) IsOperand
  unfolding behind_op
  atpat_word_keeps place (Some w.Wild) = keep_pure _ (leaf_is (p.Wild place) (full-Wild place))
  atpat_word_keeps place (Some w.Op) = keep_bind long_keeps (λ called fits. keep_pure _ fits)
  atpat_word_keeps place (Some w.Open) = other_keeps _ (parens_keep place)
  atpat_word_keeps place (Some w.OpenBrace) = other_keeps _ (record_keeps place)
  atpat_word_keeps place (Some w.OpenBracket) = other_keeps _ (brackets_keep place)
  atpat_word_keeps place _ = keep_refuse

  atpat_keeps : (x : Lexeme) (kind : LexemeKind) → IsWithinLimits kind → Keeps (atpat_kind tys below x kind) IsOperand
  atpat_keeps x (k.Reserved text) good = atpat_word_keeps (at x) (word_of text)
  atpat_keeps x (k.Name parts) good =
      keep_pure _ (long_is parts x.line x.col (record { some = good.0; each = parts_fit parts good.1 }))
  atpat_keeps x (k.TyVar text) good = keep_refuse
  atpat_keeps x (k.Int value ok) good =
      keep_pure _ (leaf_is (p.Constant (c.Int value) (at x)) (full-Constant (c.Int value) (at x)))
  atpat_keeps x (k.Str text) good =
      keep_pure _ (leaf_is (p.Constant (c.Str text) (at x)) (full-Constant (c.Str text) (at x)))
  atpat_keeps x (k.Char byte) good =
      keep_pure _ (leaf_is (p.Constant (c.Char byte) (at x)) (full-Constant (c.Char byte) (at x)))

  pub typed_keeps : (n : ℕ) (place : At) (left : Tall FullPat) → Holds PatIs left
      → Keeps (typed n tys place left) (Holds PatIs)
  unfolding typed constrained
  typed_keeps n place left is =
      keep_many (λ left x _ so. keep_within (keep_bind types (λ ty is.
      keep_pure _ (record { tree = full-Typed left.tree ty.tree place so.tree is.tree })))) left is

  layer_keeps : (place : At) (called : OpName) (ty : Tall (Option FullTy)) → FitName called.name → IfTy ty.tree
      → Keeps (layer below place called ty) (Holds PatIs)
  unfolding layer
  layer_keeps place called ty fits is =
      keep_bind pats (λ inner so. keep_pure _
      (record { tree = full-As called ty.tree inner.tree place fits is so.tree }))

  layered_keeps : (place : At) (called : Option OpName) (ty : Tall (Option FullTy)) → IfAny OpNameFits called
      → IfTy ty.tree → Keeps (given (λ called. layer below place called ty) called) (Holds PatIs)
  layered_keeps place None ty fits is = keep_refuse
  layered_keeps place (Some called) ty fits is = layer_keeps place called ty fits is

  name_keeps : (n : ℕ) (atoms : Lexeme → g Operand) (place : At) (id : OpLong) → FitLong id.long
      → Keeps (behind_id n tys (record { pat = below; atpat = atoms }) place id) (Holds PatIs)
  unfolding behind_id behind_name typed_id behind_typed
  name_keeps n atoms place id fits =
      keep_on (λ x. layered_keeps place (layered id x) no_type (layered_fits id x fits) tt)
      (keep_on (λ _. keep_within (keep_bind types (λ ty is. keep_on
      (λ x. layered_keeps place (layered id x) (some_type ty) (layered_fits id x fits) is.tree)
      (typed_keeps n place (id_under place id ty)
      (record { tree = full-Typed (p.Long id place) ty.tree place (full-Long id place fits) is.tree })))))
      (keep_pure _ (plain_is place (o.Id id) fits)))

  -- atomic patterns of one level less, too
  module _ (fs : Fixities) (atoms : Lexeme → g Operand) (each : (x : Lexeme) → Good x → Keeps (atoms x) IsOperand) where
    abbrev parts : PatLevel
    parts = record { pat = below; atpat = atoms }

    pub step_keeps : (n : ℕ) (run : Run) (x : Lexeme) → Good x → IsRun run → Keeps (run_step fs n parts run x) IsRun
    unfolding argument operand_behind operand_joined
    step_keeps n run x good is =
        keep_within (by_name (joining (operator fs x) run.ops)
        (joined_fits fs x (name_of x) run.ops (name_of_fits x good)))
      where
        by_name : (found : Option Fixity) → IfAny (λ _. FitText (or_empty (name_of x))) found
            → Keeps (by_operator fs parts run x found) IsRun
        by_name None called = keep_bind (each x good) (λ operand it. keep_pure _ (argument_is run (at x) operand is it))
        by_name (Some f) called =
            keep_on_good (λ y fits. keep_bind (each y fits) (λ operand it.
            keep_pure _ (operand_is run _ f (at y) operand called is it))) keep_refuse

    pub rest_keeps : (n : ℕ) (place : At) (run : Run) → IsRun run
        → Keeps (run_rest fs n tys parts place run) (Holds PatIs)
    unfolding run_rest run_on
    rest_keeps n place run is =
        keep_bind (keep_many (λ run x good so. step_keeps n run x good so) run is)
        (λ all so. typed_keeps n place (whole_run place all) (whole_is place all so))

    alone_keeps : (n : ℕ) (place : At) (operand : Operand) → IsOperand operand
        → Keeps (alone n tys parts place operand) (Holds PatIs)
    alone_keeps n place (o.Id id) is = name_keeps n atoms place id is
    alone_keeps n place (o.Other pat) is = typed_keeps n place pat is

    pub behind_keeps : (n : ℕ) (place : At) (operand : Operand) → IsOperand operand
        → Keeps (behind_operand fs n tys parts place operand) (Holds PatIs)
    unfolding behind_operand
    behind_keeps n place operand is =
        keep_on_good (λ x good. keep_bind (step_keeps n (start place operand) x good (start_is place operand is))
        (λ run so. rest_keeps n place run so))
        (alone_keeps n place operand is)

    pat_after_keeps : (n : ℕ) (x : Lexeme) → Good x → Keeps (pat_after fs n tys parts x) (Holds PatIs)
    unfolding pat_after
    pat_after_keeps n x good =
        keep_bind (atpat_keeps x x.kind good) (λ operand is. behind_keeps n (at x) operand is)

-- all phrases of so many levels
pub record PatLevelIs (level : PatLevel) : Type 0 where
  pub pat : Keeps level.pat (Holds PatIs)
  pub atpat : (x : Lexeme) → Good x → Keeps (level.atpat x) IsOperand

pub levels_keep : (fs : Fixities) (n : ℕ) → PatLevelIs (pat_level fs n)
unfolding pat_level
levels_keep fs zero =
    record { pat = keep_on (λ _. keep_within keep_refuse) keep_refuse; atpat = λ _ _. keep_within keep_refuse }
levels_keep fs (suc n) =
    let below = levels_keep fs n in
    record {
      pat =
          keep_on_good (λ x good. pat_after_keeps (ty n) (ty_keeps n) (pat_level fs n).pat below.pat fs
          (pat_level fs n).atpat
          below.atpat (suc n) x good) keep_refuse;
      atpat = λ x good. atpat_keeps (ty n) (ty_keeps n) (pat_level fs n).pat below.pat x x.kind good;
    }

pub operand_keeps : (fs : Fixities) (n : ℕ) (x : Lexeme) → Good x → Keeps ((pat_level fs n).atpat x) IsOperand
operand_keeps fs n x good = (levels_keep fs n).atpat x good

-- a pattern behind its first lexeme
pub pat_behind_keeps : (fs : Fixities) (n : ℕ) (x : Lexeme) → Good x → Keeps (pat_behind fs n x) (Holds PatIs)
unfolding pat_behind
pat_behind_keeps fs n x good =
    let below = levels_keep fs (n - 1) in
    keep_within (pat_after_keeps (ty (n - 1)) (ty_keeps (n - 1)) (pat_level fs (n - 1)).pat below.pat fs
    (pat_level fs (n - 1)).atpat
    below.atpat n x good)
