-- No type or pattern is higher than the limit that it is read under.
use Rattle.std.proofs.Common.{◌≡◌, ℕ, zero, suc, ◌≤◌, List, Option, None, Some, Bool, true, false, nat_lt, arith}
use Rattle.std.proofs.lemmas.Bool.{ltb-true}
use Rattle.sml_lexer.specs.declared.lexeme.Lexeme.{Lexeme}
use Rattle.sml_lexer.specs.declared.lexeme.LexemeKind.{LexemeKind}
use Rattle.sml_lexer.specs.declared.lexeme.LexemeKind.TheVariants as k
use Rattle.sml_trees.specs.declared.name.At.{At}
use Rattle.sml_trees.specs.declared.name.Name.{Name}
use Rattle.sml_trees.specs.declared.full_ty.FullTy.{FullTy}
use Rattle.sml_trees.specs.declared.full_ty.OpLong.{OpLong}
use Rattle.sml_trees.specs.declared.full_ty.OpName.{OpName}
use Rattle.sml_trees.specs.declared.full_pat.Fixity.{Fixity}
use Rattle.sml_trees.specs.declared.full_pat.FullPat.{FullPat}
use Rattle.infix_names.specs.Fixities.{Fixities, joining}
use Rattle.core_types.specs.Types as t
use Rattle.core_types.specs.Types.{ty_level, ty}
use Rattle.core_patterns.specs.Patterns.{PatLevel, operand_height, items_of, in_brackets, tuple_of, behind_first, inside_parens, in_parens, labelled, named_field, if_name, field_behind, field, fields_of, record_of, other, behind_op, atpat_word, atpat_kind, start, operator, operand_joined, operand_behind, argument, by_operator, run_step, run_on, whole_run, constrained, typed, layered, layer, id_under, behind_typed, typed_id, behind_name, behind_id, alone, run_rest, behind_operand, pat_after, pat_level, pat}
use Rattle.core_patterns.specs.declared.operand.Operand.{Operand}
use Rattle.core_patterns.specs.declared.operand.Operand.TheVariants as o
use Rattle.core_patterns.specs.declared.operand.Run.{Run}
use Rattle.phrase_reading.specs.Sized.{more, one, further, maybe}
use Rattle.sml_lexer.specs.Words.{word_of}
use Rattle.phrase_reading.specs.Words.{g, at, given, made, tycon_of, long_named}
use Rattle.phrase_reading.specs.declared.tall.Tall.{Tall}
use Rattle.sml_lexer.specs.declared.words.Word.{Word}
use Rattle.sml_lexer.specs.declared.words.Word.TheVariants as w
use Rattle.head_laws.proofs.Passing.{Keeps, keep_pure, keep_refuse, keep_bind, keep_then, keep_on, keep_within, keep_many, keep_none}
use Rattle.head_laws.proofs.PatPassing.{plain_height}

-- at most so many levels
abbrev pub AtMost : {A : Type 0} → ℕ → Tall A → Type 0
AtMost most made = made.height ≤ most

below_limit : (height most : ℕ) → nat_lt height (suc most) ≡ true → height ≤ most
below_limit height most room = let low = ltb-true height (suc most) room in omega arith

further_low : {A : Type 0} (most : ℕ) (mark : Word) (each : g (Tall A)) (found : Tall (List A))
    → Keeps each (AtMost most) → found.height ≤ most → Keeps (further mark each found) (AtMost most)
unfolding further
further_low {A} most mark each found every low =
    keep_many (λ all x le. keep_bind every (λ next less. keep_pure _ (omega arith))) found low

maybe_low : {A : Type 0} (most : ℕ) (mark : Word) (each : g (Tall A)) → Keeps each (AtMost most)
    → Keeps (maybe mark each) (AtMost most)
unfolding maybe
maybe_low most mark each every = keep_on (λ _. keep_bind every (λ found le. keep_pure _ le)) (keep_pure _ (omega arith))

-- ---- types

module _ (n : ℕ) (below : g (Tall FullTy)) (it : Keeps below (AtMost n)) where
  ty_field_low : Keeps (t.field below) (AtMost n)
  unfolding t.field
  ty_field_low = keep_then (λ called. keep_then (λ _. keep_bind it (λ inner le. keep_pure _ le)))

  ty_word_low : (x : Lexeme) (found : Option Word) → Keeps (t.atom_word below x found) (AtMost (suc n))
  unfolding t.record_of t.fields_of t.in_parens t.behind_first t.applied_all
  ty_word_low x (Some w.Open) =
      keep_bind it (λ first le. keep_on
      (λ _. keep_bind it (λ second less. keep_bind
      (further_low n _ below (more (one first) second) it (omega arith)) (λ args low. keep_then (λ _. keep_then (λ long.
      keep_pure _ (omega arith))))))
      (keep_then (λ _. keep_pure _ (omega arith))))
  ty_word_low x (Some w.OpenBrace) =
      keep_on (λ _. keep_pure _ (omega arith))
      (keep_bind ty_field_low (λ first le. keep_bind (further_low n _ (t.field below) (one first) ty_field_low le)
      (λ fields low. keep_then (λ _. keep_pure _ (omega arith)))))
  ty_word_low x _ = keep_refuse

  ty_atom_low : (x : Lexeme) (kind : LexemeKind) → Keeps (t.atom_kind below x kind) (AtMost (suc n))
  ty_atom_low x (k.Reserved text) = ty_word_low x (word_of text)
  ty_atom_low x (k.Name parts) = keep_pure _ (omega arith)
  ty_atom_low x (k.TyVar text) = keep_pure _ (omega arith)
  ty_atom_low x (k.Int value ok) = keep_refuse
  ty_atom_low x (k.Str text) = keep_refuse
  ty_atom_low x (k.Char byte) = keep_refuse

  constructor_low : (place : At) (left : Tall FullTy) (x : Lexeme)
      → Keeps (t.constructor_after (suc n) place left x) (AtMost (suc n))
  constructor_low place left x = keep_within (λ room. by_name (below_limit left.height n room) (tycon_of x))
    where
      by_name : left.height ≤ n → (found : Option (List (List ℕ)))
          → Keeps (made (λ parts. t.apply place left (long_named x parts)) found) (AtMost (suc n))
      by_name low None = keep_refuse
      by_name low (Some parts) = keep_pure _ (omega arith)

  ty_part_low : (x : Lexeme) → Keeps (t.part_after (suc n) below x) (AtMost (suc n))
  unfolding t.part_after t.applied
  ty_part_low x =
      keep_bind (ty_atom_low x x.kind) (λ atom le. keep_many (λ left y low. constructor_low (at x) left y) atom le)

  ty_tuple_low : (part : g (Tall FullTy)) → Keeps part (AtMost n) → (place : At) (first : Tall FullTy)
      → first.height ≤ suc n → Keeps (t.tuple (suc n) part place first) (AtMost (suc n))
  unfolding t.tuple t.tuple_of t.starred
  ty_tuple_low part parts place first le =
      keep_on (λ _. keep_within (λ room. by_room (below_limit first.height n room))) (keep_pure first le)
    where
      by_room : first.height ≤ n → Keeps (t.tuple_of part place first) (AtMost (suc n))
      by_room low =
          keep_bind parts (λ second less. keep_bind (keep_many {P = AtMost n}
          (λ found x all. keep_bind parts (λ next under. keep_pure _ (omega arith)))
          (more (one first) second) (omega arith)) (λ all under. keep_pure _ (omega arith)))

  ty_arrow_low : (place : At) (left : Tall FullTy) → left.height ≤ suc n
      → Keeps (t.arrow (suc n) below place left) (AtMost (suc n))
  unfolding t.arrow t.arrow_of
  ty_arrow_low place left le =
      keep_on (λ _. keep_within (λ room. by_room (below_limit left.height n room))) (keep_pure left le)
    where
      by_room : left.height ≤ n → Keeps (t.arrow_of below place left) (AtMost (suc n))
      by_room low = keep_bind it (λ right less. keep_pure _ (omega arith))

record TyLow (n : ℕ) : Type 0 where
  ty : Keeps (ty_level n).ty (AtMost n)
  part : Keeps (ty_level n).part (AtMost n)

ty_levels_low : (n : ℕ) → TyLow n
unfolding ty_level t.ty_after
ty_levels_low zero = record { ty = keep_on (λ _. keep_none) keep_refuse; part = keep_on (λ _. keep_none) keep_refuse }
ty_levels_low (suc n) =
    let below = ty_levels_low n in
    record {
      ty = keep_on (λ x. keep_bind (ty_part_low n (ty_level n).ty below.ty x) (λ first le.
          keep_bind (ty_tuple_low n (ty_level n).ty below.ty (ty_level n).part below.part (at x) first le) (λ left less.
          ty_arrow_low n (ty_level n).ty below.ty (at x) left less))) keep_refuse;
      part = keep_on (λ x. ty_part_low n (ty_level n).ty below.ty x) keep_refuse;
    }

pub ty_low : (n : ℕ) → Keeps (ty n) (AtMost n)
ty_low n = (ty_levels_low n).ty

-- ---- patterns

abbrev OperandAtMost : ℕ → Operand → Type 0
OperandAtMost most operand = operand_height operand ≤ most

abbrev RunAtMost : ℕ → Run → Type 0
RunAtMost most run = run.height ≤ most

module _ (n : ℕ) (tys : g (Tall FullTy)) (it : Keeps tys (AtMost n)) (below : g (Tall FullPat))
    (pats : Keeps below (AtMost n)) where
  parens_low : (place : At) → Keeps (in_parens below place) (AtMost (suc n))
  unfolding in_parens inside_parens behind_first tuple_of
  parens_low place =
      keep_on (λ _. keep_pure _ (omega arith))
      (keep_bind pats (λ first le. keep_on
      (λ _. keep_bind pats (λ second less. keep_bind (further_low n _ below (more (one first) second) pats
      (omega arith))
      (λ parts low. keep_then (λ _. keep_pure _ (omega arith)))))
      (keep_then (λ _. keep_pure _ (omega arith)))))

  brackets_low : (place : At) → Keeps (in_brackets below place) (AtMost (suc n))
  unfolding in_brackets items_of
  brackets_low place =
      keep_on (λ _. keep_pure _ (omega arith))
      (keep_bind pats (λ first le. keep_bind (further_low n _ below (one first) pats le)
      (λ items low. keep_then (λ _. keep_pure _ (omega arith)))))

  field_low : Keeps (field tys below) (AtMost n)
  unfolding field field_behind labelled named_field
  field_low =
      keep_then (λ label. keep_on (λ _. keep_bind pats (λ inner le. keep_pure _ le)) (by_name label.is_name label.name))
    where
      by_name : (so : Bool) (called : Name) → Keeps (if_name so (named_field tys below called)) (AtMost n)
      by_name true called =
          keep_bind (maybe_low n _ tys it) (λ ty le. keep_bind (maybe_low n _ below pats) (λ inner less.
          keep_pure _ (omega arith)))
      by_name false called = keep_refuse

  record_low : (place : At) → Keeps (record_of tys below place) (AtMost (suc n))
  unfolding record_of fields_of
  record_low place =
      keep_on (λ _. keep_pure _ (omega arith))
      (keep_bind field_low (λ first le. keep_bind (further_low n _ (field tys below) (one first) field_low le)
      (λ fields low. keep_then (λ _. keep_pure _ (omega arith)))))

  other_low : (grammar : g (Tall FullPat)) → Keeps grammar (AtMost (suc n))
      → Keeps (other grammar) (OperandAtMost (suc n))
  unfolding other
  other_low grammar each = keep_bind each (λ found le. keep_pure _ le)

  word_low : (place : At) (found : Option Word) → Keeps (atpat_word tys below place found) (OperandAtMost (suc n))
  unfolding behind_op
  word_low place (Some w.Wild) = keep_pure _ (omega arith)
  word_low place (Some w.Op) = keep_then (λ called. keep_pure _ (omega arith))
  word_low place (Some w.Open) = other_low _ (parens_low place)
  word_low place (Some w.OpenBrace) = other_low _ (record_low place)
  word_low place (Some w.OpenBracket) = other_low _ (brackets_low place)
  word_low place _ = keep_refuse

  atpat_low : (x : Lexeme) (kind : LexemeKind) → Keeps (atpat_kind tys below x kind) (OperandAtMost (suc n))
  atpat_low x (k.Reserved text) = word_low (at x) (word_of text)
  atpat_low x (k.Name parts) = keep_pure _ (omega arith)
  atpat_low x (k.TyVar text) = keep_refuse
  atpat_low x (k.Int value ok) = keep_pure _ (omega arith)
  atpat_low x (k.Str text) = keep_pure _ (omega arith)
  atpat_low x (k.Char byte) = keep_pure _ (omega arith)

  typed_low : (place : At) (left : Tall FullPat) → left.height ≤ suc n
      → Keeps (typed (suc n) tys place left) (AtMost (suc n))
  unfolding typed constrained
  typed_low place left le =
      keep_many (λ left x low. keep_within (λ room. keep_bind it (λ ty less.
      keep_pure _ (let under = below_limit left.height n room in omega arith)))) left le

  layer_low : (place : At) (called : Option OpName) (ty : Tall (Option FullTy)) → ty.height ≤ n
      → Keeps (given (λ called. layer below place called ty) called) (AtMost (suc n))
  unfolding layer
  layer_low place None ty le = keep_refuse
  layer_low place (Some called) ty le = keep_bind pats (λ inner less. keep_pure _ (omega arith))

  name_low : (atoms : Lexeme → g Operand) (place : At) (id : OpLong)
      → Keeps (behind_id (suc n) tys (record { pat = below; atpat = atoms }) place id) (AtMost (suc n))
  unfolding behind_id behind_name typed_id behind_typed
  name_low atoms place id =
      keep_on (λ x. layer_low place (layered id x) _ (omega arith))
      (keep_on (λ _. keep_within (λ room. keep_bind it (λ ty le. keep_on
      (λ x. layer_low place (layered id x) _ le)
      (typed_low place (id_under place id ty) (let under = below_limit 1 n room in omega arith)))))
      (keep_pure _ (omega arith)))

  module _ (fs : Fixities) (atoms : Lexeme → g Operand) (each : (x : Lexeme) → Keeps (atoms x) (OperandAtMost n)) where
    abbrev parts : PatLevel
    parts = record { pat = below; atpat = atoms }

    operator_low : (run : Run) (x : Lexeme) (found : Option Fixity) → run.height ≤ n
        → Keeps (by_operator fs parts run x found) (RunAtMost n)
    unfolding argument operand_behind operand_joined
    operator_low run x None le =
        keep_bind (each x) (λ operand low. keep_pure _ (let same = plain_height (at x) operand in omega arith))
    operator_low run x (Some f) le =
        keep_on (λ y. keep_bind (each y) (λ operand low. keep_pure _ (let same = plain_height
        (at y) operand in omega arith)))
        keep_refuse

    step_low : (run : Run) (x : Lexeme) → Keeps (run_step fs (suc n) parts run x) (RunAtMost n)
    step_low run x =
        keep_within (λ room. operator_low run x (joining (operator fs x) run.ops) (below_limit run.height n room))

    rest_low : (place : At) (run : Run) → run.height ≤ n → Keeps (run_rest fs (suc n) tys parts place run) (AtMost
        (suc n))
    unfolding run_rest run_on
    rest_low place run le =
        keep_bind (keep_many {P = RunAtMost n} (λ run x low. step_low run x) run le)
        (λ all low. typed_low place (whole_run place all) (omega arith))

    alone_low : (place : At) (operand : Operand) → operand_height operand ≤ suc n
        → Keeps (alone (suc n) tys parts place operand) (AtMost (suc n))
    alone_low place (o.Id id) le = name_low atoms place id
    alone_low place (o.Other pat) le = typed_low place pat le

    after_low : (x : Lexeme) → Keeps (pat_after fs (suc n) tys parts x) (AtMost (suc n))
    unfolding pat_after behind_operand
    after_low x =
        keep_bind (atpat_low x x.kind) (λ operand le. keep_on
        (λ y. keep_bind (step_low (start (at x) operand) y) (λ run low. rest_low (at x) run low))
        (alone_low (at x) operand le))

record PatLow (fs : Fixities) (n : ℕ) : Type 0 where
  pat : Keeps (pat_level fs n).pat (AtMost n)
  atpat : (x : Lexeme) → Keeps ((pat_level fs n).atpat x) (OperandAtMost n)

pat_levels_low : (fs : Fixities) (n : ℕ) → PatLow fs n
unfolding pat_level
pat_levels_low fs zero = record { pat = keep_on (λ _. keep_none) keep_refuse; atpat = λ x. keep_none }
pat_levels_low fs (suc n) =
    let below = pat_levels_low fs n in
    record {
      pat = keep_on (λ x. after_low n (ty n) (ty_low n) (pat_level fs n).pat below.pat fs
          (pat_level fs n).atpat below.atpat x)
          keep_refuse;
      atpat = λ x. atpat_low n (ty n) (ty_low n) (pat_level fs n).pat below.pat x x.kind;
    }

pub operand_low : (fs : Fixities) (n : ℕ) (x : Lexeme) → Keeps ((pat_level fs n).atpat x)
    (λ operand. operand_height operand ≤ n)
operand_low fs n x = (pat_levels_low fs n).atpat x
