-- A pattern that is read under one limit is read under each other that is no lower than the pattern.
use Rattle.std.proofs.Common.{◌≡◌, ℕ, zero, suc, ◌+◌, ◌≤◌, max, Option, None, Some, Bool, true, false, refl, arith}
use Rattle.sml_lexer.specs.declared.lexeme.Lexeme.{Lexeme}
use Rattle.sml_lexer.specs.declared.lexeme.LexemeKind.{LexemeKind}
use Rattle.sml_lexer.specs.declared.lexeme.LexemeKind.TheVariants as k
use Rattle.sml_trees.specs.declared.name.At.{At}
use Rattle.sml_trees.specs.declared.name.Name.{Name}
use Rattle.sml_trees.specs.declared.full_ty.FullTy.{FullTy}
use Rattle.sml_trees.specs.declared.full_ty.OpLong.{OpLong}
use Rattle.sml_trees.specs.declared.full_ty.OpName.{OpName}
use Rattle.sml_trees.specs.declared.full_pat.Fixity.{Fixity}
use Rattle.sml_trees.specs.declared.full_pat.FullPat.{FullPat}
use Rattle.infix_names.specs.Fixities.{Fixities, joining}
use Rattle.core_types.specs.Types.{ty}
use Rattle.core_patterns.specs.Patterns.{PatLevel, plain, operand_height, items_of, in_brackets, tuple_of, behind_first, inside_parens, in_parens, labelled, named_field, if_name, field_behind, field, fields_of, record_of, other, behind_op, atpat_word, atpat_kind, start, operator, operand_joined, operand_behind, argument, by_operator, run_step, run_on, whole_run, constrained, typed, layered, layer, id_under, behind_typed, typed_id, behind_name, behind_id, alone, run_rest, behind_operand, pat_after, pat_level, pat}
use Rattle.core_patterns.specs.declared.operand.Operand.{Operand}
use Rattle.core_patterns.specs.declared.operand.Operand.TheVariants as o
use Rattle.core_patterns.specs.declared.operand.Run.{Run}
use Rattle.phrase_reading.specs.Sized.{more, one}
use Rattle.sml_lexer.specs.Words.{word_of}
use Rattle.phrase_reading.specs.Words.{g, at, given}
use Rattle.phrase_reading.specs.declared.tall.Tall.{Tall}
use Rattle.sml_lexer.specs.declared.words.Word.{Word}
use Rattle.sml_lexer.specs.declared.words.Word.TheVariants as w
use Rattle.head_laws.proofs.Passing.{Keeps, keep_pure, keep_refuse, keep_bind, keep_then, keep_on, keep_within, keep_many, keep_weak, keep_none, Passes, pass_same, pass_none, pass_bind, pass_then, pass_first, pass_on, pass_within, pass_many, Fits, Low, fits_lower, fits_below, fits_above, fits_room, pass_high, pass_further, further_grows, pass_maybe}
use Rattle.head_laws.proofs.TyPassing.{ty_some, ty_passes}

-- ---- no part is higher than the whole

-- an operand is as high wherever it stands
pub plain_height : (place : At) (operand : Operand) → (plain place operand).height ≡ operand_height operand
plain_height place (o.Id id) = refl
plain_height place (o.Other pat) = refl

module _ (below : g (Tall FullPat)) where
  tuple_grows : (place : At) (first : Tall FullPat) → Keeps (tuple_of below place first)
      (λ made. first.height + 1 ≤ made.height)
  unfolding tuple_of
  tuple_grows place first =
      keep_then (λ second. keep_bind (further_grows _ below (more (one first) second)) (λ parts le. keep_then (λ _.
      keep_pure _ (omega arith))))

  pub first_grows : (place : At) (first : Tall FullPat)
      → Keeps (behind_first below place first) (λ made. first.height + 1 ≤ made.height)
  unfolding behind_first
  first_grows place first = keep_on (λ _. tuple_grows place first) (keep_then (λ _. keep_pure _ (omega arith)))

  parens_some : (place : At) → Keeps (in_parens below place) (λ made. 1 ≤ made.height)
  unfolding in_parens inside_parens
  parens_some place =
      keep_on (λ _. keep_pure _ (omega arith))
      (keep_then (λ first. keep_weak (first_grows place first) (λ made le. omega arith)))

  brackets_some : (place : At) → Keeps (in_brackets below place) (λ made. 1 ≤ made.height)
  unfolding in_brackets items_of
  brackets_some place =
      keep_on (λ _. keep_pure _ (omega arith))
      (keep_then (λ first. keep_then (λ items. keep_then (λ _. keep_pure _ (omega arith)))))

  record_some : (tys : g (Tall FullTy)) (place : At) → Keeps (record_of tys below place) (λ made. 1 ≤ made.height)
  unfolding record_of fields_of
  record_some tys place =
      keep_on (λ _. keep_pure _ (omega arith))
      (keep_then (λ first. keep_then (λ fields. keep_then (λ _. keep_pure _ (omega arith)))))

  other_some : (grammar : g (Tall FullPat)) → Keeps grammar (λ made. 1 ≤ made.height)
      → Keeps (other grammar) (λ operand. 1 ≤ operand_height operand)
  unfolding other
  other_some grammar some = keep_bind some (λ found le. keep_pure _ le)

  word_some : (tys : g (Tall FullTy)) (place : At) (found : Option Word)
      → Keeps (atpat_word tys below place found) (λ operand. 1 ≤ operand_height operand)
  unfolding behind_op
  word_some tys place (Some w.Wild) = keep_pure _ (omega arith)
  word_some tys place (Some w.Op) = keep_then (λ called. keep_pure _ (omega arith))
  word_some tys place (Some w.Open) = other_some _ (parens_some place)
  word_some tys place (Some w.OpenBrace) = other_some _ (record_some tys place)
  word_some tys place (Some w.OpenBracket) = other_some _ (brackets_some place)
  word_some tys place _ = keep_refuse

  atpat_some : (tys : g (Tall FullTy)) (x : Lexeme) (kind : LexemeKind)
      → Keeps (atpat_kind tys below x kind) (λ operand. 1 ≤ operand_height operand)
  atpat_some tys x (k.Reserved text) = word_some tys (at x) (word_of text)
  atpat_some tys x (k.Name parts) = keep_pure _ (omega arith)
  atpat_some tys x (k.TyVar text) = keep_refuse
  atpat_some tys x (k.Int value ok) = keep_pure _ (omega arith)
  atpat_some tys x (k.Str text) = keep_pure _ (omega arith)
  atpat_some tys x (k.Char byte) = keep_pure _ (omega arith)

module _ (levels : ℕ) (tys : g (Tall FullTy)) where
  constrained_grows : (place : At) (left : Tall FullPat)
      → Keeps (constrained levels tys place left) (λ made. left.height + 1 ≤ made.height)
  unfolding constrained
  constrained_grows place left = keep_within (λ room. keep_then (λ ty. keep_pure _ (omega arith)))

  pub typed_grows : (place : At) (left : Tall FullPat)
      → Keeps (typed levels tys place left) (λ made. left.height ≤ made.height)
  unfolding typed
  typed_grows place left =
      keep_many (λ found x le. keep_weak (constrained_grows place found) (λ made less. omega arith)) left (omega arith)

  layer_grows : (pats : g (Tall FullPat)) (place : At) (called : Option OpName) (ty : Tall (Option FullTy))
      → Keeps pats (λ made. 1 ≤ made.height)
      → Keeps (given (λ called. layer pats place called ty) called) (λ made. (ty.height + 1 ≤ made.height) ×
      (2 ≤ made.height))
  unfolding layer
  layer_grows pats place None ty some = keep_refuse
  layer_grows pats place (Some called) ty some =
      keep_bind some (λ inner le. keep_pure _ ((omega arith), (omega arith)))

  typed_id_grows : (below : PatLevel) (place : At) (id : OpLong) → Keeps below.pat (λ made. 1 ≤ made.height)
      → (ty : Tall FullTy)
      → Keeps (behind_typed levels tys below place id ty) (λ made. (ty.height + 1 ≤ made.height) × (2 ≤ made.height))
  unfolding behind_typed
  typed_id_grows below place id some ty =
      keep_on (λ x. layer_grows below.pat place (layered id x) _ some)
      (keep_weak (typed_grows place (id_under place id ty)) (λ made le. ((omega arith), (omega arith))))

  id_grows : (below : PatLevel) (place : At) (id : OpLong) → Keeps below.pat (λ made. 1 ≤ made.height)
      → Keeps (behind_id levels tys below place id) (λ made. 1 ≤ made.height)
  unfolding behind_id behind_name typed_id
  id_grows below place id some =
      keep_on (λ x. keep_weak (layer_grows below.pat place (layered id x) _ some) (λ made both. omega (arith, both.1)))
      (keep_on (λ _. keep_within (λ room. keep_then (λ ty. keep_weak (typed_id_grows below place id some ty)
      (λ made both. omega (arith, both.1))))) (keep_pure _ (omega arith)))

  alone_grows : (below : PatLevel) (place : At) (operand : Operand) → Keeps below.pat (λ made. 1 ≤ made.height)
      → Keeps (alone levels tys below place operand) (λ made. operand_height operand ≤ made.height)
  alone_grows below place (o.Id id) some = id_grows below place id some
  alone_grows below place (o.Other pat) some = typed_grows place pat

module _ (fs : Fixities) (levels : ℕ) (below : PatLevel) where
  operator_grows : (run : Run) (x : Lexeme) (found : Option Fixity)
      → Keeps (by_operator fs below run x found) (λ all. run.height ≤ all.height)
  unfolding argument operand_behind operand_joined
  operator_grows run x None = keep_then (λ operand. keep_pure _ (omega arith))
  operator_grows run x (Some f) = keep_on (λ y. keep_then (λ operand. keep_pure _ (omega arith))) keep_refuse

  pub step_grows : (run : Run) (x : Lexeme) → Keeps (run_step fs levels below run x) (λ all. run.height ≤ all.height)
  step_grows run x = keep_within (λ room. operator_grows run x (joining (operator fs x) run.ops))

  on_grows : (run : Run) → Keeps (run_on fs levels below run) (λ all. run.height ≤ all.height)
  unfolding run_on
  on_grows run =
      keep_many (λ found x le. keep_weak (step_grows found x) (λ all less. omega arith)) run (omega arith)

  pub rest_grows : (tys : g (Tall FullTy)) (place : At) (run : Run)
      → Keeps (run_rest fs levels tys below place run) (λ made. run.height + 1 ≤ made.height)
  unfolding run_rest
  rest_grows tys place run =
      keep_bind (on_grows run) (λ all le. keep_weak (typed_grows levels tys place (whole_run place all))
      (λ made less. omega arith))

  pub behind_grows : (tys : g (Tall FullTy)) (place : At) (operand : Operand) → Keeps below.pat
      (λ made. 1 ≤ made.height)
      → Keeps (behind_operand fs levels tys below place operand) (λ made. operand_height operand ≤ made.height)
  unfolding behind_operand
  behind_grows tys place operand some =
      let same = plain_height place operand in
      keep_on (λ x. keep_bind (step_grows (start place operand) x) (λ run le. keep_weak (rest_grows tys place run)
      (λ made less. omega arith)))
      (alone_grows levels tys below place operand some)

-- each pattern has a level
pub pat_some : (fs : Fixities) (n : ℕ) → Keeps (pat fs n) (λ made. 1 ≤ made.height)
unfolding pat_level pat_after
pat_some fs zero = keep_on (λ _. keep_none) keep_refuse
pat_some fs (suc n) =
    keep_on (λ x. keep_bind (atpat_some (pat fs n) (ty n) x x.kind) (λ operand le.
    keep_weak (behind_grows fs (suc n) (pat_level fs n) (ty n) (at x) operand (pat_some fs n))
    (λ made less. omega arith)))
    keep_refuse

-- .. and so has each operand
pub operand_some : (fs : Fixities) (n : ℕ) (x : Lexeme)
    → Keeps ((pat_level fs n).atpat x) (λ operand. 1 ≤ operand_height operand)
unfolding pat_level
operand_some fs zero x = keep_none
operand_some fs (suc n) x = atpat_some (pat fs n) (ty n) x x.kind

-- ---- limits

abbrev pub LowOperand : ℕ → ℕ → Operand → Type 0
LowOperand n m operand = Fits n m (operand_height operand)

abbrev pub LowRun : ℕ → ℕ → Run → Type 0
LowRun n m run = Fits n m run.height

-- over patterns and types of one level less
module _ (n m : ℕ) (tys types : g (Tall FullTy)) (some : Keeps tys (λ made. 1 ≤ made.height))
    (it : Passes tys types (Low n m)) (below above : g (Tall FullPat)) (high : Keeps below (λ made. 1 ≤ made.height))
    (each : Passes below above (Low n m)) where
  brackets_pass : (place : At) → Passes (in_brackets below place) (in_brackets above place) (Low (suc n) (suc m))
  unfolding in_brackets items_of
  brackets_pass place =
      pass_on (λ _. pass_same) (pass_bind each
      (λ first. pass_first (pass_further _ (one first) each)
      (λ items. keep_then (λ _. keep_pure _ (fits_below items.height (items.height + 1) (omega arith)))))
      (λ first. keep_bind (further_grows _ below (one first)) (λ items le. keep_then (λ _. keep_pure _
      (fits_below first.height (items.height + 1) (omega arith))))))

  pub first_passes : (place : At) (first : Tall FullPat)
      → Passes (behind_first below place first) (behind_first above place first) (Low (suc n) (suc m))
  unfolding behind_first tuple_of
  first_passes place first =
      pass_on (λ _. pass_bind each
      (λ second. pass_first (pass_further _ (more (one first) second) each)
      (λ parts. keep_then (λ _. keep_pure _ (fits_below parts.height (parts.height + 1) (omega arith)))))
      (λ second. keep_bind (further_grows _ below (more (one first) second)) (λ parts le. keep_then (λ _. keep_pure _
      (fits_below second.height (parts.height + 1) (omega arith)))))) pass_same

  parens_pass : (place : At) → Passes (in_parens below place) (in_parens above place) (Low (suc n) (suc m))
  unfolding in_parens inside_parens
  parens_pass place =
      pass_on (λ _. pass_same) (pass_bind each (λ first. first_passes place first)
      (λ first. keep_weak (first_grows below place first) (λ made le. fits_below first.height made.height le)))

  field_passes : Passes (field tys below) (field types above) (Low n m)
  unfolding field field_behind labelled named_field
  field_passes =
      pass_then (λ label. pass_on (λ _. pass_first each (λ inner. keep_pure _ (λ fits. fits)))
      (by_name label.is_name label.name))
    where
      by_name : (so : Bool) (called : Name)
          → Passes (if_name so (named_field tys below called)) (if_name so (named_field types above called)) (Low n m)
      by_name true called =
          pass_bind (pass_maybe _ it)
          (λ ty. pass_first (pass_maybe _ each)
          (λ inner. keep_pure _ (fits_lower inner.height (max ty.height inner.height) (omega arith))))
          (λ ty. keep_then (λ inner. keep_pure _ (fits_lower ty.height (max ty.height inner.height) (omega arith))))
      by_name false called = pass_same

  record_passes : (place : At)
      → Passes (record_of tys below place) (record_of types above place) (Low (suc n) (suc m))
  unfolding record_of fields_of
  record_passes place =
      pass_on (λ _. pass_same) (pass_bind field_passes
      (λ first. pass_first (pass_further _ (one first) field_passes)
      (λ fields. keep_then (λ _. keep_pure _ (fits_below fields.height (fields.height + 1) (omega arith)))))
      (λ first. keep_bind (further_grows _ (field tys below) (one first)) (λ fields le. keep_then (λ _. keep_pure _
      (fits_below first.height (fields.height + 1) (omega arith))))))

  other_passes : (first second : g (Tall FullPat)) → Passes first second (Low (suc n) (suc m))
      → Passes (other first) (other second) (LowOperand (suc n) (suc m))
  unfolding other
  other_passes first second part = pass_first part (λ found. keep_pure _ (λ fits. fits))

  word_passes : (place : At) (found : Option Word)
      → Passes (atpat_word tys below place found) (atpat_word types above place found) (LowOperand (suc n) (suc m))
  word_passes place (Some w.Wild) = pass_same
  word_passes place (Some w.Op) = pass_same
  word_passes place (Some w.Open) = other_passes _ _ (parens_pass place)
  word_passes place (Some w.OpenBrace) = other_passes _ _ (record_passes place)
  word_passes place (Some w.OpenBracket) = other_passes _ _ (brackets_pass place)
  word_passes place _ = pass_same

  pub atpat_passes : (x : Lexeme) (kind : LexemeKind)
      → Passes (atpat_kind tys below x kind) (atpat_kind types above x kind) (LowOperand (suc n) (suc m))
  atpat_passes x (k.Reserved text) = word_passes (at x) (word_of text)
  atpat_passes x (k.Name parts) = pass_same
  atpat_passes x (k.TyVar text) = pass_same
  atpat_passes x (k.Int value ok) = pass_same
  atpat_passes x (k.Str text) = pass_same
  atpat_passes x (k.Char byte) = pass_same

  typed_passes : (place : At) (left : Tall FullPat)
      → Passes (typed (suc n) tys place left) (typed (suc m) types place left) (Low (suc n) (suc m))
  unfolding typed constrained
  typed_passes place left =
      pass_many _ _ _ _
      (λ left x. pass_within (λ room. keep_then (λ ty. keep_pure _
      (fits_room left.height (max left.height ty.height + 1) (omega arith) room)))
      (pass_first it (λ ty. keep_pure _ (fits_below ty.height (max left.height ty.height + 1) (omega arith)))))
      (λ left x. keep_within (λ room. keep_then (λ ty. keep_pure _
      (fits_lower left.height (max left.height ty.height + 1) (omega arith))))) left

  layer_passes : (place : At) (called : Option OpName) (ty : Tall (Option FullTy))
      → Passes (given (λ called. layer below place called ty) called) (given
      (λ called. layer above place called ty) called)
      (Low (suc n) (suc m))
  unfolding layer
  layer_passes place None ty = pass_same
  layer_passes place (Some called) ty =
      pass_first each (λ inner. keep_pure _ (fits_below inner.height (max ty.height inner.height + 1) (omega arith)))

  name_passes : (atoms others : Lexeme → g Operand) (place : At) (id : OpLong)
      → Passes (behind_id (suc n) tys (record { pat = below; atpat = atoms }) place id)
      (behind_id (suc m) types (record { pat = above; atpat = others }) place id) (Low (suc n) (suc m))
  unfolding behind_id behind_name typed_id behind_typed
  name_passes atoms others place id =
      pass_on (λ x. layer_passes place (layered id x) _)
      (pass_on (λ _. pass_within
      (λ room. keep_then (λ ty. keep_weak (typed_id_grows (suc n) tys
      (record { pat = below; atpat = atoms }) place id high ty)
      (λ made both. fits_room 1 made.height (omega (arith, both.1)) room)))
      (pass_bind it
      (λ ty. pass_on (λ x. layer_passes place (layered id x) _) (typed_passes place (id_under place id ty)))
      (λ ty. keep_weak (typed_id_grows (suc n) tys (record { pat = below; atpat = atoms }) place id high ty)
      (λ made both. fits_below ty.height made.height both.0)))) pass_same)

  -- atomic patterns of one level less, too
  module _ (fs : Fixities) (atoms others : Lexeme → g Operand)
      (atom : (x : Lexeme) → Passes (atoms x) (others x) (LowOperand n m)) where
    abbrev parts : PatLevel
    parts = record { pat = below; atpat = atoms }

    abbrev wholes : PatLevel
    wholes = record { pat = above; atpat = others }

    operand_fits : (high : ℕ) (place : At) (operand : Operand) → (plain place operand).height ≤ high → Fits n m high
        → LowOperand n m operand
    operand_fits high place operand le =
        let same = plain_height place operand in fits_lower (operand_height operand) high (omega arith)

    operator_passes : (run : Run) (x : Lexeme) (found : Option Fixity)
        → Passes (by_operator fs parts run x found) (by_operator fs wholes run x found) (LowRun n m)
    unfolding argument operand_behind operand_joined
    operator_passes run x None =
        pass_first (atom x) (λ operand. keep_pure _
        (operand_fits (max run.height (plain (at x) operand).height) (at x) operand (omega arith)))
    operator_passes run x (Some f) =
        pass_on (λ y. pass_first (atom y) (λ operand. keep_pure _
        (operand_fits (max run.height (plain (at y) operand).height) (at y) operand (omega arith)))) pass_same

    pub step_passes : (run : Run) (x : Lexeme)
        → Passes (run_step fs (suc n) parts run x) (run_step fs (suc m) wholes run x) (LowRun n m)
    step_passes run x =
        pass_within (λ room. keep_weak (operator_grows fs (suc n) parts run x (joining (operator fs x) run.ops))
        (λ all le fits.
        fits_room run.height (all.height + 1) (omega arith) room (fits_above all.height fits)))
        (operator_passes run x (joining (operator fs x) run.ops))

    pub rest_passes : (place : At) (run : Run)
        → Passes (run_rest fs (suc n) tys parts place run) (run_rest fs (suc m) types wholes place run) (Low (suc n)
        (suc m))
    unfolding run_rest run_on
    rest_passes place run =
        pass_bind (pass_many _ _ _ (LowRun n m) (λ run x. step_passes run x)
        (λ run x. keep_weak (step_grows fs (suc n) parts run x) (λ all le. fits_lower run.height all.height le)) run)
        (λ all. typed_passes place (whole_run place all))
        (λ all. keep_weak (typed_grows (suc n) tys place (whole_run place all)) (λ made le.
        fits_below all.height made.height le))

    alone_passes : (place : At) (operand : Operand)
        → Passes (alone (suc n) tys parts place operand) (alone (suc m) types wholes place operand) (Low (suc n)
        (suc m))
    alone_passes place (o.Id id) = name_passes atoms others place id
    alone_passes place (o.Other pat) = typed_passes place pat

    pub behind_passes : (place : At) (operand : Operand)
        → Passes (behind_operand fs (suc n) tys parts place operand) (behind_operand fs
        (suc m) types wholes place operand)
        (Low (suc n) (suc m))
    unfolding behind_operand
    behind_passes place operand =
        pass_on (λ x. pass_bind (step_passes (start place operand) x) (λ run. rest_passes place run)
        (λ run. keep_weak (rest_grows fs (suc n) parts tys place run)
        (λ made le. fits_below run.height made.height le)))
        (alone_passes place operand)

    after_passes : (x : Lexeme)
        → Passes (pat_after fs (suc n) tys parts x) (pat_after fs (suc m) types wholes x) (Low (suc n) (suc m))
    unfolding pat_after
    after_passes x =
        pass_bind (atpat_passes x x.kind) (λ operand. behind_passes (at x) operand)
        (λ operand. keep_weak (behind_grows fs (suc n) parts tys (at x) operand high) (λ made le.
        fits_lower (operand_height operand) made.height le))

-- all phrases of so many levels
pub record LevelPasses (fs : Fixities) (n m : ℕ) : Type 0 where
  pub pat : Passes (pat_level fs n).pat (pat_level fs m).pat (Low n m)
  pub atpat : (x : Lexeme) → Passes ((pat_level fs n).atpat x) ((pat_level fs m).atpat x) (LowOperand n m)

pub levels_pass : (fs : Fixities) (n m : ℕ) → LevelPasses fs n m
unfolding pat_level
levels_pass fs zero m =
    record { pat = pass_none (keep_on (λ _. keep_none) keep_refuse); atpat = λ x. pass_none keep_none }
levels_pass fs (suc n) zero = record {
  pat = pass_high (λ (made : Tall FullPat). made.height) (pat_some fs (suc n));
  atpat = λ x. pass_high operand_height (operand_some fs (suc n) x);
}
levels_pass fs (suc n) (suc m) =
    let below = levels_pass fs n m in
    record {
      pat = pass_on (λ x. after_passes n m (ty n) (ty m) (ty_some n) (ty_passes n m) (pat_level fs n).pat
          (pat_level fs m).pat (pat_some fs n) below.pat fs (pat_level fs n).atpat (pat_level fs m).atpat below.atpat x)
          pass_same;
      atpat = λ x. atpat_passes n m (ty n) (ty m) (ty_some n) (ty_passes n m) (pat_level fs n).pat
          (pat_level fs m).pat (pat_some fs n) below.pat x x.kind;
    }
