-- The names of each type that is read fit.
use Rattle.std.proofs.Common.{ℕ, zero, suc, List, [], Option, None, Some, arith}
use Rattle.sml_lexer.specs.declared.lexeme.Lexeme.{Lexeme}
use Rattle.sml_lexer.specs.declared.lexeme.LexemeKind.{LexemeKind}
use Rattle.sml_lexer.specs.declared.lexeme.LexemeKind.TheVariants as k
use Rattle.sml_trees.specs.declared.name.At.{At}
use Rattle.sml_trees.specs.declared.full_ty.FullTy.{FullTy}
use Rattle.sml_trees.specs.declared.full_ty.FullTy.TheVariants as t
use Rattle.core_types.specs.Types.{TyLevel, field, fields_of, record_of, applied_all, behind_first, in_parens, atom_word, atom_kind, apply, constructor_after, applied, part_after, starred, tuple_of, tuple, arrow_of, arrow, ty_after, ty_level, ty}
use Rattle.phrase_reading.specs.Sized.{more, one}
use Rattle.phrase_reading.specs.Words.{g, is, is_star, tycon_of, made, at, named, long_named}
use Rattle.sml_lexer.specs.Words.{word_of}
use Rattle.phrase_reading.specs.declared.tall.Tall.{Tall}
use Rattle.sml_lexer.specs.declared.words.Word.{Word}
use Rattle.sml_lexer.specs.declared.words.Word.TheVariants as w
use Rattle.lexeme_laws.specs.Limits.{IsWithinLimits}
use Rattle.fitting_names.proofs.Texts.{name_text_fits, parts_fit}
use Rattle.fitting_names.proofs.TyForms.{TyIs, TyFieldIs, full-Var, full-Record, full-Con, full-Applied, full-AppliedAll, full-Tuple, full-Arrow, full-Paren, full_field-is}
use Rattle.core_names.proofs.Keeping.{Good, Keeps, keep_pure, keep_refuse, keep_bind, keep_then, keep_on, keep_on_good, keep_within, keep_many, IfAny, Holds, leaf_is, over_is, over_two_is, part_is, one_is, more_is, further_keeps, many_few_keeps}
use Rattle.core_names.proofs.Named.{FitParts, long_is, tycon_of_fits, label_keeps, tycon_keeps}

-- over types of one level less
module _ (below : g (Tall FullTy)) (it : Keeps below (Holds TyIs)) where
  field_keeps : Keeps (field below) (Holds TyFieldIs)
  unfolding field
  field_keeps =
      keep_bind label_keeps (λ called so. keep_then (λ _. keep_bind it (λ inner is.
      keep_pure _ (part_is _ (λ inner. full_field-is called inner so) is))))

  record_keeps : (place : At) → Keeps (record_of below place) (Holds TyIs)
  unfolding record_of fields_of
  record_keeps place =
      keep_on (λ _. keep_pure _ (leaf_is (t.Record [] place) (full-Record [] place tt)))
      (keep_bind field_keeps (λ first is. keep_bind (further_keeps _ field_keeps (one_is is))
      (λ fields are. keep_then (λ _. keep_pure _ (over_is _ (λ fields. full-Record fields place) are)))))

  applied_all_keeps : (place : At) (first : Tall FullTy) → Holds TyIs first
      → Keeps (applied_all below place first) (Holds TyIs)
  unfolding applied_all
  applied_all_keeps place first is =
      keep_bind it (λ second so. keep_bind (further_keeps _ it (more_is (one_is is) so)) (λ args are. keep_then (λ _.
      keep_bind tycon_keeps (λ long fits.
      keep_pure _ (record { tree = full-AppliedAll args.tree long place are.tree fits })))))

  in_parens_keeps : (place : At) → Keeps (in_parens below place) (Holds TyIs)
  unfolding in_parens behind_first
  in_parens_keeps place =
      keep_bind it (λ first is. keep_on (λ _. applied_all_keeps place first is)
      (keep_then (λ _. keep_pure _ (over_is _ (λ inner. full-Paren inner place) is))))

  atom_word_keeps : (x : Lexeme) (found : Option Word) → Keeps (atom_word below x found) (Holds TyIs)
  atom_word_keeps x (Some w.Open) = in_parens_keeps (at x)
  atom_word_keeps x (Some w.OpenBrace) = record_keeps (at x)
  atom_word_keeps x _ = keep_refuse

  atom_keeps : (x : Lexeme) (kind : LexemeKind) → IsWithinLimits kind → Keeps (atom_kind below x kind) (Holds TyIs)
  atom_keeps x (k.Reserved text) good = atom_word_keeps x (word_of text)
  atom_keeps x (k.Name parts) good =
      keep_pure _ (leaf_is (t.Con (long_named x parts) (at x)) (full-Con (long_named x parts) (at x)
      (long_is parts x.line x.col (record { some = good.0; each = parts_fit parts good.1 }))))
  atom_keeps x (k.TyVar text) good =
      keep_pure _ (leaf_is (t.Var (named x text) (at x)) (full-Var (named x text) (at x) (name_text_fits text good)))
  atom_keeps x (k.Int value ok) good = keep_refuse
  atom_keeps x (k.Str text) good = keep_refuse
  atom_keeps x (k.Char byte) good = keep_refuse

  by_name : (place : At) (left : Tall FullTy) (x : Lexeme) (found : Option (List (List ℕ))) → Holds TyIs left
      → IfAny FitParts found → Keeps (made (λ parts. apply place left (long_named x parts)) found) (Holds TyIs)
  by_name place left x None is fits = keep_refuse
  by_name place left x (Some parts) is fits =
      keep_pure _ (record {
        tree = full-Applied left.tree (long_named x parts) place is.tree (long_is parts x.line x.col fits);
      })

  constructor_keeps : (n : ℕ) (place : At) (left : Tall FullTy) (x : Lexeme) → Good x → Holds TyIs left
      → Keeps (constructor_after n place left x) (Holds TyIs)
  constructor_keeps n place left x good is = keep_within (by_name place left x (tycon_of x) is (tycon_of_fits x good))

  part_keeps : (n : ℕ) (x : Lexeme) → Good x → Keeps (part_after n below x) (Holds TyIs)
  unfolding part_after applied
  part_keeps n x good =
      keep_bind (atom_keeps x x.kind good) (λ atom is.
      keep_many (λ left y fits so. constructor_keeps n (at x) left y fits so) atom is)

  tuple_keeps : (n : ℕ) (beside : g (Tall FullTy)) → Keeps beside (Holds TyIs) → (place : At) (first : Tall FullTy)
      → Holds TyIs first → Keeps (tuple n beside place first) (Holds TyIs)
  unfolding tuple tuple_of starred
  tuple_keeps n beside parts place first is =
      keep_on (λ _. keep_within (keep_bind parts (λ second so. keep_bind
      (many_few_keeps (λ _ x. is_star x) (λ _. beside) (more (one first) second) (omega arith)
      (keep_many (λ found x _ are. keep_bind parts (λ next so. keep_pure _ (more_is are so)))
      (more (one first) second) (more_is (one_is is) so)))
      (λ found are. keep_pure _ (record { tree = full-Tuple found.tree place are.few are.all })))))
      (keep_pure first is)

  arrow_keeps : (n : ℕ) (place : At) (left : Tall FullTy) → Holds TyIs left
      → Keeps (arrow n below place left) (Holds TyIs)
  unfolding arrow arrow_of
  arrow_keeps n place left is =
      keep_on (λ _. keep_within (keep_bind it (λ right so.
      keep_pure _ (over_two_is _ (λ from to. full-Arrow from to place) is so))))
      (keep_pure left is)

-- all phrases of so many levels
record LevelIs (level : TyLevel) : Type 0 where
  ty : Keeps level.ty (Holds TyIs)
  part : Keeps level.part (Holds TyIs)

levels_keep : (n : ℕ) → LevelIs (ty_level n)
unfolding ty_level ty_after
levels_keep zero = record {
  ty = keep_on (λ _. keep_within keep_refuse) keep_refuse;
  part = keep_on (λ _. keep_within keep_refuse) keep_refuse;
}
levels_keep (suc n) =
    let below = levels_keep n in
    record {
      ty = keep_on_good (λ x good. keep_bind (part_keeps (ty_level n).ty below.ty (suc n) x good) (λ first is.
          keep_bind (tuple_keeps (ty_level n).ty below.ty (suc n) (ty_level n).part below.part (at x) first is)
          (λ left so.
          arrow_keeps (ty_level n).ty below.ty (suc n) (at x) left so))) keep_refuse;
      part = keep_on_good (λ x good. part_keeps (ty_level n).ty below.ty (suc n) x good) keep_refuse;
    }

pub ty_keeps : (n : ℕ) → Keeps (ty n) (Holds TyIs)
ty_keeps n = (levels_keep n).ty
