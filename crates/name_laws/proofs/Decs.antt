-- The names of each declaration of the core that is read fit; and so do those of all phrases of the core, level by
-- level.
use Rattle.std.proofs.Common.{ℕ, zero, suc, List, [], ◌∷◌, Option, Some, Bool, true, false, nat_lt}
use Rattle.sml_lexer.specs.declared.lexeme.Lexeme.{Lexeme}
use Rattle.sml_trees.specs.declared.full_exp.FullClause.{out-FullClause}
use Rattle.sml_trees.specs.declared.full_exp.FullFunBind.{FullFunBind}
use Rattle.sml_trees.specs.declared.full_exp.FullHead.{FullHead}
use Rattle.sml_trees.specs.declared.full_exp.FullValBind.{FullValBind}
use Rattle.sml_trees.specs.declared.full_pat.FullPat.{FullPat}
use Rattle.sml_trees.specs.declared.full_ty.FullTy.{FullTy}
use Rattle.sml_trees.specs.declared.name.At.{At}
use Rattle.sml_trees.specs.declared.name.Name.{Name}
use Rattle.infix_names.specs.Fixities.{Fixities}
use Rattle.core_bindings.specs.Bindings.{typ_bind, type_dec, con_bind, dat_bind_of, dat_bind, ex_body, ex_bind, datatypes, replication, has_none, datatype_from, datatype_dec, exception_dec, open_dec, infix_tree, infix_dec, nonfix_dec}
use Rattle.clause_heads.specs.Heads.{wanted_by}
use Rattle.clause_heads.specs.declared.heads.Wanted.{Wanted}
use Rattle.clause_heads.specs.declared.heads.Wanted.TheVariants as wanted
use Rattle.core_expressions.specs.Level.{Level}
use Rattle.core_expressions.specs.Levels.{no_level, level_of, below, level, exp}
use Rattle.core_expressions.specs.Clauses.{clause_of, clause, function_by, function_from, function_of, function, fun_from, fun_of, fun_vars, fun_head, fun_parens, fun_dec}
use Rattle.core_expressions.specs.Declarations.{local_dec, dec_word, dec_of, next_dec, decs_from, decs_of}
use Rattle.core_expressions.specs.Values.{bound_exp, val_bind_of, val_bind, val_binds_from, val_from, val_of, val_vars, val_pat, val_parens, val_dec, fn_parens, fn_exp_of}
use Rattle.core_expressions.specs.declared.binds.Binds.{Binds}
use Rattle.core_types.specs.Types.{ty}
use Rattle.phrase_reading.specs.Words.{g, at, is, word, tyvar_of, named}
use Rattle.phrase_reading.specs.declared.tall.Tall.{Tall}
use Rattle.sml_lexer.specs.declared.words.Word.{Word}
use Rattle.sml_lexer.specs.declared.words.Word.TheVariants as w
use Rattle.body_laws.proofs.Signatures.{Each}
use Rattle.fitting_names.proofs.Nodes.{FitName}
use Rattle.fitting_names.proofs.TyForms.{TyIs}
use Rattle.fitting_names.proofs.PatForms.{PatIs}
use Rattle.fitting_names.proofs.SigForms.{ConIs, DatIs}
use Rattle.fitting_phrases.proofs.Bindings.{TypBindIs, ExBodyIs, ExBindIs}
use Rattle.fitting_phrases.proofs.ExpForms.{ExpIs, DecIs, ClauseIs, FunIs, ValIs, HeadIs, exp-Paren, dec-Val, dec-Fun, dec-Types, dec-Datatypes, dec-Replication, dec-Exceptions, dec-Local, dec-Open, dec-Infix, dec-Infixr, dec-Nonfix, clause-is, fun_bind-is, val_bind-is}
use Rattle.core_names.proofs.Keeping.{Good, Keeps, keep_pure, keep_refuse, keep_bind, keep_then, keep_within, keep_many, keep_beginning, IfAny, keep_if_taken_by, keep_if_mark, keep_if_marked, keep_either, Holds, leaf_is, over_is, part_is, one_is, more_is, further_keeps, maybe_keeps, HoldsEach, declares_is, with_dec_is, plain_keeps}
use Rattle.core_names.proofs.Named.{as_name, tyvar_of_fits, tycon_keeps, short_tycon_keeps, strid_keeps, strids_keep, tyvars_keep, tyvar_list_keeps, op_name_keeps, op_long_keeps}
use Rattle.core_names.proofs.Tys.{ty_keeps}
use Rattle.core_names.proofs.Pats.{if_ty, pat_behind_keeps}
use Rattle.name_laws.proofs.Heads.{parens_head_keeps, head_keeps}
use Rattle.core_names.proofs.Exps.{LevelIs, opened_atexp_keeps, constraints_keep, behind_keeps, fn_keeps, operand_of_keeps, conjunction_of_keeps, exp_of_keeps}

-- ---- types, datatypes and exceptions

module _ (tys : g (Tall FullTy)) (it : Keeps tys (Holds TyIs)) where
  typ_bind_keeps : Keeps (typ_bind tys) (Holds TypBindIs)
  unfolding typ_bind
  typ_bind_keeps =
      keep_bind tyvars_keep (λ vars are. keep_bind short_tycon_keeps (λ called fits. keep_then (λ _.
      keep_bind it (λ inner is.
      keep_pure _ (record { tree = record { tyvars = are; name = fits; ty = is.tree } })))))

  pub con_bind_keeps : Keeps (con_bind tys) (Holds ConIs)
  unfolding con_bind
  con_bind_keeps =
      keep_bind op_name_keeps (λ called fits. keep_bind (maybe_keeps _ it) (λ arg is.
      keep_pure _ (record { tree = record { name = fits; arg = if_ty arg.tree is.tree } })))

  dat_bind_of_keeps : (vars : List Name) (called : Name) → Each FitName vars → FitName called
      → Keeps (dat_bind_of tys vars called) (Holds DatIs)
  unfolding dat_bind_of
  dat_bind_of_keeps vars called those fits =
      keep_bind con_bind_keeps (λ first is. keep_bind (further_keeps _ con_bind_keeps (one_is is)) (λ cons are.
      keep_pure _ (record { tree = record { tyvars = those; name = fits; cons = are.tree } })))

  dat_bind_keeps : Keeps (dat_bind tys) (Holds DatIs)
  unfolding dat_bind
  dat_bind_keeps =
      keep_bind tyvars_keep (λ vars are. keep_bind short_tycon_keeps (λ called fits. keep_then (λ _.
      dat_bind_of_keeps vars called are fits)))

  ex_body_keeps : Keeps (ex_body tys) (Holds ExBodyIs)
  unfolding ex_body
  ex_body_keeps =
      keep_if_mark _ (keep_bind it (λ inner is. keep_pure _ (record { tree = is.tree })))
      (keep_if_mark _ (keep_bind op_long_keeps (λ original fits. keep_pure _ (record { tree = fits })))
      (keep_pure _ (record { tree = tt })))

  ex_bind_keeps : Keeps (ex_bind tys) (Holds ExBindIs)
  unfolding ex_bind
  ex_bind_keeps =
      keep_bind op_name_keeps (λ called fits. keep_bind ex_body_keeps (λ body is.
      keep_pure _ (record { tree = record { name = fits; body = is.tree } })))

  module _ (place : At) where
    type_keeps : Keeps (type_dec tys place) (Holds DecIs)
    unfolding type_dec
    type_keeps =
        keep_bind typ_bind_keeps (λ first is. keep_bind (further_keeps _ typ_bind_keeps (one_is is)) (λ found are.
        keep_pure _ (over_is _ (λ binds. dec-Types binds place) are)))

    datatypes_keep : (vars : List Name) (called : Name) → Each FitName vars → FitName called
        → Keeps (datatypes tys place vars called) (Holds DecIs)
    unfolding datatypes
    datatypes_keep vars called those fits =
        keep_bind (dat_bind_of_keeps vars called those fits) (λ first is.
        keep_bind (further_keeps _ dat_bind_keeps (one_is is)) (λ found are.
        keep_pure _ (over_is _ (λ binds. dec-Datatypes binds place) are)))

    datatype_keeps : Keeps (datatype_dec tys place) (Holds DecIs)
    unfolding datatype_dec datatype_from replication
    datatype_keeps =
        keep_bind tyvars_keep (λ vars are. keep_bind short_tycon_keeps (λ called fits. keep_then (λ _.
        keep_either (has_none vars)
        (keep_if_mark _ (keep_bind tycon_keeps (λ original long.
        keep_pure _ (leaf_is _ (dec-Replication called original place fits long))))
        (datatypes_keep vars called are fits))
        (datatypes_keep vars called are fits))))

    exception_keeps : Keeps (exception_dec tys place) (Holds DecIs)
    unfolding exception_dec
    exception_keeps =
        keep_bind ex_bind_keeps (λ first is. keep_bind (further_keeps _ ex_bind_keeps (one_is is)) (λ found are.
        keep_pure _ (over_is _ (λ binds. dec-Exceptions binds place) are)))

-- ---- open, and infix status

open_keeps : (place : At) → Keeps (open_dec place) (Holds DecIs)
unfolding open_dec
open_keeps place =
    keep_bind strid_keeps (λ first is. keep_bind (strids_keep (first ∷ []) (is, tt)) (λ found are.
    keep_pure _ (leaf_is _ (dec-Open found place are))))

infix-tree : (right : Bool) (strength : Option ℕ) (names : List Name) (place : At)
    → DecIs (infix_tree right strength names place)
infix-tree true strength names place = dec-Infixr strength names place
infix-tree false strength names place = dec-Infix strength names place

infix_keeps : (fs : Fixities) (place : At) (right : Bool) → Keeps (infix_dec fs place right) (HoldsEach DecIs)
unfolding infix_dec
infix_keeps fs place right =
    keep_then (λ strength. keep_then (λ found.
    keep_pure _ (declares_is _ (leaf_is _ (infix-tree right strength found place)))))

nonfix_keeps : (fs : Fixities) (place : At) → Keeps (nonfix_dec fs place) (HoldsEach DecIs)
unfolding nonfix_dec
nonfix_keeps fs place = keep_then (λ found. keep_pure _ (declares_is _ (leaf_is _ (dec-Nonfix found place))))

-- a type variable
var_fits : (x : Lexeme) → Good x → IfAny (λ text. FitName (named x text)) (tyvar_of x)
var_fits x good = as_name x (tyvar_of x) (tyvar_of_fits x good)

-- ---- over phrases of one level less

module _ (n : ℕ) (parts : Level) (it : LevelIs parts) where
  right_keeps : (fs : Fixities) (recs : ℕ) → Keeps (bound_exp parts fs recs) (Holds ExpIs)
  unfolding bound_exp
  right_keeps fs recs = keep_then (λ _. keep_either (nat_lt 0 recs) (it.fn_exp fs) (it.exp fs))

  val_bind_of_keeps : (fs : Fixities) (recs : ℕ) (place : At) (pat : Tall FullPat) → Holds PatIs pat
      → Keeps (val_bind_of parts fs recs place pat) (Holds ValIs)
  unfolding val_bind_of
  val_bind_of_keeps fs recs place pat is =
      keep_bind (right_keeps fs recs) (λ exp so.
      keep_pure _ (record { tree = val_bind-is recs pat.tree exp.tree place is.tree so.tree }))

  val_bind_keeps : (fs : Fixities) (before : ℕ) → Keeps (val_bind parts fs before) (Holds ValIs)
  unfolding val_bind
  val_bind_keeps fs before =
      keep_then (λ recs. keep_bind (keep_beginning _) (λ x good. keep_bind (it.pat_after fs x good) (λ pat is.
      val_bind_of_keeps fs recs (at x) pat is)))

  val_from_keeps : (fs : Fixities) (place : At) (vars : List Name) (first : Tall FullValBind) → Each FitName vars
      → Holds ValIs first → Keeps (val_from parts fs place vars first) (Holds DecIs)
  unfolding val_from val_binds_from
  val_from_keeps fs place vars first those is =
      keep_bind {P = λ (binds : Binds). Holds (Each ValIs) binds.found}
      (keep_many (λ binds x _ so. keep_bind (val_bind_keeps fs binds.recs) (λ next too. keep_pure _ (more_is so too)))
      _ (one_is is))
      (λ binds are. keep_pure _ (over_is _ (λ binds. dec-Val vars binds place those) are))

  val_of_keeps : (fs : Fixities) (place : At) (vars : List Name) → Each FitName vars
      → Keeps (val_of parts fs place vars) (Holds DecIs)
  unfolding val_of
  val_of_keeps fs place vars those =
      keep_bind (val_bind_keeps fs 0) (λ first is. val_from_keeps fs place vars first those is)

  val_keeps : (fs : Fixities) (place : At) → Keeps (val_dec parts fs place) (Holds DecIs)
  unfolding val_dec val_parens val_vars val_pat
  val_keeps fs place =
      keep_if_taken_by tyvar_of named FitName var_fits (λ var fits. val_of_keeps fs place (var ∷ []) (fits, tt))
      (keep_if_marked _ (λ x good. keep_if_taken_by tyvar_of named FitName var_fits
      (λ var fits. keep_bind (tyvar_list_keeps var fits) (λ vars are. val_of_keeps fs place vars are))
      (keep_bind (it.pat_after fs x good) (λ pat is. keep_bind (val_bind_of_keeps fs 0 (at x) pat is) (λ first so.
      val_from_keeps fs place [] first tt so))))
      (val_of_keeps fs place [] tt))

  clause_of_keeps : (fs : Fixities) (start : At) (head : Tall FullHead) → Holds HeadIs head
      → Keeps (clause_of n parts fs start head) (Holds ClauseIs)
  unfolding clause_of
  clause_of_keeps fs start head is =
      keep_bind (maybe_keeps _ (ty_keeps n)) (λ result so. keep_bind (behind_keeps n parts it fs w.Equals) (λ body too.
      keep_pure _ (record {
        tree = clause-is head.tree result.tree body.tree start is.tree (if_ty result.tree so.tree) too.tree;
      })))

  clause_keeps : (fs : Fixities) (wanted : Wanted) → Keeps (clause n parts fs wanted) (Holds ClauseIs)
  unfolding clause
  clause_keeps fs wanted =
      keep_bind (keep_beginning _) (λ x good. keep_bind (head_keeps n fs wanted x good) (λ head is.
      clause_of_keeps fs (at x) head is))

  function_of_keeps : (fs : Fixities) (start : At) (head : Tall FullHead) → Holds HeadIs head
      → Keeps (function_of n parts fs start head) (Holds FunIs)
  unfolding function_of function_from function_by
  function_of_keeps fs start head is =
      keep_bind (clause_of_keeps fs start head is) (λ first so.
      keep_bind (further_keeps _ (clause_keeps fs (wanted_by (out-FullClause first.tree).head)) (one_is so))
      (λ clauses are. keep_pure _ (part_is _ (λ clauses. fun_bind-is clauses start) are)))

  function_keeps : (fs : Fixities) → Keeps (function n parts fs) (Holds FunIs)
  unfolding function
  function_keeps fs =
      keep_bind (keep_beginning _) (λ x good. keep_bind (head_keeps n fs wanted.Any x good) (λ head is.
      function_of_keeps fs (at x) head is))

  fun_from_keeps : (fs : Fixities) (place : At) (vars : List Name) (first : Tall FullFunBind) → Each FitName vars
      → Holds FunIs first → Keeps (fun_from n parts fs place vars first) (Holds DecIs)
  unfolding fun_from
  fun_from_keeps fs place vars first those is =
      keep_bind (further_keeps _ (function_keeps fs) (one_is is)) (λ found are.
      keep_pure _ (over_is _ (λ binds. dec-Fun vars binds place those) are))

  fun_of_keeps : (fs : Fixities) (place : At) (vars : List Name) → Each FitName vars
      → Keeps (fun_of n parts fs place vars) (Holds DecIs)
  unfolding fun_of
  fun_of_keeps fs place vars those =
      keep_bind (function_keeps fs) (λ first is. fun_from_keeps fs place vars first those is)

  fun_keeps : (fs : Fixities) (place : At) → Keeps (fun_dec n parts fs place) (Holds DecIs)
  unfolding fun_dec fun_parens fun_vars fun_head
  fun_keeps fs place =
      keep_if_taken_by tyvar_of named FitName var_fits (λ var fits. fun_of_keeps fs place (var ∷ []) (fits, tt))
      (keep_if_marked _ (λ x _. keep_if_taken_by tyvar_of named FitName var_fits
      (λ var fits. keep_bind (tyvar_list_keeps var fits) (λ vars are. fun_of_keeps fs place vars are))
      (keep_bind (parens_head_keeps n fs wanted.Any (at x)) (λ head is. keep_bind (function_of_keeps fs (at x) head is)
      (λ first so. fun_from_keeps fs place [] first tt so))))
      (fun_of_keeps fs place [] tt))

  local_keeps : (fs : Fixities) (place : At) → Keeps (local_dec parts fs place) (HoldsEach DecIs)
  unfolding local_dec
  local_keeps fs place =
      keep_bind (it.decs fs) (λ hidden is. keep_then (λ _. keep_bind (it.decs hidden.fixities) (λ shown so.
      keep_then (λ _. keep_pure _ (declares_is _ (record {
        tree = dec-Local hidden.decs shown.decs place is.decs so.decs;
      }))))))

  dec_word_keeps : (fs : Fixities) (place : At) (found : Option Word)
      → Keeps (dec_word n parts fs place found) (HoldsEach DecIs)
  dec_word_keeps fs place (Some w.Val) = plain_keeps fs (val_keeps fs place)
  dec_word_keeps fs place (Some w.Fun) = plain_keeps fs (fun_keeps fs place)
  dec_word_keeps fs place (Some w.TypeWord) = plain_keeps fs (type_keeps (ty n) (ty_keeps n) place)
  dec_word_keeps fs place (Some w.Datatype) = plain_keeps fs (datatype_keeps (ty n) (ty_keeps n) place)
  dec_word_keeps fs place (Some w.Exception) = plain_keeps fs (exception_keeps (ty n) (ty_keeps n) place)
  dec_word_keeps fs place (Some w.Local) = local_keeps fs place
  dec_word_keeps fs place (Some w.OpenWord) = plain_keeps fs (open_keeps place)
  dec_word_keeps fs place (Some w.Infix) = infix_keeps fs place false
  dec_word_keeps fs place (Some w.Infixr) = infix_keeps fs place true
  dec_word_keeps fs place (Some w.Nonfix) = nonfix_keeps fs place
  dec_word_keeps fs place _ = keep_refuse

fn_exp_keeps : (n : ℕ) (parts : Level) → LevelIs parts → (fs : Fixities) → Keeps (fn_exp_of n parts fs) (Holds ExpIs)
unfolding fn_exp_of fn_parens
fn_exp_keeps n parts it fs =
    keep_if_marked _ (λ x _. keep_within (fn_keeps n parts it fs (at x)))
    (keep_if_marked _ (λ x _. keep_within (keep_bind (it.fn_exp fs) (λ inner is. keep_then (λ _.
    constraints_keep n parts it (at x) _ (over_is _ (λ inner. exp-Paren inner (at x)) is))))) keep_refuse)

-- ---- sequences

dec_of_keeps : (n : ℕ) (parts : Level) → LevelIs parts → (fs : Fixities) (x : Lexeme)
    → Keeps (dec_of n parts fs x) (HoldsEach DecIs)
dec_of_keeps zero parts it fs x = keep_within keep_refuse
dec_of_keeps (suc n) parts it fs x = dec_word_keeps n parts it fs (at x) (word x)

no_decs : (fs : Fixities) → HoldsEach DecIs (record { decs = []; fixities = fs; height = 0 })
no_decs fs = record { decs = tt }

decs_keep : (n : ℕ) (parts : Level) → LevelIs parts → (fs : Fixities) → Keeps (decs_of n parts fs) (HoldsEach DecIs)
unfolding decs_from next_dec
decs_keep n parts it fs =
    keep_many (λ found x _ are. keep_either (is w.Semicolon x) (keep_pure found are)
    (keep_bind (dec_of_keeps n parts it found.fixities x) (λ next more. keep_pure _ (with_dec_is are more))))
    _ (no_decs fs)

-- ---- levels

level_keeps : (n : ℕ) (parts : Level) → LevelIs parts → LevelIs (level_of n parts)
level_keeps n parts it = record {
  ty = ty_keeps n;
  pat_after = λ fs x good. pat_behind_keeps fs n x good;
  exp = λ fs. exp_of_keeps n parts it fs;
  conjunction = λ fs. conjunction_of_keeps n parts it fs;
  operand = λ fs. operand_of_keeps n parts it fs;
  atexp = λ fs x good. opened_atexp_keeps n parts it fs x good;
  fn_exp = λ fs. fn_exp_keeps n parts it fs;
  decs = λ fs. decs_keep n parts it fs;
  dec = λ fs x _. dec_of_keeps n parts it fs x;
}

none_keeps : LevelIs no_level
none_keeps = record {
  ty = keep_refuse;
  pat_after = λ fs x good. keep_refuse;
  exp = λ fs. keep_refuse;
  conjunction = λ fs. keep_refuse;
  operand = λ fs. keep_refuse;
  atexp = λ fs x good. keep_refuse;
  fn_exp = λ fs. keep_refuse;
  decs = λ fs. keep_refuse;
  dec = λ fs x good. keep_refuse;
}

below_keeps : (n : ℕ) → LevelIs (below n)
unfolding below
below_keeps zero = none_keeps
below_keeps (suc n) = level_keeps n (below n) (below_keeps n)

-- all phrases of the core with so many levels
pub core_keeps : (n : ℕ) → LevelIs (level n)
core_keeps n = level_keeps n (below n) (below_keeps n)
