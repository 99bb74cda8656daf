-- Specifications (The Definition of Standard ML, figure 7 and appendix A), in the order of the printed grammar:
--
--     spec    = { specification | ";" }
--     specification = "val" vid ":" ty { "and" vid ":" ty }
--          | "type" typdesc { "and" typdesc } | "eqtype" tyvars tycon { "and" tyvars tycon }
--          | "datatype" datdesc { "and" datdesc } | "datatype" tycon "=" "datatype" longtycon
--          | "exception" condesc { "and" condesc }
--          | "structure" strid ":" sigexp { "and" strid ":" sigexp }
--          | "include" sigid { sigid } | "include" sigexp
--     typdesc = tyvars tycon [ "=" ty ]
--     datdesc = tyvars tycon "=" condesc { "|" condesc }
--     condesc = vid [ "of" ty ]
--
-- A vid is any name without structures before it, infix or not, with no `op` before it. A specification is read behind
-- its first word, which decides its form, has its place and opens its level. What stands in it is one level down; what
-- is described and lists are no levels.
use Rattle.std.specs.Prelude.{ℕ, zero, suc, ◌-◌, Bool, true, false, Option, None, Some, List, [], ◌∷◌}
use Rattle.grammars.specs.Grammar.{Grammar, ◌>>=◌, ◌>>◌}
use Rattle.grammars.specs.Grammar.Grammar.{pure, refuse, on, many, within}
use Rattle.sml_lexer.specs.declared.lexeme.Lexeme.{Lexeme}
use Rattle.sml_trees.specs.declared.full_sig.FullSigBind.{FullSigBind}
use Rattle.sml_trees.specs.declared.full_sig.FullSigExp.{FullSigExp}
use Rattle.sml_trees.specs.declared.full_sig.FullSigExp.TheVariants as s
use Rattle.sml_trees.specs.declared.full_sig.FullSpec.{FullSpec}
use Rattle.sml_trees.specs.declared.full_sig.FullSpec.TheVariants as p
use Rattle.sml_trees.specs.declared.full_ty.FullConBind.{FullConBind}
use Rattle.sml_trees.specs.declared.full_ty.FullDatBind.{FullDatBind}
use Rattle.sml_trees.specs.declared.full_ty.FullTy.{FullTy}
use Rattle.sml_trees.specs.declared.full_ty.FullTypDesc.{FullTypDesc}
use Rattle.sml_trees.specs.declared.full_ty.FullValDesc.{FullValDesc}
use Rattle.sml_trees.specs.declared.name.At.{At}
use Rattle.sml_trees.specs.declared.name.Name.{Name}
use Rattle.sml_trees.specs.declared.ty.TypDesc.{TypDesc}
use Rattle.core_bindings.specs.Bindings.{replication, has_none}
use Rattle.phrase_reading.specs.Names.{either, if_mark, if_taken, taken_from, tyvars, short_tycon, name_with}
use Rattle.phrase_reading.specs.Sized.{opened}
use Rattle.phrase_reading.specs.Sized.{leaf, over, part, one, more, further, maybe}
use Rattle.core_types.specs.Types.{ty}
use Rattle.phrase_reading.specs.Words.{g, is, word, at, named, name, tycon, token}
use Rattle.phrase_reading.specs.declared.tall.Tall.{Tall}
use Rattle.sml_lexer.specs.declared.words.Word.{Word}
use Rattle.sml_lexer.specs.declared.words.Word.TheVariants as w
use Rattle.signature_parser.specs.Joined.{module_name_of, alone, bindings}
use Rattle.signature_parser.specs.Signatures.{SigLevel, where_behind, wheres, sig_bind}

-- ---- values, types, datatypes and exceptions

-- vid : ty
unfoldable pub val_desc : g (Tall FullTy) → g (Tall FullValDesc)
val_desc ty = do
  called ← name
  token w.Colon
  inner ← ty
  pure (part (λ ty. record { name = called; ty = ty }) inner)

-- val vid : ty and ..
unfoldable pub val_spec : g (Tall FullTy) → At → g (Tall FullSpec)
val_spec ty place = do
  first ← val_desc ty
  found ← further w.And (val_desc ty) (one first)
  pure (over (λ (descs : List FullValDesc). p.Vals descs place) found)

-- tyvars tycon [ = ty ]
unfoldable pub typ_desc : g (Tall FullTy) → g (Tall FullTypDesc)
typ_desc ty = do
  vars ← tyvars
  called ← short_tycon
  inner ← maybe w.Equals ty
  pure (part (λ ty. record { tyvars = vars; name = called; ty = ty }) inner)

-- type tyvars tycon [ = ty ] and ..
unfoldable pub type_spec : g (Tall FullTy) → At → g (Tall FullSpec)
type_spec ty place = do
  first ← typ_desc ty
  found ← further w.And (typ_desc ty) (one first)
  pure (over (λ (descs : List FullTypDesc). p.Types descs place) found)

-- tyvars tycon
unfoldable pub eq_desc : g (Tall TypDesc)
eq_desc = do
  vars ← tyvars
  called ← short_tycon
  pure (record { tree = record { tyvars = vars; name = called }; height = 0 })

-- eqtype tyvars tycon and ..
unfoldable pub eqtype_spec : At → g (Tall FullSpec)
eqtype_spec place = do
  first ← eq_desc
  found ← further w.And eq_desc (one first)
  pure (over (λ (descs : List TypDesc). p.Eqtypes descs place) found)

-- vid [ of ty ]
unfoldable pub con_desc : g (Tall FullTy) → g (Tall FullConBind)
con_desc ty = do
  called ← name_with false
  arg ← maybe w.Of ty
  pure (part (λ arg. record { name = called; arg = arg }) arg)

-- a datatype behind its `=`
unfoldable pub dat_desc_of : g (Tall FullTy) → List Name → Name → g (Tall FullDatBind)
dat_desc_of ty vars called = do
  first ← con_desc ty
  cons ← further w.Bar (con_desc ty) (one first)
  pure (part (λ cons. record { tyvars = vars; name = called; cons = cons }) cons)

-- tyvars tycon = condesc | ..
unfoldable pub dat_desc : g (Tall FullTy) → g (Tall FullDatBind)
dat_desc ty = do
  vars ← tyvars
  called ← short_tycon
  token w.Equals
  dat_desc_of ty vars called

-- datatypes, behind the first `=`
unfoldable pub datatype_descs : g (Tall FullTy) → At → List Name → Name → g (Tall FullSpec)
datatype_descs ty place vars called = do
  first ← dat_desc_of ty vars called
  found ← further w.And (dat_desc ty) (one first)
  pure (over (λ (descs : List FullDatBind). p.Datatypes descs place) found)

-- a datatype that is another one, behind the second `datatype`
unfoldable pub replication_spec : At → Name → g (Tall FullSpec)
replication_spec place called = do
  original ← tycon
  pure (leaf (p.Replication called original place))

-- behind the first `=`: without type variables it may be a replication
unfoldable pub datatype_from : g (Tall FullTy) → At → List Name → Name → g (Tall FullSpec)
datatype_from ty place vars called =
    either (has_none vars) (if_mark w.Datatype (replication_spec place called) (datatype_descs ty place vars called))
    (datatype_descs ty place vars called)

-- datatype datdesc and .., and datatype tycon = datatype longtycon
unfoldable pub datatype_spec : g (Tall FullTy) → At → g (Tall FullSpec)
datatype_spec ty place = do
  vars ← tyvars
  called ← short_tycon
  token w.Equals
  datatype_from ty place vars called

-- exception vid [ of ty ] and ..
unfoldable pub exception_spec : g (Tall FullTy) → At → g (Tall FullSpec)
exception_spec ty place = do
  first ← con_desc ty
  found ← further w.And (con_desc ty) (one first)
  pure (over (λ (descs : List FullConBind). p.Exceptions descs place) found)

-- ---- structures and include

-- structure strid : sigexp and ..
unfoldable pub structure_spec : SigLevel → At → g (Tall FullSpec)
structure_spec parts place = do
  found ← bindings (sig_bind parts.sig w.Colon)
  pure (over (λ (binds : List FullSigBind). p.Structures binds place) found)

-- include sigexp, where that begins with `sig`
unfoldable pub include_sig : SigLevel → At → g (Tall FullSpec)
include_sig parts place = do
  found ← alone parts.sig
  pure (over (λ (sig : FullSigExp). p.Include sig place) found)

-- include sigid sigid .., behind the second one: no `where` may follow
unfoldable pub include_names : At → List Name → g (Tall FullSpec)
include_names place found = do
  names ← taken_from module_name_of named found
  pure (leaf (p.IncludeNames names place))

-- a signature that is a name
abbrev pub named_sig : Name → Tall FullSigExp
named_sig called = leaf (s.Named called (record { line = called.line; col = called.col }))

-- include sigid where .., behind `where`: the parts of the specification may have so many levels
unfoldable pub include_where : ℕ → At → Name → g (Tall FullSpec)
include_where n place called = do
  first ← where_behind n (ty (n - 1)) (record { line = called.line; col = called.col }) (named_sig called)
  found ← alone (wheres n (ty (n - 1)) (record { line = called.line; col = called.col }) first)
  pure (over (λ (sig : FullSigExp). p.Include sig place) found)

-- behind one sigid: `where`, or nothing
unfoldable pub include_one : ℕ → At → Name → g (Tall FullSpec)
include_one n place called =
    if_mark w.Where (include_where n place called) (pure (leaf (p.IncludeNames (called ∷ []) place)))

-- behind the first sigid: another one, `where`, or nothing
unfoldable pub include_from : ℕ → At → Name → g (Tall FullSpec)
include_from n place called =
    if_taken module_name_of named (λ second. include_names place (called ∷ second ∷ [])) (include_one n place called)

-- include sigid sigid .. and include sigexp
unfoldable pub include_spec : ℕ → SigLevel → At → g (Tall FullSpec)
include_spec n parts place =
    if_taken module_name_of named (include_from n place) (include_sig parts place)

-- ---- sequences

-- whether a specification begins with this word, or it is a semicolon
abbrev pub is_spec_round : Option Word → Bool
is_spec_round (Some w.Val) = true
is_spec_round (Some w.TypeWord) = true
is_spec_round (Some w.EqType) = true
is_spec_round (Some w.Datatype) = true
is_spec_round (Some w.Exception) = true
is_spec_round (Some w.Structure) = true
is_spec_round (Some w.Include) = true
is_spec_round (Some w.Semicolon) = true
is_spec_round _ = false

-- a specification behind its first word, over parts of so many levels
abbrev pub spec_word : ℕ → SigLevel → At → Option Word → g (Tall FullSpec)
spec_word n parts place (Some w.Val) = val_spec (ty n) place
spec_word n parts place (Some w.TypeWord) = type_spec (ty n) place
spec_word n parts place (Some w.EqType) = eqtype_spec place
spec_word n parts place (Some w.Datatype) = datatype_spec (ty n) place
spec_word n parts place (Some w.Exception) = exception_spec (ty n) place
spec_word n parts place (Some w.Structure) = structure_spec parts place
spec_word n parts place (Some w.Include) = include_spec n parts place
spec_word n parts place _ = refuse

-- a specification behind its first word, with so many levels left
abbrev pub spec_of : ℕ → SigLevel → Lexeme → g (Tall FullSpec)
spec_of n parts x = opened n (spec_word (n - 1) parts (at x) (word x))

-- one more specification
unfoldable pub next_spec : ℕ → SigLevel → Tall (List FullSpec) → Lexeme → g (Tall (List FullSpec))
next_spec n parts found x = do
  next ← spec_of n parts x
  pure (more found next)

-- one more specification behind its first word, or nothing behind a semicolon
abbrev pub spec_round : ℕ → SigLevel → Tall (List FullSpec) → Lexeme → g (Tall (List FullSpec))
spec_round n parts found x = either (is w.Semicolon x) (pure found) (next_spec n parts found x)

-- further specifications and semicolons
unfoldable pub specs_from : ℕ → SigLevel → Tall (List FullSpec) → g (Tall (List FullSpec))
specs_from n parts found = many (λ _ x. is_spec_round (word x)) (spec_round n parts) found

-- no specification
abbrev pub no_specs : Tall (List FullSpec)
no_specs = record { tree = []; height = 0 }

-- specifications and semicolons, none or more
abbrev pub specs_of : ℕ → SigLevel → g (Tall (List FullSpec))
specs_of n parts = specs_from n parts no_specs
