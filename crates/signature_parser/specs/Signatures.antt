-- Signature expressions (The Definition of Standard ML, figure 6 and appendix A), in the order of the printed grammar:
--
--     sigexp    = ( "sig" spec "end" | sigid ) { "where" wheretype }
--     wheretype = "type" tyvars longtycon "=" ty { "and" "type" tyvars longtycon "=" ty }
--
-- Each signature is a level, also one with `where` around that before it: a `where` makes what stands before it a part,
-- which the limit has to allow. `and` is `Joined`'s matter.
use Rattle.std.specs.Prelude.{ℕ, zero, suc, Bool, true, false, not, ◌&&◌, ◌||◌, ◌-◌, Option, None, Some, List, [], ◌∷◌}
use Rattle.grammars.specs.Grammar.{Grammar, ◌>>=◌, ◌>>◌}
use Rattle.grammars.specs.Grammar.Grammar.{pure, refuse, on, many, within}
use Rattle.sml_lexer.specs.declared.lexeme.Lexeme.{Lexeme}
use Rattle.sml_trees.specs.declared.full_sig.FullSigBind.{FullSigBind, roll-FullSigBind}
use Rattle.sml_trees.specs.declared.full_sig.FullSigExp.{FullSigExp}
use Rattle.sml_trees.specs.declared.full_sig.FullSigExp.TheVariants as s
use Rattle.sml_trees.specs.declared.full_sig.FullSpec.{FullSpec}
use Rattle.sml_trees.specs.declared.full_sig.FullWhere.{FullWhere}
use Rattle.sml_trees.specs.declared.full_ty.FullTy.{FullTy}
use Rattle.sml_trees.specs.declared.name.At.{At}
use Rattle.sml_trees.specs.declared.name.Name.{Name}
use Rattle.phrase_reading.specs.Names.{either, if_marked, tyvars}
use Rattle.phrase_reading.specs.Sized.{opened}
use Rattle.phrase_reading.specs.Sized.{leaf, over, part, one, more, lower}
use Rattle.core_types.specs.Types.{ty}
use Rattle.phrase_reading.specs.Words.{g, is, at, named, made, tycon, token}
use Rattle.phrase_reading.specs.declared.tall.Tall.{Tall}
use Rattle.sml_lexer.specs.declared.words.Word.{Word}
use Rattle.sml_lexer.specs.declared.words.Word.TheVariants as w
use Rattle.signature_parser.specs.Joined.{module_name_of, is_module_name, apart, joined_part, joined_over}
use Rattle.signature_parser.specs.declared.joined.Joined.{Joined}

-- the phrases of signatures that nest at most so deep
pub record SigLevel : Type 1 where
  -- a signature expression
  pub sig : g (Joined FullSigExp)
  -- specifications and semicolons, none or more
  pub specs : g (Tall (List FullSpec))

-- whether a signature expression begins with the lexeme
abbrev pub starts_sig : Lexeme → Bool
starts_sig x = is w.Sig x || is_module_name x

-- sig spec end, behind `sig`
unfoldable pub sig_body : SigLevel → At → g (Tall FullSigExp)
sig_body parts place = do
  specs ← parts.specs
  token w.End
  pure (over (λ (specs : List FullSpec). s.Sig specs place) specs)

abbrev pub sig_name : Lexeme → List ℕ → Tall FullSigExp
sig_name x text = leaf (s.Named (named x text) (at x))

-- a signature expression without `where`, behind its first lexeme
abbrev pub sig_atom : SigLevel → Lexeme → g (Tall FullSigExp)
sig_atom parts x = either (is w.Sig x) (sig_body parts (at x)) (made (sig_name x) (module_name_of x))

-- ---- where type

-- tyvars longtycon = ty, behind this `type`
unfoldable pub where_bind : g (Tall FullTy) → Lexeme → g (Tall FullWhere)
where_bind ty x = do
  vars ← tyvars
  long ← tycon
  token w.Equals
  inner ← ty
  pure (part (λ ty. record { tyvars = vars; long = long; ty = ty; at = at x }) inner)

-- type tyvars longtycon = ty
unfoldable pub where_type : g (Tall FullTy) → g (Tall FullWhere)
where_type ty = if_marked w.TypeWord (where_bind ty) refuse

-- one more type, behind this `type`
unfoldable pub one_type : g (Tall FullTy) → Tall (List FullWhere) → Lexeme → g (Joined (List FullWhere))
one_type ty found x = do
  next ← where_bind ty x
  pure (apart (more found next))

-- behind an `and`: one more type, or the `and` is that of the phrase around
unfoldable pub and_type : g (Tall FullTy) → Tall (List FullWhere) → g (Joined (List FullWhere))
and_type ty found = if_marked w.TypeWord (one_type ty found) (pure (record { made = found; joined = true }))

-- whether it goes on with this word, which is no binding's of the phrase around
abbrev pub goes_on_with : Word → Bool → Lexeme → Bool
goes_on_with mark joined x = not joined && is mark x

-- further types, each behind `and`
unfoldable pub where_types_from : g (Tall FullTy) → Joined (List FullWhere) → g (Joined (List FullWhere))
where_types_from ty found =
    many (λ found x. goes_on_with w.And found.joined x) (λ found _. and_type ty found.made) found

-- the types behind `where`, one or more
unfoldable pub where_types : g (Tall FullTy) → g (Joined (List FullWhere))
where_types ty = do
  first ← where_type ty
  where_types_from ty (apart (one first))

-- a signature with these types, of which the first lexeme stands at this place
unfoldable pub where_of : g (Tall FullTy) → At → Tall FullSigExp → g (Joined FullSigExp)
where_of ty place left = do
  found ← where_types ty
  pure (joined_over (λ (sig : FullSigExp) (types : List FullWhere). s.Where sig types place) left found)

-- behind `where`: what stands before it becomes a part of one with so many levels
unfoldable pub where_behind : ℕ → g (Tall FullTy) → At → Tall FullSigExp → g (Joined FullSigExp)
where_behind n ty place left = lower n left (where_of ty place left)

-- none, one or more `where`, around what stands before them
unfoldable pub wheres : ℕ → g (Tall FullTy) → At → Joined FullSigExp → g (Joined FullSigExp)
wheres n ty place left =
    many (λ left x. goes_on_with w.Where left.joined x) (λ left _. where_behind n ty place left.made) left

-- ---- whole signature expressions

-- a signature expression of so many levels, of which its first lexeme opened one, behind that lexeme
unfoldable pub sig_within : ℕ → SigLevel → Lexeme → g (Joined FullSigExp)
sig_within n parts x = do
  first ← sig_atom parts x
  wheres n (ty (n - 1)) (at x) (apart first)

-- a signature expression behind its first lexeme, with so many levels left
abbrev pub sig_behind : ℕ → SigLevel → Lexeme → g (Joined FullSigExp)
sig_behind n parts x = opened n (sig_within n parts x)

-- a signature expression with so many levels left
abbrev pub sig_of : ℕ → SigLevel → g (Joined FullSigExp)
sig_of n parts = on starts_sig (sig_behind n parts) refuse

-- ---- bindings of signatures

-- behind the name, and this mark: the signature
unfoldable pub sig_bind : g (Joined FullSigExp) → Word → Name → g (Joined FullSigBind)
sig_bind sig mark called = do
  token mark
  found ← sig
  pure (joined_part (λ (sig : FullSigExp). roll-FullSigBind (record { name = called; sig = sig })) found)
