-- The type of a pattern and the variables that it binds. The Definition, rules 32 to 43.
use Rattle.std.specs.Prelude.{ℕ, List, [], ◌∷◌, ◌++◌, Option, Some, None, Bool, true, false, not}
use Rattle.sml_trees.specs.declared.name.At.{At}
use Rattle.sml_trees.specs.declared.name.LongName.{LongName}
use Rattle.semantic_objects.specs.declared.entry.ValueEntry.{ValueEntry}
use Rattle.semantic_objects.specs.declared.symbol.Symbol.{Symbol}
use Rattle.semantic_objects.specs.declared.symbol.Symbol.TheVariants as symbol
use Rattle.semantic_objects.specs.Tables.{Table, entry, with_entry}
use Rattle.semantic_objects.specs.Trees.{Tree}
use Rattle.semantic_objects.specs.Environments.{values}
use Rattle.unification.specs.Types.{Ty}
use Rattle.bare_phrases.specs.Phrases.{TyPhrase, PatPhrase, PatFields}
use Rattle.static_semantics.specs.BasicTypes.{int_ty, string_ty, char_ty, record_ty, arrow_parts, reserved_names, is_one_of}
use Rattle.static_semantics.specs.Inferring.{Progress, Scope, Answer, ◌>>=◌, gives, refuses, refuses_where, name_at, known, unify_at, found_at, is_named, is_con, stands_for_con, new_variable, new_instance, Bound, sized_pat}
use Rattle.static_semantics.specs.TypeInference.{infer_ty, new_label}

abbrev pub pat_at : PatPhrase → At
pat_at (PatPhrase.Wild at) = at
pat_at (PatPhrase.Int value at) = at
pat_at (PatPhrase.Str value at) = at
pat_at (PatPhrase.Char value at) = at
pat_at (PatPhrase.Long long at) = at
pat_at (PatPhrase.Record fields at) = at
pat_at (PatPhrase.Con long arg at) = at
pat_at (PatPhrase.Typed pat ty at) = at
pat_at (PatPhrase.As name ty pat at) = at

-- a variable, after those bound before: 34 for a name that isn't bound, 40 for one that is bound already
abbrev pub bind_variable : Scope → At → List ℕ → Bound → Progress → Answer (Ty × Bound × Progress)
bind_variable sc at name bound st =
    refuses_where (is_one_of reserved_names name) 34 sc at
    >>= λ u. refuses_where (is_named name bound) 40 sc at
    >>= λ v. gives ((new_variable st).0, bound ++ (name, (new_variable st).0) ∷ [], (new_variable st).1)

-- a constructor or an exception, and nothing else: 34
abbrev pub as_con : Scope → At → ValueEntry → Answer (Unit {0})
as_con sc at value = refuses_where (not (is_con value.status)) 34 sc at

-- whether a constructor takes no argument: its type, as it stands in its scheme, is no arrow. It isn't a variable of
-- the table either, which no source gives
abbrev pub is_no_arrow : Symbol → Bool
is_no_arrow symbol.Arrow = false
is_no_arrow (symbol.Record labels) = true
is_no_arrow (symbol.Name name) = true

abbrev pub takes_none : Tree → Bool
takes_none (Tree.Bound i) = true
takes_none (Tree.Free n) = false
takes_none (Tree.Made c ts) = is_no_arrow c

-- the arrow of one that takes an argument, from its scheme's body and an instance
abbrev pub arrow_in : Tree → Ty → Option (Ty × Ty)
arrow_in (Tree.Bound i) ty = None
arrow_in (Tree.Free n) ty = None
arrow_in (Tree.Made c ts) ty = arrow_parts ty

-- 34 where there is none
abbrev pub with_argument : Scope → At → Option (Ty × Ty) → Answer (Ty × Ty)
with_argument sc at None = refuses 34 sc at
with_argument sc at (Some parts) = gives parts

-- a constructor or an exception alone
abbrev pub lone_con : Scope → At → Bound → ValueEntry → Progress → Answer (Ty × Bound × Progress)
lone_con sc at bound value st =
    as_con sc at value
    >>= λ u. refuses_where (not (takes_none value.scheme.body)) 34 sc at
    >>= λ v. gives ((new_instance value.scheme st).0, bound, (new_instance value.scheme st).1)

-- .. with its argument, whose pattern has been inferred
abbrev pub applied_con : ℕ → Scope → At → ValueEntry → Ty × Bound × Progress → Answer (Ty × Bound × Progress)
applied_con depth sc at value arg =
    as_con sc at value
    >>= λ u. with_argument sc at (arrow_in value.scheme.body (new_instance value.scheme arg.2).0)
    >>= λ parts. unify_at depth sc at parts.0 arg.0 (new_instance value.scheme arg.2).1
    >>= λ st. gives (parts.1, arg.1, st)

-- a name alone: a variable where it is one part without a status of a constructor or an exception
abbrev pub known_pat : Scope → LongName → At → Bound → Progress → Answer (Ty × Bound × Progress)
known_pat sc long at bound st =
    known sc long (found_at values long.parts sc.env) >>= λ value. lone_con sc at bound value st

abbrev pub name_by : Scope → At → Bool → List ℕ → LongName → Bound → Progress → Answer (Ty × Bound × Progress)
name_by sc at true name long bound st = known_pat sc long at bound st
name_by sc at false name long bound st = bind_variable sc at name bound st

abbrev pub name_pat : Scope → LongName → At → List (List ℕ) → Bound → Progress → Answer (Ty × Bound × Progress)
name_pat sc long at [] bound st = known_pat sc long at bound st
name_pat sc long at (name ∷ []) bound st =
    name_by sc at (stands_for_con (entry name (values sc.env))) name long bound st
name_pat sc long at (name ∷ next ∷ rest) bound st = known_pat sc long at bound st

-- the type that is written at a variable, if there is one
abbrev pub typed_variable : ℕ → Scope → At → Ty → Option TyPhrase → Progress → Answer Progress
typed_variable depth sc at x None st = gives st
typed_variable depth sc at x (Some ty) st = infer_ty sc ty >>= λ t. unify_at depth sc at x t st

abbrev mutual
  -- with the variables that were bound before in this pattern or in this `val`
  pub infer_pat : ℕ → Scope → PatPhrase → Bound → Progress → Answer (Ty × Bound × Progress)
  infer_pat depth sc (PatPhrase.Wild at) bound st = sized_pat sc at ((new_variable st).0, bound, (new_variable st).1)
  infer_pat depth sc (PatPhrase.Int value at) bound st = sized_pat sc at (int_ty, bound, st)
  infer_pat depth sc (PatPhrase.Str value at) bound st = sized_pat sc at (string_ty, bound, st)
  infer_pat depth sc (PatPhrase.Char value at) bound st = sized_pat sc at (char_ty, bound, st)
  infer_pat depth sc (PatPhrase.Long long at) bound st =
      name_pat sc long at long.parts bound st >>= λ r. sized_pat sc at r
  infer_pat depth sc (PatPhrase.Record fields at) bound st =
      infer_pat_fields depth sc fields [] bound st
      >>= λ r. sized_pat sc at (record_ty r.0, r.1, r.2)
  infer_pat depth sc (PatPhrase.Con long arg at) bound st =
      known sc long (found_at values long.parts sc.env)
      >>= λ value. infer_pat depth sc arg bound st
      >>= λ r. applied_con depth sc at value r
      >>= λ q. sized_pat sc at q
  infer_pat depth sc (PatPhrase.Typed pat ty at) bound st =
      infer_pat depth sc pat bound st
      >>= λ r. infer_ty sc ty
      >>= λ t. unify_at depth sc at r.0 t r.2
      >>= λ u. sized_pat sc at (r.0, r.1, u)
  infer_pat depth sc (PatPhrase.As name ty pat at) bound st =
      refuses_where (stands_for_con (entry name.text (values sc.env))) 34 sc at
      >>= λ v. bind_variable sc (name_at name) name.text bound st
      >>= λ x. typed_variable depth sc at x.0 ty x.2
      >>= λ s. infer_pat depth sc pat x.1 s
      >>= λ r. unify_at depth sc at x.0 r.0 r.2
      >>= λ u. sized_pat sc at (x.0, r.1, u)

  -- fields after others, which are given by label
  pub infer_pat_fields :
      ℕ → Scope → PatFields → Table Ty → Bound → Progress → Answer (Table Ty × Bound × Progress)
  infer_pat_fields depth sc PatFields.EndOfFields made bound st = gives (made, bound, st)
  infer_pat_fields depth sc (PatFields.Field label pat rest) made bound st =
      new_label sc label made
      >>= λ u. infer_pat depth sc pat bound st
      >>= λ r. infer_pat_fields depth sc rest (with_entry label.text r.0 made) r.1 r.2
