-- Patterns without their derived forms. Each is made with the place where it is written, parentheses and all, since
-- what stands around it may begin there.
use Rattle.std.specs.Prelude.{ℕ, suc, List, [], ◌∷◌, Option, Some, None, codes}
use Rattle.std.specs.Option.{option_map}
use Rattle.sml_trees.specs.declared.name.At.{At}
use Rattle.sml_trees.specs.declared.name.Name.{Name}
use Rattle.sml_trees.specs.declared.name.LongName.{LongName}
use Rattle.sml_trees.specs.declared.full_ty.FullTy.{FullTy}
use Rattle.sml_trees.specs.declared.full_pat.Constant.{Constant}
use Rattle.sml_trees.specs.declared.full_pat.Constant.TheVariants as constant
use Rattle.sml_trees.specs.declared.full_pat.FullPat.{FullPat}
use Rattle.sml_trees.specs.declared.full_pat.FullPat.TheOpen.{FullPat-F, FullPatField-F, FullPatItem-F}
use Rattle.sml_trees.specs.declared.full_pat.FullPat.TheFolds.{fold-FullPat, fold-FullPatField, fold-FullPatItem}
use Rattle.sml_trees.specs.declared.full_pat.FullPatField.{FullPatField}
use Rattle.sml_trees.specs.declared.full_pat.FullPatItem.{FullPatItem}
use Rattle.sml_trees.specs.declared.ty.Ty.{Ty}
use Rattle.sml_trees.specs.declared.pat.Pat.{Pat, out-Pat}
use Rattle.sml_trees.specs.declared.pat.Pat.TheOpen.{Pat-F}
use Rattle.sml_trees.specs.declared.pat.Pat.TheVariants as pat
use Rattle.sml_trees.specs.declared.pat.PatField.{PatField, roll-PatField}
use Rattle.bare_forms.specs.declared.placed.PlacedPat.{PlacedPat}
use Rattle.bare_forms.specs.declared.run.Infix.{Infix}
use Rattle.bare_forms.specs.Types.{label_of, bare_ty}
use Rattle.bare_forms.specs.Runs.{Part, run_of}

-- ---- names

-- where a name stands
abbrev pub at_name : Name → At
at_name name = record { line = name.line; col = name.col }

-- a name as a long identifier
abbrev pub long_name : Name → LongName
long_name name = record { parts = name.text ∷ []; line = name.line; col = name.col }

-- a long identifier of one part that no source has there
abbrev pub long_at : At → List ℕ → LongName
long_at at text = record { parts = text ∷ []; line = at.line; col = at.col }

-- ---- nodes

abbrev pub placed : At → Pat → PlacedPat
placed at pat = record { at = at; pat = pat }

abbrev pub constant_pat : Constant → At → Pat
constant_pat (constant.Int n) at = pat.Int n at
constant_pat (constant.Str text) at = pat.Str text at
constant_pat (constant.Char byte) at = pat.Char byte at

-- the fields of a tuple pattern whose first part has this number
abbrev pub pat_fields_from : At → ℕ → List PlacedPat → List PatField
pat_fields_from at number [] = []
pat_fields_from at number (part ∷ parts) =
    roll-PatField (record { label = label_of at number; pat = part.pat }) ∷ pat_fields_from at (suc number) parts

-- The Definition, Appendix A, patterns: `(pat1, .., patn)` is `{1 = pat1, .., n = patn}`
abbrev pub tuple_pat : At → List PlacedPat → Pat
tuple_pat at parts = pat.Record (pat_fields_from at 1 parts) at

abbrev pub pair_pat : At → Pat → Pat → Pat
pair_pat at a b = pat.Record
    (roll-PatField (record { label = label_of at 1; pat = a })
    ∷ roll-PatField (record { label = label_of at 2; pat = b }) ∷ []) at

-- `pat1 :: pat2`, where neither the `::` nor the tuple is written
abbrev pub cons_pat : At → Pat → Pat → Pat
cons_pat at a b = pat.Con (long_at at (codes "::")) (pair_pat at a b) at

-- items of a list in front of a pattern of what follows; each node begins at its item
abbrev pub rest_pat : List PlacedPat → Pat → Pat
rest_pat [] rest = rest
rest_pat (p ∷ ps) rest = cons_pat p.at p.pat (rest_pat ps rest)

-- .. where the first node begins where the list begins
abbrev pub items_pat : At → List PlacedPat → Pat → Pat
items_pat at [] rest = rest
items_pat at (p ∷ ps) rest = cons_pat at p.pat (rest_pat ps rest)

-- The Definition, Appendix A, patterns: `[pat1, .., patn]` is `pat1 :: .. :: patn :: nil`
abbrev pub list_pat : At → List PlacedPat → Pat
list_pat at items = items_pat at items (pat.Long (long_at at (codes "nil")) at)

-- .. of which the node that follows these items begins here
abbrev pub cons_place : At → List PlacedPat → At → At
cons_place at [] item = at
cons_place at (p ∷ ps) item = item

-- ---- runs

-- an infix constructor with its arguments: `pat1 vid pat2` is `op vid (pat1, pat2)`, and begins where `pat1` begins
abbrev pub joined_pat : Name → PlacedPat → PlacedPat → PlacedPat
joined_pat op left right =
    placed left.at (pat.Con (long_name op) (pair_pat left.at left.pat right.pat) left.at)

-- a constructor with its argument; a pattern that is no long identifier takes none, and no source gives it one
abbrev pub con_pat : Pat-F Pat PatField → PlacedPat → PlacedPat → Pat
con_pat (Pat-F.Long long at) con arg = pat.Con long arg.pat con.at
con_pat _ con arg = con.pat

abbrev pub applied_pat : PlacedPat → PlacedPat → PlacedPat
applied_pat con arg = placed con.at (con_pat (out-Pat con.pat) con arg)

-- what stands for an operand that is missing, which no source leaves out
abbrev pub missing_pat : At → PlacedPat
missing_pat at = placed at (pat.Wild at)

-- ---- patterns

-- `vid`, `vid : ty`, `vid as pat` or `vid : ty as pat` of a record
abbrev pub named_pat : Name → Option Ty → Option PlacedPat → Pat
named_pat name ty (Some p) = pat.As name ty p.pat (at_name name)
named_pat name None None = pat.Long (long_name name) (at_name name)
named_pat name (Some ty) None = pat.Typed (pat.Long (long_name name) (at_name name)) ty (at_name name)

-- The Definition, Appendix A, pattern rows: `vid <: ty> <as pat>` is `vid = vid <: ty> <as pat>`
abbrev pub pat_field_level : FullPatField-F PlacedPat PatField (Part PlacedPat) → PatField
pat_field_level (FullPatField-F.Labelled label p) = roll-PatField (record { label = label; pat = p.pat })
pat_field_level (FullPatField-F.Named name ty p) =
    roll-PatField (record { label = name; pat = named_pat name (option_map bare_ty ty) p })

abbrev pub pat_item_level : FullPatItem-F PlacedPat PatField (Part PlacedPat) → Part PlacedPat
pat_item_level (FullPatItem-F.Atom p) = Part.Atom p
pat_item_level (FullPatItem-F.Operator name fixity) = Part.Operator (record { name = name; fixity = fixity })

-- The Definition, Appendix A, patterns: `()` is `{ }`. Parentheses and `op` vanish.
abbrev pub pat_level : FullPat-F PlacedPat PatField (Part PlacedPat) → PlacedPat
pat_level (FullPat-F.Wild at) = placed at (pat.Wild at)
pat_level (FullPat-F.Constant c at) = placed at (constant_pat c at)
pat_level (FullPat-F.Long long at) = placed at (pat.Long long.long at)
pat_level (FullPat-F.Record fields at) = placed at (pat.Record fields at)
pat_level (FullPat-F.Unit at) = placed at (pat.Record [] at)
pat_level (FullPat-F.Tuple parts at) = placed at (tuple_pat at parts)
pat_level (FullPat-F.Paren inner at) = placed at inner.pat
pat_level (FullPat-F.List items at) = placed at (list_pat at items)
pat_level (FullPat-F.Run parts at) = placed at (run_of joined_pat applied_pat (missing_pat at) parts).pat
pat_level (FullPat-F.Typed inner ty at) = placed at (pat.Typed inner.pat (bare_ty ty) at)
pat_level (FullPat-F.As name ty inner at) = placed at (pat.As name.name (option_map bare_ty ty) inner.pat at)

-- the bare pattern of a pattern as it is written, with the place where it is written
abbrev pub bare_pat : FullPat → PlacedPat
bare_pat = fold-FullPat PlacedPat PatField (Part PlacedPat) pat_level pat_field_level pat_item_level

-- .. of a field of a record pattern
abbrev pub bare_pat_field : FullPatField → PatField
bare_pat_field = fold-FullPatField PlacedPat PatField (Part PlacedPat) pat_level pat_field_level pat_item_level

-- .. and of a part of a run
abbrev pub bare_pat_item : FullPatItem → Part PlacedPat
bare_pat_item = fold-FullPatItem PlacedPat PatField (Part PlacedPat) pat_level pat_field_level pat_item_level
